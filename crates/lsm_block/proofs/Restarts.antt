-- The restarts of a block: what one more entry adds, and that no entry begins as they do.
use Rattle.std.proofs.Common.{◌≡◌, ℕ, ◌+◌, ◌*◌, ◌/◌, ◌%◌, ◌≤◌, ◌==◌, Bool, true, false, cond, List, [], ◌∷◌, ◌++◌, length, take, drop, refl, sym, ap, ◌∙◌, arith, append_assoc, length-append, zero, suc}
use Rattle.std.specs.Prelude.{map}
use Rattle.std.specs.List.{flat_map, range_with_len}
use Rattle.std.specs.Int.{w32, to_le_bytes}
use Rattle.std.proofs.lemmas.Bool.Decides.{nat_tests}
use Rattle.std.proofs.lemmas.Grind.{flat_map-append}
use Rattle.std.proofs.lemmas.List.{take-append-le, take_at, append-nil}
use Rattle.std.proofs.lemmas.List.FromFn.{map-range_with_len_more, length-map-range_with_len}
use Rattle.lsm_bytes.specs.Varint.{varint}
use Rattle.lsm_bytes.proofs.Spelling.{IsVarint-one, IsVarint-one_spelling}
use Rattle.lsm_rows.proofs.Prefixes.{varint_once}
use Rattle.lsm_block.specs.declared.entries.Entry.{Entry}
use Rattle.lsm_block.specs.BlockText.{shared_len, parts_text, entry_text, entries_text, restarts, restarts_text, block_text}
use Rattle.lsm_block.specs.Blocks.{IsKey}
use Rattle.lsm_block.specs.Parts.{restarts_bytes, restart_bytes}
use Rattle.lsm_block.proofs.EntryParts.{parts_apart}
use Rattle.lsm_block.proofs.EntryLists.{entries-nil}
use Rattle.lsm_block.proofs.Keys.{key_long}

-- where the k-th restart is
abbrev place_of : List Entry → ℕ → ℕ
place_of es k = length (entries_text (take (16 * k) es))

restarts-is : (es : List Entry) → restarts es ≡ map (place_of es) (range_with_len 0 ((length es + 15) / 16))
unfolding restarts
restarts-is es = refl

pub restarts-count : (es : List Entry) → length (restarts es) ≡ (length es + 15) / 16
restarts-count es = ap (length {A = ℕ}) (restarts-is es) ∙ length-map-range_with_len (place_of es) 0 ((length es + 15) / 16)

one_more : (f : ℕ → ℕ) (n : ℕ) → map f (range_with_len 0 (n + 1)) ≡ map f (range_with_len 0 n) ++ f n ∷ []
one_more f n = map-range_with_len_more f 0 n n (omega arith)

-- one more entry moves no restart before it
same_places : (es : List Entry) (e : Entry) (n : ℕ) → 16 * n ≤ length es + 15 → map (place_of (es ++ e ∷ [])) (range_with_len 0 n) ≡ map (place_of es) (range_with_len 0 n)
same_places es e zero few = refl
same_places es e (suc n) few =
    let one : suc n ≡ n + 1 = omega arith in
    let rest = same_places es e n (omega arith) in
    let place : place_of (es ++ e ∷ []) n ≡ place_of es n = ap (λ l. length (entries_text l)) (take-append-le (16 * n) es (e ∷ []) (omega arith)) in
    ap (λ k. map (place_of (es ++ e ∷ [])) (range_with_len 0 k)) one ∙ one_more (place_of (es ++ e ∷ [])) n ∙ (λ i. rest i ++ place i ∷ []) ∙ sym (one_more (place_of es) n)
    ∙ ap (λ k. map (place_of es) (range_with_len 0 k)) (sym one)

push_restart : (es : List Entry) (e : Entry) → length es % 16 ≡ 0 → restarts (es ++ e ∷ []) ≡ restarts es ++ length (entries_text es) ∷ []
push_restart es e is =
    let n : ℕ = (length es + 15) / 16 in
    let count : (length (es ++ e ∷ []) + 15) / 16 ≡ n + 1 = omega (arith, length-append es (e ∷ [])) in
    let last : 16 * n ≡ length es = omega arith in
    let place : place_of (es ++ e ∷ []) n ≡ length (entries_text es) = ap (λ l. length (entries_text l)) (take_at es (e ∷ []) (16 * n) (sym last)) in
    restarts-is (es ++ e ∷ []) ∙ ap (λ k. map (place_of (es ++ e ∷ [])) (range_with_len 0 k)) count ∙ one_more (place_of (es ++ e ∷ [])) n
    ∙ (λ i. same_places es e n (omega arith) i ++ place i ∷ []) ∙ ap (λ l. l ++ length (entries_text es) ∷ []) (sym (restarts-is es))

push_other : (es : List Entry) (e : Entry) → (length es % 16 ≡ 0 → ⊥) → restarts (es ++ e ∷ []) ≡ restarts es
push_other es e is =
    let n : ℕ = (length es + 15) / 16 in
    let count : (length (es ++ e ∷ []) + 15) / 16 ≡ n = omega (arith, length-append es (e ∷ []), is) in
    restarts-is (es ++ e ∷ []) ∙ ap (λ k. map (place_of (es ++ e ∷ [])) (range_with_len 0 k)) count ∙ same_places es e n (omega arith) ∙ sym (restarts-is es)

restarts_bytes-is : (es : List Entry) → restarts_bytes es ≡ flat_map (to_le_bytes w32) (restarts es)
unfolding restarts_bytes
restarts_bytes-is es = refl

restart_bytes-is : (number place : ℕ) → restart_bytes number place ≡ cond (number % 16 == 0) (to_le_bytes w32 place) []
unfolding restart_bytes
restart_bytes-is number place = refl

-- what one more entry adds
pub restarts_bytes-push : (es : List Entry) (e : Entry) → restarts_bytes (es ++ e ∷ []) ≡ restarts_bytes es ++ restart_bytes (length es) (length (entries_text es))
restarts_bytes-push es e = by_test (length es % 16 == 0) refl
  where
    by_test : (t : Bool) → (length es % 16 == 0) ≡ t → restarts_bytes (es ++ e ∷ []) ≡ restarts_bytes es ++ restart_bytes (length es) (length (entries_text es))
    by_test true is =
        let one : restart_bytes (length es) (length (entries_text es)) ≡ to_le_bytes w32 (length (entries_text es)) =
        restart_bytes-is (length es) (length (entries_text es)) ∙ ap (λ t. cond t (to_le_bytes w32 (length (entries_text es))) []) is in
        restarts_bytes-is (es ++ e ∷ []) ∙ ap (flat_map (to_le_bytes w32)) (push_restart es e (grind (arith, nat_tests)))
        ∙ flat_map-append (to_le_bytes w32) (restarts es) (length (entries_text es) ∷ []) ∙ (λ i. sym (restarts_bytes-is es) i ++ append-nil (to_le_bytes w32 (length (entries_text es))) i)
        ∙ ap (λ s. restarts_bytes es ++ s) (sym one)
    by_test false is =
        let none : restart_bytes (length es) (length (entries_text es)) ≡ [] =
        restart_bytes-is (length es) (length (entries_text es)) ∙ ap (λ t. cond t (to_le_bytes w32 (length (entries_text es))) []) is in
        restarts_bytes-is (es ++ e ∷ []) ∙ ap (flat_map (to_le_bytes w32)) (push_other es e (λ (multiple : length es % 16 ≡ 0). absurd (clash multiple is)))
        ∙ sym (restarts_bytes-is es) ∙ sym (append-nil (restarts_bytes es)) ∙ ap (λ s. restarts_bytes es ++ s) (sym none)
      where
        clash : length es % 16 ≡ 0 → (length es % 16 == 0) ≡ false → ⊥
        clash multiple is = grind (arith, nat_tests)

pub restarts_bytes-nil : restarts_bytes [] ≡ []
restarts_bytes-nil = restarts_bytes-is [] ∙ ap (flat_map (to_le_bytes w32)) (restarts-is [])

pub restarts_text-is : (es : List Entry) → restarts_text es ≡ restarts_bytes es ++ to_le_bytes w32 ((length es + 15) / 16)
unfolding restarts_text restarts_bytes
restarts_text-is es = ap (λ n. flat_map (to_le_bytes w32) (restarts es) ++ to_le_bytes w32 n) (restarts-count es)

pub block_text-is : (es : List Entry) → block_text es ≡ entries_text es ++ restarts_text es
unfolding block_text
block_text-is es = refl

-- how long they are
numbers-len : (ns : List ℕ) → length (flat_map (to_le_bytes w32) ns) ≡ 4 * length ns
numbers-len [] = refl
numbers-len (n ∷ ns) = length-append (to_le_bytes w32 n) (flat_map (to_le_bytes w32) ns) ∙ omega (arith, numbers-len ns)

pub restarts_text-len : (es : List Entry) → length (restarts_text es) ≡ 4 * ((length es + 15) / 16) + 4
restarts_text-len es =
    ap (length {A = ℕ}) (restarts_text-is es) ∙ length-append (restarts_bytes es) (to_le_bytes w32 ((length es + 15) / 16))
    ∙ omega (arith, ap (length {A = ℕ}) (restarts_bytes-is es), numbers-len (restarts es), restarts-count es)

-- the first restart is 0, so they begin with zeros
places_begin : (f : ℕ → ℕ) (n : ℕ) → 1 ≤ n → (ns : List ℕ) × (map f (range_with_len 0 n) ≡ f 0 ∷ ns)
places_begin f zero some = absurd (omega arith)
places_begin f (suc n) some = (map f (range_with_len 1 n), refl)

first_place : (es : List Entry) → place_of es 0 ≡ 0
first_place es = ap (length {A = ℕ}) (entries-nil 0 [])

pub restarts_begin : (es : List Entry) → 1 ≤ length es → (more : List ℕ) × (restarts_text es ≡ 0 ∷ 0 ∷ more)
restarts_begin es some =
    let p = places_begin (place_of es) ((length es + 15) / 16) (omega arith) in
    let tail : List ℕ = to_le_bytes w32 ((length es + 15) / 16) in (
      0 ∷ 0 ∷ (flat_map (to_le_bytes w32) p.0 ++ tail),
      restarts_text-is es
          ∙ ap (λ s. s ++ tail) (restarts_bytes-is es ∙ ap (flat_map (to_le_bytes w32)) (restarts-is es ∙ p.1 ∙ ap (λ n. n ∷ p.0) (first_place es))),
    )

zero_spelled : 0 ∷ [] ≡ varint 0
zero_spelled = IsVarint-one_spelling (0 ∷ []) 0 (IsVarint-one 0 (omega arith))

parts_begin : (shared : ℕ) (rest value y more : List ℕ) → parts_text shared rest value ++ y ≡ 0 ∷ 0 ∷ more → (shared ≡ 0) × (length rest ≡ 0)
parts_begin shared rest value y more same =
    let behind : List ℕ = varint (length value) ++ (rest ++ (value ++ y)) in
    let apart : varint shared ++ (varint (length rest) ++ behind) ≡ varint 0 ++ (varint 0 ++ more) =
    sym (parts_apart shared rest value y ∙ append_assoc (varint shared ++ varint (length rest)) (varint (length value)) (rest ++ (value ++ y)) ∙ append_assoc (varint shared) (varint (length rest)) behind)
    ∙ same ∙ (λ i. zero_spelled i ++ (zero_spelled i ++ more)) in
    let one = varint_once shared 0 (varint (length rest) ++ behind) (varint 0 ++ more) apart in
    let two = varint_once (length rest) 0 behind more one.1 in
    (one.0, two.0)

-- no entry begins as they do
pub no_entry : (number : ℕ) (before : List ℕ) (e : Entry) (y more : List ℕ) → IsKey e.key → entry_text number before e ++ y ≡ 0 ∷ 0 ∷ more → ⊥
unfolding entry_text
no_entry number before e y more key same =
    let s : ℕ = shared_len number before e.key in
    let z = parts_begin s (drop s e.key) e.value y more same in
    let rest : drop s e.key ≡ e.key = ap (λ k. drop k e.key) z.0 in
    absurd (omega (arith, key_long e.key key, z.1, ap (length {A = ℕ}) rest))

pub block_text-len : (es : List Entry) → length (block_text es) ≡ length (entries_text es) + (4 * ((length es + 15) / 16) + 4)
block_text-len es = ap (length {A = ℕ}) (block_text-is es) ∙ length-append (entries_text es) (restarts_text es) ∙ omega (arith, restarts_text-len es)
