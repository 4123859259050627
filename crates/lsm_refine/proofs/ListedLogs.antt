-- The logs that a cut lists: those that aren't empty read to the same batches.
use Rattle.std.specs.Prelude.{◌≡◌, ℕ, ◌+◌, ◌-◌, ◌≤◌, Bool, true, false, List, [], ◌∷◌, ◌++◌, map, take, drop, length, sum_by, T, All, Option, Some, None}
use Rattle.std.proofs.Common.{refl, sym, ap, subst, ◌∙◌, arith}
use Rattle.std.proofs.lemmas.Bool.Decides.{nat_tests}
use Rattle.std.proofs.lemmas.List.{append-nil, map-append}
use Rattle.std.proofs.lemmas.List.Elements.{All-nil, All-cons, All-head, All-tail}
use Rattle.std.specs.Ordering.{nat_cmp, is_lt}
use Rattle.std.specs.FinMap.Entries.{below_all, is_sorted}
use Rattle.lsm_rows.specs.declared.operations.Op.{Op}
use Rattle.lsm_rows.specs.Replay.{sequence_after}
use Rattle.lsm_rows.proofs.PairEntries.{both}
use Rattle.lsm_wal.specs.Batches.{IsLogged, in_sequence, wal_text}
use Rattle.lsm_wal.proofs.Fronts.{whole_reads}
use Rattle.lsm_wal.proofs.Once.{read_once}
use Rattle.lsm_folder.specs.Logs.{is_empty}
use Rattle.lsm_folder.specs.Parts.{may_end, IsLog, AreLogs, all_of}
use Rattle.lsm_folder.proofs.LiveLemmas.{all_below}
use Rattle.lsm_model.specs.declared.states.PinnedFile.{PinnedFile}
use Rattle.lsm_model.specs.declared.cuts.CutFile.{CutFile}
use Rattle.lsm_model.specs.Pins.{listed, held}
use Rattle.lsm_names.specs.declared.file_names.FileName.{FileName}
use Rattle.lsm_names.specs.declared.file_names.FileName.TheVariants.{Log}
use Rattle.lsm_refine.specs.Parts.{LogPart, numbers_of}
use Rattle.lsm_refine.specs.Fronts.{texts_from}
use Rattle.lsm_refine.specs.Listing.{logs_listed}
use Prim.Native.Nat.{zero, suc}

-- ---- the texts that aren't empty

abbrev pub held_text : ℕ → List ℕ → List (ℕ × List ℕ)
held_text number [] = []
held_text number (b ∷ bytes) = (number, b ∷ bytes) ∷ []

abbrev pub held_texts : List (ℕ × List ℕ) → List (ℕ × List ℕ)
held_texts [] = []
held_texts (e ∷ es) = held_text e.0 e.1 ++ held_texts es

-- the batches of such texts
abbrev pub held_batch : List ℕ → List (List Op) → List (List (List Op))
held_batch [] batches = []
held_batch (b ∷ bytes) batches = batches ∷ []

abbrev pub held_batches : List (ℕ × List ℕ) → List (List (List Op)) → List (List (List Op))
held_batches [] more = []
held_batches (e ∷ es) [] = []
held_batches (e ∷ es) (batches ∷ more) = held_batch e.1 batches ++ held_batches es more

-- what holds of each text holds of those
pub all_held : (P : ℕ × List ℕ → Type 0) (es : List (ℕ × List ℕ)) → All P es → All P (held_texts es)
all_held P [] each = All-nil P
all_held P (e ∷ es) each = by_text e.0 e.1 (All-head P e es each) (all_held P es (All-tail P e es each))
  where
    by_text : (number : ℕ) (text : List ℕ) → P (number, text) → All P (held_texts es) → All P (held_text number text ++ held_texts es)
    by_text number [] here rest = rest
    by_text number (b ∷ bytes) here rest = All-cons P (number, b ∷ bytes) (held_texts es) here rest

-- ---- their order

below_held : (q : ℕ) (es : List (ℕ × List ℕ)) → T (below_all nat_cmp q es) → T (below_all nat_cmp q (held_texts es))
below_held q [] low = tt
below_held q (e ∷ es) low =
    let parts = all_below (is_lt (nat_cmp q e.0)) (below_all nat_cmp q es) low in
    by_text e.0 e.1 parts.0 (below_held q es parts.1)
  where
    by_text : (number : ℕ) (text : List ℕ) → T (is_lt (nat_cmp q number)) → T (below_all nat_cmp q (held_texts es))
        → T (below_all nat_cmp q (held_text number text ++ held_texts es))
    by_text number [] here rest = rest
    by_text number (b ∷ bytes) here rest = both (is_lt (nat_cmp q number)) (below_all nat_cmp q (held_texts es)) here rest

pub sorted_held : (es : List (ℕ × List ℕ)) → T (is_sorted nat_cmp es) → T (is_sorted nat_cmp (held_texts es))
sorted_held [] sorted = tt
sorted_held (e ∷ es) sorted =
    let parts = all_below (below_all nat_cmp e.0 es) (is_sorted nat_cmp es) sorted in
    by_text e.0 e.1 (below_held e.0 es parts.0) (sorted_held es parts.1)
  where
    by_text : (number : ℕ) (text : List ℕ) → T (below_all nat_cmp number (held_texts es))
        → T (is_sorted nat_cmp (held_texts es)) → T (is_sorted nat_cmp (held_text number text ++ held_texts es))
    by_text number [] low rest = rest
    by_text number (b ∷ bytes) low rest = both (below_all nat_cmp number (held_texts es)) (is_sorted nat_cmp (held_texts es)) low rest

-- ---- what they read to

-- an empty log has no batches
none_in_empty : (is_last : Bool) (expected : ℕ) (batches : List (List Op)) → IsLog is_last expected [] batches → batches ≡ []
none_in_empty is_last expected batches log = (read_once expected [] batches [] _ _ log.reading
    (whole_reads expected [] (All-nil IsLogged))).0

-- a log that ends with a record may be the last one, and any other
may_be : (is_last : Bool) (torn : Option ℕ) → may_end false torn ≡ true → may_end is_last torn ≡ true
may_be is_last None ends = refl
may_be is_last (Some place) ends = absurd (cc)

as_last : (is_last : Bool) (expected : ℕ) (text : List ℕ) (batches : List (List Op)) → IsLog false expected text batches
    → IsLog is_last expected text batches
as_last is_last expected text batches log = record { torn = log.torn; reading = log.reading; ends = may_be is_last log.torn log.ends }

not_empty : (e : ℕ × List ℕ) (es : List (ℕ × List ℕ)) → is_empty (e ∷ es) ≡ false
not_empty e es = grind (arith, nat_tests)

fewer_behind : (es : List (ℕ × List ℕ)) (expected : ℕ) (text : List ℕ) (batches : List (List Op))
    → IsLog (is_empty es) expected text batches → IsLog (is_empty (held_texts es)) expected text batches
fewer_behind [] expected text batches log = log
fewer_behind (e ∷ es) expected text batches log =
    as_last (is_empty (held_texts (e ∷ es))) expected text batches
    (subst (λ (b : Bool). IsLog b expected text batches) (not_empty e es) log)

pub held_read : (expected : ℕ) (es : List (ℕ × List ℕ)) (all : List (List (List Op))) → AreLogs expected es all
    → AreLogs expected (held_texts es) (held_batches es all)
unfolding AreLogs
held_read expected [] [] are = tt
held_read expected [] (batches ∷ more) are = absurd are
held_read expected (e ∷ es) [] are = absurd are
held_read expected (e ∷ es) (batches ∷ more) are = by_text e.0 e.1 are.0 (held_read (sequence_after expected batches) es more are.1)
  where
    by_text : (number : ℕ) (text : List ℕ) → IsLog (is_empty es) expected text batches
        → AreLogs (sequence_after expected batches) (held_texts es) (held_batches es more)
        → AreLogs expected (held_text number text ++ held_texts es) (held_batch text batches ++ held_batches es more)
    by_text number [] here rest =
        subst (λ (b : List (List Op)). AreLogs (sequence_after expected b) (held_texts es) (held_batches es more))
        (none_in_empty (is_empty es) expected batches here) rest
    by_text number (b ∷ bytes) here rest = (fewer_behind es expected (b ∷ bytes) batches here, rest)

-- they have all batches
pub held_all : (expected : ℕ) (es : List (ℕ × List ℕ)) (all : List (List (List Op))) → AreLogs expected es all
    → all_of (held_batches es all) ≡ all_of all
unfolding AreLogs
held_all expected [] [] are = refl
held_all expected [] (batches ∷ more) are = absurd are
held_all expected (e ∷ es) [] are = absurd are
held_all expected (e ∷ es) (batches ∷ more) are = by_text e.1 are.0 (held_all (sequence_after expected batches) es more are.1)
  where
    by_text : (text : List ℕ) → IsLog (is_empty es) expected text batches → all_of (held_batches es more) ≡ all_of more
        → all_of (held_batch text batches ++ held_batches es more) ≡ batches ++ all_of more
    by_text [] here rest = rest ∙ ap (λ (b : List (List Op)). b ++ all_of more) (sym (none_in_empty (is_empty es) expected batches here))
    by_text (b ∷ bytes) here rest = ap (λ (l : List (List Op)). batches ++ l) rest

-- ---- as a cut lists them

abbrev pub log_pin : ℕ × List ℕ → PinnedFile
log_pin e = record { name = Log e.0; bytes = e.1 }

abbrev Held : Type 0
Held = List (FileName × ℕ)

none_before : (n : ℕ) → 0 + n ≡ n
none_before n = omega arith

one_listed : (number : ℕ) (text : List ℕ) → map listed (logs_listed (length text) (number ∷ []))
    ≡ map held (map log_pin (held_text number text))
one_listed number [] = refl
one_listed number (b ∷ bytes) = refl

none_listed : (len : ℕ) → logs_listed len [] ≡ []
none_listed zero = refl
none_listed (suc len) = refl

-- Of two logs at most each one is listed with its text's length, where it isn't empty.
pub logs_alike : (first : ℕ) (last : LogPart) (text : List ℕ) (older : List LogPart) (older_len log_len : ℕ)
    → length (numbers_of (older ++ last ∷ [])) ≤ 2
    → older_len ≡ sum_by (λ (t : ℕ × List ℕ). length t.1) (texts_from first older) → log_len ≡ length text
    → map listed (logs_listed older_len (take (length (numbers_of (older ++ last ∷ [])) - 1) (numbers_of (older ++ last ∷ [])))
    ++ logs_listed log_len (drop (length (numbers_of (older ++ last ∷ [])) - 1) (numbers_of (older ++ last ∷ []))))
    ≡ map held (map log_pin (held_texts (texts_from first older ++ (last.number, text) ∷ [])))
logs_alike first last text [] older_len log_len few older_is log_is =
    ap (λ (l : List CutFile). map listed (l ++ logs_listed log_len (last.number ∷ []))) (none_listed older_len)
    ∙ ap (λ (n : ℕ). map listed (logs_listed n (last.number ∷ []))) log_is
    ∙ one_listed last.number text
    ∙ ap (λ (l : List (ℕ × List ℕ)). map held (map log_pin l)) (sym (append-nil (held_text last.number text)))
logs_alike first last text (log ∷ []) older_len log_len few older_is log_is =
    let old : List ℕ = wal_text (in_sequence first log.batches) in
    map-append listed (logs_listed older_len (log.number ∷ [])) (logs_listed log_len (last.number ∷ []))
    ∙ ap (λ (n : ℕ). map listed (logs_listed n (log.number ∷ [])) ++ map listed (logs_listed log_len (last.number ∷ [])))
    (older_is ∙ none_before (length old))
    ∙ ap (λ (l : Held). l ++ map listed (logs_listed log_len (last.number ∷ []))) (one_listed log.number old)
    ∙ ap (λ (n : ℕ). map held (map log_pin (held_text log.number old)) ++ map listed (logs_listed n (last.number ∷ []))) log_is
    ∙ ap (λ (l : Held). map held (map log_pin (held_text log.number old)) ++ l) (one_listed last.number text)
    ∙ sym (map-append held (map log_pin (held_text log.number old)) (map log_pin (held_text last.number text)))
    ∙ ap (map held) (sym (map-append log_pin (held_text log.number old) (held_text last.number text)))
    ∙ ap (λ (l : List (ℕ × List ℕ)). map held (map log_pin (held_text log.number old ++ l))) (sym (append-nil (held_text last.number text)))
logs_alike first last text (log ∷ other ∷ older) older_len log_len few older_is log_is = absurd (too_many older few)
  where
    too_many : (more : List LogPart) → length (numbers_of (log ∷ other ∷ (more ++ last ∷ []))) ≤ 2 → ⊥
    too_many [] few = absurd (omega (arith, few))
    too_many (log ∷ more) few = absurd (omega (arith, few))
