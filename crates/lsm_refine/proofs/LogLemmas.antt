-- Logs by their numbers, and what a folder has of them.
use Rattle.std.specs.Prelude.{◌≡◌, ◌≢◌, ℕ, zero, suc, ◌≤◌, Bool, true, false, cond, List, [], ◌∷◌, ◌++◌, map, take, length, T, All, Option, Some, None}
use Rattle.std.proofs.Common.{refl, sym, ap, subst, ◌∙◌, arith}
use Rattle.std.proofs.lemmas.Bool.Decides.{nat_tests}
use Rattle.std.proofs.lemmas.List.{length-take}
use Rattle.std.proofs.lemmas.List.Elements.{All-nil, All-cons, All-head, All-tail}
use Rattle.std.specs.List.{AllByRecursion}
use Rattle.std.specs.List.Sorted.{IsStrictlySortedBy}
use Rattle.std.specs.Ordering.{nat_cmp, eq_by_cmp, is_lt}
use Rattle.std.specs.declared.cmp.Ordering.{Ordering}
use Rattle.std.specs.declared.cmp.Ordering.TheVariants.{Less}
use Rattle.std.specs.FinMap as finmap
use Rattle.std.specs.FinMap.Entries.{below_all, is_sorted}
use Rattle.lsm_rows.specs.declared.operations.Op.{Op}
use Rattle.lsm_rows.specs.Replay.{sequence_after}
use Rattle.lsm_disk.specs.State.{State}
use Rattle.lsm_wal.specs.Batches.{IsLogged, in_sequence, wal_text}
use Rattle.lsm_wal.proofs.Fronts.{whole_reads}
use Rattle.lsm_folder.proofs.LiveLemmas.{equal_number}
use Rattle.lsm_folder.specs.Parts.{may_end, IsLog, AreLogs}
use Rattle.lsm_refine.specs.Parts.{LogPart, numbers_of, batches_in}
use Rattle.lsm_refine.specs.Sane.{AreSynced}
use Rattle.lsm_refine.specs.Fronts.{texts_from}
use Rattle.lsm_rows.proofs.Replaying.{sequence_both}
use Rattle.lsm_rows.proofs.PairEntries.{both}

abbrev pub numbers_in : List (ℕ × List ℕ) → List ℕ
numbers_in es = map (λ (e : ℕ × List ℕ). e.0) es

-- ---- their order

below_by : (q : ℕ) (es : List (ℕ × List ℕ)) → AllByRecursion (λ (n : ℕ). nat_cmp q n ≡ Less) (numbers_in es) → T (below_all nat_cmp q es)
below_by q [] low = tt
below_by q (e ∷ es) low = both (is_lt (nat_cmp q e.0)) (below_all nat_cmp q es)
    (subst (λ (o : Ordering). T (is_lt o)) (sym low.0) tt) (below_by q es low.1)

pub sorted_by : (es : List (ℕ × List ℕ)) → IsStrictlySortedBy nat_cmp (numbers_in es) → T (is_sorted nat_cmp es)
unfolding IsStrictlySortedBy
sorted_by [] sorted = tt
sorted_by (e ∷ es) sorted = both (below_all nat_cmp e.0 es) (is_sorted nat_cmp es) (below_by e.0 es sorted.0) (sorted_by es sorted.1)

-- ---- finding one

itself : (n : ℕ) → eq_by_cmp nat_cmp n n ≡ true
itself n = grind (arith, nat_tests)

-- what holds of each entry holds of the one that is found
pub found_has : (P : ℕ → List ℕ → Type 0) (es : List (ℕ × List ℕ)) (number : ℕ) (bytes : List ℕ)
    → All (λ (e : ℕ × List ℕ). P e.0 e.1) es → finmap.find nat_cmp number es ≡ Some bytes → P number bytes
found_has P [] number bytes each is = cc
found_has P (e ∷ es) number bytes each is =
    elim (eq_by_cmp nat_cmp number e.0) as (λ b. eq_by_cmp nat_cmp number e.0 ≡ b
    → cond b (Some e.1) (finmap.find nat_cmp number es) ≡ Some bytes → P number bytes) [
      | true ↦ λ same h.
          let found : e.1 ≡ bytes = some_once e.1 bytes h in
          subst (λ (n : ℕ). P n bytes) (sym (equal_number number e.0 same))
          (subst (P e.0) found (All-head (λ (x : ℕ × List ℕ). P x.0 x.1) e es each))
      | false ↦ λ other h. found_has P es number bytes (All-tail (λ (x : ℕ × List ℕ). P x.0 x.1) e es each) h
    ] refl is
  where
    some_once : (x y : List ℕ) → Some x ≡ Some y → x ≡ y
    some_once x y e = cc

-- what isn't found has no entry
pub not_among : (es : List (ℕ × List ℕ)) (number : ℕ) → finmap.find nat_cmp number es ≡ None → All (λ (n : ℕ). n ≢ number) (numbers_in es)
not_among [] number is = All-nil (λ (n : ℕ). n ≢ number)
not_among (e ∷ es) number is =
    elim (eq_by_cmp nat_cmp number e.0) as (λ b. eq_by_cmp nat_cmp number e.0 ≡ b
    → cond b (Some e.1) (finmap.find nat_cmp number es) ≡ None → All (λ (n : ℕ). n ≢ number) (numbers_in (e ∷ es))) [
      | true ↦ λ same h. cc
      | false ↦ λ other h. All-cons (λ (n : ℕ). n ≢ number) e.0 (numbers_in es)
          (λ same. let clash : true ≡ false = sym (itself number) ∙ ap (λ (n : ℕ). eq_by_cmp nat_cmp number n) (sym same) ∙ other in cc)
          (not_among es number h)
    ] refl is

-- ---- the texts of logs

pub numbers_are : (first : ℕ) (older : List LogPart) (last : LogPart) (text : List ℕ)
    → numbers_in (texts_from first older ++ (last.number, text) ∷ []) ≡ numbers_of (older ++ last ∷ [])
numbers_are first [] last text = refl
numbers_are first (log ∷ older) last text = ap (λ (l : List ℕ). log.number ∷ l)
    (numbers_are (sequence_after first log.batches) older last text)

whole_log : (is_last : Bool) (first : ℕ) (batches : List (List Op)) → All IsLogged (in_sequence first batches)
    → IsLog is_last first (wal_text (in_sequence first batches)) batches
whole_log is_last first batches each = record { torn = None; reading = whole_reads first batches each; ends = refl }

pub last_may : (torn : Option ℕ) → may_end true torn ≡ true
last_may None = refl
last_may (Some place) = refl

-- they read to their batches, the last one to these
pub logs_are : (d : State) (dir : List ℕ) (first : ℕ) (older : List LogPart) (number : ℕ) (text : List ℕ)
    (read : List (List Op)) → AreSynced d dir first older → IsLog true (sequence_after first (batches_in older)) text read
    → AreLogs first (texts_from first older ++ (number, text) ∷ []) (map (λ (log : LogPart). log.batches) older ++ read ∷ [])
unfolding AreLogs
logs_are d dir first [] number text read synced last = (last, tt)
logs_are d dir first (log ∷ older) number text read synced last =
    let behind = logs_are d dir (sequence_after first log.batches) older number text read synced.1
    (subst (λ (n : ℕ). IsLog true n text read) (sym (sequence_both first log.batches (batches_in older))) last) in
    (whole_log _ first log.batches synced.0.each, behind)

-- ---- fronts

pub take_taken : {A : Type 0} (n : ℕ) (xs : List A) → take (length (take n xs)) xs ≡ take n xs
take_taken zero xs = refl
take_taken (suc n) [] = refl
take_taken (suc n) (x ∷ xs) = ap (λ l. x ∷ l) (take_taken n xs)

pub taken_enough : {A : Type 0} (least n : ℕ) (xs : List A) → least ≤ n → least ≤ length xs → least ≤ length (take n xs)
taken_enough least n xs first second = omega (arith, first, second, length-take n xs)
