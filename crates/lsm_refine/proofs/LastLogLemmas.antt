-- The last log's number among those of the live logs.
use Rattle.std.specs.Prelude.{◌≡◌, ◌≢◌, ℕ, ◌≤◌, ◌<◌, List, [], ◌∷◌, ◌++◌, All}
use Rattle.std.specs.List.{AllByRecursion}
use Rattle.std.specs.List.Sorted.{IsStrictlySortedBy}
use Rattle.std.specs.Ordering.{nat_cmp}
use Rattle.std.specs.declared.cmp.Ordering.TheVariants.{Less}
use Rattle.std.proofs.Common.{refl, ap, subst, ◌∙◌, arith}
use Rattle.std.proofs.lemmas.Bool.Decides.{nat_tests}
use Rattle.std.proofs.lemmas.List.Elements.{All-nil, All-cons, All-head, All-tail}
use Rattle.lsm_names.specs.FileNames.{IsFileName}
use Rattle.lsm_names.specs.declared.file_names.FileName.TheVariants.{Log}
use Rattle.lsm_disk.specs.State.{State}
use Rattle.lsm_refine.specs.Kept.{Kept}
use Rattle.lsm_refine.specs.Parts.{LogPart, Parts, numbers_of}
use Rattle.lsm_refine.specs.Sane.{IsOlder}
use Rattle.lsm_refine.specs.Beside.{HasOlderLogs}

abbrev IsLive : Kept → ℕ → Type 0
IsLive kept number = (kept.log ≤ number) × IsFileName (Log number)

less_not : (a b : ℕ) → nat_cmp a b ≡ Less → a ≢ b
less_not a b less same = let is : a < b = grind (arith, nat_tests) in omega (arith, is, same)

-- each of these comes before the last one
before_last : (front : List LogPart) (last : ℕ) → IsStrictlySortedBy nat_cmp (numbers_of front ++ last ∷ [])
    → All (λ (log : LogPart). log.number ≢ last) front
unfolding IsStrictlySortedBy
before_last [] last sorted = All-nil (λ (log : LogPart). log.number ≢ last)
before_last (log ∷ front) last sorted =
    All-cons (λ (l : LogPart). l.number ≢ last) log front (less_not log.number last (at_end (numbers_of front) sorted.0))
    (before_last front last sorted.1)
  where
    at_end : (numbers : List ℕ) → AllByRecursion (λ (n : ℕ). nat_cmp log.number n ≡ Less) (numbers ++ last ∷ [])
        → nat_cmp log.number last ≡ Less
    at_end [] each = each.0
    at_end (n ∷ numbers) each = at_end numbers each.1

pub numbers_push : (front : List LogPart) (last : LogPart) → numbers_of (front ++ last ∷ []) ≡ numbers_of front ++ last.number ∷ []
numbers_push [] last = refl
numbers_push (log ∷ front) last = ap (λ (l : List ℕ). log.number ∷ l) (numbers_push front last)

older_by : (kept : Kept) (last : ℕ) (front : List LogPart) → All (IsLive kept) (numbers_of front ++ last ∷ [])
    → All (λ (log : LogPart). log.number ≢ last) front → All (IsOlder kept last) front
older_by kept last [] live others = All-nil (IsOlder kept last)
older_by kept last (log ∷ front) live others =
    let here = All-head (IsLive kept) log.number (numbers_of front ++ last ∷ []) live in
    All-cons (IsOlder kept last) log front (here.1, here.0, All-head (λ (l : LogPart). l.number ≢ last) log front others)
    (older_by kept last front (All-tail (IsLive kept) log.number (numbers_of front ++ last ∷ []) live)
    (All-tail (λ (l : LogPart). l.number ≢ last) log front others))

last_live : (kept : Kept) (front : List ℕ) (last : ℕ) → All (IsLive kept) (front ++ last ∷ []) → IsLive kept last
last_live kept [] last live = All-head (IsLive kept) last [] live
last_live kept (n ∷ front) last live = last_live kept front last (All-tail (IsLive kept) n (front ++ last ∷ []) live)

module _ (d : State) (dir : List ℕ) (kept : Kept) (parts : Parts) (has : HasOlderLogs d dir kept parts) where
  numbers_are : kept.logs ≡ numbers_of parts.older ++ parts.last.number ∷ []
  numbers_are = has.numbers ∙ numbers_push parts.older parts.last

  live_are : All (IsLive kept) (numbers_of parts.older ++ parts.last.number ∷ [])
  live_are = subst (All (IsLive kept)) numbers_are has.live

  -- the last log is a live one
  pub last_is : IsLive kept parts.last.number
  last_is = last_live kept (numbers_of parts.older) parts.last.number live_are

  -- and the older ones are others
  pub older_are : All (IsOlder kept parts.last.number) parts.older
  older_are = older_by kept parts.last.number parts.older live_are
      (before_last parts.older parts.last.number (subst (IsStrictlySortedBy nat_cmp) numbers_are has.ascend))
