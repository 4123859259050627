-- How an append that is made to fail keeps the disk's clause.
use Rattle.std.specs.Prelude.{◌≡◌, ℕ, zero, suc, min, List, [], ◌∷◌, take, Option, option_map, Result, Ok, Err}
use Rattle.std.proofs.Common.{inl, inr, ⊎_elim, refl, sym, ap, subst, ◌∙◌, arith}
use Rattle.lsm_disk.specs.State.{Story, Seen, appended}
use Rattle.lsm_disk.specs.Answers.{Appends, MakesFront, Answers, pushed}
use Rattle.lsm_disk.specs.Refusals.{no_file}
use Rattle.lsm_disk.proofs.Cuts.{take_none}
use Rattle.lsm_disk.specs.declared.calls.DiskError.{DiskError}
use Rattle.lsm_disk.specs.declared.calls.DiskError.TheVariants.{Fault, NotThere, Exists, NoLinks, NotEmpty, Short, NoMemory}
use Rattle.lsm_memdisk.specs.Disk.{failed}

abbrev Answer : Type 0
Answer = Result (Unit {0}) DiskError

take_twice : (k n : ℕ) (xs : List ℕ) → take k (take n xs) ≡ take (min k n) xs
take_twice k n [] = ap (take k) (take_none n) ∙ take_none k ∙ sym (take_none (min k n))
take_twice zero zero (x ∷ xs) = refl
take_twice zero (suc n) (x ∷ xs) = let none : min 0 (suc n) ≡ 0 = omega arith in sym (ap (λ (m : ℕ). take m (x ∷ xs)) none)
take_twice (suc k) zero (x ∷ xs) = let none : min (suc k) 0 ≡ 0 = omega arith in sym (ap (λ (m : ℕ). take m (x ∷ xs)) none)
take_twice (suc k) (suc n) (x ∷ xs) = let more : min (suc k) (suc n) ≡ suc (min k n) = omega arith in ap (λ (l : List ℕ). x ∷ l) (take_twice k n xs) ∙ sym (ap (λ (m : ℕ). take m (x ∷ xs)) more)

-- the same of an append of a front
front_made : (path bytes part : List ℕ) (n : ℕ) (told now : Option Story) → part ≡ take n bytes → MakesFront path part told now → MakesFront path bytes told now
front_made path bytes part n told now is made =
    (min made.0 n, made.1 ∙ ap (λ (b : List ℕ). option_map (pushed (appended path b)) told) (ap (take made.0) is ∙ take_twice made.0 n bytes))

pub appends_failed : (path bytes part : List ℕ) (n : ℕ) (old mid new : Seen) (r : Answer) → part ≡ take n bytes → Appends path part old mid r → Answers (no_file path) old r → new.told ≡ mid.told → Appends path bytes old new (failed r)
appends_failed path bytes part n old mid new (Ok value) is did answer same = inr (answer, (n, same ∙ did ∙ ap (λ (b : List ℕ). option_map (pushed (appended path b)) old.told) is))
appends_failed path bytes part n old mid new (Err Fault) is did answer same = ⊎_elim
    (λ kept. inl (same ∙ kept))
    (λ made. let front = front_made path bytes part n old.told mid.told is made.1 in inr (made.0, (front.0, same ∙ front.1)))
    did
appends_failed path bytes part n old mid new (Err NotThere) is did answer same = inl (same ∙ did)
appends_failed path bytes part n old mid new (Err Exists) is did answer same = inl (same ∙ did)
appends_failed path bytes part n old mid new (Err NoLinks) is did answer same = inl (same ∙ did)
appends_failed path bytes part n old mid new (Err NotEmpty) is did answer same = inl (same ∙ did)
appends_failed path bytes part n old mid new (Err (Short found)) is did answer same = inl (same ∙ did)
appends_failed path bytes part n old mid new (Err NoMemory) is did answer same = same ∙ did

-- the same, where the disk and the answer are known by other names
pub appends_failed_at : (path bytes part : List ℕ) (n : ℕ) (held old mid new : Seen) (r result : Answer) → result ≡ failed r → held ≡ old → part ≡ take n bytes → Appends path part held mid r → Answers (no_file path) held r → new.told ≡ mid.told → Appends path bytes old new result
appends_failed_at path bytes part n held old mid new r result is same front did answer told =
    subst (λ (x : Answer). Appends path bytes old new x) (sym is) (subst (λ (o : Seen). Appends path bytes o new (failed r)) same (appends_failed path bytes part n held mid new r front did answer told))
