-- The next file number comes behind those of all names that are listed.
use Rattle.std.specs.Prelude.{◌≡◌, ℕ, ◌+◌, ◌<◌, ◌≤◌, max, List, [], ◌∷◌, ◌++◌, All, Option, Some, None}
use Rattle.std.proofs.Common.{refl, sym, subst, arith}
use Rattle.std.specs.List.{cons_option}
use Rattle.std.proofs.lemmas.List.Elements.{All-nil, All-cons}
use Rattle.lsm_names.specs.declared.file_names.FileName.{FileName}
use Rattle.lsm_disk.specs.declared.listing.Entry.{Entry}
use Rattle.lsm_folder.specs.Names.{name_of, number_of}
use Rattle.lsm_recover.specs.Listed.{AreBefore, names_in, next_number, number_behind}

at_least : (next : ℕ) (entries : List Entry) → next ≤ next_number next entries
at_least next [] = omega arith
at_least next (entry ∷ entries) =
    let more : max next (number_behind (name_of entry.name)) ≤ next_number (max next (number_behind (name_of entry.name))) entries =
    at_least (max next (number_behind (name_of entry.name))) entries in
    omega (arith, more)

-- a name, if it is one, before others
module _ (later : ℕ) (names : List FileName) (are : AreBefore later names) where
  one_more : (o : Option FileName) → number_behind o ≤ later → AreBefore later (cons_option o names)
  one_more None least = are
  one_more (Some name) least = All-cons (λ (n : FileName). number_of n < later) name names (omega (arith, least)) are

pub names_before : (next : ℕ) (entries : List Entry) → AreBefore (next_number next entries) (names_in entries)
names_before next [] = All-nil (λ (name : FileName). number_of name < next)
names_before next (entry ∷ entries) =
    let now : ℕ = max next (number_behind (name_of entry.name)) in
    let later : ℕ = next_number now entries in
    let least : now ≤ later = at_least now entries in
    one_more later (names_in entries) (names_before now entries) (name_of entry.name) (omega (arith, least))
