-- On a disk that has one folder of whole files, what a store keeps of its files is so.
use Rattle.std.specs.Prelude.{◌≡◌, ◌≢◌, ◌⊎◌, ℕ, ◌<◌, ◌≤◌, suc, Bool, true, false, ◌&&◌, not, is_some, List, [], ◌∷◌, slice_get, All, Contains, Some, None}
use Rattle.std.specs.List.{list_all}
use Rattle.std.proofs.Common.{⊎_elim, inl, inr, refl, sym, ap, subst, ◌∙◌, arith}
use Rattle.std.proofs.lemmas.Bool.{and_parts}
use Rattle.std.proofs.lemmas.List.Elements.{All-nil, All-cons, All-weaker, All-contains}
use Rattle.std.specs.Ordering.{eq_by_cmp}
use Rattle.std.specs.FinMap as finmap
use Rattle.lsm_names.specs.Folders.{is_folder_name}
use Rattle.lsm_names.specs.FileNames.{IsFileName, spelled}
use Rattle.lsm_names.specs.declared.file_names.FileName.{FileName}
use Rattle.lsm_names.specs.declared.file_names.FileName.TheVariants.{Log}
use Rattle.lsm_disk.specs.Names.{id_of}
use Rattle.lsm_disk.specs.State as disk
use Rattle.lsm_disk.specs.State.{file_at, names_now}
use Rattle.lsm_disk.specs.Kept.{OpSpares}
use Rattle.lsm_disk.specs.Dest.{path_in}
use Rattle.lsm_disk.specs.Building.{Part, names_of, sealed}
use Rattle.lsm_disk.proofs.Kept.{kept_at}
use Rattle.lsm_disk.proofs.Named.{name_now}
use Rattle.lsm_folder.specs.Names.{name_cmp}
use Rattle.lsm_refine.specs.Disks.{folder_disk}
use Rattle.lsm_refine.specs.Kept.{Kept}
use Rattle.lsm_refine.specs.Sane.{IsWholeFile, MayStand, IsQuiet, AreKnown, AreFiles}
use Rattle.lsm_refine.proofs.FolderDisks.{AreApart, part_kept, none_kept, no_folder}
use Rattle.lsm_refine.proofs.NewLemmas.{among_or_not, spelled_apart}

-- ---- names

-- each of these names is so
abbrev pub Each : (FileName → Type 0) → List FileName → Type 0
Each P [] = Unit {0}
Each P (name ∷ names) = P name × Each P names

pub each_all : (P : FileName → Type 0) (names : List FileName) → Each P names → All P names
each_all P [] each = All-nil P
each_all P (name ∷ names) each = All-cons P name names each.0 (each_all P names each.1)

-- names that a test tells apart
abbrev pub are_apart : List FileName → Bool
are_apart [] = true
are_apart (name ∷ names) = list_all (λ (other : FileName). not (eq_by_cmp name_cmp name other)) names && are_apart names

is_false : (b : Bool) → not b ≡ true → b ≡ false
is_false true is = cc
is_false false is = refl

one_apart : (name : FileName) (names : List FileName) → IsFileName name → Each IsFileName names
    → list_all (λ (other : FileName). not (eq_by_cmp name_cmp name other)) names ≡ true
    → All (λ (other : FileName). spelled name ≢ spelled other) names
one_apart name [] fits each test = All-nil (λ (other : FileName). spelled name ≢ spelled other)
one_apart name (other ∷ names) fits each test =
    let parts = and_parts (not (eq_by_cmp name_cmp name other)) (list_all (λ (n : FileName). not (eq_by_cmp name_cmp name n)) names) test in
    All-cons (λ (n : FileName). spelled name ≢ spelled n) other names
    (spelled_apart name other fits each.0 (is_false (eq_by_cmp name_cmp name other) parts.0)) (one_apart name names fits each.1 parts.1)

pub apart_by : (parts : List Part) → Each IsFileName (names_of parts) → are_apart (names_of parts) ≡ true → AreApart parts
apart_by [] each test = tt
apart_by (part ∷ parts) each test =
    let tests = and_parts (list_all (λ (other : FileName). not (eq_by_cmp name_cmp part.name other)) (names_of parts))
    (are_apart (names_of parts)) test in
    (one_apart part.name (names_of parts) each.0 each.1 tests.0, apart_by parts each.1 tests.1)

-- a name is that of a part
abbrev IsNameOf : List Part → FileName → Type 0
IsNameOf parts name = (index : ℕ) × (part : Part) × (slice_get parts index ≡ Some part) × (part.name ≡ name)

all_named_so : (parts : List Part) → All (IsNameOf parts) (names_of parts)
all_named_so [] = All-nil (IsNameOf [])
all_named_so (part ∷ parts) =
    All-cons (IsNameOf (part ∷ parts)) part.name (names_of parts) (0, part, refl, refl)
    (All-weaker (IsNameOf parts) (IsNameOf (part ∷ parts)) (λ name is. (suc is.0, is.1, is.2, is.3)) (names_of parts) (all_named_so parts))

-- a log among them is a live one, or has a lower number
abbrev pub IsLive : ℕ → List ℕ → FileName → Type 0
IsLive least logs (Log number) = Contains logs number ⊎ (number < least)
IsLive least logs name = Unit {0}

-- ---- on the disk

module _ (dir : List ℕ) (fits : is_folder_name dir ≡ true) (parts : List Part) (apart : AreApart parts)
    (each : Each IsFileName (names_of parts)) where
  abbrev d : disk.State
  d = folder_disk dir parts

  abbrev names : List FileName
  names = names_of parts

  abbrev Differs : FileName → FileName → Type 0
  Differs name other = spelled name ≢ spelled other

  pub whole_at : (index : ℕ) (name : FileName) (bytes : List ℕ)
      → slice_get parts index ≡ Some (record { name = name; bytes = bytes }) → IsWholeFile d (path_in dir name) bytes
  whole_at index name bytes at = let part = part_kept dir fits parts apart index
      (record { name = name; bytes = bytes }) at in record { id = part.id; file = part.file }

  file_there : (name : FileName) → IsNameOf parts name → is_some (file_at d (path_in dir name)) ≡ true
  file_there name is =
      let part = part_kept dir fits parts apart is.0 is.1 is.2 in
      subst (λ (n : FileName). is_some (file_at d (path_in dir n)) ≡ true) is.3
      (ap is_some (kept_at d (path_in dir is.1.name) part.id (sealed is.1.bytes) part.file))

  -- other files aren't there
  none_there : (name : FileName) → All (Differs name) names → finmap.get (names_now d) (path_in dir name) ≡ None
  none_there name others = name_now d (path_in dir name) None (none_kept dir fits parts apart name others)

  pub known_at : (kept : Kept) → kept.known ≡ names → AreKnown d dir kept
  known_at kept known = record {
    there = λ name among.
        let here = subst (λ (some : List FileName). Contains some name) known among in (
          All-contains IsFileName names name (each_all IsFileName names each) here,
          file_there name
              (All-contains (IsNameOf parts) names name (all_named_so parts) here),
        );
    all = λ name file there. subst (λ (some : List FileName). Contains some name) (sym known) (⊎_elim
        (λ among. among)
        (λ others. let clash : false ≡ true = ap is_some (sym (none_there name others)) ∙ there in absurd (cc))
        (among_or_not names name (each_all IsFileName names each) file));
  }

  pub files_at : AreFiles d dir
  files_at = record { no_folder = λ name k file. no_folder dir fits parts apart name k }

  pub quiet_at : (kept : Kept) → IsQuiet d dir kept
  quiet_at kept = record { spares = λ name fits held. All-nil (OpSpares (path_in dir name)) }

  pub logs_at : (kept : Kept) → Each (IsLive kept.log kept.logs) names → (number : ℕ) → kept.log ≤ number
      → IsFileName (Log number) → MayStand d dir kept number
  logs_at kept live number least file = ⊎_elim
      (λ among. ⊎_elim
      (λ is. inl is)
      (λ lower. absurd (omega (arith, lower, least)))
      (All-contains (IsLive kept.log kept.logs) names (Log number) (each_all (IsLive kept.log kept.logs) names live) among))
      (λ others. inr (ap id_of (none_there (Log number) others)))
      (among_or_not names (Log number) (each_all IsFileName names each) file)

  -- a log that is neither live nor lower isn't there
  pub log_gone : (least : ℕ) (logs : List ℕ) → Each (IsLive least logs) names → (number : ℕ) → least ≤ number
      → IsFileName (Log number) → (Contains logs number → ⊥)
      → finmap.get (names_now d) (path_in dir (Log number)) ≡ None
  log_gone least logs live number few file other = ⊎_elim
      (λ among. ⊎_elim
      (λ is. absurd (other is))
      (λ lower. absurd (omega (arith, lower, few)))
      (All-contains (IsLive least logs) names (Log number) (each_all (IsLive least logs) names live) among))
      (λ others. none_there (Log number) others)
      (among_or_not names (Log number) (each_all IsFileName names each) file)
