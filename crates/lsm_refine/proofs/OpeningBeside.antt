-- A folder of two trees that differ at a few names, and a table's file that is made beside the others.
use Rattle.std.specs.Prelude.{◌≡◌, ◌≢◌, ◌⊎◌, ℕ, ◌≤◌, Bool, true, false, List, [], ◌∷◌, length, All, Contains, None}
use Rattle.std.specs.FinMap as finmap
use Rattle.std.proofs.Common.{⊎_elim, inl, inr, refl, sym, ap, subst, ◌∙◌, arith}
use Rattle.std.proofs.lemmas.List.Elements.{All-nil, All-cons, All-contains, Contains-append_right}
use Rattle.lsm_names.specs.Folders.{is_folder_name}
use Rattle.lsm_names.specs.FileNames.{IsFileName, is_file_number}
use Rattle.lsm_names.specs.declared.file_names.FileName.{FileName}
use Rattle.lsm_names.specs.declared.file_names.FileName.TheVariants.{Log, Table, Manifest, Temp, Current}
use Rattle.lsm_names.proofs.FolderLemmas.{folder_has_bytes}
use Rattle.lsm_rows.specs.Replay.{Contents}
use Rattle.lsm_disk.specs.Names.{id_of}
use Rattle.lsm_disk.specs.State.{State, names_now}
use Rattle.lsm_disk.specs.Images.{Tree, IsImage}
use Rattle.lsm_disk.specs.Dest.{path_in}
use Rattle.lsm_disk.proofs.Paths.{path_cases}
use Rattle.lsm_folder.specs.Files.{Files, bytes_in, files_in, file_at}
use Rattle.lsm_folder.proofs.FileLemmas.{files_are}
use Rattle.lsm_refine.specs.Sane.{AreFiles}
use Rattle.lsm_refine.specs.Pins.{AreClearable}
use Rattle.lsm_refine.specs.Folders.{AreAlikeOutside}
use Rattle.lsm_refine.specs.Beside.{MakesAt}
use Rattle.lsm_refine.specs.Among.{IsElsewhere, ChangesAmong}
use Rattle.lsm_refine.specs.Openings.{StandsAs, IsAsBefore, Same, IsKeptImage}
use Rattle.lsm_refine.specs.OpeningImages.{KeepsFolder, IsAtRest, StandsForSome, AllStand}
use Rattle.lsm_refine.proofs.AmongLemmas.{among_at}
use Rattle.lsm_refine.proofs.FileLemmas.{file_gone, file_never}
use Rattle.lsm_refine.proofs.FoundLemmas.{clear_image}
use Rattle.lsm_refine.proofs.OpeningFolders.{IsSameOrNew, stands_beside}
use Rattle.lsm_refine.proofs.OpeningFronts.{IsAlikeBut, image_before, before_image, alike_but}
use Rattle.lsm_refine.proofs.OtherFileLemmas.{same_name}
use Rattle.lsm_refine.proofs.SwitchedLemmas.{dir_elsewhere, files_among, clear_among}
use Rattle.lsm_refine.proofs.TableSyncs.{image_files}

-- ---- names

is_or_not : (b : Bool) → (b ≡ true) ⊎ (b ≡ true → ⊥)
is_or_not true = inl refl
is_or_not false = inr (λ is. cc)

-- a name is a file's or isn't
fits_or_not : (name : FileName) → IsFileName name ⊎ (IsFileName name → ⊥)
fits_or_not (Log number) = is_or_not (is_file_number number)
fits_or_not (Table number) = is_or_not (is_file_number number)
fits_or_not (Manifest number) = is_or_not (is_file_number number)
fits_or_not (Temp number) = is_or_not (is_file_number number)
fits_or_not Current = inl tt

pub record IsOneOf (dir : List ℕ) (names : List FileName) (path : List ℕ) : Type 0 where
  pub name : FileName
  pub among : Contains names name
  pub is : path ≡ path_in dir name

-- a path is one of these names' or none of them
pub elsewhere_or_one : (dir : List ℕ) (names : List FileName) (path : List ℕ)
    → IsElsewhere dir names path ⊎ IsOneOf dir names path
elsewhere_or_one dir [] path = inl (All-nil (λ (n : FileName). path ≢ path_in dir n))
elsewhere_or_one dir (name ∷ names) path = ⊎_elim
    (λ same. inr (record { name = name; among = (0, omega arith, refl); is = same }))
    (λ differs. ⊎_elim
    (λ others. inl (All-cons (λ (n : FileName). path ≢ path_in dir n) name names differs others))
    (λ one. inr (record { name = one.name; among = Contains-append_right (name ∷ []) names one.name one.among; is = one.is }))
    (elsewhere_or_one dir names path))
    (path_cases path (path_in dir name))

module _ (dir : List ℕ) (named : is_folder_name dir ≡ true) (names : List FileName) (fits : All IsFileName names) where
  some : 1 ≤ length dir
  some = folder_has_bytes dir named

  -- ---- two trees

  module _ (t u : Tree) (alike : IsAlikeBut dir names t u) where
    abbrev before : Files
    before = files_in dir t

    abbrev behind : Files
    behind = files_in dir u

    pub file_same : (name : FileName) → IsFileName name → IsElsewhere dir names (path_in dir name)
        → file_at (files_in dir u) name ≡ file_at (files_in dir t) name
    file_same name is elsewhere = ap bytes_in (files_are dir u name some is ∙ alike.item (path_in dir name) elsewhere
        ∙ sym (files_are dir t name some is))

    -- where it is so of these names, each file is the same or new
    pub each_file : All (IsSameOrNew (files_in dir t) (files_in dir u)) names → (name : FileName)
        → IsSameOrNew (files_in dir t) (files_in dir u) name
    each_file each name = ⊎_elim
        (λ is. ⊎_elim (λ elsewhere. inl (file_same name is elsewhere)) (one_of is)
        (elsewhere_or_one dir names (path_in dir name)))
        (λ never. inl (file_never dir u name some never ∙ sym (file_never dir t name some never)))
        (fits_or_not name)
      where
        one_of : IsFileName name → IsOneOf dir names (path_in dir name) → IsSameOrNew before behind name
        one_of is one =
            let same : name ≡ one.name =
            same_name dir one.name named (All-contains IsFileName names one.name fits one.among) name is one.is in
            subst (IsSameOrNew before behind) (sym same)
            (All-contains (IsSameOrNew before behind) names one.name each one.among)

    pub stands_still : IsElsewhere dir names dir → All (IsSameOrNew (files_in dir t) (files_in dir u)) names
        → (contents : Contents) (sequence : ℕ) → StandsAs dir contents sequence t → StandsAs dir contents sequence u
    stands_still elsewhere each contents sequence is = record {
      folder = alike.node dir elsewhere ∙ is.folder;
      stands = stands_beside before behind contents sequence is.stands (each_file each);
    }

  -- ---- an image, where the folder is as in one from before

  module _ (d later : State) (among : ChangesAmong dir names d later) (files : AreFiles d dir) (clear : AreClearable d)
      (u : Tree) (image : IsImage later u) where
    pub kept_by : (start : State) (one other : Tree) → IsImage start one → IsAsBefore dir one u → IsImage start other
        → AreAlikeOutside dir other u → IsKeptImage dir start u
    kept_by start one other of own also outside = record {
      one = one;
      of = of;
      own = own;
      files = λ only. image_files later dir (files_among dir named names fits d later among files) u image;
      other = other;
      also = also;
      outside = outside;
      clear = clear_image later (clear_among dir named names fits d later among files clear) u image;
    }

-- ---- a table's file beside the others

module _ (dir : List ℕ) (named : is_folder_name dir ≡ true) (d : State) (rest : IsAtRest dir d) (stand : AllStand dir d)
    (number : ℕ) (fits : IsFileName (Table number)) (free : finmap.get (names_now d) (path_in dir (Table number)) ≡ None)
    (later : State) (makes : MakesAt dir (Table number) d later) where
  abbrev names : List FileName
  names = Table number ∷ []

  all_fit : All IsFileName names
  all_fit = All-cons IsFileName (Table number) [] fits (All-nil IsFileName)

  among : ChangesAmong dir names d later
  among = among_at dir names (Table number) (0, omega arith, refl) d later makes.at

  module _ (u : Tree) (image : IsImage later u) where
    abbrev t : Tree
    t = image_before dir names d later rest.quiet rest.lead among u image

    t_is : IsImage d t
    t_is = before_image dir names d later rest.quiet rest.lead among u image

    alike : IsAlikeBut dir names t u
    alike = alike_but dir names d later rest.quiet rest.lead among u image

    new : IsSameOrNew (files_in dir t) (files_in dir u) (Table number)
    new = inr (file_gone dir t (Table number) (folder_has_bytes dir named) fits (ap id_of free), tt)

    was : StandsForSome dir t
    was = stand.each t t_is

    own : IsAsBefore dir t u
    own = Same was.contents was.sequence was.stands
        (stands_still dir named names all_fit t u alike (dir_elsewhere dir named names all_fit d later among)
        (All-cons (IsSameOrNew (files_in dir t) (files_in dir u)) (Table number) [] new
        (All-nil (IsSameOrNew (files_in dir t) (files_in dir u)))) was.contents was.sequence was.stands)

    beside_image : IsKeptImage dir d u
    beside_image =
        let outside = makes.inside.images u image in
        kept_by dir named names all_fit d later among rest.files rest.clear u image d t outside.0 t_is own outside.1 outside.2

  pub beside_kept : KeepsFolder dir d later
  beside_kept = record { each = beside_image }
