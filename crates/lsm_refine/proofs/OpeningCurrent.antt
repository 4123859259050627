-- Where a folder stands in each image and all names are synced, CURRENT is wholly synced: no front of its text is another's.
use Rattle.std.specs.Prelude.{◌≡◌, ◌≢◌, ℕ, zero, suc, ◌≤◌, true, false, List, [], ◌∷◌, ◌++◌, map, drop, length, slice_get, Option, Some, None, Ok}
use Rattle.std.specs.List.{list_all}
use Rattle.std.proofs.Common.{refl, sym, ap, ◌∙◌, arith, append_assoc, length-append}
use Rattle.std.proofs.lemmas.Bool.{and_parts}
use Rattle.std.proofs.lemmas.List.{append-nil}
use Rattle.lsm_names.specs.Folders.{is_folder_name}
use Rattle.lsm_names.specs.FileNames.{IsFileName, spelled}
use Rattle.lsm_names.specs.Paths.{is_component_byte}
use Rattle.lsm_names.specs.declared.file_names.FileName.TheVariants.{Manifest, Current}
use Rattle.lsm_names.proofs.FileNameLemmas.{spelled_is_component}
use Rattle.lsm_names.proofs.FolderLemmas.{folder_has_bytes}
use Rattle.lsm_names.proofs.PathLemmas.{bytes_of_component}
use Rattle.lsm_disk.specs.Names.{Node, id_of}
use Rattle.lsm_disk.specs.State.{FileState, State, names_now}
use Rattle.lsm_disk.specs.Images.{Tree, IsImage, AreCut, bytes_by, bytes_at, tree_now}
use Rattle.lsm_disk.specs.Dest.{path_in}
use Rattle.lsm_disk.specs.Building.{sealed}
use Rattle.lsm_disk.proofs.Files.{same_some}
use Rattle.lsm_disk.proofs.Images.{reads_image}
use Rattle.lsm_disk.proofs.Named.{sure_same}
use Rattle.lsm_folder.specs.declared.refusals.Refusal.TheVariants.{NoCurrent, Malformed}
use Rattle.lsm_folder.specs.Files.{Files, files_in, file_at}
use Rattle.lsm_folder.specs.Names.{current_text, manifest_in}
use Rattle.lsm_folder.specs.Reading.{current_of}
use Rattle.lsm_folder.specs.Steps.{◌>>=◌, some_or}
use Rattle.lsm_folder.proofs.NameLemmas.{manifest_only}
use Rattle.lsm_refine.specs.Sane.{IsWholeFile}
use Rattle.lsm_refine.specs.OpeningImages.{AllStand}
use Rattle.lsm_refine.proofs.ChangeLemmas.{file_of}
use Rattle.lsm_refine.proofs.FileLemmas.{file_there}
use Rattle.lsm_refine.proofs.FoundTables.{there_in}
use Rattle.lsm_refine.proofs.NewStoreLemmas.{settled_kept}
use Rattle.lsm_refine.proofs.OpeningFolders.{texts_of_it}
use Rattle.lsm_refine.proofs.OtherFileLemmas.{heads}

-- ---- texts of one line

no_newline : (byte : ℕ) → is_component_byte byte ≡ true → 10 ≢ byte
unfolding is_component_byte
no_newline byte fits same = let clash : false ≡ true = ap is_component_byte same ∙ fits in cc

-- a text that ends with the first newline has no longer one
one_line : (xs ys more : List ℕ) → list_all is_component_byte ys ≡ true → xs ++ 10 ∷ more ≡ ys ++ 10 ∷ [] → more ≡ []
one_line [] [] more fits same = ap (λ (l : List ℕ). drop 1 l) same
one_line [] (y ∷ ys) more fits same =
    absurd (no_newline y (and_parts (is_component_byte y) (list_all is_component_byte ys) fits).0
    (heads 10 y more (ys ++ 10 ∷ []) same).0)
one_line (x ∷ xs) [] more fits same =
    absurd (omega (arith, length-append xs (10 ∷ more), ap (λ (l : List ℕ). length l) same))
one_line (x ∷ xs) (y ∷ ys) more fits same =
    one_line xs ys more (and_parts (is_component_byte y) (list_all is_component_byte ys) fits).1
    (heads x y (xs ++ 10 ∷ more) (ys ++ 10 ∷ []) same).1

name_bytes : (number : ℕ) → IsFileName (Manifest number) → list_all is_component_byte (spelled (Manifest number)) ≡ true
name_bytes number fits = bytes_of_component (spelled (Manifest number)) (spelled_is_component (Manifest number) fits)

-- so no text of CURRENT is a front of another
current_once : (one other : ℕ) (more : List ℕ) → IsFileName (Manifest one)
    → current_text other ++ more ≡ current_text one → more ≡ []
unfolding current_text
current_once one other more fits same =
    one_line (spelled (Manifest other)) (spelled (Manifest one)) more (name_bytes one fits)
    (sym (append_assoc (spelled (Manifest other)) (10 ∷ []) more) ∙ same)

current_some : (number : ℕ) → current_text number ≢ []
unfolding current_text
current_some number none =
    omega (arith, length-append (spelled (Manifest number)) (10 ∷ []), ap (λ (l : List ℕ). length l) none)

-- ---- what CURRENT has where it is read

record IsNamed (files : Files) (number : ℕ) : Type 0 where
  fits : IsFileName (Manifest number)
  is : file_at files Current ≡ Some (current_text number)

current_bytes : (files : Files) (number : ℕ) → current_of files ≡ Ok number → IsNamed files number
unfolding current_of
current_bytes files number is = by (file_at files Current) refl is
  where
    by_text : (bytes : List ℕ) (o : Option ℕ) → file_at files Current ≡ Some bytes → manifest_in bytes ≡ o
        → some_or (Malformed Current 0) o ≡ Ok number → IsNamed files number
    by_text bytes None there at named = absurd (cc)
    by_text bytes (Some found) there at named =
        let same : found ≡ number = cc in
        let names = manifest_only bytes number (at ∙ ap Some same) in
        record { fits = names.fits; is = there ∙ ap Some names.is }

    by : (o : Option (List ℕ)) → file_at files Current ≡ o
        → (some_or NoCurrent o >>= λ (bytes : List ℕ). some_or (Malformed Current 0) (manifest_in bytes)) ≡ Ok number
        → IsNamed files number
    by None there named = absurd (cc)
    by (Some bytes) there named = by_text bytes (manifest_in bytes) there refl named

-- ---- the image in which all that wasn't synced is lost

synced_of : List FileState → List (List ℕ)
synced_of fs = map (λ (f : FileState). f.synced) fs

synced_cut : (fs : List FileState) → AreCut fs (synced_of fs)
unfolding synced_of
synced_cut [] = tt
synced_cut (f ∷ fs) = (record { kept = 0; is = sym (append-nil f.synced) }, synced_cut fs)

synced_at : (fs : List FileState) (id : ℕ) (f : FileState) → slice_get fs id ≡ Some f
    → slice_get (synced_of fs) id ≡ Some f.synced
unfolding synced_of
synced_at [] id f is = absurd (cc)
synced_at (g ∷ fs) zero f is = ap (λ (h : FileState). Some h.synced) (same_some g f is)
synced_at (g ∷ fs) (suc id) f is = synced_at fs id f is

module _ (dir : List ℕ) (named : is_folder_name dir ≡ true) (d : State) (quiet : d.pending ≡ []) (stand : AllStand dir d)
    (number : ℕ) (read : current_of (files_in dir (tree_now d)) ≡ Ok number) where
  some : 1 ≤ length dir
  some = folder_has_bytes dir named

  abbrev path : List ℕ
  path = path_in dir Current

  now : IsNamed (files_in dir (tree_now d)) number
  now = current_bytes (files_in dir (tree_now d)) number read

  there : bytes_at (tree_now d) path ≡ Some (current_text number)
  there = (there_in dir (tree_now d) Current (current_text number) some (current_some number) now.is).1

  abbrev least : Tree
  least = record { names = names_now d; contents = synced_of d.files }

  least_is : IsImage d least
  least_is = record { kept = (reads_image d).kept; names = (reads_image d).names; files = synced_cut d.files }

  pub current_whole : IsWholeFile d path (current_text number)
  current_whole =
      let file = file_of d path (current_text number) there in
      let f : FileState = file.1 in
      let stands = stand.each least least_is in
      let texts = texts_of_it (files_in dir least) stands.contents stands.sequence stands.stands.stands in
      let other = current_bytes (files_in dir least) texts.manifest texts.current in
      let held : bytes_at least path ≡ Some f.synced =
      ap (λ (node : Option Node). bytes_by (id_of node) least) file.2.named ∙ synced_at d.files file.0 f file.2.file in
      let synced : f.synced ≡ current_text texts.manifest =
      same_some f.synced (current_text texts.manifest) (sym (file_there dir least Current f.synced some tt held) ∙ other.is) in
      let none : f.unsynced ≡ [] = current_once number texts.manifest f.unsynced now.fits
      (ap (λ (l : List ℕ). l ++ f.unsynced) (sym synced) ∙ file.3) in
      record {
        id = file.0;
        file = record {
          named = settled_kept d quiet path _ file.2.named;
          file = file.2.file ∙ ap Some (sure_same f none ∙ ap sealed file.3);
        };
      }
