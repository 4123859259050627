-- While an empty log is made behind the new manifest of an opening.
use Rattle.std.specs.Prelude.{◌≡◌, ◌≢◌, ℕ, ◌≤◌, true, List, [], ◌∷◌, ◌++◌, length, slice_get, All, Option, Some, None}
use Rattle.std.specs.FinMap as finmap
use Rattle.std.proofs.Common.{⊎_elim, refl, ap, ◌∙◌, arith}
use Rattle.std.proofs.lemmas.List.Elements.{All-nil, All-cons}
use Rattle.lsm_names.specs.Folders.{is_folder_name}
use Rattle.lsm_names.specs.FileNames.{IsFileName}
use Rattle.lsm_names.specs.declared.file_names.FileName.{FileName}
use Rattle.lsm_names.specs.declared.file_names.FileName.TheVariants.{Log, Table, Manifest, Current}
use Rattle.lsm_rows.specs.Replay.{Contents}
use Rattle.lsm_disk.specs.Names.{Node, Names, Folder_node, File_node, Put, id_of}
use Rattle.lsm_disk.specs.Names as disk_names
use Rattle.lsm_disk.specs.State.{FileState, State, names_now}
use Rattle.lsm_disk.specs.Images.{Tree, IsImage, AreCut, bytes_by, bytes_at}
use Rattle.lsm_disk.specs.Kept.{HasNew}
use Rattle.lsm_disk.specs.Dest.{path_in}
use Rattle.lsm_disk.proofs.Paths.{get_put}
use Rattle.lsm_version.specs.declared.edits.Edit.{Edit}
use Rattle.lsm_wal.specs.Making.{MayHaveNew}
use Rattle.lsm_folder.specs.Names.{current_text}
use Rattle.lsm_folder.specs.Manifests.{manifest_text, log_after}
use Rattle.lsm_refine.specs.Sane.{IsWholeFile}
use Rattle.lsm_refine.specs.Beside.{MakesAt}
use Rattle.lsm_refine.specs.Among.{IsElsewhere, ChangesAmong}
use Rattle.lsm_refine.specs.Naming.{NamesWhole}
use Rattle.lsm_refine.specs.Openings.{StandsAs, IsKeptImage}
use Rattle.lsm_refine.specs.OpeningImages.{KeepsFolder, IsAtRest, SaysAs, MayBecome}
use Rattle.lsm_refine.proofs.AmongLemmas.{among_at}
use Rattle.lsm_refine.proofs.FileLemmas.{whole_image}
use Rattle.lsm_refine.proofs.NewStoreLemmas.{settled_kept}
use Rattle.lsm_refine.proofs.OpeningBeside.{kept_by}
use Rattle.lsm_refine.proofs.OpeningFronts.{IsAlikeBut, image_before, before_image, alike_but}
use Rattle.lsm_refine.proofs.OpeningGoesOn.{outside_both, may_stand}
use Rattle.lsm_refine.proofs.OpeningSays.{says_without, says_with}
use Rattle.lsm_refine.proofs.SwitchedLemmas.{dir_elsewhere, name_elsewhere}

-- the file behind all others
last_held : (fs : List FileState) (bs : List (List ℕ)) → AreCut fs bs → slice_get (bs ++ [] ∷ []) (length fs) ≡ Some []
last_held [] [] cut = refl
last_held [] (b ∷ bs) cut = absurd cut
last_held (f ∷ fs) [] cut = absurd cut
last_held (f ∷ fs) (b ∷ bs) cut = last_held fs bs cut.1

module _ (dir : List ℕ) (named : is_folder_name dir ≡ true) (start d : State) (kept : KeepsFolder dir start d)
    (rest : IsAtRest dir d) (folder : finmap.get (names_now d) dir ≡ Some Folder_node) (number : ℕ)
    (manifest_fits : IsFileName (Manifest number)) (edits : List Edit)
    (current : IsWholeFile d (path_in dir Current) (current_text number))
    (manifest : IsWholeFile d (path_in dir (Manifest number)) (manifest_text edits)) (contents : Contents) (sequence : ℕ)
    (may : MayBecome dir start contents sequence) (says : SaysAs d dir edits contents sequence)
    (log_fits : IsFileName (Log (log_after edits))) (later : State) (makes : MakesAt dir (Log (log_after edits)) d later)
    (u : Tree) (image : IsImage later u) where
  abbrev log : FileName
  log = Log (log_after edits)

  abbrev names : List FileName
  names = log ∷ []

  all_fit : All IsFileName names
  all_fit = All-cons IsFileName log [] log_fits (All-nil IsFileName)

  among : ChangesAmong dir names d later
  among = among_at dir names log (0, omega arith, refl) d later makes.at

  abbrev t : Tree
  t = image_before dir names d later rest.quiet rest.lead among u image

  t_is : IsImage d t
  t_is = before_image dir names d later rest.quiet rest.lead among u image

  alike : IsAlikeBut dir names t u
  alike = alike_but dir names d later rest.quiet rest.lead among u image

  elsewhere : (name : FileName) → IsFileName name → name ≢ log → IsElsewhere dir names (path_in dir name)
  elsewhere name is differs = name_elsewhere dir named names all_fit d later among name is
      (All-cons (λ (n : FileName). name ≢ n) log [] differs (All-nil (λ (n : FileName). name ≢ n)))

  tables : (n : ℕ) → IsFileName (Table n) → IsElsewhere dir names (path_in dir (Table n))
  tables n is = elsewhere (Table n) is (λ same. cc)

  whole_there : (name : FileName) (bytes : List ℕ) → IsFileName name → name ≢ log → IsWholeFile d (path_in dir name) bytes
      → bytes_at u (path_in dir name) ≡ Some bytes
  whole_there name bytes is differs file =
      alike.bytes (path_in dir name) (elsewhere name is differs) ∙ whole_image d (path_in dir name) bytes file t t_is

  whole : NamesWhole dir number edits u
  whole = record {
    current = whole_there Current (current_text number) tt (λ same. cc) current;
    there = whole_there (Manifest number) (manifest_text edits) manifest_fits (λ same. cc) manifest;
  }

  folder_there : finmap.get u.names dir ≡ Some Folder_node
  folder_there = alike.node dir (dir_elsewhere dir named names all_fit d later among) ∙ folder

  -- no other log is there
  no_other : (n : ℕ) → log_after edits ≤ n → n ≢ log_after edits → IsFileName (Log n)
      → finmap.get u.names (path_in dir (Log n)) ≡ None
  no_other n least differs is = alike.node (path_in dir (Log n))
      (elsewhere (Log n) is (λ same. let equal : n ≡ log_after edits = cc in differs equal)) ∙ says.logs n least is

  stands_kept : StandsAs dir contents sequence u → IsKeptImage dir start u
  stands_kept stands =
      let outside = makes.inside.images u image in
      let beside = kept.each outside.0 outside.1 in
      kept_by dir named names all_fit d later among rest.files rest.clear u image start may.one beside.other may.of
      (may_stand dir start contents sequence may u stands) beside.also
      (outside_both dir beside.other outside.0 u beside.outside outside.2)

  module _ (new : HasNew d (path_in dir (Log (log_after edits))) u) where
    -- its name is lost: no log is there
    without_name : u.names ≡ new.before.names → StandsAs dir contents sequence u
    without_name same =
        says_without dir named d contents sequence edits says names t u t_is alike tables folder_there number manifest_fits
        whole (λ n least is. ap (λ (left : Names). finmap.get left (path_in dir (Log n))) (same ∙ new.was.names)
        ∙ settled_kept d rest.quiet (path_in dir (Log n)) None (says.logs n least is) new.was.kept)

    with_name : u.names ≡ disk_names.named (Put (path_in dir log) (File_node (length d.files))) (names_now d)
        → StandsAs dir contents sequence u
    with_name made =
        says_with dir named d contents sequence edits says names t u t_is alike tables folder_there number manifest_fits whole
        log_fits empty no_other
      where
        empty : bytes_at u (path_in dir log) ≡ Some []
        empty =
            ap (λ (node : Option Node). bytes_by (id_of node) u)
            (ap (λ (left : Names). finmap.get left (path_in dir log)) made
            ∙ get_put (names_now d) (path_in dir log) (File_node (length d.files)))
            ∙ ap (λ (bs : List (List ℕ)). slice_get bs (length d.files)) new.contents
            ∙ last_held d.files new.before.contents new.was.files

    with_log : IsKeptImage dir start u
    with_log = stands_kept (⊎_elim without_name (λ made. with_name made.1) new.names)

  pub log_kept : MayHaveNew d (path_in dir (Log (log_after edits))) later u → IsKeptImage dir start u
  log_kept has = ⊎_elim (kept.each u) with_log has
