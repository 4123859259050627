-- While a new manifest is made and CURRENT comes to name it, each image shows the folder as it was.
use Rattle.std.specs.Prelude.{◌≡◌, ◌≢◌, ℕ, ◌≤◌, true, List, [], length, slice_get, unwrap_or, option_map, All, Option, Some, None}
use Rattle.std.specs.FinMap as finmap
use Rattle.std.proofs.Common.{⊎_elim, inl, inr, refl, sym, ap, subst, ◌∙◌}
use Rattle.std.proofs.lemmas.List.Elements.{All-contains}
use Rattle.lsm_names.specs.Folders.{is_folder_name}
use Rattle.lsm_names.specs.FileNames.{IsFileName}
use Rattle.lsm_names.specs.declared.file_names.FileName.{FileName}
use Rattle.lsm_names.specs.declared.file_names.FileName.TheVariants.{Log, Table, Manifest, Temp, Current}
use Rattle.lsm_names.proofs.FolderLemmas.{folder_has_bytes}
use Rattle.lsm_rows.specs.Replay.{Contents}
use Rattle.lsm_disk.specs.Names.{Node, Folder_node, File_node, id_of}
use Rattle.lsm_disk.specs.State.{State, names_now}
use Rattle.lsm_disk.specs.Images.{Tree, IsImage, bytes_at}
use Rattle.lsm_disk.specs.Dest.{path_in}
use Rattle.lsm_version.specs.declared.edits.Edit.{Edit}
use Rattle.lsm_folder.specs.Files.{Item, A_file, item_of, files_in, place_of}
use Rattle.lsm_folder.specs.Needed.{IsFresh, is_aside}
use Rattle.lsm_refine.specs.Sane.{IsWholeFile}
use Rattle.lsm_refine.specs.Among.{IsElsewhere, ChangesAmong, switched_names}
use Rattle.lsm_refine.specs.Naming.{NamesWhole, ReplacesAt}
use Rattle.lsm_refine.specs.Openings.{HasOnlyFiles, IsAsBefore, Same, Still_fresh, IsKeptImage}
use Rattle.lsm_refine.specs.OpeningImages.{KeepsFolder, IsAtRest, StandsForSome, AllStand, AllFresh, SaysAs, MayBecome, HasOldOrNamesNew, HasNoneOrNamesNew}
use Rattle.lsm_refine.proofs.AmongLemmas.{whole_among}
use Rattle.lsm_refine.proofs.FileLemmas.{file_there, file_gone, whole_image}
use Rattle.lsm_refine.proofs.OpeningBeside.{IsOneOf, elsewhere_or_one, stands_still, kept_by}
use Rattle.lsm_refine.proofs.OpeningFolders.{IsSameOrNew}
use Rattle.lsm_refine.proofs.OpeningFresh.{fresh_by, fresh_at}
use Rattle.lsm_refine.proofs.OpeningFronts.{IsAlikeBut, image_before, before_image, alike_but}
use Rattle.lsm_refine.proofs.OpeningGoesOn.{image_both, outside_both, may_stand}
use Rattle.lsm_refine.proofs.OpeningSays.{says_without}
use Rattle.lsm_refine.proofs.OtherFileLemmas.{same_name}
use Rattle.lsm_refine.proofs.ReplacedStores.{each_name, fits, log_elsewhere, table_elsewhere}
use Rattle.lsm_refine.proofs.SwitchedLemmas.{dir_elsewhere, files_among}
use Rattle.lsm_refine.proofs.TableSyncs.{image_files}

-- ---- the new manifest

module _ (dir : List ℕ) (named : is_folder_name dir ≡ true) (start d : State) (kept : KeepsFolder dir start d)
    (rest : IsAtRest dir d) (number : ℕ) (manifest_fits : IsFileName (Manifest number)) (contents : Contents) (sequence : ℕ)
    (may : MayBecome dir start contents sequence) (edits : List Edit) (says : SaysAs d dir edits contents sequence)
    (later : State) (replaces : ReplacesAt dir number d later) (u : Tree) (image : IsImage later u) where
  abbrev names : List FileName
  names = switched_names number number

  abbrev among : ChangesAmong dir (switched_names number number) d later
  among = replaces.among

  all_fit : All IsFileName (switched_names number number)
  all_fit = fits dir named number manifest_fits manifest_fits d later among

  abbrev t : Tree
  t = image_before dir names d later rest.quiet rest.lead among u image

  t_is : IsImage d t
  t_is = before_image dir names d later rest.quiet rest.lead among u image

  alike : IsAlikeBut dir names t u
  alike = alike_but dir names d later rest.quiet rest.lead among u image

  dir_off : IsElsewhere dir names dir
  dir_off = dir_elsewhere dir named names all_fit d later among

  each : (P : FileName → Type 0) → P (Manifest number) → P (Temp number) → P Current → All P names
  each = each_name dir named number manifest_fits manifest_fits d later among

  -- as in an image from before
  from_before : IsAsBefore dir t u → IsKeptImage dir start u
  from_before own =
      let outside = replaces.inside.images u image in
      image_both dir named start d kept u
      (kept_by dir named names all_fit d later among rest.files rest.clear u image d t outside.0 t_is own outside.1 outside.2)

  -- CURRENT names the new manifest
  names_new : finmap.get (names_now d) dir ≡ Some Folder_node → NamesWhole dir number edits u → IsKeptImage dir start u
  names_new folder whole =
      let stands = says_without dir named d contents sequence edits says names t u t_is alike
      (table_elsewhere dir named number manifest_fits manifest_fits d later among) (alike.node dir dir_off ∙ folder) number
      manifest_fits whole
      (λ n least is. alike.node (path_in dir (Log n)) (log_elsewhere dir named number manifest_fits manifest_fits d later
      among n is) ∙ says.logs n least is) in
      let outside = replaces.inside.images u image in
      let beside = kept.each outside.0 outside.1 in
      kept_by dir named names all_fit d later among rest.files rest.clear u image start may.one beside.other may.of
      (may_stand dir start contents sequence may u stands) beside.also
      (outside_both dir beside.other outside.0 u beside.outside outside.2)

  -- ---- of a folder that stands

  module _ (stand : AllStand dir d) (bytes : List ℕ) (current : IsWholeFile d (path_in dir Current) bytes)
      (no_manifest : finmap.get (names_now d) (path_in dir (Manifest number)) ≡ None)
      (no_temporary : finmap.get (names_now d) (path_in dir (Temp number)) ≡ None) where
    abbrev IsSo : FileName → Type 0
    IsSo name = IsSameOrNew (files_in dir t) (files_in dir u) name

    some : 1 ≤ length dir
    some = folder_has_bytes dir named

    was : StandsForSome dir t
    was = stand.each t t_is

    has_old : bytes_at u (path_in dir Current) ≡ Some bytes → IsKeptImage dir start u
    has_old there =
        from_before (Same was.contents was.sequence was.stands
        (stands_still dir named names all_fit t u alike dir_off
        (each IsSo (inr (file_gone dir t (Manifest number) some manifest_fits (ap id_of no_manifest), tt))
        (inr (file_gone dir t (Temp number) some manifest_fits (ap id_of no_temporary), tt))
        (inl (file_there dir u Current bytes some tt there
        ∙ sym (file_there dir t Current bytes some tt (whole_image d (path_in dir Current) bytes current t t_is)))))
        was.contents was.sequence was.stands))

    -- the folder is there in each image, so it is now
    folder_now : finmap.get (names_now d) dir ≡ Some Folder_node
    folder_now = was.stands.folder

    pub old_or_new : HasOldOrNamesNew dir bytes number edits u → IsKeptImage dir start u
    old_or_new has = ⊎_elim has_old (names_new folder_now) has

  -- ---- of a fresh folder

  module _ (all_fresh : AllFresh dir d) (folder : finmap.get (names_now d) dir ≡ Some Folder_node) where
    fresh_t : IsFresh (place_of dir t)
    fresh_t = all_fresh.each t t_is

    only_files : HasOnlyFiles dir u.names
    only_files = image_files later dir (files_among dir named names all_fit d later among rest.files) u image

    file_aside : (node : Option Node) (item : Item) → node ≢ Some Folder_node → option_map (item_of u.contents) node ≡ Some item
        → (bytes : List ℕ) × (item ≡ A_file bytes)
    file_aside None item flat is = absurd (cc)
    file_aside (Some Folder_node) item flat is = absurd (flat refl)
    file_aside (Some (File_node id)) item flat is = (unwrap_or (slice_get u.contents id) [], sym (same_item _ item is))
      where
        same_item : (one two : Item) → Some one ≡ Some two → one ≡ two
        same_item one two same = cc

    abbrev IsAside : FileName → Type 0
    IsAside name = (item : Item) → option_map (item_of u.contents) (finmap.get u.names (path_in dir name)) ≡ Some item
        → is_aside (name, item) ≡ true

    module _ (none : finmap.get u.names (path_in dir Current) ≡ None) where
      manifest_aside : IsAside (Manifest number)
      manifest_aside item is =
          let file = file_aside (finmap.get u.names (path_in dir (Manifest number))) item
          (only_files (Manifest number) manifest_fits) is in
          ap (λ (i : Item). is_aside (Manifest number, i)) file.1

      temporary_aside : IsAside (Temp number)
      temporary_aside item is =
          let file = file_aside (finmap.get u.names (path_in dir (Temp number))) item
          (only_files (Temp number) manifest_fits) is in
          ap (λ (i : Item). is_aside (Temp number, i)) file.1

      current_aside : IsAside Current
      current_aside item is =
          let clash : None ≡ Some item = sym (ap (option_map (item_of u.contents)) none) ∙ is in absurd (cc)

      one_aside : (name : FileName) → IsFileName name → IsOneOf dir names (path_in dir name) → IsAside name
      one_aside name is one =
          let same : name ≡ one.name =
          same_name dir one.name named (All-contains IsFileName names one.name all_fit one.among) name is one.is in
          subst IsAside (sym same) (All-contains IsAside names one.name
          (each IsAside manifest_aside temporary_aside current_aside) one.among)

      aside : (name : FileName) (item : Item) → IsFileName name
          → option_map (item_of u.contents) (finmap.get u.names (path_in dir name)) ≡ Some item → is_aside (name, item) ≡ true
      aside name item is there = ⊎_elim
          (λ elsewhere. fresh_at dir named t folder fresh_t name item is
          (sym (alike.item (path_in dir name) elsewhere) ∙ there))
          (λ one. one_aside name is one item there)
          (elsewhere_or_one dir names (path_in dir name))

      still_fresh : IsKeptImage dir start u
      still_fresh = from_before (Still_fresh fresh_t (fresh_by dir named u (alike.node dir dir_off ∙ folder) aside))

    pub none_or_new : HasNoneOrNamesNew dir number edits u → IsKeptImage dir start u
    none_or_new has = ⊎_elim still_fresh (names_new folder) has

-- behind it, what it says is so still
pub says_still : (dir : List ℕ) → is_folder_name dir ≡ true → (d : State) (number : ℕ) → IsFileName (Manifest number)
    → (contents : Contents) (sequence : ℕ) (edits : List Edit) → SaysAs d dir edits contents sequence
    → (later : State) → ReplacesAt dir number d later → SaysAs later dir edits contents sequence
says_still dir named d number is contents sequence edits says later replaces = record {
  are = says.are;
  rows = says.rows;
  tables = λ n placed listed.
      let table = says.tables n placed listed in
      record {
        numbered = table.numbered;
        bytes = table.bytes;
        file = whole_among dir (switched_names number number) d later replaces.among (path_in dir (Table n))
            (table_elsewhere dir named number is is d later replaces.among n table.numbered) table.bytes table.file;
        table = table.table;
        size = table.size;
      };
  lawful = says.lawful;
  shows = says.shows;
  last = says.last;
  logs = λ n least fit. replaces.among.now (path_in dir (Log n))
      (log_elsewhere dir named number is is d later replaces.among n fit) ∙ says.logs n least fit;
}
