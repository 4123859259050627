-- The next opening of that store's folder, change by change, and the store that it leaves.
use Rattle.std.specs.Prelude.{◌≡◌, ℕ, zero, suc, ◌≤◌, true, List, [], ◌∷◌, ◌++◌, map, take, length, Option, Some, None, option_map}
use Rattle.std.specs.List.{IsDistinct}
use Rattle.std.proofs.Common.{inl, inr, refl, sym, ap, subst, ◌∙◌, arith}
use Rattle.std.proofs.lemmas.List.{append-nil}
use Rattle.std.proofs.lemmas.List.Elements.{All-nil}
use Rattle.std.specs.Cmp.Lexicographic.{nat_list_cmp_total}
use Rattle.std.specs.FinMap as finmap
use Rattle.lsm_names.specs.Folders.{is_folder_name}
use Rattle.lsm_names.specs.FileNames.{IsFileName}
use Rattle.lsm_names.specs.declared.file_names.FileName.TheVariants.{Log, Table, Manifest, Current}
use Rattle.lsm_names.proofs.FolderLemmas.{folder_has_bytes}
use Rattle.lsm_disk.specs.Names.{Node, NameOp, Put, Names, Folder_node, File_node, all_named, id_of}
use Rattle.lsm_disk.specs.State as disk
use Rattle.lsm_disk.specs.State.{FileState, Appended, Synced, Created, Names_synced, after, bytes_of, longer}
use Rattle.lsm_disk.specs.Images.{Tree, IsImage, IsCut, AreCut, contents_of, bytes_by, bytes_at, tree_now}
use Rattle.lsm_disk.specs.Dest.{path_in}
use Rattle.lsm_disk.specs.Building.{Part, names_of, sealed}
use Rattle.lsm_disk.specs.Goes.{Shows, Went}
use Rattle.lsm_disk.proofs.Cuts.{take_none, cut_front}
use Rattle.lsm_disk.proofs.Images.{reads_image}
use Rattle.lsm_folder.specs.Files.{item_of, files_in, place_of}
use Rattle.lsm_folder.specs.Names.{current_text}
use Rattle.lsm_folder.specs.Needed.{IsFresh, Stands}
use Rattle.lsm_folder.specs.Parts.{IsManifest}
use Rattle.lsm_folder.proofs.ManifestLemmas.{manifest_written}
use Rattle.lsm_model.specs.declared.states.State.{State}
use Rattle.lsm_model.specs.declared.states.Pin.{Pin}
use Rattle.lsm_model.specs.declared.states.FolderRead.{FolderRead}
use Rattle.lsm_model.specs.States.{shown_after, written}
use Rattle.lsm_model.specs.Crashes.{Opened, closed}
use Rattle.lsm_refine.specs.Disks.{nodes_from, untouched, folder_disk}
use Rattle.lsm_refine.specs.Sane.{Sane}
use Rattle.lsm_refine.specs.Tied.{Tied, WorksAs, live_table}
use Rattle.lsm_refine.specs.Pins.{AreClearable, PinFiles, JobsBuild}
use Rattle.lsm_refine.specs.Folders.{FoldersRead, AreAlikeOutside, ChangesInside}
use Rattle.lsm_refine.specs.Good.{Good}
use Rattle.lsm_refine.specs.Openings.{StandsAs, Holds, As_store, As_fresh, IsFound, ReopensTo, Same, IsKeptImage, HasOpened}
use Rattle.lsm_refine.specs.Witness.{its_table, older_log, last_log, its_placed, its_manifest, its_files, its_disk, its_store, its_state, next_table, next_placed, next_parts, next_manifest, added_record, next_files, next_changes, next_kept, next_store}
use Rattle.lsm_refine.proofs.SettledLemmas.{cut_whole}
use Rattle.lsm_refine.proofs.FolderDisks.{AreApart, folder_named, part_named, no_folder, outside_none, outside_file, clear}
use Rattle.lsm_refine.proofs.FolderStores.{Each, each_all, log_gone}
use Rattle.lsm_refine.proofs.IdleLemmas.{stands_once, not_fresh}
use Rattle.lsm_refine.proofs.KeptLemmas.{kept_loses_nothing}
use Rattle.lsm_refine.proofs.OutsideLemmas.{folders_stay}
use Rattle.lsm_refine.proofs.WitnessDisk.{its_named, its_apart, its_live}
use Rattle.lsm_refine.proofs.WitnessGood.{pin_manifest, its_settled, its_reopening}
use Rattle.lsm_refine.proofs.NextLemmas.{next_are, next_entries, next_last, next_shows, manifest_grows, SaysOneOrTwo, cut_says}
use Rattle.lsm_refine.proofs.NextDisk.{next_named, next_apart, next_live, next_sane}
use Rattle.lsm_refine.proofs.NextReads.{all_three, HasSix, HasNoOther, tree_of, old_stands, without_log, with_log}

-- ---- files that are synced, and one that isn't

sealed_cut : (held cut : List (List ℕ)) → AreCut (map sealed held) cut → cut ≡ held
sealed_cut [] [] are = refl
sealed_cut [] (c ∷ cut) are = absurd are
sealed_cut (bytes ∷ held) [] are = absurd are
sealed_cut (bytes ∷ held) (c ∷ cut) are =
    ap (λ (b : List ℕ). b ∷ cut) (cut_whole (sealed bytes) c refl are.0 ∙ append-nil bytes) ∙ ap
    (λ (l : List (List ℕ)). bytes ∷ l) (sealed_cut held cut are.1)

-- the last one is cut
last_cut : (held : List (List ℕ)) (last : FileState) (cut : List (List ℕ)) → AreCut (map sealed held ++ last ∷ []) cut
    → (bytes : List ℕ) × (cut ≡ held ++ bytes ∷ []) × IsCut last bytes
last_cut [] last [] are = absurd are
last_cut [] last (c ∷ []) are = (c, refl, are.0)
last_cut [] last (c ∷ more ∷ cut) are = absurd are.1
last_cut (bytes ∷ held) last [] are = absurd are
last_cut (bytes ∷ held) last (c ∷ cut) are =
    let rest = last_cut held last cut are.1 in (
      rest.0,
      ap (λ (b : List ℕ). b ∷ cut) (cut_whole (sealed bytes) c refl are.0 ∙ append-nil bytes) ∙ ap
          (λ (l : List (List ℕ)). bytes ∷ l) rest.1,
      rest.2,
    )

sealed_contents : (parts : List Part) → contents_of (map (λ (p : Part). sealed p.bytes) parts) ≡ map (λ (p : Part). p.bytes) parts
sealed_contents [] = refl
sealed_contents (part ∷ parts) =
    ap (λ (b : List ℕ). b ∷ contents_of (map (λ (p : Part). sealed p.bytes) parts)) (append-nil part.bytes)
    ∙ ap (λ (l : List (List ℕ)). part.bytes ∷ l) (sealed_contents parts)

-- the files before the manifest
abbrev five : List (List ℕ)
five = current_text 1 ∷ its_table ∷ older_log ∷ last_log ∷ next_table ∷ []

both_say : IsManifest next_manifest next_parts.edits
unfolding next_manifest
both_say = manifest_written next_parts.edits next_are

-- ---- the names

module _ (dir : List ℕ) (fits : is_folder_name dir ≡ true) where
  abbrev d : disk.State
  d = its_disk dir

  abbrev before : Tree
  before = tree_now d

  abbrev old_names : Names
  old_names = d.durable

  abbrev new_names : Names
  new_names = (folder_disk dir next_files).durable

  old_six : HasSix dir old_names
  old_six = record {
    folder = folder_named dir fits its_files its_apart;
    current = part_named dir fits its_files its_apart 0 (record { name = Current; bytes = current_text 1 }) refl;
    table = part_named dir fits its_files its_apart 1 (record { name = Table 3; bytes = its_table }) refl;
    older = part_named dir fits its_files its_apart 2 (record { name = Log 4; bytes = older_log }) refl;
    newer = part_named dir fits its_files its_apart 3 (record { name = Log 5; bytes = last_log }) refl;
    next = part_named dir fits its_files its_apart 4 (record { name = Table 6; bytes = next_table }) refl;
    manifest = part_named dir fits its_files its_apart 5 (record { name = Manifest 1; bytes = its_manifest }) refl;
  }

  new_six : HasSix dir new_names
  new_six = record {
    folder = folder_named dir fits next_files next_apart;
    current = part_named dir fits next_files next_apart 0 (record { name = Current; bytes = current_text 1 }) refl;
    table = part_named dir fits next_files next_apart 1 (record { name = Table 3; bytes = its_table }) refl;
    older = part_named dir fits next_files next_apart 2 (record { name = Log 4; bytes = older_log }) refl;
    newer = part_named dir fits next_files next_apart 3 (record { name = Log 5; bytes = last_log }) refl;
    next = part_named dir fits next_files next_apart 4 (record { name = Table 6; bytes = next_table }) refl;
    manifest = part_named dir fits next_files next_apart 5 (record { name = Manifest 1; bytes = next_manifest }) refl;
  }

  new_log : finmap.get new_names (path_in dir (Log 7)) ≡ Some (File_node 6)
  new_log = part_named dir fits next_files next_apart 6 (record { name = Log 7; bytes = [] }) refl

  old_logs : HasNoOther dir old_names 4 (4 ∷ 5 ∷ [])
  old_logs = log_gone dir fits its_files its_apart its_named 4 (4 ∷ 5 ∷ []) its_live

  no_new_log : HasNoOther dir old_names 7 []
  no_new_log = log_gone dir fits its_files its_apart its_named 7 [] (tt, (tt, (inr (omega arith), (inr (omega arith), (tt, (tt, tt))))))

  one_new_log : HasNoOther dir new_names 7 (7 ∷ [])
  one_new_log = log_gone dir fits next_files next_apart next_named 7 (7 ∷ []) next_live

  abbrev entries : List (List ℕ × Node)
  entries = (dir, Folder_node) ∷ nodes_from dir 0 its_files

  names_grow : finmap.insert old_names (path_in dir (Log 7)) (File_node 6) ≡ new_names
  names_grow =
      let free : finmap.get old_names (path_in dir (Log 7)) ≡ None = no_new_log 7 (omega arith) refl (λ among. omega (arith, among.1)) in
      sym (finmap.from_entries_push nat_list_cmp_total (finmap.slice_cmp-IsAntisymmetric finmap.nat_cmp-IsAntisymmetric) entries (path_in dir (Log 7)) (File_node 6)
      (sym (finmap.get-from_entries nat_list_cmp_total entries (path_in dir (Log 7))) ∙ free))

  -- ---- images on the way

  before_is : before ≡ tree_of old_names its_manifest []
  before_is = λ i. record { names = old_names; contents = sealed_contents its_files i }

  stood : StandsAs dir all_three 3 before
  stood = subst (StandsAs dir all_three 3) (sym before_is) (old_stands dir fits old_names its_manifest [] old_six old_logs pin_manifest)

  module _ (parts : List Part) (apart : AreApart parts) (named : Each IsFileName (names_of parts)) (text : List ℕ)
      (rest : List (List ℕ)) where
    abbrev t : Tree
    t = tree_of (folder_disk dir parts).durable text rest

    alike : AreAlikeOutside dir before t
    alike = record {
      names = λ name folder other. outside_none dir fits parts apart name folder other ∙ sym
          (outside_none dir fits its_files its_apart name folder other);
      items = λ name file folder other fitting.
          ap (option_map (item_of t.contents)) (outside_file dir fits parts apart
          (each_all IsFileName (names_of parts) named) name file folder other fitting)
          ∙ sym (ap (option_map (item_of before.contents)) (outside_file dir fits its_files its_apart
          (each_all IsFileName (names_of its_files) its_named) name file folder other fitting));
    }

    is_kept : StandsAs dir all_three 3 t → IsKeptImage dir d t
    is_kept stands = record {
      one = before;
      of = reads_image d;
      own = Same all_three 3 stood stands;
      files = λ none name file. no_folder dir fits parts apart name 0;
      other = before;
      also = reads_image d;
      outside = alike;
      clear = record {
        no_file = λ other id folder is. (clear dir fits parts apart).no_file other 0 id folder is;
        no_folder = λ other rest folder is. (clear dir fits parts apart).no_folder other rest 0 folder is;
      };
    }

  -- the manifest has its first edit, or both
  by_text : (text : List ℕ) → SaysOneOrTwo text → IsKeptImage dir d (tree_of old_names text [])
  by_text text (inl says) =
      is_kept its_files its_apart its_named text [] (old_stands dir fits old_names text [] old_six old_logs says)
  by_text text (inr says) = let stands = without_log dir fits old_names text [] old_six no_new_log says in is_kept its_files its_apart its_named text [] stands

  -- it has both, and no log is there yet
  by_edits : (rest : List (List ℕ)) → IsKeptImage dir d (tree_of old_names next_manifest rest)
  by_edits rest = let stands = without_log dir fits old_names next_manifest rest old_six no_new_log both_say in is_kept its_files its_apart its_named next_manifest rest stands

  -- the new log is there
  by_log : IsKeptImage dir d (tree_of new_names next_manifest ([] ∷ []))
  by_log =
      let there : bytes_at (tree_of new_names next_manifest ([] ∷ [])) (path_in dir (Log 7)) ≡ Some [] =
      ap (λ (node : Option Node). bytes_by (id_of node) (tree_of new_names next_manifest ([] ∷ []))) new_log in
      let stands = with_log dir fits new_names next_manifest ([] ∷ []) new_six there one_new_log both_say in
      is_kept next_files next_apart next_named next_manifest ([] ∷ []) stands

  -- ---- change by change

  abbrev KeepsAll : disk.State → Type 0
  KeepsAll e = Shows (λ (e : disk.State) (t : Tree). IsKeptImage dir d t) e

  abbrev appended : disk.State
  appended = after d (Appended 5 added_record)

  abbrev synced : disk.State
  synced = after appended (Synced 5)

  abbrev created : disk.State
  created = after synced (Created (path_in dir (Log 7)))

  abbrev done : disk.State
  done = after created Names_synced

  none_pending : (k : ℕ) (names : Names) → all_named (take k []) names ≡ names
  none_pending k names = ap (λ (ops : List NameOp). all_named ops names) (take_none k)

  at_start : KeepsAll d
  at_start = record {
    each = λ t image.
        let same : t ≡ tree_of old_names its_manifest [] =
        λ i. record {
          names = (image.names ∙ none_pending image.kept old_names) i;
          contents = sealed_cut (five ++ its_manifest ∷ []) t.contents image.files i;
        } in
        subst (IsKeptImage dir d) (sym same) (by_text its_manifest (inl pin_manifest));
  }

  while_appended : KeepsAll appended
  while_appended = record {
    each = λ t image.
        let last = last_cut five (longer added_record (sealed its_manifest)) t.contents image.files in
        let cut = cut_front (longer added_record (sealed its_manifest)) last.0 last.2 in
        let text : last.0 ≡ take cut.count next_manifest = cut.is ∙ ap (take cut.count) manifest_grows in
        let same : t ≡ tree_of old_names last.0 [] = λ i. record {
          names = (image.names ∙ none_pending image.kept old_names) i;
          contents = last.1 i;
        } in
        subst (IsKeptImage dir d) (sym same) (by_text last.0 (subst SaysOneOrTwo (sym text) (cut_says cut.count cut.enough)));
  }

  when_synced : KeepsAll synced
  when_synced = record {
    each = λ t image.
        let held = sealed_cut (five ++ (its_manifest ++ added_record) ∷ []) t.contents image.files ∙ ap
        (λ (text : List ℕ). five ++ text ∷ []) manifest_grows in
        let same : t ≡ tree_of old_names next_manifest [] = λ i. record {
          names =
              (image.names ∙ none_pending image.kept old_names) i;
          contents = held i;
        } in
        subst (IsKeptImage dir d) (sym same) (by_edits []);
  }

  with_new_file : (t : Tree) → AreCut (map sealed (five ++ (its_manifest ++ added_record) ∷ [] ∷ [])) t.contents
      → t.contents ≡ (tree_of new_names next_manifest ([] ∷ [])).contents
  with_new_file t cut =
      sealed_cut (five ++ (its_manifest ++ added_record) ∷ [] ∷ []) t.contents cut ∙ ap
      (λ (text : List ℕ). five ++ text ∷ [] ∷ []) manifest_grows

  by_names : (t : Tree) (k : ℕ) → t.names ≡ all_named (take k (Put (path_in dir (Log 7)) (File_node 6) ∷ [])) old_names
      → t.contents ≡ (tree_of new_names next_manifest ([] ∷ [])).contents
      → IsKeptImage dir d t
  by_names t zero names contents =
      let same : t ≡ tree_of old_names next_manifest ([] ∷ []) = λ i. record { names = names i; contents = contents i } in
      subst (IsKeptImage dir d) (sym same) (by_edits ([] ∷ []))
  by_names t (suc k) names contents =
      let all : t.names ≡ new_names = names ∙ none_pending k (finmap.insert old_names (path_in dir (Log 7)) (File_node 6)) ∙ names_grow in
      let same : t ≡ tree_of new_names next_manifest ([] ∷ []) = λ i. record { names = all i; contents = contents i } in
      subst (IsKeptImage dir d) (sym same) by_log

  when_created : KeepsAll created
  when_created = record { each = λ t image. by_names t image.kept image.names (with_new_file t image.files) }

  at_end : (t : Tree) → IsImage done t → t ≡ tree_of new_names next_manifest ([] ∷ [])
  at_end t image =
      let names : t.names ≡ new_names = image.names ∙ none_pending image.kept
      (finmap.insert old_names (path_in dir (Log 7)) (File_node 6)) ∙ names_grow in
      let contents = with_new_file t image.files in
      λ i. record { names = names i; contents = contents i }

  when_done : KeepsAll done
  when_done = record { each = λ t image. subst (IsKeptImage dir d) (sym (at_end t image)) by_log }

  went : Went (untouched d) (next_store dir).disk.told (λ c. Unit {0}) (λ e t. IsKeptImage dir d t) (λ e. Unit {0})
  went = record {
    story = record { start = d; log = next_changes dir };
    tells = refl;
    goes = record {
      more = next_changes dir;
      grows = refl;
      kind = (tt, (tt, (tt, (tt, tt))));
      along = (at_start, (while_appended, (when_synced, (when_created, when_done))));
    };
    now = tt;
  }

  -- ---- what it leaves

  done_is : done ≡ folder_disk dir next_files
  done_is = λ i. record {
    durable = names_grow i;
    pending = [];
    files = sealed (current_text 1) ∷ sealed its_table ∷ sealed older_log ∷ sealed last_log ∷ sealed next_table
        ∷ sealed (manifest_grows i) ∷ sealed [] ∷ [];
    links = true;
  }

  changes : ChangesInside dir d done
  changes = record { now = outside (tree_now done) (reads_image done); images = λ t image. (before, reads_image d, outside t image) }
    where
      outside : (t : Tree) → IsImage done t → AreAlikeOutside dir before t
      outside t image = subst (AreAlikeOutside dir before) (sym (at_end t image))
          (alike next_files next_apart next_named next_manifest ([] ∷ []))

  module _ (s : State) (own : s.own ≡ dir) (found : IsFound d s) where
    abbrev opened : State
    opened = record (closed s) {
      opening = all_three;
      began = 3;
      accepted = [];
      durable = 0;
      folders = s.folders;
      tables = live_table (3, its_placed) ∷ live_table (6, next_placed) ∷ [];
      next = 8;
      manifest_len = length next_manifest;
      faults = 0;
      refusals = 0;
    }

    shown_by : (count : ℕ) → Holds s before count → shown_after opened [] ≡ shown_after s (take count (written s))
    shown_by count (As_store stands) =
        let shown = shown_after s (take count (written s)) in
        let same = stands_once (files_in dir before) all_three shown.contents 3 shown.sequence stood.stands
        (subst (λ (name : List ℕ). Stands (files_in name before) shown.contents shown.sequence) own stands.stands) in
        λ i. record { sequence = same.1 i; contents = same.0 i }
    shown_by count (As_fresh fresh none) =
        not_fresh dir before all_three 3 (folder_has_bytes dir fits) stood.folder stood.stands
        (subst (λ (name : List ℕ). IsFresh (place_of name before)) own fresh)

    opens_so : Opened s opened
    opens_so = record {
      kept = found.now.count;
      accepted = found.now.enough;
      shown = shown_by found.now.count found.now.holds;
      folders = λ name. refl;
      sure = λ name folder listed sure. listed;
      rest = refl;
    }

    tied : Tied next_parts opened
    tied = record { flushed = 0; within = omega arith; below = next_shows; last = next_last; above = refl; durable = omega arith }

    works : WorksAs next_kept next_parts opened
    works = record {
      active = refl;
      frozen = refl;
      log_len = refl;
      older_len = refl;
      active_len = refl;
      frozen_len = refl;
      tables = sym (ap (map live_table) next_entries);
      merging = refl;
      outputs = refl;
      next = refl;
      manifest_len = refl;
    }

    no_jobs : JobsBuild done dir [] opened
    unfolding IsDistinct
    no_jobs = record { apart = tt; each = tt }

    reads_so : FoldersRead done opened
    reads_so =
        let all = folders_stay d done s (subst (λ (name : List ℕ). ChangesInside name d done) (sym own) changes) found.folders in
        record { now = all.now; sure = all.sure }

    good_so : Good (next_store dir) opened
    good_so = record {
      story = record { start = d; log = next_changes dir };
      told = refl;
      mode = record {
        parts = next_parts;
        sane = subst (λ (e : disk.State). Sane e dir next_kept next_parts) (sym done_is) (next_sane dir fits);
        tied = tied;
        works = works;
        jobs = no_jobs;
        certain = refl;
      };
      pinned = record { pins = tt; files = All-nil (λ (pin : Pin). PinFiles done dir pin.files) };
      folders = reads_so;
      clear = subst AreClearable (sym done_is) (clear dir fits next_files next_apart);
      counted = record {
        durable = omega arith;
        numbers = All-nil (λ (pin : Pin). pin.number ≤ 0);
        fronts = All-nil (λ (pin : Pin). pin.batches ≤ 0);
        begun = tt;
      };
      kept = record { own = sym own; sequence = refl; greatest_pin = refl; disables = refl; begun = refl; halt = refl };
      counts = record { faults = refl; refusals = refl };
    }

  pub next_opened : HasOpened (untouched d) dir (next_store dir)
  next_opened = record {
    leads = λ s own found. record { state = opened s own found; opened = opens_so s own found; folders = refl; good = good_so s own found };
    fresh = λ fresh clear. not_fresh dir before all_three 3 (folder_has_bytes dir fits) stood.folder stood.stands fresh;
    moments = kept_loses_nothing (untouched d) dir (next_store dir).disk.told fits went;
  }

  pub next_reopened : (folders : List FolderRead) → Good (its_store dir) (its_state dir folders)
      → ReopensTo (its_state dir folders) (next_store dir)
  next_reopened folders good = its_reopening dir fits folders (untouched d) (next_store dir) good (its_settled dir fits) refl next_opened
