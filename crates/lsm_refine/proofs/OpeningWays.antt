-- How an opening comes from one part to the next.
use Rattle.std.specs.Prelude.{◌≡◌, ℕ, ◌+◌, ◌^◌, ◌<◌, ◌≤◌, true, List, [], ◌∷◌, Option, Some, None}
use Rattle.std.specs.FinMap as finmap
use Rattle.std.proofs.Common.{refl, sym, subst, ◌∙◌, arith}
use Rattle.lsm_names.specs.Folders.{is_folder_name}
use Rattle.lsm_names.specs.FileNames.{IsFileName}
use Rattle.lsm_names.specs.declared.file_names.FileName.TheVariants.{Log, Table, Manifest, Current}
use Rattle.lsm_disk.specs.Names.{Folder_node}
use Rattle.lsm_disk.specs.State.{State, names_now}
use Rattle.lsm_disk.specs.Images.{tree_now}
use Rattle.lsm_disk.specs.Dest.{path_in}
use Rattle.lsm_disk.proofs.Images.{reads_image}
use Rattle.lsm_version.specs.declared.edits.Edit.{Edit}
use Rattle.lsm_folder.specs.Files.{files_in, place_of}
use Rattle.lsm_folder.specs.Needed.{IsFresh}
use Rattle.lsm_folder.specs.Manifests.{last_after}
use Rattle.lsm_refine.specs.Sane.{TablesAreSynced}
use Rattle.lsm_refine.specs.Beside.{MakesAt}
use Rattle.lsm_refine.specs.Among.{ChangesAmong, switched_names}
use Rattle.lsm_refine.specs.Naming.{ReplacesAt, HasReplaced}
use Rattle.lsm_refine.specs.New.{first_edit}
use Rattle.lsm_refine.specs.FoundFolder.{NewTable, Recovery, TakesRows, IsRecovery, HasNewTable, new_manifest, table_names, opening_edits}
use Rattle.lsm_refine.specs.OpeningImages.{KeepsFolder, IsAtRest, StandsForSome, AllStand, MaySwitch, MayBegin, MayMakeLog}
use Rattle.lsm_refine.proofs.AmongLemmas.{among_none, among_at}
use Rattle.lsm_refine.proofs.FoundTables.{current_there}
use Rattle.lsm_refine.proofs.NewLemmas.{first_log, file_number}
use Rattle.lsm_refine.proofs.OpeningBeside.{beside_kept}
use Rattle.lsm_refine.proofs.OpeningCurrent.{current_whole}
use Rattle.lsm_refine.proofs.OpeningFirst.{first_says}
use Rattle.lsm_refine.proofs.OpeningFolders.{texts_of_it}
use Rattle.lsm_refine.proofs.OpeningGoesOn.{kept_both, kept_rest, kept_stands, read_stands, read_fresh, may_stay, may_be_made}
use Rattle.lsm_refine.proofs.OpeningManifest.{says_still}
use Rattle.lsm_refine.proofs.OpeningRecovery.{table_free, manifest_fits, free_names, log_is, recovery_says}
use Rattle.lsm_refine.proofs.ReplacedStores.{fits}
use Rattle.lsm_refine.proofs.SwitchedLemmas.{dir_elsewhere, files_among, clear_among}

-- ---- a folder that stands

module _ (dir : List ℕ) (named : is_folder_name dir ≡ true) (start d : State) (kept : KeepsFolder dir start d)
    (rest : IsAtRest dir d) (synced : TablesAreSynced d dir) (r : Recovery) (is : IsRecovery d dir r) where
  stand : AllStand dir d
  stand = read_stands dir named start d kept rest.quiet is.folder ((is.names.are Current tt).0 (current_there d dir r named is))

  now : StandsForSome dir (tree_now d)
  now = stand.each (tree_now d) (reads_image d)

  -- behind the table, if there is one
  switch_behind : (later : State) → KeepsFolder dir start later → IsAtRest dir later → AllStand dir later
      → ChangesAmong dir (table_names r.table) d later → HasNewTable later dir r.table
      → MaySwitch dir start later (new_manifest r) (opening_edits r)
  switch_behind later kept_later rest_later stand_later among table =
      let stands = stand_later.each (tree_now later) (reads_image later) in
      let texts = texts_of_it (files_in dir (tree_now later)) stands.contents stands.sequence stands.stands.stands in
      let free = free_names dir named d r is later among in
      record {
        kept = kept_later;
        rest = rest_later;
        stand = stand_later;
        folder = stands.stands.folder;
        numbered = manifest_fits dir named d r is later among;
        no_manifest = free.0;
        no_temporary = free.1;
        log_fits = subst (λ (n : ℕ). IsFileName (Log n))
            (sym (log_is dir named d r is later among rest synced now.contents now.sequence now.stands.stands table))
            is.planned.fits;
        found = texts.manifest;
        current = current_whole dir named later rest_later.quiet stand_later texts.manifest texts.current;
        contents = now.contents;
        sequence = now.sequence;
        may = may_stay dir named start d kept now.contents now.sequence now.stands;
        says = recovery_says dir named d r is later among rest synced now.contents now.sequence now.stands.stands table;
      }

  -- there are no rows in logs
  pub plain_switch : r.table ≡ None → MaySwitch dir start d (new_manifest r) (opening_edits r)
  plain_switch none = switch_behind d kept rest stand (among_none dir (table_names r.table) d)
      (subst (HasNewTable d dir) (sym none) tt)

  module _ (new : NewTable) (some : r.table ≡ Some new) (later : State)
      (makes : MakesAt dir (Table new.info.number) d later) where
    takes : TakesRows (last_after r.edits + 1) r.batches r.next (Some new)
    takes = subst (TakesRows (last_after r.edits + 1) r.batches r.next) some is.planned.takes

    fits_free : IsFileName (Table new.info.number)
        × (finmap.get (names_now d) (path_in dir (Table new.info.number)) ≡ None)
    fits_free = subst (λ (n : ℕ). IsFileName (Table n) × (finmap.get (names_now d) (path_in dir (Table n)) ≡ None))
        (sym takes.0) (table_free dir d r is)

    beside : KeepsFolder dir d later
    beside = beside_kept dir named d rest stand new.info.number fits_free.0 fits_free.1 later makes

    -- while the table's file is written
    pub table_kept : KeepsFolder dir start later
    table_kept = kept_both dir named start d later kept beside

    -- and behind it
    pub table_switch : later.pending ≡ [] → HasNewTable later dir r.table
        → MaySwitch dir start later (new_manifest r) (opening_edits r)
    table_switch quiet table =
        switch_behind later table_kept (kept_rest dir d later rest beside quiet makes.lead)
        (kept_stands dir named d later stand beside)
        (subst (λ (o : Option NewTable). ChangesAmong dir (table_names o) d later) (sym some)
        (among_at dir (Table new.info.number ∷ []) (Table new.info.number) (0, omega arith, refl) d later makes.at)) table

-- ---- a fresh folder

pub may_begin : (dir : List ℕ) → is_folder_name dir ≡ true → (start d : State) → KeepsFolder dir start d → IsAtRest dir d
    → finmap.get (names_now d) dir ≡ Some Folder_node → IsFresh (place_of dir (tree_now d)) → (m : ℕ) → 1 ≤ m → m + 2 < 2 ^ 56
    → MayBegin dir start d m
may_begin dir named start d kept rest folder now m least most =
    let fresh = read_fresh dir named start d kept rest.quiet now in
    record {
      kept = kept;
      rest = rest;
      fresh = fresh;
      folder = folder;
      numbered = file_number m least (omega (arith, most));
      log_fits = file_number (m + 1) (omega arith) (omega (arith, most));
      may = may_be_made dir named start d kept now;
      says = first_says dir named d fresh folder m least most;
    }

-- ---- behind the new manifest

module _ (dir : List ℕ) (named : is_folder_name dir ≡ true) (start d : State) (number : ℕ) (is : IsFileName (Manifest number))
    (rest : IsAtRest dir d) (later : State) (kept : KeepsFolder dir start later) (replaces : ReplacesAt dir number d later)
    (edits : List Edit) (has : HasReplaced later dir number edits) where
  abbrev among : ChangesAmong dir (switched_names number number) d later
  among = replaces.among

  pub replaced_rest : IsAtRest dir later
  replaced_rest = record {
    quiet = has.quiet;
    lead = replaces.lead;
    files = files_among dir named (switched_names number number) (fits dir named number is is d later among) d later among
        rest.files;
    clear = clear_among dir named (switched_names number number) (fits dir named number is is d later among) d later among
        rest.files rest.clear;
  }

  pub replaced_folder : finmap.get (names_now d) dir ≡ Some Folder_node → finmap.get (names_now later) dir ≡ Some Folder_node
  replaced_folder folder = among.now dir (dir_elsewhere dir named (switched_names number number)
      (fits dir named number is is d later among) d later among) ∙ folder

pub switched_log : (dir : List ℕ) → is_folder_name dir ≡ true → (start d : State) (number : ℕ) (edits : List Edit)
    → MaySwitch dir start d number edits → (later : State) → KeepsFolder dir start later → ReplacesAt dir number d later
    → HasReplaced later dir number edits → MayMakeLog dir start later number edits
switched_log dir named start d number edits may later kept replaces has = record {
  kept = kept;
  rest = replaced_rest dir named start d number may.numbered may.rest later kept replaces edits has;
  folder = replaced_folder dir named start d number may.numbered may.rest later kept replaces edits has may.folder;
  numbered = may.numbered;
  current = has.current;
  manifest = has.manifest;
  log_fits = may.log_fits;
  contents = may.contents;
  sequence = may.sequence;
  may = may.may;
  says = says_still dir named d number may.numbered may.contents may.sequence edits may.says later replaces;
}

pub begun_log : (dir : List ℕ) → is_folder_name dir ≡ true → (start d : State) (number : ℕ)
    → MayBegin dir start d number → (later : State) → KeepsFolder dir start later → ReplacesAt dir number d later
    → HasReplaced later dir number (first_edit number ∷ []) → MayMakeLog dir start later number (first_edit number ∷ [])
begun_log dir named start d number may later kept replaces has = record {
  kept = kept;
  rest = replaced_rest dir named start d number may.numbered may.rest later kept replaces (first_edit number ∷ []) has;
  folder = replaced_folder dir named start d number may.numbered may.rest later kept replaces (first_edit number ∷ []) has
      may.folder;
  numbered = may.numbered;
  current = has.current;
  manifest = has.manifest;
  log_fits = subst (λ (n : ℕ). IsFileName (Log n)) (sym (first_log number)) may.log_fits;
  contents = finmap.empty;
  sequence = 0;
  may = may.may;
  says = says_still dir named d number may.numbered finmap.empty 0 (first_edit number ∷ []) may.says later replaces;
}
