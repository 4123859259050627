-- An opening that made a new store: the store is good for whatever was found, and nothing was lost.
use Rattle.std.specs.Prelude.{◌≡◌, ℕ, ◌+◌, ◌≤◌, true, false, is_some, List, [], ◌∷◌, length, All, Some, None, Result, Ok, Err, IfSome}
use Rattle.std.proofs.Common.{sym, ap, subst, ◌∙◌, arith}
use Rattle.std.proofs.lemmas.List.Elements.{All-nil}
use Rattle.std.specs.FinMap as finmap
use Rattle.std.specs.Ordering.{nat_cmp}
use Rattle.lsm_names.specs.Folders.{is_folder_name}
use Rattle.lsm_names.specs.FileNames.{IsFileName, spelled}
use Rattle.lsm_names.specs.declared.file_names.FileName.{FileName}
use Rattle.lsm_names.specs.declared.file_names.FileName.TheVariants.{Log, Manifest}
use Rattle.lsm_names.proofs.FolderLemmas.{folder_is_component, folder_has_bytes}
use Rattle.lsm_disk.specs.Names.{Folder_node, Put, stands}
use Rattle.lsm_disk.specs.State as disk
use Rattle.lsm_disk.specs.State.{Seen, Story, Named, Names_synced, after, folder_made, names_now, state_of}
use Rattle.lsm_disk.specs.Images.{Tree, tree_now}
use Rattle.lsm_disk.specs.Tree.{TellsLawful}
use Rattle.lsm_disk.specs.Kept.{Making}
use Rattle.lsm_disk.specs.Dest.{path_in}
use Rattle.lsm_disk.proofs.Runs.{went_wider}
use Rattle.lsm_wal.specs.Making.{MayHaveNew}
use Rattle.lsm_version.specs.declared.tables.Placed.{Placed}
use Rattle.lsm_version.specs.Versions.{empty_version}
use Rattle.lsm_wal.specs.Shown as wal
use Rattle.lsm_manifest.specs.Shown as manifest
use Rattle.lsm_folder.specs.Files.{place_of}
use Rattle.lsm_folder.specs.Needed.{IsFresh}
use Rattle.lsm_recover.specs.declared.site.Site.{Site}
use Rattle.lsm_recover.specs.declared.site.Site.TheVariants as site
use Rattle.lsm_recover.specs.Site.{AnswersSite, IsBefore, HasSiteCause}
use Rattle.lsm_model.specs.declared.errors.StoreError.{StoreError}
use Rattle.lsm_model.specs.declared.states.State.{State}
use Rattle.lsm_refine.specs.Beside.{WritesNew, MakesAt}
use Rattle.lsm_refine.specs.Folders.{ChangesInside, FoldersRead}
use Rattle.lsm_refine.specs.Grown.{IsDrawn}
use Rattle.lsm_refine.specs.Kept.{Shown}
use Rattle.lsm_refine.specs.Naming.{ReplacesAt, HasReplaced}
use Rattle.lsm_refine.specs.New.{first_edit, new_names, new_store, HasNewStore}
use Rattle.lsm_refine.specs.Openings.{Holds, As_store, As_fresh, IsFound, IsNewStore, IsUnwritten, OpensTo}
use Rattle.lsm_refine.specs.Vacant.{IsVacant, with_folder}
use Rattle.lsm_refine.proofs.FolderDisks.{apart_from}
use Rattle.lsm_refine.proofs.IdleLemmas.{not_fresh}
use Rattle.lsm_refine.proofs.NewFileLemmas.{went_making}
use Rattle.lsm_refine.proofs.NewStoreLemmas.{new_vacant}
use Rattle.lsm_refine.proofs.OtherFileLemmas.{flat}
use Rattle.lsm_refine.proofs.OutsideLemmas.{folders_stay, change_inside, inside_both}
use Rattle.lsm_refine.proofs.ReopenLemmas.{new_opens}
use Rattle.lsm_refine.proofs.ReplacedFrames.{went_replacing}
use Rattle.lsm_store.specs.Inside.{shown_of}
use Rattle.lsm_store.specs.NewStores.{GoesToStore, HasNewCause, HasNoneOrFirst, IsFree, IsNewParts, MakesAnew, anew_calls}
use Rattle.lsm_store.specs.Opening.{Begins, IsBehindSync, IsSoundBegun, KeepsFrom, LeadsFrom, begun_store, new_begun}
use Rattle.lsm_store.specs.declared.opening.Begun.{Begun}
use Rattle.lsm_store.specs.declared.opening_new.NewParts.{NewParts}
use Rattle.lsm_store.proofs.NewFiles.{file_number}
use Rattle.lsm_store.proofs.NewImages.{anew_keeps}
use Rattle.lsm_store.proofs.NewInside.{new_inner, new_inside}
use Rattle.lsm_store.proofs.NewStores.{anew_is_new, site_free}
use Rattle.lsm_store.proofs.OpenBegins.{behind_found, behind_kept, told_so}
use Rattle.lsm_store.proofs.OpenCauses.{new_cause, opened_since}

pub same_story : (x y : Story) → Some x ≡ Some y → x ≡ y
same_story x y same = cc

-- ---- what a new store begins with

module _ (dir : List ℕ) (m : ℕ) (beside : List FileName) (parts : NewParts) (is : IsNewParts dir m beside parts) where
  next_is : (m + 1) + 1 ≡ m + 2
  next_is = omega arith

  pub begun_is : (seen : Seen) → begun_store seen dir (new_begun parts m) ≡ new_store seen dir m beside
  begun_is seen = ap shown_of (λ i. record (new_inner seen dir m beside) {
    wal = is.files.wal i;
    next = next_is i;
    known = is.known i;
    manifest = is.files.manifest i;
  })

  no_table : {A : Type 0} (number : ℕ) (placed : Placed) → finmap.get empty_version number ≡ Some placed → A
  no_table number placed is = let clash : None ≡ Some placed = sym (finmap.get-empty nat_cmp number) ∙ is in absurd (cc)

  pub begun_sound : 1 ≤ m → All (IsBefore m) beside → IsSoundBegun dir (new_begun parts m)
  begun_sound least before =
      let inside = new_inside (record { told = None; faults = 0; refusals = 0 }) dir m beside least is.small before in
      record {
        some = omega arith;
        most = omega (arith, is.small);
        last = omega arith;
        fit = subst (All IsFileName) (sym is.known) inside.fit;
        names = subst (λ (names : List FileName). All (IsDrawn ((m + 1) + 1)) names) (sym is.known)
            (subst (λ (n : ℕ). All (IsDrawn n) (new_names m beside)) (sym next_is) inside.below);
        manifest_in = ap (λ (x : manifest.Shown). x.dir) is.files.manifest;
        manifest_is = ap (λ (x : manifest.Shown). x.path) is.files.manifest
            ∙ sym (ap (λ (x : manifest.Shown). path_in dir (Manifest x.number)) is.files.manifest);
        wal_is = ap (λ (x : wal.Shown). x.path) is.files.wal;
        range = record { each = λ number placed is. no_table number placed is };
        below = λ number is.
            let clash : false ≡ true = sym (ap is_some (finmap.get-empty nat_cmp number)) ∙ is in
            absurd (cc);
      }

-- ---- the other folders

module _ (dir : List ℕ) (named : is_folder_name dir ≡ true) where
  -- the new files are inside the folder
  pub files_inside : (m : ℕ) (beside : List FileName) (start now : Story) → IsVacant (state_of start) dir m beside
      → GoesToStore dir m beside start now → ChangesInside dir (state_of start) (state_of now)
  files_inside m beside start now vacant gone =
      let fits = file_number m vacant.least (omega (arith, vacant.most)) in
      let log_fits = file_number (m + 1) (omega arith) (omega (arith, vacant.most)) in
      let first = went_replacing dir named m fits fits start (Some gone.mid) (HasNoneOrFirst dir m) (HasNoneOrFirst dir m)
      (λ x. HasReplaced x dir m (first_edit m ∷ [])) vacant.lead vacant.files (λ x t at image held. held) gone.manifest in
      let at : ReplacesAt dir m (state_of start) (state_of gone.mid) =
      subst (λ (s : Story). ReplacesAt dir m (state_of start) (state_of s))
      (sym (same_story gone.mid first.story first.tells)) first.now.1 in
      let path = path_in dir (Log (m + 1)) in
      let last = went_making dir (Log (m + 1)) named log_fits (MayHaveNew (state_of gone.mid) path)
      (λ x. HasNewStore x dir m beside) at.lead
      (λ x t makes image held. held)
      (went_wider (Making path) (WritesNew path (length (state_of gone.mid).files)) (MayHaveNew (state_of gone.mid) path)
      (MayHaveNew (state_of gone.mid) path) (as_written path (length (state_of gone.mid).files))
      (λ x t held. held) gone.log) in
      let makes : MakesAt dir (Log (m + 1)) (state_of gone.mid) (state_of now) =
      subst (λ (s : Story). MakesAt dir (Log (m + 1)) (state_of gone.mid) (state_of s))
      (sym (same_story now last.story last.tells)) last.now.1 in
      inside_both dir (state_of start) (state_of gone.mid) (state_of now) at.inside makes.inside
    where
      as_written : (path : List ℕ) (id : ℕ) (c : disk.Change) → Making path c → WritesNew path id c
      as_written path id (disk.Created other) kind = kind
      as_written path id (disk.Named op) kind = absurd kind
      as_written path id (disk.Appended k bytes) kind = absurd kind
      as_written path id (disk.Synced k) kind = absurd kind
      as_written path id disk.Names_synced kind = tt
      as_written path id disk.Idle kind = tt

  -- so is the folder itself
  folder_inside : (d : disk.State) → ChangesInside dir d (with_folder dir d)
  folder_inside d =
      let made = after d (folder_made dir d) in
      inside_both dir d made (after made Names_synced)
      (change_inside dir d (Named (Put dir Folder_node)) (record {
        names = λ name fits other. other;
        files = λ name file fits other is same. apart_from dir name (spelled file) (flat dir (folder_is_component dir named))
            (sym same);
      }) tt)
      (change_inside dir made Names_synced
      (record { names = λ name fits other. tt; files = λ name file fits other is. tt }) tt)

  -- ---- what was found

  module _ (s : State) (own : s.own ≡ dir) where
    -- a new store is what the opening makes of nothing
    pub new_leads : (before : Story) (v : Shown) (new : IsNewStore before dir v) → IsUnwritten s → FoldersRead
        (state_of new.story) s
        → OpensTo s v
    new_leads before v = subst (λ (p : List ℕ). (new : IsNewStore before p v) → IsUnwritten s → FoldersRead
        (state_of new.story) s
        → OpensTo s v) own (λ new none read. new_opens s before v new none read)

    pub folders_read : (d later : disk.State) → ChangesInside dir d later → IsFound d s → FoldersRead later s
    folders_read d later inside found =
        folders_stay d later s (subst (λ (p : List ℕ). ChangesInside p d later) (sym own) inside) found.folders

    -- where no folder stands for anything, nothing was written
    pub fresh_unwritten : (t : Tree) (count : ℕ) → Holds s t count → IsFresh (place_of dir t) → IsUnwritten s
    fresh_unwritten t count (As_fresh fresh none) now = none
    fresh_unwritten t count (As_store is) now = not_fresh s.own t _ _ (subst (λ (p : List ℕ). 1 ≤ length p) (sym own)
        (folder_has_bytes dir named)) is.folder is.stands (subst (λ (p : List ℕ). IsFresh (place_of p t)) (sym own) now)

    pub free_unwritten : (t : Tree) (count : ℕ) → Holds s t count → finmap.get t.names dir ≡ None → IsUnwritten s
    free_unwritten t count (As_fresh fresh none) free = none
    free_unwritten t count (As_store is) free =
        let clash : None ≡ Some Folder_node = sym free ∙ subst
        (λ (p : List ℕ). finmap.get t.names p ≡ Some Folder_node) own is.folder in
        absurd (cc)

-- ---- where nothing had the name

module _ (dir : List ℕ) (named : is_folder_name dir ≡ true) (short : length dir + 30 ≤ 160) (old at new : Seen)
    (same : at.told ≡ old.told) (lawful : TellsLawful old)
    (cause : HasSiteCause {T = Site} dir old at (Ok site.Nothing)) where
  module _ (found_site : IfSome old.told (λ story. AnswersSite dir story (Ok site.Nothing))) where
    none : (mid : Story) → old.told ≡ Some mid → stands (names_now (state_of mid)) dir ≡ None
    none mid told = told_so _ old.told found_site mid told

    free : (before mid : Story) → old.told ≡ Some mid → IsBehindSync before mid → (s : State) → IsFound (state_of before) s
        → IsFree (state_of mid) dir
    free before mid told synced s found =
        site_free dir named short before mid synced (told_so _ old.told lawful mid told) found.clear (none mid told)

    module _ (result : Result NewParts StoreError)
        (went : (story : Story) → at.told ≡ Some story → IsFree (state_of story) dir
        → MakesAnew dir story new.told result) (new_is : HasNewCause (anew_calls dir) 1 at new result) where
      keeps : (before mid : Story) → old.told ≡ Some mid → IsBehindSync before mid → KeepsFrom before dir mid new.told
      keeps before mid told synced s own found =
          let vacant = free before mid told synced s found in
          anew_keeps dir named (state_of before) mid
          (behind_kept dir named before mid synced s own found) vacant new.told result
          (went mid (same ∙ told) vacant)

    pub anew_refused : (e : StoreError) → ((story : Story) → at.told ≡ Some story → IsFree (state_of story) dir
        → MakesAnew dir story new.told (Err e)) → HasNewCause {T = NewParts} (anew_calls dir) 1 at new (Err e)
        → Begins dir old new (Err e)
    anew_refused e went new_is = record {
      sound = tt;
      leads = tt;
      keeps = keeps (Err e) went new_is;
      by = opened_since dir old at new cause.faults_later cause.refusals_later {T = Begun} (Err e) (record {
        faults = new_is.faults;
        refusals = new_is.refusals;
        cause = new_cause dir at new (anew_calls dir) 1 e new_is.answer;
      });
    }

    module _ (parts : NewParts) (is : IsNewParts dir 1 [] parts) (went : (story : Story) → at.told ≡ Some story
        → IsFree (state_of story) dir → MakesAnew dir story new.told (Ok parts))
        (new_is : HasNewCause (anew_calls dir) 1 at new (Ok parts)) where
      leads : (before mid : Story) → old.told ≡ Some mid → IsBehindSync before mid
          → LeadsFrom before dir (begun_store new dir (new_begun parts 1))
      leads before mid told synced =
          let lawful_mid = told_so _ old.told lawful mid told in
          let v = begun_store new dir (new_begun parts 1) in
          let nothing = none mid told in
          record {
            leads = λ s own found.
                let vacant = site_free dir named short before mid synced lawful_mid found.clear nothing in
                let made = went mid (same ∙ told) vacant in
                let store = anew_is_new dir named short before mid synced lawful_mid found.clear nothing parts v made
                (begun_is dir 1 [] parts is new) in
                new_leads dir named s own before v store
                (free_unwritten dir named s own (tree_now (state_of before)) found.now.count found.now.holds
                (subst (λ (t : Tree). finmap.get t.names dir ≡ None) (ap tree_now synced) vacant.free))
                (subst (λ (last : Story). FoldersRead (state_of last) s)
                (same_story made.now store.story (sym made.tells ∙ store.told))
                (folders_read dir named s own (state_of mid) (state_of made.now)
                (inside_both dir (state_of mid) (with_folder dir (state_of mid)) (state_of made.now)
                (folder_inside dir named (state_of mid))
                (anew_inside mid vacant made))
                (behind_found dir named before mid synced s own found)));
            fresh = λ is_fresh clear. anew_is_new dir named short before mid synced lawful_mid clear nothing parts v
                (went mid (same ∙ told) (site_free dir named short before mid synced lawful_mid clear nothing))
                (begun_is dir 1 [] parts is new);
          }
        where
          anew_inside : (mid : Story) → IsFree (state_of mid) dir → (made : MakesAnew dir mid new.told (Ok parts))
              → ChangesInside dir (with_folder dir (state_of mid)) (state_of made.now)
          anew_inside mid vacant made =
              let folder = made.goes.folder in
              let here : state_of made.goes.mid ≡ with_folder dir (state_of mid) =
              subst (λ (s : Story). state_of s ≡ with_folder dir (state_of mid))
              (sym (same_story made.goes.mid folder.story folder.tells)) folder.now in
              subst (λ (d : disk.State). ChangesInside dir d (state_of made.now)) here
              (files_inside dir named 1 [] made.goes.mid made.now
              (subst (λ (d : disk.State). IsVacant d dir 1 []) (sym here)
              (new_vacant (state_of mid) dir named vacant.lawful vacant.free vacant.clear)) made.goes.next)

      pub anew_made : (b : Begun) → b ≡ new_begun parts 1 → Begins dir old new (Ok b)
      anew_made b b_is = subst (λ (x : Begun). Begins dir old new (Ok x)) (sym b_is) (record {
        sound = begun_sound dir 1 [] parts is (omega arith) (All-nil (IsBefore 1));
        leads = leads;
        keeps = keeps (Ok parts) went new_is;
        by = opened_since dir old at new cause.faults_later cause.refusals_later (Ok (new_begun parts 1)) (record {
          faults = new_is.faults;
          refusals = new_is.refusals;
          cause = tt;
        });
      })
