-- An opening of a folder that stands, or of one that can't be a store's.
use Rattle.std.specs.Prelude.{◌≡◌, ℕ, ◌+◌, ◌^◌, ◌<◌, ◌≤◌, true, is_some, List, length, All, Some, None, Ok, Err, IfSome}
use Rattle.std.proofs.Common.{sym, ap, subst, ◌∙◌}
use Rattle.std.specs.FinMap as finmap
use Rattle.std.specs.Ordering.{nat_cmp}
use Rattle.lsm_names.specs.FileNames.{IsFileName}
use Rattle.lsm_names.specs.Folders.{is_folder_name}
use Rattle.lsm_names.specs.declared.file_names.FileName.{FileName}
use Rattle.lsm_names.specs.declared.file_names.FileName.TheVariants.{Log, Manifest}
use Rattle.lsm_disk.specs.State as disk
use Rattle.lsm_disk.specs.State.{Seen, Story, after, file_synced, state_of}
use Rattle.lsm_disk.specs.Goes.{Went}
use Rattle.lsm_disk.specs.Tree.{TellsLawful}
use Rattle.lsm_disk.specs.Dest.{path_in}
use Rattle.lsm_wal.specs.Shown as wal
use Rattle.lsm_manifest.specs.Shown as manifest
use Rattle.lsm_recover.specs.declared.errors.FolderError.{FolderError}
use Rattle.lsm_recover.specs.declared.site.Site.{Site}
use Rattle.lsm_recover.specs.declared.site.Site.TheVariants as site
use Rattle.lsm_recover.specs.Site.{AnswersSite, HasSiteCause, IsStoreSite}
use Rattle.lsm_opening.specs.declared.errors.OpenError.{OpenError}
use Rattle.lsm_opening.specs.declared.installing.Recovered.{Recovered}
use Rattle.lsm_opening.specs.Recovering.{HasOpenCause, HasRecoveredFrom, IsReady, IsRecoveredBy, IsSoundRecovered}
use Rattle.lsm_model.specs.declared.errors.StoreError.{StoreError}
use Rattle.lsm_model.specs.declared.states.State.{State}
use Rattle.lsm_refine.specs.FoundFolder.{Recovery, HasAdded, TellTables, recovered_store}
use Rattle.lsm_refine.specs.Grown.{IsDrawn}
use Rattle.lsm_refine.specs.OpeningImages.{KeepsFolder}
use Rattle.lsm_refine.specs.Openings.{HasOnlyFiles, IsFound, IsKeptImage, OpensTo}
use Rattle.lsm_refine.specs.WholeEdits.{AreInRange}
use Rattle.lsm_version.specs.Levels.{Tables}
use Rattle.lsm_refine.proofs.OpeningBegins.{file_found}
use Rattle.lsm_refine.proofs.TableSyncs.{files_image}
use Rattle.lsm_refine.proofs.RecoveredOpenings.{recovered_opens}
use Rattle.lsm_store.specs.Opening.{Begins, IsBegunBy, IsBehindSync, IsSoundBegun, KeepsFrom, begun_store, own_error, open_error}
use Rattle.lsm_store.specs.declared.opening.Begun.{Begun}
use Rattle.lsm_store.proofs.NewStores.{store_not_fresh}
use Rattle.lsm_store.proofs.OpenBegins.{behind_found, behind_kept, told_so, unwritten}
use Rattle.lsm_store.proofs.OpenCauses.{open_cause, opened_since, site_cause}

-- ---- no site

pub site_refused : (dir : List ℕ) → is_folder_name dir ≡ true → (old new : Seen) → new.told ≡ old.told → (e : FolderError)
    → HasSiteCause {T = Site} dir old new (Err e) → (why : StoreError) → why ≡ own_error e → Begins dir old new (Err why)
site_refused dir named old new same e cause why why_is =
    subst (λ (w : StoreError). Begins dir old new (Err w)) (sym why_is) (record {
      sound = tt;
      leads = tt;
      keeps = λ before mid told synced. unwritten dir named before mid synced new.told (same ∙ told);
      by = record {
        faults = cause.faults_later;
        refusals = cause.refusals_later;
        cause = site_cause dir old new e cause.counted;
      };
    })

-- ---- a store

module _ (dir : List ℕ) (recovery : Recovery) (r : Recovered) (b : Begun) (is : IsRecoveredBy dir recovery r)
    (by : IsBegunBy r b) where
  -- contracts see the store that the opening makes
  pub begun_recovered : (seen : Seen) → begun_store seen dir b ≡ recovered_store seen dir recovery finmap.empty b.known.items
  begun_recovered seen = λ i. begun_store seen dir (record {
    version = (by.version ∙ is.version) i;
    known = b.known;
    manifest = (by.manifest ∙ is.manifest) i;
    wal = (by.wal ∙ is.wal) i;
    log = (by.log ∙ is.log) i;
    sequence = (by.sequence ∙ is.sequence) i;
  })

no_views : (d later : disk.State) (dir : List ℕ) (recovery : Recovery) → TellTables d later dir recovery finmap.empty
no_views d later dir recovery number view is = let clash : None ≡ Some view = sym (finmap.get-empty nat_cmp number) ∙ is
    in absurd (cc)

pub begun_by_sound : (dir : List ℕ) (r : Recovered) (b : Begun) → IsBegunBy r b → IsSoundRecovered dir r → IsSoundBegun dir b
begun_by_sound dir r b by sound = record {
  some = subst (λ (n : ℕ). 1 ≤ n) (sym by.log) sound.some;
  most = subst (λ (n : ℕ). n + 1 < 2 ^ 56) (sym by.log) sound.most;
  last = subst (λ (n : ℕ). n < 2 ^ 56) (sym by.sequence) sound.last;
  fit = subst (All IsFileName) (sym by.known) sound.fit;
  names = subst (λ (names : List FileName). All (IsDrawn (b.log + 1)) names) (sym by.known)
      (subst (λ (n : ℕ). All (IsDrawn (n + 1)) r.names) (sym by.log) sound.names);
  manifest_in = ap (λ (x : manifest.Shown). x.dir) by.manifest ∙ sound.manifest_in;
  manifest_is = ap (λ (x : manifest.Shown). x.path) by.manifest ∙ sound.manifest_is
      ∙ sym (ap (λ (x : manifest.Shown). path_in dir (Manifest x.number)) by.manifest);
  wal_is = ap (λ (x : wal.Shown). x.path) by.wal ∙ sound.wal_is ∙ sym (ap (λ (n : ℕ). path_in dir (Log n)) by.log);
  range = subst AreInRange (sym by.version) sound.range;
  below = λ number is. subst (λ (n : ℕ). number < n) (sym by.log)
      (sound.below number (subst (λ (t : Tables). is_some (finmap.get t number) ≡ true) by.version is));
}

module _ (dir : List ℕ) (named : is_folder_name dir ≡ true) (short : length dir + 30 ≤ 160) (old at new : Seen)
    (same : at.told ≡ old.told) (lawful : TellsLawful old) (cause : HasSiteCause {T = Site} dir old at (Ok site.Store))
    (found_site : IfSome old.told (λ story. AnswersSite dir story (Ok site.Store))) where
  here : (mid : Story) → old.told ≡ Some mid → IsStoreSite dir mid
  here mid told = told_so _ old.told found_site mid told

  ready : (before mid : Story) → old.told ≡ Some mid → IsBehindSync before mid → (s : State) → s.own ≡ dir
      → IsFound (state_of before) s → IsReady dir mid
  ready before mid told synced s own found = record {
    settled = ap (λ (d : disk.State). d.pending) synced;
    lawful = told_so _ old.told lawful mid told;
    files = files_image (state_of mid) dir (λ t image. subst (λ (p : List ℕ). HasOnlyFiles p t.names) own
        ((behind_found dir named before mid synced s own found).images t image).files);
    site = here mid told;
  }

  module _ (images : (mid : Story) → at.told ≡ Some mid → IsReady dir mid → (s : State) → s.own ≡ dir → IsFound
      (state_of mid) s
      → (start : disk.State) → KeepsFolder dir start (state_of mid)
      → Went mid new.told (λ c. Unit {0}) (λ x t. IsKeptImage dir start t) (λ x. Unit {0})) where
    keeps : (before mid : Story) → old.told ≡ Some mid → IsBehindSync before mid → KeepsFrom before dir mid new.told
    keeps before mid told synced s own found = images mid (same ∙ told) (ready before mid told synced s own found) s own
        (behind_found dir named before mid synced s own found) (state_of before)
        (behind_kept dir named before mid synced s own found)

    pub recover_refused : (e : OpenError) → HasOpenCause {T = Recovered} dir at new (Err e)
        → (why : StoreError) → why ≡ open_error e → Begins dir old new (Err why)
    recover_refused e risen why why_is = subst (λ (w : StoreError). Begins dir old new (Err w)) (sym why_is) (record {
      sound = tt;
      leads = tt;
      keeps = keeps;
      by = opened_since dir old at new cause.faults_later cause.refusals_later {T = Begun} (Err (open_error e)) (record {
        faults = risen.faults_later;
        refusals = risen.refusals_later;
        cause = open_cause dir at new e risen.counted;
      });
    })

    module _ (r : Recovered) (b : Begun) (by : IsBegunBy r b) (sound : IsSoundRecovered dir r)
        (recovered : (mid : Story) → at.told ≡ Some mid → IsReady dir mid → HasRecoveredFrom dir mid new.told r)
        (risen : HasOpenCause dir at new (Ok r)) where
      leads_to : (before mid : Story) → old.told ≡ Some mid → IsBehindSync before mid → (s : State) → s.own ≡ dir
          → IsFound (state_of before) s → OpensTo s (begun_store new dir b)
      leads_to before mid told synced s own found =
          let gone = recovered mid (same ∙ told) (ready before mid told synced s own found) in
          let still = subst (λ (d : disk.State). IsFound d s) (sym gone.found_is)
          (file_found gone.path (state_of mid) s (behind_found dir named before mid synced s own found)) in
          subst (OpensTo s) (sym (begun_recovered dir gone.recovery r b gone.is by new))
          (recovered_opens gone.found dir named gone.recovery gone.read gone.story new gone.tells gone.gone finmap.empty
          (no_views (state_of gone.found) (state_of gone.story) dir gone.recovery) b.known.items
          (subst (HasAdded gone.recovery) (sym by.known) gone.is.names) s own still)

      pub recover_made : Begins dir old new (Ok b)
      recover_made = record {
        sound = begun_by_sound dir r b by sound;
        leads = λ before mid told synced. record {
          leads = leads_to before mid told synced;
          fresh = λ is_fresh clear. absurd (store_not_fresh dir named short before mid synced (here mid told) is_fresh);
        };
        keeps = keeps;
        by = opened_since dir old at new cause.faults_later cause.refusals_later (Ok b) (record {
          faults = risen.faults_later;
          refusals = risen.refusals_later;
          cause = tt;
        });
      }
