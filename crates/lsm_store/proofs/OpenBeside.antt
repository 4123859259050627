-- An opening that made a new store in a fresh folder: the store is good for whatever was found, and nothing was lost.
use Rattle.std.specs.Prelude.{◌≡◌, ℕ, ◌+◌, ◌^◌, ◌≤◌, true, List, length, Some, Result, Ok, Err, IfSome}
use Rattle.std.proofs.Common.{⊎_elim, sym, ap, subst, ◌∙◌}
use Rattle.lsm_names.specs.Folders.{is_folder_name}
use Rattle.lsm_names.specs.declared.file_names.FileName.{FileName}
use Rattle.lsm_disk.specs.State.{Seen, Story, state_of}
use Rattle.lsm_disk.specs.Images.{Tree, tree_now}
use Rattle.lsm_disk.specs.Tree.{TellsLawful}
use Rattle.lsm_folder.specs.Files.{place_of}
use Rattle.lsm_folder.specs.Needed.{IsFresh}
use Rattle.lsm_recover.specs.declared.site.Site.{Site}
use Rattle.lsm_recover.specs.declared.site.Site.TheVariants as site
use Rattle.lsm_recover.specs.Site.{AnswersSite, IsFreshSite, AreNumbered, HasSiteCause}
use Rattle.lsm_model.specs.declared.errors.StoreError.{StoreError}
use Rattle.lsm_refine.specs.Folders.{FoldersRead}
use Rattle.lsm_refine.specs.Vacant.{IsVacant}
use Rattle.lsm_store.specs.NewStores.{HasNewCause, IsNewParts, MakesBeside, file_calls}
use Rattle.lsm_store.specs.Opening.{Begins, IsBehindSync, KeepsFrom, LeadsFrom, begun_store, new_begun}
use Rattle.lsm_store.specs.declared.opening.Begun.{Begun}
use Rattle.lsm_store.specs.declared.opening_new.NewParts.{NewParts}
use Rattle.lsm_store.proofs.NewImages.{beside_keeps}
use Rattle.lsm_store.proofs.NewStores.{beside_is_new, site_vacant}
use Rattle.lsm_opening.proofs.TableNumbers.{either}
use Rattle.lsm_store.proofs.OpenBegins.{behind_found, behind_kept, told_so, unwritten}
use Rattle.lsm_store.proofs.OpenCauses.{new_cause, opened_since}
use Rattle.lsm_store.proofs.OpenNew.{same_story, begun_is, begun_sound, files_inside, folders_read, fresh_unwritten, new_leads}

module _ (dir : List ℕ) (named : is_folder_name dir ≡ true) (short : length dir + 30 ≤ 160) (old at new : Seen)
    (same : at.told ≡ old.told) (lawful : TellsLawful old) (names : List FileName) (next : ℕ)
    (cause : HasSiteCause {T = Site} dir old at (Ok (site.Fresh names next)))
    (found_site : IfSome old.told (λ story. AnswersSite dir story (Ok (site.Fresh names next))))
    (idle : 2 ^ 56 ≤ next + 2 → new ≡ at) where
  here : (mid : Story) → old.told ≡ Some mid → IsFreshSite dir mid names next
  here mid told = told_so _ old.told found_site mid told

  module _ (result : Result NewParts StoreError) (went : (story : Story) → at.told ≡ Some story
      → IsVacant (state_of story) dir next names → MakesBeside dir next names story new.told result) where
    keeps : (before mid : Story) → old.told ≡ Some mid → IsBehindSync before mid → KeepsFrom before dir mid new.told
    keeps before mid told synced s own found = ⊎_elim
        (λ small.
        let vacant = site_vacant dir named short before mid synced (told_so _ old.told lawful mid told) found.clear names next
        (here mid told) small in
        beside_keeps dir named (state_of before) mid (behind_kept dir named before mid synced s own found) next names vacant
        (here mid told).fresh new.told result (went mid (same ∙ told) vacant))
        (λ big. unwritten dir named before mid synced new.told
        (ap (λ (x : Seen). x.told) (idle big) ∙ same ∙ told) s own found)
        (either (next + 2) (2 ^ 56))

  pub beside_refused : (e : StoreError) → ((story : Story) → at.told ≡ Some story → IsVacant (state_of story) dir next names
      → MakesBeside dir next names story new.told (Err e)) → HasNewCause {T = NewParts} (file_calls dir next) next at new
      (Err e)
      → Begins dir old new (Err e)
  beside_refused e went new_is = record {
    sound = tt;
    leads = tt;
    keeps = keeps (Err e) went;
    by = opened_since dir old at new cause.faults_later cause.refusals_later {T = Begun} (Err e) (record {
      faults = new_is.faults;
      refusals = new_is.refusals;
      cause = new_cause dir at new (file_calls dir next) next e new_is.answer;
    });
  }

  module _ (numbered : AreNumbered names next) (parts : NewParts) (is : IsNewParts dir next names parts)
      (went : (story : Story) → at.told ≡ Some story → IsVacant (state_of story) dir next names
      → MakesBeside dir next names story new.told (Ok parts))
      (new_is : HasNewCause (file_calls dir next) next at new (Ok parts)) where
    leads : (before mid : Story) → old.told ≡ Some mid → IsBehindSync before mid
        → LeadsFrom before dir (begun_store new dir (new_begun parts next))
    leads before mid told synced =
        let lawful_mid = told_so _ old.told lawful mid told in
        let v = begun_store new dir (new_begun parts next) in
        let fresh_site = here mid told in
        record {
          leads = λ s own found.
              let vacant =
              site_vacant dir named short before mid synced lawful_mid found.clear names next fresh_site is.small in
              let made = went mid (same ∙ told) vacant in
              let store =
              beside_is_new dir named short before mid synced lawful_mid found.clear names next fresh_site parts v made
              (begun_is dir next names parts is new) in
              new_leads dir named s own before v store
              (fresh_unwritten dir named s own (tree_now (state_of before)) found.now.count found.now.holds
              (subst (λ (t : Tree). IsFresh (place_of dir t)) (ap tree_now synced) fresh_site.fresh))
              (subst (λ (last : Story). FoldersRead (state_of last) s)
              (same_story made.now store.story (sym made.tells ∙ store.told))
              (folders_read dir named s own (state_of mid) (state_of made.now)
              (files_inside dir named next names mid made.now vacant made.goes)
              (behind_found dir named before mid synced s own found)));
          fresh = λ is_fresh clear.
              beside_is_new dir named short before mid synced lawful_mid clear names next fresh_site parts v
              (went mid (same ∙ told)
              (site_vacant dir named short before mid synced lawful_mid clear names next fresh_site is.small))
              (begun_is dir next names parts is new);
        }

    pub beside_made : (b : Begun) → b ≡ new_begun parts next → Begins dir old new (Ok b)
    beside_made b b_is = subst (λ (x : Begun). Begins dir old new (Ok x)) (sym b_is) (record {
      sound = begun_sound dir next names parts is numbered.some numbered.before;
      leads = leads;
      keeps = keeps (Ok parts) went;
      by = opened_since dir old at new cause.faults_later cause.refusals_later (Ok (new_begun parts next)) (record {
        faults = new_is.faults;
        refusals = new_is.refusals;
        cause = tt;
      });
    })
