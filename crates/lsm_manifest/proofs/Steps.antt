-- What each call of an append leaves.
use Rattle.std.specs.Prelude.{◌≡◌, ◌⊎◌, ℕ, ◌+◌, ◌≤◌, List, [], ◌∷◌, ◌++◌, length, take, Option, Some, Ok, Err}
use Rattle.std.proofs.Common.{⊎_elim, refl, sym, ap, subst, ◌∙◌, arith, length-append}
use Rattle.std.proofs.lemmas.List.{append-nil, take_all}
use Rattle.std.proofs.lemmas.List.Elements.{All-push}
use Rattle.lsm_disk.specs.State.{State, Story, FileState, state_of, bytes_of, longer, sure, appended, file_synced}
use Rattle.lsm_disk.specs.Images.{Tree}
use Rattle.lsm_disk.specs.Goes.{Shows, Went}
use Rattle.lsm_disk.specs.Kept.{IsKeptFile, InFile}
use Rattle.lsm_disk.specs.Answers.{Makes, MakesFront, LeftBy, Allowed}
use Rattle.lsm_disk.specs.Refusals.{no_file}
use Rattle.lsm_disk.specs.declared.calls.DiskCall.TheVariants.{Append, Sync}
use Rattle.lsm_disk.specs.declared.calls.DiskError.{DiskError}
use Rattle.lsm_disk.specs.declared.calls.DiskRefusal.{DiskRefusal}
use Rattle.lsm_disk.proofs.Cuts.{take_past}
use Rattle.lsm_disk.proofs.Kept.{kept_appended, kept_synced, appends_in, syncs_in}
use Rattle.lsm_disk.proofs.Runs.{went_start, went_weaker, went_ok, went_err, went_append_err}
use Rattle.lsm_publish.specs.Publishing.{written}
use Rattle.lsm_version.specs.declared.edits.Edit.{Edit}
use Rattle.lsm_version.specs.Edits.{IsEdit}
use Rattle.lsm_manifest.specs.Texts.{IsTaken, manifest_text, record_behind}
use Rattle.lsm_manifest.specs.Standing.{Stands, IsTornManifest, HoldsEither, HasWhole, IsLeft}
use Rattle.lsm_manifest.proofs.Texts.{text_push}
use Rattle.lsm_manifest.proofs.Cuts.{IsFrontFile, file_shows}

-- a call has one name
neither : Append ≡ Sync → ⊥
neither e = cc

module _ (path : List ℕ) (edits : List Edit) (next : Edit) (bytes : List ℕ) (is : bytes ≡ record_behind edits next) (start : State) (stands : Stands start path edits) where
  abbrev text : List ℕ
  text = manifest_text edits

  abbrev old : FileState
  old = written (manifest_text edits)

  abbrev all : List Edit
  all = edits ++ next ∷ []

  abbrev Kept : FileState → State → Type 0
  Kept g s = IsKeptFile s path stands.id g

  abbrev P : State → Tree → Type 0
  P = HoldsEither path edits next

  -- so much of the record stands behind the edits, and no less is synced
  record HasGrown (g : FileState) : Type 0 where
    pub count : ℕ
    pub text : bytes_of g ≡ manifest_text edits ++ take count bytes
    pub synced : length (manifest_text edits) ≤ length g.synced

  abbrev part : ℕ → FileState
  part n = longer (take n bytes) old

  abbrev whole : FileState
  whole = longer bytes old

  grown_none : HasGrown old
  grown_none = record { count = 0; text = refl; synced = omega arith }

  grown_part : (n : ℕ) → HasGrown (part n)
  grown_part n = record { count = n; text = refl; synced = omega arith }

  all_of : take (length bytes) bytes ≡ bytes
  all_of = take_all (length bytes) bytes (omega arith)

  grown_all : HasGrown whole
  grown_all = record { count = length bytes; text = ap (λ (l : List ℕ). text ++ l) (sym all_of); synced = omega arith }

  grown_sure : HasGrown (sure whole)
  grown_sure = record { count = length bytes; text = append-nil (text ++ bytes) ∙ ap (λ (l : List ℕ). text ++ l) (sym all_of); synced = omega (arith, length-append text bytes) }

  text_all : manifest_text all ≡ text ++ bytes
  text_all = text_push edits next ∙ ap (λ (l : List ℕ). text ++ l) (sym is)

  is_front : (g : FileState) → HasGrown g → IsFrontFile edits next g
  is_front g grown = record {
    count = length text + grown.count;
    text = grown.text ∙ sym (ap (take (length text + grown.count)) text_all ∙ take_past (length text + grown.count) grown.count text bytes refl);
    synced = grown.synced;
  }

  shows : (g : FileState) → HasGrown g → (s : State) → Kept g s → Shows P s
  shows g grown = file_shows path edits next stands.id g (is_front g grown)

  -- what then stands
  torn : (g : FileState) → HasGrown g → (s : State) → Kept g s → IsTornManifest s path edits next
  torn g grown s kept = record {
    id = stands.id;
    file = g;
    kept = kept;
    count = grown.count;
    text = grown.text ∙ ap (λ (l : List ℕ). text ++ take grown.count l) is;
    synced = grown.synced;
    each = stands.each;
  }

  has_whole : (g : FileState) → bytes_of g ≡ text ++ bytes → (s : State) → Kept g s → HasWhole s path edits next
  has_whole g same s kept = record { id = stands.id; file = g; kept = kept; text = same ∙ sym text_all }

  longer_stands : IsTaken next → (s : State) → Kept (sure whole) s → Stands s path all
  longer_stands taken s kept = record {
    id = stands.id;
    kept = subst (λ (l : List ℕ). IsKeptFile s path stands.id (written l)) (sym text_all) kept;
    each = All-push IsEdit edits next stands.each taken.grammar;
  }

  module _ (story : Story) {o1 : Option Story} (tells : o1 ≡ Some story) (here : start ≡ state_of story) where
    begun : Went story o1 (InFile stands.id) P (Kept old)
    begun = went_start (Kept old) tells (subst (Kept old) here stands.kept) (shows old grown_none)

    -- nothing changed
    pub after_nothing : (T : Type 0) (r : DiskRefusal) → r.at.call ≡ Append → Went story o1 (InFile stands.id) P (IsLeft {T = T} path edits next (Err r))
    after_nothing T r call = went_weaker (Kept old) (IsLeft {T = T} path edits next (Err r)) (λ s k. (torn old grown_none s k, λ other. absurd (neither (sym call ∙ other)))) begun

    module _ {o2 : Option Story} where
      after_append : Makes o1 (appended path bytes) o2 → Went story o2 (InFile stands.id) P (Kept whole)
      after_append makes = went_ok (Kept old) (Kept whole) (appended path bytes) makes (λ s k. appends_in s path stands.id old k bytes) (λ s k. kept_appended s path stands.id old k bytes) (shows whole grown_all) begun

      pub after_refused_append : (T : Type 0) (r : DiskRefusal) (e : DiskError) → r.at.call ≡ Append → LeftBy (o2 ≡ o1) (Allowed (no_file path) o1 × MakesFront path bytes o1 o2) e
          → Went story o2 (InFile stands.id) P (IsLeft {T = T} path edits next (Err r))
      after_refused_append T r e call left = went_weaker (λ s. Kept old s ⊎ ((n : ℕ) × Kept (part n) s)) (IsLeft {T = T} path edits next (Err r))
          (λ s k. (⊎_elim (torn old grown_none s) (λ p. torn (part p.0) (grown_part p.0) s p.1) k, λ other. absurd (neither (sym call ∙ other))))
          (went_append_err (Kept old) (λ n. Kept (part n)) path bytes e left (λ n s k. appends_in s path stands.id old k (take n bytes)) (λ n s k. kept_appended s path stands.id old k (take n bytes)) (λ n. shows (part n) (grown_part n)) begun)

      module _ {o3 : Option Story} where
        pub after_sync : {T : Type 0} (value : T) → IsTaken next → Makes o1 (appended path bytes) o2 → Makes o2 (file_synced path) o3 → Went story o3 (InFile stands.id) P (IsLeft path edits next (Ok value))
        after_sync value taken makes then_ = went_weaker (Kept (sure whole)) (IsLeft path edits next (Ok value)) (longer_stands taken)
            (went_ok (Kept whole) (Kept (sure whole)) (file_synced path) then_ (λ s k. syncs_in s path stands.id whole k) (λ s k. kept_synced s path stands.id whole k) (shows (sure whole) grown_sure) (after_append makes))

        pub after_refused_sync : (T : Type 0) (r : DiskRefusal) (e : DiskError) → Makes o1 (appended path bytes) o2 → LeftBy (o3 ≡ o2) (Allowed (no_file path) o2 × Makes o2 (file_synced path) o3) e
            → Went story o3 (InFile stands.id) P (IsLeft {T = T} path edits next (Err r))
        after_refused_sync T r e makes left = went_weaker (λ s. Kept whole s ⊎ Kept (sure whole) s) (IsLeft {T = T} path edits next (Err r))
            (λ s. ⊎_elim
            (λ k. (torn whole grown_all s k, λ call. has_whole whole refl s k))
            (λ k. (torn (sure whole) grown_sure s k, λ call. has_whole (sure whole) (append-nil (text ++ bytes)) s k)))
            (went_err (Kept whole) (Kept (sure whole)) (file_synced path) (no_file path) e left (λ s k. syncs_in s path stands.id whole k) (λ s k. kept_synced s path stands.id whole k) (shows (sure whole) grown_sure) (after_append makes))
