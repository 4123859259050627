-- What a crash in the midst of a creation leaves of the backup.
use Rattle.std.specs.Prelude.{◌≡◌, ℕ, ◌≤◌, false, if◌then◌else◌, List, [], ◌∷◌, length, slice_index, Option, Some, None, Result, Ok, Err}
use Rattle.std.proofs.Common.{inl, inr, ⊎_elim, sym, ap, subst, ◌∙◌, arith}
use Rattle.std.specs.FinMap as map
use Rattle.lsm_names.specs.declared.file_names.FileName.{FileName}
use Rattle.lsm_disk.specs.State.{State, Story, Change, Created, Named, Appended, Synced, Names_synced, Idle, after, after_all, state_of, folder_made}
use Rattle.lsm_disk.specs.Names.{NameOp, Put, Gone, Moved}
use Rattle.lsm_disk.specs.Images.{Tree, IsImage, bytes_at}
use Rattle.lsm_disk.specs.Goes.{Each, Shows, Along, Went}
use Rattle.lsm_disk.specs.Answers.{Makes, LeftBy, Allowed}
use Rattle.lsm_disk.specs.Kept.{IsKeptName, SparesName, OpSpares}
use Rattle.lsm_disk.specs.Tree.{IsLawful}
use Rattle.lsm_disk.specs.Viewed.{Viewed}
use Rattle.lsm_disk.specs.declared.calls.DiskError.{DiskError}
use Rattle.lsm_disk.specs.declared.calls.DiskRefusal.{DiskRefusal}
use Rattle.lsm_disk.proofs.Named.{name_image, name_spared}
use Rattle.lsm_disk.proofs.Runs.{goes_state, went_start, went_weaker, went_wider, went_then}
use Rattle.lsm_publish.specs.Publishing.{Old, No_file, HasOld, HasOldOrNew, Writes, Switches, IsReady, Written, Switched}
use Rattle.bk_meta.specs.declared.metas.Meta.{Meta}
use Rattle.bk_meta.specs.Metas.{IsMeta, meta_text, meta_of}
use Rattle.bk_meta.proofs.RoundLemmas.{printed}
use Rattle.bk_tree.specs.Places.{meta_path}
use Rattle.bk_tree.specs.Listed.{is_listed}
use Rattle.bk_tree.specs.Holds.{◌>>=◌, ok_of, meta_in, held, folder_of}
use Rattle.bk_tree.specs.Kept.{AreKept}
use Rattle.bk_tree.proofs.Holding.{made_of, held_steps, meta_by, meta_steps}
use Rattle.bk_tree.proofs.Keeping.{identifier_of, texts_in_image}
use Rattle.bk_engine.specs.Copying.{Whatever, Anything}
use Rattle.bk_engine.specs.Paths.{own_folder, temporary_path}
use Rattle.bk_engine.specs.Creating.{plain_meta}
use Rattle.bk_engine.specs.Preparing.{Prepares, IsOwnPath, IsOwnFolder, AreNew, AreTexts}
use Rattle.bk_engine.specs.Publishing.{Creates, AreOwn, NoneOrHeld, HoldsWhole, NoneOrWhole}
use Rattle.bk_engine.proofs.Creations.{prepares_create, enough, folder_left, then_prepared}
use Rattle.bk_engine.proofs.Others.{never_listed}
use Rattle.bk_engine.proofs.Publications.{own_is_not_meta, meta_is_not_temporary, writes_create, switches_create, kept_through, all_written, WriteClause, SwitchClause, writing_done, at_paths}

-- ---- runs of changes

shown_along : (q : Change → Type 0) (P R : State → Tree → Type 0) (J : State → Type 0) → ((s : State) (c : Change) → q c → J s → J (after s c)) → ((s : State) (t : Tree) → IsImage s t → P s t → J s → R s t)
    → (cs : List Change) (s : State) → Each q cs → J s → Along P s cs → Along R s cs × J (after_all cs s)
shown_along q P R J step shows [] s each j along = (record { each = λ t image. shows s t image (along.each t image) j }, j)
shown_along q P R J step shows (c ∷ cs) s each j along =
    let rest = shown_along q P R J step shows cs (after s c) each.1 (step s c each.0 j) along.1 in
    ((record { each = λ t image. shows s t image (along.0.each t image) j }, rest.0), rest.1)

-- what each change keeps holds at the end, and each image shows what follows from it and from what it showed
went_shown : {start : Story} {told : Option Story} (q : Change → Type 0) (P R : State → Tree → Type 0) (I J : State → Type 0) → ((s : State) (c : Change) → q c → J s → J (after s c))
    → ((s : State) (t : Tree) → IsImage s t → P s t → J s → R s t) → J (state_of start) → Went start told q P I → Went start told q R (λ s. I s × J s)
went_shown {start} q P R I J step shows j w =
    let shown = shown_along q P R J step shows w.goes.more (state_of start) w.goes.kind j w.goes.along in
    record {
      story = w.story;
      tells = w.tells;
      goes = record { more = w.goes.more; grows = w.goes.grows; kind = w.goes.kind; along = shown.0 };
      now = (w.now, subst J (sym (goes_state w.goes)) shown.1);
    }

-- ---- before the meta is there

abbrev Free : ℕ → State → Type 0
Free id s = IsKeptName s (meta_path id) None

folder_spares : (id : ℕ) (op : NameOp) → IsOwnFolder id op → OpSpares (meta_path id) op
unfolding meta_path own_folder
folder_spares id (Put path node) is = λ same. absurd (omega (arith, ap (λ (l : List ℕ). slice_index l 0) (same ∙ is.0)))
folder_spares id (Gone path) is = absurd is
folder_spares id (Moved from to) is = absurd is

prepares_spare : (id first : ℕ) (c : Change) → Prepares id first c → SparesName (meta_path id) c
prepares_spare id first (Created path) is = λ same. own_is_not_meta id id path is (sym same)
prepares_spare id first (Named op) is = folder_spares id op is
prepares_spare id first (Appended k bytes) is = tt
prepares_spare id first (Synced k) is = tt
prepares_spare id first Names_synced is = tt
prepares_spare id first Idle is = tt

free_stays : (id first : ℕ) (s : State) (c : Change) → Prepares id first c → Free id s → Free id (after s c)
free_stays id first s c is free = name_spared s (meta_path id) None free c (prepares_spare id first c is)

free_unlisted : (id : ℕ) (s : State) (t : Tree) → IsImage s t → Free id s → is_listed t id ≡ false
free_unlisted id s t image free = never_listed t id (name_image s (meta_path id) None free t image)

-- while files are prepared, no image lists the backup
unlisted_yet : (id first : ℕ) {story : Story} {told : Option Story} (R : State → Tree → Type 0) (I : State → Type 0) → ((s : State) (t : Tree) → is_listed t id ≡ false → R s t) → Free id (state_of story)
    → Went story told (Prepares id first) Anything I → Went story told (Creates id first) R (λ s. I s × Free id s)
unlisted_yet id first R I unlisted free w =
    went_wider (Prepares id first) (Creates id first) R R (prepares_create id first) (λ s t p. p)
    (went_shown (Prepares id first) Anything R I (Free id) (free_stays id first) (λ s t image p free. unlisted s t (free_unlisted id s t image free)) free w)

-- where nothing was changed
unlisted_still : (id first : ℕ) (story : Story) {told : Option Story} (R : State → Tree → Type 0) → ((s : State) (t : Tree) → is_listed t id ≡ false → R s t) → Free id (state_of story) → told ≡ Some story
    → Went story told (Creates id first) R Whatever
unlisted_still id first story R unlisted free tells =
    went_weaker (Free id) Whatever (λ s i. tt) (went_start (Free id) tells free (λ s free. record { each = λ t image. unlisted s t (free_unlisted id s t image free) }))

-- ---- the publication

module _ (meta : Meta) (texts : List (List ℕ)) where
  held_by_bytes : (s : State) (t : Tree) → IsImage s t → IsMeta meta → AreKept s meta.files texts → bytes_at t (meta_path meta.id) ≡ Some (meta_text meta) → held t meta.id ≡ folder_of meta texts
  held_by_bytes s t image lawful kept is =
      let read : meta_in t meta.id ≡ Some meta = meta_steps t meta.id ∙ ap (meta_by meta.id) is
      ∙ ap (λ b. (if b then Some (meta_text meta) else None) >>= λ (bytes : List ℕ). ok_of (meta_of meta.id bytes)) (identifier_of meta lawful)
      ∙ ap ok_of (printed meta lawful) in
      held_steps t meta.id ∙ ap (made_of t) read ∙ ap (λ (o : Option (List (List ℕ))). o >>= folder_of meta) (texts_in_image s t image meta.files texts kept)

  none_or_held : (s : State) (t : Tree) → IsImage s t → IsMeta meta → HasOldOrNew (meta_path meta.id) No_file (meta_text meta) s t → AreKept s meta.files texts → NoneOrHeld meta texts s t
  none_or_held s t image lawful either kept = ⊎_elim (λ none. inl (never_listed t meta.id none)) (λ new. inr (held_by_bytes s t image lawful kept new)) either

  none_yet : (s : State) (t : Tree) → HasOld (meta_path meta.id) No_file s t → NoneOrHeld meta texts s t
  none_yet s t none = inl (never_listed t meta.id none)

  pub unpublished_crash : (first : ℕ) (story : Story) {told : Option Story} → Free meta.id (state_of story) → told ≡ Some story → Went story told (Creates meta.id first) (NoneOrHeld meta texts) Whatever
  unpublished_crash first story free tells = unlisted_still meta.id first story (NoneOrHeld meta texts) (λ s t none. inl none) free tells

  module _ (t0 t1 : Option Story) (temporary bytes : List ℕ) (is : temporary ≡ temporary_path meta.id) where
    pub writing_crash : (e : DiskRefusal) → WriteClause t0 t1 temporary bytes (Err e) → (story : Story) (first : ℕ) → t0 ≡ Some story → first ≤ length (state_of story).files → Free meta.id (state_of story)
        → Went story t1 (Creates meta.id first) (NoneOrHeld meta texts) Whatever
    writing_crash e clause story first tells le free =
        let n : ℕ = length (state_of story).files in
        let there : WriteClause t0 t1 (temporary_path meta.id) bytes (Err e) = subst (λ (x : List ℕ). WriteClause t0 t1 x bytes (Err e)) is clause in
        went_wider (Writes (temporary_path meta.id) n) (Creates meta.id first) (HasOld (meta_path meta.id) No_file) (NoneOrHeld meta texts) (writes_create meta.id first n le) none_yet
        (went_weaker (Written (temporary_path meta.id) (meta_path meta.id) No_file n bytes (Err e)) Whatever (λ s i. tt) (there story (meta_path meta.id) No_file tells free (meta_is_not_temporary meta.id)))

    -- the switch, made or not
    pub switch_crash : (t2 : Option Story) (path : List ℕ) → path ≡ meta_path meta.id → (value : Unit {0}) (r : Result (Unit {0}) DiskRefusal) → bytes ≡ meta_text meta → WriteClause t0 t1 temporary bytes (Ok value) → SwitchClause t1 t2 temporary path r → IsMeta meta
        → (story : Story) (first : ℕ) → t0 ≡ Some story → first ≤ length (state_of story).files → IsLawful (state_of story) → AreOwn meta.id meta.files → AreNew first (state_of story) meta.files texts → Free meta.id (state_of story)
        → Went story t2 (Creates meta.id first) (NoneOrHeld meta texts) Whatever
    switch_crash t2 path at value r text wrote clause lawful_meta story first tells le lawful own new free =
        let n : ℕ = length (state_of story).files in
        let Kept : State → Type 0 = λ s. AreKept s meta.files texts in
        let End : State → Type 0 = Switched (temporary_path meta.id) (meta_path meta.id) No_file n (meta_text meta) r in
        went_then (all_written meta first le No_file (NoneOrHeld meta texts) none_yet bytes texts lawful own new (writing_done meta t0 t1 temporary bytes is value No_file wrote story tells free))
        (λ mid told ready.
        went_wider (Switches (temporary_path meta.id) (meta_path meta.id)) (Creates meta.id first) (NoneOrHeld meta texts) (NoneOrHeld meta texts) (switches_create meta.id first) (λ s t p. p)
        (went_weaker (λ s. End s × Kept s) Whatever (λ s i. tt)
        (went_shown (Switches (temporary_path meta.id) (meta_path meta.id)) (HasOldOrNew (meta_path meta.id) No_file (meta_text meta)) (NoneOrHeld meta texts) End Kept (kept_through meta.id meta.files texts own)
        (λ s t image either kept. none_or_held s t image lawful_meta either kept) ready.1
        (at_paths meta t0 t1 temporary bytes is t2 path at r clause mid No_file n (meta_text meta) told (subst (λ (b : List ℕ). IsReady (temporary_path meta.id) (meta_path meta.id) No_file n b (state_of mid)) text ready.0)))))

-- ---- the whole creation

module _ (id timestamp sequence : ℕ) (names : List FileName) (views : List Viewed) where
  abbrev Shown_so : State → Tree → Type 0
  Shown_so = NoneOrWhole id timestamp sequence names views

  pub unmade_crash : (first : ℕ) (story : Story) {told : Option Story} → Free id (state_of story) → told ≡ Some story → Went story told (Creates id first) Shown_so Whatever
  unmade_crash first story free tells = unlisted_still id first story Shown_so (λ s t none. inl none) free tells

  whole_shown : (texts : List (List ℕ)) → AreTexts views texts → (s : State) (t : Tree) → NoneOrHeld (plain_meta id timestamp sequence names texts) texts s t → Shown_so s t
  whole_shown texts same s t either = ⊎_elim (λ none. inl none) (λ is. inr (record { texts = texts; of_views = same; holds = is })) either

  published_whole : {mid : Story} {told : Option Story} (first : ℕ) (meta : Meta) (texts : List (List ℕ)) → meta ≡ plain_meta id timestamp sequence names texts → AreTexts views texts
      → Went mid told (Creates meta.id first) (NoneOrHeld meta texts) Whatever → Went mid told (Creates id first) Shown_so Whatever
  published_whole {mid} {told} first meta texts is same w =
      let plain : Meta = plain_meta id timestamp sequence names texts in
      went_wider (Creates id first) (Creates id first) (NoneOrHeld plain texts) Shown_so (λ c k. k) (whole_shown texts same)
      (subst (λ (m : Meta). Went mid told (Creates m.id first) (NoneOrHeld m texts) Whatever) is w)

  module _ {t0 t1 : Option Story} (path : List ℕ) (is : path ≡ own_folder id) (story : Story) (tells : t0 ≡ Some story) (free : Free id (state_of story)) where
    pub folder_crash : (refusal : State → Option DiskError) (e : DiskError) → LeftBy (t1 ≡ t0) (Allowed refusal t0 × Makes t0 (folder_made path) t1) e → Went story t1 (Creates id (length (state_of story).files)) Shown_so Whatever
    folder_crash refusal e did = went_weaker (λ s. Whatever s × Free id s) Whatever (λ s i. tt)
        (unlisted_yet id (length (state_of story).files) Shown_so Whatever (λ s t none. inl none) free (folder_left id path is story tells refusal e did))

    module _ {t2 : Option Story} (makes : Makes t0 (folder_made path) t1) where
      copied_crash : (I : ℕ → State → Type 0) → ((mid : Story) (first : ℕ) → t1 ≡ Some mid → first ≤ length (state_of mid).files → Went mid t2 (Prepares id first) Anything (I first))
          → Went story t2 (Creates id (length (state_of story).files)) Shown_so (λ s. I (length (state_of story).files) s × Free id s)
      copied_crash I next =
          let first : ℕ = length (state_of story).files in
          unlisted_yet id first Shown_so (I first) (λ s t none. inl none) free (then_prepared id path is story tells makes I next)

      pub copies_crash : ((mid : Story) (first : ℕ) → t1 ≡ Some mid → first ≤ length (state_of mid).files → Went mid t2 (Prepares id first) Anything Whatever)
          → Went story t2 (Creates id (length (state_of story).files)) Shown_so Whatever
      copies_crash next = went_weaker (λ s. Whatever s × Free id s) Whatever (λ s i. tt) (copied_crash (λ first. Whatever) next)

      pub publication_crash : {t3 : Option Story} (meta : Meta) (texts : List (List ℕ)) → meta ≡ plain_meta id timestamp sequence names texts → AreTexts views texts
          → ((mid : Story) (first : ℕ) → t1 ≡ Some mid → first ≤ length (state_of mid).files → Went mid t2 (Prepares id first) Anything (λ s. AreNew first s meta.files texts))
          → ((mid : Story) → t2 ≡ Some mid → length (state_of story).files ≤ length (state_of mid).files → AreNew (length (state_of story).files) (state_of mid) meta.files texts → Free id (state_of mid)
          → Went mid t3 (Creates meta.id (length (state_of story).files)) (NoneOrHeld meta texts) Whatever)
          → Went story t3 (Creates id (length (state_of story).files)) Shown_so Whatever
      publication_crash meta texts made same next last =
          let first : ℕ = length (state_of story).files in
          went_then (enough (Creates id first) Shown_so story (λ s. AreNew first s meta.files texts × Free id s) (copied_crash (λ n s. AreNew n s meta.files texts) next))
          (λ mid told low. published_whole first meta texts made same (last mid told low.1 low.0.0 low.0.1))
