-- The making of a new store's files, at each exit.
use Rattle.std.specs.Prelude.{◌≡◌, ◌≢◌, ℕ, ◌+◌, ◌-◌, ◌^◌, ◌<◌, ◌≤◌, true, is_some, List, [], ◌∷◌, ◌++◌, length, Option, Some, None, Result, Ok, Err}
use Rattle.std.proofs.Common.{⊎_elim, inl, inr, refl, sym, ap, subst, ◌∙◌, arith}
use Rattle.std.proofs.lemmas.Bool.Decides.{nat_tests}
use Rattle.std.proofs.lemmas.List.Elements.{All-head, All-contains}
use Rattle.std.specs.FinMap as finmap
use Rattle.lsm_names.specs.Folders.{is_folder_name}
use Rattle.lsm_names.specs.FileNames.{spelled}
use Rattle.lsm_names.specs.Numbers.{is_file_number}
use Rattle.lsm_names.specs.declared.file_names.FileName.{FileName}
use Rattle.lsm_names.specs.declared.file_names.FileName.TheVariants.{Log, Manifest, Temp, Current}
use Rattle.lsm_disk.specs.Names.{Node, under}
use Rattle.lsm_disk.specs.State as disk
use Rattle.lsm_disk.specs.State.{Change, Seen, Story, Created, Names_synced, after, names_now, names_synced, state_of}
use Rattle.lsm_disk.specs.Images.{Tree}
use Rattle.lsm_disk.specs.Kept.{IsKeptName, Making}
use Rattle.lsm_disk.specs.Goes.{Went, Shows}
use Rattle.lsm_disk.specs.Dest.{path_in}
use Rattle.lsm_disk.specs.Halts.{halt_at, IsAmong}
use Rattle.lsm_disk.specs.Answers.{HasRisen}
use Rattle.lsm_disk.specs.declared.calls.DiskCall.{DiskCall}
use Rattle.lsm_disk.specs.declared.calls.DiskCall.TheVariants as call
use Rattle.lsm_disk.specs.declared.calls.DiskError.{DiskError}
use Rattle.lsm_disk.specs.declared.calls.DiskError.TheVariants as why
use Rattle.lsm_disk.specs.declared.calls.DiskRefusal.{DiskRefusal}
use Rattle.lsm_disk.specs.declared.calls.Halt.{Halt}
use Rattle.lsm_disk.proofs.Images.{after_names_synced}
use Rattle.lsm_disk.proofs.Named.{name_image}
use Rattle.lsm_disk.proofs.Runs.{went_start, went_weaker, went_wider}
use Rattle.lsm_publish.specs.Publishing.{No_file, Not_known}
use Rattle.lsm_version.specs.declared.edits.Edit.{Edit}
use Rattle.lsm_version.specs.EditText.{edit_text, field_text}
use Rattle.lsm_version.specs.Edits.{IsEdit}
use Rattle.lsm_wal.specs.Making.{MayHaveNew, IsMade}
use Rattle.lsm_wal.specs.Answered.{IsRefusedAt}
use Rattle.lsm_manifest.specs.Texts.{IsTaken}
use Rattle.lsm_manifest.specs.Installing.{Before, StillBefore, IsApart, Installs, NamesOldOrNew, Leaves, install_calls}
use Rattle.lsm_model.specs.declared.errors.StoreError.{StoreError}
use Rattle.lsm_refine.specs.Naming.{Replaces, ReplacesAt, HasReplaced}
use Rattle.lsm_refine.specs.New.{first_edit, IsLeftover, HasNewStore}
use Rattle.lsm_refine.specs.Vacant.{IsVacant, with_log}
use Rattle.lsm_refine.proofs.NewLemmas.{first_are}
use Rattle.lsm_refine.proofs.NewStoreLemmas.{new_made, settled_kept, slash_some}
use Rattle.lsm_refine.proofs.ReplacedFrames.{went_replacing}
use Rattle.lsm_store.specs.Answering.{error_by, error_of}
use Rattle.lsm_store.specs.NewStores.{HasNoneOrFirst, FilesGo, Anything, IsNewRefusal, file_calls}
use Rattle.lsm_opening.proofs.Replaced.{installs_replace, shows_names, installed_replaced}

-- ---- the numbers, and the edit

pub file_number : (n : ℕ) → 1 ≤ n → n < 2 ^ 56 - 1 → is_file_number n ≡ true
file_number n least most = grind (arith, nat_tests)

has_text : (m : ℕ) → 0 < length (edit_text (first_edit m))
unfolding edit_text field_text
has_text m = omega arith

-- a manifest takes the first edit
pub first_taken : (m : ℕ) (edit : Edit) → edit ≡ first_edit m → 1 ≤ m → m + 2 < 2 ^ 56 → IsTaken edit
first_taken m edit is least most = subst IsTaken (sym is) (record {
  grammar = All-head IsEdit (first_edit m) [] (first_are m least most).each;
  some = has_text m;
})

-- ---- what was before the first manifest

-- nothing had the name CURRENT; another manifest isn't looked at
abbrev pub none_before : Before
none_before = record { current = No_file; path = []; manifest = Not_known }

under_none : (folder : List ℕ) → [] ≢ folder → under folder [] ≡ None
under_none [] some = absurd (some refl)
under_none (c ∷ folder) some = refl

pub none_apart : (dir : List ℕ) (m : ℕ) → IsApart dir m []
none_apart dir m = record {
  new = slash_some dir (spelled (Manifest m));
  temporary = slash_some dir (spelled (Temp m));
  moved = (
    slash_some dir (spelled (Temp m)),
    slash_some dir (spelled Current),
    under_none (path_in dir (Temp m)) (slash_some dir (spelled (Temp m))),
    under_none (path_in dir Current) (slash_some dir (spelled Current)),
  );
}

some_or_none : (o : Option Node) → (is_some o ≡ true → ⊥) → o ≡ None
some_or_none None not = refl
some_or_none (Some node) not = absurd (not refl)

retold : {start : Story} {told : Option Story} {q : Change → Type 0} {P : disk.State → Tree → Type 0}
    {I : disk.State → Type 0}
    (J : disk.State → Type 0) (w : Went start told q P I) → J (state_of w.story) → Went start (Some w.story) q P J
retold J w held = record { story = w.story; tells = refl; goes = w.goes; now = held }

-- ---- the disk's way

module _ (dir : List ℕ) (m : ℕ) (beside : List FileName) (start : Story)
    (vacant : IsVacant (state_of start) dir m beside) where
  abbrev d : disk.State
  d = state_of start

  abbrev path : List ℕ
  path = path_in dir (Log (m + 1))

  no_current : IsKeptName (state_of start) (path_in dir Current) None
  no_current = settled_kept d vacant.settled (path_in dir Current) None
      (some_or_none (finmap.get (names_now d) (path_in dir Current))
      (λ some. All-contains (IsLeftover m) beside Current vacant.earlier (vacant.all Current tt some)))

  pub none_still : StillBefore dir none_before (state_of start)
  none_still = record { current = no_current; manifest = tt }

  -- before the disk was called
  pub nothing_gone : {T E : Type 0} (e : E) (told : Option Story) → told ≡ Some start → FilesGo
      {T = T} dir m beside start told (Err e)
  nothing_gone e told same = record {
    now = start;
    tells = same;
    goes = inl (went_weaker (λ x. x ≡ d) Anything (λ x is. tt)
        (went_start (λ x. x ≡ d) refl refl (λ x is. subst (Shows (HasNoneOrFirst dir m)) (sym is) (record {
          each = λ t image. inl (name_image d (path_in dir Current) None no_current t image);
        }))));
  }

  -- what is said of the making of a manifest, here
  pub first_went : {T : Type 0} (at : List ℕ) (edit : Edit) (old told : Option Story) (r : Result T DiskRefusal) → at ≡ dir
      → edit ≡ first_edit m
      → ((story : Story) (before : Before) → old ≡ Some story → StillBefore at before (state_of story)
      → IsApart at m before.path
      → Went story told (Installs at m (length (state_of story).files)) (NamesOldOrNew at m edit before)
      (Leaves at m (length (state_of story).files) edit before r))
      → old ≡ Some start
      → Went start told (Installs dir m (length (state_of start).files)) (NamesOldOrNew dir m (first_edit m) none_before)
      (Leaves dir m (length (state_of start).files) (first_edit m) none_before r)
  first_went at edit old told r here is says same =
      subst (λ (e : Edit). Went start told (Installs dir m (length d.files)) (NamesOldOrNew dir m e none_before)
      (Leaves dir m (length d.files) e none_before r)) is
      (subst (λ (p : List ℕ). Went start told (Installs p m (length d.files)) (NamesOldOrNew p m edit none_before)
      (Leaves p m (length d.files) edit none_before r)) here
      (says start none_before same (subst (λ (p : List ℕ). StillBefore p none_before d) (sym here) none_still)
      (none_apart at m)))

  module _ (named : is_folder_name dir ≡ true) where
    fits : is_file_number m ≡ true
    fits = file_number m vacant.least (omega (arith, vacant.most))

    abbrev Installing : Option Story → (disk.State → Type 0) → Type 0
    Installing told I = Went start told (Installs dir m (length d.files)) (NamesOldOrNew dir m (first_edit m) none_before) I

    none_or_first : (x : disk.State) (t : Tree) → NamesOldOrNew dir m (first_edit m) none_before x t
        → HasNoneOrFirst dir m x t
    none_or_first x t shows = ⊎_elim (λ old. inl old.0) (λ new. inr (shows_names dir m (first_edit m) t new)) shows

    goes : (told : Option Story) (I : disk.State → Type 0) → Installing told I
        → Went start told (Replaces dir m (length d.files)) (HasNoneOrFirst dir m) (λ x. I x × ReplacesAt dir m d x)
    goes told I w = went_replacing dir named m fits fits start told (HasNoneOrFirst dir m)
        (HasNoneOrFirst dir m) I vacant.lead
        vacant.files (λ x t is image held. held)
        (went_wider (Installs dir m (length d.files)) (Replaces dir m (length d.files))
        (NamesOldOrNew dir m (first_edit m) none_before) (HasNoneOrFirst dir m) (installs_replace dir m (length d.files))
        none_or_first w)

    -- the manifest was refused
    pub stopped : (T : Type 0) {S E : Type 0} (told : Option Story) (r : DiskRefusal) (e : E)
        → Went start told (Installs dir m (length (state_of start).files)) (NamesOldOrNew dir m (first_edit m) none_before)
        (Leaves {T = T} dir m (length (state_of start).files) (first_edit m) none_before (Err r))
        → FilesGo {T = S} dir m beside start told (Err e)
    stopped T told r e w =
        let later = goes told (Leaves {T = T} dir m (length d.files) (first_edit m) none_before (Err r)) w in
        record { now = later.story; tells = later.tells; goes = inl (retold Anything later tt) }

    module _ {A : Type 0} (mid told : Option Story) (value : A)
        (manifest : Went start mid (Installs dir m (length (state_of start).files))
        (NamesOldOrNew dir m (first_edit m) none_before)
        (Leaves dir m (length (state_of start).files) (first_edit m) none_before (Ok value))) where
      abbrev first : Went start mid (Replaces dir m (length d.files)) (HasNoneOrFirst dir m)
          (λ x. Leaves dir m (length d.files) (first_edit m) none_before (Ok value) x × ReplacesAt dir m d x)
      first = goes mid (Leaves dir m (length d.files) (first_edit m) none_before (Ok value)) manifest

      replaced : HasReplaced (state_of first.story) dir m (first_edit m ∷ [])
      replaced = installed_replaced dir m (first_edit m) (state_of first.story) first.now.0.0

      abbrev Logs : (disk.State → disk.State → Type 0) → Type 0
      Logs I = (story : Story) → mid ≡ Some story → Went story told (Making path) (MayHaveNew (state_of story) path)
          (I (state_of story))

      -- the log was refused
      pub unlogged : (T : Type 0) {S E : Type 0} (r : DiskRefusal) (e : E)
          → ((story : Story) → mid ≡ Some story → Went story told (Making (path_in dir (Log (m + 1))))
          (MayHaveNew (state_of story)
          (path_in dir (Log (m + 1)))) (IsMade {T = T} (state_of story) (path_in dir (Log (m + 1))) (Err r)))
          → FilesGo {T = S} dir m beside start told (Err e)
      unlogged T r e logs =
          let last = logs first.story first.tells in
          record {
            now = last.story;
            tells = last.tells;
            goes = inr (record {
              mid = first.story;
              manifest = retold (λ x. HasReplaced x dir m (first_edit m ∷ [])) first replaced;
              log = retold Anything last tt;
            });
          }

      -- both were made
      pub both_made : {T S E : Type 0} (log : T) (files : S)
          → ((story : Story) → mid ≡ Some story → Went story told (Making (path_in dir (Log (m + 1))))
          (MayHaveNew (state_of story)
          (path_in dir (Log (m + 1)))) (IsMade (state_of story) (path_in dir (Log (m + 1))) (Ok log)))
          → FilesGo {E = E} dir m beside start told (Ok files)
      both_made log files logs =
          let last = logs first.story first.tells in
          let made = new_made d (state_of first.story) dir m beside named vacant first.now.1 replaced in
          let is : state_of last.story ≡ with_log dir (m + 1) (state_of first.story) =
          last.now.1 ∙ after_names_synced (after (state_of first.story) (Created path)) in
          record {
            now = last.story;
            tells = last.tells;
            goes = record {
              mid = first.story;
              manifest = retold (λ x. HasReplaced x dir m (first_edit m ∷ [])) first replaced;
              log = retold (λ x. HasNewStore x dir m beside) last
                  (subst (λ (x : disk.State). HasNewStore x dir m beside) (sym is) made);
            };
          }

-- what is said of the making of a log, at its path
pub log_went : {T : Type 0} (at here : List ℕ) (mid told : Option Story) (r : Result T DiskRefusal) → at ≡ here
    → ((story : Story) → mid ≡ Some story → Went story told (Making at) (MayHaveNew (state_of story) at)
    (IsMade (state_of story) at r))
    → (story : Story) → mid ≡ Some story
    → Went story told (Making here) (MayHaveNew (state_of story) here) (IsMade (state_of story) here r)
log_went at here mid told r is says story same =
    subst (λ (p : List ℕ). Went story told (Making p) (MayHaveNew (state_of story) p) (IsMade (state_of story) p r)) is
    (says story same)

-- another answer of the same kind
pub stopped_so : {T S E F : Type 0} (dir : List ℕ) (m : ℕ) (beside : List FileName) (start : Story) (told : Option Story)
    (e : E) (f : F)
    → FilesGo {T = T} dir m beside start told (Err e) → FilesGo {T = S} dir m beside start told (Err f)
stopped_so dir m beside start told e f gone = record { now = gone.now; tells = gone.tells; goes = gone.goes }

pub made_so : {T S E F : Type 0} (dir : List ℕ) (m : ℕ) (beside : List FileName) (start : Story) (told : Option Story)
    (x : T) (y : S)
    → FilesGo {E = E} dir m beside start told (Ok x) → FilesGo {E = F} dir m beside start told (Ok y)
made_so dir m beside start told x y gone = record { now = gone.now; tells = gone.tells; goes = gone.goes }

-- ---- which call it was

pub among_left : (at : Halt) (some others : List Halt) → IsAmong at some → IsAmong at (some ++ others)
among_left at [] others is = absurd is
among_left at (other ∷ some) others is = ⊎_elim (λ here. inl here) (λ later. inr (among_left at some others later)) is

pub among_right : (at : Halt) (some others : List Halt) → IsAmong at others → IsAmong at (some ++ others)
among_right at [] others is = is
among_right at (other ∷ some) others is = inr (among_right at some others is)

halt_is : (at : Halt) (made : DiskCall) (p : List ℕ) → at.call ≡ made → at.path ≡ p → at ≡ halt_at made p
halt_is at made p called on = ap (λ (c : DiskCall). halt_at c at.path) called ∙ ap (λ (p : List ℕ). halt_at made p) on

-- a refused call of the log's making
pub log_call : (dir : List ℕ) (m : ℕ) (p : List ℕ) (old new : Seen) (r : DiskRefusal) → p ≡ path_in dir (Log (m + 1))
    → IsRefusedAt call.Create call.SyncNames p old new r → IsAmong r.at (file_calls dir m)
log_call dir m p old new r is refused =
    among_right r.at (install_calls dir m) (halt_at call.Create (path_in dir (Log (m + 1)))
    ∷ halt_at call.SyncNames (path_in dir (Log (m + 1))) ∷ [])
    (⊎_elim
    (λ create. inl (halt_is r.at call.Create (path_in dir (Log (m + 1))) create (refused.path_is ∙ is)))
    (λ sync. inr (inl (halt_is r.at call.SyncNames (path_in dir (Log (m + 1))) sync (refused.path_is ∙ is))))
    refused.call_is)

refused_by : (calls : List Halt) (m : ℕ) (old new : Seen) (at : Halt) (e : DiskError) → IsAmong at calls → HasRisen old new e
    → IsNewRefusal calls m old new (error_by at e)
refused_by calls m old new at why.Fault among rose = rose
refused_by calls m old new at why.NotThere among rose = (rose, among)
refused_by calls m old new at why.Exists among rose = (rose, among)
refused_by calls m old new at why.NoLinks among rose = (rose, among)
refused_by calls m old new at why.NotEmpty among rose = (rose, among)
refused_by calls m old new at (why.Short found) among rose = (rose, among)
refused_by calls m old new at why.NoMemory among rose = tt

-- a refused disk call is answered for its cause
pub refused_for : (calls : List Halt) (m : ℕ) (old new : Seen) (r : DiskRefusal) (e : StoreError) → e ≡ error_of r
    → IsAmong r.at calls → HasRisen old new r.why → IsNewRefusal calls m old new e
refused_for calls m old new r e is among rose = subst (λ (x : StoreError). IsNewRefusal calls m old new x) (sym is)
    (refused_by calls m old new r.at r.why among rose)
