-- What the calls of a run's backups leave.
use Rattle.std.specs.Prelude.{◌≡◌, ◌≢◌, ℕ, suc, ◌+◌, ◌<◌, ◌≤◌, ◌^◌, IsTrue, IsSome, IfSome, IfOk, IfErr, OnOk, Result, Ok, Err, All, List, [], ◌∷◌, ◌++◌, length, map as map_list, Option, Some, None}
use Rattle.std.proofs.Common.{refl, sym, ap, subst, ◌∙◌, arith}
use Rattle.std.proofs.lemmas.List.Elements.{All-nil, All-cons, All-head, All-tail, All-push, All-weaker}
use Rattle.std.specs.FinMap as map
use Rattle.std.specs.List.{flat_map}
use Rattle.lsm_io.specs.Causes.{Rose}
use Rattle.lsm_rows.specs.Replay.{Contents, replayed}
use Rattle.lsm_names.specs.declared.file_names.FileName.{FileName}
use Rattle.lsm_disk.specs.State.{Seen, State, Story, state_of}
use Rattle.lsm_disk.specs.Goes.{Went}
use Rattle.lsm_disk.specs.Kept.{IsKeptName}
use Rattle.lsm_disk.specs.Viewed.{Viewed}
use Rattle.lsm_folder.specs.Needed.{Stands as Shows}
use Rattle.bk_meta.specs.declared.metas.Meta.{Meta}
use Rattle.bk_tree.specs.Places.{meta_path}
use Rattle.bk_tree.specs.Holds.{folder_of}
use Rattle.bk_tree.specs.Kept.{IsKeptBackup}
use Rattle.bk_engine.specs.Answering.{HasRefused, IsLeftBy}
use Rattle.bk_engine.specs.Copying.{Anything, Whatever}
use Rattle.bk_engine.specs.Creating.{info_of, plain_meta}
use Rattle.bk_engine.specs.Opening.{MakesRoots, HasRoots, no_opening, IsRefusal, NoOpening}
use Rattle.bk_engine.specs.Preparing.{AreTexts}
use Rattle.bk_engine.specs.Publishing.{Creates}
use Rattle.bk_engine.specs.Standing.{plain_texts, backup_meta}
use Rattle.bk_engine.specs.Shown.{Shown as EngineShown}
use Rattle.bk_engine.specs.declared.errors.EngineError.{EngineError}
use Rattle.bk_engine.specs.declared.errors.EngineError.TheVariants as engine
use Rattle.bk_engine.specs.declared.infos.BackupInfo.{BackupInfo}
use Rattle.bk_engine.proofs.OpeningLaws.{stays_unlisted as unlisted_by_opening}
use Rattle.bk_engine.proofs.Others.{other_stays, stays_unlisted}
use Rattle.bk_engine.proofs.StandingBackups.{backup_stands}
use Rattle.ldb_script.specs.Printed.{Backup, listed_line, line_of_info, line_of_backup, infos_text, list_text, end_line}
use Rattle.ldb_script.specs.Plain.{Plain, next_backup, backed_up}
use Rattle.ldb_script.specs.Vaults.{Vault, IsMetaOf, AreMetasOf, IsHeld, AreHeld, IsListedByNone, HoldsBackups, Keeps, IsUnopened, Backs}
use Rattle.ldb_script.specs.Backing.{ShutBy, IsReady, ArePlain, IsCreated, UncreatedBy}
use Rattle.lsm_names.proofs.SharedNameLemmas.{some_is_not_none}

-- the backups over which an engine is opened
abbrev pub vault_at : EngineShown → Vault
vault_at e = record { disk = e.disk; engine = Some e }

-- those over which none is
abbrev pub vault_on : Seen → Vault
vault_on disk = record { disk = disk; engine = None }

some_of : {A : Type 0} (o : Option A) → IsSome o → (x : A) × (o ≡ Some x)
some_of None is = absurd (cc)
some_of (Some x) is = (x, refl)

-- a disk that tells is in one state
now_in : {told : Option Story} (P : State → Type 0) (story later : Story) → told ≡ Some story → told ≡ Some later → P (state_of later) → P (state_of story)
now_in P story later e f p = subst (λ (o : Option Story). IfSome o (λ s. P (state_of s))) (sym f ∙ e) p

-- ---- the opening of an engine

holds_none : (start told : Option Story) (first : Story) → start ≡ Some first → Went first told MakesRoots Anything HasRoots → HoldsBackups start told [] []
holds_none start told first e w = record {
  first = first;
  told_first = e;
  story = w.story;
  tells = w.tells;
  held = tt;
  others = λ id small others kept.
      let v = unlisted_by_opening id first told kept (record { story = w.story; tells = w.tells; goes = w.goes; now = tt }) in
      now_in (λ s. IsKeptName s (meta_path id) None) w.story v.story w.tells v.tells v.now;
}

module _ (start : Option Story) (disk : Seen) (plain : Plain) (was : Backs start (vault_on disk) plain) where
  unopened : IsUnopened start disk plain
  unfolding Backs
  unopened = was

  keeps_opened : (e : EngineShown) → (IsTrue plain.start.tells → IsSome start) → e.metas ≡ [] → e.given ≡ 0 → e.halt ≡ None → ((story : Story) → disk.told ≡ Some story → Went story e.disk.told MakesRoots Anything HasRoots)
      → Keeps start e.disk e plain
  keeps_opened e tells metas given halt made = record {
    same = refl;
    going = halt;
    given = given ∙ sym unopened.given;
    metas = subst (λ (b : List Backup). AreMetasOf e.metas b) (sym unopened.none) (subst (λ (m : List Meta). AreMetasOf m []) (sym metas) tt);
    ids = subst (λ (b : List Backup). All (λ backup. backup.id ≤ plain.given) b) (sym unopened.none) (All-nil (λ (backup : Backup). backup.id ≤ plain.given));
    held = λ t.
        let first = some_of start (tells t) in
        subst (λ (b : List Backup). HoldsBackups start e.disk.told e.metas b) (sym unopened.none)
        (subst (λ (m : List Meta). HoldsBackups start e.disk.told m []) (sym metas) (holds_none start e.disk.told first.0 first.1 (made first.0 (unopened.same ∙ first.1))));
  }

  pub opened : (e : EngineShown) → (IsTrue plain.start.tells → IsSome start) → e.metas ≡ [] → e.given ≡ 0 → e.halt ≡ None → ((story : Story) → disk.told ≡ Some story → Went story e.disk.told MakesRoots Anything HasRoots)
      → IsReady start (vault_at e) plain
  unfolding Backs
  opened e tells metas given halt made = record { backs = keeps_opened e tells metas given halt made; engine = refl }

  pub shut : (new : Seen) (why : EngineError) → ((story : Story) → disk.told ≡ Some story → IsRefusal (no_opening (state_of story)) why) → NoOpening disk new why → ShutBy start (vault_on disk) (vault_on new) why
  shut new engine.DiskFault answer none = none
  shut new (engine.Changed call path) answer none = none.0
  shut new (engine.Found path) answer none = record { unchanged = none.1 ∙ unopened.same; is = λ story tells. answer story (unopened.same ∙ tells) }
  shut new (engine.StrangeFolder path) answer none = record { unchanged = none.1 ∙ unopened.same; is = λ story tells. answer story (unopened.same ∙ tells) }
  shut new engine.NoMemory answer none = tt
  shut new engine.SourceFault answer none = absurd none
  shut new engine.DestFault answer none = absurd none
  shut new (engine.Halted first) answer none = absurd none
  shut new (engine.NoSuchBackup id) answer none = absurd none
  shut new (engine.Unreadable id line why) answer none = absurd none
  shut new engine.IdsFull answer none = absurd none
  shut new (engine.Missing name) answer none = absurd none
  shut new (engine.WrongSize name kept found) answer none = absurd none
  shut new (engine.Damaged name kept found) answer none = absurd none
  shut new (engine.DestinationExists dir) answer none = absurd none

pub ready : (start : Option Story) (e : EngineShown) (plain : Plain) → Backs start (vault_at e) plain → IsReady start (vault_at e) plain
ready start e plain was = record { backs = was; engine = refl }

-- ---- a creation

front : {X : Type 0} (P : X → Type 0) (xs : List X) (x : X) → All P (xs ++ x ∷ []) → All P xs
front P [] x h = All-nil P
front P (y ∷ ys) x h = All-cons P y ys (All-head P y (ys ++ x ∷ []) h) (front P ys x (All-tail P y (ys ++ x ∷ []) h))

last_one : {X : Type 0} (P : X → Type 0) (xs : List X) (x : X) → All P (xs ++ x ∷ []) → P x
last_one P [] x h = All-head P x [] h
last_one P (y ∷ ys) x h = last_one P ys x (All-tail P y (ys ++ x ∷ []) h)

metas_push : (metas : List Meta) (backups : List Backup) (meta : Meta) (backup : Backup) → AreMetasOf metas backups → IsMetaOf meta backup → AreMetasOf (metas ++ meta ∷ []) (backups ++ backup ∷ [])
metas_push [] [] meta backup are is = (is, tt)
metas_push [] (b ∷ backups) meta backup are is = absurd are
metas_push (m ∷ metas) [] meta backup are is = absurd are
metas_push (m ∷ metas) (b ∷ backups) meta backup are is = (are.0, metas_push metas backups meta backup are.1 is)

held_push : (s : State) (metas : List Meta) (backups : List Backup) (meta : Meta) (backup : Backup) → AreHeld s metas backups → IsHeld s meta backup → AreHeld s (metas ++ meta ∷ []) (backups ++ backup ∷ [])
held_push s [] [] meta backup are is = (is, tt)
held_push s [] (b ∷ backups) meta backup are is = absurd are
held_push s (m ∷ metas) [] meta backup are is = absurd are
held_push s (m ∷ metas) (b ∷ backups) meta backup are is = (are.0, held_push s metas backups meta backup are.1 is)

module _ (id given : ℕ) (small : id < 2 ^ 32) (next : id ≡ given + 1) (story later : Story) (told : Option Story) (tells : told ≡ Some later) (went : Went story told (Creates id (length (state_of story).files)) Anything Whatever) where
  other_id : (meta : Meta) (backup : Backup) → meta.id ≡ backup.id → backup.id ≤ given → meta.id ≢ id
  other_id meta backup same low = λ e. absurd (omega (arith, same, low, next, e))

  held_on : (metas : List Meta) (backups : List Backup) → AreMetasOf metas backups → All (λ backup. backup.id ≤ given) backups → AreHeld (state_of story) metas backups → AreHeld (state_of later) metas backups
  held_on [] [] are low h = tt
  held_on [] (b ∷ backups) are low h = absurd are
  held_on (m ∷ metas) [] are low h = absurd are
  held_on (m ∷ metas) (b ∷ backups) are low h =
      let stays = other_stays id small m h.0.texts h.0.kept.lawful (other_id m b are.0.id (All-head (λ (backup : Backup). backup.id ≤ given) b backups low)) story told h.0.kept went in (
        record {
          texts = h.0.texts;
          kept = now_in (λ s. IsKeptBackup s m h.0.texts) later stays.story tells stays.tells stays.now;
          files = h.0.files;
          folder = h.0.folder;
          shows = h.0.shows;
        },
        held_on metas backups are.1 (All-tail (λ (backup : Backup). backup.id ≤ given) b backups low) h.1,
      )

  listed_on : (first : State) (backups : List Backup) (backup : Backup) → backup.id ≡ id → IsListedByNone first (state_of story) backups → IsListedByNone first (state_of later) (backups ++ backup ∷ [])
  listed_on first backups backup is none other little others kept =
      let apart : other ≢ id = λ e. last_one (λ (b : Backup). b.id ≢ other) backups backup others (is ∙ sym e) in
      let stays = stays_unlisted id other small little apart story told (none other little (front (λ (b : Backup). b.id ≢ other) backups backup others) kept) went in
      now_in (λ s. IsKeptName s (meta_path other) None) later stays.story tells stays.tells stays.now

-- what is said of a made backup
abbrev pub Made : EngineShown → EngineShown → ℕ → ℕ → List FileName → List Viewed → BackupInfo → Type 0
Made e e' sequence now listed views info = (meta : Meta) × (texts : List (List ℕ)) × AreTexts views texts × (meta ≡ plain_meta (e.given + 1) now sequence listed texts) × (info ≡ info_of meta) × (e'.metas ≡ e.metas ++ meta ∷ [])
    × ((story : Story) → e.disk.told ≡ Some story → Went story e'.disk.told (Creates (e.given + 1) (length (state_of story).files)) Anything (λ s. IsKeptBackup s meta texts))

module _ (start : Option Story) (e : EngineShown) (plain : Plain) (keeps : Keeps start e.disk e plain) (now : ℕ) where
  is_held : (meta : Meta) (texts : List (List ℕ)) (s : State) (listed : List FileName) (views : List Viewed) → ArePlain plain listed views → AreTexts views texts → meta ≡ plain_meta (e.given + 1) now plain.sequence listed texts → IsKeptBackup s meta texts
      → IsHeld s meta (next_backup plain now)
  is_held meta texts s listed views are of_views is kept =
      let stands = backup_stands (e.given + 1) now plain.sequence are.accepted are.logged in
      let same : texts ≡ plain_texts are.accepted = are.texts texts of_views in
      let is_meta : backup_meta (e.given + 1) now plain.sequence are.accepted ≡ meta = sym (is ∙ (λ i. plain_meta (e.given + 1) now plain.sequence (are.names i) (same i))) in
      record {
        texts = texts;
        kept = kept;
        files = stands.0;
        folder = subst (λ (m : Meta). folder_of m texts ≡ Some stands.0) is_meta
            (subst (λ (t : List (List ℕ)). folder_of (backup_meta (e.given + 1) now plain.sequence are.accepted) t ≡ Some stands.0) (sym same) stands.1);
        shows = subst (λ (m : Contents). Shows stands.0 m plain.sequence) (sym are.contents) (subst (λ (n : ℕ). Shows stands.0 (replayed map.empty are.accepted) n) (sym are.sequence) stands.2);
      }

  pub created : (e' : EngineShown) (left : Option (List ℕ)) (info : BackupInfo) (sequence : ℕ) (listed : List FileName) (views : List Viewed) → sequence ≡ plain.sequence → (IsTrue plain.start.tells → ArePlain plain listed views)
      → Made e e' plain.sequence now listed views info → e'.given ≡ e.given + 1 → e'.halt ≡ None → e.given < 4294967295 → Keeps start e'.disk e' (backed_up plain now left).after
  created e' left info sequence listed views is_sequence are made given halt low =
      let meta = made.0 in
      let is_meta : IsMetaOf meta (next_backup plain now) = record {
        id = ap (λ (m : Meta). m.id) made.3 ∙ ap (λ (n : ℕ). n + 1) keeps.given;
        timestamp = ap (λ (m : Meta). m.timestamp) made.3;
        sequence = ap (λ (m : Meta). m.sequence) made.3;
        metadata = ap (λ (m : Meta). m.metadata) made.3;
      } in
      record {
        same = refl;
        going = halt;
        given = given ∙ ap (λ (n : ℕ). n + 1) keeps.given;
        metas = subst (λ (ms : List Meta). AreMetasOf ms (plain.backups ++ next_backup plain now ∷ [])) (sym made.5) (metas_push e.metas plain.backups meta (next_backup plain now) keeps.metas is_meta);
        ids = All-push (λ (b : Backup). b.id ≤ plain.given + 1) plain.backups (next_backup plain now)
            (All-weaker (λ (b : Backup). b.id ≤ plain.given) (λ (b : Backup). b.id ≤ plain.given + 1) (λ b h. omega (arith, h)) plain.backups keeps.ids) (omega arith);
        held = λ tells.
            let h = keeps.held tells in
            let w = made.6 h.story h.tells in
            let went : Went h.story e'.disk.told (Creates (e.given + 1) (length (state_of h.story).files)) Anything Whatever = record { story = w.story; tells = w.tells; goes = w.goes; now = tt } in
            let small : e.given + 1 < 2 ^ 32 = omega (arith, low) in
            let next : e.given + 1 ≡ plain.given + 1 = ap (λ (n : ℕ). n + 1) keeps.given in
            record {
              first = h.first;
              told_first = h.told_first;
              story = w.story;
              tells = w.tells;
              held = subst (λ (ms : List Meta). AreHeld (state_of w.story) ms (plain.backups ++ next_backup plain now ∷ [])) (sym made.5)
                  (held_push (state_of w.story) e.metas plain.backups meta (next_backup plain now)
                  (held_on (e.given + 1) plain.given small next h.story w.story e'.disk.told w.tells went e.metas plain.backups keeps.metas keeps.ids h.held)
                  (is_held meta made.1 (state_of w.story) listed views (are tells) made.2 made.3 w.now));
              others = listed_on (e.given + 1) plain.given small next h.story w.story e'.disk.told w.tells went (state_of h.first) plain.backups (next_backup plain now) (sym next) h.others;
            };
      }

-- a creation that was Ok
pub is_created : (start : Option Story) (e e' : EngineShown) (plain : Plain) (now : ℕ) (left : Option (List ℕ)) (info : BackupInfo) (sequence : ℕ) (listed : List FileName) (views : List Viewed) → Backs start (vault_at e) plain → sequence ≡ plain.sequence
    → (IsTrue plain.start.tells → ArePlain plain listed views) → Made e e' sequence now listed views info → e'.given ≡ e.given + 1 → e'.halt ≡ None → e.given < 4294967295 → IsCreated start (vault_at e') plain now left info
unfolding Backs
is_created start e e' plain now left info sequence listed views keeps is are made given halt low = record {
  room = λ full. absurd (omega (arith, keeps.given, full, low));
  id = ap (λ (i : BackupInfo). i.id) made.4 ∙ ap (λ (m : Meta). m.id) made.3 ∙ ap (λ (n : ℕ). n + 1) keeps.given;
  sequence = ap (λ (i : BackupInfo). i.sequence) made.4 ∙ ap (λ (m : Meta). m.sequence) made.3 ∙ is;
  backs = created start e plain keeps now e' left info sequence listed views is are (subst (λ (n : ℕ). Made e e' n now listed views info) is made) given halt low;
}

rose_above : (before later : ℕ) → Rose before later → 0 < later
rose_above before later rose = omega (arith, rose)

uncreated : (start : Option Story) (e e' : EngineShown) (plain : Plain) (before later : ℕ) (why : EngineError) → Backs start (vault_at e) plain → HasRefused e e' before later why → IsLeftBy e e' why → UncreatedBy (vault_at e) (vault_at e') plain later why
unfolding Backs
uncreated start e e' plain before later engine.DiskFault keeps h left = h
uncreated start e e' plain before later (engine.Changed call path) keeps h left = h
uncreated start e e' plain before later engine.SourceFault keeps h left = rose_above before later h
uncreated start e e' plain before later engine.IdsFull keeps h left = (sym keeps.given ∙ h.1, ap vault_at left)
uncreated start e e' plain before later engine.NoMemory keeps h left = tt
uncreated start e e' plain before later (engine.Halted first) keeps h left = some_is_not_none e.halt first keeps.going h
uncreated start e e' plain before later engine.DestFault keeps h left = absurd h
uncreated start e e' plain before later (engine.Found path) keeps h left = absurd h
uncreated start e e' plain before later (engine.StrangeFolder path) keeps h left = absurd h
uncreated start e e' plain before later (engine.NoSuchBackup id) keeps h left = absurd h
uncreated start e e' plain before later (engine.Unreadable id line why) keeps h left = absurd h
uncreated start e e' plain before later (engine.Missing name) keeps h left = absurd h
uncreated start e e' plain before later (engine.WrongSize name kept found) keeps h left = absurd h
uncreated start e e' plain before later (engine.Damaged name kept found) keeps h left = absurd h
uncreated start e e' plain before later (engine.DestinationExists dir) keeps h left = absurd h

pub uncreated_at : (start : Option Story) (old : Vault) (e e' : EngineShown) (plain : Plain) (before later : ℕ) (why : EngineError) → old ≡ vault_at e → Backs start old plain → HasRefused e e' before later why → IsLeftBy e e' why
    → UncreatedBy old (vault_at e') plain later why
uncreated_at start old e e' plain before later why is was h left =
    subst (λ (v : Vault). UncreatedBy v (vault_at e') plain later why) (sym is) (uncreated start e e' plain before later why (subst (λ (v : Vault). Backs start v plain) is was) h left)

-- ---- a list

lines_same : (metas : List Meta) (backups : List Backup) → AreMetasOf metas backups → flat_map line_of_info (map_list info_of metas) ≡ flat_map line_of_backup backups
lines_same [] [] are = refl
lines_same [] (b ∷ backups) are = absurd are
lines_same (m ∷ metas) [] are = absurd are
lines_same (m ∷ metas) (b ∷ backups) are = λ i. listed_line (are.0.id i) (are.0.timestamp i) (are.0.sequence i) (are.0.metadata i) ++ lines_same metas backups are.1 i

as_many : (metas : List Meta) (backups : List Backup) → AreMetasOf metas backups → length (map_list info_of metas) ≡ length backups
as_many [] [] are = refl
as_many [] (b ∷ backups) are = absurd are
as_many (m ∷ metas) [] are = absurd are
as_many (m ∷ metas) (b ∷ backups) are = ap (λ (n : ℕ). suc n) (as_many metas backups are.1)

pub listed : (start : Option Story) (e : EngineShown) (plain : Plain) (infos : List BackupInfo) → infos ≡ map_list info_of e.metas → Backs start (vault_at e) plain → infos_text infos ≡ list_text plain.backups
unfolding Backs
listed start e plain infos is keeps =
    ap infos_text is ∙ (λ i. lines_same e.metas plain.backups keeps.metas i ++ end_line (as_many e.metas plain.backups keeps.metas i))

-- ---- a restore

pub keeps_of : (start : Option Story) (e : EngineShown) (plain : Plain) → Backs start (vault_at e) plain → Keeps start e.disk e plain
unfolding Backs
keeps_of start e plain was = was

keeps_same : (start : Option Story) (e e' : EngineShown) (plain : Plain) → e'.disk.told ≡ e.disk.told → e'.metas ≡ e.metas → e'.given ≡ e.given → e'.halt ≡ e.halt → Keeps start e.disk e plain → Keeps start e'.disk e' plain
keeps_same start e e' plain told metas given halt keeps = record {
  same = refl;
  going = halt ∙ keeps.going;
  given = given ∙ keeps.given;
  metas = subst (λ (ms : List Meta). AreMetasOf ms plain.backups) (sym metas) keeps.metas;
  ids = keeps.ids;
  held = λ tells. subst (λ (o : Option Story). HoldsBackups start o e'.metas plain.backups) (sym told) (subst (λ (ms : List Meta). HoldsBackups start e.disk.told ms plain.backups) (sym metas) (keeps.held tells));
}

-- an engine whose disk tells the same keeps the same
pub backs_same : (start : Option Story) (e e' : EngineShown) (plain : Plain) → e'.disk.told ≡ e.disk.told → e'.metas ≡ e.metas → e'.given ≡ e.given → e'.halt ≡ e.halt → Backs start (vault_at e) plain → Backs start (vault_at e') plain
unfolding Backs
backs_same start e e' plain told metas given halt keeps = keeps_same start e e' plain told metas given halt keeps

-- ---- answers that are handed on

pub if_ok : {T E : Type 0} (r : Result T E) (M P : T → Type 0) (A B C : Type 0) → IfOk r M → OnOk r A → OnOk r B → OnOk r C → ((x : T) → M x → A → B → C → P x) → IfOk r P
if_ok (Ok x) M P A B C made a b c f = f x made a b c
if_ok (Err e) M P A B C made a b c f = tt

pub if_err : {T E : Type 0} (r : Result T E) (P Q R : E → Type 0) → IfErr r P → IfErr r Q → ((e : E) → P e → Q e → R e) → IfErr r R
if_err (Ok x) P Q R p q f = tt
if_err (Err e) P Q R p q f = f e p q
