-- Behind the synced last log of a good store a new one is made: the rows are frozen, and the store is good.
use Rattle.std.specs.Prelude.{◌≡◌, ◌≢◌, ◌⊎◌, ℕ, ◌+◌, ◌<◌, ◌≤◌, true, is_some, List, [], ◌∷◌, ◌++◌, map, length, All, Contains, Option, Some, None}
use Rattle.std.proofs.Common.{⊎_elim, inl, inr, refl, sym, ap, subst, ◌∙◌, arith}
use Rattle.std.proofs.lemmas.Bool.{cases_eq}
use Rattle.std.proofs.lemmas.List.{append-nil}
use Rattle.std.proofs.lemmas.List.Elements.{All-nil, All-cons, All-head, All-tail, All-weaker, All-contains, All-push, Contains-push_cases, Contains-append_left, Contains-push}
use Rattle.std.proofs.lemmas.List.Sorted.{IsPermutation-refl}
use Rattle.std.specs.FinMap as finmap
use Rattle.lsm_names.specs.Folders.{is_folder_name}
use Rattle.lsm_names.specs.FileNames.{IsFileName}
use Rattle.lsm_names.specs.declared.file_names.FileName.{FileName}
use Rattle.lsm_names.specs.declared.file_names.FileName.TheVariants.{Log, Table, Manifest}
use Rattle.lsm_rows.specs.declared.operations.Op.{Op}
use Rattle.lsm_rows.specs.Replay.{sequence_after}
use Rattle.lsm_disk.specs.Names.{Node, File_node, id_of}
use Rattle.lsm_disk.specs.State as disk
use Rattle.lsm_disk.specs.State.{Seen, Story, Created, Names_synced, state_of, after, names_now, file_at}
use Rattle.lsm_disk.specs.Images.{bytes_at, tree_now}
use Rattle.lsm_disk.specs.Kept.{OpSpares}
use Rattle.lsm_disk.specs.Tree.{IsLawful}
use Rattle.lsm_disk.specs.Dest.{path_in}
use Rattle.lsm_disk.specs.declared.calls.Halt.{Halt}
use Rattle.lsm_disk.proofs.Images.{after_names_synced}
use Rattle.lsm_disk.proofs.Kept.{kept_at, new_kept}
use Rattle.lsm_disk.proofs.Now.{get_created}
use Rattle.lsm_disk.proofs.Named.{now_at}
use Rattle.lsm_disk.proofs.Paths.{path_cases}
use Rattle.lsm_wal.specs.Standing.{IsWal}
use Rattle.lsm_wal.specs.Making.{with_made}
use Rattle.lsm_wal.proofs.Made.{empty_wal}
use Rattle.lsm_model.specs.declared.states.State.{State}
use Rattle.lsm_model.specs.declared.states.Pin.{Pin}
use Rattle.lsm_refine.specs.Kept.{Unfinished, Kept, Shown}
use Rattle.lsm_refine.specs.Parts.{LogPart, Parts, AreRowsOf, numbers_of, batches_in, logs_of, first_logged}
use Rattle.lsm_refine.specs.Sane.{IsAlone, AreSynced, MayStand, Sane, appended_to, in_hand}
use Rattle.lsm_refine.specs.Pins.{AreClearable, IsPinned, PinFiles, Pinned}
use Rattle.lsm_refine.specs.Tied.{older_bytes}
use Rattle.lsm_refine.specs.Folders.{ChangesInside, FoldersRead}
use Rattle.lsm_refine.specs.Good.{IsRunning, IsInMode, Good}
use Rattle.lsm_refine.specs.Beside.{WritesAt, ChangesAt, IsGiven, SaneBeside, HasLast}
use Rattle.lsm_refine.specs.Grown.{IsDrawn, rolled, frozen_kept, frozen_shown, frozen_state}
use Rattle.lsm_refine.proofs.BesideLemmas.{log_once}
use Rattle.lsm_refine.proofs.ChangeLemmas.{changes_both, made_at, made_alone, names_synced_at, file_of, bytes_stay, file_stays}
use Rattle.lsm_refine.proofs.LastLogLemmas.{numbers_push}
use Rattle.lsm_refine.proofs.OutsideLemmas.{change_inside, inside_both, created_spares, folders_stay}
use Rattle.lsm_refine.proofs.PinnedLemmas.{pins_alike}
use Rattle.lsm_refine.proofs.RolledLemmas.{batches_push, synced_push, sorted_push, bytes_push, none_in, none_of, no_bytes}
use Rattle.lsm_refine.proofs.OtherFileLemmas.{same_name, name_apart, current_at, edits_at, tables_at, synced_at, files_at, clear_at, restored_at, jobs_at}
use Rattle.lsm_refine.proofs.TiedLemmas.{logged_many}
use Rattle.lsm_refine.proofs.WritingLemmas.{table_apart, beside}

less_itself : (n : ℕ) → n < n → ⊥
less_itself n less = omega (arith, less)

not_equal : (k n : ℕ) → k < n → k ≢ n
not_equal k n less same = omega (arith, less, same)

something : (what : Option Node) (id : ℕ) → id_of what ≡ Some id → is_some what ≡ true
something None id same = absurd (cc)
something (Some here) id same = refl

nothing : (what : Option Node) → (is_some what ≡ true → ⊥) → what ≡ None
nothing None never = refl
nothing (Some here) never = absurd (never refl)

abbrev IsLive : Kept → ℕ → Type 0
IsLive kept number = (kept.log ≤ number) × IsFileName (Log number)

-- a live log's number that was drawn before this one
abbrev IsEarlier : Kept → ℕ → LogPart → Type 0
IsEarlier kept n log = (log.number < n) × IsLive kept log.number

-- no row is frozen where no batch is in an older log
pub no_older : (d : disk.State) (v : Shown) (s : State) (run : IsRunning d v s) → v.kept.frozen ≡ [] → batches_in run.parts.older ≡ []
no_older d v s run none =
    none_in d v.dir (first_logged run.parts) run.parts.older run.sane.logs.older (none_of _ v.kept.frozen run.sane.logs.frozen.same none)

module _ (v : Shown) (s : State) (good : Good v s) (run : IsRunning (state_of good.story) v s) (x : disk.State)
    (writes : WritesAt v.dir (Log run.parts.last.number) (state_of good.story) x)
    (wal : HasLast x v.dir run.parts (length run.parts.last.batches)) (lawful : IsLawful x)
    (fits : IsFileName (Log v.kept.next)) (drawn : All (IsDrawn v.kept.next) v.kept.known) where
  abbrev parts : Parts
  parts = run.parts

  abbrev n : ℕ
  n = v.kept.next

  abbrev pub new : List ℕ
  new = path_in v.dir (Log v.kept.next)

  abbrev pub created : disk.State
  created = after x (Created new)

  abbrev pub later : disk.State
  later = after created Names_synced

  is : SaneBeside x v.dir v.kept run.parts (Log run.parts.last.number)
  is = (beside v s good run x writes).sane

  named : is_folder_name v.dir ≡ true
  named = is.current.named

  -- ---- the new name

  known_before : (name : FileName) → IsFileName name → is_some (finmap.get (names_now x) (path_in v.dir name)) ≡ true → IsDrawn n name
  known_before name ok there = All-contains (IsDrawn n) v.kept.known name drawn (is.known.all name ok there)

  pub free : finmap.get (names_now x) new ≡ None
  free = nothing (finmap.get (names_now x) new) (λ there. less_itself n (known_before (Log n) fits there))

  pub created_at : ChangesAt new x created
  created_at = made_at new x lawful.files

  pub later_at : ChangesAt new x later
  later_at = changes_both new x created later created_at (names_synced_at new created)

  new_there : finmap.get (names_now later) new ≡ Some (File_node (length x.files))
  new_there = get_created x new

  new_alone : IsAlone later new
  new_alone = (names_synced_at new created).alone new (made_alone new x lawful.files)

  -- what has bytes has another name
  pub held_apart : (other held : List ℕ) → bytes_at (tree_now x) other ≡ Some held → other ≢ new
  held_apart other held has same =
      let found = file_of x other held has in
      let clash : None ≡ Some found.0 = sym (ap id_of free) ∙ ap (file_at x) (sym same) ∙ now_at x other found.0 found.1 found.2 in
      cc

  -- ---- the live logs

  earlier : (number id : ℕ) → IsLive v.kept number → file_at x (path_in v.dir (Log number)) ≡ Some id → number < n
  earlier number id live at = known_before (Log number) live.1 (something (finmap.get (names_now x) (path_in v.dir (Log number))) id at)

  all_earlier : (first : ℕ) (logs : List LogPart) → AreSynced x v.dir first logs → All (IsLive v.kept) (numbers_of logs)
      → All (IsEarlier v.kept n) logs
  all_earlier first [] synced live = All-nil (IsEarlier v.kept n)
  all_earlier first (log ∷ logs) synced live =
      let here = All-head (IsLive v.kept) log.number (numbers_of logs) live in
      All-cons (IsEarlier v.kept n) log logs (
        earlier log.number synced.0.id here
            (kept_at x (path_in v.dir (Log log.number)) synced.0.id synced.0.file synced.0.kept),
        here,
      )
      (all_earlier (sequence_after first log.batches) logs synced.1 (All-tail (IsLive v.kept) log.number (numbers_of logs) live))

  abbrev logs : List LogPart
  logs = logs_of run.parts

  logs_synced : AreSynced x v.dir (first_logged parts) logs
  logs_synced = synced_push x v.dir (first_logged parts) parts.older parts.last is.logs.older wal

  logs_earlier : All (IsEarlier v.kept n) logs
  logs_earlier = all_earlier (first_logged parts) logs logs_synced (subst (All (IsLive v.kept)) is.logs.numbers is.logs.live)

  logs_others : All (λ (log : LogPart). IsFileName (Log log.number) × (Log log.number ≢ Log n)) logs
  logs_others = All-weaker (IsEarlier v.kept n) (λ (log : LogPart). IsFileName (Log log.number) × (Log log.number ≢ Log n))
      (λ log e. (e.1.1, λ same. not_equal log.number n e.0 (log_once log.number n same))) logs logs_earlier

  below_of : (some : List LogPart) → All (IsEarlier v.kept n) some → All (λ (k : ℕ). k < n) (numbers_of some)
  below_of [] each = All-nil (λ (k : ℕ). k < n)
  below_of (log ∷ some) each = All-cons (λ (k : ℕ). k < n) log.number (numbers_of some)
      (All-head (IsEarlier v.kept n) log some each).0 (below_of some (All-tail (IsEarlier v.kept n) log some each))

  logs_below : All (λ (k : ℕ). k < n) v.kept.logs
  logs_below = subst (All (λ (k : ℕ). k < n)) (sym is.logs.numbers) (below_of logs logs_earlier)

  last_earlier : (front : List LogPart) → All (IsEarlier v.kept n) (front ++ parts.last ∷ []) → IsEarlier v.kept n parts.last
  last_earlier [] each = All-head (IsEarlier v.kept n) parts.last [] each
  last_earlier (log ∷ front) each = last_earlier front (All-tail (IsEarlier v.kept n) log (front ++ parts.last ∷ []) each)

  new_live : IsLive v.kept n
  new_live = let last = last_earlier parts.older logs_earlier in (omega (arith, last.0, last.1), fits)

  -- ---- names

  only_later : (number : ℕ) → v.kept.log ≤ number → IsFileName (Log number) → MayStand later v.dir (frozen_kept v.kept) number
  only_later number least ok = ⊎_elim
      (λ same. inl (subst (λ (k : ℕ). Contains (v.kept.logs ++ n ∷ []) k) (sym same) (Contains-push v.kept.logs n)))
      (λ differs. ⊎_elim
      (λ among. inl (Contains-append_left v.kept.logs (n ∷ []) number among))
      (λ gone. inr (file_stays new x later later_at (path_in v.dir (Log number))
      (name_apart v.dir (Log n) named fits (Log number) ok (λ same. differs (log_once number n same))) ∙ gone))
      (is.logs.only number least ok))
      (cases_eq number n)

  known_there : (name : FileName) → Contains (v.kept.known ++ Log n ∷ []) name
      → IsFileName name × (is_some (file_at later (path_in v.dir name)) ≡ true)
  known_there name among = ⊎_elim
      (λ old. let was = is.known.there name old in (was.0, still (path_in v.dir name) (path_cases (path_in v.dir name) new) was.1))
      (λ same. subst (λ (m : FileName). IsFileName m × (is_some (file_at later (path_in v.dir m)) ≡ true)) same
      (fits, ap (λ (what : Option Node). is_some (id_of what)) new_there))
      (Contains-push_cases v.kept.known (Log n) name among)
    where
      still : (other : List ℕ) → (other ≡ new) ⊎ (other ≢ new) → is_some (file_at x other) ≡ true → is_some (file_at later other) ≡ true
      still other (inl same) there = ap (λ (p : List ℕ). is_some (file_at later p)) same ∙ ap
          (λ (what : Option Node). is_some (id_of what)) new_there
      still other (inr differs) there = ap is_some (file_stays new x later later_at other differs) ∙ there

  known_all : (name : FileName) → IsFileName name → is_some (finmap.get (names_now later) (path_in v.dir name)) ≡ true
      → Contains (v.kept.known ++ Log n ∷ []) name
  known_all name ok there = ⊎_elim
      (λ same. subst (λ (m : FileName). Contains (v.kept.known ++ Log n ∷ []) m)
      (sym (same_name v.dir (Log n) named fits name ok same)) (Contains-push v.kept.known (Log n)))
      (λ differs. Contains-append_left v.kept.known (Log n ∷ []) name
      (is.known.all name ok (ap is_some (sym (later_at.now (path_in v.dir name) differs)) ∙ there)))
      (path_cases (path_in v.dir name) new)

  alone_later : All (IsAlone later) (appended_to v.dir (frozen_kept v.kept) n)
  alone_later =
      let manifest : List ℕ = path_in v.dir (Manifest v.kept.manifest) in
      let old : List ℕ = path_in v.dir (Log parts.last.number) in
      let rest : List (List ℕ) = map (λ (table : Unfinished). path_in v.dir (Table table.number)) v.kept.unfinished
      ++ in_hand v.kept.begun v.kept.hand in
      All-cons (IsAlone later) manifest (new ∷ rest) (later_at.alone manifest (All-head (IsAlone x) manifest (old ∷ rest) is.alone))
      (All-cons (IsAlone later) new rest new_alone
      (All-weaker (IsAlone x) (IsAlone later) later_at.alone rest
      (All-tail (IsAlone x) old rest (All-tail (IsAlone x) manifest (old ∷ rest) is.alone))))

  given_later : All (λ (table : Unfinished). bytes_at (tree_now later) (path_in v.dir (Table table.number))
      ≡ Some table.bytes) v.kept.unfinished
  given_later =
      All-weaker (IsGiven x v.dir (Log parts.last.number)) (λ (table : Unfinished). bytes_at (tree_now later)
      (path_in v.dir (Table table.number)) ≡ Some table.bytes)
      (λ table given. bytes_stay new x later later_at (path_in v.dir (Table table.number))
      (table_apart v.dir table.number n) table.bytes (given (table_apart v.dir table.number parts.last.number)))
      v.kept.unfinished is.given

  pub pinned_later : All (λ (pin : Pin). PinFiles later v.dir pin.files) s.pins
  pinned_later =
      All-weaker (λ (pin : Pin). PinFiles x v.dir pin.files) (λ (pin : Pin). PinFiles later v.dir pin.files)
      (λ pin are. All-weaker (IsPinned x v.dir) (IsPinned later v.dir)
      (λ file has. record {
        fits = has.fits;
        more = has.more;
        there = bytes_stay new x later later_at (path_in v.dir file.name)
            (held_apart (path_in v.dir file.name) (file.bytes ++ has.more) has.there) (file.bytes ++ has.more) has.there;
      }) pin.files are)
      s.pins (beside v s good run x writes).pinned

  pub created_inside : ChangesInside v.dir (state_of good.story) created
  created_inside = inside_both v.dir (state_of good.story) x created writes.inside
      (change_inside v.dir x (Created new) (created_spares v.dir (Log n) named fits) tt)

  later_inside : ChangesInside v.dir (state_of good.story) later
  later_inside = inside_both v.dir (state_of good.story) created later created_inside
      (change_inside v.dir created Names_synced (record { names = λ folder ok other. tt; files = λ folder file ok other ok2. tt }) tt)

  pub folders_later : FoldersRead later s
  folders_later = folders_stay (state_of good.story) later s
      (subst (λ (own : List ℕ). ChangesInside own (state_of good.story) later) good.kept.own later_inside) good.folders

  -- ---- the new parts

  module _ (no_frozen : v.kept.frozen ≡ []) where
    none_older : batches_in parts.older ≡ []
    none_older = no_older (state_of good.story) v s run no_frozen

    batches_are : batches_in logs ≡ parts.last.batches
    batches_are = batches_push parts.older parts.last ∙ ap (λ (l : List (List Op)). l ++ parts.last.batches) none_older

    many : length (batches_in logs) ≡ length parts.last.batches
    many = ap (λ (l : List (List Op)). length l) batches_are

    frozen_rows : AreRowsOf (first_logged parts) (batches_in logs) v.kept.active
    frozen_rows =
        subst (λ (l : List (List Op)). AreRowsOf (first_logged parts) l v.kept.active) (sym batches_are)
        (subst (λ (k : ℕ). AreRowsOf k parts.last.batches v.kept.active)
        (ap (sequence_after (first_logged parts)) none_older) run.sane.logs.active)

    older_len : v.kept.log_len ≡ older_bytes (rolled n parts)
    older_len = omega (
      arith,
      run.works.log_len,
      bytes_push (first_logged parts) parts.older parts.last,
      no_bytes
          (first_logged parts) parts.older none_older,
    )

    frozen_sane : Sane later v.dir (frozen_kept v.kept) (rolled n parts)
    frozen_sane =
        let current = current_at v.dir (Log n) named fits x later later_at v.kept (λ same. cc) is.current in
        let edits = edits_at v.dir (Log n) named fits x later later_at v.kept parts.edits is.current.numbered (λ same. cc)
        (is.edits (λ same. cc)) in
        let tables = tables_at v.dir (Log n) named fits x later later_at v.kept parts.rows (λ number placed found same. cc) is.tables in
        record {
          current = record { named = current.named; folder = current.folder; numbered = current.numbered; file = current.file };
          edits = record {
            are = edits.are;
            file = edits.file;
            len = edits.len;
            version = edits.version;
            log = edits.log;
            last = edits.last;
          };
          tables = record {
            each = λ number placed found. let table = tables.each number placed found in
                record {
                  numbered = table.numbered;
                  bytes = table.bytes;
                  file = table.file;
                  table = table.table;
                  size = table.size;
                  viewed = table.viewed;
                };
          };
          logs = record {
            numbers = ap (λ (l : List ℕ). l ++ n ∷ []) is.logs.numbers ∙ sym (numbers_push logs (record { number = n; batches = [] }));
            ascend = sorted_push v.kept.logs n is.logs.ascend logs_below;
            live = All-push (IsLive v.kept) v.kept.logs n is.logs.live new_live;
            older = synced_at v.dir (Log n) named fits x later later_at (first_logged parts) logs logs_others logs_synced;
            last = subst (λ (y : disk.State). IsWal y new [] 0) (after_names_synced created)
                (empty_wal (with_made new x) new (length x.files) (new_kept x new));
            only = only_later;
            frozen = frozen_rows;
            active = record { same = IsPermutation-refl []; newest_is = λ key. refl };
          };
          quiet = record { spares = λ name is held. All-nil (OpSpares (path_in v.dir name)) };
          known = record { there = known_there; all = known_all };
          files = files_at v.dir (Log n) named fits x later later_at is.files;
          lawful = is.lawful;
          written = record { tables = given_later; alone = alone_later };
          restored = restored_at v.dir (Log n) named fits x later later_at is.files v.kept.begun v.kept.hand is.restored;
        }

    module _ (seen : Seen) where
      abbrev t : State
      t = frozen_state seen s

      free_alone : IsAlone x new
      free_alone = record { only = λ id k other at leads. let clash : None ≡ Some id = sym (ap id_of free) ∙ at in absurd (cc) }

      pub frozen_runs : IsRunning later (frozen_shown seen v) (frozen_state seen s)
      frozen_runs =
          let jobs = jobs_at v.dir (Log n) named fits x later later_at is.files free_alone v.kept.pins s
          (beside v s good run x writes).jobs in
          record {
            parts = rolled n parts;
            sane = frozen_sane;
            tied = record {
              flushed = run.tied.flushed;
              within = run.tied.within;
              below = run.tied.below;
              last = run.tied.last;
              above = append-nil (batches_in logs) ∙ batches_push parts.older parts.last ∙ run.tied.above;
              durable = omega (arith, logged_many parts s run.tied, many, ap (λ (l : List (List Op)). length l) none_older);
            };
            works = record {
              active = refl;
              frozen = run.works.active ∙ sym many;
              log_len = refl;
              older_len = older_len;
              active_len = refl;
              frozen_len = run.works.active_len;
              tables = run.works.tables;
              merging = run.works.merging;
              outputs = run.works.outputs;
              next = ap (λ (k : ℕ). k + 1) run.works.next;
              manifest_len = run.works.manifest_len;
            };
            jobs = record { apart = jobs.apart; each = jobs.each };
            certain = run.certain;
          }

      -- the rows are frozen
      pub frozen_good : (story : Story) → seen.told ≡ Some story → v.halt ≡ None → state_of story ≡ later
          → Good (frozen_shown seen v) (frozen_state seen s)
      frozen_good story told none at = record {
        story = story;
        told = told;
        mode = subst (λ (y : disk.State). IsInMode v.halt y (frozen_shown seen v) t) (sym at)
            (subst (λ (h : Option Halt). IsInMode h later (frozen_shown seen v) t) (sym none) frozen_runs);
        pinned = subst (λ (y : disk.State). Pinned y v.dir v.kept.pins t) (sym at)
            (record { pins = pins_alike s t refl refl refl v.kept.pins s.pins good.pinned.pins; files = pinned_later });
        folders = subst (λ (y : disk.State). FoldersRead y t) (sym at) (record { now = folders_later.now; sure = folders_later.sure });
        clear = subst AreClearable (sym at) (clear_at v.dir (Log n) named fits x later later_at is.files
            (beside v s good run x writes).clear);
        counted = record {
          durable = omega arith;
          numbers = good.counted.numbers;
          fronts = good.counted.fronts;
          begun = good.counted.begun;
        };
        kept = record {
          own = good.kept.own;
          sequence = good.kept.sequence;
          greatest_pin = good.kept.greatest_pin;
          disables = good.kept.disables;
          begun = good.kept.begun;
          halt = good.kept.halt;
        };
        counts = record { faults = refl; refusals = refl };
      }
