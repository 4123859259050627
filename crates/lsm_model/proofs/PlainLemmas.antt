-- What a plain store's answers are steps of.
use Rattle.std.specs.Prelude.{◌≡◌, ◌≢◌, ℕ, zero, suc, ◌+◌, ◌-◌, ◌<◌, ◌≤◌, Bool, true, false, not, ◌==◌, ◌&&◌, nat_lt, nat_le, cond, List, [], ◌∷◌, ◌++◌, length, map, get_or, All, is_some, IfSome, Option, Some, None, Result, Ok, Err}
use Rattle.std.proofs.Common.{refl, sym, ap, subst, ◌∙◌, arith}
use Rattle.std.proofs.lemmas.Bool.Decides.{nat_tests}
use Rattle.std.proofs.lemmas.List.{take-append-le, length-append}
use Rattle.std.specs.Option.{option_map}
use Rattle.std.proofs.lemmas.List.Elements.{All-nil, All-push}
use Rattle.lsm_model.specs.declared.states.FolderRead.{FolderRead}
use Rattle.std.specs.FinMap as finite
use Rattle.lsm_rows.specs.declared.operations.Op.{Op}
use Rattle.lsm_rows.specs.Replay.{Contents, replayed, sequence_after}
use Rattle.lsm_model.specs.declared.errors.StoreError.{StoreError}
use Rattle.lsm_model.specs.declared.errors.StoreError.TheVariants as error
use Rattle.lsm_disk.specs.declared.calls.Halt.{Halt}
use Rattle.lsm_model.specs.declared.events.Which.{Which}
use Rattle.lsm_model.specs.declared.events.Which.TheVariants as which
use Rattle.lsm_model.specs.declared.cuts.CutFile.{CutFile}
use Rattle.lsm_model.specs.declared.cuts.LiveFiles.{LiveFiles}
use Rattle.lsm_model.specs.declared.cuts.FlushRule.{FlushRule}
use Rattle.lsm_model.specs.declared.replies.Flushed.TheVariants as flush
use Rattle.lsm_model.specs.declared.replies.Begun.TheVariants as begun
use Rattle.lsm_model.specs.declared.replies.Stepped.TheVariants as merge
use Rattle.lsm_model.specs.declared.replies.Deleted.TheVariants as delete
use Rattle.lsm_model.specs.declared.replies.Shown.{Shown}
use Rattle.lsm_model.specs.declared.states.State.{State}
use Rattle.lsm_model.specs.declared.states.Pin.{Pin}
use Rattle.lsm_model.specs.declared.states.Holder.{Holder}
use Rattle.lsm_model.specs.declared.states.Holder.TheVariants.{Caller}
use Rattle.lsm_model.specs.declared.cuts.Cut.{Cut}
use Rattle.lsm_model.specs.declared.plain.PlainLists.{PlainLists}
use Rattle.lsm_model.specs.declared.lookups.PlainFolder.{PlainFolder}
use Rattle.lsm_model.specs.States.{last_of, contents_now}
use Rattle.lsm_model.specs.Moves.{Becomes, Settles, Flushes}
use Rattle.lsm_model.specs.Causes.{last_sequence, number_end, disable_limit, pin_limit, pins_full, refused_if, first_of, sequence_full, halted}
use Rattle.lsm_model.specs.Answers.{Done, Refused, Usual, does_flush}
use Rattle.lsm_model.specs.Writes.{Writes, SyncsLog, with_batch, all_durable}
use Rattle.lsm_model.specs.Reads.{Gets, Scans}
use Rattle.lsm_model.specs.Upkeep as upkeep
use Rattle.lsm_model.specs.Upkeep.{is_in_shape}
use Rattle.lsm_model.specs.Pins.{Cuts, CutsAt, IsFlushed, Disables, Enables, ListsFiles, FreeOfLogs, IsNoLog, listed, pinned}
use Rattle.lsm_model.specs.Plain.{state_of, plain_reading, plain_folder, HasFront, IsPlain, IsPlainPin}
use Rattle.lsm_rows.proofs.ReplayedRows.{lesser}

-- ---- tests

pub test_yes : (test : Bool) (e : StoreError) → test ≡ true → refused_if test e ≡ Some e
test_yes test e is = ap (λ (b : Bool). refused_if b e) is

pub test_no : (test : Bool) (e : StoreError) → test ≡ false → refused_if test e ≡ None
test_no test e is = ap (λ (b : Bool). refused_if b e) is

pub le_yes : (a b : ℕ) → a ≤ b → nat_le a b ≡ true
le_yes a b le = grind (arith, nat_tests)

pub le_no : (a b : ℕ) → b < a → nat_le a b ≡ false
le_no a b less = grind (arith, nat_tests)

pub lt_no : (a b : ℕ) → b ≤ a → nat_lt a b ≡ false
lt_no a b le = grind (arith, nat_tests)

pub same_state : (s : State) → Becomes s s
same_state s = record { rest = refl; faults = omega arith; refusals = omega arith }

-- ---- the halting call

-- what isn't there is none
pub none_from : {A : Type 0} (o : Option A) → ((x : A) → o ≡ Some x → ⊥) → o ≡ None
none_from None other = refl
none_from (Some x) other = absurd (other x refl)

-- what isn't halted knows nothing against a call by that
pub runs_on : (s : State) → s.halt ≡ None → halted s ≡ None
runs_on s runs = ap (option_map error.Halted) runs

pub first_runs : (s : State) (tests : List (Option StoreError)) → s.halt ≡ None → first_of (halted s ∷ tests) ≡ first_of tests
first_runs s tests runs = ap (λ (o : Option Halt). first_of (option_map error.Halted o ∷ tests)) runs

-- what is halted is refused for it first
pub first_halted : (s : State) (tests : List (Option StoreError)) (e : StoreError) → halted s ≡ Some e → first_of (halted s ∷ tests) ≡ Some e
first_halted s tests e is = ap (λ (o : Option StoreError). first_of (o ∷ tests)) is

-- ---- disables

pub disabled : (s : State) → s.disables < disable_limit → Disables s (Ok (s.disables + 1)) (record s { disables = s.disables + 1 })
disabled s less = Done (s.disables + 1) refl (test_no _ _ (le_no disable_limit s.disables less)) (refl, refl)

pub disable_full : (s : State) → disable_limit ≤ s.disables → Disables s (Err (error.DisablesFull s.disables)) s
disable_full s le = Refused (error.DisablesFull s.disables) refl (test_yes _ _ (le_yes disable_limit s.disables le)) refl

none_is : (n : ℕ) → n ≢ 0 → (n == 0) ≡ false
none_is n some = grind (arith, nat_tests)

pub enabled : (s : State) → s.disables ≢ 0 → Enables s (Ok (s.disables - 1)) (record s { disables = s.disables - 1 })
enabled s some = Done (s.disables - 1) refl (test_no _ _ (none_is s.disables some)) (omega (arith, some), refl)

pub enable_none : (s : State) → s.disables ≡ 0 → Enables s (Err error.NotDisabled) s
enable_none s none = Refused error.NotDisabled refl (ap (λ (n : ℕ). refused_if (n == 0) error.NotDisabled) none) refl

-- ---- reads

pub got : (s : State) (key : List ℕ) (value : Option (List ℕ)) → value ≡ finite.get (contents_now s) key → Gets s key (Ok value) s
got s key value is = Done value refl refl (is, same_state s)

pub scanned : (s : State) (pairs : Contents) → pairs ≡ contents_now s → Scans s (Ok pairs) s
scanned s pairs is = Done pairs refl refl (is, same_state s)

-- ---- upkeep: there are no tables

none_to : (p : PlainLists) (which : Which) → upkeep.nothing_to which (state_of p) ≡ true
unfolding is_in_shape
none_to p which.Shape = refl
none_to p which.All = refl

pub nothing_to_compact : (p : PlainLists) (which : Which) → p.halt ≡ None → upkeep.BeginsCompaction (state_of p) which (Ok begun.Nothing) (state_of p)
nothing_to_compact p which runs = Done begun.Nothing refl (runs_on (state_of p) runs) (refl, none_to p which, refl)

pub no_compaction : (p : PlainLists) (rows : ℕ) → p.halt ≡ None → upkeep.StepsCompaction (state_of p) rows (Ok merge.NoJob) (state_of p)
no_compaction p rows runs = upkeep.Usual (Done merge.NoJob refl (runs_on (state_of p) runs) (refl, refl))

pub settled : (p : PlainLists) → IsPlain p → Settles (state_of p) (state_of p)
settled p is = record { rest = same_state (state_of p); durable = omega arith; within = is.durable }

pub none_deleted : (p : PlainLists) → IsPlain p → p.halt ≡ None → p.disables ≡ 0 → upkeep.Deletes (state_of p) (Ok delete.Nothing) (state_of p)
none_deleted p is runs none = Done delete.Nothing refl (runs_on (state_of p) runs) (none, settled p is)

pub deletion_disabled : (s : State) → s.halt ≡ None → s.disables ≢ 0 → upkeep.Deletes s (Ok (delete.Disabled s.disables)) s
deletion_disabled s runs some = Done (delete.Disabled s.disables) refl (ap (option_map error.Halted) runs) (refl, some, refl)

pub none_frozen : (p : PlainLists) → p.halt ≡ None → p.frozen ≡ 0 → upkeep.StepsFlush (state_of p) (Ok flush.NoJob) (state_of p)
none_frozen p runs none = upkeep.Usual (Done flush.NoJob refl (runs_on (state_of p) runs) (none, refl))

-- rows leave memory
pub flushed : (p : PlainLists) (active frozen active_len frozen_len : ℕ) → IsPlain p
    → Flushes (state_of p) (state_of (record p { active = active; frozen = frozen; active_len = active_len; frozen_len = frozen_len }))
flushed p active frozen active_len frozen_len is = record {
  rest = record { rest = record { rest = refl; faults = omega arith; refusals = omega arith }; durable = omega arith; within = is.durable };
  next = omega arith;
  few = omega arith;
  older = omega arith;
  newer = omega arith;
  idle = λ one two. (refl, refl);
}

pub all_flushed : (p : PlainLists) → IsPlain p → p.halt ≡ None → p.frozen ≢ 0 → upkeep.StepsFlush (state_of p) (Ok flush.Installed) (state_of (record p { frozen = 0; frozen_len = 0 }))
all_flushed p is runs some =
    upkeep.Usual (Done flush.Installed refl (runs_on (state_of p) runs) (
      some,
      record {
        rest = flushed p p.active 0 p.active_len 0 is;
        few = omega arith;
        active = refl;
        frozen = refl;
        active_len = refl;
        frozen_len = refl;
        tables = omega arith;
        newer = omega arith;
      },
    ))

-- ---- freeze

can_not : (active frozen : ℕ) → active ≡ 0 → (not (active == 0) && frozen == 0) ≡ false
can_not active frozen none = grind (arith, nat_tests)

can_not_twice : (active frozen : ℕ) → frozen ≢ 0 → (not (active == 0) && frozen == 0) ≡ false
can_not_twice active frozen some = elim (active == 0) as (λ b. (not b && frozen == 0) ≡ false) [ true ↦ refl | false ↦ none_is frozen some ]

can : (active frozen : ℕ) → active ≢ 0 → frozen ≡ 0 → (not (active == 0) && frozen == 0) ≡ true
can active frozen some none = grind (arith, nat_tests)

log_test : (s : State) (b : Bool) → upkeep.can_freeze s ≡ b → s.halt ≡ None → first_of (halted s ∷ upkeep.no_number_for_log (upkeep.can_freeze s) s ∷ []) ≡ first_of (upkeep.no_number_for_log b s ∷ [])
log_test s b is runs =
    ap (λ (o : Option Halt). first_of (option_map error.Halted o ∷ upkeep.no_number_for_log (upkeep.can_freeze s) s ∷ [])) runs
    ∙ ap (λ (c : Bool). first_of (upkeep.no_number_for_log c s ∷ [])) is

pub not_frozen : (s : State) → s.halt ≡ None → upkeep.can_freeze s ≡ false → upkeep.Freezes s (Ok false) s
not_frozen s runs is = Done false refl (log_test s false is runs) (is, refl)

pub none_active : (p : PlainLists) → p.halt ≡ None → p.active ≡ 0 → upkeep.Freezes (state_of p) (Ok false) (state_of p)
none_active p runs none = not_frozen (state_of p) runs (can_not p.active p.frozen none)

pub frozen_already : (p : PlainLists) → p.halt ≡ None → p.frozen ≢ 0 → upkeep.Freezes (state_of p) (Ok false) (state_of p)
frozen_already p runs some = not_frozen (state_of p) runs (can_not_twice p.active p.frozen some)

pub no_number : (p : PlainLists) → p.halt ≡ None → p.active ≢ 0 → p.frozen ≡ 0 → number_end ≤ p.next → upkeep.Freezes (state_of p) (Err (error.NumbersFull p.next)) (state_of p)
no_number p runs some none full =
    Refused (error.NumbersFull p.next) refl
    (log_test (state_of p) true (can p.active p.frozen some none) runs ∙ ap (λ (o : Option StoreError). first_of (o ∷ [])) (test_yes _ (error.NumbersFull p.next) (le_yes number_end p.next full)))
    refl

pub froze : (p : PlainLists) → IsPlain p → p.halt ≡ None → p.active ≢ 0 → p.frozen ≡ 0 → p.next < number_end
    → upkeep.Freezes (state_of p) (Ok true) (state_of (record p { active = 0; frozen = p.active; active_len = 0; frozen_len = p.active_len; next = p.next + 1 }))
froze p is runs some none less =
    Done true refl
    (log_test (state_of p) true (can p.active p.frozen some none) runs ∙ ap (λ (o : Option StoreError). first_of (o ∷ [])) (test_no _ (error.NumbersFull p.next) (le_no number_end p.next less)))
    (can p.active p.frozen some none, record { rest = same_state (upkeep.with_frozen (state_of p)); durable = omega arith; within = is.durable })

-- ---- live files

no_logs : (files : List CutFile) (flushing : Bool) → files ≡ [] → FreeOfLogs flushing (map (λ (file : CutFile). file.name) files)
no_logs files true none = subst (λ (l : List CutFile). All IsNoLog (map (λ (file : CutFile). file.name) l)) (sym none) (All-nil IsNoLog)
no_logs files false none = tt

pub no_live_files : (p : PlainLists) (live : LiveFiles) → IsPlain p → p.halt ≡ None → live.sequence ≡ p.sequence → live.manifest_len ≡ 0 → live.files ≡ [] → ListsFiles (state_of p) false (Ok live) (state_of p)
no_live_files p live is runs sequence len none =
    Usual (Done live refl (runs_on (state_of p) runs) (record { flushed = same_state (state_of p); sequence = sequence ∙ is.sequence; manifest_len = len; logs = no_logs live.files false none }))

-- all rows leave memory
pub flushed_now : (p : PlainLists) → IsPlain p → IsFlushed (state_of p) (state_of (record p { active = 0; frozen = 0; active_len = 0; frozen_len = 0 }))
flushed_now p is = record { rest = flushed p 0 0 0 0 is; active = refl; frozen = refl; active_len = refl; frozen_len = refl }

pub live_flushed : (p : PlainLists) (live : LiveFiles) → IsPlain p → p.halt ≡ None → live.sequence ≡ p.sequence → live.manifest_len ≡ 0 → live.files ≡ []
    → ListsFiles (state_of p) true (Ok live) (state_of (record p { active = 0; frozen = 0; active_len = 0; frozen_len = 0 }))
live_flushed p live is runs sequence len none =
    Usual (Done live refl (runs_on (state_of p) runs) (record { flushed = flushed_now p is; sequence = sequence ∙ is.sequence; manifest_len = len; logs = no_logs live.files true none }))

-- ---- writes

pub synced : (p : PlainLists) (d : ℕ) → p.halt ≡ None → d ≡ length p.accepted.items → SyncsLog (state_of p) (Ok tt) (state_of (record p { durable = d }))
synced p d runs is =
    let P : ℕ → Type 0 = λ n. SyncsLog (state_of p) (Ok tt) (state_of (record p { durable = n })) in
    subst P (sym is) (Done tt refl (runs_on (state_of p) runs) (same_state (all_durable (state_of p))))

pub sequence_of_two : (start : ℕ) (xs : List (List Op)) (ops : List Op) → sequence_after start (xs ++ ops ∷ []) ≡ sequence_after start xs + length ops
sequence_of_two start [] ops = refl
sequence_of_two start (x ∷ xs) ops = sequence_of_two (start + length x) xs ops

pub longer : (xs ys : List (List Op)) (ops : List Op) → ys ≡ xs ++ ops ∷ [] → length ys ≡ length xs + 1
longer xs ys ops is = ap length is ∙ length-append xs (ops ∷ [])

-- a front shows what it did when a batch comes behind
front_stays : (accepted : List (List Op)) (ops : List Op) (name : List ℕ) (batches : Option ℕ) → IfSome batches (λ count. count ≤ length accepted)
    → plain_reading (accepted ++ ops ∷ []) name batches ≡ plain_reading accepted name batches
front_stays accepted ops name None front = refl
front_stays accepted ops name (Some count) front =
    ap (λ (first : List (List Op)). Ok (record { sequence = sequence_after 0 first; contents = replayed finite.empty first })) (take-append-le count accepted (ops ∷ []) front)

-- so do the folders
folders_stay : (accepted : List (List Op)) (ops : List Op) (folders : List PlainFolder) → All (HasFront accepted) folders
    → map (plain_folder (accepted ++ ops ∷ [])) folders ≡ map (plain_folder accepted) folders
folders_stay accepted ops [] all = refl
folders_stay accepted ops (f ∷ folders) all =
    ap (λ (reading : Result Shown StoreError). record { name = f.name; reading = reading; sure = is_some f.batches } ∷ map (plain_folder (accepted ++ ops ∷ [])) folders) (front_stays accepted ops f.name f.batches (all zero f (omega arith)))
    ∙ ap (λ (l : List FolderRead). plain_folder accepted f ∷ l) (folders_stay accepted ops folders (λ k d less. all (suc k) d (omega (arith, less))))

-- the store with one batch more
pub written_state : (p q : PlainLists) (ops : List Op) (sync : Bool) (n d l : ℕ) → IsPlain p → q.accepted.items ≡ p.accepted.items ++ ops ∷ []
    → d ≡ cond sync (length p.accepted.items + 1) p.durable
    → state_of (record p { accepted = q.accepted; sequence = n; durable = d; active = p.active + 1; active_len = l }) ≡ record (with_batch ops sync (state_of p)) { active_len = l }
written_state p q ops sync n d l is more durable =
    let folders : map (plain_folder q.accepted.items) p.folders.items ≡ map (plain_folder p.accepted.items) p.folders.items
    = ap (λ (l : List (List Op)). map (plain_folder l) p.folders.items) more ∙ folders_stay p.accepted.items ops p.folders.items is.folders in
    λ i. record (with_batch ops sync (state_of p)) { accepted = more i; durable = durable i; folders = folders i; active_len = l }

pub wrote : (p q : PlainLists) (ops : List Op) (sync : Bool) (n d l : ℕ) → IsPlain p → q.accepted.items ≡ p.accepted.items ++ ops ∷ []
    → p.halt ≡ None → d ≡ cond sync (length p.accepted.items + 1) p.durable → n ≡ p.sequence + length ops → n ≤ last_sequence → p.active_len < l
    → Writes (state_of p) ops sync (Ok n) (state_of (record p { accepted = q.accepted; sequence = n; durable = d; active = p.active + 1; active_len = l }))
wrote p q ops sync n d l is more runs durable sum fits more_bytes =
    let known : first_of (halted (state_of p) ∷ sequence_full (length ops) (state_of p) ∷ []) ≡ None
    = first_runs (state_of p) (sequence_full (length ops) (state_of p) ∷ []) runs ∙ ap (λ (o : Option StoreError). first_of (o ∷ [])) (test_no _ _ (lt_no last_sequence (last_of (state_of p) + length ops) (omega (arith, sum, fits, is.sequence)))) in
    let P : State → Type 0 = Writes (state_of p) ops sync (Ok n) in
    subst P (sym (written_state p q ops sync n d l is more durable))
    (Done n refl known (sum ∙ ap (λ (m : ℕ). m + length ops) is.sequence, record { longer = more_bytes; rest = same_state (record (with_batch ops sync (state_of p)) { active_len = l }) }))

pub sequence_is_full : (p : PlainLists) (ops : List Op) (sync : Bool) (count : ℕ) → IsPlain p → p.halt ≡ None → count ≡ length ops → last_sequence < p.sequence + count
    → Writes (state_of p) ops sync (Err (error.SequenceFull p.sequence count)) (state_of p)
sequence_is_full p ops sync count is runs len full =
    let same : error.SequenceFull (last_of (state_of p)) (length ops) ≡ error.SequenceFull p.sequence count = λ i. error.SequenceFull (sym is.sequence i) (sym len i) in
    Refused (error.SequenceFull p.sequence count) refl
    (first_runs (state_of p) (sequence_full (length ops) (state_of p) ∷ []) runs
    ∙ ap (λ (o : Option StoreError). first_of (o ∷ [])) (test_yes _ _ (lesser last_sequence (last_of (state_of p) + length ops) (omega (arith, len, full, is.sequence))))
    ∙ ap (λ (e : StoreError). Some e) same)
    refl

still_front : (few more : ℕ) (batches : Option ℕ) → few ≤ more → IfSome batches (λ count. count ≤ few) → IfSome batches (λ count. count ≤ more)
still_front few more None le front = tt
still_front few more (Some count) le front = omega (arith, le, front)

-- what is kept fits the batches still
pub plain_written : (p q : PlainLists) (ops : List Op) (n d a l : ℕ) → IsPlain p → q.accepted.items ≡ p.accepted.items ++ ops ∷ [] → d ≤ length p.accepted.items + 1
    → n ≡ p.sequence + length ops → n ≤ last_sequence → IsPlain (record p { accepted = q.accepted; sequence = n; durable = d; active = a; active_len = l })
plain_written p q ops n d a l is more durable sum fits =
    let more_by_one : length q.accepted.items ≡ length p.accepted.items + 1 = longer p.accepted.items q.accepted.items ops more in
    record {
      sequence = sum ∙ ap (λ (m : ℕ). m + length ops) is.sequence ∙ sym (sequence_of_two 0 p.accepted.items ops) ∙ ap (sequence_after 0) (sym more);
      last = fits;
      durable = omega (arith, more_by_one, durable);
      few = is.few;
      pins = λ k pin less. let old = is.pins k pin less in record { front = omega (arith, more_by_one, old.front); none = old.none };
      folders = λ k f less. still_front (length p.accepted.items) (length q.accepted.items) (get_or p.folders.items k f).batches (omega (arith, more_by_one)) (is.folders k f less);
    }

-- ---- cuts

pub with_pin_more : (p q : PlainLists) (holder : Holder) (g : ℕ) → q.pins.items ≡ p.pins.items ++ (record { number = p.greatest_pin + 1; batches = length p.accepted.items; manifest = 0; files = []; holder = holder }) ∷ []
    → g ≡ p.greatest_pin + 1 → state_of (record p { pins = q.pins; greatest_pin = g }) ≡ pinned holder 0 [] (state_of p)
with_pin_more p q holder g more is = λ i. record (state_of p) { pins = more i; greatest_pin = is i }

pub cut_now : (p : PlainLists) (t : State) (by : FlushRule) (cut : Cut) (at : State) → IsPlain p → p.halt ≡ None → length p.pins.items < pin_limit → CutsAt (does_flush by (state_of p)) (state_of p) at → t ≡ pinned Caller 0 [] at
    → cut.pin ≡ p.greatest_pin + 1 → cut.sequence ≡ p.sequence → cut.manifest ≡ 0 → cut.files ≡ [] → Cuts (state_of p) by (Ok cut) t
cut_now p t by cut at is runs room flushes state number sequence manifest none =
    let known : first_of (halted (state_of p) ∷ pins_full (state_of p) ∷ []) ≡ None
    = first_runs (state_of p) (pins_full (state_of p) ∷ []) runs ∙ ap (λ (o : Option StoreError). first_of (o ∷ [])) (test_no _ _ (le_no pin_limit (length p.pins.items) room)) in
    Usual (Done cut refl known (record {
      at = at;
      files = [];
      flushed = flushes;
      pin = number;
      sequence = sequence ∙ is.sequence;
      lists = ap (map listed) none;
      logs = no_logs cut.files (does_flush by (state_of p)) none;
      rest = subst (λ (n : ℕ). Becomes (pinned Caller n [] at) t) (sym manifest) (subst (λ (q : State). Becomes (pinned Caller 0 [] at) q) (sym state) (same_state (pinned Caller 0 [] at)));
    }))

pub no_room : (p : PlainLists) (by : FlushRule) → p.halt ≡ None → length p.pins.items ≡ pin_limit → Cuts (state_of p) by (Err (error.PinsFull 64)) (state_of p)
no_room p by runs full =
    Usual (Refused (error.PinsFull 64) refl
    (first_runs (state_of p) (pins_full (state_of p) ∷ []) runs
    ∙ ap (λ (o : Option StoreError). first_of (o ∷ [])) (test_yes _ _ (le_yes pin_limit (length p.pins.items) (omega (arith, full)))) ∙ ap (λ (n : ℕ). Some (error.PinsFull n)) full)
    refl)

pub plain_pinned : (p q : PlainLists) (holder : Holder) (g : ℕ) → IsPlain p → length p.pins.items < pin_limit
    → q.pins.items ≡ p.pins.items ++ (record { number = p.greatest_pin + 1; batches = length p.accepted.items; manifest = 0; files = []; holder = holder }) ∷ []
    → IsPlain (record p { pins = q.pins; greatest_pin = g })
plain_pinned p q holder g is room more =
    let new : Pin = record { number = p.greatest_pin + 1; batches = length p.accepted.items; manifest = 0; files = []; holder = holder } in
    let len : length q.pins.items ≡ length p.pins.items + 1 = ap length more ∙ length-append p.pins.items (new ∷ []) in
    record {
      sequence = is.sequence;
      last = is.last;
      durable = is.durable;
      few = omega (arith, len, room);
      pins = subst (All (IsPlainPin p.accepted.items)) (sym more) (All-push (IsPlainPin p.accepted.items) p.pins.items new is.pins (record { front = omega arith; none = refl }));
      folders = is.folders;
    }
