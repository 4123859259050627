-- The edit of a flush is appended to the manifest, at each exit.
use Rattle.std.specs.Prelude.{◌≡◌, ◌≢◌, ◌⊎◌, ℕ, ◌+◌, ◌^◌, ◌%◌, ◌<◌, ◌≤◌, Bool, true, false, if◌then◌else◌, nat_lt, nat_le, cond, is_some, take, drop, replicate, List, [], ◌∷◌, ◌++◌, length, All, Contains, Option, Some, None, Result, Ok, Err, IfSome}
use Rattle.std.proofs.Common.{⊎_elim, inl, inr, refl, sym, ap, subst, ◌∙◌, arith, length-append}
use Rattle.std.proofs.lemmas.List.Elements.{All-nil}
use Rattle.std.proofs.lemmas.Bool.Decides.{nat_tests}
use Rattle.std.specs.Cmp.{nat_cmp_total}
use Rattle.std.specs.Ordering.{eq_by_cmp, nat_cmp}
use Rattle.std.specs.FinMap as finmap
use Rattle.std.specs.Int.{w16, w32, to_le_bytes}
use Prim.Native.Nat.{zero, suc}
use Rattle.lsm_io.specs.Causes.{Rose}
use Rattle.lsm_names.specs.declared.file_names.FileName.{FileName}
use Rattle.lsm_names.specs.declared.file_names.FileName.TheVariants.{Manifest, Table}
use Rattle.lsm_bytes.specs.Checksum.{crc32c, masked}
use Rattle.lsm_frame.specs.Frames.{piece, kind_of, space, cut, filling, start, record_text}
use Rattle.lsm_rows.specs.declared.rows.Row.{Row}
use Rattle.lsm_disk.specs.State as disk
use Rattle.lsm_disk.specs.State.{Seen, Story, state_of}
use Rattle.lsm_disk.specs.Images.{Tree, IsImage}
use Rattle.lsm_disk.specs.Refusals.{no_file}
use Rattle.lsm_disk.specs.Kept.{InFile}
use Rattle.lsm_disk.specs.Goes.{Went}
use Rattle.lsm_disk.specs.Dest.{path_in}
use Rattle.lsm_disk.specs.Answers.{RefusesBy, HasRisen, HasDiskCause}
use Rattle.lsm_disk.specs.declared.calls.DiskCall.TheVariants as call
use Rattle.lsm_disk.specs.declared.calls.DiskError.{DiskError}
use Rattle.lsm_disk.specs.declared.calls.DiskError.TheVariants as why
use Rattle.lsm_disk.specs.declared.calls.DiskRefusal.{DiskRefusal}
use Rattle.lsm_disk.specs.declared.calls.Halt.{Halt}
use Rattle.lsm_disk.proofs.Runs.{went_weaker, went_wider, goes_shows}
use Rattle.lsm_wal.specs.Answered.{IsRefusedAt, AnswersAt, AnswersBoth}
use Rattle.lsm_version.specs.declared.edits.Edit.{Edit}
use Rattle.lsm_version.specs.declared.tables.TableInfo.{TableInfo}
use Rattle.lsm_version.specs.Levels.{Tables}
use Rattle.lsm_version.specs.Edits.{IsEdit}
use Rattle.lsm_version.specs.EditText.{edit_text, field_text}
use Rattle.lsm_manifest.specs.Shown as manifest
use Rattle.lsm_manifest.specs.Texts.{IsTaken, manifest_text, record_behind}
use Rattle.lsm_manifest.specs.Standing.{Stands, HoldsEither, IsLeft}
use Rattle.lsm_manifest.proofs.Images.{there}
use Rattle.lsm_manifest.proofs.Texts.{text_push}
use Rattle.lsm_model.specs.declared.errors.StoreError.{StoreError}
use Rattle.lsm_model.specs.declared.states.State.{State}
use Rattle.lsm_model.specs.Halting.{IsMet, table_calls}
use Rattle.lsm_refine.specs.Kept.{KeptPin, Kept, Shown}
use Rattle.lsm_refine.specs.Good.{IsRunning, Good}
use Rattle.lsm_refine.specs.Beside.{WritesAt, IsLone}
use Rattle.lsm_refine.specs.Flushed.{Renewed, IsRenewed, HasFlushTable, at_top, flush_edit, flushed_state}
use Rattle.lsm_refine.specs.Grown.{halted_state}
use Rattle.lsm_refine.specs.Moments.{ReadsAsCrashed, ImagesShow}
use Rattle.lsm_refine.specs.Naming.{HasEither}
use Rattle.lsm_refine.specs.Within.{IsNamedJob}
use Rattle.lsm_refine.specs.Caused.{rolls, edit_draws, flush_number, flush_table, number_or, HasFlushed}
use Rattle.lsm_refine.proofs.FlushReads.{appended_adds, append_halts, append_went}
use Rattle.lsm_refine.proofs.FlushSteps.{draws_none}
use Rattle.lsm_refine.proofs.InstalledLemmas.{installed_good, one_more}
use Rattle.lsm_refine.proofs.WritingLemmas.{runs, last_byte, last_byte-append}
use Rattle.lsm_flush.specs.declared.frozen.Held.{Held}
use Rattle.lsm_flush.specs.declared.frozen.Held.TheVariants as held
use Rattle.lsm_store.specs.Answering.{halt_by, halt_of, error_by, error_of}
use Rattle.lsm_store.specs.FlushParts.{GoesOn, Came, Fails, FindsChanged, Refuses, AddsFlush, InstallsBy, ComesInstalled, HasInstalled}
use Rattle.lsm_store.specs.Inside.{Inner, IsInside, IsNewTable, HasShortKey, older_logs, flushing_of, shown_of}
use Rattle.lsm_store.proofs.Begins.{came_seen}
use Rattle.lsm_store.proofs.Calls.{never_some, no_fault}
use Rattle.lsm_store.proofs.Parting.{drawn_none}
use Rattle.lsm_store.proofs.Writings.{number_fits}

-- what an append to the manifest says
abbrev pub Appended : Inner → Edit → Option Story → Result (Unit {0}) DiskRefusal → Type 0
Appended x edit told result =
    (story : Story) (edits : List Edit) → x.disk.told ≡ Some story → x.manifest.len ≡ length (manifest_text edits)
    → (stands : Stands (state_of story) x.manifest.path edits)
    → Went story told (InFile stands.id) (HoldsEither x.manifest.path edits edit) (IsLeft x.manifest.path edits edit result)

-- the store with the table installed
abbrev pub installed_inner : Inner → Seen → manifest.Shown → Tables → ℕ → Inner
installed_inner x seen m version last = record x {
  disk = seen;
  manifest = m;
  catalog = record x.catalog { version = version; log = x.log; last = last };
  frozen = held.Rows [];
  older = None;
  older_len = 0;
}

-- ---- small facts

pub nothing_in : (row : Row) → Contains [] row → ⊥
nothing_in row among = omega (arith, among.1)

pub nothing_named : (name : FileName) → Contains [] name → ⊥
nothing_named name among = omega (arith, among.1)

pub both_ways : true ≡ false → ⊥
both_ways same = cc

plain : (n : ℕ) → n + 0 + 0 ≡ n
plain n = omega arith

append_differs : call.Append ≢ call.RemoveFolder
append_differs clash = cc

sync_differs : call.Sync ≢ call.RemoveFolder
sync_differs clash = cc

-- a flush whose table is begun draws no number for it
pub no_number_drawn : (kept : Kept) (number : ℕ) → kept.flushing.table ≡ Some number → flush_number kept.flushing ≡ 0
no_number_drawn kept number is = ap (λ (o : Option ℕ). if is_some o then 0 else 1) is

-- the edit says something, so a manifest takes it
some_text : (info : TableInfo) (log next last : ℕ) → 0 < length (edit_text (flush_edit info log next last))
unfolding edit_text field_text
some_text info log next last = omega arith

pub flush_taken : (info : TableInfo) (log next last : ℕ) (edit : Edit) → edit ≡ flush_edit info log next last
    → IsEdit (flush_edit info log next last) → IsTaken edit
flush_taken info log next last edit is grammar =
    subst IsTaken (sym is) (record { grammar = grammar; some = some_text info log next last })

-- a record has some bytes
piece_some : (kind : ℕ) (part : List ℕ) → 1 ≤ length (piece kind part)
unfolding piece
piece_some kind part =
    let first = length-append (to_le_bytes w32 (masked (crc32c (kind ∷ part)))) (to_le_bytes w16 (length part) ++ kind ∷ part) in
    let second = length-append (to_le_bytes w16 (length part)) (kind ∷ part) in
    omega (arith, first, second)

cut_some : (more : ℕ) (begun : Bool) (offset : ℕ) (rest : List ℕ) → 1 ≤ length (cut more begun offset rest)
unfolding cut
cut_some zero begun offset rest = piece_some (kind_of begun true) rest
cut_some (suc more) begun offset rest = by (nat_lt (space offset) (length rest))
  where
    by : (b : Bool) → 1 ≤ length (if b
        then piece (kind_of begun false) (take (space offset) rest) ++ cut more true 0 (drop (space offset) rest)
        else piece (kind_of begun true) rest)
    by true =
        omega (
          arith,
          length-append (piece (kind_of begun false) (take (space offset) rest)) (cut more true 0 (drop (space offset) rest)),
          piece_some (kind_of begun false) (take (space offset) rest),
        )
    by false = piece_some (kind_of begun true) rest

record_some : (offset : ℕ) (payload : List ℕ) → 1 ≤ length (record_text offset payload)
unfolding record_text
record_some offset payload =
    omega (
      arith,
      length-append (replicate (filling offset) 0) (cut (length payload) false (start offset) payload),
      cut_some (length payload) false (start offset) payload,
    )

module _ (x : Inner) (inside : IsInside x) (none : x.halt ≡ None) (info : TableInfo) (last next : ℕ) (version : Tables)
    (adds : AddsFlush (shown_of x) info x.log last version) (grammar : IsEdit (flush_edit info x.log next last)) where
  abbrev v : Shown
  v = shown_of x

  abbrev edit : Edit
  edit = flush_edit info x.log next last

  abbrev here : List ℕ
  here = path_in x.home (Manifest x.manifest.number)

  module _ (s : State) (good : Good (shown_of x) s) where
    abbrev run : IsRunning (state_of good.story) (shown_of x) s
    run = runs v s good none

    table : HasFlushTable (state_of good.story) x.home v.kept info adds.sealed.rows
    table = adds.sealed.is s good

    -- the append went on from the store's disk
    went : (told : Option Story) (result : Result (Unit {0}) DiskRefusal) → Appended x edit told result
        → Went good.story told (InFile run.sane.edits.file.id) (HoldsEither here run.parts.edits edit)
        (IsLeft here run.parts.edits edit result)
    went told result appended =
        subst (λ (p : List ℕ). (stands : Stands (state_of good.story) p run.parts.edits)
        → Went good.story told (InFile stands.id) (HoldsEither p run.parts.edits edit) (IsLeft p run.parts.edits edit result))
        inside.manifest_is
        (λ stands. appended good.story run.parts.edits good.told run.sane.edits.len stands)
        (record { id = run.sane.edits.file.id; kept = run.sane.edits.file.file; each = run.sane.edits.are.each })

    either : (y : disk.State) (t : Tree) → HoldsEither here run.parts.edits edit y t → HasEither here run.parts.edits edit t
    either y t holds = record {
      bytes = holds.bytes;
      there = holds.is;
      records = holds.reads.edits_are;
      ends = holds.reads.ends;
    }

    -- each image on the way reads as a crash leaves the state, and nothing but the manifest's file has changed
    reads : (told : Option Story) (J : disk.State → Type 0)
        → Went good.story told (InFile run.sane.edits.file.id) (HoldsEither here run.parts.edits edit) J
        → Went good.story told (InFile run.sane.edits.file.id) (λ y t. ReadsAsCrashed s t)
        (λ y. J y × (WritesAt x.home (Manifest x.manifest.number) (state_of good.story) y
        × IsLone y x.home (Manifest x.manifest.number) run.sane.edits.file.id))
    reads told J is =
        append_went v s good run info adds.sealed.rows table x.log last adds.ends next grammar told
        (HoldsEither here run.parts.edits edit) J either is

    shows : (told : Option Story) (result : Result (Unit {0}) DiskRefusal) → Appended x edit told result
        → ImagesShow good.story told s s
    shows told result appended =
        let now = reads told (IsLeft here run.parts.edits edit result) (went told result appended) in
        went_weaker (λ y. IsLeft here run.parts.edits edit result y
        × (WritesAt x.home (Manifest x.manifest.number) (state_of good.story) y
        × IsLone y x.home (Manifest x.manifest.number) run.sane.edits.file.id)) (λ y. Unit {0}) (λ y is. tt)
        (went_wider (InFile run.sane.edits.file.id) (λ c. Unit {0}) (λ y t. ReadsAsCrashed s t)
        (λ y t. ReadsAsCrashed s t ⊎ ReadsAsCrashed s t) (λ c is. tt) (λ y t is. inl is) now)

    -- ---- the edit is there

    abbrev renewed : Renewed
    renewed = record { version = version; views = v.kept.views; unfinished = [] }

    abbrev edits : List Edit
    edits = run.parts.edits ++ edit ∷ []

    fit : IsRenewed (state_of good.story) v edits renewed
    fit =
        let add = appended_adds v s good run info adds.sealed.rows table x.log last adds.ends next grammar in record {
          version = adds.more.is
              ∙ ap (λ (t : Tables). finmap.insert t info.number (at_top info)) run.sane.edits.version
              ∙ sym add.tables;
          views = λ number view found. inl found;
          unfinished = All-nil (Contains v.kept.unfinished);
        }

    comes : (seen : Seen) (m : manifest.Shown) → m.number ≡ x.manifest.number
        → m.len ≡ x.manifest.len + length (record_text (x.manifest.len % 32768) (edit_text edit))
        → Appended x edit seen.told (Ok tt) → x.disk.faults ≤ seen.faults → x.disk.refusals ≤ seen.refusals
        → ComesInstalled 0 s (shown_of x) (shown_of (installed_inner x seen m version last))
    comes seen m number long appended faults refusals =
        let add = appended_adds v s good run info adds.sealed.rows table x.log last adds.ends next grammar in
        let is_long : m.len ≡ length (manifest_text edits) =
        long ∙ ap (λ (n : ℕ). n + length (record_text (n % 32768) (edit_text edit))) run.sane.edits.len
        ∙ sym (length-append (manifest_text run.parts.edits) (record_behind run.parts.edits edit))
        ∙ ap (λ (l : List ℕ). length l) (sym (text_push run.parts.edits edit)) in
        let now = reads seen.told (IsLeft {T = Unit {0}} here run.parts.edits edit (Ok tt)) (went seen.told (Ok tt) appended) in
        record {
          now = s;
          draws = draws_none s good.counted.durable;
          faults = omega (arith, good.counts.faults, faults);
          refusals = omega (arith, good.counts.refusals, refusals);
          many = one_more v s good run info adds.sealed.rows table x.log last adds.ends edits add renewed fit m.len;
          good = subst (λ (n : ℕ). Good (shown_of (installed_inner x seen (record m { number = n }) version last))
              (flushed_state seen version m.len s)) (sym number)
              (installed_good v s good run info adds.sealed.rows table x.log last adds.ends edits add renewed fit m.len
              (state_of now.story) now.now.1.0 (record { id = now.now.0.id; file = now.now.0.kept }) is_long seen now.story
              now.tells none refl);
        }

  -- ---- the exits

  module _ (no_roll : rolls (shown_of x).kept ≡ false) where
    has_flushed : (seen : Seen) (m : manifest.Shown) → m.number ≡ x.manifest.number
        → m.len ≡ x.manifest.len + length (record_text (x.manifest.len % 32768) (edit_text edit))
        → HasFlushed (shown_of x).kept (shown_of (installed_inner x seen m version last)).kept
    has_flushed seen m number long = record {
      rows = λ is. nothing_in adds.ends.greatest.row
          (subst (λ (rows : List Row). Contains rows adds.ends.greatest.row) is adds.ends.greatest.among);
      table = at_top info;
      level = refl;
      version = adds.more.is
          ∙ ap (λ (n : ℕ). finmap.insert v.kept.version n (at_top info))
          (sym (ap (number_or x.next) adds.sealed.begun));
      few = adds.few;
      edit = record {
        rolled = λ is. absurd (both_ways (sym is ∙ no_roll));
        longer = λ is. (number, omega (arith, long, record_some (x.manifest.len % 32768) (edit_text edit)));
      };
      next = sym (ap (λ (n : ℕ). x.next + n + edit_draws v.kept) (no_number_drawn v.kept info.number adds.sealed.begun)
          ∙ ap (λ (b : Bool). x.next + 0 + (if b then 1 else 0)) no_roll ∙ plain x.next);
      drawn = record {
        later = omega arith;
        few = omega arith;
        numbers = inl refl;
        still = λ name known. known;
        made = λ name known. inl known;
      };
      rest = refl;
      older = older_logs x.older;
      logs = refl;
      last_among = (adds.ends.greatest.row, adds.ends.greatest.among, adds.ends.greatest.is);
      last_of = adds.ends.greatest.most;
      ended = λ among. nothing_named (Table (flush_table v.kept)) among;
    }

    pub ok_append : (seen : Seen) (m : manifest.Shown) → m.number ≡ x.manifest.number
        → m.len ≡ x.manifest.len + length (record_text (x.manifest.len % 32768) (edit_text edit))
        → Appended x edit seen.told (Ok tt) → x.disk.faults ≤ seen.faults → x.disk.refusals ≤ seen.refusals
        → HasInstalled 0 (shown_of x) (shown_of (installed_inner x seen m version last))
    ok_append seen m number long appended faults refusals = record {
      unhalted = none;
      counts = record { dir = refl; faults = faults; refusals = refusals };
      kept = has_flushed seen m number long;
      good = λ s good. comes s good seen m number long appended faults refusals;
      images = λ s good. shows s good seen.told (Ok tt) appended;
    }

  module _ (seen : Seen) (r : DiskRefusal) (appended : Appended x edit seen.told (Err r))
      (at : IsRefusedAt call.Append call.Sync x.manifest.path x.disk seen r)
      (answers : AnswersAt {T = Unit {0}} call.Sync (no_file x.manifest.path) x.disk (Err r))
      (faults : x.disk.faults ≤ seen.faults) (refusals : x.disk.refusals ≤ seen.refusals) where
    abbrev halted : Shown
    halted = shown_of (record x { disk = seen; halt = Some r.at })

    same : GoesOn 0 v.kept v.kept
    same = record { rest = refl; taken = omega arith; table = λ number is. is; drawn = drawn_none v.kept }

    met : IsMet x.home r.at table_calls
    met =
        let path : r.at.path ≡ path_in x.home (Manifest x.manifest.number) = at.path_is ∙ inside.manifest_is in
        ⊎_elim
        (λ append. inr (inr (inr (inr (inl (append, (x.manifest.number, path)))))))
        (λ sync. inr (inr (inr (inr (inr (inl (sync, (x.manifest.number, path))))))))
        at.call_is

    no_removal : r.at.call ≢ call.RemoveFolder
    no_removal is = ⊎_elim (λ append. append_differs (sym append ∙ is)) (λ sync. sync_differs (sym sync ∙ is)) at.call_is

    -- where it halts the folder stands for what it did
    halts : (s : State) (good : Good (shown_of x) s) → Good (shown_of (record x { disk = seen; halt = Some r.at }))
        (halted_state seen r.at s.doubtful s)
    halts s good =
        let gone = went s good seen.told (Err r) appended in
        let shown : (t : Tree) → IsImage (state_of gone.story) t
        → HasEither here (run s good).parts.edits edit t =
        λ t i. either s good (state_of gone.story) t ((goes_shows gone.goes).each t i) in
        let now = reads s good seen.told (λ y. (t : Tree) → IsImage y t → HasEither here (run s good).parts.edits edit t)
        (record { story = gone.story; tells = gone.tells; goes = gone.goes; now = shown }) in
        append_halts v s good (run s good) info adds.sealed.rows (table s good) x.log last adds.ends next grammar
        (state_of now.story) now.now.1.0 now.now.0 seen r.at now.story now.tells refl

    failed : Rose x.disk.faults seen.faults → Fails 0 (shown_of x) (shown_of (record x { disk = seen; halt = Some r.at }))
    failed rose = record {
      at = r.at;
      halt = refl;
      met = met;
      rose = rose;
      counts = record { dir = refl; faults = faults; refusals = refusals };
      on = same;
      good = λ s good. record {
        now = s;
        draws = draws_none s good.counted.durable;
        faults = omega (arith, good.counts.faults, faults);
        refusals = omega (arith, good.counts.refusals, refusals);
        good = halts s good;
      };
      images = λ s good. shows s good seen.told (Err r) appended;
    }

    -- so no other refusal comes than a fault and want of memory
    refused_by : (s : State) → Good (shown_of x) s → RefusesBy None r.why
    refused_by s good =
        let stands : Stands (state_of good.story) here (run s good).parts.edits = record {
          id = (run s good).sane.edits.file.id;
          kept = (run s good).sane.edits.file.file;
          each = (run s good).sane.edits.are.each;
        } in
        subst (λ (o : Option DiskError). RefusesBy o r.why)
        (ap (λ (p : List ℕ). no_file p (state_of good.story)) inside.manifest_is
        ∙ there (state_of good.story) here (run s good).parts.edits stands)
        (subst (λ (told : Option Story). IfSome told
        (λ story. AnswersBoth {T = Unit {0}} call.Sync (no_file x.manifest.path (state_of story)) (Err r)))
        good.told answers).0

    changed : (e : DiskError) → r.why ≡ e → (RefusesBy None e → ⊥) → Rose x.disk.refusals seen.refusals
        → FindsChanged 0 r.at.call r.at.path (shown_of x) (shown_of (record x { disk = seen; halt = Some r.at }))
    changed e is never rose = record {
      halt = refl;
      met = met;
      other = no_removal;
      rose = rose;
      counts = record { dir = refl; faults = faults; refusals = refusals };
      on = same;
      never = λ s good. never (subst (RefusesBy None) is (refused_by s good));
    }

    by_why : (e : DiskError) → r.why ≡ e → HasRisen x.disk seen e
        → Refuses 0 (error_by r.at e) (shown_of x) (shown_of (record x { disk = seen; halt = halt_by r.at e }))
    unfolding Refuses
    by_why why.Fault is rose = failed rose
    by_why why.NotThere is rose = changed why.NotThere is (λ same. never_some same) rose
    by_why why.Exists is rose = changed why.Exists is (λ same. never_some same) rose
    by_why why.NoLinks is rose = changed why.NoLinks is (λ same. never_some same) rose
    by_why why.NotEmpty is rose = changed why.NotEmpty is (λ same. never_some same) rose
    by_why (why.Short found) is rose = changed (why.Short found) is (λ same. never_some same) rose
    by_why why.NoMemory is rose =
        let told : seen.told ≡ x.disk.told =
        ⊎_elim (λ first. at.unchanged first (no_fault r.why is)) (λ second. absurd (at.memory second is)) at.call_is in
        subst (λ (h : Option Halt). Came 0 (shown_of x) (shown_of (record x { disk = seen; halt = h }))) none
        (came_seen x inside none info.number (number_fits info.number adds.sealed.numbered) adds.sealed.fresh seen told faults
        refusals)

  pub refused_append : (seen : Seen) (r : DiskRefusal) (m : manifest.Shown) (halt : Option Halt) (refusal : StoreError)
      → m ≡ x.manifest → halt ≡ halt_of r → refusal ≡ error_of r → Appended x edit seen.told (Err r)
      → IsRefusedAt call.Append call.Sync x.manifest.path x.disk seen r
      → AnswersAt {T = Unit {0}} call.Sync (no_file x.manifest.path) x.disk (Err r)
      → HasDiskCause {T = Unit {0}} x.disk seen (Err r)
      → Refuses 0 refusal (shown_of x) (shown_of (record x { disk = seen; manifest = m; halt = halt }))
  refused_append seen r m halt refusal stays halts_is is appended at answers cause =
      subst (λ (e : StoreError). Refuses 0 e (shown_of x) (shown_of (record x { disk = seen; manifest = m; halt = halt })))
      (sym is)
      (subst (λ (h : Option Halt). Refuses 0 (error_of r) (shown_of x)
      (shown_of (record x { disk = seen; manifest = m; halt = h }))) (sym halts_is)
      (subst (λ (n : manifest.Shown). Refuses 0 (error_of r) (shown_of x)
      (shown_of (record x { disk = seen; manifest = n; halt = halt_of r }))) (sym stays)
      (by_why seen r appended at answers cause.faults_later cause.refusals_later r.why refl cause.counted)))

-- ---- at the call

under : (n k : ℕ) → nat_le k n ≡ false → n < k
under n k is = grind (arith, nat_tests)

-- a manifest that gets a further edit has room for it
pub short_manifest : (kept : Kept) → rolls kept ≡ false → kept.manifest_len < 2 ^ 63
short_manifest kept short =
    let small : kept.manifest_len < 1048576 = under kept.manifest_len 1048576 short in
    omega (arith, small)

-- the number of the log that the frozen rows end before is the last log's
pub log_same : (x : Inner) (info : TableInfo) (log last : ℕ) (version : Tables) → AddsFlush (shown_of x) info log last version
    → log ≡ x.log
log_same x info log last version adds =
    sym (last_byte-append adds.ends.front log []) ∙ ap last_byte (sym adds.ends.logs)
    ∙ last_byte-append (older_logs x.older) x.log []

pub append_installs : (x : Inner) → IsInside x → x.halt ≡ None → rolls (shown_of x).kept ≡ false → (last : ℕ) (edit : Edit)
    (version : Tables) → InstallsBy (shown_of x) last edit version
    → (seen : Seen) (m : manifest.Shown) → m.number ≡ x.manifest.number
    → m.len ≡ x.manifest.len + length (record_text (x.manifest.len % 32768) (edit_text edit))
    → Appended x edit seen.told (Ok tt) → x.disk.faults ≤ seen.faults → x.disk.refusals ≤ seen.refusals
    → HasInstalled 0 (shown_of x) (shown_of (installed_inner x seen m version last))
append_installs x inside none short last edit version by seen m number long appended faults refusals =
    let info : TableInfo = by.info in
    let next : ℕ = by.edit_is.next in
    let same : by.log ≡ x.log = log_same x info by.log last version by.adds in
    let is : edit ≡ flush_edit info x.log next last = by.edit_is.is ∙ ap (λ (n : ℕ). flush_edit info n next last) same in
    ok_append x inside none info last next version
    (subst (λ (n : ℕ). AddsFlush (shown_of x) info n last version) same by.adds)
    (subst (λ (n : ℕ). IsEdit (flush_edit info n next last)) same by.edit_is.grammar)
    short seen m number
    (long ∙ ap (λ (e : Edit). x.manifest.len + length (record_text (x.manifest.len % 32768) (edit_text e))) is)
    (subst (λ (e : Edit). Appended x e seen.told (Ok tt)) is appended) faults refusals

pub append_refused : (x : Inner) → IsInside x → x.halt ≡ None → (last : ℕ) (edit : Edit) (version : Tables)
    → InstallsBy (shown_of x) last edit version
    → (seen : Seen) (r : DiskRefusal) (m : manifest.Shown) (halt : Option Halt) (refusal : StoreError)
    → m ≡ x.manifest → halt ≡ halt_of r → refusal ≡ error_of r → Appended x edit seen.told (Err r)
    → IsRefusedAt call.Append call.Sync x.manifest.path x.disk seen r
    → AnswersAt {T = Unit {0}} call.Sync (no_file x.manifest.path) x.disk (Err r)
    → HasDiskCause {T = Unit {0}} x.disk seen (Err r)
    → Refuses 0 refusal (shown_of x) (shown_of (record x { disk = seen; manifest = m; halt = halt }))
append_refused x inside none last edit version by seen r m halt refusal stays halts_is is appended at answers cause =
    let info : TableInfo = by.info in
    let next : ℕ = by.edit_is.next in
    let same : by.log ≡ x.log = log_same x info by.log last version by.adds in
    let edit_is : edit ≡ flush_edit info x.log next last =
    by.edit_is.is ∙ ap (λ (n : ℕ). flush_edit info n next last) same in
    refused_append x inside none info last next version
    (subst (λ (n : ℕ). AddsFlush (shown_of x) info n last version) same by.adds)
    (subst (λ (n : ℕ). IsEdit (flush_edit info n next last)) same by.edit_is.grammar)
    seen r m halt refusal stays halts_is is (subst (λ (e : Edit). Appended x e seen.told (Err r)) edit_is appended) at answers
    cause

-- live tables have drawn numbers, with the new one too
pub live_below : (x : Inner) → IsInside x → (info : TableInfo) (log last : ℕ) (version : Tables)
    → AddsFlush (shown_of x) info log last version → (n : ℕ) → is_some (finmap.get version n) ≡ true → n < x.next
live_below x inside info log last version adds n live =
    below (finmap.get-insert nat_cmp_total x.catalog.version info.number (at_top info) n)
    (sym (ap (λ (t : Tables). is_some (finmap.get t n)) adds.more.is) ∙ live)
  where
    same_number : (a b : ℕ) → eq_by_cmp nat_cmp a b ≡ true → a ≡ b
    same_number a b is = grind (arith, nat_tests)

    begun_below : (h : Held) → IsNewTable x.next x.catalog.version h → (flushing_of h).table ≡ Some info.number
        → info.number < x.next
    begun_below (held.Rows rows) new is = let clash : None ≡ Some info.number = is in absurd (cc)
    begun_below (held.Table w) new is =
        let same : w.number ≡ info.number = (let some : Some w.number ≡ Some info.number = is in cc) in
        omega (arith, same, new.1)

    cases : (b : Bool) → eq_by_cmp nat_cmp n info.number ≡ b
        → is_some (cond (eq_by_cmp nat_cmp n info.number) (Some (at_top info)) (finmap.get x.catalog.version n)) ≡ true
        → n < x.next
    cases true here found = subst (λ (k : ℕ). k < x.next) (sym (same_number n info.number here))
        (begun_below x.frozen inside.flush.table adds.sealed.begun)
    cases false other found = inside.flush.below n
        (sym (ap (λ (b : Bool). is_some (cond b (Some (at_top info)) (finmap.get x.catalog.version n))) other) ∙ found)

    below : finmap.get (finmap.insert x.catalog.version info.number (at_top info)) n
        ≡ cond (eq_by_cmp nat_cmp n info.number) (Some (at_top info)) (finmap.get x.catalog.version n)
        → is_some (finmap.get (finmap.insert x.catalog.version info.number (at_top info)) n) ≡ true → n < x.next
    below found some = cases (eq_by_cmp nat_cmp n info.number) refl (sym (ap is_some found) ∙ some)

-- what is so of every store is so with the table installed
pub inside_installed : (x : Inner) → IsInside x → (last : ℕ) (edit : Edit) (version : Tables)
    → InstallsBy (shown_of x) last edit version → (seen : Seen) (m : manifest.Shown) (catalog : Kept)
    → catalog.version ≡ version → catalog.pins ≡ x.catalog.pins → m.dir ≡ x.manifest.dir → m.number ≡ x.manifest.number → m.path ≡ x.manifest.path
    → IsInside (record (installed_inner x seen m version last) { catalog = catalog })
inside_installed x inside last edit version by seen m catalog catalog_is pins dir number path = record {
  path_is = inside.path_is;
  manifest_in = dir ∙ inside.manifest_in;
  manifest_is = path ∙ inside.manifest_is ∙ ap (λ (n : ℕ). path_in x.home (Manifest n)) (sym number);
  before = inside.before;
  small = inside.small;
  one = λ is. refl;
  drawn = inside.drawn;
  most = inside.most;
  below = inside.below;
  fit = inside.fit;
  jobs = subst (All (λ (pin : KeptPin). IsNamedJob pin.job)) (sym pins) inside.jobs;
  flush = record {
    log_number = inside.flush.log_number;
    active_keys = inside.flush.active_keys;
    frozen_keys = All-nil HasShortKey;
    below = λ n live. live_below x inside by.info by.log last version by.adds n
        (sym (ap (λ (t : Tables). is_some (finmap.get t n)) catalog_is) ∙ live);
    table = tt;
  };
}
