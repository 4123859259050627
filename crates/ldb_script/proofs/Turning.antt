-- How a run goes on by one line, and how it ends there.
use Rattle.std.specs.Prelude.{◌≡◌, ◌⊎◌, ℕ, ◌+◌, ◌<◌, ◌≤◌, List, [], ◌∷◌, ◌++◌, length, Some, Result, Ok, Err, ◌==◌}
use Rattle.std.proofs.Common.{inl, inr, refl, sym, ap, subst, ◌∙◌, arith, append_assoc, append-nil, length-append}
use Rattle.std.specs.List.{All, slice_split}
use Rattle.std.specs.Io.KnownBytes.{Appends, Consumes, IsAtEnd}
use Rattle.std.proofs.KnownBytes.{Appends-trans, Consumes-trans}
use Rattle.std.proofs.lemmas.List.Elements.{All-push, All-head, All-tail}
use Rattle.std.proofs.lemmas.List.Splits.{slice_split_at, slice_split_none, length-slice_split}
use Rattle.lsm_io.specs.Causes.{Rose}
use Rattle.ldb_script.specs.Script.{lines, without_empty_end}
use Rattle.ldb_script.specs.Input.{IsInside, HasBegun, IsWhole, IsLast, IsOver as IsEnd, IsTooLong}
use Rattle.ldb_script.specs.Plain.{Start, Plain, Outcome, Output, Does, told, both, empty, line_at}
use Rattle.ldb_script.specs.Tools.{Tools, Origin, AreAt, ByLine}
use Rattle.ldb_script.specs.declared.line.Line.TheVariants.{Ask}
use Rattle.ldb_script.specs.declared.line.Command.{Command}
use Rattle.ldb_script.specs.declared.line.Command.TheVariants.{Write, Sync, Get, Scan, State, ShowFolder, CreateBackup, ListBackups, RestoreBackup}
use Rattle.ldb_script.specs.Run.{Stream, Met, now, joined, Reached, IsAsked, IsAskedRestore, CountsStay}
use Rattle.ldb_script.specs.Doing.{IsOfRestore, IsDone, Stops, DoneOr, Underway, IsOver, IsAtBad, IsAtFault, Ran, TurnedOr}
use Rattle.ldb_script.specs.declared.ending.Ended.{Ended}
use Rattle.ldb_script.specs.declared.ending.Ended.TheVariants as ended
use Rattle.ldb_script.proofs.Serving.{at_unnamed, stands_unnamed}
use Rattle.lsm_frame.proofs.Going.{rose_later}

-- ---- lines and their newlines

keeps_line : (line : List ℕ) (parts : List (List ℕ)) → 0 < length parts → without_empty_end (line ∷ parts) ≡ line ∷ without_empty_end parts
keeps_line line [] some = absurd (omega arith)
keeps_line [] (next ∷ more) some = refl
keeps_line (b ∷ bs) (next ∷ more) some = refl

lines_more : (line more : List ℕ) → IsInside line → lines (line ++ 10 ∷ more) ≡ line ∷ lines more
unfolding lines
lines_more line more inside =
    ap without_empty_end (slice_split_at (λ (b : ℕ). b == 10) line 10 more inside refl)
    ∙ keeps_line line (slice_split (λ (b : ℕ). b == 10) more) (rw (length-slice_split (λ (b : ℕ). b == 10) more) (omega arith))

alone : (line : List ℕ) → 0 < length line → without_empty_end (line ∷ []) ≡ line ∷ []
alone [] some = absurd (omega arith)
alone (b ∷ bs) some = refl

lines_last : (line : List ℕ) → 0 < length line → IsInside line → lines line ≡ line ∷ []
unfolding lines
lines_last line some inside = ap without_empty_end (slice_split_none (λ (b : ℕ). b == 10) line inside) ∙ alone line some

lines_none : lines [] ≡ []
unfolding lines
lines_none = refl

joined_more : (line : List ℕ) (done : List (List ℕ)) → joined (line ∷ done) ≡ (line ++ 10 ∷ []) ++ joined done
unfolding joined
joined_more line done = refl

pub joined_none : joined [] ≡ []
unfolding joined
joined_none = refl

joined_push : (done : List (List ℕ)) (line : List ℕ) → joined (done ++ line ∷ []) ≡ joined done ++ (line ++ 10 ∷ [])
joined_push [] line = joined_more line [] ∙ ap (λ (r : List ℕ). (line ++ 10 ∷ []) ++ r) joined_none ∙ append-nil (line ++ 10 ∷ []) ∙ ap (λ (r : List ℕ). r ++ (line ++ 10 ∷ [])) (sym joined_none)
joined_push (first ∷ done) line =
    joined_more first (done ++ line ∷ []) ∙ ap (λ (r : List ℕ). (first ++ 10 ∷ []) ++ r) (joined_push done line)
    ∙ sym (append_assoc (first ++ 10 ∷ []) (joined done) (line ++ 10 ∷ [])) ∙ ap (λ (r : List ℕ). r ++ (line ++ 10 ∷ [])) (sym (joined_more first done))

-- whole lines are the lines of their text, whatever follows
lines_joined : (done : List (List ℕ)) (rest : List ℕ) → All IsInside done → lines (joined done ++ rest) ≡ done ++ lines rest
lines_joined [] rest inside = ap (λ (j : List ℕ). lines (j ++ rest)) joined_none
lines_joined (line ∷ done) rest inside =
    ap (λ (j : List ℕ). lines (j ++ rest)) (joined_more line done)
    ∙ ap lines (append_assoc (line ++ 10 ∷ []) (joined done) rest ∙ append_assoc line (10 ∷ []) (joined done ++ rest))
    ∙ lines_more line (joined done ++ rest) (All-head IsInside line done inside)
    ∙ ap (λ (ls : List (List ℕ)). line ∷ ls) (lines_joined done rest (All-tail IsInside line done inside))

-- ---- the output of one line more

told_nothing : (next : Outcome) → next ≡ both next (told next.after [])
told_nothing next = λ i. record { text = sym (append-nil next.text) i; accepted = sym (append-nil next.accepted) i; after = next.after }

pub output_push : (plain : Plain) (done : List (List ℕ)) (outcome : Outcome) (line : List ℕ) (next : Outcome) → Output plain done outcome → Does outcome.after line next → Output plain (done ++ line ∷ []) (both outcome next)
unfolding Output
output_push plain [] outcome line next is does =
    (next, subst (λ (o : Outcome). Does o.after line next) is does, told next.after [], refl, ap (λ (o : Outcome). both o next) is ∙ told_nothing next)
output_push plain (first ∷ done) outcome line next (step, does_first, rest, output, is) does =
    let pushed = output_push step.after done rest line next output (subst (λ (o : Outcome). Does o.after line next) is does) in (
      step,
      does_first,
      both rest next,
      pushed,
      ap (λ (o : Outcome). both o next) is ∙ (λ i. record { text = append_assoc step.text rest.text next.text i; accepted = append_assoc step.accepted rest.accepted next.accepted i; after = next.after }),
    )

pub output_none : (start : Start) → Output (empty start) [] (told (empty start) [])
unfolding Output
output_none start = refl

pub output_same : (plain : Plain) (xs ys : List (List ℕ)) (outcome : Outcome) → xs ≡ ys → Output plain xs outcome → Output plain ys outcome
output_same plain xs ys outcome e output = subst (λ (ls : List (List ℕ)). Output plain ls outcome) e output

-- ---- a turn

module _ (origin : Origin) (first : Met) (source source' sink sink' : Stream) (old new : Tools) (actors actors' : List (List ℕ)) (done : List (List ℕ)) (outcome : Outcome) (number : ℕ)
    (under : Underway origin (now first source sink old.store.disk old.backups.disk old.clock) old actors done outcome) (is_number : number ≡ length done + 1)
    (source_later : source.faults ≤ source'.faults) (sink_later : sink.faults ≤ sink'.faults) (stay : ByLine old new) where
  abbrev m : Met
  m = now first source' sink' new.store.disk new.backups.disk new.clock

  pub counts : CountsStay m
  counts = record {
    source = omega (arith, under.counts.source, source_later);
    sink = omega (arith, under.counts.sink, sink_later);
    faults = omega (arith, under.counts.faults, stay.store.counts.faults);
    refusals = omega (arith, under.counts.refusals, stay.store.counts.refusals);
    backup_faults = omega (arith, under.counts.backup_faults, stay.backups.faults);
    backup_refusals = omega (arith, under.counts.backup_refusals, stay.backups.refusals);
    clock = omega (arith, under.counts.clock, stay.clock);
  }

  read_on : (part : List ℕ) → Consumes source.bytes source'.bytes part → Consumes first.source_before.bytes source'.bytes (joined done ++ part)
  read_on part read =
      subst (λ (j : List ℕ). Consumes first.source_before.bytes source'.bytes (j ++ part)) (append-nil (joined done))
      (Consumes-trans first.source_before.bytes source.bytes source'.bytes (joined done ++ []) part under.reached.read read)

  -- the lines so far, and a part of the next one
  pub reached : (part : List ℕ) → Consumes source.bytes source'.bytes part → Reached origin.start m done part outcome
  reached part read = record { read = read_on part read; inside = under.reached.inside; few = under.reached.few; output = under.reached.output }

  pub silent : sink' ≡ sink → Appends first.sink_before.bytes sink'.bytes outcome.text
  silent same = subst (λ (s : Stream). Appends first.sink_before.bytes s.bytes outcome.text) (sym same) under.written

  still : new ≡ old → AreAt origin new outcome
  still kept = subst (λ (t : Tools). AreAt origin t outcome) (sym kept) under.stands

  module _ (line : List ℕ) where
    -- one more line was read and done
    pub goes_on : number ≤ 10000000 → IsWhole source.bytes source'.bytes line → IsDone origin sink sink' new actors' outcome line → TurnedOr origin m new actors' done (Ok tt)
    goes_on few whole did = (
      line,
      both outcome did.next,
      record {
        reached = record {
          read = subst (λ (j : List ℕ). Consumes first.source_before.bytes source'.bytes j) (sym (joined_push done line) ∙ sym (append-nil (joined (done ++ line ∷ [])))) (read_on (line ++ 10 ∷ []) whole.bytes);
          inside = All-push IsInside done line under.reached.inside whole.inside;
          few = omega (arith, length-append done (line ∷ []), is_number, few);
          output = output_push (empty origin.start) done outcome line did.next under.reached.output did.does;
        };
        written = Appends-trans first.sink_before.bytes sink.bytes sink'.bytes outcome.text did.next.text under.written did.took;
        stands = did.stands;
        named = did.named;
        counts = counts;
        disk = refl;
        backups = refl;
        clock = refl;
      },
    )

    asked : (part : List ℕ) → Consumes source.bytes source'.bytes part → (part ≡ line ++ 10 ∷ []) ⊎ ((part ≡ line) × IsAtEnd source'.bytes) → (actor : List ℕ) (command : Command)
        → line_at outcome.after.actors line ≡ Some (Ask actor command) → IsAsked origin.start m outcome command
    asked part read ends actor command asks = record { done = done; part = part; reached = reached part read; line = line; ends = ends; actor = actor; asks = asks }

    asked_restore : (at : Outcome) (command : Command) → IsOfRestore command → IsAsked origin.start m at command → IsAskedRestore origin.start m at
    asked_restore at (RestoreBackup id name) of a = record { id = id; name = name; asked = a }
    asked_restore at (Write durable batch) of a = absurd of
    asked_restore at Sync of a = absurd of
    asked_restore at (Get key) of a = absurd of
    asked_restore at Scan of a = absurd of
    asked_restore at State of a = absurd of
    asked_restore at (ShowFolder name) of a = absurd of
    asked_restore at CreateBackup of a = absurd of
    asked_restore at ListBackups of a = absurd of

    rose_either : Rose old.store.disk.refusals new.store.disk.refusals ⊎ Rose old.backups.disk.refusals new.backups.disk.refusals
        → Rose first.disk_before.refusals new.store.disk.refusals ⊎ Rose first.backups_before.refusals new.backups.disk.refusals
    rose_either (inl rose) = inl (rose_later first.disk_before.refusals old.store.disk.refusals new.store.disk.refusals under.counts.refusals rose)
    rose_either (inr rose) = inr (rose_later first.backups_before.refusals old.backups.disk.refusals new.backups.disk.refusals under.counts.backup_refusals rose)

    -- the line ends the run
    pub stops : (part : List ℕ) → Consumes source.bytes source'.bytes part → (part ≡ line ++ 10 ∷ []) ⊎ ((part ≡ line) × IsAtEnd source'.bytes) → IsInside line
        → (e : Ended) → Stops origin sink sink' old new outcome line number e → Ran origin m new e
    stops part read ends inside (ended.BadLine n) h = record {
      done = done;
      part = part;
      outcome = outcome;
      reached = reached part read;
      bad = inl (record { line = line; ends = ends; inside = inside; unknown = h.1 });
      is_number = h.0 ∙ is_number;
      written = silent h.2;
      stands = still h.3;
    }
    stops part read ends inside ended.WriteFault h = record {
      done = done;
      line = line;
      part = part;
      outcome = outcome;
      reached = reached part read;
      ends = ends;
      next = h.next;
      does = h.does;
      front = h.spoke.front;
      rest = h.spoke.rest;
      parts = h.spoke.parts;
      took = Appends-trans first.sink_before.bytes sink.bytes sink'.bytes outcome.text h.spoke.front under.written h.spoke.took;
      rose = rose_later first.sink_before.faults sink.faults sink'.faults under.counts.sink h.rose;
      stands = h.stands;
    }
    stops part read ends inside ended.DiskFault h = rose_later first.disk_before.faults old.store.disk.faults new.store.disk.faults under.counts.faults h.breaks
    stops part read ends inside ended.BackupFault h = rose_later first.backups_before.faults old.backups.disk.faults new.backups.disk.faults under.counts.backup_faults h.breaks
    stops part read ends inside ended.ClockFault h = record {
      rose = rose_later first.clock_before.faults old.clock.faults new.clock.faults under.counts.clock h.breaks.rose;
      outcome = outcome;
      asked = asked part read ends h.actor CreateBackup (subst (λ (c : Command). line_at outcome.after.actors line ≡ Some (Ask h.actor c)) h.breaks.is h.asks);
      written = silent h.silent;
      stands = at_unnamed origin new outcome h.actor h.breaks.stands;
    }
    stops part read ends inside (ended.InTheWay why) h = record {
      outcome = outcome;
      command = h.command;
      asked = asked part read ends h.actor h.command h.asks;
      of_backups = h.breaks.of_backups;
      way = h.breaks.way;
      is = h.breaks.is;
      unchanged = h.breaks.unchanged;
      written = silent h.silent;
      stands = stands_unnamed origin.store new.store outcome h.actor h.breaks.stands;
    }
    stops part read ends inside (ended.Changed call path) h = (rose_later first.disk_before.refusals old.store.disk.refusals new.store.disk.refusals under.counts.refusals h.breaks.0, h.breaks.1)
    stops part read ends inside (ended.BackupChanged call path) h = rose_later first.backups_before.refusals old.backups.disk.refusals new.backups.disk.refusals under.counts.backup_refusals h.breaks
    stops part read ends inside (ended.RestoreChanged call path) h = record {
      outcome = outcome;
      asked = asked_restore outcome h.command h.breaks.0 (asked part read ends h.actor h.command h.asks);
      rose = rose_either h.breaks.1;
    }
    stops part read ends inside ended.NoMemory h = tt
    stops part read ends inside ended.Finished h = absurd h
    stops part read ends inside ended.ReadFault h = absurd h
    stops part read ends inside ended.Found h = absurd h

    -- a line with its newline
    pub turned : number ≤ 10000000 → IsWhole source.bytes source'.bytes line → (result : Result Unit Ended) → DoneOr origin sink sink' old new actors' outcome line number result → TurnedOr origin m new actors' done result
    turned few whole (Ok did) h = goes_on few whole h
    turned few whole (Err e) h = stops (line ++ 10 ∷ []) whole.bytes (inl refl) whole.inside e h

    -- a line that the input's end ends
    pub stops_last : IsLast source.bytes source'.bytes line → (e : Ended) → Stops origin sink sink' old new outcome line number e → Ran origin m new e
    stops_last last e h = stops line last.begun.bytes (inr (refl, last.at_end)) last.begun.inside e h

    -- the input ended the line, and all is done
    pub ends_with : number ≤ 10000000 → IsLast source.bytes source'.bytes line → IsDone origin sink sink' new actors' outcome line → IsOver origin m new
    ends_with few last did =
        let all : lines (joined done ++ line) ≡ done ++ line ∷ [] = lines_joined done line under.reached.inside ∙ ap (λ (ls : List (List ℕ)). done ++ ls) (lines_last line last.some last.begun.inside) in
        record {
          bytes = joined done ++ line;
          read = read_on line last.begun.bytes;
          at_end = last.at_end;
          few = omega (arith, ap length all, length-append done (line ∷ []), is_number, few);
          outcome = both outcome did.next;
          output = output_same (empty origin.start) (done ++ line ∷ []) (lines (joined done ++ line)) (both outcome did.next) (sym all) (output_push (empty origin.start) done outcome line did.next under.reached.output did.does);
          written = Appends-trans first.sink_before.bytes sink.bytes sink'.bytes outcome.text did.next.text under.written did.took;
          stands = did.stands;
        }

    -- the source failed in the line
    pub fails : HasBegun source.bytes source'.bytes line → Rose source.faults source'.faults → sink' ≡ sink → new ≡ old → IsAtFault origin m new
    fails begun rose same kept = record {
      rose = rose_later first.source_before.faults source.faults source'.faults under.counts.source rose;
      done = done;
      part = line;
      outcome = outcome;
      reached = reached line begun.bytes;
      inside = begun.inside;
      written = silent same;
      stands = still kept;
    }

    -- the line is too long
    pub too_long : IsTooLong source.bytes source'.bytes line → sink' ≡ sink → new ≡ old → IsAtBad origin m new number
    too_long long same kept = record {
      done = done;
      part = line;
      outcome = outcome;
      reached = reached line long.bytes;
      bad = inr (inl (record { inside = long.inside; long = long.long }));
      is_number = is_number;
      written = silent same;
      stands = still kept;
    }

  -- nothing is left
  pub ends_behind : IsEnd source.bytes source'.bytes → sink' ≡ sink → new ≡ old → IsOver origin m new
  ends_behind over same kept =
      let all : lines (joined done ++ []) ≡ done = lines_joined done [] under.reached.inside ∙ ap (λ (ls : List (List ℕ)). done ++ ls) lines_none ∙ append-nil done in
      record {
        bytes = joined done ++ [];
        read = read_on [] over.bytes;
        at_end = over.at_end;
        few = omega (arith, ap length all, under.reached.few);
        outcome = outcome;
        output = output_same (empty origin.start) done (lines (joined done ++ [])) outcome (sym all) under.reached.output;
        written = silent same;
        stands = still kept;
      }
