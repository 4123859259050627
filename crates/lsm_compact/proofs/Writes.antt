-- Writing the outputs, call by call.
use Rattle.std.specs.Prelude.{◌≡◌, ◌⊎◌, ℕ, ◌+◌, ◌≤◌, nat_eq, Bool, true, false, cond, List, [], ◌∷◌, ◌++◌, length, Option, Some, None, Result, Ok, Err}
use Rattle.std.proofs.Common.{refl, sym, ap, subst, inl, inr, ◌∙◌, arith, append-nil, append_assoc, length-append}
use Rattle.std.proofs.lemmas.Bool.{eq-eqb}
use Rattle.std.proofs.lemmas.List.Sums.{fold_push}
use Rattle.std.specs.List.{AllByRecursion}
use Rattle.lsm_rows.specs.declared.rows.Row.{Row}
use Rattle.lsm_version.specs.declared.tables.Add.{Add}
use Rattle.lsm_compact.specs.declared.outputs.Outputs.{Outputs}
use Rattle.lsm_compact.specs.declared.outputs.Stage.{Stage}
use Rattle.lsm_compact.specs.declared.outputs.Stage.TheVariants.{Closed, Open, Ending, Sealing}
use Rattle.lsm_compact.specs.declared.port.PortFault.{PortFault}
use Rattle.lsm_compact.specs.declared.port.CompactFault.{CompactFault}
use Rattle.lsm_compact.specs.declared.port.CompactFault.TheVariants.{Port, NoMemory}
use Rattle.lsm_compact.proofs.Keys.{untrue}
use Rattle.lsm_compact.proofs.Drafts.{no_rows, no_ended}
use Rattle.lsm_compact.specs.Building.{Table, AreRows}
use Rattle.lsm_compact.specs.Calls.{Called, Read, Drew, Appended, Sealed, Made, Files, no_files, did, fault_of, files_after}
use Rattle.lsm_compact.specs.Outputs.{IsOutput, IsAddOf, AreAdds, ended_text, is_full, joined}
use Rattle.std.proofs.lemmas.List.Concat.{flat_map-append}
use Rattle.lsm_compact.specs.Writing.{CanAdd, IsAppended, IsEnded, IsEndedAs, IsLast, IsOpen, IsStage, IsWriting, Goes, AreTaken, AreAnswered, AreFull, fault_in, file_of, whole_file, made_of, open_rows}

-- ---- calls

pub one_more : (calls : List Called) (call : Called) → files_after (calls ++ call ∷ []) ≡ did (files_after calls) call
unfolding files_after
one_more calls call = fold_push did no_files calls call

pub all_joined : (xs ys : List Called) → AreTaken xs → AreTaken ys → AreTaken (xs ++ ys)
all_joined [] ys a b = b
all_joined (x ∷ xs) ys a b = (a.0, all_joined xs ys a.1 b)

answered_joined : (fault : Option PortFault) (xs ys : List Called) → AreTaken xs → AreAnswered fault ys → AreAnswered fault
    (xs ++ ys)
unfolding AreAnswered
answered_joined None xs ys taken answered = all_joined xs ys taken answered
answered_joined (Some fault) xs ys taken answered = (
  xs ++ answered.0,
  answered.1,
  ap (λ (l : List Called). xs ++ l) answered.2 ∙ sym (append_assoc xs answered.0 (answered.1 ∷ [])),
  all_joined xs answered.0 taken answered.3,
  answered.4,
)

none_answered : AreAnswered None []
unfolding AreAnswered
none_answered = tt

one_taken : (call : Called) → fault_of call ≡ None → AreAnswered None (call ∷ [])
unfolding AreAnswered
one_taken call none = (none, tt)

one_refused : (call : Called) (fault : PortFault) → fault_of call ≡ Some fault → AreAnswered (Some fault) (call ∷ [])
unfolding AreAnswered
one_refused call fault is = ([], call, refl, tt, is)

pub taken_of : (calls : List Called) → AreAnswered None calls → AreTaken calls
unfolding AreAnswered
taken_of calls answered = answered

module _ {P : Type 0} (went : P → List Called → P → Type 0) (start : P) (calls : List Called) where
  -- nothing was called
  pub no_call : (port : P) (over : Bool) (o : Outputs) (written : List Row) → went start calls port → IsWriting over o
      (files_after calls) written
      → Goes went start calls port over o written None
  no_call port over o written led w = record {
    more = [];
    led = subst (λ l. went start l port) (sym (append-nil calls)) led;
    writing = subst (λ l. IsWriting over o (files_after l) written) (sym (append-nil calls)) w;
    answered = none_answered;
  }

  -- one call was made
  pub one_call : (port : P) (over : Bool) (o : Outputs) (written : List Row) (call : Called) (fault : Option PortFault)
      → went start (calls ++ call ∷ []) port
      → IsWriting over o (did (files_after calls) call) written → AreAnswered fault (call ∷ [])
      → Goes went start calls port over o written fault
  one_call port over o written call fault led w answered = record {
    more = call ∷ [];
    led = led;
    writing = subst (λ (f : Files). IsWriting over o f written) (sym (one_more calls call)) w;
    answered = answered;
  }

-- some calls, of which none was refused, and then some more
pub and_then : {P : Type 0} (went : P → List Called → P → Type 0) (start : P) (calls : List Called) (middle port : P)
    (over next : Bool) (o new : Outputs) (rows written : List Row)
    (fault : Option PortFault) (g : Goes went start calls middle over o rows None) → Goes went start
    (calls ++ g.more) port next new written fault
    → Goes went start calls port next new written fault
and_then went start calls middle port over next o new rows written fault g h = record {
  more = g.more ++ h.more;
  led = subst (λ l. went start l port) (append_assoc calls g.more h.more) h.led;
  writing = subst (λ l. IsWriting next new (files_after l) written) (append_assoc calls g.more h.more) h.writing;
  answered = answered_joined fault g.more h.more (taken_of g.more g.answered) h.answered;
}

-- ---- files

no_adds : (level : ℕ) (outputs : List (List Row)) → AreAdds level outputs [] → outputs ≡ []
unfolding AreAdds
no_adds level [] a = refl
no_adds level (rows ∷ outputs) a = absurd a

pub made_push : (level : ℕ) (before : List (List Row)) (sealed : List Add) (rows : List Row) (add : Add) → AreAdds level
    (before ++ rows ∷ []) (sealed ++ add ∷ [])
    → made_of (before ++ rows ∷ []) (sealed ++ add ∷ []) ≡ made_of before sealed ++ whole_file rows add ∷ []
unfolding made_of AreAdds
made_push level [] [] rows add a = refl
made_push level [] (one ∷ []) rows add a = absurd a.1
made_push level [] (one ∷ other ∷ sealed) rows add a = absurd a.1
made_push level (first ∷ []) [] rows add a = absurd a.1
made_push level (first ∷ other ∷ before) [] rows add a = absurd a.1
made_push level (first ∷ before) (one ∷ sealed) rows add a = ap (λ (l : List Made). whole_file first one ∷ l)
    (made_push level before sealed rows add a.1)

same_number : (a b : ℕ) → a ≡ b → nat_eq b a ≡ true
same_number a b is = eq-eqb b a (sym is)

-- ---- sealing

did_seal : (sealed : List Made) (made : Made) (number : ℕ) (done : Unit {0}) → number ≡ made.number → did
    (record { sealed = sealed; begun = Some made }) (Sealed number (Ok done))
    ≡ record { sealed = sealed ++ made ∷ []; begun = None }
unfolding did
did_seal sealed made number done is =
    ap (λ b. cond b (record { sealed = sealed ++ made ∷ []; begun = None }) (record { sealed = sealed; begun = Some made }))
    (same_number number made.number is)

seal_refused : (files : Files) (number : ℕ) (fault : PortFault) → did files (Sealed number (Err fault)) ≡ files
unfolding did
seal_refused files number fault = refl

taken_seal : (number : ℕ) (done : Unit {0}) → fault_of (Sealed number (Ok done)) ≡ None
unfolding fault_of
taken_seal number done = refl

fault_seal : (number : ℕ) (fault : PortFault) → fault_of (Sealed number (Err fault)) ≡ Some fault
unfolding fault_of
fault_seal number fault = refl

last_of : (over : Bool) (outputs : List (List Row)) (adds : List Add) (files : Files) (number : ℕ)
    → IsStage over outputs adds files (Sealing number) → (bytes : List ℕ) × IsLast outputs adds files number bytes []
unfolding IsStage
last_of over outputs adds files number s = s

closed_stage : (over : Bool) (outputs : List (List Row)) (adds : List Add) (files : Files) → files ≡ record
    { sealed = made_of outputs adds; begun = None } → IsStage over outputs adds files Closed
unfolding IsStage
closed_stage over outputs adds files is = is

sealed_stage : (over : Bool) (level : ℕ) (outputs : List (List Row)) (adds : List Add) (files : Files) (number : ℕ)
    (done : Unit {0}) → AreAdds level outputs adds → IsStage over outputs adds files (Sealing number)
    → IsStage over outputs adds (did files (Sealed number (Ok done))) Closed
sealed_stage over level outputs adds files number done are s =
    let p = last_of over outputs adds files number s in
    let l = p.1 in
    let whole : file_of l.add p.0 ≡ whole_file l.rows l.add = ap (file_of l.add) (sym (append-nil p.0) ∙ l.text_is) in
    closed_stage over outputs adds (did files (Sealed number (Ok done)))
    (ap (λ (f : Files). did f (Sealed number (Ok done))) l.files_are
    ∙ did_seal (made_of l.before l.sealed) (file_of l.add p.0) number done l.number_is
    ∙ ap (λ (m : Made). record { sealed = made_of l.before l.sealed ++ m ∷ []; begun = None }) whole
    ∙ ap (λ (ms : List Made). record { sealed = ms; begun = None })
    (sym (made_push level l.before l.sealed l.rows l.add
    (subst (λ (os : List (List Row)). AreAdds level os (l.sealed ++ l.add ∷ [])) l.outputs_are
    (subst (λ (list : List Add). AreAdds level outputs list) l.adds_are are))))
    ∙ (λ i. record { sealed = made_of (sym l.outputs_are i) (sym l.adds_are i); begun = None }))

-- ---- appending

did_append : (sealed : List Made) (made : Made) (number : ℕ) (bytes : List ℕ) (done : Unit {0}) → number ≡ made.number
    → did (record { sealed = sealed; begun = Some made }) (Appended number bytes (Ok done)) ≡ record
    { sealed = sealed; begun = Some (record made { bytes = made.bytes ++ bytes }) }
unfolding did
did_append sealed made number bytes done is =
    ap (λ b. record { sealed = sealed; begun = Some (cond b (record made { bytes = made.bytes ++ bytes }) made) })
    (same_number number made.number is)

append_refused : (files : Files) (number : ℕ) (bytes : List ℕ) (fault : PortFault) → did files
    (Appended number bytes (Err fault)) ≡ files
unfolding did
append_refused files number bytes fault = refl

taken_append : (number : ℕ) (bytes : List ℕ) (done : Unit {0}) → fault_of (Appended number bytes (Ok done)) ≡ None
unfolding fault_of
taken_append number bytes done = refl

fault_append : (number : ℕ) (bytes : List ℕ) (fault : PortFault) → fault_of (Appended number bytes (Err fault)) ≡ Some fault
unfolding fault_of
fault_append number bytes fault = refl

tail_stage : (over : Bool) (outputs : List (List Row)) (adds : List Add) (files : Files) (number : ℕ) (tail : List ℕ)
    (done : Unit {0}) → IsStage over outputs adds files (Ending number tail)
    → IsStage over outputs adds (did files (Appended number tail (Ok done))) (Sealing number)
unfolding IsStage
tail_stage over outputs adds files number tail done s =
    let l = s.1 in (
      s.0 ++ tail,
      record {
        before = l.before;
        rows = l.rows;
        sealed = l.sealed;
        add = l.add;
        outputs_are = l.outputs_are;
        adds_are = l.adds_are;
        files_are = ap (λ (f : Files). did f (Appended number tail (Ok done))) l.files_are ∙ did_append
            (made_of l.before l.sealed) (file_of l.add s.0) number tail done l.number_is;
        number_is = l.number_is;
        text_is = append-nil (s.0 ++ tail) ∙ l.text_is;
      },
    )

piece_stage : (over : Bool) (outputs : List (List Row)) (adds : List Add) (files : Files) (number : ℕ) (table : Table)
    (piece : List ℕ) (ended : ℕ) (done : Unit {0}) → number ≡ table.number
    → IsStage over outputs adds files (Open table piece ended) → IsStage over outputs adds
    (did files (Appended number piece (Ok done))) (Open table [] ended)
unfolding IsStage
piece_stage over outputs adds files number table piece ended done same s = record {
  bytes = s.bytes ++ piece;
  files_are = ap (λ (f : Files). did f (Appended number piece (Ok done))) s.files_are
      ∙ did_append (made_of outputs adds)
      (record { number = table.number; session = table.session; bytes = s.bytes }) number piece done same;
  rows_are = s.rows_are;
  text_is = append-nil (s.bytes ++ piece) ∙ s.text_is;
  ended_is = s.ended_is;
  full = s.full;
  whole_is = s.whole_is;
}

-- ---- beginning

drew_refused : (files : Files) (fault : PortFault) → did files (Drew (Err fault)) ≡ files
unfolding did
drew_refused files fault = refl

taken_drew : (number : ℕ) (session : List ℕ) → fault_of (Drew (Ok (number, session))) ≡ None
unfolding fault_of
taken_drew number session = refl

fault_drew : (fault : PortFault) → fault_of (Drew (Err fault)) ≡ Some fault
unfolding fault_of
fault_drew fault = refl

did_drew : (sealed : List Made) (number : ℕ) (session : List ℕ) → did (record { sealed = sealed; begun = None })
    (Drew (Ok (number, session)))
    ≡ record { sealed = sealed; begun = Some (record { number = number; session = session; bytes = [] }) }
unfolding did
did_drew sealed number session = refl

all_full : (outputs : List (List Row)) → AreFull false outputs → AllByRecursion
    (λ (rows : List Row). is_full rows ≡ true) outputs
unfolding AreFull
all_full outputs full = elim full [ inl all ↦ all | inr last ↦ absurd (untrue last.0) ]

new_stage : (over : Bool) (outputs : List (List Row)) (adds : List Add) (files : Files) (number : ℕ) (session : List ℕ)
    (table : Table)
    → table ≡ record { number = number; session = session; rows = []; whole = true } → AllByRecursion
    (λ (rows : List Row). is_full rows ≡ true) outputs → IsStage over outputs adds files Closed
    → IsStage over outputs adds (did files (Drew (Ok (number, session)))) (Open table [] 0)
unfolding IsStage
new_stage over outputs adds files number session table new full s = subst
    (λ (t : Table). IsOpen over outputs adds (did files (Drew (Ok (number, session)))) t [] 0) (sym new) (record {
      bytes = [];
      files_are = ap (λ (f : Files). did f (Drew (Ok (number, session)))) s ∙ did_drew (made_of outputs adds) number session;
      rows_are = no_rows;
      text_is = sym no_ended;
      ended_is = ap (length {A = ℕ}) (sym no_ended);
      full = full;
      whole_is = λ _ _. refl;
    })

-- what is written stays, where the stage changes and no rows come or go
pub restaged : (over : Bool) (o new : Outputs) (files next : Files) (written : List Row) → IsWriting over o files written
    → new.level ≡ o.level → new.adds ≡ o.adds
    → open_rows new.stage ≡ open_rows o.stage →
    ((outputs : List (List Row)) → AreAdds o.level outputs o.adds → AreFull over outputs
    → IsStage over outputs o.adds files o.stage → IsStage over outputs new.adds next new.stage)
    → IsWriting over new next written
restaged over o new files next written w level adds rows stage = record {
  outputs = w.outputs;
  rows_are = w.rows_are ∙ ap (λ (r : List Row). joined w.outputs ++ r) (sym rows);
  adds = subst (λ (l : ℕ). AreAdds l w.outputs new.adds) (sym level)
      (subst (λ (list : List Add). AreAdds o.level w.outputs list) (sym adds) w.adds);
  each = w.each;
  full = w.full;
  stage = stage w.outputs w.adds w.full w.stage;
}

-- a call that was refused
pub refused_call : (over : Bool) (o : Outputs) (files next : Files) (written : List Row) → next ≡ files
    → IsWriting over o files written → IsWriting over o next written
refused_call over o files next written is w = subst (λ (f : Files). IsWriting over o f written) (sym is) w

module _ {P : Type 0} (went : P → List Called → P → Type 0) (start : P) (calls : List Called) (port : P) (over : Bool)
    (o : Outputs) (written : List Row)
    (w : IsWriting over o (files_after calls) written) where
  -- a call was answered, and the stage is another
  pub taken : (call : Called) (stage : Stage) → went start (calls ++ call ∷ []) port → fault_of call ≡ None
      → open_rows stage ≡ open_rows o.stage
      → ((outputs : List (List Row)) → AreAdds o.level outputs o.adds → AreFull over outputs → IsStage over outputs o.adds
      (files_after calls) o.stage → IsStage over outputs o.adds (did (files_after calls) call) stage)
      → Goes went start calls port over (record o { stage = stage }) written None
  taken call stage led none rows staged =
      one_call went start calls port over (record o { stage = stage }) written call None led
      (restaged over o (record o { stage = stage }) (files_after calls)
      (did (files_after calls) call) written w refl refl rows staged) (one_taken call none)

  -- a call was refused
  pub refused : (call : Called) (fault : PortFault) → went start (calls ++ call ∷ []) port → fault_of call ≡ Some fault → did
      (files_after calls) call ≡ files_after calls
      → Goes went start calls port over o written (Some fault)
  refused call fault led is same =
      one_call went start calls port over o written call (Some fault) led
      (refused_call over o (files_after calls) (did (files_after calls) call) written same w) (one_refused call fault is)

  module _ (number : ℕ) (result : Result (Unit {0}) PortFault)
      (led : went start (calls ++ Sealed number result ∷ []) port) where
    pub seal_ok : (done : Unit {0}) → result ≡ Ok done → o.stage ≡ Sealing number → Goes went start calls port over
        (record o { stage = Closed }) written None
    seal_ok done ok is =
        taken (Sealed number (Ok done)) Closed
        (subst (λ (r : Result (Unit {0}) PortFault). went start (calls ++ Sealed number r ∷ []) port) ok led)
        (taken_seal number done) (ap open_rows (sym is))
        (λ outputs are full s. sealed_stage over o.level outputs o.adds (files_after calls) number done are
        (subst (IsStage over outputs o.adds (files_after calls)) is s))

    pub seal_err : (fault : PortFault) → result ≡ Err fault → Goes went start calls port over o written (Some fault)
    seal_err fault err =
        refused (Sealed number (Err fault)) fault
        (subst (λ (r : Result (Unit {0}) PortFault). went start (calls ++ Sealed number r ∷ []) port) err led)
        (fault_seal number fault)
        (seal_refused (files_after calls) number fault)

  module _ (number : ℕ) (bytes : List ℕ) (result : Result (Unit {0}) PortFault)
      (led : went start (calls ++ Appended number bytes result ∷ []) port) where
    pub append_err : (fault : PortFault) → result ≡ Err fault → Goes went start calls port over o written (Some fault)
    append_err fault err =
        refused (Appended number bytes (Err fault)) fault
        (subst (λ (r : Result (Unit {0}) PortFault). went start (calls ++ Appended number bytes r ∷ []) port) err led)
        (fault_append number bytes fault)
        (append_refused (files_after calls) number bytes fault)

    pub tail_ok : (done : Unit {0}) → result ≡ Ok done → o.stage ≡ Ending number bytes → Goes went start calls port over
        (record o { stage = Sealing number }) written None
    tail_ok done ok is =
        taken (Appended number bytes (Ok done)) (Sealing number)
        (subst (λ (r : Result (Unit {0}) PortFault). went start (calls ++ Appended number bytes r ∷ []) port) ok led)
        (taken_append number bytes done)
        (ap open_rows (sym is)) (λ outputs are full s. tail_stage over outputs o.adds (files_after calls) number bytes done
        (subst (IsStage over outputs o.adds (files_after calls)) is s))

    pub piece_ok : (done : Unit {0}) (table : Table) (ended : ℕ) → result ≡ Ok done → number ≡ table.number
        → o.stage ≡ Open table bytes ended
        → Goes went start calls port over (record o { stage = Open table [] ended }) written None
    piece_ok done table ended ok same is =
        taken (Appended number bytes (Ok done)) (Open table [] ended)
        (subst (λ (r : Result (Unit {0}) PortFault). went start (calls ++ Appended number bytes r ∷ []) port) ok led)
        (taken_append number bytes done)
        (ap open_rows (sym is)) (λ outputs are full s. piece_stage over outputs o.adds
        (files_after calls) number table bytes ended done same (subst (IsStage over outputs o.adds (files_after calls)) is s))

  module _ (number : ℕ) (session : List ℕ) (result : Result (ℕ × List ℕ) PortFault)
      (led : went start (calls ++ Drew result ∷ []) port) where
    pub create_err : (fault : PortFault) → result ≡ Err fault → Goes went start calls port over o written (Some fault)
    create_err fault err =
        refused (Drew (Err fault)) fault
        (subst (λ (r : Result (ℕ × List ℕ) PortFault). went start (calls ++ Drew r ∷ []) port) err led)
        (fault_drew fault) (drew_refused (files_after calls) fault)

    pub create_ok : over ≡ false → result ≡ Ok (number, session) → o.stage ≡ Closed → (table : Table) → table ≡ record
        { number = number; session = session; rows = []; whole = true }
        → Goes went start calls port over (record o { stage = Open table [] 0 }) written None
    create_ok rows_follow ok is table new =
        taken (Drew (Ok (number, session))) (Open table [] 0)
        (subst (λ (r : Result (ℕ × List ℕ) PortFault). went start (calls ++ Drew r ∷ []) port) ok led)
        (taken_drew number session)
        (ap (λ (t : Table). t.rows) new ∙ ap open_rows (sym is))
        (λ outputs are full s. new_stage over outputs o.adds (files_after calls) number session table new
        (all_full outputs (subst (λ b. AreFull b outputs) rows_follow full))
        (subst (IsStage over outputs o.adds (files_after calls)) is s))

-- ---- begun with nothing

no_adds_yet : (level : ℕ) (adds : List Add) → adds ≡ [] → AreAdds level [] adds
unfolding AreAdds
no_adds_yet level adds none = subst (AreAdds level []) (sym none) tt

full_none : AreFull false []
unfolding AreFull
full_none = inl tt

pub none_written : (o : Outputs) → o.adds ≡ [] → o.stage ≡ Closed → IsWriting false o no_files []
unfolding made_of
none_written o none closed = record {
  outputs = [];
  rows_are = sym (ap open_rows closed);
  adds = no_adds_yet o.level o.adds none;
  each = tt;
  full = full_none;
  stage = subst (IsStage false [] o.adds no_files) (sym closed) (closed_stage false [] o.adds no_files refl);
}

-- ---- where no rows follow

follows : (over next : Bool) → (over ≡ true → next ≡ true) → next ≡ false → over ≡ false
follows true next leads is = absurd (untrue (sym is ∙ leads refl))
follows false next leads is = refl

full_weaker : (over next : Bool) → (over ≡ true → next ≡ true) → (outputs : List (List Row)) → AreFull over outputs
    → AreFull next outputs
unfolding AreFull
full_weaker over next leads outputs full = elim full
    [ inl all ↦ inl all | inr last ↦ inr (leads last.0, last.1, last.2, last.3, last.4) ]

open_of : (over : Bool) (outputs : List (List Row)) (adds : List Add) (files : Files) (table : Table) (piece : List ℕ)
    (ended : ℕ) → IsStage over outputs adds files (Open table piece ended)
    → IsOpen over outputs adds files table piece ended
unfolding IsStage
open_of over outputs adds files table piece ended s = s

is_open : (over : Bool) (outputs : List (List Row)) (adds : List Add) (files : Files) (table : Table) (piece : List ℕ)
    (ended : ℕ) → IsOpen over outputs adds files table piece ended
    → IsStage over outputs adds files (Open table piece ended)
unfolding IsStage
is_open over outputs adds files table piece ended s = s

open_weaker : (over next : Bool) → (over ≡ true → next ≡ true) → (outputs : List (List Row)) (adds : List Add)
    (files : Files) (table : Table) (piece : List ℕ) (ended : ℕ)
    → IsOpen over outputs adds files table piece ended → IsOpen next outputs adds files table piece ended
open_weaker over next leads outputs adds files table piece ended s = record {
  bytes = s.bytes;
  files_are = s.files_are;
  rows_are = s.rows_are;
  text_is = s.text_is;
  ended_is = s.ended_is;
  full = s.full;
  whole_is = λ is. s.whole_is (follows over next leads is);
}

stage_weaker : (over next : Bool) → (over ≡ true → next ≡ true) → (outputs : List (List Row)) (adds : List Add)
    (files : Files) (stage : Stage) → IsStage over outputs adds files stage
    → IsStage next outputs adds files stage
unfolding IsStage
stage_weaker over next leads outputs adds files Closed s = s
stage_weaker over next leads outputs adds files
    (Open table piece ended) s = open_weaker over next leads outputs adds files table piece ended s
stage_weaker over next leads outputs adds files (Ending number tail) s = s
stage_weaker over next leads outputs adds files (Sealing number) s = s

pub weaker : (over next : Bool) (o : Outputs) (files : Files) (written : List Row) → (over ≡ true → next ≡ true)
    → IsWriting over o files written → IsWriting next o files written
weaker over next o files written leads w = record {
  outputs = w.outputs;
  rows_are = w.rows_are;
  adds = w.adds;
  each = w.each;
  full = full_weaker over next leads w.outputs w.full;
  stage = stage_weaker over next leads w.outputs o.adds files o.stage w.stage;
}

-- ---- ending a table

adds_push : (level : ℕ) (outputs : List (List Row)) (adds : List Add) (rows : List Row) (add : Add)
    → AreAdds level outputs adds → IsAddOf level rows add
    → AreAdds level (outputs ++ rows ∷ []) (adds ++ add ∷ [])
unfolding AreAdds
adds_push level [] [] rows add are is = (is, tt)
adds_push level [] (one ∷ adds) rows add are is = absurd are
adds_push level (first ∷ outputs) [] rows add are is = absurd are
adds_push level (first ∷ outputs) (one ∷ adds) rows add are is = (are.0, adds_push level outputs adds rows add are.1 is)

pub all_push : {A : Type 0} (P : A → Type 0) (xs : List A) (x : A) → AllByRecursion P xs → P x → AllByRecursion P
    (xs ++ x ∷ [])
all_push P [] x all one = (one, tt)
all_push P (y ∷ xs) x all one = (all.0, all_push P xs x all.1 one)

full_push : (next : Bool) (outputs : List (List Row)) (rows : List Row) → AllByRecursion
    (λ (r : List Row). is_full r ≡ true) outputs → (next ≡ true) ⊎ (is_full rows ≡ true) → AreFull next (outputs ++ rows ∷ [])
unfolding AreFull
full_push next outputs rows all may = elim may [
  | inl over ↦ inr (over, outputs, rows, refl, all)
  | inr full ↦ inl (all_push (λ (r : List Row). is_full r ≡ true) outputs rows all full)
]

is_ending : (over : Bool) (outputs : List (List Row)) (adds : List Add) (files : Files) (number : ℕ) (tail : List ℕ)
    (bytes : List ℕ) → IsLast outputs adds files number bytes tail
    → IsStage over outputs adds files (Ending number tail)
unfolding IsStage
is_ending over outputs adds files number tail bytes last = (bytes, last)

module _ (over next : Bool) (o : Outputs) (files : Files) (written : List Row) (leads : over ≡ true → next ≡ true)
    (table : Table) (piece : List ℕ) (ended : ℕ)
    (is : o.stage ≡ Open table piece ended) (w : IsWriting over o files written) where
  opened : IsOpen over w.outputs o.adds files table piece ended
  opened = open_of over w.outputs o.adds files table piece ended (subst (IsStage over w.outputs o.adds files) is w.stage)

  pub ended_ok : (adds : List Add) (pair : ℕ × List ℕ) → 1 ≤ length table.rows → piece ≡ [] → (next ≡ true) ⊎
      (is_full table.rows ≡ true) → IsEndedAs o.level table o.adds adds pair
      → IsWriting next (record o { adds = adds; stage = Ending pair.0 pair.1 }) files written
  ended_ok adds pair some none may e = record {
    outputs = w.outputs ++ table.rows ∷ [];
    rows_are = w.rows_are ∙ ap (λ (s : Stage). joined w.outputs ++ open_rows s) is
        ∙ ap (λ (r : List Row). joined w.outputs ++ r) (sym (append-nil table.rows)) ∙ sym
        (flat_map-append (λ (r : List Row). r) w.outputs (table.rows ∷ [])) ∙ sym
        (append-nil (joined (w.outputs ++ table.rows ∷ [])));
    adds = subst (λ (list : List Add). AreAdds o.level (w.outputs ++ table.rows ∷ []) list) (sym e.adds_are)
        (adds_push o.level w.outputs o.adds table.rows e.add w.adds e.add_is);
    each = all_push IsOutput w.outputs table.rows w.each (record { some = some; before = opened.rows_are.before });
    full = full_push next w.outputs table.rows opened.full may;
    stage = is_ending next (w.outputs ++ table.rows ∷ []) adds files pair.0 pair.1 opened.bytes (record {
      before = w.outputs;
      rows = table.rows;
      sealed = o.adds;
      add = e.add;
      outputs_are = refl;
      adds_are = e.adds_are;
      files_are = opened.files_are ∙
          (λ i. record {
            sealed = made_of w.outputs o.adds;
            begun = Some
                (record { number = sym e.numbers.0 i; session = sym e.numbers.1 i; bytes = opened.bytes });
          });
      number_is = e.number_is;
      text_is = ap (λ (b : List ℕ). b ++ pair.1)
          (sym (append-nil opened.bytes) ∙ ap (λ (p : List ℕ). opened.bytes ++ p) (sym none) ∙ opened.text_is) ∙ e.text_is;
    });
  }

  pub ended_err : (adds : List Add) (new : Table) → (next ≡ true) ⊎ (is_full table.rows ≡ true) → adds ≡ o.adds
      → new ≡ record table { whole = false }
      → IsWriting next (record o { adds = adds; stage = Open new piece ended }) files written
  ended_err adds new may same is_new =
      subst (λ (list : List Add). IsWriting next (record o { adds = list; stage = Open new piece ended }) files written)
      (sym same)
      (subst (λ (t : Table). IsWriting next (record o { stage = Open t piece ended }) files written) (sym is_new) (record {
        outputs = w.outputs;
        rows_are = w.rows_are ∙ ap (λ (s : Stage). joined w.outputs ++ open_rows s) is;
        adds = w.adds;
        each = w.each;
        full = full_weaker over next leads w.outputs w.full;
        stage = is_open next w.outputs o.adds files (record table { whole = false }) piece ended (record {
          bytes = opened.bytes;
          files_are = opened.files_are;
          rows_are = opened.rows_are;
          text_is = opened.text_is;
          ended_is = opened.ended_is;
          full = opened.full;
          whole_is = λ rows_follow open_now. elim may [
            | inl is_over ↦ absurd (untrue (sym rows_follow ∙ is_over))
            | inr is_full_now ↦ absurd (untrue (sym open_now ∙ is_full_now))
          ];
        });
      }))

-- ---- stages that are left as they are

pub not_open : (s : Stage) → ((t : Table) (p : List ℕ) (e : ℕ) → s ≡ Open t p e → ⊥) → IsEnded s
not_open Closed other = tt
not_open (Open t p e) other = other t p e refl
not_open (Ending number tail) other = tt
not_open (Sealing number) other = tt

pub not_ending : (s : Stage) → ((n : ℕ) (t : List ℕ) → s ≡ Ending n t → ⊥) → IsEnded s → IsAppended s
not_ending Closed other ended = tt
not_ending (Open t p e) other ended = ended
not_ending (Ending number tail) other ended = other number tail refl
not_ending (Sealing number) other ended = tt

pub not_sealing : (s : Stage) → ((n : ℕ) → s ≡ Sealing n → ⊥) → IsAppended s → s ≡ Closed
not_sealing Closed other appended = refl
not_sealing (Open t p e) other appended = absurd appended
not_sealing (Ending number tail) other appended = absurd appended
not_sealing (Sealing number) other appended = absurd (other number refl)

-- ---- a row that comes into a table

text_len : (a b c : List ℕ) (ended len : ℕ) → ended ≡ length a → len ≡ length b → a ++ b ≡ c → ended + len ≡ length c
text_len a b c ended len first second is =
    let sum = length-append a b in
    let all : length (a ++ b) ≡ length c = ap (length {A = ℕ}) is in
    omega (arith, sum, all, first, second)

pub row_added : (o : Outputs) (row : Row) (table : Table) (piece : List ℕ) (ended : ℕ) → o.stage ≡ Open table piece ended
    → CanAdd row o.stage
    → (new : Table) (bytes : List ℕ) (len : ℕ) → new ≡ record table { rows = table.rows ++ row ∷ [] }
    → ended_text table.rows ++ bytes ≡ ended_text new.rows → len ≡ length bytes
    → (files : Files) (written : List Row) → IsWriting false o files written
    → IsWriting false (record o { stage = Open new bytes (ended + len) }) files (written ++ row ∷ [])
row_added o row table piece ended is can new bytes len is_new text size files written w =
    let can_now = subst (CanAdd row) is can in
    let s : IsOpen false w.outputs o.adds files table piece ended =
    open_of false w.outputs o.adds files table piece ended (subst (IsStage false w.outputs o.adds files) is w.stage) in
    let rows_now : new.rows ≡ table.rows ++ row ∷ [] = ap (λ (t : Table). t.rows) is_new in
    record {
      outputs = w.outputs;
      rows_are = ap (λ (rs : List Row). rs ++ row ∷ []) (w.rows_are ∙ ap (λ (g : Stage). joined w.outputs ++ open_rows g) is)
          ∙ append_assoc (joined w.outputs) table.rows (row ∷ []) ∙ ap (λ (rs : List Row). joined w.outputs ++ rs)
          (sym rows_now);
      adds = w.adds;
      each = w.each;
      full = w.full;
      stage = is_open false w.outputs o.adds files new bytes (ended + len) (record {
        bytes = s.bytes;
        files_are = s.files_are ∙ (λ i. record {
          sealed = made_of w.outputs o.adds;
          begun = Some (record { number = (sym is_new i).number; session = (sym is_new i).session; bytes = s.bytes });
        });
        rows_are = subst AreRows (sym rows_now) can_now.3;
        text_is = ap (λ (b : List ℕ). b ++ bytes)
            (sym (append-nil s.bytes) ∙ ap (λ (p : List ℕ). s.bytes ++ p) (sym can_now.1) ∙ s.text_is) ∙ text;
        ended_is = text_len (ended_text table.rows) bytes (ended_text new.rows) ended len can_now.2 size text;
        full = s.full;
        whole_is = λ _ _. ap (λ (t : Table). t.whole) is_new ∙ can_now.0;
      });
    }

-- ---- reading

read_stays : (files : Files) (number : ℕ) (after : Option (List ℕ)) (count : ℕ) (answer : Result (List Row) PortFault)
    → did files (Read number after count answer) ≡ files
unfolding did
read_stays files number after count answer = refl

taken_read : (number : ℕ) (after : Option (List ℕ)) (count : ℕ) (run : List Row) → fault_of
    (Read number after count (Ok run)) ≡ None
unfolding fault_of
taken_read number after count run = refl

fault_read : (number : ℕ) (after : Option (List ℕ)) (count : ℕ) (fault : PortFault)
    → fault_of (Read number after count (Err fault)) ≡ Some fault
unfolding fault_of
fault_read number after count fault = refl

module _ {P : Type 0} (went : P → List Called → P → Type 0) (start : P) (calls : List Called) (port : P) (over : Bool)
    (o : Outputs) (written : List Row) (w : IsWriting over o (files_after calls) written)
    (number : ℕ) (after : Option (List ℕ)) (count : ℕ) (result : Result (List Row) PortFault)
    (led : went start (calls ++ Read number after count result ∷ []) port) where
  -- a run was read
  pub read_ok : (run : List Row) → result ≡ Ok run → Goes went start calls port over o written None
  read_ok run ok =
      one_call went start calls port over o written (Read number after count result) None led
      (refused_call over o (files_after calls) (did (files_after calls) (Read number after count result)) written
      (read_stays (files_after calls) number after count result) w)
      (one_taken (Read number after count result)
      (ap (λ (r : Result (List Row) PortFault). fault_of (Read number after count r)) ok ∙ taken_read number after count run))

  -- a run was refused
  pub read_err : (fault : PortFault) → result ≡ Err fault → Goes went start calls port over o written (Some fault)
  read_err fault err =
      one_call went start calls port over o written (Read number after count result) (Some fault) led
      (refused_call over o (files_after calls) (did (files_after calls) (Read number after count result)) written
      (read_stays (files_after calls) number after count result) w)
      (one_refused (Read number after count result) fault
      (ap (λ (r : Result (List Row) PortFault). fault_of (Read number after count r)) err
      ∙ fault_read number after count fault))

-- a fault is handed on
pub goes_refused : {P : Type 0} (A B : Type 0) (went : P → List Called → P → Type 0) (start : P) (calls : List Called)
    (port : P) (over : Bool)
    (o : Outputs) (written : List Row) (fault : CompactFault) → Goes went start calls port over o written
    (fault_in {T = A} (Err fault))
    → Goes went start calls port over o written (fault_in {T = B} (Err fault))
goes_refused A B went start calls port over o written (Port fault) goes = goes
goes_refused A B went start calls port over o written NoMemory goes = goes
