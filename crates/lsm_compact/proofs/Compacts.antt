-- A compaction under way: what each of its calls leaves.
use Rattle.std.specs.Prelude.{◌≡◌, ◌≢◌, ℕ, ◌+◌, Bool, true, false, not, cond, List, [], ◌∷◌, ◌++◌, length, Option, Some, None, option_to_list, is_some, IfSome, IfNone, OnOk, OnErr, Result, Ok, Err}
use Rattle.std.proofs.Common.{refl, sym, ap, subst, ◌∙◌, append-nil, append_assoc, length-append}
use Rattle.lsm_rows.specs.declared.rows.Row.{Row}
use Rattle.lsm_version.specs.declared.edits.Edit.{Edit}
use Rattle.lsm_merge.specs.Merging.{Merging}
use Rattle.lsm_compact.specs.declared.compaction.Compaction.{Compaction}
use Rattle.lsm_compact.specs.declared.deeper.KeyRange.{KeyRange}
use Rattle.lsm_compact.specs.declared.input.Input.{Input}
use Rattle.lsm_compact.specs.declared.outputs.Outputs.{Outputs}
use Rattle.lsm_compact.specs.declared.outputs.Stage.TheVariants.{Closed}
use Rattle.lsm_compact.specs.declared.port.CompactFault.{CompactFault}
use Rattle.lsm_compact.specs.declared.port.CompactFault.TheVariants.{Port, NoMemory}
use Rattle.lsm_compact.specs.declared.port.PortFault.{PortFault}
use Rattle.lsm_compact.specs.declared.reader.Reader.{Reader}
use Rattle.lsm_compact.specs.Calls.{Called, Files, files_after}
use Rattle.lsm_compact.specs.Compacting.{HasAdded, HasEnded, HasMoved, HaveCome, IsUsedUp, done_in, is_bare, written_of}
use Rattle.lsm_compact.specs.Given.{GivesMore}
use Rattle.lsm_compact.specs.Readers.{IsAtEnd, IsGivenRow, IsLater}
use Rattle.lsm_compact.specs.Writing.{Goes, IsWhole, IsWriting, fault_in}
use Rattle.lsm_compact.proofs.Given.{gives_none, gives_then}
use Rattle.lsm_compact.proofs.Keys.{untrue}
use Rattle.lsm_compact.proofs.Readers.{later_itself, later_then}
use Rattle.lsm_compact.proofs.Writes.{all_joined, and_then, no_call, taken_of}

-- ---- what is written

cond_more : (b : Bool) (x : Row) (xs ys zs : List Row) → zs ≡ xs ++ ys → cond b (x ∷ zs) zs ≡ cond b (x ∷ xs) xs ++ ys
cond_more true x xs ys zs is = ap (λ (l : List Row). x ∷ l) is
cond_more false x xs ys zs is = is

written_more : (ranges : List KeyRange) (xs ys : List Row) → written_of ranges (xs ++ ys) ≡ written_of ranges xs
    ++ written_of ranges ys
unfolding written_of
written_more ranges [] ys = refl
written_more ranges (x ∷ xs) ys =
    cond_more (not (is_bare ranges x)) x (written_of ranges xs) (written_of ranges ys) (written_of ranges (xs ++ ys))
    (written_more ranges xs ys)

written_bare : (ranges : List KeyRange) (row : Row) → is_bare ranges row ≡ true → written_of ranges (row ∷ []) ≡ []
unfolding written_of
written_bare ranges row is = ap (λ (b : Bool). cond (not b) (row ∷ []) []) is

written_row : (ranges : List KeyRange) (row : Row) → is_bare ranges row ≡ false → written_of ranges (row ∷ []) ≡ row ∷ []
unfolding written_of
written_row ranges row is = ap (λ (b : Bool). cond (not b) (row ∷ []) []) is

pub written_none : (ranges : List KeyRange) → written_of ranges [] ≡ []
unfolding written_of
written_none ranges = refl

-- ---- rows that came

given_later : (a b m : Merging Input) (row : Row) → IsLater a b → IsGivenRow b row m → IsGivenRow a row m
given_later a b m row later given = record {
  of_store = given.of_store;
  behind = λ key is. given.behind key (later.past key is);
  past = given.past;
  more = λ end. given.more (later.end end);
}

later_come : (a b c : Merging Input) (rows : List Row) → IsLater a b → HaveCome b rows c → HaveCome a rows c
unfolding HaveCome
later_come a b c [] later come = later_then a b c later come
later_come a b c (row ∷ rows) later come = (come.0, given_later a b come.0 row later come.1, come.2)

come_then : (a b c : Merging Input) (xs ys : List Row) → HaveCome a xs b → HaveCome b ys c → HaveCome a (xs ++ ys) c
unfolding HaveCome
come_then a b c [] ys first second = later_come a b c ys first second
come_then a b c (x ∷ xs) ys first second = (first.0, first.1, come_then first.0 b c xs ys first.2 second)

pub none_came : (old new : Merging Input) → IsLater old new → HaveCome old [] new
unfolding HaveCome
none_came old new later = later

pub one_came : (old new : Merging Input) (row : Row) → IsGivenRow old row new → HaveCome old (row ∷ []) new
unfolding HaveCome
one_came old new row given = (new, given, later_itself new)

-- ---- one call after another

rows_then : (xs ys come came a b c : List Row) → xs ++ b ≡ a ++ come → ys ++ c ≡ b ++ came
    → (xs ++ ys) ++ c ≡ a ++ (come ++ came)
rows_then xs ys come came a b c first second =
    append_assoc xs ys c ∙ ap (λ (l : List Row). xs ++ l) second ∙ sym (append_assoc xs b came)
    ∙ ap (λ (l : List Row). l ++ came) first ∙ append_assoc a come came

module _ {P : Type 0} (went : P → List Called → P → Type 0) (told : P → Option (ℕ → List Row)) where
  pub moved_then : (first middle last : P) (a b c : Compaction) (fault : Option PortFault) (m n count : ℕ) → m + n ≡ count
      → HasMoved went told first middle a b None m
      → HasMoved went told middle last b c fault n → HasMoved went told first last a c fault count
  moved_then first middle last a b c fault m n count sum one two = record {
    come = one.come ++ two.come;
    more = one.more ++ two.more;
    given = come_then a.reader.merge b.reader.merge c.reader.merge one.come two.come one.given two.given;
    contents = gives_then (told first) (told middle) (told last) a.reader b.reader c.reader one.come two.come one.contents
        two.contents;
    rows = rows_then one.more two.more one.come two.come (option_to_list a.kept) (option_to_list b.kept)
        (option_to_list c.kept) one.rows two.rows;
    count_is = length-append one.more two.more ∙ ap (λ (k : ℕ). k + length two.more) one.count_is
        ∙ ap (λ (k : ℕ). m + k) two.count_is ∙ sum;
    inputs_are = two.inputs_are ∙ one.inputs_are;
    deeper_are = two.deeper_are ∙ one.deeper_are;
    level_is = two.level_is ∙ one.level_is;
    goes = λ over start calls done led written.
        let g = one.goes over start calls done led written in
        let h = two.goes g.over start (calls ++ g.goes.more) (done ++ one.more) g.goes.led
        (record { writing = g.goes.writing; end = g.end }) in record {
          over = h.over;
          end = h.end;
          goes = subst (λ (l : List Row). Goes went start calls last h.over c.outputs (written_of c.deeper l) fault)
              (append_assoc done one.more two.more)
              (and_then went start calls middle last g.over h.over b.outputs c.outputs
              (written_of b.deeper (done ++ one.more)) (written_of c.deeper ((done ++ one.more) ++ two.more)) fault g.goes
              h.goes);
        };
  }

  -- nothing was moved
  module _ (before now : P) (c : Compaction) (fault : Option PortFault) where
    -- a call has changed the outputs, and no row of theirs
    pub outputs_moved : told now ≡ told before → (o : Outputs) → o.level ≡ c.outputs.level
        → ((over : Bool) (start : P) (calls : List Called) (written : List Row) → (over ≡ true → IsUsedUp c)
        → went start calls before → IsWriting over c.outputs (files_after calls) written
        → (next : Bool) × (next ≡ true → IsUsedUp c) × Goes went start calls now next o written fault)
        → HasMoved went told before now c (record c { outputs = o }) fault 0
    outputs_moved tells o level goes = record {
      come = [];
      more = [];
      given = none_came c.reader.merge c.reader.merge (later_itself c.reader.merge);
      contents = gives_none (told before) (told now) c.reader tells;
      rows = sym (append-nil (option_to_list c.kept));
      count_is = refl;
      inputs_are = refl;
      deeper_are = refl;
      level_is = level;
      goes = λ over start calls done led w.
          let g = goes over start calls (written_of c.deeper done) w.end led w.writing in record {
            over = g.0;
            end = g.1;
            goes = subst (λ (l : List Row). Goes went start calls now g.0 o (written_of c.deeper l) fault)
                (sym (append-nil done)) g.2;
          };
    }

    -- a call of the reader gave no row
    pub reader_moved : (r : Reader) → IsLater c.reader.merge r.merge → GivesMore (told before) c.reader (told now) r []
        → ((over : Bool) (start : P) (calls : List Called) (o : Outputs) (written : List Row) → went start calls before
        → IsWriting over o (files_after calls) written → Goes went start calls now over o written fault)
        → HasMoved went told before now c (record c { reader = r }) fault 0
    reader_moved r later contents goes = record {
      come = [];
      more = [];
      given = none_came c.reader.merge r.merge later;
      contents = contents;
      rows = sym (append-nil (option_to_list c.kept));
      count_is = refl;
      inputs_are = refl;
      deeper_are = refl;
      level_is = refl;
      goes = λ over start calls done led w. record {
        over = over;
        end = λ is. ((w.end is).0, later.end (w.end is).1);
        goes = subst (λ (l : List Row). Goes went start calls now over c.outputs (written_of c.deeper l) fault)
            (sym (append-nil done)) (goes over start calls c.outputs (written_of c.deeper done) led w.writing);
      };
    }

    -- a call of the reader gave a row, where none was kept
    pub row_moved : (r : Reader) (row : Row) → c.kept ≡ None → IsGivenRow c.reader.merge row r.merge
        → GivesMore (told before) c.reader (told now) r (row ∷ [])
        → ((over : Bool) (start : P) (calls : List Called) (o : Outputs) (written : List Row) → went start calls before
        → IsWriting over o (files_after calls) written → Goes went start calls now over o written fault)
        → HasMoved went told before now c (record c { reader = r; kept = Some row }) fault 0
    row_moved r row none given contents goes = record {
      come = row ∷ [];
      more = [];
      given = one_came c.reader.merge r.merge row given;
      contents = contents;
      rows = ap (λ (o : Option Row). option_to_list o ++ row ∷ []) (sym none);
      count_is = refl;
      inputs_are = refl;
      deeper_are = refl;
      level_is = refl;
      goes = λ over start calls done led w. record {
        over = over;
        end = λ is. absurd (given.more (w.end is).1);
        goes = subst (λ (l : List Row). Goes went start calls now over c.outputs (written_of c.deeper l) fault)
            (sym (append-nil done)) (goes over start calls c.outputs (written_of c.deeper done) led w.writing);
      };
    }

  -- nothing was called and nothing is changed
  pub still : (port : P) (c : Compaction) → HasMoved went told port port c c None 0
  still port c = outputs_moved port port c None refl c.outputs refl
      (λ over start calls written end led w. (over, end, no_call went start calls port over c.outputs written led w))

  kept_end : (c : Compaction) (row : Row) → c.kept ≡ Some row → (over : Bool) → (over ≡ true → IsUsedUp c) → over ≡ false
  kept_end c row some true end = absurd (let none = (end refl).0 in let clash : ⊥ = cc in clash)
  kept_end c row some false end = refl

  kept_rows : (c : Compaction) (row : Row) → c.kept ≡ Some row → row ∷ [] ≡ option_to_list c.kept ++ []
  kept_rows c row some = ap (λ (o : Option Row). option_to_list o ++ []) (sym some)

  -- the kept row was left out
  pub left_out : (port : P) (c : Compaction) (row : Row) → c.kept ≡ Some row → is_bare c.deeper row ≡ true
      → HasMoved went told port port c (record c { kept = None }) None 1
  left_out port c row some bare = record {
    come = [];
    more = row ∷ [];
    given = none_came c.reader.merge c.reader.merge (later_itself c.reader.merge);
    contents = gives_none (told port) (told port) c.reader refl;
    rows = kept_rows c row some;
    count_is = refl;
    inputs_are = refl;
    deeper_are = refl;
    level_is = refl;
    goes = λ over start calls done led w. record {
      over = over;
      end = λ is. (refl, (w.end is).1);
      goes = subst (λ (l : List Row). Goes went start calls port over c.outputs l None)
          (sym (append-nil (written_of c.deeper done))
          ∙ ap (λ (l : List Row). written_of c.deeper done ++ l) (sym (written_bare c.deeper row bare))
          ∙ sym (written_more c.deeper done (row ∷ [])))
          (no_call went start calls port over c.outputs (written_of c.deeper done) led w.writing);
    };
  }

  -- the kept row was written
  pub row_written : (port : P) (c : Compaction) (o : Outputs) (row : Row) → c.kept ≡ Some row → is_bare c.deeper row ≡ false
      → HasAdded c.outputs o row → HasMoved went told port port c (record c { kept = None; outputs = o }) None 1
  row_written port c o row some full added = record {
    come = [];
    more = row ∷ [];
    given = none_came c.reader.merge c.reader.merge (later_itself c.reader.merge);
    contents = gives_none (told port) (told port) c.reader refl;
    rows = kept_rows c row some;
    count_is = refl;
    inputs_are = refl;
    deeper_are = refl;
    level_is = added.level_is;
    goes = λ over start calls done led w. record {
      over = false;
      end = λ is. absurd (untrue is);
      goes = no_call went start calls port false o (written_of c.deeper (done ++ row ∷ [])) led
          (subst (λ (l : List Row). IsWriting false o (files_after calls) l)
          (ap (λ (l : List Row). written_of c.deeper done ++ l) (sym (written_row c.deeper row full))
          ∙ sym (written_more c.deeper done (row ∷ [])))
          (added.writing (files_after calls) (written_of c.deeper done)
          (subst (λ (b : Bool). IsWriting b c.outputs (files_after calls) (written_of c.deeper done))
          (kept_end c row some over w.end) w.writing)));
    };
  }

  -- the outputs were closed, and their adds taken
  pub ended : (before now : P) (c : Compaction) (o last : Outputs) (edit : Edit) → told now ≡ told before → IsUsedUp c
      → o.level ≡ c.outputs.level → o.stage ≡ Closed → edit.drops ≡ c.inputs → edit.log ≡ None → edit.next ≡ None
      → edit.last ≡ None
      → ((over : Bool) (start : P) (calls : List Called) (written : List Row) → went start calls before
      → IsWriting over c.outputs (files_after calls) written → Goes went start calls now true o written None)
      → ((files : Files) (written : List Row) → IsWriting true o files written → o.stage ≡ Closed
      → IsWhole o.level edit.adds files written)
      → HasEnded went told before now c (record c { outputs = last }) edit 0
  ended before now c o last edit tells used level closed drops log next last_is goes whole = record {
    come = [];
    given = none_came c.reader.merge c.reader.merge (later_itself c.reader.merge);
    contents = gives_none (told before) (told now) c.reader tells;
    count_is = ap (λ (k : Option Row). length (option_to_list k ++ [])) used.0;
    end = used.1;
    drops_are = drops;
    log_is = log;
    next_is = next;
    last_is = last_is;
    goes = λ over start calls done led w.
        let g = goes over start calls (written_of c.deeper done) led w.writing in record {
          later = g.more;
          led = g.led;
          whole = subst (λ (l : List Row). IsWhole c.outputs.level edit.adds (files_after (calls ++ g.more))
              (written_of c.deeper l))
              (sym (append-nil done) ∙ ap (λ (k : Option Row). done ++ (option_to_list k ++ [])) (sym used.0))
              (subst (λ (n : ℕ). IsWhole n edit.adds (files_after (calls ++ g.more)) (written_of c.deeper done)) level
              (whole (files_after (calls ++ g.more)) (written_of c.deeper done) g.writing closed));
          taken = taken_of g.more g.answered;
        };
  }

  -- ---- calls together

  -- the outputs are changed by a call that any stage allows
  pub any_moved : (before now : P) (c : Compaction) (fault : Option PortFault) → told now ≡ told before → (o : Outputs)
      → o.level ≡ c.outputs.level
      → ((over : Bool) (start : P) (calls : List Called) (written : List Row) → went start calls before
      → IsWriting over c.outputs (files_after calls) written → Goes went start calls now over o written fault)
      → HasMoved went told before now c (record c { outputs = o }) fault 0
  any_moved before now c fault tells o level goes = outputs_moved before now c fault tells o level
      (λ over start calls written end led w. (over, end, goes over start calls written led w))

  -- they are changed while a row is kept
  pub begun_moved : (before now : P) (c : Compaction) (fault : Option PortFault) → told now ≡ told before → (o : Outputs)
      (row : Row) → c.kept ≡ Some row → o.level ≡ c.outputs.level
      → ((start : P) (calls : List Called) (written : List Row) → went start calls before
      → IsWriting false c.outputs (files_after calls) written → Goes went start calls now false o written fault)
      → HasMoved went told before now c (record c { outputs = o }) fault 0
  begun_moved before now c fault tells o row kept level goes = outputs_moved before now c fault tells o level
      (λ over start calls written end led w. (
        false,
        (λ is. absurd (untrue is)),
        goes start calls written led
            (subst (λ (b : Bool). IsWriting b c.outputs (files_after calls) written) (kept_end c row kept over end) w),
      ))

  -- they are closed, where no row is to come
  pub closed_moved : (before now : P) (c : Compaction) (fault : Option PortFault) → told now ≡ told before → (o : Outputs)
      → IsUsedUp c
      → o.level ≡ c.outputs.level
      → ((over : Bool) (start : P) (calls : List Called) (written : List Row) → went start calls before
      → IsWriting over c.outputs (files_after calls) written → Goes went start calls now true o written fault)
      → HasMoved went told before now c (record c { outputs = o }) fault 0
  closed_moved before now c fault tells o used level goes = outputs_moved before now c fault tells o level
      (λ over start calls written end led w. (true, (λ _. used), goes over start calls written led w))

  -- a fault is handed on
  pub moved_refused : (A B : Type 0) (before now : P) (a b : Compaction) (fault : CompactFault) (count : ℕ)
      → HasMoved went told before now a b (fault_in {T = A} (Err fault)) count
      → HasMoved went told before now a b (fault_in {T = B} (Err fault)) count
  moved_refused A B before now a b (Port fault) count moved = moved
  moved_refused A B before now a b NoMemory count moved = moved

  -- a table is begun, if none is open, and the kept row is written, or stays kept
  pub kept_moved : (before now : P) (a b c : Compaction) (row : Row) (result : Result (Unit {0}) CompactFault)
      → HasMoved went told before now a b None 0 → b.kept ≡ Some row → is_bare b.deeper row ≡ false
      → OnOk result ((r : Row) → b.kept ≡ Some r → HasAdded b.outputs c.outputs r)
      → OnOk result (c ≡ record b { kept = None; outputs = c.outputs }) → OnErr result (c ≡ b) → fault_in result ≡ None
      → HasMoved went told before now a c (fault_in result) (done_in result)
  kept_moved before now a b c row (Ok done) moved kept full added ok err none = moved_then before now now a b c None 0 1 1 refl
      moved
      (subst (λ (n : Compaction). HasMoved went told now now b n None 1) (sym ok)
      (row_written now b c.outputs row kept full (added row kept)))
  kept_moved before now a b c row (Err fault) moved kept full added ok err none =
      subst (λ (f : Option PortFault). HasMoved went told before now a c f 0) (sym none)
      (subst (λ (n : Compaction). HasMoved went told before now a n None 0) (sym err) moved)

  -- a compaction that was moved on comes to its end
  pub moved_end : (first middle last : P) (a b c : Compaction) (edit : Edit) (m n count : ℕ) → m + n ≡ count
      → HasMoved went told first middle a b None m
      → HasEnded went told middle last b c edit n → HasEnded went told first last a c edit count
  moved_end first middle last a b c edit m n count sum one two = record {
    come = one.come ++ two.come;
    given = come_then a.reader.merge b.reader.merge c.reader.merge one.come two.come one.given two.given;
    contents = gives_then (told first) (told middle) (told last) a.reader b.reader c.reader one.come two.come one.contents
        two.contents;
    count_is = ap (length {A = Row}) all_rows ∙ length-append one.more (option_to_list b.kept ++ two.come)
        ∙ ap (λ (k : ℕ). k + length (option_to_list b.kept ++ two.come)) one.count_is
        ∙ ap (λ (k : ℕ). m + k) two.count_is ∙ sum;
    end = two.end;
    drops_are = two.drops_are ∙ one.inputs_are;
    log_is = two.log_is;
    next_is = two.next_is;
    last_is = two.last_is;
    goes = λ over start calls done led written.
        let g = one.goes over start calls done led written in
        let h = two.goes g.over start (calls ++ g.goes.more) (done ++ one.more) g.goes.led
        (record { writing = g.goes.writing; end = g.end }) in record {
          later = g.goes.more ++ h.later;
          led = subst (λ (l : List Called). went start l last) (append_assoc calls g.goes.more h.later) h.led;
          whole = ended_as one.level_is one.deeper_are (append_assoc calls g.goes.more h.later)
              (append_assoc done one.more (option_to_list b.kept ++ two.come)
              ∙ ap (λ (l : List Row). done ++ l) (sym all_rows)) h.whole;
          taken = all_joined g.goes.more h.later (taken_of g.goes.more g.goes.answered) h.taken;
        };
  }
    where
      all_rows : option_to_list a.kept ++ (one.come ++ two.come) ≡ one.more ++ (option_to_list b.kept ++ two.come)
      all_rows = sym (append_assoc (option_to_list a.kept) one.come two.come)
          ∙ ap (λ (l : List Row). l ++ two.come) (sym one.rows) ∙ append_assoc one.more (option_to_list b.kept) two.come

      ended_as : {l k : ℕ} {d e : List KeyRange} {xs ys : List Called} {rows all : List Row} → l ≡ k → d ≡ e → xs ≡ ys
          → rows ≡ all → IsWhole l edit.adds (files_after xs) (written_of d rows)
          → IsWhole k edit.adds (files_after ys) (written_of e all)
      ended_as {l} {k} {d} {e} {xs} {ys} {rows} {all} level deeper same list whole =
          subst (λ (n : ℕ). IsWhole n edit.adds (files_after ys) (written_of e all)) level
          (subst (λ (r : List KeyRange). IsWhole l edit.adds (files_after ys) (written_of r all)) deeper
          (subst (λ (x : List Called). IsWhole l edit.adds (files_after x) (written_of d all)) same
          (subst (λ (r : List Row). IsWhole l edit.adds (files_after xs) (written_of d r)) list whole)))

-- ---- rows that are kept

pub kept_row : (o : Option Row) → o ≢ None → (row : Row) × (o ≡ Some row)
kept_row None some = absurd (some refl)
kept_row (Some row) some = (row, refl)

pub not_some : (o : Option Row) → is_some o ≡ false → o ≡ None
not_some None is = refl
not_some (Some row) is = absurd (untrue (sym is))

pub row_given : (old new : Merging Input) (o : Option Row) (row : Row) → o ≡ Some row
    → IfSome o (λ next. IsGivenRow old next new) → IsGivenRow old row new
row_given old new o row is given = subst (λ (p : Option Row). IfSome p (λ next. IsGivenRow old next new)) is given

pub none_given : (m : Merging Input) (o : Option Row) → o ≡ None → IfNone o (IsAtEnd m) → IsAtEnd m
none_given m o is end = subst (λ (p : Option Row). IfNone p (IsAtEnd m)) is end
