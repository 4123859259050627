-- Writing a table's file: what stays so of it.
use Rattle.std.specs.Prelude.{◌≡◌, ◌≢◌, ◌⊎◌, ℕ, ◌-◌, ◌<◌, ◌≤◌, List, ◌++◌, length, take, Some, None}
use Rattle.std.proofs.Common.{⊎_elim, refl, sym, ap, ◌∙◌, subst, arith, length-append}
use Rattle.std.proofs.Math.Seq.{take-append_seam}
use Rattle.lsm_rows.specs.declared.rows.Row.{Row}
use Rattle.lsm_table.specs.declared.building.Finished.{Finished}
use Rattle.lsm_version.specs.declared.tables.TableInfo.{TableInfo}
use Rattle.lsm_memtable.specs.Newest.{newest_each}
use Rattle.lsm_memtable.specs.Flushes.{Flushing, IsNextPiece, IsLastPiece, bytes_of}
use Rattle.lsm_memtable.specs.FlushPieces.{IsStep}
use Rattle.lsm_memtable.specs.declared.flush.FlushPiece.{FlushPiece}
use Rattle.lsm_memtable.specs.declared.flush.FlushPiece.TheVariants as piece
use Rattle.lsm_flush.specs.declared.writing.Ahead.{Ahead}
use Rattle.lsm_flush.specs.declared.writing.Ahead.TheVariants.{Nothing, Piece, Last, Whole}
use Rattle.lsm_flush.specs.Writing.{Written, text_of, given, whole, whole_by, info_of, IsWholeTable, IsLastAhead, IsAhead, IsWriting, HasTaken}

pub begun_writing : (f : Flushing) (rows : List Row) (number : ℕ) (session : List ℕ)
    → f ≡ record { rows = rows; number = number; session = session; taken = 0 }
    → f.taken < length (newest_each f.rows) → 1 ≤ length rows → IsWriting f number session Nothing
unfolding IsAhead
begun_writing f rows number session same left some = record {
  number_is = ap (λ (g : Flushing). g.number) same;
  session_is = ap (λ (g : Flushing). g.session) same;
  some = subst (λ (l : List Row). 1 ≤ length l) (sym (ap (λ (g : Flushing). g.rows) same)) some;
  ahead_is = left;
}

some_once : (a b : TableInfo) → Some a ≡ Some b → a ≡ b
some_once a b same = cc

-- what is ahead is so
as_ahead : (f : Flushing) (number : ℕ) (session : List ℕ) (ahead other : Ahead) → IsWriting f number session ahead → ahead ≡ other
    → IsWriting f number session other
as_ahead f number session ahead other is same = subst (λ (a : Ahead). IsWriting f number session a) same is

-- rows are left where nothing is ahead
nothing_ahead : (f : Flushing) (number : ℕ) (session : List ℕ) → IsWriting f number session Nothing → f.taken < length (newest_each f.rows)
unfolding IsAhead
nothing_ahead f number session is = is.ahead_is

pub rows_left : (f : Flushing) (number : ℕ) (session : List ℕ) (ahead : Ahead) → IsWriting f number session ahead → ahead ≡ Nothing
    → f.taken < length (newest_each f.rows)
rows_left f number session ahead is same = nothing_ahead f number session (as_ahead f number session ahead Nothing is same)

last_ahead : (f : Flushing) (number : ℕ) (session : List ℕ) (last : Finished) → IsWriting f number session (Last last)
    → IsWriting f number session (Whole (info_of number session last))
unfolding IsAhead
last_ahead f number session last is = record {
  number_is = is.number_is;
  session_is = is.session_is;
  some = is.some;
  ahead_is = is.ahead_is.whole;
}

-- the last of a table has come into its file
pub whole_writing : (f : Flushing) (number : ℕ) (session : List ℕ) (ahead : Ahead) (last : Finished) → IsWriting f number session ahead
    → ahead ≡ Last last → IsWriting f number session (Whole (info_of number session last))
whole_writing f number session ahead last is same =
    last_ahead f number session last (as_ahead f number session ahead (Last last) is same)

piece_ahead : (f : Flushing) (number : ℕ) (session bytes : List ℕ) → IsWriting f number session (Piece bytes)
    → IsWriting f number session Nothing
unfolding IsAhead
piece_ahead f number session bytes is = record {
  number_is = is.number_is;
  session_is = is.session_is;
  some = is.some;
  ahead_is = is.ahead_is.left;
}

-- a piece has, or nothing was ahead
pub idle_writing : (f : Flushing) (number : ℕ) (session : List ℕ) (ahead was now : Ahead) → IsWriting f number session ahead
    → was ≡ ahead → now ≡ Nothing → (was ≡ Nothing) ⊎ ((bytes : List ℕ) × (was ≡ Piece bytes)) → IsWriting f number session now
idle_writing f number session ahead was now is taken same is_idle =
    subst (λ (a : Ahead). IsWriting f number session a) (sym same) (⊎_elim
    (λ none. as_ahead f number session ahead Nothing is (sym taken ∙ none))
    (λ some. piece_ahead f number session some.0 (as_ahead f number session ahead (Piece some.0) is (sym taken ∙ some.1))) is_idle)

whole_ahead : (f : Flushing) (number : ℕ) (session : List ℕ) (info : TableInfo) → IsWriting f number session (Whole info)
    → IsWholeTable f.rows number session info
unfolding IsAhead
whole_ahead f number session info is = is.ahead_is

-- what an edit says of a whole table is so
pub whole_is : (f : Flushing) (number : ℕ) (session : List ℕ) (ahead : Ahead) → IsWriting f number session ahead
    → (info : TableInfo) → whole_by ahead ≡ Some info → IsWholeTable f.rows number session info
whole_is f number session Nothing is info same = let clash : None ≡ Some info = same in absurd (cc)
whole_is f number session (Piece bytes) is info same = let clash : None ≡ Some info = same in absurd (cc)
whole_is f number session (Last last) is info same = let clash : None ≡ Some info = same in absurd (cc)
whole_is f number session (Whole other) is info same =
    let once : other ≡ info = some_once other info same in
    subst (λ (i : TableInfo). IsWholeTable f.rows number session i) once (whole_ahead f number session other is)

-- ---- what was taken

abbrev pub seen_as : Flushing → ℕ → List ℕ → Ahead → Written
seen_as f number session ahead = record { rows = f.rows; number = number; session = session; taken = f.taken; ahead = ahead }

-- ---- rows that were taken before

piece_taken : (f : Flushing) (number : ℕ) (session bytes : List ℕ) → IsWriting f number session (Piece bytes)
    → HasTaken (seen_as f number session (Piece bytes)) (seen_as f number session (Piece bytes))
unfolding IsAhead
piece_taken f number session bytes is = record {
  same = refl;
  none = refl;
  bytes = refl;
  later = omega arith;
  settles = omega arith;
  added = sym is.ahead_is.text;
  further = (omega (arith, is.ahead_is.most), is.ahead_is.left);
}

last_taken : (f : Flushing) (number : ℕ) (session : List ℕ) (last : Finished) → IsWriting f number session (Last last)
    → HasTaken (seen_as f number session (Last last)) (seen_as f number session (Last last))
unfolding IsAhead
last_taken f number session last is = record {
  same = refl;
  none = refl;
  bytes = refl;
  later = omega arith;
  settles = omega arith;
  added = sym is.ahead_is.text;
  further = is.ahead_is.whole;
}

pub taken_before : (f : Flushing) (number : ℕ) (session : List ℕ) (ahead : Ahead) → IsWriting f number session ahead
    → whole (seen_as f number session ahead) ≡ None → ahead ≢ Nothing
    → HasTaken (seen_as f number session ahead) (seen_as f number session ahead)
taken_before f number session ahead is none some = by ahead refl
  where
    never : {info : TableInfo} → Some info ≡ None → ⊥
    never same = cc

    by : (a : Ahead) → ahead ≡ a → HasTaken (seen_as f number session ahead) (seen_as f number session ahead)
    by Nothing at = absurd (some at)
    by (Piece bytes) at = subst (λ (b : Ahead). HasTaken (seen_as f number session b) (seen_as f number session b)) (sym at)
        (piece_taken f number session bytes (as_ahead f number session ahead (Piece bytes) is at))
    by (Last last) at = subst (λ (b : Ahead). HasTaken (seen_as f number session b) (seen_as f number session b)) (sym at)
        (last_taken f number session last (as_ahead f number session ahead (Last last) is at))
    by (Whole info) at = absurd (never (sym (ap (λ (b : Ahead). whole (seen_as f number session b)) at) ∙ none))

-- bytes, or the last of a table, or a whole one, are ahead
pub some_ahead : (ahead : Ahead) → ((bytes : List ℕ) × (ahead ≡ Piece bytes))
    ⊎ (((last : Finished) × (ahead ≡ Last last)) ⊎ ((info : TableInfo) × (ahead ≡ Whole info))) → ahead ≢ Nothing
some_ahead ahead is none = ⊎_elim (λ piece. no_piece piece.0 (sym piece.1 ∙ none))
    (λ more. ⊎_elim (λ last. no_last last.0 (sym last.1 ∙ none)) (λ whole. no_whole whole.0 (sym whole.1 ∙ none)) more) is
  where
    no_piece : (bytes : List ℕ) → Piece bytes ≢ Nothing
    no_piece bytes same = cc

    no_last : (last : Finished) → Last last ≢ Nothing
    no_last last same = cc

    no_whole : (info : TableInfo) → Whole info ≢ Nothing
    no_whole info same = cc

-- ---- rows that a step of the flush gives

piece_next : (f : Flushing) (bytes : List ℕ) (taken : ℕ) → IsStep f (piece.Piece bytes) taken → IsNextPiece f bytes taken
unfolding IsStep
piece_next f bytes taken is = is

piece_last : (f : Flushing) (last : Finished) (taken : ℕ) → IsStep f (piece.Last last) taken
    → IsLastPiece f last.tail last.size last.smallest last.largest taken
unfolding IsStep
piece_last f last taken is = is

module _ (f g : Flushing) (number : ℕ) (session : List ℕ) (ahead : Ahead) (is : IsWriting f number session ahead)
    (rows : g.rows ≡ f.rows) (same_number : g.number ≡ f.number) (same_session : g.session ≡ f.session) where
  some_rows : 1 ≤ length g.rows
  some_rows = subst (λ (l : List Row). 1 ≤ length l) (sym rows) is.some

  module _ (p : FlushPiece) (step : IsStep f p g.taken) where
    module _ (bytes : List ℕ) (same : p ≡ piece.Piece bytes) where
      next : IsNextPiece f bytes g.taken
      next = piece_next f bytes g.taken (subst (λ (q : FlushPiece). IsStep f q g.taken) same step)

      pub piece_writing : IsWriting g number session (Piece bytes)
      unfolding IsAhead
      piece_writing = record {
        number_is = same_number ∙ is.number_is;
        session_is = same_session ∙ is.session_is;
        some = some_rows;
        ahead_is = record {
          most = omega (arith, next.all);
          left = omega (arith, next.left, next.all, ap (λ (l : List Row). length (newest_each l)) rows);
          text =
              subst (λ (l : List Row). bytes_of (newest_each l) (g.taken - 1024) ++ bytes ≡ bytes_of (newest_each l) g.taken) (sym rows)
              (ap (λ (n : ℕ). bytes_of (newest_each f.rows) n ++ bytes) (omega (arith, next.all)) ∙ next.text);
        };
      }

      pub piece_stepped : HasTaken (seen_as f number session Nothing) (seen_as g number session (Piece bytes))
      piece_stepped =
          let taken : HasTaken (seen_as g number session (Piece bytes)) (seen_as g number session (Piece bytes)) =
          piece_taken g number session bytes piece_writing in
          let before : given (seen_as g number session (Piece bytes)) ≡ given (seen_as f number session Nothing) =
          ap (λ (l : List Row). bytes_of (newest_each l) (g.taken - 1024)) rows
          ∙ ap (λ (n : ℕ). bytes_of (newest_each f.rows) n) (omega (arith, next.all)) in record {
            same = ap (λ (l : List Row). record { rows = l; number = number; session = session; taken = g.taken; ahead = Piece bytes }) rows;
            none = refl;
            bytes = before;
            later = omega (arith, next.all);
            settles = omega (arith, next.all);
            added = taken.added ∙ ap (λ (l : List ℕ). l ++ bytes) before;
            further = (omega (arith, next.all), taken.further.1);
          }

    module _ (last : Finished) (same : p ≡ piece.Last last) where
      end : IsLastPiece f last.tail last.size last.smallest last.largest g.taken
      end = piece_last f last g.taken (subst (λ (q : FlushPiece). IsStep f q g.taken) same step)

      -- what the file was given before
      before_last : take (last.size - length last.tail) (text_of f.rows f.number f.session) ≡ bytes_of (newest_each f.rows) f.taken
      before_last =
          let before : List ℕ = bytes_of (newest_each f.rows) f.taken in
          let many : last.size - length last.tail ≡ length before =
          omega (arith, end.size_is, ap (λ (l : List ℕ). length l) end.text, length-append before last.tail) in
          ap (λ (n : ℕ). take n (text_of f.rows f.number f.session)) many ∙ ap (take (length before)) (sym end.text)
          ∙ take-append_seam before last.tail

      last_of_f : IsLastAhead f.rows f.number f.session last
      last_of_f = record {
        text = ap (λ (l : List ℕ). l ++ last.tail) before_last ∙ end.text;
        whole = record {
          number_is = refl;
          session_is = refl;
          size_is = sym end.size_is;
          smallest_is = end.smallest_is;
          largest_is = end.largest_is;
          table = end.table;
        };
      }

      last_of_g : IsLastAhead g.rows number session last
      last_of_g =
          subst (λ (l : List Row). IsLastAhead l number session last) (sym rows)
          (subst (λ (n : ℕ). IsLastAhead f.rows n session last) is.number_is
          (subst (λ (name : List ℕ). IsLastAhead f.rows f.number name last) is.session_is last_of_f))

      pub last_writing : IsWriting g number session (Last last)
      unfolding IsAhead
      last_writing = record {
        number_is = same_number ∙ is.number_is;
        session_is = same_session ∙ is.session_is;
        some = some_rows;
        ahead_is = last_of_g;
      }

      pub last_stepped : f.taken < length (newest_each f.rows)
          → HasTaken (seen_as f number session Nothing) (seen_as g number session (Last last))
      last_stepped left =
          let taken : HasTaken (seen_as g number session (Last last)) (seen_as g number session (Last last)) =
          last_taken g number session last last_writing in
          let before : given (seen_as g number session (Last last)) ≡ given (seen_as f number session Nothing) =
          ap (λ (l : List Row). take (last.size - length last.tail) (text_of l number session)) rows
          ∙ ap (λ (n : ℕ). take (last.size - length last.tail) (text_of f.rows n session)) (sym is.number_is)
          ∙ ap (λ (name : List ℕ). take (last.size - length last.tail) (text_of f.rows f.number name)) (sym is.session_is)
          ∙ before_last in record {
            same = ap (λ (l : List Row). record { rows = l; number = number; session = session; taken = g.taken; ahead = Last last }) rows;
            none = refl;
            bytes = before;
            later = omega (arith, end.all, left);
            settles = omega (arith, end.all, left);
            added = taken.added ∙ ap (λ (l : List ℕ). l ++ last.tail) before;
            further = taken.further;
          }
