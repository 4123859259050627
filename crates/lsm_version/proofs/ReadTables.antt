-- What an edit's text says of a table: where its reading fails, and what it gives.
use Rattle.std.proofs.Common.{◌≡◌, ℕ, ◌+◌, ◌-◌, ◌^◌, ◌≤◌, List, [], ◌++◌, length, drop, refl, sym, ap, ◌∙◌, arith, append_assoc, length-append, true}
use Rattle.std.specs.Prelude.{replicate}
use Rattle.std.proofs.lemmas.List.{append-nil}
use Rattle.lsm_bytes.specs.Varint.{varint}
use Rattle.lsm_bytes.proofs.Spelling.{IsVarint-varint, IsVarint-one_spelling}
use Rattle.lsm_names.specs.Sessions.{is_session, is_session_byte}
use Rattle.lsm_rows.specs.BatchText.{sized}
use Rattle.lsm_rows.specs.Pieces.{Begins, FaultFrom, IsNumberIn, IsNumberAt}
use Rattle.lsm_rows.proofs.PieceFaults.{fault_of, fault_behind}
use Rattle.lsm_rows.proofs.Prefixes.{varint_once, same_length, sized_once}
use Rattle.lsm_version.specs.declared.tables.TableInfo.{TableInfo}
use Rattle.lsm_version.specs.declared.refusals.EditError.{EditError}
use Rattle.lsm_version.specs.declared.refusals.EditError.TheVariants.{BadEdit, NoMemory}
use Rattle.lsm_version.specs.Edits.{IsKey, IsTable}
use Rattle.lsm_version.specs.Reading.{IsFaultAt, IsBadAt, IsSessionIn, IsSessionAt, IsKeyIn, IsKeyAt, IsTableIn, IsTableAt}
use Rattle.lsm_version.proofs.ReadKeys.{zeros_key}
use Rattle.lsm_version.proofs.Texts.{rest_split, rest_is}
use Rattle.lsm_names.proofs.SessionLemmas.{length_of_session}

pub bad_fault : (Whole Ahead : List ℕ → Type 0) (bytes : List ℕ) (at place : ℕ) (e : EditError) → e ≡ BadEdit place → IsFaultAt Whole Ahead bytes at place → IsBadAt Whole Ahead bytes at e
unfolding IsBadAt
bad_fault Whole Ahead bytes at place e is fault = rw is fault

pub bad_memory : (Whole Ahead : List ℕ → Type 0) (bytes : List ℕ) (at : ℕ) (e : EditError) → e ≡ NoMemory → IsBadAt Whole Ahead bytes at e
unfolding IsBadAt
bad_memory Whole Ahead bytes at e is = rw is tt

pub piece_bad : (Piece : List ℕ → Type 0) (bytes : List ℕ) (at place : ℕ) (e : EditError) → e ≡ BadEdit place → FaultFrom Piece bytes at place → IsBadAt Piece (Begins Piece) bytes at e
piece_bad Piece bytes at place e is fault =
    bad_fault Piece (Begins Piece) bytes at place e is (record { skipped = fault.skipped; placed = fault.placed; fault = fault.fault })

-- some key
some_key : List ℕ
some_key = replicate 8 0

some_is_key : IsKey some_key
unfolding some_key
some_is_key = zeros_key 8 (omega arith) (omega arith)

abbrev pub most_size : ℕ
most_size = 2 ^ 64 - 1

-- the table of these parts
abbrev pub table_of_parts : List ℕ → ℕ → List ℕ → List ℕ → TableInfo
table_of_parts session size smallest largest = record { number = 0; session = session; size = size; smallest = smallest; largest = largest }

made : (session : List ℕ) (size : ℕ) (smallest largest : List ℕ) → is_session session ≡ true → size ≤ most_size → IsKey smallest → IsKey largest → IsTable (table_of_parts session size smallest largest)
made session size smallest largest named fits one two = record { session = named; size = omega (arith, fits); smallest = one; largest = two }

pub table_session_fault : (bytes : List ℕ) (at place : ℕ) → FaultFrom IsSessionIn bytes at place → FaultFrom IsTableIn bytes at place
table_session_fault bytes at place inner = record {
  skipped = inner.skipped;
  placed = inner.placed;
  fault = fault_of IsSessionIn (Begins IsSessionIn) IsTableIn (Begins IsTableIn) (drop at bytes) inner.skipped complete needed inner.fault;
}
  where
    complete : (v : List ℕ) → IsSessionIn v → (w : List ℕ) × IsTableIn (v ++ w)
    complete v is = (
      varint 0 ++ (sized some_key ++ sized some_key),
      record { table = table_of_parts v 0 some_key some_key; spelled = sym (rest_is (table_of_parts v 0 some_key some_key)); table_is = made v 0 some_key some_key is.good (omega arith) some_is_key some_is_key },
    )

    needed : (t : List ℕ) → Begins IsTableIn t → Begins IsSessionIn t
    needed t ahead =
        let table : TableInfo = ahead.good.table in
        record {
          piece = table.session;
          more = varint table.size ++ (sized table.smallest ++ (sized table.largest ++ ahead.more));
          joined = ahead.joined ∙ ap (λ (s : List ℕ). s ++ ahead.more) ahead.good.spelled ∙ rest_split table ahead.more;
          good = record { good = ahead.good.table_is.session };
        }

-- the table that stands ahead
module _ (t front : List ℕ) (ahead : Begins IsTableIn (front ++ t)) where
  table : TableInfo
  table = ahead.good.table

  whole : front ++ t ≡ table.session ++ (varint table.size ++ (sized table.smallest ++ (sized table.largest ++ ahead.more)))
  unfolding table
  whole = ahead.joined ∙ ap (λ (s : List ℕ). s ++ ahead.more) ahead.good.spelled ∙ rest_split ahead.good.table ahead.more

  table_is : IsTable table
  unfolding table
  table_is = ahead.good.table_is

past_session : (session t : List ℕ) → is_session session ≡ true → (table : TableInfo) (more : List ℕ) → IsTable table
    → session ++ t ≡ table.session ++ (varint table.size ++ (sized table.smallest ++ (sized table.largest ++ more)))
    → t ≡ varint table.size ++ (sized table.smallest ++ (sized table.largest ++ more))
past_session session t named table more is same =
    (same_length session table.session t (varint table.size ++ (sized table.smallest ++ (sized table.largest ++ more)))
    (length_of_session session named ∙ sym (length_of_session table.session is.session)) same).1

module _ (bytes : List ℕ) (at : ℕ) (session : List ℕ) (first : IsSessionAt bytes at session) where
  ends : at + 20 ≡ at + length session
  ends = omega (arith, length_of_session session first.good)

  pub table_size_fault : (place : ℕ) → FaultFrom (IsNumberIn 0 most_size) bytes (at + 20) place → FaultFrom IsTableIn bytes at place
  table_size_fault place inner =
      fault_behind (IsNumberIn 0 most_size) IsTableIn bytes session at (at + 20) place first.text ends complete needed inner
    where
      complete : (v : List ℕ) → IsNumberIn 0 most_size v → (w : List ℕ) × IsTableIn (session ++ (v ++ w))
      complete v is = (
        sized some_key ++ sized some_key,
        record {
          table = table_of_parts session is.n some_key some_key;
          spelled =
              ap (λ (s : List ℕ). session ++ (s ++ (sized some_key ++ sized some_key))) (IsVarint-one_spelling v is.n is.spelled)
              ∙ sym (rest_is (table_of_parts session is.n some_key some_key));
          table_is = made session is.n some_key some_key first.good is.high some_is_key some_is_key;
        },
      )

      needed : (t : List ℕ) → Begins IsTableIn (session ++ t) → Begins (IsNumberIn 0 most_size) t
      needed t ahead =
          let found : TableInfo = table t session ahead in
          let is : IsTable found = table_is t session ahead in
          record {
            piece = varint found.size;
            more = sized found.smallest ++ (sized found.largest ++ ahead.more);
            joined = past_session session t first.good found ahead.more is (whole t session ahead);
            good = record { n = found.size; spelled = IsVarint-varint found.size; low = omega arith; high = omega (arith, is.size) };
          }

  module _ (size smallest_at : ℕ) (second : IsNumberAt bytes (at + 20) 0 most_size size smallest_at) where
    two : drop at bytes ≡ (session ++ varint size) ++ drop smallest_at bytes
    two = first.text ∙ ap (λ (s : List ℕ). session ++ s) second.text ∙ sym (append_assoc session (varint size) (drop smallest_at bytes))

    ends_two : smallest_at ≡ at + length (session ++ varint size)
    ends_two = omega (arith, second.ends, length-append session (varint size), ends)

    pub table_smallest_fault : (place : ℕ) → FaultFrom IsKeyIn bytes smallest_at place → FaultFrom IsTableIn bytes at place
    table_smallest_fault place inner =
        fault_behind IsKeyIn IsTableIn bytes (session ++ varint size) at smallest_at place two ends_two complete needed inner
      where
        complete : (v : List ℕ) → IsKeyIn v → (w : List ℕ) × IsTableIn ((session ++ varint size) ++ (v ++ w))
        complete v is = (
          sized some_key,
          record {
            table = table_of_parts session size is.value some_key;
            spelled =
                append_assoc session (varint size) (v ++ sized some_key) ∙ ap (λ (s : List ℕ). session ++ (varint size ++ (s ++ sized some_key))) is.spelled
                ∙ sym (rest_is (table_of_parts session size is.value some_key));
            table_is = made session size is.value some_key first.good second.high is.key_is some_is_key;
          },
        )

        needed : (t : List ℕ) → Begins IsTableIn ((session ++ varint size) ++ t) → Begins IsKeyIn t
        needed t ahead =
            let found : TableInfo = table t (session ++ varint size) ahead in
            let is : IsTable found = table_is t (session ++ varint size) ahead in
            let past = past_session session (varint size ++ t) first.good found ahead.more is (sym (append_assoc session (varint size) t) ∙ whole t (session ++ varint size) ahead) in
            let once = varint_once size found.size t (sized found.smallest ++ (sized found.largest ++ ahead.more)) past in
            record {
              piece = sized found.smallest;
              more = sized found.largest ++ ahead.more;
              joined = once.1;
              good = record { value = found.smallest; spelled = refl; key_is = is.smallest };
            }

    module _ (smallest : List ℕ) (largest_at : ℕ) (third : IsKeyAt bytes smallest_at smallest largest_at) where
      front : List ℕ
      front = session ++ (varint size ++ sized smallest)

      split : (t : List ℕ) → front ++ t ≡ session ++ (varint size ++ (sized smallest ++ t))
      unfolding front
      split t = simp append_assoc

      three : drop at bytes ≡ front ++ drop largest_at bytes
      three =
          first.text ∙ ap (λ (s : List ℕ). session ++ s) second.text ∙ ap (λ (s : List ℕ). session ++ (varint size ++ s)) third.text ∙ sym (split (drop largest_at bytes))

      ends_three : largest_at ≡ at + length front
      unfolding front
      ends_three = omega (arith, third.ends, second.ends, length-append session (varint size ++ sized smallest), length-append (varint size) (sized smallest), ends)

      pub table_largest_fault : (place : ℕ) → FaultFrom IsKeyIn bytes largest_at place → FaultFrom IsTableIn bytes at place
      table_largest_fault place inner =
          fault_behind IsKeyIn IsTableIn bytes front at largest_at place three ends_three complete needed inner
        where
          complete : (v : List ℕ) → IsKeyIn v → (w : List ℕ) × IsTableIn (front ++ (v ++ w))
          complete v is = (
            [],
            record {
              table = table_of_parts session size smallest is.value;
              spelled =
                  split (v ++ []) ∙ ap (λ (s : List ℕ). session ++ (varint size ++ (sized smallest ++ s))) (append-nil v ∙ is.spelled)
                  ∙ sym (rest_is (table_of_parts session size smallest is.value));
              table_is = made session size smallest is.value first.good second.high third.key_is is.key_is;
            },
          )

          needed : (t : List ℕ) → Begins IsTableIn (front ++ t) → Begins IsKeyIn t
          needed t ahead =
              let found : TableInfo = table t front ahead in
              let is : IsTable found = table_is t front ahead in
              let past = past_session session (varint size ++ (sized smallest ++ t)) first.good found ahead.more is (sym (split t) ∙ whole t front ahead) in
              let once = varint_once size found.size (sized smallest ++ t) (sized found.smallest ++ (sized found.largest ++ ahead.more)) past in
              let key = sized_once smallest found.smallest t (sized found.largest ++ ahead.more) once.1 in
              record {
                piece = sized found.largest;
                more = ahead.more;
                joined = key.1;
                good = record { value = found.largest; spelled = refl; key_is = is.largest };
              }

      pub table_at : (number : ℕ) (largest : List ℕ) (next : ℕ) → IsKeyAt bytes largest_at largest next
          → IsTableAt bytes at (record { number = number; session = session; size = size; smallest = smallest; largest = largest }) next
      table_at number largest next fourth =
          let found : TableInfo = record { number = number; session = session; size = size; smallest = smallest; largest = largest } in
          record {
            table_is = record { session = first.good; size = omega (arith, second.high); smallest = third.key_is; largest = fourth.key_is };
            ends = omega (
              arith,
              fourth.ends,
              third.ends,
              second.ends,
              ends,
              ap (length {A = ℕ}) (rest_is found),
              length-append session (varint size ++ (sized smallest ++ sized largest)),
              length-append (varint size) (sized smallest ++ sized largest),
              length-append (sized smallest) (sized largest),
            );
            within = fourth.within;
            text = three ∙ ap (λ (s : List ℕ). front ++ s) fourth.text ∙ split (sized largest ++ drop next bytes) ∙ sym (rest_split found (drop next bytes));
          }

-- some session, and some table
some_session : List ℕ
some_session = replicate 20 48

some_named : is_session some_session ≡ true
unfolding some_session is_session is_session_byte
some_named = refl

pub some_table : TableInfo
some_table = table_of_parts some_session 0 some_key some_key

pub some_is_table : IsTable some_table
unfolding some_table
some_is_table = made some_session 0 some_key some_key some_named (omega arith) some_is_key some_is_key
