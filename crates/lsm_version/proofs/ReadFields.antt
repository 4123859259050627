-- A field of an edit's text: where its reading fails, and what it gives.
use Rattle.std.proofs.Common.{◌≡◌, ◌≢◌, ℕ, ◌+◌, ◌-◌, ◌^◌, ◌<◌, ◌≤◌, ◌⊎◌, inl, inr, List, [], ◌∷◌, ◌++◌, length, drop, refl, sym, ap, ◌∙◌, subst, arith, append_assoc, length-append, get_or}
use Rattle.std.proofs.lemmas.List.{append-nil}
use Rattle.lsm_bytes.specs.Varint.{varint}
use Rattle.lsm_bytes.proofs.Spelling.{IsVarint-varint, IsVarint-one_spelling}
use Rattle.lsm_rows.specs.Pieces.{Begins, IsFault, FaultFrom, IsNumberIn, IsNumberAt}
use Rattle.lsm_rows.proofs.PieceFaults.{fault_after}
use Rattle.lsm_rows.proofs.ReadNumbers.{first_split}
use Rattle.lsm_version.specs.declared.tables.TableInfo.{TableInfo}
use Rattle.lsm_version.specs.declared.tables.Add.{Add}
use Rattle.lsm_version.specs.declared.tables.Place.{Place}
use Rattle.lsm_version.specs.declared.fields.Rank.{Rank}
use Rattle.lsm_version.specs.declared.fields.Field.{Field}
use Rattle.lsm_version.specs.declared.fields.Field.TheVariants.{LogNumber, NextNumber, LastSequence, Added, Dropped}
use Rattle.lsm_version.specs.declared.refusals.EditError.{EditError}
use Rattle.lsm_version.specs.declared.refusals.EditError.TheVariants.{BadEdit, NoMemory}
use Rattle.lsm_version.specs.EditText.{place_text, rest_text, field_text}
use Rattle.lsm_version.specs.Edits.{IsTable, IsPlace, InRange, Before, IsNext, rank_of, last_number}
use Rattle.lsm_version.specs.Reading.{IsFaultAt, IsBadAt, IsPlaceIn, IsPlaceAt, IsTableIn, IsTableAt, IsBehind, IsFieldIn, IsFieldAt, IsRest, GoesOn, rank_at}
use Rattle.lsm_version.proofs.Texts.{place_once}

pub added_text : (add : Add) → field_text (Added add) ≡ 4 ∷ (place_text add.level add.table.number ++ rest_text add.table)
unfolding field_text
added_text add = refl

pub dropped_text : (place : Place) → field_text (Dropped place) ≡ 5 ∷ place_text place.level place.number
unfolding field_text
dropped_text place = refl

-- a field's text begins with its tag
tag_first : (field : Field) (b : ℕ) (t more : List ℕ) → b ∷ t ≡ field_text field ++ more → b ≡ (rank_of field).tag
unfolding field_text rank_of
tag_first (LogNumber n) b t more same = cc
tag_first (NextNumber n) b t more same = cc
tag_first (LastSequence n) b t more same = cc
tag_first (Added add) b t more same = cc
tag_first (Dropped place) b t more same = cc

-- ---- a tag that no field has there

abbrev pub NoField : Rank → ℕ → Type 0
NoField after b = (field : Field) → IsNext after field → (rank_of field).tag ≡ b → ⊥

nothing_starts : (after : Rank) (b : ℕ) (t : List ℕ) → NoField after b → GoesOn after (b ∷ t) → ⊥
unfolding GoesOn
nothing_starts after b t none (inl ended) = cc
nothing_starts after b t none (inr ahead) =
    none ahead.good.field ahead.good.next (sym (tag_first ahead.good.field b t ahead.more (ahead.joined ∙ ap (λ (s : List ℕ). s ++ ahead.more) ahead.good.spelled)))

may_end : (after : Rank) → IsRest after []
unfolding IsRest
may_end after = inl refl

pub tag_fault : (bytes : List ℕ) (at : ℕ) (after : Rank) → at < length bytes → NoField after (get_or bytes at 0) → IsFaultAt (IsRest after) (GoesOn after) bytes at at
tag_fault bytes at after below none = record {
  skipped = 0;
  placed = omega arith;
  fault = subst (λ (t : List ℕ). IsFault (IsRest after) (GoesOn after) t 0) (sym (first_split bytes at below)) (record {
    within = omega arith;
    none = nothing_starts after (get_or bytes at 0) (drop (at + 1) bytes) none;
    before = ([], may_end after);
    here = λ less more. nothing_starts after (get_or bytes at 0) more none;
  });
}

-- a number's field comes behind lower tags
pub number_behind : (after : Rank) (field : Field) → IsNext after field → (rank_of field).tag ≤ 3 → after.tag < (rank_of field).tag
unfolding rank_of Before
number_behind after (LogNumber n) next low = by_order next.behind
  where
    by_order : Before after (rank_at 1 0 0) → after.tag < 1
    by_order (inl less) = less
    by_order (inr (same, inl less)) = absurd (omega (arith, less))
    by_order (inr (same, inr less)) = absurd (omega (arith, less.1))
number_behind after (NextNumber n) next low = by_order next.behind
  where
    by_order : Before after (rank_at 2 0 0) → after.tag < 2
    by_order (inl less) = less
    by_order (inr (same, inl less)) = absurd (omega (arith, less))
    by_order (inr (same, inr less)) = absurd (omega (arith, less.1))
number_behind after (LastSequence n) next low = by_order next.behind
  where
    by_order : Before after (rank_at 3 0 0) → after.tag < 3
    by_order (inl less) = less
    by_order (inr (same, inl less)) = absurd (omega (arith, less))
    by_order (inr (same, inr less)) = absurd (omega (arith, less.1))
number_behind after (Added add) next low = absurd (omega (arith, low))
number_behind after (Dropped place) next low = absurd (omega (arith, low))

pub no_number : (after : Rank) (tag : ℕ) → tag ≤ 3 → tag ≤ after.tag → NoField after tag
no_number after tag low high field next is = absurd (omega (arith, number_behind after field next (omega (arith, is, low)), is, high))

tags : (field : Field) → (1 ≤ (rank_of field).tag) × ((rank_of field).tag ≤ 5)
unfolding rank_of
tags (LogNumber n) = (omega arith, omega arith)
tags (NextNumber n) = (omega arith, omega arith)
tags (LastSequence n) = (omega arith, omega arith)
tags (Added add) = (omega arith, omega arith)
tags (Dropped place) = (omega arith, omega arith)

pub no_tag : (after : Rank) (tag : ℕ) → tag ≢ 1 → tag ≢ 2 → tag ≢ 3 → tag ≢ 4 → tag ≢ 5 → NoField after tag
no_tag after tag one two three four five field next is = absurd (omega (arith, tags field, is, one, two, three, four, five))

pub no_added : (after : Rank) → ((level number : ℕ) → IsPlace level number → ¬ Before after (rank_at 4 level number)) → NoField after 4
unfolding rank_of InRange
no_added after none (LogNumber n) next is = absurd (omega (arith, is))
no_added after none (NextNumber n) next is = absurd (omega (arith, is))
no_added after none (LastSequence n) next is = absurd (omega (arith, is))
no_added after none (Added add) next is = none add.level add.table.number next.range.0 next.behind
no_added after none (Dropped place) next is = absurd (omega (arith, is))

pub no_dropped : (after : Rank) → ((level number : ℕ) → IsPlace level number → ¬ Before after (rank_at 5 level number)) → NoField after 5
unfolding rank_of InRange
no_dropped after none (LogNumber n) next is = absurd (omega (arith, is))
no_dropped after none (NextNumber n) next is = absurd (omega (arith, is))
no_dropped after none (LastSequence n) next is = absurd (omega (arith, is))
no_dropped after none (Added add) next is = absurd (omega (arith, is))
no_dropped after none (Dropped place) next is = none place.level place.number next.range next.behind

-- ---- a fault behind the tag

not_empty : (b : ℕ) (q t : List ℕ) → (b ∷ q) ++ t ≡ [] → ⊥
not_empty b q t same = cc

pub field_fault : (Inner : List ℕ → Type 0) (bytes q : List ℕ) (b at next place : ℕ) (after : Rank)
    → drop at bytes ≡ (b ∷ q) ++ drop next bytes → next ≡ at + length (b ∷ q)
    → ((v : List ℕ) → Inner v → (w : List ℕ) × IsFieldIn after ((b ∷ q) ++ (v ++ w)))
    → ((t more : List ℕ) (field : Field) → IsNext after field → (b ∷ q) ++ t ≡ field_text field ++ more → Begins Inner t)
    → FaultFrom Inner bytes next place → IsFaultAt (IsRest after) (GoesOn after) bytes at place
unfolding IsRest GoesOn
field_fault Inner bytes q b at next place after split ends complete needed inner = record {
  skipped = length (b ∷ q) + inner.skipped;
  placed = omega (arith, inner.placed, ends);
  fault = subst (λ (t : List ℕ). IsFault (IsRest after) (GoesOn after) t (length (b ∷ q) + inner.skipped)) (sym split)
      (fault_after Inner (Begins Inner) (IsRest after) (GoesOn after) (b ∷ q) (drop next bytes) inner.skipped (λ v is. let done = complete v is in (done.0, inr done.1)) ahead inner.fault);
}
  where
    ahead : (t : List ℕ) → (((b ∷ q) ++ t ≡ []) ⊎ Begins (IsFieldIn after) ((b ∷ q) ++ t)) → Begins Inner t
    ahead t (inl ended) = absurd (not_empty b q t ended)
    ahead t (inr goes) = needed t goes.more goes.good.field goes.good.next (goes.joined ∙ ap (λ (s : List ℕ). s ++ goes.more) goes.good.spelled)

-- behind a tag
tag_split : (bytes : List ℕ) (at tag : ℕ) → at < length bytes → get_or bytes at 0 ≡ tag → drop at bytes ≡ (tag ∷ []) ++ drop (at + 1) bytes
tag_split bytes at tag below is = first_split bytes at below ∙ ap (λ (b : ℕ). b ∷ drop (at + 1) bytes) is

-- what a number's field is made of
pub record IsNumbered (after : Rank) (tag least most : ℕ) (make : ℕ → Field) : Type 0 where
  pub text : (n : ℕ) → field_text (make n) ≡ tag ∷ varint n
  pub makes : (n : ℕ) → least ≤ n → n ≤ most → IsNext after (make n)
  pub needs : (t more : List ℕ) (field : Field) → IsNext after field → tag ∷ t ≡ field_text field ++ more → Begins (IsNumberIn least most) t

module _ (bytes : List ℕ) (at tag least most : ℕ) (make : ℕ → Field) (after : Rank) (below : at < length bytes) (is : get_or bytes at 0 ≡ tag) (numbered : IsNumbered after tag least most make) where
  pub number_fault : (place : ℕ) → FaultFrom (IsNumberIn least most) bytes (at + 1) place → IsFaultAt (IsRest after) (GoesOn after) bytes at place
  number_fault place inner =
      field_fault (IsNumberIn least most) bytes [] tag at (at + 1) place after (tag_split bytes at tag below is) (omega arith) complete numbered.needs inner
    where
      complete : (v : List ℕ) → IsNumberIn least most v → (w : List ℕ) × IsFieldIn after ((tag ∷ []) ++ (v ++ w))
      complete v found = (
        [],
        record {
          field = make found.n;
          spelled = ap (λ (s : List ℕ). tag ∷ s) (append-nil v ∙ IsVarint-one_spelling v found.n found.spelled) ∙ sym (numbered.text found.n);
          next = numbered.makes found.n found.low found.high;
        },
      )

  pub number_at : (n next : ℕ) → IsNumberAt bytes (at + 1) least most n next → IsFieldAt bytes at after (make n) next
  number_at n next found = record {
    may = numbered.makes n found.low found.high;
    ends = omega (arith, found.ends, ap (length {A = ℕ}) (numbered.text n));
    within = found.within;
    text = tag_split bytes at tag below is ∙ ap (λ (s : List ℕ). tag ∷ s) found.text ∙ ap (λ (s : List ℕ). s ++ drop next bytes) (sym (numbered.text n));
  }

begins_number : (least most n : ℕ) (t more : List ℕ) → least ≤ n → n ≤ most → t ≡ varint n ++ more → Begins (IsNumberIn least most) t
begins_number least most n t more low high joined = record { piece = varint n; more = more; joined = joined; good = record { n = n; spelled = IsVarint-varint n; low = low; high = high } }

pub log_field : (after : Rank) → after.tag < 1 → IsNumbered after 1 1 last_number LogNumber
unfolding InRange rank_of Before field_text
log_field after less = record {
  text = λ n. refl;
  makes = λ n low high. record { range = record { some = low; most = high }; behind = inl less };
  needs = needs;
}
  where
    needs : (t more : List ℕ) (field : Field) → IsNext after field → 1 ∷ t ≡ field_text field ++ more → Begins (IsNumberIn 1 last_number) t
    needs t more (LogNumber n) next same = begins_number 1 last_number n t more next.range.some next.range.most cc
    needs t more (NextNumber n) next same = absurd cc
    needs t more (LastSequence n) next same = absurd cc
    needs t more (Added add) next same = absurd cc
    needs t more (Dropped place) next same = absurd cc

pub next_field : (after : Rank) → after.tag < 2 → IsNumbered after 2 1 (2 ^ 56 - 1) NextNumber
unfolding InRange rank_of Before field_text
next_field after less = record {
  text = λ n. refl;
  makes = λ n low high. record { range = (low, omega (arith, high)); behind = inl less };
  needs = needs;
}
  where
    needs : (t more : List ℕ) (field : Field) → IsNext after field → 2 ∷ t ≡ field_text field ++ more → Begins (IsNumberIn 1 (2 ^ 56 - 1)) t
    needs t more (LogNumber n) next same = absurd cc
    needs t more (NextNumber n) next same = begins_number 1 (2 ^ 56 - 1) n t more next.range.0 (omega (arith, next.range.1)) cc
    needs t more (LastSequence n) next same = absurd cc
    needs t more (Added add) next same = absurd cc
    needs t more (Dropped place) next same = absurd cc

pub last_field : (after : Rank) → after.tag < 3 → IsNumbered after 3 0 (2 ^ 56 - 1) LastSequence
unfolding InRange rank_of Before field_text
last_field after less = record {
  text = λ n. refl;
  makes = λ n low high. record { range = omega (arith, high); behind = inl less };
  needs = needs;
}
  where
    needs : (t more : List ℕ) (field : Field) → IsNext after field → 3 ∷ t ≡ field_text field ++ more → Begins (IsNumberIn 0 (2 ^ 56 - 1)) t
    needs t more (LogNumber n) next same = absurd cc
    needs t more (NextNumber n) next same = absurd cc
    needs t more (LastSequence n) next same = begins_number 0 (2 ^ 56 - 1) n t more (omega arith) (omega (arith, next.range)) cc
    needs t more (Added add) next same = absurd cc
    needs t more (Dropped place) next same = absurd cc

-- ---- tables dropped

module _ (bytes : List ℕ) (at : ℕ) (after : Rank) (behind : Place) (below : at < length bytes) (is : get_or bytes at 0 ≡ 5) (order : IsBehind 5 after behind) where
  may_drop : (level number : ℕ) → IsPlace level number → Before after (rank_at 5 level number) → IsNext after (Dropped (record { level = level; number = number }))
  unfolding InRange rank_of
  may_drop level number place before = record { range = place; behind = before }

  pub dropped_fault : (place : ℕ) → FaultFrom (IsPlaceIn behind) bytes (at + 1) place → IsFaultAt (IsRest after) (GoesOn after) bytes at place
  unfolding InRange rank_of field_text
  dropped_fault place inner =
      field_fault (IsPlaceIn behind) bytes [] 5 at (at + 1) place after (tag_split bytes at 5 below is) (omega arith) complete needed inner
    where
      complete : (v : List ℕ) → IsPlaceIn behind v → (w : List ℕ) × IsFieldIn after ((5 ∷ []) ++ (v ++ w))
      complete v found = (
        [],
        record {
          field = Dropped (record { level = found.level; number = found.number });
          spelled = ap (λ (s : List ℕ). 5 ∷ s) (append-nil v ∙ found.spelled);
          next = may_drop found.level found.number found.place_is (order.makes found.level found.number found.after);
        },
      )

      needed : (t more : List ℕ) (field : Field) → IsNext after field → 5 ∷ t ≡ field_text field ++ more → Begins (IsPlaceIn behind) t
      needed t more (LogNumber n) next same = absurd cc
      needed t more (NextNumber n) next same = absurd cc
      needed t more (LastSequence n) next same = absurd cc
      needed t more (Added add) next same = absurd cc
      needed t more (Dropped p) next same = record {
        piece = place_text p.level p.number;
        more = more;
        joined = cc;
        good = record { level = p.level; number = p.number; spelled = refl; place_is = next.range; after = order.needs p.level p.number next.range next.behind };
      }

  pub dropped_at : (place : Place) (next : ℕ) → IsPlaceAt bytes (at + 1) behind place next → IsFieldAt bytes at after (Dropped place) next
  dropped_at place next found = record {
    may = may_drop place.level place.number found.place_is (order.makes place.level place.number found.after);
    ends = omega (arith, found.ends, ap (length {A = ℕ}) (dropped_text place));
    within = found.within;
    text = tag_split bytes at 5 below is ∙ ap (λ (s : List ℕ). 5 ∷ s) found.text ∙ ap (λ (s : List ℕ). s ++ drop next bytes) (sym (dropped_text place));
  }

-- ---- tables added

renumbered : (table : TableInfo) (n : ℕ) → rest_text (record { number = n; session = table.session; size = table.size; smallest = table.smallest; largest = table.largest }) ≡ rest_text table
unfolding rest_text
renumbered table n = refl

may_add : (after : Rank) (level : ℕ) (table : TableInfo) → IsPlace level table.number → IsTable table → Before after (rank_at 4 level table.number) → IsNext after (Added (record { level = level; table = table }))
unfolding InRange rank_of
may_add after level table place is before = record { range = (place, is); behind = before }

-- the table that an added field has
record IsAdded (after : Rank) (t more : List ℕ) : Type 0 where
  level : ℕ
  table : TableInfo
  place_is : IsPlace level table.number
  table_is : IsTable table
  before : Before after (rank_at 4 level table.number)
  joined : t ≡ place_text level table.number ++ (rest_text table ++ more)

added_ahead : (after : Rank) (t more : List ℕ) (field : Field) → IsNext after field → 4 ∷ t ≡ field_text field ++ more → IsAdded after t more
unfolding InRange rank_of field_text
added_ahead after t more (LogNumber n) next same = absurd cc
added_ahead after t more (NextNumber n) next same = absurd cc
added_ahead after t more (LastSequence n) next same = absurd cc
added_ahead after t more (Added add) next same =
    let tail : t ≡ (place_text add.level add.table.number ++ rest_text add.table) ++ more = cc in
    record {
      level = add.level;
      table = add.table;
      place_is = next.range.0;
      table_is = next.range.1;
      before = next.behind;
      joined = tail ∙ append_assoc (place_text add.level add.table.number) (rest_text add.table) more;
    }
added_ahead after t more (Dropped p) next same = absurd cc

module _ (bytes : List ℕ) (at : ℕ) (after : Rank) (behind : Place) (below : at < length bytes) (is : get_or bytes at 0 ≡ 4) (order : IsBehind 4 after behind) where
  -- a fault in the place; behind a place some table's text could stand
  pub added_place_fault : (example : TableInfo) → IsTable example → (place : ℕ) → FaultFrom (IsPlaceIn behind) bytes (at + 1) place → IsFaultAt (IsRest after) (GoesOn after) bytes at place
  added_place_fault example example_is place inner =
      field_fault (IsPlaceIn behind) bytes [] 4 at (at + 1) place after (tag_split bytes at 4 below is) (omega arith) complete needed inner
    where
      complete : (v : List ℕ) → IsPlaceIn behind v → (w : List ℕ) × IsFieldIn after ((4 ∷ []) ++ (v ++ w))
      complete v found =
          let table : TableInfo = record { number = found.number; session = example.session; size = example.size; smallest = example.smallest; largest = example.largest } in
          let table_is : IsTable table = record { session = example_is.session; size = example_is.size; smallest = example_is.smallest; largest = example_is.largest } in (
            rest_text table,
            record {
              field = Added (record { level = found.level; table = table });
              spelled = ap (λ (s : List ℕ). 4 ∷ (s ++ rest_text table)) found.spelled ∙ sym (added_text (record { level = found.level; table = table }));
              next = may_add after found.level table found.place_is table_is (order.makes found.level found.number found.after);
            },
          )

      needed : (t more : List ℕ) (field : Field) → IsNext after field → 4 ∷ t ≡ field_text field ++ more → Begins (IsPlaceIn behind) t
      needed t more field next same =
          let ahead : IsAdded after t more = added_ahead after t more field next same in
          record {
            piece = place_text ahead.level ahead.table.number;
            more = rest_text ahead.table ++ more;
            joined = ahead.joined;
            good = record {
              level = ahead.level;
              number = ahead.table.number;
              spelled = refl;
              place_is = ahead.place_is;
              after = order.needs ahead.level ahead.table.number ahead.place_is ahead.before;
            };
          }

  module _ (place : Place) (rest : ℕ) (first : IsPlaceAt bytes (at + 1) behind place rest) where
    front : List ℕ
    front = place_text place.level place.number

    behind_place : drop at bytes ≡ (4 ∷ front) ++ drop rest bytes
    unfolding front
    behind_place = tag_split bytes at 4 below is ∙ ap (λ (s : List ℕ). 4 ∷ s) first.text

    ends_place : rest ≡ at + length (4 ∷ front)
    unfolding front
    ends_place = omega (arith, first.ends)

    pub added_table_fault : (fault : ℕ) → FaultFrom IsTableIn bytes rest fault → IsFaultAt (IsRest after) (GoesOn after) bytes at fault
    unfolding front
    added_table_fault fault inner =
        field_fault IsTableIn bytes front 4 at rest fault after behind_place ends_place complete needed inner
      where
        complete : (v : List ℕ) → IsTableIn v → (w : List ℕ) × IsFieldIn after ((4 ∷ place_text place.level place.number) ++ (v ++ w))
        complete v found =
            let table : TableInfo = record { number = place.number; session = found.table.session; size = found.table.size; smallest = found.table.smallest; largest = found.table.largest } in
            let table_is : IsTable table = record { session = found.table_is.session; size = found.table_is.size; smallest = found.table_is.smallest; largest = found.table_is.largest } in (
              [],
              record {
                field = Added (record { level = place.level; table = table });
                spelled =
                    ap (λ (s : List ℕ). 4 ∷ (place_text place.level place.number ++ s)) (append-nil v ∙ found.spelled ∙ sym (renumbered found.table place.number))
                    ∙ sym (added_text (record { level = place.level; table = table }));
                next = may_add after place.level table first.place_is table_is (order.makes place.level place.number first.after);
              },
            )

        needed : (t more : List ℕ) (field : Field) → IsNext after field → (4 ∷ place_text place.level place.number) ++ t ≡ field_text field ++ more → Begins IsTableIn t
        needed t more field next same =
            let ahead : IsAdded after (place_text place.level place.number ++ t) more = added_ahead after (place_text place.level place.number ++ t) more field next same in
            let once = place_once place.level place.number ahead.level ahead.table.number t (rest_text ahead.table ++ more) ahead.joined in
            record { piece = rest_text ahead.table; more = more; joined = once.2; good = record { table = ahead.table; spelled = refl; table_is = ahead.table_is } }

    pub added_at : (table : TableInfo) (next : ℕ) → table.number ≡ place.number → IsTableAt bytes rest table next → IsFieldAt bytes at after (Added (record { level = place.level; table = table })) next
    unfolding front
    added_at table next same found =
        let text : field_text (Added (record { level = place.level; table = table })) ≡ (4 ∷ front) ++ rest_text table =
        added_text (record { level = place.level; table = table }) ∙ ap (λ (n : ℕ). 4 ∷ (place_text place.level n ++ rest_text table)) same in
        record {
          may = may_add after place.level table
              (subst (λ (n : ℕ). IsPlace place.level n) (sym same) first.place_is) found.table_is
              (subst (λ (n : ℕ). Before after (rank_at 4 place.level n)) (sym same) (order.makes place.level place.number first.after));
          ends = omega (arith, found.ends, ends_place, ap (length {A = ℕ}) text, length-append (4 ∷ front) (rest_text table));
          within = found.within;
          text =
              behind_place ∙ ap (λ (s : List ℕ). (4 ∷ front) ++ s) found.text ∙ sym (append_assoc (4 ∷ front) (rest_text table) (drop next bytes))
              ∙ ap (λ (s : List ℕ). s ++ drop next bytes) (sym text);
        }

-- a refusal of a table's text is one of its field
pub table_bad : (bytes : List ℕ) (at : ℕ) (after : Rank) (behind : Place) (below : at < length bytes) (is : get_or bytes at 0 ≡ 4) (order : IsBehind 4 after behind)
    (place : Place) (rest : ℕ) (first : IsPlaceAt bytes (at + 1) behind place rest) (e : EditError) → IsBadAt IsTableIn (Begins IsTableIn) bytes rest e → IsBadAt (IsRest after) (GoesOn after) bytes at e
unfolding IsBadAt
table_bad bytes at after behind below is order place rest first (BadEdit fault) bad =
    added_table_fault bytes at after behind below is order place rest first fault (record { skipped = bad.skipped; placed = bad.placed; fault = bad.fault })
table_bad bytes at after behind below is order place rest first NoMemory bad = tt
