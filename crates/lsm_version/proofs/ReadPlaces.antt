-- A level and a number behind others: where their reading fails, and what it gives.
use Rattle.std.proofs.Common.{◌≡◌, ◌≢◌, ℕ, ◌+◌, ◌<◌, ◌≤◌, ◌⊎◌, inl, inr, List, [], ◌++◌, length, drop, refl, sym, ap, ◌∙◌, subst, arith, append_assoc, length-append}
use Rattle.std.proofs.lemmas.List.{append-nil}
use Rattle.std.proofs.lemmas.Bool.{cases_lt}
use Rattle.lsm_bytes.specs.Varint.{varint}
use Rattle.lsm_bytes.proofs.Spelling.{IsVarint-varint, IsVarint-one_spelling}
use Rattle.lsm_rows.specs.Pieces.{Begins, FaultFrom, IsNumberIn, IsNumberAt}
use Rattle.lsm_rows.proofs.PieceFaults.{fault_of, fault_behind}
use Rattle.lsm_rows.proofs.Prefixes.{varint_once}
use Rattle.lsm_version.specs.declared.tables.Place.{Place}
use Rattle.lsm_version.specs.declared.fields.Rank.{Rank}
use Rattle.lsm_version.specs.EditText.{place_text}
use Rattle.lsm_version.specs.Edits.{IsPlace, IsFileNumber, PlaceBefore, Before, last_level, last_number}
use Rattle.lsm_version.specs.Reading.{HasNext, IsPlaceIn, IsPlaceAt, IsBehind, IsRank, rank_at}

pub place_is : (level number : ℕ) → place_text level number ≡ varint level ++ varint number
unfolding place_text
place_is level number = refl

-- the least level at which a table may come behind, and the least number at a level
abbrev pub IsLeastLevel : Place → ℕ → Type 0
IsLeastLevel behind least = (behind.number < last_number → least ≡ behind.level) × (last_number ≤ behind.number → least ≡ behind.level + 1)

abbrev pub IsLeastNumber : Place → ℕ → ℕ → Type 0
IsLeastNumber behind level least = (level ≡ behind.level → least ≡ behind.number + 1) × (level ≢ behind.level → least ≡ 1)

-- some number with which a table of the level may come behind
some_number : (behind : Place) (least level : ℕ) → HasNext behind → IsLeastLevel behind least → least ≤ level → (n : ℕ) × (IsFileNumber n × PlaceBefore behind.level behind.number level n)
some_number behind least level next is low = by_number (cases_lt behind.number last_number) (cases_lt behind.level level)
  where
    by_number : (behind.number < last_number) ⊎ (last_number ≤ behind.number) → (behind.level < level) ⊎ (level ≤ behind.level)
        → (n : ℕ) × (IsFileNumber n × PlaceBefore behind.level behind.number level n)
    by_number _ (inl deeper) = (1, (record { some = omega arith; most = omega arith }, inl deeper))
    by_number (inl less) (inr same) =
        (behind.number + 1, (record { some = omega arith; most = omega (arith, less) }, inr (omega (arith, same, low, is.0 less), omega arith)))
    by_number (inr last) (inr same) = absurd (omega (arith, same, low, is.1 last))

-- whether a level has a number behind
level_low : (behind : Place) (least level number : ℕ) → IsLeastLevel behind least → IsPlace level number → PlaceBefore behind.level behind.number level number → least ≤ level
level_low behind least level number is place (inl deeper) = by_number (cases_lt behind.number last_number)
  where
    by_number : (behind.number < last_number) ⊎ (last_number ≤ behind.number) → least ≤ level
    by_number (inl less) = omega (arith, is.0 less, deeper)
    by_number (inr last) = omega (arith, is.1 last, deeper)
level_low behind least level number is place (inr same) = omega (arith, same.0, is.0 (omega (arith, same.1, place.number_is.most)))

pub level_fault : (bytes : List ℕ) (at least place : ℕ) (behind : Place) → HasNext behind → IsLeastLevel behind least
    → FaultFrom (IsNumberIn least last_level) bytes at place → FaultFrom (IsPlaceIn behind) bytes at place
level_fault bytes at least place behind next is inner = record {
  skipped = inner.skipped;
  placed = inner.placed;
  fault = fault_of (IsNumberIn least last_level) (Begins (IsNumberIn least last_level)) (IsPlaceIn behind) (Begins (IsPlaceIn behind)) (drop at bytes) inner.skipped complete needed inner.fault;
}
  where
    complete : (v : List ℕ) → IsNumberIn least last_level v → (w : List ℕ) × IsPlaceIn behind (v ++ w)
    complete v found =
        let some = some_number behind least found.n next is found.low in (
          varint some.0,
          record {
            level = found.n;
            number = some.0;
            spelled = ap (λ (s : List ℕ). s ++ varint some.0) (IsVarint-one_spelling v found.n found.spelled) ∙ sym (place_is found.n some.0);
            place_is = record { level_is = found.high; number_is = some.1.0 };
            after = some.1.1;
          },
        )

    needed : (t : List ℕ) → Begins (IsPlaceIn behind) t → Begins (IsNumberIn least last_level) t
    needed t ahead = record {
      piece = varint ahead.good.level;
      more = varint ahead.good.number ++ ahead.more;
      joined =
          ahead.joined ∙ ap (λ (s : List ℕ). s ++ ahead.more) (ahead.good.spelled ∙ place_is ahead.good.level ahead.good.number)
          ∙ append_assoc (varint ahead.good.level) (varint ahead.good.number) ahead.more;
      good = record {
        n = ahead.good.level;
        spelled = IsVarint-varint ahead.good.level;
        low = level_low behind least ahead.good.level ahead.good.number is ahead.good.place_is ahead.good.after;
        high = ahead.good.place_is.level_is;
      };
    }

-- the numbers with which a table of a level that may come behind does
number_makes : (behind : Place) (least_level least level n : ℕ) → IsLeastLevel behind least_level → IsLeastNumber behind level least → least_level ≤ level → least ≤ n
    → (1 ≤ n) × PlaceBefore behind.level behind.number level n
number_makes behind least_level least level n at_level is low enough = by_level (cases_lt behind.level level) (cases_lt behind.number last_number)
  where
    by_level : (behind.level < level) ⊎ (level ≤ behind.level) → (behind.number < last_number) ⊎ (last_number ≤ behind.number) → (1 ≤ n) × PlaceBefore behind.level behind.number level n
    by_level (inl deeper) _ = (omega (arith, is.1 (λ same. absurd (omega (arith, same, deeper))), enough), inl deeper)
    by_level (inr near) (inl less) =
        let same : level ≡ behind.level = omega (arith, near, low, at_level.0 less) in
        (omega (arith, is.0 same, enough), inr (omega (arith, same), omega (arith, is.0 same, enough)))
    by_level (inr near) (inr last) = absurd (omega (arith, near, low, at_level.1 last))

number_needs : (behind : Place) (least level n : ℕ) → IsLeastNumber behind level least → IsPlace level n → PlaceBefore behind.level behind.number level n → least ≤ n
number_needs behind least level n is place (inl deeper) = omega (arith, is.1 (λ same. absurd (omega (arith, same, deeper))), place.number_is.some)
number_needs behind least level n is place (inr same) = omega (arith, is.0 (omega (arith, same.0)), same.1)

module _ (bytes : List ℕ) (at least_level level number_at least : ℕ) (behind : Place) (at_level : IsLeastLevel behind least_level) (is : IsLeastNumber behind level least)
    (first : IsNumberAt bytes at least_level last_level level number_at) where
  pub number_fault : (place : ℕ) → FaultFrom (IsNumberIn least last_number) bytes number_at place → FaultFrom (IsPlaceIn behind) bytes at place
  number_fault place inner =
      fault_behind (IsNumberIn least last_number) (IsPlaceIn behind) bytes (varint level) at number_at place first.text first.ends complete needed inner
    where
      complete : (v : List ℕ) → IsNumberIn least last_number v → (w : List ℕ) × IsPlaceIn behind (varint level ++ (v ++ w))
      complete v found =
          let makes = number_makes behind least_level least level found.n at_level is first.low found.low in (
            [],
            record {
              level = level;
              number = found.n;
              spelled = ap (λ (s : List ℕ). varint level ++ s) (append-nil v ∙ IsVarint-one_spelling v found.n found.spelled) ∙ sym (place_is level found.n);
              place_is = record { level_is = first.high; number_is = record { some = makes.0; most = found.high } };
              after = makes.1;
            },
          )

      needed : (t : List ℕ) → Begins (IsPlaceIn behind) (varint level ++ t) → Begins (IsNumberIn least last_number) t
      needed t ahead =
          let number : ℕ = ahead.good.number in
          let once = varint_once level ahead.good.level t (varint number ++ ahead.more)
          (ahead.joined ∙ ap (λ (s : List ℕ). s ++ ahead.more) (ahead.good.spelled ∙ place_is ahead.good.level number) ∙ append_assoc (varint ahead.good.level) (varint number) ahead.more) in
          record {
            piece = varint number;
            more = ahead.more;
            joined = once.1;
            good = record {
              n = number;
              spelled = IsVarint-varint number;
              low = number_needs behind least level number is
                  (subst (λ (l : ℕ). IsPlace l number) (sym once.0) ahead.good.place_is)
                  (subst (λ (l : ℕ). PlaceBefore behind.level behind.number l number) (sym once.0) ahead.good.after);
              high = ahead.good.place_is.number_is.most;
            };
          }

  pub place_at : (number next : ℕ) → IsNumberAt bytes number_at least last_number number next → IsPlaceAt bytes at behind (record { level = level; number = number }) next
  place_at number next second =
      let makes = number_makes behind least_level least level number at_level is first.low second.low in
      record {
        place_is = record { level_is = first.high; number_is = record { some = makes.0; most = second.high } };
        after = makes.1;
        ends = omega (arith, second.ends, first.ends, ap (length {A = ℕ}) (place_is level number), length-append (varint level) (varint number));
        within = second.within;
        text =
            first.text ∙ ap (λ (s : List ℕ). varint level ++ s) second.text ∙ sym (append_assoc (varint level) (varint number) (drop next bytes))
            ∙ ap (λ (s : List ℕ). s ++ drop next bytes) (sym (place_is level number));
      }

-- ---- what must come behind a rank

pub from_start : (tag : ℕ) (after : Rank) → after.tag < tag → IsBehind tag after (record { level = 0; number = 0 })
unfolding Before
from_start tag after less = record {
  more = record { level = omega arith; number = omega arith; more = inl (omega arith) };
  makes = λ level number behind. inl less;
  needs = λ level number place before. needs level number place.number_is.some (cases_lt 0 level);
}
  where
    needs : (level number : ℕ) → 1 ≤ number → (0 < level) ⊎ (level ≤ 0) → PlaceBefore 0 0 level number
    needs level number some (inl deeper) = inl deeper
    needs level number some (inr top) = inr (omega arith, some)

pub from_rank : (tag : ℕ) (after : Rank) → IsRank after → after.tag ≡ tag → (after.level < last_level) ⊎ (after.number < last_number)
    → IsBehind tag after (record { level = after.level; number = after.number })
unfolding Before
from_rank tag after is same more = record {
  more = record { level = is.level; number = is.number; more = more };
  makes = λ level number behind. inr (same, behind);
  needs = λ level number place before. of level number before;
}
  where
    of : (level number : ℕ) → Before after (rank_at tag level number) → PlaceBefore after.level after.number level number
    of level number (inl less) = absurd (omega (arith, less, same))
    of level number (inr behind) = behind.1

pub none_behind : (tag : ℕ) (after : Rank) → tag ≤ after.tag → (after.tag ≡ tag → (last_level ≤ after.level) × (last_number ≤ after.number))
    → (level number : ℕ) → IsPlace level number → ¬ Before after (rank_at tag level number)
unfolding Before
none_behind tag after high last level number place (inl less) = absurd (omega (arith, less, high))
none_behind tag after high last level number place (inr (same, inl deeper)) = absurd (omega (arith, (last same).0, deeper, place.level_is))
none_behind tag after high last level number place (inr (same, inr more)) = absurd (omega (arith, (last same).1, more.1, place.number_is.most))
