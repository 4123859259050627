-- How a reading goes on by one record.
use Rattle.std.specs.Prelude.{◌≡◌, ℕ, zero, suc, ◌+◌, ◌≤◌, List, [], ◌∷◌, ◌++◌, length, take, map, All, slice_get, Option, Some}
use Rattle.std.proofs.Common.{refl, sym, ap, subst, ◌∙◌, arith, length-append}
use Rattle.std.proofs.lemmas.List.{map-append}
use Rattle.std.proofs.lemmas.List.Elements.{All-nil, All-push}
use Rattle.lsm_rows.specs.declared.operations.Op.{Op}
use Rattle.lsm_rows.specs.Decoding.{IsBatchText, IsSomeBatch, IsBad}
use Rattle.lsm_rows.specs.declared.decoding.BatchError.TheVariants.{BadBatch}
use Rattle.lsm_rows.specs.Replay.{sequence_after}
use Rattle.lsm_frame.specs.Records.{records_of, front}
use Rattle.lsm_wal.specs.Batches.{Logged, text_of, IsLogged, in_sequence}
use Rattle.lsm_wal.specs.Reading.{At_end, IsReading, IsTrouble, open_end}
use Rattle.lsm_disk.specs.Viewed.{Viewed}
use Rattle.lsm_frame.specs.Reader.{Reader, Tells, Stays, EndsBehind}
use Rattle.lsm_io.specs.Causes.{Rose}
use Rattle.lsm_wal.specs.Stepping.{IsBatchAt, IsNext, IsLost, Follows}
use Rattle.lsm_wal.specs.declared.reading.Step.TheVariants.{More, Over}
use Rattle.lsm_wal.specs.declared.why.WalWhy.{WalWhy}
use Rattle.lsm_wal.specs.declared.why.WalWhy.TheVariants as why
use Rattle.lsm_wal.proofs.Once.{Starts, slice_map}
use Rattle.lsm_wal.proofs.Texts.{sequence_push}
use Rattle.std.proofs.lemmas.Option.{same_Some}
use Rattle.lsm_frame.proofs.Going.{tells_still, stays_trans}

pub sequence_more : (first : ℕ) (batches : List (List Op)) (ops : List Op) → sequence_after first (batches ++ ops ∷ []) ≡ sequence_after first batches + length ops
sequence_more first [] ops = refl
sequence_more first (batch ∷ batches) ops = sequence_more (first + length batch) batches ops

pub take_one_more : (n : ℕ) (texts : List (List ℕ)) (text : List ℕ) → slice_get texts n ≡ Some text → take (suc n) texts ≡ take n texts ++ text ∷ []
take_one_more n [] text is = cc
take_one_more zero (t ∷ texts) text is = ap (λ (x : List ℕ). x ∷ []) (same_Some t text is)
take_one_more (suc n) (t ∷ texts) text is = ap (λ (l : List (List ℕ)). t ∷ l) (take_one_more n texts text is)

-- before the first record
pub starts_none : (expected : ℕ) (texts : List (List ℕ)) → Starts expected texts []
starts_none expected texts = record { are = refl; each = All-nil IsLogged }

one_longer : (batches : List (List Op)) (ops : List Op) → length (batches ++ ops ∷ []) ≡ suc (length batches)
one_longer batches ops = omega (arith, length-append batches (ops ∷ []))

-- behind one more batch
pub starts_more : (expected : ℕ) (text : List ℕ) (batches : List (List Op)) (ops : List Op) → Starts expected (front text) batches → IsBatchAt text (length batches) (sequence_after expected batches) ops → Starts expected (front text) (batches ++ ops ∷ [])
starts_more expected text batches ops starts at =
    let next : Logged = record { first = sequence_after expected batches; ops = ops } in
    let grown : in_sequence expected (batches ++ ops ∷ []) ≡ in_sequence expected batches ++ next ∷ [] = sequence_push expected batches ops in
    record {
      are = ap (λ (n : ℕ). take n (front text)) (one_longer batches ops) ∙ take_one_more (length batches) (front text) at.payload (slice_map (records_of text).0 (length batches) at.place at.payload at.stands)
          ∙ ap (λ (l : List (List ℕ)). l ++ at.payload ∷ []) starts.are
          ∙ ap (λ (t : List ℕ). map text_of (in_sequence expected batches) ++ t ∷ []) at.batch.is
          ∙ sym (ap (map text_of) grown ∙ map-append text_of (in_sequence expected batches) (next ∷ []));
      each = subst (All IsLogged) (sym grown) (All-push IsLogged (in_sequence expected batches) next starts.each (subst (λ (t : List ℕ). IsBatchText t (sequence_after expected batches) ops) at.batch.is at.batch));
    }

-- at the end
pub ends_read : (expected : ℕ) (text : List ℕ) (batches : List (List Op)) (torn : Option ℕ) → Starts expected (front text) batches → EndsBehind text (length batches) (open_end torn) → IsReading expected text batches (At_end (open_end torn))
ends_read expected text batches torn starts ends = record { texts = starts.are; each = starts.each; stops = ends }

-- at a trouble
pub lost_read : (expected : ℕ) (text : List ℕ) (batches : List (List Op)) (w : WalWhy) → Starts expected (front text) batches → IsLost text (length batches) (sequence_after expected batches) w → IsTrouble expected text w
lost_read expected text batches why.ReadFault starts lost = tt
lost_read expected text batches (why.Damaged place kept found) starts lost = (batches, record { texts = starts.are; each = starts.each; stops = lost })
lost_read expected text batches (why.Malformed place) starts lost = (batches, record { texts = starts.are; each = starts.each; stops = lost })
lost_read expected text batches why.NoMemory starts lost = tt
lost_read expected text batches (why.BadBatch place) starts lost = (batches, record { texts = starts.are; each = starts.each; stops = lost })
lost_read expected text batches (why.Gap kept found) starts lost = (batches, lost.0, record { texts = starts.are; each = starts.each; stops = lost.1 })

-- ---- by a reader

-- from the start on the reader gave the records of these batches, and the next one is to begin with this sequence
pub record Going (start now : Reader) (expected next : ℕ) (batches : List (List Op)) : Type 0 where
  pub counted : now.given ≡ length batches
  pub view : Stays start.viewed now.viewed
  pub next_is : next ≡ sequence_after expected batches
  pub some : 1 ≤ next
  pub starts : (text : List ℕ) → Tells start.viewed text → Starts expected (front text) batches

pub going_start : (reader : Reader) (expected : ℕ) (batches : List (List Op)) → reader.given ≡ 0 → 1 ≤ expected → batches ≡ [] → Going reader reader expected expected batches
going_start reader expected batches none some is = subst (Going reader reader expected expected) (sym is) (record {
  counted = none;
  view = record { bytes = refl; len = refl; faults = omega arith };
  next_is = refl;
  some = some;
  starts = λ text tells. starts_none expected (front text);
})

module _ (start now new : Reader) (expected next : ℕ) (batches : List (List Op)) (going : Going start now expected next batches) (stays : Stays now.viewed new.viewed) where
  pub going_more : (ops : List Op) (after : ℕ) (more : List (List Op)) → ((text : List ℕ) → Tells now.viewed text → IsNext text now.given next (More ops)) → Follows now new next (More ops) → after ≡ next + length ops → more ≡ batches ++ ops ∷ []
      → Going start new expected after more
  going_more ops after more at follows is grown = subst (Going start new expected after) (sym grown) (record {
    counted = follows.0 ∙ ap (λ (n : ℕ). n + 1) going.counted ∙ sym (length-append batches (ops ∷ []));
    view = stays_trans start.viewed now.viewed new.viewed going.view stays;
    next_is = is ∙ ap (λ (n : ℕ). n + length ops) going.next_is ∙ sym (sequence_more expected batches ops);
    some = omega (arith, is, going.some);
    starts = λ text tells.
        let there : IsBatchAt text now.given next ops = at text (tells_still start.viewed now.viewed text going.view tells) in
        let counted : IsBatchAt text (length batches) next ops = subst (λ (n : ℕ). IsBatchAt text n next ops) going.counted there in
        starts_more expected text batches ops (going.starts text tells) (subst (λ (n : ℕ). IsBatchAt text (length batches) n ops) going.next_is counted);
  })

  pub going_view : Stays start.viewed new.viewed
  going_view = stays_trans start.viewed now.viewed new.viewed going.view stays

  pub going_rose : Rose now.viewed.faults new.viewed.faults → Rose start.viewed.faults new.viewed.faults
  going_rose rose = omega (arith, rose, going.view.faults)

  pub going_over : (torn : Option ℕ) → ((text : List ℕ) → Tells now.viewed text → IsNext text now.given next (Over torn)) → (text : List ℕ) → Tells start.viewed text → IsReading expected text batches (At_end (open_end torn))
  going_over torn at text tells = ends_read expected text batches torn (going.starts text tells) (subst (λ (n : ℕ). EndsBehind text n (open_end torn)) going.counted (at text (tells_still start.viewed now.viewed text going.view tells)))

  pub going_lost : (w : WalWhy) → ((text : List ℕ) → Tells now.viewed text → IsLost text now.given next w) → (text : List ℕ) → Tells start.viewed text → IsTrouble expected text w
  going_lost w at text tells =
      lost_read expected text batches w (going.starts text tells)
      (subst (λ (n : ℕ). IsLost text (length batches) n w) going.next_is (subst (λ (n : ℕ). IsLost text n next w) going.counted (at text (tells_still start.viewed now.viewed text going.view tells))))

-- a record that is no batch
pub is_none : (text : List ℕ) (place : ℕ) → IsBad text (BadBatch place) → ¬ IsSomeBatch text
unfolding IsBad
is_none text place bad = bad.none
