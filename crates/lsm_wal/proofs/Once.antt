-- A log's text reads in one way.
use Rattle.std.specs.Prelude.{◌≡◌, ℕ, zero, suc, ◌+◌, ◌<◌, ◌≤◌, List, [], ◌∷◌, length, take, map, All, slice_get, Some}
use Rattle.std.proofs.Common.{⊎_elim, refl, sym, ap, subst, ◌∙◌, arith}
use Rattle.std.proofs.lemmas.Bool.{cases_lt}
use Rattle.std.proofs.lemmas.List.{take_all, length-take, length-map}
use Rattle.std.proofs.lemmas.List.Elements.{All-head, All-tail}
use Rattle.lsm_rows.specs.declared.operations.Op.{Op}
use Rattle.lsm_rows.specs.Decoding.{IsBatchText}
use Rattle.lsm_rows.specs.Replay.{sequence_after}
use Rattle.lsm_rows.proofs.ReadBatch.{batch_once}
use Rattle.lsm_frame.specs.declared.ending.Ending.{Ending}
use Rattle.lsm_frame.specs.Records.{records_of, front}
use Rattle.lsm_frame.specs.Reader.{EndsBehind}
use Rattle.lsm_wal.specs.Batches.{Logged, text_of, IsLogged, in_sequence}
use Rattle.lsm_wal.proofs.Texts.{sequence_length}
use Rattle.lsm_wal.specs.Reading.{Stop, At_end, At_no_batch, At_gap, StopsAt, IsReading}
use Rattle.std.proofs.lemmas.Option.{same_Some}

-- texts begin with those of these batches, whose sequences follow one another
pub record Starts (expected : ℕ) (texts : List (List ℕ)) (batches : List (List Op)) : Type 0 where
  pub are : take (length batches) texts ≡ map text_of (in_sequence expected batches)
  pub each : All IsLogged (in_sequence expected batches)

pub head_of : {A : Type 0} (x y : A) (xs ys : List A) → x ∷ xs ≡ y ∷ ys → x ≡ y
head_of x y xs ys e = cc

pub tail_of : {A : Type 0} (x y : A) (xs ys : List A) → x ∷ xs ≡ y ∷ ys → xs ≡ ys
tail_of x y xs ys e = cc

no_texts : {A : Type 0} (n : ℕ) (x : A) (xs : List A) → take (suc n) [] ≡ x ∷ xs → ⊥
no_texts n x xs e = cc

module _ (expected : ℕ) (ops : List Op) (more : List (List Op)) where
  first_text : (texts : List (List ℕ)) → Starts expected texts (ops ∷ more) → (text : List ℕ) × (rest : List (List ℕ)) × (texts ≡ text ∷ rest) × IsBatchText text expected ops × Starts (expected + length ops) rest more
  first_text [] starts = absurd (no_texts (length more) (text_of (record { first = expected; ops = ops })) (map text_of (in_sequence (expected + length ops) more)) starts.are)
  first_text (text ∷ rest) starts =
      let batch : Logged = record { first = expected; ops = ops } in
      let is : text ≡ text_of batch = head_of text (text_of batch) (take (length more) rest) (map text_of (in_sequence (expected + length ops) more)) starts.are in
      let logged : IsLogged batch = All-head IsLogged batch (in_sequence (expected + length ops) more) starts.each in (
        text,
        rest,
        refl,
        subst (λ (t : List ℕ). IsBatchText t expected ops) (sym is) logged,
        record {
          are = tail_of text (text_of batch) (take (length more) rest) (map text_of (in_sequence (expected + length ops) more)) starts.are;
          each = All-tail IsLogged batch (in_sequence (expected + length ops) more) starts.each;
        },
      )

-- of two that begin one list of texts, the shorter begins the longer
shorter_begins : (expected : ℕ) (texts : List (List ℕ)) (a b : List (List Op)) → Starts expected texts a → Starts expected texts b → length a ≤ length b → take (length a) b ≡ a
shorter_begins expected texts [] b short long le = refl
shorter_begins expected texts (x ∷ a) [] short long le = absurd (omega (arith, le))
shorter_begins expected texts (x ∷ a) (y ∷ b) short long le =
    let one = first_text expected x a texts short in
    let two = first_text expected y b texts long in
    let both : one.0 ∷ one.1 ≡ two.0 ∷ two.1 = sym one.2 ∙ two.2 in
    let text : one.0 ≡ two.0 = head_of one.0 two.0 one.1 two.1 both in
    let rest : one.1 ≡ two.1 = tail_of one.0 two.0 one.1 two.1 both in
    let same : x ≡ y = (batch_once two.0 expected expected x y (subst (λ (t : List ℕ). IsBatchText t expected x) text one.3) two.3).1 in
    let moved : Starts (expected + length y) two.1 a = subst (λ (o : List Op). Starts (expected + length o) two.1 a) same (subst (λ (ts : List (List ℕ)). Starts (expected + length x) ts a) rest one.4) in
    (λ i. sym same i ∷ shorter_begins (expected + length y) two.1 a b moved two.4 (omega (arith, le)) i)

-- the text behind the first so many is that of the batch there, whose first sequence is the next
text_behind : (expected : ℕ) (texts : List (List ℕ)) (a b : List (List Op)) (payload : List ℕ) → take (length a) b ≡ a → Starts expected texts b → length a < length b → slice_get texts (length a) ≡ Some payload
    → (ops : List Op) × IsBatchText payload (sequence_after expected a) ops
text_behind expected texts [] [] payload is starts lt there = absurd (omega (arith, lt))
text_behind expected texts [] (y ∷ b) payload is starts lt there =
    let one = first_text expected y b texts starts in
    (y, subst (λ (t : List ℕ). IsBatchText t expected y) (same_Some one.0 payload (sym (ap (λ (ts : List (List ℕ)). slice_get ts 0) one.2) ∙ there)) one.3)
text_behind expected texts (x ∷ a) [] payload is starts lt there = absurd (omega (arith, lt))
text_behind expected texts (x ∷ a) (y ∷ b) payload is starts lt there =
    let one = first_text expected y b texts starts in
    let same : y ≡ x = head_of y x (take (length a) b) a is in
    text_behind (expected + length x) one.1 a b payload (tail_of y x (take (length a) b) a is) (subst (λ (o : List Op). Starts (expected + length o) one.1 b) same one.4) (omega (arith, lt))
    (sym (ap (λ (ts : List (List ℕ)). slice_get ts (suc (length a))) one.2) ∙ there)

-- ---- what stops a reading

pub slice_map : (records : List (ℕ × List ℕ)) (n place : ℕ) (payload : List ℕ) → slice_get records n ≡ Some (place, payload) → slice_get (map (λ (r : ℕ × List ℕ). r.1) records) n ≡ Some payload
slice_map [] n place payload is = cc
slice_map (r ∷ records) zero place payload is = ap (λ (x : ℕ × List ℕ). Some x.1) (same_Some r (place, payload) is)
slice_map (r ∷ records) (suc n) place payload is = slice_map records n place payload is

slice_inside : (records : List (ℕ × List ℕ)) (n : ℕ) (r : ℕ × List ℕ) → slice_get records n ≡ Some r → n < length records
slice_inside [] n r is = cc
slice_inside (x ∷ records) zero r is = omega arith
slice_inside (x ∷ records) (suc n) r is = omega (arith, slice_inside records n r is)

pub taken_few : {A : Type 0} (n : ℕ) (xs : List A) → length (take n xs) ≤ length xs
taken_few n xs = omega (arith, length-take n xs)

module _ (expected : ℕ) (text : List ℕ) where
  starts : (batches : List (List Op)) (stop : Stop) → IsReading expected text batches stop → Starts expected (front text) batches
  starts batches stop r = record { are = r.texts; each = r.each }

  -- a list of batches that begins the text is no longer than the number of records
  within : (batches : List (List Op)) → Starts expected (front text) batches → length batches ≤ length (records_of text).0
  within batches s = omega (arith, ap length s.are, length-map (in_sequence expected batches) text_of, sequence_length expected batches, taken_few (length batches) (front text), length-map (records_of text).0 (λ (r : ℕ × List ℕ). r.1))

  -- so nothing reads on behind what stops it
  no_longer : (a b : List (List Op)) (stop : Stop) → IsReading expected text a stop → Starts expected (front text) b → length a < length b → ⊥
  no_longer a b (At_end ending) r s lt = omega (arith, r.stops.records, within b s, lt)
  no_longer a b (At_no_batch place) r s lt =
      let begins = shorter_begins expected (front text) a b (record { are = r.texts; each = r.each }) s (omega (arith, lt)) in
      let is = text_behind expected (front text) a b r.stops.payload begins s lt (slice_map (records_of text).0 (length a) place r.stops.payload r.stops.stands) in
      r.stops.none (record { first = sequence_after expected a; ops = is.0; text_is = is.1 })
  no_longer a b (At_gap found) r s lt =
      let begins = shorter_begins expected (front text) a b (record { are = r.texts; each = r.each }) s (omega (arith, lt)) in
      let is = text_behind expected (front text) a b r.stops.payload begins s lt (slice_map (records_of text).0 (length a) r.stops.place r.stops.payload r.stops.stands) in
      r.stops.other (batch_once r.stops.payload found (sequence_after expected a) r.stops.ops is.0 r.stops.batch is.1).0

  same_batches : (a b : List (List Op)) (stop end : Stop) → IsReading expected text a stop → IsReading expected text b end → a ≡ b
  same_batches a b stop end r s =
      let many : length a ≡ length b = ⊎_elim (λ lt. absurd (no_longer a b stop r (starts b end s) lt)) (λ ge. ⊎_elim (λ lt. absurd (no_longer b a end s (starts a stop r) lt)) (λ le. omega (arith, ge, le)) (cases_lt (length b) (length a))) (cases_lt (length a) (length b)) in
      let begins = shorter_begins expected (front text) a b (starts a stop r) (starts b end s) (omega (arith, many)) in
      sym begins ∙ take_all (length a) b (omega (arith, many))

  record_once : (n place other : ℕ) (payload also : List ℕ) → slice_get (records_of text).0 n ≡ Some (place, payload) → slice_get (records_of text).0 n ≡ Some (other, also) → ◌≡◌ {A = ℕ × List ℕ} (place, payload) (other, also)
  record_once n place other payload also one two = same_Some (place, payload) (other, also) (sym one ∙ two)

  not_ended : (a : List (List Op)) (ending : Ending) (place : ℕ) (payload : List ℕ) → EndsBehind text (length a) ending → slice_get (records_of text).0 (length a) ≡ Some (place, payload) → ⊥
  not_ended a ending place payload ends stands = omega (arith, ends.records, slice_inside (records_of text).0 (length a) (place, payload) stands)

  same_stop : (a : List (List Op)) (stop end : Stop) → StopsAt expected text a stop → StopsAt expected text a end → stop ≡ end
  same_stop a (At_end one) (At_end two) r s = ap At_end (sym r.end ∙ s.end)
  same_stop a (At_end one) (At_no_batch place) r s = absurd (not_ended a one place s.payload r s.stands)
  same_stop a (At_end one) (At_gap found) r s = absurd (not_ended a one s.place s.payload r s.stands)
  same_stop a (At_no_batch place) (At_end two) r s = absurd (not_ended a two place r.payload s r.stands)
  same_stop a (At_no_batch place) (At_no_batch other) r s = ap At_no_batch (ap (λ (x : ℕ × List ℕ). x.0) (record_once (length a) place other r.payload s.payload r.stands s.stands))
  same_stop a (At_no_batch place) (At_gap found) r s = absurd (r.none (record { first = found; ops = s.ops; text_is = subst (λ (t : List ℕ). IsBatchText t found s.ops) (sym (ap (λ (x : ℕ × List ℕ). x.1) (record_once (length a) place s.place r.payload s.payload r.stands s.stands))) s.batch }))
  same_stop a (At_gap found) (At_end two) r s = absurd (not_ended a two r.place r.payload s r.stands)
  same_stop a (At_gap found) (At_no_batch other) r s = absurd (s.none (record { first = found; ops = r.ops; text_is = subst (λ (t : List ℕ). IsBatchText t found r.ops) (ap (λ (x : ℕ × List ℕ). x.1) (record_once (length a) r.place other r.payload s.payload r.stands s.stands)) r.batch }))
  same_stop a (At_gap found) (At_gap others) r s = ap At_gap (batch_once s.payload found others r.ops s.ops (subst (λ (t : List ℕ). IsBatchText t found r.ops) (ap (λ (x : ℕ × List ℕ). x.1) (record_once (length a) r.place s.place r.payload s.payload r.stands s.stands)) r.batch) s.batch).0

pub read_once : (expected : ℕ) (text : List ℕ) (batches others : List (List Op)) (stop end : Stop) → IsReading expected text batches stop → IsReading expected text others end → (batches ≡ others) × (stop ≡ end)
read_once expected text batches others stop end r s =
    let same : batches ≡ others = same_batches expected text batches others stop end r s in
    (same, same_stop expected text others stop end (subst (λ (b : List (List Op)). StopsAt expected text b stop) same r.stops) s.stops)
