-- How a log was read tells what its text says, and what its batches are behind the ones before it.
use Rattle.std.specs.Prelude.{◌≡◌, ◌≢◌, ℕ, zero, suc, ◌+◌, Bool, false, cond, ◌==◌, List, [], ◌∷◌, ◌++◌, length, take, drop, map, All, Option, Some, slice_get, Result, Ok, Err}
use Rattle.std.proofs.Common.{refl, ap, ◌∙◌, arith}
use Rattle.std.proofs.lemmas.Bool.Decides.{nat_tests}
use Rattle.std.proofs.lemmas.List.{append-nil}
use Rattle.std.proofs.lemmas.List.Elements.{All-head, All-tail}
use Rattle.lsm_names.specs.declared.file_names.FileName.{FileName}
use Rattle.lsm_names.specs.declared.file_names.FileName.TheVariants.{Log}
use Rattle.lsm_rows.specs.declared.operations.Op.{Op}
use Rattle.lsm_rows.specs.Replay.{sequence_after}
use Rattle.lsm_frame.specs.Records.{records_of}
use Rattle.lsm_frame.specs.declared.ending.Ending.{Ending}
use Rattle.lsm_frame.specs.declared.ending.Ending.TheVariants as ending
use Rattle.lsm_wal.specs.Batches.{Logged, text_of, IsLogged, in_sequence}
use Rattle.lsm_wal.specs.Reading.{Stop, At_end, At_no_batch, At_gap, IsReading}
use Rattle.lsm_wal.proofs.Texts.{sequence_length}
use Rattle.lsm_folder.specs.declared.refusals.Refusal.{Refusal}
use Rattle.lsm_folder.specs.declared.refusals.Refusal.TheVariants.{Gap}
use Rattle.lsm_folder.specs.Batches.{batch_of}
use Rattle.lsm_folder.specs.Steps.{◌>>=◌}
use Rattle.lsm_folder.specs.Logs.{LogText, with_batch, batches_in, log_of, follow_on, not_torn, batches_of, outcome}
use Rattle.lsm_folder.proofs.BatchLemmas.{batch_found, batch_none}
use Rattle.std.proofs.lemmas.Option.{same_Some}
use Rattle.lsm_disk.proofs.Paths.{itself}
use Rattle.lsm_wal.proofs.Once.{head_of, tail_of}

-- ---- what a text says

-- batches before what else a text says
abbrev pub behind : List Logged → LogText → LogText
behind logged rest = record { batches = logged ++ rest.batches; ends = rest.ends }

abbrev payload : ℕ × List ℕ → List ℕ
payload r = r.1

-- records that begin with these batches
leads : (rs : List (ℕ × List ℕ)) (end : Ending) (logged : List Logged)
    → take (length logged) (map payload rs) ≡ map text_of logged → All IsLogged logged
    → batches_in rs end ≡ behind logged (batches_in (drop (length logged) rs) end)
leads rs end [] is each = refl
leads [] end (batch ∷ logged) is each = absurd (no_texts (text_of batch) (map text_of logged) is) where
  no_texts : (x : List ℕ) (xs : List (List ℕ)) → [] ≡ x ∷ xs → ⊥
  no_texts x xs e = cc
leads (r ∷ rs) end (batch ∷ logged) is each =
    let texts = take (length logged) (map payload rs) in
    let first : r.1 ≡ text_of batch = head_of r.1 (text_of batch) texts (map text_of logged) is in
    ap (λ (o : Option Logged). with_batch r.0 o (batches_in rs end))
    (ap batch_of first ∙ batch_found (text_of batch) batch.first batch.ops (All-head IsLogged batch logged each))
    ∙ ap (λ (rest : LogText). with_batch r.0 (Some batch) rest)
    (leads rs end logged (tail_of r.1 (text_of batch) texts (map text_of logged) is) (All-tail IsLogged batch logged each))

pub drop_all : {A : Type 0} (xs : List A) (n : ℕ) → length xs ≡ n → drop n xs ≡ []
drop_all [] zero is = refl
drop_all [] (suc n) is = absurd (omega (arith, is))
drop_all (x ∷ xs) zero is = absurd (omega (arith, is))
drop_all (x ∷ xs) (suc n) is = drop_all xs n (omega (arith, is))

pub drop_at : {A : Type 0} (xs : List A) (n : ℕ) (x : A) → slice_get xs n ≡ Some x → drop n xs ≡ x ∷ drop (suc n) xs
drop_at [] n x is = cc
drop_at (y ∷ xs) zero x is = ap (λ z. z ∷ xs) (same_Some y x is)
drop_at (y ∷ xs) (suc n) x is = drop_at xs n x is

module _ (expected : ℕ) (text : List ℕ) (batches : List (List Op)) where
  abbrev logged : List Logged
  logged = in_sequence expected batches

  abbrev rest_of : List (ℕ × List ℕ)
  rest_of = drop (length batches) (records_of text).0

  -- the text says the batches that were read, and then what stands behind them
  said : (stop : Stop) → IsReading expected text batches stop
      → log_of text ≡ behind logged (batches_in rest_of (records_of text).1)
  unfolding log_of
  said stop r =
      let many = sequence_length expected batches in
      leads (records_of text).0 (records_of text).1 logged
      (ap (λ (n : ℕ). take n (map payload (records_of text).0)) many ∙ r.texts) r.each
      ∙ ap (λ (n : ℕ). behind logged (batches_in (drop n (records_of text).0) (records_of text).1)) many

  said_end : (ends : Ending) → IsReading expected text batches (At_end ends)
      → log_of text ≡ record { batches = logged; ends = ends }
  said_end ends r =
      said (At_end ends) r
      ∙ ap (λ (rs : List (ℕ × List ℕ)). behind logged (batches_in rs (records_of text).1))
      (drop_all (records_of text).0 (length batches) r.stops.records)
      ∙ ap (λ (bs : List Logged). record { batches = bs; ends = (records_of text).1 }) (append-nil logged)
      ∙ ap (λ (e : Ending). record { batches = logged; ends = e }) r.stops.end

  said_none : (place : ℕ) → IsReading expected text batches (At_no_batch place)
      → log_of text ≡ record { batches = logged; ends = ending.Malformed place }
  said_none place r =
      let there = drop_at (records_of text).0 (length batches) (place, r.stops.payload) r.stops.stands in
      said (At_no_batch place) r
      ∙ ap (λ (rs : List (ℕ × List ℕ)). behind logged (batches_in rs (records_of text).1)) there
      ∙ ap (λ (o : Option Logged). behind logged (with_batch place o (batches_in (drop (suc (length batches)) (records_of text).0) (records_of text).1))) (batch_none r.stops.payload r.stops.none)
      ∙ ap (λ (bs : List Logged). record { batches = bs; ends = ending.Malformed place }) (append-nil logged)

  said_gap : (found : ℕ) (r : IsReading expected text batches (At_gap found)) → log_of text ≡
      behind logged (with_batch r.stops.place (Some (record { first = found; ops = r.stops.ops })) (batches_in (drop (suc (length batches)) (records_of text).0) (records_of text).1))
  said_gap found r =
      let there = drop_at (records_of text).0 (length batches) (r.stops.place, r.stops.payload) r.stops.stands in
      said (At_gap found) r
      ∙ ap (λ (rs : List (ℕ × List ℕ)). behind logged (batches_in rs (records_of text).1)) there
      ∙ ap (λ (o : Option Logged). behind logged (with_batch r.stops.place o (batches_in (drop (suc (length batches)) (records_of text).0) (records_of text).1))) (batch_found r.stops.payload found r.stops.ops r.stops.batch)

-- ---- whether the batches follow on

other_number : (m n : ℕ) → m ≢ n → (m == n) ≡ false
other_number m n ne = grind (arith, nat_tests)

abbrev next_batch : List Op → Result (List (List Op)) Refusal → Result (List (List Op)) Refusal
next_batch ops rest = rest >>= λ (more : List (List Op)). Ok (ops ∷ more)

follows : (name : FileName) (expected : ℕ) (batches : List (List Op))
    → follow_on name expected (in_sequence expected batches) ≡ Ok batches
follows name expected [] = refl
follows name expected (ops ∷ batches) =
    let rest = follow_on name (expected + length ops) (in_sequence (expected + length ops) batches) in
    ap (λ (b : Bool). cond b (next_batch ops rest) (Err (Gap name expected expected))) (itself expected)
    ∙ ap (next_batch ops) (follows name (expected + length ops) batches)

gapped : (name : FileName) (expected : ℕ) (batches : List (List Op)) (next : Logged) (more : List Logged)
    → next.first ≢ sequence_after expected batches
    → follow_on name expected (in_sequence expected batches ++ next ∷ more) ≡ Err
    (Gap name (sequence_after expected batches) next.first)
gapped name expected [] next more ne =
    ap (λ (b : Bool). cond b (next_batch next.ops (follow_on name (expected + length next.ops) more)) (Err (Gap name expected next.first))) (other_number next.first expected ne)
gapped name expected (ops ∷ batches) next more ne =
    let rest = follow_on name (expected + length ops) (in_sequence (expected + length ops) batches ++ next ∷ more) in
    ap (λ (b : Bool). cond b (next_batch ops rest) (Err (Gap name expected expected))) (itself expected)
    ∙ ap (next_batch ops) (gapped name (expected + length ops) batches next more ne)

-- ---- what becomes of the log

module _ (is_last : Bool) (number : ℕ) where
  -- what its batches are, by how it was read
  pub read_log : (expected : ℕ) (text : List ℕ) (batches : List (List Op)) (stop : Stop) → IsReading expected text batches stop
      → batches_of is_last expected number (log_of text) ≡ outcome is_last (Log number) expected batches stop
  unfolding batches_of
  read_log expected text batches (At_end ends) r =
      ap (batches_of is_last expected number) (said_end expected text batches ends r)
      ∙ ap (λ (o : Result (List (List Op)) Refusal). o >>= not_torn is_last (Log number) ends)
      (follows (Log number) expected batches)
  read_log expected text batches (At_no_batch place) r =
      ap (batches_of is_last expected number) (said_none expected text batches place r)
      ∙ ap (λ (o : Result (List (List Op)) Refusal). o >>= not_torn is_last (Log number) (ending.Malformed place))
      (follows (Log number) expected batches)
  read_log expected text batches (At_gap found) r =
      let next : Logged = record { first = found; ops = r.stops.ops } in
      let rest = batches_in (drop (suc (length batches)) (records_of text).0) (records_of text).1 in
      ap (batches_of is_last expected number) (said_gap expected text batches found r)
      ∙ ap (λ (o : Result (List (List Op)) Refusal). o >>= not_torn is_last (Log number) rest.ends)
      (gapped (Log number) expected batches next rest.batches r.stops.other)
