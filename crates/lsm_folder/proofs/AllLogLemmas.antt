-- The logs that a folder has from a number on, and the batches that they read to.
use Rattle.std.specs.Prelude.{◌≡◌, ℕ, ◌≤◌, Bool, true, false, cond, ◌&&◌, ◌==◌, nat_le, List, [], ◌∷◌, ◌++◌, map, T, Option, Some, None, option_map, Result, Ok, Err}
use Rattle.std.proofs.Common.{refl, sym, ap, subst, ◌∙◌, arith}
use Rattle.std.proofs.lemmas.Bool.Decides.{nat_tests}
use Rattle.std.proofs.lemmas.List.{length-map}
use Rattle.std.specs.Ordering.{nat_cmp, eq_by_cmp, is_lt}
use Rattle.std.specs.Cmp.{nat_cmp_total}
use Rattle.std.specs.FinMap as finmap
use Rattle.std.specs.FinMap.Entries.{below_all, is_sorted}
use Rattle.lsm_names.specs.declared.file_names.FileName.{FileName}
use Rattle.lsm_names.specs.declared.file_names.FileName.TheVariants.{Log}
use Rattle.lsm_rows.specs.declared.operations.Op.{Op}
use Rattle.lsm_rows.specs.Replay.{sequence_after}
use Rattle.lsm_wal.specs.Reading.{At_end, open_end}
use Rattle.lsm_folder.specs.declared.refusals.Refusal.{Refusal}
use Rattle.lsm_folder.specs.declared.refusals.Refusal.TheVariants.{TornLog}
use Rattle.lsm_folder.specs.Files.{Files, file_at}
use Rattle.lsm_folder.specs.Steps.{◌>>=◌}
use Rattle.lsm_folder.specs.Logs.{LogText, log_of, said, logs_of, batches_of, all_batches, is_empty, outcome}
use Rattle.lsm_folder.proofs.LiveLemmas.{live_text, get_logs, same_entries}
use Rattle.lsm_folder.proofs.LogLemmas.{read_log}
use Rattle.lsm_folder.specs.Parts.{HasLogs, may_end, IsLog, AreLogs, all_of}

-- ---- entries with other values

module _ {X Y : Type 0} (value : ℕ × X → Y) where
  abbrev pub with_values : List (ℕ × X) → List (ℕ × Y)
  with_values es = map (λ (e : ℕ × X). (e.0, value e)) es

  below_same : (q : ℕ) (es : List (ℕ × X)) → below_all nat_cmp q (with_values es) ≡ below_all nat_cmp q es
  below_same q [] = refl
  below_same q (e ∷ es) = ap (λ (b : Bool). is_lt (nat_cmp q e.0) && b) (below_same q es)

  sorted_same : (es : List (ℕ × X)) → is_sorted nat_cmp (with_values es) ≡ is_sorted nat_cmp es
  sorted_same [] = refl
  sorted_same (e ∷ es) = λ i. below_same e.0 es i && sorted_same es i

  -- they stand in their order too
  pub values_kept : (m : finmap.FinMap nat_cmp X)
      → finmap.entries (finmap.from_entries {R = nat_cmp} (with_values (finmap.entries m))) ≡ with_values (finmap.entries m)
  values_kept m =
      same_entries nat_cmp nat_cmp_total (with_values (finmap.entries m))
      (subst T (sym (sorted_same (finmap.entries m))) (finmap.entries_sorted m)) finmap.nat_cmp-IsAntisymmetric

-- ---- which logs there are

found_by : (number : ℕ) (e : ℕ × List ℕ) (b : Bool) (found : Option LogText) (rest : Option (List ℕ))
    → found ≡ option_map log_of rest
    → cond b (Some (log_of e.1)) found ≡ option_map log_of (cond b (Some e.1) rest)
found_by number e true found rest is = refl
found_by number e false found rest is = is

find_said : (number : ℕ) (es : List (ℕ × List ℕ))
    → finmap.find nat_cmp number (map said es) ≡ option_map log_of (finmap.find nat_cmp number es)
find_said number [] = refl
find_said number (e ∷ es) =
    found_by number e (eq_by_cmp nat_cmp number e.0) (finmap.find nat_cmp number (map said es)) (finmap.find nat_cmp number es)
    (find_said number es)

module _ (files : Files) (least : ℕ) (logs : finmap.FinMap nat_cmp (List ℕ)) (has : HasLogs files least logs) where
  none_below : (number : ℕ) → nat_le least number ≡ false → (o : Option (List ℕ)) → finmap.get logs number ≡ o → o ≡ None
  none_below number low None is = refl
  none_below number low (Some bytes) is =
      let live : least ≤ number = has.live number bytes is in
      let clash : nat_le least number ≡ true = grind (arith, nat_tests) in
      absurd (cc)

  text_by : (number : ℕ) (b : Bool) → nat_le least number ≡ b → cond (nat_le least number) (option_map log_of (file_at files (Log number))) None ≡ option_map log_of (finmap.get logs number)
  text_by number true is =
      let live : least ≤ number = grind (arith, nat_tests) in
      ap (λ (b : Bool). cond b (option_map log_of (file_at files (Log number))) None) is
      ∙ ap (option_map log_of) (has.there number live)
  text_by number false is =
      ap (λ (b : Bool). cond b (option_map log_of (file_at files (Log number))) None) is
      ∙ ap (option_map log_of) (sym (none_below number is (finmap.get logs number) refl))

  text_at : (number : ℕ)
      → live_text least number (finmap.get files (Log number)) ≡ finmap.find nat_cmp number (map said (finmap.entries logs))
  unfolding live_text
  text_at number =
      text_by number (nat_le least number) refl
      ∙ ap (option_map log_of) (finmap.get-entries logs number)
      ∙ sym (find_said number (finmap.entries logs))

  -- what the folder's logs say is what these bytes say, by their numbers
  pub logs_kept : finmap.entries (logs_of least files) ≡ map said (finmap.entries logs)
  logs_kept =
      ap finmap.entries (finmap.same_map nat_cmp_total finmap.nat_cmp-IsAntisymmetric (logs_of least files) (finmap.from_entries (map said (finmap.entries logs)))
      (λ number. get_logs least number files ∙ text_at number ∙ sym (finmap.get-from_entries nat_cmp_total (map said (finmap.entries logs)) number)))
      ∙ values_kept (λ (log : ℕ × List ℕ). log_of log.1) logs

-- ---- their batches

ends_well : (is_last : Bool) (name : FileName) (expected : ℕ) (torn : Option ℕ) (batches : List (List Op))
    → may_end is_last torn ≡ true → outcome is_last name expected batches (At_end (open_end torn)) ≡ Ok batches
ends_well is_last name expected None batches may = refl
ends_well is_last name expected (Some place) batches may = ap (λ (b : Bool). cond b (Ok batches) (Err (TornLog name place))) may

same_end : (logs : List (ℕ × List ℕ)) → is_empty (map said logs) ≡ is_empty logs
same_end logs = ap (λ (n : ℕ). n == 0) (length-map logs said)

log_read : (is_last : Bool) (number expected : ℕ) (text : List ℕ) (batches : List (List Op))
    → IsLog is_last expected text batches → batches_of is_last expected number (log_of text) ≡ Ok batches
log_read is_last number expected text batches is =
    read_log is_last number expected text batches (At_end (open_end is.torn)) is.reading
    ∙ ends_well is_last (Log number) expected is.torn batches is.ends

pub logs_read : (expected : ℕ) (logs : List (ℕ × List ℕ)) (batches : List (List (List Op))) → AreLogs expected logs batches
    → all_batches expected (map said logs) ≡ Ok (all_of batches)
unfolding AreLogs
logs_read expected [] [] are = refl
logs_read expected [] (batches ∷ more) are = absurd are
logs_read expected (log ∷ logs) [] are = absurd are
logs_read expected (log ∷ logs) (batches ∷ more) are =
    ap (λ (b : Bool). batches_of b expected log.0 (log_of log.1) >>= λ (first : List (List Op)). all_batches (sequence_after expected first) (map said logs) >>= λ (rest : List (List Op)). Ok (first ++ rest)) (same_end logs)
    ∙ ap (λ (r : Result (List (List Op)) Refusal). r >>= λ (first : List (List Op)). all_batches (sequence_after expected first) (map said logs) >>= λ (rest : List (List Op)). Ok (first ++ rest)) (log_read (is_empty logs) log.0 expected log.1 batches are.0)
    ∙ ap (λ (r : Result (List (List Op)) Refusal). r >>= λ (rest : List (List Op)). Ok (batches ++ rest))
    (logs_read (sequence_after expected batches) logs more are.1)
