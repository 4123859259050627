-- The logs of a folder, one after another: their batches, and the rows of these.
use Rattle.std.specs.Prelude.{◌≡◌, ℕ, ◌+◌, ◌^◌, ◌<◌, Bool, List, [], ◌∷◌, ◌++◌, Result, Ok}
use Rattle.std.proofs.Common.{refl, sym, ap, ◌∙◌, arith, append_assoc, append-nil}
use Rattle.lsm_rows.specs.declared.operations.Op.{Op}
use Rattle.lsm_rows.specs.declared.rows.Row.{Row}
use Rattle.lsm_rows.specs.Replay.{sequence_after}
use Rattle.lsm_rows.specs.Rows.{rows_of}
use Rattle.lsm_rows.proofs.Replaying.{sequence_next, sequence_both}
use Rattle.lsm_folder.specs.declared.refusals.Refusal.{Refusal}
use Rattle.lsm_folder.specs.Steps.{◌>>=◌}
use Rattle.lsm_folder.specs.Logs.{LogText, batches_of, all_batches, is_empty, before_batches}
use Rattle.lsm_folder.proofs.ReadLogLemmas.{none_before, before_both}
use Rattle.lsm_recover.specs.declared.errors.FolderError.{FolderError}
use Rattle.lsm_recover.specs.Answers.{IsRefusedBy}
use Rattle.lsm_recover.specs.Logs.{Replays, IsReplayed}
use Rattle.lsm_recover.proofs.AnswerLemmas.{refused_too}
use Rattle.lsm_recover.proofs.RowLemmas.{rows_both}

pub replay_begun : (first : ℕ) (logs : List (ℕ × LogText)) (rows : List Row) → first < 2 ^ 56 → Replays first (all_batches (first + 1) logs) (λ (next : ℕ). all_batches next logs) rows rows first
replay_begun first logs rows small = record { more = []; is = none_before (all_batches (first + 1) logs); rows_are = sym (append-nil rows); last_is = refl; small = small }

pub replay_done : (first : ℕ) (whole : Result (List (List Op)) Refusal) (logs : List (ℕ × LogText)) (before now : List Row) (last : ℕ) → logs ≡ [] → Replays first whole (λ (next : ℕ). all_batches next logs) before now last
    → Replays first whole (λ (_ : ℕ). Ok []) before now last
replay_done first whole logs before now last none r = record {
  more = r.more;
  is = r.is ∙ ap (λ (l : List (ℕ × LogText)). before_batches r.more (all_batches (last + 1) l)) none;
  rows_are = r.rows_are;
  last_is = r.last_is;
  small = r.small;
}

module _ (first : ℕ) (whole : Result (List (List Op)) Refusal) (logs later : List (ℕ × LogText)) (n : ℕ) (text : LogText) (first_is : logs ≡ (n, text) ∷ later) (before now : List Row) (last : ℕ)
    (r : Replays first whole (λ (next : ℕ). all_batches next logs) before now last) (is_last : Bool) (alone : is_last ≡ is_empty later) where
  abbrev pub here : Result (List (List Op)) Refusal
  here = batches_of is_last (last + 1) n text

  behind : Result (List (List Op)) Refusal → Result (List (List Op)) Refusal
  behind x = x >>= λ (found : List (List Op)). all_batches (sequence_after (last + 1) found) later >>= λ (more : List (List Op)). Ok (found ++ more)

  all_is : whole ≡ before_batches r.more (behind here)
  unfolding behind
  all_is =
      r.is
      ∙ ap (λ (l : List (ℕ × LogText)). before_batches r.more (all_batches (last + 1) l)) first_is
      ∙ ap (λ (b : Bool). before_batches r.more (behind (batches_of b (last + 1) n text))) (sym alone)

  pub replay_refused : (error : FolderError) → IsRefusedBy here error → IsRefusedBy whole error
  unfolding behind
  replay_refused = refused_too here whole (λ refused is. all_is ∙ ap (λ (x : Result (List (List Op)) Refusal). before_batches r.more (behind x)) is)

  pub replay_more : (next : ℕ) (after : List Row) → IsReplayed here last now after next → Replays first whole (λ (k : ℕ). all_batches k later) before after next
  unfolding behind
  replay_more next after found = record {
    more = r.more ++ found.batches;
    is =
        all_is
        ∙ ap (λ (x : Result (List (List Op)) Refusal). before_batches r.more (behind x)) found.is
        ∙ ap (λ (k : ℕ). before_batches r.more (before_batches found.batches (all_batches k later))) (sym found.last_is)
        ∙ before_both r.more found.batches (all_batches (next + 1) later);
    rows_are =
        let next_is : last + 1 ≡ sequence_after (first + 1) r.more = omega (arith, r.last_is, sequence_next first r.more) in
        found.rows_are
        ∙ ap (λ (l : List Row). l ++ rows_of (last + 1) found.batches) r.rows_are
        ∙ append_assoc before (rows_of (first + 1) r.more) (rows_of (last + 1) found.batches)
        ∙ ap (λ (n : ℕ). before ++ (rows_of (first + 1) r.more ++ rows_of n found.batches)) next_is
        ∙ ap (λ (l : List Row). before ++ l) (sym (rows_both (first + 1) r.more found.batches));
    last_is =
        let step : next ≡ sequence_after last found.batches = omega (arith, found.last_is, sequence_next last found.batches) in
        step ∙ ap (λ (k : ℕ). sequence_after k found.batches) r.last_is ∙ sequence_both first r.more found.batches;
    small = found.small;
  }
