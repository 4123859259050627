-- The last log of a good store that runs: its file, and why its sync is refused.
use Rattle.std.specs.Prelude.{◌≡◌, ◌⊎◌, ℕ, List, [], ◌∷◌, ◌++◌, Option, None, Err, IfSome}
use Rattle.std.proofs.Common.{⊎_elim, inl, inr, sym, ap, subst, ◌∙◌}
use Rattle.lsm_names.specs.declared.file_names.FileName.TheVariants.{Log}
use Rattle.lsm_disk.specs.State.{Story, state_of, file_synced}
use Rattle.lsm_disk.specs.Refusals.{no_file}
use Rattle.lsm_disk.specs.Dest.{path_in}
use Rattle.lsm_disk.specs.Answers.{Makes, Allowed, Answers, AnswersBy, RefusesBy}
use Rattle.lsm_disk.specs.declared.calls.DiskError.{DiskError}
use Rattle.lsm_wal.proofs.Changed.{there}
use Rattle.lsm_model.specs.declared.states.State.{State}
use Rattle.lsm_refine.specs.Parts.{Parts, numbers_of}
use Rattle.lsm_refine.specs.Good.{IsRunning, Good}
use Rattle.lsm_refine.specs.Beside.{last_path, last_batches}
use Rattle.lsm_refine.proofs.LastLogLemmas.{numbers_push}
use Rattle.lsm_refine.proofs.WritingLemmas.{last_byte, last_byte-append}
use Rattle.lsm_store.specs.Inside.{Inner, IsInside, older_logs, shown_of}

last_same : (front others : List ℕ) (a b : ℕ) → front ++ a ∷ [] ≡ others ++ b ∷ [] → a ≡ b
last_same front others a b same = sym (last_byte-append front a []) ∙ ap last_byte same ∙ last_byte-append others b []

-- the last of the live logs is the last part's
last_log : (parts : Parts) (front : List ℕ) (log : ℕ) → front ++ log ∷ [] ≡ numbers_of (parts.older ++ parts.last ∷ [])
    → log ≡ parts.last.number
last_log parts front log are =
    last_same front (numbers_of parts.older) log parts.last.number (are ∙ numbers_push parts.older parts.last)

-- what a sync that failed left
pub left_by : (old new : Option Story) (path : List ℕ) → (new ≡ old)
    ⊎ (Allowed (no_file path) old × Makes old (file_synced path) new)
    → (new ≡ old) ⊎ Makes old (file_synced path) new
left_by old new path left = ⊎_elim (λ same. inl same) (λ made. inr made.1) left

module _ (x : Inner) (inside : IsInside x) (s : State) (good : Good (shown_of x) s)
    (run : IsRunning (state_of good.story) (shown_of x) s) where
  pub log_here : x.wal.path ≡ last_path x.home run.parts
  log_here = inside.path_is ∙ ap (λ (n : ℕ). path_in x.home (Log n))
      (last_log run.parts (older_logs x.older) x.log run.sane.logs.numbers)

  -- the log's file is there
  pub log_there : no_file x.wal.path (state_of good.story) ≡ None
  log_there = subst (λ (p : List ℕ). no_file p (state_of good.story) ≡ None) (sym log_here)
      (there (state_of good.story) (last_path x.home run.parts) (last_batches run.parts) run.parts.synced run.sane.logs.last)

  -- so a fault alone refuses its sync, or want of memory
  pub sync_refused : (e : DiskError) → Answers {T = Unit {0}} (no_file x.wal.path) x.disk (Err e) → RefusesBy None e
  sync_refused e answers =
      subst (λ (o : Option DiskError). RefusesBy o e) log_there
      (subst (λ (told : Option Story). IfSome told
      (λ story. AnswersBy {T = Unit {0}} (no_file x.wal.path (state_of story)) (Err e)))
      good.told answers)
