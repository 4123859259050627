-- Lanes: several callers of one store, whose calls are done one after another.
use Rattle.std.specs.Prelude.{ℕ, ◌==◌, List, [], ◌∷◌, ◌++◌, map, filter}
use Rattle.lsm_rows.specs.declared.operations.Op.{Op}
use Rattle.lsm_model.specs.declared.lane_laws.Entry.{Entry}
use Rattle.lsm_model.specs.Steps.{Made, Asked}
use Rattle.lsm_model.specs.Runs.{added_by}

-- the steps of entries
abbrev pub steps_of : List Entry → List Made
steps_of entries = map (λ (entry : Entry). Asked entry.event entry.reply) entries

-- a lane's own entries
abbrev pub own_entries : ℕ → List Entry → List Entry
own_entries lane entries = filter (λ (entry : Entry). entry.lane == lane) entries

-- each batch that the entries added, with the lane that wrote it
abbrev pub commits_of : List Entry → List (ℕ × List Op)
commits_of [] = []
commits_of (entry ∷ entries) = map (λ (ops : List Op). (entry.lane, ops)) (added_by entry.event entry.reply) ++ commits_of entries

-- a lane's own commits
abbrev pub own_commits : ℕ → List (ℕ × List Op) → List (ℕ × List Op)
own_commits lane commits = filter (λ (commit : ℕ × List Op). commit.0 == lane) commits

-- the batches of commits
abbrev pub batches_of : List (ℕ × List Op) → List (List Op)
batches_of commits = map (λ (commit : ℕ × List Op). commit.1) commits
