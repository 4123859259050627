-- The commits of lanes.
use Rattle.std.specs.Prelude.{◌≡◌, ℕ, Bool, true, false, ◌==◌, cond, List, [], ◌∷◌, ◌++◌, map, Option, Ok}
use Rattle.std.proofs.Common.{refl, sym, ap, subst, ◌∙◌, append_assoc}
use Rattle.std.proofs.lemmas.List.{map-append}
use Rattle.std.proofs.lemmas.List.Elements.{filter-append}
use Rattle.lsm_rows.specs.declared.operations.Op.{Op}
use Rattle.std.specs.FinMap as finite
use Rattle.lsm_rows.specs.Replay.{replayed}
use Rattle.lsm_model.specs.declared.events.Event.TheVariants as event
use Rattle.lsm_model.specs.declared.replies.Reply.TheVariants as reply
use Rattle.lsm_model.specs.declared.states.State.{State}
use Rattle.lsm_model.specs.declared.lane_laws.Entry.{Entry}
use Rattle.lsm_model.specs.Steps.{Made, Asked, Run}
use Rattle.lsm_model.specs.Runs.{added_by, accepted_in}
use Rattle.lsm_model.specs.Lanes.{steps_of, own_entries, commits_of, own_commits, batches_of}
use Rattle.lsm_model.proofs.Histories.{run_accepted}
use Rattle.lsm_model.proofs.RunLemmas.{get_shows}

-- a lane's batches
abbrev of_lane : ℕ → List (List Op) → List (ℕ × List Op)
of_lane lane batches = map (λ (ops : List Op). (lane, ops)) batches

tagged : (lane : ℕ) (batches : List (List Op)) → batches_of (of_lane lane batches) ≡ batches
tagged lane [] = refl
tagged lane (ops ∷ batches) = ap (λ (l : List (List Op)). ops ∷ l) (tagged lane batches)

pub commits_accepted : (entries : List Entry) → batches_of (commits_of entries) ≡ accepted_in (steps_of entries)
commits_accepted [] = refl
commits_accepted (entry ∷ entries) =
    map-append (λ (commit : ℕ × List Op). commit.1) (of_lane entry.lane (added_by entry.event entry.reply)) (commits_of entries)
    ∙ ap (λ (l : List (List Op)). l ++ batches_of (commits_of entries)) (tagged entry.lane (added_by entry.event entry.reply))
    ∙ ap (λ (l : List (List Op)). added_by entry.event entry.reply ++ l) (commits_accepted entries)

pub run_commits : (s t : State) (entries : List Entry) → Run s (steps_of entries) t → t.accepted ≡ s.accepted ++ batches_of (commits_of entries)
run_commits s t entries run = run_accepted s t (steps_of entries) run ∙ ap (λ (l : List (List Op)). s.accepted ++ l) (sym (commits_accepted entries))

-- batches of a lane are all its own, and none of another one's
all_own : (lane of : ℕ) (batches : List (List Op)) (b : Bool) → (of == lane) ≡ b
    → own_commits lane (of_lane of batches) ≡ cond b (of_lane of batches) []
all_own lane of [] true test = refl
all_own lane of [] false test = refl
all_own lane of (ops ∷ batches) true test =
    ap (λ (b : Bool). cond b ((of, ops) ∷ own_commits lane (of_lane of batches)) (own_commits lane (of_lane of batches))) test
    ∙ ap (λ (l : List (ℕ × List Op)). (of, ops) ∷ l) (all_own lane of batches true test)
all_own lane of (ops ∷ batches) false test =
    ap (λ (b : Bool). cond b ((of, ops) ∷ own_commits lane (of_lane of batches)) (own_commits lane (of_lane of batches))) test
    ∙ all_own lane of batches false test

-- an entry's commits in front of those of the lane's other ones
front : (lane : ℕ) (entry : Entry) (entries : List Entry) (b : Bool)
    → cond b (of_lane entry.lane (added_by entry.event entry.reply)) [] ++ commits_of (own_entries lane entries)
    ≡ commits_of (cond b (entry ∷ own_entries lane entries) (own_entries lane entries))
front lane entry entries true = refl
front lane entry entries false = refl

pub own_in_order : (lane : ℕ) (entries : List Entry) → own_commits lane (commits_of entries) ≡ commits_of (own_entries lane entries)
own_in_order lane [] = refl
own_in_order lane (entry ∷ entries) =
    filter-append (λ (commit : ℕ × List Op). commit.0 == lane) (of_lane entry.lane (added_by entry.event entry.reply)) (commits_of entries)
    ∙ ap (λ (l : List (ℕ × List Op)). own_commits lane (of_lane entry.lane (added_by entry.event entry.reply)) ++ l) (own_in_order lane entries)
    ∙ ap (λ (l : List (ℕ × List Op)). l ++ commits_of (own_entries lane entries)) (all_own lane entry.lane (added_by entry.event entry.reply) (entry.lane == lane) refl)
    ∙ front lane entry entries (entry.lane == lane)

commits_append : (xs ys : List Entry) → commits_of (xs ++ ys) ≡ commits_of xs ++ commits_of ys
commits_append [] ys = refl
commits_append (x ∷ xs) ys =
    ap (λ (l : List (ℕ × List Op)). of_lane x.lane (added_by x.event x.reply) ++ l) (commits_append xs ys)
    ∙ sym (append_assoc (of_lane x.lane (added_by x.event x.reply)) (commits_of xs) (commits_of ys))

-- an entry's batch stands behind those of all entries before it
pub commit_behind : (seen after : List Entry) (entry : Entry) (ops : List Op) → added_by entry.event entry.reply ≡ ops ∷ []
    → commits_of (seen ++ entry ∷ after) ≡ commits_of seen ++ (entry.lane, ops) ∷ commits_of after
commit_behind seen after entry ops adds =
    commits_append seen (entry ∷ after) ∙ ap (λ (l : List (List Op)). commits_of seen ++ (of_lane entry.lane l ++ commits_of after)) adds

-- the steps of entries at one of them
steps_at : (seen after : List Entry) (entry : Entry) → steps_of (seen ++ entry ∷ after) ≡ steps_of seen ++ (Asked entry.event entry.reply) ∷ steps_of after
steps_at seen after entry = map-append (λ (e : Entry). Asked e.event e.reply) seen (entry ∷ after)

-- a lane's get shows the commits before it
pub get_shows_commits : (s t : State) (seen after : List Entry) (entry : Entry) (key : List ℕ) (value : Option (List ℕ)) → Run s (steps_of (seen ++ entry ∷ after)) t
    → entry.event ≡ event.Get key → entry.reply ≡ reply.Get (Ok value) → value ≡ finite.get (replayed s.opening (s.accepted ++ batches_of (commits_of seen))) key
get_shows_commits s t seen after entry key value run asks answers =
    let at : steps_of (seen ++ entry ∷ after) ≡ steps_of seen ++ (Asked (event.Get key) (reply.Get (Ok value))) ∷ steps_of after =
    steps_at seen after entry ∙ (λ i. steps_of seen ++ (Asked (asks i) (answers i)) ∷ steps_of after) in
    get_shows s t (steps_of seen) (steps_of after) key value (subst (λ (steps : List Made). Run s steps t) at run)
    ∙ ap (λ (batches : List (List Op)). finite.get (replayed s.opening (s.accepted ++ batches)) key) (sym (commits_accepted seen))
