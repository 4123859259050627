-- The names that a record leads to, and those that a crash may leave.
use Rattle.std.specs.Prelude.{◌≡◌, ℕ, zero, suc, ◌+◌, ◌-◌, ◌<◌, Bool, true, false, get_or, List, [], ◌∷◌, ◌++◌, length, take, drop}
use Rattle.std.proofs.Common.{refl, sym, ap, subst, ◌∙◌, arith, append_assoc, length-append, take-append-drop}
use Rattle.std.proofs.lemmas.List.{append-nil, take_all, take-append-le}
use Rattle.lsm_disk.specs.Names.{NameOp, Put, File_node, Names, all_named}
use Rattle.lsm_disk.specs.State.{State, Change, Created, Named, Appended, Synced, Names_synced, Idle, after, after_all, names_now, new_file, longer, sure}
use Rattle.lsm_disk.proofs.Images.{all_push}
use Rattle.lsm_disk.proofs.Runs.{all_after}
use Rattle.lsm_disk.proofs.Tree.{length_in}
use Rattle.lsm_changes.specs.History.{idle, filled}
use Rattle.lsm_changes.specs.Replay.{names_after, files_after, replayed, syncs_names, changes, NotSync, Quiet}

-- the clock changes nothing
after_idle : (n : ℕ) (s : State) → after_all (idle n) s ≡ s
after_idle zero s = refl
after_idle (suc n) s = after_idle n s

pub after_filled : (from to : ℕ) (steps : List (ℕ × Change)) (s : State) → after_all (filled from steps to) s ≡ after_all (changes steps) s
after_filled from to [] s = after_idle (to - from) s
after_filled from to (x ∷ steps) s =
    all_after (idle (x.0 - from)) (x.1 ∷ filled (x.0 + 1) steps to) s
    ∙ ap (after_all (x.1 ∷ filled (x.0 + 1) steps to)) (after_idle (x.0 - from) s)
    ∙ after_filled (x.0 + 1) to steps (after s x.1)

-- one change
names_step : (c : Change) (s : State) → names_after c (length s.files) (names_now s) ≡ names_now (after s c)
names_step (Created path) s = sym (all_push s.pending (Put path (File_node (length s.files))) s.durable)
names_step (Named op) s = sym (all_push s.pending op s.durable)
names_step (Appended id bytes) s = refl
names_step (Synced id) s = refl
names_step Names_synced s = refl
names_step Idle s = refl

files_step : (c : Change) (s : State) → files_after c (length s.files) ≡ length (after s c).files
files_step (Created path) s = sym (length-append s.files (new_file ∷ []))
files_step (Named op) s = refl
files_step (Appended id bytes) s = sym (length_in (longer bytes) id s.files)
files_step (Synced id) s = sym (length_in sure id s.files)
files_step Names_synced s = refl
files_step Idle s = refl

-- all of them
pub replayed_is : (cs : List Change) (s : State) → replayed cs (length s.files) (names_now s) ≡ names_now (after_all cs s)
replayed_is [] s = refl
replayed_is (c ∷ cs) s = (λ i. replayed cs (files_step c s i) (names_step c s i)) ∙ replayed_is cs (after s c)

-- what quiet changes leave durable and pending
pub record Keeps (x s : State) : Type 0 where
  pub durable : s.durable ≡ x.durable
  pub more : List NameOp
  pub pending : s.pending ≡ x.pending ++ more

keeps_itself : (x : State) → Keeps x x
keeps_itself x = record { durable = refl; more = []; pending = sym (append-nil x.pending) }

keeps_step : (c : Change) (x : State) → NotSync (syncs_names c) → Keeps x (after x c)
keeps_step (Created path) x quiet = record { durable = refl; more = Put path (File_node (length x.files)) ∷ []; pending = refl }
keeps_step (Named op) x quiet = record { durable = refl; more = op ∷ []; pending = refl }
keeps_step (Appended id bytes) x quiet = record { durable = refl; more = []; pending = sym (append-nil x.pending) }
keeps_step (Synced id) x quiet = record { durable = refl; more = []; pending = sym (append-nil x.pending) }
keeps_step Names_synced x quiet = absurd quiet
keeps_step Idle x quiet = keeps_itself x

keeps_then : (x y z : State) → Keeps x y → Keeps y z → Keeps x z
keeps_then x y z a b = record { durable = b.durable ∙ a.durable; more = a.more ++ b.more; pending = b.pending ∙ ap (λ (ops : List NameOp). ops ++ b.more) a.pending ∙ append_assoc x.pending a.more b.more }

pub keeps_quiet : (cs : List Change) (x : State) → Quiet cs → Keeps x (after_all cs x)
keeps_quiet [] x quiet = keeps_itself x
keeps_quiet (c ∷ cs) x quiet = keeps_then x (after x c) (after_all cs (after x c)) (keeps_step c x quiet.0) (keeps_quiet cs (after x c) quiet.1)

-- so the names then are those after some of the operations that are pending now
pub kept_names : (x s : State) → Keeps x s → names_now x ≡ all_named (take (length x.pending) s.pending) s.durable
kept_names x s keeps =
    sym ((λ i. all_named (take (length x.pending) (keeps.pending i)) (keeps.durable i))
    ∙ ap (λ (ops : List NameOp). all_named ops x.durable) (take-append-le (length x.pending) x.pending keeps.more (omega arith) ∙ take_all (length x.pending) x.pending (omega arith)))

pub changes_take : (n : ℕ) (steps : List (ℕ × Change)) → changes (take n steps) ≡ take n (changes steps)
changes_take zero steps = refl
changes_take (suc n) [] = refl
changes_take (suc n) (s ∷ steps) = ap (λ (l : List Change). s.1 ∷ l) (changes_take n steps)

-- the names after the first so many steps, where the rest is quiet
pub replay_kept : (steps : List (ℕ × Change)) (n to : ℕ) (start : State) (names : Names) → Quiet (drop n (changes steps)) → names ≡ replayed (changes (take n steps)) (length start.files) (names_now start)
    → let s : State = after_all (filled 0 steps to) start in (kept : ℕ) × (names ≡ all_named (take kept s.pending) s.durable)
replay_kept steps n to start names quiet is =
    let first = take n (changes steps) in
    let rest = drop n (changes steps) in
    let x : State = after_all first start in
    let whole : after_all rest x ≡ after_all (filled 0 steps to) start = sym (all_after first rest start) ∙ ap (λ (cs : List Change). after_all cs start) (take-append-drop n (changes steps)) ∙ sym (after_filled 0 to steps start) in
    let s : State = after_all (filled 0 steps to) start in
    (length x.pending, is ∙ ap (λ (cs : List Change). replayed cs (length start.files) (names_now start)) (changes_take n steps) ∙ replayed_is first start ∙ kept_names x s (subst (Keeps x) whole (keeps_quiet rest x quiet)))

pub quiet_none : (n : ℕ) (steps : List (ℕ × Change)) → n ≡ length steps → Quiet (drop n (changes steps))
quiet_none zero [] is = tt
quiet_none (suc n) [] is = tt
quiet_none zero (s ∷ steps) is = absurd (omega (arith, is))
quiet_none (suc n) (s ∷ steps) is = quiet_none n steps (omega (arith, is))

quiet_by : (b : Bool) → b ≡ false → NotSync b
quiet_by true is = absurd (cc is)
quiet_by false is = tt

pub quiet_more : (n : ℕ) (steps : List (ℕ × Change)) (d : ℕ × Change) → n < length steps → syncs_names (get_or steps n d).1 ≡ false → Quiet (drop (n + 1) (changes steps)) → Quiet (drop n (changes steps))
quiet_more n [] d lt is quiet = absurd (omega (arith, lt))
quiet_more zero (s ∷ steps) d lt is quiet = (quiet_by (syncs_names s.1) is, quiet)
quiet_more (suc n) (s ∷ steps) d lt is quiet =
    let later : suc n + 1 ≡ suc (n + 1) = omega arith in
    quiet_more n steps d (omega (arith, lt)) is (subst (λ (m : ℕ). Quiet (drop m (changes (s ∷ steps)))) later quiet)
