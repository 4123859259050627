-- Laws over runs of steps.
use Rattle.std.specs.Prelude.{◌≡◌, ℕ, ◌+◌, ◌≤◌, true, false, ◌==◌, ◌⊎◌, List, [], ◌∷◌, ◌++◌, length, take, Option, Some, None}
use Rattle.std.proofs.Common.{refl, sym, ap, subst, ◌∙◌, inl, inr, arith, append_assoc}
use Rattle.std.proofs.lemmas.List.{take-append-le, append-nil}
use Rattle.std.specs.Option.{option_map}
use Rattle.lsm_rows.specs.declared.operations.Op.{Op}
use Rattle.lsm_rows.specs.Replay.{replayed, sequence_after}
use Rattle.lsm_model.specs.declared.states.State.{State}
use Rattle.lsm_model.specs.declared.states.Pin.{Pin}
use Rattle.lsm_model.specs.declared.states.PinnedFile.{PinnedFile}
use Rattle.lsm_model.specs.declared.states.FolderRead.{FolderRead}
use Rattle.lsm_model.specs.declared.states.Holder.{Holder}
use Rattle.lsm_model.specs.States.{shown_at, last_of, built_by, pin_of, with_pin, without_pin, folder_of, with_folder}
use Rattle.lsm_model.specs.Steps.{Made, Makes, Run}
use Rattle.lsm_model.specs.Runs.{Core, core, Moves, Same, Wrote, Pinned, Spent, Unpinned, Stepped, Published, Counted, Founded, Changed, added, accepted_in}
use Rattle.lsm_model.proofs.MadeLemmas.{moves}
use Rattle.lsm_model.proofs.PinLemmas.{found_number, found_before, gone, others_stay, placed, others_kept, folder_stays, folder_kept, same_if, not_if}

pub run_more : (s m t : State) (steps : List Made) (made : Made) → Run s steps m → Makes m made t → Run s (steps ++ made ∷ []) t
run_more s m t [] made run step = (t, subst (λ (q : State). Makes q made t) run step, refl)
run_more s m t (x ∷ steps) made run step = (run.0, run.1, run_more run.0 m t steps made run.2 step)

-- ---- the list of accepted batches

module _ (a b : Core) (batches : List (List Op)) where
  stays : batches ≡ [] → b.accepted ≡ a.accepted → b.accepted ≡ a.accepted ++ batches
  stays none same = same ∙ sym (append-nil a.accepted) ∙ ap (λ (l : List (List Op)). a.accepted ++ l) (sym none)

  pub moves_accepted : Moves a b batches → b.accepted ≡ a.accepted ++ batches
  moves_accepted m = elim m [
    | Same none is ↦ stays none (ap (λ (c : Core). c.accepted) is)
    | Wrote ops one is ↦ ap (λ (c : Core). c.accepted) is ∙ ap (λ (l : List (List Op)). a.accepted ++ l) (sym one)
    | Pinned holder manifest files none is ↦ stays none (ap (λ (c : Core). c.accepted) is)
    | Spent none is ↦ stays none (ap (λ (c : Core). c.accepted) is)
    | Unpinned number none is ↦ stays none (ap (λ (c : Core). c.accepted) is)
    | Stepped number pin holder none found same is ↦ stays none (ap (λ (c : Core). c.accepted) is)
    | Published number folder none is ↦ stays none (ap (λ (c : Core). c.accepted) is)
    | Counted count none is ↦ stays none (ap (λ (c : Core). c.accepted) is)
    | Founded new begun none free unsure kept is ↦ stays none (ap (λ (c : Core). c.accepted) is)
    | Changed new begun none was kept is ↦ stays none (ap (λ (c : Core). c.accepted) is)
  ]

  -- what no step changes
  pub moves_base : Moves a b batches → (b.own ≡ a.own) × (b.opening ≡ a.opening) × (b.began ≡ a.began)
  moves_base m = elim m [
    | Same none is ↦ (ap (λ (c : Core). c.own) is, ap (λ (c : Core). c.opening) is, ap (λ (c : Core). c.began) is)
    | Wrote ops one is ↦ (ap (λ (c : Core). c.own) is, ap (λ (c : Core). c.opening) is, ap (λ (c : Core). c.began) is)
    | Pinned holder manifest files none is ↦ (ap (λ (c : Core). c.own) is, ap (λ (c : Core). c.opening) is, ap (λ (c : Core). c.began) is)
    | Spent none is ↦ (ap (λ (c : Core). c.own) is, ap (λ (c : Core). c.opening) is, ap (λ (c : Core). c.began) is)
    | Unpinned number none is ↦ (ap (λ (c : Core). c.own) is, ap (λ (c : Core). c.opening) is, ap (λ (c : Core). c.began) is)
    | Stepped number pin holder none found same is ↦ (ap (λ (c : Core). c.own) is, ap (λ (c : Core). c.opening) is, ap (λ (c : Core). c.began) is)
    | Published number folder none is ↦ (ap (λ (c : Core). c.own) is, ap (λ (c : Core). c.opening) is, ap (λ (c : Core). c.began) is)
    | Counted count none is ↦ (ap (λ (c : Core). c.own) is, ap (λ (c : Core). c.opening) is, ap (λ (c : Core). c.began) is)
    | Founded new begun none free unsure kept is ↦ (ap (λ (c : Core). c.own) is, ap (λ (c : Core). c.opening) is, ap (λ (c : Core). c.began) is)
    | Changed new begun none was kept is ↦ (ap (λ (c : Core). c.own) is, ap (λ (c : Core). c.opening) is, ap (λ (c : Core). c.began) is)
  ]

pub run_accepted : (s t : State) (steps : List Made) → Run s steps t → t.accepted ≡ s.accepted ++ accepted_in steps
run_accepted s t [] run = ap (λ (q : State). q.accepted) run ∙ sym (append-nil s.accepted)
run_accepted s t (x ∷ steps) run =
    run_accepted run.0 t steps run.2
    ∙ ap (λ (l : List (List Op)). l ++ accepted_in steps) (moves_accepted (core s) (core run.0) (added x) (moves s run.0 x run.1))
    ∙ append_assoc s.accepted (added x) (accepted_in steps)

pub run_base : (s t : State) (steps : List Made) → Run s steps t → (t.own ≡ s.own) × (t.opening ≡ s.opening) × (t.began ≡ s.began)
run_base s t [] run = (ap (λ (q : State). q.own) run, ap (λ (q : State). q.opening) run, ap (λ (q : State). q.began) run)
run_base s t (x ∷ steps) run =
    let later = run_base run.0 t steps run.2 in
    let first = moves_base (core s) (core run.0) (added x) (moves s run.0 x run.1) in
    (later.0 ∙ first.0, later.1 ∙ first.1, later.2 ∙ first.2)

-- ---- sequences

sequence_append : (start : ℕ) (xs ys : List (List Op)) → sequence_after start (xs ++ ys) ≡ sequence_after (sequence_after start xs) ys
sequence_append start [] ys = refl
sequence_append start (x ∷ xs) ys = sequence_append (start + length x) xs ys

pub run_last : (s t : State) (steps : List Made) → Run s steps t → last_of t ≡ sequence_after (last_of s) (accepted_in steps)
run_last s t steps run =
    ap (λ (n : ℕ). sequence_after n t.accepted) (run_base s t steps run).2
    ∙ ap (sequence_after s.began) (run_accepted s t steps run)
    ∙ sequence_append s.began s.accepted (accepted_in steps)

-- what is shown after a front of the batches stays
pub shown_stays : (s t : State) (count : ℕ) (steps : List Made) → Run s steps t → count ≤ length s.accepted → shown_at t count ≡ shown_at s count
shown_stays s t count steps run within =
    let base = run_base s t steps run in
    let front : take count t.accepted ≡ take count s.accepted = ap (take count) (run_accepted s t steps run) ∙ take-append-le count s.accepted (accepted_in steps) within in
    λ i. record { sequence = sequence_after (base.2 i) (front i); contents = replayed (base.1 i) (front i) }

-- ---- pins

-- a pin that is gone, or has these batches and files, and builds this folder or none
abbrev pub HasOnly : ℕ → List PinnedFile → Option (List ℕ) → Option Pin → Type 0
HasOnly batches files built None = Unit {0}
HasOnly batches files built (Some pin) = (pin.batches ≡ batches) × (pin.files ≡ files) × (built_by pin.holder ≡ built)

-- the same of a number that is given already
pub record IsHeld (number batches : ℕ) (files : List PinnedFile) (built : Option (List ℕ)) (a : Core) : Type 0 where
  pub given : number ≤ a.greatest_pin
  pub only : HasOnly batches files built (pin_of number a.pins)

module _ (number batches : ℕ) (files : List PinnedFile) (built : Option (List ℕ)) (a : Core) (held : IsHeld number batches files built a) where
  along : (b : Core) → a.greatest_pin ≤ b.greatest_pin → pin_of number b.pins ≡ pin_of number a.pins → IsHeld number batches files built b
  along b later same = record { given = omega (arith, held.given, later); only = subst (HasOnly batches files built) (sym same) held.only }

  unpinned : (other : ℕ) → HasOnly batches files built (pin_of number (without_pin other a.pins))
  unpinned other = elim (other == number) as (λ b. (other == number) ≡ b → HasOnly batches files built (pin_of number (without_pin other a.pins))) [
    | true ↦ λ test. subst (λ (n : ℕ). HasOnly batches files built (pin_of number (without_pin n a.pins))) (sym (same_if other number test)) (subst (HasOnly batches files built) (sym (gone number a.pins)) tt)
    | false ↦ λ test. subst (HasOnly batches files built) (sym (others_stay number other a.pins (λ e. not_if other number test (sym e)))) held.only
  ] refl

  changed : (new : Pin) → HasOnly batches files built (Some new) → HasOnly batches files built (option_map (λ (p : Pin). new) (pin_of new.number a.pins))
  changed new has = elim (pin_of new.number a.pins) as (λ o. HasOnly batches files built (option_map (λ (p : Pin). new) o)) [ None ↦ tt | Some p ↦ has ]

  stepped : (at : ℕ) (pin : Pin) (holder : Holder) → pin_of at a.pins ≡ Some pin → built_by holder ≡ built_by pin.holder → HasOnly batches files built (pin_of number (with_pin (record pin { holder = holder }) a.pins))
  stepped at pin holder found keeps = elim (pin.number == number) as (λ b. (pin.number == number) ≡ b → HasOnly batches files built (pin_of number (with_pin (record pin { holder = holder }) a.pins))) [
    | true ↦ λ test.
        let same : pin.number ≡ number = same_if pin.number number test in
        let here : pin_of number a.pins ≡ Some pin = ap (λ (n : ℕ). pin_of n a.pins) (sym same ∙ found_number at a.pins pin found) ∙ found in
        let has : HasOnly batches files built (Some pin) = subst (HasOnly batches files built) here held.only in
        subst (λ (n : ℕ). HasOnly batches files built (pin_of n (with_pin (record pin { holder = holder }) a.pins))) same
        (subst (HasOnly batches files built) (sym (placed (record pin { holder = holder }) a.pins)) (changed (record pin { holder = holder }) (has.0, has.1, keeps ∙ has.2)))
    | false ↦ λ test. subst (HasOnly batches files built) (sym (others_kept number (record pin { holder = holder }) a.pins (λ e. not_if pin.number number test (sym e)))) held.only
  ] refl

  pub moves_held : (b : Core) (more : List (List Op)) → Moves a b more → IsHeld number batches files built b
  moves_held b more m =
      let P : Core → Type 0 = IsHeld number batches files built in
      elim m [
        | Same none is ↦ subst P (sym is) held
        | Wrote ops one is ↦ subst P (sym is) (record { given = held.given; only = held.only })
        | Pinned holder manifest pinned none is ↦ subst P (sym is) (record {
          given = omega (arith, held.given);
          only = subst (HasOnly batches files built) (sym (found_before number a.pins (record { number = a.greatest_pin + 1; batches = length a.accepted; manifest = manifest; files = pinned; holder = holder }) (omega (arith, held.given)))) held.only;
        })
        | Spent none is ↦ subst P (sym is) (record { given = omega (arith, held.given); only = held.only })
        | Unpinned other none is ↦ subst P (sym is) (record { given = held.given; only = unpinned other })
        | Stepped at pin holder none found same is ↦ subst P (sym is) (record { given = held.given; only = stepped at pin holder found same })
        | Published other folder none is ↦ subst P (sym is) (record { given = held.given; only = unpinned other })
        | Counted count none is ↦ subst P (sym is) (record { given = held.given; only = held.only })
        | Founded new begun none free unsure kept is ↦ subst P (sym is) (record { given = held.given; only = held.only })
        | Changed new begun none was kept is ↦ subst P (sym is) (record { given = held.given; only = held.only })
      ]

run_held : (s t : State) (steps : List Made) (number batches : ℕ) (files : List PinnedFile) (built : Option (List ℕ)) → Run s steps t
    → IsHeld number batches files built (core s) → IsHeld number batches files built (core t)
run_held s t [] number batches files built run held = subst (λ (q : State). IsHeld number batches files built (core q)) (sym run) held
run_held s t (x ∷ steps) number batches files built run held =
    run_held run.0 t steps number batches files built run.2 (moves_held number batches files built (core s) held (core run.0) (added x) (moves s run.0 x run.1))

pub pin_stays : (s t : State) (steps : List Made) (number : ℕ) (pin later : Pin) → Run s steps t → number ≤ s.greatest_pin
    → pin_of number s.pins ≡ Some pin → pin_of number t.pins ≡ Some later
    → (later.batches ≡ pin.batches) × (later.files ≡ pin.files) × (built_by later.holder ≡ built_by pin.holder)
pin_stays s t steps number pin later run given found still =
    let held = run_held s t steps number pin.batches pin.files (built_by pin.holder) run
    (record { given = given; only = subst (HasOnly pin.batches pin.files (built_by pin.holder)) (sym found) (refl, refl, refl) }) in
    subst (HasOnly pin.batches pin.files (built_by pin.holder)) still held.only

-- ---- folders

some_same : (a b : List ℕ) → Some a ≡ Some b → a ≡ b
some_same a b same = cc

-- the folder reads so, and isn't the begun one
pub record IsLeft (name : List ℕ) (folder : FolderRead) (c : Core) : Type 0 where
  pub found : folder_of name c.folders ≡ Some folder
  pub apart : c.begun ≡ Some name → ⊥

module _ (a b : Core) (more : List (List Op)) (name : List ℕ) (folder : FolderRead) (left : IsLeft name folder a) where
  -- a folder of a free name has another one
  another : (new : FolderRead) → folder_of new.name a.folders ≡ None → new.name ≡ name → ⊥
  another new free same =
      let none : folder_of name a.folders ≡ None = ap (λ (n : List ℕ). folder_of n a.folders) (sym same) ∙ free in
      let some : folder_of name a.folders ≡ Some folder = left.found in
      absurd (cc)

  founded : (new : FolderRead) (begun : Option (List ℕ)) → folder_of new.name a.folders ≡ None → (begun ≡ a.begun) ⊎ (begun ≡ Some new.name)
      → IsLeft name folder (record a { folders = a.folders ++ new ∷ []; begun = begun })
  founded new begun free kept = record {
    found = folder_stays name a.folders folder new left.found;
    apart = λ is. elim kept [
      | inl old ↦ left.apart (sym old ∙ is)
      | inr now ↦ let same : Some new.name ≡ Some name = sym now ∙ is in another new free (some_same new.name name same)
    ];
  }

  changed_one : (new : FolderRead) (begun : Option (List ℕ)) → a.begun ≡ Some new.name
      → ((begun ≡ a.begun) × (new.sure ≡ false)) ⊎ (begun ≡ None)
      → IsLeft name folder (record a { folders = with_folder new a.folders; begun = begun })
  changed_one new begun was kept = record {
    found = folder_kept name new a.folders (λ same. left.apart (was ∙ ap (λ (n : List ℕ). Some n) same)) ∙ left.found;
    apart = λ is. elim kept [
      | inl old ↦ left.apart (sym old.0 ∙ is)
      | inr none ↦ let no : None ≡ Some name = sym none ∙ is in absurd (cc)
    ];
  }

  pub moves_folder : Moves a b more → IsLeft name folder b
  moves_folder m =
      let P : Core → Type 0 = IsLeft name folder in
      elim m [
        | Same none is ↦ subst P (sym is) left
        | Wrote ops one is ↦ subst P (sym is) (record { found = left.found; apart = left.apart })
        | Pinned holder manifest pinned none is ↦ subst P (sym is) (record { found = left.found; apart = left.apart })
        | Spent none is ↦ subst P (sym is) (record { found = left.found; apart = left.apart })
        | Unpinned other none is ↦ subst P (sym is) (record { found = left.found; apart = left.apart })
        | Stepped at pin holder none here same is ↦ subst P (sym is) (record { found = left.found; apart = left.apart })
        | Published other new none is ↦ subst P (sym is) (record { found = folder_stays name a.folders folder new left.found; apart = left.apart })
        | Counted count none is ↦ subst P (sym is) (record { found = left.found; apart = left.apart })
        | Founded new begun none free unsure kept is ↦ subst P (sym is) (founded new begun free kept)
        | Changed new begun none was kept is ↦ subst P (sym is) (changed_one new begun was kept)
      ]

run_left : (s t : State) (steps : List Made) (name : List ℕ) (folder : FolderRead) → Run s steps t → IsLeft name folder (core s) → IsLeft name folder (core t)
run_left s t [] name folder run left = subst (λ (q : State). IsLeft name folder (core q)) (sym run) left
run_left s t (x ∷ steps) name folder run left =
    run_left run.0 t steps name folder run.2 (moves_folder (core s) (core run.0) (added x) name folder left (moves s run.0 x run.1))

pub run_folder : (s t : State) (steps : List Made) (name : List ℕ) (folder : FolderRead) → Run s steps t → folder_of name s.folders ≡ Some folder
    → (s.begun ≡ Some name → ⊥) → (folder_of name t.folders ≡ Some folder) × (t.begun ≡ Some name → ⊥)
run_folder s t steps name folder run found apart =
    let left = run_left s t steps name folder run (record { found = found; apart = apart }) in
    (left.found, left.apart)
