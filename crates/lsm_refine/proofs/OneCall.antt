-- One disk call of a good store, where each image behind it reads as a crash leaves the state: the images on the way, and the
-- store that is halted where it failed.
use Rattle.std.specs.Prelude.{◌≡◌, ◌⊎◌, Option, Some, None, option_map}
use Rattle.std.proofs.Common.{⊎_elim, inl, refl, ap, subst, ◌∙◌}
use Rattle.lsm_disk.specs.State as disk
use Rattle.lsm_disk.specs.State.{Seen, Story, Change, state_of, after}
use Rattle.lsm_disk.specs.Images.{Tree, IsImage}
use Rattle.lsm_disk.specs.Goes.{Went}
use Rattle.lsm_disk.specs.Answers.{Makes, pushed}
use Rattle.lsm_disk.specs.declared.calls.Halt.{Halt}
use Rattle.lsm_disk.proofs.Runs.{state_push, went_start, went_ok}
use Rattle.lsm_model.specs.declared.states.State.{State}
use Rattle.lsm_refine.specs.Kept.{Shown}
use Rattle.lsm_refine.specs.Good.{Good}
use Rattle.lsm_refine.specs.Moments.{ReadsAsCrashed, ImagesShow}
use Rattle.lsm_refine.specs.Grown.{halted_shown, halted_state}
use Rattle.lsm_refine.proofs.MomentLemmas.{reads_crashed}
use Rattle.lsm_refine.proofs.UnchangedLemmas.{halted_good}
use Rattle.lsm_refine.proofs.UnneededLemmas.{shows_first}

module _ (v : Shown) (s : State) (good : Good v s) (c : disk.State → Change)
    (reads : (t : Tree) → IsImage (after (state_of good.story) (c (state_of good.story))) t → ReadsAsCrashed s t) where
  abbrev d : disk.State
  d = state_of good.story

  at_start : (x : disk.State) → x ≡ state_of good.story → (t : Tree) → IsImage x t → ReadsAsCrashed s t
  at_start x is t i = reads_crashed v s good t (subst (λ (y : disk.State). IsImage y t) is i)

  at_end : (x : disk.State) → x ≡ after d (c d) → (t : Tree) → IsImage x t → ReadsAsCrashed s t
  at_end x is t i = reads t (subst (λ (y : disk.State). IsImage y t) is i)

  stayed : (told : Option Story) → told ≡ Some good.story
      → Went good.story told (λ change. Unit {0}) (λ x t. ReadsAsCrashed s t) (λ x. x ≡ state_of good.story)
  stayed told is = went_start (λ x. x ≡ state_of good.story) is refl (λ x at. record { each = at_start x at })

  -- the story behind it
  pub call_tells : (told : Option Story) → Makes v.disk.told c told → told ≡ Some (pushed c good.story)
  call_tells told makes = makes ∙ ap (option_map (pushed c)) good.told

  pub call_state : state_of (pushed c good.story) ≡ after (state_of good.story) (c (state_of good.story))
  call_state = state_push good.story (c (state_of good.story))

  -- the run that it is
  pub call_went : (told : Option Story) → Makes v.disk.told c told
      → Went good.story told (λ change. Unit {0}) (λ x t. ReadsAsCrashed s t)
      (λ x. x ≡ after (state_of good.story) (c (state_of good.story)))
  call_went told makes =
      went_ok (λ x. x ≡ state_of good.story) (λ x. x ≡ after d (c d)) c makes (λ x at. tt)
      (λ x at. ap (λ (y : disk.State). after y (c y)) at) (λ x at. record { each = at_end x at })
      (stayed v.disk.told good.told)

  -- whether it was made or not, each image reads as a crash leaves the state
  pub call_shows : (told : Option Story) → (told ≡ v.disk.told) ⊎ Makes v.disk.told c told → (later : State)
      → ImagesShow good.story told s later
  call_shows told left later = ⊎_elim
      (λ same. shows_first good.story told s later (λ change. Unit {0}) (λ x. x ≡ state_of good.story)
      (stayed told (same ∙ good.told)))
      (λ makes. shows_first good.story told s later (λ change. Unit {0}) (λ x. x ≡ after d (c d)) (call_went told makes))
      left

  -- and a halt leaves a good store
  pub call_halts : v.halt ≡ None → ((seen : Seen) (by : Halt) (story : Story) → seen.told ≡ Some story
      → state_of story ≡ after (state_of good.story) (c (state_of good.story))
      → Good (halted_shown seen by v) (halted_state seen by s.doubtful s))
      → (seen : Seen) (by : Halt) → (seen.told ≡ v.disk.told) ⊎ Makes v.disk.told c seen.told
      → Good (halted_shown seen by v) (halted_state seen by s.doubtful s)
  call_halts none made seen by left = ⊎_elim
      (λ same. halted_good v (halted_shown seen by v) s by good (record {
        later = good.story;
        told = same ∙ good.told;
        state = refl;
        dir = refl;
        kept = refl;
        views = λ number view found. inl found;
      }) none refl)
      (λ makes. made seen by (pushed c good.story) (call_tells seen.told makes) call_state)
      left
