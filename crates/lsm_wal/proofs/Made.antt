-- What each call of a making leaves.
use Rattle.std.specs.Prelude.{◌≡◌, ◌⊎◌, ℕ, List, [], length, Option, Some, Ok, Err}
use Rattle.std.proofs.Common.{inl, inr, refl, sym, ap, subst, ◌∙◌, arith}
use Rattle.std.proofs.lemmas.List.Elements.{All-nil}
use Rattle.lsm_disk.specs.State.{State, Story, Created, after, state_of, new_file, created, names_synced}
use Rattle.lsm_disk.specs.Images.{Tree, IsImage}
use Rattle.lsm_disk.specs.Goes.{Shows, Went}
use Rattle.lsm_disk.specs.Kept.{IsKeptFile, Making}
use Rattle.lsm_disk.specs.Answers.{Makes, LeftBy, Allowed}
use Rattle.lsm_disk.specs.Refusals.{no_room, never}
use Rattle.lsm_disk.specs.declared.calls.DiskError.{DiskError}
use Rattle.lsm_disk.specs.declared.calls.DiskRefusal.{DiskRefusal}
use Rattle.lsm_disk.proofs.Images.{created_image, names_synced_image, after_names_synced}
use Rattle.lsm_disk.proofs.Kept.{new_kept, names_making}
use Rattle.lsm_disk.proofs.Runs.{went_start, went_weaker, went_ok, went_err}
use Rattle.lsm_wal.specs.Batches.{IsLogged}
use Rattle.lsm_wal.specs.Standing.{IsWal}
use Rattle.lsm_wal.specs.Making.{MayHaveNew, IsMade, with_new, with_made}

-- an empty log
pub empty_wal : (s : State) (path : List ℕ) (id : ℕ) → IsKeptFile s path id new_file → IsWal s path [] 0
empty_wal s path id kept = record { id = id; file = new_file; kept = kept; text = refl; within = omega arith; synced = omega arith; each = All-nil IsLogged }

module _ (path : List ℕ) (story : Story) where
  abbrev old : State
  old = state_of story

  abbrev P : State → Tree → Type 0
  P = MayHaveNew (state_of story) path

  abbrev AtStart : State → Type 0
  AtStart s = s ≡ state_of story

  abbrev With : State → Type 0
  With s = s ≡ with_new path (state_of story)

  abbrev Synced_with : State → Type 0
  Synced_with s = s ≡ with_made path (state_of story)

  shows_start : (s : State) → AtStart s → Shows P s
  shows_start s is = record { each = λ t i. inl (subst (λ x. IsImage x t) is i) }

  shows_with : (s : State) → With s → Shows P s
  shows_with s is = record { each = λ t i. inr (created_image (state_of story) path t (subst (λ x. IsImage x t) is i)) }

  shows_synced : (s : State) → Synced_with s → Shows P s
  shows_synced s is = record {
    each = λ t i.
        let made : State = with_new path (state_of story) in
        inr (created_image (state_of story) path t (names_synced_image made t (subst (λ x. IsImage x t) (is ∙ after_names_synced made) i)));
  }

  module _ {o1 : Option Story} (tells : o1 ≡ Some story) where
    begun : Went story o1 (Making path) P AtStart
    begun = went_start AtStart tells refl shows_start

    module _ {o2 : Option Story} where
      after_create : Makes o1 (created path) o2 → Went story o2 (Making path) P With
      after_create makes = went_ok AtStart With (created path) makes (λ s i. refl) (λ s i. ap (λ x. after x (Created path)) i) shows_with begun

      pub after_refused_create : (T : Type 0) (r : DiskRefusal) (e : DiskError) → LeftBy (o2 ≡ o1) (Allowed (no_room path) o1 × Makes o1 (created path) o2) e → Went story o2 (Making path) P (IsMade {T = T} (state_of story) path (Err r))
      after_refused_create T r e left = went_weaker (λ s. AtStart s ⊎ With s) (IsMade {T = T} (state_of story) path (Err r)) (λ s i. elim i [ inl a ↦ inl a | inr b ↦ inr (inl b) ])
          (went_err AtStart With (created path) (no_room path) e left (λ s i. refl) (λ s i. ap (λ x. after x (Created path)) i) shows_with begun)

      module _ {o3 : Option Story} where
        pub after_names : {T : Type 0} (value : T) → Makes o1 (created path) o2 → Makes o2 names_synced o3 → Went story o3 (Making path) P (IsMade (state_of story) path (Ok value))
        after_names value makes then = went_weaker Synced_with (IsMade (state_of story) path (Ok value))
            (λ s is. (
              empty_wal s path (length (state_of story).files)
                  (subst (λ x. IsKeptFile x path (length (state_of story).files) new_file) (sym is)
                  (new_kept (state_of story) path)),
              is,
            ))
            (went_ok With Synced_with names_synced then (λ s i. names_making path s) (λ s i. ap (λ x. after x (names_synced x)) i) shows_synced (after_create makes))

        pub after_refused_names : (T : Type 0) (r : DiskRefusal) (e : DiskError) → Makes o1 (created path) o2 → LeftBy (o3 ≡ o2) (Allowed never o2 × Makes o2 names_synced o3) e → Went story o3 (Making path) P (IsMade {T = T} (state_of story) path (Err r))
        after_refused_names T r e makes left = went_weaker (λ s. With s ⊎ Synced_with s) (IsMade {T = T} (state_of story) path (Err r)) (λ s i. inr i)
            (went_err With Synced_with names_synced never e left (λ s i. names_making path s) (λ s i. ap (λ x. after x (names_synced x)) i) shows_synced (after_create makes))
