-- What each call of the switch leaves.
use Rattle.std.specs.Prelude.{◌≡◌, ℕ, List, Option, Some, IfSome, Err}
use Rattle.std.proofs.Common.{⊎_elim, inl, inr, refl, sym, ap, subst, ◌∙◌}
use Rattle.std.specs.FinMap as map
use Rattle.lsm_disk.specs.Names.{Node, File_node, Names, Moved, named, renamed, id_of}
use Rattle.lsm_disk.specs.State.{State, Story, after, new_file, longer, state_of, names_now, renamed_by, names_synced}
use Rattle.lsm_disk.specs.Images.{Tree, IsImage, bytes_at, bytes_by}
use Rattle.lsm_disk.specs.Goes.{Shows, Went}
use Rattle.lsm_disk.specs.Answers.{Makes, LeftBy, Allowed, RefusesBy}
use Rattle.lsm_disk.specs.Refusals.{never, no_rename}
use Rattle.lsm_disk.specs.declared.calls.DiskError.{DiskError}
use Rattle.lsm_disk.specs.declared.calls.DiskCall.{DiskCall}
use Rattle.lsm_disk.specs.declared.calls.DiskCall.TheVariants as call
use Rattle.lsm_disk.specs.declared.calls.DiskRefusal.{DiskRefusal}
use Rattle.lsm_disk.proofs.Cuts.{cut_sure}
use Rattle.lsm_disk.proofs.Files.{cut_at}
use Rattle.lsm_disk.proofs.Paths.{get_put}
use Rattle.lsm_disk.proofs.Images.{IsShown, named_image, all_push}
use Rattle.lsm_disk.proofs.Named.{name_now, now_kept}
use Rattle.lsm_disk.proofs.Kept.{kept_image}
use Rattle.lsm_disk.proofs.Runs.{went_start, went_weaker, went_ok}
use Rattle.lsm_disk.proofs.Left.{went_left}
use Rattle.lsm_publish.specs.Publishing.{Old, HasOldOrNew, Switches, IsReady, IsSwitching, IsPublished, SwitchLeft, Switched, written}
use Rattle.lsm_publish.proofs.Olds.{still_image, names_switch}

-- a refusal of a call under the name
pub switch_refused : {told : Option Story} {story : Story} {q : _} {P : _} (temporary path : List ℕ) (old : Old) (id : ℕ) (bytes : List ℕ) (c : DiskCall) (why : DiskError) (r : DiskRefusal) → r ≡ record { at = record { call = c; path = path }; why = why }
    → Went story told q P (SwitchLeft temporary path old id bytes c why) → Went story told q P (Switched temporary path old id bytes (Err r))
switch_refused {told} {story} {q} {P} temporary path old id bytes c why r is w =
    subst (λ (x : DiskRefusal). Went story told q P (Switched temporary path old id bytes (Err x))) (sym is) (went_weaker (SwitchLeft temporary path old id bytes c why) _ (λ s left. (refl, left)) w)

-- a synced file is whole in each image
pub whole_in : (path : List ℕ) (id : ℕ) (bytes : List ℕ) (s : State) (t : Tree) → IsPublished path id bytes s → IsImage s t → bytes_at t path ≡ Some bytes
whole_in path id bytes s t d i = let held = kept_image s path id (written bytes) d t i in held.is ∙ ap (λ (l : List ℕ). Some l) (cut_sure (longer bytes new_file) held.bytes held.cut)

module _ (temporary path : List ℕ) (old : Old) (id : ℕ) (bytes : List ℕ) where
  abbrev P : State → Tree → Type 0
  P = HasOldOrNew path old bytes

  abbrev Ready : State → Type 0
  Ready = IsReady temporary path old id bytes

  abbrev Switching : State → Type 0
  Switching = IsSwitching path old id bytes

  abbrev Done : State → Type 0
  Done = IsPublished path id bytes

  shows_ready : (s : State) → Ready s → Shows P s
  shows_ready s r = record { each = λ t i. inl (still_image path old s r.still t i) }

  shows_switching : (s : State) → Switching s → Shows P s
  shows_switching s w = record { each = w.leads }

  shows_done : (s : State) → Done s → Shows P s
  shows_done s d = record { each = λ t i. inr (whole_in path id bytes s t d i) }

  step_rename : (s : State) → Ready s → Switching (after s (renamed_by temporary path s))
  step_rename s r =
      let there : map.get (names_now s) temporary ≡ Some (File_node id) = name_now s temporary (Some (File_node id)) r.new.named in
      let leads : map.get (named (Moved temporary path) (names_now s)) path ≡ Some (File_node id) =
      ap (λ (o : Option Node). map.get (renamed temporary path o (names_now s)) path) there ∙ get_put (map.remove (names_now s) temporary) path (File_node id) in
      record {
        leads = λ t i. ⊎_elim
            (λ was. inl (still_image path old s r.still t was))
            (λ (now : IsShown (named (Moved temporary path) (names_now s)) s.files t).
            let held = cut_at s.files t.contents id (written bytes) now.cut r.new.file in
            inr (ap (λ (o : Option ℕ). bytes_by o t) (ap id_of (ap (λ (n : Names). map.get n path) now.names ∙ leads)) ∙ held.1 ∙ ap (λ (l : List ℕ). Some l) (cut_sure (longer bytes new_file) held.0 held.2)))
            (named_image s (Moved temporary path) t i);
        new = record { named = ap (λ (n : Names). map.get n path) (all_push s.pending (Moved temporary path) s.durable) ∙ leads; file = r.new.file };
      }

  step_names : (s : State) → Switching s → Done (after s (names_synced s))
  step_names s w = now_kept s path id (written bytes) w.new

  module _ (story : Story) {o1 : Option Story} (tells : o1 ≡ Some story) (ready : Ready (state_of story)) where
    begun : Went story o1 (Switches temporary path) P Ready
    begun = went_start Ready tells ready shows_ready

    module _ {o2 : Option Story} where
      after_rename : Makes o1 (renamed_by temporary path) o2 → Went story o2 (Switches temporary path) P Switching
      after_rename makes = went_ok Ready Switching (renamed_by temporary path) makes (λ s r. (refl, refl)) step_rename shows_switching begun

      pub refused_rename : (e : DiskError) → LeftBy (o2 ≡ o1) (Allowed (no_rename temporary path) o1 × Makes o1 (renamed_by temporary path) o2) e → IfSome o1 (λ x. RefusesBy (no_rename temporary path (state_of x)) e)
          → Went story o2 (Switches temporary path) P (SwitchLeft temporary path old id bytes call.Rename e)
      refused_rename e did by = went_weaker (λ s. LeftBy (Ready s) (Switching s) e × RefusesBy (no_rename temporary path s) e) _ (λ s p. record { left = p.0; by = p.1 })
          (went_left Ready Switching (renamed_by temporary path) (no_rename temporary path) e did by (λ s r. (refl, refl)) step_rename shows_switching begun)

      module _ {o3 : Option Story} (moved : Makes o1 (renamed_by temporary path) o2) where
        pub after_names : Makes o2 names_synced o3 → Went story o3 (Switches temporary path) P Done
        after_names makes = went_ok Switching Done names_synced makes (λ s w. names_switch temporary path s) step_names shows_done (after_rename moved)

        pub refused_names : (e : DiskError) → LeftBy (o3 ≡ o2) (Allowed never o2 × Makes o2 names_synced o3) e → IfSome o2 (λ x. RefusesBy (never (state_of x)) e)
            → Went story o3 (Switches temporary path) P (SwitchLeft temporary path old id bytes call.SyncNames e)
        refused_names e did by = went_weaker (λ s. LeftBy (Switching s) (Done s) e × RefusesBy (never s) e) _ (λ s p. record { left = p.0; by = p.1 })
            (went_left Switching Done names_synced never e did by (λ s w. names_switch temporary path s) step_names shows_done (after_rename moved))
