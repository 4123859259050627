-- What a run leaves of its restored folders and its backups.
use Rattle.std.specs.Prelude.{◌≡◌, ℕ, ◌≤◌, true, IsTrue, All, List, [], ◌∷◌, length, Option, Some, None}
use Rattle.std.proofs.Common.{sym, ap, subst, ◌∙◌, arith}
use Rattle.std.proofs.lemmas.Bool.Decides.{nat_tests}
use Rattle.std.proofs.lemmas.List.Elements.{All-nil, All-cons, All-weaker}
use Rattle.lsm_names.specs.Folders.{is_folder_name}
use Rattle.lsm_disk.specs.State.{State, Story, Seen, state_of}
use Rattle.lsm_disk.specs.Images.{Tree, IsImage}
use Rattle.lsm_folder.specs.Files.{place_of}
use Rattle.lsm_folder.specs.Reading.{reading}
use Rattle.std.specs.declared.result.Result.TheVariants.{Ok}
use Rattle.bk_meta.specs.declared.metas.Meta.{Meta}
use Rattle.bk_tree.specs.Holds.{held}
use Rattle.bk_tree.proofs.Keeping.{held_in_image}
use Rattle.bk_engine.specs.Shown.{Shown as Engine}
use Rattle.bk_engine.proofs.StandingRestored.{built_reads}
use Rattle.ldb_script.specs.Printed.{Backup}
use Rattle.ldb_script.specs.Plain.{Plain, Restored, all_durable}
use Rattle.ldb_script.specs.Folders.{IsRestored, FoldersStand, RestoredRead}
use Rattle.ldb_script.specs.Vaults.{Vault, AreMetasOf, AreHeld, EngineKeeps, Backs, IsHeldIn, BackupsHeld}
use Rattle.lsm_names.proofs.FolderLemmas.{folder_has_bytes}

-- each restored folder reads as its backup did
pub restored_read : (start told : Option Story) (log : List ℕ) (plain : Plain) → FoldersStand start told log plain → RestoredRead told plain
restored_read start told log plain f = record {
  story = f.story;
  tells = f.tells;
  each = All-weaker (IsRestored (state_of f.story) log) (λ (folder : Restored). (t : Tree) → IsImage (state_of f.story) t → reading (place_of folder.name t) ≡ Ok folder.shown)
      (λ folder r t image. built_reads (state_of f.story) folder.name r.parts t (folder_has_bytes folder.name r.named) r.files r.built image folder.shown.contents folder.shown.sequence r.shows) plain.restored f.has.restored;
}

-- that each batch is made durable changes neither
pub read_undurable : (told : Option Story) (plain : Plain) → RestoredRead told (all_durable plain) → RestoredRead told plain
read_undurable told plain r = record { story = r.story; tells = r.tells; each = r.each }

pub held_undurable : (start told : Option Story) (plain : Plain) → BackupsHeld start told (all_durable plain) → BackupsHeld start told plain
held_undurable start told plain h = record { first = h.first; told_first = h.told_first; story = h.story; tells = h.tells; each = h.each; others = h.others }

-- each backup is held in each image
held_each : (s : State) (metas : List Meta) (backups : List Backup) → AreMetasOf metas backups → AreHeld s metas backups → All (λ (backup : Backup). (t : Tree) → IsImage s t → IsHeldIn t backup) backups
held_each s [] [] are h = All-nil (λ (backup : Backup). (t : Tree) → IsImage s t → IsHeldIn t backup)
held_each s [] (backup ∷ backups) are h = absurd are
held_each s (meta ∷ metas) [] are h = absurd are
held_each s (meta ∷ metas) (backup ∷ backups) are h =
    All-cons (λ (b : Backup). (t : Tree) → IsImage s t → IsHeldIn t b) backup backups
    (λ t image. record { files = h.0.files; held = ap (held t) (sym are.0.id) ∙ held_in_image s t image meta h.0.texts h.0.kept ∙ h.0.folder; shows = h.0.shows })
    (held_each s metas backups are.1 h.1)

module _ (start : Option Story) (plain : Plain) (first : Story) (told : start ≡ Some first) (tells : IsTrue plain.start.tells) where
  engine_held : (disk : Seen) (engine : Option Engine) → EngineKeeps start disk engine plain → BackupsHeld start disk.told plain
  engine_held disk None h = record {
    first = first;
    told_first = told;
    story = first;
    tells = h.same ∙ told;
    each = subst (λ (bs : List Backup). All (λ (b : Backup). (t : Tree) → IsImage (state_of first) t → IsHeldIn t b) bs) (sym h.none) (All-nil (λ (b : Backup). (t : Tree) → IsImage (state_of first) t → IsHeldIn t b));
    others = λ id small none kept. kept;
  }
  engine_held disk (Some engine) h =
      let held = h.held tells in record {
        first = held.first;
        told_first = held.told_first;
        story = held.story;
        tells = held.tells;
        each = held_each (state_of held.story) engine.metas plain.backups h.metas held.held;
        others = held.others;
      }

  pub backups_held : (vault : Vault) → Backs start vault plain → BackupsHeld start vault.disk.told plain
  unfolding Backs
  backups_held vault h = engine_held vault.disk vault.engine h
