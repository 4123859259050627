-- A new manifest that was installed, as a store's folder has it.
use Rattle.std.specs.Prelude.{◌≡◌, ℕ, List, [], ◌∷◌, take, Some}
use Rattle.std.proofs.Common.{sym, ap, ◌∙◌}
use Rattle.std.specs.FinMap as finmap
use Rattle.lsm_disk.specs.Names.{File_node, NameOp, Put, Gone, Moved, all_named, id_of}
use Rattle.lsm_disk.specs.State.{State, Change, Created, Named, Appended, Synced, Names_synced, Idle, names_now}
use Rattle.lsm_disk.specs.Images.{Tree}
use Rattle.lsm_disk.proofs.Cuts.{take_none}
use Rattle.lsm_disk.proofs.Named.{name_now}
use Rattle.lsm_folder.specs.Names.{current_text}
use Rattle.lsm_manifest.specs.Installing.{Installs, ShowsNew, IsInstalled, manifest_path}
use Rattle.lsm_refine.specs.Naming.{NamesWhole, Replaces, HasReplaced}
use Rattle.lsm_version.specs.declared.edits.Edit.{Edit}

-- the changes of an installing are those by which another manifest takes the place
pub installs_replace : (dir : List ℕ) (number first : ℕ) (c : Change) → Installs dir number first c
    → Replaces dir number first c
installs_replace dir number first (Created other) kind = kind
installs_replace dir number first (Named (Put path node)) kind = kind
installs_replace dir number first (Named (Gone path)) kind = kind
installs_replace dir number first (Named (Moved from to)) kind = kind
installs_replace dir number first (Appended k bytes) kind = kind
installs_replace dir number first (Synced k) kind = kind
installs_replace dir number first Names_synced kind = kind
installs_replace dir number first Idle kind = kind

-- an image that shows the new manifest has CURRENT name it, whole
pub shows_names : (dir : List ℕ) (number : ℕ) (edit : Edit) (t : Tree) → ShowsNew dir number edit t
    → NamesWhole dir number (edit ∷ []) t
unfolding current_text
shows_names dir number edit t shows = record { current = shows.current; there = shows.manifest }

-- an installed manifest has taken the place
pub installed_replaced : (dir : List ℕ) (number : ℕ) (edit : Edit) (s : State) → IsInstalled dir number edit s
    → HasReplaced s dir number (edit ∷ [])
unfolding current_text
installed_replaced dir number edit s is = record {
  current = record { id = is.id; file = is.current };
  manifest = record { id = is.stands.id; file = is.stands.kept };
  alone = record { only = λ id k other at leads. is.settled.alone.only other (now_leads id k other at leads) };
  gone = is.settled.gone;
  quiet = is.settled.quiet;
}
  where
    path_now : finmap.get (names_now s) (manifest_path dir number) ≡ Some (File_node is.stands.id)
    path_now = name_now s (manifest_path dir number) (Some (File_node is.stands.id)) is.stands.kept.named

    its_id : (id : ℕ) → id_of (finmap.get (names_now s) (manifest_path dir number)) ≡ Some id → id ≡ is.stands.id
    its_id id at = same_some id is.stands.id (sym at ∙ ap id_of path_now)
      where
        same_some : (a b : ℕ) → Some a ≡ Some b → a ≡ b
        same_some a b same = cc

    now_leads : (id k : ℕ) (other : List ℕ) → id_of (finmap.get (names_now s) (manifest_path dir number)) ≡ Some id
        → finmap.get (all_named (take k s.pending) s.durable) other ≡ Some (File_node id)
        → finmap.get (names_now s) other ≡ Some (File_node is.stands.id)
    now_leads id k other at leads =
        ap (λ (ops : List NameOp). finmap.get (all_named ops s.durable) other) is.settled.quiet
        ∙ sym (ap (λ (ops : List NameOp). finmap.get (all_named ops s.durable) other) (take_none k))
        ∙ sym (ap (λ (ops : List NameOp). finmap.get (all_named (take k ops) s.durable) other) is.settled.quiet)
        ∙ leads ∙ ap (λ (n : ℕ). Some (File_node n)) (its_id id at)
