-- What isn't listed stays so while the three folders are made.
use Rattle.std.specs.Prelude.{◌≡◌, ◌≢◌, ◌&&◌, ℕ, Bool, true, false, List, [], ◌∷◌, length, slice_index, is_some, Option, None}
use Rattle.std.proofs.Common.{⊎_elim, refl, sym, ap, subst, ◌∙◌, arith}
use Rattle.std.specs.FinMap as map
use Rattle.lsm_disk.specs.Names.{Node, id_of, NameOp, Put, Gone, Moved}
use Rattle.lsm_disk.specs.State.{State, Story, Change, Created, Named, Appended, Synced, Names_synced, Idle, after, after_all, state_of}
use Rattle.lsm_disk.specs.Images.{Tree, bytes_by}
use Rattle.lsm_disk.specs.Goes.{Each, Shows, Along, Went}
use Rattle.lsm_disk.specs.Kept.{IsKeptName, OpSpares, SparesName}
use Rattle.lsm_disk.proofs.Named.{name_image, name_spared}
use Rattle.lsm_disk.proofs.Runs.{goes_state}
use Rattle.bk_tree.specs.Places.{is_identifier, meta_path}
use Rattle.bk_tree.specs.Listed.{is_listed}
use Rattle.bk_engine.specs.Copying.{Anything, Whatever}
use Rattle.bk_engine.specs.Opening.{IsRoot, IsRootFolder, MakesRoots}

-- a meta's path is none of the three folders
meta_apart : (id : ℕ) (path : List ℕ) → IsRoot path → meta_path id ≢ path
unfolding meta_path
meta_apart id path root same = ⊎_elim
    (λ metas. absurd (omega (arith, ap (λ (l : List ℕ). length l) (same ∙ metas))))
    (λ rest. ⊎_elim
    (λ own. absurd (omega (arith, ap (λ (l : List ℕ). slice_index l 0) (same ∙ own))))
    (λ shared. absurd (omega (arith, ap (λ (l : List ℕ). slice_index l 0) (same ∙ shared)))) rest) root

op_spares : (id : ℕ) (op : NameOp) → IsRootFolder op → OpSpares (meta_path id) op
op_spares id (Put path node) is = meta_apart id path is.0
op_spares id (Gone path) is = absurd is
op_spares id (Moved from to) is = absurd is

roots_spare : (id : ℕ) (c : Change) → MakesRoots c → SparesName (meta_path id) c
roots_spare id (Created path) is = absurd is
roots_spare id (Named op) is = op_spares id op is
roots_spare id (Appended k bytes) is = absurd is
roots_spare id (Synced k) is = absurd is
roots_spare id Names_synced is = absurd is
roots_spare id Idle is = tt

unlisted : (t : Tree) (id : ℕ) → map.get t.names (meta_path id) ≡ None → is_listed t id ≡ false
unlisted t id none = by_test (is_identifier id) where
  by_test : (b : Bool) → (b && is_some (bytes_by (id_of (map.get t.names (meta_path id))) t)) ≡ false
  by_test true = ap (λ (o : Option Node). is_some (bytes_by (id_of o) t)) none
  by_test false = refl

module _ (id : ℕ) where
  abbrev Unlisted : State → Tree → Type 0
  Unlisted s t = is_listed t id ≡ false

  shows : (s : State) → IsKeptName s (meta_path id) None → Shows Unlisted s
  shows s none = record { each = λ t image. unlisted t id (name_image s (meta_path id) None none t image) }

  along : (cs : List Change) (s : State) → Each MakesRoots cs → IsKeptName s (meta_path id) None → Along Unlisted s cs × IsKeptName (after_all cs s) (meta_path id) None
  along [] s each none = (shows s none, none)
  along (c ∷ cs) s each none =
      let rest = along cs (after s c) each.1 (name_spared s (meta_path id) None none c (roots_spare id c each.0)) in
      ((shows s none, rest.0), rest.1)

  pub stays_unlisted : (story : Story) (told : Option Story) → IsKeptName (state_of story) (meta_path id) None → Went story told MakesRoots Anything Whatever
      → Went story told MakesRoots Unlisted (λ s. IsKeptName s (meta_path id) None)
  stays_unlisted story told none w =
      let kept = along w.goes.more (state_of story) w.goes.kind none in
      record {
        story = w.story;
        tells = w.tells;
        goes = record { more = w.goes.more; grows = w.goes.grows; kind = w.goes.kind; along = kept.0 };
        now = subst (λ (s : State). IsKeptName s (meta_path id) None) (sym (goes_state w.goes)) kept.1;
      }
