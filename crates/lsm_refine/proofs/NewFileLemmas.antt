-- While one new file of the store's folder is made and written, nothing else changes.
use Rattle.std.specs.Prelude.{◌≡◌, ◌≢◌, ℕ, ◌<◌, true, List, length, Option, Some}
use Rattle.std.proofs.Common.{refl, sym, ap, subst, ◌∙◌, arith}
use Rattle.std.specs.FinMap as finmap
use Rattle.lsm_names.specs.Folders.{is_folder_name}
use Rattle.lsm_names.specs.FileNames.{IsFileName}
use Rattle.lsm_names.specs.declared.file_names.FileName.{FileName}
use Rattle.lsm_disk.specs.Names.{File_node, NameOp, all_named}
use Rattle.lsm_disk.specs.State.{FileState, State, Story, Change, Created, Named, Appended, Synced, Names_synced, Idle, after, state_of, file_at, names_now, longer, sure, in_file}
use Rattle.lsm_disk.specs.Images.{Tree, IsImage}
use Rattle.lsm_disk.specs.Goes.{Went}
use Rattle.lsm_disk.specs.Dest.{path_in}
use Rattle.lsm_disk.proofs.Cuts.{take_none}
use Rattle.lsm_disk.proofs.Runs.{went_kept}
use Rattle.lsm_disk.proofs.Tree.{length_in}
use Rattle.lsm_refine.specs.Beside.{cut_names, LeadToFiles, WritesNew, MakesAt}
use Rattle.lsm_refine.proofs.ChangeLemmas.{at_cut, changes_none, changes_both, names_synced_at, other_written_at, made_at, made_lead, made_only}
use Rattle.lsm_refine.proofs.NeededLemmas.{node_is}
use Rattle.lsm_refine.proofs.OutsideLemmas.{same_folder, append_inside, change_inside, inside_both, created_spares}

-- a changed file leaves how many there are
lead_in : (d : State) (change : FileState → FileState) (id : ℕ) → LeadToFiles d
    → LeadToFiles (record d { files = in_file change id d.files })
lead_in d change id lead k = record {
  made = λ path n leads. let less = (lead k).made path n leads in omega
      (arith, less, length_in change id d.files);
}

-- the names after a sync of names are those of now
pub synced_cut : (d : State) (k : ℕ) (path : List ℕ) → finmap.get (cut_names (after d Names_synced) k) path ≡ finmap.get (names_now d) path
synced_cut d k path = ap (λ (ops : List NameOp). finmap.get (all_named ops (names_now d)) path) (take_none k)

module _ (dir : List ℕ) (name : FileName) (named : is_folder_name dir ≡ true) (fits : IsFileName name) (start : State) where
  abbrev path : List ℕ
  path = path_in dir name

  abbrev first : ℕ
  first = length start.files

  pub makes_none : LeadToFiles start → MakesAt dir name start start
  makes_none lead = record {
    at = changes_none path start;
    lead = lead;
    only = λ k other leads. let less : first < first = (lead k).made other first leads in absurd (omega (arith, less));
    inside = change_inside dir start Idle (record { names = λ folder ok other. tt; files = λ folder file ok other is. tt }) tt;
  }

  module _ (x : State) (makes : MakesAt dir name start x) where
    elsewhere : (other : List ℕ) → other ≢ path → file_at x other ≢ Some first
    elsewhere other differs leads = differs (makes.only (length x.pending) other
        (at_cut x other (Some (File_node first)) (node_is (finmap.get (names_now x) other) first leads)))

    outside : (k : ℕ) (folder : List ℕ) (n : FileName) → folder ≢ dir → IsFileName n
        → finmap.get (cut_names x k) (path_in folder n) ≢ Some (File_node first)
    outside k folder n other is leads = other (same_folder folder dir n name is fits (makes.only k (path_in folder n) leads))

    pub makes_more : (c : Change) → WritesNew path first c → MakesAt dir name start (after x c)
    makes_more (Created other) kind = subst (λ (p : List ℕ). MakesAt dir name start (after x (Created p))) (sym kind) (record {
      at = changes_both path start x (after x (Created path)) makes.at (made_at path x makes.lead);
      lead = made_lead path x makes.lead;
      only = made_only path x makes.lead first makes.only;
      inside = inside_both dir start x (after x (Created path)) makes.inside
          (change_inside dir x (Created path) (created_spares dir name named fits) tt);
    })
    makes_more (Named op) kind = absurd kind
    makes_more (Appended k more) kind = subst (λ (id : ℕ). MakesAt dir name start (after x (Appended id more))) (sym kind) (record {
      at = changes_both path start x (after x (Appended first more)) makes.at
          (other_written_at path x first elsewhere (Appended first more) refl);
      lead = lead_in x (longer more) first makes.lead;
      only = makes.only;
      inside = inside_both dir start x (after x (Appended first more)) makes.inside
          (append_inside x dir first more (λ k name n ok other is. outside k name n other is));
    })
    makes_more (Synced k) kind = subst (λ (id : ℕ). MakesAt dir name start (after x (Synced id))) (sym kind) (record {
      at = changes_both path start x (after x (Synced first)) makes.at (other_written_at path x first elsewhere (Synced first) refl);
      lead = lead_in x sure first makes.lead;
      only = makes.only;
      inside = inside_both dir start x (after x (Synced first)) makes.inside
          (change_inside dir x (Synced first) (record { names = λ folder ok other. tt; files = λ folder file ok other is. tt }) tt);
    })
    makes_more Names_synced kind = record {
      at = changes_both path start x (after x Names_synced) makes.at (names_synced_at path x);
      lead = λ k. record {
        made = λ other id leads. (makes.lead (length x.pending)).made other id
            (at_cut x other (Some (File_node id)) (sym (synced_cut x k other) ∙ leads));
      };
      only = λ k other leads. makes.only (length x.pending) other
          (at_cut x other (Some (File_node first)) (sym (synced_cut x k other) ∙ leads));
      inside = inside_both dir start x (after x Names_synced) makes.inside
          (change_inside dir x Names_synced (record { names = λ folder ok other. tt; files = λ folder file ok other is. tt }) tt);
    }
    makes_more Idle kind = makes

-- what a run of such changes leaves is so, and each image on the way comes from a disk that is
pub went_making : (dir : List ℕ) (name : FileName) → is_folder_name dir ≡ true → IsFileName name
    → {start : Story} {told : Option Story} {P : State → Tree → Type 0} (R : State → Tree → Type 0) (J : State → Type 0)
    → LeadToFiles (state_of start)
    → ((x : State) (t : Tree) → MakesAt dir name (state_of start) x → IsImage x t → P x t → R x t)
    → Went start told (WritesNew (path_in dir name) (length (state_of start).files)) P J
    → Went start told (WritesNew (path_in dir name) (length (state_of start).files)) R (λ x. J x × MakesAt dir name (state_of start) x)
went_making dir name named fits {start = start} R J lead shows went =
    went_kept R (λ x. MakesAt dir name (state_of start) x) (λ x c kind makes. makes_more dir name named fits
    (state_of start) x makes c kind) shows J (makes_none dir name named fits (state_of start) lead) went
