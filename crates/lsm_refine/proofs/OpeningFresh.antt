-- When a folder of a tree is fresh, by what stands under its files' names; and a folder that is made new.
use Rattle.std.specs.Prelude.{◌≡◌, ℕ, ◌≤◌, T, Bool, true, false, ◌&&◌, is_some, List, [], ◌∷◌, length, option_map, cond, Option, Some, None}
use Rattle.std.specs.List.{list_all}
use Rattle.std.specs.Ordering.{eq_by_cmp}
use Rattle.std.specs.FinMap as finmap
use Rattle.std.specs.FinMap.Entries.{below_all, is_sorted}
use Rattle.std.proofs.Common.{⊎_elim, refl, sym, ap, subst, ◌∙◌, arith}
use Rattle.lsm_names.specs.Folders.{is_folder_name}
use Rattle.lsm_names.specs.FileNames.{IsFileName, spelled}
use Rattle.lsm_names.specs.declared.file_names.FileName.{FileName}
use Rattle.lsm_names.proofs.FolderLemmas.{folder_has_bytes, folder_is_component}
use Rattle.lsm_disk.specs.Names.{Node, Names, Folder_node, Put, named, stands}
use Rattle.lsm_disk.specs.State.{State, after, folder_made, names_now}
use Rattle.lsm_disk.specs.Images.{Tree, IsImage}
use Rattle.lsm_disk.specs.Dest.{path_in}
use Rattle.lsm_disk.specs.Tree.{IsLawful}
use Rattle.lsm_disk.proofs.Images.{IsShown, reads_image, named_image}
use Rattle.lsm_disk.proofs.Lawful.{get_named}
use Rattle.lsm_disk.proofs.Now.{names_after}
use Rattle.lsm_disk.proofs.Paths.{get_put_other}
use Rattle.lsm_folder.specs.Files.{Item, Stands_with, item_of, files_in, place_of}
use Rattle.lsm_folder.specs.Names.{name_cmp}
use Rattle.lsm_folder.specs.Needed.{is_aside, IsFresh}
use Rattle.lsm_folder.proofs.FileLemmas.{same_name, name_itself, files_are, file_names, folder_place, no_place}
use Rattle.lsm_folder.proofs.LiveLemmas.{all_below, none_below}
use Rattle.lsm_refine.specs.Pins.{AreClearable}
use Rattle.lsm_refine.specs.Vacant.{IsVacant, with_folder}
use Rattle.lsm_refine.specs.Openings.{Still_fresh, IsKeptImage}
use Rattle.lsm_refine.specs.OpeningImages.{KeepsFolder, IsAtRest, AllFresh}
use Rattle.lsm_refine.proofs.FolderDisks.{apart_from}
use Rattle.lsm_refine.proofs.FoundLemmas.{clear_image}
use Rattle.lsm_refine.proofs.FreshNames.{aside_at}
use Rattle.lsm_refine.proofs.NewStoreLemmas.{settled_kept, contains_none, new_vacant}
use Rattle.lsm_refine.proofs.OtherFileLemmas.{flat}
use Rattle.lsm_refine.proofs.TableSyncs.{image_files}

-- ---- entries that are all aside

both_true : (a b : Bool) → a ≡ true → b ≡ true → (a && b) ≡ true
both_true true b one two = two
both_true false b one two = one

first_found : (e : FileName × Item) (es : List (FileName × Item)) → finmap.find name_cmp e.0 (e ∷ es) ≡ Some e.1
first_found e es = ap (λ (b : Bool). cond b (Some e.1) (finmap.find name_cmp e.0 es)) (name_itself e.0)

later_found : (e : FileName × Item) (es : List (FileName × Item)) (name : FileName) (item : Item)
    → T (below_all name_cmp e.0 es) → finmap.find name_cmp name es ≡ Some item → finmap.find name_cmp name (e ∷ es) ≡ Some item
later_found e es name item low is = by (eq_by_cmp name_cmp name e.0) refl
  where
    by : (b : Bool) → eq_by_cmp name_cmp name e.0 ≡ b
        → cond (eq_by_cmp name_cmp name e.0) (Some e.1) (finmap.find name_cmp name es) ≡ Some item
    by true same =
        let none : finmap.find name_cmp name es ≡ None =
        ap (λ (n : FileName). finmap.find name_cmp n es) (same_name name e.0 same) ∙ none_below name_cmp e.0 es low in
        let clash : Some item ≡ None = sym is ∙ none in
        absurd (cc)
    by false other = ap (λ (b : Bool). cond b (Some e.1) (finmap.find name_cmp name es)) other ∙ is

all_aside : (es : List (FileName × Item)) → T (is_sorted name_cmp es)
    → ((name : FileName) (item : Item) → finmap.find name_cmp name es ≡ Some item → is_aside (name, item) ≡ true)
    → list_all is_aside es ≡ true
all_aside [] sorted each = refl
all_aside (e ∷ es) sorted each =
    let parts = all_below (below_all name_cmp e.0 es) (is_sorted name_cmp es) sorted in
    both_true (is_aside e) (list_all is_aside es) (each e.0 e.1 (first_found e es))
    (all_aside es parts.1 (λ name item is. each name item (later_found e es name item parts.0 is)))

-- ---- the folder of a tree

module _ (dir : List ℕ) (is_named : is_folder_name dir ≡ true) where
  some : 1 ≤ length dir
  some = folder_has_bytes dir is_named

  stands_at : (names : Names) (what : Option Node) → finmap.get names dir ≡ what → stands names dir ≡ what
  stands_at names what is = sym (get_named names dir (λ empty. omega (arith, some, ap (λ (p : List ℕ). length p) empty))) ∙ is

  module _ (t : Tree) (folder : finmap.get t.names dir ≡ Some Folder_node) where
    place_is : place_of dir t ≡ Stands_with (files_in dir t)
    place_is = folder_place dir t (stands_at t.names (Some Folder_node) folder)

    abbrev item_there : FileName → Option Item
    item_there name = option_map (item_of t.contents) (finmap.get t.names (path_in dir name))

    -- each thing under a file's name is aside
    pub fresh_by : ((name : FileName) (item : Item) → IsFileName name
        → option_map (item_of t.contents) (finmap.get t.names (path_in dir name)) ≡ Some item → is_aside (name, item) ≡ true)
        → IsFresh (place_of dir t)
    unfolding IsFresh
    fresh_by each = subst IsFresh (sym place_is) (all_aside (finmap.entries (files_in dir t))
        (finmap.entries_sorted (files_in dir t)) (λ name item is. by name item (finmap.get-entries (files_in dir t) name ∙ is)))
      where
        by : (name : FileName) (item : Item) → finmap.get (files_in dir t) name ≡ Some item → is_aside (name, item) ≡ true
        by name item is =
            let fits : IsFileName name = file_names dir t name item some is in
            each name item fits (sym (files_are dir t name some fits) ∙ is)

    pub fresh_at : IsFresh (place_of dir t) → (name : FileName) (item : Item) → IsFileName name
        → option_map (item_of t.contents) (finmap.get t.names (path_in dir name)) ≡ Some item → is_aside (name, item) ≡ true
    unfolding IsFresh
    fresh_at fresh name item fits is =
        aside_at (finmap.entries (files_in dir t)) (subst IsFresh place_is fresh) name item
        (sym (finmap.get-entries (files_in dir t) name) ∙ files_are dir t name some fits ∙ is)

  -- where nothing has the folder's name it is fresh
  nothing_fresh : (t : Tree) → finmap.get t.names dir ≡ None → IsFresh (place_of dir t)
  unfolding IsFresh
  nothing_fresh t free = subst IsFresh (sym (no_place dir t (stands_at t.names None free))) tt

  image_name : (d : State) → d.pending ≡ [] → (t : Tree) → IsImage d t → (path : List ℕ)
      → finmap.get t.names path ≡ finmap.get (names_now d) path
  image_name d quiet t image path =
      ap (λ (names : Names). finmap.get names path) image.names
      ∙ settled_kept d quiet path (finmap.get (names_now d) path) refl image.kept

  -- ---- a new folder

  pub free_fresh : (d : State) → d.pending ≡ [] → finmap.get (names_now d) dir ≡ None → AllFresh dir d
  free_fresh d quiet free = record { each = λ t image. nothing_fresh t (image_name d quiet t image dir ∙ free) }

  module _ (d : State) (lawful : IsLawful d) (free : finmap.get (names_now d) dir ≡ None) (clear : AreClearable d) where
    abbrev made : State
    made = with_folder dir d

    vacant : IsVacant made dir 1 []
    vacant = new_vacant d dir is_named lawful free clear

    -- an empty folder is fresh
    empty_fresh : (t : Tree) → IsImage made t → IsFresh (place_of dir t)
    empty_fresh t image = fresh_by t (image_name made refl t image dir ∙ vacant.folder)
        (λ name item fits is. absurd (contains_none name (vacant.all name fits
        (ap is_some (sym (image_name made refl t image (path_in dir name))) ∙ some_node name item is))))
      where
        some_node : (name : FileName) (item : Item)
            → option_map (item_of t.contents) (finmap.get t.names (path_in dir name)) ≡ Some item
            → is_some (finmap.get t.names (path_in dir name)) ≡ true
        some_node name item is = by (finmap.get t.names (path_in dir name)) is
          where
            by : (node : Option Node) → option_map (item_of t.contents) node ≡ Some item → is_some node ≡ true
            by None at = cc
            by (Some node) at = refl

    pub made_fresh : AllFresh dir (with_folder dir d) × IsAtRest dir (with_folder dir d)
    made_fresh = (
      record { each = empty_fresh },
      record { quiet = refl; lead = vacant.lead; files = vacant.files; clear = vacant.clear },
    )

    module _ (quiet : d.pending ≡ []) where
      before_it : (t : Tree) → IsImage d t → IsKeptImage dir d t
      before_it t image = record {
        one = t;
        of = image;
        own = Still_fresh (nothing_fresh t (image_name d quiet t image dir ∙ free))
            (nothing_fresh t (image_name d quiet t image dir ∙ free));
        files = λ only. only;
        other = t;
        also = image;
        outside = record { names = λ name fits other. refl; items = λ name file fits other is. refl };
        clear = clear_image d clear t image;
      }

      module _ (t : Tree) (shown : IsShown (named (Put dir Folder_node) (names_now d)) d.files t) where
        abbrev one : Tree
        one = record { names = names_now d; contents = t.contents }

        one_is : IsImage d one
        one_is = record { kept = (reads_image d).kept; names = (reads_image d).names; files = shown.cut }

        image : IsImage made t
        image = record { kept = 0; names = shown.names ∙ sym (names_after d (Put dir Folder_node)); files = shown.cut }

        past : (other : List ℕ) → (other ≡ dir → ⊥) → finmap.get t.names other ≡ finmap.get (names_now d) other
        past other differs = ap (λ (names : Names). finmap.get names other) shown.names
            ∙ get_put_other (names_now d) other dir Folder_node differs

        no_file : (name : List ℕ) (file : FileName) → path_in name file ≡ dir → ⊥
        no_file name file same = apart_from dir name (spelled file) (flat dir (folder_is_component dir is_named)) (sym same)

        behind_it : IsKeptImage dir d t
        behind_it = record {
          one = one;
          of = one_is;
          own = Still_fresh (nothing_fresh one free) (empty_fresh t image);
          files = λ only. image_files made dir vacant.files t image;
          other = one;
          also = one_is;
          outside = record {
            names = λ name fits other. past name other;
            items = λ name file fits other is. ap (option_map (item_of t.contents))
                (past (path_in name file) (no_file name file));
          };
          clear = clear_image made vacant.clear t image;
        }

      pub folder_kept : KeepsFolder dir d (after d (folder_made dir d))
      folder_kept = record {
        each = λ t image. ⊎_elim (before_it t) (behind_it t) (named_image d (Put dir Folder_node) t image);
      }
