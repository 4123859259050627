-- The names of a fresh folder's files: those of earlier openings, whose numbers come before the next one.
use Rattle.std.specs.Prelude.{◌≡◌, ◌↔◌, ℕ, ◌+◌, ◌^◌, ◌<◌, ◌≤◌, Bool, true, false, cond, is_some, List, [], ◌∷◌, map, take, length, All, Contains, Option, Some, None, option_map}
use Rattle.std.proofs.Common.{refl, sym, ap, subst, ◌∙◌, arith}
use Rattle.std.proofs.lemmas.Bool.{and_parts}
use Rattle.std.proofs.lemmas.List.Elements.{All-nil, All-cons, All-weaker, All-contains, All-contains_itself, Contains-append_right}
use Rattle.std.specs.List.{list_all}
use Rattle.std.specs.Ordering.{eq_by_cmp}
use Rattle.std.specs.FinMap as finmap
use Rattle.lsm_names.specs.Folders.{is_folder_name}
use Rattle.lsm_names.specs.FileNames.{IsFileName, spelled}
use Rattle.lsm_names.specs.declared.file_names.FileName.{FileName}
use Rattle.lsm_names.specs.declared.file_names.FileName.TheVariants.{Log, Table, Manifest, Temp, Current}
use Rattle.lsm_names.proofs.FolderLemmas.{folder_has_bytes}
use Rattle.lsm_disk.specs.Names.{Node, Folder_node, all_named}
use Rattle.lsm_disk.specs.State.{State, names_now}
use Rattle.lsm_disk.specs.Images.{tree_now}
use Rattle.lsm_disk.specs.Tree.{IsLawful}
use Rattle.lsm_disk.specs.Dest.{path_in}
use Rattle.lsm_disk.proofs.Cuts.{take_none}
use Rattle.lsm_disk.proofs.Lawful.{get_named}
use Rattle.lsm_disk.proofs.Tree.{free_below, lawful_now}
use Rattle.lsm_folder.specs.Files.{Item, A_folder, Files, files_in, item_of, place_of}
use Rattle.lsm_folder.specs.Names.{name_cmp}
use Rattle.lsm_folder.specs.Needed.{is_aside, IsFresh}
use Rattle.lsm_folder.proofs.FileLemmas.{same_name, name_itself, files_are, file_names, folder_place}
use Rattle.lsm_refine.specs.Pins.{AreClearable}
use Rattle.lsm_refine.specs.Beside.{LeadToFiles}
use Rattle.lsm_refine.specs.New.{number_in, next_number, IsLeftover}
use Rattle.lsm_refine.specs.Openings.{names_in}
use Rattle.lsm_refine.specs.Vacant.{IsVacant}
use Rattle.lsm_refine.proofs.NewStoreLemmas.{some_folder, slash_some, contains_none, not_some}

-- ---- the next number

abbrev IsBelow : ℕ → FileName → Type 0
IsBelow next name = number_in name + 1 ≤ next

all_below : (names : List FileName) → All (IsBelow (next_number names)) names
all_below [] = All-nil (IsBelow 1)
all_below (name ∷ names) = All-cons (IsBelow (next_number (name ∷ names))) name names (omega arith)
    (All-weaker (IsBelow (next_number names)) (IsBelow (next_number (name ∷ names)))
    (λ n below. omega (arith, below)) names (all_below names))

one_least : (names : List FileName) → 1 ≤ next_number names
one_least [] = omega arith
one_least (name ∷ names) = omega (arith, one_least names)

next_within : (names : List FileName) (k : ℕ) → 1 ≤ k → ((name : FileName) → Contains names name → IsBelow k name)
    → next_number names ≤ k
next_within [] k least each = least
next_within (name ∷ names) k least each =
    let here : IsBelow k name = each name (0, omega arith, refl) in
    let more = next_within names k least (λ n among. each n (Contains-append_right (name ∷ []) names n among)) in
    omega (arith, here, more)

next_below : (names : List FileName) (name : FileName) → Contains names name → IsBelow (next_number names) name
next_below names name among = All-contains (IsBelow (next_number names)) names name (all_below names) among

-- lists of the same names have the same next number
pub same_next : (some others : List FileName) → ((name : FileName) → Contains some name → Contains others name)
    → ((name : FileName) → Contains others name → Contains some name) → next_number some ≡ next_number others
same_next some others to back =
    let less = next_within some (next_number others) (one_least others) (λ name among. next_below others name
    (to name among)) in
    let more = next_within others (next_number some) (one_least some) (λ name among. next_below some name (back name among)) in
    omega (arith, less, more)

-- ---- the files of a folder

abbrev keys : List (FileName × Item) → List FileName
keys es = map (λ (entry : FileName × Item). entry.0) es

abbrev IsFound : List (FileName × Item) → FileName → Type 0
IsFound es name = is_some (finmap.find name_cmp name es) ≡ true

found_behind : (e : FileName × Item) (es : List (FileName × Item)) (name : FileName) → IsFound es name → IsFound (e ∷ es) name
found_behind e es name found = by (eq_by_cmp name_cmp name e.0)
  where
    by : (b : Bool) → is_some (cond b (Some e.1) (finmap.find name_cmp name es)) ≡ true
    by true = refl
    by false = found

found_first : (e : FileName × Item) (es : List (FileName × Item)) → IsFound (e ∷ es) e.0
found_first e es = ap (λ (b : Bool). is_some (cond b (Some e.1) (finmap.find name_cmp e.0 es))) (name_itself e.0)

all_found : (es : List (FileName × Item)) → All (IsFound es) (keys es)
all_found [] = All-nil (IsFound [])
all_found (e ∷ es) = All-cons (IsFound (e ∷ es)) e.0 (keys es) (found_first e es)
    (All-weaker (IsFound es) (IsFound (e ∷ es)) (found_behind e es) (keys es) (all_found es))

found_among : (es : List (FileName × Item)) (name : FileName) → IsFound es name → Contains (keys es) name
found_among [] name found = cc
found_among (e ∷ es) name found =
    elim (eq_by_cmp name_cmp name e.0) as (λ b. eq_by_cmp name_cmp name e.0 ≡ b → is_some (cond b (Some e.1)
    (finmap.find name_cmp name es)) ≡ true → Contains (keys (e ∷ es)) name) [
      | true ↦ λ same is. (0, omega arith, sym (same_name name e.0 same))
      | false ↦ λ other is. Contains-append_right (e.0 ∷ []) (keys es) name (found_among es name is)
    ] refl found

-- each of them is aside
pub aside_at : (es : List (FileName × Item)) → list_all is_aside es ≡ true → (name : FileName) (item : Item)
    → finmap.find name_cmp name es ≡ Some item → is_aside (name, item) ≡ true
aside_at [] all name item is = cc
aside_at (e ∷ es) all name item is =
    let parts = and_parts (is_aside e) (list_all is_aside es) all in
    elim (eq_by_cmp name_cmp name e.0) as (λ b. eq_by_cmp name_cmp name e.0 ≡ b → cond b (Some e.1)
    (finmap.find name_cmp name es) ≡ Some item → is_aside (name, item) ≡ true) [
      | true ↦ λ same here. subst (λ (n : FileName). is_aside (n, item) ≡ true) (sym (same_name name e.0 same))
          (subst (λ (i : Item). is_aside (e.0, i) ≡ true) (same_item e.1 item here) parts.0)
      | false ↦ λ other there. aside_at es parts.1 name item there
    ] refl is
  where
    same_item : (x y : Item) → Some x ≡ Some y → x ≡ y
    same_item x y same = cc

no_folder_aside : (name : FileName) → is_aside (name, A_folder) ≡ true → ⊥
no_folder_aside (Log n) is = cc
no_folder_aside (Table n) is = cc
no_folder_aside (Manifest n) is = cc
no_folder_aside (Temp n) is = cc
no_folder_aside Current is = cc

aside_is : (m : ℕ) (name : FileName) (item : Item) → is_aside (name, item) ≡ true → IsFileName name → IsBelow m name
    → IsLeftover m name
aside_is m (Log n) item aside fits below = cc
aside_is m (Table n) item aside fits below = cc
aside_is m (Manifest n) item aside fits below = (fits, omega (arith, below))
aside_is m (Temp n) item aside fits below = (fits, omega (arith, below))
aside_is m Current item aside fits below = cc

module _ (d : State) (dir : List ℕ) (named_dir : is_folder_name dir ≡ true) where
  abbrev files : Files
  files = files_in dir (tree_now d)

  some_bytes : 1 ≤ length dir
  some_bytes = folder_has_bytes dir named_dir

  abbrev node_at : FileName → Option Node
  node_at name = finmap.get (names_now d) (path_in dir name)

  item_found : (name : FileName) → IsFileName name → finmap.find name_cmp name (finmap.entries files) ≡ option_map (item_of
      (tree_now d).contents) (node_at name)
  item_found name fits = sym (finmap.get-entries files name) ∙ files_are dir (tree_now d) name some_bytes fits

  module _ (names : List FileName)
      (are : (name : FileName) → IsFileName name → Contains names name ↔ (is_some (finmap.get (names_now d)
      (path_in dir name)) ≡ true)) where
    some_item : (o : Option Node) → is_some o ≡ true → is_some (option_map (item_of (tree_now d).contents) o) ≡ true
    some_item None is = cc
    some_item (Some node) is = refl

    some_node : (o : Option Node) (item : Item) → option_map (item_of (tree_now d).contents) o ≡ Some item → is_some o ≡ true
    some_node None item is = cc
    some_node (Some node) item is = refl

    to : (fit : All IsFileName names) (name : FileName) → Contains names name → Contains (names_in dir (tree_now d)) name
    to fit name among =
        let fits : IsFileName name = All-contains IsFileName names name fit among in
        found_among (finmap.entries files) name (ap is_some (item_found name fits) ∙ some_item (node_at name)
        ((are name fits).0 among))

    back : (name : FileName) → Contains (names_in dir (tree_now d)) name → Contains names name
    back name among = by (finmap.find name_cmp name (finmap.entries files)) refl
      where
        by : (o : Option Item) → finmap.find name_cmp name (finmap.entries files) ≡ o → Contains names name
        by None none =
            let found : IsFound (finmap.entries files) name = All-contains (IsFound (finmap.entries files)) (keys
            (finmap.entries files)) name
            (all_found (finmap.entries files)) among in
            absurd (clash (finmap.find name_cmp name (finmap.entries files)) none found)
          where
            clash : (o : Option Item) → o ≡ None → is_some o ≡ true → ⊥
            clash None none some = cc
            clash (Some item) none some = cc
        by (Some item) there =
            let fits : IsFileName name = file_names dir (tree_now d) name item some_bytes (finmap.get-entries files name
            ∙ there) in
            (are name fits).1 (some_node (node_at name) item (sym (item_found name fits) ∙ there))

    pub fresh_number : All IsFileName names → next_number names ≡ next_number (names_in dir (tree_now d))
    fresh_number fit = same_next names (names_in dir (tree_now d)) (to fit) back

    module _ (fit : All IsFileName names) (settled : d.pending ≡ []) (folder : finmap.get (names_now d) dir ≡ Some Folder_node)
        (fresh : IsFresh (place_of dir (tree_now d))) where
      all_aside : list_all is_aside (finmap.entries files) ≡ true
      unfolding IsFresh
      all_aside = subst IsFresh (folder_place dir (tree_now d) (sym (get_named (names_now d) dir (some_folder dir named_dir))
          ∙ folder)) fresh

      aside_node : (name : FileName) → IsFileName name → (node : Node) → node_at name ≡ Some node
          → is_aside (name, item_of (tree_now d).contents node) ≡ true
      aside_node name fits node there = aside_at (finmap.entries files) all_aside name (item_of (tree_now d).contents node)
          (item_found name fits ∙ ap (option_map (item_of (tree_now d).contents)) there)

      leftover_is : (name : FileName) → Contains names name → IsLeftover (next_number names) name
      leftover_is name among = by (node_at name) refl
        where
          fits : IsFileName name
          fits = All-contains IsFileName names name fit among

          by : (o : Option Node) → node_at name ≡ o → IsLeftover (next_number names) name
          by None none = absurd (not_some (node_at name) none ((are name fits).0 among))
          by (Some node) there = aside_is (next_number names) name (item_of (tree_now d).contents node)
              (aside_node name fits node there) fits (next_below names name among)

      cut_now : (k : ℕ) (path : List ℕ) (what : Option Node) → finmap.get (all_named (take k d.pending) d.durable) path ≡ what
          → finmap.get (names_now d) path ≡ what
      cut_now k path what is =
          ap (λ ops. finmap.get (all_named ops d.durable) path) settled
          ∙ sym (ap (λ ops. finmap.get (all_named ops d.durable) path) (take_none k))
          ∙ sym (ap (λ ops. finmap.get (all_named (take k ops) d.durable) path) settled) ∙ is

      pub fresh_vacant : LeadToFiles d → AreClearable d → next_number names + 2 < 2 ^ 56 → IsVacant d dir
          (next_number names) names
      fresh_vacant lead clear most = record {
        least = one_least names;
        most = most;
        settled = settled;
        folder = folder;
        there = λ name among. (are name (All-contains IsFileName names name fit among)).0 among;
        all = λ name fits some. (are name fits).1 some;
        earlier = All-weaker (Contains names) (IsLeftover (next_number names)) leftover_is names (All-contains_itself names);
        files = record {
          no_folder = λ name k fits is. no_folder_aside name (aside_node name fits Folder_node (cut_now k (path_in dir name)
              (Some Folder_node) is));
        };
        lead = lead;
        clear = clear;
      }

-- nothing stands in a folder that isn't there
pub nothing_number : (d : State) (dir : List ℕ) → is_folder_name dir ≡ true → IsLawful d → finmap.get (names_now d) dir ≡ None
    → next_number (names_in dir (tree_now d)) ≡ 1
nothing_number d dir named_dir lawful free = sym (fresh_number d dir named_dir []
    (λ name fits. (
      λ among. absurd (contains_none name among),
      λ some. absurd (not_some (finmap.get (names_now d) (path_in dir name))
          (get_named (names_now d) (path_in dir name) (slash_some dir (spelled name))
          ∙ free_below (names_now d) dir (spelled name) (lawful_now d lawful)
          (sym (get_named (names_now d) dir (some_folder dir named_dir)) ∙ free)) some),
    ))
    (All-nil IsFileName))
