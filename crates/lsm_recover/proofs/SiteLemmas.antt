-- What stands under a store's folder's name, by its listing.
use Rattle.std.specs.Prelude.{◌≡◌, ℕ, ◌+◌, ◌^◌, ◌<◌, ◌≤◌, max, Bool, true, false, cond, ◌||◌, is_some, List, [], ◌∷◌, ◌++◌, length, All, Contains, T, Option, Some, None, option_map}
use Rattle.std.proofs.Common.{refl, sym, ap, subst, ◌∙◌, arith}
use Rattle.std.proofs.lemmas.Bool.{and_parts}
use Rattle.std.proofs.lemmas.Bool.Decides.{nat_tests}
use Rattle.std.proofs.lemmas.List.Elements.{All-nil, All-cons, All-weaker, All-contains, Contains-append_right}
use Rattle.std.proofs.lemmas.List.Folds.{list_any_at}
use Rattle.std.proofs.lemmas.List.Sums.{AllPass-from_list_all, list_all-from_AllPass}
use Rattle.std.specs.List.{list_all, list_any}
use Rattle.std.specs.Ordering.{eq_by_cmp}
use Rattle.std.specs.FinMap as finmap
use Rattle.std.specs.FinMap.Entries.{below_all, is_sorted}
use Rattle.lsm_names.specs.FileNames.{IsFileName, spelled}
use Rattle.lsm_names.specs.Paths.{is_path}
use Rattle.lsm_names.specs.declared.file_names.FileName.{FileName}
use Rattle.lsm_names.specs.declared.file_names.FileName.TheVariants.{Log, Table, Manifest, Temp, Current}
use Rattle.lsm_disk.specs.Names.{Node, Folder_node, File_node, path_cmp}
use Rattle.lsm_disk.specs.Images.{Tree}
use Rattle.lsm_disk.specs.Listing.{kind_by, listing}
use Rattle.lsm_disk.specs.declared.calls.Kind.{Kind}
use Rattle.lsm_disk.specs.declared.calls.Kind.TheVariants.{File, Folder}
use Rattle.lsm_disk.specs.declared.listing.Entry.{Entry}
use Rattle.lsm_folder.specs.Files.{Item, Files, bytes_in, item_of, files_in}
use Rattle.lsm_folder.specs.Names.{name_cmp, name_of, number_of}
use Rattle.lsm_folder.specs.Needed as needed
use Rattle.lsm_folder.specs.Needed.{IsFresh}
use Rattle.lsm_folder.proofs.FileLemmas.{same_name, name_itself, files_are, file_names}
use Rattle.lsm_folder.proofs.LiveLemmas.{all_below, none_below}
use Rattle.lsm_folder.proofs.NameLemmas.{name_again, name_only}
use Rattle.lsm_recover.specs.Listed.{names_in, next_number, number_behind}
use Rattle.lsm_recover.specs.Site.{is_current_by, is_current, has_current, is_aside_by, is_aside, are_aside, has_current_file, IsBefore, AreNumbered}
use Rattle.lsm_recover.proofs.EntryLemmas.{StandsAs, entry_told, entries_stand, IsNamed, names_named}

-- ---- the next number

pub next_least : (n : ℕ) (entries : List Entry) → n ≤ next_number n entries
next_least n [] = omega arith
next_least n (e ∷ es) =
    let more = next_least (max n (number_behind (name_of e.name))) es in
    omega (arith, more)

next_behind : (n : ℕ) (entries : List Entry) → All (λ (e : Entry). number_behind (name_of e.name) ≤ next_number n entries) entries
next_behind n [] = All-nil (λ (e : Entry). number_behind (name_of e.name) ≤ n)
next_behind n (x ∷ es) = All-cons (λ (e : Entry). number_behind (name_of e.name) ≤ next_number n (x ∷ es)) x es
    (let more = next_least (max n (number_behind (name_of x.name))) es in omega (arith, more))
    (next_behind (max n (number_behind (name_of x.name))) es)

number_small : (name : FileName) → IsFileName name → number_of name + 1 < 2 ^ 56
number_small (Log n) fits = grind (arith, nat_tests)
number_small (Table n) fits = grind (arith, nat_tests)
number_small (Manifest n) fits = grind (arith, nat_tests)
number_small (Temp n) fits = grind (arith, nat_tests)
number_small Current fits = omega arith

behind_small : (text : List ℕ) (o : Option FileName) → name_of text ≡ o → number_behind o < 2 ^ 56
behind_small text None is = omega arith
behind_small text (Some name) is = number_small name (name_only text name is).fits

next_most : (n : ℕ) (entries : List Entry) → n < 2 ^ 56 → next_number n entries < 2 ^ 56
next_most n [] small = small
next_most n (e ∷ es) small =
    let one = behind_small e.name (name_of e.name) refl in
    next_most (max n (number_behind (name_of e.name))) es (omega (arith, small, one))

-- the names in a listing come before its next number
pub listed_numbered : (n : ℕ) (entries : List Entry) → 1 ≤ n → n < 2 ^ 56 → AreNumbered (names_in entries) (next_number n entries)
listed_numbered n entries some small = record {
  some = omega (arith, some, next_least n entries);
  most = next_most n entries small;
  before = All-weaker (IsNamed entries) (IsBefore (next_number n entries)) before (names_in entries) (names_named entries);
}
  where
    before : (name : FileName) → IsNamed entries name → IsBefore (next_number n entries) name
    before name named =
        let behind = All-contains (λ (e : Entry). number_behind (name_of e.name) ≤ next_number n entries) entries named.by
        (next_behind n entries) named.among in (
          (name_only named.by.name name named.name_is).fits,
          omega (arith, behind, ap number_behind named.name_is),
        )

-- ---- the files of a folder

-- a passing map passes at each of its keys
pub pass_at : (p : FileName × Item → Bool) (es : List (FileName × Item)) → list_all p es ≡ true → (name : FileName) (item : Item)
    → finmap.find name_cmp name es ≡ Some item → p (name, item) ≡ true
pass_at p [] all name item is = cc
pass_at p (e ∷ es) all name item is =
    let parts = and_parts (p e) (list_all p es) all in
    elim (eq_by_cmp name_cmp name e.0) as (λ b. eq_by_cmp name_cmp name e.0 ≡ b
    → cond b (Some e.1) (finmap.find name_cmp name es) ≡ Some item → p (name, item) ≡ true) [
      | true ↦ λ same here. subst (λ (n : FileName). p (n, item) ≡ true) (sym (same_name name e.0 same))
          (subst (λ (i : Item). p (e.0, i) ≡ true) (same_item e.1 item here) parts.0)
      | false ↦ λ other there. pass_at p es parts.1 name item there
    ] refl is
  where
    same_item : (x y : Item) → Some x ≡ Some y → x ≡ y
    same_item x y same = cc

-- each entry of a map is what stands at its key
found_each : (es : List (FileName × Item)) → T (is_sorted name_cmp es)
    → All (λ (e : FileName × Item). finmap.find name_cmp e.0 es ≡ Some e.1) es
found_each [] sorted = All-nil (λ (e : FileName × Item). finmap.find name_cmp e.0 [] ≡ Some e.1)
found_each (x ∷ es) sorted =
    let both = all_below (below_all name_cmp x.0 es) (is_sorted name_cmp es) sorted in
    All-cons (λ (e : FileName × Item). finmap.find name_cmp e.0 (x ∷ es) ≡ Some e.1) x es
    (ap (λ (b : Bool). cond b (Some x.1) (finmap.find name_cmp x.0 es)) (name_itself x.0))
    (All-weaker (λ (e : FileName × Item). finmap.find name_cmp e.0 es ≡ Some e.1)
    (λ (e : FileName × Item). finmap.find name_cmp e.0 (x ∷ es) ≡ Some e.1) (behind both.0) es (found_each es both.1))
  where
    behind : T (below_all name_cmp x.0 es) → (e : FileName × Item) → finmap.find name_cmp e.0 es ≡ Some e.1
        → finmap.find name_cmp e.0 (x ∷ es) ≡ Some e.1
    behind below e there =
        elim (eq_by_cmp name_cmp e.0 x.0) as (λ b. eq_by_cmp name_cmp e.0 x.0 ≡ b
        → cond b (Some x.1) (finmap.find name_cmp e.0 es) ≡ Some e.1) [
          | true ↦ λ same.
              let clash : None ≡ Some e.1 = sym (none_below name_cmp x.0 es below)
              ∙ ap (λ (n : FileName). finmap.find name_cmp n es) (sym (same_name e.0 x.0 same)) ∙ there in
              absurd (cc)
          | false ↦ λ other. there
        ] refl

-- ---- CURRENT, by what stands under its name

-- a file stands there
abbrev pub is_file : Option Node → Bool
is_file None = false
is_file (Some Folder_node) = false
is_file (Some (File_node id)) = true

file_bytes : (contents : List (List ℕ)) (o : Option Node) → is_some (bytes_in (option_map (item_of contents) o)) ≡ is_file o
file_bytes contents None = refl
file_bytes contents (Some Folder_node) = refl
file_bytes contents (Some (File_node id)) = refl

kind_is_file : (node : Node) → kind_by node ≡ File → is_file (Some node) ≡ true
kind_is_file Folder_node is = cc
kind_is_file (File_node id) is = refl

record IsCurrent (o : Option FileName) (kind : Kind) : Type 0 where
  name : o ≡ Some Current
  file : kind ≡ File

current_is : (o : Option FileName) (kind : Kind) → is_current_by o kind ≡ true → IsCurrent o kind
current_is None kind is = cc
current_is (Some (Log n)) kind is = cc
current_is (Some (Table n)) kind is = cc
current_is (Some (Manifest n)) kind is = cc
current_is (Some (Temp n)) kind is = cc
current_is (Some Current) File is = record { name = refl; file = refl }
current_is (Some Current) Folder is = cc

-- one of the entries passes
record IsOne (p : Entry → Bool) (entries : List Entry) : Type 0 where
  one : Entry
  among : Contains entries one
  passes : p one ≡ true

any_one : (p : Entry → Bool) (entries : List Entry) → list_any p entries ≡ true → IsOne p entries
any_one p [] any = cc
any_one p (e ∷ es) any = elim (p e) as (λ b. p e ≡ b → (b || list_any p es) ≡ true → IsOne p (e ∷ es)) [
  | true ↦ λ is h. record { one = e; among = (0, omega arith, refl); passes = is }
  | false ↦ λ is h. let later = any_one p es h in
      record { one = later.one; among = Contains-append_right (e ∷ []) es later.one later.among; passes = later.passes }
] refl any

one_any : (p : Entry → Bool) (entries : List Entry) (e : Entry) → Contains entries e → p e ≡ true → list_any p entries ≡ true
one_any p entries e among is = list_any_at p entries among.0 e among.1 (ap p among.2 ∙ is)

-- ---- beside what a new store may be made, by what stands under a name

aside_node : (contents : List (List ℕ)) (name : FileName) (node : Node) → is_aside_by (Some name) (kind_by node) ≡ true
    → needed.is_aside (name, item_of contents node) ≡ true
aside_node contents (Log n) node is = cc
aside_node contents (Table n) node is = cc
aside_node contents (Manifest n) Folder_node is = cc
aside_node contents (Manifest n) (File_node id) is = refl
aside_node contents (Temp n) Folder_node is = cc
aside_node contents (Temp n) (File_node id) is = refl
aside_node contents Current node is = cc

node_aside : (contents : List (List ℕ)) (name : FileName) (node : Node) → needed.is_aside (name, item_of contents node) ≡ true
    → is_aside_by (Some name) (kind_by node) ≡ true
node_aside contents (Log n) node is = cc
node_aside contents (Table n) node is = cc
node_aside contents (Manifest n) Folder_node is = cc
node_aside contents (Manifest n) (File_node id) is = refl
node_aside contents (Temp n) Folder_node is = cc
node_aside contents (Temp n) (File_node id) is = refl
node_aside contents Current node is = cc

-- ---- a folder

module _ (first : ℕ) (more : List ℕ) (short : length (first ∷ more) + 30 ≤ 160) (spells : is_path (first ∷ more) ≡ true)
    (tree : Tree) where
  abbrev dir : List ℕ
  dir = first ∷ more

  abbrev es : List (List ℕ × Node)
  es = finmap.entries tree.names

  abbrev entries : List Entry
  entries = listing (first ∷ more) tree.names

  abbrev files : Files
  files = files_in (first ∷ more) tree

  abbrev node_at : FileName → Option Node
  node_at name = finmap.get tree.names (first ∷ more ++ 47 ∷ spelled name)

  item_is : (name : FileName) → IsFileName name → finmap.get files name ≡ option_map (item_of tree.contents) (node_at name)
  item_is name fits = files_are dir tree name (omega arith) fits

  told : (name : FileName) → IsFileName name → (node : Node) → node_at name ≡ Some node
      → Contains entries (record { name = spelled name; kind = kind_by node })
  told name fits node is = entry_told first more short spells name fits es node
      (sym (finmap.get-entries tree.names (dir ++ 47 ∷ spelled name)) ∙ is)

  stand : All (StandsAs dir es) entries
  stand = entries_stand first more es (finmap.entries_sorted tree.names)

  -- what an entry of a file's name is
  entry_node : (e : Entry) (name : FileName) → name_of e.name ≡ Some name → (at : StandsAs dir es e) → node_at name ≡ Some at.node
  entry_node e name is at =
      finmap.get-entries tree.names (dir ++ 47 ∷ spelled name)
      ∙ ap (λ (text : List ℕ). finmap.find path_cmp (dir ++ 47 ∷ text) es) (sym (name_only e.name name is).is)
      ∙ at.found

  -- ---- CURRENT

  current_by_node : has_current_file files ≡ is_file (node_at Current)
  current_by_node = ap (λ (o : Option Item). is_some (bytes_in o)) (item_is Current tt) ∙ file_bytes tree.contents (node_at Current)

  pub current_there : has_current entries ≡ true → has_current_file files ≡ true
  unfolding has_current
  current_there has =
      let one = any_one is_current entries has in
      let is = current_is (name_of one.one.name) one.one.kind one.passes in
      let at = All-contains (StandsAs dir es) entries one.one stand one.among in
      current_by_node ∙ ap is_file (entry_node one.one Current is.name at)
      ∙ kind_is_file at.node (sym at.kind ∙ is.file)

  pub current_missing : has_current entries ≡ false → has_current_file files ≡ false
  unfolding has_current
  current_missing none = current_by_node ∙ by (node_at Current) refl
    where
      by : (o : Option Node) → node_at Current ≡ o → is_file o ≡ false
      by None is = refl
      by (Some Folder_node) is = refl
      by (Some (File_node id)) is =
          let has : list_any is_current entries ≡ true = one_any is_current entries (record { name = spelled Current; kind = File })
          (told Current tt (File_node id) is) (ap (λ (o : Option FileName). is_current_by o File) (name_again Current tt)) in
          let clash : true ≡ false = sym has ∙ none in
          cc

  -- ---- a fresh folder

  file_aside : All (λ (e : Entry). is_aside e ≡ true) entries → (name : FileName) (item : Item) → finmap.get files name ≡ Some item
      → needed.is_aside (name, item) ≡ true
  file_aside each name item is = by (node_at name) refl
    where
      fits : IsFileName name
      fits = file_names (first ∷ more) tree name item (omega arith) is

      by : (o : Option Node) → node_at name ≡ o → needed.is_aside (name, item) ≡ true
      by None none =
          let clash : None ≡ Some item = sym (item_is name fits ∙ ap (option_map (item_of tree.contents)) none) ∙ is in
          absurd (no_item item clash)
        where
          no_item : (x : Item) → None ≡ Some x → ⊥
          no_item x same = cc
      by (Some node) there =
          let aside : is_aside_by (name_of (spelled name)) (kind_by node) ≡ true =
          All-contains (λ (e : Entry). is_aside e ≡ true) entries (record { name = spelled name; kind = kind_by node }) each
          (told name fits node there) in
          subst (λ (i : Item). needed.is_aside (name, i) ≡ true)
          (same_item (item_of tree.contents node) item
          (sym (item_is name fits ∙ ap (option_map (item_of tree.contents)) there) ∙ is))
          (aside_node tree.contents name node
          (sym (ap (λ (o : Option FileName). is_aside_by o (kind_by node)) (name_again name fits)) ∙ aside))
        where
          same_item : (x y : Item) → Some x ≡ Some y → x ≡ y
          same_item x y same = cc

  pub aside_fresh : are_aside entries ≡ true → list_all needed.is_aside (finmap.entries files) ≡ true
  unfolding are_aside
  aside_fresh all =
      list_all-from_AllPass needed.is_aside (finmap.entries files)
      (All-weaker (λ (e : FileName × Item). finmap.find name_cmp e.0 (finmap.entries files) ≡ Some e.1)
      (λ (e : FileName × Item). needed.is_aside e ≡ true)
      (λ e found. file_aside (AllPass-from_list_all is_aside entries all) e.0 e.1 (finmap.get-entries files e.0 ∙ found))
      (finmap.entries files) (found_each (finmap.entries files) (finmap.entries_sorted files)))

  entry_aside : list_all needed.is_aside (finmap.entries files) ≡ true → (e : Entry) → StandsAs dir es e → is_aside e ≡ true
  entry_aside all e at = by (name_of e.name) refl
    where
      by : (o : Option FileName) → name_of e.name ≡ o → is_aside_by o e.kind ≡ true
      by None is = refl
      by (Some name) is =
          let fits = (name_only e.name name is).fits in
          let there = entry_node e name is at in
          subst (λ (k : Kind). is_aside_by (Some name) k ≡ true) (sym at.kind)
          (node_aside tree.contents name at.node
          (pass_at needed.is_aside (finmap.entries files) all name (item_of tree.contents at.node)
          (sym (finmap.get-entries files name) ∙ item_is name fits ∙ ap (option_map (item_of tree.contents)) there)))

  pub fresh_aside : list_all needed.is_aside (finmap.entries files) ≡ true → are_aside entries ≡ true
  unfolding are_aside
  fresh_aside all = list_all-from_AllPass is_aside entries
      (All-weaker (StandsAs dir es) (λ (e : Entry). is_aside e ≡ true) (entry_aside all) entries stand)
