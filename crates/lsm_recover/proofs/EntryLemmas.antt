-- What a folder lists, by the names of the disk: the entries are those that stand directly in it.
use Rattle.std.specs.Prelude.{◌≡◌, ◌↔◌, ℕ, ◌+◌, ◌≤◌, Bool, true, false, cond, is_some, List, [], ◌∷◌, ◌++◌, length, All, Contains, T, Option, Some, None}
use Rattle.std.proofs.Common.{refl, sym, ap, subst, ◌∙◌, arith}
use Rattle.std.proofs.lemmas.List.Elements.{All-nil, All-cons, All-weaker, All-contains, Contains-append_right}
use Rattle.std.specs.List.{cons_option}
use Rattle.std.specs.Ordering.{eq_by_cmp}
use Rattle.std.specs.FinMap as finmap
use Rattle.std.specs.FinMap.Entries.{below_all, is_sorted}
use Rattle.lsm_names.specs.FileNames.{IsFileName, spelled}
use Rattle.lsm_names.specs.Paths.{is_path}
use Rattle.lsm_names.specs.declared.file_names.FileName.{FileName}
use Rattle.lsm_names.proofs.FileNameLemmas.{spelled_is_component, spelled_is_short}
use Rattle.lsm_names.proofs.PathLemmas.{joined_is_path, component_is_path, bytes_of_component, no_slash, path_has_bytes}
use Rattle.lsm_disk.specs.Names.{Node, Names, path_cmp, inside}
use Rattle.lsm_disk.specs.Listing.{kind_by, one_part, listed_name, with_entry, listed, listing}
use Rattle.lsm_disk.specs.declared.listing.Entry.{Entry}
use Rattle.lsm_disk.proofs.Moves.{inside_joined}
use Rattle.lsm_disk.proofs.Paths.{same_path, path_itself}
use Rattle.lsm_folder.specs.Names.{name_of}
use Rattle.lsm_folder.proofs.LiveLemmas.{all_below, none_below}
use Rattle.lsm_folder.proofs.NameLemmas.{name_again, name_only}
use Rattle.lsm_recover.specs.Listed.{names_in}
use Rattle.lsm_recover.proofs.FoundLogLemmas.{name_is}

same_node : (x y : Node) → Some x ≡ Some y → x ≡ y
same_node x y e = cc

abbrev pub entry : List ℕ → Node → Entry
entry name node = record { name = name; kind = kind_by node }

-- ---- an entry of what stands there

-- what stands at the entry's path has its kind
pub record StandsAs (dir : List ℕ) (es : List (List ℕ × Node)) (e : Entry) : Type 0 where
  pub node : Node
  pub found : finmap.find path_cmp (dir ++ 47 ∷ e.name) es ≡ Some node
  pub kind : e.kind ≡ kind_by node

module _ (first : ℕ) (more : List ℕ) where
  abbrev dir : List ℕ
  dir = first ∷ more

  module _ (short : length (first ∷ more) + 30 ≤ 160) (spells : is_path (first ∷ more) ≡ true) (name : FileName)
      (fits : IsFileName name) where
    abbrev path : List ℕ
    path = dir ++ 47 ∷ spelled name

    listed_file : listed_name dir path ≡ Some (spelled name)
    listed_file =
        let part = spelled_is_component name fits in
        let is = joined_is_path dir (spelled name) spells (component_is_path (spelled name) part) (omega
        (arith, short, spelled_is_short name fits)) in
        ap (λ (b : Bool). cond b (one_part (inside dir path)) None) is
        ∙ ap one_part (inside_joined first more (spelled name))
        ∙ ap (λ (o : Option (List ℕ)). cond (is_some o) None (Some (spelled name))) (no_slash (spelled name)
        (bytes_of_component (spelled name) part))

    passed : (o : Option (List ℕ)) (other node : Node) (es : List Entry) → Contains es (entry (spelled name) node)
        → Contains (with_entry o other es) (entry (spelled name) node)
    passed None other node es among = among
    passed (Some part) other node es among = Contains-append_right (entry part other ∷ []) es (entry (spelled name) node) among

    -- what stands under a file's name is listed
    pub entry_told : (es : List (List ℕ × Node)) (node : Node)
        → finmap.find path_cmp (first ∷ more ++ 47 ∷ spelled name) es ≡ Some node
        → Contains (listed (first ∷ more) es) (record { name = spelled name; kind = kind_by node })
    entry_told [] node is = cc
    entry_told (e ∷ es) node is =
        elim (eq_by_cmp path_cmp path e.0) as (λ b. eq_by_cmp path_cmp path e.0 ≡ b
        → cond b (Some e.1) (finmap.find path_cmp path es) ≡ Some node
        → Contains (with_entry (listed_name dir e.0) e.1 (listed dir es)) (entry (spelled name) node)) [
          | true ↦ λ same here.
              let named : listed_name dir e.0 ≡ Some (spelled name) = ap (listed_name dir) (sym (same_path path e.0 same))
              ∙ listed_file in
              subst (λ (o : Option (List ℕ)). Contains (with_entry o e.1 (listed dir es)) (entry (spelled name) node)) (sym named)
              (subst (λ (n : Node). Contains (entry (spelled name) n ∷ listed dir es) (entry (spelled name) node))
              (sym (same_node e.1 node here)) (0, omega arith, refl))
          | false ↦ λ other there. passed (listed_name dir e.0) e.1 node (listed dir es) (entry_told es node there)
        ] refl is

  module _ (at : List ℕ) (node : Node) (es : List (List ℕ × Node)) (below : T (below_all path_cmp at es)) where
    behind : (e : Entry) → StandsAs dir es e → StandsAs dir ((at, node) ∷ es) e
    behind e there = record {
      node = there.node;
      found =
          elim (eq_by_cmp path_cmp (dir ++ 47 ∷ e.name) at) as (λ b. eq_by_cmp path_cmp (dir ++ 47 ∷ e.name) at ≡ b
          → cond b (Some node) (finmap.find path_cmp (dir ++ 47 ∷ e.name) es) ≡ Some there.node) [
            | true ↦ λ same.
                let clash : None ≡ Some there.node = sym (none_below path_cmp at es below)
                ∙ ap (λ (p : List ℕ). finmap.find path_cmp p es) (sym (same_path (dir ++ 47 ∷ e.name) at same))
                ∙ there.found in
                absurd (cc)
            | false ↦ λ other. there.found
          ] refl;
      kind = there.kind;
    }

    here : (name : List ℕ) → at ≡ dir ++ 47 ∷ name → StandsAs dir ((at, node) ∷ es) (entry name node)
    here name is = record {
      node = node;
      found = ap (λ (b : Bool). cond b (Some node) (finmap.find path_cmp (dir ++ 47 ∷ name) es))
          (subst (λ (p : List ℕ). eq_by_cmp path_cmp (dir ++ 47 ∷ name) p ≡ true) (sym is) (path_itself (dir ++ 47 ∷ name)));
      kind = refl;
    }

    one_more : (o : Option (List ℕ)) → listed_name dir at ≡ o → All (StandsAs dir es) (listed dir es)
        → All (StandsAs dir ((at, node) ∷ es)) (with_entry o node (listed dir es))
    one_more None is rest = All-weaker (StandsAs dir es) (StandsAs dir ((at, node) ∷ es)) behind (listed dir es) rest
    one_more (Some name) is rest = All-cons (StandsAs dir ((at, node) ∷ es)) (entry name node) (listed dir es)
        (here name (name_is first more 0 at name is))
        (All-weaker (StandsAs dir es) (StandsAs dir ((at, node) ∷ es)) behind (listed dir es) rest)

  -- what is listed stands there
  pub entries_stand : (es : List (List ℕ × Node)) → T (is_sorted path_cmp es)
      → All (StandsAs (first ∷ more) es) (listed (first ∷ more) es)
  entries_stand [] sorted = All-nil (StandsAs dir [])
  entries_stand (e ∷ es) sorted =
      let both = all_below (below_all path_cmp e.0 es) (is_sorted path_cmp es) sorted in
      one_more e.0 e.1 es both.0 (listed_name dir e.0) refl (entries_stand es both.1)

-- ---- the names of files among entries

-- one of the entries has this name
pub record IsNamed (entries : List Entry) (name : FileName) : Type 0 where
  pub by : Entry
  pub among : Contains entries by
  pub name_is : name_of by.name ≡ Some name

later_named : (e : Entry) (es : List Entry) (name : FileName) → IsNamed es name → IsNamed (e ∷ es) name
later_named e es name named = record {
  by = named.by;
  among = Contains-append_right (e ∷ []) es named.by named.among;
  name_is = named.name_is;
}

named_more : (e : Entry) (es : List Entry) (o : Option FileName) → name_of e.name ≡ o → All (IsNamed es) (names_in es)
    → All (IsNamed (e ∷ es)) (cons_option o (names_in es))
named_more e es None is rest = All-weaker (IsNamed es) (IsNamed (e ∷ es)) (later_named e es) (names_in es) rest
named_more e es (Some name) is rest = All-cons (IsNamed (e ∷ es)) name (names_in es)
    (record { by = e; among = (0, omega arith, refl); name_is = is })
    (All-weaker (IsNamed es) (IsNamed (e ∷ es)) (later_named e es) (names_in es) rest)

-- the names in a listing are those of entries
pub names_named : (entries : List Entry) → All (IsNamed entries) (names_in entries)
names_named [] = All-nil (IsNamed [])
names_named (e ∷ es) = named_more e es (name_of e.name) refl (names_named es)

passed_name : (o : Option FileName) (names : List FileName) (name : FileName) → Contains names name
    → Contains (cons_option o names) name
passed_name None names name there = there
passed_name (Some other) names name there = Contains-append_right (other ∷ []) names name there

each_among : (name : FileName) (es : List Entry) → All (λ (x : Entry). name_of x.name ≡ Some name → Contains (names_in es) name) es
each_among name [] = All-nil (λ (x : Entry). name_of x.name ≡ Some name → Contains (names_in []) name)
each_among name (x ∷ es) = All-cons (λ (y : Entry). name_of y.name ≡ Some name → Contains (names_in (x ∷ es)) name) x es
    (λ here. subst (λ (o : Option FileName). Contains (cons_option o (names_in es)) name) (sym here) (0, omega arith, refl))
    (All-weaker (λ (y : Entry). name_of y.name ≡ Some name → Contains (names_in es) name)
    (λ (y : Entry). name_of y.name ≡ Some name → Contains (names_in (x ∷ es)) name)
    (λ y later named. passed_name (name_of x.name) (names_in es) name (later named)) es (each_among name es))

-- an entry's name is among them
pub name_among : (entries : List Entry) (e : Entry) (name : FileName) → Contains entries e → name_of e.name ≡ Some name
    → Contains (names_in entries) name
name_among entries e name among is = All-contains (λ (x : Entry). name_of x.name ≡ Some name → Contains (names_in entries) name)
    entries e (each_among name entries) among is

-- each of them is a file's
pub names_fit : (entries : List Entry) → All IsFileName (names_in entries)
names_fit entries = All-weaker (IsNamed entries) IsFileName
    (λ name named. (name_only named.by.name name named.name_is).fits) (names_in entries) (names_named entries)

-- ---- the names of files in a folder

-- the names in a folder's listing are those under which something stands
pub names_stand : (dir : List ℕ) (names : Names) → length dir + 30 ≤ 160 → is_path dir ≡ true → (name : FileName) → IsFileName name
    → Contains (names_in (listing dir names)) name ↔ (is_some (finmap.get names (dir ++ 47 ∷ spelled name)) ≡ true)
names_stand [] names short spells name fits = absurd (omega (arith, path_has_bytes [] spells))
names_stand (first ∷ more) names short spells name fits = (there, told)
  where
    there : Contains (names_in (listing (first ∷ more) names)) name → is_some (finmap.get names (first ∷ more ++ 47 ∷ spelled name)) ≡ true
    there among =
        let named = All-contains (IsNamed (listing (first ∷ more) names)) (names_in (listing (first ∷ more) names)) name
        (names_named (listing (first ∷ more) names)) among in
        let stands = All-contains (StandsAs (first ∷ more) (finmap.entries names)) (listing (first ∷ more) names) named.by
        (entries_stand first more (finmap.entries names) (finmap.entries_sorted names)) named.among in
        ap is_some (finmap.get-entries names (first ∷ more ++ 47 ∷ spelled name)
        ∙ ap (λ (text : List ℕ). finmap.find path_cmp (first ∷ more ++ 47 ∷ text) (finmap.entries names))
        (sym (name_only named.by.name name named.name_is).is)
        ∙ stands.found)

    by : (o : Option Node) → finmap.get names (first ∷ more ++ 47 ∷ spelled name) ≡ o → is_some o ≡ true
        → Contains (names_in (listing (first ∷ more) names)) name
    by None none some = cc
    by (Some node) is some = name_among (listing (first ∷ more) names) (record { name = spelled name; kind = kind_by node }) name
        (entry_told first more short spells name fits (finmap.entries names) node
        (sym (finmap.get-entries names (first ∷ more ++ 47 ∷ spelled name)) ∙ is))
        (name_again name fits)

    told : is_some (finmap.get names (first ∷ more ++ 47 ∷ spelled name)) ≡ true
        → Contains (names_in (listing (first ∷ more) names)) name
    told some = by (finmap.get names (first ∷ more ++ 47 ∷ spelled name)) refl some
