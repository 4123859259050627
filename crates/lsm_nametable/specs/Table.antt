-- A table of names, as the map that it is.
use Rattle.std.specs.Prelude.{◌≡◌, ℕ, List, [], ◌∷◌, ◌++◌, Option, Some, None, option_map, Vec}
use Rattle.std.specs.FinMap as map
use Rattle.lsm_disk.specs.Names.{Node, Names, under}
use Rattle.lsm_nametable.specs.declared.table.Target.{Target}
use Rattle.lsm_nametable.specs.Target.{node_of}

-- the entries, by the bytes of their names
abbrev pub shown : {A : Type 0} → List (Vec ℕ A × Target) → List (List ℕ × Node)
shown [] = []
shown (e ∷ es) = (e.0.items, node_of e.1) ∷ shown es

-- the map of these entries
abbrev pub table_of : {A : Type 0} → List (Vec ℕ A × Target) → Names
table_of es = map.from_entries (shown es)

abbrev pub with_name : Option (List ℕ) → Node → List (List ℕ × Node) → List (List ℕ × Node)
with_name None node es = es
with_name (Some name) node es = (name, node) ∷ es

-- the entries in the folder, by their names after it moved
abbrev pub taken_along : List ℕ → List ℕ → List (List ℕ × Node) → List (List ℕ × Node)
taken_along from to [] = []
taken_along from to (e ∷ es) = with_name (option_map (λ rest. to ++ rest) (under from e.0)) e.1 (taken_along from to es)

-- the names with these, of which an earlier one goes before a later
abbrev pub put_all : List (List ℕ × Node) → Names → Names
put_all [] names = names
put_all (e ∷ es) names = map.insert (put_all es names) e.0 e.1

-- the names with the last of these
pub record HasSome (es : List (List ℕ × Node)) (old new : Names) : Type 0 where
  pub front : List (List ℕ × Node)
  pub rest : List (List ℕ × Node)
  pub all : es ≡ front ++ rest
  pub put : new ≡ put_all rest old
