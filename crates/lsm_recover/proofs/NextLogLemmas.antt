-- The least number of a log among the entries of a listing, by the names of the disk.
use Rattle.std.specs.Prelude.{◌≡◌, ℕ, ◌+◌, ◌≤◌, Bool, true, false, cond, nat_le, is_some, List, [], ◌∷◌, ◌++◌, length, Option, Some, None}
use Rattle.std.proofs.Common.{refl, sym, ap, subst, ◌∙◌, arith}
use Rattle.std.proofs.lemmas.Bool.Decides.{nat_tests}
use Rattle.std.specs.Ordering.{eq_by_cmp}
use Rattle.std.specs.FinMap as finmap
use Rattle.lsm_names.specs.declared.file_names.FileName.TheVariants.{Log}
use Rattle.lsm_names.specs.FileNames.{spelled, is_file_number}
use Rattle.lsm_names.specs.Paths.{is_path}
use Rattle.lsm_names.proofs.PathLemmas.{joined_is_path, component_is_path, bytes_of_component, no_slash}
use Rattle.lsm_names.proofs.FileNameLemmas.{spelled_is_component, spelled_is_short}
use Rattle.lsm_disk.specs.Names.{Node, File_node, path_cmp, inside}
use Rattle.lsm_disk.specs.Listing.{kind_by, one_part, listed_name, with_entry, listed}
use Rattle.lsm_disk.specs.declared.listing.Entry.{Entry}
use Rattle.lsm_disk.proofs.Paths.{same_path}
use Rattle.lsm_disk.proofs.Moves.{inside_joined}
use Rattle.lsm_folder.specs.Names.{name_of}
use Rattle.lsm_folder.proofs.NameLemmas.{name_again}
use Rattle.lsm_recover.specs.Listed.{log_in, log_number, lesser, next_log}

-- a number that is there and at most this one
abbrev pub IsAtMost : ℕ → Option ℕ → Type 0
IsAtMost m None = ⊥
IsAtMost m (Some k) = k ≤ m

lesser_left : (m : ℕ) (o : Option ℕ) → IsAtMost m (lesser (Some m) o)
lesser_left m None = omega arith
lesser_left m (Some k) = omega arith

lesser_right : (m : ℕ) (o p : Option ℕ) → IsAtMost m p → IsAtMost m (lesser o p)
lesser_right m None p h = h
lesser_right m (Some k) None h = absurd h
lesser_right m (Some k) (Some j) h = omega (arith, h)

module _ (first : ℕ) (more : List ℕ) (short : length (first ∷ more) + 30 ≤ 160) (spells : is_path (first ∷ more) ≡ true) (least : ℕ) where
  abbrev dir : List ℕ
  dir = first ∷ more

  abbrev path_of : ℕ → List ℕ
  path_of m = dir ++ 47 ∷ spelled (Log m)

  listed_log : (m : ℕ) → is_file_number m ≡ true → listed_name dir (path_of m) ≡ Some (spelled (Log m))
  listed_log m fits =
      let part = spelled_is_component (Log m) fits in
      let is = joined_is_path dir (spelled (Log m)) spells (component_is_path (spelled (Log m)) part) (omega (arith, short, spelled_is_short (Log m) fits)) in
      ap (λ (b : Bool). cond b (one_part (inside dir (path_of m))) None) is
      ∙ ap one_part (inside_joined first more (spelled (Log m)))
      ∙ ap (λ (o : Option (List ℕ)). cond (is_some o) None (Some (spelled (Log m)))) (no_slash (spelled (Log m)) (bytes_of_component (spelled (Log m)) part))

  -- an entry before others
  abbrev next_by : Option (List ℕ) → Node → List Entry → Option ℕ
  next_by name node es = next_log least (with_entry name node es)

  module _ (m : ℕ) (fits : is_file_number m ≡ true) (live : least ≤ m) where
    own : (id : ℕ) (es : List Entry) → IsAtMost m (next_by (Some (spelled (Log m))) (File_node id) es)
    own id es =
        let on : nat_le least m ≡ true = grind (arith, nat_tests) in
        let number : log_number least (name_of (spelled (Log m))) ≡ Some m = ap (log_number least) (name_again (Log m) fits) ∙ ap (λ (b : Bool). cond b (Some m) None) on in
        subst (λ (o : Option ℕ). IsAtMost m (lesser o (next_log least es))) (sym number) (lesser_left m (next_log least es))

    passed : (name : Option (List ℕ)) (node : Node) (es : List Entry) → IsAtMost m (next_log least es) → IsAtMost m (next_by name node es)
    passed None node es h = h
    passed (Some name) node es h = lesser_right m (log_in least (record { name = name; kind = kind_by node })) (next_log least es) h

    -- a log of the folder is told, or a lower one
    pub log_told : (es : List (List ℕ × Node)) (id : ℕ) → finmap.find path_cmp (path_of m) es ≡ Some (File_node id) → IsAtMost m (next_log least (listed dir es))
    log_told [] id is = cc
    log_told (e ∷ es) id is =
        elim (eq_by_cmp path_cmp (path_of m) e.0) as (λ b. eq_by_cmp path_cmp (path_of m) e.0 ≡ b → cond b (Some e.1) (finmap.find path_cmp (path_of m) es) ≡ Some (File_node id) → IsAtMost m (next_by (listed_name dir e.0) e.1 (listed dir es))) [
          | true ↦ λ same h.
              let name : listed_name dir e.0 ≡ Some (spelled (Log m)) = ap (listed_name dir) (sym (same_path (path_of m) e.0 same)) ∙ listed_log m fits in
              let node : e.1 ≡ File_node id = same_node e.1 (File_node id) h in
              subst (λ (o : Option (List ℕ)). IsAtMost m (next_by o e.1 (listed dir es))) (sym name)
              (subst (λ (n : Node). IsAtMost m (next_by (Some (spelled (Log m))) n (listed dir es))) (sym node) (own id (listed dir es)))
          | false ↦ λ other h. passed (listed_name dir e.0) e.1 (listed dir es) (log_told es id h)
        ] refl is
      where
        same_node : (x y : Node) → Some x ≡ Some y → x ≡ y
        same_node x y e = cc
