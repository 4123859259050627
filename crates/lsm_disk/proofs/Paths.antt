-- What stands under a name after an operation.
use Rattle.std.specs.Prelude.{◌≡◌, ◌≢◌, ◌⊎◌, ℕ, Bool, true, false, cond, ◌==◌, List, [], ◌∷◌, ◌++◌, Option, Some, None}
use Rattle.std.proofs.Common.{inl, inr, refl, sym, ap, subst, ◌∙◌, arith}
use Rattle.std.proofs.lemmas.Bool.Decides.{nat_tests}
use Rattle.std.specs.Ordering.{eq_by_cmp, is_eq}
use Rattle.std.specs.declared.cmp.Ordering.{Ordering}
use Rattle.std.specs.declared.cmp.Ordering.TheVariants.{Less, Equal, Greater}
use Rattle.std.specs.Cmp.{tied_itself}
use Rattle.std.specs.Cmp.Lexicographic.{nat_list_cmp_total}
use Rattle.std.specs.FinMap as map
use Rattle.lsm_disk.specs.Names.{Node, Folder_node, File_node, Names, NameOp, Put, Gone, Moved, path_cmp, named, renamed, renamed_to, moved_entries, under}
use Rattle.lsm_disk.specs.Kept.{OpSpares}
use Rattle.lsm_disk.proofs.Files.{same_some}

equal_of : (r : Ordering) → is_eq r ≡ true → r ≡ Equal
equal_of Less e = cc
equal_of Equal e = refl
equal_of Greater e = cc

pub same_path : (p q : List ℕ) → eq_by_cmp path_cmp p q ≡ true → p ≡ q
same_path p q e = map.slice_cmp-IsAntisymmetric map.nat_cmp-IsAntisymmetric p q (equal_of (path_cmp p q) e)

pub path_itself : (p : List ℕ) → eq_by_cmp path_cmp p p ≡ true
path_itself p = ap is_eq (tied_itself nat_list_cmp_total p)

not_true : (b : Bool) → ¬ (b ≡ true) → b ≡ false
not_true true h = absurd (h refl)
not_true false h = refl

pub path_other : (p q : List ℕ) → p ≢ q → eq_by_cmp path_cmp p q ≡ false
path_other p q ne = not_true (eq_by_cmp path_cmp p q) (λ e. ne (same_path p q e))

-- two paths are the same or not
pub path_cases : (p q : List ℕ) → (p ≡ q) ⊎ (p ≢ q)
path_cases p q = elim (eq_by_cmp path_cmp p q) as (λ b. eq_by_cmp path_cmp p q ≡ b → (p ≡ q) ⊎ (p ≢ q)) [
  | true ↦ λ e. inl (same_path p q e)
  | false ↦ λ e. inr (λ same. let clash : true ≡ false = sym (path_itself q) ∙ ap (λ (x : List ℕ). eq_by_cmp path_cmp x q) (sym same) ∙ e in cc)
] refl

pub get_put : (names : Names) (path : List ℕ) (node : Node) → map.get (map.insert names path node) path ≡ Some node
get_put names path node = map.get-insert nat_list_cmp_total names path node path ∙ ap (λ b. cond b (Some node) (map.get names path)) (path_itself path)

pub get_put_other : (names : Names) (path other : List ℕ) (node : Node) → path ≢ other → map.get (map.insert names other node) path ≡ map.get names path
get_put_other names path other node ne = map.get-insert nat_list_cmp_total names other node path ∙ ap (λ b. cond b (Some node) (map.get names path)) (path_other path other ne)

pub get_gone_other : (names : Names) (path other : List ℕ) → path ≢ other → map.get (map.remove names other) path ≡ map.get names path
get_gone_other names path other ne = map.get-remove nat_list_cmp_total names other path ∙ ap (λ b. cond b None (map.get names path)) (path_other path other ne)

pub itself : (n : ℕ) → (n == n) ≡ true
itself n = grind (arith, nat_tests)

pub number : (m n : ℕ) → (m == n) ≡ true → m ≡ n
number m n h = grind (arith, nat_tests)

-- what follows in a path that is in the folder
pub under_tail : (folder path rest : List ℕ) → under folder path ≡ Some rest → under [] rest ≡ Some rest
under_tail [] [] rest is = subst (λ (l : List ℕ). under [] l ≡ Some l) (same_some [] rest is) refl
under_tail [] (c ∷ path) rest is =
    elim (c == 47) as (λ b. (c == 47) ≡ b → cond b (Some (c ∷ path)) None ≡ Some rest → under [] rest ≡ Some rest) [
      | true ↦ λ test h. subst (λ (l : List ℕ). under [] l ≡ Some l) (same_some (c ∷ path) rest h) (ap (λ b. cond b (Some (c ∷ path)) None) test)
      | false ↦ λ test h. cc
    ] refl is
under_tail (f ∷ folder) [] rest is = cc
under_tail (f ∷ folder) (c ∷ path) rest is =
    elim (f == c) as (λ b. cond b (under folder path) None ≡ Some rest → under [] rest ≡ Some rest) [ true ↦ λ h. under_tail folder path rest h | false ↦ λ h. cc ] is

pub under_append : (folder rest : List ℕ) → under [] rest ≡ Some rest → under folder (folder ++ rest) ≡ Some rest
under_append [] rest h = h
under_append (f ∷ folder) rest h = ap (λ b. cond b (under folder (folder ++ rest)) None) (itself f) ∙ under_append folder rest h

module _ (from to path : List ℕ) (out : under from path ≡ None) (off : under to path ≡ None) where
  same_test : (key : List ℕ) → eq_by_cmp path_cmp path (renamed_to to key (under from key)) ≡ eq_by_cmp path_cmp path key
  same_test key = elim (under from key) as (λ o. under from key ≡ o → eq_by_cmp path_cmp path (renamed_to to key o) ≡ eq_by_cmp path_cmp path key) [
    | None ↦ λ none. refl
    | Some rest ↦ λ some.
        path_other path (to ++ rest) (λ is. let clash : None ≡ Some rest = sym off ∙ ap (under to) is ∙ under_append to rest (under_tail from key rest some) in cc)
        ∙ sym (path_other path key (λ is. let clash : None ≡ Some rest = sym out ∙ ap (under from) is ∙ some in cc))
  ] refl

  find_moved : (es : List (List ℕ × Node)) → map.find path_cmp path (moved_entries from to es) ≡ map.find path_cmp path es
  find_moved [] = refl
  find_moved (e ∷ es) =
      ap (λ b. cond b (Some e.1) (map.find path_cmp path (moved_entries from to es))) (same_test e.0)
      ∙ ap (λ o. cond (eq_by_cmp path_cmp path e.0) (Some e.1) o) (find_moved es)

pub get_renamed : (from to path : List ℕ) (node : Option Node) (names : Names) → OpSpares path (Moved from to) → map.get (renamed from to node names) path ≡ map.get names path
get_renamed from to path None names spares = refl
get_renamed from to path (Some (File_node id)) names spares = get_put_other (map.remove names from) path to (File_node id) spares.1 ∙ get_gone_other names path from spares.0
get_renamed from to path (Some Folder_node) names spares =
    map.get-from_entries nat_list_cmp_total (moved_entries from to (map.entries names)) path
    ∙ find_moved from to path spares.2 spares.3 (map.entries names) ∙ sym (map.get-entries names path)

-- an operation on other names
pub get_spared : (path : List ℕ) (op : NameOp) (names : Names) → OpSpares path op → map.get (named op names) path ≡ map.get names path
get_spared path (Put other node) names spares = get_put_other names path other node spares
get_spared path (Gone other) names spares = get_gone_other names path other spares
get_spared path (Moved from to) names spares = get_renamed from to path (map.get names from) names spares
