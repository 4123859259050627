-- A folder moves with all that is inside: what stands where afterwards.
use Rattle.std.specs.Prelude.{◌≡◌, ◌≢◌, ℕ, Bool, true, false, cond, ◌==◌, ◌||◌, List, [], ◌∷◌, ◌++◌, Option, Some, None, is_some}
use Rattle.std.proofs.Common.{refl, sym, ap, ◌∙◌, append_assoc}
use Rattle.std.specs.Ordering.{eq_by_cmp, is_eq, ordering_then}
use Rattle.std.specs.Cmp.{nat_cmp_total, tied_itself}
use Rattle.std.specs.Cmp.Lexicographic.{nat_list_cmp_total}
use Rattle.std.specs.List.{list_any}
use Rattle.std.specs.FinMap as map
use Rattle.lsm_disk.specs.Names.{Node, Folder_node, Names, path_cmp, under, inside, after_slash, renamed, renamed_to, moved_entries, is_occupied}
use Rattle.lsm_disk.proofs.Files.{same_some}
use Rattle.lsm_disk.proofs.Paths.{path_other, path_itself, same_path, number, under_tail, under_append}

-- ---- paths under a folder

-- a path that is the folder or inside it is the folder and what follows
pub under_is : (folder path rest : List ℕ) → under folder path ≡ Some rest → path ≡ folder ++ rest
under_is [] [] rest e = same_some [] rest e
under_is [] (c ∷ path) rest e =
    elim (c == 47) as (λ b. cond b (Some (c ∷ path)) None ≡ Some rest → c ∷ path ≡ rest) [ true ↦ λ h. same_some (c ∷ path) rest h | false ↦ λ h. cc ] e
under_is (f ∷ folder) [] rest e = cc
under_is (f ∷ folder) (c ∷ path) rest e =
    elim (f == c) as (λ b. (f == c) ≡ b → cond b (under folder path) None ≡ Some rest → c ∷ path ≡ f ∷ folder ++ rest) [
      | true ↦ λ is h. ap (λ (x : ℕ). x ∷ path) (sym (number f c is)) ∙ ap (λ (l : List ℕ). f ∷ l) (under_is folder path rest h)
      | false ↦ λ is h. cc
    ] refl e

tail_more : (r s : List ℕ) → under [] r ≡ Some r → under [] (r ++ 47 ∷ s) ≡ Some (r ++ 47 ∷ s)
tail_more [] s tail = refl
tail_more (c ∷ r) s tail = elim (c == 47) as (λ b. cond b (Some (c ∷ r)) None ≡ Some (c ∷ r) → cond b (Some (c ∷ r ++ 47 ∷ s)) None ≡ Some (c ∷ r ++ 47 ∷ s)) [ true ↦ λ h. refl | false ↦ λ h. cc ] tail

-- what is inside a path under the folder is under the folder
pub under_more : (folder path rest s : List ℕ) → under folder path ≡ Some rest → under folder (path ++ 47 ∷ s) ≡ Some (rest ++ 47 ∷ s)
under_more folder path rest s is =
    let tail = under_tail folder path rest is in
    ap (under folder) (ap (λ (l : List ℕ). l ++ 47 ∷ s) (under_is folder path rest is) ∙ append_assoc folder rest (47 ∷ s))
    ∙ under_append folder (rest ++ 47 ∷ s) (tail_more rest s tail)

-- what is inside a folder that has a name
pub inside_joined : (c : ℕ) (folder rest : List ℕ) → inside (c ∷ folder) ((c ∷ folder) ++ 47 ∷ rest) ≡ Some rest
inside_joined c folder rest = ap after_slash (under_append (c ∷ folder) (47 ∷ rest) refl)

-- ---- entries

abbrev pub Entries : Type 0
Entries = List (List ℕ × Node)

-- nothing stands at this name or inside
abbrev pub Free : List ℕ → Entries → Type 0
Free to [] = Unit {0}
Free to (e ∷ es) = (under to e.0 ≡ None) × Free to es

found_after : (before es : Entries) (e : List ℕ × Node) → is_some (map.find path_cmp e.0 (before ++ e ∷ es)) ≡ true
found_after [] es e = ap (λ b. is_some (cond b (Some e.1) (map.find path_cmp e.0 es))) (path_itself e.0)
found_after (x ∷ before) es e =
    elim (eq_by_cmp path_cmp e.0 x.0) as (λ b. is_some (cond b (Some x.1) (map.find path_cmp e.0 (before ++ e ∷ es))) ≡ true) [ true ↦ refl | false ↦ found_after before es e ]

free_within : (to : List ℕ) (before es : Entries) → ((q : List ℕ) → is_some (map.find path_cmp q (before ++ es)) ≡ true → under to q ≡ None) → Free to es
free_within to before [] none = tt
free_within to before (e ∷ es) none =
    (none e.0 (found_after before es e), free_within to (before ++ e ∷ []) es (λ q is. none q (ap (λ (l : Entries). is_some (map.find path_cmp q l)) (sym (append_assoc before (e ∷ []) es)) ∙ is)))

-- where no name at `to` or inside is found, none is there
pub free_of : (names : Names) (to : List ℕ) → ((rest : List ℕ) → under [] rest ≡ Some rest → map.get names (to ++ rest) ≡ None) → Free to (map.entries names)
free_of names to none = free_within to [] (map.entries names) (λ q is. unfound q (under to q) refl (ap is_some (map.get-entries names q) ∙ is)) where
  unfound : (q : List ℕ) (o : Option (List ℕ)) → under to q ≡ o → is_some (map.get names q) ≡ true → o ≡ None
  unfound q None e found = refl
  unfound q (Some rest) e found =
      let there : map.get names q ≡ None = ap (map.get names) (under_is to q rest e) ∙ none rest (under_tail to q rest e) in
      let clash : false ≡ true = sym (ap is_some there) ∙ found in cc

pub eq_append : (p a b : List ℕ) → eq_by_cmp path_cmp (p ++ a) (p ++ b) ≡ eq_by_cmp path_cmp a b
eq_append [] a b = refl
eq_append (x ∷ p) a b = ap (λ o. is_eq (ordering_then o (path_cmp (p ++ a) (p ++ b)))) (tied_itself nat_cmp_total x) ∙ eq_append p a b

-- a path that is not under p is not p and more
pub apart_from : (p rest key : List ℕ) → under [] rest ≡ Some rest → under p key ≡ None → p ++ rest ≢ key
apart_from p rest key tail none is = let clash : None ≡ Some rest = sym none ∙ ap (under p) (sym is) ∙ under_append p rest tail in cc

module _ (from to rest : List ℕ) (tail : under [] rest ≡ Some rest) where
  same_under : (key : List ℕ) → under to key ≡ None → eq_by_cmp path_cmp (to ++ rest) (renamed_to to key (under from key)) ≡ eq_by_cmp path_cmp (from ++ rest) key
  same_under key free =
      elim (under from key) as (λ o. under from key ≡ o → eq_by_cmp path_cmp (to ++ rest) (renamed_to to key o) ≡ eq_by_cmp path_cmp (from ++ rest) key) [
        | None ↦ λ none. path_other (to ++ rest) key (apart_from to rest key tail free) ∙ sym (path_other (from ++ rest) key (apart_from from rest key tail none))
        | Some r ↦ λ some. eq_append to rest r ∙ sym (ap (λ (k : List ℕ). eq_by_cmp path_cmp (from ++ rest) k) (under_is from key r some) ∙ eq_append from rest r)
      ] refl

  find_under : (es : Entries) → Free to es → map.find path_cmp (to ++ rest) (moved_entries from to es) ≡ map.find path_cmp (from ++ rest) es
  find_under [] free = refl
  find_under (e ∷ es) free =
      ap (λ b. cond b (Some e.1) (map.find path_cmp (to ++ rest) (moved_entries from to es))) (same_under e.0 free.0)
      ∙ ap (λ o. cond (eq_by_cmp path_cmp (from ++ rest) e.0) (Some e.1) o) (find_under es free.1)

  -- what stood inside stands inside
  pub get_moved : (names : Names) → Free to (map.entries names) → map.get (renamed from to (Some Folder_node) names) (to ++ rest) ≡ map.get names (from ++ rest)
  get_moved names free =
      map.get-from_entries nat_list_cmp_total (moved_entries from to (map.entries names)) (to ++ rest)
      ∙ find_under (map.entries names) free ∙ sym (map.get-entries names (from ++ rest))

module _ (from to path rest : List ℕ) (under_from : under from path ≡ Some rest) (not_to : under to path ≡ None) where
  other_under : (key : List ℕ) → eq_by_cmp path_cmp path (renamed_to to key (under from key)) ≡ false
  other_under key = elim (under from key) as (λ o. under from key ≡ o → eq_by_cmp path_cmp path (renamed_to to key o) ≡ false) [
    | None ↦ λ none. path_other path key (λ is. let clash : None ≡ Some rest = sym none ∙ ap (under from) (sym is) ∙ under_from in cc)
    | Some r ↦ λ some. path_other path (to ++ r) (λ is. apart_from to r path (under_tail from key r some) not_to (sym is))
  ] refl

  find_left : (es : Entries) → map.find path_cmp path (moved_entries from to es) ≡ None
  find_left [] = refl
  find_left (e ∷ es) = ap (λ b. cond b (Some e.1) (map.find path_cmp path (moved_entries from to es))) (other_under e.0) ∙ find_left es

  -- where the folder stood nothing is left
  pub get_left : (names : Names) → map.get (renamed from to (Some Folder_node) names) path ≡ None
  get_left names = map.get-from_entries nat_list_cmp_total (moved_entries from to (map.entries names)) path ∙ find_left (map.entries names)

-- ---- occupied folders

any_found : (test : List ℕ → Bool) (q : List ℕ) (node : Node) (es : Entries) → test q ≡ true → map.find path_cmp q es ≡ Some node → list_any (λ e. test e.0) es ≡ true
any_found test q node [] is found = cc
any_found test q node (e ∷ es) is found = by_test (eq_by_cmp path_cmp q e.0) refl found (any_found test q node es is) where
  or_later : (b c : Bool) → c ≡ true → (b || c) ≡ true
  or_later true c h = refl
  or_later false c h = h

  by_test : (b : Bool) → eq_by_cmp path_cmp q e.0 ≡ b → cond b (Some e.1) (map.find path_cmp q es) ≡ Some node → (map.find path_cmp q es ≡ Some node → list_any (λ x. test x.0) es ≡ true) → (test e.0 || list_any (λ x. test x.0) es) ≡ true
  by_test true e' h later = ap (λ b. b || list_any (λ x. test x.0) es) (ap test (sym (same_path q e.0 e')) ∙ is)
  by_test false e' h later = or_later (test e.0) (list_any (λ x. test x.0) es) (later h)

-- a name inside occupies the folder
pub occupied_by : (names : Names) (c : ℕ) (folder rest : List ℕ) (node : Node) → map.get names ((c ∷ folder) ++ 47 ∷ rest) ≡ Some node → is_occupied names (c ∷ folder) ≡ true
occupied_by names c folder rest node is =
    any_found (λ q. is_some (inside (c ∷ folder) q)) ((c ∷ folder) ++ 47 ∷ rest) node (map.entries names) (ap is_some (inside_joined c folder rest)) (sym (map.get-entries names ((c ∷ folder) ++ 47 ∷ rest)) ∙ is)
