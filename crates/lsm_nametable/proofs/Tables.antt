-- A table of names as a finite map.
use Rattle.std.specs.Prelude.{◌≡◌, ◌≢◌, ℕ, suc, ◌+◌, ◌≤◌, Bool, true, false, cond, ◌||◌, ◌&&◌, T, List, [], ◌∷◌, ◌++◌, length, Option, Some, None, option_map, is_some, is_none, Result, Ok, Err, IfOk, IfSome, OnOk, IsOk, Vec, eqb, filter}
use Rattle.std.proofs.Common.{⊎_elim, refl, sym, ap, subst, ◌∙◌, arith, length-append, append_assoc}
use Rattle.std.proofs.lemmas.List.{append-nil}
use Rattle.std.specs.Ordering.{eq_by_cmp, is_eq, is_lt, match_ordering}
use Rattle.std.specs.declared.cmp.Ordering.{Ordering}
use Rattle.std.specs.declared.cmp.Ordering.TheVariants.{Less, Equal, Greater}
use Rattle.std.specs.Cmp.Lexicographic.{nat_list_cmp_total, pointwise}
use Rattle.std.specs.List.{list_all, AllByRecursion, AllZip}
use Rattle.std.specs.List.Sorted.{IsStrictlySortedBy}
use Rattle.std.specs.Result.{result_ok}
use Rattle.std.specs.FinMap as map
use Rattle.std.specs.FinMap.Entries.{by_order, below_all, is_sorted, find-put, find-where_key}
use Rattle.std.specs.Map.{lookup, remove_entry, keys_of}
use Rattle.std.specs.BTreeMap.{insert_entry}
use Rattle.lsm_names.specs.Paths.{is_path, is_component, components, cut_last}
use Rattle.lsm_names.proofs.PathLemmas.{components-joined, path_is_short, parts_of_path, path_of_parts}
use Rattle.lsm_disk.specs.Names.{Node, Folder_node, Names, path_cmp, under, inside, after_slash, renamed}
use Rattle.lsm_disk.specs.Listing.{listed_name, one_part}
use Rattle.lsm_disk.proofs.Files.{same_some}
use Rattle.lsm_disk.proofs.Paths.{get_put, get_put_other, get_gone_other, path_cases, path_other, same_path, under_tail, itself, get_renamed}
use Rattle.lsm_disk.proofs.Moves.{under_is, apart_from, eq_append, get_moved, get_left, free_of}
use Rattle.lsm_disk.proofs.Lawful.{get_gone, tail_cases, not_itself}
use Rattle.lsm_nametable.specs.declared.table.Target.{Target}
use Rattle.lsm_nametable.specs.Target.{node_of}
use Rattle.lsm_nametable.specs.Table.{shown, table_of, with_name, taken_along, put_all, HasSome}
use Rattle.std.proofs.lemmas.Bool.{and_parts}

both : (a b : Bool) → T a → T b → T (a && b)
both true b p q = q
both false b p q = p

-- two tables that answer alike are the same map
pub same_names : (m n : Names) → ((q : List ℕ) → map.get m q ≡ map.get n q) → m ≡ n
same_names m n is = map.same_map nat_list_cmp_total (map.slice_cmp-IsAntisymmetric map.nat_cmp-IsAntisymmetric) m n is

chosen : (b : Bool) (t : Target) (o : Option Target) → option_map node_of (cond b (Some t) o) ≡ cond b (Some (node_of t)) (option_map node_of o)
chosen true t o = refl
chosen false t o = refl

lookup_shown : {A : Type 0} (q : List ℕ) (es : List (Vec ℕ A × Target)) → option_map node_of (lookup (λ (k : Vec ℕ A). is_eq (path_cmp q k.items)) es) ≡ map.find path_cmp q (shown es)
lookup_shown q [] = refl
lookup_shown {A = A} q (e ∷ es) = chosen (is_eq (path_cmp q e.0.items)) e.1 (lookup (λ (k : Vec ℕ A). is_eq (path_cmp q k.items)) es) ∙ ap (cond (eq_by_cmp path_cmp q e.0.items) (Some (node_of e.1))) (lookup_shown q es)

get_table : {A : Type 0} (q : List ℕ) (es : List (Vec ℕ A × Target)) → map.get (table_of es) q ≡ map.find path_cmp q (shown es)
get_table q es = map.get-from_entries nat_list_cmp_total (shown es) q

-- what is looked up
pub get_shown : {A : Type 0} (q : List ℕ) (es : List (Vec ℕ A × Target)) → option_map node_of (lookup (λ (k : Vec ℕ A). is_eq (path_cmp q k.items)) es) ≡ map.get (table_of es) q
get_shown q es = lookup_shown q es ∙ sym (get_table q es)

by_place : {A : Type 0} (r : Ordering) (key : Vec ℕ A) (t : Target) (e : Vec ℕ A × Target) (es rest : List (Vec ℕ A × Target)) (put : List (List ℕ × Node)) → shown rest ≡ put
    → shown (match_ordering r ((key, t) ∷ e ∷ es) ((e.0, t) ∷ es) (e ∷ rest)) ≡ by_order r ((key.items, node_of t) ∷ shown (e ∷ es)) ((e.0.items, node_of t) ∷ shown es) ((e.0.items, node_of e.1) ∷ put)
by_place Less key t e es rest put is = refl
by_place Equal key t e es rest put is = refl
by_place Greater key t e es rest put is = ap (λ (l : List (List ℕ × Node)). (e.0.items, node_of e.1) ∷ l) is

insert_shown : {A : Type 0} (key : Vec ℕ A) (t : Target) (es : List (Vec ℕ A × Target)) → shown (insert_entry (λ (x y : Vec ℕ A). path_cmp x.items y.items) es key t) ≡ map.put path_cmp key.items (node_of t) (shown es)
insert_shown key t [] = refl
insert_shown key t (e ∷ es) = by_place (path_cmp key.items e.0.items) key t e es _ _ (insert_shown key t es)

-- what is inserted
pub table_insert : {A : Type 0} (key : Vec ℕ A) (t : Target) (es new : List (Vec ℕ A × Target)) → new ≡ insert_entry (λ (x y : Vec ℕ A). path_cmp x.items y.items) es key t → table_of new ≡ map.insert (table_of es) key.items (node_of t)
table_insert key t es new is = same_names (table_of new) (map.insert (table_of es) key.items (node_of t)) (λ q.
    get_table q new
    ∙ ap (map.find path_cmp q) (ap shown is ∙ insert_shown key t es)
    ∙ find-put path_cmp nat_list_cmp_total q key.items (node_of t) (shown es)
    ∙ ap (cond (eq_by_cmp path_cmp q key.items) (Some (node_of t))) (sym (get_table q es))
    ∙ sym (map.get-insert nat_list_cmp_total (table_of es) key.items (node_of t) q))

-- ---- the entries in their order

abbrev pub Entries : Type 0
Entries = List (List ℕ × Node)

-- a fact and a clause on an answer that is Ok
pub ok_both : {T E A : Type 0} {P Q : T → Type 0} (r : Result T E) → OnOk r A → IfOk r P → ((x : T) → A → P x → Q x) → IfOk r Q
ok_both (Ok x) a p gives = gives x a p
ok_both (Err e) a p gives = tt

sorted_from : {A : Type 0} (x : List ℕ) (es : List (Vec ℕ A × Target)) → AllByRecursion (λ (y : Vec ℕ A). path_cmp x y.items ≡ Less) (keys_of es) → T (below_all path_cmp x (shown es))
sorted_from x [] below = tt
sorted_from x (e ∷ es) below = both (is_lt (path_cmp x e.0.items)) (below_all path_cmp x (shown es)) (subst (λ (r : Ordering). T (is_lt r)) (sym below.0) tt) (sorted_from x es below.1)

-- a map of std keeps its keys in order
pub shown_sorted : {A : Type 0} (es : List (Vec ℕ A × Target)) → IsStrictlySortedBy (λ (x y : Vec ℕ A). path_cmp x.items y.items) (keys_of es) → T (is_sorted path_cmp (shown es))
unfolding IsStrictlySortedBy
shown_sorted [] sorted = tt
shown_sorted (e ∷ es) sorted = both (below_all path_cmp e.0.items (shown es)) (is_sorted path_cmp (shown es)) (sorted_from e.0.items es sorted.0) (shown_sorted es sorted.1)

pub entries_table : {A : Type 0} (es : List (Vec ℕ A × Target)) → T (is_sorted path_cmp (shown es)) → map.entries (table_of es) ≡ shown es
entries_table es sorted =
    ap (λ (t : Names). map.entries t) (same_names (table_of es) (map.from_sorted (shown es)) (λ q. get_table q es ∙ sym (map.get-from_sorted path_cmp (shown es) q sorted)))
    ∙ map.entries-from_sorted path_cmp (shown es) sorted

shown_length : {A : Type 0} (es : List (Vec ℕ A × Target)) → length (shown es) ≡ length es
shown_length [] = refl
shown_length (e ∷ es) = ap suc (shown_length es)

pub table_len : {A : Type 0} (es : List (Vec ℕ A × Target)) → IsStrictlySortedBy (λ (x y : Vec ℕ A). path_cmp x.items y.items) (keys_of es) → length es ≡ map.len (table_of es)
table_len es sorted = sym (map.len-entries (table_of es) ∙ ap length (entries_table es (shown_sorted es sorted)) ∙ shown_length es)

-- ---- what is taken away

find_rest : {A : Type 0} (key q : List ℕ) (es : List (Vec ℕ A × Target)) → q ≢ key → map.find path_cmp q (shown (remove_entry (λ (k : Vec ℕ A). is_eq (path_cmp key k.items)) es)) ≡ map.find path_cmp q (shown es)
find_rest key q [] ne = refl
find_rest {A = A} key q (e ∷ es) ne =
    elim (is_eq (path_cmp key e.0.items)) as (λ b. is_eq (path_cmp key e.0.items) ≡ b → map.find path_cmp q (shown (cond b es (e ∷ remove_entry (λ (k : Vec ℕ A). is_eq (path_cmp key k.items)) es))) ≡ map.find path_cmp q (shown (e ∷ es))) [
      | true ↦ λ is. sym (ap (λ b. cond b (Some (node_of e.1)) (map.find path_cmp q (shown es))) (path_other q e.0.items (λ same. ne (same ∙ sym (same_path key e.0.items is)))))
      | false ↦ λ is. ap (cond (eq_by_cmp path_cmp q e.0.items) (Some (node_of e.1))) (find_rest key q es ne)
    ] refl

pub table_remove : {A : Type 0} (key : List ℕ) (es new : List (Vec ℕ A × Target)) → lookup (λ (k : Vec ℕ A). is_eq (path_cmp key k.items)) new ≡ None → new ≡ remove_entry (λ (k : Vec ℕ A). is_eq (path_cmp key k.items)) es → table_of new ≡ map.remove (table_of es) key
table_remove {A = A} key es new none is = same_names (table_of new) (map.remove (table_of es) key) (λ q. ⊎_elim
    (λ same. ap (map.get (table_of new)) same ∙ sym (get_shown key new) ∙ ap (option_map node_of) none ∙ sym (ap (map.get (map.remove (table_of es) key)) same ∙ get_gone (table_of es) key))
    (λ ne. get_table q new ∙ ap (λ (l : List (Vec ℕ A × Target)). map.find path_cmp q (shown l)) is ∙ find_rest key q es ne ∙ sym (get_table q es) ∙ sym (get_gone_other (table_of es) q key ne))
    (path_cases q key))

-- ---- a copy

pub shown_copy : {A B : Type 0} (C : Vec ℕ A → Vec ℕ B → Type 0) (D : Target → Target → Type 0) → ((k : Vec ℕ A) (c : Vec ℕ B) → C k c → c.items ≡ k.items) → ((t u : Target) → D t u → u ≡ t)
    → (es : List (Vec ℕ A × Target)) (cs : List (Vec ℕ B × Target)) → AllZip (λ p q. C p.0 q.0 × D p.1 q.1) es cs → shown cs ≡ shown es
shown_copy C D keys targets [] [] zip = refl
shown_copy C D keys targets [] (c ∷ cs) zip = absurd zip
shown_copy C D keys targets (e ∷ es) [] zip = absurd zip
shown_copy C D keys targets (e ∷ es) (c ∷ cs) zip = λ i. (keys e.0 c.0 zip.0.0 i, node_of (targets e.1 c.1 zip.0.1 i)) ∷ shown_copy C D keys targets es cs zip.1 i

-- ---- a file's move

pub move_other : (names : Names) (from to : List ℕ) (node : Node) → from ≢ to → map.remove (map.insert names to node) from ≡ map.insert (map.remove names from) to node
move_other names from to node ne = same_names (map.remove (map.insert names to node) from) (map.insert (map.remove names from) to node) (λ q. ⊎_elim
    (λ same.
    ap (map.get (map.remove (map.insert names to node) from)) same ∙ get_gone (map.insert names to node) from
    ∙ sym (ap (map.get (map.insert (map.remove names from) to node)) same ∙ get_put_other (map.remove names from) from to node ne ∙ get_gone names from))
    (λ other. get_gone_other (map.insert names to node) q from other ∙ past_put q other)
    (path_cases q from)) where
      past_put : (q : List ℕ) → q ≢ from → map.get (map.insert names to node) q ≡ map.get (map.insert (map.remove names from) to node) q
      past_put q other = ⊎_elim
          (λ same. ap (map.get (map.insert names to node)) same ∙ get_put names to node ∙ sym (ap (map.get (map.insert (map.remove names from) to node)) same ∙ get_put (map.remove names from) to node))
          (λ ne'. get_put_other names q to node ne' ∙ sym (get_put_other (map.remove names from) q to node ne' ∙ get_gone_other names q from other))
          (path_cases q to)

pub move_same : (names : Names) (path : List ℕ) (node : Node) → map.get names path ≡ Some node → names ≡ map.insert (map.remove names path) path node
move_same names path node there = same_names names (map.insert (map.remove names path) path node) (λ q. ⊎_elim
    (λ same. ap (map.get names) same ∙ there ∙ sym (ap (map.get (map.insert (map.remove names path) path node)) same ∙ get_put (map.remove names path) path node))
    (λ ne. sym (get_put_other (map.remove names path) q path node ne ∙ get_gone_other names q path ne))
    (path_cases q path))

-- ---- what is listed

list_all-last : {X : Type 0} (test : X → Bool) (xs ys : List X) → list_all test (xs ++ ys) ≡ true → list_all test ys ≡ true
list_all-last test [] ys all = all
list_all-last test (x ∷ xs) ys all = list_all-last test xs ys (and_parts (test x) (list_all test (xs ++ ys)) all).1

-- the last component of a path is a path
pub rest_is_path : (folder key rest : List ℕ) → is_path key ≡ true → inside folder key ≡ Some rest → is_path rest ≡ true
rest_is_path [] key rest path is = ap is_path (sym (same_some key rest is)) ∙ path
rest_is_path (c ∷ folder) key rest path is = by_under (under (c ∷ folder) key) refl is where
  joined : key ≡ (c ∷ folder) ++ 47 ∷ rest → is_path rest ≡ true
  joined same =
      let short : length ((c ∷ folder) ++ 47 ∷ rest) ≤ 160 = subst (λ (k : List ℕ). length k ≤ 160) same (path_is_short key path) in
      let long : length ((c ∷ folder) ++ 47 ∷ rest) ≡ length (c ∷ folder) + length (47 ∷ rest) = length-append (c ∷ folder) (47 ∷ rest) in
      path_of_parts rest (omega (arith, short, long)) (list_all-last is_component (components (c ∷ folder)) (components rest)
      (sym (ap (list_all is_component) (ap components same ∙ components-joined (c ∷ folder) rest)) ∙ parts_of_path key path))

  by_rest : (r : List ℕ) → under (c ∷ folder) key ≡ Some r → after_slash (Some r) ≡ Some rest → is_path rest ≡ true
  by_rest [] e h = cc
  by_rest (b ∷ r) e h = ⊎_elim
      (λ none. cc)
      (λ part. joined (under_is (c ∷ folder) key (b ∷ r) e ∙ ap (λ (l : List ℕ). (c ∷ folder) ++ l) (part.1 ∙ ap (λ (l : List ℕ). 47 ∷ l) (after_head part.0 r part.1 ∙ same_some r rest h))))
      (tail_cases (b ∷ r) (under_tail (c ∷ folder) key (b ∷ r) e))
    where
      after_head : (p r' : List ℕ) → b ∷ r' ≡ 47 ∷ p → p ≡ r'
      after_head p r' same = cc

  by_under : (o : Option (List ℕ)) → under (c ∷ folder) key ≡ o → after_slash o ≡ Some rest → is_path rest ≡ true
  by_under None e h = cc
  by_under (Some r) e h = by_rest r e h

pub listed_is : (folder key rest : List ℕ) → is_path key ≡ true → Some rest ≡ inside folder key → is_none (cut_last rest) ≡ true → listed_name folder key ≡ Some rest
listed_is folder key rest path is one =
    ap (λ b. cond b (one_part (inside folder key)) None) path ∙ ap one_part (sym is) ∙ ap (λ b. cond b None (Some rest)) (no_slash (cut_last rest) one) where
      no_slash : (o : Option (List ℕ)) → is_none o ≡ true → is_some o ≡ false
      no_slash None h = refl
      no_slash (Some x) h = cc

pub parsed : {P E : Type 0} (r : Result P E) (p : P) → IfOk r (λ x. x ≡ p) → IsOk r → result_ok r ≡ Some p
parsed (Ok x) p is ok = ap (λ y. Some y) is
parsed (Err e) p is ok = cc

-- ---- the key that is taken

taken_name : (r : Ordering) (path key : List ℕ) → path_cmp path key ≡ r → r ≡ Equal → key ≡ path
taken_name r path key is equal = sym (same_path path key (ap is_eq (is ∙ equal)))

pub taken_key : {A : Type 0} (path : List ℕ) (r : Option (Vec ℕ A × Target)) (k : Option (Vec ℕ A)) → k ≡ option_map (λ p. p.0) r → IfSome r (λ p. path_cmp path p.0.items ≡ Equal) → IfSome k (λ key. key.items ≡ path)
taken_key {A = A} path None k is same = subst (λ (o : Option (Vec ℕ A)). IfSome o (λ key. key.items ≡ path)) (sym is) tt
taken_key {A = A} path (Some p) k is same = subst (λ (o : Option (Vec ℕ A)). IfSome o (λ key. key.items ≡ path)) (sym is) (taken_name (path_cmp path p.0.items) path p.0.items refl same)

pub taken_found : {A : Type 0} (r : Option (Vec ℕ A × Target)) (k : Option (Vec ℕ A)) → k ≡ option_map (λ p. p.0) r → is_some k ≡ is_some (option_map node_of (option_map (λ p. p.1) r))
taken_found None k is = ap is_some is
taken_found (Some p) k is = ap is_some is

text_itself : (xs : List ℕ) → pointwise eqb xs xs ≡ true
text_itself [] = refl
text_itself (x ∷ xs) = ap (λ b. b && pointwise eqb xs xs) (itself x) ∙ text_itself xs

pub other_text : (xs ys : List ℕ) → pointwise eqb xs ys ≡ false → xs ≢ ys
other_text xs ys differs same = let clash : true ≡ false = sym (text_itself ys) ∙ ap (λ (l : List ℕ). pointwise eqb l ys) (sym same) ∙ differs in cc

-- ---- a folder's move

pub shown_push : {A : Type 0} (es : List (Vec ℕ A × Target)) (key : Vec ℕ A) (t : Target) → shown (es ++ (key, t) ∷ []) ≡ shown es ++ (key.items, node_of t) ∷ []
shown_push [] key t = refl
shown_push (e ∷ es) key t = ap (λ (l : Entries). (e.0.items, node_of e.1) ∷ l) (shown_push es key t)

-- all but these were put
pub record IsPutTo (es left : Entries) (old new : Names) : Type 0 where
  pub rest : Entries
  pub all : es ≡ left ++ rest
  pub put : new ≡ put_all rest old

pub put_start : (es : Entries) (old : Names) → IsPutTo es es old old
put_start es old = record { rest = []; all = sym (append-nil es); put = refl }

pub put_more : (es left : Entries) (e : List ℕ × Node) (old new : Names) → IsPutTo es (left ++ e ∷ []) old new → IsPutTo es left old (map.insert new e.0 e.1)
put_more es left e old new p = record { rest = e ∷ p.rest; all = p.all ∙ append_assoc left (e ∷ []) p.rest; put = ap (λ (n : Names). map.insert n e.0 e.1) p.put }

pub put_ended : (es : Entries) (old new : Names) → IsPutTo es [] old new → new ≡ put_all es old
put_ended es old new p = p.put ∙ ap (λ (l : Entries). put_all l old) (sym p.all)

pub put_part : (es left : Entries) (old new : Names) → IsPutTo es left old new → HasSome es old new
put_part es left old new p = record { front = left; rest = p.rest; all = p.all; put = p.put }

-- what is put goes before what stood there
abbrev or_else : Option Node → Option Node → Option Node
or_else (Some n) o = Some n
or_else None o = o

get_put_all : (es : Entries) (names : Names) (q : List ℕ) → map.get (put_all es names) q ≡ or_else (map.find path_cmp q es) (map.get names q)
get_put_all [] names q = refl
get_put_all (e ∷ es) names q =
    map.get-insert nat_list_cmp_total (put_all es names) e.0 e.1 q ∙ ap (cond (eq_by_cmp path_cmp q e.0) (Some e.1)) (get_put_all es names q)
    ∙ elim (eq_by_cmp path_cmp q e.0) as (λ b. cond b (Some e.1) (or_else (map.find path_cmp q es) (map.get names q)) ≡ or_else (cond b (Some e.1) (map.find path_cmp q es)) (map.get names q)) [ true ↦ refl | false ↦ refl ]

module _ (from to : List ℕ) where
  -- under the new name stands what stood under the old one
  found_along : (rest : List ℕ) → under [] rest ≡ Some rest → (es : Entries) → map.find path_cmp (to ++ rest) (taken_along from to es) ≡ map.find path_cmp (from ++ rest) es
  found_along rest tail [] = refl
  found_along rest tail (e ∷ es) = by_under (under from e.0) refl (found_along rest tail es) where
    by_under : (o : Option (List ℕ)) → under from e.0 ≡ o → map.find path_cmp (to ++ rest) (taken_along from to es) ≡ map.find path_cmp (from ++ rest) es
        → map.find path_cmp (to ++ rest) (with_name (option_map (λ r. to ++ r) o) e.1 (taken_along from to es)) ≡ map.find path_cmp (from ++ rest) (e ∷ es)
    by_under None none later = later ∙ sym (ap (λ b. cond b (Some e.1) (map.find path_cmp (from ++ rest) es)) (path_other (from ++ rest) e.0 (apart_from from rest e.0 tail none)))
    by_under (Some r) some later =
        (λ i. cond (eq_append to rest r i) (Some e.1) (later i))
        ∙ ap (λ b. cond b (Some e.1) (map.find path_cmp (from ++ rest) es)) (sym (ap (λ (k : List ℕ). eq_by_cmp path_cmp (from ++ rest) k) (under_is from e.0 r some) ∙ eq_append from rest r))

  -- nothing else is put
  unfound_along : (q : List ℕ) → under to q ≡ None → (es : Entries) → map.find path_cmp q (taken_along from to es) ≡ None
  unfound_along q none [] = refl
  unfound_along q none (e ∷ es) = by_under (under from e.0) refl (unfound_along q none es) where
    by_under : (o : Option (List ℕ)) → under from e.0 ≡ o → map.find path_cmp q (taken_along from to es) ≡ None → map.find path_cmp q (with_name (option_map (λ r. to ++ r) o) e.1 (taken_along from to es)) ≡ None
    by_under None is later = later
    by_under (Some r) is later = ap (λ b. cond b (Some e.1) (map.find path_cmp q (taken_along from to es))) (path_other q (to ++ r) (λ same. apart_from to r q (under_tail from e.0 r is) none (sym same))) ∙ later

-- the entries whose names pass a test
shown_filter : {A : Type 0} (test : List ℕ → Bool) (es : List (Vec ℕ A × Target)) → shown (filter (λ e. test e.0.items) es) ≡ filter (λ e. test e.0) (shown es)
shown_filter test [] = refl
shown_filter test (e ∷ es) = elim (test e.0.items) as (λ b. shown (cond b (e ∷ filter (λ x. test x.0.items) es) (filter (λ x. test x.0.items) es)) ≡ cond b ((e.0.items, node_of e.1) ∷ filter (λ x. test x.0) (shown es)) (filter (λ x. test x.0) (shown es))) [
  | true ↦ ap (λ (l : Entries). (e.0.items, node_of e.1) ∷ l) (shown_filter test es)
  | false ↦ shown_filter test es
]

get_filter : {A : Type 0} (test : List ℕ → Bool) (q : List ℕ) (es new : List (Vec ℕ A × Target)) → new ≡ filter (λ e. test e.0.items) es → map.get (table_of new) q ≡ cond (test q) (map.get (table_of es) q) None
get_filter test q es new is =
    get_table q new ∙ ap (map.find path_cmp q) (ap shown is ∙ shown_filter test es)
    ∙ find-where_key path_cmp test q (λ x tied. ap test (sym (same_path q x (ap is_eq tied)))) (shown es)
    ∙ ap (λ (o : Option Node). cond (test q) o None) (sym (get_table q es))

or_none : (o : Option Node) → or_else o None ≡ o
or_none None = refl
or_none (Some n) = refl

unfound_last : (q : List ℕ) (front rest : Entries) → map.find path_cmp q (front ++ rest) ≡ None → map.find path_cmp q rest ≡ None
unfound_last q [] rest is = is
unfound_last q (e ∷ front) rest is = by_test (eq_by_cmp path_cmp q e.0) is (unfound_last q front rest) where
  by_test : (b : Bool) → cond b (Some e.1) (map.find path_cmp q (front ++ rest)) ≡ None → (map.find path_cmp q (front ++ rest) ≡ None → map.find path_cmp q rest ≡ None) → map.find path_cmp q rest ≡ None
  by_test true h later = cc
  by_test false h later = later h

module _ {A : Type 0} (from to : List ℕ) (es : List (Vec ℕ A × Target)) (free : (rest : List ℕ) → under [] rest ≡ Some rest → map.get (table_of es) (to ++ rest) ≡ None) where
  abbrev leaves : List ℕ → Bool
  leaves q = is_some (under to q) || is_none (under from q)

  abbrev outside : List ℕ → Bool
  outside q = is_none (under to q)

  -- after all were put, and those under the old name taken away
  pub move_whole : (all new : List (Vec ℕ A × Target)) → table_of all ≡ put_all (taken_along from to (shown es)) (table_of es) → new ≡ filter (λ e. is_some (under to e.0.items) || is_none (under from e.0.items)) all
      → table_of new ≡ renamed from to (Some Folder_node) (table_of es)
  move_whole all new put left = same_names (table_of new) (renamed from to (Some Folder_node) (table_of es)) (λ q. get_filter leaves q all new left ∙ by_to q (under to q) refl) where
    here : (q : List ℕ) → map.get (table_of all) q ≡ or_else (map.find path_cmp q (taken_along from to (shown es))) (map.get (table_of es) q)
    here q = ap (λ (n : Names). map.get n q) put ∙ get_put_all (taken_along from to (shown es)) (table_of es) q

    by_from : (q : List ℕ) (o : Option (List ℕ)) → under to q ≡ None → under from q ≡ o → cond (is_none o) (map.get (table_of all) q) None ≡ map.get (renamed from to (Some Folder_node) (table_of es)) q
    by_from q None none e =
        here q ∙ ap (λ (x : Option Node). or_else x (map.get (table_of es) q)) (unfound_along from to q none (shown es))
        ∙ sym (get_renamed from to q (Some Folder_node) (table_of es) (not_itself from q e, not_itself to q none, e, none))
    by_from q (Some r) none e = sym (get_left from to q r e none (table_of es))

    by_to : (q : List ℕ) (o : Option (List ℕ)) → under to q ≡ o → cond (is_some (under to q) || is_none (under from q)) (map.get (table_of all) q) None ≡ map.get (renamed from to (Some Folder_node) (table_of es)) q
    by_to q None e = ap (λ (o : Option (List ℕ)). cond (is_some o || is_none (under from q)) (map.get (table_of all) q) None) e ∙ by_from q (under from q) e refl
    by_to q (Some rest) e =
        let tail = under_tail to q rest e in
        let same = under_is to q rest e in
        ap (λ (o : Option (List ℕ)). cond (is_some o || is_none (under from q)) (map.get (table_of all) q) None) e
        ∙ here q
        ∙ (λ i. or_else (map.find path_cmp (same i) (taken_along from to (shown es))) (map.get (table_of es) (same i)))
        ∙ (λ i. or_else (found_along from to rest tail (shown es) i) (free rest tail i))
        ∙ or_none (map.find path_cmp (from ++ rest) (shown es))
        ∙ sym (get_table (from ++ rest) es)
        ∙ sym (ap (map.get (renamed from to (Some Folder_node) (table_of es))) same ∙ get_moved from to rest tail (table_of es) (free_of (table_of es) to free))

  -- after some were put and taken away again
  pub move_undone : (all new : List (Vec ℕ A × Target)) → HasSome (taken_along from to (shown es)) (table_of es) (table_of all) → new ≡ filter (λ e. is_none (under to e.0.items)) all → table_of new ≡ table_of es
  move_undone all new some left = same_names (table_of new) (table_of es) (λ q. get_filter outside q all new left ∙ by_to q (under to q) refl) where
    by_to : (q : List ℕ) (o : Option (List ℕ)) → under to q ≡ o → cond (is_none (under to q)) (map.get (table_of all) q) None ≡ map.get (table_of es) q
    by_to q None e =
        ap (λ (o : Option (List ℕ)). cond (is_none o) (map.get (table_of all) q) None) e
        ∙ ap (λ (n : Names). map.get n q) some.put ∙ get_put_all some.rest (table_of es) q
        ∙ ap (λ (x : Option Node). or_else x (map.get (table_of es) q)) (unfound_last q some.front some.rest (ap (map.find path_cmp q) (sym some.all) ∙ unfound_along from to q e (shown es)))
    by_to q (Some rest) e =
        ap (λ (o : Option (List ℕ)). cond (is_none o) (map.get (table_of all) q) None) e
        ∙ sym (ap (map.get (table_of es)) (under_is to q rest e) ∙ free rest (under_tail to q rest e))

-- into an empty map
pub put_fresh : (es : Entries) → put_all es map.empty ≡ map.from_entries es
put_fresh [] = refl
put_fresh (e ∷ es) = ap (λ (n : Names). map.insert n e.0 e.1) (put_fresh es)
