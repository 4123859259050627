-- The entries of a sorted map as contents.
use Rattle.std.specs.Prelude.{◌≡◌, ℕ, Bool, true, false, cond, ◌&&◌, T, List, [], ◌∷◌, map, Option, Some, None, Vec}
use Rattle.std.proofs.Common.{refl, sym, ap, subst, ◌∙◌}
use Rattle.std.specs.Option.{option_map}
use Rattle.std.specs.Ordering.{is_eq, is_lt, eq_by_cmp, match_ordering}
use Rattle.std.specs.declared.cmp.Ordering.{Ordering}
use Rattle.std.specs.declared.cmp.Ordering.TheVariants.{Less, Equal, Greater}
use Rattle.std.specs.Cmp.Lexicographic.{nat_list_cmp_total}
use Rattle.std.specs.List.{AllByRecursion}
use Rattle.std.specs.List.Sorted.{IsStrictlySortedBy}
use Rattle.std.specs.Map.{lookup, keys_of, KeepsOthers}
use Rattle.std.specs.BTreeMap.{insert_entry}
use Rattle.std.specs.FinMap as finite
use Rattle.std.specs.FinMap.Entries.{by_order, below_all, is_sorted, find-put}
use Rattle.lsm_rows.specs.Replay.{Contents, key_cmp}
use Rattle.lsm_rows.proofs.NewestRows.{same_key}
use Rattle.lsm_rows.specs.Pairs.{pair_of, contents_of}

module _ {Z : Type 0} where
  found : (key : List ℕ) (es : List (Vec ℕ Z × Vec ℕ Z)) → finite.find key_cmp key (map pair_of es) ≡ option_map (λ (v : Vec ℕ Z). v.items) (lookup (λ (k : Vec ℕ Z). is_eq (key_cmp key k.items)) es)
  found key [] = refl
  found key (e ∷ es) =
      ap (cond (is_eq (key_cmp key e.0.items)) (Some e.1.items)) (found key es)
      ∙ elim (is_eq (key_cmp key e.0.items)) as (λ b. cond b (Some e.1.items) (option_map (λ (v : Vec ℕ Z). v.items) (lookup (λ (k : Vec ℕ Z). is_eq (key_cmp key k.items)) es))
      ≡ option_map (λ (v : Vec ℕ Z). v.items) (cond b (Some e.1) (lookup (λ (k : Vec ℕ Z). is_eq (key_cmp key k.items)) es))) [ true ↦ refl | false ↦ refl ]

  -- what the contents have at a key
  pub value_at : (es : List (Vec ℕ Z × Vec ℕ Z)) (key : List ℕ) (value : Option (Vec ℕ Z)) → value ≡ lookup (λ (k : Vec ℕ Z). is_eq (key_cmp key k.items)) es
      → option_map (λ (v : Vec ℕ Z). v.items) value ≡ finite.get (contents_of es) key
  value_at es key value is = ap (option_map (λ (v : Vec ℕ Z). v.items)) is ∙ sym (finite.get-from_entries nat_list_cmp_total (map pair_of es) key ∙ found key es)

  put_entry : (es : List (Vec ℕ Z × Vec ℕ Z)) (k v : Vec ℕ Z) → map pair_of (insert_entry (λ (x y : Vec ℕ Z). key_cmp x.items y.items) es k v) ≡ finite.put key_cmp k.items v.items (map pair_of es)
  put_entry [] k v = refl
  put_entry (e ∷ es) k v =
      elim (key_cmp k.items e.0.items) as (λ o. map pair_of (match_ordering o ((k, v) ∷ e ∷ es) ((e.0, v) ∷ es) (e ∷ insert_entry (λ (x y : Vec ℕ Z). key_cmp x.items y.items) es k v))
      ≡ by_order o ((k.items, v.items) ∷ pair_of e ∷ map pair_of es) ((e.0.items, v.items) ∷ map pair_of es) (pair_of e ∷ finite.put key_cmp k.items v.items (map pair_of es))) [
        | Less ↦ refl
        | Equal ↦ refl
        | Greater ↦ ap (λ (l : List (List ℕ × List ℕ)). pair_of e ∷ l) (put_entry es k v)
      ]

  -- one more entry sets its key's value
  pub contents_put : (es new : List (Vec ℕ Z × Vec ℕ Z)) (k v : Vec ℕ Z) → new ≡ insert_entry (λ (x y : Vec ℕ Z). key_cmp x.items y.items) es k v → contents_of new ≡ finite.insert (contents_of es) k.items v.items
  contents_put es new k v is =
      ap contents_of is ∙ finite.same_map nat_list_cmp_total (finite.slice_cmp-IsAntisymmetric finite.nat_cmp-IsAntisymmetric) _ _ (λ q.
      finite.get-from_entries nat_list_cmp_total (map pair_of (insert_entry (λ (x y : Vec ℕ Z). key_cmp x.items y.items) es k v)) q
      ∙ ap (finite.find key_cmp q) (put_entry es k v)
      ∙ find-put key_cmp nat_list_cmp_total q k.items v.items (map pair_of es)
      ∙ sym (finite.get-insert nat_list_cmp_total (contents_of es) k.items v.items q ∙ ap (cond (eq_by_cmp key_cmp q k.items) (Some v.items)) (finite.get-from_entries nat_list_cmp_total (map pair_of es) q)))

  -- the key that is taken out is there no more, and the others stay
  module _ (es new : List (Vec ℕ Z × Vec ℕ Z)) (key : List ℕ) (gone : lookup (λ (k : Vec ℕ Z). is_eq (key_cmp key k.items)) new ≡ None)
      (others : KeepsOthers (eq_by_cmp (λ (x y : Vec ℕ Z). key_cmp x.items y.items)) (λ (k : Vec ℕ Z). is_eq (key_cmp key k.items)) es new) where
    same_key_test : (q : List ℕ) (x y : Vec ℕ Z) → is_eq (key_cmp q x.items) ≡ true → is_eq (key_cmp q y.items) ≡ is_eq (key_cmp x.items y.items)
    same_key_test q x y e = ap (λ (k : List ℕ). is_eq (key_cmp k y.items)) (same_key q x.items e)

    left_by : (q : List ℕ) (b : Bool) → is_eq (key_cmp q key) ≡ b → finite.get (contents_of new) q ≡ cond b None (finite.get (contents_of es) q)
    unfolding KeepsOthers
    left_by q true e =
        sym (value_at new q (lookup (λ (k : Vec ℕ Z). is_eq (key_cmp q k.items)) new) refl)
        ∙ ap (λ (p : List ℕ). option_map (λ (v : Vec ℕ Z). v.items) (lookup (λ (k : Vec ℕ Z). is_eq (key_cmp p k.items)) new)) (same_key q key e)
        ∙ ap (option_map (λ (v : Vec ℕ Z). v.items)) gone
    left_by q false e =
        sym (value_at new q (lookup (λ (k : Vec ℕ Z). is_eq (key_cmp q k.items)) new) refl)
        ∙ ap (option_map (λ (v : Vec ℕ Z). v.items))
        (others (λ (k : Vec ℕ Z). is_eq (key_cmp q k.items)) (same_key_test q) (λ k is. ap (λ (p : List ℕ). is_eq (key_cmp q p)) (sym (same_key key k.items is)) ∙ e))
        ∙ value_at es q (lookup (λ (k : Vec ℕ Z). is_eq (key_cmp q k.items)) es) refl

    left_at : (q : List ℕ) → finite.get (contents_of new) q ≡ finite.get (finite.remove (contents_of es) key) q
    left_at q = left_by q (is_eq (key_cmp q key)) refl ∙ sym (finite.get-remove nat_list_cmp_total (contents_of es) key q)

    pub contents_removed : contents_of new ≡ finite.remove (contents_of es) key
    contents_removed = finite.same_map nat_list_cmp_total (finite.slice_cmp-IsAntisymmetric finite.nat_cmp-IsAntisymmetric) _ _ left_at

-- ---- the entries in their order

pub both : (a b : Bool) → T a → T b → T (a && b)
both true b p q = q
both false b p q = p

module _ {Z : Type 0} where
  sorted_from : (x : List ℕ) (es : List (Vec ℕ Z × Vec ℕ Z)) → AllByRecursion (λ (y : Vec ℕ Z). key_cmp x y.items ≡ Less) (keys_of es) → T (below_all key_cmp x (map pair_of es))
  sorted_from x [] below = tt
  sorted_from x (e ∷ es) below = both (is_lt (key_cmp x e.0.items)) (below_all key_cmp x (map pair_of es)) (subst (λ (r : Ordering). T (is_lt r)) (sym below.0) tt) (sorted_from x es below.1)

  pairs_sorted : (es : List (Vec ℕ Z × Vec ℕ Z)) → IsStrictlySortedBy (λ (x y : Vec ℕ Z). key_cmp x.items y.items) (keys_of es) → T (is_sorted key_cmp (map pair_of es))
  unfolding IsStrictlySortedBy
  pairs_sorted [] sorted = tt
  pairs_sorted (e ∷ es) sorted = both (below_all key_cmp e.0.items (map pair_of es)) (is_sorted key_cmp (map pair_of es)) (sorted_from e.0.items es sorted.0) (pairs_sorted es sorted.1)

  -- a map of std keeps its entries as the contents have them
  pub entries_contents : (es : List (Vec ℕ Z × Vec ℕ Z)) → IsStrictlySortedBy (λ (x y : Vec ℕ Z). key_cmp x.items y.items) (keys_of es) → finite.entries (contents_of es) ≡ map pair_of es
  entries_contents es ordered =
      let sorted : T (is_sorted key_cmp (map pair_of es)) = pairs_sorted es ordered in
      ap (λ (m : Contents). finite.entries m)
      (finite.same_map nat_list_cmp_total (finite.slice_cmp-IsAntisymmetric finite.nat_cmp-IsAntisymmetric) (contents_of es) (finite.from_sorted (map pair_of es)) (λ q.
      finite.get-from_entries nat_list_cmp_total (map pair_of es) q ∙ sym (finite.get-from_sorted key_cmp (map pair_of es) q sorted)))
      ∙ finite.entries-from_sorted key_cmp (map pair_of es) sorted
