-- A key's newest row depends on which rows there are, and not on their order, where no two rows of it have one sequence.
use Rattle.std.specs.Prelude.{◌≡◌, ℕ, ◌≤◌, true, false, cond, List, [], ◌∷◌, Contains, Some, None, is_some}
use Rattle.std.proofs.Common.{refl, sym, ap, inl, inr, ◌∙◌, arith}
use Rattle.std.specs.Ordering.{eq_by_cmp}
use Rattle.std.proofs.lemmas.List.Elements.{All-contains}
use Rattle.lsm_rows.specs.declared.rows.Row.{Row}
use Rattle.lsm_rows.specs.Contents.{IsNewest, newer, newest, contents_of}
use Rattle.lsm_rows.specs.Replay.{key_cmp}
use Rattle.lsm_rows.proofs.NewestRows.{newest_is, tied, contents_by_newest}
use Rattle.lsm_compact.proofs.Keys.{untrue}
use Rattle.lsm_compact.proofs.Members.{nothing, by_first, All-from_contained}

-- a key of which there is a row has a newest one
pub has_newest : (k : List ℕ) (rows : List Row) (row : Row) → Contains rows row → row.key ≡ k → is_some (newest k rows) ≡ true
has_newest k [] row c is = absurd (nothing row c)
has_newest k (r ∷ rows) row c is =
    elim (eq_by_cmp key_cmp k r.key) as
    (λ b. eq_by_cmp key_cmp k r.key ≡ b → is_some (cond b (Some (newer r (newest k rows))) (newest k rows)) ≡ true) [
      | true ↦ λ _. refl
      | false ↦ λ other. elim (by_first r rows row c) [
        | inl same ↦ absurd (untrue (sym other ∙ tied k r.key (ap (λ (x : Row). x.key) same ∙ is)))
        | inr more ↦ has_newest k rows row more is
      ]
    ] refl

-- rows of one key with one sequence are one row
pub record HasOneEach (rows : List Row) : Type 0 where
  pub same : (a b : Row) → Contains rows a → Contains rows b → a.key ≡ b.key → a.sequence ≡ b.sequence → a ≡ b

some_is : (a b : Row) → Some a ≡ Some b → a ≡ b
some_is a b is = cc

-- the row with the greatest sequence is the newest
pub newest_of : (k : List ℕ) (rows : List Row) (row : Row) → HasOneEach rows → IsNewest k rows row → newest k rows ≡ Some row
newest_of k rows row one is =
    elim (newest k rows) as (λ o. newest k rows ≡ o → o ≡ Some row) [
      | None ↦ λ none. absurd (untrue (sym (ap is_some none) ∙ has_newest k rows row is.among is.of_key))
      | Some x ↦ λ found.
          let n = newest_is k rows x found in
          let at_most : x.sequence ≤ row.sequence = All-contains
          (λ (other : Row). other.key ≡ k → other.sequence ≤ row.sequence) rows x is.greatest n.among n.of_key in
          let at_least : row.sequence ≤ x.sequence = All-contains
          (λ (other : Row). other.key ≡ k → other.sequence ≤ x.sequence) rows row n.greatest is.among is.of_key in
          ap Some (one.same x row n.among is.among (n.of_key ∙ sym is.of_key) (omega (arith, at_most, at_least)))
    ] refl

-- the same rows, in some order
pub record HaveSame (xs ys : List Row) : Type 0 where
  pub to : (row : Row) → Contains xs row → Contains ys row
  pub back : (row : Row) → Contains ys row → Contains xs row

same_newest : (xs ys : List Row) → HaveSame xs ys → HasOneEach ys → (k : List ℕ) → newest k xs ≡ newest k ys
same_newest xs ys same one k =
    elim (newest k xs) as (λ o. newest k xs ≡ o → o ≡ newest k ys) [
      | None ↦ λ none. elim (newest k ys) as (λ o. newest k ys ≡ o → None ≡ o) [
        | None ↦ λ _. refl
        | Some y ↦ λ found.
            let n = newest_is k ys y found in
            absurd (untrue (sym (ap is_some none) ∙ has_newest k xs y (same.back y n.among) n.of_key))
      ] refl
      | Some x ↦ λ found.
          let n = newest_is k xs x found in
          sym (newest_of k ys x one (record {
            among = same.to x n.among;
            of_key = n.of_key;
            greatest = All-from_contained (λ (other : Row). other.key ≡ k → other.sequence ≤ x.sequence) ys
                (λ other c. All-contains (λ (other : Row). other.key ≡ k → other.sequence ≤ x.sequence) xs other n.greatest
                (same.back other c));
          }))
    ] refl

-- the same rows stand for the same contents
pub same_contents : (xs ys : List Row) → HaveSame xs ys → HasOneEach ys → contents_of xs ≡ contents_of ys
same_contents xs ys same one = contents_by_newest xs ys (same_newest xs ys same one)
