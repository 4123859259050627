-- Flushes while a compaction runs change nothing of what it may merge and what it leaves out.
use Rattle.std.specs.Prelude.{◌≡◌, ◌⊎◌, ℕ, ◌<◌, ◌≤◌, Bool, true, false, cond, ◌&&◌, ◌||◌, not, nat_lt, is_none, List, [], ◌∷◌, All, Contains, Option, Some, None}
use Rattle.std.proofs.Common.{refl, sym, ap, inl, inr, ◌∙◌, arith}
use Rattle.std.specs.Cmp.{both_ways}
use Rattle.std.specs.List.{list_any}
use Rattle.std.proofs.lemmas.Bool.Decides.{nat_tests}
use Rattle.std.proofs.lemmas.List.Elements.{All-weaker}
use Rattle.std.specs.FinMap as finite
use Rattle.lsm_rows.specs.declared.rows.Row.{Row}
use Rattle.lsm_rows.specs.Contents.{newest}
use Rattle.lsm_version.specs.declared.choices.Choice.{Choice}
use Rattle.lsm_version.specs.declared.edits.Edit.{Edit}
use Rattle.lsm_version.specs.declared.tables.Place.{Place}
use Rattle.lsm_version.specs.declared.tables.Placed.{Placed}
use Rattle.lsm_version.specs.Levels.{Tables}
use Rattle.lsm_version.specs.Orders.{Stands}
use Rattle.lsm_compact.specs.Closed.{IsClosed, IsOutside, IsRead}
use Rattle.lsm_compact.specs.Grown.{IsGrown}
use Rattle.lsm_compact.specs.Orderly.{in_range}
use Rattle.lsm_compact.specs.Outputs.{IsEditOf}
use Rattle.lsm_compact.specs.Written.{is_input, may_hide, is_below, is_left_out, unless_left_out}
use Rattle.lsm_compact.proofs.Keys.{untrue, first_true}
use Rattle.lsm_compact.proofs.Members.{has_first, has_later, entry_stands, stands_entry}
use Rattle.lsm_compact.proofs.Outside.{any_of}

-- an element that passes, where one does
pub any_is : {A : Type 0} (p : A → Bool) (xs : List A) → list_any p xs ≡ true → (x : A) × Contains xs x × (p x ≡ true)
any_is p [] is = absurd (untrue is)
any_is p (x ∷ xs) is =
    elim (p x) as (λ b. p x ≡ b → (b || list_any p xs) ≡ true → (y : _) × Contains (x ∷ xs) y × (p y ≡ true)) [
      | true ↦ λ here _. (x, has_first x xs, here)
      | false ↦ λ _ more. let a = any_is p xs more in (a.0, has_later x xs a.0 a.1, a.2)
    ] refl is

below_from : (a b : ℕ) → nat_lt a b ≡ true → a < b
below_from a b e = grind (arith, nat_tests)

same_placed : (a b : Placed) → Some a ≡ Some b → a ≡ b
same_placed a b is = cc

module _ (tables more : Tables) (rows : ℕ → List Row) (choice : Choice) (closed : IsClosed tables rows choice)
    (grown : IsGrown tables more rows) where
  -- a table of the grown version was there, or has come
  which : (n : ℕ) (placed : Placed) → finite.get more n ≡ Some placed → (finite.get tables n ≡ Some placed) ⊎
      (finite.get tables n ≡ None)
  which n placed there =
      elim (finite.get tables n) as (λ o. finite.get tables n ≡ o → (o ≡ Some placed) ⊎ (o ≡ None)) [
        | None ↦ λ _. inr refl
        | Some was ↦ λ is. inl (ap Some (same_placed was placed (sym (grown.stay n was is) ∙ there)))
      ] refl

  stands_more : (place : Place) → Stands tables place → Stands more place
  stands_more place s = record { placed = s.placed; there = grown.stay place.number s.placed s.there; level_is = s.level_is }

  was_read : (n : ℕ) (placed : Placed) → IsRead more choice n placed → IsRead tables choice n placed
  was_read n placed read =
      let s = closed.stand (record { level = placed.level; number = n }) read.among in
      let same = same_placed s.placed placed (sym (grown.stay n s.placed s.there) ∙ read.there) in
      record { there = s.there ∙ ap Some same; among = read.among }

  was_outside : (n : ℕ) (placed : Placed) → IsOutside more choice n placed → IsOutside tables choice n placed ⊎
      (finite.get tables n ≡ None)
  was_outside n placed out =
      elim (which n placed out.there) [
        | inl was ↦ inl (record { there = was; not_read = out.not_read })
        | inr new ↦ inr new
      ]

  pub closed_more : IsClosed more rows choice
  closed_more = record {
    stand = λ place c. stands_more place (closed.stand place c);
    below = closed.below;
    ascend = closed.ascend;
    above = closed.above;
    between = λ place number placed c out deeper. elim (was_outside number placed out) [
      | inl was ↦ closed.between place number placed c was deeper
      | inr new ↦ let zeroth = grown.level number placed new out.there in absurd (omega (arith, zeroth, deeper))
    ];
    beside = λ m n number first last placed read_m read_n out is. elim (was_outside number placed out) [
      | inl was ↦ closed.beside m n number first last placed (was_read m first read_m) (was_read n last read_n) was is
      | inr new ↦ let zeroth = grown.level number placed new out.there in let below = closed.below in absurd
          (omega (arith, zeroth, is, below))
    ];
    newer = λ m number input placed read out zeroth zeroth_too. elim (was_outside number placed out) [
      | inl was ↦ closed.newer m number input placed (was_read m input read) was zeroth zeroth_too
      | inr new ↦ All-weaker (λ (row : Row). All (λ (other : Row). other.sequence ≤ row.sequence) (rows m))
          (λ (row : Row). All (λ (other : Row). other.key ≡ row.key → other.sequence ≤ row.sequence) (rows m))
          (λ row all. All-weaker (λ (other : Row). other.sequence ≤ row.sequence)
          (λ (other : Row). other.key ≡ row.key → other.sequence ≤ row.sequence) (λ other most _. most) (rows m) all)
          (rows number) (grown.newer m number input placed (was_read m input read).there new out.there)
    ];
  }

  same_below : (key : List ℕ) → is_below more choice key ≡ is_below tables choice key
  unfolding is_below
  same_below key = both_ways (is_below more choice key) (is_below tables choice key) back to
    where
      back : list_any (may_hide choice key) (finite.entries more) ≡ true → list_any (may_hide choice key)
          (finite.entries tables) ≡ true
      back is =
          let a = any_is (may_hide choice key) (finite.entries more) is in
          let there = entry_stands more a.0 a.1 in
          let deep = below_from choice.output a.0.1.level
          (first_true (nat_lt choice.output a.0.1.level)
          (not (is_input choice.inputs a.0.0) && in_range key a.0.1.info) a.2) in
          elim (which a.0.0 a.0.1 there) [
            | inl was ↦ any_of (may_hide choice key) (finite.entries tables) a.0 (stands_entry tables a.0.0 a.0.1 was) a.2
            | inr new ↦ let zeroth = grown.level a.0.0 a.0.1 new there in absurd (omega (arith, zeroth, deep))
          ]

      to : list_any (may_hide choice key) (finite.entries tables) ≡ true → list_any (may_hide choice key)
          (finite.entries more) ≡ true
      to is =
          let a = any_is (may_hide choice key) (finite.entries tables) is in
          any_of (may_hide choice key) (finite.entries more) a.0
          (stands_entry more a.0.0 a.0.1 (grown.stay a.0.0 a.0.1 (entry_stands tables a.0 a.1))) a.2

  same_unless : (o : Option Row) → unless_left_out tables choice o ≡ unless_left_out more choice o
  unfolding is_left_out
  same_unless None = refl
  same_unless (Some row) = ap (λ b. cond (is_none row.value && not b) None (Some row)) (sym (same_below row.key))

  pub edit_more : (inputs : List Row) (outputs : List (List Row)) (edit : Edit) → IsEditOf tables choice inputs outputs edit
      → IsEditOf more choice inputs outputs edit
  edit_more inputs outputs edit e = record {
    written = record { ascend = e.written.ascend; each = λ key. e.written.each key ∙ same_unless (newest key inputs) };
    ended = e.ended;
    drops = e.drops;
    adds = e.adds;
    log = e.log;
    next = e.next;
    last = e.last;
  }
