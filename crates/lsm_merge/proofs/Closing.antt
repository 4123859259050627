-- The steps of a merge as its calls leave it.
use Rattle.std.proofs.Common.{◌≡◌, ◌≢◌, ℕ, ◌+◌, ◌<◌, Bool, true, List, [], ◌∷◌, length, get_or, slice_set, refl, sym, ap, ◌∙◌, subst}
use Rattle.std.specs.Prelude.{Option, Some, None, Ok, Err, MatchOption, IfSome, slice_get, unwrap_or}
use Rattle.std.proofs.lemmas.Option.{slice_get_read}
use Rattle.lsm_rows.specs.declared.rows.Row.{Row}
use Rattle.lsm_merge.specs.declared.heads.Head.{Head}
use Rattle.lsm_merge.specs.declared.faults.MergeFault.TheVariants.{Source, NoMemory}
use Rattle.lsm_merge.specs.Held.{AreFrom, IsPut, IsReplaced}
use Rattle.lsm_merge.specs.Merging.{Merging, IsReady}
use Rattle.lsm_merge.specs.Steps.{HasMore, IsStep, rows_ahead}
use Rattle.lsm_merge.proofs.Taking.{step_none, step_fault, step_asked, step_taken, fewer_ahead, first_held, place_within}

module _ {S F : Type 0} (left : S → List Row) (ended : S → Bool) (fault_of : S → Option F) where
  pub close_none : {U : Type 0} (m was : Merging S) (kept : List Head) → was ≡ m → kept ≡ was.heads → IsReady left ended m
      → IsStep {A = U} left ended fault_of (Err NoMemory) m
      (record { found = was.found; heads = kept; asked = was.asked; sources = was.sources })
  close_none {U} m was kept same heads ready =
      subst (λ (n : Merging S). IsStep {A = U} left ended fault_of (Err NoMemory) m n)
      (sym same ∙ ap (λ (l : List Head). record {
        found = was.found;
        heads = l;
        asked = was.asked;
        sources =
            was.sources;
      }) (sym heads)) (step_none left ended fault_of m ready)

  pub close_fault : {U : Type 0} (m was : Merging S) (kept : List Head) (place : ℕ) (before after : S) (fault : F)
      → was ≡ m → kept ≡ was.heads → IsReady left ended m → place < length m.sources
      → before ≡ get_or was.sources place before → left after ≡ left before
      → (ended before ≡ true → ended after ≡ true) → fault_of after ≡ Some fault
      → IsStep {A = U} left ended fault_of (Err (Source place fault)) m
      (record { found = was.found; heads = kept; asked = was.asked; sources = slice_set was.sources place after })
  close_fault {U} m was kept place before after fault same heads ready within read rows end told =
      subst (λ (n : Merging S). IsStep {A = U} left ended fault_of (Err (Source place fault)) m n)
      (ap (λ (n : Merging S). record n { sources = slice_set n.sources place after }) (sym same)
      ∙ ap (λ (l : List Head). record {
        found = was.found;
        heads = l;
        asked = was.asked;
        sources = slice_set
            was.sources place after;
      }) (sym heads))
      (step_fault left ended fault_of m place before after fault ready
      (slice_get_read m.sources (length m.sources) place before refl within
      (read ∙ ap (λ (n : Merging S). get_or n.sources place before) same)) rows end told)

  pub close_asked : {U : Type 0} (m was : Merging S) (kept heads : List Head) (before after : S) (gave : Option Row)
      (u : U) → was ≡ m → kept ≡ was.heads → IsReady left ended m → m.asked < length m.sources
      → before ≡ get_or was.sources was.asked before → MatchOption gave
      ((left before ≡ []) × (left after ≡ []) × (ended after ≡ true)) (λ row. left before ≡ row ∷ left after)
      → (ended before ≡ true → ended after ≡ true) → fault_of after ≡ None → IsPut gave was.asked kept heads
      → IsStep {A = U} left ended fault_of (Ok u) m
      (record { found = was.found; heads = heads; asked = was.asked + 1; sources = slice_set was.sources was.asked after })
  close_asked {U} m was kept heads before after gave u same held ready more read says end told put =
      subst (λ (n : Merging S). IsStep {A = U} left ended fault_of (Ok u) m
      (record { found = n.found; heads = heads; asked = n.asked + 1; sources = slice_set n.sources n.asked after }))
      (sym same)
      (step_asked left ended fault_of m before after gave heads u ready more
      (slice_get_read m.sources (length m.sources) m.asked before refl more
      (read ∙ ap (λ (n : Merging S). get_or n.sources n.asked before) same)) says end told
      (subst (λ (n : Merging S). IsPut gave n.asked n.heads heads) same
      (subst (λ (l : List Head). IsPut gave was.asked l heads) held put)))

  close_at : {U : Type 0} (m was : Merging S) (place : ℕ) (head : Head) (before after : S) (gave : Option Row)
      (heads : List Head) (u : U) → was ≡ m → IsReady left ended m → HasMore m → m.asked ≡ length m.sources
      → slice_get was.heads 0 ≡ Some head → IfSome (slice_get was.heads 0) (λ first. first.place ≡ place)
      → AreFrom head.row was.heads → before ≡ get_or was.sources place before
      → MatchOption gave ((left before ≡ []) × (left after ≡ []) × (ended after ≡ true)) (λ row. left before ≡ row ∷ left after)
      → (ended before ≡ true → ended after ≡ true) → fault_of after ≡ None → IsReplaced gave head was.heads heads
      → IsStep {A = U} left ended fault_of (Ok u) m
      (record {
        found = Some (unwrap_or was.found head.row);
        heads = heads;
        asked = was.asked;
        sources = slice_set
            was.sources place after;
      })
      × (rows_ahead left (record {
        found = Some (unwrap_or was.found head.row);
        heads = heads;
        asked = was.asked;
        sources = slice_set was.sources place after;
      }) < rows_ahead left m)
  close_at {U} m was place head before after gave heads u same ready more asked top first bound read says end told put =
      let at_m : (n : Merging S) → n ≡ m → slice_get n.heads 0 ≡ Some head → AreFrom head.row n.heads
      → before ≡ get_or n.sources head.place before → IsReplaced gave head n.heads heads
      → IsStep {A = U} left ended fault_of (Ok u) m
      (record {
        found = Some (unwrap_or n.found head.row);
        heads = heads;
        asked = n.asked;
        sources = slice_set
            n.sources head.place after;
      })
      × (rows_ahead left (record {
        found = Some (unwrap_or n.found head.row);
        heads = heads;
        asked = n.asked;
        sources = slice_set n.sources head.place after;
      }) < rows_ahead left m)
      = λ n is top bound read put. by_same n (sym is) top bound read put in
      let here : head.place ≡ place = subst (λ (o : Option Head). IfSome o (λ h. h.place ≡ place)) top first in
      subst (λ (p : ℕ). IsStep {A = U} left ended fault_of (Ok u) m
      (record {
        found = Some (unwrap_or was.found head.row);
        heads = heads;
        asked = was.asked;
        sources = slice_set
            was.sources p after;
      })
      × (rows_ahead left (record {
        found = Some (unwrap_or was.found head.row);
        heads = heads;
        asked = was.asked;
        sources = slice_set was.sources p after;
      }) < rows_ahead left m)) here
      (at_m was same top bound (read ∙ ap (λ (p : ℕ). get_or was.sources p before) (sym here)) put)
    where
      by_same : (n : Merging S) → m ≡ n → slice_get n.heads 0 ≡ Some head → AreFrom head.row n.heads
          → before ≡ get_or n.sources head.place before → IsReplaced gave head n.heads heads
          → IsStep {A = U} left ended fault_of (Ok u) m
          (record {
            found = Some (unwrap_or n.found head.row);
            heads = heads;
            asked = n.asked;
            sources = slice_set
                n.sources head.place after;
          })
          × (rows_ahead left (record {
            found = Some (unwrap_or n.found head.row);
            heads = heads;
            asked = n.asked;
            sources = slice_set n.sources head.place after;
          }) < rows_ahead left m)
      by_same n is =
          subst (λ (n : Merging S). slice_get n.heads 0 ≡ Some head → AreFrom head.row n.heads
          → before ≡ get_or n.sources head.place before → IsReplaced gave head n.heads heads
          → IsStep {A = U} left ended fault_of (Ok u) m
          (record {
            found = Some (unwrap_or n.found head.row);
            heads = heads;
            asked = n.asked;
            sources = slice_set
                n.sources head.place after;
          })
          × (rows_ahead left (record {
            found = Some (unwrap_or n.found head.row);
            heads = heads;
            asked = n.asked;
            sources = slice_set n.sources head.place after;
          }) < rows_ahead left m)) is
          (λ top bound read put.
          let at : slice_get m.sources head.place ≡ Some before = slice_get_read m.sources (length m.sources)
          head.place before refl (place_within left ended fault_of m head.place ready more
          (subst (λ (o : Option Head). IfSome o (λ h. h.place ≡ head.place)) (sym top) refl)) read in (
            step_taken left ended fault_of m head before after gave heads ready more asked top bound at says put u end told,
            fewer_ahead left ended fault_of m head before after gave heads ready more asked top bound at says put,
          ))

  pub close_taken : {U : Type 0} (m was : Merging S) (place : ℕ) (head : Head) (found : Row) (before after : S)
      (gave : Option Row) (heads : List Head) (u : U) → was ≡ m → IsReady left ended m → HasMore m
      → m.asked ≡ length m.sources
      → slice_get was.heads 0 ≡ Some head → IfSome (slice_get was.heads 0) (λ first. first.place ≡ place)
      → AreFrom head.row was.heads → found ≡ unwrap_or was.found head.row → before ≡ get_or was.sources place before
      → MatchOption gave ((left before ≡ []) × (left after ≡ []) × (ended after ≡ true)) (λ row. left before ≡ row ∷ left after)
      → (ended before ≡ true → ended after ≡ true) → fault_of after ≡ None → IsReplaced gave head was.heads heads
      → IsStep {A = U} left ended fault_of (Ok u) m
      (record { found = Some found; heads = heads; asked = was.asked; sources = slice_set was.sources place after })
      × (rows_ahead left (record {
        found = Some found;
        heads = heads;
        asked = was.asked;
        sources = slice_set
            was.sources place after;
      }) < rows_ahead left m)
  close_taken {U} m was place head found before after gave heads u same ready more asked top first bound found_is read
      says end told put =
      subst (λ (f : Row). IsStep {A = U} left ended fault_of (Ok u) m
      (record { found = Some f; heads = heads; asked = was.asked; sources = slice_set was.sources place after })
      × (rows_ahead left (record {
        found = Some f;
        heads = heads;
        asked = was.asked;
        sources = slice_set was.sources
            place after;
      }) < rows_ahead left m)) (sym found_is)
      (close_at m was place head before after gave heads u same ready more asked top first bound read says end told put)

  -- what a step asks of the first held row
  pub close_held : (m was : Merging S) → was ≡ m → HasMore m → was.heads ≢ []
  close_held m was same more none = first_held left ended fault_of m more (ap (λ (n : Merging S). n.heads) (sym same) ∙ none)

  pub close_within : (m was : Merging S) (place : ℕ) → was ≡ m → IsReady left ended m → HasMore m
      → IfSome (slice_get was.heads 0) (λ head. head.place ≡ place) → place < length m.sources
  close_within m was place same ready more first = place_within left ended fault_of m place ready more
      (subst (λ (n : Merging S). IfSome (slice_get n.heads 0) (λ head. head.place ≡ place)) same first)
