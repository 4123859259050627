-- Each step keeps the rule.
use Rattle.std.proofs.Common.{◌≡◌, ◌≢◌, ℕ, eqb, eq-eqb, true, false, ◌+◌, ◌%◌, ◌^◌, ◌<◌, ◌≤◌, ◌⊎◌, List, [], ◌∷◌, ◌++◌, length, set, sym, refl, ap, ◌∙◌, subst, ⊎_elim, inl, inr, arith, Option, Some, None, length-append, zero, suc}
use Rattle.std.proofs.lemmas.List.{append-nil}
use mathlib.Core.Logic.{dite}
use mathlib.Core.Option as logic
use mathlib.Core.Option.{some-injective, some-ne-none}
use mathlib.Core.List.{IsPrefix}
use native.Mathlib.Decide.{ℕ_discrete}
use lib.ListN.{get_elem?}
use Rattle.std.specs.Prelude.{slice_index, slice_set}
use Rattle.atomic_table.specs.Table.{State, Me, step, Act, keeps, takes, gives, stepped, carried_after, Valid, Allows, rest, put_back}
use Rattle.atomic_table.proofs.Lists.{set_again, one_turn}
use Rattle.turn_lock.specs.declared.view.View.{View}
use Rattle.turn_lock.specs.declared.view.Stage.{Stage}
use Rattle.turn_lock.specs.declared.view.Stage.TheVariants.{Founds, Places, Idle, Waits, Holds}
use Rattle.turn_lock.specs.Lists.{total, tagged, first_lane}
use Rattle.turn_lock.specs.Views.{pending, lane_in, lanes_in, tickets_in, founder, placer, begun, places, begins, entered, waits, holds, idle}
use Rattle.turn_lock.specs.Rule.{Fits, HasOwn, IsHome, IsOut, IsKept, IsFounding, IsTurn}
use Rattle.turn_lock.specs.Steps.{Empties, Starts, Draws, Serves, Enters, Leaves, IsIdle, FollowsFrom}
use Rattle.turn_lock.proofs.Lanes.{blank_long, blank_once, blank_mine, tagged_long, tagged_known, noted_long, noted_lanes, mine_noted, mine_other, heard_on, first_there, first_below}
use Rattle.turn_lock.proofs.Views.{code, stages_apart, add_mod, prefix_whole, all_append, total_set, total_below, total_two, total_one, has_lane, seen_set, at_self, each_set, same_view, in_range, fits_on, apart_set, holder_stays, none_holds}

module _ {S V E : Type 0} (key : ℕ) (follows : S → V → List (ℕ × E) → Type 0) where
  abbrev Vw : Type 0
  Vw = View S E

  abbrev St : Type 0
  St = State (Option V) Vw

  abbrev M : Type 0
  M = Me (Option V) Vw

  abbrev Homes : Type 0
  Homes = List (logic.Option (Option V))

  -- the views of the (founder key) leave out the rule's other case
  pub kept_only : (s : St) (id : ℕ) (v : Vw) → get_elem? s.views id ≡ logic.some v → v.stage ≢ Founds → v.stage ≢ Places
      → IsTurn key follows s → IsKept key follows s
  kept_only s id v at nf np (inl f) = ⊎_elim
      (λ (t : (s.views ≡ (founder key) ∷ []) × (s.homes ≡ logic.some None ∷ [])). absurd (nf (alone id (founder key) v
      (ap (λ (vs : List Vw). get_elem? vs id) (sym t.0) ∙ at))))
      (λ (t : (s.views ≡ (placer key) ∷ []) × (s.homes ≡ logic.none ∷ [])). absurd (np (alone id (placer key) v
      (ap (λ (vs : List Vw). get_elem? vs id) (sym t.0) ∙ at)))) f.3
    where
      alone : (id : ℕ) (f v : Vw) → get_elem? (f ∷ []) id ≡ logic.some v → v.stage ≡ f.stage
      alone zero f v e = ap (λ (u : Vw). u.stage) (sym (some-injective f v e))
      alone (suc id) f v e = absurd (some-ne-none v (sym e))
  kept_only s id v at nf np (inr k) = k

  -- a seat past the founding knows that the start is picked
  pub kept_at : (s : St) (id : ℕ) (v : Vw) (t : Stage) → get_elem? s.views id ≡ logic.some v → v.stage ≡ t → 1 < code t
      → IsTurn key follows s → IsKept key follows s
  kept_at s id v t at is later r = kept_only s id v at
      (λ e. stages_apart v.stage t Founds is e (λ x. omega arith))
      (λ e. stages_apart v.stage t Places is e (λ x. omega arith)) r

  -- what a view knows at the stage that it has
  abbrev pub FitsIn : (s : St) → IsKept key follows s → Vw → Stage → Type 0
  FitsIn s k v t = Fits k.start k.history k.tickets k.serving v t

  pub fits_at : (s : St) (k : IsKept key follows s) (id : ℕ) (v : Vw) (t : Stage) → get_elem? s.views id ≡ logic.some v
      → v.stage ≡ t → FitsIn s k v t
  fits_at s k id v t at is = subst (FitsIn s k v) is (k.each id v at)

  founds_only : (s : St) (id : ℕ) (v : Vw) → get_elem? s.views id ≡ logic.some v → (v.stage ≡ Founds) ⊎ (v.stage ≡ Places)
      → IsTurn key follows s → IsFounding key s
  founds_only s id v at here (inl f) = f
  founds_only s id v at here (inr k) = absurd (⊎_elim
      (λ (e : v.stage ≡ Founds). subst (Fits k.start k.history k.tickets k.serving v) e (k.each id v at))
      (λ (e : v.stage ≡ Places). subst (Fits k.start k.history k.tickets k.serving v) e (k.each id v at)) here)

  at_zero : (id : ℕ) (f v : Vw) (w : Vw) → get_elem? (f ∷ []) id ≡ logic.some v → (f ≡ v) × (set (f ∷ []) id w ≡ w ∷ [])
  at_zero zero f v w e = (some-injective f v e, refl)
  at_zero (suc id) f v w e = absurd (some-ne-none v (sym e))

  pub empties : (slots id : ℕ) (m : M) → m ≡ ((founder key), [])
      → Allows (IsTurn key follows) slots id m 1 (λ n. n) (Empties (step slots 1 0 0 logic.none) m)
  empties slots id m is s r len at small =
      let at' : get_elem? s.views id ≡ logic.some (founder key) = at ∙ ap (λ (x : M). logic.some x.0) is in
      let f : IsFounding key s = founds_only s id (founder key) at' (inl refl) r in
      ⊎_elim
      (λ (t : (s.views ≡ (founder key) ∷ []) × (s.homes ≡ logic.some None ∷ [])).
      let z = at_zero id (founder key) (founder key) (placer key) (ap (λ (vs : List Vw). get_elem? vs id) (sym t.0) ∙ at') in (
        (placer key),
        takes 0 None,
        ap (λ (hs : Homes). get_elem? hs 0) t.1,
        inl (
          f.0,
          f.1,
          ap (λ (ws : List ℕ). slice_set ws 1 (slice_index ws 1)) f.2,
          inr
              (ap (λ (vs : List Vw). set vs id (placer key)) t.0 ∙ z.1, ap (λ (hs : Homes). slice_set hs 0 logic.none) t.1),
        ),
        (λ i. (places (sym is i).0, (0, None) ∷ m.1)),
      ))
      (λ (t : (s.views ≡ (placer key) ∷ []) × (s.homes ≡ logic.none ∷ [])).
      let z = at_zero id (placer key) (founder key) (placer key) (ap (λ (vs : List Vw). get_elem? vs id) (sym t.0) ∙ at') in
      absurd (stages_apart Places Places Founds refl (ap (λ (u : Vw). u.stage) z.0) (λ e. omega arith)))
      f.3

  first_kept : 0 < key → key < 2 ^ 64 → (start : S) (value : V) → follows start value []
      → IsKept key follows (record { words = 0 ∷ 0 ∷ 0 ∷ []; homes = logic.some (Some value) ∷ []; views = begun 0 key start ∷ [] })
  first_kept pos few start value fol = record {
    start = start;
    history = [];
    tickets = 0;
    serving = 0;
    words = refl;
    known = tt;
    few = few;
    dealt = (let e = blank_long E 0 key in omega arith);
    counted = refl;
    once = (λ n. let e = blank_once E 0 key n in omega arith);
    mine = no_mine;
    whole = (0, begun 0 key start, refl, refl, (let e = blank_long E 0 key in omega arith));
    each = one;
    apart = λ i j v w a b pv pw same. absurd (let e = ap pending (one_stage i v a) in omega arith);
    placed = inl (value, refl, fol, λ h. stages_apart h.1.stage Idle Holds (one_stage h.0 h.1 h.2) h.3 (λ e. omega arith));
  }
    where
      one_stage : (by : ℕ) (v : Vw) → get_elem? (begun 0 key start ∷ []) by ≡ logic.some v → v.stage ≡ Idle
      one_stage zero v e = ap (λ (u : Vw). u.stage) (sym (some-injective (begun 0 key start) v e))
      one_stage (suc by) v e = absurd (some-ne-none v (sym e))

      one : (by : ℕ) (v : Vw) → get_elem? (begun 0 key start ∷ []) by ≡ logic.some v → Fits start [] 0 0 v v.stage
      one zero v e = subst (λ (u : Vw). Fits start [] 0 0 u u.stage) (some-injective (begun 0 key start) v e) (
        refl,
        ([], refl),
        (let e = blank_long E 0 key in omega arith),
      )
      one (suc by) v e = absurd (some-ne-none v (sym e))

      no_mine : (by : ℕ) (v : Vw) → get_elem? (begun 0 key start ∷ []) by ≡ logic.some v → HasOwn key start [] v
      no_mine zero v e = subst (HasOwn key start []) (some-injective (begun 0 key start) v e) (blank_mine E key 0 key (omega arith), tt)
      no_mine (suc by) v e = absurd (some-ne-none v (sym e))

  pub starts : (slots id : ℕ) (m : M) (start : S) (value : V) → m ≡ ((placer key), (0, Some value) ∷ []) → follows start value []
      → Allows (IsTurn key follows) slots id m 2 (λ n. (n + 0) % 2 ^ 64) (Starts start (step slots 2 0 0 logic.none) m)
  starts slots id m start value is fol s r len at small =
      let at' : get_elem? s.views id ≡ logic.some (placer key) = at ∙ ap (λ (x : M). logic.some x.0) is in
      let f : IsFounding key s = founds_only s id (placer key) at' (inr refl) r in
      ⊎_elim
      (λ (t : (s.views ≡ (founder key) ∷ []) × (s.homes ≡ logic.some None ∷ [])).
      let z = at_zero id (founder key) (placer key) (placer key) (ap (λ (vs : List Vw). get_elem? vs id) (sym t.0) ∙ at') in
      absurd (stages_apart Founds Founds Places refl (ap (λ (u : Vw). u.stage) z.0) (λ e. omega arith)))
      (λ (t : (s.views ≡ (placer key) ∷ []) × (s.homes ≡ logic.none ∷ [])).
      let z = at_zero id (placer key) (placer key) (begun 0 key start) (ap (λ (vs : List Vw). get_elem? vs id) (sym t.0) ∙ at') in
      let we : slice_set s.words 2 ((slice_index s.words 2 + 0) % 2 ^ 64) ≡ 0 ∷ 0 ∷ 0 ∷ [] = ap
      (λ (ws : List ℕ). slice_set ws 2 ((slice_index ws 2 + 0) % 2 ^ 64)) f.2 in
      let ve : set s.views id (begun 0 key start) ≡ begun 0 key start ∷ [] = ap
      (λ (vs : List Vw). set vs id (begun 0 key start)) t.0 ∙ z.1 in
      let he : put_back s.homes m.1 ≡ logic.some (Some value) ∷ [] = (λ k. put_back (t.1 k) (is k).1) in (
        begun 0 key start,
        gives,
        tt,
        inr (subst (IsKept key follows)
            (λ k. record { words = sym we k; homes = sym he k; views = sym ve k }) (first_kept f.0 f.1 start value fol)),
        (λ k. (begins (sym is k).0 start, rest (is k).1)),
      ))
      f.3

  -- the words of a state, one of them changed
  pub draws : (slots id : ℕ) (m : M) → IsIdle m
      → Allows (IsTurn key follows) slots id m 0 (λ n. (n + 1) % 2 ^ 64) (Draws (step slots 0 1 0 logic.none) m)
  draws slots id m free s r len at small =
      let v = m.0 in
      let k = kept_at s id v Idle at free.0 (omega arith) r in
      let w = waits v k.tickets in
      let fits = fits_at s k id v Idle at free.0 in
      let not : v.stage ≢ Holds = (λ e. stages_apart v.stage Idle Holds free.0 e (λ x. omega arith)) in
      let not' : w.stage ≢ Holds = (λ e. stages_apart Waits Waits Holds refl e (λ x. omega arith)) in
      let now : IsKept key follows (stepped s 0 ((slice_index s.words 0 + 1) % 2 ^ 64) id m.1 w keeps) = record {
        start = k.start;
        history = k.history;
        tickets = k.tickets + 1;
        serving = k.serving;
        words = ap (λ (ws : List ℕ). slice_set ws 0 ((slice_index ws 0 + 1) % 2 ^ 64)) k.words
            ∙ ap (λ (n : ℕ). n ∷ k.serving % 2 ^ 64 ∷ length k.history % 2 ^ 64 ∷ []) (add_mod k.tickets 1);
        few = k.few;
        known = k.known;
        dealt = (let a = total_set lanes_in s.views id v w at in let b = k.dealt in omega arith);
        once = (λ n. let a = total_set (lane_in n) s.views id v w at in let b = k.once n in omega arith);
        mine = each_set (λ by u. HasOwn key k.start k.history u) s.views id w (k.mine id v at) (λ by u ne e. k.mine by u e);
        whole = seen_set k.history s.views id v w at refl refl k.whole;
        counted = (let a = total_set tickets_in s.views id v w at in let b = k.counted in let c = ap pending free.0 in omega arith);
        each = each_set (λ by u. Fits k.start k.history (k.tickets + 1) k.serving u u.stage) s.views id w
            (fits.0, fits.1, (let b = k.counted in omega arith), omega arith, fits.2)
            (λ by u ne e. subst (λ (h : List (ℕ × E)). Fits k.start h (k.tickets + 1) k.serving u u.stage) (append-nil k.history)
            (fits_on k.start k.history [] k.tickets (k.tickets + 1) k.serving k.serving u u.stage (omega arith) (λ x. (refl, refl))
            (λ x. (in_range k.start k.history k.tickets k.serving u u.stage (k.each by u e) (ap pending x)).0) (k.each by u e)));
        apart = apart_set s.views id w k.apart
            (λ j u ne e pu pw same. let lt = (in_range k.start k.history k.tickets k.serving u u.stage (k.each j u e) pu).1 in
            absurd (omega arith));
        placed = ⊎_elim
            (λ (t : IsHome follows k.start k.history s.homes s.views).
            inl (t.0, t.1, t.2, none_holds s.views id w not' (λ by u ne e h. t.3 (by, u, e, h))))
            (λ (t : IsOut s.homes s.views). inr (t.0, holder_stays s.views id v w at not t.1))
            k.placed;
      } in (
        w,
        keeps,
        tt,
        inr now,
        (k.tickets, refl, ap (λ (ws : List ℕ). slice_index ws 0) k.words),
      )

  few_wait : (s : St) (k : IsKept key follows s) → total tickets_in s.views ≤ key
  few_wait s k = let a = total_below tickets_in lanes_in s.views
      (λ i u e. has_lane k.start k.history k.tickets k.serving u u.stage (k.each i u e)) in let b = k.dealt in omega arith

  pub serves : (slots id : ℕ) (m : M) → m.0.stage ≡ Waits → m.1 ≡ []
      → Allows (IsTurn key follows) slots id m 1 (λ n. n) (Serves follows (step slots 1 0 0 logic.none) m)
  serves slots id m waiting empty s r len at small =
      let v = m.0 in
      let k = kept_at s id v Waits at waiting (omega arith) r in
      let fits = fits_at s k id v Waits at waiting in
      let found : slice_index s.words 1 ≡ k.serving % 2 ^ 64 = ap (λ (ws : List ℕ). slice_index ws 1) k.words in
      let same : slice_set s.words 1 (slice_index s.words 1) ≡ s.words = ap
      (λ (ws : List ℕ). slice_set ws 1 (slice_index ws 1)) k.words ∙ sym k.words in
      dite (ℕ_discrete (slice_index s.words 1) (v.ticket % 2 ^ 64))
      (λ hit.
      let near : v.ticket < k.serving + 2 ^ 64 =
      (let a = few_wait s k in let b = k.few in let c = k.counted in let d = fits.3 in omega arith) in
      let mine : k.serving ≡ v.ticket = one_turn k.serving v.ticket (2 ^ 64) fits.2 near (sym found ∙ hit) in
      taken slots id m s k waiting at fits mine hit same)
      (λ miss. (
        v,
        keeps,
        tt,
        inr (subst (IsKept key follows) (λ i. record { words = sym same i; homes = s.homes; views = sym (set_again s.views id v at) i }) k),
        inr (miss, refl),
      ))
    where
      taken : (slots id : ℕ) (m : M) (s : St) (k : IsKept key follows s) → m.0.stage ≡ Waits
          → get_elem? s.views id ≡ logic.some m.0 → Fits k.start k.history k.tickets k.serving m.0 Waits
          → k.serving ≡ m.0.ticket
          → slice_index s.words 1 ≡ m.0.ticket % 2 ^ 64 → slice_set s.words 1 (slice_index s.words 1) ≡ s.words
          → (w : Vw) × (a : Act (Option V)) × Valid s.homes m.1 a
          × IsTurn key follows (stepped s 1 (slice_index s.words 1) id m.1 w a)
          × Serves follows (step slots 1 0 0 logic.none) m (slice_index s.words 1) (w, carried_after m.1 a)
      taken slots id m s k waiting at fits mine hit same =
          let v = m.0 in
          let w = holds v k.history in
          let here : get_elem? (set s.views id w) id ≡ logic.some w = at_self s.views id v w at in
          let alone : (by : ℕ) (u : Vw) → by ≢ id → get_elem? s.views by ≡ logic.some u → pending u.stage ≡ 1
          → u.ticket ≢ v.ticket = (λ by u ne e pu t. ne (k.apart by id u v e at pu (ap pending waiting) t)) in
          let one_holds : (by : ℕ) (u : Vw) → by ≢ id → get_elem? s.views by ≡ logic.some u → u.stage ≢ Holds = (λ by u ne e h.
          let f = fits_at s k by u Holds e h in
          alone by u ne e (ap pending h) (f.2 ∙ mine)) in
          ⊎_elim
          (λ (t : IsHome follows k.start k.history s.homes s.views).
          let now : IsKept key follows (stepped s 1 (slice_index s.words 1) id m.1 w (takes 0 (Some t.0))) = record {
            start = k.start;
            history = k.history;
            tickets = k.tickets;
            serving = k.serving;
            words = same ∙ k.words;
            few = k.few;
            known = k.known;
            dealt = (let a = total_set lanes_in s.views id v w at in let b = k.dealt in omega arith);
            once = (λ n. let a = total_set (lane_in n) s.views id v w at in let b = k.once n in omega arith);
            mine = each_set (λ by u. HasOwn key k.start k.history u) s.views id w (k.mine id v at) (λ by u ne e. k.mine by u e);
            whole = (id, w, here, refl, fits.4);
            counted = (let a = total_set tickets_in s.views id v w at in let b = k.counted in let c = ap pending waiting in omega arith);
            each = each_set (λ by u. Fits k.start k.history k.tickets k.serving u u.stage) s.views id w (fits.0, refl, sym mine, fits.3, fits.4) (λ by u ne e. k.each by u e);
            apart = apart_set s.views id w k.apart (λ j u ne e pu pw. alone j u ne e pu);
            placed = inr (ap (λ (hs : Homes). slice_set hs 0 logic.none) t.1, (id, w, here, refl));
          } in (
            w,
            takes 0 (Some t.0),
            ap (λ (hs : Homes). get_elem? hs 0) t.1,
            inr now,
            inl (hit, record { start = k.start; history = k.history; value = t.0; me = refl; begins = fits.0; seen = fits.1; follows_it = t.2 }),
          ))
          (λ (t : IsOut s.homes s.views).
          let h = t.1 in absurd (dite (ℕ_discrete h.0 id)
          (λ e. stages_apart v.stage Waits Holds waiting
          (ap (λ (u : Vw). u.stage) (sym (same_view s.views h.0 id h.1 v h.2 at e)) ∙ h.3) (λ x. omega arith))
          (λ ne. one_holds h.0 h.1 ne h.2 h.3)))
          k.placed

  -- what is known to the one that holds the turn
  turn_alone : (s : St) (k : IsKept key follows s) (id : ℕ) (v : Vw) → get_elem? s.views id ≡ logic.some v → v.stage ≡ Holds
      → (by : ℕ) (u : Vw) → by ≢ id → get_elem? s.views by ≡ logic.some u → pending u.stage ≡ 1 → u.ticket ≢ k.serving
  turn_alone s k id v at mine by u ne e pu t =
      let f = fits_at s k id v Holds at mine in
      ne (k.apart by id u v e at pu (ap pending mine) (t ∙ sym f.2))

  others_wait : (s : St) (k : IsKept key follows s) (id : ℕ) (v : Vw) → get_elem? s.views id ≡ logic.some v → v.stage ≡ Holds
      → (by : ℕ) (u : Vw) → by ≢ id → get_elem? s.views by ≡ logic.some u → u.stage ≢ Holds
  others_wait s k id v at mine by u ne e h =
      let f = fits_at s k by u Holds e h in
      turn_alone s k id v at mine by u ne e (ap pending h) f.2

  is_out : (s : St) (k : IsKept key follows s) (id : ℕ) (v : Vw) → get_elem? s.views id ≡ logic.some v → v.stage ≡ Holds
      → s.homes ≡ logic.none ∷ []
  is_out s k id v at mine = ⊎_elim
      (λ (t : IsHome follows k.start k.history s.homes s.views). absurd (t.3 (id, v, at, mine)))
      (λ (t : IsOut s.homes s.views). t.0)
      k.placed

  pub enters : (slots id : ℕ) (m : M) (more : List E) (n : ℕ) → m.0.stage ≡ Holds → n ≡ length more
      → Allows (IsTurn key follows) slots id m 2 (λ c. (c + n) % 2 ^ 64) (Enters more (step slots 2 n 0 logic.none) m)
  enters slots id m more n mine count s r len at small =
      let v = m.0 in
      let k = kept_at s id v Holds at mine (omega arith) r in
      let fits = fits_at s k id v Holds at mine in
      let w = entered v more in
      let l = first_lane v.mine in
      let grows : length (tagged l more) ≡ n = tagged_long l more ∙ sym count in
      let now : IsKept key follows (stepped s 2 ((slice_index s.words 2 + n) % 2 ^ 64) id m.1 w keeps) = record {
        start = k.start;
        history = k.history ++ tagged l more;
        tickets = k.tickets;
        serving = k.serving;
        words = ap (λ (ws : List ℕ). slice_set ws 2 ((slice_index ws 2 + n) % 2 ^ 64)) k.words
            ∙ ap (λ (c : ℕ). k.tickets % 2 ^ 64 ∷ k.serving % 2 ^ 64 ∷ c ∷ [])
            (add_mod (length k.history) n ∙ ap (λ (c : ℕ). c % 2 ^ 64)
            (ap (λ (c : ℕ). length k.history + c) (sym grows) ∙ sym (length-append k.history (tagged l more))));
        few = k.few;
        known = all_append (λ (entry : ℕ × E). entry.0 < key) k.history (tagged l more) k.known
            (tagged_known key l more (first_below key k.history v.mine fits.4 (k.mine id v at).0));
        dealt = (let a = total_set lanes_in s.views id v w at in let b = k.dealt in let c = noted_long v.mine more in omega arith);
        once = (λ n. let a = total_set (lane_in n) s.views id v w at in let b = k.once n in let c = noted_lanes v.mine more n in
            omega arith);
        mine = each_set (λ by u. HasOwn key k.start (k.history ++ tagged l more) u) s.views id w (
          mine_noted key k.history more v.mine (let a = k.once l in let b = total_one (lane_in l) s.views id v at in
              omega arith) (k.mine id v at).0,
          heard_on k.start k.history (tagged l more) v.heard (k.mine id v at).1,
        )
            (λ by u ne e. (
              mine_other key k.history more l u.mine
                  (let a = k.once l in let b = total_two (lane_in l) s.views id by v u (λ x. ne (sym x)) at e in
                  let c = first_there v.mine fits.4 in omega arith)
                  (k.mine by u e).0,
              heard_on k.start k.history (tagged l more) u.heard (k.mine by u e).1,
            ));
        whole = (
          id,
          w,
          at_self s.views id v w at,
          ap (λ (h : List (ℕ × E)). h ++ tagged l more) fits.1,
          (let a = noted_long v.mine more in let b = fits.4 in omega arith),
        );
        counted = (let a = total_set tickets_in s.views id v w at in let b = k.counted in let c = ap pending mine in omega arith);
        each = each_set (λ by u. Fits k.start (k.history ++ tagged l more) k.tickets k.serving u u.stage) s.views id w (
          fits.0,
          ap (λ (h : List (ℕ × E)). h ++ tagged l more) fits.1,
          fits.2,
          fits.3,
          (let a = noted_long v.mine more in let b = fits.4 in omega arith),
        )
            (λ by u ne e. fits_on k.start k.history (tagged l more) k.tickets k.tickets k.serving k.serving u u.stage (omega arith) (λ x. absurd (others_wait s k id v at mine by u ne e x))
            (λ x. (in_range k.start k.history k.tickets k.serving u u.stage (k.each by u e) (ap pending x)).0) (k.each by u e));
        apart = apart_set s.views id w k.apart (λ j u ne e pu pw t. turn_alone s k id v at mine j u ne e pu (t ∙ fits.2));
        placed = inr (is_out s k id v at mine, (id, w, at_self s.views id v w at, refl));
      } in (w, keeps, tt, inr now, refl)

  pub leaves : (slots id : ℕ) (m : M) (value : V) → m.0.stage ≡ Holds → m.1 ≡ (0, Some value) ∷ []
      → FollowsFrom follows m.0.start value m.0.seen
      → Allows (IsTurn key follows) slots id m 1 (λ n. (n + 1) % 2 ^ 64) (Leaves (step slots 1 1 0 logic.none) m)
  leaves slots id m value mine carried fol s r len at small =
      let v = m.0 in
      let k = kept_at s id v Holds at mine (omega arith) r in
      let fits = fits_at s k id v Holds at mine in
      let w = idle v in
      let fol' : follows k.start value k.history = subst (λ (x : Option S × List (ℕ × E)). FollowsFrom follows x.0 value x.1)
      (λ i. (fits.0 i, fits.1 i)) fol in
      let he : put_back s.homes m.1 ≡ logic.some (Some value) ∷ [] = (λ i. put_back (is_out s k id v at mine i) (carried i)) in
      let now : IsKept key follows (stepped s 1 ((slice_index s.words 1 + 1) % 2 ^ 64) id m.1 w gives) = record {
        start = k.start;
        history = k.history;
        tickets = k.tickets;
        serving = k.serving + 1;
        words = ap (λ (ws : List ℕ). slice_set ws 1 ((slice_index ws 1 + 1) % 2 ^ 64)) k.words
            ∙ ap (λ (c : ℕ). k.tickets % 2 ^ 64 ∷ c ∷ length k.history % 2 ^ 64 ∷ []) (add_mod k.serving 1);
        few = k.few;
        known = k.known;
        dealt = (let a = total_set lanes_in s.views id v w at in let b = k.dealt in omega arith);
        once = (λ n. let a = total_set (lane_in n) s.views id v w at in let b = k.once n in omega arith);
        mine = each_set (λ by u. HasOwn key k.start k.history u) s.views id w (k.mine id v at) (λ by u ne e. k.mine by u e);
        whole = seen_set k.history s.views id v w at refl refl k.whole;
        counted = (let a = total_set tickets_in s.views id v w at in let b = k.counted in let c = ap pending mine in omega arith);
        each = each_set (λ by u. Fits k.start k.history k.tickets (k.serving + 1) u u.stage) s.views id w
            (fits.0, subst (λ (h : List (ℕ × E)). IsPrefix v.seen h) fits.1 (prefix_whole v.seen), fits.4)
            (λ by u ne e. subst (λ (h : List (ℕ × E)). Fits k.start h k.tickets (k.serving + 1) u u.stage) (append-nil k.history)
            (fits_on k.start k.history [] k.tickets k.tickets k.serving (k.serving + 1) u u.stage (omega arith)
            (λ x. absurd (others_wait s k id v at mine by u ne e x))
            (λ x. let le = (in_range k.start k.history k.tickets k.serving u u.stage (k.each by u e) (ap pending x)).0 in
            let other = turn_alone s k id v at mine by u ne e (ap pending x) in omega arith) (k.each by u e)));
        apart = apart_set s.views id w k.apart (λ j u ne e pu pw. absurd (omega arith));
        placed = inl (
          value,
          he,
          fol',
          none_holds s.views id w
              (λ e. stages_apart Idle Idle Holds refl e (λ x. omega arith)) (others_wait s k id v at mine),
        );
      } in (w, gives, tt, inr now, (λ i. (w, rest (carried i))))

  -- a load that doesn't find the seat's ticket leaves it as it was
  pub missed : (slots : ℕ) (m n : M) (found mine : ℕ) → Serves follows (step slots 1 0 0 logic.none) m found n
      → mine ≡ m.0.ticket % 2 ^ 64 → eqb found mine ≡ false → n ≡ m
  missed slots m n found mine (inl h) is miss = let both : true ≡ false = sym (eq-eqb found mine (h.0 ∙ sym is)) ∙ miss in absurd (cc)
  missed slots m n found mine (inr h) is miss = h.1

  pub carries : (c : List (ℕ × Option V)) (x : ℕ × Option V) (xs : List (ℕ × Option V)) → c ≡ x ∷ xs → c ≡ x ∷ rest c
  carries c x xs e = e ∙ ap (λ (ys : List (ℕ × Option V)). x ∷ ys) (sym (ap rest e))
