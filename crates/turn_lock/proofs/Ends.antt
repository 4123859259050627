-- A pass is split off, two are joined, and the turn is closed.
use Rattle.std.proofs.Common.{◌≡◌, ◌≢◌, ℕ, true, false, Bool, ◌+◌, ◌<◌, ◌≤◌, ◌⊎◌, List, [], ◌∷◌, ◌++◌, length, set, sym, refl, ap, ◌∙◌, subst, ⊎_elim, inl, inr, arith, Option, Some, None, length-append}
use Rattle.std.specs.Prelude.{if◌then◌else◌, nat_lt}
use Rattle.std.proofs.lemmas.List.{append-nil}
use Rattle.std.proofs.lemmas.Bool.Decides.{nat_tests}
use Rattle.std.specs.List.{AllByRecursion}
use mathlib.Core.Logic.{dite}
use mathlib.Core.Option as logic
use mathlib.Core.List.{IsPrefix}
use native.Mathlib.Decide.{ℕ_discrete}
use lib.ListN.{get_elem?}
use mathlib.Core.Option.{some-injective}
use Rattle.atomic_table.specs.Table.{State, Splits, Joins, Final, Seen}
use Rattle.atomic_table.proofs.Lists.{set_else, at_longer, at_snoc}
use Rattle.turn_lock.specs.declared.view.View.{View}
use Rattle.turn_lock.specs.declared.view.Stage.TheVariants.{Founds, Places, Idle, Holds, Spent}
use Rattle.turn_lock.specs.Lists.{total, is_lane, longer, other_lanes, lane_alone}
use Rattle.turn_lock.specs.Views.{pending, lane_in, lanes_in, tickets_in, left_of, right_of, told_by, both_of, spent}
use Rattle.turn_lock.specs.Rule.{Fits, HasOwn, IsOwn, IsHeard, HasHolder, AreApart, IsSeen, IsHome, IsOut, IsKept, IsTurn}
use Rattle.turn_lock.specs.Closing.{IsEnded}
use Rattle.turn_lock.proofs.Views.{stages_apart, total_set, total_append, total_one, total_two, all_append, at_self, each_set, same_view, apart_set, holder_stays, none_holds}
use Rattle.turn_lock.proofs.Moves.{kept_at, fits_at}

module _ {E : Type 0} where
  cut_total : (f : ℕ × List (ℕ × E) → ℕ) (ms : List (ℕ × List (ℕ × E))) → total f (other_lanes ms) + total f (lane_alone ms) ≡ total f ms
  cut_total f [] = refl
  cut_total f (m ∷ ms) = omega arith

  cut_long : (ms : List (ℕ × List (ℕ × E))) → 1 < length ms → (length (other_lanes ms) + length (lane_alone ms) ≡ length ms)
      × (0 < length (other_lanes ms)) × (0 < length (lane_alone ms))
  cut_long [] h = absurd (omega arith)
  cut_long (m ∷ []) h = absurd (omega arith)
  cut_long (m ∷ (k ∷ ms)) h = (omega arith, omega arith, omega arith)

  all_kept : (P : ℕ × List (ℕ × E) → Type 0) (ms : List (ℕ × List (ℕ × E))) → AllByRecursion P ms
      → AllByRecursion P (other_lanes ms) × AllByRecursion P (lane_alone ms)
  all_kept P [] a = (tt, tt)
  all_kept P (m ∷ ms) a = (a.1, (a.0, tt))

  no_rest : (xs rest h : List E) → xs ++ rest ≡ h → length h ≤ length xs → xs ≡ h
  no_rest xs [] h e le = sym (append-nil xs) ∙ e
  no_rest xs (r ∷ rest) h e le = absurd (let a = ap (λ (zs : List E). length zs) e in let b = length-append xs (r ∷ rest) in omega arith)

  short : (xs h : List E) → IsPrefix xs h → length xs ≤ length h
  short xs h p = let a = ap (λ (zs : List E). length zs) p.1 in let b = length-append xs p.0 in omega arith

  longer_begins : (xs ys h : List E) → IsPrefix xs h → IsPrefix ys h → IsPrefix (longer xs ys) h
  longer_begins xs ys h p q = pick (nat_lt (length xs) (length ys))
    where
      pick : (b : Bool) → IsPrefix (if b then ys else xs) h
      pick true = q
      pick false = p

  longer_whole : (xs ys h : List E) → IsPrefix xs h → IsPrefix ys h → (xs ≡ h) ⊎ (ys ≡ h) → longer xs ys ≡ h
  longer_whole xs ys h p q o = pick (nat_lt (length xs) (length ys)) refl
    where
      pick : (b : Bool) → nat_lt (length xs) (length ys) ≡ b → (if b then ys else xs) ≡ h
      pick true is = ⊎_elim (λ (e : xs ≡ h). absurd
          (let a = ap (λ (zs : List E). length zs) e in let b = short ys h q in grind (arith, nat_tests))) (λ (e : ys ≡ h). e) o
      pick false is = ⊎_elim (λ (e : xs ≡ h). e)
          (λ (e : ys ≡ h). no_rest xs p.0 h p.1 (let a = ap (λ (zs : List E). length zs) e in grind (arith, nat_tests))) o

module _ {S E : Type 0} where
  each_snoc : (P : View S E → Type 0) (vs : List (View S E)) (a : View S E)
      → ((by : ℕ) (u : View S E) → get_elem? vs by ≡ logic.some u → P u) → P a → (by : ℕ) (u : View S E)
      → get_elem? (vs ++ a ∷ []) by ≡ logic.some u → P u
  each_snoc P vs a all here by u e = ⊎_elim (λ (t : get_elem? vs by ≡ logic.some u). all by u t)
      (λ (t : a ≡ u). subst P t here) (at_snoc vs a u by e)

  apart_snoc : (vs : List (View S E)) (a : View S E) → pending a.stage ≡ 0 → AreApart vs → AreApart (vs ++ a ∷ [])
  apart_snoc vs a none apart i j v w ati atj pv pw same = ⊎_elim
      (λ (x : get_elem? vs i ≡ logic.some v). ⊎_elim
      (λ (y : get_elem? vs j ≡ logic.some w). apart i j v w x y pv pw same)
      (λ (y : a ≡ w). absurd (let e = ap (λ (u : View S E). pending u.stage) y in omega arith))
      (at_snoc vs a w j atj))
      (λ (x : a ≡ v). absurd (let e = ap (λ (u : View S E). pending u.stage) x in omega arith))
      (at_snoc vs a v i ati)

  seen_at : (history : List (ℕ × E)) (vs : List (View S E)) (id : ℕ) (v w : View S E) → get_elem? vs id ≡ logic.some v
      → (v.seen ≡ history → w.seen ≡ history) → 0 < length w.mine → IsSeen history vs → IsSeen history (set vs id w)
  seen_at history vs id v w at seen some h = dite (ℕ_discrete h.0 id)
      (λ e. (id, w, at_self vs id v w at, seen (ap (λ (u : View S E). u.seen) (sym (same_view vs h.0 id h.1 v h.2 at e)) ∙ h.3), some))
      (λ ne. (h.0, h.1, set_else vs id h.0 w ne ∙ h.2, h.3, h.4))

module _ {S V E : Type 0} (key : ℕ) (follows : S → V → List (ℕ × E) → Type 0) where
  pub cuts : (id : ℕ) (v : View S E) → v.stage ≡ Idle → 1 < length v.mine → Splits (IsTurn key follows) id v (left_of v) (right_of v)
  cuts id v free two s r at =
      let k = kept_at key follows s id v Idle at free (omega arith) r in
      let fits = fits_at key follows s k id v Idle at free in
      let not : v.stage ≢ Holds = (λ e. stages_apart v.stage Idle Holds free e (λ x. omega arith)) in
      let n = cut_long v.mine two in
      let l = left_of v in
      let x = right_of v in
      let none : pending v.stage ≡ 0 = ap pending free in
      let vs1 = set s.views id l in
      inr (record {
        start = k.start;
        history = k.history;
        tickets = k.tickets;
        serving = k.serving;
        words = k.words;
        known = k.known;
        few = k.few;
        dealt = (let a = total_set lanes_in s.views id v l at in let b = total_append lanes_in vs1 (x ∷ []) in
            let c = k.dealt in let d = n.0 in omega arith);
        counted = (let a = total_set tickets_in s.views id v l at in let b = total_append tickets_in vs1 (x ∷ []) in
            let c = k.counted in omega arith);
        once = (λ i. let a = total_set (lane_in i) s.views id v l at in let b = total_append (lane_in i) vs1 (x ∷ []) in
            let c = k.once i in let d = cut_total (λ (m : ℕ × List (ℕ × E)). is_lane m.0 i) v.mine in omega arith);
        each = each_snoc (λ u. Fits k.start k.history k.tickets k.serving u u.stage) vs1 x
            (each_set (λ by u. Fits k.start k.history k.tickets k.serving u u.stage) s.views id l
            (subst (Fits k.start k.history k.tickets k.serving l) (sym free) (fits.0, fits.1, n.1)) (λ by u ne e. k.each by u e))
            (subst (Fits k.start k.history k.tickets k.serving x) (sym free) (fits.0, fits.1, n.2));
        apart = apart_snoc vs1 x none (apart_set s.views id l k.apart (λ j u ne e pu pw. absurd (omega arith)));
        mine = (let a = all_kept (IsOwn key k.history) v.mine (k.mine id v at).0 in let h = (k.mine id v at).1 in
            each_snoc (HasOwn key k.start k.history) vs1 x
            (each_set (λ by u. HasOwn key k.start k.history u) s.views id l (a.0, h) (λ by u ne e. k.mine by u e)) (a.1, h));
        whole = (let h = seen_at k.history s.views id v l at (λ e. e) n.1 k.whole in
            (h.0, h.1, at_longer vs1 (x ∷ []) h.0 h.1 h.2, h.3, h.4));
        placed = ⊎_elim
            (λ (t : IsHome follows k.start k.history s.homes s.views).
            inl (
              t.0,
              t.1,
              t.2,
              (λ h. ⊎_elim
                  (λ (y : get_elem? vs1 h.0 ≡ logic.some h.1). none_holds s.views id l not
                  (λ by u ne e g. t.3 (by, u, e, g)) (h.0, h.1, y, h.3))
                  (λ (y : x ≡ h.1). not (ap (λ (u : View S E). u.stage) y ∙ h.3))
                  (at_snoc vs1 x h.1 h.0 h.2)),
            ))
            (λ (t : IsOut s.homes s.views).
            let h = holder_stays s.views id v l at not t.1 in inr (t.0, (h.0, h.1, at_longer vs1 (x ∷ []) h.0 h.1 h.2, h.3)))
            k.placed;
      })

  pub joins : (id : ℕ) (v : View S E) (other : ℕ) (w : View S E) → v.stage ≡ Idle → w.stage ≡ Idle
      → Joins (IsTurn key follows) id v other w (both_of v w) spent
  joins id v other w free free' s r at ne at' =
      let k = kept_at key follows s id v Idle at free (omega arith) r in
      let b = both_of v w in
      let vs1 = set s.views id b in
      let at'' : get_elem? s.views other ≡ logic.some w = sym (set_else s.views id other b ne) ∙ at' in
      let fits = fits_at key follows s k id v Idle at free in
      let fits' = fits_at key follows s k other w Idle at'' free' in
      let not : v.stage ≢ Holds = (λ e. stages_apart v.stage Idle Holds free e (λ x. omega arith)) in
      let not' : w.stage ≢ Holds = (λ e. stages_apart w.stage Idle Holds free' e (λ x. omega arith)) in
      let gone : Spent ≢ Holds = (λ e. stages_apart Spent Spent Holds refl e (λ x. omega arith)) in
      let none : pending v.stage ≡ 0 = ap pending free in
      let none' : pending w.stage ≡ 0 = ap pending free' in
      let long = length-append v.mine w.mine in
      let some : 0 < length b.mine = (let a = fits.2 in omega arith) in
      inr (record {
        start = k.start;
        history = k.history;
        tickets = k.tickets;
        serving = k.serving;
        words = k.words;
        known = k.known;
        few = k.few;
        dealt = (let a = total_set lanes_in s.views id v b at in let c = total_set lanes_in vs1 other w spent at' in
            let d = k.dealt in omega arith);
        counted = (let a = total_set tickets_in s.views id v b at in let c = total_set tickets_in vs1 other w spent at' in
            let d = k.counted in omega arith);
        once = (λ i. let a = total_set (lane_in i) s.views id v b at in let c = total_set (lane_in i) vs1 other w spent at' in
            let d = k.once i in let e = total_append (λ (m : ℕ × List (ℕ × E)). is_lane m.0 i) v.mine w.mine in omega arith);
        each = each_set (λ by u. Fits k.start k.history k.tickets k.serving u u.stage) vs1 other spent (refl, refl)
            (λ by u n e. each_set (λ by u. Fits k.start k.history k.tickets k.serving u u.stage) s.views id b
            (subst (Fits k.start k.history k.tickets k.serving b)
            (sym free) (fits.0, longer_begins v.seen w.seen k.history fits.1 fits'.1, some))
            (λ by u n e. k.each by u e) by u e);
        apart = apart_set vs1 other spent (apart_set s.views id b k.apart (λ j u n e pu pw. absurd (omega arith)))
            (λ j u n e pu pw. absurd (omega arith));
        mine = each_set (λ by u. HasOwn key k.start k.history u) vs1 other spent (tt, tt)
            (λ by u n e. each_set (λ by u. HasOwn key k.start k.history u) s.views id b (
              all_append (IsOwn key k.history) v.mine w.mine (k.mine id v at).0 (k.mine other w at'').0,
              all_append (IsHeard k.start k.history) v.heard (told_by v ∷ told_by w ∷ []) (k.mine id v at).1 ((fits.0, fits.1), ((fits'.0, fits'.1), tt)),
            )
            (λ by u n e. k.mine by u e) by u e);
        whole = (let h = k.whole in
            let here : get_elem? (set vs1 other spent) id ≡ logic.some b = set_else vs1 other id spent (λ e. ne (sym e))
            ∙ at_self s.views id v b at in
            dite (ℕ_discrete h.0 id)
            (λ e. (
              id,
              b,
              here,
              longer_whole v.seen w.seen k.history fits.1 fits'.1 (inl
                  (ap (λ (u : View S E). u.seen) (sym (same_view s.views h.0 id h.1 v h.2 at e)) ∙ h.3)),
              some,
            ))
            (λ n. dite (ℕ_discrete h.0 other)
            (λ e. (
              id,
              b,
              here,
              longer_whole v.seen w.seen k.history fits.1 fits'.1 (inr
                  (ap (λ (u : View S E). u.seen) (sym (same_view s.views h.0 other h.1 w h.2 at'' e)) ∙ h.3)),
              some,
            ))
            (λ n'. (h.0, h.1, set_else vs1 other h.0 spent n' ∙ set_else s.views id h.0 b n ∙ h.2, h.3, h.4))));
        placed = ⊎_elim
            (λ (t : IsHome follows k.start k.history s.homes s.views).
            inl (
              t.0,
              t.1,
              t.2,
              none_holds vs1 other spent gone
                  (λ by u n e g. none_holds s.views id b not (λ by u n e g. t.3 (by, u, e, g)) (by, u, e, g)),
            ))
            (λ (t : IsOut s.homes s.views). inr (t.0, holder_stays vs1 other w spent at' not' (holder_stays s.views id v b at not t.1)))
            k.placed;
      })

  -- the view that has every lane knows the whole history, and the value is at home and follows it
  pub closes : (id : ℕ) (v : View S E) (s : State (Option V) (View S E)) → v.stage ≡ Idle → length v.mine ≡ key
      → IsTurn key follows s → get_elem? s.views id ≡ logic.some v
      → (value : V) × (s.homes ≡ logic.some (Some value) ∷ []) × IsEnded key follows v value
  closes id v s free every r at =
      let k = kept_at key follows s id v Idle at free (omega arith) r in
      let fits = fits_at key follows s k id v Idle at free in
      let others : (by : ℕ) (u : View S E) → by ≢ id → get_elem? s.views by ≡ logic.some u → ¬ (0 < length u.mine) =
      (λ by u ne e some. let a = total_two lanes_in s.views id by v u (λ x. ne (sym x)) at e in let b = k.dealt in absurd (omega arith)) in
      let h = k.whole in
      let whole : v.seen ≡ k.history = dite (ℕ_discrete h.0 id)
      (λ e. ap (λ (u : View S E). u.seen) (sym (same_view s.views h.0 id h.1 v h.2 at e)) ∙ h.3)
      (λ ne. absurd (others h.0 h.1 ne h.2 h.4)) in
      let idle_all : ¬ (HasHolder s.views) = (λ g. dite (ℕ_discrete g.0 id)
      (λ e. stages_apart v.stage Idle Holds free
      (ap (λ (u : View S E). u.stage) (sym (same_view s.views g.0 id g.1 v g.2 at e)) ∙ g.3) (λ x. omega arith))
      (λ ne. let f = fits_at key follows s k g.0 g.1 Holds g.2 g.3 in others g.0 g.1 ne g.2 f.4)) in
      ⊎_elim
      (λ (t : IsHome follows k.start k.history s.homes s.views). (
        t.0,
        t.1,
        record {
          start = k.start;
          history = k.history;
          follows_it = t.2;
          known = k.known;
          start_is = fits.0;
          seen_is = whole;
          mine = k.mine id v at;
          apart = (λ n. let a = total_one (lane_in n) s.views id v at in let b = k.once n in omega arith);
        },
      ))
      (λ (t : IsOut s.homes s.views). absurd (idle_all t.1))
      k.placed

  abbrev from : Option V → V → V
  from None d = d
  from (Some x) d = x

  -- what comes out of the closed table is that value
  pub closed : (id : ℕ) (v : View S E) (words : List ℕ) (items : List (Option V)) → v.stage ≡ Idle → length v.mine ≡ key
      → Final (Seen (IsTurn key follows) id v) words items
      → (out : Option V) → get_elem? items 0 ≡ logic.some out → (value : V) × (out ≡ Some value) × IsEnded key follows v value
  closed id v words items free every f out there =
      let c = closes id v f.0 free every f.1.0 f.1.1 in
      let home : get_elem? (f.0).homes 0 ≡ logic.some (logic.some (Some c.0)) = ap
      (λ (hs : List (logic.Option (Option V))). get_elem? hs 0) c.1 in
      (c.0, some-injective out (Some c.0) (sym there ∙ f.4 0 (Some c.0) home), c.2)

  pub handed : (v : View S E) (out : Option V) (value : V) → out ≡ Some value
      → ((x : V) × (out ≡ Some x) × IsEnded key follows v x) → IsEnded key follows v value
  handed v out value is r = subst (IsEnded key follows v) (ap (λ (o : Option V). from o value) (sym r.1 ∙ is)) r.2
