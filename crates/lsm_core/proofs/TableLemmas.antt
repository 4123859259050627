-- Open tables, kept by their numbers: what is seen of their views, and that each is kept with its
-- own blocks.
use Rattle.std.specs.Prelude.{◌≡◌, ◌≢◌, ℕ, Bool, true, false, cond, List, [], ◌∷◌, map, All, Contains, Option, Some, None, option_map, is_some, IsSome, Result, IfErr, MatchResult}
use Rattle.std.proofs.Common.{refl, sym, ap, subst, ◌∙◌}
use Rattle.std.proofs.lemmas.Cmp.{nat_cmp_total, eq_by_cmp_equiv, tied_itself}
use Rattle.std.proofs.lemmas.List.Elements.{All-nil, All-cons, All-head, All-tail, All-weaker}
use Rattle.std.specs.List.{AllByRecursion}
use Rattle.std.specs.List.Sorted.{IsStrictlySortedBy}
use Rattle.std.specs.Ordering.{nat_cmp, is_eq, eq_by_cmp, match_ordering}
use Rattle.std.specs.declared.cmp.Ordering.{Ordering}
use Rattle.std.specs.declared.cmp.Ordering.TheVariants.{Less, Equal, Greater}
use Rattle.std.specs.Map.{lookup, set_value, remove_entry, keys_of}
use Rattle.std.specs.BTreeMap.{insert_entry}
use Rattle.std.specs.FinMap as finmap
use Rattle.lsm_rows.specs.declared.rows.Row.{Row}
use Rattle.lsm_frame.specs.Reader.{Tells, Stays}
use Rattle.lsm_block.specs.declared.entries.Entry.{Entry}
use Rattle.lsm_table.specs.Tables.{Opened}
use Rattle.lsm_cache.specs.declared.blocks.BlockPlace.{BlockPlace}
use Rattle.lsm_cache.specs.Kept.{Kept as Blocks, without_table}
use Rattle.lsm_cache.specs.Getting.{AreBlocksOf}
use Rattle.lsm_cache.proofs.Keeping.{left_are, forgotten_are, others_are}
use Rattle.lsm_version.proofs.TableMaps.{same_number}
use Rattle.lsm_io.specs.Causes.{Rose}
use Rattle.lsm_table.specs.declared.faults.TableFault.{TableFault}
use Rattle.lsm_table.specs.declared.faults.TableFault.TheVariants.{ReadFault}
use Rattle.lsm_table.specs.Opening.{IsOutside}
use Rattle.lsm_table.specs.WholeTables.{IsTable}
use Rattle.lsm_core.specs.Reading.{Views, ReadsTable}
use Rattle.lsm_core.specs.Catalogs.{Numbered, views_of, IsWholeView, IsKeptTable, AreKeptTables}

abbrev pub at : ℕ → ℕ → Bool
at number other = is_eq (nat_cmp number other)

-- ---- what is seen

found : (es : List Numbered) (q : ℕ)
    → finmap.find nat_cmp q (map (λ (table : Numbered). (table.0, table.1.viewed)) es) ≡ option_map (λ (t : Opened).
    t.viewed) (lookup (at q) es)
found [] q = refl
found (e ∷ es) q =
    ap (cond (at q e.0) (Some e.1.viewed)) (found es q)
    ∙ elim (at q e.0) as (λ b. cond b (Some e.1.viewed) (option_map (λ (t : Opened). t.viewed) (lookup (at q) es))
    ≡ option_map (λ (t : Opened). t.viewed) (cond b (Some e.1) (lookup (at q) es))) [
      | true ↦ refl
      | false ↦ refl
    ]

pub view_at : (es : List Numbered) (q : ℕ) → finmap.get (views_of es) q ≡ option_map (λ (t : Opened). t.viewed) (lookup (at
    q) es)
view_at es q = finmap.get-from_entries nat_cmp_total _ q ∙ found es q

pub is_open_at : (es : List Numbered) (q : ℕ) → is_some (lookup (at q) es) ≡ is_some (finmap.get (views_of es) q)
is_open_at es q = by (lookup (at q) es) ∙ ap is_some (sym (view_at es q))
  where
    by : (o : Option Opened) → is_some o ≡ is_some (option_map (λ (t : Opened). t.viewed) o)
    by None = refl
    by (Some t) = refl

turned : (k q : ℕ) → at k q ≡ eq_by_cmp nat_cmp q k
turned k q = (eq_by_cmp_equiv nat_cmp_total).symm k q

-- a table that comes or is changed is seen under its number, and the others as before
pub views_put : (es new : List Numbered) (k : ℕ) (t : Opened)
    → ((q : ℕ) → lookup (at q) new ≡ cond (at k q) (Some t) (lookup (at q) es))
    → views_of new ≡ finmap.insert (views_of es) k t.viewed
views_put es new k t is = finmap.same_map nat_cmp_total finmap.nat_cmp-IsAntisymmetric _ _ (λ q.
    view_at new q ∙ ap (option_map (λ (o : Opened). o.viewed)) (is q) ∙ by q (at k q) refl
    ∙ sym (finmap.get-insert nat_cmp_total (views_of es) k t.viewed q))
  where
    by : (q : ℕ) (b : Bool) → at k q ≡ b → option_map (λ (o : Opened). o.viewed) (cond b (Some t) (lookup (at q) es))
        ≡ cond (eq_by_cmp nat_cmp q k) (Some t.viewed) (finmap.get (views_of es) q)
    by q true e = ap (λ (b : Bool). cond b (Some t.viewed) (finmap.get (views_of es) q)) (sym e ∙ turned k q)
    by q false e = sym (view_at es q) ∙ ap (λ (b : Bool). cond b (Some t.viewed) (finmap.get (views_of es) q)) (sym e ∙
        turned k q)

-- one that is taken out is seen no more
pub views_taken : (es new : List Numbered) (k : ℕ) → ((q : ℕ) → lookup (at q) new ≡ cond (at k q) None (lookup (at q) es))
    → views_of new ≡ finmap.remove (views_of es) k
views_taken es new k is = finmap.same_map nat_cmp_total finmap.nat_cmp-IsAntisymmetric _ _ (λ q.
    view_at new q ∙ ap (option_map (λ (o : Opened). o.viewed)) (is q) ∙ by q (at k q) refl
    ∙ sym (finmap.get-remove nat_cmp_total (views_of es) k q))
  where
    by : (q : ℕ) (b : Bool) → at k q ≡ b → option_map (λ (o : Opened). o.viewed) (cond b None (lookup (at q) es))
        ≡ cond (eq_by_cmp nat_cmp q k) None (finmap.get (views_of es) q)
    by q true e = ap (λ (b : Bool). cond b None (finmap.get (views_of es) q)) (sym e ∙ turned k q)
    by q false e = sym (view_at es q) ∙ ap (λ (b : Bool). cond b None (finmap.get (views_of es) q)) (sym e ∙ turned k q)

-- ---- what is so of all

not_itself : (a b : ℕ) → nat_cmp a b ≡ Less → a ≡ b → ⊥
not_itself a b less same =
    let equal : nat_cmp a b ≡ Equal = ap (nat_cmp a) (sym same) ∙ tied_itself nat_cmp_total a in
    let never : Less ≡ Equal = sym less ∙ equal in
    cc

itself : (a b : ℕ) → a ≡ b → at a b ≡ true
itself a b same = ap (at a) (sym same) ∙ ap is_eq (tied_itself nat_cmp_total a)

module _ (P Q : Numbered → Type 0) (k : ℕ) (t : Opened) where
  pub all_put : ((e : Numbered) → P e → Q e) → Q (k, t) → (es : List Numbered) → All P es → All Q (insert_entry nat_cmp es k t)
  all_put so new [] each = All-cons Q (k, t) [] new (All-nil Q)
  all_put so new (e ∷ es) each =
      by (nat_cmp k e.0) refl (All-weaker P Q so (e ∷ es) each) (all_put so new es (All-tail P e es each))
    where
      by : (o : Ordering) → nat_cmp k e.0 ≡ o → All Q (e ∷ es) → All Q (insert_entry nat_cmp es k t)
          → All Q (match_ordering o ((k, t) ∷ e ∷ es) ((e.0, t) ∷ es) (e ∷ insert_entry nat_cmp es k t))
      by Less is all rest = All-cons Q (k, t) (e ∷ es) new all
      by Equal is all rest =
          All-cons Q (e.0, t) es (subst (λ (n : ℕ). Q (n, t)) (finmap.nat_cmp-IsAntisymmetric k e.0 is) new) (All-tail Q e es
          all)
      by Greater is all rest = All-cons Q e (insert_entry nat_cmp es k t) (All-head Q e es all) rest

  past_all : (so : (e : Numbered) → P e → e.0 ≢ k → Q e) (n : ℕ) → n ≡ k → (es : List Numbered)
      → AllByRecursion (λ (m : ℕ). nat_cmp n m ≡ Less) (keys_of es) → All P es → All Q es
  past_all so n is [] past each = All-nil Q
  past_all so n is (e ∷ es) past each =
      All-cons Q e es
      (so e (All-head P e es each) (λ same. not_itself n e.0 past.0 (is ∙ sym same)))
      (past_all so n is es past.1 (All-tail P e es each))

  pub all_set : ((e : Numbered) → P e → e.0 ≢ k → Q e) → Q (k, t) → (es : List Numbered) → IsStrictlySortedBy nat_cmp
      (keys_of es)
      → All P es → All Q (set_value (at k) es t)
  unfolding IsStrictlySortedBy
  all_set so new [] sorted each = All-nil Q
  all_set so new (e ∷ es) sorted each =
      by (at k e.0) refl (all_set so new es sorted.1 (All-tail P e es each))
    where
      by : (b : Bool) → at k e.0 ≡ b → All Q (set_value (at k) es t) → All Q (cond b ((e.0, t) ∷ es) (e ∷ set_value (at k) es
          t))
      by true is rest =
          let same : k ≡ e.0 = same_number k e.0 is in
          All-cons Q (e.0, t) es (subst (λ (n : ℕ). Q (n, t)) same new)
          (past_all so e.0 (sym same) es sorted.0 (All-tail P e es each))
      by false other rest =
          All-cons Q e (set_value (at k) es t)
          (so e (All-head P e es each) (λ same. let never : true ≡ false = sym (itself k e.0 (sym same)) ∙ other in cc)) rest

pub all_taken : (P : Numbered → Type 0) (k : ℕ) (es : List Numbered) → All P es → All P (remove_entry (at k) es)
all_taken P k [] each = All-nil P
all_taken P k (e ∷ es) each = by (at k e.0) (All-tail P e es each) (all_taken P k es (All-tail P e es each))
  where
    by : (b : Bool) → All P es → All P (remove_entry (at k) es) → All P (cond b es (e ∷ remove_entry (at k) es))
    by true rest less = rest
    by false rest less = All-cons P e (remove_entry (at k) es) (All-head P e es each) less

pub all_found : (P : Numbered → Type 0) (k : ℕ) (t : Opened) (es : List Numbered) → All P es → lookup (at k) es ≡ Some t → P
    (k, t)
all_found P k t [] each there = cc
all_found P k t (e ∷ es) each there = by (at k e.0) refl there (all_found P k t es (All-tail P e es each))
  where
    some_is : (a b : Opened) → Some a ≡ Some b → a ≡ b
    some_is a b is = cc

    by : (b : Bool) → at k e.0 ≡ b → cond b (Some e.1) (lookup (at k) es) ≡ Some t → (lookup (at k) es ≡ Some t → P (k, t)) →
        P (k, t)
    by true is found rest = subst P (λ i. (sym (same_number k e.0 is) i, some_is e.1 t found i)) (All-head P e es each)
    by false is found rest = rest found

-- ---- the tables with their blocks

module _ (es : List Numbered) (blocks : Blocks) (kept : AreKeptTables es blocks) where
  abbrev forgotten : ℕ → Blocks
  forgotten number = without_table number blocks

  left : (number : ℕ) (e : Numbered) → IsKeptTable blocks e → IsKeptTable (forgotten number) e
  left number e is = record { number = is.number; whole = is.whole; blocks_are = left_are e.1 blocks number is.blocks_are }

  -- some blocks were forgotten
  pub kept_forgotten : (number : ℕ) → AreKeptTables es (forgotten number)
  kept_forgotten number = All-weaker (IsKeptTable blocks) (IsKeptTable (forgotten number)) (left number) es kept

  -- one table more, of whose number no blocks are kept
  pub kept_put : (t : Opened) → IsWholeView t.viewed → AreKeptTables (insert_entry nat_cmp es t.properties.number t)
      (forgotten t.properties.number)
  kept_put t whole =
      all_put (IsKeptTable blocks) (IsKeptTable (forgotten t.properties.number)) t.properties.number t (left
      t.properties.number)
      (record { number = refl; whole = whole; blocks_are = forgotten_are t blocks }) es kept

  -- one of them was read, and blocks of it were kept
  pub kept_read : (k : ℕ) (was now : Opened) (later : Blocks) → lookup (at k) es ≡ Some was → IsStrictlySortedBy nat_cmp
      (keys_of es)
      → Stays was.viewed now.viewed → now.properties ≡ was.properties
      → (AreBlocksOf was blocks → AreBlocksOf now later)
      → ((e : BlockPlace × List Entry) → Contains later.entries e → e.0.number ≢ was.properties.number → Contains
      blocks.entries e)
      → AreKeptTables (set_value (at k) es now) later
  kept_read k was now later there sorted stays properties own others =
      let is = all_found (IsKeptTable blocks) k was es kept there in
      all_set (IsKeptTable blocks) (IsKeptTable later) k now
      (λ e kept_e apart. record {
        number = kept_e.number;
        whole = kept_e.whole;
        blocks_are = others_are e.1 blocks later was.properties.number others
            (λ same. apart (sym kept_e.number ∙ same ∙ is.number)) kept_e.blocks_are;
      })
      (record {
        number = ap (λ p. p.number) properties ∙ is.number;
        whole = record { whole = λ text told. is.whole.whole text (sym stays.bytes ∙ told) ∙ sym stays.len };
        blocks_are = own is.blocks_are;
      }) es sorted kept

  -- a view tells what it is asked to
  pub tells_whole : (k : ℕ) (was : Opened) → lookup (at k) es ≡ Some was → (text : List ℕ) → was.viewed.bytes ≡ Some text →
      Tells was.viewed text
  tells_whole k was there text told = record {
    bytes = told;
    whole = (all_found (IsKeptTable blocks) k was es kept there).whole.whole text told;
  }

-- ---- at the calls

pub is_there : {X : Type 0} (x : X) (o : Option X) → Some x ≡ o → IsSome o
is_there x o is = subst IsSome is refl

module _ (es new : List Numbered) (views : Views) (seen : views_of es ≡ views) where
  pub put_seen : (t : Opened) (n : ℕ) → n ≡ t.properties.number
      → ((q : ℕ) → lookup (at q) new ≡ cond (at n q) (Some t) (lookup (at q) es))
      → views_of new ≡ finmap.insert views t.properties.number t.viewed
  put_seen t n is updates =
      views_put es new n t updates ∙ (λ i. finmap.insert (seen i) (is i) t.viewed)

  pub taken_seen : (n : ℕ) → ((q : ℕ) → lookup (at q) new ≡ cond (at n q) None (lookup (at q) es)) → views_of new ≡
      finmap.remove views n
  taken_seen n updates = views_taken es new n updates ∙ ap (λ (v : Views). finmap.remove v n) seen

module _ (es new : List Numbered) (blocks later : Blocks) (views : Views) (seen : views_of es ≡ views) where
  pub put_kept : (t : Opened) (n : ℕ) → n ≡ t.properties.number → IsWholeView t.viewed → AreKeptTables es blocks
      → new ≡ insert_entry nat_cmp es n t → later ≡ without_table n blocks → AreKeptTables new later
  put_kept t n is whole kept put forgot =
      subst (λ (l : List Numbered). AreKeptTables l later) (sym put)
      (subst (λ (b : Blocks). AreKeptTables (insert_entry nat_cmp es n t) b) (sym forgot)
      (subst (λ (m : ℕ). AreKeptTables (insert_entry nat_cmp es m t) (without_table m blocks)) (sym is) (kept_put es blocks
      kept t whole)))

  pub put_none : (n : ℕ) → AreKeptTables es blocks → new ≡ es → later ≡ without_table n blocks → AreKeptTables new later
  put_none n kept same forgot =
      subst (λ (l : List Numbered). AreKeptTables l later) (sym same)
      (subst (AreKeptTables es) (sym forgot) (kept_forgotten es blocks kept n))

  -- a table was read
  module _ (n : ℕ) {T : Type 0} (Finds : List Row → T → Type 0) (was now : Opened) (there : lookup (at n) es ≡ Some was)
      (kept : AreKeptTables es blocks) (stays : Stays was.viewed now.viewed) (r : Result T TableFault) where
    pub looked_kept : IsStrictlySortedBy nat_cmp (keys_of es) → now.properties ≡ was.properties
        → (AreBlocksOf was blocks → AreBlocksOf now later)
        → ((e : BlockPlace × List Entry) → Contains later.entries e → e.0.number ≢ was.properties.number → Contains
        blocks.entries e)
        → new ≡ set_value (at n) es now → AreKeptTables new later
    looked_kept sorted properties own others set =
        subst (λ (l : List Numbered). AreKeptTables l later) (sym set)
        (kept_read es blocks kept n was now later there sorted stays properties own others)

    pub looked : ((q : ℕ) → lookup (at q) new ≡ cond (at n q) (Some now) (lookup (at q) es))
        → (AreBlocksOf was blocks → (text : List ℕ) (rows : List Row) (number : ℕ) (session : List ℕ) → Tells was.viewed text
        → IsTable text rows number session → MatchResult r (Finds rows) IsOutside)
        → IfErr r (λ e. e ≡ ReadFault → Rose was.viewed.faults now.viewed.faults)
        → ReadsTable Finds n views (views_of new) r
    looked updates whole cause = record {
      was = was.viewed;
      there = sym (ap (λ (v : Views). finmap.get v n) seen) ∙ view_at es n ∙ ap (option_map (λ (t : Opened). t.viewed)) there;
      now = now.viewed;
      new_is = views_put es new n now updates ∙ ap (λ (v : Views). finmap.insert v n now.viewed) seen;
      stays = stays;
      exact = λ text rows number session told is.
          whole (all_found (IsKeptTable blocks) n was es kept there).blocks_are text rows number session
          (tells_whole es blocks kept n was there text told) is;
      cause = cause;
    }

pub none_open : (es : List Numbered) (views : Views) (seen : views_of es ≡ views) (n : ℕ) → is_some (finmap.get views n) ≡ true
    → lookup (at n) es ≡ None → ⊥
none_open es views seen n some none =
    let never : false ≡ true =
    sym (ap is_some none) ∙ is_open_at es n ∙ ap (λ (v : Views). is_some (finmap.get v n)) seen ∙ some in
    cc
