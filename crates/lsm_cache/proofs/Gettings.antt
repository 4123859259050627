-- The exits of a get through kept blocks.
use Rattle.std.proofs.Common.{◌≡◌, ◌≢◌, ℕ, ◌⊎◌, List, Contains, Option, Some, None, Result, Ok, Err, IfOk, IfErr, MatchResult, OnOk, OnErr, IsErr, IsErrAnd, length, refl, sym, subst, ◌∙◌, inl, inr}
use Rattle.std.specs.Map.{lookup}
use Rattle.lsm_frame.specs.Reader.{Tells, Stays}
use Rattle.lsm_rows.specs.declared.rows.Row.{Row}
use Rattle.lsm_block.specs.declared.entries.Entry.{Entry}
use Rattle.lsm_rows.specs.Contents.{newest}
use Rattle.lsm_block.specs.Seek.{first_of_user}
use Rattle.lsm_block.specs.TableText.{data_blocks, index_from}
use Rattle.lsm_table.specs.declared.faults.TableFault.{TableFault}
use Rattle.lsm_table.specs.declared.faults.TableFault.TheVariants.{NoMemory, ReadFault}
use Rattle.lsm_table.specs.Opening.{IsOutside, TellsPlace}
use Rattle.lsm_table.specs.DataBlocks.{IsGot, IsNotGot}
use Rattle.lsm_table.specs.Tables.{Opened, Shows, IsLocated}
use Rattle.lsm_table.specs.WholeTables.{IsTable}
use Rattle.lsm_table.proofs.Indexes.{told_once}
use Rattle.lsm_table.proofs.WholeTables.{opens_once, table_opens}
use Rattle.lsm_table.proofs.WholeSearches.{got_newest, not_got_outside}
use Rattle.lsm_cache.specs.declared.blocks.BlockPlace.{BlockPlace}
use Rattle.lsm_cache.specs.Kept.{Kept, is_at, used, with_block}
use Rattle.lsm_cache.specs.Getting.{IsBlockOf, AreBlocksOf, IsAnswerOf, IsFromKept, IsFromTable}
use Rattle.lsm_cache.proofs.Keeping.{kept_is, used_none, used_are, used_others, put_are, put_others, stays_are}

abbrev pub Answer : Type 0
Answer = Result (Option Row) TableFault

pub answer_refused : (block : List Entry) (key : List ℕ) (r : Answer) → IsErr r × IsErrAnd r (λ x. x ≡ NoMemory) → IsAnswerOf block key r
unfolding IsAnswerOf
answer_refused block key (Ok row) is = cc
answer_refused block key (Err fault) is = is.1

pub nothing_located : (key : List ℕ) (index : List Entry) (place : ℕ) → first_of_user key index ≡ None → ¬ IsLocated key index (Some place)
unfolding IsLocated
nothing_located key index place none located = let clash : None ≡ Some located.0 = sym none ∙ located.1 in cc

located_once : (key : List ℕ) (index : List Entry) (place other : ℕ) → IsLocated key index (Some place) → IsLocated key index (Some other) → place ≡ other
unfolding IsLocated
located_once key index place other one two =
    let same : one.0 ≡ two.0 = (let both : Some one.0 ≡ Some two.0 = sym one.1 ∙ two.1 in cc) in
    told_once two.0.value place other one.2 two.2 (subst (λ e. TellsPlace e.value place one.2) same one.3) two.3

-- ---- what an answer says

answer_ok : (table : Opened) (key : List ℕ) (place : ℕ) (block : List Entry) (r : Answer) → IsLocated key table.index (Some place) → IsBlockOf table place block → IsAnswerOf block key r → IfOk r (λ row. (text : List ℕ) → Tells table.viewed text → IsGot text table.index key row)
unfolding IsAnswerOf
answer_ok table key place block (Ok row) located stands is = λ text told. inr (record { place = place; located = located; block = block; stands = stands text told; row_is = is })
answer_ok table key place block (Err fault) located stands is = tt

answer_err : (table : Opened) (key : List ℕ) (place : ℕ) (block : List Entry) (r : Answer) → IsLocated key table.index (Some place) → IsAnswerOf block key r → IfErr r (λ e. (text : List ℕ) → Tells table.viewed text → IsNotGot text table.index key e)
unfolding IsAnswerOf IsOutside
answer_err table key place block (Ok row) located is = tt
answer_err table key place block (Err fault) located is = λ text told. record { place = place; located = located; refused = inl (subst IsOutside (sym is) tt) }

answer_cause : (X : Type 0) (key : List ℕ) (block : List Entry) (r : Answer) → IsAnswerOf block key r → IfErr r (λ e. e ≡ ReadFault → X)
unfolding IsAnswerOf
answer_cause X key block (Ok row) is = tt
answer_cause X key block (Err fault) is = λ read. let clash : NoMemory ≡ ReadFault = sym is ∙ read in cc

-- what a table's text has decides the answer
pub answer_whole : (table : Opened) (key : List ℕ) (r : Answer) → Shows table.viewed table.properties table.index → IfOk r (λ row. (text : List ℕ) → Tells table.viewed text → IsGot text table.index key row)
    → IfErr r (λ e. (text : List ℕ) → Tells table.viewed text → IsNotGot text table.index key e) → (text : List ℕ) (rows : List Row) (number : ℕ) (session : List ℕ) → Tells table.viewed text → IsTable text rows number session
    → MatchResult r (λ row. row ≡ newest key rows) IsOutside
unfolding Shows
answer_whole table key r shows ok err text rows number session told is =
    by_answer r ok err
    (opens_once text table.properties (record { number = number; session = session; rows = length rows }) table.index (index_from 0 (data_blocks rows)) (shows text told) (table_opens text rows number session is)).1
  where
    by_answer : (r : Answer) → IfOk r (λ row. (text : List ℕ) → Tells table.viewed text → IsGot text table.index key row) → IfErr r (λ e. (text : List ℕ) → Tells table.viewed text → IsNotGot text table.index key e)
        → table.index ≡ index_from 0 (data_blocks rows) → MatchResult r (λ row. row ≡ newest key rows) IsOutside
    by_answer (Ok row) ok err same = got_newest text rows number session is key row (subst (λ es. IsGot text es key row) same (ok text told))
    by_answer (Err fault) ok err same = not_got_outside text rows number session is key fault (subst (λ es. IsNotGot text es key fault) same (err text told))

-- ---- the block was kept

pub record Hit (table : Opened) (key : List ℕ) (kept now : Kept) (answer : Answer) (number place : ℕ) (block : List Entry) : Type 0 where
  pub same : number ≡ table.properties.number
  pub located : IsLocated key table.index (Some place)
  pub found : lookup (is_at number place) kept.entries ≡ Some block
  pub answer_is : IsAnswerOf block key answer
  pub now_is : now ≡ used number place kept

module _ {table : Opened} {key : List ℕ} {kept now : Kept} {answer : Answer} {number place : ℕ} {block : List Entry} (h : Hit table key kept now answer number place block) where
  pub hit_ok : AreBlocksOf table kept → IfOk answer (λ row. (text : List ℕ) → Tells table.viewed text → IsGot text table.index key row)
  hit_ok are = answer_ok table key place block answer h.located (kept_is table kept number place block h.same h.found are) h.answer_is

  pub hit_err : IfErr answer (λ e. (text : List ℕ) → Tells table.viewed text → IsNotGot text table.index key e)
  hit_err = answer_err table key place block answer h.located h.answer_is

  pub hit_cause : (X : Type 0) → IfErr answer (λ e. e ≡ ReadFault → X)
  hit_cause X = answer_cause X key block answer h.answer_is

  pub hit_inside : (X : Type 0) → first_of_user key table.index ≡ None → X
  hit_inside X none = absurd (nothing_located key table.index place none h.located)

  hit_at : (other : ℕ) → IsLocated key table.index (Some other) → (lookup (is_at table.properties.number other) kept.entries ≡ Some block) × (now ≡ used table.properties.number other kept)
  hit_at other located =
      let there : place ≡ other = located_once key table.index place other h.located located in (
        subst (λ p. lookup (is_at table.properties.number p) kept.entries ≡ Some block) there (subst (λ n. lookup (is_at n place) kept.entries ≡ Some block) h.same h.found),
        subst (λ p. now ≡ used table.properties.number p kept) there (subst (λ n. now ≡ used n place kept) h.same h.now_is),
      )

  pub hit_kept : (other : ℕ) (found : List Entry) → IsLocated key table.index (Some other) → lookup (is_at table.properties.number other) kept.entries ≡ Some found → IsFromKept other found key table kept table now answer
  hit_kept other found located is =
      let at = hit_at other located in
      let one : Some block ≡ Some found = sym at.0 ∙ is in
      let same : block ≡ found = cc in
      record { answer_is = subst (λ b. IsAnswerOf b key answer) same h.answer_is; table_is = refl; kept_is = at.1 }

  pub hit_read : (X : Type 0) (other : ℕ) → IsLocated key table.index (Some other) → lookup (is_at table.properties.number other) kept.entries ≡ None → X
  hit_read X other located none = let at = hit_at other located in let clash : Some block ≡ None = sym at.0 ∙ none in cc

  pub hit_blocks : AreBlocksOf table kept → AreBlocksOf table now
  hit_blocks are = subst (AreBlocksOf table) (sym h.now_is) (used_are table number place kept are)

  pub hit_others : (e : BlockPlace × List Entry) → Contains now.entries e → e.0.number ≢ table.properties.number → Contains kept.entries e
  hit_others e among other = used_others number place kept e (subst (λ (k : Kept). Contains k.entries e) h.now_is among)

-- ---- no block was kept

pub record Miss (table : Opened) (key : List ℕ) (kept lent : Kept) (number place : ℕ) : Type 0 where
  pub same : number ≡ table.properties.number
  pub located : IsLocated key table.index (Some place)
  pub none : lookup (is_at number place) kept.entries ≡ None
  pub lent_is : lent ≡ used number place kept

module _ {table : Opened} {key : List ℕ} {kept lent : Kept} {number place : ℕ} (m : Miss table key kept lent number place) where
  pub unchanged : lent ≡ kept
  unchanged = m.lent_is ∙ used_none number place kept m.none

  pub miss_inside : (X : Type 0) → first_of_user key table.index ≡ None → X
  miss_inside X none = absurd (nothing_located key table.index place none m.located)

  pub miss_kept : (X : Type 0) (other : ℕ) (found : List Entry) → IsLocated key table.index (Some other) → lookup (is_at table.properties.number other) kept.entries ≡ Some found → X
  miss_kept X other found located is =
      let there : place ≡ other = located_once key table.index place other m.located located in
      let none = subst (λ p. lookup (is_at table.properties.number p) kept.entries ≡ None) there (subst (λ n. lookup (is_at n place) kept.entries ≡ None) m.same m.none) in
      let clash : None ≡ Some found = sym none ∙ is in cc

  pub miss_refused : (other : ℕ) (r : Answer) → IsErr r → IsFromTable other key table kept lent r
  miss_refused other r refused = inr (refused, unchanged)

  pub miss_blocks : (read : Opened) → Stays table.viewed read.viewed → read.index ≡ table.index → read.properties ≡ table.properties → AreBlocksOf table kept → AreBlocksOf read lent
  miss_blocks read stays index properties are = subst (AreBlocksOf read) (sym unchanged) (stays_are table read kept stays index properties are)

  pub miss_others : (e : BlockPlace × List Entry) → Contains lent.entries e → Contains kept.entries e
  miss_others e among = subst (λ (k : Kept). Contains k.entries e) unchanged among

-- a block that was put, or not
pub either_way : {A E : Type 0} (P Q : Type 0) (r : Result A E) → OnOk r P → OnErr r Q → P ⊎ Q
either_way P Q (Ok a) ok err = inl ok
either_way P Q (Err e) ok err = inr err

-- ---- the block was read

pub record Read (table : Opened) (key : List ℕ) (kept now : Kept) (answer : Answer) (place : ℕ) (block : List Entry) : Type 0 where
  pub located : IsLocated key table.index (Some place)
  pub stands : IsBlockOf table place block
  pub answer_is : IsAnswerOf block key answer
  pub now_is : (now ≡ with_block table.properties.number place block kept) ⊎ (now ≡ kept)

-- the block that was read is put where nothing of its place was kept
pub was_read : (table : Opened) (key : List ℕ) (kept lent now : Kept) (answer : Answer) (number place : ℕ) (block : List Entry) → Miss table key kept lent number place → IsBlockOf table place block → IsAnswerOf block key answer → (now ≡ with_block number place block lent) ⊎ (now ≡ lent) → Read table key kept now answer place block
was_read table key kept lent now answer number place block m stands is now_is = record {
  located = m.located;
  stands = stands;
  answer_is = is;
  now_is = elim now_is [
    | inl put ↦ inl (subst (λ n. now ≡ with_block n place block kept) m.same (subst (λ k. now ≡ with_block number place block k) (unchanged m) put))
    | inr dropped ↦ inr (dropped ∙ unchanged m)
  ];
}

module _ {table : Opened} {key : List ℕ} {kept now : Kept} {answer : Answer} {place : ℕ} {block : List Entry} (r : Read table key kept now answer place block) where
  pub read_ok : IfOk answer (λ row. (text : List ℕ) → Tells table.viewed text → IsGot text table.index key row)
  read_ok = answer_ok table key place block answer r.located r.stands r.answer_is

  pub read_err : IfErr answer (λ e. (text : List ℕ) → Tells table.viewed text → IsNotGot text table.index key e)
  read_err = answer_err table key place block answer r.located r.answer_is

  pub read_cause : (X : Type 0) → IfErr answer (λ e. e ≡ ReadFault → X)
  read_cause X = answer_cause X key block answer r.answer_is

  pub read_read : (other : ℕ) → IsLocated key table.index (Some other) → IsFromTable other key table kept now answer
  read_read other located =
      subst (λ p. IsFromTable p key table kept now answer) (located_once key table.index place other r.located located)
      (inl (record { block = block; stands = r.stands; answer_is = r.answer_is; kept_is = r.now_is }))

  pub read_blocks : (read : Opened) → Stays table.viewed read.viewed → read.index ≡ table.index → read.properties ≡ table.properties → AreBlocksOf table kept → AreBlocksOf read now
  read_blocks read stays index properties are = stays_are table read now stays index properties (elim r.now_is [
    | inl put ↦ subst (AreBlocksOf table) (sym put) (put_are table table.properties.number place block kept r.stands are)
    | inr dropped ↦ subst (AreBlocksOf table) (sym dropped) are
  ])

  pub read_others : (e : BlockPlace × List Entry) → Contains now.entries e → e.0.number ≢ table.properties.number → Contains kept.entries e
  read_others e among other = elim r.now_is [
    | inl put ↦ put_others table.properties.number place block kept e (subst (λ (k : Kept). Contains k.entries e) put among) other
    | inr dropped ↦ subst (λ (k : Kept). Contains k.entries e) dropped among
  ]
