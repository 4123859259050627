-- A clash is one of two metas, since a meta names a file on one line at most.
use Rattle.std.specs.Prelude.{◌≡◌, ◌≢◌, ◌⊎◌, ℕ, suc, ◌+◌, ◌<◌, ◌≤◌, Bool, true, false, cond, List, [], ◌∷◌, ◌++◌, Option, Some, None}
use Rattle.std.proofs.Common.{⊎_elim, refl, sym, ap, subst, ◌∙◌, arith, inl, inr}
use Rattle.std.specs.Cmp.{ranked}
use Rattle.std.specs.List.{All, AllByRecursion, Contains}
use Rattle.std.specs.List.Sorted.{IsStrictlyIncreasing, IsStrictlySortedBy}
use Rattle.std.specs.Option.{option_or}
use Rattle.std.specs.Ordering.{nat_cmp}
use Rattle.std.specs.declared.cmp.Ordering.TheVariants.{Less}
use Rattle.std.proofs.lemmas.List.Elements.{All-head, All-tail, All-cons, All-nil}
use Rattle.std.proofs.lemmas.List.Sums.{sum_by-append}
use Rattle.std.proofs.lemmas.Map.Keys.{sorted_from_strictly_increasing}
use Rattle.lsm_names.specs.declared.shared_names.SharedName.{SharedName}
use Rattle.bk_meta.specs.declared.metas.Meta.{Meta}
use Rattle.bk_meta.specs.Metas.{IsMeta}
use Rattle.bk_shared.specs.SharedLines.{SharedLine, is_of, lines_of, all_lines, names_file, crc_in, crc_of, Agree, FirstClash, TwoChecksums}
use Rattle.bk_shared.proofs.Names.{name_itself}
use Rattle.bk_shared.proofs.Steps.{crc_joined, crc_begins, crc_alone}
use Rattle.bk_shared.proofs.Counts.{count_in, count_first, once_in_meta, ids}
use Rattle.bk_shared.proofs.Firsts.{heads, some_same, each_agrees}

-- ---- a place in a list of two parts

record Within {X : Type 0} (part front : List X) (x : X) : Type 0 where
  rest : List X
  is : part ≡ front ++ x ∷ rest

record Behind {X : Type 0} (part next front : List X) (x : X) (back : List X) : Type 0 where
  more : List X
  front_is : front ≡ part ++ more
  next_is : next ≡ more ++ x ∷ back

place_in : {X : Type 0} (part next front : List X) (x : X) (back : List X) → part ++ next ≡ front ++ x ∷ back
    → Within part front x ⊎ Behind part next front x back
place_in [] next front x back same = inr (record { more = front; front_is = refl; next_is = same })
place_in (y ∷ part) next [] x back same = inl
    (record { rest = part; is = λ i. (heads y x (part ++ next) back same).0 i ∷ part })
place_in (y ∷ part) next (z ∷ front) x back same =
    let parts = heads y z (part ++ next) (front ++ x ∷ back) same in
    ⊎_elim (λ within. inl (record { rest = within.rest; is = λ i. parts.0 i ∷ within.is i }))
    (λ behind. inr (record {
      more = behind.more;
      front_is = λ i. sym parts.0 i ∷ behind.front_is i;
      next_is =
          behind.next_is;
    }))
    (place_in part next front x back parts.1)

-- ---- the lines of one meta

count_line : (line : SharedLine) (rest : List SharedLine) → count_in line.name (line ∷ rest) ≡ 1 + count_in line.name rest
count_line line rest = count_first line.name line rest
    ∙ ap (λ (b : Bool). cond b 1 0 + count_in line.name rest) (name_itself line.name)

some_counted : (name : SharedName) (lines : List SharedLine) (crc : ℕ) → crc_in name lines ≡ Some crc
    → 1 ≤ count_in name lines
some_counted name [] crc is = absurd (cc)
some_counted name (line ∷ lines) crc is = by (is_of name line) refl (some_counted name lines crc) where
  by : (here : Bool) → is_of name line ≡ here → (crc_in name lines ≡ Some crc → 1 ≤ count_in name lines)
      → 1 ≤ count_in name (line ∷ lines)
  by true same rest = omega (arith, count_first name line lines ∙ ap (λ (b : Bool). cond b 1 0 + count_in name lines) same)
  by false other rest =
      let counted = rest (sym (crc_begins name (line ∷ []) lines (crc_alone name line false other)) ∙ is) in
      omega (arith, counted, count_first name line lines ∙ ap (λ (b : Bool). cond b 1 0 + count_in name lines) other)

at_most_one : (b : Bool) → cond b 1 0 ≤ 1
at_most_one true = omega arith
at_most_one false = omega arith

-- no line before it in its meta names the same file
first_in_meta : (meta : Meta) (front rest : List SharedLine) (line : SharedLine) (crc : ℕ) → IsMeta meta
    → lines_of meta ≡ front ++ line ∷ rest → crc_in line.name front ≡ Some crc → ⊥
first_in_meta meta front rest line crc lawful is there =
    absurd (omega (
      arith,
      once_in_meta line.name meta lawful,
      at_most_one (names_file line.name meta),
      ap (count_in line.name) is ∙ sum_by-append (λ (l : SharedLine). cond (is_of line.name l) 1 0) front (line ∷ rest),
      count_line line rest,
      some_counted line.name front crc there,
    ))

-- so it gives the file the meta's checksum
gives_first : (meta : Meta) (front rest : List SharedLine) (line : SharedLine) → IsMeta meta
    → lines_of meta ≡ front ++ line ∷ rest → crc_in line.name (lines_of meta) ≡ Some line.crc
gives_first meta front rest line lawful is = ap (crc_in line.name) is ∙ by (crc_in line.name front) refl where
  by : (crc : Option ℕ) → crc_in line.name front ≡ crc → crc_in line.name (front ++ line ∷ rest) ≡ Some line.crc
  by None none = crc_begins line.name front (line ∷ rest) none ∙ crc_joined line.name (line ∷ []) rest
      ∙ ap (λ (o : Option ℕ). option_or o (crc_in line.name rest)) (crc_alone line.name line true (name_itself line.name))
  by (Some crc) there = absurd (first_in_meta meta front rest line crc lawful is there)

-- ---- the metas of two lines

record Holder (metas : List Meta) (line : SharedLine) : Type 0 where
  meta : Meta
  among : Contains metas meta
  gives : crc_in line.name (lines_of meta) ≡ Some line.crc

here_in : (meta : Meta) (metas : List Meta) → Contains (meta ∷ metas) meta
here_in meta metas = (0, omega arith, refl)

there_in : (first meta : Meta) (metas : List Meta) → Contains metas meta → Contains (first ∷ metas) meta
there_in first meta metas there = (suc there.0, omega (arith, there.1), there.2)

no_lines : (front back : List SharedLine) (line : SharedLine) → [] ≡ front ++ line ∷ back → ⊥
no_lines [] back line is = absurd (cc)
no_lines (x ∷ front) back line is = absurd (cc)

holder_of : (metas : List Meta) (front back : List SharedLine) (line : SharedLine) → All IsMeta metas
    → all_lines metas ≡ front ++ line ∷ back → Holder metas line
holder_of [] front back line lawful is = absurd (no_lines front back line is)
holder_of (meta ∷ metas) front back line lawful is =
    ⊎_elim
    (λ within. record {
      meta = meta;
      among = here_in meta metas;
      gives = gives_first meta front within.rest line
          (All-head IsMeta meta metas lawful) within.is;
    })
    (λ behind.
    let holder = holder_of metas behind.more back line (All-tail IsMeta meta metas lawful) behind.next_is in
    record { meta = holder.meta; among = there_in meta holder.meta metas holder.among; gives = holder.gives })
    (place_in (lines_of meta) (all_lines metas) front line back is)

above_all : (id : ℕ) (metas : List Meta) → AllByRecursion (λ other. nat_cmp id other ≡ Less) (ids metas)
    → All (λ meta. id < meta.id) metas
above_all id [] above = All-nil (λ meta. id < meta.id)
above_all id (meta ∷ metas) above = All-cons (λ m. id < m.id) meta metas (ranked id meta.id Less (sym above.0))
    (above_all id metas above.1)

two_of : (metas : List Meta) (before behind : List SharedLine) (line : SharedLine) (kept : ℕ)
    → IsStrictlySortedBy nat_cmp (ids metas) → All IsMeta metas
    → all_lines metas ≡ before ++ line ∷ behind → crc_in line.name before ≡ Some kept → kept ≢ line.crc
    → TwoChecksums metas line.name kept line.crc
unfolding IsStrictlySortedBy
two_of [] before behind line kept rising lawful is first differs = absurd (no_lines before behind line is)
two_of (meta ∷ metas) before behind line kept rising lawful is first differs =
    ⊎_elim
    (λ within. absurd (first_in_meta meta before within.rest line kept (All-head IsMeta meta metas lawful) within.is first))
    (λ next. by next.more next.next_is (crc_in line.name (lines_of meta)) refl
    (sym (crc_joined line.name (lines_of meta) next.more) ∙ ap (crc_in line.name) (sym next.front_is) ∙ first)
    (λ later. two_of metas next.more behind line kept rising.1
    (All-tail IsMeta meta metas lawful) next.next_is later differs))
    (place_in (lines_of meta) (all_lines metas) before line behind is) where
      by : (more : List SharedLine) → all_lines metas ≡ more ++ line ∷ behind → (crc : Option ℕ)
          → crc_in line.name (lines_of meta) ≡ crc
          → option_or crc (crc_in line.name more) ≡ Some kept
          → (crc_in line.name more ≡ Some kept → TwoChecksums metas line.name kept line.crc)
          → TwoChecksums (meta ∷ metas) line.name kept line.crc
      by more next (Some crc) here said rest =
          let holder = holder_of metas more behind line (All-tail IsMeta meta metas lawful) next in
          record {
            lower = meta;
            higher = holder.meta;
            lower_in = here_in meta metas;
            higher_in = there_in meta holder.meta metas holder.among;
            below = subst (λ (m : Meta). meta.id < m.id) holder.among.2
                (above_all meta.id metas rising.0 holder.among.0 holder.meta holder.among.1);
            kept_is = here ∙ said;
            found_is = holder.gives;
            differs = differs;
          }
      by more next None none said rest =
          let two = rest said in
          record {
            lower = two.lower;
            higher = two.higher;
            lower_in = there_in meta two.lower metas two.lower_in;
            higher_in = there_in meta two.higher metas two.higher_in;
            below = two.below;
            kept_is = two.kept_is;
            found_is = two.found_is;
            differs = two.differs;
          }

pub clash_of_two : (metas : List Meta) (name : SharedName) (kept found : ℕ) → IsStrictlyIncreasing (ids metas)
    → All IsMeta metas
    → FirstClash (all_lines metas) name kept found → TwoChecksums metas name kept found
clash_of_two metas name kept found rising lawful clash =
    two_of metas clash.before clash.behind (record { name = name; crc = found }) kept
    (sorted_from_strictly_increasing (ids metas) rising) lawful clash.stands clash.first clash.differs

-- metas that agree have no two checksums of a file
pub two_disagree : (metas : List Meta) (name : SharedName) (kept found : ℕ) → TwoChecksums metas name kept found
    → Agree (all_lines metas) → ⊥
two_disagree metas name kept found two agree = two.differs (some_same kept found (sym lower ∙ higher)) where
  Gives : ℕ → Meta → Type 0
  Gives crc meta = crc_in name (lines_of meta) ≡ Some crc → crc_of metas name ≡ Some crc

  lower : crc_of metas name ≡ Some kept
  lower = subst (Gives kept) two.lower_in.2
      (each_agrees metas name kept agree two.lower_in.0 two.lower two.lower_in.1) two.kept_is

  higher : crc_of metas name ≡ Some found
  higher = subst (Gives found) two.higher_in.2
      (each_agrees metas name found agree two.higher_in.0 two.higher two.higher_in.1) two.found_is
