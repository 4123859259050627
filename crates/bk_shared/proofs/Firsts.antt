-- There is one first clash of lines, and none where they agree.
use Rattle.std.specs.Prelude.{◌≡◌, ◌≢◌, ◌⊎◌, ℕ, Bool, true, false, cond, List, [], ◌∷◌, ◌++◌, length, Option, Some, None, option_map}
use Rattle.std.proofs.Common.{⊎_elim, refl, sym, ap, subst, ◌∙◌, arith, inl, inr}
use Rattle.std.proofs.Math.Seq.{get_or-append_seam}
use Rattle.std.specs.List.{find, filter_map, cons_option, All}
use Rattle.std.proofs.lemmas.List.{length-append}
use Rattle.std.proofs.lemmas.List.Elements.{All-append, All-cons, All-nil, All-head, All-tail}
use Rattle.lsm_names.specs.declared.shared_names.SharedName.{SharedName}
use Rattle.lsm_names.specs.SharedNames.{IsSharedName}
use Rattle.bk_meta.specs.declared.backup_files.BackupFile.{BackupFile}
use Rattle.bk_meta.specs.declared.backup_files.BackupFile.TheVariants.{Private, Shared}
use Rattle.bk_meta.specs.declared.metas.Meta.{Meta}
use Rattle.bk_meta.specs.declared.metas.MetaFile.{MetaFile}
use Rattle.bk_meta.specs.BackupFiles.{file_at}
use Rattle.bk_meta.proofs.FileLemmas.{path_spells}
use Rattle.bk_shared.specs.SharedLines.{SharedLine, is_of, line_with, shared_line, lines_of, all_lines, crc_in, crc_of, Agree, FirstClash}
use Rattle.bk_shared.proofs.Names.{names_equal}
use Rattle.bk_shared.proofs.Steps.{crc_stays}

-- what holds of each element holds of the one between two parts
pub at_seam : {X : Type 0} (P : X → Type 0) (front : List X) (x : X) (back : List X) → All P (front ++ x ∷ back) → P x
at_seam P front x back all =
    subst P (get_or-append_seam front x back x) (all (length front) x (omega (arith, length-append front (x ∷ back))))

pub some_same : (a b : ℕ) → ◌≡◌ {A = Option ℕ} (Some a) (Some b) → a ≡ b
some_same a b same = cc

-- lines up to a clash don't agree
clash_parts : (before behind : List SharedLine) (name : SharedName) (kept found : ℕ) → crc_in name before ≡ Some kept
    → kept ≢ found
    → Agree (before ++ record { name = name; crc = found } ∷ behind) → ⊥
unfolding Agree
clash_parts before behind name kept found first differs agree =
    let line : SharedLine = record { name = name; crc = found } in
    differs (some_same kept found (sym (crc_stays name before (line ∷ behind) kept first)
    ∙ at_seam (λ (l : SharedLine). crc_in l.name (before ++ line ∷ behind) ≡ Some l.crc) before line behind agree))

pub no_clash : (lines : List SharedLine) (name : SharedName) (kept found : ℕ) → FirstClash lines name kept found
    → Agree lines → ⊥
no_clash lines name kept found clash agree =
    clash_parts clash.before clash.behind name kept found clash.first clash.differs (subst Agree clash.stands agree)

-- ---- two cuts of one list

pub record Longer {X : Type 0} (short long : List X) (x : X) : Type 0 where
  pub more : List X
  pub is : long ≡ short ++ x ∷ more

pub heads : {X : Type 0} (x y : X) (xs ys : List X) → x ∷ xs ≡ y ∷ ys → (x ≡ y) × (xs ≡ ys)
heads x y xs ys same = (cc, cc)

-- they are at one place, or the one is behind the other
two_cuts : {X : Type 0} (front other : List X) (x y : X) (back rest : List X) → front ++ x ∷ back ≡ other ++ y ∷ rest
    → ((front ≡ other) × (x ≡ y)) ⊎ (Longer front other x ⊎ Longer other front y)
two_cuts [] [] x y back rest same = inl (refl, (heads x y back rest same).0)
two_cuts [] (z ∷ other) x y back rest same =
    let head = (heads x z back (other ++ y ∷ rest) same).0 in
    inr (inl (record { more = other; is = λ i. sym head i ∷ other }))
two_cuts (z ∷ front) [] x y back rest same =
    let head = (heads z y (front ++ x ∷ back) rest same).0 in
    inr (inr (record { more = front; is = λ i. head i ∷ front }))
two_cuts {X} (z ∷ front) (w ∷ other) x y back rest same =
    let parts = heads z w (front ++ x ∷ back) (other ++ y ∷ rest) same in
    ⊎_elim (λ here. inl ((λ i. parts.0 i ∷ here.0 i), here.1))
    (λ apart. inr (⊎_elim
    (λ longer. inl (record { more = longer.more; is = λ i. sym parts.0 i ∷ longer.is i }))
    (λ longer. inr (record { more = longer.more; is = λ i. parts.0 i ∷ longer.is i })) apart))
    (two_cuts front other x y back rest parts.1)

-- a clash isn't before another
not_before : (lines rest : List SharedLine) (name : SharedName) (kept found : ℕ)
    → (clash : FirstClash lines name kept found) → Agree rest
    → Longer clash.before rest (record { name = name; crc = found }) → ⊥
not_before lines rest name kept found clash agree longer =
    clash_parts clash.before longer.more name kept found clash.first clash.differs (subst Agree longer.is agree)

line_parts : (name other : SharedName) (found after : ℕ)
    → ◌≡◌ {A = SharedLine} (record { name = name; crc = found }) (record { name = other; crc = after })
    → (name ≡ other) × (found ≡ after)
line_parts name other found after same = (ap (λ (l : SharedLine). l.name) same, ap (λ (l : SharedLine). l.crc) same)

pub one_clash : (lines : List SharedLine) (name other : SharedName) (kept found before after : ℕ)
    → FirstClash lines name kept found → FirstClash lines other before after
    → (name ≡ other) × (kept ≡ before) × (found ≡ after)
one_clash lines name other kept found before after clash next =
    ⊎_elim
    (λ here.
    let parts = line_parts name other found after here.1 in
    (parts.0, some_same kept before (sym clash.first ∙ (λ i. crc_in (parts.0 i) (here.0 i)) ∙ next.first), parts.1))
    (λ apart. absurd (⊎_elim (not_before lines next.before name kept found clash next.agreed)
    (not_before lines clash.before other before after next clash.agreed) apart))
    (two_cuts clash.before next.before (record { name = name; crc = found })
    (record { name = other; crc = after }) clash.behind next.behind (sym clash.stands ∙ next.stands))

-- ---- the names of lines

abbrev pub IsNamed : SharedLine → Type 0
IsNamed line = IsSharedName line.name

named_in : (id : ℕ) (files : List MetaFile) → All IsNamed (filter_map (λ file. shared_line id file) files)
named_in id [] = All-nil IsNamed
named_in id (file ∷ files) = by (file_at id file.path) refl (named_in id files) where
  by : (found : Option BackupFile) → file_at id file.path ≡ found
      → All IsNamed (filter_map (λ file. shared_line id file) files)
      → All IsNamed (cons_option (line_with file.crc found) (filter_map (λ file. shared_line id file) files))
  by None is rest = rest
  by (Some (Private name)) is rest = rest
  by (Some (Shared name)) is rest = All-cons IsNamed (record { name = name; crc = file.crc })
      (filter_map (λ file. shared_line id file) files) (path_spells id file.path (Shared name) is).0 rest

all_named : (metas : List Meta) → All IsNamed (all_lines metas)
all_named [] = All-nil IsNamed
all_named (meta ∷ metas) = All-append IsNamed (lines_of meta) (all_lines metas) (named_in meta.id meta.files)
    (all_named metas)

pub clash_named : (metas : List Meta) (name : SharedName) (kept found : ℕ) → FirstClash (all_lines metas) name kept found
    → IsSharedName name
clash_named metas name kept found clash =
    at_seam IsNamed clash.before (record { name = name; crc = found }) clash.behind
    (subst (All IsNamed) clash.stands (all_named metas))

-- ---- what agreeing lines say of each meta

-- lines that agree with a checksum of each name
abbrev pub Follow : (SharedName → Option ℕ) → List SharedLine → Type 0
Follow crcs lines = All (λ line. crcs line.name ≡ Some line.crc) lines

follow_first : (crcs : SharedName → Option ℕ) (name : SharedName) (crc : ℕ) (lines : List SharedLine) → Follow crcs lines
    → crc_in name lines ≡ Some crc → crcs name ≡ Some crc
follow_first crcs name crc [] follow is = absurd (cc)
follow_first crcs name crc (line ∷ lines) follow is =
    by (is_of name line) refl (find (is_of name) lines) is
    (follow_first crcs name crc lines (All-tail (λ l. crcs l.name ≡ Some l.crc) line lines follow)) where
      by : (here : Bool) → is_of name line ≡ here → (found : Option SharedLine)
          → option_map (λ l. l.crc) (cond here (Some line) found) ≡ Some crc
          → (option_map (λ l. l.crc) found ≡ Some crc → crcs name ≡ Some crc) → crcs name ≡ Some crc
      by true same found is rest = ap crcs (sym (names_equal line.name name same))
          ∙ All-head (λ l. crcs l.name ≡ Some l.crc) line lines follow ∙ is
      by false same found is rest = rest is

front_follows : {X : Type 0} (P : X → Type 0) (xs ys : List X) → All P (xs ++ ys) → All P xs × All P ys
front_follows P [] ys all = (All-nil P, all)
front_follows P (x ∷ xs) ys all =
    let rest = front_follows P xs ys (All-tail P x (xs ++ ys) all) in
    (All-cons P x xs (All-head P x (xs ++ ys) all) rest.0, rest.1)

each_follows : (crcs : SharedName → Option ℕ) (name : SharedName) (crc : ℕ) (metas : List Meta)
    → Follow crcs (all_lines metas)
    → All (λ meta. crc_in name (lines_of meta) ≡ Some crc → crcs name ≡ Some crc) metas
each_follows crcs name crc [] follow = All-nil (λ meta. crc_in name (lines_of meta) ≡ Some crc → crcs name ≡ Some crc)
each_follows crcs name crc (meta ∷ metas) follow =
    let parts = front_follows (λ l. crcs l.name ≡ Some l.crc) (lines_of meta) (all_lines metas) follow in
    All-cons (λ m. crc_in name (lines_of m) ≡ Some crc → crcs name ≡ Some crc) meta metas
    (follow_first crcs name crc (lines_of meta) parts.0) (each_follows crcs name crc metas parts.1)

pub each_agrees : (metas : List Meta) (name : SharedName) (crc : ℕ) → Agree (all_lines metas)
    → All (λ meta. crc_in name (lines_of meta) ≡ Some crc → crc_of metas name ≡ Some crc) metas
unfolding Agree crc_of
each_agrees metas name crc agree = each_follows (λ n. crc_in n (all_lines metas)) name crc metas agree
