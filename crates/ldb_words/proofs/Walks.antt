-- What clap makes of the words of options that are right: it takes them, and its rows are theirs.
use Rattle.std.proofs.Common.{◌≡◌, ◌∙◌, ℕ, Bool, true, false, cond, ◌&&◌, ◌||◌, not, ◌==◌, if◌then◌else◌, refl, sym, ap, ap₂, subst, List, [], ◌∷◌, ◌++◌, map, drop, Option, Some, None, codes, inl, inr, ◌⊎◌, append-nil, append_assoc, true≢false, option_map}
use Rattle.std.proofs.lemmas.Bool.{and_parts}
use Rattle.std.proofs.lemmas.List.{map-append}
use Rattle.std.proofs.lemmas.List.Folds.{list_all-append}
use Rattle.std.proofs.lemmas.Slice.Eq.{bytes_eq-Decides}
use Rattle.std.specs.Bool.{Decides}
use Rattle.std.specs.List.{find, fold, list_all}
use Rattle.std.specs.Prelude.{option_and_then, slice_get, is_some}
use Rattle.std.specs.Option.{option_map_or}
use Rattle.std.specs.Str.{bytes_eq}
use Rattle.clap.specs.Lexer.{long_of, long_of_rest, short_of, short_of_rest, strip_byte}
use Rattle.clap.specs.Walk.{Held, Row, Rule, Step, Text, Walk, after_step, idle, long_or_other, more_values, plain_word, short_or_plain, subcommand_or_other, trailing, option, at_row, first_of, has_row, settled_rows, finished, walked, with_default, with_values, without}
use Rattle.clap.specs.Simple.{App, Shape, built, entered, filled, matches_of, new_app, new_rule, on_top, with_index, with_rule}
use Rattle.clap.specs.Takes.{bundle_passes, default_passes, flag_word_passes, other_passes, step_passes, entered_passes, is_valid, settle_passes, takes, turn_passes, walk_passes}
use Rattle.clap.specs.Values.{reading_of}
use Rattle.clap.specs.declared.builder.action.ArgAction.TheVariants.{Set}
use Rattle.clap.specs.declared.builder.value_parser.ValueParser.TheVariants as vp
use Rattle.clap.specs.declared.parser.matches.ValueSource.TheVariants.{CommandLine}
use Rattle.ldb_words.specs.Words.{Pair, are_right, is_given, is_hyphened, is_option, is_right, is_value, value_in}
use Rattle.ldb_words.specs.Parts.{spelled}

-- ---- the command that is given to clap

abbrev pub option_rule : Text → Rule
option_rule id = record (new_rule id) { long = Some id; action = Some Set }

abbrev pub bare : App
bare = on_top (λ (s : Shape). record s { no_binary_name = true; disable_help_flag = true; disable_version_flag = true })
    (new_app (codes "ldb"))

abbrev pub ldb : App
ldb = with_rule (with_rule (with_rule bare (option_rule (codes "disk"))) (option_rule (codes "backups"))) (option_rule (codes "db"))

abbrev top : Shape
top = (built ldb).top

abbrev rules : List Rule
rules = top.rules

-- ---- rows of pairs

abbrev id_of : Pair → Text
id_of o = drop 2 o.0

abbrev row : Text → Text → Row
row id value = record { id = id; values = value ∷ []; count = None; source = Some CommandLine; reading = reading_of vp.String }

abbrev pair_row : Pair → Row
pair_row o = row (id_of o) o.1

-- a name is one of three
abbrev IsName : Text → Type 0
IsName name = (name ≡ codes "--disk") ⊎ ((name ≡ codes "--backups") ⊎ (name ≡ codes "--db"))

or_cases : (a b : Bool) → (a || b) ≡ true → (a ≡ true) ⊎ (b ≡ true)
or_cases true b e = inl refl
or_cases false b e = inr e

name_is : (name : Text) → is_option name ≡ true → IsName name
unfolding is_option
name_is name e = elim (or_cases (bytes_eq name (codes "--disk")) _ e) [
  | inl disk ↦ inl ((bytes_eq-Decides name (codes "--disk")).0 disk)
  | inr other ↦ elim (or_cases (bytes_eq name (codes "--backups")) _ other) [
    | inl backups ↦ inr (inl ((bytes_eq-Decides name (codes "--backups")).0 backups))
    | inr db ↦ inr (inr ((bytes_eq-Decides name (codes "--db")).0 db))
  ]
]

-- what holds of the three names holds of each name
by_name : (P : Text → Type 0) → P (codes "--disk") → P (codes "--backups") → P (codes "--db") → (name : Text)
    → is_option name ≡ true → P name
by_name P disk backups db name e = elim (name_is name e) [
  | inl is ↦ subst P (sym is) disk
  | inr other ↦ elim other [
    | inl is ↦ subst P (sym is) backups
    | inr is ↦ subst P (sym is) db
  ]
]

-- ---- one step

abbrev at : List Row → Option (Text × List Text) → Walk
at rows p = record {
  held = record { rows = rows; pending = p; skip = 0 };
  waiting = idle;
  position = 1;
  is_trailing = false;
  stopped = None;
}

abbrev waits_at : Text → List Row → Walk
waits_at id rows = record {
  held = record { rows = rows; pending = Some (id, []); skip = 0 };
  waiting = option id;
  position = 1;
  is_trailing = false;
  stopped = None;
}

-- an option's name: what was pending is used, and the option waits for its value
abbrev Named : Text → Type 0
Named name = (rows : List Row) (p : Option (Text × List Text))
    → (walked rules [] (at rows p) name ≡ waits_at (drop 2 name) (settled_rows rules p rows))
    × (turn_passes top [] (at rows p) name ≡ (settle_passes rules false (at rows p).held && true))

named : (name : Text) → is_option name ≡ true → Named name
unfolding walked
named = by_name Named (λ rows p. (refl, refl)) (λ rows p. (refl, refl)) (λ rows p. (refl, refl))

no_hyphen : (b : ℕ) (bs : Text) → is_value (b ∷ bs) ≡ true → (b == 45) ≡ false
unfolding is_value is_hyphened
no_hyphen b bs e = go (b == 45) (and_parts _ _ e).1
  where
    go : (t : Bool) → not (t && true) ≡ true → t ≡ false
    go true x = sym x
    go false x = refl

no_value : is_value [] ≡ true → ⊥
unfolding is_value
no_value e = true≢false (sym e)

-- a value: the option has it
abbrev Valued : Text → Type 0
Valued name = (rows : List Row) (b : ℕ) (bs : Text) → (b == 45) ≡ false
    → (walked rules [] (waits_at (drop 2 name) rows) (b ∷ bs) ≡ at rows (Some (drop 2 name, (b ∷ bs) ∷ [])))
    × (turn_passes top [] (waits_at (drop 2 name) rows) (b ∷ bs) ≡ true)

-- a word that doesn't begin with a hyphen is neither `--` nor an option
strip_none : (b : ℕ) (bs : Text) → (b == 45) ≡ false → strip_byte 45 (b ∷ bs) ≡ None
strip_none b bs e = ap (λ (t : Bool). if t then Some bs else None) e

no_long : (b : ℕ) (bs : Text) → (b == 45) ≡ false → long_of (b ∷ bs) ≡ None
no_long b bs e = ap (λ o. option_and_then long_of_rest (option_and_then (strip_byte 45) o)) (strip_none b bs e)

no_short : (b : ℕ) (bs : Text) → (b == 45) ≡ false → short_of (b ∷ bs) ≡ None
no_short b bs e = ap (λ o. option_and_then short_of_rest o) (strip_none b bs e)

no_dashes : (b : ℕ) (bs : Text) → (b == 45) ≡ false → bytes_eq (b ∷ bs) (45 ∷ 45 ∷ []) ≡ false
no_dashes b bs e = ap (λ (t : Bool). t && bytes_eq bs (45 ∷ [])) e

plain_met : (id : Text) (b : ℕ) (bs : Text) (h : Held) → (b == 45) ≡ false
    → subcommand_or_other rules None (option id) 1 (b ∷ bs) h ≡ plain_word rules (option id) (b ∷ bs) h
plain_met id b bs h e =
    ap₂ (λ (t : Bool) (o : Option (Text × Option Text)). if t then (h, trailing 1) else long_or_other rules (option id) (b ∷ bs) o h)
    (no_dashes b bs e) (no_long b bs e)
    ∙ ap (λ (o : Option Text). short_or_plain rules (option id) (b ∷ bs) o h) (no_short b bs e)

plain_passes : (b : ℕ) (bs : Text) (h : Held) → (b == 45) ≡ false → other_passes top None (b ∷ bs) h ≡ true
plain_passes b bs h e =
    ap₂ (λ (t : Bool) (o : Option (Text × Option Text)). t || flag_word_passes rules false o (b ∷ bs) h) (no_dashes b bs e) (no_long b bs e)
    ∙ ap (λ (o : Option Text). option_map_or (λ flags. bundle_passes rules false flags h) o true) (no_short b bs e)

valued_at : (id : Text) (rows : List Row) (b : ℕ) (bs : Text) → (b == 45) ≡ false
    → (walked rules [] (waits_at id rows) (b ∷ bs)
    ≡ after_step rules (b ∷ bs) (waits_at id rows) (plain_word rules (option id) (b ∷ bs) (waits_at id rows).held).0
    (plain_word rules (option id) (b ∷ bs) (waits_at id rows).held).1)
    × (turn_passes top [] (waits_at id rows) (b ∷ bs)
    ≡ step_passes top 1 (plain_word rules (option id) (b ∷ bs) (waits_at id rows).held).0
    (plain_word rules (option id) (b ∷ bs) (waits_at id rows).held).1)
unfolding walked
valued_at id rows b bs e = (
  ap (λ (met : Held × Step). after_step rules (b ∷ bs) (waits_at id rows) met.0 met.1) (plain_met id b bs (waits_at id rows).held e),
  ap₂ (λ (passes : Bool) (met : Held × Step). passes && step_passes top 1 met.0 met.1)
      (plain_passes b bs (waits_at id rows).held e) (plain_met id b bs (waits_at id rows).held e),
)

valued : (name : Text) → is_option name ≡ true → Valued name
valued = by_name Valued (λ rows b bs e. valued_at (codes "disk") rows b bs e) (λ rows b bs e. valued_at (codes "backups") rows b bs e)
    (λ rows b bs e. valued_at (codes "db") rows b bs e)

-- ---- rows

-- each has the name of an option
abbrev AllNamed : List Pair → Type 0
AllNamed os = list_all (λ o. is_option o.0) os ≡ true

head_named : (o : Pair) (os : List Pair) → AllNamed (o ∷ os) → (is_option o.0 ≡ true) × AllNamed os
head_named o os e = and_parts (is_option o.0) _ e

named_to : (done : List Pair) (o : Pair) → AllNamed done → is_option o.0 ≡ true → AllNamed (done ++ o ∷ [])
named_to done o names is = list_all-append (λ (p : Pair). is_option p.0) done (o ∷ []) ∙ rw (names, is) refl

abbrev SameNames : Text → Text → Type 0
SameNames a b = bytes_eq (drop 2 a) (drop 2 b) ≡ bytes_eq a b

same_names : (a b : Text) → is_option a ≡ true → is_option b ≡ true → SameNames a b
same_names a b x y =
    by_name (λ a. SameNames a b)
    (by_name (SameNames (codes "--disk")) refl refl refl b y)
    (by_name (SameNames (codes "--backups")) refl refl refl b y)
    (by_name (SameNames (codes "--db")) refl refl refl b y) a x

has_row_named : (os : List Pair) (name : Text) → AllNamed os → is_option name ≡ true
    → has_row (drop 2 name) (map pair_row os) ≡ is_given name os
unfolding is_given
has_row_named [] name all is = refl
has_row_named (o ∷ os) name all is =
    let parts = head_named o os all in
    ap₂ (λ a b. a || b) (same_names o.0 name parts.0 is) (has_row_named os name parts.1 is)

first_named : (os : List Pair) (name : Text) → AllNamed os → is_option name ≡ true
    → first_of (drop 2 name) (map pair_row os) ≡ value_in name os
unfolding value_in
first_named [] name all is = refl
first_named (o ∷ os) name all is =
    let parts = head_named o os all in
    rw (same_names o.0 name parts.0 is) (go (bytes_eq o.0 name) (first_named os name parts.1 is))
  where
    go : (b : Bool) → first_of (drop 2 name) (map pair_row os) ≡ option_map (λ o. o.1) (find (λ o. bytes_eq o.0 name) os)
        → option_and_then (λ r. slice_get r.values 0)
        (cond b (Some (pair_row o)) (find (λ r. bytes_eq r.id (drop 2 name)) (map pair_row os)))
        ≡ option_map (λ o. o.1) (cond b (Some o) (find (λ o. bytes_eq o.0 name) os))
    go true e = refl
    go false e = e

-- ---- one row more

without_none : (id : Text) (rows : List Row) → has_row id rows ≡ false → without id rows ≡ rows
without_none id [] none = refl
without_none id (r ∷ rows) none = go (bytes_eq r.id id) none (λ x. without_none id rows x)
  where
    go : (b : Bool) → (b || has_row id rows) ≡ false → (has_row id rows ≡ false → without id rows ≡ rows)
        → cond b ([] ++ rows) (r ∷ without id rows) ≡ r ∷ rows
    go true x more = absurd (true≢false x)
    go false x more = ap (λ rs. r ∷ rs) (more x)

at_row_end : (id : Text) (change : Row → List Row) (missing rows : List Row) → has_row id rows ≡ false
    → at_row id change missing rows ≡ rows ++ missing
at_row_end id change missing [] none = refl
at_row_end id change missing (r ∷ rows) none = go (bytes_eq r.id id) none (λ x. at_row_end id change missing rows x)
  where
    go : (b : Bool) → (b || has_row id rows) ≡ false → (has_row id rows ≡ false → at_row id change missing rows ≡ rows ++ missing)
        → cond b (change r ++ rows) (r ∷ at_row id change missing rows) ≡ r ∷ (rows ++ missing)
    go true x more = absurd (true≢false x)
    go false x more = ap (λ rs. r ∷ rs) (more x)

-- a use of an option that has no row adds its row, and passes
abbrev Used : Text → Type 0
Used name = (rows : List Row) (value : Text) → has_row (drop 2 name) rows ≡ false
    → (settled_rows rules (Some (drop 2 name, value ∷ [])) rows ≡ rows ++ row (drop 2 name) value ∷ [])
    × (settle_passes rules false (at rows (Some (drop 2 name, value ∷ []))).held ≡ true)

added : (id : Text) (rows : List Row) (value : Text) → has_row id rows ≡ false
    → with_values id (reading_of vp.String) CommandLine (value ∷ []) (without id rows) ≡ rows ++ row id value ∷ []
added id rows value none = ap (with_values id (reading_of vp.String) CommandLine (value ∷ [])) (without_none id rows none)
    ∙ at_row_end id (more_values CommandLine (value ∷ [])) (row id value ∷ []) rows none

uses : (name : Text) → is_option name ≡ true → Used name
uses = by_name Used
    (λ rows value none. (added (codes "disk") rows value none, rw none refl))
    (λ rows value none. (added (codes "backups") rows value none, rw none refl))
    (λ rows value none. (added (codes "db") rows value none, rw none refl))

-- ---- all options

or_false : (a b : Bool) → (a || b) ≡ false → a ≡ false
or_false true b e = e
or_false false b e = refl

or_rest : (a b : Bool) → (a || b) ≡ false → b ≡ false
or_rest true b e = absurd (true≢false e)
or_rest false b e = e

bytes_eq_sym : (xs ys : List ℕ) → bytes_eq xs ys ≡ bytes_eq ys xs
bytes_eq_sym xs ys = go (bytes_eq xs ys) (bytes_eq ys xs) (bytes_eq-Decides xs ys) (bytes_eq-Decides ys xs)
  where
    go : (a b : Bool) → Decides a (xs ≡ ys) → Decides b (ys ≡ xs) → a ≡ b
    go true b d e = sym (e.1 (sym (d.0 refl)))
    go false true d e = d.1 (sym (e.0 refl))
    go false false d e = refl

not_true : (b : Bool) → not b ≡ true → b ≡ false
not_true true e = sym e
not_true false e = refl

-- in the midst of options that are right, the next one isn't given before, and is right
next_is_new : (done : List Pair) (o : Pair) (more : List Pair) → are_right (done ++ o ∷ more) ≡ true → is_given o.0 done ≡ false
unfolding are_right is_given
next_is_new [] o more e = refl
next_is_new (d ∷ done) o more e =
    let parts = and_parts (is_right d) _ e in
    let rest = and_parts (not (is_given d.0 (done ++ o ∷ more))) _ parts.1 in
    let other : bytes_eq o.0 d.0 ≡ false = last_of done (not_true _ rest.0) in
    rw (bytes_eq_sym d.0 o.0, other) (next_is_new done o more rest.1)
  where
    last_of : (done : List Pair) → is_given d.0 (done ++ o ∷ more) ≡ false → bytes_eq o.0 d.0 ≡ false
    last_of [] x = or_false (bytes_eq o.0 d.0) _ x
    last_of (p ∷ done) x = last_of done (or_rest (bytes_eq p.0 d.0) _ x)

next_is_right : (done : List Pair) (o : Pair) (more : List Pair) → are_right (done ++ o ∷ more) ≡ true → is_right o ≡ true
unfolding are_right
next_is_right [] o more e = (and_parts (is_right o) _ e).0
next_is_right (d ∷ done) o more e =
    let parts = and_parts (is_right d) _ e in
    let rest = and_parts (not (is_given d.0 (done ++ o ∷ more))) _ parts.1 in
    next_is_right done o more rest.1

right_value : (o : Pair) → is_right o ≡ true → is_value o.1 ≡ true
unfolding is_right
right_value o e = (and_parts (is_value o.1) _ e).0

-- where a walk over options stands at their end
record Ends (os : List Pair) (w : Walk) (words : List Text) : Type 0 where
  pub rows : List Row
  pub pending : Option (Text × List Text)
  pub ends : fold (walked rules []) w words ≡ at rows pending
  pub settled : settled_rows rules pending rows ≡ map pair_row os
  pub used : settle_passes rules false (at rows pending).held ≡ true
  pub passes : walk_passes top [] w words ≡ true

then_ends : (os end : List Pair) (w v : Walk) (words more : List Text)
    → fold (walked rules []) w words ≡ fold (walked rules []) v more → os ≡ end
    → walk_passes top [] w words ≡ true → Ends os v more → Ends end w words
then_ends os end w v words more same is passes rest = record {
  rows = rest.rows;
  pending = rest.pending;
  ends = same ∙ rest.ends;
  settled = rest.settled ∙ ap (map pair_row) is;
  used = rest.used;
  passes = passes;
}

-- an option and its value: what was pending is used, and the option has its value
abbrev pair_at : Text → List Row → Text → Walk
pair_at name rows value = at rows (Some (drop 2 name, value ∷ []))

two_steps : (name : Text) (b : ℕ) (bs : Text) (rows : List Row) (p : Option (Text × List Text)) → is_option name ≡ true → (b == 45) ≡ false
    → walked rules [] (walked rules [] (at rows p) name) (b ∷ bs) ≡ pair_at name (settled_rows rules p rows) (b ∷ bs)
two_steps name b bs rows p is plain =
    ap (λ w. walked rules [] w (b ∷ bs)) (named name is rows p).0 ∙ (valued name is (settled_rows rules p rows) b bs plain).0

two_pass : (name : Text) (b : ℕ) (bs : Text) (rows : List Row) (p : Option (Text × List Text)) (words : List Text)
    → is_option name ≡ true → (b == 45) ≡ false
    → settle_passes rules false (at rows p).held ≡ true
    → walk_passes top [] (pair_at name (settled_rows rules p rows) (b ∷ bs)) words ≡ true
    → walk_passes top [] (at rows p) (name ∷ (b ∷ bs) ∷ words) ≡ true
unfolding walk_passes
two_pass name b bs rows p words is plain passes rest =
    let first : turn_passes top [] (at rows p) name ≡ true = (named name is rows p).1 ∙ ap (λ t. t && true) passes in
    let second : turn_passes top [] (walked rules [] (at rows p) name) (b ∷ bs) ≡ true =
    ap (λ w. turn_passes top [] w (b ∷ bs)) (named name is rows p).0 ∙ (valued name is (settled_rows rules p rows) b bs plain).1 in
    ap₂ (λ s t. s && t) first (ap₂ (λ s t. s && t) second
    (ap (λ w. walk_passes top [] w words) (two_steps name b bs rows p is plain) ∙ rest))

-- the option has no row before, and one row afterwards
row_added : (done : List Pair) (name value : Text) (before : List Row) → AllNamed done → is_option name ≡ true
    → before ≡ map pair_row done → is_given name done ≡ false
    → (settled_rows rules (Some (drop 2 name, value ∷ [])) before ≡ map pair_row (done ++ (name, value) ∷ []))
    × (settle_passes rules false (pair_at name before value).held ≡ true)
row_added done name value before names is same none =
    let new : has_row (drop 2 name) before ≡ false = ap (has_row (drop 2 name)) same ∙ has_row_named done name names is ∙ none in
    let after = uses name is before value new in
    (after.0 ∙ ap (λ rs. rs ++ pair_row (name, value) ∷ []) same ∙ sym (map-append pair_row done ((name, value) ∷ [])), after.1)

walks : (more done : List Pair) (rows : List Row) (p : Option (Text × List Text)) → AllNamed done → AllNamed more
    → are_right (done ++ more) ≡ true
    → settled_rows rules p rows ≡ map pair_row done → settle_passes rules false (at rows p).held ≡ true
    → Ends (done ++ more) (at rows p) (spelled more)
unfolding spelled walk_passes
walks [] done rows p names next right settled passes = record {
  rows = rows;
  pending = p;
  ends = refl;
  settled = settled ∙ ap (map pair_row) (sym (append-nil done));
  used = passes;
  passes = refl;
}
walks ((name, []) ∷ more) done rows p names next right settled passes =
    absurd (no_value (right_value (name, []) (next_is_right done (name, []) more right)))
walks ((name, b ∷ bs) ∷ more) done rows p names next right settled passes =
    let o : Pair = (name, b ∷ bs) in
    let parts = head_named o more next in
    let before : List Row = settled_rows rules p rows in
    let plain = no_hyphen b bs (right_value o (next_is_right done o more right)) in
    let joined = row_added done name (b ∷ bs) before names parts.0 settled (next_is_new done o more right) in
    let same : (done ++ o ∷ []) ++ more ≡ done ++ o ∷ more = append_assoc done (o ∷ []) more in
    let rest : Ends ((done ++ o ∷ []) ++ more) (pair_at name before (b ∷ bs)) (spelled more) =
    walks more (done ++ o ∷ []) before (Some (drop 2 name, (b ∷ bs) ∷ [])) (named_to done o names parts.0) parts.1
    (ap are_right same ∙ right) joined.0 joined.1 in
    let steps : fold (walked rules []) (at rows p) (name ∷ (b ∷ bs) ∷ spelled more)
    ≡ fold (walked rules []) (pair_at name before (b ∷ bs)) (spelled more) =
    ap (λ w. fold (walked rules []) w (spelled more)) (two_steps name b bs rows p parts.0 plain) in
    then_ends ((done ++ o ∷ []) ++ more) (done ++ o ∷ more) (at rows p) (pair_at name before (b ∷ bs))
    (name ∷ (b ∷ bs) ∷ spelled more) (spelled more)
    steps same (two_pass name b bs rows p (spelled more) parts.0 plain passes rest.passes) rest

-- no option has a default
abbrev filled_rule : Text → Rule
filled_rule id = with_index 1 (filled (option_rule id))

no_default : (rows : List Row) → fold with_default rows rules ≡ rows
no_default rows =
    let one = with_default rows (filled_rule (codes "disk")) in
    let two = with_default one (filled_rule (codes "backups")) in
    same (has_row (codes "db") two) two ∙ same (has_row (codes "backups") one) one ∙ same (has_row (codes "disk") rows) rows
  where
    same : (b : Bool) (rs : List Row) → cond b rs rs ≡ rs
    same true rs = refl
    same false rs = refl

from_start : (os : List Pair) → AllNamed os → are_right os ≡ true → Ends os (at [] None) (spelled os)
from_start os names right = walks os [] [] None refl names right refl refl

-- clap's rows are those of the options
rows_are : (os : List Pair) → AllNamed os → are_right os ≡ true → matches_of ldb (spelled os) ≡ map pair_row os
rows_are os names right =
    let end = from_start os names right in
    ap (λ (w : Walk). fold with_default (settled_rows rules w.held.pending w.held.rows) rules) end.ends
    ∙ no_default (settled_rows rules end.pending end.rows) ∙ end.settled

abbrev taken : Walk → Bool → Bool
taken w passes = entered_passes (built ldb) w.stopped && (passes && (settle_passes rules false w.held
    && (list_all default_passes rules && is_valid top (finished rules w.held) (is_some (entered (built ldb) w.stopped)))))

-- and clap takes their words
pub takes_them : (os : List Pair) → AllNamed os → are_right os ≡ true → takes ldb (spelled os) ≡ true
takes_them os names right =
    let end = from_start os names right in
    ap₂ taken end.ends end.passes ∙ rw end.used refl

value_given : (os : List Pair) → AllNamed os → are_right os ≡ true → (name : Text) → is_option name ≡ true
    → first_of (drop 2 name) (matches_of ldb (spelled os)) ≡ value_in name os
value_given os names right name is = ap (first_of (drop 2 name)) (rows_are os names right) ∙ first_named os name names is

pub disk_given : (os : List Pair) → AllNamed os → are_right os ≡ true
    → first_of (codes "disk") (matches_of ldb (spelled os)) ≡ value_in (codes "--disk") os
unfolding is_option
disk_given os names right = value_given os names right (codes "--disk") refl

pub backups_given : (os : List Pair) → AllNamed os → are_right os ≡ true
    → first_of (codes "backups") (matches_of ldb (spelled os)) ≡ value_in (codes "--backups") os
unfolding is_option
backups_given os names right = value_given os names right (codes "--backups") refl

pub db_given : (os : List Pair) → AllNamed os → are_right os ≡ true
    → first_of (codes "db") (matches_of ldb (spelled os)) ≡ value_in (codes "--db") os
unfolding is_option
db_given os names right = value_given os names right (codes "--db") refl
