-- Which files make a backup: files of one number are neighbours, since their paths ascend.
use Rattle.std.proofs.Common.{Ordering, Less, Equal, Greater, ◌≡◌, ℕ, ◌+◌, ◌<◌, List, [], ◌∷◌, ◌++◌, length, take, drop, get_or, Bool, true, false, refl, ap, sym, ◌∙◌, subst, arith, Option, Some, None, suc, inl, inr}
use Rattle.std.specs.Prelude.{IsTrue, ◌==◌, ◌&&◌, ◌||◌, ◌⊎◌, not, codes, is_some, IsSome}
use Rattle.std.specs.Cmp.Lexicographic.{slice_cmp}
use Rattle.std.specs.Int.{from_bool}
use Rattle.std.specs.List.{list_any, count_by, cons_option, All}
use Rattle.std.specs.Ordering.{nat_cmp, is_lt, ordering_then}
use Rattle.std.proofs.lemmas.Bool.{cases_order, or_cases, not-true, and_parts}
use Rattle.std.proofs.lemmas.Bool.Decides.{nat_tests}
use Rattle.std.proofs.lemmas.Cmp.{nat_list_cmp_total}
use Rattle.std.proofs.lemmas.List.{append_assoc, append_cancel_left, append-nil, take_more, take-append-drop, drop_more}
use Rattle.std.proofs.lemmas.List.Elements.{filter_map-append, All-head, All-tail, All-take}
use Rattle.std.proofs.lemmas.List.Folds.{list_any-append}
use Rattle.std.proofs.lemmas.List.Sums.{count_by_more_yes, count_by_more_no}
use Rattle.lsm_names.specs.declared.shared_names.SharedName.{SharedName}
use Rattle.lsm_names.specs.Numbers.{six_digits, is_file_number}
use Rattle.lsm_names.specs.SharedNames.{spelled_shared, IsSharedName}
use Rattle.lsm_names.proofs.FileNameLemmas.{six_injective}
use Rattle.lsm_names.proofs.SharedNameLemmas.{origin, shared_parts, six_have_no_underscore}
use Rattle.bk_meta.specs.declared.backup_files.BackupFile.{BackupFile}
use Rattle.bk_meta.specs.declared.backup_files.BackupFile.TheVariants.{Private, Shared}
use Rattle.bk_meta.specs.declared.metas.MetaFile.{MetaFile}
use Rattle.bk_meta.specs.BackupFiles.{file_at, path_of, shared_folder}
use Rattle.bk_meta.specs.Lines.{cut_at}
use Rattle.bk_meta.specs.Metas.{comes_before, shared_number, shared_numbers, are_different, is_current, is_manifest, is_whole, path_at, Ascends, IsMetaFile}
use Rattle.bk_meta.proofs.FileLemmas.{path_spells}
use Rattle.bk_meta.proofs.LineLemmas.{cut_whole}

-- ---- the order of bytes

less_is : (o : Ordering) → is_lt o ≡ true → o ≡ Less
less_is Less h = refl
less_is Equal h = absurd (cc)
less_is Greater h = absurd (cc)

pub before_trans : (a b c : List ℕ) → comes_before a b ≡ true → comes_before b c ≡ true → comes_before a c ≡ true
before_trans a b c p q = ap is_lt (nat_list_cmp_total.trans a b c (less_is (slice_cmp nat_cmp a b) p) (less_is (slice_cmp nat_cmp b c) q))

-- a byte between a byte and itself is that byte
same_head : (b d : ℕ) (r s : Ordering) → is_lt (ordering_then (nat_cmp b d) r) ≡ true → is_lt (ordering_then (nat_cmp d b) s) ≡ true → (b ≡ d) × (is_lt r ≡ true) × (is_lt s ≡ true)
same_head b d r s p q =
    elim (cases_order b d) [
      | inl same ↦
          let this : nat_cmp b d ≡ Equal = grind (arith, nat_tests) in
          let that : nat_cmp d b ≡ Equal = grind (arith, nat_tests) in
          (same, ap (λ (o : Ordering). is_lt (ordering_then o r)) (sym this) ∙ p, ap (λ (o : Ordering). is_lt (ordering_then o s)) (sym that) ∙ q)
      | inr (inl below) ↦
          let that : nat_cmp d b ≡ Greater = grind (arith, nat_tests) in
          let no_one : false ≡ true = ap (λ (o : Ordering). is_lt (ordering_then o s)) (sym that) ∙ q in
          absurd (cc)
      | inr (inr above) ↦
          let this : nat_cmp b d ≡ Greater = grind (arith, nat_tests) in
          let no_one : false ≡ true = ap (λ (o : Ordering). is_lt (ordering_then o r)) (sym this) ∙ p in
          absurd (cc)
    ]

-- what stands between two texts that begin alike begins so too
pub between : (front x y c : List ℕ) → comes_before (front ++ x) c ≡ true → comes_before c (front ++ y) ≡ true → (z : List ℕ) × c ≡ front ++ z
between [] x y c p q = (c, refl)
between (b ∷ front) x y [] p q = absurd (cc)
between (b ∷ front) x y (d ∷ c) p q =
    let heads = same_head b d (slice_cmp nat_cmp (front ++ x) c) (slice_cmp nat_cmp c (front ++ y)) p q in
    let rest = between front x y c heads.1 heads.2 in
    (rest.0, λ i. sym heads.0 i ∷ rest.1 i)

-- ---- the paths of a list

pub ascends_tail : (file : MetaFile) (files : List MetaFile) → Ascends (file ∷ files) → Ascends files
ascends_tail file files ascending index within =
    let next : index + 1 ≡ suc index = omega arith in
    let after : index + 1 + 1 ≡ suc (index + 1) = omega arith in
    let step = ascending (index + 1) (omega arith) in
    subst (λ (k : ℕ). IsTrue (comes_before (path_at (file ∷ files) k) (path_at files (index + 1)))) next
    (subst (λ (k : ℕ). IsTrue (comes_before (path_at (file ∷ files) (index + 1)) (path_at (file ∷ files) k))) after step)

first_two : (a b : MetaFile) (files : List MetaFile) → Ascends (a ∷ b ∷ files) → comes_before a.path b.path ≡ true
first_two a b files ascending = ascending 0 (omega arith)

-- the first path comes before each that follows
pub reaches : (a : MetaFile) (files more : List MetaFile) (file : MetaFile) → Ascends (a ∷ (files ++ file ∷ more)) → comes_before a.path file.path ≡ true
reaches a [] more file ascending = first_two a file more ascending
reaches a (b ∷ files) more file ascending =
    before_trans a.path b.path file.path (first_two a b (files ++ file ∷ more) ascending)
    (reaches b files more file (ascends_tail a (b ∷ (files ++ file ∷ more)) ascending))

-- ---- shared files of one number

abbrev pub number_of : ℕ → MetaFile → Option ℕ
number_of id file = shared_number (file_at id file.path)

-- how the paths of all shared files of a number begin
abbrev number_folder : ℕ → List ℕ
number_folder number = shared_folder ++ (six_digits number ++ codes "_")

is_shared : (id : ℕ) (path : List ℕ) (named : Option BackupFile) (number : ℕ) → file_at id path ≡ named → shared_number named ≡ Some number → (name : SharedName) × IsSharedName name × (name.number ≡ number) × (path ≡ shared_folder ++ spelled_shared name)
unfolding path_of
is_shared id path None number at h = absurd (cc)
is_shared id path (Some (Private name)) number at h = absurd (cc)
is_shared id path (Some (Shared name)) number at h =
    let said = path_spells id path (Shared name) at in
    let same : name.number ≡ number = cc in
    (name, said.0, same, said.1)

begins_so : (id : ℕ) (path : List ℕ) (number : ℕ) → shared_number (file_at id path) ≡ Some number → (z : List ℕ) × path ≡ number_folder number ++ z
begins_so id path number h =
    let it = is_shared id path (file_at id path) number refl h in
    let tail = origin it.0.session it.0.size in
    let spelled : spelled_shared it.0 ≡ (six_digits number ++ codes "_") ++ tail = shared_parts it.0 ∙ ap (λ (n : ℕ). six_digits n ++ 95 ∷ tail) it.2 ∙ sym (append_assoc (six_digits number) (codes "_") tail) in
    (tail, it.3 ∙ ap (λ (t : List ℕ). shared_folder ++ t) spelled)

named_so : (id : ℕ) (path z : List ℕ) (number : ℕ) (named : Option BackupFile) → IsTrue (is_file_number number) → file_at id path ≡ named → is_some named ≡ true → path ≡ number_folder number ++ z → shared_number named ≡ Some number
unfolding path_of
named_so id path z number None known at some begins = absurd (cc)
named_so id path z number (Some (Private name)) known at some begins =
    let said = path_spells id path (Private name) at in
    let apart : 112 ≡ 115 = ap head_of (sym said.1 ∙ begins) in
    absurd (omega (arith, apart)) where
      head_of : List ℕ → ℕ
      head_of [] = 0
      head_of (b ∷ bs) = b
named_so id path z number (Some (Shared name)) known at some begins =
    let said = path_spells id path (Shared name) at in
    let tail = origin name.session name.size in
    let front : shared_folder ++ (six_digits name.number ++ 95 ∷ tail) ≡ shared_folder ++ (six_digits number ++ 95 ∷ z) =
    ap (λ (t : List ℕ). shared_folder ++ t) (sym (shared_parts name)) ∙ sym said.1 ∙ begins ∙ ap (λ (t : List ℕ). shared_folder ++ t) (append_assoc (six_digits number) (codes "_") z) in
    let inner = append_cancel_left shared_folder (six_digits name.number ++ 95 ∷ tail) (six_digits number ++ 95 ∷ z) front in
    let cut = sym (cut_whole 95 (six_digits name.number) tail (six_have_no_underscore name.number said.0.number)) ∙ ap (cut_at 95) inner ∙ cut_whole 95 (six_digits number) z (six_have_no_underscore number known) in
    let same : ◌≡◌ {A = List ℕ × List ℕ} (six_digits name.number, tail) (six_digits number, z) = cc in
    ap (λ (n : ℕ). Some n) (six_injective name.number number said.0.number known (λ i. (same i).0))

-- the next file after one of a number has it too, where one of that number follows
neighbour : (id number : ℕ) (a b c : MetaFile) → number_of id a ≡ Some number → number_of id c ≡ Some number → comes_before a.path b.path ≡ true → comes_before b.path c.path ≡ true → IsMetaFile id b → number_of id b ≡ Some number
neighbour id number a b c p q left right named =
    let first = begins_so id a.path number p in
    let last = begins_so id c.path number q in
    let middle = between (number_folder number) first.0 last.0 b.path (subst (λ (t : List ℕ). comes_before t b.path ≡ true) first.1 left) (subst (λ (t : List ℕ). comes_before b.path t ≡ true) last.1 right) in
    let it = is_shared id a.path (file_at id a.path) number refl p in
    named_so id b.path middle.0 number (file_at id b.path) (subst (λ (n : ℕ). IsTrue (is_file_number n)) it.2 it.1.number) refl named.named middle.1

-- the number of the last file
abbrev pub last_number : ℕ → List MetaFile → Option ℕ
last_number id [] = None
last_number id (file ∷ []) = number_of id file
last_number id (file ∷ next ∷ files) = last_number id (next ∷ files)

pub last_number_push : (id : ℕ) (files : List MetaFile) (file : MetaFile) → last_number id (files ++ file ∷ []) ≡ number_of id file
last_number_push id [] file = refl
last_number_push id (a ∷ []) file = refl
last_number_push id (a ∷ b ∷ files) file = last_number_push id (b ∷ files) file

abbrev has : ℕ → List ℕ → Bool
has number numbers = list_any (λ other. other == number) numbers

hit : (first : Option ℕ) (number : ℕ) (numbers : List ℕ) → has number (cons_option first numbers) ≡ true → (first ≡ Some number) ⊎ (has number numbers ≡ true)
hit None number numbers h = inr h
hit (Some other) number numbers h =
    elim (or_cases (other == number) (has number numbers) h) [
      | inl same ↦ let equal : other ≡ number = grind (arith, nat_tests) in inl (ap (λ (n : ℕ). Some n) equal)
      | inr rest ↦ inr rest
    ]

pub hits : (first : Option ℕ) (number : ℕ) (numbers : List ℕ) → first ≡ Some number → has number (cons_option first numbers) ≡ true
hits None number numbers h = absurd (cc)
hits (Some other) number numbers h =
    let equal : other ≡ number = cc in
    let same : other == number ≡ true = grind (arith, nat_tests) in
    rw same

-- a number that came before is the last one
pub came_last : (id number : ℕ) (files more : List MetaFile) (file : MetaFile) → number_of id file ≡ Some number → Ascends (files ++ file ∷ more) → All (IsMetaFile id) files → has number (shared_numbers id files) ≡ true → last_number id files ≡ Some number
came_last id number [] more file q ascending named h = absurd (cc)
came_last id number (a ∷ []) more file q ascending named h =
    elim (hit (number_of id a) number [] h) [
      | inl this ↦ this
      | inr none ↦ absurd (cc)
    ]
came_last id number (a ∷ b ∷ files) more file q ascending named h =
    let tail = ascends_tail a (b ∷ (files ++ file ∷ more)) ascending in
    let rest = All-tail (IsMetaFile id) a (b ∷ files) named in
    came_last id number (b ∷ files) more file q tail rest
    (elim (hit (number_of id a) number (shared_numbers id (b ∷ files)) h) [
      | inl this ↦
          hits (number_of id b) number (shared_numbers id files)
          (neighbour id number a b file this q (first_two a b (files ++ file ∷ more) ascending) (reaches b files more file tail) (All-head (IsMetaFile id) b files rest))
      | inr later ↦ later
    ])

-- ---- numbers that differ

neither : (a b : Bool) → (a || b) ≡ false → (a ≡ false) × (b ≡ false)
neither true b h = absurd (cc)
neither false b h = (refl, h)

pushed : (a b c d : Bool) → a ≡ false → b ≡ false → c ≡ true → d ≡ (a || (b || false)) → (not d && c) ≡ true
pushed a b c d p q r s = rw (s, p, q, r)

pub different_push : (numbers : List ℕ) (number : ℕ) → are_different numbers ≡ true → has number numbers ≡ false → are_different (numbers ++ number ∷ []) ≡ true
different_push [] number p q = refl
different_push (n ∷ numbers) number p q =
    let old = and_parts (not (has n numbers)) (are_different numbers) p in
    let new = neither (n == number) (has number numbers) q in
    let apart : has n numbers ≡ false = not-true (has n numbers) old.0 in
    let other : number == n ≡ false = grind (arith, nat_tests, new.0) in
    pushed (has n numbers) (number == n) (are_different (numbers ++ number ∷ [])) (has n (numbers ++ number ∷ [])) apart other (different_push numbers number old.1 new.1)
    (list_any-append (λ o. o == n) numbers (number ∷ []))

twice : (a b c d e : Bool) → b ≡ true → d ≡ (a || (b || e)) → (not d && c) ≡ false
twice true b c d e p q = rw q
twice false b c d e p q = rw (q, p)

second_fails : (a b : Bool) → b ≡ false → (a && b) ≡ false
second_fails true b q = q
second_fails false b q = refl

pub different_twice : (numbers more : List ℕ) (number : ℕ) → has number numbers ≡ true → are_different (numbers ++ number ∷ more) ≡ false
different_twice [] more number h = absurd (cc)
different_twice (n ∷ numbers) more number h =
    elim (or_cases (n == number) (has number numbers) h) [
      | inl same ↦
          let equal : number == n ≡ true = grind (arith, nat_tests) in
          twice (has n numbers) (number == n) (are_different (numbers ++ number ∷ more)) (has n (numbers ++ number ∷ more)) (has n more) equal (list_any-append (λ o. o == n) numbers (number ∷ more))
      | inr later ↦ second_fails (not (has n (numbers ++ number ∷ more))) (are_different (numbers ++ number ∷ more)) (different_twice numbers more number later)
    ]

-- ---- a loop's step

pub one_counted : {X : Type 0} (test : X → Bool) (files : List X) (index : ℕ) (file : X) (is : Bool) → index < length files → get_or files index file ≡ file → test file ≡ is → count_by test (take (index + 1) files) ≡ count_by test (take index files) + from_bool is
one_counted test files index file true within at h = count_by_more_yes test files index file within (ap test at ∙ h)
one_counted test files index file false within at h = count_by_more_no test files index file within (ap test at ∙ h) ∙ omega arith

pub numbers_push : (id : ℕ) (files : List MetaFile) (index : ℕ) (file : MetaFile) → index < length files → get_or files index file ≡ file → shared_numbers id (take (index + 1) files) ≡ shared_numbers id (take index files) ++ cons_option (number_of id file) []
numbers_push id files index file within at =
    ap (shared_numbers id) (take_more files index file within ∙ ap (λ (f : MetaFile). take index files ++ f ∷ []) at)
    ∙ filter_map-append (number_of id) (take index files) (file ∷ [])

pub cut_files : (files : List MetaFile) (index : ℕ) (file : MetaFile) → index < length files → get_or files index file ≡ file → files ≡ take index files ++ file ∷ drop (index + 1) files
cut_files files index file within at =
    sym (take-append-drop index files) ∙ ap (λ (rest : List MetaFile). take index files ++ rest) (drop_more files index file within ∙ ap (λ (f : MetaFile). f ∷ drop (index + 1) files) at)

different_step : (id : ℕ) (numbers : List ℕ) (first : Option ℕ) → are_different numbers ≡ true → ((number : ℕ) → first ≡ Some number → has number numbers ≡ false) → are_different (numbers ++ cons_option first []) ≡ true
different_step id numbers None p q = ap are_different (append-nil numbers) ∙ p
different_step id numbers (Some number) p q = different_push numbers number p (q number refl)

-- a file whose number isn't the last one has a new number
pub different_more : (id : ℕ) (files : List MetaFile) (index : ℕ) (file : MetaFile) → index < length files → get_or files index file ≡ file → Ascends files → All (IsMetaFile id) files → are_different (shared_numbers id (take index files)) ≡ true →
    ((number : ℕ) → last_number id (take index files) ≡ number_of id file → number_of id file ≡ Some number → ⊥) → are_different (shared_numbers id (take (index + 1) files)) ≡ true
different_more id files index file within at ascending named different apart =
    ap are_different (numbers_push id files index file within at)
    ∙ different_step id (shared_numbers id (take index files)) (number_of id file) different
    (λ number is. by_difference (has number (shared_numbers id (take index files)))
    (λ there. apart number
    (came_last id number (take index files) (drop (index + 1) files) file is (subst Ascends (cut_files files index file within at) ascending) (All-take (IsMetaFile id) index files named) there ∙ sym is) is)) where
      by_difference : (is : Bool) → (is ≡ true → ⊥) → is ≡ false
      by_difference true no_one = absurd (no_one refl)
      by_difference false no_one = refl

-- the number of the last file stands among those before
last_is_there : (id number : ℕ) (files : List MetaFile) → last_number id files ≡ Some number → has number (shared_numbers id files) ≡ true
last_is_there id number [] h = absurd (cc)
last_is_there id number (a ∷ []) h = hits (number_of id a) number [] h
last_is_there id number (a ∷ b ∷ files) h = later (number_of id a) (last_is_there id number (b ∷ files) h) where
  or_true : (a b : Bool) → b ≡ true → (a || b) ≡ true
  or_true true b h = refl
  or_true false b h = h

  later : (first : Option ℕ) → has number (shared_numbers id (b ∷ files)) ≡ true → has number (cons_option first (shared_numbers id (b ∷ files))) ≡ true
  later None there = there
  later (Some other) there = or_true (other == number) (has number (shared_numbers id (b ∷ files))) there

pub stands_twice : (id number : ℕ) (files : List MetaFile) (index : ℕ) (file : MetaFile) → index < length files → get_or files index file ≡ file → last_number id (take index files) ≡ Some number → number_of id file ≡ Some number → are_different (shared_numbers id files) ≡ false
stands_twice id number files index file within at last this =
    ap are_different
    (ap (shared_numbers id) (cut_files files index file within at)
    ∙ filter_map-append (number_of id) (take index files) (file ∷ drop (index + 1) files)
    ∙ ap (λ (first : Option ℕ). shared_numbers id (take index files) ++ cons_option first (shared_numbers id (drop (index + 1) files))) this)
    ∙ different_twice (shared_numbers id (take index files)) (shared_numbers id (drop (index + 1) files)) number (last_is_there id number (take index files) last)

-- ---- what the code answers

pub whole_twice : (id : ℕ) (files : List MetaFile) → are_different (shared_numbers id files) ≡ false → false ≡ is_whole id files
unfolding is_whole
whole_twice id files twice =
    sym (second_fails (count_by (λ file. is_current (file_at id file.path)) files == 1 && count_by (λ file. is_manifest (file_at id file.path)) files == 1) (are_different (shared_numbers id files)) twice)

three : (a b c : Bool) → c ≡ true → (a && b) ≡ ((a && b) && c)
three true b true h = and_true b where
  and_true : (b : Bool) → b ≡ (b && true)
  and_true true = refl
  and_true false = refl
three true b false h = absurd (cc)
three false b c h = refl

pub whole_by_counts : (id currents manifests : ℕ) (files : List MetaFile) → currents ≡ count_by (λ file. is_current (file_at id file.path)) files → manifests ≡ count_by (λ file. is_manifest (file_at id file.path)) files →
    are_different (shared_numbers id files) ≡ true → (currents == 1 && manifests == 1) ≡ is_whole id files
unfolding is_whole
whole_by_counts id currents manifests files p q different =
    ap (λ (n : ℕ). n == 1 && manifests == 1) p
    ∙ ap (λ (n : ℕ). count_by (λ file. is_current (file_at id file.path)) files == 1 && n == 1) q
    ∙ three (count_by (λ file. is_current (file_at id file.path)) files == 1) (count_by (λ file. is_manifest (file_at id file.path)) files == 1) (are_different (shared_numbers id files)) different

pub some_number : (o : Option ℕ) → IsSome o → (number : ℕ) × o ≡ Some number
some_number None h = absurd (cc)
some_number (Some number) h = (number, refl)

pub last_number_next : (id : ℕ) (files : List MetaFile) (index : ℕ) (file : MetaFile) → index < length files → get_or files index file ≡ file → last_number id (take (index + 1) files) ≡ number_of id file
last_number_next id files index file within at =
    ap (last_number id) (take_more files index file within ∙ ap (λ (f : MetaFile). take index files ++ f ∷ []) at) ∙ last_number_push id (take index files) file
