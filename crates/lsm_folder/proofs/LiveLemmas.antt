-- The logs from a number on, by look-ups and in their order.
use Rattle.std.specs.Prelude.{◌≡◌, ℕ, ◌≤◌, Bool, true, false, cond, ◌&&◌, nat_le, List, [], ◌∷◌, map, Contains, T, Option, Some, None, option_map}
use Rattle.std.proofs.Common.{refl, sym, ap, subst, ◌∙◌, arith}
use Rattle.std.proofs.lemmas.Bool.Decides.{nat_tests}
use Rattle.std.proofs.lemmas.List.Elements.{Contains-append_right}
use Rattle.std.specs.List.{filter_map, cons_option}
use Rattle.std.specs.Ordering.{nat_cmp, eq_by_cmp, is_eq, is_lt}
use Rattle.std.specs.Cmp.{IsTotalOrder, nat_cmp_total}
use Rattle.std.specs.declared.cmp.Ordering.{Ordering}
use Rattle.std.specs.declared.cmp.Ordering.TheVariants.{Less, Equal, Greater}
use Rattle.std.specs.FinMap as finmap
use Rattle.std.specs.FinMap.Entries.{below_all, is_sorted}
use Rattle.lsm_names.specs.declared.file_names.FileName.{FileName}
use Rattle.lsm_names.specs.declared.file_names.FileName.TheVariants.{Log, Table, Manifest, Temp, Current}
use Rattle.lsm_folder.specs.Names.{name_cmp}
use Rattle.lsm_folder.specs.Files.{Item, A_file, A_folder, Files, bytes_in, file_at}
use Rattle.lsm_folder.specs.Logs.{LogText, log_of, live_log, live_logs, said, logs_of}
use Rattle.lsm_rows.proofs.PairEntries.{both}

-- ---- sorted entries

pub all_below : (a b : Bool) → T (a && b) → T a × T b
all_below true b h = (tt, h)
all_below false b h = absurd h

pub less : (o : Ordering) → T (is_lt o) → o ≡ Less
less Less h = refl
less Equal h = absurd h
less Greater h = absurd h

module _ {K X : Type 0} (R : K → K → Ordering) where
  pub none_below : (q : K) (es : List (K × X)) → T (below_all R q es) → finmap.find R q es ≡ None
  none_below q [] h = refl
  none_below q (e ∷ es) h =
      let parts = all_below (is_lt (R q e.0)) (below_all R q es) h in
      ap (λ (o : Ordering). cond (is_eq o) (Some e.1) (finmap.find R q es)) (less (R q e.0) parts.0) ∙ none_below q es parts.1

  pub same_entries : IsTotalOrder R → (es : List (K × X)) → T (is_sorted R es) → finmap.IsAntisymmetric R
      → finmap.entries (finmap.from_entries {R = R} es) ≡ es
  same_entries total es sorted exact =
      ap finmap.entries (finmap.same_map total exact (finmap.from_entries {R = R} es) (finmap.from_sorted es) (λ q. finmap.get-from_entries total es q ∙ sym (finmap.get-from_sorted R es q sorted)))
      ∙ finmap.entries-from_sorted R es sorted

-- ---- one log

-- what the log of this number says, by what stands under its name
unfoldable pub live_text : ℕ → ℕ → Option Item → Option LogText
live_text least number item = cond (nat_le least number) (option_map log_of (bytes_in item)) None

abbrev pub logs_among : ℕ → List (FileName × Item) → List (ℕ × LogText)
logs_among least es = map said (filter_map (live_log least) es)

pub equal_number : (m n : ℕ) → eq_by_cmp nat_cmp m n ≡ true → m ≡ n
equal_number m n h = grind (arith, nat_tests)

module _ (least number : ℕ) where
  abbrev look : List (ℕ × LogText) → Option LogText
  look logs = finmap.find nat_cmp number logs

  abbrev text_by : Option Item → Option LogText
  text_by item = live_text least number item

  no_text : text_by None ≡ None
  unfolding live_text
  no_text = elim (nat_le least number) as (λ b. cond {A = Option LogText} b None None ≡ None) [ true ↦ refl | false ↦ refl ]

  module _ (es : List (FileName × Item))
      (rest : look (logs_among least es) ≡ text_by (finmap.find name_cmp (Log number) es)) where
    -- a name that isn't the log's
    passed : (b : Bool) (item : Item) → b ≡ false
        → look (logs_among least es) ≡ text_by (cond b (Some item) (finmap.find name_cmp (Log number) es))
    passed b item is = rest ∙ sym (ap (λ (t : Bool). text_by (cond t (Some item) (finmap.find name_cmp (Log number) es))) is)

    module _ (m : ℕ) (below : T (below_all name_cmp (Log m) es)) where
      -- behind the log's own name there is no other
      alone : eq_by_cmp nat_cmp number m ≡ true → look (logs_among least es) ≡ None
      alone same =
          rest
          ∙ ap text_by
          (ap (λ (n : ℕ). finmap.find name_cmp (Log n) es) (equal_number number m same) ∙ none_below name_cmp (Log m) es below)
          ∙ no_text

      hidden : (b : Bool) (item : Item) → eq_by_cmp nat_cmp number m ≡ b → text_by (Some item) ≡ None
          → look (logs_among least es) ≡ text_by (cond b (Some item) (finmap.find name_cmp (Log number) es))
      hidden true item is none = alone is ∙ sym none
      hidden false item is none = rest

      folder_text : text_by (Some A_folder) ≡ None
      unfolding live_text
      folder_text =
          elim (nat_le least number) as (λ b. cond {A = Option LogText} b None None ≡ None) [ true ↦ refl | false ↦ refl ]

      low_text : (bytes : List ℕ) → nat_le least number ≡ false → text_by (Some (A_file bytes)) ≡ None
      unfolding live_text
      low_text bytes is = ap (λ (b : Bool). cond b (Some (log_of bytes)) None) is

      live_is : (bytes : List ℕ) → nat_le least number ≡ true → text_by (Some (A_file bytes)) ≡ Some (log_of bytes)
      unfolding live_text
      live_is bytes is = ap (λ (b : Bool). cond b (Some (log_of bytes)) None) is

      same_side : (t b : Bool) → nat_le least m ≡ t → eq_by_cmp nat_cmp number m ≡ b → b ≡ true → nat_le least number ≡ t
      same_side t b is same here = ap (nat_le least) (equal_number number m (same ∙ here)) ∙ is

      file_here : (bytes : List ℕ) (t b : Bool) → nat_le least m ≡ t → eq_by_cmp nat_cmp number m ≡ b
          → look (map said (cons_option (cond t (Some (m, bytes)) None) (filter_map (live_log least) es))) ≡ text_by
          (cond b (Some (A_file bytes)) (finmap.find name_cmp (Log number) es))
      file_here bytes true true is same =
          ap (λ (c : Bool). cond c (Some (log_of bytes)) (look (logs_among least es))) same
          ∙ sym (live_is bytes (same_side true true is same refl))
      file_here bytes true false is same =
          ap (λ (c : Bool). cond c (Some (log_of bytes)) (look (logs_among least es))) same ∙ rest
      file_here bytes false true is same = alone same ∙ sym (low_text bytes (same_side false true is same refl))
      file_here bytes false false is same = rest

    found_here : (name : FileName) (item : Item) → T (below_all name_cmp name es)
        → look (logs_among least ((name, item) ∷ es)) ≡ text_by (finmap.find name_cmp (Log number) ((name, item) ∷ es))
    found_here (Log m) (A_file bytes) below = file_here m below bytes (nat_le least m) (eq_by_cmp nat_cmp number m) refl refl
    found_here (Log m) A_folder below = hidden m below (eq_by_cmp nat_cmp number m) A_folder refl (folder_text m below)
    found_here (Table m) item below = rest
    found_here (Manifest m) item below = rest
    found_here (Temp m) item below = rest
    found_here Current item below = rest

  find_live : (es : List (FileName × Item)) → T (is_sorted name_cmp es)
      → look (logs_among least es) ≡ text_by (finmap.find name_cmp (Log number) es)
  find_live [] sorted = sym no_text
  find_live (e ∷ es) sorted =
      let parts = all_below (below_all name_cmp e.0 es) (is_sorted name_cmp es) sorted in
      found_here es (find_live es parts.1) e.0 e.1 parts.0

  -- what the log of a number says is what the bytes under its name say
  pub get_logs : (files : Files) → finmap.get (logs_of least files) number ≡ text_by (finmap.get files (Log number))
  unfolding logs_of
  get_logs files =
      finmap.get-from_entries nat_cmp_total (logs_among least (finmap.entries files)) number
      ∙ find_live (finmap.entries files) (finmap.entries_sorted files)
      ∙ ap text_by (sym (finmap.get-entries files (Log number)))

-- ---- all logs, in the order of their numbers

live_below : (least m : ℕ) (es : List (FileName × Item)) → T (below_all name_cmp (Log m) es)
    → T (below_all nat_cmp m (logs_among least es))
live_below least m [] h = tt
live_below least m ((Log n, A_file bytes) ∷ es) h =
    let parts = all_below (is_lt (nat_cmp m n)) (below_all name_cmp (Log m) es) h in
    elim (nat_le least n) as (λ b. T (below_all nat_cmp m (map said (cons_option (cond b (Some (n, bytes)) None) (filter_map (live_log least) es))))) [
      | true ↦ with_both (is_lt (nat_cmp m n)) _ parts.0 (live_below least m es parts.1)
      | false ↦ live_below least m es parts.1
    ]
  where
    with_both : (a b : Bool) → T a → T b → T (a && b)
    with_both true b p q = q
    with_both false b p q = p
live_below least m ((Log n, A_folder) ∷ es) h =
    live_below least m es (all_below (is_lt (nat_cmp m n)) (below_all name_cmp (Log m) es) h).1
live_below least m ((Table n, item) ∷ es) h = live_below least m es h
live_below least m ((Manifest n, item) ∷ es) h = live_below least m es h
live_below least m ((Temp n, item) ∷ es) h = live_below least m es h
live_below least m ((Current, item) ∷ es) h = live_below least m es h

pub live_sorted : (least : ℕ) (es : List (FileName × Item)) → T (is_sorted name_cmp es)
    → T (is_sorted nat_cmp (logs_among least es))
live_sorted least [] h = tt
live_sorted least ((Log n, A_file bytes) ∷ es) h =
    let parts = all_below (below_all name_cmp (Log n) es) (is_sorted name_cmp es) h in
    elim (nat_le least n) as (λ b. T (is_sorted nat_cmp (map said (cons_option (cond b (Some (n, bytes)) None) (filter_map (live_log least) es))))) [
      | true ↦ both _ _ (live_below least n es parts.0) (live_sorted least es parts.1)
      | false ↦ live_sorted least es parts.1
    ]
live_sorted least ((Log n, A_folder) ∷ es) h =
    live_sorted least es (all_below (below_all name_cmp (Log n) es) (is_sorted name_cmp es) h).1
live_sorted least ((Table n, item) ∷ es) h =
    live_sorted least es (all_below (below_all name_cmp (Table n) es) (is_sorted name_cmp es) h).1
live_sorted least ((Manifest n, item) ∷ es) h =
    live_sorted least es (all_below (below_all name_cmp (Manifest n) es) (is_sorted name_cmp es) h).1
live_sorted least ((Temp n, item) ∷ es) h =
    live_sorted least es (all_below (below_all name_cmp (Temp n) es) (is_sorted name_cmp es) h).1
live_sorted least ((Current, item) ∷ es) h =
    live_sorted least es (all_below (below_all name_cmp Current es) (is_sorted name_cmp es) h).1

-- the logs stand in their order
pub entries_of_logs : (least : ℕ) (files : Files) → finmap.entries (logs_of least files) ≡ map said (live_logs least files)
unfolding logs_of
entries_of_logs least files =
    same_entries nat_cmp nat_cmp_total (logs_among least (finmap.entries files))
    (live_sorted least (finmap.entries files) (finmap.entries_sorted files)) finmap.nat_cmp-IsAntisymmetric

-- ---- a log that is there is needed

abbrev log_names : List (ℕ × List ℕ) → List FileName
log_names logs = map (λ (log : ℕ × List ℕ). Log log.0) logs

pub contains_here : (x : FileName) (xs : List FileName) → Contains (x ∷ xs) x
contains_here x xs = (0, omega arith, refl)

pub contains_behind : (y x : FileName) (xs : List FileName) → Contains xs x → Contains (y ∷ xs) x
contains_behind y x xs h = Contains-append_right (y ∷ []) xs x h

module _ (least number : ℕ) (live : least ≤ number) (bytes : List ℕ) where
  module _ (es : List (FileName × Item)) (rest : finmap.find name_cmp (Log number) es ≡ Some (A_file bytes) → Contains (log_names (filter_map (live_log least) es)) (Log number)) where
    abbrev others : List (ℕ × List ℕ)
    others = filter_map (live_log least) es

    behind_file : (m : ℕ) (held : List ℕ)
        → cond (eq_by_cmp nat_cmp number m) (Some (A_file held)) (finmap.find name_cmp (Log number) es) ≡ Some (A_file bytes)
        → Contains (log_names (cons_option (cond (nat_le least m) (Some (m, held)) None) others)) (Log number)
    behind_file m held is =
        elim (eq_by_cmp nat_cmp number m) as (λ b. eq_by_cmp nat_cmp number m ≡ b → cond b (Some (A_file held)) (finmap.find name_cmp (Log number) es) ≡ Some (A_file bytes)
        → Contains (log_names (cons_option (cond (nat_le least m) (Some (m, held)) None) others)) (Log number)) [
          | true ↦ λ same h.
              let is_live : nat_le least number ≡ true = grind (arith, nat_tests) in
              subst
              (λ (n : ℕ). Contains (log_names (cons_option (cond (nat_le least n) (Some (n, held)) None) others)) (Log number))
              (equal_number number m same)
              (subst (λ (b : Bool). Contains (log_names (cons_option (cond b (Some (number, held)) None) others)) (Log number)) (sym is_live) (contains_here (Log number) (log_names others)))
          | false ↦ λ other h.
              elim (nat_le least m) as (λ b. Contains (log_names (cons_option (cond b (Some (m, held)) None) others)) (Log number)) [
                | true ↦ contains_behind (Log m) (Log number) (log_names others) (rest h)
                | false ↦ rest h
              ]
        ] refl is

    behind_folder : (m : ℕ)
        → cond (eq_by_cmp nat_cmp number m) (Some A_folder) (finmap.find name_cmp (Log number) es) ≡ Some (A_file bytes)
        → Contains (log_names others) (Log number)
    behind_folder m is =
        elim (eq_by_cmp nat_cmp number m) as (λ b. cond b (Some A_folder) (finmap.find name_cmp (Log number) es) ≡ Some (A_file bytes) → Contains (log_names others) (Log number)) [
          | true ↦ λ h. cc
          | false ↦ λ h. rest h
        ] is

    behind : (name : FileName) (item : Item) → finmap.find name_cmp (Log number) ((name, item) ∷ es) ≡ Some (A_file bytes)
        → Contains (log_names (filter_map (live_log least) ((name, item) ∷ es))) (Log number)
    behind (Log m) (A_file held) is = behind_file m held is
    behind (Log m) A_folder is = behind_folder m is
    behind (Table m) item is = rest is
    behind (Manifest m) item is = rest is
    behind (Temp m) item is = rest is
    behind Current item is = rest is

  among : (es : List (FileName × Item)) → finmap.find name_cmp (Log number) es ≡ Some (A_file bytes)
      → Contains (log_names (filter_map (live_log least) es)) (Log number)
  among [] is = cc
  among (e ∷ es) is = behind es (among es) e.0 e.1 is

pub a_file : (item : Option Item) (bytes : List ℕ) → bytes_in item ≡ Some bytes → item ≡ Some (A_file bytes)
a_file None bytes is = cc
a_file (Some (A_file held)) bytes is = cc
a_file (Some A_folder) bytes is = cc

pub live_is_needed : (files : Files) (least number : ℕ) (bytes : List ℕ) → least ≤ number
    → file_at files (Log number) ≡ Some bytes → Contains (log_names (live_logs least files)) (Log number)
live_is_needed files least number bytes live is =
    among least number live bytes (finmap.entries files)
    (sym (finmap.get-entries files (Log number)) ∙ a_file (finmap.get files (Log number)) bytes is)
