-- The logs that a listing tells are those of the folder.
use Rattle.std.specs.Prelude.{◌≡◌, ℕ, ◌+◌, ◌<◌, ◌≤◌, Bool, true, false, cond, ◌&&◌, nat_le, List, [], ◌∷◌, map, T, Option, Some, None, option_map}
use Rattle.std.proofs.Common.{refl, sym, ap, subst, ◌∙◌, arith, ⊎_elim}
use Rattle.std.proofs.lemmas.Bool.Decides.{nat_tests}
use Rattle.std.proofs.lemmas.Bool.{cases_lt}
use Rattle.std.specs.Ordering.{nat_cmp, eq_by_cmp, is_lt}
use Rattle.std.specs.Cmp.{nat_cmp_total}
use Rattle.std.specs.List.{filter_map, cons_option}
use Rattle.std.specs.FinMap as finmap
use Rattle.std.specs.FinMap.Entries.{below_all}
use Rattle.lsm_names.specs.declared.file_names.FileName.{FileName}
use Rattle.lsm_names.specs.declared.file_names.FileName.TheVariants.{Log, Table, Manifest, Temp, Current}
use Rattle.lsm_folder.specs.Files.{Item, A_file, A_folder, Files, file_at}
use Rattle.lsm_folder.specs.Logs.{LogText, log_of, live_log, said, logs_of}
use Rattle.lsm_folder.proofs.LiveLemmas.{same_entries, live_text, logs_among, get_logs, entries_of_logs}
use Rattle.lsm_rows.proofs.PairEntries.{both}

-- ---- from one log on to the next

-- logs whose numbers are at least one that is greater
live_above : (least m : ℕ) (es : List (FileName × Item)) → m < least → T (below_all nat_cmp m (logs_among least es))
live_above least m [] low = tt
live_above least m ((Log n, A_file bytes) ∷ es) low =
    elim (nat_le least n) as (λ b. nat_le least n ≡ b → T (below_all nat_cmp m (map said (cons_option (cond b (Some (n, bytes)) None) (filter_map (live_log least) es))))) [
      | true ↦ λ is.
          let above : least ≤ n = grind (arith, nat_tests) in
          let less : is_lt (nat_cmp m n) ≡ true = grind (arith, nat_tests) in
          with_both (is_lt (nat_cmp m n)) _ (subst T (sym less) tt) (live_above least m es low)
      | false ↦ λ is. live_above least m es low
    ] refl
  where
    with_both : (a b : Bool) → T a → T b → T (a && b)
    with_both true b p q = q
    with_both false b p q = p
live_above least m ((Log n, A_folder) ∷ es) low = live_above least m es low
live_above least m ((Table n, item) ∷ es) low = live_above least m es low
live_above least m ((Manifest n, item) ∷ es) low = live_above least m es low
live_above least m ((Temp n, item) ∷ es) low = live_above least m es low
live_above least m ((Current, item) ∷ es) low = live_above least m es low

module _ (files : Files) (least : ℕ) where
  -- no log is there
  module _ (none : (m : ℕ) → least ≤ m → file_at files (Log m) ≡ None) where
    none_at : (q : ℕ) (b : Bool) → nat_le least q ≡ b → live_text least q (finmap.get files (Log q)) ≡ None
    unfolding live_text
    none_at q true is =
        let there : least ≤ q = grind (arith, nat_tests) in
        ap (λ (o : Option (List ℕ)). cond (nat_le least q) (option_map log_of o) None) (none q there)
        ∙ ap (λ (b : Bool). cond {A = Option LogText} b None None) is
    none_at q false is = ap (λ (b : Bool). cond b (option_map log_of (file_at files (Log q))) None) is

    pub no_logs : finmap.entries (logs_of least files) ≡ []
    no_logs =
        ap finmap.entries (finmap.same_map nat_cmp_total finmap.nat_cmp-IsAntisymmetric (logs_of least files) (finmap.from_entries [])
        (λ q. get_logs least q files ∙ none_at q (nat_le least q) refl ∙ sym (finmap.get-from_entries nat_cmp_total [] q)))
        ∙ same_entries nat_cmp nat_cmp_total [] tt finmap.nat_cmp-IsAntisymmetric

  -- this is the first
  module _ (n : ℕ) (bytes : List ℕ) (live : least ≤ n) (there : file_at files (Log n) ≡ Some bytes) (none : (m : ℕ) → least ≤ m → m < n → file_at files (Log m) ≡ None) where
    abbrev later : finmap.FinMap nat_cmp LogText
    later = logs_of (n + 1) files

    abbrev all : List (ℕ × LogText)
    all = (n, log_of bytes) ∷ finmap.entries later

    abbrev text_from : ℕ → ℕ → Option LogText
    text_from from q = cond (nat_le from q) (option_map log_of (file_at files (Log q))) None

    text_is : (from q : ℕ) → finmap.get (logs_of from files) q ≡ text_from from q
    unfolding live_text
    text_is from q = get_logs from q files

    before_it : (q : ℕ) (b : Bool) → q < n → nat_le least q ≡ b → text_from least q ≡ None
    before_it q true low is =
        let from : least ≤ q = grind (arith, nat_tests) in
        ap (λ (o : Option (List ℕ)). cond (nat_le least q) (option_map log_of o) None) (none q from low)
        ∙ ap (λ (b : Bool). cond {A = Option LogText} b None None) is
    before_it q false low is = ap (λ (b : Bool). cond b (option_map log_of (file_at files (Log q))) None) is

    step : (q : ℕ) → text_from least q ≡ cond (eq_by_cmp nat_cmp q n) (Some (log_of bytes)) (text_from (n + 1) q)
    step q = ⊎_elim
        (λ low.
        let off : nat_le (n + 1) q ≡ false = grind (arith, nat_tests) in
        let other : eq_by_cmp nat_cmp q n ≡ false = grind (arith, nat_tests) in
        before_it q (nat_le least q) low refl
        ∙ sym (ap (λ (b : Bool). cond b (Some (log_of bytes)) (text_from (n + 1) q)) other ∙ ap (λ (b : Bool). cond b (option_map log_of (file_at files (Log q))) None) off))
        (λ high. ⊎_elim
        (λ more.
        let on : nat_le least q ≡ true = grind (arith, nat_tests) in
        let too : nat_le (n + 1) q ≡ true = grind (arith, nat_tests) in
        let other : eq_by_cmp nat_cmp q n ≡ false = grind (arith, nat_tests) in
        ap (λ (b : Bool). cond b (option_map log_of (file_at files (Log q))) None) on
        ∙ sym (ap (λ (b : Bool). cond b (Some (log_of bytes)) (text_from (n + 1) q)) other ∙ ap (λ (b : Bool). cond b (option_map log_of (file_at files (Log q))) None) too))
        (λ few.
        let same : n ≡ q = omega (arith, high, few) in
        subst (λ (k : ℕ). text_from least k ≡ cond (eq_by_cmp nat_cmp k n) (Some (log_of bytes)) (text_from (n + 1) k)) same here)
        (cases_lt n q))
        (cases_lt q n)
      where
        here : text_from least n ≡ cond (eq_by_cmp nat_cmp n n) (Some (log_of bytes)) (text_from (n + 1) n)
        here =
            let on : nat_le least n ≡ true = grind (arith, nat_tests) in
            let itself : eq_by_cmp nat_cmp n n ≡ true = grind (arith, nat_tests) in
            ap (λ (b : Bool). cond b (option_map log_of (file_at files (Log n))) None) on ∙ ap (option_map log_of) there
            ∙ sym (ap (λ (b : Bool). cond b (Some (log_of bytes)) (text_from (n + 1) n)) itself)

    below : T (below_all nat_cmp n (finmap.entries later))
    below = subst (λ (l : List (ℕ × LogText)). T (below_all nat_cmp n l)) (sym (entries_of_logs (n + 1) files)) (live_above (n + 1) n (finmap.entries files) (omega arith))

    pub first_log : finmap.entries (logs_of least files) ≡ all
    first_log =
        ap finmap.entries (finmap.same_map nat_cmp_total finmap.nat_cmp-IsAntisymmetric (logs_of least files) (finmap.from_entries all)
        (λ q. text_is least q ∙ step q ∙ ap (cond (eq_by_cmp nat_cmp q n) (Some (log_of bytes))) (sym (text_is (n + 1) q) ∙ finmap.get-entries later q) ∙ sym (finmap.get-from_entries nat_cmp_total all q)))
        ∙ same_entries nat_cmp nat_cmp_total all (both _ _ below (finmap.entries_sorted later)) finmap.nat_cmp-IsAntisymmetric
