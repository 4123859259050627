-- The number that a listing tells is that of a log of the disk.
use Rattle.std.specs.Prelude.{◌≡◌, ◌⊎◌, ℕ, ◌≤◌, Bool, true, false, cond, nat_le, min, is_some, List, [], ◌∷◌, ◌++◌, T, Option, Some, None}
use Rattle.std.proofs.Common.{refl, sym, ap, subst, ◌∙◌, arith, ⊎_elim, inl, inr}
use Rattle.std.proofs.lemmas.Bool.Decides.{nat_tests}
use Rattle.std.specs.Ordering.{eq_by_cmp, is_lt, is_eq}
use Rattle.std.specs.declared.cmp.Ordering.{Ordering}
use Rattle.std.specs.FinMap as finmap
use Rattle.std.specs.FinMap.Entries.{below_all, is_sorted}
use Rattle.lsm_names.specs.declared.file_names.FileName.{FileName}
use Rattle.lsm_names.specs.declared.file_names.FileName.TheVariants.{Log, Table, Manifest, Temp, Current}
use Rattle.lsm_names.specs.FileNames.{spelled, is_file_number}
use Rattle.lsm_names.specs.Paths.{is_path, cut_last}
use Rattle.lsm_disk.specs.Names.{Node, Folder_node, File_node, path_cmp, inside, under, after_slash}
use Rattle.lsm_disk.specs.Listing.{kind_by, one_part, listed_name, with_entry, listed}
use Rattle.lsm_disk.proofs.Paths.{same_path, path_itself}
use Rattle.lsm_disk.proofs.Moves.{under_is}
use Rattle.lsm_folder.specs.Names.{name_of}
use Rattle.lsm_folder.proofs.NameLemmas.{name_only}
use Rattle.lsm_recover.specs.Listed.{log_in, log_number, lesser, next_log}
use Rattle.std.proofs.lemmas.Option.{same_Some}
use Rattle.lsm_folder.proofs.FileLemmas.{slash_is}
use Rattle.lsm_folder.proofs.LiveLemmas.{all_below, less}

abbrev head_or : List ℕ → ℕ
head_or [] = 0
head_or (x ∷ xs) = x

none_below : (q : List ℕ) (es : List (List ℕ × Node)) → T (below_all path_cmp q es) → finmap.find path_cmp q es ≡ None
none_below q [] h = refl
none_below q (e ∷ es) h =
    let both = all_below (is_lt (path_cmp q e.0)) (below_all path_cmp q es) h in
    ap (λ (o : Ordering). cond (is_eq o) (Some e.1) (finmap.find path_cmp q es)) (less (path_cmp q e.0) both.0) ∙ none_below q es both.1

module _ (first : ℕ) (more : List ℕ) (least : ℕ) where
  abbrev dir : List ℕ
  dir = first ∷ more

  abbrev path_of : ℕ → List ℕ
  path_of m = dir ++ 47 ∷ spelled (Log m)

  inside_is : (path rest : List ℕ) (o : Option (List ℕ)) → under dir path ≡ o → after_slash o ≡ Some rest → path ≡ dir ++ 47 ∷ rest
  inside_is path rest None u e = cc
  inside_is path rest (Some []) u e = cc
  inside_is path rest (Some (c ∷ tail)) u e =
      let same : tail ≡ rest = same_Some tail rest e in
      under_is dir path (c ∷ tail) u ∙ ap (λ (b : ℕ). dir ++ b ∷ tail) (slash_is dir path c tail u) ∙ ap (λ (l : List ℕ). dir ++ 47 ∷ l) same

  part_is : (o : Option (List ℕ)) (name : List ℕ) → one_part o ≡ Some name → o ≡ Some name
  part_is None name e = cc
  part_is (Some rest) name e = elim (is_some (cut_last rest)) as (λ b. cond b None (Some rest) ≡ Some name → Some rest ≡ Some name) [ true ↦ λ h. cc | false ↦ λ h. h ] e

  pub name_is : (path name : List ℕ) → listed_name dir path ≡ Some name → path ≡ dir ++ 47 ∷ name
  name_is path name e = elim (is_path path) as (λ b. cond b (one_part (inside dir path)) None ≡ Some name → path ≡ dir ++ 47 ∷ name) [
    | true ↦ λ h. inside_is path name (under dir path) refl (part_is (inside dir path) name h)
    | false ↦ λ h. cc
  ] e

  -- the log of this number is there, a file
  pub record IsLogOf (es : List (List ℕ × Node)) (n : ℕ) : Type 0 where
    pub id : ℕ
    pub live : least ≤ n
    pub fits : is_file_number n ≡ true
    pub found : finmap.find path_cmp (path_of n) es ≡ Some (File_node id)

  record IsOwn (path : List ℕ) (node : Node) (n : ℕ) : Type 0 where
    id : ℕ
    live : least ≤ n
    fits : is_file_number n ≡ true
    path_is : path ≡ path_of n
    node_is : node ≡ File_node id

  by_name : (path name : List ℕ) (id : ℕ) (o : Option FileName) (n : ℕ) → path ≡ dir ++ 47 ∷ name → name_of name ≡ o → log_number least o ≡ Some n → IsOwn path (File_node id) n
  by_name path name id None n is names e = cc
  by_name path name id (Some (Log m)) n is names e =
      let only = name_only name (Log m) names in
      elim (nat_le least m) as (λ b. nat_le least m ≡ b → cond b (Some m) None ≡ Some n → IsOwn path (File_node id) n) [
        | true ↦ λ on h.
            let same : m ≡ n = same_Some m n h in
            let above : least ≤ m = grind (arith, nat_tests) in
            subst (λ (k : ℕ). IsOwn path (File_node id) k) same (record { id = id; live = above; fits = only.fits; path_is = is ∙ ap (λ (l : List ℕ). dir ++ 47 ∷ l) only.is; node_is = refl })
        | false ↦ λ off h. cc
      ] refl e
  by_name path name id (Some (Table m)) n is names e = cc
  by_name path name id (Some (Manifest m)) n is names e = cc
  by_name path name id (Some (Temp m)) n is names e = cc
  by_name path name id (Some Current) n is names e = cc

  own_log : (path name : List ℕ) (node : Node) (n : ℕ) → path ≡ dir ++ 47 ∷ name → log_in least (record { name = name; kind = kind_by node }) ≡ Some n → IsOwn path node n
  own_log path name Folder_node n is e = cc
  own_log path name (File_node id) n is e = by_name path name id (name_of name) n is refl e

  either : (o p : Option ℕ) (n : ℕ) → lesser o p ≡ Some n → (o ≡ Some n) ⊎ (p ≡ Some n)
  either None p n e = inr e
  either (Some m) None n e = inl e
  either (Some m) (Some k) n e = min_either m k n (same_Some (min m k) n e) where
    min_either : (m k n : ℕ) → min m k ≡ n → (Some m ≡ Some n) ⊎ (Some k ≡ Some n)
    min_either m k n is = elim (nat_le m k) as (λ b. nat_le m k ≡ b → (Some m ≡ Some n) ⊎ (Some k ≡ Some n)) [
      | true ↦ λ le.
          let low : m ≤ k = grind (arith, nat_tests) in
          let same : m ≡ n = omega (arith, low, is) in
          inl (ap Some same)
      | false ↦ λ gt.
          let high : k ≤ m = grind (arith, nat_tests) in
          let same : k ≡ n = omega (arith, high, is) in
          inr (ap Some same)
    ] refl

  module _ (path : List ℕ) (node : Node) (es : List (List ℕ × Node)) (below : T (below_all path_cmp path es)) where
    here : (n : ℕ) → IsOwn path node n → IsLogOf ((path, node) ∷ es) n
    here n own = record {
      id = own.id;
      live = own.live;
      fits = own.fits;
      found =
          ap (λ (b : Bool). cond b (Some node) (finmap.find path_cmp (path_of n) es)) (subst (λ (p : List ℕ). eq_by_cmp path_cmp (path_of n) p ≡ true) (sym own.path_is) (path_itself (path_of n)))
          ∙ ap (λ (k : Node). Some k) own.node_is;
    }

    behind : (n : ℕ) → IsLogOf es n → IsLogOf ((path, node) ∷ es) n
    behind n there = record {
      id = there.id;
      live = there.live;
      fits = there.fits;
      found = elim (eq_by_cmp path_cmp (path_of n) path) as (λ b. eq_by_cmp path_cmp (path_of n) path ≡ b → cond b (Some node) (finmap.find path_cmp (path_of n) es) ≡ Some (File_node there.id)) [
        | true ↦ λ same.
            let clash : None ≡ Some (File_node there.id) = sym (none_below path es below) ∙ ap (λ (p : List ℕ). finmap.find path_cmp p es) (sym (same_path (path_of n) path same)) ∙ there.found in
            absurd (cc)
        | false ↦ λ other. there.found
      ] refl;
    }

    by_entry : (o : Option (List ℕ)) (n : ℕ) → listed_name dir path ≡ o → (next_log least (listed dir es) ≡ Some n → IsLogOf es n) → next_log least (with_entry o node (listed dir es)) ≡ Some n → IsLogOf ((path, node) ∷ es) n
    by_entry None n is rest e = behind n (rest e)
    by_entry (Some name) n is rest e = ⊎_elim
        (λ own. here n (own_log path name node n (name_is path name is) own))
        (λ tail. behind n (rest tail))
        (either (log_in least (record { name = name; kind = kind_by node })) (next_log least (listed dir es)) n e)

  -- the number that a listing tells is that of a log
  pub log_is : (es : List (List ℕ × Node)) (n : ℕ) → T (is_sorted path_cmp es) → next_log least (listed dir es) ≡ Some n → IsLogOf es n
  log_is [] n sorted e = cc
  log_is (e ∷ es) n sorted is =
      let both = all_below (below_all path_cmp e.0 es) (is_sorted path_cmp es) sorted in
      by_entry e.0 e.1 es both.0 (listed_name dir e.0) n refl (λ tail. log_is es n both.1 tail) is
