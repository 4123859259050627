-- Where a folder has no files but those of earlier openings, a new manifest and an empty log make a new store of it.
use Rattle.std.specs.Prelude.{◌≡◌, ◌≢◌, ◌⊎◌, ℕ, ◌+◌, ◌-◌, ◌^◌, ◌<◌, ◌≤◌, true, is_some, List, [], ◌∷◌, ◌++◌, take, length, All, Contains, Option, Some, None}
use Rattle.std.proofs.Common.{⊎_elim, inl, inr, refl, sym, ap, subst, ◌∙◌, arith, length-append}
use Rattle.std.proofs.lemmas.Bool.Decides.{nat_tests}
use Rattle.std.proofs.lemmas.List.Elements.{All-nil, All-cons, All-head, All-tail, All-weaker, All-contains, All-contains_itself}
use Rattle.std.specs.FinMap as finmap
use Rattle.lsm_names.specs.Folders.{is_folder_name}
use Rattle.lsm_names.specs.FileNames.{IsFileName, spelled}
use Rattle.lsm_names.specs.Numbers.{is_file_number}
use Rattle.lsm_names.specs.declared.file_names.FileName.{FileName}
use Rattle.lsm_names.specs.declared.file_names.FileName.TheVariants.{Log, Table, Manifest, Temp, Current}
use Rattle.lsm_names.proofs.FileNameLemmas.{spelled_injective}
use Rattle.lsm_names.proofs.FolderLemmas.{folder_is_component, folder_has_bytes}
use Rattle.lsm_disk.specs.Names.{Node, Folder_node, File_node, Names, NameOp, Put, named, all_named}
use Rattle.lsm_disk.specs.State.{State, Created, Named, after, names_now, new_file}
use Rattle.lsm_disk.specs.Kept.{IsKeptName, IsKeptFile}
use Rattle.lsm_disk.specs.Tree.{IsLawful}
use Rattle.lsm_disk.specs.Dest.{path_in}
use Rattle.lsm_disk.specs.Building.{Part, IsKeptPart}
use Rattle.lsm_disk.proofs.Cuts.{take_none}
use Rattle.lsm_disk.proofs.Images.{after_names_synced}
use Rattle.lsm_disk.proofs.Kept.{new_kept}
use Rattle.lsm_disk.proofs.Lawful.{get_named}
use Rattle.lsm_disk.proofs.Now.{names_after}
use Rattle.lsm_disk.proofs.Paths.{path_cases, get_put, get_put_other}
use Rattle.lsm_disk.proofs.Tree.{free_below, lawful_now}
use Rattle.lsm_folder.specs.Names.{current_text}
use Rattle.lsm_model.specs.Halting.{built_in}
use Rattle.lsm_refine.specs.Sane.{IsWholeFile, IsAlone}
use Rattle.lsm_refine.specs.Pins.{AreClearable}
use Rattle.lsm_refine.specs.Beside.{cut_names, ChangesAt}
use Rattle.lsm_refine.specs.Among.{switched_names}
use Rattle.lsm_refine.specs.Naming.{ReplacesAt, HasReplaced}
use Rattle.lsm_refine.specs.New.{number_in, first_edit, first_manifest, new_files, new_names, IsLeftover, IsThere, HasNewStore}
use Rattle.lsm_refine.specs.Vacant.{IsVacant, with_folder, with_log}
use Rattle.lsm_refine.proofs.AmongLemmas.{kept_name_among}
use Rattle.lsm_refine.proofs.ChangeLemmas.{at_cut, changes_both, made_at, made_alone, names_synced_at, kept_name_stays, whole_stays}
use Rattle.lsm_refine.proofs.FolderDisks.{apart_from}
use Rattle.lsm_refine.proofs.OtherFileLemmas.{flat, dir_apart, name_apart, clear_at}
use Rattle.lsm_refine.proofs.SwitchedLemmas.{dir_elsewhere, name_elsewhere, files_among, clear_among}

-- ---- where all names are synced

pub settled_kept : (d : State) → d.pending ≡ [] → (path : List ℕ) (what : Option Node) → finmap.get (names_now d) path ≡ what
    → IsKeptName d path what
settled_kept d settled path what is k =
    ap (λ (ops : List NameOp). finmap.get (all_named (take k ops) d.durable) path) settled
    ∙ ap (λ (ops : List NameOp). finmap.get (all_named ops d.durable) path) (take_none k)
    ∙ sym (ap (λ (ops : List NameOp). finmap.get (all_named ops d.durable) path) settled) ∙ is

-- ---- numbers and names

file_number : (n : ℕ) → 1 ≤ n → n < 2 ^ 56 - 1 → is_file_number n ≡ true
file_number n least most = grind (arith, nat_tests)

leftover_fits : (m : ℕ) (name : FileName) → IsLeftover m name → IsFileName name
leftover_fits m Current is = absurd is
leftover_fits m (Log number) is = is.0
leftover_fits m (Table number) is = is.0
leftover_fits m (Manifest number) is = is.0
leftover_fits m (Temp number) is = is.0

leftover_before : (m : ℕ) (name : FileName) → IsLeftover m name → number_in name < m
leftover_before m Current is = absurd is
leftover_before m (Log number) is = is.1
leftover_before m (Table number) is = is.1
leftover_before m (Manifest number) is = is.1
leftover_before m (Temp number) is = is.1

not_current : (m : ℕ) (name : FileName) → IsLeftover m name → name ≢ Current
not_current m Current is same = absurd is
not_current m (Log number) is same = cc
not_current m (Table number) is same = cc
not_current m (Manifest number) is same = cc
not_current m (Temp number) is same = cc

-- its number comes before those of the new files
not_numbered : (m : ℕ) (name other : FileName) → IsLeftover m name → m ≤ number_in other → name ≢ other
not_numbered m name other is least same =
    let before = leftover_before m name is in
    omega (arith, before, least, ap number_in same)

current_no_log : (n : ℕ) → Current ≢ Log n
current_no_log n same = cc

manifest_no_log : (m n : ℕ) → Manifest m ≢ Log n
manifest_no_log m n same = cc

temp_no_log : (m n : ℕ) → Temp m ≢ Log n
temp_no_log m n same = cc

same_spelling : (a b : FileName) → spelled a ≢ spelled b → a ≢ b
same_spelling a b differ same = differ (ap spelled same)

pub not_some : (what : Option Node) → what ≡ None → is_some what ≡ true → ⊥
not_some None none some = cc
not_some (Some node) none some = cc

none_or_some : (what : Option Node) → (what ≡ None) ⊎ (is_some what ≡ true)
none_or_some None = inl refl
none_or_some (Some node) = inr refl

-- ---- the manifest and the log

module _ (d mid : State) (dir : List ℕ) (m : ℕ) (beside : List FileName) (named_dir : is_folder_name dir ≡ true)
    (vacant : IsVacant d dir m beside) (at : ReplacesAt dir m d mid) (has : HasReplaced mid dir m (first_edit m ∷ [])) where
  abbrev log : FileName
  log = Log (m + 1)

  abbrev path : List ℕ
  path = path_in dir (Log (m + 1))

  abbrev names : List FileName
  names = switched_names m m

  abbrev made : State
  made = after mid (Created (path_in dir (Log (m + 1))))

  abbrev later : State
  later = with_log dir (m + 1) mid

  fits : IsFileName (Manifest m)
  fits = file_number m vacant.least (omega (arith, vacant.most))

  log_fits : IsFileName (Log (m + 1))
  log_fits = file_number (m + 1) (omega arith) (omega (arith, vacant.most))

  all_fit : All IsFileName names
  all_fit = All-cons IsFileName (Manifest m) (Temp m ∷ Current ∷ []) fits
      (All-cons IsFileName (Temp m) (Current ∷ []) fits (All-cons IsFileName Current [] tt (All-nil IsFileName)))

  later_at : ChangesAt path mid later
  later_at = changes_both path mid made later (made_at path mid at.lead) (names_synced_at path made)

  off_log : (name : FileName) → IsFileName name → name ≢ log → path_in dir name ≢ path
  off_log name is differs = name_apart dir log named_dir log_fits name is differs

  -- another name has later what it had
  name_stays : (name : FileName) → IsFileName name → name ≢ log → (what : Option Node) → IsKeptName mid (path_in dir name) what
      → IsKeptName later (path_in dir name) what
  name_stays name is differs what kept = kept_name_stays path mid later later_at (path_in dir name)
      (off_log name is differs) what kept

  name_still : (name : FileName) → IsFileName name → All (λ (n : FileName). name ≢ n) names → name ≢ log → (what : Option Node)
      → finmap.get (names_now d) (path_in dir name) ≡ what → IsKeptName later (path_in dir name) what
  name_still name is others differs what had = name_stays name is differs what
      (kept_name_among dir names d mid at.among (path_in dir name)
      (name_elsewhere dir named_dir names all_fit d mid at.among name is others) what
      (settled_kept d vacant.settled (path_in dir name) what had))

  folder_stands : IsKeptName later dir (Some Folder_node)
  folder_stands = kept_name_stays path mid later later_at dir (dir_apart dir log named_dir log_fits) (Some Folder_node)
      (kept_name_among dir names d mid at.among dir (dir_elsewhere dir named_dir names all_fit d mid at.among)
      (Some Folder_node)
      (settled_kept d vacant.settled dir (Some Folder_node) vacant.folder))

  part_of : (name : FileName) (bytes : List ℕ) → IsFileName name → name ≢ log → IsWholeFile mid (path_in dir name) bytes
      → IsKeptPart dir later (record { name = name; bytes = bytes })
  part_of name bytes is differs whole =
      let still = whole_stays path mid later later_at (path_in dir name) (off_log name is differs) bytes whole in
      record { id = still.id; file = still.file }

  log_kept : IsKeptFile later path (length mid.files) new_file
  log_kept = subst (λ (s : State). IsKeptFile s path (length mid.files) new_file) (after_names_synced made) (new_kept mid path)

  each : All (IsKeptPart dir later) (new_files m)
  each =
      let current : Part = record { name = Current; bytes = current_text m } in
      let manifest : Part = record { name = Manifest m; bytes = first_manifest m } in
      let empty : Part = record { name = Log (m + 1); bytes = [] } in
      All-cons (IsKeptPart dir later) current (manifest ∷ empty ∷ []) (part_of Current (current_text m) tt (current_no_log
      (m + 1)) has.current)
      (All-cons (IsKeptPart dir later) manifest (empty ∷ [])
      (part_of (Manifest m) (first_manifest m) fits (manifest_no_log m (m + 1)) has.manifest)
      (All-cons (IsKeptPart dir later) empty [] (record { id = length mid.files; file = log_kept }) (All-nil
      (IsKeptPart dir later))))

  -- ---- the files beside

  leftover : (name : FileName) → Contains beside name → IsLeftover m name
  leftover name among = All-contains (IsLeftover m) beside name vacant.earlier among

  switched_apart : (name : FileName) → IsLeftover m name → All (λ (n : FileName). name ≢ n) names
  switched_apart name is =
      All-cons (λ (n : FileName). name ≢ n) (Manifest m) (Temp m ∷ Current ∷ []) (not_numbered m name (Manifest m) is
      (omega arith))
      (All-cons (λ (n : FileName). name ≢ n) (Temp m) (Current ∷ []) (not_numbered m name (Temp m) is (omega arith))
      (All-cons (λ (n : FileName). name ≢ n) Current [] (not_current m name is) (All-nil (λ (n : FileName). name ≢ n))))

  is_there : (name : FileName) → Contains beside name → IsThere later dir name
  is_there name among = by (finmap.get (names_now d) (path_in dir name)) refl
    where
      is : IsLeftover m name
      is = leftover name among

      by : (what : Option Node) → finmap.get (names_now d) (path_in dir name) ≡ what → IsThere later dir name
      by None none = absurd (not_some (finmap.get (names_now d) (path_in dir name)) none (vacant.there name among))
      by (Some Folder_node) folder = absurd (vacant.files.no_folder name (length d.pending) (leftover_fits m name is)
          (at_cut d (path_in dir name) (Some Folder_node) folder))
      by (Some (File_node id)) file = record {
        id = id;
        named = name_still name (leftover_fits m name is) (switched_apart name is)
            (not_numbered m name log is (omega arith)) (Some (File_node id)) file;
      }

  all_there : All (IsThere later dir) beside
  all_there = All-weaker (Contains beside) (IsThere later dir) is_there beside (All-contains_itself beside)

  -- ---- no other

  module _ (name : FileName) (is : IsFileName name) (others : All (λ (n : FileName). spelled name ≢ spelled n)
      (new_names m beside)) where
    abbrev Differs : FileName → Type 0
    Differs n = spelled name ≢ spelled n

    behind : All Differs (Manifest m ∷ Log (m + 1) ∷ beside)
    behind = All-tail Differs Current (Manifest m ∷ Log (m + 1) ∷ beside) others

    last : All Differs (Log (m + 1) ∷ beside)
    last = All-tail Differs (Manifest m) (Log (m + 1) ∷ beside) behind

    no_log : name ≢ log
    no_log = same_spelling name log (All-head Differs log beside last)

    not_beside : Contains beside name → ⊥
    not_beside among = All-contains Differs beside name (All-tail Differs log beside last) among refl

    none_before : finmap.get (names_now d) (path_in dir name) ≡ None
    none_before = ⊎_elim (λ none. none) (λ some. absurd (not_beside (vacant.all name is some)))
        (none_or_some (finmap.get (names_now d) (path_in dir name)))

    none_later : IsKeptName later (path_in dir name) None
    none_later = ⊎_elim
        (λ same. name_stays name is no_log None (subst (λ (n : FileName). IsKeptName mid (path_in dir n) None)
        (sym (spelled_injective name (Temp m) is fits same)) (settled_kept mid has.quiet (path_in dir (Temp m)) None has.gone)))
        (λ differs. name_still name is
        (All-cons (λ (n : FileName). name ≢ n) (Manifest m) (Temp m ∷ Current ∷ [])
        (same_spelling name (Manifest m) (All-head Differs (Manifest m) (Log (m + 1) ∷ beside) behind))
        (All-cons (λ (n : FileName). name ≢ n) (Temp m) (Current ∷ []) (same_spelling name (Temp m) differs)
        (All-cons (λ (n : FileName). name ≢ n) Current []
        (same_spelling name Current (All-head Differs Current (Manifest m ∷ Log (m + 1) ∷ beside) others))
        (All-nil (λ (n : FileName). name ≢ n)))))
        no_log None none_before)
        (path_cases (spelled name) (spelled (Temp m)))

  pub new_made : HasNewStore (with_log dir (m + 1) mid) dir m beside
  new_made = record {
    named = named_dir;
    least = vacant.least;
    most = vacant.most;
    earlier = vacant.earlier;
    settled = refl;
    stands = folder_stands;
    each = each;
    there = all_there;
    only = none_later;
    alone = All-cons (IsAlone later) (path_in dir (Manifest m)) (path ∷ []) (later_at.alone (path_in dir
        (Manifest m)) has.alone)
        (All-cons (IsAlone later) path [] ((names_synced_at path made).alone path (made_alone path mid at.lead)) (All-nil
        (IsAlone later)));
    clear = clear_at dir log named_dir log_fits mid later later_at
        (files_among dir named_dir names all_fit d mid at.among vacant.files)
        (clear_among dir named_dir names all_fit d mid at.among vacant.files vacant.clear);
  }

-- ---- the folder

pub some_folder : (dir : List ℕ) → is_folder_name dir ≡ true → [] ≢ dir
some_folder dir named_dir same = let none : length dir ≡ 0 = ap (λ (l : List ℕ). length l) (sym same) in omega
    (arith, none, folder_has_bytes dir named_dir)

pub slash_some : (dir name : List ℕ) → [] ≢ dir ++ 47 ∷ name
slash_some dir name same =
    let none : 0 ≡ length (dir ++ 47 ∷ name) = ap (λ (l : List ℕ). length l) same in
    omega (arith, none, length-append dir (47 ∷ name))

pub contains_none : (name : FileName) → Contains [] name → ⊥
contains_none name among = omega (arith, among.1)

module _ (d : State) (dir : List ℕ) (named_dir : is_folder_name dir ≡ true) (lawful : IsLawful d)
    (free : finmap.get (names_now d) dir ≡ None) (clear : AreClearable d) where
  abbrev folder_made_here : State
  folder_made_here = with_folder dir d

  abbrev now : Names
  now = named (Put dir Folder_node) (names_now d)

  cut_is : (k : ℕ) → cut_names folder_made_here k ≡ now
  cut_is k = ap (λ (ops : List NameOp). all_named ops (names_now (after d (Named (Put dir Folder_node))))) (take_none k)
      ∙ names_after d (Put dir Folder_node)

  now_is : names_now folder_made_here ≡ now
  now_is = names_after d (Put dir Folder_node)

  at_dir : finmap.get now dir ≡ Some Folder_node
  at_dir = get_put (names_now d) dir Folder_node

  past : (other : List ℕ) → other ≢ dir → finmap.get now other ≡ finmap.get (names_now d) other
  past other differs = get_put_other (names_now d) other dir Folder_node differs

  nothing_inside : (name : FileName) → finmap.get now (path_in dir name) ≡ None
  nothing_inside name =
      past (path_in dir name) (λ same. apart_from dir dir (spelled name) (flat dir (folder_is_component dir named_dir))
      (sym same))
      ∙ get_named (names_now d) (path_in dir name) (slash_some dir (spelled name))
      ∙ free_below (names_now d) dir (spelled name) (lawful_now d lawful) (sym (get_named (names_now d) dir
      (some_folder dir named_dir)) ∙ free)

  no_clash : (node : Node) → None ≡ Some node → ⊥
  no_clash node same = cc

  file_is_no_folder : (id : ℕ) → Some Folder_node ≡ Some (File_node id) → ⊥
  file_is_no_folder id same = cc

  pub new_vacant : IsVacant (with_folder dir d) dir 1 []
  new_vacant = record {
    least = omega arith;
    most = omega arith;
    settled = refl;
    folder = ap (λ (left : Names). finmap.get left dir) now_is ∙ at_dir;
    there = λ name among. absurd (contains_none name among);
    all = λ name fits some. absurd (not_some (finmap.get (names_now folder_made_here) (path_in dir name))
        (ap (λ (left : Names). finmap.get left (path_in dir name)) now_is ∙ nothing_inside name) some);
    earlier = All-nil (IsLeftover 1);
    files = record {
      no_folder = λ name k fits is. no_clash Folder_node
          (sym (ap (λ (left : Names). finmap.get left (path_in dir name)) (cut_is k) ∙ nothing_inside name) ∙ is);
    };
    lead = λ k. record {
      made = λ other id leads.
          let there : finmap.get now other ≡ Some (File_node id) = sym (ap (λ (left : Names). finmap.get left other)
          (cut_is k)) ∙ leads in
          ⊎_elim
          (λ same. absurd (file_is_no_folder id (sym at_dir ∙ ap (finmap.get now) (sym same) ∙ there)))
          (λ differs. (lawful.files (length d.pending)).made other id
          (at_cut d other (Some (File_node id)) (sym (past other differs) ∙ there)))
          (path_cases other dir);
    };
    clear = record {
      no_file = λ built k id is leads.
          let there : finmap.get now (built_in built) ≡ Some (File_node id) =
          sym (ap (λ (left : Names). finmap.get left (built_in built)) (cut_is k)) ∙ leads in
          ⊎_elim
          (λ same. absurd (file_is_no_folder id (sym at_dir ∙ ap (finmap.get now) (sym same) ∙ there)))
          (λ differs. clear.no_file built (length d.pending) id is
          (at_cut d (built_in built) (Some (File_node id)) (sym (past (built_in built) differs) ∙ there)))
          (path_cases (built_in built) dir);
      no_folder = λ built rest k is leads.
          let inner : List ℕ = built_in built ++ 47 ∷ rest in
          clear.no_folder built rest (length d.pending) is
          (at_cut d inner (Some Folder_node)
          (sym (past inner (λ same. apart_from dir (built_in built) rest (flat dir (folder_is_component dir named_dir))
          (sym same)))
          ∙ sym (ap (λ (left : Names). finmap.get left inner) (cut_is k)) ∙ leads));
    };
  }
