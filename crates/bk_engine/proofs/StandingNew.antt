-- The names of a folder that is built lead to new files.
use Rattle.std.specs.Prelude.{◌≡◌, ◌≢◌, ℕ, ◌<◌, ◌≤◌, Bool, true, false, cond, ◌&&◌, ◌==◌, T, List, [], ◌∷◌, ◌++◌, length, Option, Some, None, is_some}
use Rattle.std.proofs.Common.{⊎_elim, refl, sym, ap, subst, ◌∙◌, arith, append_assoc, length-append}
use Rattle.std.specs.List.{AllByRecursion}
use Rattle.std.specs.Ordering.{eq_by_cmp, is_eq, is_lt}
use Rattle.std.specs.Cmp.Lexicographic.{nat_list_cmp_total}
use Rattle.std.specs.declared.cmp.Ordering.{Ordering}
use Rattle.std.specs.declared.cmp.Ordering.TheVariants.{Less, Equal, Greater}
use Rattle.std.specs.FinMap as map
use Rattle.std.specs.FinMap.Entries.{below_all, is_sorted}
use Rattle.lsm_disk.specs.Names.{Node, Folder_node, File_node, Names, NameOp, Put, Gone, Moved, path_cmp, under, is_in, renamed, renamed_to, moved_entries, named, stands, id_of}
use Rattle.lsm_disk.specs.State.{State, Story, Change, Created, Named, Appended, Synced, Names_synced, Idle, after, state_of, file_at, names_now, new_file, longer, sure, in_file}
use Rattle.lsm_disk.specs.Images.{Tree}
use Rattle.lsm_disk.specs.Goes.{Went}
use Rattle.lsm_disk.specs.Tree.{IsTree, IsLawful}
use Rattle.lsm_disk.specs.Building.{NamesWithin, IsWithin}
use Rattle.lsm_disk.proofs.Images.{all_push}
use Rattle.lsm_disk.proofs.Lawful.{get_gone, free_at}
use Rattle.lsm_disk.proofs.Moves.{under_is}
use Rattle.lsm_disk.proofs.Paths.{path_cases, path_itself, same_path, get_put, get_put_other, get_gone_other, under_tail, under_append}
use Rattle.lsm_disk.proofs.Tree.{length_in, lawful_now}
use Rattle.lsm_disk.proofs.Runs.{went_weaker, went_wider}
use Rattle.bk_engine.specs.Copying.{Whatever, Anything}
use Rattle.bk_engine.specs.Leaving.{HasNoNameOf}
use Rattle.bk_engine.proofs.StandingKept.{went_keeping}
use Rattle.lsm_disk.proofs.Built.{tail_append, in_trans}
use Rattle.lsm_disk.proofs.Files.{same_some}
use Rattle.lsm_folder.proofs.LiveLemmas.{all_below}

-- no name at the folder or in it leads to one of the first so many files
abbrev pub LeadsToNew : List ℕ → ℕ → Names → Type 0
LeadsToNew folder first names = (path : List ℕ) (id : ℕ) → is_in folder path ≡ true → map.get names path ≡ Some (File_node id) → first ≤ id

same_id : (k id : ℕ) → Some (File_node k) ≡ Some (File_node id) → k ≡ id
same_id k id e = cc

-- ---- sorted entries

not_less : (o : Ordering) → T (is_lt o) → is_eq o ≡ false
not_less Less h = refl
not_less Equal h = absurd h
not_less Greater h = absurd h

abbrev Entries : Type 0
Entries = List (List ℕ × Node)

none_below : (q : List ℕ) (es : Entries) → T (below_all path_cmp q es) → map.find path_cmp q es ≡ None
none_below q [] h = refl
none_below q (e ∷ es) h =
    let parts = all_below (is_lt (path_cmp q e.0)) (below_all path_cmp q es) h in
    ap (λ (b : Bool). cond b (Some e.1) (map.find path_cmp q es)) (not_less (path_cmp q e.0) parts.0) ∙ none_below q es parts.1

module _ (Q : List ℕ → Node → Type 0) where
  abbrev Have : Entries → Type 0
  Have es = AllByRecursion (λ (e : List ℕ × Node). Q e.0 e.1) es

  later_by : (e : List ℕ × Node) (es : Entries) (q : List ℕ) (node : Node) (b : Bool) → eq_by_cmp path_cmp q e.0 ≡ b → T (below_all path_cmp e.0 es) → map.find path_cmp q es ≡ Some node
      → cond b (Some e.1) (map.find path_cmp q es) ≡ Some node
  later_by e es q node true same below found =
      let clash : None ≡ Some node = sym (none_below e.0 es below) ∙ ap (λ (p : List ℕ). map.find path_cmp p es) (sym (same_path q e.0 same)) ∙ found in
      absurd (cc clash)
  later_by e es q node false other below found = found

  -- what the look-ups have, each entry has
  each_has : (es : Entries) → T (is_sorted path_cmp es) → ((q : List ℕ) (node : Node) → map.find path_cmp q es ≡ Some node → Q q node) → Have es
  each_has [] sorted look = tt
  each_has (e ∷ es) sorted look =
      let parts = all_below (below_all path_cmp e.0 es) (is_sorted path_cmp es) sorted in (
        look e.0 e.1 (ap (λ (b : Bool). cond b (Some e.1) (map.find path_cmp e.0 es)) (path_itself e.0)),
        each_has es parts.1 (λ q node found. look q node (later_by e es q node (eq_by_cmp path_cmp q e.0) refl parts.0 found)),
      )

-- ---- each operation

module _ (folder : List ℕ) (first : ℕ) where
  -- a name in the folder leads to a new file
  abbrev IsNew : List ℕ → Node → Type 0
  IsNew path node = (id : ℕ) → is_in folder path ≡ true → node ≡ File_node id → first ≤ id

  new_put_folder : (names : Names) (other : List ℕ) (node : Node) → node ≡ Folder_node → LeadsToNew folder first names → LeadsToNew folder first (named (Put other node) names)
  new_put_folder names other node is new path id inside leads = ⊎_elim
      (λ same.
      let clash : Some Folder_node ≡ Some (File_node id) = ap Some (sym is) ∙ sym (ap (map.get (map.insert names other node)) same ∙ get_put names other node) ∙ leads in
      absurd (cc clash))
      (λ differ. new path id inside (sym (get_put_other names path other node differ) ∙ leads))
      (path_cases path other)

  new_put_file : (names : Names) (other : List ℕ) (k : ℕ) → (is_in folder other ≡ true → first ≤ k) → LeadsToNew folder first names → LeadsToNew folder first (map.insert names other (File_node k))
  new_put_file names other k late new path id inside leads = ⊎_elim
      (λ same.
      let is : k ≡ id = same_id k id (sym (ap (map.get (map.insert names other (File_node k))) same ∙ get_put names other (File_node k)) ∙ leads) in
      subst (λ (n : ℕ). first ≤ n) is (late (ap (is_in folder) (sym same) ∙ inside)))
      (λ differ. new path id inside (sym (get_put_other names path other (File_node k) differ) ∙ leads))
      (path_cases path other)

  new_gone : (names : Names) (other : List ℕ) → LeadsToNew folder first names → LeadsToNew folder first (map.remove names other)
  new_gone names other new path id inside leads = ⊎_elim
      (λ same.
      let clash : None ≡ Some (File_node id) = sym (ap (map.get (map.remove names other)) same ∙ get_gone names other) ∙ leads in
      absurd (cc clash))
      (λ differ. new path id inside (sym (get_gone_other names path other differ) ∙ leads))
      (path_cases path other)

  module _ (from to : List ℕ) (from_in : is_in folder from ≡ true) where
    moved_by : (e : List ℕ × Node) (path : List ℕ) (o : Option (List ℕ)) → under from e.0 ≡ o → path ≡ renamed_to to e.0 o → is_in folder path ≡ true → is_in folder e.0 ≡ true
    moved_by e path None is same inside = ap (is_in folder) (sym same) ∙ inside
    moved_by e path (Some rest) is same inside = in_trans folder from e.0 rest from_in is

    module _ (path : List ℕ) (inside : is_in folder path ≡ true) (id : ℕ) where
      found_by : (e : List ℕ × Node) (rest : Option Node) (b : Bool) → eq_by_cmp path_cmp path (renamed_to to e.0 (under from e.0)) ≡ b → IsNew e.0 e.1 → (rest ≡ Some (File_node id) → first ≤ id)
          → cond b (Some e.1) rest ≡ Some (File_node id) → first ≤ id
      found_by e rest true same new later is = new id (moved_by e path (under from e.0) refl (same_path path (renamed_to to e.0 (under from e.0)) same) inside) (same_some e.1 (File_node id) is)
      found_by e rest false other new later is = later is

      found_moved : (es : Entries) → Have IsNew es → map.find path_cmp path (moved_entries from to es) ≡ Some (File_node id) → first ≤ id
      found_moved [] new is = cc
      found_moved (e ∷ es) new is =
          found_by e (map.find path_cmp path (moved_entries from to es)) (eq_by_cmp path_cmp path (renamed_to to e.0 (under from e.0))) refl new.0 (found_moved es new.1) is

    entries_new : (names : Names) → LeadsToNew folder first names → Have IsNew (map.entries names)
    entries_new names new = each_has IsNew (map.entries names) (map.entries_sorted names)
        (λ q node found id inside is. new q id inside (map.get-entries names q ∙ found ∙ ap Some is))

    new_moved : (names : Names) (o : Option Node) → map.get names from ≡ o → LeadsToNew folder first names → LeadsToNew folder first (renamed from to o names)
    new_moved names None is new = new
    new_moved names (Some (File_node k)) is new = new_put_file (map.remove names from) to k (λ inside. new from k from_in is) (new_gone names from new)
    new_moved names (Some Folder_node) is new = λ path id inside leads.
        found_moved path inside id (map.entries names) (entries_new names new) (sym (map.get-from_entries nat_list_cmp_total (moved_entries from to (map.entries names)) path) ∙ leads)

  new_named : (op : NameOp) (names : Names) → NamesWithin folder op → LeadsToNew folder first names → LeadsToNew folder first (named op names)
  new_named (Put other node) names is new = new_put_folder names other node is.1 new
  new_named (Gone other) names is new = new_gone names other new
  new_named (Moved from to) names is new = new_moved from to is.0 names (map.get names from) refl new

  -- ---- each change

  -- there are so many files, and the names in the folder lead to others
  pub record HasNewFiles (s : State) : Type 0 where
    pub many : first ≤ length s.files
    pub new : LeadsToNew folder first (names_now s)

  pushed : (s : State) (op : NameOp) → LeadsToNew folder first (named op (names_now s)) → LeadsToNew folder first (names_now (record s { pending = s.pending ++ op ∷ [] }))
  pushed s op new = subst (LeadsToNew folder first) (sym (all_push s.pending op s.durable)) new

  pub new_after : (s : State) (c : Change) → IsWithin folder first c → HasNewFiles s → HasNewFiles (after s c)
  new_after s (Created other) is has = record {
    many = omega (arith, has.many, length-append s.files (new_file ∷ []));
    new = pushed s (Put other (File_node (length s.files))) (new_put_file (names_now s) other (length s.files) (λ inside. has.many) has.new);
  }
  new_after s (Named op) is has = record { many = has.many; new = pushed s op (new_named op (names_now s) is has.new) }
  new_after s (Appended k bytes) is has = record { many = omega (arith, has.many, length_in (longer bytes) k s.files); new = has.new }
  new_after s (Synced k) is has = record { many = omega (arith, has.many, length_in sure k s.files); new = has.new }
  new_after s Names_synced is has = record { many = has.many; new = has.new }
  new_after s Idle is has = has

-- ---- a folder whose name was free

pub node_of : (o : Option Node) (id : ℕ) → id_of o ≡ Some id → o ≡ Some (File_node id)
node_of None id is = cc
node_of (Some Folder_node) id is = cc
node_of (Some (File_node k)) id is = cc

-- nothing is at a free name or inside
pub nothing_in : (dir : List ℕ) (names : Names) (path : List ℕ) → IsTree names → stands names dir ≡ None → is_in dir path ≡ true → map.get names path ≡ None
nothing_in [] names path tree free inside = cc
nothing_in (c ∷ dir) names path tree free inside = by_rest (under (c ∷ dir) path) refl inside where
  by_rest : (o : Option (List ℕ)) → under (c ∷ dir) path ≡ o → is_some o ≡ true → map.get names path ≡ None
  by_rest None is some = cc
  by_rest (Some rest) is some = ap (map.get names) (under_is (c ∷ dir) path rest is) ∙ free_at names (c ∷ dir) rest tree free (under_tail (c ∷ dir) path rest is)

-- no name at the folder or in it leads to one of the first so many files
abbrev pub HasNoOld : List ℕ → ℕ → State → Type 0
HasNoOld dir first s = (id : ℕ) → id < first → HasNoNameOf dir s id

has_no_old : (dir : List ℕ) (first : ℕ) (s : State) → HasNewFiles dir first s → HasNoOld dir first s
has_no_old dir first s has id low path inside leads =
    let late : first ≤ id = has.new path id inside (node_of (map.get (names_now s) path) id leads) in
    absurd (omega (arith, low, late))

pub new_folder_is_new : (dir : List ℕ) (story : Story) (told : Option Story) (P : State → Tree → Type 0) (I : State → Type 0) → IsLawful (state_of story) → stands (names_now (state_of story)) dir ≡ None
    → Went story told (IsWithin dir (length (state_of story).files)) P I → Went story told (IsWithin dir (length (state_of story).files)) P (λ s. I s × HasNoOld dir (length (state_of story).files) s)
new_folder_is_new dir story told P I lawful free w =
    let s : State = state_of story in
    let first : ℕ = length s.files in
    let begun : HasNewFiles dir first s = record {
      many = omega arith;
      new = λ path id inside leads. absurd (none_is (File_node id) (sym (nothing_in dir (names_now s) path (lawful_now s lawful) free inside) ∙ leads));
    } in
    went_weaker (λ x. I x × HasNewFiles dir first x) (λ x. I x × HasNoOld dir first x) (λ x is. (is.0, has_no_old dir first x is.1))
    (went_wider (IsWithin dir first) (IsWithin dir first) (λ x t. P x t × Anything x t) P (λ c is. is) (λ x t shown. shown.0)
    (went_keeping P Anything (HasNewFiles dir first) (IsWithin dir first) (λ x c is has. new_after dir first x c is has) (λ x has. record { each = λ t image. tt }) I begun w))
  where
    none_is : (node : Node) → None ≡ Some node → ⊥
    none_is node e = cc
