-- A disk that has one folder of whole files has them for good.
use Rattle.std.specs.Prelude.{◌≡◌, ◌≢◌, ◌⊎◌, ℕ, ◌+◌, zero, suc, Bool, true, false, ◌==◌, ◌&&◌, ◌||◌, cond, List, [], ◌∷◌, ◌++◌, map, take, drop, length, slice_get, codes, All, Option, Some, None}
use Rattle.std.specs.List.{list_all, list_any}
use Rattle.std.proofs.Common.{⊎_elim, inl, inr, refl, sym, ap, subst, ◌∙◌, arith}
use Rattle.std.proofs.lemmas.Bool.Decides.{nat_tests}
use Rattle.std.proofs.lemmas.List.{length-append, append-nil, append_cancel_left}
use Rattle.std.proofs.lemmas.List.Elements.{All-nil, All-cons, All-head, All-tail}
use Rattle.std.specs.Ordering.{eq_by_cmp}
use Rattle.std.specs.Cmp.Lexicographic.{nat_list_cmp_total}
use Rattle.std.specs.FinMap as finmap
use Rattle.lsm_names.specs.Folders.{is_folder_name, is_folder_byte, is_small_letter_or_digit}
use Rattle.lsm_names.specs.FileNames.{IsFileName, spelled}
use Rattle.lsm_names.specs.declared.file_names.FileName.{FileName}
use Rattle.lsm_disk.specs.Names.{Node, Folder_node, File_node, NameOp, path_cmp, all_named, id_of}
use Rattle.lsm_disk.specs.State as disk
use Rattle.lsm_disk.specs.State.{FileState, file_at}
use Rattle.lsm_disk.specs.Kept.{IsKeptName}
use Rattle.lsm_disk.specs.Dest.{path_in}
use Rattle.lsm_disk.specs.Building.{Part, IsKeptPart, names_of, sealed}
use Rattle.lsm_disk.proofs.Cuts.{take_none}
use Rattle.lsm_disk.proofs.Paths.{same_path, path_itself, path_other}
use Rattle.lsm_model.specs.Halting.{built_in}
use Rattle.lsm_refine.specs.Disks.{nodes_from, folder_disk}
use Rattle.lsm_refine.specs.Sane.{IsAlone}
use Rattle.lsm_refine.specs.Pins.{AreClearable}
use Rattle.lsm_refine.specs.Settled.{IsSettled}
use Rattle.lsm_refine.proofs.OutsideLemmas.{same_folder}
use Rattle.lsm_names.proofs.FolderLemmas.{bytes_of_folder}

-- ---- finding a name

find_here : (path : List ℕ) (node : Node) (es : List (List ℕ × Node)) → finmap.find path_cmp path ((path, node) ∷ es) ≡ Some node
find_here path node es = ap (λ (b : Bool). cond b (Some node) (finmap.find path_cmp path es)) (path_itself path)

find_later : (path : List ℕ) (e : List ℕ × Node) (es : List (List ℕ × Node)) → path ≢ e.0
    → finmap.find path_cmp path (e ∷ es) ≡ finmap.find path_cmp path es
find_later path e es differ = ap (λ (b : Bool). cond b (Some e.1) (finmap.find path_cmp path es)) (path_other path e.0 differ)

-- ---- slashes

abbrev pub has_slash : List ℕ → Bool
has_slash path = list_any (λ (byte : ℕ). byte == 47) path

pub slash_inside : (front rest : List ℕ) → has_slash (front ++ 47 ∷ rest) ≡ true
slash_inside [] rest = refl
slash_inside (byte ∷ front) rest = elim (byte == 47) as (λ b. (b || has_slash (front ++ 47 ∷ rest))
    ≡ true) [ true ↦ refl | false ↦ slash_inside front rest ]

same_number : (m n : ℕ) → (m == n) ≡ true → m ≡ n
same_number m n same = grind (arith, nat_tests)

-- a byte of a folder's name is no slash
no_slash : (byte : ℕ) → is_folder_byte byte ≡ true → (byte == 47) ≡ false
unfolding is_folder_byte is_small_letter_or_digit
no_slash byte fits = elim (byte == 47) as (λ b. (byte == 47) ≡ b → (byte == 47) ≡ false) [
  | true ↦ λ same. let is : byte ≡ 47 = same_number byte 47 same in let clash : false ≡ true =
      sym (ap is_folder_byte is) ∙ fits in absurd (cc)
  | false ↦ λ other. other
] refl

parts_true : (a b : Bool) → (a && b) ≡ true → (a ≡ true) × (b ≡ true)
parts_true true b is = (refl, is)
parts_true false b is = absurd (cc)

no_slashes : (name rest : List ℕ) → list_all is_folder_byte name ≡ true → has_slash (name ++ rest) ≡ has_slash rest
no_slashes [] rest fits = refl
no_slashes (byte ∷ name) rest fits =
    let parts = parts_true (is_folder_byte byte) (list_all is_folder_byte name) fits in
    ap (λ (b : Bool). b || has_slash (name ++ rest)) (no_slash byte parts.0) ∙ no_slashes name rest parts.1

last_of_four : (a b c e : Bool) → (a && b && c && e) ≡ true → e ≡ true
last_of_four true true true e is = is
last_of_four true true false e is = absurd (cc)
last_of_four true false c e is = absurd (cc)
last_of_four false b c e is = absurd (cc)

-- no slash is in a folder's name, nor in the name under which a checkpoint's folder is built
folder_flat : (dir : List ℕ) → is_folder_name dir ≡ true → has_slash dir ≡ false
folder_flat dir fits = ap has_slash (sym (append-nil dir)) ∙ no_slashes dir [] (bytes_of_folder dir fits)

pub built_flat : (dir : List ℕ) → is_folder_name dir ≡ true → has_slash (built_in dir) ≡ false
built_flat dir fits = no_slashes dir (codes ".tmp") (bytes_of_folder dir fits)

-- so neither is a path inside a folder
pub apart_from : (flat front rest : List ℕ) → has_slash flat ≡ false → flat ≢ front ++ 47 ∷ rest
apart_from flat front rest none same = let clash : false ≡ true = sym none ∙ ap has_slash same ∙ slash_inside front rest in absurd (cc)

-- ---- its files

-- a path leads to the file of a part
record IsPart (dir : List ℕ) (first : ℕ) (parts : List Part) (path : List ℕ) (node : Node) : Type 0 where
  index : ℕ
  part : Part
  at : slice_get parts index ≡ Some part
  path_is : path ≡ path_in dir part.name
  node_is : node ≡ File_node (first + index)

node_once : (x y : Node) → Some x ≡ Some y → x ≡ y
node_once x y same = cc

part_found : (dir : List ℕ) (first : ℕ) (parts : List Part) (path : List ℕ) (node : Node)
    → finmap.find path_cmp path (nodes_from dir first parts) ≡ Some node → IsPart dir first parts path node
part_found dir first [] path node is = absurd (cc)
part_found dir first (part ∷ parts) path node is =
    elim (eq_by_cmp path_cmp path (path_in dir part.name)) as (λ b. eq_by_cmp path_cmp path (path_in dir part.name) ≡ b
    → cond b (Some (File_node first)) (finmap.find path_cmp path (nodes_from dir (first + 1) parts)) ≡ Some node
    → IsPart dir first (part ∷ parts) path node) [
      | true ↦ λ same h. record {
        index = 0;
        part = part;
        at = refl;
        path_is = same_path path (path_in dir part.name) same;
        node_is = sym (node_once (File_node first) node h) ∙ ap File_node (omega arith);
      }
      | false ↦ λ other h. further (part_found dir (first + 1) parts path node h)
    ] refl is
  where
    further : IsPart dir (first + 1) parts path node → IsPart dir first (part ∷ parts) path node
    further later = record {
      index = suc later.index;
      part = later.part;
      at = later.at;
      path_is = later.path_is;
      node_is = later.node_is ∙ ap File_node (omega arith);
    }

-- no two parts have one name
abbrev pub AreApart : List Part → Type 0
AreApart [] = Unit {0}
AreApart (part ∷ parts) = All (λ (name : FileName). spelled part.name ≢ spelled name) (names_of parts) × AreApart parts

part_differs : (name : FileName) (parts : List Part) (index : ℕ) (part : Part)
    → All (λ (other : FileName). spelled name ≢ spelled other) (names_of parts) → slice_get parts index ≡ Some part
    → spelled name ≢ spelled part.name
part_differs name [] index part each at = absurd (cc)
part_differs name (first ∷ parts) zero part each at =
    let same : first ≡ part = cc in
    subst (λ (p : Part). spelled name ≢ spelled p.name) same
    (All-head (λ (other : FileName). spelled name ≢ spelled other) first.name (names_of parts) each)
part_differs name (first ∷ parts) (suc index) part each at =
    part_differs name parts index part (All-tail (λ (other : FileName). spelled name ≢ spelled other) first.name (names_of parts) each) at

inside : (dir rest : List ℕ) → dir ++ 47 ∷ rest ≢ dir
inside dir rest same = omega (arith, length-append dir (47 ∷ rest), ap (λ (l : List ℕ). length l) same)

apart : (dir one two : List ℕ) → one ≢ two → dir ++ 47 ∷ one ≢ dir ++ 47 ∷ two
apart dir one two differ same = differ (ap (λ (l : List ℕ). drop 1 l) (append_cancel_left dir (47 ∷ one) (47 ∷ two) same))

part_there : (dir : List ℕ) (first : ℕ) (parts : List Part) (index : ℕ) (part : Part) → AreApart parts → slice_get parts index ≡ Some part
    → finmap.find path_cmp (path_in dir part.name) (nodes_from dir first parts) ≡ Some (File_node (first + index))
part_there dir first [] index part are at = absurd (cc)
part_there dir first (p ∷ parts) zero part are at =
    let same : p ≡ part = cc in
    ap (λ (q : Part). finmap.find path_cmp (path_in dir q.name) (nodes_from dir first (p ∷ parts))) (sym same)
    ∙ find_here (path_in dir p.name) (File_node first) (nodes_from dir (first + 1) parts)
    ∙ ap (λ (n : ℕ). Some (File_node n)) (omega arith)
part_there dir first (p ∷ parts) (suc index) part are at =
    let differ : spelled p.name ≢ spelled part.name = part_differs p.name parts index part are.0 at in
    find_later (path_in dir part.name) (path_in dir p.name, File_node first) (nodes_from dir (first + 1) parts)
    (apart dir (spelled part.name) (spelled p.name) (λ same. differ (sym same)))
    ∙ part_there dir (first + 1) parts index part are.1 at
    ∙ ap (λ (n : ℕ). Some (File_node n)) (omega arith)

none_there : (dir : List ℕ) (first : ℕ) (parts : List Part) (name : FileName)
    → All (λ (other : FileName). spelled name ≢ spelled other) (names_of parts)
    → finmap.find path_cmp (path_in dir name) (nodes_from dir first parts) ≡ None
none_there dir first [] name each = refl
none_there dir first (part ∷ parts) name each =
    find_later (path_in dir name) (path_in dir part.name, File_node first) (nodes_from dir (first + 1) parts)
    (apart dir (spelled name) (spelled part.name) (All-head (λ (other : FileName). spelled name ≢ spelled other) part.name
    (names_of parts) each))
    ∙ none_there dir (first + 1) parts name (All-tail (λ (other : FileName). spelled name ≢ spelled other) part.name (names_of parts) each)

sealed_there : (parts : List Part) (index : ℕ) (part : Part) → slice_get parts index ≡ Some part
    → slice_get (map (λ (p : Part). sealed p.bytes) parts) index ≡ Some (sealed part.bytes)
sealed_there [] index part at = absurd (cc)
sealed_there (first ∷ parts) zero part at = let same : first ≡ part = cc in ap (λ (p : Part). Some (sealed p.bytes)) same
sealed_there (first ∷ parts) (suc index) part at = sealed_there parts index part at

all_synced : (parts : List Part) → All (λ (f : FileState). f.unsynced ≡ []) (map (λ (p : Part). sealed p.bytes) parts)
all_synced [] = All-nil (λ (f : FileState). f.unsynced ≡ [])
all_synced (part ∷ parts) =
    All-cons (λ (f : FileState). f.unsynced ≡ []) (sealed part.bytes) (map (λ (p : Part). sealed p.bytes) parts) refl (all_synced parts)

name_of_part : (parts : List Part) (index : ℕ) (part : Part) → All IsFileName (names_of parts)
    → slice_get parts index ≡ Some part → IsFileName part.name
name_of_part [] index part each at = absurd (cc)
name_of_part (first ∷ parts) zero part each at =
    let same : first ≡ part = cc in
    subst (λ (p : Part). IsFileName p.name) same (All-head IsFileName first.name (names_of parts) each)
name_of_part (first ∷ parts) (suc index) part each at = name_of_part parts index part
    (All-tail IsFileName first.name (names_of parts) each) at

-- ---- the disk

module _ (dir : List ℕ) (fits : is_folder_name dir ≡ true) (parts : List Part) (are : AreApart parts) where
  abbrev d : disk.State
  d = folder_disk dir parts

  abbrev all_entries : List (List ℕ × Node)
  all_entries = (dir, Folder_node) ∷ nodes_from dir 0 parts

  get_is : (path : List ℕ) → finmap.get d.durable path ≡ finmap.find path_cmp path all_entries
  get_is path = finmap.get-from_entries nat_list_cmp_total all_entries path

  at_rest : (path : List ℕ) (found : Option Node) → finmap.find path_cmp path all_entries ≡ found → IsKeptName d path found
  at_rest path found is k = ap (λ (ops : List NameOp). finmap.get (all_named ops d.durable) path) (take_none k) ∙ get_is path ∙ is

  in_folder : (rest : List ℕ) → finmap.find path_cmp (dir ++ 47 ∷ rest) all_entries
      ≡ finmap.find path_cmp (dir ++ 47 ∷ rest) (nodes_from dir 0 parts)
  in_folder rest = find_later (dir ++ 47 ∷ rest) (dir, Folder_node) (nodes_from dir 0 parts) (inside dir rest)

  pub folder_kept : IsKeptName d dir (Some Folder_node)
  folder_kept = at_rest dir (Some Folder_node) (find_here dir Folder_node (nodes_from dir 0 parts))

  pub part_named : (index : ℕ) (part : Part) → slice_get parts index ≡ Some part
      → finmap.get d.durable (path_in dir part.name) ≡ Some (File_node index)
  part_named index part at =
      get_is (path_in dir part.name) ∙ in_folder (spelled part.name) ∙ part_there dir 0 parts index part are at ∙ ap
      (λ (n : ℕ). Some (File_node n)) (omega arith)

  pub folder_named : finmap.get d.durable dir ≡ Some Folder_node
  folder_named = get_is dir ∙ find_here dir Folder_node (nodes_from dir 0 parts)

  pub part_kept : (index : ℕ) (part : Part) → slice_get parts index ≡ Some part → IsKeptPart dir d part
  part_kept index part at =
      let first : 0 + index ≡ index = omega arith in
      record {
        id = index;
        file = record {
          named = at_rest (path_in dir part.name) (Some (File_node index))
              (in_folder (spelled part.name) ∙ part_there dir 0 parts index part are at ∙ ap (λ (n : ℕ). Some (File_node n)) first);
          file = sealed_there parts index part at;
        };
      }

  pub none_kept : (name : FileName) → All (λ (other : FileName). spelled name ≢ spelled other) (names_of parts)
      → IsKeptName d (path_in dir name) None
  none_kept name each = at_rest (path_in dir name) None (in_folder (spelled name) ∙ none_there dir 0 parts name each)

  -- what a path leads to is the folder or a part of it
  leads : (k : ℕ) (path : List ℕ) (node : Node) → finmap.get (all_named (take k d.pending) d.durable) path ≡ Some node
      → ((path ≡ dir) × (node ≡ Folder_node)) ⊎ IsPart dir 0 parts path node
  leads k path node is =
      let found : finmap.find path_cmp path all_entries ≡ Some node =
      sym (get_is path) ∙ ap (λ (ops : List NameOp). finmap.get (all_named ops d.durable) path) (sym (take_none k)) ∙ is in
      elim (eq_by_cmp path_cmp path dir) as (λ b. eq_by_cmp path_cmp path dir ≡ b
      → cond b (Some Folder_node) (finmap.find path_cmp path (nodes_from dir 0 parts)) ≡ Some node
      → ((path ≡ dir) × (node ≡ Folder_node)) ⊎ IsPart dir 0 parts path node) [
        | true ↦ λ same h. inl (same_path path dir same, sym (node_once Folder_node node h))
        | false ↦ λ other h. inr (part_found dir 0 parts path node h)
      ] refl found

  id_once : (m n : ℕ) → Some m ≡ Some n → m ≡ n
  id_once m n same = cc

  part_once : (one two : Part) → Some one ≡ Some two → one ≡ two
  part_once one two same = cc

  pub part_alone : (index : ℕ) (part : Part) → slice_get parts index ≡ Some part → IsAlone d (path_in dir part.name)
  unfolding part_kept
  part_alone index part at = record {
    only = λ id k other there is.
        let kept = part_kept index part at in
        let number : index ≡ id = id_once index id (ap id_of (sym (kept.file.named 0)) ∙ there) in
        ⊎_elim
        (λ folder. let clash : File_node id ≡ Folder_node = folder.1 in absurd (cc))
        (λ found.
        let same : id ≡ 0 + found.index = id_once id (0 + found.index) (ap id_of (ap (λ (n : Node). Some n) found.node_is)) in
        let spot : found.index ≡ index = omega (arith, same, number) in
        let twice : found.part ≡ part = part_once found.part part (sym found.at ∙ ap (slice_get parts) spot ∙ at) in
        found.path_is ∙ ap (λ (p : Part). path_in dir p.name) twice)
        (leads k other (File_node id) is);
  }

  pub no_folder : (name : FileName) (k : ℕ) → finmap.get (all_named (take k d.pending) d.durable) (path_in dir name) ≢ Some Folder_node
  no_folder name k is = ⊎_elim
      (λ folder. absurd (inside dir (spelled name) folder.0))
      (λ found. let clash : Folder_node ≡ File_node (0 + found.index) = found.node_is in absurd (cc))
      (leads k (path_in dir name) Folder_node is)

  pub clear : AreClearable d
  clear = record {
    no_file = λ other k id named is. ⊎_elim
        (λ folder. let clash : File_node id ≡ Folder_node = folder.1 in absurd (cc))
        (λ found. absurd (apart_from (built_in other) dir (spelled found.part.name) (built_flat other named) found.path_is))
        (leads k (built_in other) (File_node id) is);
    no_folder = λ other rest k named is. ⊎_elim
        (λ folder. absurd (apart_from dir (built_in other) rest (folder_flat dir fits) (sym folder.0)))
        (λ found. let clash : Folder_node ≡ File_node (0 + found.index) = found.node_is in absurd (cc))
        (leads k (built_in other ++ 47 ∷ rest) Folder_node is);
  }

  pub settled_disk : IsSettled d
  settled_disk = record { names = refl; files = all_synced parts }

  -- under another folder's name, and inside it, nothing stands
  pub outside_none : (name : List ℕ) → is_folder_name name ≡ true → name ≢ dir → finmap.get d.durable name ≡ None
  outside_none name named other = by_node (finmap.get d.durable name) refl
    where
      by_node : (node : Option Node) → finmap.get d.durable name ≡ node → node ≡ None
      by_node None is = refl
      by_node (Some node) is = ⊎_elim
          (λ folder. absurd (other folder.0))
          (λ found. absurd (apart_from name dir (spelled found.part.name) (folder_flat name named) found.path_is))
          (leads 0 name node is)

  pub outside_file : All IsFileName (names_of parts) → (name : List ℕ) (file : FileName) → is_folder_name name ≡ true
      → name ≢ dir → IsFileName file → finmap.get d.durable (path_in name file) ≡ None
  outside_file each name file named other fitting = by_node (finmap.get d.durable (path_in name file)) refl
    where
      by_node : (node : Option Node) → finmap.get d.durable (path_in name file) ≡ node → node ≡ None
      by_node None is = refl
      by_node (Some node) is = ⊎_elim
          (λ folder. absurd (apart_from dir name (spelled file) (folder_flat dir fits) (sym folder.0)))
          (λ found. absurd (other (same_folder name dir file found.part.name fitting
          (name_of_part parts found.index found.part each found.at) found.path_is)))
          (leads 0 (path_in name file) node is)
