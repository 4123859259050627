-- Changes within one folder, and what all of them leave outside.
use Rattle.std.specs.Prelude.{◌≡◌, ◌≢◌, ◌⊎◌, ℕ, ◌≤◌, ◌<◌, Bool, true, false, cond, List, [], ◌∷◌, ◌++◌, length, slice_get, Option, Some, None}
use Rattle.std.proofs.Common.{⊎_elim, inl, inr, refl, sym, ap, ◌∙◌, arith}
use Rattle.std.proofs.lemmas.List.{length-append}
use Rattle.std.proofs.lemmas.List.Elements.{All-nil, All-push}
use Rattle.std.specs.Ordering.{eq_by_cmp}
use Rattle.std.specs.Cmp.Lexicographic.{nat_list_cmp_total}
use Rattle.std.specs.FinMap as finmap
use Rattle.lsm_disk.specs.Names.{Node, Folder_node, File_node, NameOp, Put, Gone, Moved, Names, path_cmp, named, renamed, renamed_to, moved_entries, all_named, id_of, is_in, under}
use Rattle.lsm_disk.specs.State.{FileState, State, Change, Created, Named, Appended, Synced, Names_synced, Idle, after, file_at, names_now, new_file, longer, sure, in_file}
use Rattle.lsm_disk.specs.Kept.{OpSpares}
use Rattle.lsm_disk.specs.Building.{NamesWithin, IsWithin}
use Rattle.lsm_disk.proofs.Built.{in_trans, within_spares_name}
use Rattle.lsm_disk.proofs.Cuts.{take_none}
use Rattle.lsm_disk.proofs.Files.{get_other, get_before}
use Rattle.lsm_disk.proofs.Images.{take_push, all_push}
use Rattle.lsm_disk.proofs.Lawful.{get_gone}
use Rattle.lsm_disk.proofs.Paths.{path_cases, path_itself, path_other, same_path, get_put, get_put_other, get_gone_other, get_spared}
use Rattle.lsm_disk.proofs.Tree.{length_in}
use Rattle.lsm_refine.specs.Sane.{IsAlone}
use Rattle.lsm_refine.specs.Beside.{cut_names, LeadToFiles}
use Rattle.lsm_refine.specs.Within.{AreOlderOutside, WereOutside, ChangesWithin}
use Rattle.lsm_refine.proofs.ChangeLemmas.{at_cut}
use Rattle.lsm_refine.proofs.NeededLemmas.{node_is, alone_stays}

-- ---- where a file's name came from

-- the name that led to the file before an operation within the folder: this one, or one in the folder
pub record CameFrom (folder : List ℕ) (names : Names) (path : List ℕ) (id : ℕ) : Type 0 where
  pub from : List ℕ
  pub leads : finmap.get names from ≡ Some (File_node id)
  pub is : (from ≡ path) ⊎ (is_in folder from ≡ true)

-- a name that is found among moved ones was found under another key
record WasKey (from to path : List ℕ) (es : List (List ℕ × Node)) (node : Node) : Type 0 where
  key : List ℕ
  found : finmap.find path_cmp key es ≡ Some node
  is : path ≡ renamed_to to key (under from key)

was_key : (from to path : List ℕ) (es : List (List ℕ × Node)) (node : Node)
    → finmap.find path_cmp path (moved_entries from to es) ≡ Some node → WasKey from to path es node
was_key from to path [] node found = absurd (cc)
was_key from to path (e ∷ es) node found = by (eq_by_cmp path_cmp path (renamed_to to e.0 (under from e.0))) refl found
    (was_key from to path es node)
  where
    later : path ≢ renamed_to to e.0 (under from e.0) → WasKey from to path es node → WasKey from to path (e ∷ es) node
    later other was = record {
      key = was.key;
      found = ap (λ b. cond b (Some e.1) (finmap.find path_cmp was.key es))
          (path_other was.key e.0 (λ same. other (was.is ∙ ap (λ (k : List ℕ). renamed_to to k (under from k)) same))) ∙ was.found;
      is = was.is;
    }

    by : (b : Bool) → eq_by_cmp path_cmp path (renamed_to to e.0 (under from e.0)) ≡ b
        → cond b (Some e.1) (finmap.find path_cmp path (moved_entries from to es)) ≡ Some node
        → (finmap.find path_cmp path (moved_entries from to es) ≡ Some node → WasKey from to path es node)
        → WasKey from to path (e ∷ es) node
    by true same is rest = record {
      key = e.0;
      found = ap (λ b. cond b (Some e.1) (finmap.find path_cmp e.0 es)) (path_itself e.0) ∙ is;
      is = same_path path (renamed_to to e.0 (under from e.0)) same;
    }
    by false other is rest = later (λ same. let clash : true
        ≡ false = sym (path_itself path) ∙ ap (λ (p : List ℕ). eq_by_cmp path_cmp path p) same ∙ other in cc) (rest is)

one_node : (a b : Node) → Some a ≡ Some b → a ≡ b
one_node a b same = cc

no_file : (id : ℕ) → Folder_node ≡ File_node id → ⊥
no_file id same = cc

nothing : (id : ℕ) → None ≡ Some (File_node id) → ⊥
nothing id same = cc

module _ (folder : List ℕ) (names : Names) (path : List ℕ) (id : ℕ) where
  same_name : finmap.get names path ≡ Some (File_node id) → CameFrom folder names path id
  same_name leads = record { from = path; leads = leads; is = inl refl }

  from_put : (other : List ℕ) → finmap.get (finmap.insert names other Folder_node) path ≡ Some (File_node id)
      → CameFrom folder names path id
  from_put other leads = ⊎_elim
      (λ same. absurd (no_file id (one_node Folder_node (File_node id)
      (sym (get_put names other Folder_node) ∙ ap (finmap.get (finmap.insert names other Folder_node)) (sym same) ∙ leads))))
      (λ differs. same_name (sym (get_put_other names path other Folder_node differs) ∙ leads))
      (path_cases path other)

  from_gone : (other : List ℕ) → finmap.get (finmap.remove names other) path ≡ Some (File_node id) → CameFrom folder names path id
  from_gone other leads = ⊎_elim
      (λ same. absurd (nothing id (sym (get_gone names other) ∙ ap (finmap.get (finmap.remove names other)) (sym same) ∙ leads)))
      (λ differs. same_name (sym (get_gone_other names path other differs) ∙ leads))
      (path_cases path other)

  pub from_move : (from to : List ℕ) (node : Option Node) → is_in folder from ≡ true → finmap.get names from ≡ node
      → finmap.get (renamed from to node names) path ≡ Some (File_node id) → CameFrom folder names path id
  from_move from to None inside there leads = same_name leads
  from_move from to (Some (File_node k)) inside there leads = ⊎_elim
      (λ same. record {
        from = from;
        leads = there ∙ sym (get_put (finmap.remove names from) to (File_node k)) ∙ ap
            (finmap.get (finmap.insert (finmap.remove names from) to (File_node k))) (sym same) ∙ leads;
        is = inr inside;
      })
      (λ differs. from_gone from (sym (get_put_other (finmap.remove names from) path to (File_node k) differs) ∙ leads))
      (path_cases path to)
  from_move from to (Some Folder_node) inside there leads =
      let was = was_key from to path (finmap.entries names) (File_node id)
      (sym (finmap.get-from_entries nat_list_cmp_total (moved_entries from to (finmap.entries names)) path) ∙ leads) in
      record { from = was.key; leads = finmap.get-entries names was.key ∙ was.found; is = by was.key (under from was.key) refl was.is }
    where
      by : (key : List ℕ) (rest : Option (List ℕ)) → under from key ≡ rest → path ≡ renamed_to to key rest
          → (key ≡ path) ⊎ (is_in folder key ≡ true)
      by key None at same = inl (sym same)
      by key (Some rest) at same = inr (in_trans folder from key rest inside at)

  came_from : (op : NameOp) → NamesWithin folder op → finmap.get (named op names) path ≡ Some (File_node id) → CameFrom folder names path id
  came_from (Put other node) within leads = from_put other (ap (λ (n : Node). finmap.get (finmap.insert names other n) path)
      (sym within.1) ∙ leads)
  came_from (Gone other) within leads = from_gone other leads
  came_from (Moved from to) within leads = from_move from to (finmap.get names from) within.0 refl leads

-- ---- nothing, and one after another

pub within_none : (folder : List ℕ) (d : State) → ChangesWithin folder d d
within_none folder d = record {
  now = λ path out. refl;
  cuts = λ k. record { count = k; same = λ path out. refl };
  files = λ path id f out is. is;
  alone = λ path out is. is;
  quiet = λ path out is. is;
  fewer = omega arith;
}

pub within_both : (folder : List ℕ) (d mid later : State) → ChangesWithin folder d mid → ChangesWithin folder mid later
    → ChangesWithin folder d later
within_both folder d mid later first second = record {
  now = λ path out. second.now path out ∙ first.now path out;
  cuts = λ k. let was = second.cuts k in let before = first.cuts was.count in
      record { count = before.count; same = λ path out. was.same path out ∙ before.same path out };
  files = λ path id f out is. second.files path id f out (first.files path id f out is);
  alone = λ path out is. second.alone path out (first.alone path out is);
  quiet = λ path out is. second.quiet path out (first.quiet path out is);
  fewer = omega (arith, first.fewer, second.fewer);
}

-- what is outside is older still
pub older_stay : (folder : List ℕ) (first : ℕ) (d later : State) → ChangesWithin folder d later
    → AreOlderOutside folder first d → AreOlderOutside folder first later
older_stay folder first d later changes are = record {
  enough = omega (arith, are.enough, changes.fewer);
  older = λ k id path out leads. let was = changes.cuts k in are.older was.count id path out (sym (was.same path out) ∙ leads);
}

-- where all names lead to files that were made
pub all_older : (folder : List ℕ) (d : State) → LeadToFiles d → AreOlderOutside folder (length d.files) d
all_older folder d lead = record { enough = omega arith; older = λ k id path out leads. (lead k).made path id leads }

-- ---- one change

module _ (folder : List ℕ) (first : ℕ) (d : State) (are : AreOlderOutside folder first d) where
  older_now : (path : List ℕ) (id : ℕ) → is_in folder path ≡ false → finmap.get (names_now d) path ≡ Some (File_node id) → id < first
  older_now path id out leads = are.older (length d.pending) id path out (at_cut d path (Some (File_node id)) leads)

  -- a file that was made since changes
  module _ (id : ℕ) (new : first ≤ id) (change : FileState → FileState) where
    abbrev changed : State
    changed = record d { files = in_file change id d.files }

    changed_within : ((path : List ℕ) → IsAlone d path → IsAlone changed path) → ChangesWithin folder d changed
    changed_within still = record {
      now = λ path out. refl;
      cuts = λ k. record { count = k; same = λ path out. refl };
      files = λ path k f out is. record {
        named = is.named;
        file = get_other change d.files k id (λ same. absurd
            (let less : k < first = older_now path k out is.named in omega (arith, less, new, same))) ∙ is.file;
      };
      alone = λ path out is. still path is;
      quiet = λ path out is. is;
      fewer = omega (arith, length_in change id d.files);
    }

  -- an operation on names within the folder
  module _ (op : NameOp) (files : List FileState) where
    abbrev then : State
    then = record d { pending = d.pending ++ op ∷ []; files = files }

    then_now : names_now then ≡ named op (names_now d)
    then_now = all_push d.pending op d.durable

    then_cuts : (k : ℕ) → (cut_names then k ≡ cut_names d k) ⊎ (cut_names then k ≡ named op (names_now d))
    then_cuts k = ⊎_elim
        (λ short. inl (ap (λ (ops : List NameOp). all_named ops d.durable) short))
        (λ long. inr (ap (λ (ops : List NameOp). all_named ops d.durable) long ∙ all_push d.pending op d.durable))
        (take_push k d.pending op)

    module _ (spares : (path : List ℕ) → is_in folder path ≡ false → OpSpares path op)
        (come : (path : List ℕ) (id : ℕ) → finmap.get (named op (names_now d)) path ≡ Some (File_node id)
        → (first ≤ id) ⊎ CameFrom folder (names_now d) path id) where
      then_same : (path : List ℕ) → is_in folder path ≡ false → finmap.get (names_now then) path ≡ finmap.get (names_now d) path
      then_same path out = ap (λ (names : Names). finmap.get names path) then_now ∙ get_spared path op (names_now d) (spares path out)

      then_were : (k : ℕ) → WereOutside folder d then k
      then_were k = ⊎_elim
          (λ short. record { count = k; same = λ path out. ap (λ (names : Names). finmap.get names path) short })
          (λ long. record {
            count = length d.pending;
            same = λ path out. ap (λ (names : Names). finmap.get names path) long ∙ get_spared path op (names_now d)
                (spares path out) ∙ sym (at_cut d path (finmap.get (names_now d) path) refl);
          })
          (then_cuts k)

      then_only : (path : List ℕ) → is_in folder path ≡ false → IsAlone d path → (id k : ℕ) (other : List ℕ)
          → file_at d path ≡ Some id → finmap.get (cut_names then k) other ≡ Some (File_node id) → other ≡ path
      then_only path out is id k other at leads = ⊎_elim
          (λ short. is.only id k other at (ap (λ (names : Names). finmap.get names other) (sym short) ∙ leads))
          (λ long. ⊎_elim
          (λ new. absurd (let less : id < first = older_now path id out
          (node_is (finmap.get (names_now d) path) id at) in omega (arith, less, new)))
          (λ came. let same : came.from ≡ path = is.only id (length d.pending) came.from at
          (at_cut d came.from (Some (File_node id)) came.leads) in
          ⊎_elim
          (λ one. sym one ∙ same)
          (λ inside. let clash : true ≡ false = sym inside ∙ ap (is_in folder) same ∙ out in absurd (cc))
          came.is)
          (come other id (ap (λ (names : Names). finmap.get names other) (sym long) ∙ leads)))
          (then_cuts k)

      op_within : ((id : ℕ) (f : FileState) → slice_get d.files id ≡ Some f → slice_get files id ≡ Some f)
          → length d.files ≤ length files → ChangesWithin folder d then
      op_within kept more = record {
        now = then_same;
        cuts = then_were;
        files = λ path id f out is. record { named = then_same path out ∙ is.named; file = kept id f is.file };
        alone = λ path out is. record {
          only = λ id k other at leads. then_only path out is id k other
              (sym (ap id_of (then_same path out)) ∙ at) leads;
        };
        quiet = λ path out is. All-push (OpSpares path) d.pending op is (spares path out);
        fewer = more;
      }

  synced_within : ChangesWithin folder d (after d Names_synced)
  synced_within = record {
    now = λ path out. refl;
    cuts = λ k. record {
      count = length d.pending;
      same = λ path out. ap (λ (ops : List NameOp). finmap.get (all_named ops (names_now d)) path) (take_none k) ∙ sym
          (at_cut d path (finmap.get (names_now d) path) refl);
    };
    files = λ path id f out is. record { named = is.named; file = is.file };
    alone = λ path out is. alone_stays d path Names_synced tt is;
    quiet = λ path out is. All-nil (OpSpares path);
    fewer = omega arith;
  }

  made_from : (at path : List ℕ) (id : ℕ) → finmap.get (named (Put at (File_node (length d.files))) (names_now d)) path
      ≡ Some (File_node id) → (first ≤ id) ⊎ CameFrom folder (names_now d) path id
  made_from at path id leads = ⊎_elim
      (λ same. inl (new (one_file (length d.files) id (sym (get_put (names_now d) at (File_node (length d.files))) ∙ ap
      (finmap.get (finmap.insert (names_now d) at (File_node (length d.files)))) (sym same) ∙ leads))))
      (λ differs. inr (same_name folder (names_now d) path id
      (sym (get_put_other (names_now d) path at (File_node (length d.files)) differs) ∙ leads)))
      (path_cases path at)
    where
      one_file : (a b : ℕ) → Some (File_node a) ≡ Some (File_node b) → a ≡ b
      one_file a b same = cc

      new : length d.files ≡ id → first ≤ id
      new same = omega (arith, are.enough, same)

  pub change_within : (c : Change) → IsWithin folder first c → ChangesWithin folder d (after d c)
  change_within (Created path) within = op_within (Put path (File_node (length d.files))) (d.files ++ new_file ∷ [])
      (λ other out. within_spares_name folder other first (Created path) within out) (made_from path)
      (λ id f is. get_before d.files (new_file ∷ []) id f is) (omega (arith, length-append d.files (new_file ∷ [])))
  change_within (Named op) within = op_within op d.files
      (λ other out. within_spares_name folder other first (Named op) within out)
      (λ path id leads. inr (came_from folder (names_now d) path id op within leads))
      (λ id f is. is) (omega arith)
  change_within (Appended id bytes) within = changed_within id within (longer bytes)
      (λ path is. alone_stays d path (Appended id bytes) tt is)
  change_within (Synced id) within = changed_within id within sure (λ path is. alone_stays d path (Synced id) tt is)
  change_within Names_synced within = synced_within
  change_within Idle within = within_none folder d
