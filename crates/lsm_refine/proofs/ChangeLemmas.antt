-- Changes at one path, and what all of them leave of other files.
use Rattle.std.specs.Prelude.{◌≡◌, ◌≢◌, ◌⊎◌, ℕ, zero, suc, ◌+◌, ◌≤◌, ◌<◌, List, [], ◌∷◌, ◌++◌, length, slice_get, Option, Some, None}
use Rattle.std.proofs.Common.{⊎_elim, inl, inr, refl, sym, ap, ◌∙◌, arith}
use Rattle.std.proofs.lemmas.List.{length-append, take_all}
use Rattle.std.proofs.lemmas.List.Elements.{All-nil, All-push}
use Rattle.std.specs.FinMap as finmap
use Rattle.lsm_disk.specs.Names.{Node, Folder_node, File_node, NameOp, Names, Put, Gone, named, all_named, id_of}
use Rattle.lsm_disk.specs.State.{FileState, State, Change, Created, Named, Appended, Synced, Names_synced, Idle, after, file_at, names_now, new_file, bytes_of, longer, sure, in_file}
use Rattle.lsm_disk.specs.Images.{contents_of, tree_now, bytes_at, bytes_by}
use Rattle.lsm_disk.specs.Kept.{IsKeptName, IsKeptFile, IsFileNow, OpSpares, InFile}
use Rattle.lsm_disk.proofs.Cuts.{take_none}
use Rattle.lsm_disk.proofs.Files.{get_other, get_before}
use Rattle.lsm_disk.proofs.Images.{take_push, all_push}
use Rattle.lsm_disk.proofs.Kept.{kept_file_now}
use Rattle.lsm_disk.proofs.Lawful.{get_gone}
use Rattle.lsm_disk.proofs.Paths.{path_cases, get_put, get_spared}
use Rattle.lsm_disk.proofs.Tree.{length_in}
use Rattle.lsm_refine.specs.Sane.{IsAlone, IsWholeFile}
use Rattle.lsm_refine.specs.Beside.{cut_names, LeadToFiles, ChangesAt}
use Rattle.lsm_refine.proofs.NeededLemmas.{node_is, alone_stays}

-- ---- names of now are among those that a crash may leave

all_of : (d : State) → cut_names d (length d.pending) ≡ names_now d
all_of d = ap (λ (ops : List NameOp). all_named ops d.durable) (take_all (length d.pending) d.pending (omega arith))

pub at_cut : (d : State) (path : List ℕ) (what : Option Node) → finmap.get (names_now d) path ≡ what
    → finmap.get (cut_names d (length d.pending)) path ≡ what
at_cut d path what is = ap (λ (names : Names). finmap.get names path) (all_of d) ∙ is

-- what has no other name has none now
pub only_now : (d : State) (path other : List ℕ) (id : ℕ) → IsAlone d path → file_at d path ≡ Some id
    → file_at d other ≡ Some id → other ≡ path
only_now d path other id alone there leads = alone.only id (length d.pending) other there
    (at_cut d other (Some (File_node id)) (node_is (finmap.get (names_now d) other) id leads))

file_once : (a b : ℕ) → Some (File_node a) ≡ Some (File_node b) → a ≡ b
file_once a b same = cc

no_node : (node : Node) → None ≡ Some node → ⊥
no_node node same = cc

file_no_folder : (id : ℕ) → Some (File_node id) ≡ Some Folder_node → ⊥
file_no_folder id same = cc

-- ---- nothing, and one after another

pub changes_none : (path : List ℕ) (d : State) → ChangesAt path d d
changes_none path d = record {
  now = λ other differs. refl;
  cuts = λ k. inl (k, refl);
  files = λ other id f differs is. is;
  alone = λ other is. is;
  quiet = λ other differs is. is;
  fewer = omega arith;
  no_folder = λ never. never;
}

pub changes_both : (path : List ℕ) (d mid later : State) → ChangesAt path d mid → ChangesAt path mid later → ChangesAt path d later
changes_both path d mid later first second = record {
  now = λ other differs. second.now other differs ∙ first.now other differs;
  cuts = λ k. ⊎_elim
      (λ old. ⊎_elim
      (λ older. inl (older.0, old.1 ∙ older.1))
      (λ same. inr (λ other differs. ap (λ (names : Names). finmap.get names other) old.1 ∙ same other differs))
      (first.cuts old.0))
      (λ same. inr (λ other differs. same other differs ∙ first.now other differs))
      (second.cuts k);
  files = λ other id f differs is. second.files other id f differs (first.files other id f differs is);
  alone = λ other is. second.alone other (first.alone other is);
  quiet = λ other differs is. second.quiet other differs (first.quiet other differs is);
  fewer = omega (arith, first.fewer, second.fewer);
  no_folder = λ never. second.no_folder (first.no_folder never);
}

-- ---- a sync of names

pub names_synced_at : (path : List ℕ) (d : State) → ChangesAt path d (after d Names_synced)
names_synced_at path d = record {
  now = λ other differs. refl;
  cuts = λ k. inr (λ other differs. same_now k other);
  files = λ other id f differs is. record { named = is.named; file = is.file };
  alone = λ other is. alone_stays d other Names_synced tt is;
  quiet = λ other differs is. All-nil (OpSpares other);
  fewer = omega arith;
  no_folder = λ never k is. never (length d.pending) (at_cut d path (Some Folder_node) (sym (same_now k path) ∙ is));
}
  where
    same_now : (k : ℕ) (other : List ℕ) → finmap.get (cut_names (after d Names_synced) k) other ≡ finmap.get (names_now d) other
    same_now k other = ap (λ (ops : List NameOp). finmap.get (all_named ops (names_now d)) other) (take_none k)

-- ---- an append to a file that has no other name, and its sync

module _ (path : List ℕ) (d : State) (id : ℕ) (elsewhere : (other : List ℕ) → other ≢ path → file_at d other ≢ Some id)
    (change : FileState → FileState) where
  file_changed : ChangesAt path d (record d { files = in_file change id d.files })
  file_changed = record {
    now = λ other differs. refl;
    cuts = λ k. inl (k, refl);
    files = λ other k f differs is. record {
      named = is.named;
      file = get_other change d.files k id (λ same. elsewhere other differs (ap id_of is.named ∙ ap Some same)) ∙ is.file;
    };
    alone = λ other is. record { only = is.only };
    quiet = λ other differs is. is;
    fewer = omega (arith, length_in change id d.files);
    no_folder = λ never. never;
  }

-- of a file that no other name leads to now
pub other_written_at : (path : List ℕ) (d : State) (id : ℕ) → ((other : List ℕ) → other ≢ path → file_at d other ≢ Some id)
    → (c : Change) → InFile id c → ChangesAt path d (after d c)
other_written_at path d id elsewhere (Created other) kind = absurd kind
other_written_at path d id elsewhere (Named op) kind = absurd kind
other_written_at path d id elsewhere (Appended k more) kind =
    file_changed path d k (λ other differs leads. elsewhere other differs (leads ∙ ap Some kind)) (longer more)
other_written_at path d id elsewhere (Synced k) kind = file_changed path d k
    (λ other differs leads. elsewhere other differs (leads ∙ ap Some kind)) sure
other_written_at path d id elsewhere Names_synced kind = absurd kind
other_written_at path d id elsewhere Idle kind = changes_none path d

pub file_written_at : (path : List ℕ) (d : State) (id : ℕ) → file_at d path ≡ Some id → IsAlone d path → (c : Change)
    → InFile id c → ChangesAt path d (after d c)
file_written_at path d id there alone c kind = other_written_at path d id
    (λ other differs leads. differs (only_now d path other id alone there leads)) c kind

-- ---- a name is put or is gone

module _ (path : List ℕ) (d : State) (op : NameOp) (spares : (other : List ℕ) → other ≢ path → OpSpares other op)
    (files : List FileState) where
  abbrev then : State
  then = record d { pending = d.pending ++ op ∷ []; files = files }

  then_now : names_now then ≡ named op (names_now d)
  then_now = all_push d.pending op d.durable

  then_same : (other : List ℕ) → other ≢ path → finmap.get (names_now then) other ≡ finmap.get (names_now d) other
  then_same other differs = ap (λ (names : Names). finmap.get names other) then_now ∙ get_spared other op (names_now d)
      (spares other differs)

  -- a crash leaves the names of before or those of now
  then_cuts : (k : ℕ) → (cut_names then k ≡ cut_names d k) ⊎ (cut_names then k ≡ names_now then)
  then_cuts k = ⊎_elim (λ short. inl (ap (λ (ops : List NameOp). all_named ops d.durable) short))
      (λ long. inr (ap (λ (ops : List NameOp). all_named ops d.durable) long)) (take_push k d.pending op)

  op_at : ((other : List ℕ) → IsAlone d other → IsAlone then other)
      → ((id : ℕ) (f : FileState) → slice_get d.files id ≡ Some f → slice_get files id ≡ Some f) → length d.files ≤ length files
      → finmap.get (names_now then) path ≢ Some Folder_node → ChangesAt path d then
  op_at still kept more flat = record {
    now = then_same;
    cuts = λ k. ⊎_elim
        (λ short. inl (k, short))
        (λ long. inr (λ other differs. ap (λ (names : Names). finmap.get names other) long ∙ then_same other differs))
        (then_cuts k);
    files = λ other id f differs is. record { named = then_same other differs ∙ is.named; file = kept id f is.file };
    alone = still;
    quiet = λ other differs is. All-push (OpSpares other) d.pending op is (spares other differs);
    fewer = more;
    no_folder = λ never k is. ⊎_elim
        (λ short. never k (ap (λ (names : Names). finmap.get names path) (sym short) ∙ is))
        (λ long. flat (ap (λ (names : Names). finmap.get names path) (sym long) ∙ is))
        (then_cuts k);
  }

-- a file is made, where no name leads to a file that wasn't
module _ (path : List ℕ) (d : State) (lead : LeadToFiles d) where
  abbrev count : ℕ
  count = length d.files

  abbrev putting : NameOp
  putting = Put path (File_node count)

  abbrev made : State
  made = after d (Created path)

  made_same : (other : List ℕ) → other ≢ path → finmap.get (names_now made) other ≡ finmap.get (names_now d) other
  made_same other differs = then_same path d putting (λ o differ. differ) (d.files ++ new_file ∷ []) other differs

  made_there : finmap.get (names_now made) path ≡ Some (File_node count)
  made_there = ap (λ (names : Names). finmap.get names path) (all_push d.pending putting d.durable) ∙ get_put
      (names_now d) path (File_node count)

  fewer_than : (k : ℕ) (other : List ℕ) (id : ℕ) → finmap.get (cut_names d k) other ≡ Some (File_node id) → id < count
  fewer_than k other id leads = (lead k).made other id leads

  -- no name of before leads to the new file
  never_new : (k : ℕ) (other : List ℕ) → finmap.get (cut_names d k) other ≢ Some (File_node count)
  never_new k other leads = let less : count < count = fewer_than k other count leads in omega (arith, less)

  new_only : (k id : ℕ) (other : List ℕ) → count ≡ id → finmap.get (cut_names made k) other ≡ Some (File_node id) → other ≡ path
  new_only k id other same leads = ⊎_elim
      (λ short. absurd (never_new k other (ap (λ (names : Names). finmap.get names other) (sym short) ∙ leads ∙ ap
      (λ (n : ℕ). Some (File_node n)) (sym same))))
      (λ long. ⊎_elim
      (λ is. is)
      (λ differs. absurd (never_new (length d.pending) other
      (at_cut d other (Some (File_node count)) (sym (made_same other differs) ∙ ap (λ (names : Names). finmap.get names other)
      (sym long) ∙ leads ∙ ap (λ (n : ℕ). Some (File_node n)) (sym same)))))
      (path_cases other path))
      (then_cuts path d putting (λ o differ. differ) (d.files ++ new_file ∷ []) k)

  -- the new file has no other name
  pub made_alone : IsAlone made path
  made_alone = record {
    only = λ id k other at leads. new_only k id other
        (file_once count id (sym made_there ∙ node_is (finmap.get (names_now made) path) id at)) leads;
  }

  old_alone : (other : List ℕ) → other ≢ path → IsAlone d other → IsAlone made other
  old_alone other differs is = record {
    only = λ id k another at leads. by id k another
        (sym (ap id_of (made_same other differs)) ∙ at) leads;
  }
    where
      by : (id k : ℕ) (another : List ℕ) → file_at d other ≡ Some id
          → finmap.get (cut_names made k) another ≡ Some (File_node id) → another ≡ other
      by id k another at leads = ⊎_elim
          (λ short. is.only id k another at (ap (λ (names : Names). finmap.get names another) (sym short) ∙ leads))
          (λ long. ⊎_elim
          (λ same. absurd (never_new (length d.pending) other
          (at_cut d other (Some (File_node count)) (node_is (finmap.get (names_now d) other) id at
          ∙ sym leads ∙ ap (λ (names : Names). finmap.get names another) long ∙ ap (finmap.get (names_now made)) same ∙ made_there))))
          (λ apart. is.only id (length d.pending) another at
          (at_cut d another (Some (File_node id)) (sym (made_same another apart) ∙ ap
          (λ (names : Names). finmap.get names another) (sym long) ∙ leads)))
          (path_cases another path))
          (then_cuts path d putting (λ o differ. differ) (d.files ++ new_file ∷ []) k)

  -- what a name may lead to then is a file of before, or at the path the new one
  made_cases : (k id : ℕ) (other : List ℕ) → finmap.get (cut_names made k) other ≡ Some (File_node id)
      → ((j : ℕ) × (finmap.get (cut_names d j) other ≡ Some (File_node id))) ⊎ ((other ≡ path) × (count ≡ id))
  made_cases k id other leads = ⊎_elim
      (λ short. inl (k, ap (λ (names : Names). finmap.get names other) (sym short) ∙ leads))
      (λ long. ⊎_elim
      (λ same. inr (
        same,
        file_once count id (sym made_there ∙ ap (finmap.get (names_now made)) (sym same) ∙ ap
            (λ (names : Names). finmap.get names other) (sym long) ∙ leads),
      ))
      (λ differs. inl (
        length d.pending,
        at_cut d other (Some (File_node id))
            (sym (made_same other differs) ∙ ap (λ (names : Names). finmap.get names other) (sym long) ∙ leads),
      ))
      (path_cases other path))
      (then_cuts path d putting (λ o differ. differ) (d.files ++ new_file ∷ []) k)

  one_more : length (d.files ++ new_file ∷ []) ≡ count + 1
  one_more = length-append d.files (new_file ∷ [])

  pub made_lead : LeadToFiles made
  made_lead k = record {
    made = λ other id leads. ⊎_elim
        (λ old. omega (arith, one_more, fewer_than old.0 other id old.1))
        (λ new. omega (arith, one_more, new.1))
        (made_cases k id other leads);
  }

  -- a name that alone may lead to a file still does, where it is the path
  pub made_only : (id : ℕ) → ((k : ℕ) (other : List ℕ) → finmap.get (cut_names d k) other ≡ Some (File_node id) → other ≡ path)
      → (k : ℕ) (other : List ℕ)
      → finmap.get (cut_names made k) other ≡ Some (File_node id) → other ≡ path
  made_only id only k other leads = ⊎_elim (λ old. only old.0 other old.1) (λ new. new.0) (made_cases k id other leads)

  pub made_at : ChangesAt path d made
  made_at = op_at path d putting (λ other differs. differs) (d.files ++ new_file ∷ [])
      (λ other is. ⊎_elim (λ same. subst_alone other same) (λ differs. old_alone other differs is) (path_cases other path))
      (λ id f is. get_before d.files (new_file ∷ []) id f is)
      (omega (arith, length-append d.files (new_file ∷ [])))
      (λ is. file_no_folder count (sym made_there ∙ is))
    where
      subst_alone : (other : List ℕ) → other ≡ path → IsAlone made other
      subst_alone other same = record {
        only = λ id k another at leads.
            (made_alone.only id k another (ap (file_at made) (sym same) ∙ at) leads) ∙ sym same;
      }

-- a file's name is taken away
module _ (path : List ℕ) (d : State) where
  abbrev gone : State
  gone = after d (Named (Gone path))

  gone_same : (other : List ℕ) → other ≢ path → finmap.get (names_now gone) other ≡ finmap.get (names_now d) other
  gone_same other differs = then_same path d (Gone path) (λ o differ. differ) d.files other differs

  gone_there : finmap.get (names_now gone) path ≡ None
  gone_there = ap (λ (names : Names). finmap.get names path) (all_push d.pending (Gone path) d.durable) ∙ get_gone (names_now d) path

  gone_alone : (other : List ℕ) → IsAlone d other → IsAlone gone other
  gone_alone other is = record { only = λ id k another at leads. by id k another at leads (path_cases other path) }
    where
      led : (id k : ℕ) (another : List ℕ) → file_at d other ≡ Some id
          → finmap.get (cut_names gone k) another ≡ Some (File_node id) → another ≡ other
      led id k another at leads = ⊎_elim
          (λ short. is.only id k another at (ap (λ (names : Names). finmap.get names another) (sym short) ∙ leads))
          (λ long. ⊎_elim
          (λ same. absurd (no_node (File_node id) (sym gone_there ∙ ap (finmap.get (names_now gone)) (sym same) ∙ ap
          (λ (names : Names). finmap.get names another) (sym long) ∙ leads)))
          (λ apart. is.only id (length d.pending) another at
          (at_cut d another (Some (File_node id)) (sym (gone_same another apart) ∙ ap
          (λ (names : Names). finmap.get names another) (sym long) ∙ leads)))
          (path_cases another path))
          (then_cuts path d (Gone path) (λ o differ. differ) d.files k)

      by : (id k : ℕ) (another : List ℕ) → file_at gone other ≡ Some id
          → finmap.get (cut_names gone k) another ≡ Some (File_node id) → (other ≡ path) ⊎ (other ≢ path) → another ≡ other
      by id k another at leads (inl same) = let clash : None ≡ Some id =
          sym (ap id_of gone_there) ∙ ap (file_at gone) (sym same) ∙ at in absurd (cc)
      by id k another at leads (inr differs) = led id k another (sym (ap id_of (gone_same other differs)) ∙ at) leads

  pub gone_at : ChangesAt path d gone
  gone_at = op_at path d (Gone path) (λ other differs. differs) d.files gone_alone (λ id f is. is) (omega arith)
      (λ is. no_node Folder_node (sym gone_there ∙ is))

-- ---- what stays of other files

file_contents : (fs : List FileState) (id : ℕ) (f : FileState) → slice_get fs id ≡ Some f
    → slice_get (contents_of fs) id ≡ Some (bytes_of f)
file_contents [] id f is = absurd (cc)
file_contents (g ∷ fs) zero f is = ap bytes is
  where
    bytes : Option FileState → Option (List ℕ)
    bytes None = None
    bytes (Some h) = Some (bytes_of h)
file_contents (g ∷ fs) (suc id) f is = file_contents fs id f is

contents_file : (fs : List FileState) (id : ℕ) (held : List ℕ) → slice_get (contents_of fs) id ≡ Some held
    → (f : FileState) × (slice_get fs id ≡ Some f) × (bytes_of f ≡ held)
contents_file [] id held is = absurd (cc)
contents_file (f ∷ fs) zero held is = (f, refl, once (bytes_of f) held is)
  where
    once : (x y : List ℕ) → Some x ≡ Some y → x ≡ y
    once x y same = cc
contents_file (f ∷ fs) (suc id) held is = contents_file fs id held is

-- the bytes of a path are those of a file
pub file_of : (d : State) (path held : List ℕ) → bytes_at (tree_now d) path ≡ Some held
    → (id : ℕ) × (f : FileState) × IsFileNow d path id f × (bytes_of f ≡ held)
file_of d path held is = by (finmap.get (names_now d) path) refl is
  where
    by : (node : Option Node) → finmap.get (names_now d) path ≡ node → bytes_by (id_of node) (tree_now d) ≡ Some held
        → (id : ℕ) × (f : FileState) × IsFileNow d path id f × (bytes_of f ≡ held)
    by None at has = absurd (cc)
    by (Some Folder_node) at has = absurd (cc)
    by (Some (File_node id)) at has = let found = contents_file d.files id held has in
        (id, found.0, record { named = at; file = found.1 }, found.2)

pub bytes_now : (d : State) (path : List ℕ) (id : ℕ) (f : FileState) → IsFileNow d path id f
    → bytes_at (tree_now d) path ≡ Some (bytes_of f)
bytes_now d path id f is = ap (λ (node : Option Node). bytes_by (id_of node) (tree_now d)) is.named ∙ file_contents d.files id f is.file

module _ (path : List ℕ) (d later : State) (at : ChangesAt path d later) (other : List ℕ) (differs : other ≢ path) where
  pub file_stays : file_at later other ≡ file_at d other
  file_stays = ap id_of (at.now other differs)

  pub bytes_stay : (held : List ℕ) → bytes_at (tree_now d) other ≡ Some held → bytes_at (tree_now later) other ≡ Some held
  bytes_stay held is = let found = file_of d other held is in bytes_now later other found.0 found.1
      (at.files other found.0 found.1 differs found.2) ∙ ap Some found.3

  -- what a crash leaves of the name then, one may leave before
  pub some_cut : (k : ℕ) → (j : ℕ) × (finmap.get (cut_names later k) other ≡ finmap.get (cut_names d j) other)
  some_cut k = ⊎_elim
      (λ old. (old.0, ap (λ (names : Names). finmap.get names other) old.1))
      (λ same. (length d.pending, same other differs ∙ sym (at_cut d other (finmap.get (names_now d) other) refl)))
      (at.cuts k)

  pub kept_name_stays : (what : Option Node) → IsKeptName d other what → IsKeptName later other what
  kept_name_stays what is k = let was = some_cut k in was.1 ∙ is was.0

  pub kept_file_stays : (id : ℕ) (f : FileState) → IsKeptFile d other id f → IsKeptFile later other id f
  kept_file_stays id f is = record {
    named = kept_name_stays (Some (File_node id)) is.named;
    file = (at.files other id f differs (kept_file_now d other id f is)).file;
  }

  pub whole_stays : (held : List ℕ) → IsWholeFile d other held → IsWholeFile later other held
  whole_stays held is = record { id = is.id; file = kept_file_stays is.id _ is.file }
