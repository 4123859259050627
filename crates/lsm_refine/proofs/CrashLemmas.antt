-- An image of a good store's disk reads as a state that a crash leaves.
use Rattle.std.specs.Prelude.{◌≡◌, ◌≢◌, ℕ, Bool, true, false, cond, not, ◌&&◌, is_some, List, [], ◌∷◌, take, length, All, Option, Some, None, option_map, Err}
use Rattle.std.proofs.Common.{refl, sym, ap, subst, ◌∙◌, arith}
use Rattle.std.proofs.lemmas.List.{append-nil, take_all}
use Rattle.std.proofs.lemmas.List.Elements.{All-nil, All-cons, All-head, All-tail}
use Rattle.std.specs.Ordering.{eq_by_cmp}
use Rattle.std.specs.Str.{bytes_eq}
use Rattle.std.specs.FinMap as finmap
use Rattle.lsm_names.specs.Folders.{is_folder_name}
use Rattle.lsm_rows.specs.declared.operations.Op.{Op}
use Rattle.lsm_rows.specs.Replay.{replayed, sequence_after}
use Rattle.lsm_disk.specs.Names.{Node, path_cmp, stands}
use Rattle.lsm_disk.specs.State as disk
use Rattle.lsm_disk.specs.State.{state_of}
use Rattle.lsm_disk.specs.Images.{Tree, IsImage, tree_now}
use Rattle.lsm_disk.proofs.Lawful.{get_named}
use Rattle.lsm_disk.proofs.Paths.{same_path, path_itself}
use Rattle.lsm_folder.specs.Files.{Place, files_in}
use Rattle.lsm_folder.proofs.FileLemmas.{no_place, alike}
use Rattle.lsm_folder.proofs.NameLemmas.{same_text, equal_texts}
use Rattle.lsm_folder.specs.Needed.{Stands}
use Rattle.lsm_folder.specs.Reading.{reading}
use Rattle.lsm_model.specs.declared.errors.StoreError.TheVariants as error
use Rattle.lsm_model.specs.declared.states.State.{State}
use Rattle.lsm_model.specs.declared.states.FolderRead.{FolderRead}
use Rattle.lsm_model.specs.States.{written, folder_of}
use Rattle.lsm_model.specs.Reads.{known_reading}
use Rattle.lsm_model.specs.Crashes.{KeepsSure, Crashed, closed}
use Rattle.lsm_refine.specs.Kept.{Shown}
use Rattle.lsm_refine.specs.Folders.{StandsFor, StandsFrom, as_shown, folder_reading, FoldersAre, FoldersRead, ReadsAs}
use Rattle.lsm_refine.specs.Good.{Good}
use Rattle.lsm_refine.proofs.GoodLemmas.{good_image}
use Rattle.lsm_names.proofs.FolderLemmas.{folder_has_bytes}

-- ---- equal names

same_test : (name path : List ℕ) → bytes_eq path name ≡ eq_by_cmp path_cmp name path
same_test name path = alike _ _
    (λ e. subst (λ (p : List ℕ). eq_by_cmp path_cmp name p ≡ true) (sym (equal_texts path name e)) (path_itself name))
    (λ e. subst (λ (p : List ℕ). bytes_eq p name ≡ true) (same_path name path e) (same_text name))

-- ---- an entry that is found

pub listed : (own name : List ℕ) (folder : FolderRead) (folders : List FolderRead)
    → All (λ (f : FolderRead). (is_folder_name f.name ≡ true) × (f.name ≢ own)) folders → folder_of name folders ≡ Some folder
    → (folder.name ≡ name) × (is_folder_name folder.name ≡ true) × (folder.name ≢ own)
listed own name folder [] only is = cc
listed own name folder (f ∷ folders) only is =
    elim (bytes_eq f.name name) as (λ b. bytes_eq f.name name ≡ b → cond b (Some f) (folder_of name folders) ≡ Some folder
    → (folder.name ≡ name) × (is_folder_name folder.name ≡ true) × (folder.name ≢ own)) [
      | true ↦ λ same h.
          let found : f ≡ folder = some_once f folder h in
          subst (λ (g : FolderRead). (g.name ≡ name) × (is_folder_name g.name ≡ true) × (g.name ≢ own)) found
          (let fits = All-head (λ (g : FolderRead). (is_folder_name g.name ≡ true) × (g.name ≢ own)) f folders only in
          (equal_texts f.name name same, fits.0, fits.1))
      | false ↦ λ other h. listed own name folder folders (All-tail
          (λ (g : FolderRead). (is_folder_name g.name ≡ true) × (g.name ≢ own)) f folders only) h
    ] refl is
  where
    some_once : (x y : FolderRead) → Some x ≡ Some y → x ≡ y
    some_once x y e = cc

-- ---- the folders of a tree

abbrev was_sure : Option FolderRead → Bool
was_sure None = false
was_sure (Some folder) = folder.sure

module _ (s : State) (t : Tree) where
  abbrev as_read : List ℕ → FolderRead
  as_read name = record { name = name; reading = folder_reading name t; sure = was_sure (folder_of name s.folders) }

  abbrev is_other : List ℕ → Bool
  is_other name = is_folder_name name && not (bytes_eq name s.own)

  abbrev folders_from : List (List ℕ × Node) → List FolderRead
  folders_from [] = []
  folders_from (e ∷ es) = cond (is_other e.0) (as_read e.0 ∷ folders_from es) (folders_from es)

  abbrev pub folders_in : List FolderRead
  folders_in = folders_from (finmap.entries t.names)

  other_by : (a b : Bool) → (a && not b) ≡ true → (a ≡ true) × (b ≡ false)
  other_by true true is = cc
  other_by true false is = (refl, refl)
  other_by false b is = cc

  is_listed : (name : List ℕ) → is_other name ≡ true → (is_folder_name name ≡ true) × (name ≢ s.own)
  is_listed name is =
      let parts = other_by (is_folder_name name) (bytes_eq name s.own) is in
      (parts.0, λ same. let clash : false ≡ true = sym parts.1 ∙ subst (λ (p : List ℕ). bytes_eq name p ≡ true) same (same_text name) in cc)

  other_is : (name : List ℕ) → is_folder_name name ≡ true → name ≢ s.own → is_other name ≡ true
  other_is name fits other =
      ap (λ (b : Bool). b && not (bytes_eq name s.own)) fits
      ∙ elim (bytes_eq name s.own) as (λ b. bytes_eq name s.own ≡ b → not b ≡ true) [
        | true ↦ λ same. absurd (other (equal_texts name s.own same))
        | false ↦ λ differ. refl
      ] refl

  only_from : (es : List (List ℕ × Node)) → All (λ (f : FolderRead). (is_folder_name f.name ≡ true) × (f.name ≢ s.own)) (folders_from es)
  only_from [] = All-nil (λ (f : FolderRead). (is_folder_name f.name ≡ true) × (f.name ≢ s.own))
  only_from (e ∷ es) =
      elim (is_other e.0) as (λ b. is_other e.0 ≡ b → All (λ (f : FolderRead). (is_folder_name f.name ≡ true)
      × (f.name ≢ s.own)) (cond b (as_read e.0 ∷ folders_from es) (folders_from es))) [
        | true ↦ λ is. All-cons (λ (f : FolderRead). (is_folder_name f.name ≡ true) × (f.name ≢ s.own)) (as_read e.0)
            (folders_from es) (is_listed e.0 is) (only_from es)
        | false ↦ λ no_other. only_from es
      ] refl

  module _ (name : List ℕ) (fits : is_folder_name name ≡ true) (other : name ≢ s.own) where
    found_by : (e : List ℕ × Node) (b : Bool) (rest : Option FolderRead) (found : Option Node)
        → eq_by_cmp path_cmp name e.0 ≡ b → rest ≡ option_map (λ (node : Node). as_read name) found
        → cond b (Some (as_read e.0)) rest ≡ option_map (λ (node : Node). as_read name) (cond b (Some e.1) found)
    found_by e true rest found same is = ap (λ (p : List ℕ). Some (as_read p)) (sym (same_path name e.0 same))
    found_by e false rest found differ is = is

    folder_from : (es : List (List ℕ × Node)) → folder_of name (folders_from es)
        ≡ option_map (λ (node : Node). as_read name) (finmap.find path_cmp name es)
    folder_from [] = refl
    folder_from (e ∷ es) =
        elim (is_other e.0) as (λ b. is_other e.0 ≡ b → folder_of name (cond b (as_read e.0 ∷ folders_from es) (folders_from es))
        ≡ option_map (λ (node : Node). as_read name) (cond (eq_by_cmp path_cmp name e.0) (Some e.1) (finmap.find path_cmp name es))) [
          | true ↦ λ is.
              ap (λ (b : Bool). cond b (Some (as_read e.0)) (folder_of name (folders_from es))) (same_test name e.0)
              ∙ found_by e (eq_by_cmp path_cmp name e.0) (folder_of name (folders_from es)) (finmap.find path_cmp name es) refl
              (folder_from es)
          | false ↦ λ none.
              folder_from es
              ∙ sym (ap (λ (b : Bool). option_map (λ (node : Node). as_read name)
              (cond b (Some e.1) (finmap.find path_cmp name es))) (differs e none))
        ] refl
      where
        differs : (e : List ℕ × Node) → is_other e.0 ≡ false → eq_by_cmp path_cmp name e.0 ≡ false
        differs e none =
            elim (eq_by_cmp path_cmp name e.0) as (λ b. eq_by_cmp path_cmp name e.0 ≡ b → b ≡ false) [
              | true ↦ λ same. let clash : true ≡ false = sym (other_is name fits other) ∙ ap is_other
                  (same_path name e.0 same) ∙ none in cc
              | false ↦ λ differ. refl
            ] refl

    folder_is : folder_of name folders_in ≡ option_map (λ (node : Node). as_read name) (finmap.get t.names name)
    folder_is = folder_from (finmap.entries t.names) ∙ ap (option_map (λ (node : Node). as_read name))
        (sym (finmap.get-entries t.names name))

    -- where nothing stands there is no folder to read
    nothing_read : finmap.get t.names name ≡ None → folder_reading name t ≡ Err (error.NoFolder name)
    unfolding folder_reading
    nothing_read is =
        let free : stands t.names name ≡ None = sym (get_named t.names name
        (λ empty. omega (arith, folder_has_bytes name fits, ap (λ (p : List ℕ). length p) empty))) ∙ is in
        ap (λ (place : Place). as_shown name (reading place)) (no_place name t free)

    reads_by : (node : Option Node) → finmap.get t.names name ≡ node
        → folder_reading name t ≡ known_reading name (option_map (λ (n : Node). as_read name) node)
    reads_by None is = nothing_read is
    reads_by (Some node) is = refl

    reads : folder_reading name t ≡ known_reading name (folder_of name folders_in)
    reads = reads_by (finmap.get t.names name) refl ∙ ap (known_reading name) (sym folder_is)

    some_of : (node : Option Node) → is_some (option_map (λ (n : Node). as_read name) node) ≡ is_some node
    some_of None = refl
    some_of (Some node) = refl

    taken : is_some (folder_of name folders_in) ≡ is_some (finmap.get t.names name)
    taken = ap is_some folder_is ∙ some_of (finmap.get t.names name)

    sure_by : (folder : FolderRead) (node : Option Node) → is_some node ≡ true → as_read name ≡ folder
        → option_map (λ (n : Node). as_read name) node ≡ Some folder
    sure_by folder None there same = cc
    sure_by folder (Some node) there same = ap Some same

  pub folders_are : FoldersAre s.own folders_in t
  folders_are = record { only = only_from (finmap.entries t.names); reads = reads; taken = taken }

  pub keeps_sure : (d : disk.State) → IsImage d t → FoldersRead d s → KeepsSure s.folders folders_in
  keeps_sure d i are name folder found is_sure =
      let entry = listed s.own name folder s.folders are.now.only found in
      let sure = are.sure name folder found is_sure in
      let fits : is_folder_name name ≡ true = subst (λ (p : List ℕ). is_folder_name p ≡ true) entry.0 entry.1 in
      let other : name ≢ s.own = subst (λ (p : List ℕ). p ≢ s.own) entry.0 entry.2 in
      let there : is_some (finmap.get t.names name) ≡ true =
      subst (λ (p : List ℕ). is_some (finmap.get t.names p) ≡ true) entry.0 (sure.there t i) in
      let is_read : folder_reading name t ≡ folder.reading =
      subst (λ (p : List ℕ). folder_reading p t ≡ folder.reading) entry.0 (sure.reads t i) in
      let marked : was_sure (folder_of name s.folders) ≡ folder.sure = ap was_sure found in
      let same : as_read name ≡ folder = λ j. record { name = sym entry.0 j; reading = is_read j; sure = marked j } in
      folder_is name fits other ∙ sure_by name fits other folder (finmap.get t.names name) there same

  -- where no folder was known, none is marked as sure
  unsure : s.folders ≡ [] → (name : List ℕ) (folder : FolderRead) → folder_of name folders_in ≡ Some folder → folder.sure ≡ false
  unsure none name folder found =
      let entry = listed s.own name folder folders_in folders_are.only found in
      let fits : is_folder_name name ≡ true = subst (λ (p : List ℕ). is_folder_name p ≡ true) entry.0 entry.1 in
      let other : name ≢ s.own = subst (λ (p : List ℕ). p ≢ s.own) entry.0 entry.2 in
      let unmarked : was_sure (folder_of name s.folders) ≡ false =
      ap (λ (folders : List FolderRead). was_sure (folder_of name folders)) none in
      by_node name folder unmarked (finmap.get t.names name) (sym (folder_is name fits other) ∙ found)
    where
      by_node : (name : List ℕ) (folder : FolderRead) → was_sure (folder_of name s.folders) ≡ false → (node : Option Node)
          → option_map (λ (n : Node). as_read name) node ≡ Some folder → folder.sure ≡ false
      by_node name folder unmarked None is = cc
      by_node name folder unmarked (Some node) is = ap (λ (o : Option FolderRead). was_sure o) (sym is) ∙ unmarked

  -- ---- what a crash leaves

  module _ (front : StandsFrom s s.durable t) where
    abbrev pub after_crash : State
    after_crash = record (closed s) {
      accepted = take front.count (written s);
      durable = length (take front.count (written s));
      folders = folders_in;
    }

    all_of_it : take front.count (written s) ≡ take (length (take front.count (written s))) (written after_crash)
    all_of_it =
        sym (take_all (length (take front.count (written s))) (take front.count (written s)) (omega arith))
        ∙ ap (λ (l : List (List Op)). take (length (take front.count (written s))) l) (sym (append-nil (take front.count (written s))))

    pub stands_after : StandsFor after_crash t (length after_crash.accepted)
    stands_after = record {
      folder = front.stands.folder;
      stands = subst (λ (l : List (List Op)). Stands (files_in s.own t) (replayed s.opening l)
          (sequence_after s.began l)) all_of_it front.stands.stands;
    }

    reads_after : ReadsAs t after_crash
    reads_after = record { own = stands_after; others = folders_are }

    pub crashed : (d : disk.State) → IsImage d t → FoldersRead d s → Crashed s after_crash
    crashed d i are = record {
      kept = front.count;
      durable = front.enough;
      accepted = refl;
      all = refl;
      folders = keeps_sure d i are;
      rest = refl;
    }

-- an image in which the store's own folder stands for such a front, and the sure folders read as they did
pub front_reads : (d : disk.State) (s : State) (t : Tree) → IsImage d t → FoldersRead d s → StandsFrom s s.durable t
    → (c : State) × Crashed s c × ReadsAs t c
front_reads d s t i are front = (after_crash s t front, crashed s t front d i are, reads_after s t front)

pub image_reads : (v : Shown) (s : State) (good : Good v s) (t : Tree) → IsImage (state_of good.story) t
    → (c : State) × Crashed s c × ReadsAs t c
image_reads v s good t i = front_reads (state_of good.story) s t i good.folders (good_image v s good t i)

-- the other folders of any disk can be listed
pub list_folders : (d : disk.State) (s : State) → s.folders ≡ []
    → (folders : List FolderRead) × FoldersRead d (record s { folders = folders })
list_folders d s none = (
  folders_in s (tree_now d),
  record {
    now = folders_are s (tree_now d);
    sure = λ name folder found sure. let clash : false ≡ true = sym (unsure s (tree_now d) none name folder found) ∙ sure in absurd (cc);
  },
)
