-- What changes in the store's own folder alone leaves the other folders.
use Rattle.std.specs.Prelude.{◌≡◌, ◌≢◌, ℕ, zero, suc, ◌≤◌, true, is_some, List, [], ◌∷◌, ◌++◌, take, length, slice_get, unwrap_or, Option, Some, None, option_map}
use Rattle.std.proofs.Common.{⊎_elim, refl, sym, ap, subst, ◌∙◌, arith}
use Rattle.std.proofs.lemmas.List.{append-nil}
use Rattle.std.specs.FinMap as finmap
use Rattle.lsm_names.specs.Folders.{is_folder_name}
use Rattle.lsm_names.specs.FileNames.{IsFileName, spelled}
use Rattle.lsm_names.specs.Paths.{parent_of}
use Rattle.lsm_names.specs.declared.file_names.FileName.{FileName}
use Rattle.lsm_names.proofs.FileNameLemmas.{spelled_is_component}
use Rattle.lsm_names.proofs.PathLemmas.{parent_of_joined}
use Rattle.lsm_names.proofs.Roots.{in_root}
use Rattle.lsm_disk.specs.Names.{Node, Folder_node, File_node, NameOp, Put, Gone, Names, named, all_named, stands}
use Rattle.lsm_disk.specs.State as disk
use Rattle.lsm_disk.specs.State.{FileState, Change, Created, Named, Appended, Synced, Names_synced, Idle, after, file_at, names_now, new_file, bytes_of, longer, sure, in_file}
use Rattle.lsm_disk.specs.Kept.{HasNew, OpSpares, SparesName}
use Rattle.lsm_disk.specs.Images.{Tree, IsImage, AreCut, contents_of, tree_now}
use Rattle.lsm_disk.specs.Dest.{path_in}
use Rattle.lsm_disk.proofs.Images.{reads_image, all_push, named_image, created_image, synced_image, names_synced_image}
use Rattle.lsm_disk.proofs.Paths.{get_spared}
use Rattle.lsm_disk.proofs.Lawful.{get_named}
use Rattle.lsm_disk.proofs.Now.{contents_other, names_after}
use Rattle.lsm_folder.specs.Files.{Files, Item, A_file, item_of, item_at, files_in, place_by, place_of}
use Rattle.lsm_folder.specs.Names.{names_total, names_exact}
use Rattle.lsm_folder.proofs.FileLemmas.{files_are, file_names}
use Rattle.lsm_folder.specs.Reading.{reading}
use Rattle.lsm_model.specs.declared.states.State.{State}
use Rattle.lsm_model.specs.declared.states.FolderRead.{FolderRead}
use Rattle.lsm_model.specs.States.{folder_of}
use Rattle.lsm_refine.specs.Folders.{as_shown, folder_reading, FoldersAre, IsSure, FoldersRead, AreAlikeOutside, ChangesInside, SparesOutside, AppendsInside}
use Rattle.lsm_refine.proofs.CrashLemmas.{listed}
use Rattle.lsm_names.proofs.FolderLemmas.{folder_has_bytes}

-- ---- folders with the same files read alike

module _ (t u : Tree) (name : List ℕ) (some : 1 ≤ length name)
    (items : (file : FileName) → IsFileName file → item_at u (path_in name file) ≡ item_at t (path_in name file)) where
  at_name : (file : FileName) → IsFileName file → finmap.get (files_in name u) file ≡ finmap.get (files_in name t) file
  at_name file fits = files_are name u file some fits ∙ items file fits ∙ sym (files_are name t file some fits)

  by_items : (file : FileName) (new old : Option Item) → finmap.get (files_in name u) file ≡ new
      → finmap.get (files_in name t) file ≡ old → finmap.get (files_in name u) file ≡ finmap.get (files_in name t) file
  by_items file (Some item) old is was = at_name file (file_names name u file item some is)
  by_items file None (Some item) is was = at_name file (file_names name t file item some was)
  by_items file None None is was = is ∙ sym was

  pub files_same : files_in name u ≡ files_in name t
  files_same = finmap.same_map names_total names_exact (files_in name u) (files_in name t)
      (λ file. by_items file (finmap.get (files_in name u) file) (finmap.get (files_in name t) file) refl refl)

  reading_same : finmap.get u.names name ≡ finmap.get t.names name → folder_reading name u ≡ folder_reading name t
  unfolding folder_reading place_of
  reading_same same =
      let named : [] ≢ name = λ empty. omega (arith, some, ap (λ (p : List ℕ). length p) empty) in
      let node : stands u.names name ≡ stands t.names name = sym (get_named u.names name named) ∙ same ∙ get_named t.names name named in
      ap (λ (n : Option Node). as_shown name (reading (place_by n (files_in name u)))) node
      ∙ ap (λ (files : Files). as_shown name (reading (place_by (stands t.names name) files))) files_same

-- ---- so the other folders read as they did

module _ (own : List ℕ) (t u : Tree) (alike : AreAlikeOutside own t u) (name : List ℕ) (fits : is_folder_name name ≡ true)
    (other : name ≢ own) where
  pub outside_reading : folder_reading name u ≡ folder_reading name t
  outside_reading = reading_same t u name (folder_has_bytes name fits) (λ file is. alike.items name file fits other is)
      (alike.names name fits other)

  pub outside_there : is_some (finmap.get u.names name) ≡ is_some (finmap.get t.names name)
  outside_there = ap is_some (alike.names name fits other)

pub folders_alike : (own : List ℕ) (folders : List FolderRead) (t u : Tree) → AreAlikeOutside own t u
    → FoldersAre own folders t → FoldersAre own folders u
folders_alike own folders t u alike are = record {
  only = are.only;
  reads = λ name fits other. outside_reading own t u alike name fits other ∙ are.reads name fits other;
  taken = λ name fits other. are.taken name fits other ∙ sym (outside_there own t u alike name fits other);
}

module _ (d later : disk.State) (s : State) (changes : ChangesInside s.own d later) (are : FoldersRead d s) where
  sure_still : (name : List ℕ) (folder : FolderRead) → folder_of name s.folders ≡ Some folder → folder.sure ≡ true → IsSure later folder
  sure_still name folder found is_sure =
      let entry = listed s.own name folder s.folders are.now.only found in
      let sure = are.sure name folder found is_sure in
      record {
        there = λ u i. let before = changes.images u i in outside_there s.own before.0 u before.2 folder.name entry.1 entry.2 ∙ sure.there before.0 before.1;
        reads = λ u i. let before = changes.images u i in outside_reading s.own before.0 u before.2 folder.name entry.1 entry.2 ∙ sure.reads before.0 before.1;
      }

  pub folders_stay : FoldersRead later s
  folders_stay = record { now = folders_alike s.own s.folders (tree_now d) (tree_now later) changes.now are.now; sure = sure_still }

-- ---- an append to a file of its own

-- paths of files lead back to their folders
pub same_folder : (one two : List ℕ) (a b : FileName) → IsFileName a → IsFileName b → path_in one a ≡ path_in two b → one ≡ two
same_folder one two a b first second same =
    sym (parent_of_joined one (spelled a) (spelled_is_component a first)) ∙ ap parent_of same ∙ parent_of_joined two
    (spelled b) (spelled_is_component b second)

-- a cut of files of which one was longer is, but for that one, a cut of the files before
cuts_before : (more : List ℕ) (fs : List FileState) (id : ℕ) (bs : List (List ℕ)) → AreCut (in_file (longer more) id fs) bs
    → (cs : List (List ℕ)) × AreCut fs cs × ((k : ℕ) → k ≢ id → slice_get bs k ≡ slice_get cs k)
cuts_before more [] id bs cut = (bs, cut, λ k other. refl)
cuts_before more (f ∷ fs) zero [] cut = absurd cut
cuts_before more (f ∷ fs) zero (b ∷ bs) cut =
    (f.synced ∷ bs, (record { kept = 0; is = sym (append-nil f.synced) }, cut.1), but_first)
  where
    but_first : (k : ℕ) → k ≢ zero → slice_get (b ∷ bs) k ≡ slice_get (f.synced ∷ bs) k
    but_first zero other = absurd (other refl)
    but_first (suc k) other = refl
cuts_before more (f ∷ fs) (suc id) [] cut = absurd cut
cuts_before more (f ∷ fs) (suc id) (b ∷ bs) cut =
    let rest = cuts_before more fs id bs cut.1 in
    (b ∷ rest.0, (cut.0, rest.1), but_later rest.0 rest.2)
  where
    but_later : (cs : List (List ℕ)) → ((k : ℕ) → k ≢ id → slice_get bs k ≡ slice_get cs k) → (k : ℕ) → k ≢ suc id
        → slice_get (b ∷ bs) k ≡ slice_get (b ∷ cs) k
    but_later cs same zero other = refl
    but_later cs same (suc k) other = same k (λ is. other (ap suc is))

-- an item whose file has the same bytes
same_item : (bs cs : List (List ℕ)) (id : ℕ) (node : Option Node) → (node ≢ Some (File_node id))
    → ((k : ℕ) → k ≢ id → slice_get bs k ≡ slice_get cs k) → option_map (item_of bs) node ≡ option_map (item_of cs) node
same_item bs cs id None other same = refl
same_item bs cs id (Some Folder_node) other same = refl
same_item bs cs id (Some (File_node k)) other same = ap (λ (o : Option (List ℕ)). Some (A_file (unwrap_or o [])))
    (same k (λ is. other (ap (λ (n : ℕ). Some (File_node n)) is)))

module _ (d : disk.State) (own : List ℕ) (id : ℕ) (more : List ℕ)
    (elsewhere : (k : ℕ) (name : List ℕ) (n : FileName) → is_folder_name name ≡ true → name ≢ own → IsFileName n
    → finmap.get (all_named (take k d.pending) d.durable) (path_in name n) ≢ Some (File_node id)) where
  abbrev later : disk.State
  later = after d (Appended id more)

  alike_by : (k : ℕ) (names : Names) (bs cs : List (List ℕ)) → names ≡ all_named (take k d.pending) d.durable
      → ((n : ℕ) → n ≢ id → slice_get bs n ≡ slice_get cs n)
      → AreAlikeOutside own (record { names = names; contents = cs }) (record { names = names; contents = bs })
  alike_by k names bs cs is same = record {
    names = λ name ok other. refl;
    items = λ name n ok other named. same_item bs cs id (finmap.get names (path_in name n))
        (λ leads. elsewhere k name n ok other named (ap (λ (m : Names). finmap.get m (path_in name n)) (sym is) ∙ leads)) same;
  }

  pub append_inside : ChangesInside own d later
  append_inside = record {
    now = alike_by (reads_image d).kept (names_now d) (contents_of later.files) (contents_of d.files) (reads_image d).names
        (λ k other. contents_other (longer more) d.files k id other);
    images = λ u i. let old = cuts_before more d.files id u.contents i.files in (
      record { names = u.names; contents = old.0 },
      record {
        kept = i.kept;
        names = i.names;
        files = old.1;
      },
      alike_by i.kept u.names u.contents old.0 i.names old.2,
    );
  }

-- ---- any change

alike_itself : (own : List ℕ) (t : Tree) → AreAlikeOutside own t t
alike_itself own t = record { names = λ name fits other. refl; items = λ name file fits other is. refl }

-- names that are spared, with the same bytes
alike_named : (own : List ℕ) (c : Change) (spares : SparesOutside own c) (before after_it : Names) (bs : List (List ℕ))
    → ((path : List ℕ) → SparesName path c → finmap.get after_it path ≡ finmap.get before path)
    → AreAlikeOutside own (record { names = before; contents = bs }) (record { names = after_it; contents = bs })
alike_named own c spares before after_it bs same = record {
  names = λ name fits other. same name (spares.names name fits other);
  items = λ name file fits other is. ap (option_map (item_of bs)) (same (path_in name file) (spares.files name file fits other is));
}

-- a new file has no bytes, as one that isn't there
new_bytes : (bs : List (List ℕ)) (id : ℕ) → unwrap_or (slice_get (bs ++ [] ∷ []) id) [] ≡ unwrap_or (slice_get bs id) []
new_bytes [] zero = refl
new_bytes [] (suc id) = refl
new_bytes (b ∷ bs) zero = refl
new_bytes (b ∷ bs) (suc id) = new_bytes bs id

pub new_item : (bs : List (List ℕ)) (node : Option Node) → option_map (item_of (bs ++ [] ∷ [])) node ≡ option_map (item_of bs) node
new_item bs None = refl
new_item bs (Some Folder_node) = refl
new_item bs (Some (File_node id)) = ap (λ (b : List ℕ). Some (A_file b)) (new_bytes bs id)

alike_created : (own : List ℕ) (c : Change) (spares : SparesOutside own c) (before after_it : Names) (bs : List (List ℕ))
    → ((path : List ℕ) → SparesName path c → finmap.get after_it path ≡ finmap.get before path)
    → AreAlikeOutside own (record { names = before; contents = bs }) (record { names = after_it; contents = bs ++ [] ∷ [] })
alike_created own c spares before after_it bs same = record {
  names = λ name fits other. same name (spares.names name fits other);
  items = λ name file fits other is. new_item bs (finmap.get after_it (path_in name file)) ∙ ap (option_map (item_of bs))
      (same (path_in name file) (spares.files name file fits other is));
}

pub sure_contents : (fs : List FileState) (id : ℕ) → contents_of (in_file sure id fs) ≡ contents_of fs
sure_contents [] id = refl
sure_contents (f ∷ fs) zero = ap (λ (b : List ℕ). b ∷ contents_of fs) (append-nil (bytes_of f))
sure_contents (f ∷ fs) (suc id) = ap (λ (bs : List (List ℕ)). bytes_of f ∷ bs) (sure_contents fs id)

new_contents : (fs : List FileState) → contents_of (fs ++ new_file ∷ []) ≡ contents_of fs ++ [] ∷ []
new_contents [] = refl
new_contents (f ∷ fs) = ap (λ (bs : List (List ℕ)). bytes_of f ∷ bs) (new_contents fs)

module _ (own : List ℕ) (d : disk.State) where
  named_inside : (op : NameOp) → SparesOutside own (Named op) → ChangesInside own d (after d (Named op))
  named_inside op spares = record {
    now = subst (λ (names : Names). AreAlikeOutside own (tree_now d)
        (record { names = names; contents = contents_of d.files })) (sym (names_after d op))
        (alike_named own (Named op) spares (names_now d) (named op (names_now d)) (contents_of d.files) same);
    images = λ u i. ⊎_elim
        (λ before. (u, before, alike_itself own u))
        (λ shown. (
          record { names = names_now d; contents = u.contents },
          record { kept = (reads_image d).kept; names = (reads_image d).names; files = shown.cut },
          subst (λ (names : Names). AreAlikeOutside own (record { names = names_now d; contents = u.contents })
              (record { names = names; contents = u.contents })) (sym shown.names)
              (alike_named own (Named op) spares (names_now d) (named op (names_now d)) u.contents same),
        ))
        (named_image d op u i);
  }
    where
      same : (path : List ℕ) → OpSpares path op → finmap.get (named op (names_now d)) path ≡ finmap.get (names_now d) path
      same path spared = get_spared path op (names_now d) spared

  abbrev putting : List ℕ → NameOp
  putting path = Put path (File_node (length d.files))

  created_inside : (path : List ℕ) → SparesOutside own (Created path) → ChangesInside own d (after d (Created path))
  created_inside path spares = record {
    now = subst (λ (bs : List (List ℕ)). AreAlikeOutside own (tree_now d)
        (record { names = names_now (after d (Created path)); contents = bs })) (sym (new_contents d.files))
        (subst (λ (names : Names). AreAlikeOutside own (tree_now d)
        (record { names = names; contents = contents_of d.files ++ [] ∷ [] })) (sym (all_push d.pending (putting path) d.durable))
        (alike_created own (Created path) spares (names_now d) (named (putting path) (names_now d)) (contents_of d.files) same));
    images = λ u i. in_image u (created_image d path u i);
  }
    where
      same : (other : List ℕ) → other ≢ path → finmap.get (named (putting path) (names_now d)) other ≡ finmap.get (names_now d) other
      same other differs = get_spared other (putting path) (names_now d) differs

      in_image : (u : Tree) → HasNew d path u → (t : Tree) × IsImage d t × AreAlikeOutside own t u
      in_image u new = (
        new.before,
        new.was,
        subst (λ (bs : List (List ℕ)). AreAlikeOutside own new.before (record { names = u.names; contents = bs })) (sym new.contents)
            (⊎_elim
            (λ old. subst (λ (names : Names). AreAlikeOutside own new.before
            (record { names = names; contents = new.before.contents ++ [] ∷ [] })) (sym old)
            (alike_created own (Created path) spares new.before.names new.before.names new.before.contents (λ other differs. refl)))
            (λ made. subst (λ (names : Names). AreAlikeOutside own new.before
            (record { names = names; contents = new.before.contents ++ [] ∷ [] })) (sym made.1)
            (subst (λ (names : Names). AreAlikeOutside own (record { names = names; contents = new.before.contents })
            (record { names = named (putting path) (names_now d); contents = new.before.contents ++ [] ∷ [] })) (sym made.0)
            (alike_created own (Created path) spares (names_now d) (named (putting path) (names_now d)) new.before.contents same)))
            new.names),
      )

  synced_inside : (id : ℕ) → ChangesInside own d (after d (Synced id))
  synced_inside id = record {
    now = subst (λ (bs : List (List ℕ)). AreAlikeOutside own (tree_now d) (record { names = names_now d; contents = bs }))
        (sym (sure_contents d.files id)) (alike_itself own (tree_now d));
    images = λ u i. (u, synced_image d id u i, alike_itself own u);
  }

  pub change_inside : (c : Change) → SparesOutside own c → AppendsInside d own c → ChangesInside own d (after d c)
  change_inside (Created path) spares inside = created_inside path spares
  change_inside (Named op) spares inside = named_inside op spares
  change_inside (Appended id more) spares inside = append_inside d own id more
      (λ k name n ok other is leads. other (same_folder name own n inside.0 is inside.1
      (inside.3.only id k (path_in name n) inside.2 leads)))
  change_inside (Synced id) spares inside = synced_inside id
  change_inside Names_synced spares inside = record {
    now = alike_itself own (tree_now d);
    images = λ u i. (u, names_synced_image d u i, alike_itself own u);
  }
  change_inside Idle spares inside = record { now = alike_itself own (tree_now d); images = λ u i. (u, i, alike_itself own u) }

-- ---- one change after another

pub inside_both : (own : List ℕ) (d mid later : disk.State) → ChangesInside own d mid → ChangesInside own mid later
    → ChangesInside own d later
inside_both own d mid later first second = record {
  now = alike_both (tree_now d) (tree_now mid) (tree_now later) first.now second.now;
  images = λ u i. let next = second.images u i in let before =
      first.images next.0 next.1 in (before.0, before.1, alike_both before.0 next.0 u before.2 next.2);
}
  where
    alike_both : (t m u : Tree) → AreAlikeOutside own t m → AreAlikeOutside own m u → AreAlikeOutside own t u
    alike_both t m u one two = record {
      names = λ name fits other. two.names name fits other ∙ one.names name fits other;
      items = λ name file fits other is. two.items name file fits other is ∙ one.items name file fits other is;
    }

-- ---- a name of a file in the own folder

-- a folder's name is no path of a file
no_path : (name own : List ℕ) (file : FileName) → is_folder_name name ≡ true → is_folder_name own ≡ true → IsFileName file
    → name ≢ path_in own file
no_path name own file fits named is same =
    let root : own ≡ [] = sym (parent_of_joined own (spelled file) (spelled_is_component file is)) ∙ ap parent_of
    (sym same) ∙ in_root name fits in
    omega (arith, folder_has_bytes own named, ap (λ (p : List ℕ). length p) root)

pub created_spares : (own : List ℕ) (file : FileName) → is_folder_name own ≡ true → IsFileName file
    → SparesOutside own (Created (path_in own file))
created_spares own file named is = record {
  names = λ name fits other. no_path name own file fits named is;
  files = λ name n fits other ok same. other (same_folder name own n file ok is same);
}

pub gone_spares : (own : List ℕ) (file : FileName) → is_folder_name own ≡ true → IsFileName file
    → SparesOutside own (Named (Gone (path_in own file)))
gone_spares own file named is = record {
  names = λ name fits other. no_path name own file fits named is;
  files = λ name n fits other ok same. other (same_folder name own n file ok is same);
}
