-- A new store, as an opening gives it: of what it is made, and where it stands.
use Rattle.std.specs.Prelude.{◌≡◌, ◌↔◌, ℕ, ◌+◌, ◌^◌, ◌<◌, ◌≤◌, max, true, is_some, List, [], ◌∷◌, ◌++◌, length, take, All, Contains, Option, Some, None, option_map, Ok}
use Rattle.std.proofs.Common.{refl, sym, ap, subst, ◌∙◌, arith}
use Rattle.std.specs.List.{list_all, cons_option}
use Rattle.std.specs.FinMap as finmap
use Rattle.lsm_names.specs.Folders.{is_folder_name}
use Rattle.lsm_names.specs.FileNames.{IsFileName}
use Rattle.lsm_names.specs.Paths.{is_path}
use Rattle.lsm_names.specs.declared.file_names.FileName.{FileName}
use Rattle.lsm_names.specs.declared.file_names.FileName.TheVariants.{Log, Table, Manifest, Temp, Current}
use Rattle.lsm_names.proofs.FolderLemmas.{folder_is_component}
use Rattle.lsm_names.proofs.PathLemmas.{component_is_path}
use Rattle.lsm_disk.specs.Names.{Node, Folder_node, File_node, NameOp, all_named, is_folder_node, stands}
use Rattle.lsm_disk.specs.State as disk
use Rattle.lsm_disk.specs.State.{Seen, Story, Names_synced, after, names_now, names_synced, state_of}
use Rattle.lsm_disk.specs.Images.{Tree, tree_now}
use Rattle.lsm_disk.specs.Tree.{IsLawful}
use Rattle.lsm_disk.specs.Answers.{Makes, pushed}
use Rattle.lsm_disk.specs.Dest.{path_in}
use Rattle.lsm_disk.specs.Listing.{listing}
use Rattle.lsm_disk.specs.declared.listing.Entry.{Entry}
use Rattle.lsm_disk.proofs.Cuts.{take_none}
use Rattle.lsm_disk.proofs.Images.{after_names_synced}
use Rattle.lsm_disk.proofs.Lawful.{get_named}
use Rattle.lsm_disk.proofs.Runs.{state_push}
use Rattle.lsm_folder.specs.Files.{Files, Item, bytes_in, files_in, place_of}
use Rattle.lsm_folder.specs.Names.{name_of, number_of}
use Rattle.lsm_folder.specs.Needed as needed
use Rattle.lsm_folder.specs.Needed.{IsFresh}
use Rattle.lsm_recover.specs.Listed as listed
use Rattle.lsm_recover.specs.Listed.{number_behind}
use Rattle.lsm_recover.specs.Site.{IsFreshSite, IsStoreSite}
use Rattle.lsm_recover.proofs.DiskLemmas.{place_is}
use Rattle.lsm_recover.proofs.EntryLemmas.{names_stand, names_fit}
use Rattle.lsm_recover.proofs.SiteLemmas.{pass_at}
use Rattle.lsm_model.specs.Halting.{built_in}
use Rattle.lsm_refine.specs.Kept.{Shown}
use Rattle.lsm_refine.specs.Pins.{AreClearable}
use Rattle.lsm_refine.specs.New.{number_in, next_number, new_store, HasNewStore}
use Rattle.lsm_refine.specs.Openings.{names_in, first_number, IsNewStore}
use Rattle.lsm_refine.specs.Vacant.{IsVacant}
use Rattle.lsm_refine.proofs.ChangeLemmas.{at_cut}
use Rattle.lsm_refine.proofs.FreshNames.{fresh_vacant, fresh_number, nothing_number}
use Rattle.lsm_refine.proofs.NewStoreLemmas.{some_folder}
use Rattle.lsm_store.specs.declared.opening_new.NewParts.{NewParts}
use Rattle.lsm_store.specs.NewStores.{IsFree, MakesBeside, MakesAnew}

-- ---- the next number, by a listing and by its names

number_same : (name : FileName) → number_in name ≡ number_of name
number_same (Log n) = refl
number_same (Table n) = refl
number_same (Manifest n) = refl
number_same (Temp n) = refl
number_same Current = refl

next_step : (n : ℕ) (o : Option FileName) (names : List FileName) → 1 ≤ n
    → max (max n (number_behind o)) (next_number names) ≡ max n (next_number (cons_option o names))
next_step n None names some = omega (arith, some)
next_step n (Some name) names some = omega (arith, some, number_same name)

next_by_names : (n : ℕ) (entries : List Entry) → 1 ≤ n
    → listed.next_number n entries ≡ max n (next_number (listed.names_in entries))
next_by_names n [] some = omega (arith, some)
next_by_names n (e ∷ es) some =
    next_by_names (max n (number_behind (name_of e.name))) es (omega (arith, some))
    ∙ next_step n (name_of e.name) (listed.names_in es) some

one_least : (names : List FileName) → 1 ≤ next_number names
one_least [] = omega arith
one_least (name ∷ names) = omega (arith, one_least names)

-- the next number of a folder's entries is that of their names
pub next_same : (entries : List Entry) → listed.next_number 1 entries ≡ next_number (listed.names_in entries)
next_same entries =
    let by = next_by_names 1 entries (omega arith) in
    omega (arith, by, one_least (listed.names_in entries))

-- ---- behind a sync of names

-- the disk behind an Ok of it
pub synced_state : (before : Story) (old new : Option Story) → old ≡ Some before → Makes old names_synced new → (mid : Story)
    → new ≡ Some mid → state_of mid ≡ after (state_of before) Names_synced
synced_state before old new was made mid is =
    let same : Some mid ≡ Some (pushed names_synced before) = sym is ∙ made ∙ ap (option_map (pushed names_synced)) was in
    ap state_of (one mid (pushed names_synced before) same)
    ∙ state_push before (names_synced (state_of before)) ∙ after_names_synced (state_of before)
  where
    one : (a b : Story) → Some a ≡ Some b → a ≡ b
    one a b same = cc

-- a name behind a crash is one of before the sync
synced_name : (b : disk.State) (k : ℕ) (path : List ℕ) (what : Option Node)
    → finmap.get (all_named (take k []) (names_now b)) path ≡ what
    → finmap.get (all_named (take (length b.pending) b.pending) b.durable) path ≡ what
synced_name b k path what is = at_cut b path what
    (sym (ap (λ (ops : List NameOp). finmap.get (all_named ops (names_now b)) path) (take_none k)) ∙ is)

synced_clear : (b : disk.State) → AreClearable b → AreClearable (after b Names_synced)
synced_clear b clear = record {
  no_file = λ dir k id named is. clear.no_file dir (length b.pending) id named
      (synced_name b k (built_in dir) (Some (File_node id)) is);
  no_folder = λ dir rest k named is. clear.no_folder dir rest (length b.pending) named
      (synced_name b k (built_in dir ++ 47 ∷ rest) (Some Folder_node) is);
}

folder_stands : (o : Option Node) → is_folder_node o ≡ true → o ≡ Some Folder_node
folder_stands None is = cc
folder_stands (Some Folder_node) is = refl
folder_stands (Some (File_node id)) is = cc

folder_path : (dir : List ℕ) → is_folder_name dir ≡ true → is_path dir ≡ true
folder_path dir named = component_is_path dir (folder_is_component dir named)

-- ---- what an opening finds behind its first sync of names

module _ (dir : List ℕ) (named : is_folder_name dir ≡ true) (short : length dir + 30 ≤ 160) (before mid : Story)
    (synced : state_of mid ≡ after (state_of before) Names_synced) where
  abbrev b : disk.State
  b = state_of before

  abbrev d : disk.State
  d = state_of mid

  tree_same : tree_now (state_of mid) ≡ tree_now (state_of before)
  tree_same = ap tree_now synced

  settled : (state_of mid).pending ≡ []
  settled = ap (λ (s : disk.State). s.pending) synced

  pub site_clear : AreClearable (state_of before) → AreClearable (state_of mid)
  site_clear clear = subst AreClearable (sym synced) (synced_clear b clear)

  -- a folder that has CURRENT was not fresh
  pub store_not_fresh : IsStoreSite dir mid → IsFresh (place_of dir (tree_now (state_of before))) → ⊥
  unfolding IsFresh
  store_not_fresh site fresh = by (finmap.get files Current) refl site.current
    where
      files : Files
      files = files_in dir (tree_now (state_of mid))

      all : list_all needed.is_aside (finmap.entries (files_in dir (tree_now (state_of mid)))) ≡ true
      all = subst IsFresh (place_is dir (state_of mid) site.folder)
          (subst (λ (t : Tree). IsFresh (place_of dir t)) (sym tree_same) fresh)

      by : (o : Option Item) → finmap.get (files_in dir (tree_now (state_of mid))) Current ≡ o → is_some (bytes_in o) ≡ true
          → ⊥
      by None is some = cc
      by (Some item) is some =
          let aside : needed.is_aside (Current, item) ≡ true = pass_at needed.is_aside
          (finmap.entries (files_in dir (tree_now (state_of mid)))) all Current item
          (sym (finmap.get-entries (files_in dir (tree_now (state_of mid))) Current) ∙ is) in
          cc

  module _ (lawful : IsLawful (state_of mid)) (clear : AreClearable (state_of before)) where
    -- where nothing has the name, the folder may be made
    pub site_free : stands (names_now (state_of mid)) dir ≡ None → IsFree (state_of mid) dir
    site_free none = record {
      lawful = lawful;
      settled = settled;
      free = get_named (names_now d) dir (some_folder dir named) ∙ none;
      clear = site_clear clear;
    }

    module _ (names : List FileName) (next : ℕ) (site : IsFreshSite dir mid names next) where
      abbrev entries : List Entry
      entries = listing dir (names_now (state_of mid))

      fit : All IsFileName names
      fit = subst (All IsFileName) (sym site.names_are) (names_fit entries)

      are : (name : FileName) → IsFileName name
          → Contains names name ↔ (is_some (finmap.get (names_now (state_of mid)) (path_in dir name)) ≡ true)
      are name fits = subst (λ (ns : List FileName). Contains ns name
          ↔ (is_some (finmap.get (names_now d) (path_in dir name)) ≡ true)) (sym site.names_are)
          (names_stand dir (names_now d) short (folder_path dir named) name fits)

      next_is : next ≡ next_number names
      next_is = site.next_is ∙ next_same entries ∙ ap next_number (sym site.names_are)

      -- a fresh folder may have a new store
      pub site_vacant : next + 2 < 2 ^ 56 → IsVacant (state_of mid) dir next names
      site_vacant most = subst (λ (m : ℕ). IsVacant d dir m names) (sym next_is)
          (fresh_vacant d dir named names are fit settled
          (get_named (names_now d) dir (some_folder dir named) ∙ folder_stands (stands (names_now d) dir) site.folder)
          site.fresh lawful.files (site_clear clear) (subst (λ (m : ℕ). m + 2 < 2 ^ 56) next_is most))

      first_is : next ≡ first_number before dir
      first_is = next_is ∙ fresh_number d dir named names are fit
          ∙ ap (λ (t : Tree). next_number (names_in dir t)) tree_same

      -- the store that is made beside its files is a new one
      pub beside_is_new : (parts : NewParts) (v : Shown) → MakesBeside dir next names mid v.disk.told (Ok parts)
          → v ≡ new_store v.disk dir next names → IsNewStore before dir v
      beside_is_new parts v made is = record {
        story = made.now;
        told = made.tells;
        beside = names;
        has = subst (λ (m : ℕ). HasNewStore (state_of made.now) dir m names) first_is
            (subst (λ (s : Story). HasNewStore (state_of s) dir next names)
            (sym (same_story made.now made.goes.log.story made.goes.log.tells)) made.goes.log.now);
        is = subst (λ (m : ℕ). v ≡ new_store v.disk dir m names) first_is is;
      }
        where
          same_story : (x y : Story) → Some x ≡ Some y → x ≡ y
          same_story x y same = cc

    -- the store that is made in a new folder is a new one
    pub anew_is_new : stands (names_now (state_of mid)) dir ≡ None → (parts : NewParts) (v : Shown)
        → MakesAnew dir mid v.disk.told (Ok parts) → v ≡ new_store v.disk dir 1 [] → IsNewStore before dir v
    anew_is_new none parts v made is = record {
      story = made.now;
      told = made.tells;
      beside = [];
      has = subst (λ (m : ℕ). HasNewStore (state_of made.now) dir m []) first
          (subst (λ (s : Story). HasNewStore (state_of s) dir 1 [])
          (sym (same_story made.now made.goes.next.log.story made.goes.next.log.tells)) made.goes.next.log.now);
      is = subst (λ (m : ℕ). v ≡ new_store v.disk dir m []) first is;
    }
      where
        same_story : (x y : Story) → Some x ≡ Some y → x ≡ y
        same_story x y same = cc

        first : 1 ≡ first_number before dir
        first = sym (nothing_number (state_of mid) dir named lawful
            (get_named (names_now (state_of mid)) dir (some_folder dir named) ∙ none))
            ∙ ap (λ (t : Tree). next_number (names_in dir t)) tree_same
