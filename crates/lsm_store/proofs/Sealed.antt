-- A table that was written whole outlives each crash behind the sync of its file and that of the names.
use Rattle.std.specs.Prelude.{◌≡◌, ℕ, zero, suc, ◌^◌, ◌<◌, ◌≤◌, Bool, true, false, nat_lt, is_some, List, [], ◌∷◌, length, All, Option, Some, None, Result, Ok, Err, OnOk, IfErr, option_map}
use Rattle.std.proofs.Common.{refl, sym, ap, subst, ◌∙◌, arith}
use Rattle.std.proofs.lemmas.Bool.Decides.{nat_tests}
use Rattle.std.proofs.lemmas.List.{append-nil}
use Rattle.std.proofs.lemmas.List.Elements.{All-head}
use Rattle.std.specs.List.{filter}
use Rattle.std.specs.FinMap as finmap
use Rattle.lsm_names.specs.declared.file_names.FileName.TheVariants.{Table}
use Rattle.lsm_rows.specs.declared.rows.Row.{Row}
use Rattle.lsm_disk.specs.State as disk
use Rattle.lsm_disk.specs.State.{FileState, Seen, Story, Change, Synced, state_of, after, names_now, in_file, in_found, where_new, file_at, file_by, bytes_of, sure, file_synced, names_synced}
use Rattle.lsm_disk.specs.Answers.{Makes, pushed}
use Rattle.lsm_disk.specs.Dest.{path_in}
use Rattle.lsm_disk.specs.Images.{Tree, bytes_at, contents_of, tree_now}
use Rattle.lsm_disk.specs.Kept.{OpSpares}
use Rattle.lsm_disk.specs.Viewed.{Viewed}
use Rattle.lsm_disk.proofs.Images.{after_names_synced}
use Rattle.lsm_disk.proofs.Runs.{state_push}
use Rattle.lsm_version.specs.declared.tables.TableInfo.{TableInfo}
use Rattle.lsm_version.specs.declared.tables.Placed.{Placed}
use Rattle.lsm_core.specs.Catalogs.{AreOfLive}
use Rattle.lsm_model.specs.declared.errors.StoreError.{StoreError}
use Rattle.lsm_model.specs.declared.errors.StoreError.TheVariants as error
use Rattle.lsm_model.specs.declared.states.State.{State}
use Rattle.lsm_model.specs.Causes.{table_limit}
use Rattle.lsm_refine.specs.Kept.{Unfinished, Shown}
use Rattle.lsm_refine.specs.Caused.{edit_draws}
use Rattle.lsm_refine.specs.Flushed.{HasFlushTable}
use Rattle.lsm_refine.specs.Good.{IsRunning, Good}
use Rattle.lsm_refine.specs.Sane.{IsWholeFile}
use Rattle.lsm_refine.proofs.TableSteps.{sealed_whole, names_quiet}
use Rattle.lsm_refine.proofs.WritingLemmas.{runs}
use Rattle.lsm_store.specs.FlushParts.{Came, Refuses, HasWhole, IsSealed, HasInstalled}
use Rattle.lsm_store.proofs.Flushes.{installed_after, refused_after, refused_before}
use Rattle.lsm_store.proofs.Parting.{came_none, came_then, came_wider, refuses_then}
use Rattle.lsm_store.proofs.Writings.{number_fits}

-- ---- what a sync leaves

-- a sync changes no file's bytes
contents_same : (files : List FileState) (id : ℕ) → contents_of (in_file sure id files) ≡ contents_of files
contents_same [] id = refl
contents_same (f ∷ files) zero = ap (λ (bytes : List ℕ). bytes ∷ contents_of files) (append-nil (bytes_of f))
contents_same (f ∷ files) (suc id) = ap (λ (rest : List (List ℕ)). bytes_of f ∷ rest) (contents_same files id)

one_synced : (d : disk.State) (file : Option ℕ) (loose : List ℕ)
    → tree_now (after d (where_new loose (in_found file Synced))) ≡ tree_now d
one_synced d None [] = refl
one_synced d None (b ∷ loose) = refl
one_synced d (Some id) [] = refl
one_synced d (Some id) (b ∷ loose) =
    ap (λ (all : List (List ℕ)). let t : Tree = record { names = names_now d; contents = all } in t) (contents_same d.files id)

-- what is there now stays through a file's sync, and through one of the names
file_sync_tells : (d : disk.State) (path : List ℕ) → tree_now (after d (file_synced path d)) ≡ tree_now d
file_sync_tells d path = one_synced d (file_at d path) (file_by (file_at d path) d).unsynced

names_sync_tells : (d : disk.State) → tree_now (after d (names_synced d)) ≡ tree_now d
names_sync_tells d = ap tree_now (after_names_synced d)

story_once : (a b : Story) → Some a ≡ Some b → a ≡ b
story_once a b same = cc

-- what tells behind a call told before it, and has its change
told_before : (c : disk.State → Change) (told : Option Story) (story : Story) → Some story ≡ option_map (pushed c) told
    → (was : Story) × (told ≡ Some was) × (state_of story ≡ after (state_of was) (c (state_of was)))
told_before c None story is = let clash : Some story ≡ None = is in absurd (cc)
told_before c (Some was) story is =
    (was, refl, ap state_of (story_once story (pushed c was) is) ∙ state_push was (c (state_of was)))

-- ---- the table

-- a table of frozen rows has some, so there are frozen rows
some_frozen : (which : Row → Bool) (frozen rows : List Row) → rows ≡ filter which frozen → 1 ≤ length rows → 1 ≤ length frozen
some_frozen which [] rows are some = absurd (omega (arith, some, ap (λ (l : List Row). length l) are))
some_frozen which (row ∷ frozen) rows are some = omega arith

-- no view is open of a table that isn't live
unseen : (placed : Option Placed) (view : Option Viewed) (found : Viewed) → (is_some view ≡ true → is_some placed ≡ true)
    → placed ≡ None → view ≡ Some found → ⊥
unseen placed view found live fresh is =
    let clash : false ≡ true = sym (ap is_some fresh) ∙ live (ap is_some is) in
    cc

module _ (v : Shown) (info : TableInfo) (whole : HasWhole v.kept info) (live : AreOfLive v.kept.version v.kept.views)
    (none : v.halt ≡ None) (mid last : Seen)
    (synced : Makes v.disk.told (file_synced (path_in v.dir (Table info.number))) mid.told)
    (named : Makes mid.told names_synced last.told) where
  abbrev path : List ℕ
  path = path_in v.dir (Table info.number)

  abbrev w : Shown
  w = record v { disk = last }

  module _ (s : State) (good : Good (record v { disk = last }) s) where
    abbrev d : disk.State
    d = state_of good.story

    run : IsRunning (state_of good.story) w s
    run = runs w s good none

    was_named : (was : Story) × (mid.told ≡ Some was) × (d ≡ after (state_of was) (names_synced (state_of was)))
    was_named = told_before names_synced mid.told good.story (sym good.told ∙ named)

    was_synced : (was : Story) × (v.disk.told ≡ Some was)
        × (state_of was_named.0 ≡ after (state_of was) (file_synced path (state_of was)))
    was_synced = told_before (file_synced path) v.disk.told was_named.0 (sym was_named.1 ∙ synced)

    abbrev first : disk.State
    first = state_of was_synced.0

    abbrev second : disk.State
    second = after first (file_synced path first)

    behind : d ≡ after second (names_synced second)
    behind = was_named.2 ∙ ap (λ (x : disk.State). after x (names_synced x)) was_synced.2

    here : bytes_at (tree_now d) path ≡ Some whole.bytes
    here = All-head (λ (u : Unfinished). bytes_at (tree_now d) (path_in v.dir (Table u.number)) ≡ Some u.bytes)
        (record { number = info.number; bytes = whole.bytes }) []
        (subst (λ (us : List Unfinished). All (λ (u : Unfinished). bytes_at (tree_now d) (path_in v.dir (Table u.number)) ≡ Some u.bytes) us)
        whole.given run.sane.written.tables)

    there : bytes_at (tree_now first) path ≡ Some whole.bytes
    there = ap (λ (t : Tree). bytes_at t path)
        (sym (ap tree_now behind ∙ names_sync_tells second ∙ file_sync_tells first path)) ∙ here

    file_sealed : IsWholeFile d path whole.bytes
    file_sealed = subst (λ (x : disk.State). IsWholeFile x path whole.bytes) (sym behind) (sealed_whole first path whole.bytes there)

    has_table : HasFlushTable (state_of good.story) v.dir v.kept info whole.rows
    has_table = record {
      picked = whole.picked;
      keys = whole.keys;
      fresh = whole.fresh;
      sealed = record {
        numbered = number_fits info.number whole.numbered;
        bytes = whole.bytes;
        file = file_sealed;
        table = whole.table;
        size = whole.size;
        viewed = λ view found. absurd (unseen (finmap.get v.kept.version info.number) (finmap.get v.kept.views info.number) view
            (live info.number) whole.fresh found);
      };
      quiet = subst (λ (x : disk.State). All (OpSpares path) x.pending) (sym behind) (names_quiet second path);
    }

  pub sealed_table : IsSealed (record v { disk = last }) info
  sealed_table = record {
    rows = whole.rows;
    some = some_frozen whole.picked.which v.kept.frozen whole.rows whole.picked.are whole.table.is.are_rows.some;
    numbered = whole.numbered;
    said = whole.said;
    fresh = whole.fresh;
    begun = whole.begun;
    is = has_table;
  }

-- ---- the exits

-- there are as many tables as may be
pub full_tables : (v : Shown) → v.halt ≡ None → (live : ℕ) (e : StoreError) → live ≡ finmap.len v.kept.version
    → table_limit ≤ live → (live < 2 ^ 32 → e ≡ error.TablesFull live 1) → (2 ^ 32 ≤ live → e ≡ error.NoMemory)
    → Refuses (edit_draws v.kept) e v v
unfolding Refuses
full_tables v none live e live_is many full more = by (nat_lt live (2 ^ 32)) refl
  where
    same : Came (edit_draws v.kept) v v
    same = came_wider 0 (edit_draws v.kept) v v (omega arith) (came_none v none)

    under : nat_lt live (2 ^ 32) ≡ true → live < 2 ^ 32
    under is = grind (arith, nat_tests)

    over : nat_lt live (2 ^ 32) ≡ false → 2 ^ 32 ≤ live
    over is = grind (arith, nat_tests)

    by : (b : Bool) → nat_lt live (2 ^ 32) ≡ b → Refuses (edit_draws v.kept) e v v
    by true is = subst (λ (f : StoreError). Refuses (edit_draws v.kept) f v v) (sym (full (under is)))
        (same, live_is, refl, omega (arith, many))
    by false is = subst (λ (f : StoreError). Refuses (edit_draws v.kept) f v v) (sym (more (over is))) same

-- behind both syncs the table is sealed
pub sealed_then : (v mid w : Shown) (info : TableInfo) → HasWhole v.kept info → AreOfLive v.kept.version v.kept.views
    → v.halt ≡ None → mid ≡ record v { disk = mid.disk } → w ≡ record mid { disk = w.disk }
    → Makes v.disk.told (file_synced (path_in v.dir (Table info.number))) mid.disk.told
    → Makes mid.disk.told names_synced w.disk.told → IsSealed w info
sealed_then v mid w info whole live none mid_is last_is synced named =
    subst (λ (u : Shown). IsSealed u info)
    (sym (last_is ∙ ap (λ (u : Shown). record u { disk = w.disk }) mid_is))
    (sealed_table v info whole live none mid.disk w.disk synced named)

module _ (v mid w u : Shown) (info : TableInfo) (whole : HasWhole v.kept info) (first : Came 0 v mid) (second : Came 0 mid w) where
  both : Came 0 v w
  both = came_then 0 0 v mid w first second

  -- then it is installed or not
  pub ended_ok : (r : Result (Unit {0}) StoreError) → OnOk r (HasInstalled (edit_draws w.kept) w u)
      → OnOk r (HasInstalled (edit_draws v.kept) v u)
  ended_ok (Ok done) is = installed_after v w u (info.number, whole.begun) both is
  ended_ok (Err e) is = tt

  pub ended_err : (r : Result (Unit {0}) StoreError) → IfErr r (λ e. Refuses (edit_draws w.kept) e w u)
      → IfErr r (λ e. Refuses (edit_draws v.kept) e v u)
  ended_err (Ok done) is = tt
  ended_err (Err e) is = refused_after v w u (info.number, whole.begun) both e is

-- the names couldn't be synced
pub unnamed_end : (v mid w : Shown) → Came 0 v mid → (e : StoreError) → Refuses 0 e mid w → Refuses (edit_draws v.kept) e v w
unnamed_end v mid w first e is = refused_before v w e (refuses_then 0 0 v mid w first e is)
