-- A new manifest names the table of a flush, at each exit.
use Rattle.std.specs.Prelude.{◌≡◌, ◌≢◌, ◌⊎◌, ℕ, ◌+◌, ◌-◌, ◌^◌, ◌<◌, ◌≤◌, Bool, true, false, is_some, if◌then◌else◌, take, List, [], ◌∷◌, ◌++◌, length, All, Contains, Option, Some, None, Result, Ok, Err, IfSome}
use Rattle.std.proofs.Common.{⊎_elim, inl, inr, refl, sym, ap, subst, ◌∙◌, arith, append-nil}
use Rattle.std.proofs.lemmas.List.Elements.{All-nil, All-cons, All-append, All-push, All-weaker, Contains-append_left, Contains-append_right, Contains-append_cases, Contains-get_or, Contains-push_cases, All-contains}
use Prim.Native.Nat.{zero, suc}
use Rattle.std.specs.FinMap as finmap
use Rattle.lsm_io.specs.Causes.{Rose}
use Rattle.lsm_names.specs.FileNames.{IsFileName}
use Rattle.lsm_names.specs.declared.file_names.FileName.{FileName}
use Rattle.lsm_names.specs.declared.file_names.FileName.TheVariants.{Log, Manifest, Table, Temp, Current}
use Rattle.lsm_rows.specs.declared.rows.Row.{Row}
use Rattle.lsm_disk.specs.Names.{Node, File_node, id_of, is_folder}
use Rattle.lsm_disk.specs.State as disk
use Rattle.lsm_disk.specs.State.{Seen, Story, Change, Created, Named, Appended, Synced, Names_synced, Idle, state_of, names_now, file_at}
use Rattle.lsm_disk.specs.Images.{Tree, IsImage, bytes_at}
use Rattle.lsm_disk.specs.Building.{sealed}
use Rattle.lsm_disk.specs.Kept.{HasCut}
use Rattle.lsm_disk.specs.Refusals.{no_room, or_else}
use Rattle.lsm_disk.specs.Tree.{IsLawful, TellsLawful}
use Rattle.lsm_disk.specs.Goes.{Went}
use Rattle.lsm_disk.specs.Dest.{path_in}
use Rattle.lsm_disk.specs.Answers.{RefusesBy, HasRisen, HasDiskCause}
use Rattle.lsm_disk.specs.Halts.{halt_at, IsAmong}
use Rattle.lsm_disk.specs.declared.calls.DiskCall.{DiskCall}
use Rattle.lsm_disk.specs.declared.calls.DiskCall.TheVariants as call
use Rattle.lsm_disk.specs.declared.calls.DiskError.{DiskError}
use Rattle.lsm_disk.specs.declared.calls.DiskError.TheVariants as why
use Rattle.lsm_disk.specs.declared.calls.DiskRefusal.{DiskRefusal}
use Rattle.lsm_disk.specs.declared.calls.Halt.{Halt}
use Rattle.lsm_disk.proofs.Named.{name_now}
use Rattle.lsm_disk.proofs.Runs.{went_weaker, went_wider, goes_shows}
use Rattle.lsm_publish.specs.Publishing.{The_file, AnswersAs, no_place}
use Rattle.lsm_version.specs.declared.edits.Edit.{Edit}
use Rattle.lsm_version.specs.declared.tables.TableInfo.{TableInfo}
use Rattle.lsm_version.specs.declared.tables.Placed.{Placed}
use Rattle.lsm_version.specs.Edits.{IsEdit}
use Rattle.lsm_version.specs.Levels.{Tables}
use Rattle.lsm_folder.specs.Names.{current_text}
use Rattle.lsm_folder.specs.Manifests.{tables_after}
use Rattle.lsm_manifest.specs.Shown as manifest
use Rattle.lsm_manifest.specs.Texts.{IsTaken, manifest_text}
use Rattle.lsm_manifest.specs.Installing.{Before, StillBefore, IsApart, NamesOldOrNew, Installs, Leaves, Begins, BegunAt, IsFree, HasFile, WantsMemory, Anything, IsUntouched, LawfulOrUntouched, install_calls, manifest_path, temporary_path, current_path, no_installing}
use Rattle.lsm_manifest.proofs.Names.{other_manifest, paths_apart}
use Rattle.lsm_model.specs.declared.errors.StoreError.{StoreError}
use Rattle.lsm_model.specs.declared.errors.StoreError.TheVariants as error
use Rattle.lsm_model.specs.declared.states.State.{State}
use Rattle.lsm_model.specs.Halting.{IsMet, IsOn, A_manifest, A_temporary, The_current, edit_calls, table_calls}
use Rattle.lsm_core.specs.Catalogs.{HoldNoCurrent}
use Rattle.lsm_refine.specs.Kept.{KeptPin, Kept, Shown}
use Rattle.lsm_refine.specs.Good.{IsRunning, Good}
use Rattle.lsm_refine.specs.Among.{MakesAmong, KnowsMade, new_names}
use Rattle.lsm_refine.specs.Beside.{LeadToFiles}
use Rattle.lsm_refine.specs.Flushed.{AddTable, EndsFrozen, Renewed, IsRenewed, HasFlushTable, at_top, flush_edit, flushed_state}
use Rattle.lsm_refine.specs.Grown.{IsDrawn, halted_shown, halted_state}
use Rattle.lsm_refine.specs.Moments.{ReadsAsCrashed, ImagesShow}
use Rattle.lsm_refine.specs.Naming.{HasReplaced, MayBeNext, NamesWhole, Replaces, ReplacesAt}
use Rattle.lsm_refine.specs.Within.{IsNamedJob}
use Rattle.lsm_refine.specs.TableWork.{Work, work_of, drawn_work, working_state}
use Rattle.lsm_refine.specs.WholeEdits.{AddAll}
use Rattle.lsm_refine.specs.Caused.{rolls, edit_draws, flush_table, number_or, IsMade, HasDrawn, HasFlushed}
use Rattle.lsm_refine.proofs.BegunManifests.{begun_manifest_good}
use Rattle.lsm_refine.proofs.DrawnLemmas.{drawn_next}
use Rattle.lsm_refine.proofs.FlushReads.{appended_adds, roll_went, roll_good, roll_halts}
use Rattle.lsm_refine.proofs.FlushSteps.{draws_none, draws_more, draws_built}
use Rattle.lsm_refine.proofs.InstalledLemmas.{one_more}
use Rattle.lsm_refine.proofs.MadeLemmas.{went_making_among}
use Rattle.lsm_refine.proofs.RoomLemmas.{file_room, parent_there, current_no_folder}
use Rattle.lsm_refine.proofs.SettledLemmas.{cut_whole}
use Rattle.lsm_refine.proofs.TableSteps.{working_crashed}
use Rattle.lsm_refine.proofs.TableWorkLemmas.{noted_good}
use Rattle.lsm_refine.proofs.WholeEditLemmas.{flush_fits, whole_adds}
use Rattle.lsm_refine.proofs.WritingLemmas.{runs}
use Rattle.lsm_opening.specs.Edits.{IsWholeEdit}
use Rattle.lsm_opening.proofs.Replaced.{installs_replace, shows_names, installed_replaced}
use Rattle.lsm_opening.proofs.WholeEdits.{whole_taken}
use Rattle.lsm_flush.specs.declared.frozen.Held.{Held}
use Rattle.lsm_flush.specs.declared.frozen.Held.TheVariants as held
use Rattle.lsm_store.specs.Answering.{halt_by, halt_of, error_by, error_of}
use Rattle.lsm_store.specs.FlushParts.{GoesOn, Came, Fails, FindsChanged, Refuses, AddsFlush, AddsTable, ComesInstalled, HasInstalled, made_at}
use Rattle.lsm_store.specs.Inside.{Inner, IsInside, IsNewTable, HasShortKey, older_logs, shown_of}
use Rattle.lsm_store.proofs.Appends.{installed_inner, live_below, log_same, nothing_in, nothing_named, no_number_drawn, both_ways}
use Rattle.lsm_store.proofs.Begins.{next_free}
use Rattle.lsm_store.proofs.Calls.{never_some, same_shows}
use Rattle.lsm_store.proofs.Freezes.{file_number}
use Rattle.lsm_store.proofs.Parting.{came_none, came_wider}

-- what a new manifest in this folder says
abbrev pub Rolled : Inner → List ℕ → Edit → Option Story → Result (Unit {0}) DiskRefusal → Type 0
Rolled x dir edit told result =
    (story : Story) (before : Before) → x.disk.told ≡ Some story → StillBefore dir before (state_of story)
    → IsApart dir x.next before.path
    → Went story told (Installs dir x.next (length (state_of story).files)) (NamesOldOrNew dir x.next edit before)
    (Leaves dir x.next (length (state_of story).files) edit before result)

-- the new manifest, of this edit alone
abbrev pub rolled_manifest : Inner → Edit → manifest.Shown
rolled_manifest x edit = record {
  dir = x.manifest.dir;
  number = x.next;
  path = manifest_path x.manifest.dir x.next;
  len = length (manifest_text (edit ∷ []));
}

-- the store with the table installed by it
abbrev pub rolled_inner : Inner → Seen → Edit → Tables → ℕ → Inner
rolled_inner x seen edit version last = record (installed_inner x seen (rolled_manifest x edit) version last) {
  next = x.next + 1;
  known = x.known ++ Manifest x.next ∷ [];
}

-- the store behind a refusal, where so many of the two new files may be there
abbrev pub refused_inner : Inner → Seen → ℕ → Option Halt → Inner
refused_inner x seen made halt = record x {
  disk = seen;
  next = x.next + 1;
  known = x.known ++ take made (new_names x.next);
  halt = halt;
}

-- ---- small facts

no_node : (what : Option Node) → (is_some what ≡ true → ⊥) → what ≡ None
no_node None never = refl
no_node (Some here) never = absurd (never refl)

same_story : (a b : Story) → Some a ≡ Some b → a ≡ b
same_story a b same = cc

not_both : why.Fault ≡ why.NoMemory → ⊥
not_both same = cc

plus_left : (k : ℕ) → 0 + k ≡ k
plus_left k = omega arith

plus_more : (m k : ℕ) → suc m + k ≡ suc (m + k)
plus_more m k = omega arith

-- of a list and more the list and some of the rest are taken
pub took : {A : Type 0} (xs ys : List A) (k : ℕ) → take (length xs + k) (xs ++ ys) ≡ xs ++ take k ys
took [] ys k = ap (λ (n : ℕ). take n ys) (plus_left k)
took (x ∷ xs) ys k =
    ap (λ (n : ℕ). take n (x ∷ xs ++ ys)) (plus_more (length xs) k) ∙ ap (λ (l : List _). x ∷ l) (took xs ys k)

kept_text : (path text : List ℕ) (t : Tree) → HasCut path (sealed text) t → bytes_at t path ≡ Some text
kept_text path text t has = has.is ∙ ap Some (cut_whole (sealed text) has.bytes refl has.cut ∙ append-nil text)

-- ---- the two names

nothing_taken : (k : ℕ) → take {A = FileName} k [] ≡ []
nothing_taken zero = refl
nothing_taken (suc k) = refl

all_taken : (n k : ℕ) → take (suc (suc k)) (new_names n) ≡ new_names n
all_taken n k = ap (λ (l : List FileName). Manifest n ∷ Temp n ∷ l) (nothing_taken k)

abbrev IsNewName : ℕ → FileName → Type 0
IsNewName n name = (name ≡ Manifest n) ⊎ (name ≡ Temp n)

module _ (n : ℕ) where
  abbrev two : List FileName
  two = new_names n

  in_one : (name : FileName) → Contains (Manifest n ∷ []) name → Manifest n ≡ name
  in_one name among = ⊎_elim (λ none. absurd (nothing_named name none)) (λ same. same)
      (Contains-push_cases [] (Manifest n) name among)

  in_two : (name : FileName) → Contains (new_names n) name → (Manifest n ≡ name) ⊎ (Temp n ≡ name)
  in_two name among = ⊎_elim (λ one. inl (in_one name one)) (λ same. inr same)
      (Contains-push_cases (Manifest n ∷ []) (Temp n) name among)

  manifest_in : Contains (Manifest n ∷ []) (Manifest n)
  manifest_in = Contains-get_or (Manifest n ∷ []) 0 Current (omega arith)

  manifest_among : Contains (new_names n) (Manifest n)
  manifest_among = Contains-get_or two 0 Current (omega arith)

  temp_among : Contains (new_names n) (Temp n)
  temp_among = Contains-get_or two 1 Current (omega arith)

  -- so many of the two files are there
  abbrev HasTwo : ℕ → List ℕ → disk.State → Type 0
  HasTwo zero dir q = IsFree (manifest_path dir n) q × IsFree (temporary_path dir n) q
  HasTwo (suc zero) dir q = HasFile (manifest_path dir n) q × IsFree (temporary_path dir n) q
  HasTwo (suc (suc made)) dir q = HasFile (manifest_path dir n) q × HasFile (temporary_path dir n) q

  module _ (dir : List ℕ) (q : disk.State) (known : List FileName) where
    abbrev IsNow : FileName → Type 0
    IsNow name = is_some (finmap.get (names_now q) (path_in dir name)) ≡ true

    abbrev HasNow : FileName → Type 0
    HasNow name = is_some (file_at q (path_in dir name)) ≡ true

    has_file : (name : FileName) → HasFile (path_in dir name) q → HasNow name
    has_file name has = ap (λ (o : Option Node). is_some (id_of o)) has.1

    not_free : (name : FileName) → IsFree (path_in dir name) q → IsNow name → ⊥
    not_free name free now = let clash : false ≡ true = sym (ap is_some free) ∙ now in both_ways (sym clash)

    knows_made : (made : ℕ) → HasTwo made dir q → KnowsMade q dir (new_names n) known (known ++ take made (new_names n))
    knows_made zero has = record {
      still = λ name among. Contains-append_left known [] name among;
      there = λ name among. ⊎_elim (λ old. inl old) (λ none. absurd (nothing_named name none))
          (Contains-append_cases known [] name among);
      all = λ name among now. absurd (⊎_elim
          (λ same. not_free (Manifest n) has.0 (subst IsNow (sym same) now))
          (λ same. not_free (Temp n) has.1 (subst IsNow (sym same) now)) (in_two name among));
    }
    knows_made (suc zero) has = record {
      still = λ name among. Contains-append_left known (Manifest n ∷ []) name among;
      there = λ name among. ⊎_elim (λ old. inl old)
          (λ new. inr (subst (λ (m : FileName). Contains (new_names n) m × HasNow m) (in_one name new)
          (manifest_among, has_file (Manifest n) has.0)))
          (Contains-append_cases known (Manifest n ∷ []) name among);
      all = λ name among now. ⊎_elim
          (λ same. subst (Contains (known ++ Manifest n ∷ [])) same
          (Contains-append_right known (Manifest n ∷ []) (Manifest n) manifest_in))
          (λ same. absurd (not_free (Temp n) has.1 (subst IsNow (sym same) now))) (in_two name among);
    }
    knows_made (suc (suc made)) has = subst (λ (l : List FileName). KnowsMade q dir (new_names n) known (known ++ l))
        (sym (all_taken n made)) (record {
          still = λ name among. Contains-append_left known (new_names n) name among;
          there = λ name among. ⊎_elim (λ old. inl old)
              (λ new. inr (
                new,
                ⊎_elim (λ same. subst HasNow same (has_file (Manifest n) has.0))
                    (λ same. subst HasNow same (has_file (Temp n) has.1)) (in_two name new),
              ))
              (Contains-append_cases known (new_names n) name among);
          all = λ name among now. Contains-append_right known (new_names n) name among;
        })

  -- the refused call tells how many
  abbrev IsCount : List ℕ → Halt → ℕ → Type 0
  IsCount dir at made = ((at.path ≡ manifest_path dir n) → made ≡ made_at at.call true)
      × ((at.path ≢ manifest_path dir n) → made ≡ made_at at.call false)

  counts_two : (dir : List ℕ) → IsFileName (Manifest n) → (at : Halt) (made : ℕ) → IsCount dir at made → (q : disk.State)
      → BegunAt dir n at q → HasTwo made dir q
  counts_two dir ok at made is q begun = ⊎_elim
      (λ none. subst (λ (k : ℕ). HasTwo k dir q)
      (sym (is.0 (ap (λ (h : Halt). h.path) none.0) ∙ ap (λ (h : Halt). made_at h.call true) none.0)) (none.1, none.2))
      (λ some. ⊎_elim
      (λ one. subst (λ (k : ℕ). HasTwo k dir q) (sym (⊎_elim
      (λ append. is.0 (ap (λ (h : Halt). h.path) append) ∙ ap (λ (h : Halt). made_at h.call true) append)
      (λ create. is.1 (λ same. temp_apart (sym (ap (λ (h : Halt). h.path) create) ∙ same))
      ∙ ap (λ (h : Halt). made_at h.call false) create) one.0)) (one.1, one.2))
      (λ both. subst (λ (k : ℕ). HasTwo k dir q) (sym (⊎_elim
      (λ append. is.1 (λ same. temp_apart (sym (ap (λ (h : Halt). h.path) append) ∙ same))
      ∙ ap (λ (h : Halt). made_at h.call false) append)
      (λ rename. is.1 (λ same. current_apart (sym (ap (λ (h : Halt). h.path) rename) ∙ same))
      ∙ ap (λ (h : Halt). made_at h.call false) rename) both.0)) (both.1, both.2)) some) begun
    where
      temp_apart : temporary_path dir n ≢ manifest_path dir n
      temp_apart = paths_apart dir (Temp n) (Manifest n) ok ok (λ same. cc)

      current_apart : current_path dir ≢ manifest_path dir n
      current_apart = paths_apart dir Current (Manifest n) tt ok (λ same. cc)

-- what a refused making of a new manifest in this folder says, where so many of the two files may be there
pub record IsRolledBack (x : Inner) (dir : List ℕ) (edit : Edit) (seen : Seen) (r : DiskRefusal) (made : ℕ) : Type 0 where
  pub rolled : Rolled x dir edit seen.told (Err r)
  pub lawful : LawfulOrUntouched {T = Unit {0}} (manifest_path dir x.next) x.disk seen (Err r)
  pub wanting : WantsMemory {T = Unit {0}} dir x.next x.disk.told seen.told (Err r)
  pub at : IsAmong r.at (install_calls dir x.next)
  pub answers : AnswersAs {T = Unit {0}} (no_installing dir x.next) x.disk (Err r)
  pub count : IsCount x.next dir r.at made

-- ---- the disk calls

module _ (dir : List ℕ) (n : ℕ) (at : Halt) where
  on_manifest : {c : DiskCall} → at ≡ halt_at c (manifest_path dir n) → (at.call ≡ c) × IsOn dir A_manifest at.path
  on_manifest same = (ap (λ (h : Halt). h.call) same, (n, ap (λ (h : Halt). h.path) same))

  on_temporary : {c : DiskCall} → at ≡ halt_at c (temporary_path dir n) → (at.call ≡ c) × IsOn dir A_temporary at.path
  on_temporary same = (ap (λ (h : Halt). h.call) same, (n, ap (λ (h : Halt). h.path) same))

  on_current : {c : DiskCall} → at ≡ halt_at c (current_path dir) → (at.call ≡ c) × IsOn dir The_current at.path
  on_current same = (ap (λ (h : Halt). h.call) same, ap (λ (h : Halt). h.path) same)

  edit_met : IsAmong at (install_calls dir n) → IsMet dir at edit_calls
  edit_met among =
      ⊎_elim (λ is. inr (inr (inl (on_manifest is)))) (λ a.
      ⊎_elim (λ is. inl (on_manifest is)) (λ b.
      ⊎_elim (λ is. inr (inl (on_manifest is))) (λ c.
      ⊎_elim (λ is. inr (inr (inr (inl (on_temporary is))))) (λ d.
      ⊎_elim (λ is. inr (inr (inr (inr (inl (on_temporary is)))))) (λ e.
      ⊎_elim (λ is. inr (inr (inr (inr (inr (inl (on_temporary is))))))) (λ f.
      ⊎_elim (λ is. inr (inr (inr (inr (inr (inr (inl (on_temporary is)))))))) (λ g.
      ⊎_elim (λ is. inr (inr (inr (inr (inr (inr (inr (inl (on_current is))))))))) (λ h.
      ⊎_elim (λ is. inr (inr (inr (inr (inr (inr (inr (inr (inl (on_current is)))))))))) (λ no. absurd no)
      h) g) f) e) d) c) b) a) among

  install_met : IsAmong at (install_calls dir n) → IsMet dir at table_calls
  install_met among = inr (inr (inr (inr (edit_met among))))

  not_by : {c : DiskCall} {path : List ℕ} → c ≢ call.RemoveFolder → at ≡ halt_at c path → at.call ≢ call.RemoveFolder
  not_by other same is = other (sym (ap (λ (h : Halt). h.call) same) ∙ is)

  not_create : call.Create ≢ call.RemoveFolder
  not_create is = cc

  not_append : call.Append ≢ call.RemoveFolder
  not_append is = cc

  not_sync : call.Sync ≢ call.RemoveFolder
  not_sync is = cc

  not_names : call.SyncNames ≢ call.RemoveFolder
  not_names is = cc

  not_rename : call.Rename ≢ call.RemoveFolder
  not_rename is = cc

  not_removal : IsAmong at (install_calls dir n) → at.call ≢ call.RemoveFolder
  not_removal among =
      ⊎_elim (λ is. not_by not_create is) (λ a.
      ⊎_elim (λ is. not_by not_append is) (λ b.
      ⊎_elim (λ is. not_by not_sync is) (λ c.
      ⊎_elim (λ is. not_by not_create is) (λ d.
      ⊎_elim (λ is. not_by not_append is) (λ e.
      ⊎_elim (λ is. not_by not_sync is) (λ f.
      ⊎_elim (λ is. not_by not_names is) (λ g.
      ⊎_elim (λ is. not_by not_rename is) (λ h.
      ⊎_elim (λ is. not_by not_names is) (λ no. absurd no)
      h) g) f) e) d) c) b) a) among

still_names : (n : ℕ) (name : FileName) → IsDrawn n name → IsDrawn (n + 1) name
still_names n (Log k) is = omega (arith, is)
still_names n (Table k) is = omega (arith, is)
still_names n (Manifest k) is = omega (arith, is)
still_names n (Temp k) is = omega (arith, is)
still_names n Current is = tt

-- a halted store doesn't care what it knows, and which number is the next
halted_more : (v : Shown) (seen : Seen) (at : Halt) (t : State) (known : List FileName) (next : ℕ)
    → Good (halted_shown seen at v) t → Good
    (halted_shown seen at (record v { kept = record v.kept { known = known; next = next } })) t
halted_more v seen at t known next good = record {
  story = good.story;
  told = good.told;
  mode = record {
    reads = record {
      rows = good.mode.reads.rows;
      tables = record {
        each = λ k placed found. let table = good.mode.reads.tables.each k placed found in
            record {
              numbered = table.numbered;
              bytes = table.bytes;
              file = table.file;
              table = table.table;
              size = table.size;
              viewed = table.viewed;
            };
      };
      order = record {
        levels = good.mode.reads.order.levels;
        leveled = good.mode.reads.order.leveled;
        listed = good.mode.reads.order.listed;
        distinct = good.mode.reads.order.distinct;
        frozen = good.mode.reads.order.frozen;
        last = good.mode.reads.order.last;
      };
      shown = good.mode.reads.shown;
      active = good.mode.reads.active;
    };
    now = good.mode.now;
    images = good.mode.images;
    files = good.mode.files;
    synced = good.mode.synced;
  };
  pinned = good.pinned;
  folders = good.folders;
  clear = good.clear;
  counted = good.counted;
  kept = record {
    own = good.kept.own;
    sequence = good.kept.sequence;
    greatest_pin = good.kept.greatest_pin;
    disables = good.kept.disables;
    begun = good.kept.begun;
    halt = good.kept.halt;
  };
  counts = record { faults = good.counts.faults; refusals = good.counts.refusals };
}

-- ---- the new manifest

begins_among : (dir : List ℕ) (n first : ℕ) (c : Change) → Begins dir n first c → MakesAmong dir (new_names n) first c
begins_among dir n first (Created other) kind = ⊎_elim (λ one. (Manifest n, manifest_among n, one))
    (λ temp. (Temp n, temp_among n, temp)) kind
begins_among dir n first (Named op) kind = kind
begins_among dir n first (Appended k bytes) kind = kind
begins_among dir n first (Synced k) kind = kind
begins_among dir n first Names_synced kind = kind
begins_among dir n first Idle kind = kind

module _ (x : Inner) (inside : IsInside x) (none : x.halt ≡ None) (small : x.next < 2 ^ 56 - 1)
    (unpinned : HoldNoCurrent x.catalog.pins) (last : ℕ) (version : Tables) (by : AddsTable (shown_of x) last version)
    (edit : Edit) (whole : IsWholeEdit version x.log (x.next + 1) last edit) where
  abbrev v : Shown
  v = shown_of x

  abbrev n : ℕ
  n = x.next

  abbrev info : TableInfo
  info = by.info

  abbrev here : List ℕ
  here = path_in x.home (Manifest x.manifest.number)

  number_ok : IsFileName (Manifest x.next)
  number_ok = file_number x.next inside.drawn small

  pub edit_taken : IsTaken edit
  edit_taken = whole_taken version by.adds.more.range x.log (x.next + 1) last inside.flush.log_number.some
      (omega (arith, inside.flush.log_number.most)) (omega arith) (omega (arith, small)) by.small edit whole

  may : MayBeNext (shown_of x).kept x.next
  may = drawn_next (shown_of x).kept x.next inside.below number_ok unpinned

  adds : AddsFlush (shown_of x) info x.log last version
  adds = subst (λ (k : ℕ). AddsFlush (shown_of x) info k last version) (log_same x info by.log last version by.adds) by.adds

  ends : EndsFrozen (shown_of x).kept x.log last
  ends = adds.ends

  abbrev alone : List Edit
  alone = edit ∷ []

  module _ (s : State) (good : Good (shown_of x) s) where
    abbrev d : disk.State
    d = state_of good.story

    abbrev first : ℕ
    first = length (state_of good.story).files

    abbrev run : IsRunning (state_of good.story) (shown_of x) s
    run = runs (shown_of x) s good none

    table : HasFlushTable (state_of good.story) x.home v.kept info by.adds.sealed.rows
    table = by.adds.sealed.is s good

    grammar : IsEdit (flush_edit info x.log x.next last)
    grammar = flush_fits info x.log x.next last inside.flush.log_number inside.drawn inside.most by.small
        by.adds.sealed.numbered by.adds.sealed.said

    more_adds : AddTable run.parts.edits info x.log last (run.parts.edits ++ flush_edit info x.log x.next last ∷ [])
    more_adds = appended_adds v s good run info by.adds.sealed.rows table x.log last ends x.next grammar

    version_is : version ≡ tables_after (run.parts.edits ++ flush_edit info x.log x.next last ∷ [])
    version_is = adds.more.is
        ∙ ap (λ (t : Tables). finmap.insert t info.number (at_top info)) run.sane.edits.version ∙ sym more_adds.tables

    -- the edit adds the table too
    add : AddTable run.parts.edits info x.log last (edit ∷ [])
    add = subst (λ (e : Edit). AddTable run.parts.edits info x.log last (e ∷ [])) (sym whole.is)
        (whole_adds run.parts.edits info x.log last (run.parts.edits ++ flush_edit info x.log x.next last ∷ []) more_adds
        edit.adds (subst (λ (t : Tables). AddAll t edit.adds) version_is whole.all) (x.next + 1) inside.flush.log_number
        (omega arith) (omega (arith, small)) by.small)

    version_now : version ≡ tables_after (edit ∷ [])
    version_now = adds.more.is
        ∙ ap (λ (t : Tables). finmap.insert t info.number (at_top info)) run.sane.edits.version ∙ sym add.tables

    -- ---- what there was

    abbrev was : Before
    was = record {
      current = The_file run.sane.current.file.id (sealed (current_text x.manifest.number));
      path = here;
      manifest = The_file run.sane.edits.file.id (sealed (manifest_text run.parts.edits));
    }

    still : StillBefore x.home was (state_of good.story)
    still = record { current = run.sane.current.file.file; manifest = run.sane.edits.file.file }

    manifest_known : Contains x.known (Manifest x.manifest.number)
    manifest_known = run.sane.known.all (Manifest x.manifest.number) run.sane.current.numbered
        (ap is_some (name_now d here (Some (File_node run.sane.edits.file.id)) run.sane.edits.file.file.named))

    apart : IsApart x.home x.next here
    apart = other_manifest x.home x.next number_ok x.manifest.number run.sane.current.numbered
        (λ same. may.unknown (subst (λ (k : ℕ). Contains x.known (Manifest k)) same manifest_known))

    either : (q : disk.State) (t : Tree) → NamesOldOrNew x.home x.next edit was q t
        → NamesWhole x.home x.manifest.number run.parts.edits t ⊎ NamesWhole x.home x.next (edit ∷ []) t
    either q t held = ⊎_elim
        (λ old. inl (record {
          current = kept_text (path_in x.home Current) (current_text x.manifest.number) t old.0;
          there = kept_text here (manifest_text run.parts.edits) t old.1;
        }))
        (λ new. inr (shows_names x.home x.next edit t new)) held

    lead : TellsLawful x.disk → LeadToFiles (state_of good.story)
    lead lawful = λ k.
        (subst (λ (o : Option Story). IfSome o (λ told. IsLawful (state_of told))) good.told lawful).files k

    went : (told : Option Story) (result : Result (Unit {0}) DiskRefusal) → Rolled x x.home edit told result
        → Went good.story told (Replaces x.home x.next (length (state_of good.story).files))
        (NamesOldOrNew x.home x.next edit was)
        (Leaves x.home x.next (length (state_of good.story).files) edit was result)
    went told result rolled =
        went_wider (Installs x.home x.next first) (Replaces x.home x.next first) (NamesOldOrNew x.home x.next edit was)
        (NamesOldOrNew x.home x.next edit was) (installs_replace x.home x.next first) (λ q t held. held)
        (rolled good.story was good.told still apart)

    -- each image on the way reads as a crash leaves the state
    reads : (told : Option Story) (J : disk.State → Type 0)
        → Went good.story told (Replaces x.home x.next (length (state_of good.story).files))
        (NamesOldOrNew x.home x.next edit was) J
        → TellsLawful x.disk
        → Went good.story told (Replaces x.home x.next (length (state_of good.story).files)) (λ q t. ReadsAsCrashed s t)
        (λ q. J q × ReplacesAt x.home x.next (state_of good.story) q)
    reads told J is lawful =
        roll_went v s good run info by.adds.sealed.rows table x.log last ends (edit ∷ []) add x.next may told
        (NamesOldOrNew x.home x.next edit was) J (lead lawful) either is

    shows : (told : Option Story) (result : Result (Unit {0}) DiskRefusal) → Rolled x x.home edit told result
        → TellsLawful x.disk → ImagesShow good.story told s s
    shows told result rolled lawful =
        went_weaker (λ q. Leaves x.home x.next first edit was result q × ReplacesAt x.home x.next d q) (λ q. Unit {0})
        (λ q is. tt)
        (went_wider (Replaces x.home x.next first) (λ c. Unit {0}) (λ q t. ReadsAsCrashed s t)
        (λ q t. ReadsAsCrashed s t ⊎ ReadsAsCrashed s t) (λ c is. tt) (λ q t is. inl is)
        (reads told (Leaves x.home x.next first edit was result) (went told result rolled) lawful))

    -- where it halts the folder stands for what it did
    halts : (seen : Seen) (r : DiskRefusal) → Rolled x x.home edit seen.told (Err r) → TellsLawful x.disk
        → Good (halted_shown seen r.at (shown_of x)) (halted_state seen r.at s.doubtful s)
    halts seen r rolled lawful =
        let gone = went seen.told (Err r) rolled in
        let shown : (t : Tree) → IsImage (state_of gone.story) t
        → NamesWhole x.home x.manifest.number run.parts.edits t ⊎ NamesWhole x.home x.next (edit ∷ []) t =
        λ t i. either (state_of gone.story) t ((goes_shows gone.goes).each t i) in
        let now = reads seen.told (λ q. (t : Tree) → IsImage q t
        → NamesWhole x.home x.manifest.number run.parts.edits t ⊎ NamesWhole x.home x.next (edit ∷ []) t)
        (record { story = gone.story; tells = gone.tells; goes = gone.goes; now = shown }) lawful in
        roll_halts v s good run info by.adds.sealed.rows table x.log last ends (edit ∷ []) add x.next may (state_of now.story)
        now.now.1 now.now.0 seen r.at now.story now.tells refl

    -- both names are free, and CURRENT is a file, so that a disk refuses nothing
    free_manifest : IsFree (manifest_path x.home x.next) (state_of good.story)
    free_manifest = no_node (finmap.get (names_now d) (path_in x.home (Manifest x.next)))
        (λ there. may.unknown (run.sane.known.all (Manifest x.next) number_ok there))

    free_temporary : IsFree (temporary_path x.home x.next) (state_of good.story)
    free_temporary = no_node (finmap.get (names_now d) (path_in x.home (Temp x.next)))
        (λ there. may.free (run.sane.known.all (Temp x.next) number_ok there))

    none_refused : no_installing x.home x.next (state_of good.story) ≡ None
    none_refused =
        let temporary : Option DiskError = no_room (path_in x.home (Temp x.next)) d in
        let place : Option DiskError = no_place (path_in x.home Current) d in
        ap (λ (o : Option DiskError). or_else o (or_else temporary place))
        (file_room d x.home v.kept run.sane.current (Manifest x.next) number_ok free_manifest)
        ∙ ap (λ (o : Option DiskError). or_else o place)
        (file_room d x.home v.kept run.sane.current (Temp x.next) number_ok free_temporary)
        ∙ ap (λ (b : Bool). if b then (if is_folder (names_now d) (path_in x.home Current) then Some why.Exists else None)
        else Some why.NotThere) (parent_there d x.home v.kept run.sane.current Current tt)
        ∙ ap (λ (b : Bool). if b then Some why.Exists else None) (current_no_folder d x.home v.kept run.sane.current)

    -- ---- the edit is there

    abbrev renewed : Renewed
    renewed = record { version = version; views = v.kept.views; unfinished = [] }

    fit : IsRenewed (state_of good.story) v (edit ∷ []) renewed
    fit = record {
      version = version_now;
      views = λ k view found. inl found;
      unfinished = All-nil (Contains v.kept.unfinished);
    }

    fresh_now : finmap.get version x.next ≡ None
    fresh_now = by_cases (finmap.get version x.next) refl
      where
        by_cases : (o : Option Placed) → finmap.get version x.next ≡ o → o ≡ None
        by_cases None is = refl
        by_cases (Some placed) is =
            let less : x.next < x.next = live_below x inside info x.log last version adds x.next (ap is_some is) in
            absurd (omega (arith, less))

    comes : (seen : Seen) → Rolled x x.home edit seen.told (Ok tt) → TellsLawful x.disk → x.disk.faults ≤ seen.faults
        → x.disk.refusals ≤ seen.refusals → ComesInstalled 1 s (shown_of x) (shown_of (rolled_inner x seen edit version last))
    comes seen rolled lawful faults refusals =
        let len : ℕ = length (manifest_text (edit ∷ [])) in
        let now = reads seen.told (Leaves {T = Unit {0}} x.home x.next first edit was (Ok tt)) (went seen.told (Ok tt) rolled)
        lawful in
        let done : HasReplaced (state_of now.story) x.home x.next (edit ∷ []) =
        installed_replaced x.home x.next edit (state_of now.story) now.now.0.0 in
        let there = roll_good v s good run info by.adds.sealed.rows table x.log last ends (edit ∷ []) add x.next may
        (state_of now.story) now.now.1 done renewed fit (All-nil (λ t. IsFileName (Table t.number))) len refl seen now.story
        now.tells none refl in
        let w : Shown = shown_of (record (rolled_inner x seen edit version last) { next = x.next }) in
        let p : Work = drawn_work (x.next + 1) w.kept.known (work_of w.kept) in
        let q : Work = drawn_work (x.next + 1) v.kept.known (work_of v.kept) in
        record {
          now = working_state seen q s;
          draws = draws_built 1 v s good run q seen refl (omega arith) (omega arith) faults refusals;
          faults = omega arith;
          refusals = omega arith;
          many = one_more v s good run info by.adds.sealed.rows table x.log last ends (edit ∷ []) add renewed fit len;
          good = noted_good w (flushed_state seen version len s) there
              (runs w (flushed_state seen version len s) there none) x.next number_ok fresh_now p refl refl seen there.story
              there.told none refl;
        }

  -- ---- the exits

  drawn_one : (more : List FileName) → All (IsNewName x.next) more
      → (w : Kept) → w.next ≡ x.next + 1 → w.known ≡ x.known ++ more → HasDrawn 1 (shown_of x).kept w
  drawn_one more each w next known = record {
    later = omega (arith, next);
    few = omega (arith, next);
    numbers = inr (omega (arith, next, small));
    still = λ name among. subst (λ (names : List FileName). Contains names name) (sym known)
        (Contains-append_left x.known more name among);
    made = λ name among. ⊎_elim (λ old. inl old)
        (λ new. inr (⊎_elim
        (λ same. subst (λ (f : FileName). IsMade (shown_of x).kept w f) (sym same)
        (record { drawn = omega (arith, next); since = inl (omega arith) }))
        (λ same. subst (λ (f : FileName). IsMade (shown_of x).kept w f) (sym same)
        (record { drawn = omega (arith, next); since = inl (omega arith) }))
        (All-contains (IsNewName x.next) more name each new)))
        (Contains-append_cases x.known more name (subst (λ (names : List FileName). Contains names name) known among));
  }

  module _ (roll : rolls (shown_of x).kept ≡ true) where
    has_flushed : (seen : Seen) → HasFlushed (shown_of x).kept (shown_of (rolled_inner x seen edit version last)).kept
    has_flushed seen = record {
      rows = λ is. nothing_in ends.greatest.row
          (subst (λ (rows : List Row). Contains rows ends.greatest.row) is ends.greatest.among);
      table = at_top info;
      level = refl;
      version = adds.more.is
          ∙ ap (λ (k : ℕ). finmap.insert v.kept.version k (at_top info)) (sym (ap (number_or x.next) adds.sealed.begun));
      few = adds.few;
      edit = record {
        rolled = λ is. refl;
        longer = λ is. absurd (both_ways (sym roll ∙ is));
      };
      next = sym (ap (λ (k : ℕ). x.next + k + edit_draws v.kept) (no_number_drawn v.kept info.number adds.sealed.begun)
          ∙ ap (λ (b : Bool). x.next + 0 + (if b then 1 else 0)) roll ∙ plus_one x.next);
      drawn = wider (drawn_one (Manifest x.next ∷ [])
          (All-cons (IsNewName x.next) (Manifest x.next) [] (inl refl) (All-nil (IsNewName x.next)))
          (shown_of (rolled_inner x seen edit version last)).kept refl refl);
      rest = refl;
      older = older_logs x.older;
      logs = refl;
      last_among = (ends.greatest.row, ends.greatest.among, ends.greatest.is);
      last_of = ends.greatest.most;
      ended = λ among. nothing_named (Table (flush_table v.kept)) among;
    }
      where
        plus_one : (k : ℕ) → k + 0 + 1 ≡ k + 1
        plus_one k = omega arith

        wider : {w : Kept} → HasDrawn 1 (shown_of x).kept w → HasDrawn 2 (shown_of x).kept w
        wider is = record {
          later = is.later;
          few = omega (arith, is.few);
          numbers = is.numbers;
          still = is.still;
          made = is.made;
        }

    pub ok_roll : (seen : Seen) → Rolled x x.home edit seen.told (Ok tt) → TellsLawful x.disk → x.disk.faults ≤ seen.faults
        → x.disk.refusals ≤ seen.refusals → HasInstalled 1 (shown_of x) (shown_of (rolled_inner x seen edit version last))
    ok_roll seen rolled lawful faults refusals = record {
      unhalted = none;
      counts = record { dir = refl; faults = faults; refusals = refusals };
      kept = has_flushed seen;
      good = λ s good. comes s good seen rolled lawful faults refusals;
      images = λ s good. shows s good seen.told (Ok tt) rolled lawful;
    }

  pub inside_rolled : (seen : Seen) (m : manifest.Shown) → m ≡ rolled_manifest x edit → (catalog : Kept)
      → catalog.version ≡ version → catalog.pins ≡ x.catalog.pins
      → IsInside (record (rolled_inner x seen edit version last) { manifest = m; catalog = catalog })
  inside_rolled seen m is catalog catalog_is pins = record {
    path_is = inside.path_is;
    manifest_in = ap (λ (o : manifest.Shown). o.dir) is ∙ inside.manifest_in;
    manifest_is = ap (λ (o : manifest.Shown). o.path) is
        ∙ ap (λ (dir : List ℕ). path_in dir (Manifest x.next)) inside.manifest_in
        ∙ ap (λ (k : ℕ). path_in x.home (Manifest k)) (sym (ap (λ (o : manifest.Shown). o.number) is));
    before = inside.before;
    small = inside.small;
    one = λ is. refl;
    drawn = omega arith;
    most = omega (arith, small);
    below = All-append (IsDrawn (x.next + 1)) x.known (Manifest x.next ∷ [])
        (All-weaker (IsDrawn x.next) (IsDrawn (x.next + 1)) (still_names x.next) x.known inside.below)
        (All-cons (IsDrawn (x.next + 1)) (Manifest x.next) [] (omega arith) (All-nil (IsDrawn (x.next + 1))));
    fit = All-push IsFileName x.known (Manifest x.next) inside.fit number_ok;
    jobs = subst (All (λ (pin : KeptPin). IsNamedJob pin.job)) (sym pins) inside.jobs;
    flush = record {
      log_number = inside.flush.log_number;
      active_keys = inside.flush.active_keys;
      frozen_keys = All-nil HasShortKey;
      below = λ k live.
          let less : k < x.next = live_below x inside info x.log last version adds k
          (sym (ap (λ (t : Tables). is_some (finmap.get t k)) catalog_is) ∙ live) in
          omega (arith, less);
      table = tt;
    };
  }

  -- ---- a refusal

  module _ (seen : Seen) (r : DiskRefusal) (made : ℕ) (is : IsRolledBack x x.home edit seen r made)
      (faults : x.disk.faults ≤ seen.faults) (refusals : x.disk.refusals ≤ seen.refusals) where
    abbrev known : List FileName
    known = x.known ++ take made (new_names x.next)

    abbrev w : Option Halt → Shown
    w h = shown_of (refused_inner x seen made h)

    each_new : (k : ℕ) → All (IsNewName x.next) (take k (new_names x.next))
    each_new zero = All-nil (IsNewName x.next)
    each_new (suc zero) = All-cons (IsNewName x.next) (Manifest x.next) [] (inl refl) (All-nil (IsNewName x.next))
    each_new (suc (suc k)) = subst (All (IsNewName x.next)) (sym (all_taken x.next k))
        (All-cons (IsNewName x.next) (Manifest x.next) (Temp x.next ∷ []) (inl refl)
        (All-cons (IsNewName x.next) (Temp x.next) [] (inr refl) (All-nil (IsNewName x.next))))

    drawn : HasDrawn 1 (shown_of x).kept (shown_of (refused_inner x seen made None)).kept
    drawn = drawn_one (take made (new_names x.next)) (each_new made) (w None).kept refl refl

    on : GoesOn 1 (shown_of x).kept (shown_of (refused_inner x seen made None)).kept
    on = record { rest = refl; taken = omega arith; table = λ number begun. begun; drawn = drawn }

    met : IsMet x.home r.at table_calls
    met = install_met x.home x.next r.at is.at

    failed : r.why ≡ why.Fault → Rose x.disk.faults seen.faults → Fails 1 (shown_of x) (w (Some r.at))
    failed fault rose =
        let lawful : TellsLawful x.disk = ⊎_elim (λ tells. tells)
        (λ un. absurd (not_both (sym fault ∙ ap (λ (q : DiskRefusal). q.why) un.1))) is.lawful in
        record {
          at = r.at;
          halt = refl;
          met = met;
          rose = rose;
          counts = record { dir = refl; faults = faults; refusals = refusals };
          on = on;
          good = λ s good. record {
            now = s;
            draws = draws_more 0 1 s s (omega arith) (draws_none s good.counted.durable);
            faults = omega (arith, good.counts.faults, faults);
            refusals = omega (arith, good.counts.refusals, refusals);
            good = halted_more (shown_of x) seen r.at (halted_state seen r.at s.doubtful s) known (x.next + 1)
                (halts s good seen r is.rolled lawful);
          };
          images = λ s good. shows s good seen.told (Err r) is.rolled lawful;
        }

    changed : (e : DiskError) → r.why ≡ e → (RefusesBy None e → ⊥) → Rose x.disk.refusals seen.refusals
        → FindsChanged 1 r.at.call r.at.path (shown_of x) (w (Some r.at))
    changed e same never rose = record {
      halt = refl;
      met = met;
      other = not_removal x.home x.next r.at is.at;
      rose = rose;
      counts = record { dir = refl; faults = faults; refusals = refusals };
      on = on;
      never = λ s good. never (subst (RefusesBy None) same (subst (λ (o : Option DiskError). RefusesBy o r.why)
          (none_refused s good)
          (subst (λ (told : Option Story). IfSome told
          (λ story. RefusesBy (no_installing x.home x.next (state_of story)) r.why))
          good.told is.answers)));
    }

    -- memory was wanting: the two files are there as far as the call tells
    module _ (wants : r.why ≡ why.NoMemory) where
      untouched_known : IsUntouched {T = Unit {0}} (manifest_path x.home x.next) x.disk seen (Err r) → known ≡ x.known
      untouched_known un =
          let none_made : made ≡ 0 = is.count.0 (ap (λ (q : DiskRefusal). q.at.path) un.1)
          ∙ ap (λ (q : DiskRefusal). made_at q.at.call true) un.1 in
          ap (λ (k : ℕ). x.known ++ take k (new_names x.next)) none_made ∙ append-nil x.known

      begun : (s : State) (good : Good (shown_of x) s) → TellsLawful x.disk → Good
          (shown_of (refused_inner x seen made x.halt))
          (working_state seen (drawn_work (x.next + 1) known (work_of v.kept)) s)
      begun s good lawful =
          let run0 = is.wanting wants good.story good.told (free_manifest s good) (free_temporary s good) in
          let runs_on = went_making_among x.home (run s good).sane.current.named (new_names x.next)
          (All-cons IsFileName (Manifest x.next) (Temp x.next ∷ []) number_ok (All-cons IsFileName (Temp x.next) [] number_ok
          (All-nil IsFileName))) (BegunAt x.home x.next r.at) (lead s good lawful)
          (went_wider (Begins x.home x.next (first s good))
          (MakesAmong x.home (new_names x.next) (first s good)) Anything Anything
          (begins_among x.home x.next (first s good)) (λ q t held. held) run0) in
          begun_manifest_good v s good (run s good) x.next may (state_of runs_on.story) runs_on.now.1 known
          (knows_made x.next x.home (state_of runs_on.story) x.known made
          (counts_two x.next x.home number_ok r.at made is.count (state_of runs_on.story) runs_on.now.0))
          (x.next + 1) seen runs_on.story runs_on.tells none refl

      idle : (s : State) (good : Good (shown_of x) s)
          → IsUntouched {T = Unit {0}} (manifest_path x.home x.next) x.disk seen (Err r)
          → Good (shown_of (refused_inner x seen made x.halt))
          (working_state seen (drawn_work (x.next + 1) known (work_of v.kept)) s)
      idle s good un =
          noted_good v s good (run s good) x.next number_ok (next_free x inside)
          (drawn_work (x.next + 1) known (work_of v.kept))
          (untouched_known un) refl seen good.story (ap (λ (q : Seen). q.told) un.0 ∙ good.told) none refl

      wanting : Came 1 (shown_of x) (w x.halt)
      wanting = record {
        unhalted = none;
        counts = record { dir = refl; faults = faults; refusals = refusals };
        on = on;
        good = λ s good. record {
          now = working_state seen (drawn_work (x.next + 1) known (work_of v.kept)) s;
          draws = draws_built 1 v s good (run s good) (drawn_work (x.next + 1) known (work_of v.kept)) seen refl (omega arith)
              (omega arith) faults refusals;
          good = ⊎_elim (λ lawful. begun s good lawful) (λ un. idle s good un) is.lawful;
          crashed = λ t back. working_crashed s seen (drawn_work (x.next + 1) known (work_of v.kept)) t back;
        };
        images = λ s good. ⊎_elim (λ lawful. shows s good seen.told (Err r) is.rolled lawful)
            (λ un. same_shows (shown_of x) s s good seen.told (ap (λ (q : Seen). q.told) un.0)) is.lawful;
      }

    by_why : (e : DiskError) → r.why ≡ e → HasRisen x.disk seen e
        → Refuses 1 (error_by r.at e) (shown_of x) (shown_of (refused_inner x seen made (halt_by r.at e)))
    unfolding Refuses
    by_why why.Fault same rose = failed same rose
    by_why why.NotThere same rose = changed why.NotThere same (λ no. never_some no) rose
    by_why why.Exists same rose = changed why.Exists same (λ no. never_some no) rose
    by_why why.NoLinks same rose = changed why.NoLinks same (λ no. never_some no) rose
    by_why why.NotEmpty same rose = changed why.NotEmpty same (λ no. never_some no) rose
    by_why (why.Short found) same rose = changed (why.Short found) same (λ no. never_some no) rose
    by_why why.NoMemory same rose = subst (λ (h : Option Halt). Came 1 (shown_of x) (w h)) none (wanting same)

  pub refused_roll : (seen : Seen) (r : DiskRefusal) (made : ℕ) (m : manifest.Shown) (halt : Option Halt)
      (refusal : StoreError)
      (names : List FileName) → IsRolledBack x x.manifest.dir edit seen r made → m ≡ x.manifest → halt ≡ halt_of r
      → refusal ≡ error_of r → names ≡ x.known ++ take made (new_names x.next)
      → HasDiskCause {T = Unit {0}} x.disk seen (Err r)
      → Refuses 1 refusal (shown_of x)
      (shown_of (record x { disk = seen; next = x.next + 1; known = names; manifest = m; halt = halt }))
  refused_roll seen r made m halt refusal names is stays halts_is refusal_is names_are cause =
      subst (λ (e : StoreError). Refuses 1 e (shown_of x)
      (shown_of (record x { disk = seen; next = x.next + 1; known = names; manifest = m; halt = halt }))) (sym refusal_is)
      (subst (λ (h : Option Halt). Refuses 1 (error_of r) (shown_of x)
      (shown_of (record x { disk = seen; next = x.next + 1; known = names; manifest = m; halt = h }))) (sym halts_is)
      (subst (λ (o : manifest.Shown). Refuses 1 (error_of r) (shown_of x)
      (shown_of (record x { disk = seen; next = x.next + 1; known = names; manifest = o; halt = halt_of r }))) (sym stays)
      (subst (λ (l : List FileName). Refuses 1 (error_of r) (shown_of x)
      (shown_of (record x { disk = seen; next = x.next + 1; known = l; halt = halt_of r }))) (sym names_are)
      (by_why seen r made (subst (λ (dir : List ℕ). IsRolledBack x dir edit seen r made) inside.manifest_in is)
      cause.faults_later cause.refusals_later r.why refl cause.counted))))

  pub rolled_ok : rolls (shown_of x).kept ≡ true → (seen : Seen) (m : manifest.Shown) (names : List FileName)
      → Rolled x x.manifest.dir edit seen.told (Ok tt)
      → LawfulOrUntouched {T = Unit {0}} (manifest_path x.manifest.dir x.next) x.disk seen (Ok tt)
      → x.disk.faults ≤ seen.faults → x.disk.refusals ≤ seen.refusals → m ≡ rolled_manifest x edit
      → names ≡ x.known ++ Manifest x.next ∷ []
      → HasInstalled 1 (shown_of x) (shown_of
      (record (rolled_inner x seen edit version last) { manifest = m; known = names }))
  rolled_ok roll seen m names rolled lawful faults refusals m_is names_are =
      subst (λ (o : manifest.Shown). HasInstalled 1 (shown_of x)
      (shown_of (record (rolled_inner x seen edit version last) { manifest = o; known = names }))) (sym m_is)
      (subst (λ (l : List FileName). HasInstalled 1 (shown_of x)
      (shown_of (record (rolled_inner x seen edit version last) { known = l }))) (sym names_are)
      (ok_roll roll seen (subst (λ (dir : List ℕ). Rolled x dir edit seen.told (Ok tt)) inside.manifest_in rolled)
      (⊎_elim (λ is. is) (λ un. absurd un) lawful) faults refusals))

  pub inside_refused : (seen : Seen) (made : ℕ) (m : manifest.Shown) (names : List FileName) (halt : Option Halt)
      → m ≡ x.manifest → names ≡ x.known ++ take made (new_names x.next)
      → IsInside (record x { disk = seen; next = x.next + 1; known = names; manifest = m; halt = halt })
  inside_refused seen made m names halt same names_are = record {
    path_is = inside.path_is;
    manifest_in = ap (λ (o : manifest.Shown). o.dir) same ∙ inside.manifest_in;
    manifest_is = ap (λ (o : manifest.Shown). o.path) same ∙ inside.manifest_is
        ∙ ap (λ (k : ℕ). path_in x.home (Manifest k)) (sym (ap (λ (o : manifest.Shown). o.number) same));
    before = inside.before;
    small = inside.small;
    one = inside.one;
    drawn = omega arith;
    most = omega (arith, small);
    below = subst (All (IsDrawn (x.next + 1))) (sym names_are)
        (All-append (IsDrawn (x.next + 1)) x.known (take made (new_names x.next))
        (All-weaker (IsDrawn x.next) (IsDrawn (x.next + 1)) (still_names x.next) x.known inside.below) (each made));
    jobs = inside.jobs;
    fit = subst (All IsFileName) (sym names_are)
        (All-append IsFileName x.known (take made (new_names x.next)) inside.fit (each_fit made));
    flush = record {
      log_number = inside.flush.log_number;
      active_keys = inside.flush.active_keys;
      frozen_keys = inside.flush.frozen_keys;
      below = λ k live. let less = inside.flush.below k live in omega (arith, less);
      table = still_new x.frozen inside.flush.table;
    };
  }
    where
      each : (k : ℕ) → All (IsDrawn (x.next + 1)) (take k (new_names x.next))
      each zero = All-nil (IsDrawn (x.next + 1))
      each (suc zero) = All-cons (IsDrawn (x.next + 1)) (Manifest x.next) [] (omega arith) (All-nil (IsDrawn (x.next + 1)))
      each (suc (suc k)) = subst (All (IsDrawn (x.next + 1))) (sym (all_taken x.next k))
          (All-cons (IsDrawn (x.next + 1)) (Manifest x.next) (Temp x.next ∷ []) (omega arith)
          (All-cons (IsDrawn (x.next + 1)) (Temp x.next) [] (omega arith) (All-nil (IsDrawn (x.next + 1)))))

      each_fit : (k : ℕ) → All IsFileName (take k (new_names x.next))
      each_fit zero = All-nil IsFileName
      each_fit (suc zero) = All-cons IsFileName (Manifest x.next) [] number_ok (All-nil IsFileName)
      each_fit (suc (suc k)) = subst (All IsFileName) (sym (all_taken x.next k))
          (All-cons IsFileName (Manifest x.next) (Temp x.next ∷ []) number_ok
          (All-cons IsFileName (Temp x.next) [] number_ok (All-nil IsFileName)))

      still_new : (h : Held) → IsNewTable x.next x.catalog.version h → IsNewTable (x.next + 1) x.catalog.version h
      still_new (held.Rows rows) is = tt
      still_new (held.Table t) is = (is.0, (let less = is.1 in omega (arith, less)), is.2)

-- ---- before the disk is called

pub full_roll : (v : Shown) → v.halt ≡ None → (next : ℕ) → next ≡ v.kept.next → 2 ^ 56 - 1 ≤ next
    → Refuses 1 (error.NumbersFull next) v v
unfolding Refuses
full_roll v none next same full =
    (came_wider 0 1 v v (omega arith) (came_none v none), same, full, omega (arith, same))

pub wanting_roll : (v : Shown) → v.halt ≡ None → Refuses 1 error.NoMemory v v
unfolding Refuses
wanting_roll v none = came_wider 0 1 v v (omega arith) (came_none v none)
