-- A step of deletion, at each exit.
use Rattle.std.specs.Prelude.{◌≡◌, ◌≢◌, ◌⊎◌, ℕ, ◌≤◌, List, [], map, All, Contains, Option, Some, None, Result, Ok, Err, IfSome}
use Rattle.std.proofs.Common.{⊎_elim, inl, inr, refl, sym, ap, subst, ◌∙◌, if◌then◌else◌, Bool, arith}
use Rattle.std.proofs.lemmas.List.Elements.{All-nil, All-cons, All-contains, Contains-get_or}
use Rattle.lsm_io.specs.Causes.{Rose}
use Rattle.lsm_names.specs.FileNames.{IsFileName}
use Rattle.lsm_names.specs.declared.file_names.FileName.{FileName}
use Rattle.lsm_names.specs.declared.file_names.FileName.TheVariants as name
use Rattle.lsm_disk.specs.State.{Seen, Story, state_of, unnamed}
use Rattle.lsm_disk.specs.Refusals.{no_file}
use Rattle.lsm_disk.specs.Dest.{path_in}
use Rattle.lsm_disk.specs.Halts.{halt_at}
use Rattle.lsm_disk.specs.Answers.{Makes, Allowed, Answers, AnswersBy, LeftBy, RefusesBy, HasRisen}
use Rattle.lsm_disk.specs.declared.calls.DiskCall.TheVariants as call
use Rattle.lsm_disk.specs.declared.calls.DiskError.{DiskError}
use Rattle.lsm_disk.specs.declared.calls.DiskError.TheVariants as why
use Rattle.lsm_disk.specs.declared.calls.Halt.{Halt}
use Rattle.lsm_flush.specs.declared.frozen.Held.{Held}
use Rattle.lsm_flush.specs.declared.frozen.Held.TheVariants as held
use Rattle.lsm_flush.specs.Frozen.{number_of}
use Rattle.lsm_version.specs.Levels.{Tables}
use Rattle.lsm_model.specs.declared.events.Event.TheVariants as event
use Rattle.lsm_model.specs.declared.replies.Reply.TheVariants as reply
use Rattle.lsm_model.specs.declared.replies.Deleted.{Deleted}
use Rattle.lsm_model.specs.declared.replies.Deleted.TheVariants as delete
use Rattle.lsm_model.specs.declared.errors.StoreError.{StoreError}
use Rattle.lsm_model.specs.declared.errors.StoreError.TheVariants as error
use Rattle.lsm_model.specs.declared.states.State.{State}
use Rattle.lsm_refine.specs.Kept.{Kept, Shown, Unfinished}
use Rattle.lsm_refine.specs.Good.{IsRunning, Good}
use Rattle.lsm_refine.specs.Sane.{IsNeeded, IsHeld}
use Rattle.lsm_refine.specs.Grown.{IsDrawn}
use Rattle.lsm_refine.specs.Calls.{MayBeRemoved}
use Rattle.lsm_refine.specs.Caused.{DeletedBy, CausedBy}
use Rattle.lsm_refine.specs.Obsolete.{IsObsolete, IsNextObsolete, HasWithout}
use Rattle.lsm_refine.proofs.DeleteSteps.{delete_halted, delete_disabled, delete_nothing, delete_removed, delete_fault, delete_shows}
use Rattle.lsm_refine.proofs.WritingLemmas.{runs}
use Rattle.lsm_core.specs.Obsolete.{IsNext, deleting, written_table}
use Rattle.lsm_store.specs.Deleting.{fault_halt, not_removed}
use Rattle.lsm_store.specs.Inside.{Inner, IsInside, IsNewTable, unfinished_of, shown_of}
use Rattle.lsm_store.proofs.Calls.{IsCall, nothing_called, never_some}
use Rattle.lsm_store.proofs.Writings.{number_fits}

-- a step of deletion is answered so, and leaves the later store
abbrev pub IsDelete : Result Deleted StoreError → Shown → Shown → Type 0
IsDelete r v w = IsCall (λ s. s) event.DeleteStep (reply.DeleteStep r) v w

delete_caused : (v w : Shown) (r : Result Deleted StoreError) → DeletedBy v w r → CausedBy v event.DeleteStep (reply.DeleteStep r) w
unfolding CausedBy
delete_caused v w r by = by

-- ---- the names that the store needs

-- the table that is being written is the only unfinished one
same_unfinished : (h : Held) → map (λ (table : Unfinished). name.Table table.number) (written_table (number_of h))
    ≡ map (λ (table : Unfinished). name.Table table.number) (unfinished_of h)
same_unfinished (held.Rows rows) = refl
same_unfinished (held.Table w) = refl

-- it is a file's
table_fits : (next : ℕ) (tables : Tables) (h : Held) (n : FileName) → IsNewTable next tables h
    → ¬ Contains (map (λ (table : Unfinished). name.Table table.number) (unfinished_of h)) n
    → All (λ (table : Unfinished). IsFileName (name.Table table.number) × (name.Table table.number ≢ n)) (unfinished_of h)
table_fits next tables (held.Rows rows) n new apart =
    All-nil (λ (table : Unfinished). IsFileName (name.Table table.number) × (name.Table table.number ≢ n))
table_fits next tables (held.Table w) n new apart =
    All-cons (λ (table : Unfinished). IsFileName (name.Table table.number) × (name.Table table.number ≢ n)) _ []
    (number_fits w.number new.0, λ same. apart (0, omega arith, same))
    (All-nil (λ (table : Unfinished). IsFileName (name.Table table.number) × (name.Table table.number ≢ n)))

module _ (x : Inner) where
  abbrev asked : Kept
  asked = deleting x.known x.manifest.number (number_of x.frozen) x.catalog

  abbrev kept : Kept
  kept = (shown_of x).kept

  needed_here : (n : FileName) → IsNeeded asked n → IsNeeded kept n
  needed_here (name.Log number) need = need
  needed_here (name.Table number) need = need
  needed_here (name.Manifest number) need = need
  needed_here (name.Temp number) need = need
  needed_here name.Current need = need

  needed_there : (n : FileName) → IsNeeded kept n → IsNeeded asked n
  needed_there (name.Log number) need = need
  needed_there (name.Table number) need = need
  needed_there (name.Manifest number) need = need
  needed_there (name.Temp number) need = need
  needed_there name.Current need = need

  held_here : (n : FileName) → IsHeld asked n → IsHeld kept n
  held_here n has = ⊎_elim (λ need. inl (needed_here n need)) (λ pinned. inr pinned) has

  held_there : (n : FileName) → IsHeld kept n → IsHeld asked n
  held_there n has = ⊎_elim (λ need. inl (needed_there n need)) (λ pinned. inr pinned) has

  obsolete_here : (n : FileName) → IsObsolete asked n → IsObsolete kept n
  obsolete_here n obsolete = record {
    known = obsolete.known;
    unheld = λ has. obsolete.unheld (held_there n has);
    ended = λ among. obsolete.ended (subst (λ (names : List FileName). Contains names n) (sym (same_unfinished x.frozen)) among);
  }

  obsolete_there : (n : FileName) → IsObsolete kept n → IsObsolete asked n
  obsolete_there n obsolete = record {
    known = obsolete.known;
    unheld = λ has. obsolete.unheld (held_here n has);
    ended = λ among. obsolete.ended (subst (λ (names : List FileName). Contains names n) (same_unfinished x.frozen) among);
  }

  next_here : (n : FileName) → IsNextObsolete asked n → IsNextObsolete kept n
  next_here n next = record {
    obsolete = obsolete_here n next.obsolete;
    first = λ other obsolete. next.first other (obsolete_there other obsolete);
  }

-- the names but one are each as before
pub others_fit : (P : FileName → Type 0) (n : FileName) (names fewer : List FileName) → All P names
    → HasWithout n names fewer → All P fewer
others_fit P n names fewer each without k default within =
    All-contains P names _ each ((without _).0 (Contains-get_or fewer k default within)).1

-- ---- the exits

module _ (x : Inner) (inside : IsInside x) where
  abbrev v : Shown
  v = shown_of x

  pub halted_delete : (first : Halt) → x.halt ≡ Some first
      → IsDelete (Err (error.Halted first)) (shown_of x) (shown_of x)
  halted_delete first is =
      nothing_called (λ s. s) event.DeleteStep (reply.DeleteStep (Err (error.Halted first))) v
      (λ s good. delete_halted v s good first is) (delete_caused v v (Err (error.Halted first)) (is, refl))

  module _ (none : x.halt ≡ None) where
    pub disabled_delete : (count : ℕ) → count ≡ x.catalog.disables → count ≢ 0
        → IsDelete (Ok (delete.Disabled count)) (shown_of x) (shown_of x)
    disabled_delete count is some =
        subst (λ (n : ℕ). IsDelete (Ok (delete.Disabled n)) v v) (sym is)
        (nothing_called (λ s. s) event.DeleteStep (reply.DeleteStep (Ok (delete.Disabled x.catalog.disables))) v
        (λ s good. delete_disabled v s good none (λ zero. some (is ∙ zero)))
        (delete_caused v v (Ok (delete.Disabled x.catalog.disables)) (none, refl, (λ zero. some (is ∙ zero)), refl)))

    module _ (enabled : x.catalog.disables ≡ 0) where
      pub nothing_delete : IsNext (deleting x.known x.manifest.number (number_of x.frozen) x.catalog) None
          → IsDelete (Ok delete.Nothing) (shown_of x) (shown_of x)
      nothing_delete next =
          nothing_called (λ s. s) event.DeleteStep (reply.DeleteStep (Ok delete.Nothing)) v
          (λ s good. delete_nothing v s good none enabled)
          (delete_caused v v (Ok delete.Nothing)
          (none, enabled, (λ n obsolete. next n (obsolete_there x n obsolete)), refl))

      module _ (n : FileName) (next : IsNextObsolete (deleting x.known x.manifest.number (number_of x.frozen) x.catalog) n)
          (seen : Seen) (faults : x.disk.faults ≤ seen.faults) (refusals : x.disk.refusals ≤ seen.refusals) where
        it : IsNextObsolete (shown_of x).kept n
        it = next_here x n next

        may : MayBeRemoved (shown_of x).kept n
        may = record {
          known = it.obsolete.known;
          unheld = it.obsolete.unheld;
          written = table_fits x.next x.catalog.version x.frozen n inside.flush.table it.obsolete.ended;
        }

        run : (s : State) (good : Good (shown_of x) s) → IsRunning (state_of good.story) (shown_of x) s
        run s good = runs v s good none

        -- the file was removed
        pub removed_delete : (fewer : List FileName) → HasWithout n x.known fewer
            → Makes x.disk.told (unnamed (path_in x.home n)) seen.told
            → IsDelete (Ok (delete.Removed n)) (shown_of x) (shown_of (record x { disk = seen; known = fewer }))
        removed_delete fewer without makes = record {
          step = λ s good. delete_removed v s good none enabled (run s good) n may seen faults refusals fewer
              (record {
                each = λ other among. (((without other).0 among).1, ((without other).0 among).0);
                all = λ other among apart. (without other).1 (apart, among);
              }) makes;
          images = λ s good. delete_shows v s good (run s good) n may seen.told (inr makes) s;
          causes = record {
            counts = record { dir = refl; faults = faults; refusals = refusals };
            by = delete_caused v (shown_of (record x { disk = seen; known = fewer })) (Ok (delete.Removed n))
                ((none, none), enabled, it, refl, without);
          };
        }

        -- the disk failed, whether the file is gone or not
        pub fault_delete : (at : Halt) → at.call ≡ call.Unlink → at.path ≡ path_in x.home n → Rose x.disk.faults seen.faults
            → (seen.told ≡ x.disk.told)
            ⊎ (Allowed (no_file (path_in x.home n)) x.disk.told × Makes x.disk.told (unnamed (path_in x.home n)) seen.told)
            → IsDelete (Err error.DiskFault) (shown_of x) (shown_of (record x { disk = seen; halt = Some at }))
        fault_delete at called on rose left = record {
          step = λ s good. delete_fault v s good none enabled (run s good) n may seen faults refusals at
              (inl (called, (n, on ∙ ap (λ (dir : List ℕ). path_in dir n) good.kept.own))) rose made;
          images = λ s good. delete_shows v s good (run s good) n may seen.told made s;
          causes = record {
            counts = record { dir = refl; faults = faults; refusals = refusals };
            by = delete_caused v (shown_of (record x { disk = seen; halt = Some at })) (Err error.DiskFault)
                (enabled, refl, (n, it, (none, rose, (at, refl, inl (called, on)))));
          };
        }
          where
            made : (seen.told ≡ x.disk.told) ⊎ Makes x.disk.told (unnamed (path_in x.home n)) seen.told
            made = ⊎_elim (λ same. inl same) (λ did. inr did.1) left

        -- under good stores the file is there
        refused_so : (s : State) (good : Good (shown_of x) s) (e : DiskError)
            → Answers {T = Unit {0}} (no_file (path_in x.home n)) x.disk (Err e) → RefusesBy None e
        refused_so s good e answers =
            let there : no_file (path_in x.home n) (state_of good.story) ≡ None =
            ap (λ (b : Bool). if b then None else Some why.NotThere) ((run s good).sane.known.there n it.obsolete.known).1 in
            subst (λ (o : Option DiskError). RefusesBy o e) there
            (subst (λ (told : Option Story). IfSome told
            (λ story. AnswersBy {T = Unit {0}} (no_file (path_in x.home n) (state_of story)) (Err e))) good.told answers)

        -- somebody else has removed it
        gone_delete : ((s : State) → Good (shown_of x) s → ⊥) → Rose x.disk.refusals seen.refusals
            → IsDelete (Err (error.Missing n)) (shown_of x) (shown_of (record x { disk = seen; halt = None }))
        gone_delete never rose = record {
          step = λ s good. absurd (never s good);
          images = λ s good. absurd (never s good);
          causes = record {
            counts = record { dir = refl; faults = faults; refusals = refusals };
            by = delete_caused v (shown_of (record x { disk = seen; halt = None })) (Err (error.Missing n))
                ((none, refl), enabled, it, rose, refl);
          };
        }

        refused_by : (e : DiskError) → e ≢ why.NoMemory → Answers {T = Unit {0}} (no_file (path_in x.home n)) x.disk (Err e)
            → LeftBy (seen.told ≡ x.disk.told)
            (Allowed (no_file (path_in x.home n)) x.disk.told × Makes x.disk.told (unnamed (path_in x.home n)) seen.told) e
            → HasRisen x.disk seen e
            → IsDelete (Err (not_removed n e)) (shown_of x)
            (shown_of (record x { disk = seen; halt = fault_halt (path_in x.home n) e }))
        refused_by why.Fault memory answers left rose =
            fault_delete (halt_at call.Unlink (path_in x.home n)) refl refl rose left
        refused_by why.NoMemory memory answers left rose = absurd (memory refl)
        refused_by why.NotThere memory answers left rose =
            gone_delete (λ s good. never_some (refused_so s good why.NotThere answers)) rose
        refused_by why.Exists memory answers left rose =
            gone_delete (λ s good. never_some (refused_so s good why.Exists answers)) rose
        refused_by why.NoLinks memory answers left rose =
            gone_delete (λ s good. never_some (refused_so s good why.NoLinks answers)) rose
        refused_by why.NotEmpty memory answers left rose =
            gone_delete (λ s good. never_some (refused_so s good why.NotEmpty answers)) rose
        refused_by (why.Short found) memory answers left rose =
            gone_delete (λ s good. never_some (refused_so s good (why.Short found) answers)) rose

        -- the unlink was refused
        pub refused_delete : (e : DiskError) (path : List ℕ) (halt : Option Halt) (refusal : StoreError)
            → path ≡ path_in x.home n → halt ≡ fault_halt path e → refusal ≡ not_removed n e → e ≢ why.NoMemory
            → Answers {T = Unit {0}} (no_file path) x.disk (Err e)
            → LeftBy (seen.told ≡ x.disk.told) (Allowed (no_file path) x.disk.told × Makes x.disk.told (unnamed path) seen.told) e
            → HasRisen x.disk seen e
            → IsDelete (Err refusal) (shown_of x) (shown_of (record x { disk = seen; halt = halt }))
        refused_delete e path halt refusal path_is halts is memory answers left rose =
            subst (λ (r : StoreError). IsDelete (Err r) v (shown_of (record x { disk = seen; halt = halt }))) (sym is)
            (subst (λ (h : Option Halt). IsDelete (Err (not_removed n e)) v (shown_of (record x { disk = seen; halt = h })))
            (sym (halts ∙ ap (λ (p : List ℕ). fault_halt p e) path_is))
            (refused_by e memory (subst (λ (p : List ℕ). Answers {T = Unit {0}} (no_file p) x.disk (Err e)) path_is answers)
            (subst (λ (p : List ℕ). LeftBy (seen.told ≡ x.disk.told)
            (Allowed (no_file p) x.disk.told × Makes x.disk.told (unnamed p) seen.told) e) path_is left) rose))

-- ---- what is asked

pub asked_so : (x : Inner) (known : List FileName) (manifest : ℕ) (writing : Option ℕ) → known ≡ x.known
    → manifest ≡ x.manifest.number → writing ≡ number_of x.frozen
    → deleting known manifest writing x.catalog ≡ deleting x.known x.manifest.number (number_of x.frozen) x.catalog
asked_so x known manifest writing known_is manifest_is writing_is =
    λ i. deleting (known_is i) (manifest_is i) (writing_is i) x.catalog

-- ---- what is so of every store

pub inside_without : (x : Inner) → IsInside x → (n : FileName) (fewer : List FileName) → HasWithout n x.known fewer
    → (seen : Seen) → IsInside (record x { disk = seen; known = fewer })
inside_without x inside n fewer without seen = record {
  path_is = inside.path_is;
  manifest_in = inside.manifest_in;
  manifest_is = inside.manifest_is;
  before = inside.before;
  small = inside.small;
  one = inside.one;
  drawn = inside.drawn;
  most = inside.most;
  below = others_fit (IsDrawn x.next) n x.known fewer inside.below without;
  jobs = inside.jobs;
  fit = others_fit IsFileName n x.known fewer inside.fit without;
  flush = inside.flush;
}
