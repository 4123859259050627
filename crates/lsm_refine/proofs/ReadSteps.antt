-- Readings, at each exit: the store's answer is a step of the abstract store, and the store is good behind it. Only the disk's
-- counts and the open views may have changed.
use Rattle.std.specs.Prelude.{◌≡◌, ◌≢◌, ℕ, ◌≤◌, Bool, true, false, List, [], ◌∷◌, Option, Result, Ok, Err, ◌⊎◌, ◌+◌, take, length, Some, None}
use Rattle.std.specs.Str.{bytes_eq}
use Rattle.std.proofs.lemmas.Slice.Eq.{bytes_eq-Decides}
use Rattle.std.proofs.Common.{refl, ap, sym, subst, ◌∙◌, arith, ⊎_elim, inl, inr}
use Rattle.std.specs.FinMap as finmap
use Rattle.lsm_io.specs.Causes.{Rose}
use Rattle.lsm_names.specs.Folders.{is_folder_name}
use Rattle.lsm_rows.specs.Replay.{Contents}
use Rattle.lsm_disk.specs.State.{state_of}
use Rattle.lsm_disk.specs.Images.{tree_now, Tree}
use Rattle.lsm_model.specs.declared.errors.StoreError.{StoreError}
use Rattle.lsm_model.specs.declared.errors.StoreError.TheVariants as error
use Rattle.lsm_model.specs.declared.events.Event.TheVariants as event
use Rattle.lsm_model.specs.declared.replies.Reply.TheVariants as reply
use Rattle.lsm_model.specs.declared.replies.Shown.{Shown as Reading}
use Rattle.lsm_model.specs.declared.states.State.{State}
use Rattle.lsm_model.specs.Answers.{Done, Failed, Wanting}
use Rattle.lsm_model.specs.Moves.{Becomes, FailsToRead}
use Rattle.lsm_model.specs.Reads as reads
use Rattle.lsm_model.specs.Reads.{Gets, Scans, Shows, ReadsAs}
use Rattle.lsm_model.specs.States.{contents_now, none_or_one, written, shown_after}
use Rattle.lsm_model.specs.Steps.{Step}
use Rattle.lsm_refine.specs.Kept.{Shown}
use Rattle.lsm_refine.specs.Folders.{folder_reading, StandsFor, as_shown}
use Rattle.lsm_refine.specs.Good.{Good, IsUnchanged, with_counts}
use Rattle.lsm_refine.proofs.UnchangedLemmas.{unchanged_good}
use Rattle.lsm_refine.proofs.WriteSteps.{Steps}
use Rattle.std.proofs.lemmas.Bool.{cases_eq}
use Rattle.std.proofs.lemmas.List.{take_all, take-append-le, length-append}
use Rattle.lsm_rows.specs.declared.operations.Op.{Op}
use Rattle.lsm_disk.specs.Names.{Folder_node, Names, stands}
use Rattle.lsm_folder.specs.Files.{Place}
use Rattle.lsm_folder.proofs.FileLemmas.{folder_place}
use Rattle.lsm_folder.specs.Reading.{reading}
use Rattle.lsm_refine.proofs.GoodLemmas.{good_now}

get_step : (s t : State) (key : List ℕ) (r : Result (Option (List ℕ)) StoreError) → Gets s key r t → Step s (event.Get key) (reply.Get r) t
unfolding Step
get_step s t key r step = step

scan_step : (s t : State) (r : Result Contents StoreError) → Scans s r t → Step s event.Scan (reply.Scan r) t
unfolding Step
scan_step s t r step = step

show_step : (s t : State) (dir : List ℕ) (r : Result Reading StoreError) → Shows s dir r t → Step s (event.Show dir) (reply.Show r) t
unfolding Step
show_step s t dir r step = step

other_folder : (own dir : List ℕ) → dir ≢ own → bytes_eq own dir ≡ false
other_folder own dir differs = by (bytes_eq own dir) refl
  where
    by : (b : Bool) → bytes_eq own dir ≡ b → b ≡ false
    by true is = absurd (differs (sym ((bytes_eq-Decides own dir).0 is)))
    by false is = refl

-- ---- the store's own folder

stands_folder : (names : Names) (dir : List ℕ) → finmap.get names dir ≡ Some Folder_node → stands names dir ≡ Some Folder_node
stands_folder names [] is = refl
stands_folder names (c ∷ dir) is = is

own_reads : (s : State) (tree : Tree) (count : ℕ) → StandsFor s tree count
    → folder_reading s.own tree ≡ Ok (shown_after s (take count (written s)))
unfolding folder_reading
own_reads s tree count is =
    ap (λ (place : Place). as_shown s.own (reading place)) (folder_place s.own tree
    (stands_folder tree.names s.own is.folder)) ∙ ap (as_shown s.own) is.stands.read

one_at_most : (o : Option (List Op)) → length (none_or_one o) ≤ 1
one_at_most None = omega arith
one_at_most (Some ops) = omega arith

-- a front of the written batches that has the accepted ones is these, or all
front_of : (s : State) (count : ℕ) → length s.accepted ≤ count
    → (take count (written s) ≡ s.accepted) ⊎ (take count (written s) ≡ written s)
front_of s count enough = ⊎_elim
    (λ same. inl (take-append-le count s.accepted (none_or_one s.doubtful) (omega (arith, same)) ∙ take_all count s.accepted
    (omega (arith, same))))
    (λ differs. inr (take_all count (written s) (omega (arith, enough, more differs, one_at_most s.doubtful, length-append s.accepted (none_or_one s.doubtful)))))
    (cases_eq count (length s.accepted))
  where
    more : count ≢ length s.accepted → length s.accepted + 1 ≤ count
    more differs = omega (arith, differs, enough)

module _ (v w : Shown) (s : State) (good : Good v s) (same : IsUnchanged good.story v w) (halt : w.halt ≡ v.halt)
    (faults : v.disk.faults ≤ w.disk.faults) (refusals : v.disk.refusals ≤ w.disk.refusals) where
  abbrev t : State
  t = with_counts w.disk s

  becomes : Becomes s t
  becomes = record {
    rest = refl;
    faults = omega (arith, good.counts.faults, faults);
    refusals = omega (arith, good.counts.refusals, refusals);
  }

  stays : Good w t
  stays = unchanged_good v w s good same halt

  fails : Rose v.disk.faults w.disk.faults → FailsToRead s t
  fails rose = record { rose = subst (λ (n : ℕ). Rose n w.disk.faults) good.counts.faults rose; rest = becomes }

  -- ---- pairs

  pub get_ok : (key : List ℕ) (value : Option (List ℕ)) → value ≡ finmap.get (contents_now s) key
      → Steps s (event.Get key) (reply.Get (Ok value)) w
  get_ok key value is = (t, get_step s t key (Ok value) (Done value refl refl (is, becomes)), stays)

  pub get_fault : (key : List ℕ) → Rose v.disk.faults w.disk.faults → Steps s (event.Get key) (reply.Get (Err error.DiskFault)) w
  get_fault key rose = (t, get_step s t key (Err error.DiskFault) (Failed refl refl (fails rose)), stays)

  pub get_wanting : (key : List ℕ) → Steps s (event.Get key) (reply.Get (Err error.NoMemory)) w
  get_wanting key = (t, get_step s t key (Err error.NoMemory) (Wanting refl refl becomes), stays)

  pub scan_ok : (pairs : Contents) → pairs ≡ contents_now s → Steps s event.Scan (reply.Scan (Ok pairs)) w
  scan_ok pairs is = (t, scan_step s t (Ok pairs) (Done pairs refl refl (is, becomes)), stays)

  pub scan_fault : Rose v.disk.faults w.disk.faults → Steps s event.Scan (reply.Scan (Err error.DiskFault)) w
  scan_fault rose = (t, scan_step s t (Err error.DiskFault) (Failed refl refl (fails rose)), stays)

  pub scan_wanting : Steps s event.Scan (reply.Scan (Err error.NoMemory)) w
  scan_wanting = (t, scan_step s t (Err error.NoMemory) (Wanting refl refl becomes), stays)

  -- ---- folders

  -- another folder than the store's own, as it reads now
  pub show_other : (dir : List ℕ) (result : Result Reading StoreError) → is_folder_name dir ≡ true → dir ≢ v.dir
      → result ≡ folder_reading dir (tree_now (state_of good.story)) → Steps s (event.Show dir) (reply.Show result) w
  show_other dir result named differs is =
      let other : dir ≢ s.own = λ own. differs (own ∙ sym good.kept.own) in
      let as_known = is ∙ good.folders.now.reads dir named other in (
        t,
        show_step s t dir result (reads.As_it_reads (subst (λ (b : Bool). ReadsAs s dir b result)
            (sym (other_folder s.own dir other)) as_known) becomes),
        stays,
      )

  -- its own one, as it reads now
  pub show_own : (result : Result Reading StoreError) → result ≡ folder_reading v.dir (tree_now (state_of good.story))
      → Steps s (event.Show v.dir) (reply.Show result) w
  show_own result is =
      let now = good_now v s good in
      let reads_now : result ≡ Ok (shown_after s (take now.count (written s))) =
      is ∙ ap (λ (dir : List ℕ). folder_reading dir (tree_now (state_of good.story))) good.kept.own ∙ own_reads s
      (tree_now (state_of good.story)) now.count now.stands in
      let front : ReadsAs s v.dir true result = ⊎_elim
      (λ all. inl (reads_now ∙ ap (λ (l : List (List Op)). Ok (shown_after s l)) all))
      (λ more. inr (reads_now ∙ ap (λ (l : List (List Op)). Ok (shown_after s l)) more))
      (front_of s now.count now.enough) in (
        t,
        show_step s t v.dir result (reads.As_it_reads (subst (λ (b : Bool). ReadsAs s v.dir b result)
            (sym ((bytes_eq-Decides s.own v.dir).1 (sym good.kept.own))) front) becomes),
        stays,
      )

  pub show_fault : (dir : List ℕ) → Rose v.disk.faults w.disk.faults → Steps s (event.Show dir) (reply.Show (Err error.DiskFault)) w
  show_fault dir rose = (t, show_step s t dir (Err error.DiskFault) (reads.Failed refl (fails rose)), stays)

  pub show_wanting : (dir : List ℕ) → Steps s (event.Show dir) (reply.Show (Err error.NoMemory)) w
  show_wanting dir = (t, show_step s t dir (Err error.NoMemory) (reads.Wanting refl becomes), stays)
