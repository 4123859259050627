-- Readings of live tables, one behind another, and each exit of one.
use Rattle.std.specs.Prelude.{◌≡◌, ◌⊎◌, ℕ, ◌≤◌, Bool, true, false, cond, List, Option, Some, None, is_some, Result, Ok, Err, OnOk, IfErr, MatchResult}
use Rattle.std.proofs.Common.{refl, sym, ap, subst, ◌∙◌, arith, inl, inr, ⊎_elim}
use Rattle.std.proofs.lemmas.Bool.Decides.{nat_tests}
use Rattle.std.proofs.lemmas.Cmp.{nat_cmp_total}
use Rattle.std.specs.Ordering.{nat_cmp, eq_by_cmp}
use Rattle.std.specs.FinMap as finmap
use Rattle.lsm_io.specs.Causes.{Rose}
use Rattle.lsm_names.specs.declared.file_names.FileName.{FileName}
use Rattle.lsm_names.specs.declared.file_names.FileName.TheVariants.{Table as Named}
use Rattle.lsm_rows.specs.declared.rows.Row.{Row}
use Rattle.lsm_disk.specs.State as disk
use Rattle.lsm_disk.specs.State.{Seen, Story, state_of, file_now, bytes_of}
use Rattle.lsm_disk.specs.Images.{tree_now, bytes_at}
use Rattle.lsm_disk.specs.Dest.{path_in}
use Rattle.lsm_disk.specs.Viewed.{Viewed, opened}
use Rattle.lsm_disk.proofs.Images.{reads_image}
use Rattle.lsm_frame.proofs.Going.{rose_later}
use Rattle.lsm_table.specs.declared.faults.TableFault.{TableFault}
use Rattle.lsm_table.specs.declared.faults.TableFault.TheVariants as fault
use Rattle.lsm_table.specs.Opening as table
use Rattle.lsm_version.specs.declared.tables.Placed.{Placed}
use Rattle.lsm_version.specs.Levels.{Tables}
use Rattle.lsm_version.proofs.TableMaps.{same_number}
use Rattle.lsm_model.specs.declared.errors.StoreError.{StoreError}
use Rattle.lsm_model.specs.declared.errors.StoreError.TheVariants as error
use Rattle.lsm_refine.specs.Kept.{Kept, Shown}
use Rattle.lsm_refine.specs.Sane.{HasTable, HasTables}
use Rattle.lsm_refine.specs.Good.{AreInOrder, IsUnchanged, ViewsTell}
use Rattle.lsm_disk.specs.declared.calls.Halt.{Halt}
use Rattle.lsm_core.specs.Searching.{IsSearchable}
use Rattle.lsm_core.proofs.Ranges.{all_in_range}
use Rattle.lsm_refine.specs.Refused.{CountsHold, LosesView, KeepsAllBut, IsLiveTable, TablesRefused}
use Rattle.lsm_refine.specs.Caused.{ReadBy}
use Rattle.lsm_refine.proofs.FileLemmas.{whole_image}
use Rattle.lsm_table.specs.Tables.{Opened}
use Rattle.lsm_core.specs.Reading.{Views, Keeps, ClosesFailed, IsOutside, IsUnread, Asks, HoldsTable, IsTableOf}
use Rattle.lsm_core.specs.Reading.{ReadsTable, ToldTables, OpensLive, Reads, seen_with, read_error}
use Rattle.lsm_core.proofs.AskLemmas.{outside_by, opened_bytes, read_cause, closed_rose}

some_is : {X : Type 0} (x y : X) → Some x ≡ Some y → x ≡ y
some_is x y is = cc

not_none : {X : Type 0} (x : X) → None ≡ Some x → ⊥
not_none x is = cc

itself : (n : ℕ) → eq_by_cmp nat_cmp n n ≡ true
itself n = grind (arith, nat_tests)

-- ---- a live table's view

-- the bytes of a live table's file
there_now : (d : disk.State) (home : List ℕ) (kept : Kept) (number : ℕ) (placed : Placed) (rows : List Row) (has : HasTable d
    home kept number placed rows)
    → bytes_at (tree_now d) (path_in home (Named number)) ≡ Some has.bytes
there_now d home kept number placed rows has = whole_image d (path_in home (Named number)) has.bytes has.file (tree_now d)
    (reads_image d)

-- what is kept the same but for views that tell what the files have
tables_tell : (d : disk.State) (v : Shown) (kept : Kept) (rows : ℕ → List Row) → kept.version ≡ v.kept.version
    → ViewsTell d v kept.views → HasTables d v.dir v.kept rows → HasTables d v.dir kept rows
tables_tell d v kept rows same tell has = record {
  each = λ number placed found.
      let is = has.each number placed (ap (λ (t : Tables). finmap.get t number) (sym same) ∙ found) in
      record {
        numbered = is.numbered;
        bytes = is.bytes;
        file = is.file;
        table = is.table;
        size = is.size;
        viewed = λ view there. ⊎_elim
            (λ old. is.viewed view old)
            (λ new. new ∙ there_now d v.dir v.kept number placed (rows number) is)
            (tell number view there);
      };
}

-- the same tables in another place
pub tables_same : (d : disk.State) (home : List ℕ) (k l : Kept) (rows : ℕ → List Row) → l.version ≡ k.version → l.views ≡
    k.views
    → HasTables d home k rows → HasTables d home l rows
tables_same d home k l rows same views has = record {
  each = λ number placed found.
      let is = has.each number placed (ap (λ (t : Tables). finmap.get t number) (sym same) ∙ found) in
      record {
        numbered = is.numbered;
        bytes = is.bytes;
        file = is.file;
        table = is.table;
        size = is.size;
        viewed = λ view there. is.viewed view (ap (λ (x : Views). finmap.get x number) (sym views) ∙ there);
      };
}

-- ---- one reading behind another

all_of : {S : Type 0} {P Q : S → Type 0} (r : Result S StoreError) → ((y : S) → P y → Q y) → MatchResult r P IsOutside →
    MatchResult r Q IsOutside
all_of (Ok y) so is = so y is
all_of (Err e) so is = is

module _ (v w u : Shown) where
  live_before : w.kept ≡ record v.kept { views = w.kept.views } → (name : FileName) → IsLiveTable w.kept name → IsLiveTable
      v.kept name
  live_before same name is = (is.0, is.1, ap (λ (k : Kept). is_some (finmap.get k.version is.0)) (sym same) ∙ is.2)

  refused_before : CountsHold v w → w.kept ≡ record v.kept { views = w.kept.views } → (e : StoreError) → TablesRefused w u e
      → TablesRefused v u e
  refused_before counts same error.DiskFault rose = rose_later v.disk.faults w.disk.faults u.disk.faults counts.faults rose
  refused_before counts same (error.Missing name) is =
      (rose_later v.disk.refusals w.disk.refusals u.disk.refusals counts.refusals is.0, live_before same name is.1)
  refused_before counts same (error.Short name kept found) is = live_before same name is
  refused_before counts same (error.Damaged name place kept found) is = live_before same name is
  refused_before counts same (error.Malformed name place) is = live_before same name is
  refused_before counts same error.NoMemory is = is
  refused_before counts same other is = is

  keeps_then : (lost : Option ℕ) → KeepsAllBut None v w → KeepsAllBut lost w u → KeepsAllBut lost v u
  keeps_then lost first second = record {
    kept = second.kept ∙ ap (λ (k : Kept). record k { views = u.kept.views }) first.kept;
    views = λ number some. ⊎_elim
        (λ none. absurd (not_none number none))
        (λ still. second.views number still)
        (first.views number some);
    halt = second.halt ∙ first.halt;
  }

  counts_then : CountsHold v w → CountsHold w u → CountsHold v u
  counts_then first second = record {
    dir = second.dir ∙ first.dir;
    faults = omega (arith, first.faults, second.faults);
    refusals = omega (arith, first.refusals, second.refusals);
  }

  read_then : {T : Type 0} → CountsHold v w → KeepsAllBut None v w → (r : Result T StoreError) → ReadBy w u r → ReadBy v u r
  read_then counts keeps (Ok x) by = keeps_then None keeps by
  read_then counts keeps (Err e) by = (refused_before counts keeps.kept e by.0, (by.1.0, keeps_then by.1.0 keeps by.1.1))

  -- where the disk tells that the tables are there it does so behind the first reading
  abbrev told_later : KeepsAllBut None v w → (rows : ℕ → List Row) (told : ToldTables v rows) → IsUnchanged told.story v w →
      ToldTables w rows
  told_later keeps rows told same = record {
    story = same.later;
    told = same.told;
    tables = subst (λ (d : disk.State). HasTables d w.dir w.kept rows) (sym same.state)
        (subst (λ (dir : List ℕ). HasTables (state_of told.story) dir w.kept rows) (sym same.dir)
        (tables_tell (state_of told.story) v w.kept rows (ap (λ (k : Kept). k.version) same.kept) same.views told.tables));
  }

  abbrev unchanged_then : (story : Story) (first : IsUnchanged story v w) → IsUnchanged first.later w u → IsUnchanged story v u
  unchanged_then story first second = record {
    later = second.later;
    told = second.told;
    state = second.state ∙ first.state;
    dir = second.dir ∙ first.dir;
    kept = second.kept ∙ ap (λ (k : Kept). record k { views = u.kept.views }) first.kept;
    views = λ number view there. ⊎_elim
        (λ before. first.views number view before)
        (λ new. inr (new ∙ (λ i. bytes_at (tree_now (first.state i)) (path_in (first.dir i) (Named number)))))
        (second.views number view there);
  }

  pub reads_then : {T S : Type 0} (First : (ℕ → List Row) → T → Type 0) (Second Whole : (ℕ → List Row) → S → Type 0) (x : T)
      (r : Result S StoreError) → Reads First v w (Ok x) → Reads Second w u r
      → ((rows : ℕ → List Row) (y : S) → First rows x → Second rows y → Whole rows y) → Reads Whole v u r
  reads_then First Second Whole x r first second so = record {
    counts = counts_then first.counts second.counts;
    told = second.told ∙ first.told;
    by = read_then first.counts first.by r second.by;
    live = λ number some. ⊎_elim
        (λ before. first.live number before)
        (λ in_version. inr (ap (λ (k : Kept). is_some (finmap.get k.version number)) (sym first.by.kept) ∙ in_version))
        (second.live number some);
    unchanged = λ rows told.
        let same = first.unchanged rows told in
        unchanged_then told.story same (second.unchanged rows (told_later first.by rows told same));
    exact = λ rows told. all_of r (λ y is. so rows y (first.exact rows told) is)
        (second.exact rows (told_later first.by rows told (first.unchanged rows told)));
  }

-- ---- another meaning of the answer

pub reads_weaker : {T : Type 0} (First Second : (ℕ → List Row) → T → Type 0) (v w : Shown) (r : Result T StoreError) → Reads
    First v w r
    → ((rows : ℕ → List Row) (x : T) → First rows x → Second rows x) → Reads Second v w r
reads_weaker First Second v w r is so = record {
  counts = is.counts;
  told = is.told;
  by = is.by;
  live = is.live;
  unchanged = is.unchanged;
  exact = λ rows t. all_of r (so rows) (is.exact rows t);
}

-- a refusal says as much of another answer
pub reads_refusal : {T S : Type 0} (First : (ℕ → List Row) → T → Type 0) (Second : (ℕ → List Row) → S → Type 0) (v w : Shown)
    (e : StoreError)
    → Reads First v w (Err e) → Reads Second v w (Err e)
reads_refusal First Second v w e is = record {
  counts = is.counts;
  told = is.told;
  by = is.by;
  live = is.live;
  unchanged = is.unchanged;
  exact = is.exact;
}

pub reads_so : {T S : Type 0} (First : (ℕ → List Row) → T → Type 0) (Second : (ℕ → List Row) → S → Type 0) (v w : Shown) (x :
    T) (y : S)
    → Reads First v w (Ok x) → ((rows : ℕ → List Row) → First rows x → Second rows y) → Reads Second v w (Ok y)
reads_so First Second v w x y is so = record {
  counts = is.counts;
  told = is.told;
  by = is.by;
  live = is.live;
  unchanged = is.unchanged;
  exact = λ rows told. so rows (is.exact rows told);
}

-- behind a reading memory may be wanting
pub reads_wanting : {T S : Type 0} (First : (ℕ → List Row) → T → Type 0) (Second : (ℕ → List Row) → S → Type 0) (v w : Shown)
    (x : T)
    → Reads First v w (Ok x) → Reads Second v w (Err error.NoMemory)
unfolding IsOutside
reads_wanting First Second v w x is = record {
  counts = is.counts;
  told = is.told;
  by = (tt, (None, is.by));
  live = is.live;
  unchanged = is.unchanged;
  exact = λ rows told. tt;
}

-- ---- the exits

module _ (home : List ℕ) (version : Tables) (old new : Seen) (views : Views) where
  abbrev v : Shown
  v = seen_with old home version views

  abbrev w : Views → Shown
  w later = seen_with new home version later

  module _ (told : new.told ≡ old.told) (faults : old.faults ≤ new.faults) (refusals : old.refusals ≤ new.refusals) (later :
      Views)
      (tell : (rows : ℕ → List Row) (t : ToldTables v rows) → ViewsTell (state_of t.story) v later) where
    hold : CountsHold v (w later)
    hold = record { dir = refl; faults = faults; refusals = refusals }

    keeps : (lost : Option ℕ) → LosesView lost v.kept (w later).kept → KeepsAllBut lost v (w later)
    keeps lost loses = record { kept = refl; views = loses; halt = refl }

    same : (rows : ℕ → List Row) (t : ToldTables v rows) → IsUnchanged t.story v (w later)
    same rows t = record { later = t.story; told = told ∙ t.told; state = refl; dir = refl; kept = refl; views = tell rows t }

    pub reads_ok : {T : Type 0} (F : (ℕ → List Row) → T → Type 0) (x : T) → LosesView None v.kept (w later).kept
        → OpensLive v.kept (w later).kept → ((rows : ℕ → List Row) → ToldTables v rows → F rows x) → Reads F v (w later) (Ok x)
    reads_ok F x loses live finds = record {
      counts = hold;
      told = told;
      by = keeps None loses;
      live = live;
      unchanged = same;
      exact = finds;
    }

    pub reads_err : {T : Type 0} (F : (ℕ → List Row) → T → Type 0) (e : StoreError) (lost : Option ℕ) → LosesView lost v.kept
        (w later).kept
        → OpensLive v.kept (w later).kept → TablesRefused v (w later) e → ((rows : ℕ → List Row) → ToldTables v rows → IsOutside e) → Reads F v (w later) (Err e)
    reads_err F e lost loses live cause outside = record {
      counts = hold;
      told = told;
      by = (cause, (lost, keeps lost loses));
      live = live;
      unchanged = same;
      exact = outside;
    }

  loses_none : LosesView None v.kept (w views).kept
  loses_none number some = inr some

  opens_none : OpensLive v.kept (w views).kept
  opens_none number some = inl some

  tells_same : (d : disk.State) → ViewsTell d v views
  tells_same d number view there = inl there

  -- nothing was done to the tables
  pub reads_nothing : {T : Type 0} (F : (ℕ → List Row) → T → Type 0) (x : T) → new.told ≡ old.told → old.faults ≤ new.faults
      → old.refusals ≤ new.refusals → ((rows : ℕ → List Row) → ToldTables v rows → F rows x) → Reads F v (w views) (Ok x)
  reads_nothing F x told faults refusals finds =
      reads_ok told faults refusals views (λ rows t. tells_same (state_of t.story)) F x loses_none opens_none finds

  pub reads_refused : {T : Type 0} (F : (ℕ → List Row) → T → Type 0) (e : StoreError) → new.told ≡ old.told → old.faults ≤
      new.faults
      → old.refusals ≤ new.refusals → TablesRefused v (w views) e → ((rows : ℕ → List Row) → ToldTables v rows → IsOutside e)
      → Reads F v (w views) (Err e)
  reads_refused F e told faults refusals cause outside =
      reads_err told faults refusals views (λ rows t. tells_same (state_of t.story)) F e None loses_none opens_none cause outside

  module _ (number : ℕ) (placed : Placed) (there : finmap.get version number ≡ Some placed) where
    is_live : (name : FileName) → name ≡ Named number → IsLiveTable v.kept name
    is_live name is = (number, is, ap is_some there)

    pub unread_refused : (later : Views) (e : StoreError) → IsUnread (Named number) old new e → TablesRefused v (w later) e
    unfolding IsUnread
    unread_refused later error.DiskFault rose = rose
    unread_refused later (error.Missing other) is = (is.1, is_live other is.0)
    unread_refused later (error.Short other kept found) is = is_live other is
    unread_refused later (error.Damaged other place kept found) is = is_live other is
    unread_refused later (error.Malformed other place) is = is_live other is
    unread_refused later error.NoMemory is = tt
    unread_refused later other is = is

    -- its view is there, or is another one
    put_at : (now : Viewed) (q : ℕ) → finmap.get (finmap.insert views number now) q ≡ cond (eq_by_cmp nat_cmp q number) (Some
        now) (finmap.get views q)
    put_at now q = finmap.get-insert nat_cmp_total views number now q

    loses_put : (now : Viewed) → LosesView None v.kept (w (finmap.insert views number now)).kept
    loses_put now q some = inr (by (eq_by_cmp nat_cmp q number) (put_at now q))
      where
        by : (b : Bool) → finmap.get (finmap.insert views number now) q ≡ cond b (Some now) (finmap.get views q)
            → is_some (finmap.get (finmap.insert views number now) q) ≡ true
        by true is = ap is_some is
        by false is = ap is_some is ∙ some

    opens_put : (now : Viewed) → OpensLive v.kept (w (finmap.insert views number now)).kept
    opens_put now q some = by (eq_by_cmp nat_cmp q number) refl (sym (ap is_some (put_at now q)) ∙ some)
      where
        by : (b : Bool) → eq_by_cmp nat_cmp q number ≡ b
            → is_some (cond (eq_by_cmp nat_cmp q number) (Some now) (finmap.get views q)) ≡ true
            → (is_some (finmap.get views q) ≡ true) ⊎ (is_some (finmap.get version q) ≡ true)
        by true here found = inr (ap (λ (n : ℕ). is_some (finmap.get version n)) (same_number q number here) ∙ ap is_some there)
        by false other found = inl (sym (ap (λ b. is_some (cond b (Some now) (finmap.get views q))) other) ∙ found)

    abbrev TellsFile : Viewed → Type 0
    TellsFile now = (rows : ℕ → List Row) (t : ToldTables v rows) → now.bytes ≡ Some (t.tables.each number placed there).bytes

    tells_put : (now : Viewed) → TellsFile now → (rows : ℕ → List Row) (t : ToldTables v rows)
        → ViewsTell (state_of t.story) v (finmap.insert views number now)
    tells_put now tells rows t q view is = by (eq_by_cmp nat_cmp q number) refl (sym (put_at now q) ∙ is)
      where
        by : (b : Bool) → eq_by_cmp nat_cmp q number ≡ b → cond (eq_by_cmp nat_cmp q number) (Some now) (finmap.get views q)
            ≡ Some view
            → (finmap.get views q ≡ Some view) ⊎ (view.bytes ≡ bytes_at (tree_now (state_of t.story)) (path_in home (Named q)))
        by true here found =
            let same : now ≡ view = some_is now view (sym (ap (λ b. cond b (Some now) (finmap.get views q)) here) ∙ found) in
            inr (ap (λ (x : Viewed). x.bytes) (sym same) ∙ tells rows t
            ∙ sym (there_now (state_of t.story) home v.kept number placed (rows number) (t.tables.each number placed there))
            ∙ ap (λ (n : ℕ). bytes_at (tree_now (state_of t.story)) (path_in home (Named n))) (sym (same_number q number here)))
        by false other found = inl (sym (ap (λ b. cond b (Some now) (finmap.get views q)) other) ∙ found)

    -- a table was opened
    pub opened_tells : (now : Viewed) → now.bytes ≡ (opened (path_in home (Named number)) placed.info.size old.told).bytes →
        TellsFile now
    opened_tells now is rows t =
        is ∙ opened_bytes home number placed (state_of t.story)
        (record { kept = v.kept; rows = rows number; has = t.tables.each number placed there }) old t.story t.told refl

    pub reads_put : {T : Type 0} (F : (ℕ → List Row) → T → Type 0) (x : T) (now : Viewed) → TellsFile now → new.told ≡ old.told
        → old.faults ≤ new.faults → old.refusals ≤ new.refusals → ((rows : ℕ → List Row) → ToldTables v rows → F rows x)
        → Reads F v (w (finmap.insert views number now)) (Ok x)
    reads_put F x now tells told faults refusals finds =
        reads_ok told faults refusals (finmap.insert views number now) (tells_put now tells) F x (loses_put now) (opens_put now)
        finds

    -- an open table was read
    module _ {T : Type 0} (Finds : List Row → T → Type 0) (later : Views) (r : Result T TableFault)
        (looks : ReadsTable Finds number views later r) where
      abbrev FindsIn : (ℕ → List Row) → T → Type 0
      FindsIn rows x = Finds (rows number) x

      was_bytes : (rows : ℕ → List Row) (t : ToldTables v rows) → looks.was.bytes ≡ Some (t.tables.each number placed
          there).bytes
      was_bytes rows t = (t.tables.each number placed there).viewed looks.was looks.there

      now_tells : TellsFile looks.now
      now_tells rows t = looks.stays.bytes ∙ was_bytes rows t

      pub now_there : finmap.get later number ≡ Some looks.now
      now_there =
          ap (λ (x : Views). finmap.get x number) looks.new_is ∙ put_at looks.now number
          ∙ ap (λ b. cond b (Some looks.now) (finmap.get views number)) (itself number)

      exact : (rows : ℕ → List Row) (t : ToldTables v rows) → MatchResult r (Finds (rows number)) table.IsOutside
      exact rows t =
          let has = t.tables.each number placed there in
          looks.exact has.bytes (rows number) number placed.info.session (was_bytes rows t) has.table

      module _ (told : new.told ≡ old.told) (faults : old.faults ≤ new.faults) (refusals : old.refusals ≤ new.refusals) where
        pub looked_ok : (x : T) → r ≡ Ok x → Reads FindsIn v (w later) (Ok x)
        looked_ok x is =
            subst (λ (views_now : Views). Reads FindsIn v (w views_now) (Ok x)) (sym looks.new_is)
            (reads_put FindsIn x looks.now now_tells told faults refusals
            (λ rows t. subst (λ o. MatchResult o (Finds (rows number)) table.IsOutside) is (exact rows t)))

        fault_outside : (f : TableFault) → r ≡ Err f → (rows : ℕ → List Row) → ToldTables v rows → IsOutside (read_error
            (Named number) f)
        fault_outside f is rows t =
            outside_by (Named number) f (subst (λ o. MatchResult o (Finds (rows number)) table.IsOutside) is (exact rows t))

        pub looked_fault : (f : TableFault) → r ≡ Err f → IsUnread (Named number) old new (read_error (Named number) f)
            → Reads FindsIn v (w later) (Err (read_error (Named number) f))
        looked_fault f is unread =
            subst (λ (x : Views). Reads FindsIn v (w x) (Err (read_error (Named number) f))) (sym looks.new_is)
            (reads_err told faults refusals (finmap.insert views number looks.now) (tells_put looks.now now_tells) FindsIn
            (read_error (Named number) f) None (loses_put looks.now) (opens_put looks.now)
            (unread_refused (finmap.insert views number looks.now) (read_error (Named number) f) unread) (fault_outside f is))

        -- the view failed, and was closed
        gone_at : (q : ℕ) → finmap.get (finmap.remove later number) q ≡ cond (eq_by_cmp nat_cmp q number) None (finmap.get
            later q)
        gone_at q = finmap.get-remove nat_cmp_total later number q

        later_at : (q : ℕ) → eq_by_cmp nat_cmp q number ≡ false → finmap.get later q ≡ finmap.get views q
        later_at q other =
            ap (λ (x : Views). finmap.get x q) looks.new_is ∙ put_at looks.now q
            ∙ ap (λ b. cond b (Some looks.now) (finmap.get views q)) other

        loses_gone : LosesView (Some number) v.kept (w (finmap.remove later number)).kept
        loses_gone q some = by (eq_by_cmp nat_cmp q number) refl
          where
            by : (b : Bool) → eq_by_cmp nat_cmp q number ≡ b
                → (Some number ≡ Some q) ⊎ (is_some (finmap.get (finmap.remove later number) q) ≡ true)
            by true here = inl (ap Some (sym (same_number q number here)))
            by false other =
                inr (ap is_some (gone_at q ∙ ap (λ b. cond b None (finmap.get later q)) other ∙ later_at q other) ∙ some)

        tells_gone : (d : disk.State) → ViewsTell d v (finmap.remove later number)
        tells_gone d q view is = by (eq_by_cmp nat_cmp q number) refl (sym (gone_at q) ∙ is)
          where
            by : (b : Bool) → eq_by_cmp nat_cmp q number ≡ b → cond (eq_by_cmp nat_cmp q number) None (finmap.get later q) ≡
                Some view
                → (finmap.get views q ≡ Some view) ⊎ (view.bytes ≡ bytes_at (tree_now d) (path_in home (Named q)))
            by true here found =
                absurd (not_none view (sym (ap (λ b. cond b None (finmap.get later q)) here) ∙ found))
            by false other found =
                inl (sym (later_at q other) ∙ sym (ap (λ b. cond b None (finmap.get later q)) other) ∙ found)

        opens_gone : OpensLive v.kept (w (finmap.remove later number)).kept
        opens_gone q some = by (eq_by_cmp nat_cmp q number) refl (sym (ap is_some (gone_at q)) ∙ some)
          where
            by : (b : Bool) → eq_by_cmp nat_cmp q number ≡ b
                → is_some (cond (eq_by_cmp nat_cmp q number) None (finmap.get later q)) ≡ true
                → (is_some (finmap.get views q) ≡ true) ⊎ (is_some (finmap.get version q) ≡ true)
            by true here found = inr (ap (λ (n : ℕ). is_some (finmap.get version n)) (same_number q number here)
                ∙ ap is_some there)
            by false other found = inl (ap is_some (sym (later_at q other))
                ∙ sym (ap (λ b. is_some (cond b None (finmap.get later q))) other) ∙ found)

        pub looked_gone : r ≡ Err fault.ReadFault → Rose old.faults new.faults
            → Reads FindsIn v (w (finmap.remove later number)) (Err error.DiskFault)
        looked_gone is rose =
            reads_err told faults refusals (finmap.remove later number) (λ rows t. tells_gone (state_of t.story)) FindsIn
            error.DiskFault (Some number) loses_gone opens_gone rose (λ rows t. fault_outside fault.ReadFault is rows t)

-- a table that is kept is open
pub kept_is_open : {T : Type 0} (number named : ℕ) (views later : Views) (view : Viewed) (r : Result T StoreError) → named ≡
    number
    → OnOk r (later ≡ finmap.insert views named view) → OnOk r (is_some (finmap.get later number) ≡ true)
kept_is_open number named views later view (Ok value) is kept =
    ap is_some (ap (λ (x : Views). finmap.get x number) kept ∙ finmap.get-insert nat_cmp_total views named view number
    ∙ ap (λ b. cond b (Some view) (finmap.get views number)) (ap (eq_by_cmp nat_cmp number) is ∙ itself number))
kept_is_open number named views later view (Err e) is kept = tt

module _ (home : List ℕ) (version : Tables) (number : ℕ) (placed : Placed) (there : finmap.get version number ≡ Some placed)
    (old new : Seen)
    (views : Views) where
  -- a table is opened, or couldn't be
  pub opening_refused : {T S : Type 0} (F : (ℕ → List Row) → T → Type 0) (e : StoreError)
      → Asks {T = S} (Named number) (HoldsTable home number placed) old new (Err e)
      → Reads F (seen_with old home version views) (seen_with new home version views) (Err e)
  opening_refused F e asks =
      reads_refused home version old new views F e asks.told asks.faults asks.refusals
      (unread_refused home version old new views number placed there views e asks.cause)
      (λ rows t. asks.outside t.story t.told (record { kept = _; rows = rows number; has = t.tables.each number placed there }))

  module _ (T : Type 0) (x : T) (mid : Seen) (opened_table : Opened) (asks : Asks {T = T} (Named number) (HoldsTable home
      number placed) old mid (Ok x))
      (is : IsTableOf (opened (path_in home (Named number)) placed.info.size old.told).bytes number opened_table)
      (keeps : Keeps mid new) (later : Views) where
    abbrev Any : (ℕ → List Row) → Unit {0} → Type 0
    Any rows value = Unit {0}

    wanting : new.told ≡ old.told → old.faults ≤ new.faults → old.refusals ≤ new.refusals
        → Reads Any (seen_with old home version views) (seen_with new home version views) (Err error.NoMemory)
    unfolding IsOutside
    wanting told faults refusals =
        reads_refused home version old new views Any error.NoMemory told faults refusals tt (λ rows t. tt)

    pub opening_kept : (r : Result (Unit {0}) StoreError)
        → OnOk r (later ≡ finmap.insert views opened_table.properties.number opened_table.viewed)
        → IfErr r (λ e. (e ≡ error.NoMemory) × (later ≡ views))
        → Reads Any (seen_with old home version views) (seen_with new home version later) r
    opening_kept (Ok value) kept refused =
        subst (λ (x : Views). Reads Any (seen_with old home version views) (seen_with new home version x) (Ok value))
        (sym (kept ∙ ap (λ (n : ℕ). finmap.insert views n opened_table.viewed) is.number_is))
        (reads_put home version old new views number placed there Any value opened_table.viewed
        (opened_tells home version old new views number placed there opened_table.viewed is.bytes_are)
        (keeps.told ∙ asks.told) (omega (arith, asks.faults, keeps.faults)) (omega (arith, asks.refusals, keeps.refusals)) (λ
        rows t. tt))
    opening_kept (Err e) kept refused =
        subst (λ (x : Views). Reads Any (seen_with old home version views) (seen_with new home version x) (Err e)) (sym
        refused.1)
        (subst (λ (x : StoreError). Reads Any (seen_with old home version views) (seen_with new home version views) (Err x))
        (sym refused.0)
        (wanting (keeps.told ∙ asks.told) (omega (arith, asks.faults, keeps.faults)) (omega (
          arith,
          asks.refusals,
          keeps.refusals,
        ))))

  -- an open table couldn't be read
  module _ {T : Type 0} (Finds : List Row → T → Type 0) (mid later : Views) (r : Result T TableFault)
      (looks : ReadsTable Finds number views mid r) where
    abbrev FindsThere : (ℕ → List Row) → T → Type 0
    FindsThere rows x = Finds (rows number) x

    abbrev ReadsTo : Seen → Views → StoreError → Type 0
    ReadsTo seen x e = Reads FindsThere (seen_with old home version views) (seen_with seen home version x) (Err e)

    still : (f : TableFault) → r ≡ Err f → (new ≡ old) × (later ≡ mid) → (f ≡ fault.ReadFault → ⊥) → ReadsTo new later
        (read_error (Named number) f)
    still f failed closes not =
        subst (λ (s : Seen). ReadsTo s later (read_error (Named number) f)) (sym closes.0)
        (subst (λ (x : Views). ReadsTo old x (read_error (Named number) f)) (sym closes.1)
        (looked_fault home version old old views number placed there Finds mid r looks refl (omega arith) (omega arith) f failed
        (read_cause number old old refl (omega arith) (omega arith) f (λ is. absurd (not is)))))

    was_rose : r ≡ Err fault.ReadFault → Rose looks.was.faults looks.now.faults
    was_rose failed =
        subst (λ o. IfErr o (λ e. e ≡ fault.ReadFault → Rose looks.was.faults looks.now.faults)) failed looks.cause refl

    gone : r ≡ Err fault.ReadFault → ClosesFailed number fault.ReadFault old new mid later → ReadsTo new later error.DiskFault
    gone failed closes =
        subst (λ (x : Views). ReadsTo new x error.DiskFault) (sym closes.1)
        (looked_gone home version old new views number placed there Finds mid r looks closes.0.told closes.0.faults
        closes.0.refusals failed
        (closed_rose looks.was.faults looks.now.faults old.faults new.faults (was_rose failed)
        (closes.2 looks.now (now_there home version old new views number placed there Finds mid r looks))))

    by_fault : (f : TableFault) → r ≡ Err f → ClosesFailed number f old new mid later → ReadsTo new later (read_error (Named
        number) f)
    by_fault fault.ReadFault failed closes = gone failed closes
    by_fault (fault.Damaged place kept found) failed closes = still (fault.Damaged place kept found) failed closes (λ is.
        absurd (cc))
    by_fault (fault.Malformed place) failed closes = still (fault.Malformed place) failed closes (λ is. absurd (cc))
    by_fault fault.NoMemory failed closes = still fault.NoMemory failed closes (λ is. absurd (cc))

    pub looking_refused : (f : TableFault) (e : StoreError) → r ≡ Err f → e ≡ read_error (Named number) f
        → ClosesFailed number f old new mid later → ReadsTo new later e
    looking_refused f e failed is closes = subst (ReadsTo new later) (sym is) (by_fault f failed closes)

-- ---- in a store that keeps more

-- what is seen of a disk, and what is kept besides
module _ (old new : Seen) (home : List ℕ) (k l k' l' : Kept) (h h' : Option Halt) (version : k'.version ≡ k.version) (views :
    k'.views ≡ k.views)
    (kept : l' ≡ record k' { views = l.views }) where
  abbrev a : Shown
  a = record { disk = old; dir = home; kept = k; halt = h }

  abbrev b : Shown
  b = record { disk = new; dir = home; kept = l; halt = h }

  abbrev a' : Shown
  a' = record { disk = old; dir = home; kept = k'; halt = h' }

  abbrev b' : Shown
  b' = record { disk = new; dir = home; kept = l'; halt = h' }

  views_now : l'.views ≡ l.views
  views_now = ap (λ (x : Kept). x.views) kept

  abbrev pub told_part : (rows : ℕ → List Row) → ToldTables a' rows → ToldTables a rows
  told_part rows t = record {
    story = t.story;
    told = t.told;
    tables = tables_same (state_of t.story) home k' k rows (sym version) (sym views) t.tables;
  }

  live_whole : (name : FileName) → IsLiveTable k name → IsLiveTable k' name
  live_whole name is = (is.0, is.1, ap (λ (t : Tables). is_some (finmap.get t is.0)) version ∙ is.2)

  refused_whole : (e : StoreError) → TablesRefused a b e → TablesRefused a' b' e
  refused_whole error.DiskFault is = is
  refused_whole (error.Missing name) is = (is.0, live_whole name is.1)
  refused_whole (error.Short name wanted found) is = live_whole name is
  refused_whole (error.Damaged name place wanted found) is = live_whole name is
  refused_whole (error.Malformed name place) is = live_whole name is
  refused_whole error.NoMemory is = is
  refused_whole other is = is

  keeps_whole : (lost : Option ℕ) → KeepsAllBut lost a b → KeepsAllBut lost a' b'
  keeps_whole lost is = record {
    kept = kept ∙ ap (λ (x : Views). record k' { views = x }) (sym views_now);
    views = λ number some. ⊎_elim
        (λ gone. inl gone)
        (λ still. inr (ap (λ (x : Views). is_some (finmap.get x number)) views_now ∙ still))
        (is.views number (ap (λ (x : Views). is_some (finmap.get x number)) (sym views) ∙ some));
    halt = refl;
  }

  by_whole : {T : Type 0} (r : Result T StoreError) → ReadBy a b r → ReadBy a' b' r
  by_whole (Ok x) is = keeps_whole None is
  by_whole (Err e) is = (refused_whole e is.0, (is.1.0, keeps_whole is.1.0 is.1.1))

  pub reads_whole : {T : Type 0} (F G : (ℕ → List Row) → T → Type 0) (r : Result T StoreError) → Reads F a b r
      → ((rows : ℕ → List Row) (x : T) → ToldTables a' rows → F rows x → G rows x) → Reads G a' b' r
  reads_whole F G r is so = record {
    counts = record { dir = refl; faults = is.counts.faults; refusals = is.counts.refusals };
    told = is.told;
    by = by_whole r is.by;
    live = λ number some. ⊎_elim
        (λ before. inl (ap (λ (x : Views). is_some (finmap.get x number)) views ∙ before))
        (λ in_version. inr (ap (λ (t : Tables). is_some (finmap.get t number)) version ∙ in_version))
        (is.live number (ap (λ (x : Views). is_some (finmap.get x number)) (sym views_now) ∙ some));
    unchanged = λ rows t.
        let same = is.unchanged rows (told_part rows t) in
        record {
          later = same.later;
          told = same.told;
          state = same.state;
          dir = refl;
          kept = kept ∙ ap (λ (x : Views). record k' { views = x }) (sym views_now);
          views = λ number view there. ⊎_elim
              (λ before. inl (ap (λ (x : Views). finmap.get x number) views ∙ before))
              (λ new. inr new)
              (same.views number view (ap (λ (x : Views). finmap.get x number) (sym views_now) ∙ there));
        };
    exact = λ rows t. all_of r (λ x found. so rows x t found) (is.exact rows (told_part rows t));
  }

-- ---- a search

-- where all that is kept is in order, its tables can be searched
pub searchable : (v : Shown) (rows : ℕ → List Row) (first : ℕ) → ToldTables v rows → AreInOrder v.kept rows first →
    IsSearchable v.kept.version rows
searchable v rows first t order = record {
  levels = order.levels;
  leveled = order.leveled;
  ranged = λ number placed there. all_in_range placed.info (rows number) v.kept.last (order.listed number placed there)
      (t.tables.each number placed there).table.is.are_rows;
  distinct = order.distinct;
}
