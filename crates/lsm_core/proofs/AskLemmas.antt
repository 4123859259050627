-- What a disk call that asks for a file says, where it is refused.
use Rattle.std.specs.Prelude.{◌≡◌, ◌≢◌, ℕ, ◌≤◌, ◌<◌, Bool, true, false, nat_le, nat_eq, is_some, cond, List, length, take, Option, Some, None, Result, Ok, Err, IfSome, IfErr}
use Rattle.std.proofs.Common.{refl, sym, ap, subst, ◌∙◌, arith}
use Rattle.std.proofs.lemmas.Bool.Decides.{nat_tests}
use Rattle.std.specs.Cmp.Lexicographic.{pointwise}
use Rattle.std.proofs.lemmas.Cmp.{nat_list_eq_equiv}
use Rattle.std.proofs.lemmas.List.{append-nil, take_all}
use Rattle.lsm_names.specs.declared.file_names.FileName.{FileName}
use Rattle.lsm_disk.specs.State as disk
use Rattle.lsm_disk.specs.State.{Seen, Story, FileState, state_of, file_at, file_now, bytes_of}
use Rattle.lsm_disk.specs.Building.{sealed}
use Rattle.lsm_disk.specs.Refusals.{no_file, no_view, or_else, short_of}
use Rattle.lsm_disk.specs.Answers.{Answers, RefusesBy, HasCause, HasRisen}
use Rattle.lsm_disk.specs.declared.calls.DiskError.{DiskError}
use Rattle.lsm_disk.specs.declared.calls.DiskError.TheVariants as why
use Rattle.lsm_disk.proofs.Kept.{kept_at, kept_now}
use Rattle.lsm_model.specs.declared.errors.StoreError.{StoreError}
use Rattle.lsm_model.specs.declared.errors.StoreError.TheVariants as error
use Rattle.lsm_names.specs.declared.file_names.FileName.TheVariants.{Table as Named}
use Rattle.lsm_names.specs.FileNames.{is_file_number}
use Rattle.lsm_io.specs.Causes.{Rose}
use Rattle.lsm_disk.specs.Dest.{path_in}
use Rattle.lsm_disk.specs.Viewed.{Viewed, opened}
use Rattle.lsm_frame.proofs.Going.{rose_later}
use Rattle.lsm_table.specs.declared.faults.TableFault.{TableFault}
use Rattle.lsm_table.specs.declared.faults.TableFault.TheVariants as fault
use Rattle.lsm_table.specs.Opening as table
use Rattle.lsm_table.specs.Tables.{Opened}
use Rattle.lsm_version.specs.declared.tables.Placed.{Placed}
use Rattle.lsm_core.specs.Reading.{IsOutside, IsUnread, Asks, HasFile, HoldsTable, ShowsTable, IsNamed, IsOpened, file_error, read_error}

-- ---- a file that the disk holds

module _ (path : List ℕ) (len : ℕ) (d : disk.State) (has : HasFile path len d) where
  there : file_at d path ≡ Some has.file.id
  there = kept_at d path has.file.id (sealed has.bytes) has.file.file

  pub bytes_are : bytes_of (file_now path d) ≡ has.bytes
  bytes_are = ap bytes_of (kept_now d path has.file.id (sealed has.bytes) has.file.file) ∙ append-nil has.bytes

  pub file_there : no_file path d ≡ None
  file_there = ap (λ (o : Option ℕ). cond (is_some o) None (Some why.NotThere)) there

  pub long : length (bytes_of (file_now path d)) ≡ len
  long = ap (λ (l : List ℕ). length l) bytes_are ∙ has.len_is

  enough : nat_le len (length (bytes_of (file_now path d))) ≡ true
  enough = let same = long in grind (arith, nat_tests)

  pub view_there : no_view path len d ≡ None
  view_there =
      ap (λ (o : Option DiskError). or_else o (short_of len (bytes_of (file_now path d)))) file_there
      ∙ ap (λ b. cond b None (Some (why.Short (length (bytes_of (file_now path d)))))) enough

-- ---- a refusal

none_some : {X : Type 0} (o : Option X) (x : X) → o ≡ None → o ≡ Some x → ⊥
none_some o x none some = let clash : None ≡ Some x = sym none ∙ some in cc

module _ (name : FileName) (len : ℕ) (old new : Seen) where
  cause : (e : DiskError) → HasRisen old new e → IsUnread name old new (file_error name len e)
  unfolding IsUnread
  cause why.Fault rose = rose
  cause why.NotThere rose = (refl, rose)
  cause why.Exists rose = (refl, rose)
  cause why.NoLinks rose = (refl, rose)
  cause why.NotEmpty rose = (refl, rose)
  cause (why.Short found) rose = refl
  cause why.NoMemory rose = tt

  outside : (r : Option DiskError) (e : DiskError) → r ≡ None → RefusesBy r e → IsOutside (file_error name len e)
  unfolding IsOutside
  outside r why.Fault none by = tt
  outside r why.NotThere none by = absurd (none_some r why.NotThere none by)
  outside r why.Exists none by = absurd (none_some r why.Exists none by)
  outside r why.NoLinks none by = absurd (none_some r why.NoLinks none by)
  outside r why.NotEmpty none by = absurd (none_some r why.NotEmpty none by)
  outside r (why.Short found) none by = absurd (none_some r (why.Short found) none by)
  outside r why.NoMemory none by = tt

  -- a disk call that is refused only where the file isn't as it is wanted
  pub asks_refused : {T S : Type 0} (Holds : disk.State → Type 0) (refusal : disk.State → Option DiskError) (e : DiskError)
      (r : StoreError)
      → ((d : disk.State) → Holds d → refusal d ≡ None) → new.told ≡ old.told → Answers {T = T} refusal old (Err e) →
      HasCause {T = T} old new (Err e)
      → r ≡ file_error name len e → Asks {T = S} name Holds old new (Err r)
  asks_refused Holds refusal e r free told answer has is = record {
    told = told;
    faults = has.faults_later;
    refusals = has.refusals_later;
    cause = subst (IsUnread name old new) (sym is) (cause e has.counted);
    outside = λ story tells holds. subst IsOutside (sym is)
        (outside (refusal (state_of story)) e (free (state_of story) holds)
        (subst (λ (o : Option Story). IfSome o (λ (s : Story). RefusesBy (refusal (state_of s)) e)) tells answer));
  }

  -- the file has another length
  pub asks_other : {S : Type 0} (path : List ℕ) (found : ℕ) → new.told ≡ old.told → old.faults ≤ new.faults → old.refusals ≤
      new.refusals
      → IfSome old.told (λ (story : Story). found ≡ length (bytes_of (file_now path (state_of story)))) → found ≢ len
      → Asks {T = S} name (HasFile path len) old new (Err (error.Short name len found))
  unfolding IsUnread IsOutside
  asks_other path found told faults refusals size differs = record {
    told = told;
    faults = faults;
    refusals = refusals;
    cause = refl;
    outside = λ story tells holds. absurd (differs
        (subst (λ (o : Option Story). IfSome o (λ (s : Story). found ≡ length (bytes_of (file_now path (state_of s))))) tells
        size
        ∙ long path len (state_of story) holds));
  }

-- ---- one call behind another

module _ (name : FileName) (a b c : Seen) where
  unread_later : a.faults ≤ b.faults → a.refusals ≤ b.refusals → (e : StoreError) → IsUnread name b c e → IsUnread name a c e
  unfolding IsUnread
  unread_later faults refusals error.DiskFault rose = rose_later a.faults b.faults c.faults faults rose
  unread_later faults refusals (error.Missing other) is = (is.0, rose_later a.refusals b.refusals c.refusals refusals is.1)
  unread_later faults refusals other is = is

  caused : {S : Type 0} → a.faults ≤ b.faults → a.refusals ≤ b.refusals → (r : Result S StoreError) → IfErr r (IsUnread name
      b c)
      → IfErr r (IsUnread name a c)
  caused faults refusals (Ok value) is = tt
  caused faults refusals (Err e) is = unread_later faults refusals e is

  pub asks_then : {T S : Type 0} (First Second Whole : disk.State → Type 0) (x : T) (r : Result S StoreError)
      → Asks name First a b (Ok x) → Asks name Second b c r
      → ((story : Story) → a.told ≡ Some story → Whole (state_of story) → Second (state_of story))
      → Asks name Whole a c r
  asks_then First Second Whole x r first second so = record {
    told = second.told ∙ first.told;
    faults = omega (arith, first.faults, second.faults);
    refusals = omega (arith, first.refusals, second.refusals);
    cause = caused first.faults first.refusals r second.cause;
    outside = λ story tells holds. second.outside story (first.told ∙ tells) (so story tells holds);
  }

-- ---- tables

pub outside_by : (name : FileName) (f : TableFault) → table.IsOutside f → IsOutside (read_error name f)
unfolding IsOutside table.IsOutside
outside_by name fault.ReadFault is = tt
outside_by name (fault.Damaged place kept found) is = is
outside_by name (fault.Malformed place) is = is
outside_by name fault.NoMemory is = tt

-- a view that is closed behind a refusal
module _ (number : ℕ) (old new : Seen) (told : new.told ≡ old.told) (faults : old.faults ≤ new.faults) (refusals :
    old.refusals ≤ new.refusals) where
  -- the properties are another table's
  pub asks_another : {T : Type 0} (session : List ℕ) (table : Opened) (place : ℕ) → (IsNamed number session table → ⊥)
      → Asks {T = T} (Named number) (λ (d : disk.State). IsNamed number session table) old new (Err (error.Malformed (Named
      number) place))
  unfolding IsUnread IsOutside
  asks_another session table place other = record {
    told = told;
    faults = faults;
    refusals = refusals;
    cause = refl;
    outside = λ story tells named. absurd (other named);
  }

  pub read_cause : (f : TableFault) → (f ≡ fault.ReadFault → Rose old.faults new.faults) → IsUnread (Named number) old new
      (read_error (Named number) f)
  unfolding IsUnread
  read_cause fault.ReadFault rose = rose refl
  read_cause (fault.Damaged place kept found) rose = refl
  read_cause (fault.Malformed place) rose = refl
  read_cause fault.NoMemory rose = tt

  -- the view isn't a table's, or it failed
  pub asks_unread : {T : Type 0} (Holds : disk.State → Type 0) (f : TableFault) (r : StoreError) → r ≡ read_error (Named
      number) f
      → (f ≡ fault.ReadFault → Rose old.faults new.faults) → ((d : disk.State) → Holds d → table.IsOutside f)
      → Asks {T = T} (Named number) Holds old new (Err r)
  asks_unread Holds f r is rose outside = record {
    told = told;
    faults = faults;
    refusals = refusals;
    cause = subst (IsUnread (Named number) old new) (sym is) (read_cause f rose);
    outside = λ story tells holds. subst IsOutside (sym is) (outside_by (Named number) f (outside (state_of story) holds));
  }

-- a view that failed raises the disk's count as it is closed
pub closed_rose : (was now : ℕ) (old new : ℕ) → Rose was now → (0 < now → Rose old new) → Rose old new
closed_rose was now old new rose closed = closed (some was now rose)
  where
    some : (a b : ℕ) → Rose a b → 0 < b
    some a b rose = omega (arith, rose)

-- a path that isn't there
pub no_path : (fits : Bool) (path : List ℕ) (o : Option (List ℕ)) → o ≡ cond fits (Some path) None → o ≡ None → fits ≡ false
no_path true path o is none = let clash : Some path ≡ None = sym is ∙ none in absurd (cc)
no_path false path o is none = refl

pub path_is : (fits : Bool) (path q : List ℕ) → Some path ≡ cond fits (Some q) None → path ≡ q
path_is true path q is = cc
path_is false path q is = cc

pub same_texts : (a b : List ℕ) → a ≡ b → pointwise nat_eq a b ≡ true
same_texts a b same = ap (pointwise nat_eq a) (sym same) ∙ nat_list_eq_equiv.refl a

-- the number is no file's
pub asks_numberless : {T : Type 0} (home : List ℕ) (number : ℕ) (placed : Placed) (seen : Seen) → is_file_number number ≡ false
    → Asks {T = T} (Named number) (HoldsTable home number placed) seen seen (Err (error.Malformed (Named number) 0))
unfolding IsUnread IsOutside
asks_numberless home number placed seen none = record {
  told = refl;
  faults = omega arith;
  refusals = omega arith;
  cause = refl;
  outside = λ story tells holds. let clash : true ≡ false = sym holds.has.numbered ∙ none in cc;
}

-- ---- where the disk holds the table

module _ (home : List ℕ) (number : ℕ) (placed : Placed) (d : disk.State) (holds : HoldsTable home number placed d) where
  pub holds_file : HasFile (path_in home (Named number)) placed.info.size d
  holds_file = record { bytes = holds.has.bytes; file = holds.has.file; len_is = holds.has.size }

  front_is : take placed.info.size (bytes_of (file_now (path_in home (Named number)) d)) ≡ holds.has.bytes
  unfolding holds_file
  front_is =
      ap (take placed.info.size) (bytes_are (path_in home (Named number)) placed.info.size d holds_file)
      ∙ take_all placed.info.size holds.has.bytes (omega (arith, holds.has.size))

  pub opened_bytes : (old : Seen) (story : Story) → old.told ≡ Some story → d ≡ state_of story
      → (opened (path_in home (Named number)) placed.info.size old.told).bytes ≡ Some holds.has.bytes
  opened_bytes old story tells now =
      ap (λ (o : Option Story). (opened (path_in home (Named number)) placed.info.size o).bytes) tells
      ∙ ap (λ (s : disk.State). Some (take placed.info.size (bytes_of (file_now (path_in home (Named number)) s)))) (sym now)
      ∙ ap Some front_is

  pub shows_table : (old : Seen) (story : Story) (view : Viewed) → old.told ≡ Some story → d ≡ state_of story
      → IsOpened (path_in home (Named number)) placed.info.size old view → ShowsTable view number placed.info.session
  shows_table old story view tells now is = record {
    bytes = holds.has.bytes;
    rows = holds.rows;
    told = is.bytes ∙ opened_bytes old story tells now;
    table = holds.has.table;
  }
