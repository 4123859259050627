-- What each call of an append leaves.
use Rattle.std.specs.Prelude.{◌≡◌, ◌⊎◌, ℕ, ◌+◌, ◌≤◌, Bool, true, false, List, [], ◌∷◌, ◌++◌, length, take, Option, Some, Ok, Err}
use Rattle.std.proofs.Common.{⊎_elim, refl, sym, ap, subst, ◌∙◌, arith, append_assoc, length-append}
use Rattle.std.proofs.lemmas.List.{append-nil, take_all, take-append-le}
use Rattle.std.proofs.lemmas.List.Elements.{All-push}
use Rattle.lsm_disk.specs.State.{State, Story, FileState, state_of, bytes_of, longer, sure, appended, file_synced}
use Rattle.lsm_disk.specs.Images.{Tree}
use Rattle.lsm_disk.specs.Goes.{Shows, Went}
use Rattle.lsm_disk.specs.Kept.{IsKeptFile, InFile}
use Rattle.lsm_disk.specs.Answers.{Makes, MakesFront, LeftBy, Allowed}
use Rattle.lsm_disk.specs.Refusals.{no_file}
use Rattle.lsm_disk.specs.declared.calls.DiskCall.TheVariants.{Append, Sync}
use Rattle.lsm_disk.specs.declared.calls.DiskError.{DiskError}
use Rattle.lsm_disk.specs.declared.calls.DiskRefusal.{DiskRefusal}
use Rattle.lsm_disk.proofs.Cuts.{take_past}
use Rattle.lsm_disk.proofs.Kept.{kept_appended, kept_synced, appends_in, syncs_in}
use Rattle.lsm_disk.proofs.Runs.{went_start, went_weaker, went_ok, went_err, went_append_err}
use Rattle.lsm_wal.specs.Batches.{Logged, IsLogged, wal_text, record_behind}
use Rattle.lsm_wal.specs.Standing.{IsWal, IsTornWal, HoldsFront, IsLeft}
use Rattle.lsm_wal.proofs.Texts.{text_push}
use Rattle.lsm_wal.proofs.Cuts.{IsFrontFile, file_shows}

-- a call has one name
neither : Append ≡ Sync → ⊥
neither e = cc

module _ (path : List ℕ) (batches : List Logged) (next : Logged) (durable : ℕ) (bytes : List ℕ) (is : bytes ≡ record_behind batches next) (start : State) (wal : IsWal start path batches durable) where
  abbrev old : FileState
  old = wal.file

  abbrev all : List Logged
  all = batches ++ next ∷ []

  abbrev Kept : FileState → State → Type 0
  Kept g s = IsKeptFile s path wal.id g

  abbrev P : State → Tree → Type 0
  P = HoldsFront path (batches ++ next ∷ []) durable

  -- so much of the record stands behind the log, and no less is synced
  record HasGrown (g : FileState) : Type 0 where
    pub count : ℕ
    pub text : bytes_of g ≡ wal_text batches ++ take count bytes
    pub synced : length wal.file.synced ≤ length g.synced

  abbrev part : ℕ → FileState
  part n = longer (take n bytes) wal.file

  abbrev whole : FileState
  whole = longer bytes wal.file

  behind : (more : List ℕ) → bytes_of (longer more wal.file) ≡ wal_text batches ++ more
  behind more = sym (append_assoc wal.file.synced wal.file.unsynced more) ∙ ap (λ (l : List ℕ). l ++ more) wal.text

  grown_none : HasGrown wal.file
  grown_none = record { count = 0; text = wal.text ∙ sym (append-nil (wal_text batches)); synced = omega arith }

  grown_part : (n : ℕ) → HasGrown (part n)
  grown_part n = record { count = n; text = behind (take n bytes); synced = omega arith }

  grown_all : HasGrown whole
  grown_all = record { count = length bytes; text = behind bytes ∙ ap (λ (l : List ℕ). wal_text batches ++ l) (sym (take_all (length bytes) bytes (omega arith))); synced = omega arith }

  grown_sure : HasGrown (sure whole)
  unfolding grown_all
  grown_sure = record { count = length bytes; text = append-nil (bytes_of whole) ∙ grown_all.text; synced = omega (arith, length-append wal.file.synced (wal.file.unsynced ++ bytes)) }

  text_all : wal_text all ≡ wal_text batches ++ bytes
  text_all = text_push batches next ∙ ap (λ (l : List ℕ). wal_text batches ++ l) (sym is)

  many : length all ≡ length batches + 1
  many = length-append batches (next ∷ [])

  as_before : take durable all ≡ take durable batches
  as_before = take-append-le durable batches (next ∷ []) wal.within

  short : length (wal_text (take durable all)) ≤ length wal.file.synced
  short = subst (λ (bs : List Logged). length (wal_text bs) ≤ length wal.file.synced) (sym as_before) wal.synced

  is_front : (g : FileState) → HasGrown g → IsFrontFile all durable g
  is_front g grown = record {
    count = length (wal_text batches) + grown.count;
    text = grown.text ∙ sym (ap (take (length (wal_text batches) + grown.count)) text_all ∙ take_past (length (wal_text batches) + grown.count) grown.count (wal_text batches) bytes refl);
    within = omega (arith, wal.within, many);
    synced = omega (arith, short, grown.synced);
  }

  shows : (g : FileState) → HasGrown g → (s : State) → Kept g s → Shows P s
  shows g grown = file_shows path all durable wal.id g (is_front g grown)

  -- what then stands
  torn : (g : FileState) → HasGrown g → (s : State) → Kept g s → IsTornWal s path batches next durable
  torn g grown s kept = record {
    id = wal.id;
    file = g;
    kept = kept;
    count = grown.count;
    text = grown.text ∙ ap (λ (l : List ℕ). wal_text batches ++ take grown.count l) is;
    within = wal.within;
    synced = omega (arith, wal.synced, grown.synced);
    each = wal.each;
  }

  longer_wal : IsLogged next → (g : FileState) → HasGrown g → bytes_of g ≡ wal_text batches ++ bytes → (s : State) → Kept g s → IsWal s path all durable
  longer_wal logged g grown text s kept = record { id = wal.id; file = g; kept = kept; text = text ∙ sym text_all; within = omega (arith, wal.within, many); synced = omega (arith, short, grown.synced); each = All-push IsLogged batches next wal.each logged }

  sure_text : bytes_of (sure whole) ≡ wal_text batches ++ bytes
  sure_text = append-nil (bytes_of whole) ∙ behind bytes

  sure_wal : IsLogged next → (s : State) → Kept (sure whole) s → IsWal s path all (length all)
  sure_wal logged s kept = record {
    id = wal.id;
    file = sure whole;
    kept = kept;
    text = sure_text ∙ sym text_all;
    within = omega arith;
    synced = omega (arith, ap (λ (bs : List Logged). length (wal_text bs)) (take_all (length all) all (omega arith)), ap length text_all, ap length (behind bytes));
    each = All-push IsLogged batches next wal.each logged;
  }

  module _ (story : Story) {o1 : Option Story} (tells : o1 ≡ Some story) (here : start ≡ state_of story) where
    begun : Went story o1 (InFile wal.id) P (Kept wal.file)
    begun = went_start (Kept wal.file) tells (subst (Kept wal.file) here wal.kept) (shows wal.file grown_none)

    -- nothing changed
    pub after_nothing : (T : Type 0) (sync : Bool) (r : DiskRefusal) → r.at.call ≡ Append → Went story o1 (InFile wal.id) P (IsLeft {T = T} path batches next durable sync (Err r))
    after_nothing T sync r call = went_weaker (Kept wal.file) (IsLeft {T = T} path batches next durable sync (Err r)) (λ s k. (torn wal.file grown_none s k, λ other. absurd (neither (sym call ∙ other)))) begun

    module _ {o2 : Option Story} where
      after_append : Makes o1 (appended path bytes) o2 → Went story o2 (InFile wal.id) P (Kept whole)
      after_append makes = went_ok (Kept wal.file) (Kept whole) (appended path bytes) makes (λ s k. appends_in s path wal.id wal.file k bytes) (λ s k. kept_appended s path wal.id wal.file k bytes) (shows whole grown_all) begun

      pub after_refused_append : (T : Type 0) (sync : Bool) (r : DiskRefusal) (e : DiskError) → r.at.call ≡ Append → LeftBy (o2 ≡ o1) (Allowed (no_file path) o1 × MakesFront path bytes o1 o2) e
          → Went story o2 (InFile wal.id) P (IsLeft {T = T} path batches next durable sync (Err r))
      after_refused_append T sync r e call left = went_weaker (λ s. Kept wal.file s ⊎ ((n : ℕ) × Kept (part n) s)) (IsLeft {T = T} path batches next durable sync (Err r))
          (λ s k. (⊎_elim (torn wal.file grown_none s) (λ p. torn (part p.0) (grown_part p.0) s p.1) k, λ other. absurd (neither (sym call ∙ other))))
          (went_append_err (Kept wal.file) (λ n. Kept (part n)) path bytes e left (λ n s k. appends_in s path wal.id wal.file k (take n bytes)) (λ n s k. kept_appended s path wal.id wal.file k (take n bytes)) (λ n. shows (part n) (grown_part n)) begun)

      pub after_unsynced : {T : Type 0} (value : T) → IsLogged next → Makes o1 (appended path bytes) o2 → Went story o2 (InFile wal.id) P (IsLeft path batches next durable false (Ok value))
      after_unsynced value logged makes = went_weaker (Kept whole) (IsLeft path batches next durable false (Ok value)) (longer_wal logged whole grown_all (behind bytes)) (after_append makes)

      module _ {o3 : Option Story} where
        pub after_sync : {T : Type 0} (value : T) → IsLogged next → Makes o1 (appended path bytes) o2 → Makes o2 (file_synced path) o3 → Went story o3 (InFile wal.id) P (IsLeft path batches next durable true (Ok value))
        after_sync value logged makes then = went_weaker (Kept (sure whole)) (IsLeft path batches next durable true (Ok value)) (sure_wal logged)
            (went_ok (Kept whole) (Kept (sure whole)) (file_synced path) then (λ s k. syncs_in s path wal.id whole k) (λ s k. kept_synced s path wal.id whole k) (shows (sure whole) grown_sure) (after_append makes))

        pub after_refused_sync : (T : Type 0) (sync : Bool) (r : DiskRefusal) (e : DiskError) → IsLogged next → Makes o1 (appended path bytes) o2 → LeftBy (o3 ≡ o2) (Allowed (no_file path) o2 × Makes o2 (file_synced path) o3) e
            → Went story o3 (InFile wal.id) P (IsLeft {T = T} path batches next durable sync (Err r))
        after_refused_sync T sync r e logged makes left = went_weaker (λ s. Kept whole s ⊎ Kept (sure whole) s) (IsLeft {T = T} path batches next durable sync (Err r))
            (λ s. ⊎_elim
            (λ k. (torn whole grown_all s k, λ call. longer_wal logged whole grown_all (behind bytes) s k))
            (λ k. (torn (sure whole) grown_sure s k, λ call. longer_wal logged (sure whole) grown_sure sure_text s k)))
            (went_err (Kept whole) (Kept (sure whole)) (file_synced path) (no_file path) e left (λ s k. syncs_in s path wal.id whole k) (λ s k. kept_synced s path wal.id whole k) (shows (sure whole) grown_sure) (after_append makes))
