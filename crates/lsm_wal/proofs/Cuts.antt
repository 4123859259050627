-- What a crash leaves of a log's file reads as a prefix of the batches.
use Rattle.std.specs.Prelude.{◌≡◌, ℕ, ◌≤◌, min, List, ◌++◌, length, take, drop, map}
use Rattle.std.proofs.Common.{⊎_elim, sym, ap, subst, ◌∙◌, arith, length-append}
use Rattle.std.proofs.lemmas.List.{take_all, map-append, take-append-drop, take-take, length-take, length-map}
use Rattle.std.proofs.lemmas.Bool.{cases_lt}
use Rattle.lsm_frame.specs.Records.{front, end_of}
use Rattle.lsm_frame.specs.Growth.{IsOpen}
use Rattle.lsm_frame.specs.Begins.{Begins}
use Rattle.lsm_frame.specs.Frames.{log_text}
use Rattle.lsm_frame.proofs.Crash.{log_cut, log_cut_count, log_keeps}
use Rattle.lsm_disk.specs.State.{FileState, State, bytes_of}
use Rattle.lsm_disk.specs.Images.{IsCut}
use Rattle.lsm_disk.specs.Kept.{IsKeptFile, IsFrontOf}
use Rattle.lsm_disk.specs.Goes.{Shows}
use Rattle.lsm_disk.proofs.Cuts.{cut_front}
use Rattle.lsm_disk.proofs.Kept.{kept_image}
use Rattle.lsm_wal.specs.Batches.{Logged, text_of, wal_text}
use Rattle.lsm_wal.specs.Standing.{HoldsFront}

-- the file has the front of the text of these batches, and so many of them are synced
pub record IsFrontFile (batches : List Logged) (durable : ℕ) (f : FileState) : Type 0 where
  pub count : ℕ
  pub text : bytes_of f ≡ take count (wal_text batches)
  pub within : durable ≤ length batches
  pub synced : length (wal_text (take durable batches)) ≤ length f.synced

-- how a front of a text of records reads, which is no shorter than the first so many records
record ReadsFront (batches : List Logged) (durable : ℕ) (held : List ℕ) : Type 0 where
  pub batches_are : IsFrontOf durable (map text_of batches) (front held)
  pub ends : IsOpen (end_of held)

-- the first so many batches, and the rest of them
parts : (batches : List Logged) (durable : ℕ) → map text_of (take durable batches) ++ map text_of (drop durable batches) ≡ map text_of batches
parts batches durable = sym (map-append text_of (take durable batches) (drop durable batches)) ∙ ap (map text_of) (take-append-drop durable batches)

taken : (batches : List Logged) (durable n : ℕ) → durable ≤ length batches → length (wal_text (take durable batches)) ≤ n → durable ≤ length (front (take n (wal_text batches)))
taken batches durable n within long =
    let records : List (List ℕ) = map text_of (take durable batches) in
    let held : List ℕ → List (List ℕ) = λ text. front (take n text) in
    let keeps : Begins records (front (take n (log_text (records ++ map text_of (drop durable batches))))) = log_keeps records (map text_of (drop durable batches)) n long in
    let is : front (take n (wal_text batches)) ≡ records ++ keeps.rest = ap (λ (rs : List (List ℕ)). front (take n (log_text rs))) (sym (parts batches durable)) ∙ keeps.is in
    let count : length records ≡ durable = length-map (take durable batches) text_of ∙ length-take durable batches ∙ omega (arith, within) in
    omega (arith, ap length is, length-append records keeps.rest, count)

reads_front : (batches : List Logged) (durable n : ℕ) (held : List ℕ) → durable ≤ length batches → length (wal_text (take durable batches)) ≤ n → held ≡ take n (wal_text batches) → ReadsFront batches durable held
reads_front batches durable n held within long is = subst (ReadsFront batches durable) (sym is) (record {
  batches_are = record {
    count = length (front (take n (wal_text batches)));
    enough = taken batches durable n within long;
    is = log_cut_count (map text_of batches) n;
  };
  ends = (log_cut (map text_of batches) n).1;
})

take_twice : (i j : ℕ) (l : List ℕ) → take i (take j l) ≡ take (min i j) l
take_twice i j l = ⊎_elim
    (λ lt. take-take i j l (omega (arith, lt)) ∙ ap (λ (n : ℕ). take n l) (omega (arith, lt)))
    (λ ge. take_all i (take j l) (omega (arith, ge, length-take j l)) ∙ ap (λ (n : ℕ). take n l) (omega (arith, ge)))
    (cases_lt i j)

-- this lemma alone asks how a crash cuts a file
cut_reads : (batches : List Logged) (durable : ℕ) (f : FileState) (held : List ℕ) → IsFrontFile batches durable f → IsCut f held → ReadsFront batches durable held
cut_reads batches durable f held file cut =
    let fronts = cut_front f held cut in
    let long : length f.synced ≤ file.count = omega (arith, ap length file.text, length-append f.synced f.unsynced, length-take file.count (wal_text batches)) in
    reads_front batches durable (min fronts.count file.count) held file.within (omega (arith, file.synced, fronts.enough, long))
    (fronts.is ∙ ap (take fronts.count) file.text ∙ take_twice fronts.count file.count (wal_text batches))

-- each image of such a file has a prefix of the batches
pub file_shows : (path : List ℕ) (batches : List Logged) (durable : ℕ) (id : ℕ) (f : FileState) → IsFrontFile batches durable f → (s : State) → IsKeptFile s path id f → Shows (HoldsFront path batches durable) s
file_shows path batches durable id f file s kept = record {
  each = λ t i.
      let held = kept_image s path id f kept t i in
      let reads = cut_reads batches durable f held.bytes file held.cut in
      record { bytes = held.bytes; is = held.is; batches_are = reads.batches_are; ends = reads.ends };
}

-- where all is synced, a crash leaves the file whole
pub cut_whole : (f : FileState) (held text : List ℕ) → IsCut f held → bytes_of f ≡ text → length text ≤ length f.synced → held ≡ text
cut_whole f held text cut is long =
    let fronts = cut_front f held cut in
    fronts.is ∙ take_all fronts.count (bytes_of f) (omega (arith, ap length is, long, fronts.enough)) ∙ is
