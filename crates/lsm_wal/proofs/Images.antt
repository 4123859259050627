-- What the images of a log have.
use Rattle.std.specs.Prelude.{◌≡◌, ℕ, ◌+◌, ◌≤◌, List, [], ◌∷◌, ◌++◌, length, take, Some}
use Rattle.std.proofs.Common.{refl, sym, ap, subst, ◌∙◌, arith, length-append}
use Rattle.std.proofs.lemmas.List.{take_all, take-append-le}
use Rattle.lsm_disk.specs.State.{State}
use Rattle.lsm_disk.specs.Images.{Tree, IsImage, bytes_at}
use Rattle.lsm_disk.proofs.Cuts.{take_past}
use Rattle.lsm_disk.proofs.Kept.{kept_image}
use Rattle.lsm_wal.specs.Batches.{Logged, wal_text, record_behind}
use Rattle.lsm_wal.specs.Standing.{IsWal, IsTornWal, HoldsFront}
use Rattle.lsm_wal.proofs.Texts.{text_push}
use Rattle.lsm_wal.proofs.Cuts.{IsFrontFile, file_shows, cut_whole}

pub wal_image : (s : State) (path : List ℕ) (batches : List Logged) (durable : ℕ) → IsWal s path batches durable → (t : Tree) → IsImage s t → HoldsFront path batches durable s t
wal_image s path batches durable wal t i =
    let front : IsFrontFile batches durable wal.file = record {
      count = length (wal_text batches);
      text = wal.text ∙ sym (take_all (length (wal_text batches)) (wal_text batches) (omega arith));
      within = wal.within;
      synced = wal.synced;
    } in
    (file_shows path batches durable wal.id wal.file front s wal.kept).each t i

pub torn_image : (s : State) (path : List ℕ) (batches : List Logged) (next : Logged) (durable : ℕ) → IsTornWal s path batches next durable → (t : Tree) → IsImage s t → HoldsFront path (batches ++ next ∷ []) durable s t
torn_image s path batches next durable torn t i =
    let front : IsFrontFile (batches ++ next ∷ []) durable torn.file = record {
      count = length (wal_text batches) + torn.count;
      text = torn.text ∙ sym (ap (take (length (wal_text batches) + torn.count)) (text_push batches next) ∙ take_past (length (wal_text batches) + torn.count) torn.count (wal_text batches) (record_behind batches next) refl);
      within = omega (arith, torn.within, length-append batches (next ∷ []));
      synced = subst (λ (bs : List Logged). length (wal_text bs) ≤ length torn.file.synced) (sym (take-append-le durable batches (next ∷ []) torn.within)) torn.synced;
    } in
    (file_shows path (batches ++ next ∷ []) durable torn.id torn.file front s torn.kept).each t i

pub synced_image : (s : State) (path : List ℕ) (batches : List Logged) → IsWal s path batches (length batches) → (t : Tree) → IsImage s t → bytes_at t path ≡ Some (wal_text batches)
synced_image s path batches wal t i =
    let held = kept_image s path wal.id wal.file wal.kept t i in
    let long : length (wal_text batches) ≤ length wal.file.synced = subst (λ (bs : List Logged). length (wal_text bs) ≤ length wal.file.synced) (take_all (length batches) batches (omega arith)) wal.synced in
    held.is ∙ ap Some (cut_whole wal.file held.bytes (wal_text batches) held.cut wal.text long)
