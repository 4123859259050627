-- What the images of a manifest have, and how it stays.
use Rattle.std.specs.Prelude.{◌≡◌, ℕ, ◌+◌, if◌then◌else◌, is_some, List, [], ◌∷◌, length, take, Option, Some, None}
use Rattle.std.proofs.Common.{refl, sym, ap, ◌∙◌}
use Rattle.lsm_disk.specs.State.{State, Change, after, new_file, longer}
use Rattle.lsm_disk.specs.Images.{Tree, IsImage, bytes_at}
use Rattle.lsm_disk.specs.Kept.{Spares, HasCut}
use Rattle.lsm_disk.specs.Refusals.{no_file}
use Rattle.lsm_disk.specs.declared.calls.DiskError.TheVariants.{NotThere}
use Rattle.lsm_disk.proofs.Cuts.{take_past, cut_sure}
use Rattle.lsm_disk.proofs.Kept.{kept_at, kept_spared}
use Rattle.lsm_publish.specs.Publishing.{Old, The_file, StillHas, ShowsOld, written}
use Rattle.lsm_publish.proofs.Switching.{whole_in}
use Rattle.lsm_version.specs.declared.edits.Edit.{Edit}
use Rattle.lsm_manifest.specs.Texts.{manifest_text, record_behind}
use Rattle.lsm_manifest.specs.Standing.{Stands, IsTornManifest, HoldsEither}
use Rattle.lsm_manifest.specs.Installing.{IsInstalled, ShowsNew, current_path, current_text, manifest_path}
use Rattle.lsm_manifest.proofs.Texts.{text_push}
use Rattle.lsm_manifest.proofs.Cuts.{IsFrontFile, file_shows}

pub whole : (s : State) (path : List ℕ) (edits : List Edit) → Stands s path edits → (t : Tree) → IsImage s t → bytes_at t path ≡ Some (manifest_text edits)
whole s path edits stands t i = whole_in path stands.id (manifest_text edits) s t stands.kept i

pub there : (s : State) (path : List ℕ) (edits : List Edit) → Stands s path edits → no_file path s ≡ None
there s path edits stands = ap (λ (id : Option ℕ). if is_some id then None else Some NotThere) (kept_at s path stands.id (written (manifest_text edits)) stands.kept)

pub untouched : (s : State) (path : List ℕ) (edits : List Edit) (c : Change) → (stands : Stands s path edits) → Spares path stands.id c → Stands (after s c) path edits
untouched s path edits c stands spares = record { id = stands.id; kept = kept_spared s path stands.id (written (manifest_text edits)) stands.kept c spares; each = stands.each }

pub torn_image : (s : State) (path : List ℕ) (edits : List Edit) (next : Edit) → IsTornManifest s path edits next → (t : Tree) → IsImage s t → HoldsEither path edits next s t
torn_image s path edits next torn t i =
    let n : ℕ = length (manifest_text edits) + torn.count in
    let front : IsFrontFile edits next torn.file = record {
      count = n;
      text = torn.text ∙ sym (ap (take n) (text_push edits next) ∙ take_past n torn.count (manifest_text edits) (record_behind edits next) refl);
      synced = torn.synced;
    } in
    (file_shows path edits next torn.id torn.file front s torn.kept).each t i

-- a synced file that an image has is whole
cut_whole : (path bytes : List ℕ) (t : Tree) → HasCut path (written bytes) t → bytes_at t path ≡ Some bytes
cut_whole path bytes t held = held.is ∙ ap (λ (l : List ℕ). Some l) (cut_sure (longer bytes new_file) held.bytes held.cut)

pub as_before : (s : State) (path : List ℕ) (edits : List Edit) → Stands s path edits → (old : Old) × StillHas path old s × ((t : Tree) → ShowsOld path old t → bytes_at t path ≡ Some (manifest_text edits))
as_before s path edits stands = (The_file stands.id (written (manifest_text edits)), stands.kept, λ t held. cut_whole path (manifest_text edits) t held)

pub named_image : (dir : List ℕ) (number : ℕ) (edit : Edit) (s : State) (t : Tree) → IsInstalled dir number edit s → IsImage s t → ShowsNew dir number edit t
named_image dir number edit s t installed i = record {
  current = whole_in (current_path dir) installed.id (current_text number) s t installed.current i;
  manifest = whole s (manifest_path dir number) (edit ∷ []) installed.stands t i;
}
