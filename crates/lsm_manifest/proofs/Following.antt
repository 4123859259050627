-- How a reading goes on by one record.
use Rattle.std.specs.Prelude.{◌≡◌, ℕ, suc, ◌+◌, List, [], ◌∷◌, ◌++◌, length, take, map, All, Option}
use Rattle.std.proofs.Common.{refl, sym, ap, subst, ◌∙◌, arith, length-append}
use Rattle.std.proofs.lemmas.List.{map-append}
use Rattle.std.proofs.lemmas.List.Elements.{All-nil, All-push}
use Rattle.lsm_io.specs.Causes.{Rose}
use Rattle.lsm_frame.specs.Records.{records_of, front}
use Rattle.lsm_frame.specs.Reader.{Reader, Tells, Stays, EndsBehind}
use Rattle.lsm_frame.proofs.Going.{tells_still, stays_trans}
use Rattle.lsm_wal.specs.Reading.{open_end}
use Rattle.lsm_wal.proofs.Once.{slice_map}
use Rattle.lsm_version.specs.declared.edits.Edit.{Edit}
use Rattle.lsm_version.specs.declared.refusals.EditError.TheVariants.{BadEdit}
use Rattle.lsm_version.specs.EditText.{edit_text}
use Rattle.lsm_version.specs.Edits.{IsEdit, IsSomeEdit}
use Rattle.lsm_version.specs.Decoding.{IsBad}
use Rattle.lsm_manifest.specs.Reading.{At_end, IsReading, IsTrouble, IsEditAt, IsNext, IsLost, Follows}
use Rattle.lsm_manifest.specs.declared.reading.Step.TheVariants.{More, Over}
use Rattle.lsm_manifest.specs.declared.why.ManifestWhy.{ManifestWhy}
use Rattle.lsm_manifest.specs.declared.why.ManifestWhy.TheVariants as why
use Rattle.lsm_wal.proofs.Following.{take_one_more}

-- texts begin with those of these edits
pub record Starts (texts : List (List ℕ)) (edits : List Edit) : Type 0 where
  pub are : take (length edits) texts ≡ map edit_text edits
  pub each : All IsEdit edits

starts_none : (texts : List (List ℕ)) → Starts texts []
starts_none texts = record { are = refl; each = All-nil IsEdit }

one_longer : (edits : List Edit) (edit : Edit) → length (edits ++ edit ∷ []) ≡ suc (length edits)
one_longer edits edit = omega (arith, length-append edits (edit ∷ []))

-- behind one more edit
starts_more : (text : List ℕ) (edits : List Edit) (edit : Edit) → Starts (front text) edits → IsEditAt text (length edits) edit → Starts (front text) (edits ++ edit ∷ [])
starts_more text edits edit starts at = record {
  are = ap (λ (n : ℕ). take n (front text)) (one_longer edits edit) ∙ take_one_more (length edits) (front text) at.payload (slice_map (records_of text).0 (length edits) at.place at.payload at.stands)
      ∙ ap (λ (l : List (List ℕ)). l ++ at.payload ∷ []) starts.are
      ∙ ap (λ (t : List ℕ). map edit_text edits ++ t ∷ []) at.text_is.is
      ∙ sym (map-append edit_text edits (edit ∷ []));
  each = All-push IsEdit edits edit starts.each at.text_is.edit_is;
}

-- at a trouble
lost_read : (text : List ℕ) (edits : List Edit) (w : ManifestWhy) → Starts (front text) edits → IsLost text (length edits) w → IsTrouble text w
lost_read text edits why.ReadFault starts lost = tt
lost_read text edits (why.Damaged place kept found) starts lost = (edits, record { texts = starts.are; each = starts.each; stops = lost })
lost_read text edits (why.Malformed place) starts lost = (edits, record { texts = starts.are; each = starts.each; stops = lost })
lost_read text edits why.NoMemory starts lost = tt
lost_read text edits (why.BadEdit place) starts lost = (edits, record { texts = starts.are; each = starts.each; stops = lost })

-- ---- by a reader

-- from the start on the reader gave the records of these edits
pub record Going (start now : Reader) (edits : List Edit) : Type 0 where
  pub counted : now.given ≡ length edits
  pub view : Stays start.viewed now.viewed
  pub starts : (text : List ℕ) → Tells start.viewed text → Starts (front text) edits

pub going_start : (reader : Reader) (edits : List Edit) → reader.given ≡ 0 → edits ≡ [] → Going reader reader edits
going_start reader edits none is = subst (Going reader reader) (sym is) (record {
  counted = none;
  view = record { bytes = refl; len = refl; faults = omega arith };
  starts = λ text tells. starts_none (front text);
})

module _ (start now new : Reader) (edits : List Edit) (going : Going start now edits) (stays : Stays now.viewed new.viewed) where
  pub going_more : (edit : Edit) (more : List Edit) → ((text : List ℕ) → Tells now.viewed text → IsNext text now.given (More edit)) → Follows now new (More edit) → more ≡ edits ++ edit ∷ [] → Going start new more
  going_more edit more at follows grown = subst (Going start new) (sym grown) (record {
    counted = follows ∙ ap (λ (n : ℕ). n + 1) going.counted ∙ sym (length-append edits (edit ∷ []));
    view = stays_trans start.viewed now.viewed new.viewed going.view stays;
    starts = λ text tells.
        let there : IsEditAt text now.given edit = at text (tells_still start.viewed now.viewed text going.view tells) in
        starts_more text edits edit (going.starts text tells) (subst (λ (n : ℕ). IsEditAt text n edit) going.counted there);
  })

  pub going_view : Stays start.viewed new.viewed
  going_view = stays_trans start.viewed now.viewed new.viewed going.view stays

  pub going_rose : Rose now.viewed.faults new.viewed.faults → Rose start.viewed.faults new.viewed.faults
  going_rose rose = omega (arith, rose, going.view.faults)

  pub going_over : (torn : Option ℕ) → ((text : List ℕ) → Tells now.viewed text → IsNext text now.given (Over torn)) → (text : List ℕ) → Tells start.viewed text → IsReading text edits (At_end (open_end torn))
  going_over torn at text tells =
      let starts = going.starts text tells in
      record { texts = starts.are; each = starts.each; stops = subst (λ (n : ℕ). EndsBehind text n (open_end torn)) going.counted (at text (tells_still start.viewed now.viewed text going.view tells)) }

  pub going_lost : (w : ManifestWhy) → ((text : List ℕ) → Tells now.viewed text → IsLost text now.given w) → (text : List ℕ) → Tells start.viewed text → IsTrouble text w
  going_lost w at text tells =
      lost_read text edits w (going.starts text tells) (subst (λ (n : ℕ). IsLost text n w) going.counted (at text (tells_still start.viewed now.viewed text going.view tells)))

-- a record that is no edit
pub is_none : (text : List ℕ) (place : ℕ) → IsBad text (BadEdit place) → ¬ IsSomeEdit text
unfolding IsBad
is_none text place bad = bad.none
