-- An edit's text, read field by field: where its reading fails, and what it gives.
use Rattle.std.proofs.Common.{◌≡◌, ℕ, ◌<◌, ◌≤◌, ◌⊎◌, inl, inr, List, [], ◌∷◌, ◌++◌, length, drop, refl, sym, ap, ◌∙◌, subst, arith, append_assoc, length-append, Option, Some, None}
use Rattle.std.specs.Prelude.{map}
use Rattle.std.specs.List.{flat_map}
use Rattle.std.proofs.lemmas.Grind.{flat_map-append}
use Rattle.std.proofs.lemmas.List.{append-nil, drop_all}
use Rattle.lsm_rows.specs.Pieces.{Begins, IsFault}
use Rattle.lsm_rows.proofs.PieceFaults.{fault_after}
use Rattle.lsm_version.specs.declared.tables.Add.{Add}
use Rattle.lsm_version.specs.declared.tables.Place.{Place}
use Rattle.lsm_version.specs.declared.edits.Edit.{Edit}
use Rattle.lsm_version.specs.declared.fields.Rank.{Rank}
use Rattle.lsm_version.specs.declared.fields.Field.{Field}
use Rattle.lsm_version.specs.declared.fields.Field.TheVariants.{LogNumber, NextNumber, LastSequence, Added, Dropped}
use Rattle.lsm_version.specs.declared.refusals.EditError.{EditError}
use Rattle.lsm_version.specs.declared.refusals.EditError.TheVariants.{BadEdit, NoMemory}
use Rattle.lsm_version.specs.EditText.{field_text, given, fields_of, edit_text}
use Rattle.lsm_version.specs.Edits.{AreFields, Before, InRange, IsEditText, IsNext, IsNoEdit, IsSomeEdit, rank_of, start}
use Rattle.lsm_version.specs.Decoding.{IsBad}
use Rattle.lsm_version.specs.Reading.{GoesOn, IsBadAt, IsFaultAt, IsFieldAt, IsFieldIn, IsRank, IsRest, with_field}
use Rattle.lsm_version.proofs.ReadFields.{number_behind}
use Rattle.lsm_version.proofs.Texts.{field_once, field_some, edit_text-is}

-- the rank of the last of these fields
abbrev pub last_rank : Rank → List Field → Rank
last_rank after [] = after
last_rank after (field ∷ fields) = last_rank (rank_of field) fields

-- the edit has no field of a tag behind this one
pub record UpTo (tag : ℕ) (edit : Edit) : Type 0 where
  pub log : tag < 1 → edit.log ≡ None
  pub next : tag < 2 → edit.next ≡ None
  pub last : tag < 3 → edit.last ≡ None
  pub adds : tag < 4 → edit.adds ≡ []
  pub drops : tag < 5 → edit.drops ≡ []

-- the edit is what the bytes up to a place are the text of, and its last field has this rank
pub record IsReadTo (bytes : List ℕ) (edit : Edit) (at : ℕ) (after : Rank) : Type 0 where
  pub fields : AreFields start (fields_of edit)
  pub last : last_rank start (fields_of edit) ≡ after
  pub up_to : UpTo after.tag edit
  pub ends : at ≡ length (edit_text edit)
  pub within : at ≤ length bytes
  pub text : bytes ≡ edit_text edit ++ drop at bytes

-- ---- one more field

map_push : {A : Type 0} (make : A → Field) (xs : List A) (x : A) → map make (xs ++ x ∷ []) ≡ map make xs ++ make x ∷ []
map_push make [] x = refl
map_push make (y ∷ xs) x = ap (λ (l : List Field). make y ∷ l) (map_push make xs x)

fields_made : Option ℕ → Option ℕ → Option ℕ → List Add → List Place → List Field
fields_made log next last adds drops = fields_of (record { log = log; next = next; last = last; adds = adds; drops = drops })

with_next : (log : Option ℕ) (n : ℕ) → fields_made log (Some n) None [] [] ≡ fields_made log None None [] [] ++ NextNumber n ∷ []
unfolding fields_made
with_next None n = refl
with_next (Some m) n = refl

with_last : (log next : Option ℕ) (n : ℕ) → fields_made log next (Some n) [] [] ≡ fields_made log next None [] [] ++ LastSequence n ∷ []
unfolding fields_made
with_last None None n = refl
with_last None (Some k) n = refl
with_last (Some m) None n = refl
with_last (Some m) (Some k) n = refl

with_add : (log next last : Option ℕ) (adds : List Add) (add : Add) → fields_made log next last (adds ++ add ∷ []) [] ≡ fields_made log next last adds [] ++ Added add ∷ []
unfolding fields_made
with_add log next last adds add =
    let front : List Field = given LogNumber log ++ given NextNumber next ++ given LastSequence last in
    append-nil (front ++ map Added (adds ++ add ∷ [])) ∙ ap (λ (l : List Field). front ++ l) (map_push Added adds add)
    ∙ sym (append_assoc front (map Added adds) (Added add ∷ [])) ∙ ap (λ (l : List Field). l ++ Added add ∷ []) (sym (append-nil (front ++ map Added adds)))

with_drop : (log next last : Option ℕ) (adds : List Add) (drops : List Place) (place : Place) → fields_made log next last adds (drops ++ place ∷ []) ≡ fields_made log next last adds drops ++ Dropped place ∷ []
unfolding fields_made
with_drop log next last adds drops place =
    let front : List Field = given LogNumber log ++ given NextNumber next ++ given LastSequence last ++ map Added adds in
    ap (λ (l : List Field). front ++ l) (map_push Dropped drops place) ∙ sym (append_assoc front (map Dropped drops) (Dropped place ∷ []))

-- a table's field comes behind no greater tag
not_behind : (after : Rank) (field : Field) → IsNext after field → after.tag ≤ (rank_of field).tag
unfolding Before
not_behind after field next = by_order next.behind
  where
    by_order : Before after (rank_of field) → after.tag ≤ (rank_of field).tag
    by_order (inl less) = omega (arith, less)
    by_order (inr same) = omega (arith, same.0)

fields_added : (edit : Edit) (after : Rank) (field : Field) → UpTo after.tag edit → IsNext after field → fields_of (with_field edit field) ≡ fields_of edit ++ field ∷ []
unfolding fields_made rank_of
fields_added edit after (LogNumber n) is next =
    let low : after.tag < 1 = number_behind after (LogNumber n) next (omega arith) in
    (λ i. fields_made (Some n) (is.next (omega (arith, low)) i) (is.last (omega (arith, low)) i) (is.adds (omega (arith, low)) i) (is.drops (omega (arith, low)) i))
    ∙ (λ i. fields_made (sym (is.log low) i) (sym (is.next (omega (arith, low))) i) (sym (is.last (omega (arith, low))) i) (sym (is.adds (omega (arith, low))) i) (sym (is.drops (omega (arith, low))) i) ++ LogNumber n ∷ [])
fields_added edit after (NextNumber n) is next =
    let low : after.tag < 2 = number_behind after (NextNumber n) next (omega arith) in
    (λ i. fields_made edit.log (Some n) (is.last (omega (arith, low)) i) (is.adds (omega (arith, low)) i) (is.drops (omega (arith, low)) i))
    ∙ with_next edit.log n
    ∙ (λ i. fields_made edit.log (sym (is.next low) i) (sym (is.last (omega (arith, low))) i) (sym (is.adds (omega (arith, low))) i) (sym (is.drops (omega (arith, low))) i) ++ NextNumber n ∷ [])
fields_added edit after (LastSequence n) is next =
    let low : after.tag < 3 = number_behind after (LastSequence n) next (omega arith) in
    (λ i. fields_made edit.log edit.next (Some n) (is.adds (omega (arith, low)) i) (is.drops (omega (arith, low)) i))
    ∙ with_last edit.log edit.next n
    ∙ (λ i. fields_made edit.log edit.next (sym (is.last low) i) (sym (is.adds (omega (arith, low))) i) (sym (is.drops (omega (arith, low))) i) ++ LastSequence n ∷ [])
fields_added edit after (Added add) is next =
    let low : after.tag ≤ 4 = not_behind after (Added add) next in
    (λ i. fields_made edit.log edit.next edit.last (edit.adds ++ add ∷ []) (is.drops (omega (arith, low)) i))
    ∙ with_add edit.log edit.next edit.last edit.adds add
    ∙ (λ i. fields_made edit.log edit.next edit.last edit.adds (sym (is.drops (omega (arith, low))) i) ++ Added add ∷ [])
fields_added edit after (Dropped place) is next = with_drop edit.log edit.next edit.last edit.adds edit.drops place

up_to_added : (edit : Edit) (after : Rank) (field : Field) → UpTo after.tag edit → IsNext after field → UpTo (rank_of field).tag (with_field edit field)
unfolding rank_of
up_to_added edit after (LogNumber n) is next =
    let low : after.tag ≤ 1 = not_behind after (LogNumber n) next in
    record {
      log = λ less. absurd (omega (arith, less));
      next = λ less. is.next (omega (arith, low));
      last = λ less. is.last (omega (arith, low));
      adds = λ less. is.adds (omega (arith, low));
      drops = λ less. is.drops (omega (arith, low));
    }
up_to_added edit after (NextNumber n) is next =
    let low : after.tag ≤ 2 = not_behind after (NextNumber n) next in
    record {
      log = λ less. absurd (omega (arith, less));
      next = λ less. absurd (omega (arith, less));
      last = λ less. is.last (omega (arith, low));
      adds = λ less. is.adds (omega (arith, low));
      drops = λ less. is.drops (omega (arith, low));
    }
up_to_added edit after (LastSequence n) is next =
    let low : after.tag ≤ 3 = not_behind after (LastSequence n) next in
    record {
      log = λ less. absurd (omega (arith, less));
      next = λ less. absurd (omega (arith, less));
      last = λ less. absurd (omega (arith, less));
      adds = λ less. is.adds (omega (arith, low));
      drops = λ less. is.drops (omega (arith, low));
    }
up_to_added edit after (Added add) is next =
    let low : after.tag ≤ 4 = not_behind after (Added add) next in
    record {
      log = λ less. absurd (omega (arith, less));
      next = λ less. absurd (omega (arith, less));
      last = λ less. absurd (omega (arith, less));
      adds = λ less. absurd (omega (arith, less));
      drops = λ less. is.drops (omega (arith, low));
    }
up_to_added edit after (Dropped place) is next = record {
  log = λ less. absurd (omega (arith, less));
  next = λ less. absurd (omega (arith, less));
  last = λ less. absurd (omega (arith, less));
  adds = λ less. absurd (omega (arith, less));
  drops = λ less. absurd (omega (arith, less));
}

are_push : (after : Rank) (fields : List Field) (field : Field) → AreFields after fields → IsNext (last_rank after fields) field → AreFields after (fields ++ field ∷ [])
unfolding AreFields
are_push after [] field are next = (next, tt)
are_push after (f ∷ fields) field are next = (are.0, are_push (rank_of f) fields field are.1 next)

last_push : (after : Rank) (fields : List Field) (field : Field) → last_rank after (fields ++ field ∷ []) ≡ rank_of field
last_push after [] field = refl
last_push after (f ∷ fields) field = last_push (rank_of f) fields field

text_added : (edit : Edit) (field : Field) → fields_of (with_field edit field) ≡ fields_of edit ++ field ∷ [] → edit_text (with_field edit field) ≡ edit_text edit ++ field_text field
text_added edit field added =
    edit_text-is (with_field edit field) ∙ ap (flat_map field_text) added ∙ flat_map-append field_text (fields_of edit) (field ∷ [])
    ∙ (λ i. sym (edit_text-is edit) i ++ append-nil (field_text field) i)

pub read_start : (bytes : List ℕ) → IsReadTo bytes (record { log = None; next = None; last = None; adds = []; drops = [] }) 0 start
unfolding AreFields edit_text
read_start bytes = record {
  fields = tt;
  last = refl;
  up_to = record { log = λ _. refl; next = λ _. refl; last = λ _. refl; adds = λ _. refl; drops = λ _. refl };
  ends = refl;
  within = omega arith;
  text = refl;
}

pub read_step : (bytes : List ℕ) (edit : Edit) (at : ℕ) (after : Rank) (field : Field) (next : ℕ) → IsReadTo bytes edit at after → IsFieldAt bytes at after field next
    → IsReadTo bytes (with_field edit field) next (rank_of field)
read_step bytes edit at after field next is found =
    let added : fields_of (with_field edit field) ≡ fields_of edit ++ field ∷ [] = fields_added edit after field is.up_to found.may in
    let text : edit_text (with_field edit field) ≡ edit_text edit ++ field_text field = text_added edit field added in
    record {
      fields = subst (AreFields start) (sym added) (are_push start (fields_of edit) field is.fields (subst (λ (r : Rank). IsNext r field) (sym is.last) found.may));
      last = ap (last_rank start) added ∙ last_push start (fields_of edit) field;
      up_to = up_to_added edit after field is.up_to found.may;
      ends = omega (arith, found.ends, is.ends, ap (length {A = ℕ}) text, length-append (edit_text edit) (field_text field));
      within = found.within;
      text =
          is.text ∙ ap (λ (s : List ℕ). edit_text edit ++ s) found.text ∙ sym (append_assoc (edit_text edit) (field_text field) (drop next bytes))
          ∙ ap (λ (s : List ℕ). s ++ drop next bytes) (sym text);
    }

rank_in : (field : Field) → InRange field → IsRank (rank_of field)
unfolding InRange rank_of
rank_in (LogNumber n) is = record { level = omega arith; number = omega arith }
rank_in (NextNumber n) is = record { level = omega arith; number = omega arith }
rank_in (LastSequence n) is = record { level = omega arith; number = omega arith }
rank_in (Added add) is = record { level = is.0.level_is; number = is.0.number_is.most }
rank_in (Dropped place) is = record { level = is.level_is; number = is.number_is.most }

last_in : (after : Rank) (fields : List Field) → IsRank after → AreFields after fields → IsRank (last_rank after fields)
unfolding AreFields
last_in after [] is are = is
last_in after (f ∷ fields) is are = last_in (rank_of f) fields (rank_in f are.0.range) are.1

pub rank_read : (bytes : List ℕ) (edit : Edit) (at : ℕ) (after : Rank) → IsReadTo bytes edit at after → IsRank after
rank_read bytes edit at after is = subst IsRank is.last (last_in start (fields_of edit) (record { level = omega arith; number = omega arith }) is.fields)

pub read_whole : (bytes : List ℕ) (edit : Edit) (at : ℕ) (after : Rank) → IsReadTo bytes edit at after → length bytes ≤ at → IsEditText bytes edit
read_whole bytes edit at after is end = record {
  is = is.text ∙ ap (λ (s : List ℕ). edit_text edit ++ s) (drop_all at bytes end) ∙ append-nil (edit_text edit);
  edit_is = record { fields = is.fields };
}

-- ---- what goes on behind an edit's text

record IsLonger (fields others : List Field) (t : List ℕ) : Type 0 where
  more : List Field
  are : others ≡ fields ++ more
  text : flat_map field_text more ≡ t

longer : (fields others : List Field) (after after' : Rank) (t : List ℕ) → AreFields after fields → AreFields after' others
    → flat_map field_text others ≡ flat_map field_text fields ++ t → IsLonger fields others t
unfolding AreFields
longer [] others after after' t are also same = record { more = others; are = refl; text = same }
longer (f ∷ fields) [] after after' t are also same =
    absurd (field_some f (flat_map field_text fields ++ t) (sym (same ∙ append_assoc (field_text f) (flat_map field_text fields) t)))
longer (f ∷ fields) (g ∷ others) after after' t are also same =
    let one = field_once g f (flat_map field_text others) (flat_map field_text fields ++ t) also.0.range are.0.range (same ∙ append_assoc (field_text f) (flat_map field_text fields) t) in
    let rest : IsLonger fields others t = longer fields others (rank_of f) (rank_of g) t are.1 also.1 one.1 in
    record { more = rest.more; are = (λ i. one.0 i ∷ rest.are i); text = rest.text }

are_middle : (after : Rank) (fields more : List Field) (field : Field) → AreFields after (fields ++ field ∷ more) → IsNext (last_rank after fields) field
unfolding AreFields
are_middle after [] more field are = are.0
are_middle after (f ∷ fields) more field are = are_middle (rank_of f) fields more field are.1

no_edit : (bytes : List ℕ) (place : ℕ) → IsFault IsSomeEdit IsSomeEdit bytes place → IsNoEdit bytes place
no_edit bytes place fault = record { none = fault.none; fault = record { within = fault.within; before = fault.before; here = fault.here } }

field_no_edit : (bytes : List ℕ) (edit : Edit) (at : ℕ) (after : Rank) (place : ℕ) → IsReadTo bytes edit at after → IsFaultAt (IsRest after) (GoesOn after) bytes at place → IsNoEdit bytes place
unfolding IsRest GoesOn
field_no_edit bytes edit at after place is inner =
    no_edit bytes place
    (subst (λ (t : List ℕ). IsFault IsSomeEdit IsSomeEdit t place) (sym is.text)
    (subst (λ (n : ℕ). IsFault IsSomeEdit IsSomeEdit (edit_text edit ++ drop at bytes) n) (omega (arith, inner.placed, is.ends))
    (fault_after (IsRest after) (GoesOn after) IsSomeEdit IsSomeEdit (edit_text edit) (drop at bytes) inner.skipped complete needed inner.fault)))
  where
    complete : (v : List ℕ) → ((v ≡ []) ⊎ IsFieldIn after v) → (w : List ℕ) × IsSomeEdit (edit_text edit ++ (v ++ w))
    complete v (inl ended) = (
      [],
      record {
        edit = edit;
        text_is = record { is = ap (λ (s : List ℕ). edit_text edit ++ s) (append-nil v ∙ ended) ∙ append-nil (edit_text edit); edit_is = record { fields = is.fields } };
      },
    )
    complete v (inr found) =
        let added : fields_of (with_field edit found.field) ≡ fields_of edit ++ found.field ∷ [] = fields_added edit after found.field is.up_to found.next in (
          [],
          record {
            edit = with_field edit found.field;
            text_is = record {
              is = ap (λ (s : List ℕ). edit_text edit ++ s) (append-nil v ∙ found.spelled) ∙ sym (text_added edit found.field added);
              edit_is = record {
                fields = subst (AreFields start) (sym added) (are_push start (fields_of edit) found.field is.fields (subst (λ (r : Rank). IsNext r found.field) (sym is.last) found.next));
              };
            };
          },
        )

    by_more : (t : List ℕ) (more : List Field) → flat_map field_text more ≡ t → AreFields start (fields_of edit ++ more) → (t ≡ []) ⊎ Begins (IsFieldIn after) t
    by_more t [] text are = inl (sym text)
    by_more t (field ∷ more) text are =
        inr (record {
          piece = field_text field;
          more = flat_map field_text more;
          joined = sym text;
          good = record { field = field; spelled = refl; next = subst (λ (r : Rank). IsNext r field) is.last (are_middle start (fields_of edit) more field are) };
        })

    needed : (t : List ℕ) → IsSomeEdit (edit_text edit ++ t) → (t ≡ []) ⊎ Begins (IsFieldIn after) t
    needed t some =
        let others : List Field = fields_of some.edit in
        let long : IsLonger (fields_of edit) others t =
        longer (fields_of edit) others start start t is.fields some.text_is.edit_is.fields
        (sym (edit_text-is some.edit) ∙ sym some.text_is.is ∙ ap (λ (s : List ℕ). s ++ t) (edit_text-is edit)) in
        by_more t long.more long.text (subst (AreFields start) long.are some.text_is.edit_is.fields)

-- a refusal of a field is one of the whole
pub field_bad : (bytes : List ℕ) (edit : Edit) (at : ℕ) (after : Rank) (e : EditError) → IsReadTo bytes edit at after → IsBadAt (IsRest after) (GoesOn after) bytes at e → IsBad bytes e
unfolding IsBad IsBadAt
field_bad bytes edit at after (BadEdit place) is bad = field_no_edit bytes edit at after place is bad
field_bad bytes edit at after NoMemory is bad = tt

pub bad_no_memory : (bytes : List ℕ) (e : EditError) → e ≡ NoMemory → IsBad bytes e
unfolding IsBad
bad_no_memory bytes e is = rw is tt

-- a field has one byte at least
pub field_len : (field : Field) → 1 ≤ length (field_text field)
field_len field = by_text (field_text field) (λ none. field_some field [] (append-nil (field_text field) ∙ none))
  where
    by_text : (text : List ℕ) → (text ≡ [] → ⊥) → 1 ≤ length text
    by_text [] some = absurd (some refl)
    by_text (b ∷ text) some = omega arith
