-- An edit and its fields stand for each other.
use Rattle.std.proofs.Common.{◌≡◌, ℕ, List, [], ◌∷◌, ◌++◌, refl, sym, ap, ◌∙◌, append_assoc, Option, Some, None}
use Rattle.std.specs.Prelude.{map}
use Rattle.std.specs.List.{fold}
use Rattle.std.proofs.lemmas.List.{append-nil}
use Rattle.std.proofs.lemmas.List.Sums.{fold-append}
use Rattle.lsm_version.specs.declared.tables.Add.{Add}
use Rattle.lsm_version.specs.declared.tables.Place.{Place}
use Rattle.lsm_version.specs.declared.edits.Edit.{Edit}
use Rattle.lsm_version.specs.declared.fields.Field.{Field}
use Rattle.lsm_version.specs.declared.fields.Field.TheVariants.{LogNumber, NextNumber, LastSequence, Added, Dropped}
use Rattle.lsm_version.specs.EditText.{given, fields_of}
use Rattle.lsm_version.specs.Reading.{with_field}

-- an edit that says nothing
abbrev pub empty_edit : Edit
empty_edit = record { log = None; next = None; last = None; adds = []; drops = [] }

fold_adds : (adds : List Add) (e : Edit) → fold with_field e (map Added adds) ≡ record e { adds = e.adds ++ adds }
fold_adds [] e = λ i. record e { adds = sym (append-nil e.adds) i }
fold_adds (add ∷ adds) e = fold_adds adds (with_field e (Added add)) ∙ (λ i. record e { adds = append_assoc e.adds (add ∷ []) adds i })

fold_drops : (drops : List Place) (e : Edit) → fold with_field e (map Dropped drops) ≡ record e { drops = e.drops ++ drops }
fold_drops [] e = λ i. record e { drops = sym (append-nil e.drops) i }
fold_drops (place ∷ drops) e = fold_drops drops (with_field e (Dropped place)) ∙ (λ i. record e { drops = append_assoc e.drops (place ∷ []) drops i })

log_first : (log : Option ℕ) → fold with_field empty_edit (given LogNumber log) ≡ record empty_edit { log = log }
log_first None = refl
log_first (Some n) = refl

next_then : (next : Option ℕ) (e : Edit) → e.next ≡ None → fold with_field e (given NextNumber next) ≡ record e { next = next }
next_then None e was = λ i. record e { next = was i }
next_then (Some n) e was = refl

last_then : (last : Option ℕ) (e : Edit) → e.last ≡ None → fold with_field e (given LastSequence last) ≡ record e { last = last }
last_then None e was = λ i. record e { last = was i }
last_then (Some n) e was = refl

-- an edit's fields make the edit
pub fields_make : (e : Edit) → fold with_field empty_edit (fields_of e) ≡ e
fields_make e =
    let one : List Field = given LogNumber e.log in
    let two : List Field = given NextNumber e.next in
    let three : List Field = given LastSequence e.last in
    let four : List Field = map Added e.adds in
    let five : List Field = map Dropped e.drops in
    let with_log : Edit = record empty_edit { log = e.log } in
    let with_next : Edit = record with_log { next = e.next } in
    let with_last : Edit = record with_next { last = e.last } in
    let with_adds : Edit = record with_last { adds = e.adds } in
    let second : fold with_field empty_edit (one ++ two) ≡ with_next =
    fold-append with_field empty_edit one two ∙ ap (λ (x : Edit). fold with_field x two) (log_first e.log) ∙ next_then e.next with_log refl in
    let third : fold with_field empty_edit (one ++ two ++ three) ≡ with_last =
    fold-append with_field empty_edit (one ++ two) three ∙ ap (λ (x : Edit). fold with_field x three) second ∙ last_then e.last with_next refl in
    let fourth : fold with_field empty_edit (one ++ two ++ three ++ four) ≡ with_adds =
    fold-append with_field empty_edit (one ++ two ++ three) four ∙ ap (λ (x : Edit). fold with_field x four) third ∙ fold_adds e.adds with_last in
    fold-append with_field empty_edit (one ++ two ++ three ++ four) five ∙ ap (λ (x : Edit). fold with_field x five) fourth ∙ fold_drops e.drops with_adds

-- two edits of the same fields are the same
pub fields_only : (e f : Edit) → fields_of e ≡ fields_of f → e ≡ f
fields_only e f same = sym (fields_make e) ∙ ap (fold with_field empty_edit) same ∙ fields_make f
