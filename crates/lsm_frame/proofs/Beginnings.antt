-- A text that grows at its end goes on with what it began with.
use Rattle.std.proofs.Common.{◌≡◌, List, [], ◌++◌, length, take, refl, ap, sym, ◌∙◌, append-nil, append_assoc}
use Rattle.std.proofs.Math.Seq.{take-append_seam}
use Rattle.lsm_frame.specs.Begins.{Begins}

-- a text begins itself
pub begins_same : {A : Type 0} (front : List A) → Begins front front
begins_same front = record { rest = []; is = sym (append-nil front) }

-- it begins what is made by adding to it
pub begins_grown : {A : Type 0} (front more : List A) → Begins front (front ++ more)
begins_grown front more = record { rest = more; is = refl }

-- and what is made of that
pub begins_more : {A : Type 0} (front whole more : List A) → Begins front whole → Begins front (whole ++ more)
begins_more {A = A} front whole more begun = record { rest = begun.rest ++ more; is = ap (λ (s : List A). s ++ more) begun.is ∙ append_assoc front begun.rest more }

pub begins_trans : {A : Type 0} (front middle whole : List A) → Begins front middle → Begins middle whole → Begins front whole
begins_trans {A = A} front middle whole first second = record { rest = first.rest ++ second.rest; is = second.is ∙ ap (λ (s : List A). s ++ second.rest) first.is ∙ append_assoc front first.rest second.rest }

-- cutting it back to the front's length leaves the front
pub cut_back : {A : Type 0} (front whole : List A) → Begins front whole → take (length front) whole ≡ front
cut_back front whole begun = ap (take (length front)) begun.is ∙ take-append_seam front begun.rest

pub ruleset beginnings = (begins_same, begins_grown, begins_more, begins_trans)
