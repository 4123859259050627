-- A folder's name has no slash, so the folder stands in the root.
use Rattle.std.specs.Prelude.{◌≡◌, ℕ, Bool, true, false, cond, ◌==◌, List, [], ◌∷◌, Option, Some, None}
use Rattle.std.proofs.Common.{refl, sym, ap, subst, ◌∙◌}
use Rattle.std.proofs.lemmas.Bool.{and_parts, eqb-true}
use Rattle.std.specs.List.{list_all}
use Rattle.lsm_names.specs.Paths.{cut_last, put_before, or_root, parent_of}
use Rattle.lsm_names.specs.Folders.{is_small_letter_or_digit, is_folder_byte, is_folder_name}

not_slash : (byte : ℕ) (b : Bool) → (byte == 47) ≡ b → is_folder_byte byte ≡ true → b ≡ false
unfolding is_folder_byte is_small_letter_or_digit
not_slash byte true is ok = let same : byte ≡ 47 = eqb-true byte 47 is in let slash : is_folder_byte 47 ≡ true = subst (λ (n : ℕ). is_folder_byte n ≡ true) same ok in cc
not_slash byte false is ok = refl

uncut : (name : List ℕ) → list_all is_folder_byte name ≡ true → cut_last name ≡ None
uncut [] ok = refl
uncut (byte ∷ name) ok =
    let parts = and_parts (is_folder_byte byte) (list_all is_folder_byte name) ok in
    ap (put_before byte) (uncut name parts.1) ∙ ap (λ b. cond b (Some []) None) (not_slash byte (byte == 47) refl parts.0)

pub in_root : (name : List ℕ) → is_folder_name name ≡ true → parent_of name ≡ []
unfolding is_folder_name
in_root name ok = ap or_root (uncut name (and_parts _ _ ok).1)
