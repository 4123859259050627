-- What is read is one thing.
use Rattle.std.specs.Prelude.{◌≡◌, Result, Ok}
use Rattle.std.proofs.Common.{sym, ◌∙◌}
use Rattle.lsm_folder.specs.declared.refusals.Refusal.{Refusal}

pub same_ok : {A : Type 0} (x y : A) → ◌≡◌ {A = Result A Refusal} (Ok x) (Ok y) → x ≡ y
same_ok x y e = cc

pub ok_once : {A : Type 0} (r : Result A Refusal) (x y : A) → r ≡ Ok x → r ≡ Ok y → x ≡ y
ok_once r x y one other = same_ok x y (sym one ∙ other)
