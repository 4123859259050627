use Rattle.std.proofs.Common.{◌≡◌, List, ℕ, Result, Ok, ap, sym, ◌∙◌, append-nil}
use Rattle.std.proofs.lemmas.Bool.Decides.{Decides-eqb}
use Rattle.std.proofs.lemmas.Slice.Eq.{slice_eq-Decides}
use Rattle.lsm_names.specs.declared.file_names.FileName.{FileName}
use Rattle.lsm_names.specs.declared.file_names.FileName.TheVariants.{Log, Table, Manifest, Temp, Current}
use Rattle.lsm_names.specs.FileNames.{spelled, IsFileName}
use Rattle.lsm_names.proofs.FileNameLemmas.{spelled_injective}
use Rattle.lsm_names.proofs.file_names.FileName.parse.Goals as goal

-- a name with this text is the only one
only : {E : Type 0} (text : List ℕ) (found name : FileName) → IsFileName found → IsFileName name → text ≡ spelled found → text ≡ spelled name → ◌≡◌ {A = Result FileName E} (Ok found) (Ok name)
only text found name p q this that = ap (λ (n : FileName). Ok n) (spelled_injective found name p q (sym this ∙ that))

pub returns-then-eq-clause-spelling : goal.returns-then-eq-clause-spelling
unfolding spelled
returns-then-eq-clause-spelling c =
    (slice_eq-Decides Decides-eqb c.args.text.now c.as_slice.result.now c.eq.result c.eq.ensures).0 c.if-eq.true ∙ c.as_slice.ensures

pub returns-then-eq-clause-found : goal.returns-then-eq-clause-found
returns-then-eq-clause-found c name h same = only c.args.text.now Current name tt h (returns-then-eq-clause-spelling c) same

pub returns-in-Some-clause-spelling : goal.returns-in-Some-clause-spelling
unfolding spelled
returns-in-Some-clause-spelling c = c.in-Some.ensures.spelling ∙ append-nil _

pub returns-in-Some-clause-found : goal.returns-in-Some-clause-found
returns-in-Some-clause-found c name h same = only c.args.text.now (Manifest c.in-Some.number) name c.in-Some.ensures.number h (returns-in-Some-clause-spelling c) same

pub returns-in-Some-number_between-clause-spelling : goal.returns-in-Some-number_between-clause-spelling
unfolding spelled
returns-in-Some-number_between-clause-spelling c = c.in-Some-number_between.ensures.spelling

pub returns-in-Some-number_between-clause-found : goal.returns-in-Some-number_between-clause-found
returns-in-Some-number_between-clause-found c name h same =
    only c.args.text.now (Log c.in-Some-number_between.number) name c.in-Some-number_between.ensures.number h (returns-in-Some-number_between-clause-spelling c) same

pub returns-in-Some-number_between-2-clause-spelling : goal.returns-in-Some-number_between-2-clause-spelling
unfolding spelled
returns-in-Some-number_between-2-clause-spelling c = c.in-Some-number_between-2.ensures.spelling

pub returns-in-Some-number_between-2-clause-found : goal.returns-in-Some-number_between-2-clause-found
returns-in-Some-number_between-2-clause-found c name h same =
    only c.args.text.now (Table c.in-Some-number_between-2.number) name c.in-Some-number_between-2.ensures.number h (returns-in-Some-number_between-2-clause-spelling c) same

pub returns-in-Some-number_between-3-clause-spelling : goal.returns-in-Some-number_between-3-clause-spelling
unfolding spelled
returns-in-Some-number_between-3-clause-spelling c = c.in-Some-number_between-3.ensures.spelling

pub returns-in-Some-number_between-3-clause-found : goal.returns-in-Some-number_between-3-clause-found
returns-in-Some-number_between-3-clause-found c name h same =
    only c.args.text.now (Temp c.in-Some-number_between-3.number) name c.in-Some-number_between-3.ensures.number h (returns-in-Some-number_between-3-clause-spelling c) same

-- each kind was tried
pub returns-in-None-clause-refused : goal.returns-in-None-clause-refused
unfolding spelled
returns-in-None-clause-refused c name h same = elim name as (λ (n : FileName). IsFileName n → c.args.text.now ≡ spelled n → ⊥) [
  | Log number ↦ λ p e. let f = c.number_between-2.ensures.found number p e in cc
  | Table number ↦ λ p e. let f = c.number_between-3.ensures.found number p e in cc
  | Manifest number ↦ λ p e. let f = c.number_between.ensures.found number p (e ∙ sym (append-nil _)) in cc
  | Temp number ↦ λ p e. let f = c.number_between-4.ensures.found number p e in cc
  | Current ↦ λ p e.
      let known = (slice_eq-Decides Decides-eqb c.args.text.now c.as_slice.result.now c.eq.result c.eq.ensures).1 (e ∙ sym c.as_slice.ensures) in
      cc
] h same

pub returns-in-None-clause-found : goal.returns-in-None-clause-found
returns-in-None-clause-found c name h same = absurd (returns-in-None-clause-refused c name h same)
