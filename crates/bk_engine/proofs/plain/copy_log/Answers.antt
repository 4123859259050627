use Rattle.std.proofs.Common.{ℕ, List, [], ◌++◌, ◌∷◌, ◌≡◌, ◌≤◌, Some, refl, sym, ap, subst, ◌∙◌, length}
use Rattle.lsm_disk.specs.State.{Story, state_of}
use Rattle.lsm_disk.specs.Goes.{Went}
use Rattle.lsm_names.specs.declared.file_names.FileName.TheVariants.{Log}
use Rattle.bk_meta.specs.declared.metas.MetaFile.{MetaFile}
use Rattle.bk_engine.specs.Copying.{Anything}
use Rattle.bk_engine.specs.Creating.{own_file}
use Rattle.bk_engine.specs.Preparing.{Prepares, AreNew, Apart}
use Rattle.bk_engine.proofs.Logs.{copied_none, copied_some, begun_whatever, begun_none}
use Rattle.bk_engine.proofs.plain.copy_log.Goals as goal

pub returns-in-None-clause-went : goal.returns-in-None-clause-went
returns-in-None-clause-went g c story first tells le = begun_whatever c.args.id first story tells

pub returns-in-None-clause-copied : goal.returns-in-None-clause-copied
returns-in-None-clause-copied g c =
    copied_none (λ file. g.V.View.viewed file.view) (λ file. file.number) c.args.log.now c.args.id c.new-files.result
    (λ files texts. (story : Story) (first : ℕ) → (g.B.Disk.seen c.args.disk.now).told ≡ Some story → first ≤ length (state_of story).files → Went story (g.B.Disk.seen c.args.disk.now).told (Prepares c.args.id first) Anything (λ s. AreNew first s files texts))
    c.in-None.is c.new-files.ensures (λ story first tells le. begun_none c.args.id first story c.new-files.result c.new-files.ensures tells)

pub returns-in_ok-add_copy-in-Some-clause-copied : goal.returns-in_ok-add_copy-in-Some-clause-copied
returns-in_ok-add_copy-in-Some-clause-copied g c =
    let done = c.in_ok-add_copy-in-Some.ensures.copied in
    let text = done.0 in
    let id = c.args.id in
    let file = c.in-Some.file in
    let own = own_file id (Log file.number) text in
    let none = c.new-files.ensures in
    let one : c.add_copy.new.files ≡ own ∷ [] = done.3 ∙ ap (λ (l : List MetaFile). l ++ own ∷ []) none in
    let told = (g.B.Disk.seen c.add_copy.new.disk).told in
    copied_some (λ file. g.V.View.viewed file.view) (λ file. file.number) c.args.log.now id c.add_copy.new.files
    (λ files texts. (story : Story) (first : ℕ) → (g.B.Disk.seen c.args.disk.now).told ≡ Some story → first ≤ length (state_of story).files → Went story told (Prepares id first) Anything (λ s. AreNew first s files texts))
    file text c.in-Some.is done.2 done.1 one
    (λ story first tells le. subst (λ (l : List MetaFile). Went story told (Prepares id first) Anything (λ s. AreNew first s l (text ∷ []))) (sym done.3)
    (done.4 story first [] tells le (subst (λ (l : List MetaFile). Apart own.path l) (sym none) tt) (subst (λ (l : List MetaFile). AreNew first (state_of story) l []) (sym none) tt)))
