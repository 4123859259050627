use Rattle.std.proofs.Common.{[], ◌++◌, ap, ◌∙◌, sym, subst}
use Rattle.lsm_table.specs.Cuts.{size_of}
use Rattle.lsm_table.specs.WholeTables.{IsTable}
use Rattle.lsm_table.specs.Building.{Built, IsBuilt, IsFinished}
use Rattle.lsm_memtable.specs.Flushes.{bytes_of}
use Rattle.lsm_memtable.proofs.Progresses.{progress_none, whole_built}
use Rattle.lsm_memtable.proofs.progress.Progress.finish.Goals as goal

pub returns-in_err-finished-clause-progress : goal.returns-in_err-finished-clause-progress
returns-in_err-finished-clause-progress c =
    λ rows was.
    progress_none c.replace-whole.new.dest c.args.self.now.taken rows (subst (λ (b : Built). IsBuilt b [] []) (sym c.replace-whole.ensures.after) c.new.ensures.built)
    (ap (λ (b : Built). size_of b.blocks) c.replace-whole.ensures.after ∙ c.new.ensures.empty) was.taken_within

pub returns-clause-progress : goal.returns-clause-progress
returns-clause-progress c =
    λ rows was.
    progress_none c.replace-whole.new.dest c.args.self.now.built rows (subst (λ (b : Built). IsBuilt b [] []) (sym c.replace-whole.ensures.after) c.new.ensures.built)
    (ap (λ (b : Built). size_of b.blocks) c.replace-whole.ensures.after ∙ c.new.ensures.empty) was.built_within

pub returns-clause-ok : goal.returns-clause-ok
returns-clause-ok c =
    λ rows was all.
    let p = c.args.self.now in
    let f = c.in_ok-finished.finished in
    let whole : IsBuilt c.replace-whole.result rows (bytes_of rows p.taken) = subst (λ (b : Built). IsBuilt b rows (bytes_of rows p.taken)) (sym c.replace-whole.ensures.value) (whole_built p rows was all c.requires.taken) in
    subst (λ (b : Built). IsFinished b rows (bytes_of rows p.taken) f.tail f.size f.smallest f.largest) c.replace-whole.ensures.value (c.in_ok-finished.ensures.finished rows (bytes_of rows p.taken) whole)

pub returns-clause-whole : goal.returns-clause-whole
returns-clause-whole c =
    λ rows was all are.
    let p = c.args.self.now in
    let f = c.in_ok-finished.finished in
    let built : IsBuilt c.replace-whole.result rows (bytes_of rows p.taken) = subst (λ (b : Built). IsBuilt b rows (bytes_of rows p.taken)) (sym c.replace-whole.ensures.value) (whole_built p rows was all c.requires.taken) in
    subst (λ (b : Built). IsTable (bytes_of rows p.taken ++ f.tail) rows b.number b.session) c.replace-whole.ensures.value (c.in_ok-finished.ensures.whole rows (bytes_of rows p.taken) built are)
