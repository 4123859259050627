use Rattle.std.proofs.Common.{◌∙◌, sym, ap}
use Rattle.std.specs.BTreeMap.{get}
use Rattle.bk_shared.specs.Keeping.{key_cmp}
use Rattle.bk_shared.specs.declared.keys.Key.{Key}
use Rattle.bk_shared.proofs.Counts.{found_count, found_none}
use Rattle.bk_shared.proofs.counting.Shared.crc.Goals as goal

pub returns-in-Some : goal.returns-in-Some
returns-in-Some c = λ metas tells.
    (found_count metas c.args.self.now c.args.name.now c.in-Some.file.now tells
    (ap (λ (key : Key). get key_cmp c.args.self.now.files key) (sym c.key_of.ensures) ∙ sym c.in-Some.ensures.value)).1

pub returns-in-None : goal.returns-in-None
returns-in-None c = λ metas tells.
    (found_none metas c.args.self.now c.args.name.now tells
    (ap (λ (key : Key). get key_cmp c.args.self.now.files key) (sym c.key_of.ensures) ∙ sym c.in-None.ensures.value)).1
