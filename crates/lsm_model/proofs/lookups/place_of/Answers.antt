use Rattle.std.proofs.Common.{◌<◌, sym, ap, ◌∙◌, length, arith}
use Rattle.std.specs.Str.{bytes_eq}
use Rattle.lsm_model.specs.declared.lookups.PlainFolder.{PlainFolder}
use Rattle.lsm_model.proofs.PlainFolders.{set_there}
use Rattle.lsm_model.proofs.lookups.place_of.Goals as goal

pub returns-then-same_name-clause-found : goal.returns-then-same_name-clause-found
returns-then-same_name-clause-found c =
    let less : c.loop-at.at < length c.args.folders.now = omega (arith, c.loop-at-test.true, c.loop-at.auto.at-end) in
    let r = c.index-folders-at.result in (
      less,
      λ new named.
          c.loop-at.invariant new named
          ∙ set_there c.args.folders.now c.loop-at.at r new less (ap (λ (f : PlainFolder). bytes_eq f.name new.name) (sym c.index-folders-at.is) ∙ ap (bytes_eq r.name) named ∙ sym c.same_name.ensures ∙ c.if-same_name.true),
    )
