use Rattle.std.proofs.Common.{List, [], ℕ, ◌≡◌, sym, subst, option_map, refl}
use Rattle.bk_meta.specs.Metas.{IsMeta}
use Rattle.bk_meta.specs.declared.metas.Meta.{Meta}
use Rattle.bk_meta.specs.declared.metas.MetaFile.{MetaFile}
use Rattle.bk_engine.specs.Creating.{plain_names}
use Rattle.bk_engine.specs.Publishing.{AreOwn}
use Rattle.bk_engine.proofs.Creations.{plain_is_meta, are_own}
use Rattle.bk_engine.proofs.engine.prepare.Goals as goal

same_meta : (id timestamp sequence : ℕ) (metadata : List ℕ) (files others : List MetaFile) → metadata ≡ [] → files ≡ others
    → ◌≡◌ {A = Meta} (record { id = id; timestamp = timestamp; sequence = sequence; metadata = metadata; files = files }) (record { id = id; timestamp = timestamp; sequence = sequence; metadata = []; files = others })
same_meta id timestamp sequence metadata files others empty same = λ i. record { id = id; timestamp = timestamp; sequence = sequence; metadata = empty i; files = same i }

pub returns-clause-made : goal.returns-clause-made
returns-clause-made g c =
    let copied = c.in_ok-listed.ensures.copied in
    (copied.0, copied.1, same_meta c.args.id c.args.now c.args.sequence c.new.result c.in_ok-listed.listed _ c.new.ensures copied.2, λ story first tells le. copied.3 story first tells le)

pub returns-clause-own : goal.returns-clause-own
returns-clause-own g c =
    let copied = c.in_ok-listed.ensures.copied in
    subst (AreOwn c.args.id) (sym copied.2) (are_own c.args.id (plain_names (option_map (λ file. file.number) c.args.files.now.log) c.args.files.now.manifest.number) copied.0)

pub returns-clause-lawful : goal.returns-clause-lawful
returns-clause-lawful g c =
    let copied = c.in_ok-listed.ensures.copied in
    subst IsMeta (sym (same_meta c.args.id c.args.now c.args.sequence c.new.result c.in_ok-listed.listed _ c.new.ensures copied.2))
    (plain_is_meta (λ file. g.V.View.viewed file.view) (λ file. file.number) (g.V.View.viewed c.args.files.now.current) (g.V.View.viewed c.args.files.now.manifest.view) c.args.files.now.manifest.number c.args.id c.args.now c.args.sequence
    (c.requires.some, c.ranges.id.fits) c.ranges.now.fits c.ranges.sequence.fits c.requires.manifest c.args.files.now.log copied.0 c.requires.log copied.1)
