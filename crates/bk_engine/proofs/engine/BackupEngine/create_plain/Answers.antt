use Rattle.std.proofs.Common.{ℕ, List, [], ◌∷◌, ◌++◌, ◌+◌, ◌≡◌, length, option_map, All, Some, None, sym, ap, subst}
use Rattle.std.proofs.lemmas.List.Elements.{All-push}
use Rattle.lsm_disk.specs.State.{Story, state_of}
use Rattle.lsm_disk.specs.Goes.{Went}
use Rattle.lsm_disk.specs.Kept.{IsKeptName}
use Rattle.bk_meta.specs.declared.metas.Meta.{Meta}
use Rattle.bk_meta.specs.Metas.{IsMeta}
use Rattle.bk_tree.specs.Kept.{IsKeptBackup}
use Rattle.bk_tree.specs.Places.{meta_path}
use Rattle.bk_engine.specs.Answering.{RiseBetween}
use Rattle.bk_engine.specs.Copying.{Whatever, Anything}
use Rattle.bk_engine.specs.Creating.{info_of, plain_names, plain_meta}
use Rattle.bk_engine.specs.Preparing.{AreTexts, plain_views}
use Rattle.bk_engine.specs.Publishing.{Creates, NoneOrWhole}
use Rattle.bk_engine.specs.Shown.{Shown}
use Rattle.bk_engine.proofs.Crashes.{unmade_crash}
use Rattle.bk_engine.proofs.Publications.{created_whatever}
use Rattle.bk_engine.proofs.Refusals.{rise_made, rise_same}
use Rattle.bk_engine.proofs.engine.BackupEngine.create_plain.Goals as goal

pub returns-in-Some-clause-went : goal.returns-in-Some-clause-went
returns-in-Some-clause-went g c story tells = created_whatever (c.args.self.now.given + 1) (length (state_of story).files) story tells

pub returns-then-self-clause-went : goal.returns-then-self-clause-went
returns-then-self-clause-went g c story tells = created_whatever (c.args.self.now.given + 1) (length (state_of story).files) story tells

pub invariant_of-self : goal.invariant_of-self
invariant_of-self g c =
    let made = c.in-Ok.ensures.made in
    let metas = c.self.inside.metas.items in (
      subst (All IsMeta) (sym made.6) (All-push IsMeta metas made.0 c.self.invariant.0 made.5),
      rise_made c.self.inside.given metas c.create_kept.new.metas.items made.0 (ap (λ (meta : Meta). meta.id) made.3) made.6 c.self.invariant.1,
    )

pub invariant_of-self-in-Err : goal.invariant_of-self-in-Err
invariant_of-self-in-Err g c = (
  subst (All IsMeta) (sym c.in-Err.ensures.stays) c.self.invariant.0,
  rise_same c.self.inside.given c.self.inside.metas.items c.create_kept.new.metas.items c.in-Err.ensures.stays c.self.invariant.1,
)

pub returns-in-Ok-clause-order : goal.returns-in-Ok-clause-order
returns-in-Ok-clause-order g c =
    let made = c.in-Ok.ensures.made in (
      subst (λ (old : Shown). RiseBetween 0 old.given old.metas) c.self.view_is c.self.invariant.1,
      rise_made c.self.inside.given c.self.inside.metas.items c.create_kept.new.metas.items made.0 (ap (λ (meta : Meta). meta.id) made.3) made.6 c.self.invariant.1,
    )

pub returns-in-Err-clause-order : goal.returns-in-Err-clause-order
returns-in-Err-clause-order g c = (
  subst (λ (old : Shown). RiseBetween 0 old.given old.metas) c.self.view_is c.self.invariant.1,
  rise_same c.self.inside.given c.self.inside.metas.items c.create_kept.new.metas.items c.in-Err.ensures.stays c.self.invariant.1,
)

pub returns-in-Ok-clause-made : goal.returns-in-Ok-clause-made
returns-in-Ok-clause-made g c =
    let made = c.in-Ok.ensures.made in
    let views = plain_views (option_map (λ file. g.V.View.viewed file.view) c.args.files.log) (g.V.View.viewed c.args.files.current) (g.V.View.viewed c.args.files.manifest.view) in
    let names = plain_names (option_map (λ file. file.number) c.args.files.log) c.args.files.manifest.number in
    subst (λ (old : Shown). (meta : Meta) × (texts : List (List ℕ)) × AreTexts views texts × (meta ≡ plain_meta (old.given + 1) c.args.now c.args.sequence names texts)
    × (c.in-Ok.info ≡ info_of meta) × (c.create_kept.new.metas.items ≡ old.metas ++ meta ∷ [])
    × ((story : Story) → old.disk.told ≡ Some story
    → Went story (g.B.Disk.seen c.create_kept.new.disk).told (Creates (old.given + 1) (length (state_of story).files)) Anything (λ s. IsKeptBackup s meta texts))) c.self.view_is
    (made.0, made.1, made.2, made.3, made.4, made.6, made.7)

pub returns-in-Ok-clause-went : goal.returns-in-Ok-clause-went
returns-in-Ok-clause-went g c =
    subst (λ (old : Shown). (story : Story) → old.disk.told ≡ Some story → Went story (g.B.Disk.seen c.create_kept.new.disk).told (Creates (old.given + 1) (length (state_of story).files)) Anything Whatever) c.self.view_is
    c.create_kept.ensures.went

pub returns-in-Err-clause-went : goal.returns-in-Err-clause-went
returns-in-Err-clause-went g c =
    subst (λ (old : Shown). (story : Story) → old.disk.told ≡ Some story → Went story (g.B.Disk.seen c.create_kept.new.disk).told (Creates (old.given + 1) (length (state_of story).files)) Anything Whatever) c.self.view_is
    c.create_kept.ensures.went

pub returns-in-Some-clause-crash : goal.returns-in-Some-clause-crash
returns-in-Some-clause-crash g c story tells free =
    let views = plain_views (option_map (λ file. g.V.View.viewed file.view) c.args.files.log) (g.V.View.viewed c.args.files.current) (g.V.View.viewed c.args.files.manifest.view) in
    let names = plain_names (option_map (λ file. file.number) c.args.files.log) c.args.files.manifest.number in
    unmade_crash (c.args.self.now.given + 1) c.args.now c.args.sequence names views (length (state_of story).files) story free tells

pub returns-then-self-clause-crash : goal.returns-then-self-clause-crash
returns-then-self-clause-crash g c story tells free =
    let views = plain_views (option_map (λ file. g.V.View.viewed file.view) c.args.files.log) (g.V.View.viewed c.args.files.current) (g.V.View.viewed c.args.files.manifest.view) in
    let names = plain_names (option_map (λ file. file.number) c.args.files.log) c.args.files.manifest.number in
    unmade_crash (c.args.self.now.given + 1) c.args.now c.args.sequence names views (length (state_of story).files) story free tells

pub returns-in-Ok-clause-crash : goal.returns-in-Ok-clause-crash
returns-in-Ok-clause-crash g c =
    let views = plain_views (option_map (λ file. g.V.View.viewed file.view) c.args.files.log) (g.V.View.viewed c.args.files.current) (g.V.View.viewed c.args.files.manifest.view) in
    let names = plain_names (option_map (λ file. file.number) c.args.files.log) c.args.files.manifest.number in
    subst (λ (old : Shown). (story : Story) → old.disk.told ≡ Some story → IsKeptName (state_of story) (meta_path (old.given + 1)) None
    → Went story (g.B.Disk.seen c.create_kept.new.disk).told (Creates (old.given + 1) (length (state_of story).files)) (NoneOrWhole (old.given + 1) c.args.now c.args.sequence names views) Whatever) c.self.view_is
    c.create_kept.ensures.crash

pub returns-in-Err-clause-crash : goal.returns-in-Err-clause-crash
returns-in-Err-clause-crash g c =
    let views = plain_views (option_map (λ file. g.V.View.viewed file.view) c.args.files.log) (g.V.View.viewed c.args.files.current) (g.V.View.viewed c.args.files.manifest.view) in
    let names = plain_names (option_map (λ file. file.number) c.args.files.log) c.args.files.manifest.number in
    subst (λ (old : Shown). (story : Story) → old.disk.told ≡ Some story → IsKeptName (state_of story) (meta_path (old.given + 1)) None
    → Went story (g.B.Disk.seen c.create_kept.new.disk).told (Creates (old.given + 1) (length (state_of story).files)) (NoneOrWhole (old.given + 1) c.args.now c.args.sequence names views) Whatever) c.self.view_is
    c.create_kept.ensures.crash
