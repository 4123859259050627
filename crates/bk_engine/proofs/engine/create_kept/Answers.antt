use Rattle.std.proofs.Common.{rules, ℕ, List, [], ◌≡◌, length, option_map, sym, ap, ◌∙◌}
use Rattle.lsm_names.specs.declared.file_names.FileName.{FileName}
use Rattle.lsm_disk.specs.State.{state_of}
use Rattle.bk_meta.specs.declared.metas.Meta.{Meta}
use Rattle.bk_engine.specs.Creating.{info_of, plain_names, plain_meta}
use Rattle.bk_engine.specs.declared.infos.BackupInfo.{BackupInfo}
use Rattle.bk_engine.specs.Preparing.{plain_views}
use Rattle.bk_engine.proofs.Crashes.{unmade_crash}
use Rattle.bk_engine.proofs.Publications.{created_whatever}
use Rattle.bk_engine.proofs.engine.create_kept.Goals as goal

same_info : (id timestamp sequence count : ℕ) (metadata : List ℕ) (meta : Meta) (names : List FileName) (texts : List (List ℕ)) → meta ≡ plain_meta id timestamp sequence names texts → count ≡ length meta.files → metadata ≡ []
    → ◌≡◌ {A = BackupInfo} (record { id = id; timestamp = timestamp; sequence = sequence; files = count; metadata = metadata }) (info_of meta)
same_info id timestamp sequence count metadata meta names texts is counted empty =
    let told : Meta → BackupInfo = λ m. record { id = m.id; timestamp = m.timestamp; sequence = m.sequence; files = length meta.files; metadata = m.metadata } in
    let first : ◌≡◌ {A = BackupInfo} (record { id = id; timestamp = timestamp; sequence = sequence; files = count; metadata = metadata }) (told (plain_meta id timestamp sequence names texts)) =
    λ i. record { id = id; timestamp = timestamp; sequence = sequence; files = counted i; metadata = empty i } in
    first ∙ ap told (sym is)

pub returns-in_err-reserve-clause-went : goal.returns-in_err-reserve-clause-went
returns-in_err-reserve-clause-went g c story tells = created_whatever c.args.id (length (state_of story).files) story tells

pub returns-clause-made : goal.returns-clause-made
returns-clause-made g c =
    let made = c.in_ok-meta.ensures.made in (
      c.in_ok-meta.meta,
      made.0,
      made.1,
      made.2,
      same_info c.args.id c.args.now c.args.sequence c.count_of.result c.new.result c.in_ok-meta.meta _ made.0 made.2 c.count_of.ensures c.new.ensures,
      c.in_ok-meta.ensures.lawful,
      search rules,
      made.3,
    )

pub returns-in_err-reserve-clause-crash : goal.returns-in_err-reserve-clause-crash
returns-in_err-reserve-clause-crash g c story tells free =
    let views = plain_views (option_map (λ file. g.V.View.viewed file.view) c.args.files.now.log) (g.V.View.viewed c.args.files.now.current) (g.V.View.viewed c.args.files.now.manifest.view) in
    let names = plain_names (option_map (λ file. file.number) c.args.files.now.log) c.args.files.now.manifest.number in
    unmade_crash c.args.id c.args.now c.args.sequence names views (length (state_of story).files) story free tells
