use Rattle.std.proofs.Common.{ℕ, List, [], ◌++◌, ◌∷◌, ◌≡◌, ◌≤◌, Some, length, subst, sym}
use Rattle.lsm_names.specs.declared.file_names.FileName.TheVariants.{Manifest, Current}
use Rattle.lsm_disk.specs.State.{Story, State, state_of}
use Rattle.lsm_disk.specs.Goes.{Went}
use Rattle.bk_meta.specs.declared.metas.MetaFile.{MetaFile}
use Rattle.bk_engine.specs.Copying.{Whatever, Anything}
use Rattle.bk_engine.specs.Creating.{own_file}
use Rattle.bk_engine.specs.Preparing.{Prepares, AreNew}
use Rattle.bk_engine.proofs.Logs.{then_prepared, apart_current, apart_manifest, all_copied}
use Rattle.bk_engine.proofs.plain.copy_all.Goals as goal

pub returns-in_err-add_copy-clause-went : goal.returns-in_err-add_copy-clause-went
returns-in_err-add_copy-clause-went g c story first tells le =
    let log = c.in_ok-listed.ensures.copied in
    then_prepared c.args.id first (λ s. AreNew first s c.in_ok-listed.listed log.0) Whatever le (log.3 story first tells le) (λ mid told low now. c.add_copy.ensures.went mid first told low)

pub returns-in_err-add_copy-2-clause-went : goal.returns-in_err-add_copy-2-clause-went
returns-in_err-add_copy-2-clause-went g c story first tells le =
    let id = c.args.id in
    let log = c.in_ok-listed.ensures.copied in
    let one = c.in_ok-add_copy.ensures.copied in
    let x = one.0 in
    let apart = apart_current (λ file. g.V.View.viewed file.view) (λ file. file.number) id c.args.files.now.log log.0 c.in_ok-listed.listed c.requires.log log.1 log.2 in
    then_prepared id first (λ s. AreNew first s (c.in_ok-listed.listed ++ own_file id Current x ∷ []) (log.0 ++ x ∷ [])) Whatever le
    (then_prepared id first (λ s. AreNew first s c.in_ok-listed.listed log.0) (λ s. AreNew first s (c.in_ok-listed.listed ++ own_file id Current x ∷ []) (log.0 ++ x ∷ [])) le (log.3 story first tells le) (λ mid told low now. one.4 mid first log.0 told low apart now))
    (λ mid told low now. c.add_copy-2.ensures.went mid first told low)

pub returns-clause-went : goal.returns-clause-went
returns-clause-went g c story first tells le =
    let id = c.args.id in
    let log = c.in_ok-listed.ensures.copied in
    let one = c.in_ok-add_copy.ensures.copied in
    let x = one.0 in
    let apart = apart_current (λ file. g.V.View.viewed file.view) (λ file. file.number) id c.args.files.now.log log.0 c.in_ok-listed.listed c.requires.log log.1 log.2 in
    then_prepared id first (λ s. AreNew first s (c.in_ok-listed.listed ++ own_file id Current x ∷ []) (log.0 ++ x ∷ [])) Whatever le
    (then_prepared id first (λ s. AreNew first s c.in_ok-listed.listed log.0) (λ s. AreNew first s (c.in_ok-listed.listed ++ own_file id Current x ∷ []) (log.0 ++ x ∷ [])) le (log.3 story first tells le) (λ mid told low now. one.4 mid first log.0 told low apart now))
    (λ mid told low now. c.add_copy-2.ensures.went mid first told low)

pub returns-clause-copied : goal.returns-clause-copied
returns-clause-copied g c =
    let id = c.args.id in
    let o = c.args.files.now.log in
    let number = c.args.files.now.manifest.number in
    let log = c.in_ok-listed.ensures.copied in
    let one = c.in_ok-add_copy.ensures.copied in
    let two = c.in_ok-add_copy-2.ensures.copied in
    let x = one.0 in
    let y = two.0 in
    let first_files = c.in_ok-listed.listed in
    let all = all_copied (λ file. g.V.View.viewed file.view) (λ file. file.number) id o (g.V.View.viewed c.args.files.now.current) (g.V.View.viewed c.args.files.now.manifest.view) number log.0 x y first_files c.add_copy.new.files c.add_copy-2.new.files
    log.1 log.2 (one.2, one.1) one.3 (two.2, two.1) two.3 in
    let apart = apart_current (λ file. g.V.View.viewed file.view) (λ file. file.number) id o log.0 first_files c.requires.log log.1 log.2 in
    let later = apart_manifest (λ file. g.V.View.viewed file.view) (λ file. file.number) id o number log.0 first_files c.add_copy.new.files x c.requires.log c.requires.manifest log.1 log.2 one.3 in (
      log.0 ++ x ∷ [] ++ y ∷ [],
      all.0,
      all.1,
      λ story first tells le.
          subst (λ (l : List MetaFile). Went story (g.B.Disk.seen c.add_copy-2.new.disk).told (Prepares id first) Anything (λ s. AreNew first s l (log.0 ++ x ∷ [] ++ y ∷ []))) (sym two.3)
          (then_prepared id first (λ s. AreNew first s c.add_copy.new.files (log.0 ++ x ∷ [])) (λ s. AreNew first s (c.add_copy.new.files ++ own_file id (Manifest number) y ∷ []) (log.0 ++ x ∷ [] ++ y ∷ [])) le
          (subst (λ (l : List MetaFile). Went story (g.B.Disk.seen c.add_copy.new.disk).told (Prepares id first) Anything (λ s. AreNew first s l (log.0 ++ x ∷ []))) (sym one.3)
          (then_prepared id first (λ s. AreNew first s first_files log.0) (λ s. AreNew first s (first_files ++ own_file id Current x ∷ []) (log.0 ++ x ∷ [])) le (log.3 story first tells le) (λ mid told low now. one.4 mid first log.0 told low apart now)))
          (λ mid told low now. two.4 mid first (log.0 ++ x ∷ []) told low later now)),
    )
