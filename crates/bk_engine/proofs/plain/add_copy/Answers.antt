use Rattle.std.proofs.Common.{ℕ, ◌≡◌, ◌<◌, ◌^◌, List, ◌++◌, ◌∷◌, [], length, refl, sym, subst, ap, ◌∙◌}
use Rattle.lsm_bytes.specs.Checksum.{crc32c}
use Rattle.lsm_disk.specs.State.{state_of}
use Rattle.lsm_disk.specs.Goes.{Went}
use Rattle.lsm_publish.specs.Publishing.{Writes}
use Rattle.bk_meta.specs.declared.metas.MetaFile.{MetaFile}
use Rattle.bk_engine.specs.Copying.{Whatever, Anything, IsSealed}
use Rattle.bk_engine.specs.Creating.{own_file}
use Rattle.bk_engine.specs.Preparing.{AreNew}
use Rattle.bk_engine.proofs.Frames.{prepared, one_more}
use Rattle.bk_engine.proofs.plain.add_copy.Goals as goal

pub returns-in_err-crc-clause-went : goal.returns-in_err-crc-clause-went
returns-in_err-crc-clause-went g c story first tells le =
    prepared c.args.id first (length (state_of story).files) c.own_path-path.result Whatever (c.args.name.now, c.own_path-path.ensures) le (c.copy_file.ensures.went story tells)

pub returns-in_err-push-clause-went : goal.returns-in_err-push-clause-went
returns-in_err-push-clause-went g c story first tells le =
    prepared c.args.id first (length (state_of story).files) c.own_path-path.result Whatever (c.args.name.now, c.own_path-path.ensures) le (c.copy_file.ensures.went story tells)

pub returns-clause-went : goal.returns-clause-went
returns-clause-went g c story first tells le =
    prepared c.args.id first (length (state_of story).files) c.own_path-path.result Whatever (c.args.name.now, c.own_path-path.ensures) le (c.copy_file.ensures.went story tells)

-- the file that was added is the one of the name and the text
added : (id : ℕ) (path : List ℕ) (crc : ℕ) (own : MetaFile) (old new : List MetaFile) → path ≡ own.path → crc ≡ own.crc → new ≡ old ++ (record { path = path; crc = crc }) ∷ [] → new ≡ old ++ own ∷ []
added id path crc own old new p q is = is ∙ λ i. old ++ (record { path = p i; crc = q i }) ∷ []

pub returns-clause-copied : goal.returns-clause-copied
returns-clause-copied g c =
    let done = c.in_ok-crc.ensures.copied in
    let text = done.0 in
    let own = own_file c.args.id c.args.name.now text in
    let path = c.own_path-path.result in (
      text,
      subst (λ (n : ℕ). n < 2 ^ 32) done.1.sum c.in_ok-crc.ensures.fits,
      (λ bytes told whole. done.1.same bytes told whole),
      added c.args.id path c.in_ok-crc.crc own c.args.files.now c.push.new.self c.own_path-path.ensures done.1.sum c.in_ok-push.ensures,
      λ story first texts tells le apart new.
          let n = length (state_of story).files in
          prepared c.args.id first n own.path (λ s. AreNew first s (c.args.files.now ++ own ∷ []) (texts ++ text ∷ [])) (c.args.name.now, refl) le
          (one_more first c.args.files.now texts own text le apart new
          (subst (λ (p : List ℕ). Went story (g.B.Disk.seen c.copy_file.new.disk).told (Writes p n) Anything (IsSealed p n text)) c.own_path-path.ensures (done.2 story tells))),
    )
