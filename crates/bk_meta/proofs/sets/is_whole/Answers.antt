use Rattle.std.proofs.Common.{◌≡◌, ◌+◌, ◌&&◌, Bool, true, false, ap, sym, ◌∙◌, refl, arith, ℕ, List}
use Rattle.std.specs.Prelude.{◌==◌, is_some}
use Rattle.std.specs.Int.{from_bool}
use Rattle.std.specs.List.{count_by}
use Rattle.std.proofs.lemmas.Bool.Decides.{nat_tests}
use Rattle.std.proofs.lemmas.List.{take_all}
use Rattle.bk_meta.specs.declared.metas.MetaFile.{MetaFile}
use Rattle.bk_meta.specs.BackupFiles.{file_at}
use Rattle.bk_meta.specs.Metas.{is_current, is_manifest, shared_number, shared_numbers, are_different}
use Rattle.bk_meta.proofs.SetLemmas.{one_counted, different_more, stands_twice, whole_twice, whole_by_counts, some_number, last_number_next}
use Rattle.bk_meta.proofs.sets.is_whole.Goals as goal

pub returns-then-is_same : goal.returns-then-is_same
returns-then-is_same c =
    let same = c.is_same.ensures.0 c.if-is_same.true in
    let file = c.parse-file.ensures ∙ ap (file_at c.args.id) c.as_bytes.ensures.bytes in
    let this = c.shared_number-number.ensures ∙ ap shared_number file in
    let number = some_number c.shared_number-number.result same.1 in
    whole_twice c.args.id c.args.files.now
    (stands_twice c.args.id number.0 c.args.files.now c.loop-entry.entry-index c.entry-item.result c.loop-entry-test.true (sym c.entry-item.is)
    (sym c.loop-entry.invariant.last ∙ same.0 ∙ number.1) (sym this ∙ number.1))

pub loop-entry-preserved : goal.loop-entry-preserved
loop-entry-preserved c =
    let file = c.parse-file.ensures ∙ ap (file_at c.args.id) c.as_bytes.ensures.bytes in
    let this = c.shared_number-number.ensures ∙ ap shared_number file in
    let other : (c.is_same.result ≡ true) → ⊥ = λ h. absurd (cc) in
    record {
      currents =
          ap (λ (n : ℕ). c.loop-entry.currents + n) (c.from-currents.ensures ∙ ap from_bool (c.is_current.ensures ∙ ap is_current file))
          ∙ ap (λ (n : ℕ). n + from_bool (is_current (file_at c.args.id c.entry-item.result.path))) c.loop-entry.invariant.currents
          ∙ sym (one_counted (λ (f : MetaFile). is_current (file_at c.args.id f.path)) c.args.files.now c.loop-entry.entry-index c.entry-item.result (is_current (file_at c.args.id c.entry-item.result.path)) c.loop-entry-test.true (sym c.entry-item.is) refl);
      manifests =
          ap (λ (n : ℕ). c.loop-entry.manifests + n) (c.from-manifests.ensures ∙ ap from_bool (c.is_manifest.ensures ∙ ap is_manifest file))
          ∙ ap (λ (n : ℕ). n + from_bool (is_manifest (file_at c.args.id c.entry-item.result.path))) c.loop-entry.invariant.manifests
          ∙ sym (one_counted (λ (f : MetaFile). is_manifest (file_at c.args.id f.path)) c.args.files.now c.loop-entry.entry-index c.entry-item.result (is_manifest (file_at c.args.id c.entry-item.result.path)) c.loop-entry-test.true (sym c.entry-item.is) refl);
      different =
          different_more c.args.id c.args.files.now c.loop-entry.entry-index c.entry-item.result c.loop-entry-test.true (sym c.entry-item.is) c.requires.ascending c.requires.named c.loop-entry.invariant.different
          (λ number last is. other (c.is_same.ensures.1 (c.loop-entry.invariant.last ∙ last ∙ sym this, ap is_some (this ∙ is))));
      last = this ∙ sym (last_number_next c.args.id c.args.files.now c.loop-entry.entry-index c.entry-item.result c.loop-entry-test.true (sym c.entry-item.is));
    }

pub returns-then-currents-eq1 : goal.returns-then-currents-eq1
returns-then-currents-eq1 c =
    let all = take_all c.loop-entry.entry-index c.args.files.now c.loop-entry-test.false in
    let whole = whole_by_counts c.args.id c.loop-entry.currents c.loop-entry.manifests c.args.files.now
    (c.loop-entry.invariant.currents ∙ ap (λ (fs : List MetaFile). count_by (λ file. is_current (file_at c.args.id file.path)) fs) all)
    (c.loop-entry.invariant.manifests ∙ ap (λ (fs : List MetaFile). count_by (λ file. is_manifest (file_at c.args.id file.path)) fs) all)
    (ap (λ (fs : List MetaFile). are_different (shared_numbers c.args.id fs)) (sym all) ∙ c.loop-entry.invariant.different) in
    let one : c.loop-entry.currents == 1 ≡ true = grind (arith, nat_tests, c.if-currents-eq1.true) in
    sym (ap (λ (is : Bool). is && (c.loop-entry.manifests == 1)) one) ∙ whole

pub returns-else-currents-eq1 : goal.returns-else-currents-eq1
returns-else-currents-eq1 c =
    let all = take_all c.loop-entry.entry-index c.args.files.now c.loop-entry-test.false in
    let whole = whole_by_counts c.args.id c.loop-entry.currents c.loop-entry.manifests c.args.files.now
    (c.loop-entry.invariant.currents ∙ ap (λ (fs : List MetaFile). count_by (λ file. is_current (file_at c.args.id file.path)) fs) all)
    (c.loop-entry.invariant.manifests ∙ ap (λ (fs : List MetaFile). count_by (λ file. is_manifest (file_at c.args.id file.path)) fs) all)
    (ap (λ (fs : List MetaFile). are_different (shared_numbers c.args.id fs)) (sym all) ∙ c.loop-entry.invariant.different) in
    let none : c.loop-entry.currents == 1 ≡ false = grind (arith, nat_tests, c.if-currents-eq1.false) in
    none ∙ sym (ap (λ (is : Bool). is && (c.loop-entry.manifests == 1)) none) ∙ whole
