use Rattle.std.proofs.Common.{◌≡◌, true, take}
use Rattle.std.specs.List.{count_by}
use Rattle.bk_meta.specs.BackupFiles.{file_at}
use Rattle.bk_meta.specs.Metas.{is_current, is_manifest, shared_numbers, are_different}
use Rattle.bk_meta.proofs.SetLemmas.{last_number}
use Rattle.bk_meta.proofs.sets.is_whole.Given as goal

abbrev pub invariant-loop-entry : goal.invariant-loop-entry
invariant-loop-entry l = record {
  currents : l.currents ≡ count_by (λ file. is_current (file_at l.id file.path)) (take l.entry-index l.files);
  manifests : l.manifests ≡ count_by (λ file. is_manifest (file_at l.id file.path)) (take l.entry-index l.files);
  different : are_different (shared_numbers l.id (take l.entry-index l.files)) ≡ true;
  last : l.last ≡ last_number l.id (take l.entry-index l.files);
}
