use Rattle.std.proofs.Common.{◌≡◌, Ok}
use Rattle.bk_meta.specs.Metas.{files_at, last_path}
use Rattle.bk_meta.proofs.reading.read_files.Given as goal

abbrev pub invariant-loop-index : goal.invariant-loop-index
invariant-loop-index l = record {
  read : files_at l.id l.first l.index l.text ≡ Ok (l.files, l.rest);
  last : l.last ≡ last_path l.files;
}
