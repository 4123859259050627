-- The words as the caller has them, and the answer to them.
use Rattle.std.specs.Prelude.{ℕ, List, map}
use Rattle.std.specs.String.{string_bytes}
use Rattle.std.specs.declared.string.String.{String}
use Rattle.ldb_words.specs.Words.{Asked}
use Rattle.ldb_words.specs.declared.reading.Asked.{Asked as Answer}

-- the bytes of words
abbrev pub texts : {A : Type 0} → List (String A) → List (List ℕ)
texts words = map string_bytes words

-- what an answer says
abbrev pub asked_in : Answer → Asked
asked_in answer = record {
  disk = answer.disk.now;
  backups = answer.backups.now;
  db = answer.db;
  command = texts answer.command.now;
}
