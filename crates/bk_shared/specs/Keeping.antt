-- What is kept of shared files.
use Rattle.std.specs.Prelude.{ℕ, ◌≡◌, ◌+◌, ◌-◌, ◌^◌, min, ◌==◌, if◌then◌else◌, List, Option, Some, None, Result, Ok, Err}
use Rattle.std.specs.BTreeMap.{BTreeMap, get}
use Rattle.std.specs.Cmp.Lexicographic.{slice_cmp}
use Rattle.std.specs.List.{count_by}
use Rattle.std.specs.Ordering.{nat_cmp, ordering_then}
use Rattle.std.specs.declared.cmp.Ordering.{Ordering}
use Rattle.lsm_names.specs.declared.shared_names.SharedName.{SharedName}
use Rattle.bk_meta.specs.declared.metas.Meta.{Meta}
use Rattle.bk_shared.specs.declared.counting.Shared.{Shared}
use Rattle.bk_shared.specs.declared.counting.SharedFile.{SharedFile}
use Rattle.bk_shared.specs.declared.errors.SharedError.{SharedError}
use Rattle.bk_shared.specs.declared.errors.SharedError.TheVariants.{SharedClash}
use Rattle.bk_shared.specs.declared.keys.Key.{Key}
use Rattle.bk_shared.specs.SharedLines.{SharedLine, all_lines, is_of, count_of, crc_in, crc_of, Agree}

-- a name as a key
abbrev pub key_of : SharedName → Key
key_of name = record { number = name.number; session = name.session; size = name.size }

-- by number, then by session, then by size
abbrev pub key_cmp : Key → Key → Ordering
key_cmp key other =
    ordering_then (nat_cmp key.number other.number)
    (ordering_then (slice_cmp nat_cmp key.session other.session) (nat_cmp key.size other.size))

-- what is kept of a file, where it has a checksum
abbrev pub with_count : ℕ → Option ℕ → Option SharedFile
with_count count None = None
with_count count (Some crc) = Some (record { crc = crc; count = count })

-- one more, up to the greatest count of 32 bits
abbrev pub one_more : ℕ → ℕ
one_more count = min (count + 1) (2 ^ 32 - 1)

-- what is kept of a file after one more line of it, or the clash
abbrev pub with_line : Option SharedFile → SharedName → ℕ → Result SharedFile SharedError
with_line None name crc = Ok (record { crc = crc; count = 1 })
with_line (Some file) name crc =
    if file.crc == crc then Ok (record { crc = crc; count = one_more file.count }) else Err (SharedClash name file.crc crc)

-- Of each file that these lines name, the checksum and the number of lines are kept, and the lines
-- agree. The number stops at the greatest of 32 bits, which no number of metas passes.
pub record KeepsLines (lines : List SharedLine) (files : BTreeMap Key SharedFile) : Type 0 where
  pub kept : (name : SharedName)
      → get key_cmp files (key_of name) ≡ with_count (min (count_by (is_of name) lines) (2 ^ 32 - 1)) (crc_in name lines)
  pub agree : Agree lines

-- The checksums of the metas agree, and of each file that they name the checksum and the number of
-- metas are kept.
pub record CountsShared (metas : List Meta) (shared : Shared) : Type 0 where
  pub agree : Agree (all_lines metas)
  pub kept : (name : SharedName)
      → get key_cmp shared.files (key_of name) ≡ with_count (count_of metas name) (crc_of metas name)
