-- Where a log ends in its block.
use Rattle.std.proofs.Common.{◌≡◌, ℕ, ◌+◌, ◌%◌, List, length, arith, length-append}
use Rattle.lsm_frame.specs.Frames.{with_record, record_text}

-- adding first and cutting off whole blocks then is the same as cutting them off before too
pub added_place : (size more : ℕ) → (size % 32768 + more) % 32768 ≡ (size + more) % 32768
added_place size more = omega arith

-- a writer that stands at the end of a log stands at its end again when it has added a record
pub place_of_record : (text payload : List ℕ) → (length text % 32768 + length (record_text (length text % 32768) payload)) % 32768 ≡ length (with_record text payload) % 32768
place_of_record text payload = simp length-append (added_place (length text) (length (record_text (length text % 32768) payload)))
