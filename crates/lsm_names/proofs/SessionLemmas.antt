-- A session's name is twenty bytes that may stand in a path.
use Rattle.std.proofs.Common.{◌≡◌, ℕ, List, length, true, arith}
use Rattle.std.specs.Prelude.{◌==◌, not}
use Rattle.std.specs.List.{list_all}
use Rattle.std.specs.Str.{IsAscii}
use Rattle.std.proofs.lemmas.Bool.Decides.{nat_tests}
use Rattle.lsm_names.specs.Paths.{is_component_byte}
use Rattle.lsm_names.specs.Sessions.{is_session_byte, is_session}
use Rattle.lsm_names.proofs.PathLemmas.{list_all-weaker, part_is_ascii}

pub length_of_session : (name : List ℕ) → is_session name ≡ true → length name ≡ 20
unfolding is_session
length_of_session name h = grind (arith, nat_tests)

pub bytes_of_session : (name : List ℕ) → is_session name ≡ true → list_all is_session_byte name ≡ true
unfolding is_session
bytes_of_session name h = grind (arith, nat_tests)

component_byte : (byte : ℕ) → is_session_byte byte ≡ true → is_component_byte byte ≡ true
unfolding is_session_byte is_component_byte
component_byte byte h = grind (arith, nat_tests)

no_underscore : (byte : ℕ) → is_session_byte byte ≡ true → not (byte == 95) ≡ true
unfolding is_session_byte
no_underscore byte h = grind (arith, nat_tests)

pub session_has_component_bytes : (name : List ℕ) → is_session name ≡ true → list_all is_component_byte name ≡ true
session_has_component_bytes name h = list_all-weaker is_session_byte is_component_byte component_byte name (bytes_of_session name h)

pub session_has_no_underscore : (name : List ℕ) → is_session name ≡ true → list_all (λ byte. not (byte == 95)) name ≡ true
session_has_no_underscore name h = list_all-weaker is_session_byte (λ byte. not (byte == 95)) no_underscore name (bytes_of_session name h)

pub session_is_ascii : (name : List ℕ) → is_session name ≡ true → IsAscii name
session_is_ascii name h = part_is_ascii name (session_has_component_bytes name h)
