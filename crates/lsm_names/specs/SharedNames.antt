-- The names of the tables that backups share.
use Rattle.std.specs.Prelude.{ℕ, ◌^◌, ◌<◌, List, ◌++◌, codes, IsTrue}
use Rattle.std.specs.Fmt.{decimal}
use Rattle.lsm_names.specs.declared.shared_names.SharedName.{SharedName}
use Rattle.lsm_names.specs.Numbers.{six_digits, is_file_number}
use Rattle.lsm_names.specs.Sessions.{is_session}

-- the one spelling: <number>_s<session>_<size>.sst
unfoldable pub spelled_shared : SharedName → List ℕ
spelled_shared name = six_digits name.number ++ codes "_s" ++ name.session
    ++ codes "_" ++ decimal name.size ++ codes ".sst"

-- its number is a file's, its session a session's, and its size fits 64 bits
pub record IsSharedName (name : SharedName) : Type 0 where
  pub number : IsTrue (is_file_number name.number)
  pub session : IsTrue (is_session name.session)
  pub size : name.size < 2 ^ 64
