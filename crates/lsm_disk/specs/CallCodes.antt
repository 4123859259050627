-- Codes of a disk's calls, by which the call that halted something may be a part of a model's value.
use Rattle.std.specs.Prelude.{◌≡◌, ℕ, zero, suc, List, [], ◌∷◌, refl}
use Rattle.std.specs.Coded.{Coded, code_by, coded×, coded_ℕ}
use Rattle.lsm_disk.specs.Codes.{coded_bytes}
use Rattle.lsm_disk.specs.declared.calls.DiskCall.{DiskCall}
use Rattle.lsm_disk.specs.declared.calls.DiskCall.TheVariants as call
use Rattle.lsm_disk.specs.declared.calls.Halt.{Halt}

abbrev pub call_to : DiskCall → ℕ
call_to call.Kind = 0
call_to call.List = 1
call_to call.Size = 2
call_to call.Open = 3
call_to call.Create = 4
call_to call.Append = 5
call_to call.Sync = 6
call_to call.Link = 7
call_to call.Rename = 8
call_to call.Unlink = 9
call_to call.MakeFolder = 10
call_to call.RemoveFolder = 11
call_to call.SyncNames = 12

abbrev pub call_at : List DiskCall → ℕ → DiskCall
call_at [] n = call.SyncNames
call_at (c ∷ calls) zero = c
call_at (c ∷ calls) (suc n) = call_at calls n

abbrev pub call_from : ℕ → DiskCall
call_from n =
    call_at (call.Kind ∷ call.List ∷ call.Size ∷ call.Open ∷ call.Create ∷ call.Append ∷ call.Sync ∷ call.Link
    ∷ call.Rename ∷ call.Unlink ∷ call.MakeFolder ∷ call.RemoveFolder ∷ []) n

pub call_again : (c : DiskCall) → call_from (call_to c) ≡ c
call_again call.Kind = refl
call_again call.List = refl
call_again call.Size = refl
call_again call.Open = refl
call_again call.Create = refl
call_again call.Append = refl
call_again call.Sync = refl
call_again call.Link = refl
call_again call.Rename = refl
call_again call.Unlink = refl
call_again call.MakeFolder = refl
call_again call.RemoveFolder = refl
call_again call.SyncNames = refl

abbrev pub coded_call : Coded DiskCall
coded_call = code_by ℕ coded_ℕ call_to call_from call_again

abbrev pub coded_halt : Coded Halt
coded_halt =
    code_by (DiskCall × List ℕ) (coded× coded_call coded_bytes) (λ h. (h.call, h.path))
    (λ p. record { call = p.0; path = p.1 }) (λ _. refl)
