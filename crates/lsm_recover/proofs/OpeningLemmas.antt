-- What a folder opens to, from its head, its tables and its logs.
use Rattle.std.specs.Prelude.{◌≡◌, ℕ, ◌+◌, List, [], ◌++◌, Result, Ok, Err}
use Rattle.std.proofs.Common.{refl, sym, ap, subst, ◌∙◌, append-nil}
use Rattle.std.specs.FinMap as finmap
use Rattle.lsm_rows.specs.declared.operations.Op.{Op}
use Rattle.lsm_rows.specs.declared.rows.Row.{Row}
use Rattle.lsm_rows.specs.Replay.{sequence_after}
use Rattle.lsm_rows.specs.Rows.{rows_of}
use Rattle.lsm_disk.specs.State.{Story, state_of}
use Rattle.lsm_table.specs.declared.parts.Properties.{Properties}
use Rattle.lsm_table.specs.Tables.{Opened}
use Rattle.lsm_version.specs.declared.edits.Edit.{Edit}
use Rattle.lsm_disk.specs.declared.listing.Entry.{Entry}
use Rattle.lsm_version.specs.declared.tables.Placed.{Placed}
use Rattle.lsm_version.specs.Levels.{Tables}
use Rattle.lsm_recover.specs.Listed.{next_number}
use Rattle.lsm_folder.specs.declared.refusals.Refusal.{Refusal}
use Rattle.lsm_folder.specs.declared.refusals.Refusal.TheVariants.{NoFolder}
use Rattle.lsm_folder.specs.Files.{Files, Place, Nothing, Not_a_folder, Stands_with}
use Rattle.lsm_folder.specs.Logs.{logs_of, all_batches}
use Rattle.lsm_folder.specs.Manifests.{log_after, last_after}
use Rattle.lsm_folder.specs.Reading.{AllRows}
use Rattle.lsm_folder.specs.Steps.{◌>>=◌}
use Rattle.lsm_recover.specs.declared.errors.FolderError.{FolderError}
use Rattle.lsm_recover.specs.declared.head.Head.{Head}
use Rattle.lsm_recover.specs.declared.manifest.Stated.{Stated}
use Rattle.lsm_recover.specs.Answers.{IsRefusedBy, files_now, place_now}
use Rattle.lsm_recover.specs.Head.{edits_there, IsHead}
use Rattle.lsm_recover.specs.Logs.{Replays}
use Rattle.lsm_recover.specs.Opening.{AreOpenOn, IsOpenBehind, all_opened, opening_behind, opening}
use Rattle.lsm_recover.proofs.AnswerLemmas.{refused_too}
use Rattle.lsm_recover.proofs.DiskLemmas.{place_is}
use Rattle.lsm_recover.proofs.FolderLemmas.{same_refusal, version_is, log_is, last_is}

-- ---- a folder whose edits are refused

edits_refuse : (place : Place) (r : Refusal) → edits_there place ≡ Err r → opening place ≡ Err r
edits_refuse Nothing r is = ap (λ (x : Refusal). Err x) (same_refusal NoFolder r (edits_there Nothing) refl is)
edits_refuse Not_a_folder r is = ap (λ (x : Refusal). Err x) (same_refusal NoFolder r (edits_there Not_a_folder) refl is)
edits_refuse (Stands_with files) r is = ap (λ (x : Result (List Edit) Refusal). x >>= opening_behind files) is

pub head_refuses_opening : (place : Place) (error : FolderError) → IsRefusedBy (edits_there place) error → IsRefusedBy (opening place) error
head_refuses_opening place = refused_too (edits_there place) (opening place) (edits_refuse place)

-- ---- the folder

module _ (dir : List ℕ) (story : Story) (head : Head) (is : IsHead dir story head) where
  abbrev files : Files
  files = files_now dir story

  abbrev edits : List Edit
  edits = is.gives.edits

  abbrev stated : Stated
  stated = head.stated

  abbrev by_batches : ℕ → Result (List (List Op)) Refusal → Result AllRows Refusal
  by_batches last r = r >>= λ (batches : List (List Op)). Ok (record { sequence = sequence_after last batches; rows = rows_of (last + 1) batches })

  abbrev batches_read : Result (List (List Op)) Refusal
  batches_read = all_batches (stated.last + 1) (finmap.entries (logs_of stated.log files))

  abbrev by_tables : Result (List Properties) Refusal → Result AllRows Refusal
  by_tables r = r >>= λ (tables : List Properties). by_batches stated.last batches_read

  opening_is : opening (place_now dir story) ≡ by_tables (all_opened files (finmap.entries stated.version))
  unfolding opening_behind
  opening_is =
      let place = place_is dir (state_of story) is.listed.folder in
      ap opening place
      ∙ ap (λ (x : Result (List Edit) Refusal). x >>= opening_behind files) (sym (ap edits_there place) ∙ is.gives.is)
      ∙ ap (λ (t : Tables). all_opened files (finmap.entries t) >>= λ (tables : List Properties). by_batches (last_after edits) (all_batches (last_after edits + 1) (finmap.entries (logs_of (log_after edits) files)))) (version_is edits stated is.gives.are)
      ∙ ap (λ (n : ℕ). all_opened files (finmap.entries stated.version) >>= λ (tables : List Properties). by_batches n (all_batches (n + 1) (finmap.entries (logs_of (log_after edits) files)))) (last_is edits stated is.gives.are)
      ∙ ap (λ (n : ℕ). all_opened files (finmap.entries stated.version) >>= λ (tables : List Properties). by_batches stated.last (all_batches (stated.last + 1) (finmap.entries (logs_of n files)))) (log_is edits stated is.gives.are)

  pub tables_refuse_opening : (error : FolderError) → IsRefusedBy (all_opened files (finmap.entries stated.version)) error → IsRefusedBy (opening (place_now dir story)) error
  tables_refuse_opening = refused_too (all_opened files (finmap.entries stated.version)) (opening (place_now dir story)) (λ refused says. opening_is ∙ ap by_tables says)

  module _ (before after : List Opened) (opens : IsOpenBehind files (finmap.entries stated.version) before after) where
    by_logs : opening (place_now dir story) ≡ by_batches stated.last batches_read
    by_logs = opening_is ∙ ap by_tables opens.said

    pub logs_refuse_opening : (error : FolderError) → IsRefusedBy batches_read error → IsRefusedBy (opening (place_now dir story)) error
    logs_refuse_opening = refused_too batches_read (opening (place_now dir story)) (λ refused says. by_logs ∙ ap (by_batches stated.last) says)

    pub logs_open : (rows : List Row) (sequence : ℕ) → Replays stated.last batches_read (λ (_ : ℕ). Ok []) [] rows sequence → opening (place_now dir story) ≡ Ok (record { sequence = sequence; rows = rows })
    logs_open rows sequence r =
        by_logs
        ∙ ap (by_batches stated.last) (r.is ∙ ap Ok (append-nil r.more))
        ∙ (λ i. Ok (record { sequence = sym r.last_is i; rows = sym r.rows_are i }))

-- ---- what was opened

-- where none were open before, those that are open are a version's
pub only_these_open : (files : Files) (es : List (ℕ × Placed)) (before after : List Opened) → before ≡ [] → IsOpenBehind files es before after → AreOpenOn files es after
only_these_open files es before after none opens = subst (AreOpenOn files es) (sym (opens.after_is ∙ ap (λ (l : List Opened). l ++ opens.tables) none)) opens.are

pub next_told : (next : ℕ) (slice entries : List Entry) (found : ℕ) → found ≡ next_number next slice → slice ≡ entries → found ≡ next_number next entries
next_told next slice entries found is same = is ∙ ap (next_number next) same
