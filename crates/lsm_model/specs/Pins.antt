-- Cuts and their pins, and how often deletion is disabled.
use Rattle.std.specs.Prelude.{◌≡◌, ℕ, ◌+◌, Bool, true, false, List, [], ◌∷◌, ◌++◌, map, length, All, Result}
use Rattle.lsm_names.specs.declared.file_names.FileName.{FileName}
use Rattle.lsm_names.specs.declared.file_names.FileName.TheVariants.{Log}
use Rattle.lsm_model.specs.declared.cuts.Cut.{Cut}
use Rattle.lsm_model.specs.declared.cuts.CutFile.{CutFile}
use Rattle.lsm_model.specs.declared.cuts.LiveFiles.{LiveFiles}
use Rattle.lsm_model.specs.declared.cuts.FlushRule.{FlushRule}
use Rattle.lsm_model.specs.declared.cuts.FlushRule.TheVariants.{Never, Always}
use Rattle.lsm_model.specs.declared.errors.StoreError.{StoreError}
use Rattle.lsm_model.specs.declared.states.State.{State}
use Rattle.lsm_model.specs.declared.states.Pin.{Pin}
use Rattle.lsm_model.specs.declared.states.PinnedFile.{PinnedFile}
use Rattle.lsm_model.specs.declared.states.Holder.{Holder}
use Rattle.lsm_model.specs.declared.states.Holder.TheVariants.{Caller}
use Rattle.lsm_model.specs.States.{last_of, without_pin}
use Rattle.lsm_model.specs.Moves.{Becomes, Flushes}
use Rattle.lsm_model.specs.Causes.{first_of, halted, pins_full, no_own_pin, disables_full, not_disabled}
use Rattle.lsm_model.specs.Answers.{Answers, does_flush, AnswersFlushing}

-- ---- what a cut takes

-- all accepted rows are in tables, and none in logs
pub record IsFlushed (s t : State) : Type 0 where
  pub rest : Flushes s t
  pub active : t.active ≡ 0
  pub frozen : t.frozen ≡ 0
  pub active_len : t.active_len ≡ 0
  pub frozen_len : t.frozen_len ≡ 0

-- the state at which a cut takes its files, where rows are flushed or aren't
abbrev pub CutsAt : Bool → State → State → Type 0
CutsAt true s t = IsFlushed s t
CutsAt false s t = Becomes s t

-- the file is no log
abbrev pub IsNoLog : FileName → Type 0
IsNoLog (Log number) = ⊥
IsNoLog name = Unit {0}

-- where rows are flushed no log is listed
abbrev pub FreeOfLogs : Bool → List FileName → Type 0
FreeOfLogs true names = All IsNoLog names
FreeOfLogs false names = Unit {0}

abbrev pub listed : CutFile → FileName × ℕ
listed file = (file.name, file.len)

abbrev pub held : PinnedFile → FileName × ℕ
held file = (file.name, length file.bytes)

-- a new pin of all accepted batches, with these files and the manifest that `CURRENT` names for them
abbrev pub new_pin : Holder → ℕ → List PinnedFile → State → Pin
new_pin holder manifest files s = record {
  number = s.greatest_pin + 1;
  batches = length s.accepted;
  manifest = manifest;
  files = files;
  holder = holder;
}

-- the state with that pin
abbrev pub pinned : Holder → ℕ → List PinnedFile → State → State
pinned holder manifest files s = record s { pins = s.pins ++ new_pin holder manifest files s ∷ []; greatest_pin = s.greatest_pin + 1 }

-- What a cut answers, and the pin that it gives: it lists the pin's files in their order, with their lengths, and tells the
-- pin's manifest. Not said here: that the pinned files stand for the contents, and the tables' sessions.
pub record IsCut (s : State) (rule : FlushRule) (cut : Cut) (t : State) : Type 0 where
  pub at : State
  pub files : List PinnedFile
  pub flushed : CutsAt (does_flush rule s) s at
  pub pin : cut.pin ≡ s.greatest_pin + 1
  pub sequence : cut.sequence ≡ last_of s
  pub lists : map listed cut.files ≡ map held files
  pub logs : FreeOfLogs (does_flush rule s) (map (λ (file : CutFile). file.name) cut.files)
  pub rest : Becomes (pinned Caller cut.manifest files at) t

-- a cut flushes by its rule, and pins the files of all accepted batches
abbrev pub Cuts : State → FlushRule → Result Cut StoreError → State → Type 0
Cuts s rule result t =
    AnswersFlushing (first_of (halted s ∷ pins_full s ∷ [])) rule s (λ (cut : Cut). IsCut s rule cut t) result t

-- ---- live files

abbrev pub flush_rule : Bool → FlushRule
flush_rule true = Always
flush_rule false = Never

-- what a cut would list. Not said here: which files.
pub record AreLiveFiles (s : State) (rule : FlushRule) (live : LiveFiles) (t : State) : Type 0 where
  pub flushed : CutsAt (does_flush rule s) s t
  pub sequence : live.sequence ≡ last_of s
  pub manifest_len : live.manifest_len ≡ t.manifest_len
  pub logs : FreeOfLogs (does_flush rule s) (map (λ (file : CutFile). file.name) live.files)

abbrev pub ListsFiles : State → Bool → Result LiveFiles StoreError → State → Type 0
ListsFiles s flush result t =
    AnswersFlushing (halted s) (flush_rule flush) s (λ (live : LiveFiles). AreLiveFiles s (flush_rule flush) live t) result t

-- ---- pins and disables; these ask no disk, take no memory, and go on where the store is halted

abbrev pub unpinned : ℕ → State → State
unpinned pin s = record s { pins = without_pin pin s.pins }

abbrev pub Unpins : State → ℕ → Result (Unit {0}) StoreError → State → Type 0
Unpins s pin result t = Answers (no_own_pin pin s) (λ (done : Unit {0}). t ≡ unpinned pin s) ⊥ ⊥ (t ≡ s) result

-- once more, and the new count is answered
abbrev pub Disables : State → Result ℕ StoreError → State → Type 0
Disables s result t =
    Answers (disables_full s) (λ (count : ℕ). (count ≡ s.disables + 1) × (t ≡ record s { disables = count })) ⊥ ⊥ (t ≡ s) result

-- once less, and the new count is answered
abbrev pub Enables : State → Result ℕ StoreError → State → Type 0
Enables s result t =
    Answers (not_disabled s) (λ (count : ℕ). (s.disables ≡ count + 1) × (t ≡ record s { disables = count })) ⊥ ⊥ (t ≡ s) result
