-- The logs of a folder, one after another.
use Rattle.std.specs.Prelude.{◌≡◌, ℕ, ◌+◌, ◌^◌, ◌<◌, ◌≤◌, Bool, true, false, not, is_none, is_some, List, [], ◌∷◌, length, Option, Some, None, Result, Ok, Err}
use Rattle.std.proofs.Common.{refl, sym, ap, subst, ◌∙◌, arith}
use Rattle.std.proofs.lemmas.Bool.Decides.{nat_tests}
use Rattle.std.specs.FinMap as finmap
use Rattle.lsm_names.specs.Paths.{is_path}
use Rattle.lsm_names.proofs.PathLemmas.{path_has_bytes}
use Rattle.lsm_names.specs.declared.file_names.FileName.TheVariants.{Log}
use Rattle.lsm_rows.specs.declared.operations.Op.{Op}
use Rattle.lsm_rows.specs.declared.rows.Row.{Row}
use Rattle.lsm_disk.specs.State.{Story}
use Rattle.lsm_disk.specs.declared.listing.Entry.{Entry}
use Rattle.lsm_folder.specs.declared.refusals.Refusal.{Refusal}
use Rattle.lsm_folder.specs.Files.{file_at}
use Rattle.lsm_folder.specs.Logs.{LogText, log_of, logs_of, batches_of, all_batches, is_empty}
use Rattle.lsm_recover.specs.declared.errors.FolderError.{FolderError}
use Rattle.lsm_recover.specs.Answers.{IsRefusedBy, files_now}
use Rattle.lsm_recover.specs.Logs.{Replays, AnswersLog}
use Rattle.lsm_recover.specs.Listed.{IsListing, next_log}
use Rattle.lsm_recover.proofs.ReplayLemmas.{replay_begun, replay_done, replay_more, replay_refused}
use Rattle.lsm_recover.proofs.FolderLogLemmas.{Begins, none_told, first_told}

abbrev pub logs_from : List ℕ → Story → ℕ → List (ℕ × LogText)
logs_from dir story least = finmap.entries (logs_of least (files_now dir story))

abbrev pub whole : List ℕ → Story → ℕ → ℕ → Result (List (List Op)) Refusal
whole dir story log first = all_batches (first + 1) (logs_from dir story log)

-- the logs below a number were replayed
abbrev pub HasReplayed : List ℕ → Story → List Entry → ℕ → ℕ → ℕ → List Row → List Row → ℕ → Type 0
HasReplayed dir story entries log first least before now last = IsListing dir story entries → Replays first (whole dir story log first) (λ (next : ℕ). all_batches next (logs_from dir story least)) before now last

pub begun : (dir : List ℕ) (story : Story) (entries : List Entry) (log start : ℕ) (rows : List Row) → start < 2 ^ 56 → HasReplayed dir story entries log start log rows rows start
begun dir story entries log start rows small = λ is. replay_begun start (logs_from dir story log) rows small

none_by : (xs : List (ℕ × LogText)) → xs ≡ [] → is_empty xs ≡ true
none_by xs is = ap is_empty is

some_by : (x : ℕ × LogText) (rest xs : List (ℕ × LogText)) → xs ≡ x ∷ rest → is_empty xs ≡ false
some_by x rest xs is = ap is_empty is ∙ not_empty x rest where
  not_empty : (x : ℕ × LogText) (rest : List (ℕ × LogText)) → is_empty (x ∷ rest) ≡ false
  not_empty x rest = grind (arith, nat_tests)

module _ (first : ℕ) (more : List ℕ) (short : length (first ∷ more) + 30 ≤ 160) (spells : is_path (first ∷ more) ≡ true) (story : Story) (entries : List Entry) (log start : ℕ) (least : ℕ) (before now : List Row) (last : ℕ)
    (so_far : HasReplayed (first ∷ more) story entries log start least before now last) where
  abbrev dir : List ℕ
  dir = first ∷ more

  pub ended : next_log least entries ≡ None → IsListing dir story entries → Replays start (whole dir story log start) (λ (_ : ℕ). Ok []) before now last
  ended none is = replay_done start (whole dir story log start) (logs_from dir story least) before now last (none_told first more short spells story entries is least none) (so_far is)

  alone_by : (from : ℕ) (is : IsListing dir story entries) (o : Option ℕ) → next_log from entries ≡ o → is_none o ≡ is_empty (logs_from dir story from)
  alone_by from is None next = sym (none_by (logs_from dir story from) (none_told first more short spells story entries is from next))
  alone_by from is (Some n) next = let b = first_told first more short spells story entries is from n next in sym (some_by (n, log_of b.bytes) (logs_from dir story (n + 1)) (logs_from dir story from) b.logs)

  module _ (n : ℕ) (next : next_log least entries ≡ Some n) (is_last : Bool) (alone : is_last ≡ is_none (next_log (n + 1) entries)) (is : IsListing dir story entries) where
    abbrev read : List ℕ → Result (List (List Op)) Refusal
    read text = batches_of is_last (last + 1) n (log_of text)

    here : Begins (files_now dir story) least n
    here = first_told first more short spells story entries is least n next

    is_alone : is_last ≡ is_empty (logs_from dir story (n + 1))
    is_alone = alone ∙ alone_by (n + 1) is (next_log (n + 1) entries) refl

    by_bytes : (result : Result ℕ FolderError) (after : List Row) → AnswersLog (file_at (files_now dir story) (Log n)) read last now after result → AnswersLog (Some here.bytes) read last now after result
    by_bytes result after says = subst (λ (o : Option (List ℕ)). AnswersLog o read last now after result) here.there says

    pub one_refused : (error : FolderError) (after : List Row) → AnswersLog (file_at (files_now dir story) (Log n)) read last now after (Err error) → IsRefusedBy (whole dir story log start) error
    one_refused error after says =
        replay_refused start (whole dir story log start) (logs_from dir story least) (logs_from dir story (n + 1)) n (log_of here.bytes) here.logs before now last (so_far is) is_last is_alone error (by_bytes (Err error) after says)

    pub one_more : (found : ℕ) (after : List Row) → AnswersLog (file_at (files_now dir story) (Log n)) read last now after (Ok found)
        → Replays start (whole dir story log start) (λ (k : ℕ). all_batches k (logs_from dir story (n + 1))) before after found
    one_more found after says =
        replay_more start (whole dir story log start) (logs_from dir story least) (logs_from dir story (n + 1)) n (log_of here.bytes) here.logs before now last (so_far is) is_last is_alone found after (by_bytes (Ok found) after says)

-- none is there, by the test that some is
none_there : {A : Type 0} (b : Bool) (o : Option A) → is_some o ≡ not b → b ≡ is_none o
none_there true None is = refl
none_there true (Some x) is = cc
none_there false None is = cc
none_there false (Some x) is = refl

-- ---- the same of a folder's path

no_bytes : 1 ≤ 0 → ⊥
no_bytes h = omega (arith, h)

pub ended_in : (dir : List ℕ) → length dir + 30 ≤ 160 → is_path dir ≡ true → (story : Story) (entries : List Entry) (log start : ℕ) (least : ℕ) (before now : List Row) (last : ℕ) → HasReplayed dir story entries log start least before now last
    → None ≡ next_log least entries → IsListing dir story entries → Replays start (whole dir story log start) (λ (_ : ℕ). Ok []) before now last
ended_in [] short spells story entries log start least before now last so_far none is = absurd (no_bytes (path_has_bytes [] spells))
ended_in (first ∷ more) short spells story entries log start least before now last so_far none is = ended first more short spells story entries log start least before now last so_far (sym none) is

abbrev pub Answers_one : List ℕ → Story → ℕ → Bool → ℕ → List Row → List Row → Result ℕ FolderError → Type 0
Answers_one dir story n is_last last now after result = last < 2 ^ 56 → AnswersLog (file_at (files_now dir story) (Log n)) (λ (text : List ℕ). batches_of is_last (last + 1) n (log_of text)) last now after result

pub refused_in : (dir : List ℕ) → length dir + 30 ≤ 160 → is_path dir ≡ true → (story : Story) (entries : List Entry) (log start : ℕ) (least : ℕ) (before now : List Row) (last : ℕ) → HasReplayed dir story entries log start least before now last
    → (n : ℕ) → Some n ≡ next_log least entries → (is_last : Bool) (after_it : Option ℕ) → is_some after_it ≡ not is_last → after_it ≡ next_log (n + 1) entries → IsListing dir story entries → (error : FolderError) (after : List Row)
    → Answers_one dir story n is_last last now after (Err error) → IsRefusedBy (whole dir story log start) error
refused_in [] short spells story entries log start least before now last so_far n next is_last after_it alone behind is error after says = absurd (no_bytes (path_has_bytes [] spells))
refused_in (first ∷ more) short spells story entries log start least before now last so_far n next is_last after_it alone behind is error after says =
    one_refused first more short spells story entries log start least before now last so_far n (sym next) is_last (none_there is_last after_it alone ∙ ap is_none behind) is error after (says (so_far is).small)

pub more_in : (dir : List ℕ) → length dir + 30 ≤ 160 → is_path dir ≡ true → (story : Story) (entries : List Entry) (log start : ℕ) (least : ℕ) (before now : List Row) (last : ℕ) → HasReplayed dir story entries log start least before now last
    → (n : ℕ) → Some n ≡ next_log least entries → (is_last : Bool) (after_it : Option ℕ) → is_some after_it ≡ not is_last → after_it ≡ next_log (n + 1) entries → (found : ℕ) (after : List Row)
    → Answers_one dir story n is_last last now after (Ok found) → HasReplayed dir story entries log start (n + 1) before after found
more_in [] short spells story entries log start least before now last so_far n next is_last after_it alone behind found after says = absurd (no_bytes (path_has_bytes [] spells))
more_in (first ∷ more) short spells story entries log start least before now last so_far n next is_last after_it alone behind found after says = λ is.
    one_more first more short spells story entries log start least before now last so_far n (sym next) is_last (none_there is_last after_it alone ∙ ap is_none behind) is found after (says (so_far is).small)
