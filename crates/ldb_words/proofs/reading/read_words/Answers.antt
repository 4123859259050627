use Rattle.std.proofs.Common.{◌≡◌, ◌∙◌, true, refl, sym, ap, subst, List, IfOk, IfErr, true≢false}
use Rattle.std.specs.Result.{IsOk, is_ok}
use Rattle.clap.specs.Words.{kind_of}
use Rattle.clap.specs.declared.error.kind.ErrorKind.TheVariants.{OutOfMemory}
use Rattle.lsm_names.specs.Folders.{is_folder_name}
use Rattle.ldb_words.specs.Words.{Pair, options_of}
use Rattle.ldb_words.specs.Parts.{AreGiven, AreOptions, SplitsInto}
use Rattle.ldb_words.specs.Reading.{texts}
use Rattle.ldb_words.proofs.Asking.{asked_so, asked≢none, memory≢usage, ok≢usage, or_default}
use Rattle.ldb_words.proofs.Splitting.{folder_is_right}
use Rattle.ldb_words.proofs.reading.read_words.Goals as goal

pub returns-in_default-clause-usage : goal.returns-in_default-clause-usage
returns-in_default-clause-usage c =
    (λ _. subst (SplitsInto c.args.words.now) c.in_default.is c.split_words.ensures, λ _. refl)

pub returns-in-OutOfMemory-clause-usage : goal.returns-in-OutOfMemory-clause-usage
returns-in-OutOfMemory-clause-usage c =
    let parts = subst (SplitsInto c.args.words.now) c.in-Some.is c.split_words.ensures in
    (λ e. absurd (memory≢usage e), λ e. absurd (asked≢none (texts c.args.words.now) _ parts.1 e))

pub unreachable-requires : goal.unreachable-requires
unreachable-requires c =
    let parts = subst (SplitsInto c.args.words.now) c.in-Some.is c.split_words.ensures in
    let err = subst (λ r. IfErr r (λ e. (options : List Pair) → AreOptions options (texts c.in-Some.options.now) → kind_of e ≡ OutOfMemory))
    c.in-Err.is c.read_given.ensures.err in
    c.in_default-kind.not-OutOfMemory (c.kind.ensures ∙ err _ parts.0)

pub unreachable-requires-in_default-parse : goal.unreachable-requires-in_default-parse
unreachable-requires-in_default-parse c =
    let parts = subst (SplitsInto c.args.words.now) c.in-Some.is c.split_words.ensures in
    let given = subst (λ r. IfOk r (λ m. (options : List Pair) → AreOptions options (texts c.in-Some.options.now) → AreGiven options m))
    c.in-Ok.is c.read_given.ensures.ok _ parts.0 in
    let db = or_default c.get_str.result c.unwrap_or.result _ _ c.unwrap_or.ensures (c.get_str.ensures ∙ given.db) in
    let folder : is_folder_name c.as_bytes.result.now ≡ true =
    ap is_folder_name (c.as_bytes.ensures.value ∙ db) ∙ folder_is_right (options_of (texts c.args.words.now)) parts.0.right in
    let ok : IsOk c.parse.result = c.parse.ensures.exactly.1 folder in
    true≢false (sym ok ∙ ap is_ok c.in_default-parse.is)

pub returns-clause-ok : goal.returns-clause-ok
returns-clause-ok c =
    let parts = subst (SplitsInto c.args.words.now) c.in-Some.is c.split_words.ensures in
    let given = subst (λ r. IfOk r (λ m. (options : List Pair) → AreOptions options (texts c.in-Some.options.now) → AreGiven options m))
    c.in-Ok.is c.read_given.ensures.ok _ parts.0 in
    let db = or_default c.get_str.result c.unwrap_or.result _ _ c.unwrap_or.ensures (c.get_str.ensures ∙ given.db) in
    let disk = or_default c.get_str-2.result c.unwrap_or-2.result _ _ c.unwrap_or-2.ensures (c.get_str-2.ensures ∙ given.disk) in
    let backups = or_default c.get_str-3.result c.unwrap_or-3.result _ _ c.unwrap_or-3.ensures (c.get_str-3.ensures ∙ given.backups) in
    let folder = subst (λ r. IfOk r (λ f. f ≡ c.as_bytes.result.now)) c.in-Ok-parse.is c.parse.ensures.ok ∙ c.as_bytes.ensures.value ∙ db in
    parts.1 ∙ asked_so _ _ _ _ _ _ (texts c.in-Some.command.now) (sym disk) (sym backups) (sym folder)

pub returns-clause-usage : goal.returns-clause-usage
returns-clause-usage c =
    let parts = subst (SplitsInto c.args.words.now) c.in-Some.is c.split_words.ensures in
    (λ e. absurd (ok≢usage _ e), λ e. absurd (asked≢none (texts c.args.words.now) _ parts.1 e))
