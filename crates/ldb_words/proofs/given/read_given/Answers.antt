use Rattle.std.proofs.Common.{rules, ap, ap₂, codes, true, ◌≡◌, ◌∙◌}
use Rattle.std.proofs.lemmas.Result.{IfErr-weaker, IfOk-weaker}
use Rattle.clap.specs.Walk.{first_of, rows_of, rule_of}
use Rattle.clap.specs.Simple.{Shape, app_of, app_of_fields, is_simple, matches_of, on_top, with_rule}
use Rattle.clap.specs.Matches.{found_of}
use Rattle.clap.specs.Takes.{takes}
use Rattle.clap.proofs.WalkLemmas.{first_value-rows}
use Rattle.ldb_words.specs.Parts.{spelled}
use Rattle.ldb_words.proofs.Walks.{backups_given, bare, db_given, disk_given, ldb, option_rule, takes_them}
use Rattle.ldb_words.proofs.given.read_given.Goals as goal

pub returns : goal.returns
returns c =
    let disk_is : rule_of c.action-disk.result ≡ option_rule (codes "disk") = search rules in
    let backups_is : rule_of c.action-backups.result ≡ option_rule (codes "backups") = search rules in
    let db_is : rule_of c.action-db.result ≡ option_rule (codes "db") = search rules in
    let bare_is : app_of c.disable_version_flag.result ≡ bare = ap app_of_fields c.disable_version_flag.ensures
    ∙ ap (on_top (λ (s : Shape). record s { disable_version_flag = true })) (ap app_of_fields c.disable_help_flag.ensures
    ∙ ap (on_top (λ (s : Shape). record s { disable_help_flag = true })) (ap app_of_fields c.no_binary_name.ensures
    ∙ ap (on_top (λ (s : Shape). record s { no_binary_name = true })) c.new-4.ensures.app)) in
    let ldb_is : app_of c.in_ok-command.command ≡ ldb = c.in_ok-command.ensures.shape (search rules)
    ∙ ap₂ with_rule (c.in_ok-arg-2.ensures.shape (search rules)
    ∙ ap₂ with_rule (c.in_ok-arg.ensures.shape (search rules) ∙ ap₂ with_rule bare_is disk_is) backups_is) db_is in
    let parse = c.try_get_matches_from in
    record {
      ok = IfOk-weaker parse.result _ _ (λ m h options are.
          let rows : rows_of (found_of m) ≡ matches_of ldb (spelled options) =
          (h (ap is_simple ldb_is)).0 ∙ ap₂ matches_of ldb_is are.spelled in
          record {
            disk = first_value-rows (found_of m) (codes "disk") ∙ ap (first_of (codes "disk")) rows
                ∙ disk_given options are.named are.right;
            backups = first_value-rows (found_of m) (codes "backups") ∙ ap (first_of (codes "backups")) rows
                ∙ backups_given options are.named are.right;
            db = first_value-rows (found_of m) (codes "db") ∙ ap (first_of (codes "db")) rows ∙ db_given options are.named are.right;
          }) parse.ensures.matches;
      err = IfErr-weaker parse.result _ _
          (λ e h options are. h (ap₂ takes ldb_is are.spelled ∙ takes_them options are.named are.right)) parse.ensures.passes;
    }
