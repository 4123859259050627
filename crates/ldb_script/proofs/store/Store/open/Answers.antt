use Rattle.std.specs.Prelude.{Option, IfSome}
use Rattle.std.proofs.Common.{ℕ, List, [], refl, subst, sym, ap, ◌∙◌}
use Rattle.lsm_disk.specs.State.{Story, state_of}
use Rattle.lsm_disk.specs.Tree.{IsLawful}
use Rattle.lsm_wal.specs.Shown.{Shown}
use Rattle.ldb_script.specs.Stored.{Logs, log_path}
use Rattle.ldb_script.proofs.Logs.{log_none}
use Rattle.ldb_script.proofs.Besides.{files_new}
use Rattle.ldb_script.proofs.Standings.{folders_new}
use Rattle.ldb_script.proofs.store.Store.open.Goals as goal

pub returns-in-Ok-clause-opened : goal.returns-in-Ok-clause-opened
returns-in-Ok-clause-opened g c =
    let told = (g.D.Disk.seen c.make_new.new.disk).told in
    let path = ap (λ (s : Shown). s.path) c.in-Ok.ensures.log in
    record {
      stands = λ start home tells_some. record {
        contents = c.new.ensures;
        sequence = refl;
        replays = refl;
        counted = refl;
        batches = refl;
        len = ap (λ (s : Shown). s.len) c.in-Ok.ensures.log ∙ sym log_none;
        log = λ story tells.
            let made = c.in-Ok.ensures.made story tells in
            subst (λ (p : List ℕ). Logs told p [] 0) (sym path) (record { story = made.0; tells = made.1; wal = made.2.has.log });
        beside = λ story tells.
            let made = c.in-Ok.ensures.made story tells in
            files_new told made.0 c.args.folder.now _ path made.1 made.2.has.files;
        home = path ∙ ap log_path (sym home);
        folders = λ tells. folders_new start c.args.folder.now _ (g.D.Disk.seen c.args.disk).told told home c.make_new.ensures.named (tells_some tells) (λ story told. subst (λ (o : Option Story). IfSome o (λ story. IsLawful (state_of story))) told c.in-Ok.ensures.lawful) c.in-Ok.ensures.made;
      };
      log = path;
      free = c.in-Ok.ensures.free;
    }
