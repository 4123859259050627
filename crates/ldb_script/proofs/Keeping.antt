-- What stays where a plain state changes in other parts.
use Rattle.std.specs.Prelude.{◌≡◌, ℕ, ◌≤◌, IsTrue, All, List, Option, Some, None}
use Rattle.std.proofs.Common.{sym, ap, subst, ◌∙◌}
use Rattle.lsm_disk.specs.State.{Story, Seen}
use Rattle.bk_engine.specs.Shown.{Shown as Engine}
use Rattle.ldb_script.specs.Printed.{Backup}
use Rattle.ldb_script.specs.Plain.{Start, Plain, Outcome}
use Rattle.ldb_script.specs.Stored.{Stands}
use Rattle.ldb_script.specs.Vaults.{Vault, AreMetasOf, HoldsBackups, EngineKeeps, Backs}
use Rattle.ldb_script.specs.Tools.{Tools, Origin, AreAt}

-- the same backups
module _ (start : Option Story) (p q : Plain) (backups : p.backups ≡ q.backups) (given : p.given ≡ q.given) (begins : p.start ≡ q.start) where
  engine_keeps : (disk : Seen) (engine : Option Engine) → EngineKeeps start disk engine p → EngineKeeps start disk engine q
  engine_keeps disk None h = record { none = sym backups ∙ h.none; given = sym given ∙ h.given; same = h.same }
  engine_keeps disk (Some engine) h = record {
    same = h.same;
    going = h.going;
    given = h.given ∙ given;
    metas = subst (λ (b : List Backup). AreMetasOf engine.metas b) backups h.metas;
    ids = subst (λ (n : ℕ). All (λ backup. backup.id ≤ n) q.backups) given (subst (λ (b : List Backup). All (λ backup. backup.id ≤ p.given) b) backups h.ids);
    held = λ tells. subst (λ (b : List Backup). HoldsBackups start disk.told engine.metas b) backups (h.held (subst (λ (s : Start). IsTrue s.tells) (sym begins) tells));
  }

  pub backs_keep : (vault : Vault) → Backs start vault p → Backs start vault q
  unfolding Backs
  backs_keep vault h = engine_keeps vault.disk vault.engine h

-- what the commands of the store alone leave of the plain state
pub record SameRest (p q : Plain) : Type 0 where
  pub backups : p.backups ≡ q.backups
  pub given : p.given ≡ q.given
  pub start : p.start ≡ q.start
  pub times : p.times ≡ q.times

pub same_rest : (p q : Plain) → p ≡ q → SameRest p q
same_rest p q e = record { backups = ap (λ (x : Plain). x.backups) e; given = ap (λ (x : Plain). x.given) e; start = ap (λ (x : Plain). x.start) e; times = ap (λ (x : Plain). x.times) e }

pub at_rest : (origin : Origin) (tools new : Tools) (p q : Outcome) → new.backups ≡ tools.backups → new.clock ≡ tools.clock → SameRest p.after q.after → AreAt origin tools p → Stands origin.store new.store q → AreAt origin new q
at_rest origin tools new p q vault clock rest was stands = record {
  store = stands;
  backups = subst (λ (v : Vault). Backs origin.backups v q.after) (sym vault) (backs_keep origin.backups p.after q.after rest.backups rest.given rest.start tools.backups was.backups);
  clock = ap (λ c. c.bytes) clock ∙ was.clock ∙ rest.times;
  start = sym rest.start ∙ was.start;
  told = was.told;
}
