-- The edit of a flush, and the version that it makes.
use Rattle.std.specs.Prelude.{◌≡◌, ℕ, ◌+◌, ◌^◌, ◌<◌, cond, is_some, Option, None}
use Rattle.std.proofs.Common.{refl, sym, ap, subst, ◌∙◌, arith}
use Rattle.std.proofs.lemmas.List.Elements.{All-contains}
use Rattle.std.specs.Cmp.{nat_cmp_total}
use Rattle.std.specs.FinMap as finmap
use Rattle.lsm_rows.specs.declared.rows.Row.{Row}
use Rattle.lsm_version.specs.declared.edits.Edit.{Edit}
use Rattle.lsm_version.specs.declared.tables.Placed.{Placed}
use Rattle.lsm_version.specs.declared.tables.TableInfo.{TableInfo}
use Rattle.lsm_version.specs.Edits.{IsEdit}
use Rattle.lsm_version.specs.Levels.{Tables}
use Rattle.lsm_core.specs.Catalogs.{HasTableMore}
use Rattle.lsm_memtable.specs.Greatest.{greatest_from}
use Rattle.lsm_memtable.specs.Order.{AreInOrder}
use Rattle.lsm_model.specs.declared.errors.StoreError.TheVariants as error
use Rattle.lsm_model.specs.Causes.{table_limit}
use Rattle.lsm_refine.specs.Kept.{Shown}
use Rattle.lsm_refine.specs.Flushed.{IsLastOf, EndsFrozen, at_top, flush_edit}
use Rattle.lsm_refine.specs.Caused.{edit_draws}
use Rattle.lsm_refine.proofs.WholeEditLemmas.{flush_fits}
use Rattle.lsm_flush.specs.Frozen.{rows_of}
use Rattle.lsm_store.specs.FlushParts.{AddsFlush, AddsTable, InstallsBy, IsSealed, Refuses}
use Rattle.lsm_store.specs.Inside.{Inner, IsInside, older_logs, shown_of}
use Rattle.lsm_store.proofs.Infos.{last_of_rows}
use Rattle.lsm_store.proofs.Parting.{came_none, came_wider}

module _ (x : Inner) (inside : IsInside x) (info : TableInfo) (sealed : IsSealed (shown_of x) info) (last : ℕ)
    (greatest : last ≡ greatest_from 0 (rows_of x.frozen)) (order : AreInOrder (rows_of x.frozen)) where
  last_frozen : IsLastOf last (rows_of x.frozen)
  last_frozen = subst (λ (n : ℕ). IsLastOf n (rows_of x.frozen)) (sym greatest) (last_of_rows (rows_of x.frozen) sealed.some)

  -- the edit names the last log and the greatest sequence of the frozen rows
  ends : EndsFrozen (shown_of x).kept x.log last
  ends = record { front = older_logs x.older; logs = refl; greatest = last_frozen }

  small : last < 2 ^ 56
  small =
      let below : last_frozen.row.sequence < 2 ^ 56 =
      All-contains (λ (row : Row). row.sequence < 2 ^ 56) (rows_of x.frozen) last_frozen.row order.below last_frozen.among in
      omega (arith, below, last_frozen.is)

  -- it is in the grammar
  edit_fits : IsEdit (flush_edit info x.log x.next last)
  edit_fits =
      flush_fits info x.log x.next last inside.flush.log_number inside.drawn inside.most small sealed.numbered sealed.said

  module _ (version : Tables) (more : HasTableMore x.catalog.version info version)
      (few : finmap.len x.catalog.version < table_limit) where
    grown : finmap.len version ≡ finmap.len x.catalog.version + 1
    grown =
        ap (λ (t : Tables). finmap.len t) more.is
        ∙ finmap.len-insert nat_cmp_total x.catalog.version info.number (at_top info)
        ∙ ap (λ (o : Option Placed). cond (is_some o) (finmap.len x.catalog.version) (finmap.len x.catalog.version + 1))
        sealed.fresh

    adds : AddsFlush (shown_of x) info x.log last version
    adds = record { sealed = sealed; more = more; few = omega (arith, grown, few); ends = ends }

    pub adds_table : AddsTable (shown_of x) last version
    adds_table = record { info = info; log = x.log; small = small; adds = adds }

    pub installs_by : (edit : Edit) → edit ≡ flush_edit info x.log x.next last → InstallsBy (shown_of x) last edit version
    installs_by edit is = record {
      info = info;
      log = x.log;
      adds = adds;
      edit_is = record { next = x.next; is = is; grammar = edit_fits };
    }

-- want of memory before the disk is called leaves the store as it was
pub wanting_edit : (v : Shown) → v.halt ≡ None → Refuses (edit_draws v.kept) error.NoMemory v v
unfolding Refuses
wanting_edit v none = came_wider 0 (edit_draws v.kept) v v (omega arith) (came_none v none)
