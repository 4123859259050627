-- What a store holds behind a call, so that frozen rows can be flushed.
use Rattle.std.specs.Prelude.{◌≡◌, ℕ, ◌+◌, ◌-◌, ◌^◌, ◌<◌, List, [], ◌∷◌, ◌++◌, All, Option}
use Rattle.std.proofs.Common.{refl, sym, ap, subst, ◌∙◌, arith}
use Rattle.std.proofs.lemmas.List.Elements.{All-head, All-tail, All-cons, All-nil, All-append, All-push, All-weaker}
use Rattle.std.proofs.lemmas.List.Sorted.{All-permutation}
use Rattle.lsm_names.specs.FileNames.{IsFileName}
use Rattle.lsm_names.specs.declared.file_names.FileName.{FileName}
use Rattle.lsm_names.specs.declared.file_names.FileName.TheVariants.{Log, Table, Manifest, Temp, Current}
use Rattle.lsm_rows.specs.declared.operations.Op.{Op}
use Rattle.lsm_rows.specs.declared.operations.Op.TheVariants.{Put, Delete}
use Rattle.lsm_rows.specs.declared.rows.Row.{Row}
use Rattle.lsm_rows.specs.Limits.{OpInLimits, InLimits}
use Rattle.lsm_rows.specs.Rows.{row_of, batch_rows}
use Rattle.lsm_disk.specs.State.{Seen}
use Rattle.lsm_disk.specs.declared.calls.Halt.{Halt}
use Rattle.lsm_memtable.specs.Joining.{AreJoined}
use Rattle.lsm_flush.specs.declared.frozen.Held.{Held}
use Rattle.lsm_flush.specs.declared.frozen.Held.TheVariants as held
use Rattle.lsm_flush.specs.Frozen as frozen
use Rattle.lsm_flush.specs.Writing.{Written, begun, IsSameTable}
use Rattle.lsm_refine.specs.Grown.{IsDrawn}
use Rattle.lsm_store.specs.Inside.{Inner, IsInside, HasShortKey, IsNewTable, CanFlush}
use Rattle.lsm_store.proofs.Begins.{next_free}

short_row : (sequence : ℕ) (op : Op) → OpInLimits op → HasShortKey (row_of sequence op)
short_row sequence (Put key value) is = is.key
short_row sequence (Delete key) is = is.key

short_rows : (first : ℕ) (ops : List Op) → All OpInLimits ops → All HasShortKey (batch_rows first ops)
short_rows first [] each = All-nil HasShortKey
short_rows first (op ∷ ops) each =
    All-cons HasShortKey (row_of first op) (batch_rows (first + 1) ops) (short_row first op (All-head OpInLimits op ops each))
    (short_rows (first + 1) ops (All-tail OpInLimits op ops each))

-- rows that a batch has joined have short keys
pub joined_short : (old new : List Row) (first : ℕ) (ops : List Op) → All HasShortKey old → InLimits ops
    → AreJoined old (batch_rows first ops) new → All HasShortKey new
joined_short old new first ops short limits joined =
    All-permutation HasShortKey (old ++ batch_rows first ops) new joined.same
    (All-append HasShortKey old (batch_rows first ops) short (short_rows first ops limits.each))

module _ (x : Inner) (inside : IsInside x) where
  -- a batch was written
  pub flush_written : (active : List Row) → All HasShortKey active → CanFlush x.next x.log active x.frozen x.catalog.version
  flush_written active short = record {
    log_number = inside.flush.log_number;
    active_keys = short;
    frozen_keys = inside.flush.frozen_keys;
    below = inside.flush.below;
    table = inside.flush.table;
  }

  -- the active rows were frozen
  pub flush_frozen : x.next < 2 ^ 56 - 1 → (active fresh rows : List Row) (h : Held) → active ≡ fresh → fresh ≡ []
      → h ≡ held.Rows rows → rows ≡ x.active → CanFlush (x.next + 1) x.next active h x.catalog.version
  flush_frozen small active fresh rows h active_is fresh_is held_is rows_is = record {
    log_number = record { some = inside.drawn; most = omega (arith, small) };
    active_keys = subst (λ (l : List Row). All HasShortKey l) (sym (active_is ∙ fresh_is)) (All-nil HasShortKey);
    frozen_keys = subst (λ (l : List Row). All HasShortKey l) (sym (ap frozen.rows_of held_is ∙ rows_is)) inside.flush.active_keys;
    below = λ number there. let less = inside.flush.below number there in omega (arith, less);
    table = subst (IsNewTable (x.next + 1) x.catalog.version) (sym held_is) tt;
  }

  -- the table of the frozen rows was begun
  pub flush_begun : x.next < 2 ^ 56 - 1 → (session : List ℕ) (h : Held)
      → h ≡ held.Table (begun (frozen.rows_of x.frozen) x.next session)
      → CanFlush (x.next + 1) x.log x.active h x.catalog.version
  flush_begun small session h held_is = record {
    log_number = inside.flush.log_number;
    active_keys = inside.flush.active_keys;
    frozen_keys = subst (λ (l : List Row). All HasShortKey l) (sym (ap frozen.rows_of held_is)) inside.flush.frozen_keys;
    below = λ number there. let less = inside.flush.below number there in omega (arith, less);
    table = subst (IsNewTable (x.next + 1) x.catalog.version) (sym held_is)
        (record { some = inside.drawn; most = omega (arith, small) }, omega arith, next_free x inside);
  }

-- ---- known names

drawn_later : (next : ℕ) (name : FileName) → IsDrawn next name → IsDrawn (next + 1) name
drawn_later next (Log n) less = omega (arith, less)
drawn_later next (Table n) less = omega (arith, less)
drawn_later next (Manifest n) less = omega (arith, less)
drawn_later next (Temp n) less = omega (arith, less)
drawn_later next Current less = tt

-- names with one more, whose number was drawn
pub below_pushed : (next : ℕ) (known names : List FileName) (name : FileName) → All (IsDrawn next) known
    → IsDrawn (next + 1) name → names ≡ known ++ name ∷ [] → All (IsDrawn (next + 1)) names
below_pushed next known names name below drawn is =
    subst (All (IsDrawn (next + 1))) (sym is)
    (All-push (IsDrawn (next + 1)) known name (All-weaker (IsDrawn next) (IsDrawn (next + 1)) (drawn_later next) known below) drawn)

pub fit_pushed : (known names : List FileName) (name : FileName) → All IsFileName known → IsFileName name
    → names ≡ known ++ name ∷ [] → All IsFileName names
fit_pushed known names name fit fits is = subst (All IsFileName) (sym is) (All-push IsFileName known name fit fits)

-- ---- the table under way

-- it was written on
pub flush_on : (x : Inner) (w y : Written) → IsInside (record x { frozen = held.Table w }) → IsSameTable w y
    → CanFlush x.next x.log x.active (held.Table y) x.catalog.version
flush_on x w y inside same =
    subst (λ (u : Written). CanFlush x.next x.log x.active (held.Table u) x.catalog.version) (sym same) (record {
      log_number = inside.flush.log_number;
      active_keys = inside.flush.active_keys;
      frozen_keys = inside.flush.frozen_keys;
      below = inside.flush.below;
      table = inside.flush.table;
    })

-- all of it, where the table was written on
pub inside_on : (x : Inner) (w y : Written) → x.frozen ≡ held.Table w → IsInside x → IsSameTable w y → (seen : Seen)
    (halt : Option Halt) (h : Held) → h ≡ held.Table y → IsInside (record x { disk = seen; frozen = h; halt = halt })
inside_on x w y held_is inside same seen halt h later_is =
    let at : IsInside (record x { frozen = held.Table w }) =
    subst (λ (l : Held). IsInside (record x { frozen = l })) held_is inside in
    let now : Written = record w { taken = y.taken; ahead = y.ahead } in
    subst (λ (l : Held). IsInside (record x { disk = seen; frozen = l; halt = halt })) (sym later_is)
    (subst (λ (u : Written). IsInside (record x { disk = seen; frozen = held.Table u; halt = halt })) (sym same) (record {
      path_is = at.path_is;
      manifest_in = at.manifest_in;
      manifest_is = at.manifest_is;
      before = at.before;
      small = at.small;
      one = at.one;
      drawn = at.drawn;
      most = at.most;
      below = at.below;
      fit = at.fit;
      jobs = at.jobs;
      flush = flush_on x w now at refl;
    }))
