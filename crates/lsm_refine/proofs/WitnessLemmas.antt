-- A store that has something in each place is good.
use Rattle.std.specs.Prelude.{◌≡◌, ℕ, ◌<◌, ◌≤◌, ◌^◌, nat_eq, Bool, true, false, cond, is_some, List, [], ◌∷◌, length, All, Some, None, Ok}
use Rattle.std.proofs.Common.{inl, refl, sym, ap, subst, ◌∙◌, arith}
use Rattle.std.proofs.lemmas.List.{append-nil, take_all}
use Rattle.std.proofs.lemmas.List.Elements.{All-nil, All-cons}
use Rattle.std.specs.List.{flat_map, IsDistinct}
use Rattle.std.specs.List.Sorted.{IsStrictlySortedBy}
use Rattle.std.specs.Ordering.{nat_cmp, eq_by_cmp}
use Rattle.std.specs.Cmp.{nat_cmp_total}
use Rattle.std.specs.FinMap as finmap
use Rattle.lsm_bytes.specs.Varint.{varint, varint_within}
use Rattle.lsm_names.specs.Sessions.{is_session, is_session_byte}
use Rattle.lsm_rows.specs.declared.operations.Op.TheVariants as op
use Rattle.lsm_rows.specs.declared.internal_keys.Kind.TheVariants.{Put}
use Rattle.lsm_rows.specs.declared.rows.Row.{Row}
use Rattle.lsm_rows.specs.BatchText.{sized, op_text, batch_text, text_len}
use Rattle.lsm_rows.specs.Contents.{contents_of}
use Rattle.lsm_rows.specs.InternalKeys.{internal_key}
use Rattle.lsm_rows.specs.Limits.{OpInLimits}
use Rattle.lsm_rows.specs.Replay.{Contents, replayed}
use Rattle.lsm_rows.proofs.ReplayedRows.{contents_replayed}
use Rattle.lsm_disk.specs.State as disk
use Rattle.lsm_disk.specs.Kept.{IsKeptFile}
use Rattle.lsm_disk.specs.Building.{sealed}
use Rattle.lsm_block.specs.BlockText.{common, shared_len, parts_text, entry_text, entries_from, restarts, restarts_text, block_text}
use Rattle.lsm_block.specs.Parts.{last_key}
use Rattle.lsm_block.specs.TableText.{stored, blocks_more, blocks_of, all_blocks, data_blocks, blocks_text, index_from, properties_text, places_text, footer_text, table_of_blocks, table_text, AreTableRows}
use Rattle.lsm_wal.specs.Batches.{Logged, IsLogged, in_sequence, wal_text}
use Rattle.lsm_wal.specs.Standing.{IsWal}
use Rattle.lsm_folder.proofs.LiveLemmas.{equal_number}
use Rattle.lsm_table.specs.WholeTables.{IsTable}
use Rattle.lsm_version.specs.Edits as version
use Rattle.lsm_version.specs.Edits.{IsPlace, IsKey, InRange, Before, rank_of, AreFields, IsEdit}
use Rattle.lsm_version.specs.declared.tables.Placed.{Placed}
use Rattle.lsm_version.specs.Levels.{Tables, clash, overlaps_from}
use Rattle.lsm_version.specs.Versions.{empty_version, dropped, added, changed, leveled, refused_by, applied, numbers_after, version_after}
use Rattle.lsm_folder.specs.Manifests.{tables_or_none, tables_after, log_after, last_after}
use Rattle.lsm_folder.specs.Needed.{sequences, IsAsListed}
use Rattle.lsm_folder.specs.Parts.{AreEdits, AreLawful, rows_of_tables}
use Rattle.lsm_folder.proofs.FirstEditLemmas.{no_entries}
use Rattle.lsm_refine.specs.Witness.{one_put, tabled, its_session, its_row, its_table, its_info, its_placed, its_edit, its_version, its_parts}
use Rattle.lsm_refine.proofs.NewLemmas.{no_contents}

-- ---- its table

pub size_is : length its_table ≡ 130
unfolding its_table table_text table_of_blocks footer_text places_text properties_text index_from blocks_text data_blocks all_blocks blocks_of blocks_more stored last_key block_text restarts_text restarts entries_from entry_text parts_text shared_len common internal_key varint varint_within
size_is = refl

pub session_is : is_session its_session ≡ true
unfolding is_session is_session_byte
session_is = refl

rows_are : AreTableRows (its_row ∷ [])
unfolding IsStrictlySortedBy
rows_are = record {
  some = omega arith;
  ascend = (tt, tt);
  sequences = All-cons (λ (row : Row). row.sequence < 2 ^ 56) its_row [] (omega arith) (All-nil (λ (row : Row). row.sequence < 2 ^ 56));
}

pub table_is : IsTable its_table (its_row ∷ []) 3 its_session
unfolding its_table
table_is = record {
  is = record { is = refl; are_rows = rows_are; number_fits = omega arith; session_len = refl };
  spelled = session_is;
  small = omega (arith, size_is);
}

-- ---- its edit

key_is : IsKey its_info.smallest
key_is = record { key = 97 ∷ []; sequence = 1; kind = Put; parts = record { is = refl; below = omega arith }; fits = omega arith }

place_is : IsPlace 0 3
place_is = record { level_is = omega arith; number_is = record { some = omega arith; most = omega arith } }

info_is : version.IsTable its_info
info_is = record { session = session_is; size = omega (arith, size_is); smallest = key_is; largest = key_is }

pub edit_is : IsEdit its_edit
unfolding AreFields InRange Before rank_of
edit_is = record {
  fields = (
    record { range = record { some = omega arith; most = omega arith }; behind = inl (omega arith) },
    (
      record { range = (omega arith, omega arith); behind = inl (omega arith) },
      (
        record { range = omega arith; behind = inl (omega arith) },
        (record { range = (place_is, info_is); behind = inl (omega arith) }, tt),
      ),
    ),
  );
}

free : finmap.contains_key empty_version 3 ≡ false
free = ap is_some (finmap.get-empty nat_cmp 3)

pub entries_are : finmap.entries its_version ≡ (3, its_placed) ∷ []
entries_are = finmap.entries-insert nat_cmp_total empty_version 3 its_placed ∙ ap (finmap.put nat_cmp 3 its_placed) no_entries

pub version_is : version_after (its_edit ∷ []) ≡ Ok its_version
unfolding version_after applied changed added dropped clash
version_is =
    ap (λ (b : Bool). leveled (cond b None (Some its_version))) free
    ∙ ap (λ (es : List (ℕ × Placed)). refused_by its_version (overlaps_from 6 1 es)) entries_are

pub edits_are : AreEdits (its_edit ∷ [])
edits_are = record {
  first = refl;
  each = All-cons IsEdit its_edit [] edit_is (All-nil IsEdit);
  taken = record { tables = its_version; is = version_is };
}

pub tables_are : tables_after (its_edit ∷ []) ≡ its_version
unfolding tables_after
tables_are = ap tables_or_none version_is

pub log_is : log_after (its_edit ∷ []) ≡ 4
unfolding log_after numbers_after
log_is = refl

pub last_is : last_after (its_edit ∷ []) ≡ 1
unfolding last_after numbers_after
last_is = refl

-- ---- its version

-- only the one table is there
pub only_table : (number : ℕ) (placed : Placed) → finmap.get its_version number ≡ Some placed → (number ≡ 3) × (placed ≡ its_placed)
only_table number placed is =
    elim (eq_by_cmp nat_cmp number 3) as (λ b. eq_by_cmp nat_cmp number 3 ≡ b
    → cond b (Some its_placed) (finmap.get empty_version number) ≡ Some placed → (number ≡ 3) × (placed ≡ its_placed)) [
      | true ↦ λ same h. (equal_number number 3 same, placed_once placed its_placed (sym h))
      | false ↦ λ other h. let clash : None ≡ Some placed = sym (finmap.get-empty nat_cmp number) ∙ h in absurd (cc)
    ] refl (sym (finmap.get-insert nat_cmp_total empty_version 3 its_placed number) ∙ is)
  where
    placed_once : (x y : Placed) → Some x ≡ Some y → x ≡ y
    placed_once x y same = cc

pub table_after : (number : ℕ) (placed : Placed) → finmap.get (tables_after (its_edit ∷ [])) number ≡ Some placed
    → (number ≡ 3) × (placed ≡ its_placed)
table_after number placed is = only_table number placed (ap (λ (tables : Tables). finmap.get tables number) (sym tables_are) ∙ is)

pub table_rows : rows_of_tables (tables_after its_parts.edits) its_parts.rows ≡ its_row ∷ []
table_rows =
    ap (λ (tables : Tables). rows_of_tables tables its_parts.rows) tables_are
    ∙ ap (flat_map (λ (table : ℕ × Placed). its_parts.rows table.0)) entries_are

pub is_listed : (last : ℕ) → 1 ≤ last → IsAsListed its_info (its_row ∷ []) last
unfolding last_key
is_listed last some = record {
  first = its_row;
  more = [];
  rows_are = refl;
  smallest = refl;
  largest = refl;
  sequences = All-cons (λ (row : Row). (1 ≤ row.sequence) × (row.sequence ≤ last)) its_row [] (omega arith, some)
      (All-nil (λ (row : Row). (1 ≤ row.sequence) × (row.sequence ≤ last)));
}

pub are_lawful : AreLawful its_parts.edits its_parts.rows
unfolding IsDistinct
are_lawful = record {
  leveled = record {
    apart = λ m n a b at_m at_n differ some same. absurd (differ ((table_after m a at_m).0 ∙ sym (table_after n b at_n).0));
    older = λ m n a b at_m at_n deeper.
        let same : a.level ≡ b.level = ap (λ (p : Placed). p.level) ((table_after m a at_m).1 ∙ sym (table_after n b at_n).1) in
        absurd (omega (arith, deeper, same));
  };
  listed = λ number placed is.
      subst (λ (p : Placed). IsAsListed p.info (its_row ∷ []) (last_after its_parts.edits)) (sym (table_after number placed is).1)
      (subst (IsAsListed its_info (its_row ∷ [])) (sym last_is) (is_listed 1 (omega arith)));
  distinct = subst (λ (rows : List Row). IsDistinct nat_eq (sequences rows)) (sym table_rows) (tt, tt);
}

pub table_shows : contents_of (rows_of_tables (tables_after its_parts.edits) its_parts.rows) ≡ replayed finmap.empty (tabled ∷ [])
table_shows =
    ap contents_of table_rows
    ∙ contents_replayed [] 1 (tabled ∷ []) (All-nil (λ (row : Row). row.sequence < 1))
    ∙ ap (λ (m : Contents). replayed m (tabled ∷ [])) no_contents

-- ---- its logs

module _ (key value : ℕ) where
  text_is : text_len (one_put key value) ≡ 17
  unfolding batch_text op_text sized varint varint_within
  text_is = refl

  pub put_logged : (first : ℕ) → first ≤ 3 → All IsLogged (in_sequence first (one_put key value ∷ []))
  put_logged first few = All-cons IsLogged (record { first = first; ops = one_put key value }) []
      (record {
        is = refl;
        some = omega arith;
        limits = record {
          each = All-cons OpInLimits (op.Put (key ∷ []) (value ∷ [])) [] (record { key = omega arith; value = omega arith })
              (All-nil OpInLimits);
          count = omega arith;
          bytes = omega (arith, text_is);
        };
        last = omega (arith, few);
      })
      (All-nil IsLogged)

-- a log whose file has its text, all of it synced
pub synced_wal : (d : disk.State) (path : List ℕ) (id : ℕ) (text : List ℕ) (batches : List Logged)
    → IsKeptFile d path id (sealed text) → text ≡ wal_text batches → All IsLogged batches → IsWal d path batches (length batches)
synced_wal d path id text batches kept same each = record {
  id = id;
  file = sealed text;
  kept = kept;
  text = append-nil text ∙ same;
  within = omega arith;
  synced = omega (
    arith,
    ap (λ (l : List Logged). length (wal_text l)) (take_all (length batches) batches (omega arith)),
    ap
        (λ (l : List ℕ). length l) same,
  );
  each = each;
}
