-- The version of the next opening of that store's folder.
use Rattle.std.specs.Prelude.{◌≡◌, ◌⊎◌, ℕ, ◌+◌, ◌<◌, ◌≤◌, ◌^◌, nat_eq, zero, suc, true, false, cond, is_some, List, [], ◌∷◌, ◌++◌, map, take, length, Option, Some, None, Result, Ok}
use Rattle.std.proofs.Common.{inl, inr, refl, sym, ap, subst, ◌∙◌, arith}
use Rattle.std.proofs.lemmas.List.{length-append}
use Rattle.std.proofs.lemmas.List.Elements.{All-nil, All-cons}
use Rattle.std.specs.List.{flat_map, IsDistinct}
use Rattle.std.specs.List.Sorted.{IsStrictlySortedBy}
use Rattle.std.specs.Ordering.{nat_cmp, eq_by_cmp}
use Rattle.std.specs.Cmp.{nat_cmp_total}
use Rattle.std.specs.FinMap as finmap
use Rattle.lsm_bytes.specs.Varint.{varint, varint_within}
use Rattle.lsm_rows.specs.declared.internal_keys.Kind.TheVariants.{Put}
use Rattle.lsm_rows.specs.declared.rows.Row.{Row}
use Rattle.lsm_rows.specs.Contents.{contents_of}
use Rattle.lsm_rows.specs.InternalKeys.{internal_key}
use Rattle.lsm_rows.specs.Replay.{Contents, replayed}
use Rattle.lsm_rows.proofs.ReplayedRows.{contents_replayed}
use Rattle.lsm_disk.proofs.Cuts.{take_none, take_past}
use Rattle.lsm_block.specs.BlockText.{common, shared_len, parts_text, entry_text, entries_from, restarts, restarts_text, block_text}
use Rattle.lsm_block.specs.Parts.{last_key}
use Rattle.lsm_block.specs.TableText.{stored, blocks_more, blocks_of, all_blocks, data_blocks, blocks_text, index_from, properties_text, places_text, footer_text, table_of_blocks, table_text, AreTableRows}
use Rattle.lsm_frame.specs.Records.{front}
use Rattle.lsm_frame.proofs.Crash.{log_keeps}
use Rattle.lsm_folder.proofs.LiveLemmas.{equal_number}
use Rattle.lsm_table.specs.WholeTables.{IsTable}
use Rattle.lsm_version.specs.Edits as version
use Rattle.lsm_version.specs.Edits.{IsPlace, IsKey, InRange, Before, rank_of, AreFields, IsEdit}
use Rattle.lsm_version.specs.EditText.{edit_text}
use Rattle.lsm_version.specs.declared.edits.Edit.{Edit}
use Rattle.lsm_version.specs.declared.tables.Placed.{Placed}
use Rattle.lsm_version.specs.declared.refusals.ApplyError.{ApplyError}
use Rattle.lsm_version.specs.Levels.{Tables, clash, overlaps_from}
use Rattle.lsm_version.specs.Versions.{empty_version, dropped, added, changed, leveled, refused_by, applied, applied_after, numbers_after, version_after}
use Rattle.lsm_folder.specs.Manifests.{tables_or_none, tables_after, log_after, last_after}
use Rattle.lsm_folder.specs.Needed.{sequences, IsAsListed}
use Rattle.lsm_folder.specs.Parts.{AreEdits, AreLawful, IsManifest, rows_of_tables}
use Rattle.lsm_folder.proofs.ManifestLemmas.{manifest_cut}
use Rattle.lsm_refine.specs.Witness.{tabled, older, newer, its_session, its_row, its_placed, its_edit, its_version, its_manifest, older_row, newer_row, next_table, next_info, next_placed, next_edit, next_version, next_parts, next_manifest, added_record}
use Rattle.lsm_refine.proofs.NewLemmas.{no_contents}
use Rattle.lsm_refine.proofs.WitnessLemmas.{session_is, edit_is, version_is, entries_are, only_table, is_listed}

-- ---- the table

abbrev next_rows : List Row
next_rows = older_row ∷ newer_row ∷ []

next_size : length next_table ≡ 143
unfolding next_table table_text table_of_blocks footer_text places_text properties_text index_from blocks_text data_blocks all_blocks blocks_of blocks_more stored last_key block_text restarts_text restarts entries_from entry_text parts_text shared_len common internal_key varint varint_within
next_size = refl

rows_are : AreTableRows next_rows
unfolding IsStrictlySortedBy
rows_are = record {
  some = omega arith;
  ascend = ((refl, tt), (tt, tt));
  sequences = All-cons (λ (row : Row). row.sequence < 2 ^ 56) older_row (newer_row ∷ []) (omega arith)
      (All-cons (λ (row : Row). row.sequence < 2 ^ 56) newer_row [] (omega arith) (All-nil (λ (row : Row). row.sequence < 2 ^ 56)));
}

pub next_is : IsTable next_table next_rows 6 its_session
unfolding next_table
next_is = record {
  is = record { is = refl; are_rows = rows_are; number_fits = omega arith; session_len = refl };
  spelled = session_is;
  small = omega (arith, next_size);
}

-- ---- the edits

smallest_is : IsKey next_info.smallest
smallest_is = record { key = 98 ∷ []; sequence = 2; kind = Put; parts = record { is = refl; below = omega arith }; fits = omega arith }

largest_is : IsKey next_info.largest
largest_is = record { key = 99 ∷ []; sequence = 3; kind = Put; parts = record { is = refl; below = omega arith }; fits = omega arith }

place_is : IsPlace 0 6
place_is = record { level_is = omega arith; number_is = record { some = omega arith; most = omega arith } }

info_is : version.IsTable next_info
info_is = record { session = session_is; size = omega (arith, next_size); smallest = smallest_is; largest = largest_is }

next_edit_is : IsEdit next_edit
unfolding AreFields InRange Before rank_of
next_edit_is = record {
  fields = (
    record { range = record { some = omega arith; most = omega arith }; behind = inl (omega arith) },
    (
      record { range = (omega arith, omega arith); behind = inl (omega arith) },
      (
        record { range = omega arith; behind = inl (omega arith) },
        (record { range = (place_is, info_is); behind = inl (omega arith) }, tt),
      ),
    ),
  );
}

not_there : finmap.get its_version 6 ≡ None
not_there = finmap.get-insert nat_cmp_total empty_version 3 its_placed 6 ∙ finmap.get-empty nat_cmp 6

pub next_entries : finmap.entries next_version ≡ (3, its_placed) ∷ (6, next_placed) ∷ []
next_entries = finmap.entries-insert nat_cmp_total its_version 6 next_placed ∙ ap (finmap.put nat_cmp 6 next_placed) entries_are

next_applied : applied its_version next_edit ≡ Ok next_version
unfolding applied changed added dropped clash
next_applied =
    ap (λ (found : Option Placed). leveled (cond (is_some found) None (Some next_version))) not_there
    ∙ ap (λ (es : List (ℕ × Placed)). refused_by next_version (overlaps_from 6 1 es)) next_entries

next_version_is : version_after next_parts.edits ≡ Ok next_version
unfolding version_after
next_version_is = ap (λ (r : Result Tables ApplyError). applied_after r next_edit) version_is ∙ next_applied

pub next_are : AreEdits next_parts.edits
next_are = record {
  first = refl;
  each = All-cons IsEdit its_edit (next_edit ∷ []) edit_is (All-cons IsEdit next_edit [] next_edit_is (All-nil IsEdit));
  taken = record { tables = next_version; is = next_version_is };
}

pub next_tables : tables_after next_parts.edits ≡ next_version
unfolding tables_after
next_tables = ap tables_or_none next_version_is

pub next_log : log_after next_parts.edits ≡ 7
unfolding log_after numbers_after
next_log = refl

pub next_last : last_after next_parts.edits ≡ 3
unfolding last_after numbers_after
next_last = refl

-- ---- the version

abbrev pub IsOneOfTwo : ℕ → Placed → Type 0
IsOneOfTwo number placed = ((number ≡ 6) × (placed ≡ next_placed)) ⊎ ((number ≡ 3) × (placed ≡ its_placed))

pub two_tables : (number : ℕ) (placed : Placed) → finmap.get next_version number ≡ Some placed → IsOneOfTwo number placed
two_tables number placed is =
    elim (eq_by_cmp nat_cmp number 6) as (λ b. eq_by_cmp nat_cmp number 6 ≡ b
    → cond b (Some next_placed) (finmap.get its_version number) ≡ Some placed → IsOneOfTwo number placed) [
      | true ↦ λ same h. inl (equal_number number 6 same, placed_once placed next_placed (sym h))
      | false ↦ λ other h. inr (only_table number placed h)
    ] refl (sym (finmap.get-insert nat_cmp_total its_version 6 next_placed number) ∙ is)
  where
    placed_once : (x y : Placed) → Some x ≡ Some y → x ≡ y
    placed_once x y same = cc

pub two_after : (number : ℕ) (placed : Placed) → finmap.get (tables_after next_parts.edits) number ≡ Some placed → IsOneOfTwo number placed
two_after number placed is = two_tables number placed (ap (λ (tables : Tables). finmap.get tables number) (sym next_tables) ∙ is)

-- what holds of both tables
pub each_of_two : (P : ℕ → Placed → Type 0) → P 6 next_placed → P 3 its_placed → (number : ℕ) (placed : Placed)
    → IsOneOfTwo number placed → P number placed
each_of_two P six three number placed (inl is) = subst (λ (n : ℕ). P n placed) (sym is.0) (subst (P 6) (sym is.1) six)
each_of_two P six three number placed (inr is) = subst (λ (n : ℕ). P n placed) (sym is.0) (subst (P 3) (sym is.1) three)

next_table_rows : rows_of_tables (tables_after next_parts.edits) next_parts.rows ≡ its_row ∷ older_row ∷ newer_row ∷ []
next_table_rows =
    ap (λ (tables : Tables). rows_of_tables tables next_parts.rows) next_tables
    ∙ ap (flat_map (λ (table : ℕ × Placed). next_parts.rows table.0)) next_entries

pub next_shows : contents_of (rows_of_tables (tables_after next_parts.edits) next_parts.rows)
    ≡ replayed finmap.empty (tabled ∷ older ∷ newer ∷ [])
next_shows =
    ap contents_of next_table_rows
    ∙ contents_replayed [] 1 (tabled ∷ older ∷ newer ∷ []) (All-nil (λ (row : Row). row.sequence < 1))
    ∙ ap (λ (m : Contents). replayed m (tabled ∷ older ∷ newer ∷ [])) no_contents

abbrev IsUpTo : ℕ → Row → Type 0
IsUpTo last row = (1 ≤ row.sequence) × (row.sequence ≤ last)

next_listed : IsAsListed next_info next_rows 3
unfolding last_key
next_listed = record {
  first = older_row;
  more = newer_row ∷ [];
  rows_are = refl;
  smallest = refl;
  largest = refl;
  sequences = All-cons (IsUpTo 3) older_row (newer_row ∷ []) (omega arith, omega arith)
      (All-cons (IsUpTo 3) newer_row [] (omega arith, omega arith) (All-nil (IsUpTo 3)));
}

level_zero : (number : ℕ) (placed : Placed) → IsOneOfTwo number placed → placed.level ≡ 0
level_zero = each_of_two (λ number placed. placed.level ≡ 0) refl refl

pub next_lawful : AreLawful next_parts.edits next_parts.rows
unfolding IsDistinct
next_lawful = record {
  leveled = record {
    apart = λ m n a b at_m at_n differ some same. absurd (omega (arith, some, level_zero m a (two_after m a at_m)));
    older = λ m n a b at_m at_n deeper. absurd (omega (arith, deeper, level_zero n b (two_after n b at_n)));
  };
  listed = λ number placed is.
      subst (IsAsListed placed.info (next_parts.rows number)) (sym next_last)
      (each_of_two (λ n p. IsAsListed p.info (next_parts.rows n) 3) next_listed (is_listed 3 (omega arith)) number placed
      (two_after number placed is));
  distinct = subst (λ (rows : List Row). IsDistinct nat_eq (sequences rows)) (sym next_table_rows)
      ((refl, (refl, tt)), ((refl, tt), (tt, tt)));
}

-- ---- the manifest, with a front of what is added

pub manifest_grows : its_manifest ++ added_record ≡ next_manifest
unfolding its_manifest added_record next_manifest
manifest_grows = refl

abbrev pub SaysOneOrTwo : List ℕ → Type 0
SaysOneOrTwo text = IsManifest text (its_edit ∷ []) ⊎ IsManifest text (its_edit ∷ next_edit ∷ [])

one_or_two : (text : List ℕ) (count : ℕ) → 1 ≤ count → IsManifest text (take count next_parts.edits) → SaysOneOrTwo text
one_or_two text zero some is = absurd (omega (arith, some))
one_or_two text (suc zero) some is = inl is
one_or_two text (suc (suc more)) some is = inr (subst (λ (l : List Edit). IsManifest text (its_edit ∷ next_edit ∷ l)) (take_none more) is)

pub cut_says : (n : ℕ) → length its_manifest ≤ n → SaysOneOrTwo (take n next_manifest)
unfolding its_manifest next_manifest
cut_says n least =
    let keeps = log_keeps (map edit_text (its_edit ∷ [])) (map edit_text (next_edit ∷ [])) n least in
    let some : 1 ≤ length (front (take n next_manifest)) = omega
    (arith, ap (λ (l : List (List ℕ)). length l) keeps.is, length-append (map edit_text (its_edit ∷ [])) keeps.rest) in
    one_or_two (take n next_manifest) (length (front (take n next_manifest))) some (manifest_cut next_parts.edits n next_are some)

pub front_says : (n : ℕ) → SaysOneOrTwo (its_manifest ++ take n added_record)
front_says n =
    subst SaysOneOrTwo (ap (take (length its_manifest + n)) (sym manifest_grows) ∙ take_past
    (length its_manifest + n) n its_manifest added_record refl)
    (cut_says (length its_manifest + n) (omega arith))
