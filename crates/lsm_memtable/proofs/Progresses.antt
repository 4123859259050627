-- A flush's table, row by row.
use Rattle.std.proofs.Common.{◌≡◌, ℕ, ◌+◌, ◌*◌, ◌<◌, ◌≤◌, List, [], ◌∷◌, ◌++◌, length, take, refl, sym, ap, ◌∙◌, subst, arith, length-append}
use Rattle.std.specs.Prelude.{map, min}
use Rattle.std.specs.List.{sum_by}
use Rattle.std.proofs.lemmas.List.{take_more, take_all}
use Rattle.std.proofs.lemmas.List.Sums.{sum_by-append, sum_by-cons}
use Rattle.lsm_rows.specs.declared.rows.Row.{Row}
use Rattle.lsm_block.specs.BlockText.{block_text}
use Rattle.lsm_block.specs.TableText.{row_entry, blocks_of, blocks_text}
use Rattle.lsm_table.specs.Cuts.{size_of}
use Rattle.lsm_table.specs.Building.{Built, IsBuilt, row_len}
use Rattle.lsm_table.proofs.Cutting.{size-is}
use Rattle.lsm_table.proofs.BuiltRows.{blocks-none}
use Rattle.lsm_memtable.specs.declared.progress.Progress.{Progress}
use Rattle.lsm_memtable.specs.Sizes.{row_bytes, room_of}
use Rattle.lsm_memtable.specs.Flushes.{bytes_of}
use Rattle.lsm_memtable.specs.Flushing.{IsProgress, IsRowAt}

-- what was handed out and what wasn't are the ended blocks
pub all_ended : (v : Built) (rows : List Row) (handed : List ℕ) → IsBuilt v rows handed → handed ++ v.blocks.pending ≡ blocks_text (blocks_of (map row_entry rows)).ended
all_ended v rows handed built = built.blocks_are.text_is

pub none_pending : (v : Built) (rows : List Row) (handed piece : List ℕ) → IsBuilt v rows handed → v.blocks.pending ≡ piece → handed ++ piece ≡ blocks_text (blocks_of (map row_entry rows)).ended
none_pending v rows handed piece built none = ap (λ l. handed ++ l) (sym none) ∙ all_ended v rows handed built

-- the size of the data blocks is that of the rows
built_size : (v w : Built) (rows : List Row) (handed other : List ℕ) → IsBuilt v rows handed → IsBuilt w rows other → size_of w.blocks ≡ size_of v.blocks
built_size v w rows handed other first second =
    size-is w.blocks
    ∙ (λ i. (second.blocks_are.place_is ∙ sym first.blocks_are.place_is) i + length (block_text ((second.blocks_are.begun_is ∙ sym first.blocks_are.begun_is) i)))
    ∙ sym (size-is v.blocks)

pub room-is : (rows : List Row) → room_of rows ≡ sum_by row_bytes rows + 100 * length rows
unfolding room_of
room-is rows = refl

pub room-push : (rows : List Row) (row : Row) → room_of (rows ++ row ∷ []) ≡ room_of rows + row_len row + 108
room-push rows row = omega (arith, room-is rows, room-is (rows ++ row ∷ []), sum_by-append row_bytes rows (row ∷ []), length-append rows (row ∷ []), sum_by-cons row_bytes row [])

bytes-is : (rows : List Row) (count : ℕ) → bytes_of rows count ≡ blocks_text (blocks_of (map row_entry (take count rows))).ended
unfolding bytes_of
bytes-is rows count = refl

bytes_at : (rows : List Row) (n : ℕ) (first : List Row) → first ≡ take n rows → blocks_text (blocks_of (map row_entry first)).ended ≡ bytes_of rows n
bytes_at rows n first is = ap (λ l. blocks_text (blocks_of (map row_entry l)).ended) is ∙ sym (bytes-is rows n)

no_text : (rows : List Row) → bytes_of rows 0 ≡ []
unfolding bytes_of blocks_text
no_text rows = ap (λ b. blocks_text b.ended) blocks-none

pub bytes_none : (rows : List Row) → bytes_of rows 0 ≡ []
bytes_none rows = no_text rows

-- no rows yet
pub progress_none : (v : Built) (taken : ℕ) (rows : List Row) → IsBuilt v [] [] → size_of v.blocks ≡ 4 → taken ≤ length rows → IsProgress (record { builder = v; built = 0; taken = taken }) rows
progress_none v taken rows built size within = record {
  built_is = subst (λ l. IsBuilt v [] l) (sym (no_text rows) ∙ ap (bytes_of rows) (let none : 0 ≡ min 0 taken = omega arith in none)) built;
  built_within = omega arith;
  taken_within = within;
  small = omega (arith, size);
}

-- the rows with one more
more_rows : (rows : List Row) (place : ℕ) (row : Row) → IsRowAt rows place row → take (place + 1) rows ≡ take place rows ++ row ∷ []
more_rows rows place row at = take_more rows place row at.within ∙ ap (λ r. take place rows ++ r ∷ []) (sym at.is)

pub progress_added : (p : Progress) (b : Built) (rows : List Row) (row : Row) → IsProgress p rows → IsRowAt rows p.built row → IsBuilt b (take p.built rows ++ row ∷ []) (bytes_of rows (min p.built p.taken))
    → size_of b.blocks ≤ size_of p.builder.blocks + row_len row + 108 → p.taken < p.built + 1 → IsProgress (record { builder = b; built = p.built + 1; taken = p.taken }) rows
progress_added p b rows row was at built size past =
    let same : min p.built p.taken ≡ min (p.built + 1) p.taken = omega (arith, past) in
    record {
      built_is = subst (λ l. IsBuilt b l (bytes_of rows (min (p.built + 1) p.taken))) (sym (more_rows rows p.built row at)) (subst (λ n. IsBuilt b (take p.built rows ++ row ∷ []) (bytes_of rows n)) same built);
      built_within = omega (arith, at.within);
      taken_within = was.taken_within;
      small = omega (arith, size, was.small, room-push (take p.built rows) row, ap room_of (more_rows rows p.built row at));
    }

-- bytes that were handed out before are let go
pub progress_dropped : (p : Progress) (b d : Built) (rows : List Row) (row : Row) (piece : List ℕ) → IsProgress p rows → IsRowAt rows p.built row → size_of b.blocks ≤ size_of p.builder.blocks + row_len row + 108
    → IsBuilt d (take p.built rows ++ row ∷ []) (bytes_of rows (min p.built p.taken) ++ piece) → bytes_of rows (min p.built p.taken) ++ piece ≡ blocks_text (blocks_of (map row_entry (take p.built rows ++ row ∷ []))).ended
    → size_of d.blocks ≡ size_of b.blocks → p.built + 1 ≤ p.taken → IsProgress (record { builder = d; built = p.built + 1; taken = p.taken }) rows
progress_dropped p b d rows row piece was at size built all same_size early =
    let same : p.built + 1 ≡ min (p.built + 1) p.taken = omega (arith, early) in
    let text : bytes_of rows (min p.built p.taken) ++ piece ≡ bytes_of rows (min (p.built + 1) p.taken) = all ∙ bytes_at rows (p.built + 1) (take p.built rows ++ row ∷ []) (sym (more_rows rows p.built row at)) ∙ ap (bytes_of rows) same in
    record {
      built_is = subst (λ l. IsBuilt d l (bytes_of rows (min (p.built + 1) p.taken))) (sym (more_rows rows p.built row at)) (subst (λ l. IsBuilt d (take p.built rows ++ row ∷ []) l) text built);
      built_within = omega (arith, at.within);
      taken_within = was.taken_within;
      small = omega (arith, size, same_size, was.small, room-push (take p.built rows) row, ap room_of (more_rows rows p.built row at));
    }

-- a row that was refused
pub progress_refused : (p : Progress) (b : Built) (rows : List Row) → IsProgress p rows → IsBuilt b (take p.built rows) (bytes_of rows (min p.built p.taken)) → IsProgress (record { builder = b; built = p.built; taken = p.taken }) rows
progress_refused p b rows was built = record {
  built_is = built;
  built_within = was.built_within;
  taken_within = was.taken_within;
  small = omega (arith, was.small, built_size p.builder b (take p.built rows) (bytes_of rows (min p.built p.taken)) (bytes_of rows (min p.built p.taken)) was.built_is built);
}

-- bytes that are handed out
pub handed_bytes : (p : Progress) (rows : List Row) (piece : List ℕ) → IsProgress p rows → p.taken ≤ p.built → bytes_of rows (min p.built p.taken) ++ piece ≡ blocks_text (blocks_of (map row_entry (take p.built rows))).ended
    → bytes_of rows p.taken ++ piece ≡ bytes_of rows p.built
handed_bytes p rows piece was within all =
    let same : p.taken ≡ min p.built p.taken = omega (arith, within) in
    ap (λ n. bytes_of rows n ++ piece) same ∙ all ∙ bytes_at rows p.built (take p.built rows) refl

pub progress_handed : (p : Progress) (b : Built) (rows : List Row) (piece : List ℕ) → IsProgress p rows → p.taken ≤ p.built → IsBuilt b (take p.built rows) (bytes_of rows (min p.built p.taken) ++ piece)
    → bytes_of rows (min p.built p.taken) ++ piece ≡ blocks_text (blocks_of (map row_entry (take p.built rows))).ended → size_of b.blocks ≡ size_of p.builder.blocks → IsProgress (record { builder = b; built = p.built; taken = p.built }) rows
progress_handed p b rows piece was within built all size =
    let text : bytes_of rows (min p.built p.taken) ++ piece ≡ bytes_of rows (min p.built p.built) =
    all ∙ bytes_at rows p.built (take p.built rows) refl ∙ ap (bytes_of rows) (let same : p.built ≡ min p.built p.built = omega arith in same) in
    record {
      built_is = subst (λ l. IsBuilt b (take p.built rows) l) text built;
      built_within = was.built_within;
      taken_within = was.built_within;
      small = omega (arith, was.small, size);
    }

-- all rows are built
pub whole_built : (p : Progress) (rows : List Row) → IsProgress p rows → p.built ≡ length rows → p.taken ≤ p.built → IsBuilt p.builder rows (bytes_of rows p.taken)
whole_built p rows was all within =
    let same : min p.built p.taken ≡ p.taken = omega (arith, within) in
    subst (λ l. IsBuilt p.builder l (bytes_of rows p.taken)) (take_all p.built rows (omega (arith, all))) (subst (λ n. IsBuilt p.builder (take p.built rows) (bytes_of rows n)) same was.built_is)
