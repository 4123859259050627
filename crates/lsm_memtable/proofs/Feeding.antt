-- The newest rows of the keys come into a table.
use Rattle.std.proofs.Common.{◌≡◌, ℕ, ◌+◌, ◌^◌, ◌<◌, ◌≤◌, List, [], ◌∷◌, ◌++◌, length, take, drop, refl, sym, ap, ◌∙◌, subst, arith, take-append-drop, length-append}
use Rattle.std.specs.Prelude.{Some, None, map, slice_get, min}
use Rattle.std.specs.List.{filter}
use Rattle.std.specs.List.Sorted.{IsStrictlySortedBy}
use Rattle.std.proofs.lemmas.List.{take_more}
use Rattle.std.proofs.lemmas.List.Elements.{All-get_or}
use Rattle.std.proofs.lemmas.List.Sums.{sum_by-append}
use Rattle.lsm_rows.specs.declared.rows.Row.{Row}
use Rattle.lsm_rows.specs.Replay.{key_cmp}
use Rattle.lsm_block.specs.TableText.{AreTableRows}
use Rattle.lsm_table.specs.Cuts.{size_of}
use Rattle.lsm_table.specs.Building.{IsBehind, row_len}
use Rattle.lsm_table.proofs.BehindRows.{behind}
use Rattle.lsm_memtable.specs.declared.progress.Progress.{Progress}
use Rattle.lsm_memtable.specs.Sizes.{row_bytes, room_of}
use Rattle.lsm_memtable.specs.Newest.{is_newest, newest_each}
use Rattle.lsm_memtable.specs.Flushes.{bytes_of}
use Rattle.lsm_memtable.specs.Flushing.{IsRowAt, IsReady}
use Rattle.lsm_memtable.proofs.Joins.{room-filter}
use Rattle.lsm_memtable.proofs.Progresses.{room-is, room-push}
use Rattle.lsm_memtable.proofs.Sorting.{sorted_left}
use Rattle.lsm_memtable.proofs.Pushes.{all_left}

-- rows from the first on
map-take : {X Y : Type 0} (f : X → Y) (xs ys : List X) → map f (xs ++ ys) ≡ map f xs ++ map f ys
map-take f [] ys = refl
map-take f (x ∷ xs) ys = ap (λ l. f x ∷ l) (map-take f xs ys)

pub table_front : (front back : List Row) → AreTableRows (front ++ back) → 1 ≤ length front → AreTableRows front
table_front front back are some = record {
  some = some;
  ascend = sorted_left key_cmp (map (λ row. row.key) front) (map (λ row. row.key) back) (subst (IsStrictlySortedBy key_cmp) (map-take (λ row. row.key) front back) are.ascend);
  sequences = all_left (λ row. row.sequence < 2 ^ 56) front back are.sequences;
}

-- a row that is at its place may come into the table
at_place : (rows : List Row) (place : ℕ) (row : Row) → IsRowAt rows place row → rows ≡ (take place rows ++ row ∷ []) ++ drop (place + 1) rows
at_place rows place row at = sym (take-append-drop (place + 1) rows) ∙ ap (λ l. l ++ drop (place + 1) rows) (take_more rows place row at.within ∙ ap (λ r. take place rows ++ r ∷ []) (sym at.is))

pub ready_sequence : (p : Progress) (rows : List Row) (place : ℕ) (versions : List Row) (row : Row) → IsReady p rows place versions → Some row ≡ slice_get versions 0 → row.sequence < 2 ^ 56
ready_sequence p rows place versions row ready first =
    let at : IsRowAt rows place row = ready.row_at row (sym first) in
    subst (λ (r : Row). r.sequence < 2 ^ 56) (sym at.is) (All-get_or (λ r. r.sequence < 2 ^ 56) rows place row at.within ready.are_rows.sequences)

pub ready_behind : (p : Progress) (rows : List Row) (place : ℕ) (versions : List Row) (row : Row) → IsReady p rows place versions → Some row ≡ slice_get versions 0 → p.built ≤ place → IsBehind p.builder row
ready_behind p rows place versions row ready first next =
    let at : IsRowAt rows place row = ready.row_at row (sym first) in
    let same : place ≡ p.built = omega (arith, next, ready.built) in
    let are : AreTableRows (take p.built rows ++ row ∷ []) =
    subst (λ n. AreTableRows (take n rows ++ row ∷ [])) same
    (table_front (take place rows ++ row ∷ []) (drop (place + 1) rows) (subst AreTableRows (at_place rows place row at) ready.are_rows) (omega (arith, length-append (take place rows) (row ∷ [])))) in
    behind p.builder (take p.built rows) row (bytes_of rows (min p.built p.taken)) ready.progress.built_is are

room-append : (front back : List Row) → room_of front ≤ room_of (front ++ back)
room-append front back = let f = room-is front in let a = room-is (front ++ back) in omega (arith, f, a, sum_by-append row_bytes front back, length-append front back)

pub ready_room : (p : Progress) (rows : List Row) (place : ℕ) (versions : List Row) (row : Row) → IsReady p rows place versions → Some row ≡ slice_get versions 0 → p.built ≤ place → size_of p.builder.blocks + row_len row + 108 < 2 ^ 29
ready_room p rows place versions row ready first next =
    let at : IsRowAt rows place row = ready.row_at row (sym first) in
    let same : p.built ≡ place = omega (arith, next, ready.built) in
    let fits : room_of (take place rows ++ row ∷ []) ≤ room_of rows =
    subst (λ l. room_of (take place rows ++ row ∷ []) ≤ room_of l) (sym (at_place rows place row at)) (room-append (take place rows ++ row ∷ []) (drop (place + 1) rows)) in
    omega (arith, fits, room-push (take place rows) row, ready.progress.small, ap (λ n. room_of (take n rows)) same, ready.room)

-- each row takes room
length-le-room : (rows : List Row) → length rows ≤ room_of rows
length-le-room rows = omega (arith, room-is rows)

pub ready_few : (p : Progress) (rows : List Row) (place : ℕ) (versions : List Row) → IsReady p rows place versions → p.built < 2 ^ 32
ready_few p rows place versions ready = omega (arith, ready.progress.built_within, length-le-room rows, ready.room)

pub none_first : (rows : List Row) → None ≡ slice_get rows 0 → 1 ≤ length rows → ⊥
none_first [] none some = absurd (omega (arith, some))
none_first (r ∷ rows) none some = cc

pub row_at_built : (p : Progress) (rows : List Row) (place : ℕ) (versions : List Row) (row : Row) → IsReady p rows place versions → Some row ≡ slice_get versions 0 → p.built ≤ place → IsRowAt rows p.built row
row_at_built p rows place versions row ready first next = let same : place ≡ p.built = omega (arith, next, ready.built) in subst (λ n. IsRowAt rows n row) same (ready.row_at row (sym first))

-- a table that is being fed has few rows
pub few_taken : (rows : List Row) (count : ℕ) → room_of rows + 4 < 2 ^ 29 → count < length (newest_each rows) → count < 2 ^ 29
unfolding newest_each
few_taken rows count room less = omega (arith, less, length-le-room (filter (is_newest rows) rows), room-filter (is_newest rows) rows, room)

pub newest_room : (rows : List Row) → room_of rows + 4 < 2 ^ 29 → room_of (newest_each rows) + 4 < 2 ^ 29
unfolding newest_each
newest_room rows room = omega (arith, room-filter (is_newest rows) rows, room)
