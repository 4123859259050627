-- How far a table is read by a run.
use Rattle.std.specs.Prelude.{◌≡◌, ℕ, ◌+◌, ◌-◌, ◌<◌, ◌≤◌, List, [], ◌∷◌, ◌++◌, length, take, get_or, Option, Some}
use Rattle.std.proofs.Common.{refl, sym, ap, ◌∙◌, arith}
use Rattle.std.proofs.lemmas.List.{take_more, take_all}
use Rattle.lsm_rows.specs.declared.rows.Row.{Row}
use Rattle.lsm_block.specs.TableText.{row_entry}
use Rattle.lsm_compact.specs.Reading.{read_to}

read_none : (after : Option (List ℕ)) (run : List Row) → run ≡ [] → after ≡ read_to after run
unfolding read_to
read_none after run none = ap (read_to after) (sym none)

read_last : (after : Option (List ℕ)) (rows : List Row) (row : Row) → read_to after (rows ++ row ∷ []) ≡ Some
    (row_entry row).key
unfolding read_to
read_last after [] row = refl
read_last after (first ∷ rows) row = read_last (Some (row_entry first).key) rows row

pub read_end : (after : Option (List ℕ)) (items run : List Row) (row : Row) → items ≡ run → 0 < length items
    → row ≡ get_or items (length items - 1) row → Some (row_entry row).key ≡ read_to after run
read_end after items run row same some is =
    let more = take_more items (length items - 1) row (omega (arith, some)) in
    let all = take_all (length items - 1 + 1) items (omega (arith, some)) in
    let run_is : run ≡ take (length items - 1) items ++ row ∷ [] =
    sym same ∙ sym all ∙ more ∙ ap (λ (r : Row). take (length items - 1) items ++ r ∷ []) (sym is) in
    sym (ap (read_to after) run_is ∙ read_last after (take (length items - 1) items) row)

nothing : (items : List Row) → length items ≤ 0 → items ≡ []
nothing [] none = refl
nothing (row ∷ rows) none = absurd (omega (arith, none))

pub read_nothing : (after : Option (List ℕ)) (items run : List Row) → items ≡ run → length items ≤ 0
    → after ≡ read_to after run
read_nothing after items run same none = read_none after run (sym same ∙ nothing items none)
