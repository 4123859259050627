use Rattle.std.proofs.Common.{◌≡◌, ℕ, ◌<◌, ◌≤◌, List, [], ◌∷◌, map, codes, length, get_or, sym, ap, ◌∙◌, arith}
use Rattle.std.specs.String.{string_bytes}
use Rattle.std.proofs.lemmas.Slice.Eq.{bytes_eq-Decides}
use Rattle.ldb_run.proofs.top.is_script.Goals as goal

single : {X : Type 0} (xs : List X) (x : X) → 1 ≤ length xs → length xs < 2 → x ≡ get_or xs 0 x → xs ≡ x ∷ []
single [] x some few e = absurd (omega arith)
single (y ∷ []) x some few e = ap (λ z. z ∷ []) (sym e)
single (y ∷ z ∷ zs) x some few e = absurd (omega arith)

pub returns-in-len1 : goal.returns-in-len1
returns-in-len1 c =
    let w = c.word-item.result in
    let e : map string_bytes c.args.words.now ≡ string_bytes w ∷ [] = ap (map string_bytes) (single c.args.words.now w c.in-len1.len_at_least (omega arith) c.word-item.is) in (
      λ t. e ∙ ap (λ (b : List ℕ). b ∷ []) (sym c.as_str.ensures.value ∙ (bytes_eq-Decides c.as_str.result.now (codes "script")).0 (sym c.eq.ensures ∙ t)),
      λ s. let same : string_bytes w ≡ codes "script" = cc (e, s) in c.eq.ensures ∙ (bytes_eq-Decides c.as_str.result.now (codes "script")).1 (c.as_str.ensures.value ∙ same),
    )
