-- A text of at most n bytes, and zeros behind it.
use Rattle.std.specs.Prelude.{ℕ, ◌≡◌, ◌-◌, ◌≤◌, List, ◌++◌, length, take, drop, replicate}
use Rattle.std.proofs.Common.{ap, sym, subst, ◌∙◌}
use Rattle.std.proofs.lemmas.List.{take-append-drop, length-take-le}

-- as many bytes are shown as are kept
pub shown_length : (n len : ℕ) (bytes : List ℕ) → len ≤ n → length bytes ≡ n → length (take len bytes) ≡ len
shown_length n len bytes within whole =
    length-take-le len bytes (subst (λ (room : ℕ). len ≤ room) (sym whole) within)

-- what is shown gives all of it back
pub padded_back : (n len : ℕ) (bytes : List ℕ) → len ≤ n → length bytes ≡ n → drop len bytes ≡ replicate (n - len) 0 →
    take len bytes ++ replicate (n - length (take len bytes)) 0 ≡ bytes
padded_back n len bytes within whole zeros =
    ap (λ (shown : ℕ). take len bytes ++ replicate (n - shown) 0) (shown_length n len bytes within whole)
    ∙ ap (λ (behind : List ℕ). take len bytes ++ behind) (sym zeros)
    ∙ take-append-drop len bytes
