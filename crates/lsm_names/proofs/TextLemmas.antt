-- What a text is after bytes are written behind it.
use Rattle.std.proofs.Common.{◌≡◌, ℕ, ◌+◌, ◌-◌, ◌≤◌, List, ◌++◌, length, take, drop, ap, sym, ◌∙◌, arith}
use Rattle.std.specs.Prelude.{replicate}
use Rattle.std.proofs.lemmas.List.{drop-drop, drop-replicate}
use Rattle.std.proofs.lemmas.Slice.{take-put_mid, drop-put_mid}
use borrow.Rule.Slice.PartMut.{put_mid, same_len_mid, mid_len}

-- the text goes on with the bytes
pub written : (len end : ℕ) (bytes new more front : List ℕ) → new ≡ more → end ≡ len + length more → len ≤ length bytes → take len bytes ≡ front →
    take end (put_mid len (end - len) bytes new) ≡ front ++ more
written len end bytes new more front same at fits shown =
    take-put_mid len (end - len) bytes new end (at ∙ ap (λ (xs : List ℕ). len + length xs) (sym same)) fits ∙ cc

-- the room keeps its length
pub same_room : (n len end : ℕ) (bytes new : List ℕ) → length new ≡ end - len → end ≤ n → length bytes ≡ n → length (put_mid len (end - len) bytes new) ≡ n
same_room n len end bytes new long within whole =
    same_len_mid len (end - len) bytes new (long ∙ sym (mid_len len end bytes (omega arith))) ∙ whole

-- and zeros stand behind them
pub zeros_behind : (n len end : ℕ) (bytes new : List ℕ) → length new ≡ end - len → len ≤ end → end ≤ n → length bytes ≡ n → drop len bytes ≡ replicate (n - len) 0 →
    drop end (put_mid len (end - len) bytes new) ≡ replicate (n - end) 0
zeros_behind n len end bytes new long at within whole zeros =
    let gap : len + (end - len) ≡ end = omega arith in
    let rest : n - len - (end - len) ≡ n - end = omega arith in
    let behind : drop end bytes ≡ drop (end - len) (drop len bytes) = ap (λ (k : ℕ). drop k bytes) (sym gap) ∙ sym (drop-drop (end - len) len bytes) in
    let fewer : drop (end - len) (drop len bytes) ≡ replicate (n - len - (end - len)) 0 = ap (drop (end - len)) zeros ∙ drop-replicate (end - len) (n - len) 0 in
    drop-put_mid len (end - len) bytes new end (omega arith) (omega arith) long ∙ behind ∙ fewer ∙ ap (λ (k : ℕ). replicate k 0) rest
