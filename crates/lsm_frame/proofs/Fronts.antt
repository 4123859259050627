-- What was read stays read.
use Rattle.std.proofs.Common.{◌≡◌, inl, inr, ℕ, ◌≤◌, List, [], ◌++◌, length, take, drop, map, ap, sym, ◌∙◌, arith}
use Rattle.std.proofs.lemmas.List.{append-nil, take-append-drop, take-take, map-append}
use Rattle.lsm_frame.specs.Records.{Ending, Piece, pieces, records_of, front, end_of}
use Rattle.lsm_frame.specs.Growth.{IsOpen, Extends}
use Rattle.lsm_frame.specs.Begins.{Begins}
use Rattle.lsm_frame.specs.declared.ending.Ending.TheVariants.{End}
use Rattle.lsm_frame.proofs.Resuming.{resume}
use Rattle.lsm_frame.proofs.Joins.{extends_joined}

pub pieces_extend : (n m place offset : ℕ) (t u : List ℕ) → length t ≤ n → length (t ++ u) ≤ m → offset ≤ 32768 → Extends (pieces n place offset t) (pieces m place offset (t ++ u))
pieces_extend n m place offset t u short long inside = elim (resume n m place offset t u short long inside) [
  | inl same ↦ inl same.1
  | inr on ↦ inr (on.may, record { rest = (pieces on.fuel on.spot on.within (on.rest ++ u)).0; is = ap (λ (r : List Piece × Ending). r.0) on.same })
]

pub stays_read : (text more : List ℕ) → Extends (records_of text) (records_of (text ++ more))
unfolding records_of
stays_read text more = extends_joined (pieces (length text) 0 0 text) (pieces (length (text ++ more)) 0 0 (text ++ more)) (pieces_extend (length text) (length (text ++ more)) 0 0 text more (omega arith) (omega arith) (omega arith))

-- the records of a text begin those of a longer one
pub front_grows : (text more : List ℕ) → Begins (front text) (front (text ++ more))
front_grows text more = elim (stays_read text more) [
  | inl same ↦ record { rest = []; is = ap (λ (r : List (ℕ × List ℕ) × Ending). payloads r) same ∙ sym (append-nil (front text)) }
  | inr on ↦ record { rest = map (λ (r : ℕ × List ℕ). r.1) on.1.rest; is = ap (λ (l : List (ℕ × List ℕ)). map (λ (r : ℕ × List ℕ). r.1) l) on.1.is ∙ map-append (λ (r : ℕ × List ℕ). r.1) (records_of text).0 on.1.rest }
]
  where
    payloads : List (ℕ × List ℕ) × Ending → List (List ℕ)
    payloads r = map (λ (p : ℕ × List ℕ). p.1) r.0

-- a text that ends whole is open wherever it is cut
pub cut_open : (text : List ℕ) (n : ℕ) → end_of text ≡ End → IsOpen (end_of (take n text))
cut_open text n e = elim (stays_read (take n text) (drop n text)) [
  | inl same ↦
      let is : end_of text ≡ end_of (take n text) = ap (λ (l : List ℕ). end_of l) (sym (take-append-drop n text)) ∙ ap (λ (r : List (ℕ × List ℕ) × Ending). r.1) same in
      let ends : end_of (take n text) ≡ End = sym is ∙ e in
      rw ends tt
  | inr on ↦ on.0
]

pub front_cut : (text : List ℕ) (n : ℕ) → Begins (front (take n text)) (front text)
front_cut text n =
    let b = front_grows (take n text) (drop n text) in
    record { rest = b.rest; is = ap (λ (l : List ℕ). front l) (sym (take-append-drop n text)) ∙ b.is }

pub front_cuts : (text : List ℕ) (n m : ℕ) → n ≤ m → Begins (front (take n text)) (front (take m text))
front_cuts text n m le =
    let b = front_cut (take m text) n in
    record { rest = b.rest; is = b.is ∙ ap (λ (l : List ℕ). front l ++ b.rest) (take-take n m text le) }

pub front_agrees : (a b : List ℕ) (n : ℕ) → take n a ≡ take n b → Begins (front (take n a)) (front b)
front_agrees a b n e =
    let c = front_cut b n in
    record { rest = c.rest; is = c.is ∙ ap (λ (l : List ℕ). front l ++ c.rest) (sym e) }
