-- No piece of a batch's text begins another, so a text is read in one way.
use Rattle.std.proofs.Common.{◌≡◌, ℕ, ◌<◌, ◌≤◌, ◌⊎◌, inl, inr, List, [], ◌∷◌, ◌++◌, length, refl, sym, ap, ◌∙◌, arith, append_assoc}
use Rattle.std.specs.List.{flat_map}
use Rattle.std.proofs.lemmas.Bool.{cases_lt}
use Rattle.lsm_bytes.specs.Varint.{IsVarint, varint}
use Rattle.lsm_bytes.proofs.Spelling.{IsVarint-varint, IsVarint-rest, IsVarint-last, IsVarint-none, IsRest}
use Rattle.lsm_rows.specs.declared.operations.Op.{Op}
use Rattle.lsm_rows.specs.declared.operations.Op.TheVariants.{Put, Delete}
use Rattle.lsm_rows.specs.BatchText.{sized, op_text}

-- two joins of spellings are joins of the same ones
spelled_once : (a b x y : List ℕ) (m n : ℕ) → IsVarint a m → IsVarint b n → a ++ x ≡ b ++ y → (m ≡ n) × (x ≡ y)
spelled_once [] b x y m n is other same = absurd (IsVarint-none m is)
spelled_once (c ∷ a) [] x y m n is other same = absurd (IsVarint-none n other)
spelled_once (c ∷ a) (d ∷ b) x y m n is other same =
    let head : c ≡ d = cc in
    let tail : a ++ x ≡ b ++ y = cc in
    by_size (cases_lt c 128) head tail (λ (p q : ℕ) (one : IsVarint a p) (two : IsVarint b q). spelled_once a b x y p q one two tail)
  where
    by_size : (c < 128) ⊎ (128 ≤ c) → c ≡ d → a ++ x ≡ b ++ y → ((p q : ℕ) → IsVarint a p → IsVarint b q → (p ≡ q) × (x ≡ y)) → (m ≡ n) × (x ≡ y)
    by_size (inl low) head tail next =
        let last : (m ≡ c) × (a ≡ []) = IsVarint-last c a m low is in
        let also : (n ≡ d) × (b ≡ []) = IsVarint-last d b n (omega arith) other in
        (omega (arith, last.0, also.0), sym (ap (λ (l : List ℕ). l ++ x) last.1) ∙ tail ∙ ap (λ (l : List ℕ). l ++ y) also.1)
    by_size (inr up) head tail next =
        let r : IsRest c a m = IsVarint-rest c a m up is in
        let q : IsRest d b n = IsVarint-rest d b n (omega arith) other in
        let both : (r.high ≡ q.high) × (x ≡ y) = next r.high q.high r.rest q.rest in
        (omega (arith, both.0, r.sum, q.sum), both.1)

pub varint_once : (m n : ℕ) (x y : List ℕ) → varint m ++ x ≡ varint n ++ y → (m ≡ n) × (x ≡ y)
varint_once m n x y same = spelled_once (varint m) (varint n) x y m n (IsVarint-varint m) (IsVarint-varint n) same

pub same_length : (a b x y : List ℕ) → length a ≡ length b → a ++ x ≡ b ++ y → (a ≡ b) × (x ≡ y)
same_length [] [] x y size same = (refl, same)
same_length [] (d ∷ b) x y size same = absurd (omega (arith, size))
same_length (c ∷ a) [] x y size same = absurd (omega (arith, size))
same_length (c ∷ a) (d ∷ b) x y size same =
    let head : c ≡ d = cc in
    let rest = same_length a b x y (omega (arith, size)) cc in
    ((λ i. head i ∷ rest.0 i), rest.1)

pub sized_once : (a b x y : List ℕ) → sized a ++ x ≡ sized b ++ y → (a ≡ b) × (x ≡ y)
unfolding sized
sized_once a b x y same =
    let lens = varint_once (length a) (length b) (a ++ x) (b ++ y) (sym (append_assoc (varint (length a)) a x) ∙ same ∙ append_assoc (varint (length b)) b y) in
    same_length a b x y lens.0 lens.1

pub op_once : (a b : Op) (x y : List ℕ) → op_text a ++ x ≡ op_text b ++ y → (a ≡ b) × (x ≡ y)
unfolding op_text
op_once (Put k v) (Put l w) x y same =
    let tail : (sized k ++ sized v) ++ x ≡ (sized l ++ sized w) ++ y = cc in
    let key = sized_once k l (sized v ++ x) (sized w ++ y) (sym (append_assoc (sized k) (sized v) x) ∙ tail ∙ append_assoc (sized l) (sized w) y) in
    let value = sized_once v w x y key.1 in
    ((λ i. Put (key.0 i) (value.0 i)), value.1)
op_once (Put k v) (Delete l) x y same = cc
op_once (Delete k) (Put l w) x y same = cc
op_once (Delete k) (Delete l) x y same =
    let tail : sized k ++ x ≡ sized l ++ y = cc in
    let key = sized_once k l x y tail in
    (ap Delete key.0, key.1)

-- longer operations begin with the shorter ones
pub record IsLonger (ops longer : List Op) (t : List ℕ) : Type 0 where
  pub op : Op
  pub more : List Op
  pub ops_are : longer ≡ ops ++ op ∷ more
  pub text : t ≡ op_text op ++ flat_map op_text more

pub ops_once : (ops longer : List Op) (t : List ℕ) → length ops < length longer → flat_map op_text longer ≡ flat_map op_text ops ++ t → IsLonger ops longer t
ops_once ops [] t less same = absurd (omega (arith, less))
ops_once [] (op ∷ longer) t less same = record { op = op; more = longer; ops_are = refl; text = sym same }
ops_once (first ∷ ops) (op ∷ longer) t less same =
    let one = op_once op first (flat_map op_text longer) (flat_map op_text ops ++ t) (same ∙ append_assoc (op_text first) (flat_map op_text ops) t) in
    let rest = ops_once ops longer t (omega (arith, less)) one.1 in
    record { op = rest.op; more = rest.more; ops_are = (λ i. one.0 i ∷ rest.ops_are i); text = rest.text }

-- as many operations are the same
pub ops_same : (ops others : List Op) (t : List ℕ) → length ops ≡ length others → flat_map op_text others ≡ flat_map op_text ops ++ t → (others ≡ ops) × (t ≡ [])
ops_same [] [] t size same = (refl, sym same)
ops_same [] (op ∷ others) t size same = absurd (omega (arith, size))
ops_same (first ∷ ops) [] t size same = absurd (omega (arith, size))
ops_same (first ∷ ops) (op ∷ others) t size same =
    let one = op_once op first (flat_map op_text others) (flat_map op_text ops ++ t) (same ∙ append_assoc (op_text first) (flat_map op_text ops) t) in
    let rest = ops_same ops others t (omega (arith, size)) one.1 in
    ((λ i. one.0 i ∷ rest.0 i), rest.1)
