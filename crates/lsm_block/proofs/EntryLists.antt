-- Texts of several entries: what one more adds, and that a text is that of one list.
use Rattle.std.proofs.Common.{◌≡◌, ℕ, ◌+◌, ◌/◌, ◌%◌, ◌^◌, ◌<◌, ◌≤◌, ◌⊎◌, inl, inr, List, [], ◌∷◌, ◌++◌, length, drop, refl, sym, ap, ◌∙◌, subst, arith, append_assoc, length-append}
use Rattle.std.proofs.lemmas.List.{append-nil}
use Rattle.lsm_block.specs.declared.entries.Entry.{Entry}
use Rattle.lsm_block.specs.BlockText.{shared_len, entry_text, entries_from, entries_text, parts_text}
use Rattle.lsm_block.specs.Parts.{last_from, last_key, next_text}
use Rattle.lsm_block.proofs.EntryParts.{entry_once}
use Rattle.lsm_bytes.specs.Varint.{varint, IsVarint}
use Rattle.lsm_bytes.proofs.Spelling.{IsVarint-varint, IsVarint-none, IsVarint-length_64}
use Rattle.lsm_rows.proofs.ReadNumbers.{number_joined}
use Rattle.lsm_rows.proofs.BatchSizes.{one_byte}

pub entries-nil : (number : ℕ) (before : List ℕ) → entries_from number before [] ≡ []
unfolding entries_from
entries-nil number before = refl

pub entries-cons : (number : ℕ) (before : List ℕ) (e : Entry) (es : List Entry) → entries_from number before (e ∷ es) ≡ entry_text number before e ++ entries_from (number + 1) e.key es
unfolding entries_from
entries-cons number before e es = refl

next_number : (number n : ℕ) → number + 1 + n ≡ number + (n + 1)
next_number number n = omega arith

-- entries behind entries
pub entries-append : (number : ℕ) (before : List ℕ) (a b : List Entry) → entries_from number before (a ++ b) ≡ entries_from number before a ++ entries_from (number + length a) (last_from before a) b
entries-append number before [] b =
    ap (λ n. entries_from n before b) (omega arith) ∙ ap (λ s. s ++ entries_from (number + length {A = Entry} []) before b) (sym (entries-nil number before))
entries-append number before (e ∷ a) b =
    entries-cons number before e (a ++ b)
    ∙ ap (λ s. entry_text number before e ++ s) (entries-append (number + 1) e.key a b ∙ ap (λ n. entries_from (number + 1) e.key a ++ entries_from n (last_from e.key a) b) (omega arith))
    ∙ sym (append_assoc (entry_text number before e) (entries_from (number + 1) e.key a) (entries_from (number + length (e ∷ a)) (last_from e.key a) b))
    ∙ ap (λ s. s ++ entries_from (number + length (e ∷ a)) (last_from e.key a) b) (sym (entries-cons number before e a))

entries-one : (number : ℕ) (before : List ℕ) (e : Entry) → entries_from number before (e ∷ []) ≡ entry_text number before e
entries-one number before e = entries-cons number before e [] ∙ ap (λ s. entry_text number before e ++ s) (entries-nil (number + 1) e.key) ∙ append-nil (entry_text number before e)

pub last_key-is : (es : List Entry) → last_key es ≡ last_from [] es
unfolding last_key
last_key-is es = refl

-- one entry more
pub entries-push : (es : List Entry) (e : Entry) → entries_text (es ++ e ∷ []) ≡ entries_text es ++ next_text es e
entries-push es e =
    entries-append 0 [] es (e ∷ []) ∙ ap (λ s. entries_text es ++ s) (entries-one (0 + length es) (last_from [] es) e
    ∙ (λ i. entry_text (number i) (sym (last_key-is es) i) e))
  where
    number : 0 + length es ≡ length es
    number = omega arith

pub last_from-push : (before : List ℕ) (es : List Entry) (e : Entry) → last_from before (es ++ e ∷ []) ≡ e.key
last_from-push before [] e = refl
last_from-push before (d ∷ es) e = last_from-push d.key es e

pub last_key-push : (es : List Entry) (e : Entry) → last_key (es ++ e ∷ []) ≡ e.key
unfolding last_key
last_key-push es e = last_from-push [] es e

-- a number's spelling has a byte at least
pub varint_some : (n : ℕ) → 1 ≤ length (varint n)
varint_some n = by_list (varint n) (IsVarint-none n) (IsVarint-varint n)
  where
    by_list : (s : List ℕ) → (IsVarint [] n → ⊥) → IsVarint s n → 1 ≤ length s
    by_list [] none is = absurd (none is)
    by_list (x ∷ s) none is = omega arith

pub parts_some : (shared : ℕ) (rest value : List ℕ) → 1 ≤ length (parts_text shared rest value)
unfolding parts_text
parts_some shared rest value =
    omega (
      arith,
      varint_some shared,
      length-append (varint shared ++ varint (length rest) ++ varint (length value) ++ rest) value,
      length-append (varint shared ++ varint (length rest) ++ varint (length value)) rest,
      length-append (varint shared ++ varint (length rest)) (varint (length value)),
      length-append (varint shared) (varint (length rest)),
    )

pub entry_some : (number : ℕ) (before : List ℕ) (e : Entry) → 1 ≤ length (entry_text number before e)
unfolding entry_text
entry_some number before e = parts_some (shared_len number before e.key) (drop (shared_len number before e.key) e.key) e.value

-- there are no more entries than bytes
pub entries_many : (number : ℕ) (before : List ℕ) (es : List Entry) → length es ≤ length (entries_from number before es)
entries_many number before [] = omega arith
entries_many number before (e ∷ es) =
    omega (arith, ap (length {A = ℕ}) (entries-cons number before e es), length-append (entry_text number before e) (entries_from (number + 1) e.key es), entry_some number before e, entries_many (number + 1) e.key es)

-- a list of entries begins a longer one, and here the next entry's text begins
pub record GoesOn (number : ℕ) (before : List ℕ) (a b : List Entry) (t : List ℕ) : Type 0 where
  pub e : Entry
  pub more : List Entry
  pub is : b ≡ a ++ e ∷ more
  pub rest : List ℕ
  pub text : t ≡ entry_text (number + length a) (last_from before a) e ++ rest

abbrev pub Runs : ℕ → List ℕ → List Entry → List Entry → List ℕ → List ℕ → Type 0
Runs number before a b x y = ((a ≡ b) × (x ≡ y)) ⊎ (GoesOn number before a b x ⊎ GoesOn number before b a y)

first_goes_on : (number : ℕ) (before : List ℕ) (e : Entry) (b : List Entry) (x y : List ℕ) → x ≡ entries_from number before (e ∷ b) ++ y → GoesOn number before [] (e ∷ b) x
first_goes_on number before e b x y same = record {
  e = e;
  more = b;
  is = refl;
  rest = entries_from (number + 1) e.key b ++ y;
  text =
      same ∙ ap (λ s. s ++ y) (entries-cons number before e b) ∙ append_assoc (entry_text number before e) (entries_from (number + 1) e.key b) y
      ∙ ap (λ n. entry_text n before e ++ (entries_from (number + 1) e.key b ++ y)) (omega arith);
}

longer_goes_on : (number : ℕ) (before : List ℕ) (d e : Entry) (a b : List Entry) (x : List ℕ) → d ≡ e → GoesOn (number + 1) d.key a b x → GoesOn number before (d ∷ a) (e ∷ b) x
longer_goes_on number before d e a b x same g = record {
  e = g.e;
  more = g.more;
  is = (λ i. sym same i ∷ g.is i);
  rest = g.rest;
  text = g.text ∙ ap (λ n. entry_text n (last_from d.key a) g.e ++ g.rest) (omega arith);
}

-- of two lists whose texts begin the same bytes, one begins the other
pub runs : (number : ℕ) (before : List ℕ) (a b : List Entry) (x y : List ℕ) → entries_from number before a ++ x ≡ entries_from number before b ++ y → Runs number before a b x y
runs number before [] [] x y same = inl (refl, ap (λ s. s ++ x) (sym (entries-nil number before)) ∙ same ∙ ap (λ s. s ++ y) (entries-nil number before))
runs number before [] (e ∷ b) x y same = inr (inl (first_goes_on number before e b x y (ap (λ s. s ++ x) (sym (entries-nil number before)) ∙ same)))
runs number before (d ∷ a) [] x y same = inr (inr (first_goes_on number before d a y x (ap (λ s. s ++ y) (sym (entries-nil number before)) ∙ sym same)))
runs number before (d ∷ a) (e ∷ b) x y same =
    let apart = sym (ap (λ s. s ++ x) (entries-cons number before d a) ∙ append_assoc (entry_text number before d) (entries_from (number + 1) d.key a) x) ∙ same
    ∙ ap (λ s. s ++ y) (entries-cons number before e b) ∙ append_assoc (entry_text number before e) (entries_from (number + 1) e.key b) y in
    let one = entry_once number before d e (entries_from (number + 1) d.key a ++ x) (entries_from (number + 1) e.key b ++ y) apart in
    by_rest one.0 (runs (number + 1) d.key a b x y (one.1 ∙ ap (λ (k : Entry). entries_from (number + 1) k.key b ++ y) (sym one.0)))
  where
    by_rest : d ≡ e → Runs (number + 1) d.key a b x y → Runs number before (d ∷ a) (e ∷ b) x y
    by_rest first (inl r) = inl ((λ i. first i ∷ r.0 i), r.1)
    by_rest first (inr (inl g)) = inr (inl (longer_goes_on number before d e a b x first g))
    by_rest first (inr (inr g)) = inr (inr (longer_goes_on number before e d b a y (sym first) (subst (λ (k : Entry). GoesOn (number + 1) k.key b a y) first g)))

-- a longer number takes a byte more than its upper bits
pub varint_longer : (n : ℕ) → 128 ≤ n → length (varint n) ≡ 1 + length (varint (n / 128))
varint_longer n high =
    ap (λ k. length (varint k)) (omega arith) ∙ sym (ap (length {A = ℕ}) (number_joined (n % 128 + 128) (n / 128) (omega arith) (omega arith) (omega arith))) ∙ omega arith

-- a number of 64 bits takes ten bytes at most
pub varint_small : (n : ℕ) → n < 2 ^ 64 → length (varint n) ≤ 10
varint_small n fits = IsVarint-length_64 (varint n) n fits (IsVarint-varint n)
