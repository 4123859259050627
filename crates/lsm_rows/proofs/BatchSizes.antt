-- How long texts are, and which test refuses an operation.
use Rattle.std.proofs.Common.{◌≡◌, ℕ, ◌+◌, ◌/◌, ◌<◌, ◌≤◌, List, [], ◌∷◌, ◌++◌, length, refl, ap, ◌∙◌, arith, suc, length-append}
use Rattle.std.specs.Prelude.{Option, Some, None, Result, Ok, Err}
use Rattle.std.proofs.lemmas.Bool.Decides.{nat_tests}
use Rattle.std.proofs.lemmas.Grind.{flat_map-append}
use Rattle.std.proofs.lemmas.List.{append-nil}
use Rattle.std.proofs.lemmas.List.Elements.{All-push}
use Rattle.lsm_bytes.specs.Varint.{varint}
use Rattle.lsm_bytes.proofs.Spelling.{varint_last, varint_more}
use Rattle.lsm_rows.specs.declared.operations.Op.{Op}
use Rattle.lsm_rows.specs.declared.operations.Op.TheVariants.{Put, Delete}
use Rattle.lsm_rows.specs.declared.refusals.BatchRefusal.{BatchRefusal}
use Rattle.lsm_rows.specs.declared.refusals.BatchRefusal.TheVariants.{BatchTooLarge, NoMemory}
use Rattle.lsm_rows.specs.declared.refusals.What.{What}
use Rattle.lsm_rows.specs.declared.refusals.What.TheVariants.{Key, Value, Count, Bytes}
use Rattle.lsm_rows.specs.BatchText.{sized, op_text, batch_text, text_len}
use Rattle.lsm_rows.specs.Limits.{Refused, tested, refusal_of, refused_in, InLimits, OpInLimits, key_len, value_len, key_limit, value_limit, count_limit, bytes_limit}

-- a length below 2^7 takes one byte, below 2^14 two, below 2^21 three
pub one_byte : (n : ℕ) → n < 128 → length (varint n) ≡ 1
unfolding varint
one_byte n below = ap length (varint_last n n below)

pub two_bytes : (n : ℕ) → 128 ≤ n → n < 16384 → length (varint n) ≡ 2
unfolding varint
two_bytes n high below =
    let m = varint_more n n high (omega arith) in
    ap length m.2 ∙ ap (λ (k : ℕ). suc k) (ap length (varint_last m.0 (n / 128) (omega arith)))

pub three_bytes : (n : ℕ) → 16384 ≤ n → n < 2097152 → length (varint n) ≡ 3
unfolding varint
three_bytes n high below =
    let m = varint_more n n (omega arith) (omega arith) in
    let k = varint_more m.0 (n / 128) (omega arith) m.1 in
    ap length m.2 ∙ ap (λ (l : ℕ). suc l) (ap length k.2 ∙ ap (λ (l : ℕ). suc l) (ap length (varint_last k.0 (n / 128 / 128) (omega arith))))

-- a batch's text with one operation more is longer by that operation's text
pub text_len-push : (ops : List Op) (op : Op) → text_len (ops ++ op ∷ []) ≡ text_len ops + length (op_text op)
unfolding batch_text
text_len-push ops op = simp (flat_map-append, length-append, append-nil) (omega arith)

pub text_len-nil : text_len [] ≡ 12
unfolding batch_text
text_len-nil = refl

-- one test, past its limit and within it
tested_past : (what : What) (size limit : ℕ) (later : Option Refused) → limit < size → tested what size limit later ≡ Some (record { what = what; kept = size; limit = limit })
tested_past what size limit later past = grind (arith, nat_tests)

tested_within : (what : What) (size limit : ℕ) (later : Option Refused) → size ≤ limit → tested what size limit later ≡ later
tested_within what size limit later within = grind (arith, nat_tests)

-- the four tests, each behind those before it
abbrev bytes_test : List Op → Op → Option Refused
bytes_test ops op = tested Bytes (text_len (ops ++ op ∷ [])) bytes_limit None

abbrev count_test : List Op → Op → Option Refused
count_test ops op = tested Count (length ops + 1) count_limit (bytes_test ops op)

abbrev value_test : List Op → Op → Option Refused
value_test ops op = tested Value (value_len op) value_limit (count_test ops op)

key_within : (ops : List Op) (op : Op) → key_len op ≤ key_limit → refusal_of ops op ≡ value_test ops op
unfolding refusal_of
key_within ops op key = tested_within Key (key_len op) key_limit (value_test ops op) key

op_within : (ops : List Op) (op : Op) → OpInLimits op → refusal_of ops op ≡ count_test ops op
op_within ops op fits = key_within ops op fits.key ∙ tested_within Value (value_len op) value_limit (count_test ops op) fits.value

count_within : (ops : List Op) (op : Op) → OpInLimits op → length ops + 1 ≤ count_limit → refusal_of ops op ≡ bytes_test ops op
count_within ops op fits count = op_within ops op fits ∙ tested_within Count (length ops + 1) count_limit (bytes_test ops op) count

-- which test refuses
pub key_refused : (ops : List Op) (op : Op) → key_limit < key_len op → refusal_of ops op ≡ Some (record { what = Key; kept = key_len op; limit = key_limit })
unfolding refusal_of
key_refused ops op key = tested_past Key (key_len op) key_limit (value_test ops op) key

pub value_refused : (ops : List Op) (op : Op) → key_len op ≤ key_limit → value_limit < value_len op
    → refusal_of ops op ≡ Some (record { what = Value; kept = value_len op; limit = value_limit })
value_refused ops op key value = key_within ops op key ∙ tested_past Value (value_len op) value_limit (count_test ops op) value

pub count_refused : (ops : List Op) (op : Op) → OpInLimits op → count_limit < length ops + 1
    → refusal_of ops op ≡ Some (record { what = Count; kept = length ops + 1; limit = count_limit })
count_refused ops op fits count = op_within ops op fits ∙ tested_past Count (length ops + 1) count_limit (bytes_test ops op) count

pub bytes_refused : (ops : List Op) (op : Op) (size : ℕ) → OpInLimits op → length ops + 1 ≤ count_limit → text_len (ops ++ op ∷ []) ≡ size → bytes_limit < size
    → refusal_of ops op ≡ Some (record { what = Bytes; kept = size; limit = bytes_limit })
bytes_refused ops op size fits count is bytes =
    count_within ops op fits count ∙ ap (λ (n : ℕ). tested Bytes n bytes_limit None) is ∙ tested_past Bytes size bytes_limit None bytes

pub none_refused : (ops : List Op) (op : Op) (size : ℕ) → OpInLimits op → length ops + 1 ≤ count_limit → text_len (ops ++ op ∷ []) ≡ size → size ≤ bytes_limit → refusal_of ops op ≡ None
none_refused ops op size fits count is bytes =
    count_within ops op fits count ∙ ap (λ (n : ℕ). tested Bytes n bytes_limit None) is ∙ tested_within Bytes size bytes_limit None bytes

-- an operation that no test refuses leaves the batch within its limits
pub InLimits-push : (ops : List Op) (op : Op) (size : ℕ) → InLimits ops → OpInLimits op → length ops + 1 ≤ count_limit → text_len (ops ++ op ∷ []) ≡ size → size ≤ bytes_limit
    → InLimits (ops ++ op ∷ [])
InLimits-push ops op size was fits count is bytes = record {
  each = All-push OpInLimits ops op was.each fits;
  count = simp length-append (omega arith);
  bytes = omega (arith, is, bytes);
}

-- what a refusal that came through a `?` answers
pub refused_too_large : {A : Type 0} (r : Result A BatchRefusal) (e : BatchRefusal) (what : What) (kept limit : ℕ)
    → r ≡ Err e → e ≡ BatchTooLarge what kept limit → refused_in r ≡ Some (record { what = what; kept = kept; limit = limit })
unfolding refused_in
refused_too_large r e what kept limit is was = rw (is, was) refl

pub refused_no_memory : {A : Type 0} (r : Result A BatchRefusal) (e : BatchRefusal) → r ≡ Err e → e ≡ NoMemory → refused_in r ≡ None
unfolding refused_in
refused_no_memory r e is was = rw (is, was) refl

pub refused_alike : (A B : Type 0) (e : BatchRefusal) → refused_in {A = A} (Err e) ≡ refused_in {A = B} (Err e)
unfolding refused_in
refused_alike A B (BatchTooLarge what kept limit) = refl
refused_alike A B NoMemory = refl

pub refused_through : {A : Type 0} (B : Type 0) (r : Result A BatchRefusal) (d : BatchRefusal) {e : BatchRefusal} → r ≡ Err e → e ≡ d → refused_in r ≡ refused_in {A = B} (Err d)
refused_through {A} B r d {e} is was = ap refused_in (is ∙ ap Err was) ∙ refused_alike A B d

pub refused_ok : {A : Type 0} (x : A) → refused_in (Ok x) ≡ None
unfolding refused_in
refused_ok x = refl

-- the length of an operation's text
pub put_len : (key value : List ℕ) → length (op_text (Put key value)) ≡ 1 + length (sized key) + length (sized value)
unfolding op_text
put_len key value = simp length-append (omega arith)

pub delete_len : (key : List ℕ) → length (op_text (Delete key)) ≡ 1 + length (sized key)
unfolding op_text
delete_len key = omega arith

pub sized-len : (bytes : List ℕ) → length (sized bytes) ≡ length (varint (length bytes)) + length bytes
unfolding sized
sized-len bytes = length-append (varint (length bytes)) bytes

-- how long the text is with one operation more
pub put_longer : (ops : List Op) (key value : List ℕ) (size a b : ℕ) → size ≡ text_len ops → a ≡ length (sized key) → b ≡ length (sized value)
    → text_len (ops ++ Put key value ∷ []) ≡ size + 1 + a + b
put_longer ops key value size a b was ka vb = text_len-push ops (Put key value) ∙ omega (arith, put_len key value, was, ka, vb)

pub delete_longer : (ops : List Op) (key : List ℕ) (size a : ℕ) → size ≡ text_len ops → a ≡ length (sized key) → text_len (ops ++ Delete key ∷ []) ≡ size + 1 + a
delete_longer ops key size a was ka = text_len-push ops (Delete key) ∙ omega (arith, delete_len key, was, ka)
