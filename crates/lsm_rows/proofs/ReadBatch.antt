-- A batch's text: where its reading fails, and what it gives.
use Rattle.std.proofs.Common.{◌≡◌, ℕ, ◌+◌, ◌-◌, ◌*◌, ◌^◌, ◌<◌, ◌≤◌, List, [], ◌∷◌, ◌++◌, length, drop, refl, sym, ap, ◌∙◌, subst, arith, zero, suc, append_assoc, length-append, get_or}
use Rattle.std.specs.Prelude.{All, replicate}
use Rattle.std.specs.List.{flat_map}
use Rattle.std.proofs.lemmas.Grind.{flat_map-append}
use Rattle.std.proofs.lemmas.List.{append-nil, length-replicate, drop_all}
use Rattle.std.proofs.lemmas.List.Elements.{All-nil, All-cons, All-head, All-tail, All-push, All-append, All-replicate}
use Rattle.lsm_rows.specs.declared.operations.Op.{Op}
use Rattle.lsm_rows.specs.declared.operations.Op.TheVariants.{Put, Delete}
use Rattle.lsm_rows.specs.declared.decoding.BatchError.{BatchError}
use Rattle.lsm_rows.specs.declared.decoding.BatchError.TheVariants.{BadBatch, NoMemory}
use Rattle.lsm_rows.specs.BatchText.{op_text, batch_text, text_len}
use Rattle.lsm_rows.specs.Limits.{OpInLimits, InLimits, bytes_limit}
use Rattle.lsm_rows.specs.Pieces.{Begins, IsFault, FaultFrom}
use Rattle.lsm_rows.specs.Decoding.{IsBatchText, IsSomeBatch, IsNoBatch, IsBad, IsOpIn, IsOpAt, IsBadAt, IsRead, IsHeader, IsHeaderAt, header}
use Rattle.lsm_rows.proofs.PieceFaults.{fault_of, fault_after}
use Rattle.lsm_rows.proofs.Prefixes.{IsLonger, ops_once, ops_same}
use Rattle.lsm_rows.proofs.ReadHeader.{header_len, header_once}
use Rattle.lsm_rows.proofs.ReadNumbers.{first_split}
use Rattle.lsm_rows.proofs.ReadOps.{sized_some, sized_nil}
use Rattle.lsm_rows.proofs.BatchSizes.{put_len, delete_len}

pub bad_batch : (bytes : List ℕ) (place : ℕ) (e : BatchError) → e ≡ BadBatch place → IsNoBatch bytes place → IsBad bytes e
unfolding IsBad
bad_batch bytes place e is no_batch = rw is no_batch

pub bad_no_memory : (bytes : List ℕ) (e : BatchError) → e ≡ NoMemory → IsBad bytes e
unfolding IsBad
bad_no_memory bytes e is = rw is tt

text-is : (first : ℕ) (ops : List Op) → batch_text first ops ≡ header first (length ops) ++ flat_map op_text ops
unfolding batch_text header
text-is first ops = refl

pub text_len-is : (ops : List Op) → text_len ops ≡ 12 + length (flat_map op_text ops)
text_len-is ops = ap (length {A = ℕ}) (text-is 0 ops) ∙ length-append (header 0 (length ops)) (flat_map op_text ops) ∙ ap (λ (n : ℕ). n + length (flat_map op_text ops)) (header_len 0 (length ops))

-- an operation takes two bytes at least
two_at_least : (op : Op) → 2 ≤ length (op_text op)
two_at_least (Put key value) = omega (arith, put_len key value, sized_some key)
two_at_least (Delete key) = omega (arith, delete_len key, sized_some key)

two_each : (ops : List Op) → 2 * length ops ≤ length (flat_map op_text ops)
two_each [] = omega arith
two_each (op ∷ ops) = omega (arith, two_each ops, two_at_least op, length-append (op_text op) (flat_map op_text ops))

-- the shortest operations
shortest_op : Op
shortest_op = Delete []

shortest_len : length (op_text shortest_op) ≡ 2
unfolding shortest_op
shortest_len = delete_len [] ∙ omega (arith, sized_nil)

shortest_in_limits : OpInLimits shortest_op
unfolding shortest_op
shortest_in_limits = record { key = omega arith; value = omega arith }

shortest_each : (n : ℕ) → length (flat_map op_text (replicate n shortest_op)) ≡ 2 * n
shortest_each zero = refl
shortest_each (suc n) = omega (arith, shortest_each n, shortest_len, length-append (op_text shortest_op) (flat_map op_text (replicate n shortest_op)))

all_middle : (ops more : List Op) (op : Op) → All OpInLimits (ops ++ op ∷ more) → OpInLimits op
all_middle [] more op all = All-head OpInLimits op more all
all_middle (x ∷ ops) more op all = all_middle ops more op (All-tail OpInLimits x (ops ++ op ∷ more) all)

-- a fault of some batch's text is what a refusal says
no_batch : (bytes : List ℕ) (place : ℕ) → IsFault IsSomeBatch IsSomeBatch bytes place → IsNoBatch bytes place
no_batch bytes place fault = record { none = fault.none; fault = record { within = fault.within; before = fault.before; here = fault.here } }

pub header_no_batch : (bytes : List ℕ) (place : ℕ) → IsFault IsHeader (Begins IsHeader) bytes place → IsNoBatch bytes place
header_no_batch bytes place inner = no_batch bytes place (fault_of IsHeader (Begins IsHeader) IsSomeBatch IsSomeBatch bytes place complete needed inner)
  where
    complete : (v : List ℕ) → IsHeader v → (w : List ℕ) × IsSomeBatch (v ++ w)
    complete v is =
        let count : ℕ = is.count in
        let ops : List Op = replicate count shortest_op in
        let many : length ops ≡ count = length-replicate count shortest_op in (
          flat_map op_text ops,
          record {
            first = is.first;
            ops = ops;
            text_is = record {
              is = ap (λ (s : List ℕ). s ++ flat_map op_text ops) (is.spelled ∙ ap (header is.first) (sym many)) ∙ sym (text-is is.first ops);
              some = omega (arith, many, is.some);
              limits = record {
                each = All-replicate OpInLimits count shortest_op shortest_in_limits;
                count = omega (arith, many, is.most);
                bytes = omega (arith, text_len-is ops, shortest_each count, is.most);
              };
              last = omega (arith, many, is.last);
            };
          },
        )

    needed : (t : List ℕ) → IsSomeBatch t → Begins IsHeader t
    needed t some = record {
      piece = header some.first (length some.ops);
      more = flat_map op_text some.ops;
      joined = some.text_is.is ∙ text-is some.first some.ops;
      good = record { first = some.first; count = length some.ops; spelled = refl; some = some.text_is.some; most = some.text_is.limits.count; last = some.text_is.last };
    }

pub read_start : (bytes : List ℕ) (first count : ℕ) → IsHeaderAt bytes first count → IsRead bytes first count 0 [] 12
read_start bytes first count is = record {
  each = All-nil OpInLimits;
  many = refl;
  ends = refl;
  within = is.within;
  room = omega (arith, is.most);
  text = is.text;
}

pub read_step : (bytes : List ℕ) (first count done : ℕ) (ops : List Op) (place room : ℕ) (op : Op) (next : ℕ)
    → IsRead bytes first count done ops place → done < count → room ≡ bytes_limit - place - 2 * (count - done - 1) → IsOpAt bytes place room op next
    → IsRead bytes first count (done + 1) (ops ++ op ∷ []) next
read_step bytes first count done ops place room op next is less room_is found =
    let joined : flat_map op_text (ops ++ op ∷ []) ≡ flat_map op_text ops ++ op_text op = flat_map-append op_text ops (op ∷ []) ∙ ap (λ (s : List ℕ). flat_map op_text ops ++ s) (append-nil (op_text op)) in
    record {
      each = All-push OpInLimits ops op is.each found.limits;
      many = length-append ops (op ∷ []) ∙ omega (arith, is.many);
      ends = omega (arith, ap (length {A = ℕ}) joined, length-append (flat_map op_text ops) (op_text op), found.ends, is.ends);
      within = found.within;
      room = omega (arith, is.room, found.fits, found.ends);
      text =
          is.text
          ∙ ap (λ (s : List ℕ). header first count ++ (flat_map op_text ops ++ s)) found.text
          ∙ ap (λ (s : List ℕ). header first count ++ s) (sym (append_assoc (flat_map op_text ops) (op_text op) (drop next bytes)) ∙ ap (λ (s : List ℕ). s ++ drop next bytes) (sym joined));
    }

-- what goes on behind a header and some operations is the rest of a batch of that count
begun : (first count done : ℕ) (ops : List Op) (t : List ℕ) → length ops ≡ done → first + count ≤ 2 ^ 56 → count ≤ 1024
    → (some : IsSomeBatch ((header first count ++ flat_map op_text ops) ++ t)) → (length some.ops ≡ count) × (flat_map op_text some.ops ≡ flat_map op_text ops ++ t)
begun first count done ops t many last most some =
    let end : some.first + length some.ops ≤ 2 ^ 56 = some.text_is.last in
    let few : length some.ops ≤ 1024 = some.text_is.limits.count in
    let same : header first count ++ (flat_map op_text ops ++ t) ≡ header some.first (length some.ops) ++ flat_map op_text some.ops =
    sym (append_assoc (header first count) (flat_map op_text ops) t) ∙ some.text_is.is ∙ text-is some.first some.ops in
    let once = header_once first some.first count (length some.ops) (flat_map op_text ops ++ t) (flat_map op_text some.ops) (omega arith) (omega arith) (omega arith) (omega arith) same in
    (sym once.1, sym once.2)

front_len : (first count place : ℕ) (ops : List Op) → place ≡ 12 + length (flat_map op_text ops) → length (header first count ++ flat_map op_text ops) ≡ place
front_len first count place ops ends = length-append (header first count) (flat_map op_text ops) ∙ omega (arith, header_len first count, ends)

pub op_no_batch : (bytes : List ℕ) (first count done : ℕ) (ops : List Op) (place room e : ℕ)
    → IsHeaderAt bytes first count → IsRead bytes first count done ops place → done < count → room ≡ bytes_limit - place - 2 * (count - done - 1)
    → FaultFrom (IsOpIn room) bytes place e → IsNoBatch bytes e
op_no_batch bytes first count done ops place room e head is less room_is inner =
    no_batch bytes e
    (subst (λ (t : List ℕ). IsFault IsSomeBatch IsSomeBatch t e) (append_assoc (header first count) (flat_map op_text ops) (drop place bytes) ∙ sym is.text)
    (subst (λ (n : ℕ). IsFault IsSomeBatch IsSomeBatch ((header first count ++ flat_map op_text ops) ++ drop place bytes) n) (omega (arith, front_len first count place ops is.ends, inner.placed))
    (fault_after (IsOpIn room) (Begins (IsOpIn room)) IsSomeBatch IsSomeBatch (header first count ++ flat_map op_text ops) (drop place bytes) inner.skipped complete needed inner.fault)))
  where
    complete : (v : List ℕ) → IsOpIn room v → (w : List ℕ) × IsSomeBatch ((header first count ++ flat_map op_text ops) ++ (v ++ w))
    complete v good =
        let behind : ℕ = count - done - 1 in
        let fill : List Op = replicate behind shortest_op in
        let all : List Op = ops ++ good.op ∷ fill in
        let many : length all ≡ count = length-append ops (good.op ∷ fill) ∙ omega (arith, is.many, length-replicate behind shortest_op, less) in
        let joined : flat_map op_text all ≡ flat_map op_text ops ++ (op_text good.op ++ flat_map op_text fill) = flat_map-append op_text ops (good.op ∷ fill) in (
          flat_map op_text fill,
          record {
            first = first;
            ops = all;
            text_is = record {
              is =
                  append_assoc (header first count) (flat_map op_text ops) (v ++ flat_map op_text fill)
                  ∙ ap (λ (s : List ℕ). header first count ++ (flat_map op_text ops ++ (s ++ flat_map op_text fill))) good.spelled
                  ∙ ap (λ (s : List ℕ). header first count ++ s) (sym joined) ∙ ap (λ (n : ℕ). header first n ++ flat_map op_text all) (sym many) ∙ sym (text-is first all);
              some = omega (arith, many, less);
              limits = record {
                each = All-append OpInLimits ops (good.op ∷ fill) is.each (All-cons OpInLimits good.op fill good.limits (All-replicate OpInLimits behind shortest_op shortest_in_limits));
                count = omega (arith, many, head.most);
                bytes = omega (
                  arith,
                  text_len-is all,
                  ap (length {A = ℕ}) joined,
                  length-append (flat_map op_text ops) (op_text good.op ++ flat_map op_text fill),
                  length-append (op_text good.op) (flat_map op_text fill),
                  shortest_each behind,
                  good.fits,
                  ap (length {A = ℕ}) good.spelled,
                  is.ends,
                  is.room,
                  room_is,
                  less,
                );
              };
              last = omega (arith, many, head.last);
            };
          },
        )

    needed : (t : List ℕ) → IsSomeBatch ((header first count ++ flat_map op_text ops) ++ t) → Begins (IsOpIn room) t
    needed t some =
        let rest = begun first count done ops t is.many head.last head.most some in
        let longer : IsLonger ops some.ops t = ops_once ops some.ops t (omega (arith, rest.0, is.many, less)) rest.1 in
        let all : List Op = ops ++ longer.op ∷ longer.more in
        let bytes_fit : text_len some.ops ≤ bytes_limit = some.text_is.limits.bytes in
        let whole : flat_map op_text some.ops ≡ flat_map op_text ops ++ (op_text longer.op ++ flat_map op_text longer.more) = rest.1 ∙ ap (λ (s : List ℕ). flat_map op_text ops ++ s) longer.text in
        record {
          piece = op_text longer.op;
          more = flat_map op_text longer.more;
          joined = longer.text;
          good = record {
            op = longer.op;
            spelled = refl;
            limits = all_middle ops longer.more longer.op (subst (λ (l : List Op). All OpInLimits l) longer.ops_are some.text_is.limits.each);
            fits = omega (
              arith,
              text_len-is some.ops,
              ap (length {A = ℕ}) whole,
              length-append (flat_map op_text ops) (op_text longer.op ++ flat_map op_text longer.more),
              length-append (op_text longer.op) (flat_map op_text longer.more),
              two_each longer.more,
              ap (length {A = Op}) longer.ops_are,
              length-append ops (longer.op ∷ longer.more),
              rest.0,
              is.many,
              is.ends,
              room_is,
              bytes_fit,
              less,
            );
          };
        }

-- what was read is within the limits
pub read_limits : (bytes : List ℕ) (first count : ℕ) (ops : List Op) (place : ℕ) → IsHeaderAt bytes first count → IsRead bytes first count count ops place → InLimits ops
read_limits bytes first count ops place head is = record { each = is.each; count = omega (arith, is.many, head.most); bytes = omega (arith, text_len-is ops, is.ends, is.room) }

-- bytes behind the last operation
abbrev IsEmpty : List ℕ → Type 0
IsEmpty t = t ≡ []

something : (x : ℕ) (rest : List ℕ) → IsFault IsEmpty IsEmpty (x ∷ rest) 0
something x rest = record {
  within = omega arith;
  none = λ none. cc;
  before = ([], refl);
  here = λ less more none. cc;
}

pub extra_no_batch : (bytes : List ℕ) (first count : ℕ) (ops : List Op) (place : ℕ)
    → IsHeaderAt bytes first count → IsRead bytes first count count ops place → place < length bytes → IsNoBatch bytes place
extra_no_batch bytes first count ops place head is less =
    no_batch bytes place
    (subst (λ (t : List ℕ). IsFault IsSomeBatch IsSomeBatch t place) (append_assoc (header first count) (flat_map op_text ops) (drop place bytes) ∙ sym is.text)
    (subst (λ (n : ℕ). IsFault IsSomeBatch IsSomeBatch ((header first count ++ flat_map op_text ops) ++ drop place bytes) n) (omega (arith, front_len first count place ops is.ends))
    (fault_after IsEmpty IsEmpty IsSomeBatch IsSomeBatch (header first count ++ flat_map op_text ops) (drop place bytes) 0 complete needed
    (subst (λ (t : List ℕ). IsFault IsEmpty IsEmpty t 0) (sym (first_split bytes place less)) (something (get_or bytes place 0) (drop (place + 1) bytes))))))
  where
    complete : (v : List ℕ) → v ≡ [] → (w : List ℕ) × IsSomeBatch ((header first count ++ flat_map op_text ops) ++ (v ++ w))
    complete v none = (
      [],
      record {
        first = first;
        ops = ops;
        text_is = record {
          is =
              ap (λ (s : List ℕ). (header first count ++ flat_map op_text ops) ++ s) (append-nil v ∙ none) ∙ append-nil (header first count ++ flat_map op_text ops)
              ∙ ap (λ (n : ℕ). header first n ++ flat_map op_text ops) (sym is.many) ∙ sym (text-is first ops);
          some = omega (arith, is.many, head.some);
          limits = read_limits bytes first count ops place head is;
          last = omega (arith, is.many, head.last);
        };
      },
    )

    needed : (t : List ℕ) → IsSomeBatch ((header first count ++ flat_map op_text ops) ++ t) → t ≡ []
    needed t some =
        let rest = begun first count count ops t is.many head.last head.most some in
        (ops_same ops some.ops t (omega (arith, rest.0, is.many)) rest.1).1

-- all of it is read
pub read_whole : (bytes : List ℕ) (first count : ℕ) (ops : List Op) (place : ℕ)
    → IsHeaderAt bytes first count → IsRead bytes first count count ops place → length bytes ≤ place → IsBatchText bytes first ops
read_whole bytes first count ops place head is end = record {
  is =
      is.text ∙ ap (λ (s : List ℕ). header first count ++ (flat_map op_text ops ++ s)) (drop_all place bytes end)
      ∙ ap (λ (s : List ℕ). header first count ++ s) (append-nil (flat_map op_text ops)) ∙ ap (λ (n : ℕ). header first n ++ flat_map op_text ops) (sym is.many) ∙ sym (text-is first ops);
  some = omega (arith, is.many, head.some);
  limits = read_limits bytes first count ops place head is;
  last = omega (arith, is.many, head.last);
}

-- a refusal of an operation is one of the whole
pub op_bad : (bytes : List ℕ) (first count done : ℕ) (ops : List Op) (place room : ℕ) (e : BatchError)
    → IsHeaderAt bytes first count → IsRead bytes first count done ops place → done < count → room ≡ bytes_limit - place - 2 * (count - done - 1)
    → IsBadAt (IsOpIn room) bytes place e → IsBad bytes e
unfolding IsBad IsBadAt
op_bad bytes first count done ops place room (BadBatch at) head is less room_is bad = op_no_batch bytes first count done ops place room at head is less room_is bad
op_bad bytes first count done ops place room NoMemory head is less room_is bad = tt

-- a text is that of one batch
pub batch_once : (text : List ℕ) (first other : ℕ) (ops others : List Op) → IsBatchText text first ops → IsBatchText text other others → (first ≡ other) × (ops ≡ others)
batch_once text first other ops others is also =
    let few : length ops ≤ 1024 = is.limits.count in
    let little : length others ≤ 1024 = also.limits.count in
    let end : first + length ops ≤ 2 ^ 56 = is.last in
    let last : other + length others ≤ 2 ^ 56 = also.last in
    let once = header_once first other (length ops) (length others) (flat_map op_text ops) (flat_map op_text others) (omega arith) (omega arith) (omega arith) (omega arith)
    (sym (text-is first ops) ∙ sym is.is ∙ also.is ∙ text-is other others) in
    (once.0, (ops_same others ops [] (sym once.1) (once.2 ∙ sym (append-nil (flat_map op_text others)))).0)
