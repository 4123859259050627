-- A copy under way, piece by piece.
use Rattle.std.specs.Prelude.{◌≡◌, ℕ, ◌+◌, ◌≤◌, List, [], ◌++◌, length, take, drop, Option, Some, IfSome}
use Rattle.std.proofs.Common.{refl, sym, ap, subst, ◌∙◌, arith}
use Rattle.std.proofs.lemmas.List.Sums.{fold-append}
use Rattle.std.proofs.Math.Seq.{take-add}
use Rattle.std.proofs.lemmas.List.{take_all, length-append, length-take-le}
use Rattle.lsm_bytes.specs.Checksum.{take_byte, take_bytes, checksum_of}
use Rattle.lsm_disk.specs.Viewed.{Viewed}
use Rattle.lsm_io.specs.Causes.{Rose}
use Rattle.bk_copy.specs.declared.copying.CopyError.{CopyError}
use Rattle.bk_copy.specs.declared.copying.CopyError.TheVariants.{Refused, Source, NoMemory}
use Rattle.bk_copy.specs.Copying.{piece_at, IsRead, IsFrontOf, IsCopyOf, IsSameView, StopsBy}

-- a piece more was read
pub read_more : (old new : Viewed) (at n before after : ℕ) (text piece : List ℕ) → IsRead old at before text → new.bytes ≡ old.bytes → length piece ≡ n → after ≡ take_bytes before piece
    → IfSome old.bytes (λ bytes. piece ≡ take n (drop at bytes)) → IsRead new (at + n) after (text ++ piece)
read_more old new at n before after text piece read stays long crc is = record {
  sum = crc ∙ ap (λ (r : ℕ). take_bytes r piece) read.sum ∙ sym (fold-append take_byte 0xFFFFFFFF text piece);
  long = omega (arith, length-append text piece, read.long, long);
  same = λ bytes told.
      let there : old.bytes ≡ Some bytes = sym stays ∙ told in
      (λ i. read.same bytes there i ++ subst (λ (o : Option (List ℕ)). IfSome o (λ b. piece ≡ take n (drop at b))) there is i) ∙ sym (take-add at n bytes);
}

read_none : (v : Viewed) → IsRead v 0 0xFFFFFFFF []
read_none v = record { sum = refl; long = refl; same = λ bytes told. refl }

pub same_view_trans : (a b c : Viewed) → IsSameView a b → IsSameView b c → IsSameView a c
same_view_trans a b c x y = record { bytes = y.bytes ∙ x.bytes; len = y.len ∙ x.len; later = omega (arith, x.later, y.later) }

-- how far a copy came, from the view as it was, and what it added
pub record Copying (old now : Viewed) (gained : List ℕ → Type 0) (len at register room : ℕ) : Type 0 where
  pub within : at ≤ len
  pub whole : len ≡ now.len
  pub buffer : room ≡ piece_at len 0
  pub view : IsSameView old now
  pub text : List ℕ
  pub read : IsRead now at register text
  pub gains : gained text

pub copying_starts : (v : Viewed) (gained : List ℕ → Type 0) (len register room : ℕ) → len ≡ v.len → register ≡ 0xFFFFFFFF → room ≡ piece_at len 0 → gained [] → Copying v v gained len 0 register room
copying_starts v gained len register room is start has none = record {
  within = omega arith;
  whole = is;
  buffer = has;
  view = record { bytes = refl; len = refl; later = omega arith };
  text = [];
  read = subst (λ (r : ℕ). IsRead v 0 r []) (sym start) (read_none v);
  gains = none;
}

module _ (old now : Viewed) (gained : List ℕ → Type 0) (len at register room : ℕ) (c : Copying old now gained len at register room) where
  pub copying_goes : (next : Viewed) (gains : List ℕ → Type 0) (size sum : ℕ) (piece : List ℕ) → at + size ≤ len → IsSameView now next → IsRead next (at + size) sum (c.text ++ piece)
      → gains (c.text ++ piece) → Copying old next gains len (at + size) sum room
  copying_goes next gains size sum piece fits stays read goes = record {
    within = fits;
    whole = c.whole ∙ sym stays.len;
    buffer = c.buffer;
    view = same_view_trans old now next c.view stays;
    text = c.text ++ piece;
    read = read;
    gains = goes;
  }

  pub copying_ends : (crc : ℕ) → len ≤ at → crc ≡ checksum_of register → IsCopyOf old crc c.text
  copying_ends crc end is = record {
    sum = is ∙ ap checksum_of c.read.sum;
    long = omega (arith, c.read.long, c.within, end, c.whole, c.view.len);
    same = λ bytes told whole. c.read.same bytes (c.view.bytes ∙ told) ∙ take_all at bytes (omega (arith, end, whole, c.whole, c.view.len));
  }

  -- what was read is a prefix of the view as it was
  pub copying_front : IsFrontOf old c.text
  copying_front bytes told = c.read.same bytes (c.view.bytes ∙ told) ∙ ap (λ (n : ℕ). take n bytes) (sym c.read.long)

-- the buffer keeps its length
pub room_kept : (n : ℕ) (front back items : List ℕ) → n ≤ length items → length front + length back ≡ n → length (take n (front ++ back ++ drop (length (front ++ back)) items)) ≡ n
room_kept n front back items has whole =
    length-take-le n (front ++ back ++ drop (length (front ++ back)) items) (omega (arith, length-append (front ++ back) (drop (length (front ++ back)) items), length-append front back, whole))

-- how a piece was refused, as how the copy was
pub stops_wider : {R : Type 0} (refused refused_so : R → Type 0) (rose rose_so read read_so none : Type 0) (why : CopyError R)
    → ((e : R) → refused e → refused_so e) → (rose → rose_so) → (read → read_so) → StopsBy refused rose read ⊥ why → StopsBy refused_so rose_so read_so none why
stops_wider refused refused_so rose rose_so read read_so none (Refused e) f g h stops = f e stops
stops_wider refused refused_so rose rose_so read read_so none Source f g h stops = (g stops.0, h stops.1)
stops_wider refused refused_so rose rose_so read read_so none NoMemory f g h stops = absurd stops

pub rose_wider : (a b c : ℕ) → a ≤ b → Rose b c → Rose a c
rose_wider a b c later rose = omega arith
