-- An operation's text: where its reading fails.
use Rattle.std.proofs.Common.{◌≡◌, ℕ, ◌+◌, ◌-◌, ◌<◌, ◌≤◌, ◌⊎◌, inl, inr, ⊎_elim, List, [], ◌∷◌, ◌++◌, length, drop, refl, sym, ap, ◌∙◌, subst, arith, append_assoc, length-append, get_or}
use Rattle.std.proofs.lemmas.List.{append-nil, drop_all}
use Rattle.lsm_bytes.specs.Varint.{IsVarint, varint}
use Rattle.lsm_bytes.proofs.Spelling.{IsVarint-varint, IsVarint-none}
use Rattle.lsm_rows.specs.declared.operations.Op.{Op}
use Rattle.lsm_rows.specs.declared.operations.Op.TheVariants.{Put, Delete}
use Rattle.lsm_rows.specs.declared.decoding.BatchError.{BatchError}
use Rattle.lsm_rows.specs.declared.decoding.BatchError.TheVariants.{BadBatch, NoMemory}
use Rattle.lsm_rows.specs.BatchText.{sized, op_text}
use Rattle.lsm_rows.specs.Limits.{OpInLimits, key_limit, value_limit}
use Rattle.lsm_rows.specs.Pieces.{Begins, IsFault, FaultFrom, IsSizedIn, IsSizedAt, IsMost}
use Rattle.lsm_rows.specs.Decoding.{IsOpIn, IsOpAt, IsBadAt}
use Rattle.lsm_rows.proofs.PieceFaults.{fault_behind, fault_at_end}
use Rattle.lsm_rows.proofs.Prefixes.{sized_once}
use Rattle.lsm_rows.proofs.ReadNumbers.{first_split}
use Rattle.lsm_rows.proofs.BatchSizes.{put_len, delete_len, sized-len, one_byte}

pub bad_fault : (Piece : List ℕ → Type 0) (bytes : List ℕ) (at place : ℕ) (e : BatchError) → e ≡ BadBatch place → FaultFrom Piece bytes at place → IsBadAt Piece bytes at e
unfolding IsBadAt
bad_fault Piece bytes at place e is fault = rw is fault

pub bad_memory : (Piece : List ℕ → Type 0) (bytes : List ℕ) (at : ℕ) (e : BatchError) → e ≡ NoMemory → IsBadAt Piece bytes at e
unfolding IsBadAt
bad_memory Piece bytes at e is = rw is tt

put-is : (key value : List ℕ) → op_text (Put key value) ≡ 1 ∷ (sized key ++ sized value)
unfolding op_text
put-is key value = refl

delete-is : (key : List ℕ) → op_text (Delete key) ≡ 0 ∷ sized key
unfolding op_text
delete-is key = refl

pub sized_some : (value : List ℕ) → 1 ≤ length (sized value)
sized_some value = spelled_some (varint (length value)) (IsVarint-varint (length value)) (sized-len value)
  where
    spelled_some : (s : List ℕ) → IsVarint s (length value) → length (sized value) ≡ length s + length value → 1 ≤ length (sized value)
    spelled_some [] is size = absurd (IsVarint-none (length value) is)
    spelled_some (b ∷ s) is size = omega (arith, size)

pub sized_nil : length (sized []) ≡ 1
sized_nil = sized-len [] ∙ omega (arith, one_byte 0 (omega arith))

-- a delete's key
pub delete_key_fault : (bytes : List ℕ) (at room most place : ℕ) → at < length bytes → get_or bytes at 0 ≡ 0 → 1 ≤ room → IsMost key_limit (room - 1) most
    → FaultFrom (IsSizedIn most) bytes (at + 1) place → FaultFrom (IsOpIn room) bytes at place
delete_key_fault bytes at room most place below kind some is inner =
    fault_behind (IsSizedIn most) (IsOpIn room) bytes (0 ∷ []) at (at + 1) place (first_split bytes at below ∙ ap (λ (b : ℕ). b ∷ drop (at + 1) bytes) kind) (omega arith) complete needed inner
  where
    complete : (v : List ℕ) → IsSizedIn most v → (w : List ℕ) × IsOpIn room (0 ∷ (v ++ w))
    complete v sized_v =
        let key : List ℕ = sized_v.value in
        let spelled : v ++ [] ≡ sized key = append-nil v ∙ sized_v.spelled in (
          [],
          record {
            op = Delete key;
            spelled = ap (λ (s : List ℕ). 0 ∷ s) spelled ∙ sym (delete-is key);
            limits = record { key = omega (arith, sized_v.fits, is.limited); value = omega arith };
            fits = omega (arith, ap (length {A = ℕ}) spelled, sized-len key, is.fits (length key) sized_v.fits);
          },
        )

    needed : (t : List ℕ) → Begins (IsOpIn room) (0 ∷ t) → Begins (IsSizedIn most) t
    needed t ahead = by_op t ahead.piece ahead.more ahead.joined ahead.good.op ahead.good.spelled ahead.good.limits ahead.good.fits
      where
        by_op : (t piece more : List ℕ) → 0 ∷ t ≡ piece ++ more → (op : Op) → piece ≡ op_text op → OpInLimits op → length piece ≤ room → Begins (IsSizedIn most) t
        by_op t piece more joined (Put key value) spelled limits fits =
            let clash : 0 ∷ t ≡ 1 ∷ ((sized key ++ sized value) ++ more) = joined ∙ ap (λ (s : List ℕ). s ++ more) (spelled ∙ put-is key value) in
            cc
        by_op t piece more joined (Delete key) spelled limits fits =
            let same : 0 ∷ t ≡ 0 ∷ (sized key ++ more) = joined ∙ ap (λ (s : List ℕ). s ++ more) (spelled ∙ delete-is key) in
            record {
              piece = sized key;
              more = more;
              joined = cc;
              good = record {
                value = key;
                spelled = refl;
                fits = is.greatest (length key) limits.key (omega (arith, sized-len key, ap (length {A = ℕ}) spelled, delete_len key, fits));
              };
            }

pub delete_at : (bytes : List ℕ) (at room most : ℕ) (key : List ℕ) (next : ℕ) → at < length bytes → get_or bytes at 0 ≡ 0 → 1 ≤ room → IsMost key_limit (room - 1) most
    → IsSizedAt bytes (at + 1) most key next → IsOpAt bytes at room (Delete key) next
delete_at bytes at room most key next below kind some is found = record {
  limits = record { key = omega (arith, found.fits, is.limited); value = omega arith };
  fits = omega (arith, delete_len key, sized-len key, is.fits (length key) found.fits);
  ends = omega (arith, delete_len key, found.ends);
  within = found.within;
  text = first_split bytes at below ∙ ap (λ (b : ℕ). b ∷ drop (at + 1) bytes) kind ∙ ap (λ (s : List ℕ). 0 ∷ s) found.text ∙ ap (λ (s : List ℕ). s ++ drop next bytes) (sym (delete-is key));
}

-- a put's key, behind which its value takes one byte at least
pub put_key_fault : (bytes : List ℕ) (at room most place : ℕ) → at < length bytes → get_or bytes at 0 ≡ 1 → 3 ≤ room → IsMost key_limit (room - 2) most
    → FaultFrom (IsSizedIn most) bytes (at + 1) place → FaultFrom (IsOpIn room) bytes at place
put_key_fault bytes at room most place below kind some is inner =
    fault_behind (IsSizedIn most) (IsOpIn room) bytes (1 ∷ []) at (at + 1) place (first_split bytes at below ∙ ap (λ (b : ℕ). b ∷ drop (at + 1) bytes) kind) (omega arith) complete needed inner
  where
    complete : (v : List ℕ) → IsSizedIn most v → (w : List ℕ) × IsOpIn room (1 ∷ (v ++ w))
    complete v sized_v =
        let key : List ℕ = sized_v.value in
        let spelled : v ++ sized [] ≡ sized key ++ sized [] = ap (λ (s : List ℕ). s ++ sized []) sized_v.spelled in (
          sized [],
          record {
            op = Put key [];
            spelled = ap (λ (s : List ℕ). 1 ∷ s) spelled ∙ sym (put-is key []);
            limits = record { key = omega (arith, sized_v.fits, is.limited); value = omega arith };
            fits = omega (arith, ap (length {A = ℕ}) spelled, length-append (sized key) (sized []), sized_nil, sized-len key, is.fits (length key) sized_v.fits);
          },
        )

    needed : (t : List ℕ) → Begins (IsOpIn room) (1 ∷ t) → Begins (IsSizedIn most) t
    needed t ahead = by_op t ahead.piece ahead.more ahead.joined ahead.good.op ahead.good.spelled ahead.good.limits ahead.good.fits
      where
        by_op : (t piece more : List ℕ) → 1 ∷ t ≡ piece ++ more → (op : Op) → piece ≡ op_text op → OpInLimits op → length piece ≤ room → Begins (IsSizedIn most) t
        by_op t piece more joined (Delete key) spelled limits fits =
            let clash : 1 ∷ t ≡ 0 ∷ (sized key ++ more) = joined ∙ ap (λ (s : List ℕ). s ++ more) (spelled ∙ delete-is key) in
            cc
        by_op t piece more joined (Put key value) spelled limits fits =
            let same : 1 ∷ t ≡ 1 ∷ ((sized key ++ sized value) ++ more) = joined ∙ ap (λ (s : List ℕ). s ++ more) (spelled ∙ put-is key value) in
            let tail : t ≡ (sized key ++ sized value) ++ more = cc in
            record {
              piece = sized key;
              more = sized value ++ more;
              joined = tail ∙ append_assoc (sized key) (sized value) more;
              good = record {
                value = key;
                spelled = refl;
                fits = is.greatest (length key) limits.key (omega (arith, sized-len key, sized_some value, ap (length {A = ℕ}) spelled, put_len key value, fits));
              };
            }

-- a put's value
pub put_value_fault : (bytes : List ℕ) (at room most_key most_value value_at : ℕ) (key : List ℕ) (place : ℕ)
    → at < length bytes → get_or bytes at 0 ≡ 1 → 3 ≤ room → IsMost key_limit (room - 2) most_key → IsSizedAt bytes (at + 1) most_key key value_at
    → IsMost value_limit (room - (value_at - at)) most_value
    → FaultFrom (IsSizedIn most_value) bytes value_at place → FaultFrom (IsOpIn room) bytes at place
put_value_fault bytes at room most_key most_value value_at key place below kind some is_key found is inner =
    fault_behind (IsSizedIn most_value) (IsOpIn room) bytes (1 ∷ sized key) at value_at place
    (first_split bytes at below ∙ ap (λ (b : ℕ). b ∷ drop (at + 1) bytes) kind ∙ ap (λ (s : List ℕ). 1 ∷ s) found.text)
    (omega (arith, found.ends)) complete needed inner
  where
    complete : (v : List ℕ) → IsSizedIn most_value v → (w : List ℕ) × IsOpIn room (1 ∷ (sized key ++ (v ++ w)))
    complete v sized_v =
        let value : List ℕ = sized_v.value in
        let spelled : sized key ++ (v ++ []) ≡ sized key ++ sized value = ap (λ (s : List ℕ). sized key ++ s) (append-nil v ∙ sized_v.spelled) in (
          [],
          record {
            op = Put key value;
            spelled = ap (λ (s : List ℕ). 1 ∷ s) spelled ∙ sym (put-is key value);
            limits = record { key = omega (arith, found.fits, is_key.limited); value = omega (arith, sized_v.fits, is.limited) };
            fits = omega (arith, ap (length {A = ℕ}) spelled, length-append (sized key) (sized value), sized-len key, is_key.fits (length key) found.fits, found.ends, sized-len value, is.fits (length value) sized_v.fits);
          },
        )

    needed : (t : List ℕ) → Begins (IsOpIn room) (1 ∷ (sized key ++ t)) → Begins (IsSizedIn most_value) t
    needed t ahead = by_op t ahead.piece ahead.more ahead.joined ahead.good.op ahead.good.spelled ahead.good.limits ahead.good.fits
      where
        by_op : (t piece more : List ℕ) → 1 ∷ (sized key ++ t) ≡ piece ++ more → (op : Op) → piece ≡ op_text op → OpInLimits op → length piece ≤ room → Begins (IsSizedIn most_value) t
        by_op t piece more joined (Delete other) spelled limits fits =
            let clash : 1 ∷ (sized key ++ t) ≡ 0 ∷ (sized other ++ more) = joined ∙ ap (λ (s : List ℕ). s ++ more) (spelled ∙ delete-is other) in
            cc
        by_op t piece more joined (Put other value) spelled limits fits =
            let same : 1 ∷ (sized key ++ t) ≡ 1 ∷ ((sized other ++ sized value) ++ more) = joined ∙ ap (λ (s : List ℕ). s ++ more) (spelled ∙ put-is other value) in
            let tail : sized key ++ t ≡ (sized other ++ sized value) ++ more = cc in
            let once = sized_once key other t (sized value ++ more) (tail ∙ append_assoc (sized other) (sized value) more) in
            record {
              piece = sized value;
              more = more;
              joined = once.1;
              good = record {
                value = value;
                spelled = refl;
                fits = is.greatest (length value) limits.value (omega (arith, sized-len value, ap (λ (s : List ℕ). length (sized s)) once.0, ap (length {A = ℕ}) spelled, put_len other value, fits, found.ends));
              };
            }

pub put_at : (bytes : List ℕ) (at room most_key most_value value_at : ℕ) (key value : List ℕ) (next : ℕ)
    → at < length bytes → get_or bytes at 0 ≡ 1 → 3 ≤ room → IsMost key_limit (room - 2) most_key → IsSizedAt bytes (at + 1) most_key key value_at
    → IsMost value_limit (room - (value_at - at)) most_value → IsSizedAt bytes value_at most_value value next → IsOpAt bytes at room (Put key value) next
put_at bytes at room most_key most_value value_at key value next below kind some is_key key_at is value_found = record {
  limits = record { key = omega (arith, key_at.fits, is_key.limited); value = omega (arith, value_found.fits, is.limited) };
  fits = omega (arith, put_len key value, sized-len key, is_key.fits (length key) key_at.fits, key_at.ends, sized-len value, is.fits (length value) value_found.fits);
  ends = omega (arith, put_len key value, key_at.ends, value_found.ends);
  within = value_found.within;
  text =
      first_split bytes at below ∙ ap (λ (b : ℕ). b ∷ drop (at + 1) bytes) kind ∙ ap (λ (s : List ℕ). 1 ∷ s) key_at.text
      ∙ ap (λ (s : List ℕ). 1 ∷ (sized key ++ s)) value_found.text ∙ ap (λ (s : List ℕ). 1 ∷ s) (sym (append_assoc (sized key) (sized value) (drop next bytes)))
      ∙ ap (λ (s : List ℕ). s ++ drop next bytes) (sym (put-is key value));
}

-- the room that is left for a put's value
pub value_room : (bytes : List ℕ) (at room most_key value_at : ℕ) (key : List ℕ) → 3 ≤ room → IsMost key_limit (room - 2) most_key → IsSizedAt bytes (at + 1) most_key key value_at
    → (at ≤ value_at) × (value_at - at + 1 ≤ room)
value_room bytes at room most_key value_at key some is found = (omega (arith, found.ends), omega (arith, found.ends, sized-len key, is.fits (length key) found.fits))

-- a kind byte is that of a delete, or that of a put for which there is room
kind_is : (room b : ℕ) (t piece more : List ℕ) → b ∷ t ≡ piece ++ more → IsOpIn room piece → (b ≡ 0) ⊎ ((b ≡ 1) × (3 ≤ room))
kind_is room b t piece more joined is = by_op is.op is.spelled
  where
    by_op : (op : Op) → piece ≡ op_text op → (b ≡ 0) ⊎ ((b ≡ 1) × (3 ≤ room))
    by_op (Put key value) spelled =
        let same : b ∷ t ≡ 1 ∷ ((sized key ++ sized value) ++ more) = joined ∙ ap (λ (s : List ℕ). s ++ more) (spelled ∙ put-is key value) in
        inr (cc, omega (arith, put_len key value, sized_some key, sized_some value, ap (length {A = ℕ}) spelled, is.fits))
    by_op (Delete key) spelled =
        let same : b ∷ t ≡ 0 ∷ (sized key ++ more) = joined ∙ ap (λ (s : List ℕ). s ++ more) (spelled ∙ delete-is key) in
        inl cc

-- the shortest operation, a delete of the empty key
shortest : (room : ℕ) → 2 ≤ room → IsOpIn room (op_text (Delete []))
shortest room some = record { op = Delete []; spelled = refl; limits = record { key = omega arith; value = omega arith }; fits = omega (arith, delete_len [], sized_nil) }

pub op_end : (bytes : List ℕ) (at room : ℕ) → at ≡ length bytes → 2 ≤ room → FaultFrom (IsOpIn room) bytes at at
op_end bytes at room ends some = record {
  skipped = 0;
  placed = omega arith;
  fault = subst (λ (t : List ℕ). IsFault (IsOpIn room) (Begins (IsOpIn room)) t 0) (sym (drop_all at bytes (omega arith)))
      (fault_at_end (IsOpIn room) (Begins (IsOpIn room)) [] (op_text (Delete [])) (λ ahead. nothing ahead.piece ahead.more ahead.joined ahead.good.op ahead.good.spelled) (shortest room some));
}
  where
    nothing : (piece more : List ℕ) → [] ≡ piece ++ more → (op : Op) → piece ≡ op_text op → ⊥
    nothing piece more joined (Put key value) spelled =
        let clash : [] ≡ 1 ∷ ((sized key ++ sized value) ++ more) = joined ∙ ap (λ (s : List ℕ). s ++ more) (spelled ∙ put-is key value) in
        cc
    nothing piece more joined (Delete key) spelled =
        let clash : [] ≡ 0 ∷ (sized key ++ more) = joined ∙ ap (λ (s : List ℕ). s ++ more) (spelled ∙ delete-is key) in
        cc

pub op_kind : (bytes : List ℕ) (at room : ℕ) → at < length bytes → 2 ≤ room → ¬ (get_or bytes at 0 ≡ 0) → (get_or bytes at 0 ≡ 1 → room < 3) → FaultFrom (IsOpIn room) bytes at at
op_kind bytes at room below some not_delete not_put = record {
  skipped = 0;
  placed = omega arith;
  fault = subst (λ (t : List ℕ). IsFault (IsOpIn room) (Begins (IsOpIn room)) t 0) (sym (first_split bytes at below)) (record {
    within = omega arith;
    none = λ ahead. never (drop (at + 1) bytes) ahead;
    before = (op_text (Delete []), shortest room some);
    here = λ less more ahead. never more ahead;
  });
}
  where
    never : (t : List ℕ) → Begins (IsOpIn room) (get_or bytes at 0 ∷ t) → ⊥
    never t ahead =
        ⊎_elim not_delete (λ put. let short : room < 3 = not_put put.0 in absurd (omega (arith, put.1))) (kind_is room (get_or bytes at 0) t ahead.piece ahead.more ahead.joined ahead.good)
