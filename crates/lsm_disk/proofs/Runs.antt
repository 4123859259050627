-- How runs of calls compose.
use Rattle.std.specs.Prelude.{◌≡◌, ◌⊎◌, ℕ, zero, suc, ◌+◌, ◌-◌, ◌≤◌, List, [], ◌∷◌, ◌++◌, length, take, Option, Some, option_map, IfSome}
use Rattle.std.proofs.Common.{inl, inr, ⊎_elim, refl, sym, ap, subst, ◌∙◌, arith, append_assoc, length-append}
use Rattle.std.proofs.lemmas.Bool.{cases_lt}
use Rattle.std.proofs.lemmas.List.{append-nil, take-append-le}
use Rattle.lsm_disk.specs.State.{State, Story, Change, FileState, after, after_all, state_of, state_at, appended}
use Rattle.lsm_disk.specs.Images.{Tree, IsImage}
use Rattle.lsm_disk.specs.Goes.{Each, Shows, Along, GoesOn, Went, LeavesOnly}
use Rattle.lsm_disk.specs.Kept.{IsKeptFile, Spares}
use Rattle.lsm_disk.specs.Answers.{then_change, pushed, Makes, MakesFront, LeftBy, Allowed, RefusesBy}
use Rattle.lsm_disk.specs.Refusals.{no_file}
use Rattle.lsm_disk.specs.declared.calls.DiskError.{DiskError}
use Rattle.lsm_disk.specs.declared.calls.DiskError.TheVariants.{Fault, NotThere, Exists, NoLinks, NotEmpty, Short, NoMemory}
use Rattle.lsm_disk.proofs.Cuts.{take_past}
use Rattle.lsm_disk.proofs.Kept.{kept_spared}

pub all_after : (xs ys : List Change) (s : State) → after_all (xs ++ ys) s ≡ after_all ys (after_all xs s)
all_after [] ys s = refl
all_after (x ∷ xs) ys s = all_after xs ys (after s x)

pub state_push : (story : Story) (c : Change) → state_of (then_change story c) ≡ after (state_of story) c
state_push story c = all_after story.log (c ∷ []) story.start

each_append : (q : Change → Type 0) (xs ys : List Change) → Each q xs → Each q ys → Each q (xs ++ ys)
each_append q [] ys a b = b
each_append q (x ∷ xs) ys a b = (a.0, each_append q xs ys a.1 b)

each_weaker : (q r : Change → Type 0) (xs : List Change) → ((c : Change) → q c → r c) → Each q xs → Each r xs
each_weaker q r [] f a = tt
each_weaker q r (x ∷ xs) f a = (f x a.0, each_weaker q r xs f a.1)

module _ (P : State → Tree → Type 0) where
  along_append : (xs ys : List Change) (s : State) → Along P s xs → Along P (after_all xs s) ys → Along P s (xs ++ ys)
  along_append [] ys s a b = b
  along_append (x ∷ xs) ys s a b = (a.0, along_append xs ys (after s x) a.1 b)

  along_at : (k : ℕ) (xs : List Change) (s : State) → Along P s xs → Shows P (after_all (take k xs) s)
  along_at zero [] s a = a
  along_at zero (x ∷ xs) s a = a.0
  along_at (suc k) [] s a = a
  along_at (suc k) (x ∷ xs) s a = along_at k xs (after s x) a.1

  along_end : (xs : List Change) (s : State) → Along P s xs → Shows P (after_all xs s)
  along_end [] s a = a
  along_end (x ∷ xs) s a = along_end xs (after s x) a.1

along_weaker : (P R : State → Tree → Type 0) (xs : List Change) (s : State) → ((x : State) (t : Tree) → P x t → R x t) → Along P s xs → Along R s xs
along_weaker P R [] s f a = record { each = λ t i. f s t (a.each t i) }
along_weaker P R (x ∷ xs) s f a = (record { each = λ t i. f s t (a.0.each t i) }, along_weaker P R xs (after s x) f a.1)

module _ {q : Change → Type 0} {P : State → Tree → Type 0} where
  pub goes_state : {a b : Story} (g : GoesOn a b q P) → state_of b ≡ after_all g.more (state_of a)
  goes_state {a = a} g = ap state_of g.grows ∙ all_after a.log g.more a.start

  -- nothing was called
  pub goes_start : (a : Story) → Shows P (state_of a) → GoesOn a a q P
  goes_start a shows = record { more = []; grows = ap (λ l. record { start = a.start; log = l }) (sym (append-nil a.log)); kind = tt; along = shows }

  -- one run after another
  pub goes_trans : {a b c : Story} → GoesOn a b q P → GoesOn b c q P → GoesOn a c q P
  goes_trans {a = a} x y = record {
    more = x.more ++ y.more;
    grows = y.grows ∙ ap (λ (s : Story). let r : Story = record { start = s.start; log = s.log ++ y.more } in r) x.grows ∙ ap (λ (l : List Change). let r : Story = record { start = a.start; log = l } in r) (append_assoc a.log x.more y.more);
    kind = each_append q x.more y.more x.kind y.kind;
    along = along_append P x.more y.more (state_of a) x.along (subst (λ (s : State). Along P s y.more) (goes_state x) y.along);
  }

  -- one change more
  pub goes_once : {a b : Story} (c : Change) → GoesOn a b q P → q c → Shows P (after (state_of b) c) → GoesOn a (then_change b c) q P
  goes_once {a = a} {b = b} c x is shows = goes_trans x (record {
    more = c ∷ [];
    grows = refl;
    kind = (is, tt);
    along = (subst (Shows P) (sym (goes_state x)) (along_end P x.more (state_of a) x.along), shows);
  })

  pub goes_shows : {a b : Story} → GoesOn a b q P → Shows P (state_of b)
  goes_shows {a = a} x = subst (Shows P) (sym (goes_state x)) (along_end P x.more (state_of a) x.along)

  -- by moments
  pub goes_leaves : {a b : Story} → GoesOn a b q P → LeavesOnly a b P
  goes_leaves {a = a} {b = b} g =
      let long : length b.log ≡ length a.log + length g.more = ap (λ (s : Story). length s.log) g.grows ∙ length-append a.log g.more in
      let same : (k : ℕ) → state_at b k ≡ after_all (take k (a.log ++ g.more)) a.start = λ k. ap (λ (s : Story). state_at s k) g.grows in
      let past : (k : ℕ) → length a.log ≤ k → Shows P (state_at b k) = λ k le.
      subst (Shows P)
      (sym (same k ∙ ap (λ (cs : List Change). after_all cs a.start) (take_past k (k - length a.log) a.log g.more (omega (arith, le))) ∙ all_after a.log (take (k - length a.log) g.more) a.start))
      (along_at P (k - length a.log) g.more (state_of a) g.along) in
      record {
        later = omega (arith, long);
        each = λ tree since. (past since.at since.from).each tree since.image;
        before = λ t tree since. ⊎_elim
            (λ lt. inl (record {
              at = since.at;
              from = since.from;
              to = omega (arith, lt);
              image = subst (λ (s : State). IsImage s tree) (same since.at ∙ ap (λ (cs : List Change). after_all cs a.start) (take-append-le since.at a.log g.more (omega (arith, lt)))) since.image;
            }))
            (λ ge. inr ((past since.at ge).each tree since.image))
            (cases_lt since.at (length a.log));
      }

-- weaker is enough
pub goes_weaker : {a b : Story} (q r : Change → Type 0) (P R : State → Tree → Type 0) → ((c : Change) → q c → r c) → ((s : State) (t : Tree) → P s t → R s t) → GoesOn a b q P → GoesOn a b r R
goes_weaker {a = a} q r P R f h g = record { more = g.more; grows = g.grows; kind = each_weaker q r g.more f g.kind; along = along_weaker P R g.more (state_of a) h g.along }

-- a file that none of the changes touches
kept_all : (path : List ℕ) (id : ℕ) (f : FileState) (q : Change → Type 0) → ((c : Change) → q c → Spares path id c) → (cs : List Change) (s : State) → Each q cs → IsKeptFile s path id f → IsKeptFile (after_all cs s) path id f
kept_all path id f q spares [] s each kept = kept
kept_all path id f q spares (c ∷ cs) s each kept = kept_all path id f q spares cs (after s c) each.1 (kept_spared s path id f kept c (spares c each.0))

pub kept_goes : {a b : Story} {P : State → Tree → Type 0} (path : List ℕ) (id : ℕ) (f : FileState) (q : Change → Type 0) → ((c : Change) → q c → Spares path id c) → GoesOn a b q P → IsKeptFile (state_of a) path id f → IsKeptFile (state_of b) path id f
kept_goes {a = a} path id f q spares g kept = subst (λ (s : State). IsKeptFile s path id f) (sym (goes_state g)) (kept_all path id f q spares g.more (state_of a) g.kind kept)

-- ---- by the calls' answers

pub left_cases : (same made : Type 0) (e : DiskError) → LeftBy same made e → same ⊎ made
left_cases same made Fault h = h
left_cases same made NotThere h = inl h
left_cases same made Exists h = inl h
left_cases same made NoLinks h = inl h
left_cases same made NotEmpty h = inl h
left_cases same made (Short found) h = inl h
left_cases same made NoMemory h = inl h

module _ {start : Story} {q : Change → Type 0} {P : State → Tree → Type 0} where
  pub went_start : {told : Option Story} (I : State → Type 0) → told ≡ Some start → I (state_of start) → ((s : State) → I s → Shows P s) → Went start told q P I
  went_start I is here shows = record { story = start; tells = is; goes = goes_start start (shows (state_of start) here); now = here }

  -- what is known of the state may be weakened
  pub went_weaker : {told : Option Story} (I J : State → Type 0) → ((s : State) → I s → J s) → Went start told q P I → Went start told q P J
  went_weaker I J f w = record { story = w.story; tells = w.tells; goes = w.goes; now = f (state_of w.story) w.now }

  -- a call that changed nothing
  pub went_stay : {told now : Option Story} {I : State → Type 0} → now ≡ told → Went start told q P I → Went start now q P I
  went_stay same w = record { story = w.story; tells = same ∙ w.tells; goes = w.goes; now = w.now }

  -- a call that was Ok
  pub went_ok : {told now : Option Story} (I J : State → Type 0) (c : State → Change) → Makes told c now
      → ((s : State) → I s → q (c s)) → ((s : State) → I s → J (after s (c s))) → ((s : State) → J s → Shows P s) → Went start told q P I → Went start now q P J
  went_ok I J c makes kind step shows w =
      let s : State = state_of w.story in
      record {
        story = pushed c w.story;
        tells = makes ∙ ap (option_map (pushed c)) w.tells;
        goes = goes_once (c s) w.goes (kind s w.now) (shows (after s (c s)) (step s w.now));
        now = subst J (sym (state_push w.story (c s))) (step s w.now);
      }

  -- a call that was refused, or whose fault may have done it
  pub went_err : {told now : Option Story} (I J : State → Type 0) (c : State → Change) (refusal : State → Option DiskError) (e : DiskError) → LeftBy (now ≡ told) (Allowed refusal told × Makes told c now) e
      → ((s : State) → I s → q (c s)) → ((s : State) → I s → J (after s (c s))) → ((s : State) → J s → Shows P s) → Went start told q P I → Went start now q P (λ s. I s ⊎ J s)
  went_err {told = told} {now = now} I J c refusal e did kind step shows w = ⊎_elim
      (λ same. went_weaker I (λ s. I s ⊎ J s) (λ s i. inl i) (went_stay same w))
      (λ made. went_weaker J (λ s. I s ⊎ J s) (λ s j. inr j) (went_ok I J c made.1 kind step shows w))
      (left_cases (now ≡ told) (Allowed refusal told × Makes told c now) e did)

  -- an append that was refused, or whose fault may have done a front of it
  pub went_append_err : {told now : Option Story} (I : State → Type 0) (J : ℕ → State → Type 0) (path bytes : List ℕ) (e : DiskError) → LeftBy (now ≡ told) (Allowed (no_file path) told × MakesFront path bytes told now) e
      → ((n : ℕ) (s : State) → I s → q (appended path (take n bytes) s)) → ((n : ℕ) (s : State) → I s → J n (after s (appended path (take n bytes) s))) → ((n : ℕ) (s : State) → J n s → Shows P s)
      → Went start told q P I → Went start now q P (λ s. I s ⊎ ((n : ℕ) × J n s))
  went_append_err {told = told} {now = now} I J path bytes e did kind step shows w = ⊎_elim
      (λ same. went_weaker I (λ s. I s ⊎ ((n : ℕ) × J n s)) (λ s i. inl i) (went_stay same w))
      (λ made. let part = made.1 in went_weaker (J part.0) (λ s. I s ⊎ ((n : ℕ) × J n s)) (λ s j. inr (part.0, j)) (went_ok I (J part.0) (appended path (take part.0 bytes)) part.1 (kind part.0) (step part.0) (shows part.0) w))
      (left_cases (now ≡ told) (Allowed (no_file path) told × MakesFront path bytes told now) e did)

  -- a call that was refused, or whose fault may have done it, with why
  refused_same : {told now : Option Story} (I J : State → Type 0) (refusal : State → Option DiskError) (e : DiskError) → now ≡ told → IfSome told (λ story. RefusesBy (refusal (state_of story)) e) → Went start told q P I
      → Went start now q P (λ s. (I s ⊎ J s) × RefusesBy (refusal s) e)
  refused_same I J refusal e same by w = record {
    story = w.story;
    tells = same ∙ w.tells;
    goes = w.goes;
    now = (inl w.now, subst (λ (o : Option Story). IfSome o (λ story. RefusesBy (refusal (state_of story)) e)) w.tells by);
  }

  pub went_refused : {told now : Option Story} (I J : State → Type 0) (c : State → Change) (refusal : State → Option DiskError) (e : DiskError) → LeftBy (now ≡ told) (Allowed refusal told × Makes told c now) e → IfSome told (λ story. RefusesBy (refusal (state_of story)) e)
      → ((s : State) → I s → q (c s)) → ((s : State) → I s → J (after s (c s))) → ((s : State) → J s → Shows P s) → Went start told q P I → Went start now q P (λ s. (I s ⊎ J s) × RefusesBy (refusal s) e)
  went_refused I J c refusal Fault did by kind step shows w = went_weaker (λ s. I s ⊎ J s) (λ s. (I s ⊎ J s) × Unit {0}) (λ s i. (i, tt)) (went_err I J c refusal Fault did kind step shows w)
  went_refused I J c refusal NotThere did by kind step shows w = refused_same I J refusal NotThere did by w
  went_refused I J c refusal Exists did by kind step shows w = refused_same I J refusal Exists did by w
  went_refused I J c refusal NoLinks did by kind step shows w = refused_same I J refusal NoLinks did by w
  went_refused I J c refusal NotEmpty did by kind step shows w = refused_same I J refusal NotEmpty did by w
  went_refused I J c refusal (Short found) did by kind step shows w = refused_same I J refusal (Short found) did by w
  went_refused I J c refusal NoMemory did by kind step shows w = refused_same I J refusal NoMemory did by w

  -- the same of an append
  pub went_append_refused : {told now : Option Story} (I : State → Type 0) (J : ℕ → State → Type 0) (path bytes : List ℕ) (e : DiskError) → LeftBy (now ≡ told) (Allowed (no_file path) told × MakesFront path bytes told now) e → IfSome told (λ story. RefusesBy (no_file path (state_of story)) e)
      → ((n : ℕ) (s : State) → I s → q (appended path (take n bytes) s)) → ((n : ℕ) (s : State) → I s → J n (after s (appended path (take n bytes) s))) → ((n : ℕ) (s : State) → J n s → Shows P s)
      → Went start told q P I → Went start now q P (λ s. (I s ⊎ ((n : ℕ) × J n s)) × RefusesBy (no_file path s) e)
  went_append_refused I J path bytes Fault did by kind step shows w = went_weaker (λ s. I s ⊎ ((n : ℕ) × J n s)) (λ s. (I s ⊎ ((n : ℕ) × J n s)) × Unit {0}) (λ s i. (i, tt)) (went_append_err I J path bytes Fault did kind step shows w)
  went_append_refused I J path bytes NotThere did by kind step shows w = refused_same I (λ s. (n : ℕ) × J n s) (no_file path) NotThere did by w
  went_append_refused I J path bytes Exists did by kind step shows w = refused_same I (λ s. (n : ℕ) × J n s) (no_file path) Exists did by w
  went_append_refused I J path bytes NoLinks did by kind step shows w = refused_same I (λ s. (n : ℕ) × J n s) (no_file path) NoLinks did by w
  went_append_refused I J path bytes NotEmpty did by kind step shows w = refused_same I (λ s. (n : ℕ) × J n s) (no_file path) NotEmpty did by w
  went_append_refused I J path bytes (Short found) did by kind step shows w = refused_same I (λ s. (n : ℕ) × J n s) (no_file path) (Short found) did by w
  went_append_refused I J path bytes NoMemory did by kind step shows w = refused_same I (λ s. (n : ℕ) × J n s) (no_file path) NoMemory did by w

  -- one function after another
  pub went_then : {told now : Option Story} {I J : State → Type 0} → Went start told q P I → ((mid : Story) → told ≡ Some mid → I (state_of mid) → Went mid now q P J) → Went start now q P J
  went_then w next =
      let later = next w.story w.tells w.now in
      record { story = later.story; tells = later.tells; goes = goes_trans w.goes later.goes; now = later.now }

-- a wider kind, and less of the images
pub went_wider : {start : Story} {told : Option Story} {I : State → Type 0} (q r : Change → Type 0) (P R : State → Tree → Type 0) → ((c : Change) → q c → r c) → ((s : State) (t : Tree) → P s t → R s t) → Went start told q P I → Went start told r R I
went_wider q r P R f h w = record { story = w.story; tells = w.tells; goes = goes_weaker q r P R f h w.goes; now = w.now }

-- ---- what holds at the start of a run, and is kept by each kind of change in it, holds all along it

module _ {q : Change → Type 0} {P : State → Tree → Type 0} (R : State → Tree → Type 0) (I : State → Type 0) (keep : (s : State) (c : Change) → q c → I s → I (after s c)) (shows : (s : State) (t : Tree) → I s → IsImage s t → P s t → R s t) where
  along_kept : (cs : List Change) (s : State) → Each q cs → I s → Along P s cs → Along R s cs
  along_kept [] s each i a = record { each = λ t image. shows s t i image (a.each t image) }
  along_kept (c ∷ cs) s each i a = (record { each = λ t image. shows s t i image (a.0.each t image) }, along_kept cs (after s c) each.1 (keep s c each.0 i) a.1)

  kept_after : (cs : List Change) (s : State) → Each q cs → I s → I (after_all cs s)
  kept_after [] s each i = i
  kept_after (c ∷ cs) s each i = kept_after cs (after s c) each.1 (keep s c each.0 i)

  pub went_kept : {start : Story} {told : Option Story} (J : State → Type 0) → I (state_of start) → Went start told q P J → Went start told q R (λ s. J s × I s)
  went_kept {start = start} J i w = record {
    story = w.story;
    tells = w.tells;
    goes = record { more = w.goes.more; grows = w.goes.grows; kind = w.goes.kind; along = along_kept w.goes.more (state_of start) w.goes.kind i w.goes.along };
    now = (w.now, subst I (sym (goes_state w.goes)) (kept_after w.goes.more (state_of start) w.goes.kind i));
  }
