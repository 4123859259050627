-- A view of a whole file, and how it was refused.
use Rattle.std.specs.Prelude.{◌≡◌, ℕ, Bool, true, cond, nat_le, List, [], ◌∷◌, length, take, Option, Some, None, IfSome}
use Rattle.std.proofs.Common.{refl, sym, ap, subst, ◌∙◌, arith}
use Rattle.std.proofs.lemmas.Bool.Decides.{nat_tests}
use Rattle.lsm_disk.specs.State.{State, Story, state_of, file_now, bytes_of}
use Rattle.lsm_disk.specs.Viewed.{Viewed, opened}
use Rattle.lsm_disk.specs.Refusals.{no_file, no_view, or_else, short_of}
use Rattle.lsm_disk.specs.Answers.{RefusesBy}
use Rattle.lsm_disk.specs.declared.calls.DiskError.{DiskError}
use Rattle.lsm_disk.specs.declared.calls.DiskError.TheVariants as disk
use Rattle.lsm_frame.specs.Reader.{Tells}

-- ---- what holds where a disk tells

pub where_told : {A : Type 0} (o : Option A) (P : A → Type 0) → ((x : A) → o ≡ Some x → P x) → IfSome o P
where_told None P f = tt
where_told (Some x) P f = f x refl

pub told_that : {A : Type 0} (o : Option A) (P : A → Type 0) (x : A) → o ≡ Some x → IfSome o P → P x
told_that {A = A} o P x is h = subst (λ (p : Option A). IfSome p P) is h

-- ---- a view

or_none : (o : Option DiskError) → or_else o None ≡ o
or_none None = refl
or_none (Some e) = refl

not_short : (bytes : List ℕ) → short_of (length bytes) bytes ≡ None
not_short bytes =
    let fits : nat_le (length bytes) (length bytes) ≡ true = grind (arith, nat_tests) in
    ap (λ (b : Bool). cond b None (Some (disk.Short (length bytes)))) fits

module _ (path : List ℕ) (s : State) (len : ℕ) (whole : len ≡ length (bytes_of (file_now path s))) where
  -- a view of a file's whole length is refused only where the file isn't there
  pub view_same : no_view path len s ≡ no_file path s
  view_same =
      ap (λ (n : ℕ). or_else (no_file path s) (short_of n (bytes_of (file_now path s)))) whole
      ∙ ap (or_else (no_file path s)) (not_short (bytes_of (file_now path s)))
      ∙ or_none (no_file path s)

  pub view_refused : (why : DiskError) → RefusesBy (no_view path len s) why → RefusesBy (no_file path s) why
  view_refused why is = subst (λ (o : Option DiskError). RefusesBy o why) view_same is

take_all : (bytes : List ℕ) → take (length bytes) bytes ≡ bytes
take_all [] = refl
take_all (b ∷ bytes) = ap (λ (l : List ℕ). b ∷ l) (take_all bytes)

-- such a view tells the whole file
pub view_tells : (path : List ℕ) (story : Story) (told : Option Story) (len : ℕ) (view : Viewed) → told ≡ Some story → view ≡ opened path len told → len ≡ length (bytes_of (file_now path (state_of story)))
    → Tells view (bytes_of (file_now path (state_of story)))
view_tells path story told len view is seen whole =
    let bytes = bytes_of (file_now path (state_of story)) in
    let all : view ≡ opened path (length bytes) (Some story) = seen ∙ ap (opened path len) is ∙ ap (λ (n : ℕ). opened path n (Some story)) whole in
    subst (λ (v : Viewed). Tells v bytes) (sym all) (record { bytes = ap (λ (l : List ℕ). Some l) (take_all bytes); whole = refl })
