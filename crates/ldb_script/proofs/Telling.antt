-- What a disk tells after a call, and why it may refuse one.
use Rattle.std.specs.Prelude.{◌≡◌, ℕ, List, [], ◌∷◌, ◌++◌, Option, Some, None, option_map, IfSome, IfErr, IsErrAnd, OnOk, Result, Ok, Err}
use Rattle.std.proofs.Common.{inl, inr, refl, sym, ap, subst, ◌∙◌, arith}
use Rattle.lsm_disk.specs.Names.{Node, Folder_node, File_node, stands}
use Rattle.lsm_disk.specs.Kinds.{kind_of}
use Rattle.lsm_disk.specs.declared.calls.Kind.{Kind}
use Rattle.lsm_disk.specs.State.{State, Story, Seen, Change, state_of, names_now, after}
use Rattle.lsm_disk.specs.Answers.{Makes, pushed, RefusesBy, HasRisen}
use Rattle.lsm_disk.specs.Halts.{halt_at, IsAmong}
use Rattle.lsm_disk.specs.declared.calls.Halt.{Halt}
use Rattle.lsm_disk.specs.declared.calls.DiskCall.{DiskCall}
use Rattle.lsm_disk.specs.declared.calls.DiskError.{DiskError}
use Rattle.lsm_disk.specs.declared.calls.DiskError.TheVariants.{Fault, NotThere, Exists, NoLinks, NotEmpty, Short, NoMemory}
use Rattle.lsm_disk.proofs.Runs.{state_push}
use Rattle.ldb_script.specs.Filling.{IsFreeFolder, Fills, HasStore}
use Rattle.ldb_script.specs.Opening.{SeenStay, IsFree, Leads, IsHindered, MakesOr, filling_calls, open_error}
use Rattle.ldb_script.specs.declared.opening.OpenError.{OpenError}
use Rattle.ldb_script.specs.declared.opening.OpenError.TheVariants as open_errors

-- it tells a state of which P holds
pub record Tells (told : Option Story) (P : State → Type 0) : Type 0 where
  pub story : Story
  pub tells : told ≡ Some story
  pub holds : P (state_of story)

pub told_now : (told : Option Story) (story : Story) → told ≡ Some story → Tells told (λ s. s ≡ state_of story)
told_now told story tells = record { story = story; tells = tells; holds = refl }

pub told_more : {told : Option Story} (P Q : State → Type 0) → ((s : State) → P s → Q s) → Tells told P → Tells told Q
told_more P Q f t = record { story = t.story; tells = t.tells; holds = f (state_of t.story) t.holds }

-- a call that was Ok
pub told_step : {told new : Option Story} (c : State → Change) (P Q : State → Type 0) → ((s : State) → P s → Q (after s (c s))) → Makes told c new → Tells told P → Tells new Q
told_step c P Q step makes t = record {
  story = pushed c t.story;
  tells = makes ∙ ap (option_map (pushed c)) t.tells;
  holds = subst Q (sym (state_push t.story (c (state_of t.story)))) (step (state_of t.story) t.holds);
}

-- a refusal of it, where nothing refuses it
pub refuses_none : {told : Option Story} (P : State → Type 0) (refusal : State → Option DiskError) → ((s : State) → P s → refusal s ≡ None) → (e : DiskError) → IfSome told (λ story. RefusesBy (refusal (state_of story)) e) → Tells told P → RefusesBy None e
refuses_none P refusal fits e answer t =
    subst (λ (o : Option DiskError). RefusesBy o e) (fits (state_of t.story) t.holds)
    (subst (λ (o : Option Story). IfSome o (λ story. RefusesBy (refusal (state_of story)) e)) t.tells answer)

-- ---- runs of calls

pub stay : (seen : Seen) → SeenStay seen seen
stay seen = record { faults = omega arith; refusals = omega arith }

pub stay_then : (a b c : Seen) → SeenStay a b → SeenStay b c → SeenStay a c
stay_then a b c x y = record { faults = omega (arith, x.faults, y.faults); refusals = omega (arith, x.refusals, y.refusals) }

pub leads_told : (P : State → Type 0) (R : State → State → Type 0) (old new : Option Story) → Leads P R old new → (t : Tells old P) → Tells new (R (state_of t.story))
leads_told P R old new leads t =
    let l = leads t.story t.tells t.holds in
    record { story = l.0; tells = l.1; holds = l.2 }

pub leads_by : (P : State → Type 0) (R : State → State → Type 0) (old new : Option Story) → ((story : Story) → old ≡ Some story → P (state_of story) → Tells new (R (state_of story))) → Leads P R old new
leads_by P R old new by story tells holds = let t = by story tells holds in (t.story, t.tells, t.holds)

-- one part of it after another
pub leads_then : (folder : List ℕ) (P Q R : State → Type 0) (old mid new : Option Story) → Leads P (Fills folder Q) old mid → Leads Q (Fills folder R) mid new → Leads P (Fills folder R) old new
leads_then folder P Q R old mid new first next = λ story tells holds.
    let m = first story tells holds in
    let n = next m.0 m.1 m.2.has in
    (n.0, n.1, record { has = n.2.has; elsewhere = λ path out. n.2.elsewhere path out ∙ m.2.elsewhere path out })

module _ (calls : List Halt) (P : State → Type 0) (old mid new : Seen) (stays : SeenStay old mid) where
  -- the disk refused one of the calls, that nothing refuses where P holds
  pub hindered : (call : DiskCall) (path : List ℕ) (e : DiskError) → IsAmong (halt_at call path) calls → ((story : Story) → old.told ≡ Some story → P (state_of story) → RefusesBy None e) → HasRisen mid new e
      → IsHindered calls P old new (open_error call path e)
  hindered call path Fault among none rose = omega (arith, stays.faults, rose)
  hindered call path NoMemory among none rose = tt
  hindered call path NotThere among none rose = (among, omega (arith, stays.refusals, rose), λ story tells holds. clash (none story tells holds)) where
    clash : RefusesBy None NotThere → ⊥
    clash h = cc
  hindered call path Exists among none rose = (among, omega (arith, stays.refusals, rose), λ story tells holds. clash (none story tells holds)) where
    clash : RefusesBy None Exists → ⊥
    clash h = cc
  hindered call path NoLinks among none rose = (among, omega (arith, stays.refusals, rose), λ story tells holds. clash (none story tells holds)) where
    clash : RefusesBy None NoLinks → ⊥
    clash h = cc
  hindered call path NotEmpty among none rose = (among, omega (arith, stays.refusals, rose), λ story tells holds. clash (none story tells holds)) where
    clash : RefusesBy None NotEmpty → ⊥
    clash h = cc
  hindered call path (Short found) among none rose = (among, omega (arith, stays.refusals, rose), λ story tells holds. clash (none story tells holds)) where
    clash : RefusesBy None (Short found) → ⊥
    clash h = cc

  -- the part of it that was hindered came behind others
  pub hindered_then : (some : List Halt) (Q : State → Type 0) → ((at : Halt) → IsAmong at some → IsAmong at calls) → ((story : Story) → old.told ≡ Some story → P (state_of story) → Tells mid.told Q) → (why : OpenError)
      → IsHindered some Q mid new why → IsHindered calls P old new why
  hindered_then some Q wider leads open_errors.DiskFault h = omega (arith, stays.faults, h)
  hindered_then some Q wider leads open_errors.Found h = h
  hindered_then some Q wider leads (open_errors.Changed call path) h = (
    wider (halt_at call path) h.0,
    omega (arith, stays.refusals, h.1),
    λ story tells holds. let t = leads story tells holds in h.2 t.story t.tells t.holds,
  )
  hindered_then some Q wider leads open_errors.NoMemory h = tt

pub among_first : (at : Halt) (xs ys : List Halt) → IsAmong at xs → IsAmong at (xs ++ ys)
among_first at [] ys h = absurd h
among_first at (x ∷ xs) ys (inl is) = inl is
among_first at (x ∷ xs) ys (inr h) = inr (among_first at xs ys h)

pub among_later : (at : Halt) (xs ys : List Halt) → IsAmong at ys → IsAmong at (xs ++ ys)
among_later at [] ys h = h
among_later at (x ∷ xs) ys h = inr (among_later at xs ys h)

-- ---- answers that are handed on

pub given_on : {T E : Type 0} (r : Result T E) (e : E) (P : E → Type 0) → IsErrAnd r (λ x. x ≡ e) → P e → IfErr r P
given_on (Ok value) e P is h = absurd is
given_on (Err x) e P is h = subst P (sym is) h

pub on_ok : {T E : Type 0} (r : Result T E) (P Q : Type 0) → (P → Q) → OnOk r P → OnOk r Q
on_ok (Ok value) P Q f h = f h
on_ok (Err e) P Q f h = h

-- ---- the whole opening

not_full : (o : Option Node) → None ≡ kind_of o → o ≡ None
not_full None is = refl
not_full (Some Folder_node) is = cc
not_full (Some (File_node id)) is = cc

-- the look at the folder's name found nothing
pub free_from : (folder : List ℕ) (seen : Seen) (found : Option Kind) → found ≡ None → IfSome seen.told (λ story. found ≡ kind_of (stands (names_now (state_of story)) folder)) → IsFree folder seen
free_from folder seen found none look story tells =
    not_full (stands (names_now (state_of story)) folder) (sym none ∙ subst (λ (o : Option Story). IfSome o (λ story. found ≡ kind_of (stands (names_now (state_of story)) folder))) tells look)

untold : (told : Option Story) (P : State → Type 0) → ((story : Story) → told ≡ Some story → P (state_of story)) → ((story : Story) → told ≡ Some story → ¬ P (state_of story)) → told ≡ None
untold None P is never = refl
untold (Some story) P is never = absurd (never story refl (is story refl))

pub makes_or : {T : Type 0} (folder : List ℕ) (old mid new : Seen) → mid.told ≡ old.told → SeenStay old mid → IsFree folder old → (r : Result T OpenError) → OnOk r (Leads (IsFreeFolder folder) (Fills folder (HasStore folder)) mid.told new.told)
    → IfErr r (IsHindered (filling_calls folder) (IsFreeFolder folder) mid new) → MakesOr folder old new r
makes_or folder old mid new same stays free (Ok value) made refused = λ story tells. made story (same ∙ tells) (free story tells)
makes_or folder old mid new same stays free (Err open_errors.DiskFault) made refused = omega (arith, stays.faults, refused)
makes_or folder old mid new same stays free (Err open_errors.Found) made refused = absurd refused
makes_or folder old mid new same stays free (Err (open_errors.Changed call path)) made refused = (
  inr refused.0,
  omega (arith, stays.refusals, refused.1),
  untold old.told (IsFreeFolder folder) free (λ story tells. refused.2 story (same ∙ tells)),
)
makes_or folder old mid new same stays free (Err open_errors.NoMemory) made refused = free
