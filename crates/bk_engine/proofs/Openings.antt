-- What an opening leaves, and why it is refused.
use Rattle.std.specs.Prelude.{◌≡◌, ◌≢◌, ℕ, Bool, true, false, List, length, Option, Some, None, Result, IfErr}
use Rattle.std.specs.Result.{IsErrAnd}
use Rattle.std.proofs.Common.{inl, inr, refl, sym, ap, subst, ◌∙◌, arith}
use Rattle.std.proofs.lemmas.Result.{err_from_is_err_and}
use Rattle.lsm_names.specs.Paths.{is_path, is_component, is_component_byte, is_dots}
use Rattle.lsm_disk.specs.Names.{Node, NameOp, stands}
use Rattle.lsm_disk.specs.State.{State, Story, Change, Created, Named, Appended, Synced, Names_synced, Idle, after, state_of, names_now, folder_made}
use Rattle.lsm_disk.specs.Goes.{Went}
use Rattle.lsm_disk.specs.Answers.{Makes, LeftBy, Allowed}
use Rattle.lsm_disk.specs.declared.calls.DiskError.{DiskError}
use Rattle.lsm_disk.proofs.Now.{folder_made_stands, stands_past_folder}
use Rattle.lsm_disk.proofs.Runs.{went_start, went_ok, went_err, went_weaker, went_wider, went_then}
use Rattle.bk_tree.specs.Places.{meta_folder, private_root, shared_root}
use Rattle.bk_engine.specs.Copying.{Whatever, Anything}
use Rattle.bk_engine.specs.Opening.{IsRoot, IsRootFolder, MakesRoots, MakesFolder, HasFolder, HasRoots, IsFree, IsMissing, AreMissing, found_by, strange_by, or_else, no_opening, IsRefusal}
use Rattle.bk_engine.specs.declared.errors.EngineError.{EngineError}
use Rattle.bk_engine.proofs.Frames.{went_also}

-- what is known of an error holds of the `?` that hands it on
pub returned : {T : Type 0} (P : EngineError → Type 0) (r : Result T EngineError) (e : EngineError) → IsErrAnd r (λ x. x ≡ e) → P e → IfErr r P
returned {T = T} P r e is p =
    let q = err_from_is_err_and r is in
    subst (λ (x : Result T EngineError). IfErr x P) (sym q.1) (subst P (sym q.2) p)

-- ---- the three names are paths

pub metas_is_path : is_path meta_folder ≡ true
unfolding is_path is_component is_component_byte is_dots
metas_is_path = refl

pub own_is_path : is_path private_root ≡ true
unfolding is_path is_component is_component_byte is_dots
own_is_path = refl

pub shared_is_path : is_path shared_root ≡ true
unfolding is_path is_component is_component_byte is_dots
shared_is_path = refl

-- ---- which refusal it is

not_strange : (path : List ℕ) (missing : Bool) (s : State) → IsMissing path missing s → strange_by path (stands (names_now s) path) ≡ None
not_strange path true s is = ap (strange_by path) is
not_strange path false s is = ap (strange_by path) is

module _ (s : State) where
  abbrev of_metas : Option EngineError
  of_metas = found_by meta_folder (stands (names_now s) meta_folder)

  abbrev of_own : Option EngineError
  of_own = strange_by private_root (stands (names_now s) private_root)

  abbrev of_shared : Option EngineError
  of_shared = strange_by shared_root (stands (names_now s) shared_root)

  module _ (free : IsFree meta_folder s) where
    past_metas : no_opening s ≡ or_else of_own of_shared
    past_metas = ap (λ (o : Option Node). or_else (found_by meta_folder o) (or_else of_own of_shared)) free

    module _ (own : Bool) (own_is : IsMissing private_root own s) where
      past_own : no_opening s ≡ of_shared
      past_own = past_metas ∙ ap (λ (o : Option EngineError). or_else o of_shared) (not_strange private_root own s own_is)

  pub nothing_refused : (own shared : Bool) → AreMissing own shared s → no_opening s ≡ None
  nothing_refused own shared m = past_own m.no_metas own m.own_is ∙ not_strange shared_root shared s m.shared_is

-- nothing was refused at the begin, and a later call was
pub later_refusal : (s : State) (own shared : Bool) (e : EngineError) → AreMissing own shared s → IsRefusal None e → IsRefusal (no_opening s) e
later_refusal s own shared e m is = subst (λ (o : Option EngineError). IsRefusal o e) (sym (nothing_refused s own shared m)) is

-- ---- one folder is made

module _ (path : List ℕ) {t0 : Option Story} (story : Story) (tells : t0 ≡ Some story) where
  pub nothing_made : (I : State → Type 0) → I (state_of story) → Went story t0 (MakesFolder path) Anything I
  nothing_made I is = went_start I tells is (λ s i. record { each = λ t image. tt })

  pub folder_is_made : {t1 : Option Story} → Makes t0 (folder_made path) t1 → Went story t1 (MakesFolder path) Anything (HasFolder path)
  folder_is_made makes = went_ok Whatever (HasFolder path) (folder_made path) makes (λ s i. refl) (λ s i. folder_made_stands s path) (λ s i. record { each = λ t image. tt }) (nothing_made Whatever tt)

  pub folder_not_made : {t1 : Option Story} (refusal : State → Option DiskError) (e : DiskError) → LeftBy (t1 ≡ t0) (Allowed refusal t0 × Makes t0 (folder_made path) t1) e → Went story t1 (MakesFolder path) Anything Whatever
  folder_not_made refusal e did = went_weaker _ Whatever (λ s i. tt)
      (went_err Whatever Whatever (folder_made path) refusal e did (λ s i. refl) (λ s i. tt) (λ s i. record { each = λ t image. tt }) (nothing_made Whatever tt))

-- what isn't missing stands already
pub stands_already : (path : List ℕ) (missing : Bool) (s : State) → missing ≡ false → IsMissing path missing s → HasFolder path s
stands_already path missing s test is = subst (λ (b : Bool). IsMissing path b s) test is

-- ---- what the making of one leaves of another

stands_left : (path other : List ℕ) → path ≢ other → (s : State) (c : Change) → MakesFolder other c → stands (names_now (after s c)) path ≡ stands (names_now s) path
stands_left path other ne s (Created p) is = absurd is
stands_left path other ne s (Named op) is = ap (λ (o : NameOp). stands (names_now (after s (Named o))) path) is ∙ stands_past_folder s path other ne
stands_left path other ne s (Appended k bytes) is = absurd is
stands_left path other ne s (Synced k) is = absurd is
stands_left path other ne s Names_synced is = absurd is
stands_left path other ne s Idle is = refl

missing_left : (path other : List ℕ) (missing : Bool) → path ≢ other → (s : State) (c : Change) → MakesFolder other c → IsMissing path missing s → IsMissing path missing (after s c)
missing_left path other true ne s c makes is = stands_left path other ne s c makes ∙ is
missing_left path other false ne s c makes is = stands_left path other ne s c makes ∙ is

makes_roots : (path : List ℕ) → IsRoot path → (c : Change) → MakesFolder path c → MakesRoots c
makes_roots path root (Created p) is = absurd is
makes_roots path root (Named op) is = subst IsRootFolder (sym is) (root, refl)
makes_roots path root (Appended k bytes) is = absurd is
makes_roots path root (Synced k) is = absurd is
makes_roots path root Names_synced is = absurd is
makes_roots path root Idle is = tt

own_apart : private_root ≢ meta_folder
own_apart same = absurd (omega (arith, ap (λ (l : List ℕ). length l) same))

shared_apart : shared_root ≢ meta_folder
shared_apart same = absurd (omega (arith, ap (λ (l : List ℕ). length l) same))

shared_apart_own : shared_root ≢ private_root
shared_apart_own same = absurd (omega (arith, ap (λ (l : List ℕ). length l) same))

metas_apart : meta_folder ≢ private_root
metas_apart same = absurd (omega (arith, ap (λ (l : List ℕ). length l) same))

metas_apart_shared : meta_folder ≢ shared_root
metas_apart_shared same = absurd (omega (arith, ap (λ (l : List ℕ). length l) same))

own_apart_shared : private_root ≢ shared_root
own_apart_shared same = absurd (omega (arith, ap (λ (l : List ℕ). length l) same))

-- ---- one after another

-- the folder of the metas was made, and then that of the backups' own folders
abbrev pub MetasMade : Bool → Bool → State → Type 0
MetasMade own shared s = HasFolder meta_folder s × (IsMissing private_root own s × IsMissing shared_root shared s)

abbrev pub OwnMade : Bool → State → Type 0
OwnMade shared s = HasFolder meta_folder s × (HasFolder private_root s × IsMissing shared_root shared s)

module _ (story : Story) where
  abbrev pub Made : Option Story → (State → Type 0) → Type 0
  Made told I = Went story told MakesRoots Anything I

  -- a call on this folder, after which it stands where it was missing as said
  abbrev pub MakesMissing : List ℕ → Bool → Option Story → Option Story → Type 0
  MakesMissing path missing t1 t2 = (mid : Story) → t1 ≡ Some mid → IsMissing path missing (state_of mid) → Went mid t2 (MakesFolder path) Anything (HasFolder path)

  pub metas_made : (own shared : Bool) (path : List ℕ) {t0 t1 : Option Story} → path ≡ meta_folder → t0 ≡ Some story → AreMissing own shared (state_of story) → MakesMissing path true t0 t1 → Made t1 (MetasMade own shared)
  metas_made own shared path {t0} {t1} is tells m makes =
      let made : MakesMissing meta_folder true t0 t1 = subst (λ (p : List ℕ). MakesMissing p true t0 t1) is makes in
      went_wider (MakesFolder meta_folder) MakesRoots Anything Anything (makes_roots meta_folder (inl refl)) (λ s t p. p)
      (went_also (MakesFolder meta_folder) Anything (HasFolder meta_folder) (λ s. IsMissing private_root own s × IsMissing shared_root shared s)
      (λ s c makes_it j. (missing_left private_root meta_folder own own_apart s c makes_it j.0, missing_left shared_root meta_folder shared shared_apart s c makes_it j.1))
      (m.own_is, m.shared_is) (made story tells m.no_metas))

  pub own_made : (own shared : Bool) (path : List ℕ) {t1 t2 : Option Story} → path ≡ private_root → Made t1 (MetasMade own shared) → MakesMissing path own t1 t2 → Made t2 (OwnMade shared)
  own_made own shared path {t1} {t2} is before makes =
      let made : MakesMissing private_root own t1 t2 = subst (λ (p : List ℕ). MakesMissing p own t1 t2) is makes in
      went_then before (λ mid tells at.
      went_weaker (λ s. HasFolder private_root s × (HasFolder meta_folder s × IsMissing shared_root shared s)) (OwnMade shared) (λ s both. (both.1.0, (both.0, both.1.1)))
      (went_wider (MakesFolder private_root) MakesRoots Anything Anything (makes_roots private_root (inr (inl refl))) (λ s t p. p)
      (went_also (MakesFolder private_root) Anything (HasFolder private_root) (λ s. HasFolder meta_folder s × IsMissing shared_root shared s)
      (λ s c makes_it j. (stands_left meta_folder private_root metas_apart s c makes_it ∙ j.0, missing_left shared_root private_root shared shared_apart_own s c makes_it j.1))
      (at.0, at.1.1) (made mid tells at.1.0))))

  pub shared_made : (shared : Bool) (path : List ℕ) {t2 t3 : Option Story} → path ≡ shared_root → Made t2 (OwnMade shared) → MakesMissing path shared t2 t3 → Made t3 HasRoots
  shared_made shared path {t2} {t3} is before makes =
      let made : MakesMissing shared_root shared t2 t3 = subst (λ (p : List ℕ). MakesMissing p shared t2 t3) is makes in
      went_then before (λ mid tells at.
      went_weaker (λ s. HasFolder shared_root s × (HasFolder meta_folder s × HasFolder private_root s)) HasRoots (λ s all. record { metas = all.1.0; own = all.1.1; shared = all.0 })
      (went_wider (MakesFolder shared_root) MakesRoots Anything Anything (makes_roots shared_root (inr (inr refl))) (λ s t p. p)
      (went_also (MakesFolder shared_root) Anything (HasFolder shared_root) (λ s. HasFolder meta_folder s × HasFolder private_root s)
      (λ s c makes_it j. (stands_left meta_folder shared_root metas_apart_shared s c makes_it ∙ j.0, stands_left private_root shared_root own_apart_shared s c makes_it ∙ j.1))
      (at.0, at.1.0) (made mid tells at.1.1))))

  -- the call was refused
  pub then_ended : (path : List ℕ) (I : State → Type 0) {t1 t2 : Option Story} → IsRoot path → Made t1 I → ((mid : Story) → t1 ≡ Some mid → Went mid t2 (MakesFolder path) Anything Whatever) → Made t2 Whatever
  then_ended path I root before next = went_then before (λ mid tells at. went_wider (MakesFolder path) MakesRoots Anything Anything (makes_roots path root) (λ s t p. p) (next mid tells))

  pub begun : {t0 : Option Story} → t0 ≡ Some story → Made t0 Whatever
  begun tells = went_start Whatever tells tt (λ s i. record { each = λ t image. tt })

  -- why it was refused
  pub then_refused : (e : EngineError) (own shared : Bool) (I Q : State → Type 0) {t1 : Option Story} → AreMissing own shared (state_of story) → Made t1 I → ((s : State) → I s → Q s)
      → ((mid : Story) → t1 ≡ Some mid → Q (state_of mid) → IsRefusal None e) → IsRefusal (no_opening (state_of story)) e
  then_refused e own shared I Q m before known next = later_refusal (state_of story) own shared e m (next before.story before.tells (known (state_of before.story) before.now))
