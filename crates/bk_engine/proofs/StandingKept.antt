-- A restored folder stays whole while changes leave its names and its files alone.
use Rattle.std.specs.Prelude.{◌≡◌, ◌≢◌, ◌⊎◌, ℕ, ◌<◌, ◌==◌, Bool, true, false, cond, List, [], ◌∷◌, ◌++◌, length, All, Option, Some, None, is_some}
use Rattle.std.proofs.Common.{inl, inr, ⊎_elim, refl, sym, ap, subst, ◌∙◌, arith}
use Rattle.std.proofs.lemmas.List.{append-nil}
use Rattle.std.proofs.lemmas.List.Elements.{All-from_recursion, recursion_from_All}
use Rattle.std.specs.List.{AllByRecursion, list_all}
use Rattle.lsm_names.specs.FileNames.{spelled}
use Rattle.lsm_names.specs.Paths.{is_component, is_component_byte}
use Rattle.lsm_names.proofs.PathLemmas.{bytes_of_component, component_has_bytes}
use Rattle.lsm_disk.specs.Names.{Folder_node, is_in, under}
use Rattle.lsm_disk.specs.State.{FileState, State, Story, Change, after, after_all, state_of, file_at}
use Rattle.lsm_disk.specs.Images.{Tree}
use Rattle.lsm_disk.specs.Goes.{Each, Shows, Along, Went}
use Rattle.lsm_disk.specs.Kept.{IsKeptName, IsKeptFile, Spares, SparesName, InFile}
use Rattle.lsm_disk.specs.Dest.{path_in}
use Rattle.lsm_disk.specs.Building.{Part, names_of, sealed, IsWithin, IsWhole, IsKeptPart, IsBuilt}
use Rattle.lsm_disk.proofs.Built.{within_spares, within_spares_name, built_whole}
use Rattle.lsm_disk.proofs.Kept.{kept_at, kept_spared}
use Rattle.lsm_disk.proofs.Moves.{under_is}
use Rattle.lsm_disk.proofs.Named.{name_spared, file_spares, file_spares_name}
use Rattle.lsm_disk.proofs.Paths.{under_append, under_tail, number}
use Rattle.lsm_disk.proofs.Runs.{goes_state, went_weaker, went_wider}
use Rattle.bk_tree.proofs.Sparing.{within}
use Rattle.bk_engine.specs.Copying.{Whatever, Anything}
use Rattle.bk_engine.specs.Leaving.{LeavesFolder, SparesFolder, HasNoNameOf}
use Rattle.std.proofs.lemmas.Bool.{and_parts}
use Rattle.bk_meta.proofs.FileLemmas.{by_difference}

-- ---- names at a folder and in it

in_itself : (dir : List ℕ) → is_in dir dir ≡ true
in_itself [] = refl
in_itself (c ∷ dir) = ap (λ (path : List ℕ). is_some (under (c ∷ dir) path)) (sym (append-nil (c ∷ dir))) ∙ ap is_some (under_append (c ∷ dir) [] refl)

in_inside : (dir rest : List ℕ) → is_in dir (dir ++ 47 ∷ rest) ≡ true
in_inside [] rest = refl
in_inside (c ∷ dir) rest = ap is_some (under_append (c ∷ dir) (47 ∷ rest) refl)

-- ---- the folder with what is known of the files of its parts

module _ (Known : List ℕ → ℕ → Type 0) (dir : List ℕ) where
  record IsKnownPart (s : State) (part : Part) : Type 0 where
    kept : IsKeptPart dir s part
    known : Known (path_in dir part.name) kept.id

  record IsKnown (parts : List Part) (s : State) : Type 0 where
    stands : IsKeptName s dir (Some Folder_node)
    each : AllByRecursion (IsKnownPart s) parts
    only : (rest : List ℕ) → All (λ name. rest ≢ spelled name) (names_of parts) → IsKeptName s (dir ++ 47 ∷ rest) None

  parts_built : (s : State) (parts : List Part) → AllByRecursion (IsKnownPart s) parts → AllByRecursion (IsKeptPart dir s) parts
  parts_built s [] each = tt
  parts_built s (part ∷ parts) each = (each.0.kept, parts_built s parts each.1)

  is_built : (s : State) (parts : List Part) → IsKnown parts s → IsBuilt dir parts s
  is_built s parts is = record { stands = is.stands; each = All-from_recursion (IsKeptPart dir s) parts (parts_built s parts is.each); only = is.only }

  module _ (s : State) (knows : (path : List ℕ) (id : ℕ) (f : FileState) → is_in dir path ≡ true → IsKeptFile s path id f → Known path id) where
    parts_known : (parts : List Part) → AllByRecursion (IsKeptPart dir s) parts → AllByRecursion (IsKnownPart s) parts
    parts_known [] each = tt
    parts_known (part ∷ parts) each =
        (record { kept = each.0; known = knows (path_in dir part.name) each.0.id (sealed part.bytes) (in_inside dir (spelled part.name)) each.0.file }, parts_known parts each.1)

    is_known : (parts : List Part) → IsBuilt dir parts s → IsKnown parts s
    is_known parts is = record { stands = is.stands; each = parts_known parts (recursion_from_All (IsKeptPart dir s) parts is.each); only = is.only }

  module _ (c : Change) (names : (path : List ℕ) → is_in dir path ≡ true → SparesName path c) (files : (path : List ℕ) (id : ℕ) → is_in dir path ≡ true → Known path id → Spares path id c) (s : State) where
    parts_stay : (parts : List Part) → AllByRecursion (IsKnownPart s) parts → AllByRecursion (IsKnownPart (after s c)) parts
    parts_stay [] each = tt
    parts_stay (part ∷ parts) each =
        let path : List ℕ = path_in dir part.name in
        let id : ℕ = each.0.kept.id in (
          record {
            kept = record { id = id; file = kept_spared s path id (sealed part.bytes) each.0.kept.file c (files path id (in_inside dir (spelled part.name)) each.0.known) };
            known = each.0.known;
          },
          parts_stay parts each.1,
        )

    stays_known : (parts : List Part) → IsKnown parts s → IsKnown parts (after s c)
    stays_known parts is = record {
      stands = name_spared s dir (Some Folder_node) is.stands c (names dir (in_itself dir));
      each = parts_stay parts is.each;
      only = λ rest other. name_spared s (dir ++ 47 ∷ rest) None (is.only rest other) c (names (dir ++ 47 ∷ rest) (in_inside dir rest));
    }

-- ---- one change

pub built_stays : (s : State) (c : Change) (dir : List ℕ) (parts : List Part) → IsBuilt dir parts s → LeavesFolder dir s c → IsBuilt dir parts (after s c)
built_stays s c dir parts built leaves =
    let Known : List ℕ → ℕ → Type 0 = λ path id. file_at s path ≡ Some id in
    is_built Known dir (after s c) parts
    (stays_known Known dir c leaves.names leaves.files s parts (is_known Known dir s (λ path id f inside kept. kept_at s path id f kept) parts built))

-- ---- runs of changes

module _ (P R : State → Tree → Type 0) (J : State → Type 0) (q : Change → Type 0) (step : (s : State) (c : Change) → q c → J s → J (after s c)) (shows : (s : State) → J s → Shows R s) where
  both_shown : (s : State) → Shows P s → Shows R s → Shows (λ s t. P s t × R s t) s
  both_shown s a b = record { each = λ t image. (a.each t image, b.each t image) }

  kept_along : (cs : List Change) (s : State) → Each q cs → Along P s cs → J s → Along (λ s t. P s t × R s t) s cs × J (after_all cs s)
  kept_along [] s each along j = (both_shown s along (shows s j), j)
  kept_along (c ∷ cs) s each along j =
      let rest = kept_along cs (after s c) each.1 along.1 (step s c each.0 j) in
      ((both_shown s along.0 (shows s j), rest.0), rest.1)

  -- what each change keeps is kept, and each image on the way shows what follows from it, besides what it showed
  pub went_keeping : {start : Story} {told : Option Story} (I : State → Type 0) → J (state_of start) → Went start told q P I → Went start told q (λ s t. P s t × R s t) (λ s. I s × J s)
  went_keeping {start} I j w =
      let kept = kept_along w.goes.more (state_of start) w.goes.kind w.goes.along j in
      record {
        story = w.story;
        tells = w.tells;
        goes = record { more = w.goes.more; grows = w.goes.grows; kind = w.goes.kind; along = kept.0 };
        now = (w.now, subst J (sym (goes_state w.goes)) kept.1);
      }

-- the run with the folder whole in each image on the way, and built still at its end
abbrev pub StaysBuilt : List ℕ → List Part → Story → Option Story → (Change → Type 0) → (State → Tree → Type 0) → (State → Type 0) → Type 0
StaysBuilt dir parts story told q P I = Went story told q (λ s t. P s t × IsWhole dir parts t) (λ s. I s × IsBuilt dir parts s)

module _ (dir : List ℕ) (parts : List Part) (story : Story) (told : Option Story) (P : State → Tree → Type 0) (I : State → Type 0) where
  module _ (Known : List ℕ → ℕ → Type 0) (q : Change → Type 0) (names : (path : List ℕ) (c : Change) → is_in dir path ≡ true → q c → SparesName path c) (files : (path : List ℕ) (id : ℕ) (c : Change) → is_in dir path ≡ true → Known path id → q c → Spares path id c) where
    known_stays : IsKnown Known dir parts (state_of story) → Went story told q P I → StaysBuilt dir parts story told q P I
    known_stays known w =
        let J : State → Type 0 = IsKnown Known dir parts in
        let step : (s : State) (c : Change) → q c → J s → J (after s c) = λ s c is j. stays_known Known dir c (λ path inside. names path c inside is) (λ path id inside knows. files path id c inside knows is) s parts j in
        let shows : (s : State) → J s → Shows (λ s t. IsWhole dir parts t) s = λ s j. record { each = λ t image. built_whole s dir parts t (is_built Known dir s parts j) image } in
        let went = went_keeping P (λ s t. IsWhole dir parts t) J q step shows I known w in
        record { story = went.story; tells = went.tells; goes = went.goes; now = (went.now.0, is_built Known dir (state_of went.story) parts went.now.1) }

  -- while one file is written that no name in the folder leads to
  pub stays_in_file : (id : ℕ) → IsBuilt dir parts (state_of story) → HasNoNameOf dir (state_of story) id → Went story told (InFile id) P I → StaysBuilt dir parts story told (InFile id) P I
  stays_in_file id built other w =
      let s : State = state_of story in
      let Known : List ℕ → ℕ → Type 0 = λ path k. k ≢ id in
      known_stays Known (InFile id) (λ path c inside is. file_spares_name path id c is) (λ path k c inside known is. file_spares path k id c known is)
      (is_known Known dir s (λ path k f inside kept same. other path inside (kept_at s path k f kept ∙ ap Some same)) parts built) w

  -- while the changes are of a kind that leaves the folder's names, and the files that are there
  pub stays_spared : (q : Change → Type 0) → ((c : Change) → q c → SparesFolder dir (length (state_of story).files) c) → IsBuilt dir parts (state_of story) → Went story told q P I → StaysBuilt dir parts story told q P I
  stays_spared q spares built w =
      let s : State = state_of story in
      let Known : List ℕ → ℕ → Type 0 = λ path id. id < length s.files in
      known_stays Known q (λ path c inside is. (spares c is).names path inside) (λ path id c inside low is. (spares c is).files path id inside low)
      (is_known Known dir s (λ path id f inside kept. within s.files id f kept.file) parts built) w

-- ---- two folders of which neither is in the other

tail_front : (c : ℕ) (rest more : List ℕ) → under [] (c ∷ rest) ≡ Some (c ∷ rest) → under [] (c ∷ more) ≡ Some (c ∷ more)
tail_front c rest more tail = elim (c == 47) as (λ b. cond b (Some (c ∷ rest)) None ≡ Some (c ∷ rest) → cond b (Some (c ∷ more)) None ≡ Some (c ∷ more)) [ true ↦ λ h. refl | false ↦ λ h. cc ] tail

-- the path goes on behind the folder
record GoesOnBehind (dir path : List ℕ) : Type 0 where
  rest : List ℕ
  is : path ≡ dir ++ rest
  tail : under [] rest ≡ Some rest

longer : (c : ℕ) (a b : List ℕ) → GoesOnBehind a b → GoesOnBehind (c ∷ a) (c ∷ b)
longer c a b on = record { rest = on.rest; is = ap (λ (l : List ℕ). c ∷ l) on.is; tail = on.tail }

-- of two folders that a path goes on behind, one goes on behind the other
behind_both : (a b r q : List ℕ) → a ++ r ≡ b ++ q → under [] r ≡ Some r → under [] q ≡ Some q → GoesOnBehind a b ⊎ GoesOnBehind b a
behind_both [] [] r q same s t = inl (record { rest = []; is = refl; tail = refl })
behind_both [] (y ∷ b) r q same s t =
    inl (record { rest = y ∷ b; is = refl; tail = tail_front y (b ++ q) b (subst (λ (l : List ℕ). under [] l ≡ Some l) same s) })
behind_both (x ∷ a) [] r q same s t =
    inr (record { rest = x ∷ a; is = refl; tail = tail_front x (a ++ r) a (subst (λ (l : List ℕ). under [] l ≡ Some l) (sym same) t) })
behind_both (x ∷ a) (y ∷ b) r q same s t =
    let head : x ≡ y = cc in
    let rest : a ++ r ≡ b ++ q = cc in
    subst (λ (z : ℕ). GoesOnBehind (x ∷ a) (z ∷ b) ⊎ GoesOnBehind (z ∷ b) (x ∷ a)) head
    (⊎_elim (λ on. inl (longer x a b on)) (λ on. inr (longer x b a on)) (behind_both a b r q rest s t))

is_behind : (dir path : List ℕ) → is_in dir path ≡ true → GoesOnBehind dir path ⊎ (dir ≡ [])
is_behind [] path inside = inr refl
is_behind (c ∷ dir) path inside = by_rest (under (c ∷ dir) path) refl inside where
  by_rest : (o : Option (List ℕ)) → under (c ∷ dir) path ≡ o → is_some o ≡ true → GoesOnBehind (c ∷ dir) path ⊎ (c ∷ dir ≡ [])
  by_rest None is some = cc
  by_rest (Some rest) is some = inl (record { rest = rest; is = under_is (c ∷ dir) path rest is; tail = under_tail (c ∷ dir) path rest is })

behind_in : (dir path : List ℕ) → GoesOnBehind dir path → is_in dir path ≡ true
behind_in [] path on = refl
behind_in (c ∷ dir) path on = ap (λ (l : List ℕ). is_some (under (c ∷ dir) l)) on.is ∙ ap is_some (under_append (c ∷ dir) on.rest on.tail)

root_holds : (dir path : List ℕ) → dir ≡ [] → is_in dir path ≡ true
root_holds dir path is = ap (λ (l : List ℕ). is_in l path) is

-- what is in the one isn't in the other
pub out_of : (dir other path : List ℕ) → is_in dir other ≡ false → is_in other dir ≡ false → is_in dir path ≡ true → is_in other path ≡ false
out_of dir other path apart away inside = by_difference (is_in other path) (λ there. clash (is_behind dir path inside) (is_behind other path there)) where
  differ : (b : Bool) → b ≡ true → b ≡ false → ⊥
  differ b holds none = cc

  clash : GoesOnBehind dir path ⊎ (dir ≡ []) → GoesOnBehind other path ⊎ (other ≡ []) → ⊥
  clash (inr root) that = differ (is_in dir other) (root_holds dir other root) apart
  clash (inl this) (inr root) = differ (is_in other dir) (root_holds other dir root) away
  clash (inl this) (inl that) = ⊎_elim
      (λ on. differ (is_in dir other) (behind_in dir other on) apart)
      (λ on. differ (is_in other dir) (behind_in other dir on) away)
      (behind_both dir other this.rest that.rest (sym this.is ∙ that.is) this.tail that.tail)

-- ---- two folders of the root

slash_is_none : is_component_byte 47 ≡ false
unfolding is_component_byte
slash_is_none = refl

no_slash : (front rest : List ℕ) → list_all is_component_byte (front ++ 47 ∷ rest) ≡ true → ⊥
no_slash [] rest h =
    let clash : false ≡ true = sym slash_is_none ∙ (and_parts (is_component_byte 47) (list_all is_component_byte rest) h).0 in
    cc
no_slash (c ∷ front) rest h = no_slash front rest (and_parts (is_component_byte c) (list_all is_component_byte (front ++ 47 ∷ rest)) h).1

pub roots_apart : (dir other : List ℕ) → is_component dir ≡ true → is_component other ≡ true → dir ≢ other → is_in dir other ≡ false
roots_apart dir other first second differ = by_difference (is_in dir other) (λ inside. ⊎_elim
    (λ on. by_rest on.rest on.is on.tail)
    (λ root. absurd (omega (arith, component_has_bytes dir first, ap length root)))
    (is_behind dir other inside)) where
      is_slash : (c : ℕ) (rest : List ℕ) → under [] (c ∷ rest) ≡ Some (c ∷ rest) → c ≡ 47
      is_slash c rest tail = elim (c == 47) as (λ b. (c == 47) ≡ b → cond b (Some (c ∷ rest)) None ≡ Some (c ∷ rest) → c ≡ 47) [ true ↦ λ test h. number c 47 test | false ↦ λ test h. cc ] refl tail

      by_rest : (rest : List ℕ) → other ≡ dir ++ rest → under [] rest ≡ Some rest → ⊥
      by_rest [] is tail = differ (sym (is ∙ append-nil dir))
      by_rest (c ∷ rest) is tail =
          no_slash dir rest (ap (λ (b : ℕ). list_all is_component_byte (dir ++ b ∷ rest)) (sym (is_slash c rest tail)) ∙ ap (list_all is_component_byte) (sym is) ∙ bytes_of_component other second)

-- ---- while another folder is built

within_spares_folder : (dir other : List ℕ) (first : ℕ) (c : Change) → is_in dir other ≡ false → is_in other dir ≡ false → IsWithin other first c → SparesFolder dir first c
within_spares_folder dir other first c apart away is = record {
  names = λ path inside. within_spares_name other path first c is (out_of dir other path apart away inside);
  files = λ path id inside low. within_spares other path first id c is (out_of dir other path apart away inside) low;
}

pub stays_beside : (dir other : List ℕ) (parts : List Part) (story : Story) (told : Option Story) (P : State → Tree → Type 0) (I : State → Type 0) → is_component dir ≡ true → is_component other ≡ true → other ≢ dir
    → IsBuilt dir parts (state_of story) → Went story told (IsWithin other (length (state_of story).files)) P I → StaysBuilt dir parts story told (IsWithin other (length (state_of story).files)) P I
stays_beside dir other parts story told P I first second differ built w =
    let early : ℕ = length (state_of story).files in
    let apart : is_in dir other ≡ false = roots_apart dir other first second (λ same. differ (sym same)) in
    let away : is_in other dir ≡ false = roots_apart other dir second first differ in
    stays_spared dir parts story told P I (IsWithin other early) (λ c is. within_spares_folder dir other early c apart away is) built w

-- ---- the folder alone

pub just_built : (dir : List ℕ) (parts : List Part) (story : Story) (told : Option Story) (q : Change → Type 0) → StaysBuilt dir parts story told q Anything Whatever
    → Went story told q (λ s t. IsWhole dir parts t) (λ s. IsBuilt dir parts s)
just_built dir parts story told q w =
    went_weaker (λ s. Whatever s × IsBuilt dir parts s) (λ s. IsBuilt dir parts s) (λ s is. is.1)
    (went_wider q q (λ s t. Anything s t × IsWhole dir parts t) (λ s t. IsWhole dir parts t) (λ c is. is) (λ s t is. is.1) w)
