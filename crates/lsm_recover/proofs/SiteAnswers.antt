-- What an opening finds, at each exit.
use Rattle.std.specs.Prelude.{◌≡◌, ℕ, ◌+◌, ◌≤◌, Bool, true, false, cond, is_some, List, [], ◌∷◌, length, Option, Some, None, Result, Ok, Err}
use Rattle.std.proofs.Common.{refl, sym, subst, ◌∙◌, arith}
use Rattle.std.specs.List.{list_all}
use Rattle.std.specs.FinMap as finmap
use Rattle.lsm_names.specs.Paths.{is_path}
use Rattle.lsm_names.proofs.PathLemmas.{path_has_bytes}
use Rattle.lsm_disk.specs.Names.{Node, Folder_node, File_node, stands, is_folder, is_folder_node}
use Rattle.lsm_disk.specs.State.{Seen, Story, state_of, names_now}
use Rattle.lsm_disk.specs.Images.{tree_now}
use Rattle.lsm_disk.specs.Listing.{listing}
use Rattle.lsm_disk.specs.Refusals.{no_folder}
use Rattle.lsm_disk.specs.Answers.{RefusesBy, TakesNoMemory}
use Rattle.lsm_disk.specs.declared.calls.Kind.{Kind}
use Rattle.lsm_disk.specs.declared.calls.DiskCall.TheVariants as call
use Rattle.lsm_disk.specs.declared.calls.DiskError.{DiskError}
use Rattle.lsm_disk.specs.declared.calls.DiskError.TheVariants as disk
use Rattle.lsm_disk.specs.Kinds.{kind_of}
use Rattle.lsm_disk.specs.declared.listing.Entry.{Entry}
use Rattle.lsm_folder.specs.Files.{Not_a_folder, Stands_with}
use Rattle.lsm_folder.specs.Needed as needed
use Rattle.lsm_folder.specs.Needed.{IsFresh}
use Rattle.lsm_folder.proofs.FileLemmas.{file_place}
use Rattle.lsm_recover.specs.declared.errors.FolderError.{FolderError}
use Rattle.lsm_recover.specs.declared.errors.FolderError.TheVariants.{DiskFault, NoFolder, NoCurrent, Missing, Changed, Short, Damaged, Malformed, TornLog, Gap, BadLevels, NoMemory}
use Rattle.lsm_recover.specs.declared.site.Site.{Site}
use Rattle.lsm_recover.specs.declared.site.Site.TheVariants as site
use Rattle.lsm_recover.specs.Answers.{files_now, place_now}
use Rattle.lsm_recover.specs.Listed.{IsListing}
use Rattle.lsm_recover.specs.Site.{are_aside, changed_by, HasSiteRisen, HasSiteCause, IsSite, AnswersSite, IsSiteOf, IsNoSiteOf, AnswersSiteOf, IsNotListed, IsSiteRefusal}
use Rattle.lsm_recover.proofs.DiskLemmas.{place_is}
use Rattle.lsm_recover.proofs.SiteLemmas.{current_there, current_missing, aside_fresh, fresh_aside}

-- ---- a listed folder

module _ (first : ℕ) (more : List ℕ) (short : length (first ∷ more) + 30 ≤ 160) (spells : is_path (first ∷ more) ≡ true)
    (story : Story) (is_there : is_folder (names_now (state_of story)) (first ∷ more) ≡ true) where
  abbrev own : List ℕ
  own = first ∷ more

  abbrev its_entries : List Entry
  its_entries = listing (first ∷ more) (names_now (state_of story))

  it_stands : place_now own story ≡ Stands_with (files_now own story)
  it_stands = place_is own (state_of story) is_there

  fresh_place : are_aside its_entries ≡ true → IsFresh (place_now own story)
  unfolding IsFresh
  fresh_place all = subst IsFresh (sym it_stands) (aside_fresh first more short spells (tree_now (state_of story)) all)

  not_fresh : are_aside its_entries ≡ false → IsFresh (place_now own story) → ⊥
  unfolding IsFresh
  not_fresh some fresh =
      let all : list_all needed.is_aside (finmap.entries (files_now own story)) ≡ true = subst IsFresh it_stands fresh in
      let clash : true ≡ false = sym (fresh_aside first more short spells (tree_now (state_of story)) all) ∙ some in
      cc

  site_found : (s : Site) → IsSiteOf its_entries s → IsSite own story s
  site_found site.Nothing is = absurd is
  site_found (site.Fresh names next) is = record { folder = is_there; fresh = fresh_place is.1; names_are = is.2; next_is = is.3 }
  site_found site.Store is = record {
    folder = is_there;
    current = current_there first more short spells (tree_now (state_of story)) is;
  }

  site_refused : (e : FolderError) → IsNoSiteOf own its_entries e → IsSiteRefusal own story e
  site_refused DiskFault is = tt
  site_refused (NoFolder at) is = is
  site_refused (NoCurrent at) is = (
    is.0,
    record {
      folder = is_there;
      none = current_missing first more short spells (tree_now (state_of story)) is.1;
      other = not_fresh is.2;
    },
  )
  site_refused (Missing name) is = is
  site_refused (Changed made path) is = absurd is
  site_refused (Short name kept found) is = is
  site_refused (Damaged name place kept found) is = is
  site_refused (Malformed name place) is = is
  site_refused (TornLog name place) is = is
  site_refused (Gap name kept found) is = is
  site_refused (BadLevels level left right) is = is
  site_refused NoMemory is = tt

  site_by_entries : (r : Result Site FolderError) → AnswersSiteOf own its_entries r → AnswersSite own story r
  site_by_entries (Ok s) is = site_found s is
  site_by_entries (Err e) is = site_refused e is

-- the answer by a folder's listing is that by the folder
pub site_answered : (dir : List ℕ) → length dir + 30 ≤ 160 → is_path dir ≡ true → (story : Story) (entries : List Entry)
    → IsListing dir story entries → (r : Result Site FolderError) → AnswersSiteOf dir entries r → AnswersSite dir story r
site_answered [] short spells story entries listed r is = absurd (omega (arith, path_has_bytes [] spells))
site_answered (first ∷ more) short spells story entries listed r is =
    site_by_entries first more short spells story listed.folder r
    (subst (λ (es : List Entry). AnswersSiteOf (first ∷ more) es r) listed.entries_are is)

-- ---- calls that were refused

-- the kind of a name is refused by a fault alone
pub kind_refused : (dir : List ℕ) (why : DiskError) → RefusesBy None why → TakesNoMemory {T = Option Kind} (Err why)
    → changed_by call.Kind dir why ≡ DiskFault
kind_refused dir disk.Fault is memory = refl
kind_refused dir disk.NotThere is memory = cc
kind_refused dir disk.Exists is memory = cc
kind_refused dir disk.NoLinks is memory = cc
kind_refused dir disk.NotEmpty is memory = cc
kind_refused dir (disk.Short found) is memory = cc
kind_refused dir disk.NoMemory is memory = absurd (memory refl)

pub taken_is : (o : Option Node) → is_some (kind_of o) ≡ is_some o
taken_is None = refl
taken_is (Some Folder_node) = refl
taken_is (Some (File_node id)) = refl

no_folder_is : (b : Bool) → cond b None (Some disk.NotThere) ≡ Some disk.NotThere → b ≡ false
no_folder_is true is = cc
no_folder_is false is = refl

other_is : (b : Bool) (e : DiskError) → cond b None (Some disk.NotThere) ≡ Some e → e ≡ disk.NotThere
other_is true e is = cc
other_is false e is = cc

-- a listing is refused as not there where no folder has the name
pub list_refused : (dir : List ℕ) (story : Story) (why : DiskError)
    → RefusesBy (no_folder dir (state_of story)) why → IsNotListed dir story (changed_by call.List dir why)
list_refused dir story disk.Fault is = tt
list_refused dir story disk.NotThere is = (refl, refl, no_folder_is (is_folder (names_now (state_of story)) dir) is)
list_refused dir story disk.Exists is =
    let clash : disk.Exists ≡ disk.NotThere = other_is (is_folder (names_now (state_of story)) dir) disk.Exists is in absurd (cc)
list_refused dir story disk.NoLinks is =
    let clash : disk.NoLinks ≡ disk.NotThere = other_is (is_folder (names_now (state_of story)) dir) disk.NoLinks is in absurd (cc)
list_refused dir story disk.NotEmpty is =
    let clash : disk.NotEmpty ≡ disk.NotThere = other_is (is_folder (names_now (state_of story)) dir) disk.NotEmpty is in absurd (cc)
list_refused dir story (disk.Short found) is =
    let clash : disk.Short found ≡ disk.NotThere = other_is (is_folder (names_now (state_of story)) dir) (disk.Short found) is in
    absurd (cc)
list_refused dir story disk.NoMemory is = tt

-- where the name is taken and no folder has it, a file does
file_has : (dir : List ℕ) (story : Story) (o : Option Node) → stands (names_now (state_of story)) dir ≡ o → is_some o ≡ true
    → is_folder_node o ≡ false → place_now dir story ≡ Not_a_folder
file_has dir story None is some none = cc
file_has dir story (Some Folder_node) is some none = cc
file_has dir story (Some (File_node id)) is some none = file_place dir (tree_now (state_of story)) id is

pub not_listed : (dir : List ℕ) (story : Story) → true ≡ is_some (stands (names_now (state_of story)) dir) → (e : FolderError)
    → IsNotListed dir story e → IsSiteRefusal dir story e
not_listed dir story taken DiskFault is = tt
not_listed dir story taken (NoFolder at) is = is
not_listed dir story taken (NoCurrent at) is = absurd is
not_listed dir story taken (Missing name) is = is
not_listed dir story taken (Changed made path) is = (
  is.0,
  is.1,
  file_has dir story (stands (names_now (state_of story)) dir) refl (sym taken) is.2,
)
not_listed dir story taken (Short name kept found) is = is
not_listed dir story taken (Damaged name place kept found) is = is
not_listed dir story taken (Malformed name place) is = is
not_listed dir story taken (TornLog name place) is = is
not_listed dir story taken (Gap name kept found) is = is
not_listed dir story taken (BadLevels level left right) is = is
not_listed dir story taken NoMemory is = tt

-- a fault of the first call is one
pub fault_refused : (dir : List ℕ) (story : Story) (e : FolderError) → e ≡ DiskFault → IsSiteRefusal dir story e
fault_refused dir story e is = subst (λ (x : FolderError). IsSiteRefusal dir story x) (sym is) tt

nothing_has : (o : Option Node) → false ≡ is_some o → o ≡ None
nothing_has None is = refl
nothing_has (Some node) is = cc

-- nothing has the name
pub nothing_found : (dir : List ℕ) (story : Story) → false ≡ is_some (stands (names_now (state_of story)) dir)
    → IsSite dir story site.Nothing
nothing_found dir story is = nothing_has (stands (names_now (state_of story)) dir) is

-- ---- causes

risen : (dir : List ℕ) (first old new : Seen) (e : FolderError) → first.faults ≤ old.faults → first.refusals ≤ old.refusals
    → HasSiteRisen dir old new e → HasSiteRisen dir first new e
risen dir first old new DiskFault f r rose = omega (arith, f, rose)
risen dir first old new (NoFolder at) f r rose = rose
risen dir first old new (NoCurrent at) f r rose = rose
risen dir first old new (Missing name) f r rose = rose
risen dir first old new (Changed made path) f r rose = (rose.0, omega (arith, r, rose.1))
risen dir first old new (Short name kept found) f r rose = rose
risen dir first old new (Damaged name place kept found) f r rose = rose
risen dir first old new (Malformed name place) f r rose = rose
risen dir first old new (TornLog name place) f r rose = rose
risen dir first old new (Gap name kept found) f r rose = rose
risen dir first old new (BadLevels level left right) f r rose = rose
risen dir first old new NoMemory f r rose = tt

-- a call behind another one was refused
pub later_cause : {T S : Type 0} (dir : List ℕ) (first old new : Seen) (e : FolderError) → first.faults ≤ old.faults
    → first.refusals ≤ old.refusals → HasSiteCause {T = T} dir old new (Err e) → HasSiteCause {T = S} dir first new (Err e)
later_cause dir first old new e f r cause = record {
  faults_later = omega (arith, f, cause.faults_later);
  refusals_later = omega (arith, r, cause.refusals_later);
  counted = risen dir first old new e f r cause.counted;
}

-- of a listing that was given
entries_risen : (dir : List ℕ) (entries : List Entry) (old new : Seen) (e : FolderError) → IsNoSiteOf dir entries e
    → HasSiteRisen dir old new e
entries_risen dir entries old new DiskFault is = absurd is
entries_risen dir entries old new (NoFolder at) is = is
entries_risen dir entries old new (NoCurrent at) is = is.0
entries_risen dir entries old new (Missing name) is = is
entries_risen dir entries old new (Changed made path) is = absurd is
entries_risen dir entries old new (Short name kept found) is = is
entries_risen dir entries old new (Damaged name place kept found) is = is
entries_risen dir entries old new (Malformed name place) is = is
entries_risen dir entries old new (TornLog name place) is = is
entries_risen dir entries old new (Gap name kept found) is = is
entries_risen dir entries old new (BadLevels level left right) is = is
entries_risen dir entries old new NoMemory is = tt

pub entries_cause : (dir : List ℕ) (entries : List Entry) (first old new : Seen) (r : Result Site FolderError)
    → AnswersSiteOf dir entries r → first.faults ≤ old.faults → first.refusals ≤ old.refusals → old.faults ≤ new.faults
    → old.refusals ≤ new.refusals → HasSiteCause dir first new r
entries_cause dir entries first old new (Ok s) is f r g q = record {
  faults_later = omega (arith, f, g);
  refusals_later = omega (arith, r, q);
  counted = tt;
}
entries_cause dir entries first old new (Err e) is f r g q = record {
  faults_later = omega (arith, f, g);
  refusals_later = omega (arith, r, q);
  counted = entries_risen dir entries first new e is;
}
