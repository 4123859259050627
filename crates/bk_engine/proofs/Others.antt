-- The backups of other identifiers, while one is made.
use Rattle.std.specs.Prelude.{◌≡◌, ◌≢◌, ◌⊎◌, ◌==◌, not, ℕ, ◌^◌, ◌<◌, Bool, true, false, ◌&&◌, if◌then◌else◌, List, [], ◌∷◌, ◌++◌, codes, length, drop, slice_index, is_some, Option, Some, None, IfSome}
use Rattle.std.proofs.Common.{⊎_elim, refl, sym, ap, subst, ◌∙◌, arith, append_assoc}
use Rattle.std.proofs.lemmas.Bool.Decides.{nat_tests}
use Rattle.std.proofs.lemmas.Fmt.{decimal_is_IsNumeral}
use Rattle.std.proofs.lemmas.List.Elements.{recursion_from_All, All-weaker}
use Rattle.std.specs.Char.{is_ascii_digit}
use Rattle.std.specs.Fmt.{decimal}
use Rattle.std.specs.List.{All, AllByRecursion, list_all}
use Rattle.std.specs.Str.Parse.{digits_value}
use Rattle.lsm_names.specs.FileNames.{spelled}
use Rattle.lsm_names.specs.declared.file_names.FileName.{FileName}
use Rattle.lsm_names.specs.declared.shared_names.SharedName.{SharedName}
use Rattle.lsm_names.specs.SharedNames.{spelled_shared}
use Rattle.lsm_names.proofs.PathLemmas.{list_all-weaker}
use Rattle.std.specs.FinMap as map
use Rattle.lsm_disk.specs.Names.{Node, id_of, NameOp, Put, Gone, Moved, under}
use Rattle.lsm_disk.specs.State.{State, Story, Change, Created, Named, Appended, Synced, Names_synced, Idle, after, after_all, state_of}
use Rattle.lsm_disk.specs.Images.{Tree, bytes_by}
use Rattle.lsm_disk.specs.Goes.{Each, Shows, Along, Went}
use Rattle.lsm_disk.specs.Kept.{IsKeptName, OpSpares, Spares, SparesName}
use Rattle.lsm_disk.proofs.Kept.{kept_spared}
use Rattle.lsm_disk.proofs.Named.{name_image, name_spared}
use Rattle.lsm_disk.proofs.Runs.{goes_state, went_weaker}
use Rattle.bk_meta.specs.declared.backup_files.BackupFile.{BackupFile}
use Rattle.bk_meta.specs.declared.backup_files.BackupFile.TheVariants.{Private, Shared}
use Rattle.bk_meta.specs.declared.metas.MetaFile.{MetaFile}
use Rattle.bk_meta.specs.declared.metas.Meta.{Meta}
use Rattle.bk_meta.specs.BackupFiles.{file_at, path_of}
use Rattle.bk_meta.specs.Metas.{IsMeta, IsMetaFile, meta_text}
use Rattle.bk_meta.specs.Lines.{cut_at}
use Rattle.bk_meta.proofs.FileLemmas.{path_spells}
use Rattle.bk_meta.proofs.LineLemmas.{cut_whole}
use Rattle.bk_tree.specs.Places.{is_identifier, meta_path}
use Rattle.bk_tree.specs.Listed.{is_listed}
use Rattle.bk_tree.specs.Holds.{held, folder_of}
use Rattle.bk_tree.proofs.Keeping.{held_in_image}
use Rattle.bk_tree.proofs.Sparing.{within}
use Rattle.bk_engine.specs.Copying.{Anything}
use Rattle.bk_tree.specs.Kept.{all_synced, IsKeptText, AreKept, IsKeptBackup}
use Rattle.bk_engine.specs.Paths.{own_folder, temporary_path}
use Rattle.bk_engine.specs.Preparing.{IsOwnPath, IsOwnFolder}
use Rattle.bk_engine.specs.Publishing.{Creates}
use Rattle.lsm_publish.specs.Publishing.{IsMove}
use Rattle.bk_engine.proofs.PathTexts.{decimal_digits}
use Rattle.std.proofs.lemmas.Bool.{and_parts}

-- ---- identifiers in decimal

pub same_number : (i j : ℕ) → i < 2 ^ 32 → j < 2 ^ 32 → decimal i ≡ decimal j → i ≡ j
same_number i j p q same = sym (decimal_is_IsNumeral i (omega (arith, p))).1 ∙ ap (digits_value 10) same ∙ (decimal_is_IsNumeral j (omega (arith, q))).1

abbrev no_slash : ℕ → Bool
no_slash byte = not (byte == 47)

digit_is_no_slash : (byte : ℕ) → is_ascii_digit byte ≡ true → no_slash byte ≡ true
digit_is_no_slash byte h = grind (arith, nat_tests)

no_slashes : (id : ℕ) → id < 2 ^ 32 → list_all no_slash (decimal id) ≡ true
no_slashes id small = list_all-weaker is_ascii_digit no_slash digit_is_no_slash (decimal id) (decimal_digits id small)

with_slash : (front back : List ℕ) → list_all no_slash (front ++ 47 ∷ back) ≡ true → ⊥
with_slash [] back h = cc
with_slash (byte ∷ front) back h = with_slash front back (and_parts (no_slash byte) (list_all no_slash (front ++ 47 ∷ back)) h).1

is_byte : (x c : ℕ) → (x == c) ≡ true → x ≡ c
is_byte x c h = grind (arith, nat_tests)

-- another number is no folder of it
under_digits : (f p : List ℕ) → list_all no_slash p ≡ true → f ≢ p → under f p ≡ None
under_digits [] [] h ne = absurd (ne refl)
under_digits [] (c ∷ p) h ne = by_test (c == 47) (and_parts (no_slash c) (list_all no_slash p) h).0 where
  by_test : (b : Bool) → not b ≡ true → (if b then Some (c ∷ p) else None) ≡ None
  by_test true k = cc
  by_test false k = refl
under_digits (x ∷ f) [] h ne = refl
under_digits (x ∷ f) (c ∷ p) h ne = by_test (x == c) refl (λ same. under_digits f p (and_parts (no_slash c) (list_all no_slash p) h).1 (λ e. ne (λ i. same i ∷ e i))) where
  by_test : (b : Bool) → (x == c) ≡ b → (x ≡ c → under f p ≡ None) → (if b then under f p else None) ≡ None
  by_test true k rest = rest (is_byte x c k)
  by_test false k rest = refl

under_point : (rest p : List ℕ) → list_all is_ascii_digit p ≡ true → under (46 ∷ rest) p ≡ None
under_point rest [] h = refl
under_point rest (c ∷ p) h = by_test (46 == c) refl where
  point_is_no_digit : (46 == c) ≡ true → is_ascii_digit c ≡ true → ⊥
  point_is_no_digit k d =
      let wrong : false ≡ true = ap is_ascii_digit (is_byte 46 c k) ∙ d in
      cc

  by_test : (b : Bool) → (46 == c) ≡ b → (if b then under rest p else None) ≡ None
  by_test true k = absurd (point_is_no_digit k (and_parts (is_ascii_digit c) (list_all is_ascii_digit p) h).0)
  by_test false k = refl

no_point : (digits rest : List ℕ) → list_all is_ascii_digit digits ≡ true → digits ≡ 46 ∷ rest → ⊥
no_point digits rest h is =
    let wrong : false ≡ true = ap (list_all is_ascii_digit) (sym is) ∙ h in
    cc

-- ---- a path that the making of a backup leaves alone

pub record IsClear (id : ℕ) (path : List ℕ) : Type 0 where
  pub own : (other : List ℕ) → IsOwnPath id other → path ≢ other
  pub temporary : path ≢ temporary_path id
  pub folder : path ≢ own_folder id
  pub meta : path ≢ meta_path id
  pub under_temporary : under (temporary_path id) path ≡ None
  pub under_meta : under (meta_path id) path ≡ None

module _ (id : ℕ) (path : List ℕ) (clear : IsClear id path) where
  op_is_clear : (op : NameOp) → IsOwnFolder id op ⊎ IsMove (temporary_path id) (meta_path id) op → OpSpares path op
  op_is_clear (Put other node) is = ⊎_elim (λ own. λ same. clear.folder (same ∙ own.0)) (λ move. absurd move) is
  op_is_clear (Gone other) is = ⊎_elim (λ own. absurd own) (λ move. absurd move) is
  op_is_clear (Moved from to) is = ⊎_elim (λ own. absurd own)
      (λ move. subst (λ (x : List ℕ). OpSpares path (Moved x to)) (sym move.0) (subst (λ (x : List ℕ). OpSpares path (Moved (temporary_path id) x)) (sym move.1)
      (clear.temporary, clear.meta, clear.under_temporary, clear.under_meta))) is

  pub clear_spares : (first k : ℕ) → k < first → (c : Change) → Creates id first c → Spares path k c
  clear_spares first k low (Created other) is = ⊎_elim (λ own. clear.own other own) (λ temporary. λ same. clear.temporary (same ∙ temporary)) is
  clear_spares first k low (Named op) is = op_is_clear op is
  clear_spares first k low (Appended n bytes) is = λ same. omega (arith, low, is, same)
  clear_spares first k low (Synced n) is = λ same. omega (arith, low, is, same)
  clear_spares first k low Names_synced is = tt
  clear_spares first k low Idle is = tt

-- ---- the paths of another backup

-- what follows `private/` in the path of a backup's own file
behind : (id : ℕ) (name : FileName) → drop 8 (path_of id (Private name)) ≡ decimal id ++ 47 ∷ spelled name
unfolding path_of
behind id name = append_assoc (decimal id) (codes "/") (spelled name)

shared_path : (id : ℕ) (name : SharedName) → path_of id (Shared name) ≡ codes "shared_checksum/" ++ spelled_shared name
unfolding path_of
shared_path id name = refl

abbrev first_part : Option (List ℕ × List ℕ) → List ℕ
first_part None = []
first_part (Some parts) = parts.0

module _ (id j : ℕ) (small : id < 2 ^ 32) (little : j < 2 ^ 32) (ne : j ≢ id) where
  other_digits : decimal id ≢ decimal j
  other_digits same = ne (sym (same_number id j small little same))

  meta_clear : IsClear id (meta_path j)
  unfolding meta_path temporary_path own_folder path_of
  meta_clear = record {
    own = λ other own same. absurd (omega (arith, ap (λ (l : List ℕ). slice_index l 0) (same ∙ own.1)));
    temporary = λ same. no_point (decimal j) (decimal id ++ codes ".tmp") (decimal_digits j little) (ap (λ (l : List ℕ). drop 5 l) same);
    folder = λ same. absurd (omega (arith, ap (λ (l : List ℕ). slice_index l 0) same));
    meta = λ same. other_digits (sym (ap (λ (l : List ℕ). drop 5 l) same));
    under_temporary = under_point (decimal id ++ codes ".tmp") (decimal j) (decimal_digits j little);
    under_meta = under_digits (decimal id) (decimal j) (no_slashes j little) other_digits;
  }

  shared_clear : (path rest : List ℕ) → path ≡ codes "shared_checksum/" ++ rest → IsClear id path
  unfolding meta_path temporary_path own_folder path_of
  shared_clear path rest is = record {
    own = λ other own same. absurd (omega (arith, ap (λ (l : List ℕ). slice_index l 0) (sym is ∙ same ∙ own.1)));
    temporary = λ same. absurd (omega (arith, ap (λ (l : List ℕ). slice_index l 0) (sym is ∙ same)));
    folder = λ same. absurd (omega (arith, ap (λ (l : List ℕ). slice_index l 0) (sym is ∙ same)));
    meta = λ same. absurd (omega (arith, ap (λ (l : List ℕ). slice_index l 0) (sym is ∙ same)));
    under_temporary = ap (under (temporary_path id)) is;
    under_meta = ap (under (meta_path id)) is;
  }

  own_differs : (a b : FileName) → path_of j (Private a) ≡ path_of id (Private b) → ⊥
  own_differs a b same =
      let texts : decimal j ++ 47 ∷ spelled a ≡ decimal id ++ 47 ∷ spelled b = sym (behind j a) ∙ ap (λ (l : List ℕ). drop 8 l) same ∙ behind id b in
      let cuts : Some (decimal j, spelled a) ≡ Some (decimal id, spelled b) =
      sym (cut_whole 47 (decimal j) (spelled a) (no_slashes j little)) ∙ ap (cut_at 47) texts ∙ cut_whole 47 (decimal id) (spelled b) (no_slashes id small) in
      other_digits (sym (ap first_part cuts))

  folder_differs : (a : FileName) → path_of j (Private a) ≡ own_folder id → ⊥
  unfolding own_folder
  folder_differs a same =
      let texts : decimal j ++ 47 ∷ spelled a ≡ decimal id = sym (behind j a) ∙ ap (λ (l : List ℕ). drop 8 l) same in
      with_slash (decimal j) (spelled a) (ap (list_all no_slash) texts ∙ no_slashes id small)

  private_clear : (name : FileName) → IsClear id (path_of j (Private name))
  unfolding meta_path temporary_path path_of
  private_clear name = record {
    own = λ other own same. own_differs name own.0 (same ∙ own.1);
    temporary = λ same. absurd (omega (arith, ap (λ (l : List ℕ). slice_index l 0) same));
    folder = folder_differs name;
    meta = λ same. absurd (omega (arith, ap (λ (l : List ℕ). slice_index l 0) same));
    under_temporary = refl;
    under_meta = refl;
  }

  named_clear : (path : List ℕ) (file : BackupFile) → path ≡ path_of j file → IsClear id path
  named_clear path (Private name) is = subst (IsClear id) (sym is) (private_clear name)
  named_clear path (Shared name) is = shared_clear path (spelled_shared name) (is ∙ shared_path j name)

-- ---- runs of changes

kept_along : (q : Change → Type 0) (R : State → Tree → Type 0) (J : State → Type 0) → ((s : State) (c : Change) → q c → J s → J (after s c)) → ((s : State) → J s → Shows R s)
    → (cs : List Change) (s : State) → Each q cs → J s → Along R s cs × J (after_all cs s)
kept_along q R J step shows [] s each j = (shows s j, j)
kept_along q R J step shows (c ∷ cs) s each j =
    let rest = kept_along q R J step shows cs (after s c) each.1 (step s c each.0 j) in
    ((shows s j, rest.0), rest.1)

-- what each change keeps holds at each moment, and each image shows what follows from it
pub went_keeping : {start : Story} {told : Option Story} {P : State → Tree → Type 0} {I : State → Type 0} (q : Change → Type 0) (R : State → Tree → Type 0) (J : State → Type 0) → ((s : State) (c : Change) → q c → J s → J (after s c)) → ((s : State) → J s → Shows R s)
    → J (state_of start) → Went start told q P I → Went start told q R J
went_keeping {start} q R J step shows j w =
    let kept = kept_along q R J step shows w.goes.more (state_of start) w.goes.kind j in
    record {
      story = w.story;
      tells = w.tells;
      goes = record { more = w.goes.more; grows = w.goes.grows; kind = w.goes.kind; along = kept.0 };
      now = subst J (sym (goes_state w.goes)) kept.1;
    }

-- A disk that tells is in one state, so what was known of it besides is known still.
pub went_known : {start : Story} {told : Option Story} {q r : Change → Type 0} {P R : State → Tree → Type 0} (I J : State → Type 0) → Went start told q P I → Went start told r R J → Went start told r R (λ s. I s × J s)
went_known I J v w = record { story = w.story; tells = w.tells; goes = w.goes; now = (subst (λ (o : Option Story). IfSome o (λ story. I (state_of story))) (sym v.tells ∙ w.tells) v.now, w.now) }

-- ---- another backup stays

-- the file outlives each crash, and is one of the first so many
record IsKeptBefore (first : ℕ) (s : State) (path bytes : List ℕ) : Type 0 where
  pub kept : IsKeptText s path bytes
  pub low : kept.id < first

abbrev AreKeptBefore : ℕ → State → List MetaFile → List (List ℕ) → Type 0
AreKeptBefore first s [] [] = Unit {0}
AreKeptBefore first s [] (bytes ∷ texts) = ⊥
AreKeptBefore first s (file ∷ files) [] = ⊥
AreKeptBefore first s (file ∷ files) (bytes ∷ texts) = IsKeptBefore first s file.path bytes × AreKeptBefore first s files texts

abbrev AreClear : ℕ → List MetaFile → Type 0
AreClear id [] = Unit {0}
AreClear id (file ∷ files) = IsClear id file.path × AreClear id files

all_clear : (id j : ℕ) → id < 2 ^ 32 → j < 2 ^ 32 → j ≢ id → (files : List MetaFile) → AllByRecursion (IsMetaFile j) files → AreClear id files
all_clear id j small little ne [] each = tt
all_clear id j small little ne (file ∷ files) each = (by_name (file_at j file.path) refl each.0.named, all_clear id j small little ne files each.1) where
  by_name : (o : Option BackupFile) → file_at j file.path ≡ o → is_some o ≡ true → IsClear id file.path
  by_name None is h = cc
  by_name (Some which) is h = named_clear id j small little ne file.path which (path_spells j file.path which is).1

begins_before : (s : State) (files : List MetaFile) (texts : List (List ℕ)) → AreKept s files texts → AreKeptBefore (length s.files) s files texts
begins_before s [] [] kept = tt
begins_before s [] (bytes ∷ texts) kept = absurd kept
begins_before s (file ∷ files) [] kept = absurd kept
begins_before s (file ∷ files) (bytes ∷ texts) kept =
    (record { kept = kept.0; low = within s.files kept.0.id (all_synced bytes) kept.0.kept.file }, begins_before s files texts kept.1)

are_kept : (first : ℕ) (s : State) (files : List MetaFile) (texts : List (List ℕ)) → AreKeptBefore first s files texts → AreKept s files texts
are_kept first s [] [] kept = tt
are_kept first s [] (bytes ∷ texts) kept = absurd kept
are_kept first s (file ∷ files) [] kept = absurd kept
are_kept first s (file ∷ files) (bytes ∷ texts) kept = (kept.0.kept, are_kept first s files texts kept.1)

module _ (id first : ℕ) (s : State) (c : Change) (is : Creates id first c) where
  text_stays : (path bytes : List ℕ) → IsClear id path → IsKeptBefore first s path bytes → IsKeptBefore first (after s c) path bytes
  text_stays path bytes clear k = record {
    kept = record { id = k.kept.id; kept = kept_spared s path k.kept.id (all_synced bytes) k.kept.kept c (clear_spares id path clear first k.kept.id k.low c is) };
    low = k.low;
  }

  texts_stay : (files : List MetaFile) (texts : List (List ℕ)) → AreClear id files → AreKeptBefore first s files texts → AreKeptBefore first (after s c) files texts
  texts_stay [] [] clear kept = tt
  texts_stay [] (bytes ∷ texts) clear kept = absurd kept
  texts_stay (file ∷ files) [] clear kept = absurd kept
  texts_stay (file ∷ files) (bytes ∷ texts) clear kept = (text_stays file.path bytes clear.0 kept.0, texts_stay files texts clear.1 kept.1)

-- a backup outlives each crash, by the first so many files
record IsKeptByFirst (first : ℕ) (meta : Meta) (texts : List (List ℕ)) (s : State) : Type 0 where
  pub text : IsKeptBefore first s (meta_path meta.id) (meta_text meta)
  pub each : AreKeptBefore first s meta.files texts

by_first : (s : State) (meta : Meta) (texts : List (List ℕ)) → IsKeptBackup s meta texts → IsKeptByFirst (length s.files) meta texts s
by_first s meta texts kept = record {
  text = record { kept = kept.text; low = within s.files kept.text.id (all_synced (meta_text meta)) kept.text.kept.file };
  each = begins_before s meta.files texts kept.each;
}

module _ (id : ℕ) (small : id < 2 ^ 32) (meta : Meta) (texts : List (List ℕ)) (lawful : IsMeta meta) (ne : meta.id ≢ id) where
  stays : (first : ℕ) (s : State) (c : Change) → Creates id first c → IsKeptByFirst first meta texts s → IsKeptByFirst first meta texts (after s c)
  stays first s c is kept = record {
    text = text_stays id first s c is (meta_path meta.id) (meta_text meta) (meta_clear id meta.id small lawful.identifier.1 ne) kept.text;
    each = texts_stay id first s c is meta.files texts (all_clear id meta.id small lawful.identifier.1 ne meta.files (recursion_from_All (IsMetaFile meta.id) meta.files lawful.each)) kept.each;
  }

  whole : (first : ℕ) (s : State) → IsKeptByFirst first meta texts s → IsKeptBackup s meta texts
  whole first s kept = record { lawful = lawful; text = kept.text.kept; each = are_kept first s meta.files texts kept.each }

  pub other_stays : (story : Story) (told : Option Story) {I : State → Type 0} → IsKeptBackup (state_of story) meta texts → Went story told (Creates id (length (state_of story).files)) Anything I
      → Went story told (Creates id (length (state_of story).files)) (λ s t. held t meta.id ≡ folder_of meta texts) (λ s. IsKeptBackup s meta texts)
  other_stays story told kept w =
      let first : ℕ = length (state_of story).files in
      went_weaker (IsKeptByFirst first meta texts) (λ s. IsKeptBackup s meta texts) (whole first)
      (went_keeping (Creates id first) (λ s t. held t meta.id ≡ folder_of meta texts) (IsKeptByFirst first meta texts) (stays first)
      (λ s j. record { each = λ t image. held_in_image s t image meta texts (whole first s j) }) (by_first (state_of story) meta texts kept) w)

-- ---- all the other backups stay

module _ (id : ℕ) (small : id < 2 ^ 32) where
  abbrev IsOther : ℕ → State → Meta × List (List ℕ) → Type 0
  IsOther first s b = IsKeptByFirst first b.0 b.1 s × IsMeta b.0 × (b.0.id ≢ id)

  other_begins : (s : State) (b : Meta × List (List ℕ)) → IsKeptBackup s b.0 b.1 × (b.0.id ≢ id) → IsOther (length s.files) s b
  other_begins s b is = (by_first s b.0 b.1 is.0, is.0.lawful, is.1)

  other_goes_on : (first : ℕ) (s : State) (c : Change) → Creates id first c → (b : Meta × List (List ℕ)) → IsOther first s b → IsOther first (after s c) b
  other_goes_on first s c is b other = (stays id small b.0 b.1 other.1 other.2 first s c is other.0, other.1, other.2)

  other_is_kept : (first : ℕ) (s : State) (b : Meta × List (List ℕ)) → IsOther first s b → IsKeptBackup s b.0 b.1
  other_is_kept first s b other = whole id small b.0 b.1 other.1 other.2 first s other.0

  pub others_stay : (backups : List (Meta × List (List ℕ))) (story : Story) (told : Option Story) {I : State → Type 0} → All (λ b. IsKeptBackup (state_of story) b.0 b.1 × (b.0.id ≢ id)) backups → Went story told (Creates id (length (state_of story).files)) Anything I
      → Went story told (Creates id (length (state_of story).files)) (λ s t. All (λ b. held t b.0.id ≡ folder_of b.0 b.1) backups) (λ s. All (λ b. IsKeptBackup s b.0 b.1) backups)
  others_stay backups story told kept w =
      let first : ℕ = length (state_of story).files in
      let are_others : State → Type 0 = λ s. All (IsOther first s) backups in
      let stay_kept : (s : State) → are_others s → All (λ b. IsKeptBackup s b.0 b.1) backups = λ s. All-weaker (IsOther first s) (λ b. IsKeptBackup s b.0 b.1) (other_is_kept first s) backups in
      went_weaker are_others (λ s. All (λ b. IsKeptBackup s b.0 b.1) backups) stay_kept
      (went_keeping (Creates id first) (λ s t. All (λ b. held t b.0.id ≡ folder_of b.0 b.1) backups) are_others
      (λ s c is. All-weaker (IsOther first s) (IsOther first (after s c)) (other_goes_on first s c is) backups)
      (λ s j. record { each = λ t image. All-weaker (λ b. IsKeptBackup s b.0 b.1) (λ b. held t b.0.id ≡ folder_of b.0 b.1) (λ b. held_in_image s t image b.0 b.1) backups (stay_kept s j) })
      (All-weaker (λ b. IsKeptBackup (state_of story) b.0 b.1 × (b.0.id ≢ id)) (IsOther first (state_of story)) (other_begins (state_of story)) backups kept) w)

-- ---- what isn't listed stays so

op_spares_name : (id : ℕ) (path : List ℕ) → IsClear id path → (first : ℕ) (c : Change) → Creates id first c → SparesName path c
op_spares_name id path clear first (Created other) is = ⊎_elim (λ own. clear.own other own) (λ temporary. λ same. clear.temporary (same ∙ temporary)) is
op_spares_name id path clear first (Named op) is = op_is_clear id path clear op is
op_spares_name id path clear first (Appended n bytes) is = tt
op_spares_name id path clear first (Synced n) is = tt
op_spares_name id path clear first Names_synced is = tt
op_spares_name id path clear first Idle is = tt

pub never_listed : (t : Tree) (j : ℕ) → map.get t.names (meta_path j) ≡ None → is_listed t j ≡ false
never_listed t j none = by_test (is_identifier j) where
  by_test : (b : Bool) → (b && is_some (bytes_by (id_of (map.get t.names (meta_path j))) t)) ≡ false
  by_test true = ap (λ (o : Option Node). is_some (bytes_by (id_of o) t)) none
  by_test false = refl

pub stays_unlisted : (id j : ℕ) → id < 2 ^ 32 → j < 2 ^ 32 → j ≢ id → (story : Story) (told : Option Story) {I : State → Type 0} → IsKeptName (state_of story) (meta_path j) None → Went story told (Creates id (length (state_of story).files)) Anything I
    → Went story told (Creates id (length (state_of story).files)) (λ s t. is_listed t j ≡ false) (λ s. IsKeptName s (meta_path j) None)
stays_unlisted id j small little ne story told none w =
    let first : ℕ = length (state_of story).files in
    went_keeping (Creates id first) (λ s t. is_listed t j ≡ false) (λ s. IsKeptName s (meta_path j) None)
    (λ s c is kept. name_spared s (meta_path j) None kept c (op_spares_name id (meta_path j) (meta_clear id j small little ne) first c is))
    (λ s kept. record { each = λ t image. never_listed t j (name_image s (meta_path j) None kept t image) }) none w
