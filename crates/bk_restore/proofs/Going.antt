-- The files of a backup, one after another.
use Rattle.std.specs.Prelude.{◌≡◌, ℕ, ◌+◌, ◌<◌, ◌==◌, not, Bool, true, false, cond, List, [], ◌∷◌, ◌++◌, length, take, Option, Some, None, IfSome}
use Rattle.std.proofs.Common.{refl, sym, ap, subst, ◌∙◌, get_or}
use Rattle.std.proofs.lemmas.Bool.{and_parts}
use Rattle.std.proofs.lemmas.List.{append-nil, take_more}
use Rattle.std.proofs.lemmas.List.Elements.{filter-append}
use Rattle.lsm_bytes.specs.Checksum.{crc32c}
use Rattle.lsm_names.specs.declared.file_names.FileName.{FileName}
use Rattle.lsm_disk.specs.State.{State, Story, state_of}
use Rattle.lsm_disk.specs.Images.{bytes_at, tree_now}
use Rattle.lsm_disk.specs.Dest.{Begun, DestSeen, just_begun}
use Rattle.lsm_disk.specs.Building.{Part, names_of, IsBuilding, IsUnfinished}
use Rattle.lsm_disk.proofs.Runs.{went_then, went_weaker}
use Rattle.bk_meta.specs.declared.backup_files.BackupFile.{BackupFile}
use Rattle.bk_meta.specs.declared.backup_files.BackupFile.TheVariants.{Private, Shared}
use Rattle.bk_meta.specs.declared.metas.MetaFile.{MetaFile}
use Rattle.bk_meta.specs.BackupFiles.{file_at}
use Rattle.bk_meta.specs.Metas.{is_current, Ascends, are_different, shared_numbers}
use Rattle.bk_tree.specs.Holds.{has_its_size}
use Rattle.bk_restore.specs.declared.errors.RestoreError.{RestoreError}
use Rattle.bk_restore.specs.declared.errors.RestoreError.TheVariants.{DiskFault, DestFault, Halted, DestinationExists, Missing, Changed, WrongSize, Damaged, NoMemory}
use Rattle.bk_restore.specs.Wrong.{or_else, wrong_crc, wrong_by, wrong_as, is_current_file, others, first_wrong, IsTold, IsToldOf, IsToldFirst}
use Rattle.bk_restore.specs.Refusals.{IsOfCopying}
use Rattle.bk_restore.specs.Hands.{IsReady, Builds}
use Rattle.bk_restore.specs.Restored.{part_of, IsRestored, AreRestored, begun_with, with_parts, IsNext, AreMetaFiles, IsBegunBy}
use Rattle.bk_restore.proofs.Growing.{still_building, unbuilt}
use Rattle.bk_restore.proofs.Names.{is_part, names_before}
use Rattle.bk_restore.proofs.Right.{copying_tells}

-- ---- what is told of several files

pub told_more : (w v : Option RestoreError) (e : RestoreError) → ((x : RestoreError) → w ≡ Some x → v ≡ Some x) → IsTold w e → IsTold v e
told_more w v DiskFault next is = tt
told_more w v DestFault next is = tt
told_more w v (Halted first) next is = tt
told_more w v (DestinationExists dir) next is = tt
told_more w v (Missing name) next is = next (Missing name) is
told_more w v (Changed call path) next is = tt
told_more w v (WrongSize name kept found) next is = next (WrongSize name kept found) is
told_more w v (Damaged name kept found) next is = next (Damaged name kept found) is
told_more w v NoMemory next is = tt

pub by_tests : (file : MetaFile) (which : BackupFile) (bytes : List ℕ) → (crc32c bytes == file.crc) ≡ true → has_its_size which bytes ≡ true → wrong_by file which (Some bytes) ≡ None
by_tests file (Private name) bytes sum size = ap (λ (b : Bool). cond b None (Some (Damaged file.path file.crc (crc32c bytes)))) sum
by_tests file (Shared name) bytes sum size =
    ap (λ (b : Bool). or_else (cond b None (Some (WrongSize file.path name.size (length bytes)))) (wrong_crc file (crc32c bytes))) size
    ∙ ap (λ (b : Bool). cond b None (Some (Damaged file.path file.crc (crc32c bytes)))) sum

-- nothing is wrong with a restored file
nothing_wrong : (id : ℕ) (story : Story) (file : MetaFile) (part : Part) → IsRestored id (Some story) file part → wrong_as (tree_now (state_of story)) file (file_at id file.path) ≡ None
nothing_wrong id story file part is =
    let t = tree_now (state_of story) in
    let tests = and_parts (crc32c part.bytes == file.crc) (has_its_size is.which part.bytes) is.right in
    ap (wrong_as t file) is.named ∙ ap (wrong_by file is.which) is.same ∙ by_tests file is.which part.bytes tests.0 tests.1

module _ (id : ℕ) (story : Story) where
  abbrev Wrong : List MetaFile → Option RestoreError
  Wrong files = first_wrong id (tree_now (state_of story)) files

  wrong_step : (file : MetaFile) (files : List MetaFile) → Wrong (file ∷ files) ≡ or_else (wrong_as (tree_now (state_of story)) file (file_at id file.path)) (Wrong files)
  unfolding first_wrong
  wrong_step file files = refl

  wrong_none : Wrong [] ≡ None
  unfolding first_wrong
  wrong_none = refl

  pub past_right : (files more : List MetaFile) (parts : List Part) → AreRestored id (Some story) files parts → Wrong (files ++ more) ≡ Wrong more
  past_right [] more [] is = refl
  past_right [] more (part ∷ parts) is = absurd is
  past_right (file ∷ files) more [] is = absurd is
  past_right (file ∷ files) more (part ∷ parts) is =
      wrong_step file (files ++ more) ∙ ap (λ (o : Option RestoreError). or_else o (Wrong (files ++ more))) (nothing_wrong id story file part is.0) ∙ past_right files more parts is.1

  first_stays : (o v w : Option RestoreError) (e : RestoreError) → ((x : RestoreError) → v ≡ Some x → w ≡ Some x) → or_else o v ≡ Some e → or_else o w ≡ Some e
  first_stays None v w e next is = next e is
  first_stays (Some x) v w e next is = is

  pub wrong_stays : (files more : List MetaFile) (e : RestoreError) → Wrong files ≡ Some e → Wrong (files ++ more) ≡ Some e
  wrong_stays [] more e is = let clash : None ≡ Some e = sym wrong_none ∙ is in cc
  wrong_stays (file ∷ files) more e is =
      wrong_step file (files ++ more)
      ∙ first_stays (wrong_as (tree_now (state_of story)) file (file_at id file.path)) (Wrong files) (Wrong (files ++ more)) e (λ x h. wrong_stays files more x h) (sym (wrong_step file files) ∙ is)

  pub nothing_wrong_with : (files : List MetaFile) (parts : List Part) → AreRestored id (Some story) files parts → Wrong files ≡ None
  nothing_wrong_with files parts is = ap Wrong (sym (append-nil files)) ∙ past_right files [] parts is ∙ wrong_none

-- the first wrong file behind restored ones
pub first_told : (id : ℕ) (told : Option Story) (front mid rest : List MetaFile) (parts : List Part) (e : RestoreError) → AreRestored id told front parts → IsToldFirst id told mid e → IsToldFirst id told (front ++ (mid ++ rest)) e
first_told id None front mid rest parts e is told = tt
first_told id (Some story) front mid rest parts e is told =
    told_more (first_wrong id (tree_now (state_of story)) mid) (first_wrong id (tree_now (state_of story)) (front ++ (mid ++ rest))) e
    (λ x h. past_right id story front (mid ++ rest) parts is ∙ wrong_stays id story mid rest x h) told

-- ---- one file more

filter_one : (id : ℕ) (file : MetaFile) (test : Bool) → is_current_file id file ≡ test → others id (file ∷ []) ≡ cond (not test) (file ∷ []) []
filter_one id file test is = ap (λ (b : Bool). cond (not b) (file ∷ []) []) is

pub no_other : (id : ℕ) (file : MetaFile) (which : BackupFile) → file_at id file.path ≡ Some which → is_current (Some which) ≡ true → others id (file ∷ []) ≡ []
no_other id file which named is = filter_one id file true (ap is_current named ∙ is)

pub one_other : (id : ℕ) (file : MetaFile) (which : BackupFile) → file_at id file.path ≡ Some which → is_current (Some which) ≡ false → others id (file ∷ []) ≡ file ∷ []
one_other id file which named is = filter_one id file false (ap is_current named ∙ is)

pub none_restored : (id : ℕ) (told : Option Story) (file : MetaFile) (which : BackupFile) → file_at id file.path ≡ Some which → is_current (Some which) ≡ true → AreRestored id told (others id (file ∷ [])) []
none_restored id told file which named is = subst (λ (fs : List MetaFile). AreRestored id told fs []) (sym (no_other id file which named is)) tt

pub one_restored : (id : ℕ) (told : Option Story) (file : MetaFile) (which : BackupFile) (text : List ℕ) → file_at id file.path ≡ Some which → is_current (Some which) ≡ false → IsRestored id told file (part_of which text)
    → AreRestored id told (others id (file ∷ [])) (part_of which text ∷ [])
one_restored id told file which text named is restored = subst (λ (fs : List MetaFile). AreRestored id told fs (part_of which text ∷ [])) (sym (one_other id file which named is)) (restored, tt)

pub one_told : (id : ℕ) (told : Option Story) (file : MetaFile) (which : BackupFile) (e : RestoreError) → file_at id file.path ≡ Some which → is_current (Some which) ≡ false → IsToldOf told file which e → IsToldFirst id told (others id (file ∷ [])) e
one_told id None file which e named is told = tt
one_told id (Some story) file which e named is told =
    let t = tree_now (state_of story) in
    let w = wrong_by file which (bytes_at t file.path) in
    told_more w (first_wrong id t (others id (file ∷ []))) e
    (λ x h. ap (first_wrong id t) (one_other id file which named is) ∙ wrong_step id story file []
    ∙ ap (λ (o : Option RestoreError). or_else o (first_wrong id t [])) (ap (wrong_as t file) named ∙ h)) told

pub same_begun : (begun : Begun) → with_parts [] begun ≡ begun
same_begun begun = ap (λ (names : List FileName). let b : Begun = record { folder = begun.folder; names = names } in b) (append-nil begun.names)

pub nothing_more : (start : State) (begun : Begun) (parts : List Part) (s : State) → IsBuilding start begun parts s → IsBuilding start (with_parts [] begun) (parts ++ []) s
nothing_more start begun parts s is =
    subst (λ (b : Begun). IsBuilding start b (parts ++ []) s) (sym (same_begun begun)) (subst (λ (ps : List Part). IsBuilding start begun ps s) (sym (append-nil parts)) is)

-- ---- all files

names_push : (parts more : List Part) → names_of (parts ++ more) ≡ names_of parts ++ names_of more
names_push [] more = refl
names_push (part ∷ parts) more = ap (λ (names : List FileName). part.name ∷ names) (names_push parts more)

begun_more : (folder : List ℕ) (parts more : List Part) → with_parts more (begun_with folder parts) ≡ begun_with folder (parts ++ more)
begun_more folder parts more = ap (λ (names : List FileName). let b : Begun = record { folder = folder; names = names } in b) (sym (names_push parts more))

pub restored_both : (id : ℕ) (told : Option Story) (files others : List MetaFile) (parts more : List Part) → AreRestored id told files parts → AreRestored id told others more → AreRestored id told (files ++ others) (parts ++ more)
restored_both id told [] others [] more a b = b
restored_both id told [] others (part ∷ parts) more a b = absurd a
restored_both id told (file ∷ files) others [] more a b = absurd a
restored_both id told (file ∷ files) others (part ∷ parts) more a b = (a.0, restored_both id told files others parts more a.1 b)

-- how far it came with these files
pub record Going (id : ℕ) (told : Option Story) (files : List MetaFile) (before after : DestSeen) : Type 0 where
  pub parts : List Part
  pub restored : AreRestored id told (others id files) parts
  pub ready : (folder : List ℕ) → IsReady (just_begun folder) before → IsReady (begun_with folder parts) after
  pub builds : (start : State) (story : Story) (folder : List ℕ) → before.disk.told ≡ Some story → IsReady (just_begun folder) before → IsBuilding start (just_begun folder) [] (state_of story)
      → Builds start folder story after.disk.told (IsBuilding start (begun_with folder parts) parts)

pub going_starts : (id : ℕ) (told : Option Story) (seen : DestSeen) → Going id told [] seen seen
going_starts id told seen = record {
  parts = [];
  restored = tt;
  ready = λ folder ready. ready;
  builds = λ start story folder tells ready is. still_building start (just_begun folder) [] story tells is;
}

module _ (id : ℕ) (told : Option Story) (files : List MetaFile) (before after : DestSeen) (going : Going id told files before after) where
  pub going_goes : (later : DestSeen) (file : MetaFile) (more : List Part) → AreRestored id told (others id (file ∷ [])) more
      → ((begun : Begun) → IsReady begun after → IsReady (with_parts more begun) later)
      → ((start : State) (story : Story) (begun : Begun) (parts : List Part) → after.disk.told ≡ Some story → IsReady begun after → IsBuilding start begun parts (state_of story)
      → Builds start begun.folder story later.disk.told (IsBuilding start (with_parts more begun) (parts ++ more)))
      → Going id told (files ++ file ∷ []) before later
  going_goes later file more restored ready builds = record {
    parts = going.parts ++ more;
    restored = subst (λ (fs : List MetaFile). AreRestored id told fs (going.parts ++ more)) (sym (filter-append (λ (f : MetaFile). not (is_current_file id f)) files (file ∷ [])))
        (restored_both id told (others id files) (others id (file ∷ [])) going.parts more going.restored restored);
    ready = λ folder begins. subst (λ (b : Begun). IsReady b later) (begun_more folder going.parts more) (ready (begun_with folder going.parts) (going.ready folder begins));
    builds = λ start story folder tells begins is.
        subst (λ (b : Begun). Builds start folder story later.disk.told (IsBuilding start b (going.parts ++ more))) (begun_more folder going.parts more)
        (went_then (going.builds start story folder tells begins is) (λ mid still building. builds start mid (begun_with folder going.parts) going.parts still (going.ready folder begins) building));
  }

  pub going_stops : (now : Option Story) (start : State) (story : Story) (folder : List ℕ) → before.disk.told ≡ Some story → IsReady (just_begun folder) before → IsBuilding start (just_begun folder) [] (state_of story)
      → ((mid : Story) → after.disk.told ≡ Some mid → IsBuilding start (begun_with folder going.parts) going.parts (state_of mid) → Builds start folder mid now (IsUnfinished start folder))
      → Builds start folder story now (IsUnfinished start folder)
  going_stops now start story folder tells begins is stopped = went_then (going.builds start story folder tells begins is) stopped

  pub going_forgets : (start : State) (story : Story) (folder : List ℕ) → before.disk.told ≡ Some story → IsReady (just_begun folder) before → IsBuilding start (just_begun folder) [] (state_of story) → Builds start folder story after.disk.told (IsUnfinished start folder)
  going_forgets start story folder tells begins is = unbuilt start (begun_with folder going.parts) going.parts (going.builds start story folder tells begins is)

  -- the next file gets a new name
  pub next_is_new : (all : List MetaFile) (file : MetaFile) (more : List MetaFile) (folder : List ℕ) → AreMetaFiles id all → all ≡ files ++ file ∷ more → IsNext id file (begun_with folder going.parts)
  next_is_new all file more folder lawful cut which named other =
      record {
        part = is_part id file which named other;
        new = names_before id told file which more named files going.parts (subst Ascends cut lawful.ascending)
            (ap (λ (fs : List MetaFile). are_different (shared_numbers id fs)) (sym cut) ∙ lawful.different) going.restored;
      }

pub others_cut : (id : ℕ) (all files : List MetaFile) (file : MetaFile) (more : List MetaFile) → all ≡ files ++ file ∷ more → others id all ≡ others id files ++ (others id (file ∷ []) ++ others id more)
others_cut id all files file more cut =
    let test : MetaFile → Bool = λ f. not (is_current_file id f) in
    ap (others id) cut ∙ filter-append test files (file ∷ more) ∙ ap (λ (l : List MetaFile). others id files ++ l) (filter-append test (file ∷ []) more)

pub take_next : (files : List MetaFile) (index : ℕ) (file : MetaFile) → index < length files → get_or files index file ≡ file → take (index + 1) files ≡ take index files ++ file ∷ []
take_next files index file within at = take_more files index file within ∙ ap (λ (f : MetaFile). take index files ++ f ∷ []) at

pub still_with_none : (start : State) (begun : Begun) (parts : List Part) (story : Story) {told : Option Story} → told ≡ Some story → IsBuilding start begun parts (state_of story)
    → Builds start begun.folder story told (IsBuilding start (with_parts [] begun) (parts ++ []))
still_with_none start begun parts story tells is = went_weaker (IsBuilding start begun parts) (IsBuilding start (with_parts [] begun) (parts ++ [])) (nothing_more start begun parts) (still_building start begun parts story tells is)

-- ---- the last file

pub sole_restored : (id : ℕ) (told : Option Story) (files : List MetaFile) (file : MetaFile) (part : Part) → files ≡ file ∷ [] → IsRestored id told file part → AreRestored id told files (part ∷ [])
sole_restored id told files file part only restored = subst (λ (fs : List MetaFile). AreRestored id told fs (part ∷ [])) (sym only) (restored, tt)

pub sole_told : (id : ℕ) (told : Option Story) (files : List MetaFile) (file : MetaFile) (which : BackupFile) (e : RestoreError) → files ≡ file ∷ [] → file_at id file.path ≡ Some which → IsToldOf told file which e → IsToldFirst id told files e
sole_told id None files file which e only named told = tt
sole_told id (Some story) files file which e only named told =
    let t = tree_now (state_of story) in
    told_more (wrong_by file which (bytes_at t file.path)) (first_wrong id t files) e
    (λ x h. ap (first_wrong id t) only ∙ wrong_step id story file []
    ∙ ap (λ (o : Option RestoreError). or_else o (first_wrong id t [])) (ap (wrong_as t file) named ∙ h)) told

pub copying_first : (id : ℕ) (told : Option Story) (files : List MetaFile) (e : RestoreError) → IsOfCopying e → IsToldFirst id told files e
copying_first id None files e is = tt
copying_first id (Some story) files e is = copying_tells (first_wrong id (tree_now (state_of story)) files) e is

-- ---- what is told of all files

pub begun_tells : (wrong : Option RestoreError) (e : RestoreError) → IsBegunBy e → IsTold wrong e
begun_tells wrong DiskFault is = tt
begun_tells wrong DestFault is = tt
begun_tells wrong (Halted first) is = tt
begun_tells wrong (DestinationExists dir) is = tt
begun_tells wrong (Missing name) is = absurd is
begun_tells wrong (Changed call path) is = tt
begun_tells wrong (WrongSize name kept found) is = absurd is
begun_tells wrong (Damaged name kept found) is = absurd is
begun_tells wrong NoMemory is = tt

pub begun_first : (id : ℕ) (told : Option Story) (files : List MetaFile) (e : RestoreError) → IsBegunBy e → IsToldFirst id told files e
begun_first id None files e is = tt
begun_first id (Some story) files e is = begun_tells (first_wrong id (tree_now (state_of story)) files) e is

-- the first wrong file, and files behind it
pub told_before : (id : ℕ) (told : Option Story) (files more : List MetaFile) (e : RestoreError) → IsToldFirst id told files e → IsToldFirst id told (files ++ more) e
told_before id None files more e told = tt
told_before id (Some story) files more e told =
    told_more (first_wrong id (tree_now (state_of story)) files) (first_wrong id (tree_now (state_of story)) (files ++ more)) e (λ x h. wrong_stays id story files more x h) told

-- the first wrong file behind right ones
pub told_behind : (id : ℕ) (told : Option Story) (files more : List MetaFile) (parts : List Part) (e : RestoreError) → AreRestored id told files parts → IsToldFirst id told more e → IsToldFirst id told (files ++ more) e
told_behind id None files more parts e is told = tt
told_behind id (Some story) files more parts e is told =
    told_more (first_wrong id (tree_now (state_of story)) more) (first_wrong id (tree_now (state_of story)) (files ++ more)) e (λ x h. past_right id story files more parts is ∙ h) told

-- nothing is wrong where all are restored
pub all_right : (id : ℕ) (told : Option Story) (files : List MetaFile) (parts : List Part) → AreRestored id told files parts → IfSome told (λ story. first_wrong id (tree_now (state_of story)) files ≡ None)
all_right id None files parts is = tt
all_right id (Some story) files parts is = nothing_wrong_with id story files parts is
