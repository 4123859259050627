-- What views of a store's files tell, and that none is refused.
use Rattle.std.specs.Prelude.{◌≡◌, ℕ, zero, suc, ◌+◌, ◌%◌, ◌≤◌, cond, is_some, nat_le, true, false, List, [], ◌∷◌, length, map, take, replicate, Option, Some, None, option_map}
use Rattle.std.proofs.Common.{refl, sym, ap, subst, ◌∙◌, arith, length-append}
use Rattle.std.proofs.lemmas.Bool.Decides.{nat_tests}
use Rattle.std.proofs.lemmas.List.{take_all, append-nil}
use Rattle.std.specs.List.{fold}
use Rattle.lsm_names.specs.Paths.{parent_of}
use Rattle.lsm_rows.specs.declared.operations.Op.{Op}
use Rattle.lsm_frame.specs.Frames.{with_record, record_text, cut, piece, filling, start as start_at}
use Rattle.lsm_frame.proofs.Written.{length-cut}
use Rattle.lsm_disk.specs.State.{FileState, State, Story, state_of, file_now, bytes_of}
use Rattle.lsm_disk.specs.Kept.{IsKeptFile}
use Rattle.lsm_disk.specs.Refusals.{no_view, or_else, short_of}
use Rattle.lsm_disk.specs.Viewed.{Viewed, opened}
use Rattle.lsm_disk.specs.declared.calls.DiskError.TheVariants.{NotThere, Short}
use Rattle.lsm_disk.proofs.Files.{same_some}
use Rattle.lsm_disk.proofs.Kept.{kept_at, kept_now}
use Rattle.lsm_wal.specs.Batches.{text_of, in_sequence, wal_text}
use Rattle.lsm_folder.specs.Names.{current_text}
use Rattle.lsm_folder.specs.Manifests.{first_edit, manifest_text}
use Rattle.bk_engine.specs.Creating.{plain_names}
use Rattle.bk_engine.specs.Preparing.{IsTextOf, AreTexts, plain_views}
use Rattle.bk_engine.specs.Standing.{plain_log, plain_texts}
use Rattle.ldb_script.specs.Plain.{Outcome}
use Rattle.ldb_script.specs.Stored.{Shown, Stands, Logs, HasFirstFiles, log_of, log_path, manifest_path, current_path, first_manifest, first_current, whole_file}
use Rattle.ldb_script.specs.Files.{where_any, HasViews, HasFiles}
use Rattle.ldb_script.proofs.Folders.{parent_log}
use Rattle.ldb_script.proofs.Logs.{log_len, log_none}
use Rattle.ldb_script.proofs.Shows.{current_is, manifest_is}

-- ---- lengths

current_long : length first_current ≡ 16
unfolding first_current
current_long = refl

manifest_long : length first_manifest ≡ 13
unfolding first_manifest record_text cut piece
manifest_long = refl

record_long : (offset : ℕ) (payload : List ℕ) → 1 ≤ length (record_text offset payload)
unfolding record_text
record_long offset payload = omega (arith, length-append (replicate (filling offset) 0) (cut (length payload) false (start_at offset) payload), length-cut (length payload) false (start_at offset) payload)

longer_log : (payloads : List (List ℕ)) (text : List ℕ) → length text ≤ length (fold with_record text payloads)
longer_log [] text = omega arith
longer_log (payload ∷ payloads) text = omega (arith, longer_log payloads (with_record text payload), length-append text (record_text (length text % 32768) payload))

-- a log of some batches has bytes
log_long : (ops : List Op) (batches : List (List Op)) → 1 ≤ length (log_of (ops ∷ batches))
unfolding log_of
log_long ops batches =
    let payload : List ℕ = text_of (record { first = 1; ops = ops }) in
    omega (arith, longer_log (map text_of (in_sequence (1 + length ops) batches)) (with_record [] payload), record_long 0 payload)

-- ---- the log, where there is one

abbrev pub where_batches : {T : Type 0} → List (List Op) → T → Option T
where_batches [] value = None
where_batches (ops ∷ batches) value = Some value

pub any_is : {T : Type 0} (value : T) (accepted : List (List Op)) (len : ℕ) → len ≡ length (log_of accepted) → where_any len value ≡ where_batches accepted value
any_is value [] len is = ap (λ (n : ℕ). where_any n value) (is ∙ log_none)
any_is value (ops ∷ batches) zero is = absurd (omega (arith, is, log_long ops batches))
any_is value (ops ∷ batches) (suc n) is = refl

number_is : (accepted : List (List Op)) → where_batches accepted 2 ≡ plain_log accepted
number_is [] = refl
number_is (ops ∷ batches) = refl

-- ---- views

module _ (s : State) (path bytes : List ℕ) (id : ℕ) (f : FileState) (kept : IsKeptFile s path id f) (is : bytes_of f ≡ bytes) where
  kept_text : bytes_of (file_now path s) ≡ bytes
  kept_text = ap bytes_of (kept_now s path id f kept) ∙ is

  kept_view : (len : ℕ) → len ≡ length bytes → no_view path len s ≡ None
  kept_view len long =
      let n : ℕ = length (bytes_of (file_now path s)) in
      ap (λ (o : Option ℕ). or_else (cond (is_some o) None (Some NotThere)) (short_of len (bytes_of (file_now path s)))) (kept_at s path id f kept)
      ∙ ap (λ b. cond b None (Some (Short n))) (subst (λ (k : ℕ). nat_le k n ≡ true) (ap length kept_text ∙ sym long) (grind (arith, nat_tests)))

text_told : (told : Option Story) (story : Story) (path bytes : List ℕ) (len : ℕ) → told ≡ Some story → bytes_of (file_now path (state_of story)) ≡ bytes → len ≡ length bytes → (text : List ℕ) → IsTextOf (opened path len told) text → text ≡ bytes
text_told told story path bytes len tells is long text of =
    of bytes
    (ap (option_map (λ (x : Story). take len (bytes_of (file_now path (state_of x))))) tells ∙ ap (λ (l : List ℕ). Some (take len l)) is ∙ ap (λ (l : List ℕ). Some l) (take_all len bytes (omega (arith, long))))
    (sym long)

module _ (v c m : Viewed) (current : (t : List ℕ) → IsTextOf c t → t ≡ current_text 1) (manifest : (t : List ℕ) → IsTextOf m t → t ≡ manifest_text (first_edit ∷ [])) where
  texts_are : (accepted : List (List Op)) → ((t : List ℕ) → IsTextOf v t → t ≡ wal_text (in_sequence 1 accepted)) → (these : List (List ℕ)) → AreTexts (plain_views (where_batches accepted v) c m) these → these ≡ plain_texts accepted
  texts_are [] log [] h = absurd h
  texts_are [] log (t ∷ []) h = absurd h.1
  texts_are [] log (t ∷ u ∷ []) h = λ i. current t h.0.0 i ∷ manifest u h.1.0.0 i ∷ []
  texts_are [] log (t ∷ u ∷ w ∷ these) h = absurd h.1.1
  texts_are (ops ∷ batches) log [] h = absurd h
  texts_are (ops ∷ batches) log (t ∷ []) h = absurd h.1
  texts_are (ops ∷ batches) log (t ∷ u ∷ []) h = absurd h.1.1
  texts_are (ops ∷ batches) log (t ∷ u ∷ w ∷ []) h = λ i. log t h.0.0 i ∷ current u h.1.0.0 i ∷ manifest w h.1.1.0.0 i ∷ []
  texts_are (ops ∷ batches) log (t ∷ u ∷ w ∷ x ∷ these) h = absurd h.1.1.1

-- ---- a store that stands in its home

module _ (start : Option Story) (old : Shown) (outcome : Outcome) (was : Stands start old outcome) (home : List ℕ) (at : old.log ≡ log_path home) where
  log_is : old.len ≡ length (wal_text (in_sequence 1 outcome.accepted))
  log_is = was.len ∙ log_len outcome.accepted

  module _ (story : Story) (tells : start ≡ Some story) where
    abbrev logs : Logs old.disk.told old.log outcome.accepted outcome.after.durable
    logs = was.log story tells

    abbrev now : State
    now = state_of logs.story

    first_files : HasFirstFiles now home old.log
    first_files =
        let beside = was.beside story tells in
        subst (λ (d : List ℕ). HasFirstFiles now d old.log) (ap parent_of at ∙ parent_log home)
        (subst (λ (x : Story). HasFirstFiles (state_of x) (parent_of old.log) old.log) (same_some beside.story logs.story (sym beside.tells ∙ logs.tells)) beside.files)

    has_views : HasViews home old.log old.len now
    has_views = record {
      log = kept_view now old.log (wal_text (in_sequence 1 outcome.accepted)) logs.wal.id logs.wal.file logs.wal.kept logs.wal.text old.len log_is;
      pair = record {
        current = kept_view now (current_path home) first_current first_files.current.id (whole_file first_current) first_files.current.kept (append-nil first_current) 16 (sym current_long);
        manifest = kept_view now (manifest_path home) first_manifest first_files.manifest.id (whole_file first_manifest) first_files.manifest.kept (append-nil first_manifest) 13 (sym manifest_long);
      };
    }

    log_told : (t : List ℕ) → IsTextOf (opened old.log old.len old.disk.told) t → t ≡ wal_text (in_sequence 1 outcome.accepted)
    log_told = text_told old.disk.told logs.story old.log (wal_text (in_sequence 1 outcome.accepted)) old.len logs.tells
        (kept_text now old.log (wal_text (in_sequence 1 outcome.accepted)) logs.wal.id logs.wal.file logs.wal.kept logs.wal.text) log_is

    current_told : (t : List ℕ) → IsTextOf (opened (current_path home) 16 old.disk.told) t → t ≡ current_text 1
    current_told t of =
        text_told old.disk.told logs.story (current_path home) first_current 16 logs.tells
        (kept_text now (current_path home) first_current first_files.current.id (whole_file first_current) first_files.current.kept (append-nil first_current)) (sym current_long) t of
        ∙ current_is

    manifest_told : (t : List ℕ) → IsTextOf (opened (manifest_path home) 13 old.disk.told) t → t ≡ manifest_text (first_edit ∷ [])
    manifest_told t of =
        text_told old.disk.told logs.story (manifest_path home) first_manifest 13 logs.tells
        (kept_text now (manifest_path home) first_manifest first_files.manifest.id (whole_file first_manifest) first_files.manifest.kept (append-nil first_manifest)) (sym manifest_long) t of
        ∙ manifest_is

  -- no view is refused
  pub views_there : (story : Story) → start ≡ Some story → (there : Story) × (old.disk.told ≡ Some there) × HasViews home old.log old.len (state_of there)
  views_there story tells = ((logs story tells).story, (logs story tells).tells, has_views story tells)

  -- the views are of the store's files
  pub files_told : (number : Option ℕ) (manifest_number : ℕ) (log : Option Viewed) (current manifest : Viewed) → number ≡ where_any old.len 2 → manifest_number ≡ 1 → log ≡ where_any old.len (opened old.log old.len old.disk.told)
      → current ≡ opened (current_path home) 16 old.disk.told → manifest ≡ opened (manifest_path home) 13 old.disk.told → HasFiles start outcome.accepted (plain_names number manifest_number) (plain_views log current manifest)
  files_told number manifest_number log current manifest number_of manifest_of log_view current_view manifest_view = record {
    names = λ i. plain_names ((number_of ∙ any_is 2 outcome.accepted old.len was.len ∙ number_is outcome.accepted) i) (manifest_of i);
    texts = λ story tells these are.
        texts_are (opened old.log old.len old.disk.told) (opened (current_path home) 16 old.disk.told) (opened (manifest_path home) 13 old.disk.told) (current_told story tells) (manifest_told story tells) outcome.accepted (log_told story tells) these
        (subst (λ (views : List Viewed). AreTexts views these) (λ i. plain_views ((log_view ∙ any_is (opened old.log old.len old.disk.told) outcome.accepted old.len was.len) i) (current_view i) (manifest_view i)) are);
  }
