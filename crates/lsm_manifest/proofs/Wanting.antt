-- What an installing leaves where memory is wanting: the files that were made, and CURRENT as it was.
use Rattle.std.specs.Prelude.{◌≡◌, ◌≢◌, ◌⊎◌, ℕ, ◌≤◌, List, length, Option, Some, Ok, Err}
use Rattle.std.proofs.Common.{⊎_elim, inl, inr, refl, sym, ap, subst, ◌∙◌, arith}
use Rattle.std.specs.FinMap as map
use Rattle.lsm_names.specs.FileNames.{IsFileName}
use Rattle.lsm_names.specs.declared.file_names.FileName.TheVariants.{Manifest}
use Rattle.lsm_disk.specs.Names.{File_node, NameOp, Put, Names}
use Rattle.lsm_disk.specs.State.{State, Story, Seen, Change, Created, Named, Appended, Synced, Names_synced, Idle, after, state_of, names_now, created, names_synced}
use Rattle.lsm_disk.specs.Goes.{Shows, Went}
use Rattle.lsm_disk.specs.Kept.{IsFileNow}
use Rattle.lsm_disk.specs.Answers.{Makes, LeftBy, TakesNoMemory}
use Rattle.lsm_disk.specs.Halts.{halt_at}
use Rattle.lsm_disk.specs.declared.calls.Halt.{Halt}
use Rattle.lsm_disk.specs.declared.calls.DiskCall.{DiskCall}
use Rattle.lsm_disk.specs.declared.calls.DiskCall.TheVariants as call
use Rattle.lsm_disk.specs.declared.calls.DiskError.{DiskError}
use Rattle.lsm_disk.specs.declared.calls.DiskError.TheVariants.{NoMemory}
use Rattle.lsm_disk.specs.declared.calls.DiskRefusal.{DiskRefusal}
use Rattle.lsm_disk.proofs.Images.{all_push, after_names_synced}
use Rattle.lsm_disk.proofs.Now.{get_created}
use Rattle.lsm_disk.proofs.Paths.{get_spared}
use Rattle.lsm_disk.proofs.Runs.{went_start, went_ok, went_weaker, went_wider, went_kept, went_then}
use Rattle.lsm_publish.specs.Publishing.{Writes, written}
use Rattle.lsm_publish.proofs.Olds.{names_write, within}
use Rattle.lsm_manifest.specs.Installing.{HasFile, IsFree, Begins, BegunAt, FillWants, LeadWants, WantsMemory, Anything, IsUntouched, manifest_path, temporary_path, current_path}
use Rattle.lsm_manifest.proofs.Names.{new_apart_temporary}
use Rattle.lsm_manifest.proofs.Placed.{Wrote}

-- ---- of the calls

at_is : (at : Halt) (c : DiskCall) (path : List ℕ) → at.call ≡ c → at.path ≡ path → at ≡ halt_at c path
at_is at c path called placed = ap (λ (k : DiskCall). halt_at k at.path) called ∙ ap (λ (p : List ℕ). halt_at c p) placed

-- a call that was refused for want of memory did nothing
nothing_done : (same made : Type 0) (r : DiskRefusal) (why : DiskError) → r.why ≡ why → r.why ≡ NoMemory → LeftBy same made why
    → same
nothing_done same made r why because want left = subst (LeftBy same made) (sym because ∙ want) left

-- a sync needs no memory
pub sync_wants : {A : Type 0} (r : DiskRefusal) (why : DiskError) → r.why ≡ why → TakesNoMemory {T = Unit {0}} (Err why)
    → r.why ≡ NoMemory → A
sync_wants r why because never want = absurd (never (ap Err (sym because ∙ want)))

module _ (path : List ℕ) (r : DiskRefusal) (why : DiskError) (placed : r.at.path ≡ path) (because : r.why ≡ why)
    (made : Type 0) where
  module _ (o1 o2 : Option Story) where
    pub create_wants : r.at.call ≡ call.Create → LeftBy (o2 ≡ o1) made why → r.why ≡ NoMemory → FillWants path r o1 o2
    create_wants called left want =
        inl (at_is r.at call.Create path called placed, nothing_done (o2 ≡ o1) made r why because want left)

    module _ (o3 : Option Story) (left : LeftBy (o3 ≡ o2) made why) where
      pub append_wants : r.at.call ≡ call.Append → Makes o1 (created path) o2 → r.why ≡ NoMemory → FillWants path r o1 o3
      append_wants called makes want = inr (
        at_is r.at call.Append path called placed,
        nothing_done (o3 ≡ o2) made r why because want left ∙ makes,
      )

      pub rename_wants : r.at.call ≡ call.Rename → Makes o1 names_synced o2 → r.why ≡ NoMemory → LeadWants path r o1 o3
      rename_wants called makes want = (
        at_is r.at call.Rename path called placed,
        nothing_done (o3 ≡ o2) made r why because want left ∙ makes,
      )

-- ---- of the names

-- the writing of a file leaves what another name leads to
name_written : (s : State) (p path : List ℕ) (id : ℕ) (c : Change) → p ≢ path → Writes path id c
    → map.get (names_now (after s c)) p ≡ map.get (names_now s) p
name_written s p path id (Created other) ne is =
    let op : NameOp = Put other (File_node (length s.files)) in
    ap (λ (n : Names). map.get n p) (all_push s.pending op s.durable)
    ∙ get_spared p op (names_now s) (λ same. ne (same ∙ is))
name_written s p path id (Named op) ne is = absurd is
name_written s p path id (Appended j bytes) ne is = refl
name_written s p path id (Synced j) ne is = refl
name_written s p path id Names_synced ne is = refl
name_written s p path id Idle ne is = refl

module _ (dir : List ℕ) (number : ℕ) (is : IsFileName (Manifest number)) where
  abbrev new : List ℕ
  new = manifest_path dir number

  abbrev temporary : List ℕ
  temporary = temporary_path dir number

  differs : temporary_path dir number ≢ manifest_path dir number
  differs same = new_apart_temporary dir number is (sym same)

  new_begins : (first : ℕ) (c : Change) → Writes (manifest_path dir number) first c → Begins dir number first c
  new_begins first (Created other) kind = inl kind
  new_begins first (Named op) kind = absurd kind
  new_begins first (Appended j bytes) kind = omega (arith, kind)
  new_begins first (Synced j) kind = omega (arith, kind)
  new_begins first Names_synced kind = tt
  new_begins first Idle kind = tt

  temporary_begins : (first id : ℕ) (c : Change) → first ≤ id → Writes (temporary_path dir number) id c → Begins dir number first c
  temporary_begins first id (Created other) less kind = inr kind
  temporary_begins first id (Named op) less kind = absurd kind
  temporary_begins first id (Appended j bytes) less kind = omega (arith, less, kind)
  temporary_begins first id (Synced j) less kind = omega (arith, less, kind)
  temporary_begins first id Names_synced less kind = tt
  temporary_begins first id Idle less kind = tt

  module _ (story : Story) where
    abbrev first : ℕ
    first = length (state_of story).files

    abbrev Came : Option Story → (State → Type 0) → Type 0
    Came told I = Went story told (Begins dir number first) Anything I

    anything : (I : State → Type 0) (s : State) → I s → Shows Anything s
    anything I s i = record { each = λ t image. tt }

    abbrev Made : List ℕ → (State → Type 0) → State → Type 0
    Made path I s = (m : State) × I m × (s ≡ after m (Created path))

    -- what held before the making of a file holds still, or the empty file was made since
    wanted : (path : List ℕ) → Begins dir number (length (state_of story).files) (Created path) → (I : State → Type 0)
        → {o1 o2 : Option Story} → Came o1 I → (r : DiskRefusal) → FillWants path r o1 o2
        → Came o2 (λ s. ((r.at ≡ halt_at call.Create path) × I s) ⊎ ((r.at ≡ halt_at call.Append path) × Made path I s))
    wanted path kind I {o1} {o2} came r wants = ⊎_elim
        (λ stays. went_weaker I _ (λ s i. inl (stays.0, i)) (subst (λ (o : Option Story). Came o I) (sym stays.1) came))
        (λ made. went_weaker (Made path I) _ (λ s i. inr (made.0, i))
        (went_ok I (Made path I) (created path) made.1 (λ s i. kind) (λ s i. (s, i, refl)) (anything (Made path I)) came))
        wants

    made_file : (path : List ℕ) (I : State → Type 0) (s : State) → Made path I s → HasFile path s
    made_file path I s made = subst (HasFile path) (sym made.2) (length made.0.files, get_created made.0 path)

    made_else : (path other : List ℕ) → other ≢ path → (I : State → Type 0) (s : State) → (made : Made path I s)
        → map.get (names_now s) other ≡ map.get (names_now made.0) other
    made_else path other ne I s made =
        ap (λ (x : State). map.get (names_now x) other) made.2 ∙ name_written made.0 other path 0 (Created path) ne refl

    module _ {o1 : Option Story} (tells : o1 ≡ Some story) (new_free : IsFree (manifest_path dir number) (state_of story))
        (temporary_free : IsFree (temporary_path dir number) (state_of story)) where
      abbrev None_made : State → Type 0
      None_made s = IsFree new s × IsFree temporary s

      none_made : Came o1 None_made
      none_made = went_start None_made tells (new_free, temporary_free) (anything None_made)

      module _ {o2 : Option Story} where
        pub new_wanted : (r : DiskRefusal) → FillWants (manifest_path dir number) r o1 o2
            → Went story o2 (Begins dir number (length (state_of story).files)) Anything (BegunAt dir number r.at)
        new_wanted r wants = went_weaker _ (BegunAt dir number r.at)
            (λ s. ⊎_elim
            (λ stays. inl (stays.0, stays.1.0, stays.1.1))
            (λ made. inr (inl (
              inl made.0,
              made_file new None_made s made.1,
              made_else new temporary differs None_made s made.1 ∙ made.1.1.1,
            ))))
            (wanted new (inl refl) None_made none_made r wants)

        module _ (text : List ℕ) (wrote : Wrote story o2 (manifest_path dir number) text (Ok (tt {0}))) where
          abbrev One_made : State → Type 0
          One_made s = IsFileNow s new first (written text) × IsFree temporary s

          one_made : Came o2 One_made
          one_made = went_wider (Writes new first) (Begins dir number first) Anything Anything (λ c. new_begins first c)
              (λ s t x. x)
              (went_kept Anything (IsFree temporary)
              (λ s c kind free. name_written s temporary new first c differs kind ∙ free) (λ s t free image x. tt)
              (λ s. IsFileNow s new first (written text)) temporary_free wrote)

          one_file : (s : State) → One_made s → HasFile new s
          one_file s one = (first, one.0.named)

          module _ {o3 : Option Story} where
            pub temporary_wanted : (r : DiskRefusal) → FillWants (temporary_path dir number) r o2 o3
                → Went story o3 (Begins dir number (length (state_of story).files)) Anything (BegunAt dir number r.at)
            temporary_wanted r wants = went_weaker _ (BegunAt dir number r.at)
                (λ s. ⊎_elim
                (λ stays. inr (inl (inr stays.0, one_file s stays.1, stays.1.1)))
                (λ made. inr (inr (
                  inl made.0,
                  (first, made_else temporary new (new_apart_temporary dir number is) One_made s made.1 ∙ made.1.1.0.named),
                  made_file temporary One_made s made.1,
                ))))
                (wanted temporary (inr refl) One_made one_made r wants)

            module _ (bytes : List ℕ)
                (next : (mid : Story) → o2 ≡ Some mid → Wrote mid o3 (temporary_path dir number) bytes (Ok (tt {0}))) where
              abbrev Both_made : State → Type 0
              Both_made s = HasFile new s × HasFile temporary s

              both_made : Came o3 Both_made
              both_made = went_then one_made (λ mid here one.
                  let id : ℕ = length (state_of mid).files in
                  went_weaker (λ s. IsFileNow s temporary id (written bytes)
                  × (map.get (names_now s) new ≡ Some (File_node first))) Both_made
                  (λ s both. ((first, both.1), (id, both.0.named)))
                  (went_wider (Writes temporary id) (Begins dir number first) Anything Anything
                  (λ c. temporary_begins first id c
                  (omega (arith, within (state_of mid).files first (written text) one.0.file))) (λ s t x. x)
                  (went_kept Anything (λ s. map.get (names_now s) new ≡ Some (File_node first))
                  (λ s c kind there. name_written s new temporary id c (new_apart_temporary dir number is) kind ∙ there)
                  (λ s t there image x. tt) (λ s. IsFileNow s temporary id (written bytes)) one.0.named (next mid here))))

              names_same : (s : State) (path : List ℕ) → map.get (names_now (after s (names_synced s))) path ≡ map.get (names_now s) path
              names_same s path = ap (λ (x : State). map.get (names_now x) path) (after_names_synced s)

              pub lead_wanted : {o4 : Option Story} (r : DiskRefusal) → LeadWants (current_path dir) r o3 o4
                  → Went story o4 (Begins dir number (length (state_of story).files)) Anything (BegunAt dir number r.at)
              lead_wanted r wants = went_weaker Both_made (BegunAt dir number r.at)
                  (λ s both. inr (inr (inr wants.0, both.0, both.1)))
                  (went_ok Both_made Both_made names_synced wants.1
                  (λ s both. temporary_begins first first (names_synced s) (omega arith) (names_write temporary first s))
                  (λ s both. (
                    (both.0.0, names_same s new ∙ both.0.1),
                    (both.1.0, names_same s temporary ∙ both.1.1),
                  )) (anything Both_made) both_made)

-- ---- with paths and bytes that are given by equations

module _ (dir : List ℕ) (number : ℕ) (is : IsFileName (Manifest number)) (new temporary path text bytes : List ℕ)
    (new_is : new ≡ manifest_path dir number) (temporary_is : temporary ≡ temporary_path dir number)
    (path_is : path ≡ current_path dir) where
  module _ {o1 o2 : Option Story} where
    pub wants_new : (r : DiskRefusal) → (r.why ≡ NoMemory → FillWants new r o1 o2)
        → WantsMemory {T = Unit {0}} dir number o1 o2 (Err r)
    wants_new r wants want story tells new_free temporary_free = new_wanted dir number is story tells new_free temporary_free r
        (subst (λ (p : List ℕ). FillWants p r o1 o2) new_is (wants want))

    module _ (wrote : (story : Story) → o1 ≡ Some story → Wrote story o2 new text (Ok (tt {0}))) {o3 : Option Story} where
      pub wants_temporary : (r : DiskRefusal) → (r.why ≡ NoMemory → FillWants temporary r o2 o3)
          → WantsMemory {T = Unit {0}} dir number o1 o3 (Err r)
      wants_temporary r wants want story tells new_free temporary_free =
          temporary_wanted dir number is story tells new_free temporary_free text
          (subst (λ (p : List ℕ). Wrote story o2 p text (Ok (tt {0}))) new_is (wrote story tells)) r
          (subst (λ (p : List ℕ). FillWants p r o2 o3) temporary_is (wants want))

      pub wants_lead : ((mid : Story) → o2 ≡ Some mid → Wrote mid o3 temporary bytes (Ok (tt {0}))) → {o4 : Option Story}
          → (r : DiskRefusal) → (r.why ≡ NoMemory → LeadWants path r o3 o4)
          → WantsMemory {T = Unit {0}} dir number o1 o4 (Err r)
      wants_lead next {o4} r wants want story tells new_free temporary_free =
          lead_wanted dir number is story tells new_free temporary_free text
          (subst (λ (p : List ℕ). Wrote story o2 p text (Ok (tt {0}))) new_is (wrote story tells)) bytes
          (λ mid here. subst (λ (p : List ℕ). Wrote mid o3 p bytes (Ok (tt {0}))) temporary_is (next mid here)) r
          (subst (λ (p : List ℕ). LeadWants p r o3 o4) path_is (wants want))

-- no call was made
pub untouched_wants : (new : List ℕ) (r : DiskRefusal) → r.at.path ≡ new → r.at.call ≡ call.Create → (told : Option Story)
    → FillWants new r told told
untouched_wants new r placed called told = inl (at_is r.at call.Create new called placed, refl)

pub untouched_is : (new : List ℕ) (r : DiskRefusal) → r.at.path ≡ new → r.at.call ≡ call.Create → r.why ≡ NoMemory
    → (seen : Seen) → IsUntouched {T = Unit {0}} new seen seen (Err r)
untouched_is new r placed called because seen = (
  refl,
  ap (λ (h : Halt). record { at = h; why = r.why }) (at_is r.at call.Create new called placed)
      ∙ ap (λ (e : DiskError). record { at = halt_at call.Create new; why = e }) because,
)
