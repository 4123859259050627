-- What each part of an installing leaves.
use Rattle.std.specs.Prelude.{◌≡◌, ◌≢◌, ℕ, ◌<◌, List, [], ◌∷◌, length, Option, Some, Result, Ok, Err}
use Rattle.std.proofs.Common.{⊎_elim, inl, inr, refl, sym, ap, subst, ◌∙◌, arith}
use Rattle.std.proofs.lemmas.List.Elements.{All-nil, All-cons}
use Rattle.lsm_names.specs.FileNames.{IsFileName}
use Rattle.lsm_names.specs.declared.file_names.FileName.TheVariants.{Manifest}
use Rattle.lsm_disk.specs.Names.{File_node}
use Rattle.lsm_disk.specs.State.{State, Story, Change, after, state_of}
use Rattle.lsm_disk.specs.Images.{Tree, IsImage}
use Rattle.lsm_disk.specs.Goes.{Went}
use Rattle.lsm_disk.specs.Kept.{IsFileNow, IsKeptFile}
use Rattle.lsm_disk.specs.Halts.{IsAmong}
use Rattle.lsm_disk.specs.Answers.{LeftBy}
use Rattle.lsm_disk.specs.Tree.{IsLawful}
use Rattle.lsm_disk.specs.declared.calls.Halt.{Halt}
use Rattle.lsm_disk.specs.declared.calls.DiskCall.{DiskCall}
use Rattle.lsm_disk.specs.declared.calls.DiskCall.TheVariants as call
use Rattle.lsm_disk.specs.declared.calls.DiskError.{DiskError}
use Rattle.lsm_disk.specs.declared.calls.DiskError.TheVariants.{Fault, NotThere, Exists, NoLinks, NotEmpty, Short, NoMemory}
use Rattle.lsm_disk.specs.declared.calls.DiskRefusal.{DiskRefusal}
use Rattle.lsm_disk.proofs.Named.{name_now}
use Rattle.lsm_disk.proofs.Runs.{left_cases, went_weaker, went_then, went_wider, went_start, went_kept}
use Rattle.lsm_publish.specs.Publishing.{Old, StillHas, IsOther, Writes, Switches, IsReady, IsSwitching, IsPublished, SwitchLeft, written}
use Rattle.lsm_publish.proofs.Olds.{still_spared, still_image, other_new, within}
use Rattle.lsm_version.specs.declared.edits.Edit.{Edit}
use Rattle.lsm_version.specs.Edits.{IsEdit}
use Rattle.lsm_manifest.specs.Texts.{IsTaken, manifest_text}
use Rattle.lsm_manifest.specs.Standing.{Stands}
use Rattle.lsm_manifest.specs.Installing.{Before, StillBefore, ShowsBefore, IsApart, IsOnly, NamesOldOrNew, Installs, Leaves, NewLeft, FillLeft, CurrentLeft, LeadsNow, Anything, LeadsEither, HasLed, new_calls, current_path, manifest_path, temporary_path, current_text}
use Rattle.lsm_manifest.proofs.Names.{new_not_current, temporary_is_not_current, current_apart_new, current_apart_temporary, new_apart_temporary}
use Rattle.lsm_manifest.proofs.Carrying.{writes_spare_old, now_written, switch_spares_old, new_installs, temporary_installs, switch_installs}
use Rattle.lsm_manifest.proofs.Filling.{Unknown}
use Rattle.lsm_manifest.proofs.Settling.{only_next, only_written}

-- each of these calls has this path
pub among_new : (at : Halt) (path : List ℕ) → IsAmong at (new_calls path) → at.path ≡ path
among_new at path is = ⊎_elim (λ e. ap (λ (h : Halt). h.path) e) (λ more. ⊎_elim (λ e. ap (λ (h : Halt). h.path) e) (λ last. ⊎_elim (λ e. ap (λ (h : Halt). h.path) e) (λ none. absurd none) last) more) is

left_map : (A B C D : Type 0) → (A → C) → (B → D) → (why : DiskError) → LeftBy A B why → LeftBy C D why
left_map A B C D f g Fault h = ⊎_elim (λ a. inl (f a)) (λ b. inr (g b)) h
left_map A B C D f g NotThere h = f h
left_map A B C D f g Exists h = f h
left_map A B C D f g NoLinks h = f h
left_map A B C D f g NotEmpty h = f h
left_map A B C D f g (Short found) h = f h
left_map A B C D f g NoMemory h = f h

module _ (dir : List ℕ) (number : ℕ) (old : Old) (id : ℕ) where
  abbrev tmp : List ℕ
  tmp = temporary_path dir number

  abbrev path : List ℕ
  path = current_path dir

  leads_now : (s : State) → IsPublished path id (current_text number) s → LeadsNow dir number s
  leads_now s p = (id, record { named = name_now s path (Some (File_node id)) p.named; file = p.file })

  pub current_left : (c : DiskCall) (why : DiskError) (s : State) → SwitchLeft tmp path old id (current_text number) c why s → CurrentLeft dir number old c why s
  current_left call.Rename why s w = left_map (IsReady tmp path old id (current_text number) s) (IsSwitching path old id (current_text number) s) (StillHas path old s) (LeadsNow dir number s) (λ r. r.still) (λ x. (id, x.new)) why w.left
  current_left call.SyncNames why s w = ⊎_elim (λ (x : IsSwitching path old id (current_text number) s). (id, x.new)) (λ p. leads_now s p) (left_cases (IsSwitching path old id (current_text number) s) (IsPublished path id (current_text number) s) why w.left)
  current_left call.Create why s w = absurd w
  current_left call.Append why s w = absurd w
  current_left call.Sync why s w = absurd w
  current_left call.Kind why s w = absurd w
  current_left call.List why s w = absurd w
  current_left call.Size why s w = absurd w
  current_left call.Open why s w = absurd w
  current_left call.Link why s w = absurd w
  current_left call.Unlink why s w = absurd w
  current_left call.MakeFolder why s w = absurd w
  current_left call.RemoveFolder why s w = absurd w

module _ (dir : List ℕ) (number : ℕ) (edit : Edit) (before : Before) (is : IsFileName (Manifest number)) (taken : IsTaken edit) (apart : IsApart dir number before.path) where
  abbrev cur : List ℕ
  cur = current_path dir

  abbrev new : List ℕ
  new = manifest_path dir number

  abbrev temporary : List ℕ
  temporary = temporary_path dir number

  abbrev text : List ℕ
  text = manifest_text (edit ∷ [])

  abbrev bytes : List ℕ
  bytes = current_text number

  abbrev P : State → Tree → Type 0
  P = NamesOldOrNew dir number edit before

  abbrev Still : State → Type 0
  Still = StillBefore dir before

  shows_before : (s : State) → Still s → (t : Tree) → IsImage s t → ShowsBefore dir before t
  shows_before s still t i = (still_image cur before.current s still.current t i, still_image before.path before.manifest s still.manifest t i)

  module _ (first : ℕ) where
    abbrev Q : Change → Type 0
    Q = Installs dir number first

    abbrev Left : Result (Unit {0}) DiskRefusal → State → Type 0
    Left result = Leaves {T = Unit {0}} dir number first edit before result

    -- a call on another name than `CURRENT` was refused
    left_before : (r : DiskRefusal) → r.at.path ≢ cur → (s : State) → Still s → NewLeft dir number first edit r s → Left (Err r) s
    left_before r ne s still left = (λ other. still.current, λ same. absurd (ne same), still.manifest, left)

    left_new : (r : DiskRefusal) → r.at.path ≡ new → (s : State) → FillLeft new first text r.at.call r.why s → Still s → Left (Err r) s
    left_new r at s left still = left_before r (λ same. new_not_current dir number is (sym at ∙ same)) s still
        (record { making = λ same. left; made = λ same. absurd (new_apart_temporary dir number is (sym at ∙ same)) })

    left_temporary : (r : DiskRefusal) → r.at.path ≡ temporary → (s : State) → IsFileNow s new first (written text) → Still s → Left (Err r) s
    left_temporary r at s now still = left_before r (λ same. temporary_is_not_current dir number is (sym at ∙ same)) s still
        (record { making = λ same. absurd (new_apart_temporary dir number is (sym same ∙ at)); made = λ same. now })

    -- no call was made
    nothing_made : (r : DiskRefusal) → r.at.call ≡ call.Create → r.why ≡ NoMemory → (s : State) → length s.files ≡ first → FillLeft new first text r.at.call r.why s
    nothing_made r is_call because s begins =
        subst (λ (c : DiskCall). FillLeft new first text c r.why s) (sym is_call) (subst (λ (e : DiskError). FillLeft new first text call.Create e s) (sym because) begins)

    pub untouched : (story : Story) {told : Option Story} (r : DiskRefusal) → r.at.path ≡ new → r.at.call ≡ call.Create → r.why ≡ NoMemory → length (state_of story).files ≡ first → told ≡ Some story → Still (state_of story)
        → Went story told Q P (Left (Err r))
    untouched story r at is_call because begins tells still =
        let begun : State → Type 0 = λ s. Still s × (length s.files ≡ first) in
        went_weaker begun (Left (Err r)) (λ s b. left_new r at s (nothing_made r is_call because s b.1) b.0)
        (went_start begun tells (still, begins) (λ s b. record { each = λ t i. inl (shows_before s b.0 t i) }))

    -- ---- the new manifest

    module _ (story : Story) (o2 : Option Story) (still : Still (state_of story)) (lawful : IsLawful (state_of story))
        (begins : first ≡ length (state_of story).files) where
      others : IsOther before.current first × IsOther before.manifest first
      others = (
        subst (λ (n : ℕ). IsOther before.current n) (sym begins) (other_new cur before.current (state_of story) still.current),
        subst (λ (n : ℕ). IsOther before.manifest n) (sym begins) (other_new before.path before.manifest (state_of story) still.manifest),
      )

      keep_new : (s : State) (c : Change) → Writes new first c → Still s → Still (after s c)
      keep_new s c w i = record {
        current = still_spared cur before.current s c i.current (writes_spare_old cur new first before.current c (current_apart_new dir number is) others.0 w);
        manifest = still_spared before.path before.manifest s c i.manifest (writes_spare_old before.path new first before.manifest c apart.new others.1 w);
      }

      carried_new : (J : State → Type 0) → Went story o2 (Writes new first) Anything J → Went story o2 Q P (λ s. J s × Still s)
      carried_new J w = went_wider (Writes new first) Q P P (λ c. new_installs dir number first c) (λ s t x. x)
          (went_kept P Still keep_new (λ s t i image x. inl (shows_before s i t image)) J still w)

      pub refused_new : (r : DiskRefusal) → IsAmong r.at (new_calls new) → Went story o2 (Writes new first) Anything (FillLeft new first text r.at.call r.why) → Went story o2 Q P (Left (Err r))
      refused_new r at w = went_weaker (λ s. FillLeft new first text r.at.call r.why s × Still s) (Left (Err r)) (λ s p. left_new r (among_new r.at new at) s p.0 p.1)
          (carried_new (FillLeft new first text r.at.call r.why) w)

      -- ---- the temporary file

      module _ (wrote : Went story o2 (Writes new first) Anything (λ s. IsFileNow s new first (written text))) (o3 : Option Story) where
        record Made (s : State) : Type 0 where
          pub before_is : Still s
          pub now : IsFileNow s new first (written text)
          pub only : IsOnly s new first

        only_begins : IsOnly (state_of story) new first
        only_begins = subst (λ (n : ℕ). IsOnly (state_of story) new n) (sym begins) (only_next (state_of story) new lawful)

        made : Went story o2 Q P (λ s. (IsFileNow s new first (written text) × IsOnly s new first) × Still s)
        made = carried_new (λ s. IsFileNow s new first (written text) × IsOnly s new first)
            (went_kept Anything (λ s. IsOnly s new first) (λ s c is only. only_written s new first new first c
            (inl refl) is only) (λ s t only image any. tt)
            (λ s. IsFileNow s new first (written text)) only_begins wrote)

        module _ (mid : Story) (now : IsFileNow (state_of mid) new first (written text)) (only : IsOnly
            (state_of mid) new first) (stays : Still (state_of mid)) where
          abbrev id : ℕ
          id = length (state_of mid).files

          lower : first < id
          lower = within (state_of mid).files first (written text) now.file

          keep_temporary : (s : State) (c : Change) → Writes temporary id c → Made s → Made (after s c)
          keep_temporary s c w i = record {
            before_is = record {
              current = still_spared cur before.current s c i.before_is.current (writes_spare_old cur temporary id before.current c (current_apart_temporary dir number is) (other_new cur before.current (state_of mid) stays.current) w);
              manifest = still_spared before.path before.manifest s c i.before_is.manifest (writes_spare_old before.path temporary id before.manifest c apart.temporary (other_new before.path before.manifest (state_of mid) stays.manifest) w);
            };
            now = now_written s new first (written text) temporary id c (new_apart_temporary dir number is) (λ same. absurd (omega (arith, lower, same))) w i.now;
            only = only_written s new first temporary id c (inr (λ same. let lt = within s.files first
                (written text) i.now.file in absurd (omega (arith, lt, same)))) w i.only;
          }

          carried_temporary : (J : State → Type 0) → Went mid o3 (Writes temporary id) Anything J → Went mid o3 Q P (λ s. J s × Made s)
          carried_temporary J w = went_wider (Writes temporary id) Q P P (λ c. temporary_installs dir number first id c (omega (arith, lower))) (λ s t x. x)
              (went_kept P Made keep_temporary (λ s t i image x. inl (shows_before s i.before_is t image)) J
              (record { before_is = stays; now = now; only = only }) w)

        pub refused_temporary : (r : DiskRefusal) → IsAmong r.at (new_calls temporary) → ((mid : Story) → o2 ≡ Some mid → Went mid o3 (Writes temporary (length (state_of mid).files)) Anything Unknown) → Went story o3 Q P (Left (Err r))
        refused_temporary r at next = went_then made (λ mid here m.
            went_weaker (λ s. Unknown s × Made s) (Left (Err r)) (λ s p. left_temporary r (among_new r.at temporary at) s p.1.now p.1.before_is)
            (carried_temporary mid m.0.0 m.0.1 m.1 Unknown (next mid here)))

        -- both are filled, the temporary file of this number
        record Filled (s : State) : Type 0 where
          pub k : ℕ
          pub temporary_now : IsFileNow s temporary k (written bytes)
          pub is_made : Made s
          pub apart_is : k ≢ first

        filled : ((mid : Story) → o2 ≡ Some mid → Went mid o3 (Writes temporary (length (state_of mid).files)) Anything (λ s. IsFileNow s temporary (length (state_of mid).files) (written bytes))) → Went story o3 Q P Filled
        filled next = went_then made (λ mid here m.
            went_weaker (λ s. IsFileNow s temporary (length (state_of mid).files) (written bytes) × Made s) Filled
            (λ s p. record {
              k = length (state_of mid).files;
              temporary_now = p.0;
              is_made = p.1;
              apart_is = λ same. let lt = within (state_of mid).files first (written text) m.0.0.file in absurd (omega
                  (arith, lt, same));
            })
            (carried_temporary mid m.0.0 m.0.1 m.1 (λ s. IsFileNow s temporary (length (state_of mid).files) (written bytes))
            (next mid here)))

        -- ---- the switch

        module _ (o4 : Option Story) (result : Result (Unit {0}) DiskRefusal) where
          abbrev Manifest_still : State → Type 0
          Manifest_still s = StillHas before.path before.manifest s

          keep_switch : (s : State) (c : Change) → Switches temporary cur c → Manifest_still s → Manifest_still (after s c)
          keep_switch s c w i = still_spared before.path before.manifest s c i (switch_spares_old temporary cur before.path before.manifest c apart.moved w)

          shows_switch : (s : State) (t : Tree) → Manifest_still s → IsImage s t → LeadsEither cur new before.current bytes text s t → P s t
          shows_switch s t i image x = ⊎_elim (λ was. inl (was, still_image before.path before.manifest s i t image)) (λ now. inr (record { current = now.0; manifest = now.1 })) x

          abbrev stands : (s : State) → IsKeptFile s new first (written text) → Stands s new (edit ∷ [])
          stands s kept = record { id = first; kept = kept; each = All-cons IsEdit edit [] taken.grammar (All-nil IsEdit) }

          fits : (k : ℕ) (s : State) → HasLed {T = Unit {0}} temporary cur new before.current k bytes first text result s × Manifest_still s → Left result s
          fits k s p = of_result result p where
            of_result : (r : Result (Unit {0}) DiskRefusal) → HasLed {T = Unit {0}} temporary cur new before.current k bytes first text r s × Manifest_still s → Left r s
            of_result (Ok value) p = (record { stands = stands s p.0.1; id = k; current = p.0.0; settled = p.0.2 }, p.1)
            of_result (Err r) p = ⊎_elim
                (λ q. left_temporary r q.0 s q.2 (record { current = q.1; manifest = p.1 }))
                (λ q. (
                  λ ne. absurd (ne q.0.0),
                  λ same. (stands s q.1, current_left dir number before.current k r.at.call r.why s q.0.1),
                  p.1,
                  record {
                    making = λ same. absurd (new_not_current dir number is (sym same ∙ q.0.0));
                    made = λ same. absurd (temporary_is_not_current dir number is (sym same ∙ q.0.0));
                  },
                ))
                p.0

          pub then_led : ((mid : Story) → o2 ≡ Some mid → Went mid o3 (Writes temporary (length (state_of mid).files)) Anything (λ s. IsFileNow s temporary (length (state_of mid).files) (written bytes)))
              → ((mid : Story) (k : ℕ) → o3 ≡ Some mid → StillHas cur before.current (state_of mid) → IsFileNow (state_of mid) temporary k (written bytes) → IsFileNow (state_of mid) new first (written text)
              → IsOnly (state_of mid) new first → k ≢ first
              → Went mid o4 (Switches temporary cur) (LeadsEither cur new before.current bytes text) (HasLed {T = Unit {0}} temporary cur new before.current k bytes first text result))
              → Went story o4 Q P (Left result)
          then_led next led = went_then (filled next) (λ mid here f.
              went_weaker (λ s. HasLed {T = Unit {0}} temporary cur new before.current f.k bytes first text result s × Manifest_still s) (Left result) (fits f.k)
              (went_wider (Switches temporary cur) Q P P (λ c. switch_installs dir number first c) (λ s t x. x)
              (went_kept P Manifest_still keep_switch shows_switch (HasLed {T = Unit {0}} temporary cur new before.current f.k bytes first text result) f.is_made.before_is.manifest
              (led mid f.k here f.is_made.before_is.current f.temporary_now f.is_made.now f.is_made.only f.apart_is))))
