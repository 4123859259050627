-- A change that spares the names of pinned files keeps them; and kept pins fit those of each state with the same batches.
use Rattle.std.specs.Prelude.{◌≡◌, ℕ, ◌≤◌, true, false, ◌==◌, List, [], ◌∷◌, ◌++◌, take, length, slice_get, All, Option, Some, None}
use Rattle.std.proofs.Common.{refl, sym, ap, subst, ◌∙◌, append_assoc}
use Rattle.std.proofs.lemmas.List.{append-nil}
use Rattle.std.specs.FinMap as finmap
use Rattle.lsm_disk.specs.Names.{Node, NameOp, Names, id_of}
use Rattle.lsm_disk.specs.State.{State, Change, Created, Named, Appended, Synced, Names_synced, Idle, after, file_at, names_now, longer, in_file}
use Rattle.lsm_disk.specs.Images.{bytes_by, bytes_at, contents_of, tree_now}
use Rattle.lsm_disk.specs.Kept.{OpSpares, SparesName}
use Rattle.lsm_disk.specs.Dest.{path_in}
use Rattle.lsm_disk.proofs.Now.{names_after, contents_longer, contents_other, bytes_past_created}
use Rattle.lsm_disk.proofs.Paths.{get_spared, number}
use Rattle.lsm_rows.specs.declared.operations.Op.{Op}
use Rattle.lsm_rows.specs.Replay.{replayed, sequence_after}
use Rattle.lsm_folder.specs.Needed.{Stands}
use Rattle.lsm_model.specs.declared.replies.Shown.{Shown}
use Rattle.lsm_model.specs.declared.states.State as model
use Rattle.lsm_model.specs.declared.states.Pin.{Pin}
use Rattle.lsm_model.specs.declared.states.PinnedFile.{PinnedFile}
use Rattle.lsm_model.specs.States.{shown_at}
use Rattle.lsm_refine.specs.Kept.{KeptPin}
use Rattle.lsm_refine.specs.Pins.{ArePins, IsKeptPin, IsPinned, PinFiles, folder_of_pin}
use Rattle.lsm_refine.proofs.OutsideLemmas.{sure_contents}
use Rattle.lsm_model.proofs.PinLemmas.{not_if}

-- a path has these bytes, or more
abbrev HasAtLeast : State → List ℕ → List ℕ → Type 0
HasAtLeast d path old = (more : List ℕ) × (bytes_at (tree_now d) path ≡ Some (old ++ more))

same_bytes : (d : State) (path old : List ℕ) → bytes_at (tree_now d) path ≡ Some old → HasAtLeast d path old
same_bytes d path old is = ([], is ∙ ap Some (sym (append-nil old)))

module _ (d : State) (path old : List ℕ) where
  pub named_bytes : (op : NameOp) → OpSpares path op → bytes_at (tree_now (after d (Named op))) path ≡ bytes_at (tree_now d) path
  named_bytes op spares =
      ap (λ (names : Names). bytes_by (id_of (finmap.get names path)) (tree_now (after d (Named op)))) (names_after d op)
      ∙ ap (λ (node : Option Node). bytes_by (id_of node) (tree_now (after d (Named op)))) (get_spared path op (names_now d) spares)
      ∙ held (file_at d path)
    where
      held : (o : Option ℕ) → bytes_by o (tree_now (after d (Named op))) ≡ bytes_by o (tree_now d)
      held None = refl
      held (Some id) = refl

  appended_by : (id : ℕ) (more : List ℕ) (o : Option ℕ) → bytes_by o (tree_now d) ≡ Some old
      → (added : List ℕ) × (bytes_by o (tree_now (after d (Appended id more))) ≡ Some (old ++ added))
  appended_by id more None is = cc
  appended_by id more (Some k) is =
      elim (k == id) as (λ b. (k == id) ≡ b → (added : List ℕ)
      × (slice_get (contents_of (in_file (longer more) id d.files)) k ≡ Some (old ++ added))) [
        | true ↦ λ same. (
          more,
          subst (λ (n : ℕ). slice_get (contents_of (in_file (longer more) n d.files)) k
              ≡ Some (old ++ more)) (number k id same) (contents_longer more d.files k old is),
        )
        | false ↦ λ differ. ([], contents_other (longer more) d.files k id (not_if k id differ) ∙ is ∙ ap Some (sym (append-nil old)))
      ] refl

  synced_by : (id : ℕ) (o : Option ℕ) → bytes_by o (tree_now (after d (Synced id))) ≡ bytes_by o (tree_now d)
  synced_by id None = refl
  synced_by id (Some k) = ap (λ (bs : List (List ℕ)). slice_get bs k) (sure_contents d.files id)

  bytes_stay : (c : Change) → SparesName path c → bytes_at (tree_now d) path ≡ Some old → HasAtLeast (after d c) path old
  bytes_stay (Created other) spares is = same_bytes (after d (Created other)) path old (bytes_past_created d path other old spares is)
  bytes_stay (Named op) spares is = same_bytes (after d (Named op)) path old (named_bytes op spares ∙ is)
  bytes_stay (Appended id more) spares is = appended_by id more (file_at d path) is
  bytes_stay (Synced id) spares is = same_bytes (after d (Synced id)) path old (synced_by id (file_at d path) ∙ is)
  bytes_stay Names_synced spares is = same_bytes (after d Names_synced) path old is
  bytes_stay Idle spares is = same_bytes d path old is

pinned_stays : (d : State) (dir : List ℕ) (c : Change) (file : PinnedFile) → SparesName (path_in dir file.name) c
    → IsPinned d dir file → IsPinned (after d c) dir file
pinned_stays d dir c file spares is =
    let next = bytes_stay d (path_in dir file.name) (file.bytes ++ is.more) c spares is.there in
    record { fits = is.fits; more = is.more ++ next.0; there = next.1 ∙ ap Some (append_assoc file.bytes is.more next.0) }

pub files_stay : (d : State) (dir : List ℕ) (c : Change) (files : List PinnedFile)
    → All (λ (file : PinnedFile). SparesName (path_in dir file.name) c) files → PinFiles d dir files → PinFiles (after d c) dir files
files_stay d dir c files spares are = λ k default within. pinned_stays d dir c _ (spares k default within) (are k default within)

-- pins that fit fit also so, where each that fits does
pub pins_fit : (Fits Also : KeptPin → Pin → Type 0) → ((kept : KeptPin) (pin : Pin) → Fits kept pin → Also kept pin)
    → (kept : List KeptPin) (pins : List Pin) → ArePins Fits kept pins → ArePins Also kept pins
pins_fit Fits Also more [] [] are = tt
pins_fit Fits Also more [] (pin ∷ pins) are = are
pins_fit Fits Also more (k ∷ kept) [] are = are
pins_fit Fits Also more (k ∷ kept) (pin ∷ pins) are = (more k pin are.0, pins_fit Fits Also more kept pins are.1)

-- pins that fit in two ways fit in both
pub pins_both : (Fits Also : KeptPin → Pin → Type 0) → (kept : List KeptPin) (pins : List Pin) → ArePins Fits kept pins
    → ArePins Also kept pins
    → ArePins (λ (k : KeptPin) (pin : Pin). Fits k pin × Also k pin) kept pins
pins_both Fits Also [] [] are also = tt
pins_both Fits Also [] (pin ∷ pins) are also = are
pins_both Fits Also (k ∷ kept) [] are also = are
pins_both Fits Also (k ∷ kept) (pin ∷ pins) are also = ((are.0, also.0), pins_both Fits Also kept pins are.1 also.1)

module _ (s t : model.State) (opening : t.opening ≡ s.opening) (began : t.began ≡ s.began) (accepted : t.accepted ≡ s.accepted) where
  shown_same : (count : ℕ) → shown_at t count ≡ shown_at s count
  shown_same count j = record {
    sequence = sequence_after (began j) (take count (accepted j));
    contents = replayed (opening j) (take count (accepted j));
  }

  pin_alike : (kept : KeptPin) (pin : Pin) → IsKeptPin s kept pin → IsKeptPin t kept pin
  pin_alike kept pin is = record {
    number = is.number;
    sequence = is.sequence ∙ ap (λ (shown : Shown). shown.sequence) (sym (shown_same pin.batches));
    files = is.files;
    manifest = is.manifest;
    holder = is.holder;
    within = subst (λ (l : List (List Op)). pin.batches ≤ length l) (sym accepted) is.within;
    stands = subst (λ (shown : Shown). Stands (folder_of_pin kept.manifest pin.files) shown.contents shown.sequence)
        (sym (shown_same pin.batches)) is.stands;
  }

  -- what is kept of pins fits in each state with the same beginning and the same batches
  pub pins_alike : (kept : List KeptPin) (pins : List Pin) → ArePins (IsKeptPin s) kept pins → ArePins (IsKeptPin t) kept pins
  pins_alike = pins_fit (IsKeptPin s) (IsKeptPin t) pin_alike
