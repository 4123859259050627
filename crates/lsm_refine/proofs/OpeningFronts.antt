-- Where a disk without pending operations changes at a few names of a folder, an image has all else as one from before.
use Rattle.std.specs.Prelude.{◌≡◌, ◌≢◌, ◌⊎◌, ℕ, zero, suc, ◌≤◌, ◌<◌, List, [], ◌∷◌, length, slice_get, unwrap_or, option_map, Option, Some, None}
use Rattle.std.proofs.Common.{inl, inr, refl, sym, ap, subst, ◌∙◌, arith}
use Rattle.std.specs.FinMap as finmap
use Rattle.lsm_names.specs.declared.file_names.FileName.{FileName}
use Rattle.lsm_disk.specs.Names.{Node, Folder_node, File_node, Names, id_of}
use Rattle.lsm_disk.specs.State.{FileState, State, bytes_of, names_now}
use Rattle.lsm_disk.specs.Images.{Tree, IsImage, IsCut, AreCut, bytes_by, bytes_at}
use Rattle.lsm_disk.proofs.Cuts.{cut_none}
use Rattle.lsm_disk.proofs.Files.{same_some}
use Rattle.lsm_disk.proofs.Images.{reads_image}
use Rattle.lsm_disk.proofs.Paths.{path_cases}
use Rattle.lsm_folder.specs.Files.{A_file, item_of, item_at}
use Rattle.lsm_refine.specs.Beside.{LeadToFiles}
use Rattle.lsm_refine.specs.Among.{IsElsewhere, ChangesAmong}
use Rattle.lsm_refine.proofs.AmongLemmas.{cut_among}
use Rattle.lsm_refine.proofs.ChangeLemmas.{at_cut}
use Rattle.lsm_refine.proofs.NewStoreLemmas.{settled_kept}

-- ---- a cut of files, as far as they are those of before

same_file : (f g : FileState) → (f ≡ g) ⊎ (f ≢ g)
same_file f g = by (path_cases f.synced g.synced) (path_cases f.unsynced g.unsynced)
  where
    by : (f.synced ≡ g.synced) ⊎ (f.synced ≢ g.synced) → (f.unsynced ≡ g.unsynced) ⊎ (f.unsynced ≢ g.unsynced)
        → (f ≡ g) ⊎ (f ≢ g)
    by (inl one) (inl two) = inl (λ i. record { synced = one i; unsynced = two i })
    by (inl one) (inr two) = inr (λ same. two (ap (λ (h : FileState). h.unsynced) same))
    by (inr one) any = inr (λ same. one (ap (λ (h : FileState). h.synced) same))

-- a cut of the earlier files that has, of each file that is as it was, what the later cut has
pub record HasFront (before later : List FileState) (held : List (List ℕ)) : Type 0 where
  pub front : List (List ℕ)
  pub cut : AreCut before front
  pub same : (k : ℕ) (f : FileState) → slice_get before k ≡ Some f → slice_get later k ≡ Some f
      → slice_get held k ≡ slice_get front k

pub front_of : (before later : List FileState) (held : List (List ℕ)) → length before ≤ length later → AreCut later held
    → HasFront before later held
front_of [] later held few cut = record { front = []; cut = tt; same = λ k f is. absurd (cc) }
front_of (f ∷ before) [] held few cut = absurd (omega (arith, few))
front_of (f ∷ before) (g ∷ later) [] few cut = absurd cut
front_of (f ∷ before) (g ∷ later) (b ∷ held) few cut =
    by (same_file f g) (front_of before later held (omega (arith, few)) cut.1)
  where
    by : (f ≡ g) ⊎ (f ≢ g) → HasFront before later held → HasFront (f ∷ before) (g ∷ later) (b ∷ held)
    by (inl is) rest = record {
      front = b ∷ rest.front;
      cut = (subst (λ (h : FileState). IsCut h b) (sym is) cut.0, rest.cut);
      same = so;
    }
      where
        so : (k : ℕ) (h : FileState) → slice_get (f ∷ before) k ≡ Some h → slice_get (g ∷ later) k ≡ Some h
            → slice_get (b ∷ held) k ≡ slice_get (b ∷ rest.front) k
        so zero h one two = refl
        so (suc k) h one two = rest.same k h one two
    by (inr differs) rest = record { front = bytes_of f ∷ rest.front; cut = (cut_none f, rest.cut); same = so }
      where
        so : (k : ℕ) (h : FileState) → slice_get (f ∷ before) k ≡ Some h → slice_get (g ∷ later) k ≡ Some h
            → slice_get (b ∷ held) k ≡ slice_get (bytes_of f ∷ rest.front) k
        so zero h one two = absurd (differs (same_some f h one ∙ sym (same_some g h two)))
        so (suc k) h one two = rest.same k h one two

-- a file of a number that was made
made_file : (fs : List FileState) (id : ℕ) → id < length fs → (f : FileState) × (slice_get fs id ≡ Some f)
made_file [] id less = absurd (omega (arith, less))
made_file (f ∷ fs) zero less = (f, refl)
made_file (f ∷ fs) (suc id) less = made_file fs id (omega (arith, less))

-- ---- the image

-- the second tree has, but for these names of the folder, what the first one has
pub record IsAlikeBut (dir : List ℕ) (names : List FileName) (t u : Tree) : Type 0 where
  pub node : (other : List ℕ) → IsElsewhere dir names other → finmap.get u.names other ≡ finmap.get t.names other
  pub item : (other : List ℕ) → IsElsewhere dir names other → item_at u other ≡ item_at t other
  pub bytes : (other : List ℕ) → IsElsewhere dir names other → bytes_at u other ≡ bytes_at t other

module _ (dir : List ℕ) (names : List FileName) (d later : State) (quiet : d.pending ≡ []) (lead : LeadToFiles d)
    (at : ChangesAmong dir names d later) (u : Tree) (image : IsImage later u) where
  pub front : HasFront d.files later.files u.contents
  front = front_of d.files later.files u.contents at.fewer image.files

  abbrev pub image_before : Tree
  image_before = record { names = names_now d; contents = front.front }

  pub before_image : IsImage d image_before
  before_image = record { kept = (reads_image d).kept; names = (reads_image d).names; files = front.cut }

  module _ (other : List ℕ) (elsewhere : IsElsewhere dir names other) where
    node_same : finmap.get u.names other ≡ finmap.get (names_now d) other
    node_same =
        let was = cut_among dir names d later at other elsewhere image.kept in
        ap (λ (left : Names). finmap.get left other) image.names ∙ was.1
        ∙ settled_kept d quiet other (finmap.get (names_now d) other) refl was.0

    held_same : (id : ℕ) → finmap.get (names_now d) other ≡ Some (File_node id)
        → slice_get u.contents id ≡ slice_get image_before.contents id
    held_same id leads =
        let less : id < length d.files =
        (lead (length d.pending)).made other id (at_cut d other (Some (File_node id)) leads) in
        let file = made_file d.files id less in
        front.same id file.0 file.1
        (at.files other id file.0 elsewhere (record { named = leads; file = file.1 })).file

    item_by : (node : Option Node) → finmap.get (names_now d) other ≡ node
        → option_map (item_of u.contents) node ≡ option_map (item_of image_before.contents) node
    item_by None leads = refl
    item_by (Some Folder_node) leads = refl
    item_by (Some (File_node id)) leads =
        ap (λ (o : Option (List ℕ)). Some (A_file (unwrap_or o []))) (held_same id leads)

    item_same : item_at u other ≡ item_at image_before other
    item_same = ap (option_map (item_of u.contents)) node_same ∙ item_by (finmap.get (names_now d) other) refl

    bytes_by_node : (node : Option Node) → finmap.get (names_now d) other ≡ node
        → bytes_by (id_of node) u ≡ bytes_by (id_of node) image_before
    bytes_by_node None leads = refl
    bytes_by_node (Some Folder_node) leads = refl
    bytes_by_node (Some (File_node id)) leads = held_same id leads

    bytes_same : bytes_at u other ≡ bytes_at image_before other
    bytes_same = ap (λ (node : Option Node). bytes_by (id_of node) u) node_same
        ∙ bytes_by_node (finmap.get (names_now d) other) refl

  pub alike_but : IsAlikeBut dir names image_before u
  alike_but = record { node = node_same; item = item_same; bytes = bytes_same }
