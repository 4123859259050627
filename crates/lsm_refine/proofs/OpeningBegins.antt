-- The beginning of an opening: the disk as it was found, and syncs, which bring no image that wasn't there.
use Rattle.std.specs.Prelude.{◌≡◌, ℕ, zero, suc, true, List, [], ◌∷◌, slice_get, length, Option, Some, None}
use Rattle.std.proofs.Common.{refl, sym, ap, subst, ◌∙◌}
use Rattle.lsm_names.specs.Folders.{is_folder_name}
use Rattle.lsm_names.specs.declared.file_names.FileName.TheVariants.{Table}
use Rattle.lsm_disk.specs.State as disk
use Rattle.lsm_disk.specs.State.{FileState, Synced, Names_synced, Idle, after, file_at, file_or, file_by, file_now, in_file, in_found, where_new, sure, names_synced, synced_by, file_synced}
use Rattle.lsm_disk.specs.Images.{Tree, IsImage, tree_now}
use Rattle.lsm_disk.specs.Dest.{path_in}
use Rattle.lsm_disk.proofs.Images.{reads_image, names_synced_image, after_names_synced, synced_image}
use Rattle.lsm_folder.specs.Files.{files_in}
use Rattle.lsm_folder.specs.Needed.{edits_at}
use Rattle.lsm_model.specs.declared.states.State.{State}
use Rattle.lsm_refine.specs.Sane.{TablesAreSynced}
use Rattle.lsm_refine.specs.Pins.{AreClearable}
use Rattle.lsm_refine.specs.Beside.{cut_names, LeadToFiles}
use Rattle.lsm_refine.specs.Folders.{FoldersAre}
use Rattle.lsm_refine.specs.Openings.{Holds, As_store, As_fresh, HasOnlyFiles, HoldsFrom, IsClearable, IsFound, IsAsBefore, Same, Still_fresh}
use Rattle.lsm_refine.specs.OpeningImages.{KeepsFolder, IsAtRest}
use Rattle.lsm_refine.proofs.FoundLemmas.{clear_image}
use Rattle.lsm_refine.proofs.OutsideLemmas.{sure_contents}
use Rattle.lsm_refine.proofs.TableSyncs.{files_image}

-- ---- the disk as it was found

module _ (d : disk.State) (s : State) (found : IsFound d s) where
  as_it_was : (t : Tree) (count : ℕ) → Holds s t count → IsAsBefore s.own t t
  as_it_was t count (As_store stands) =
      Same _ _ (record { folder = stands.folder; stands = stands.stands })
      (record { folder = stands.folder; stands = stands.stands })
  as_it_was t count (As_fresh fresh none) = Still_fresh fresh fresh

  own_kept : KeepsFolder s.own d d
  own_kept = record {
    each = λ t image. record {
      one = t;
      of = image;
      own = as_it_was t (found.images t image).count (found.images t image).holds;
      files = λ only. only;
      other = t;
      also = image;
      outside = record { names = λ name fits other. refl; items = λ name file fits other is. refl };
      clear = clear_image d found.clear t image;
    };
  }

pub found_kept : (d : disk.State) (s : State) (dir : List ℕ) → is_folder_name dir ≡ true → s.own ≡ dir → IsFound d s
    → KeepsFolder dir d d
found_kept d s dir named own found = subst (λ (p : List ℕ). KeepsFolder p d d) own (own_kept d s found)

-- where all names are synced, it is at rest
pub found_rest : (d : disk.State) (s : State) (dir : List ℕ) → s.own ≡ dir → IsFound d s → d.pending ≡ [] → LeadToFiles d
    → IsAtRest dir d × TablesAreSynced d dir
found_rest d s dir own found quiet lead = (
  record {
    quiet = quiet;
    lead = lead;
    files = files_image d dir (λ t image. subst (λ (p : List ℕ). HasOnlyFiles p t.names) own (found.images t image).files);
    clear = found.clear;
  },
  subst (TablesAreSynced d) own found.synced,
)

-- ---- images that a sync leaves

pub names_image : (d : disk.State) (t : Tree) → IsImage (after d (names_synced d)) t → IsImage d t
names_image d t image = names_synced_image d t (subst (λ (e : disk.State). IsImage e t) (after_names_synced d) image)

pub file_image : (path : List ℕ) (d : disk.State) (t : Tree) → IsImage (after d (file_synced path d)) t → IsImage d t
file_image path d t image = by (file_at d path) (file_by (file_at d path) d).unsynced image
  where
    by : (o : Option ℕ) (unsynced : List ℕ) → IsImage (after d (where_new unsynced (in_found o Synced))) t → IsImage d t
    by o [] is = is
    by None (b ∷ bs) is = is
    by (Some id) (b ∷ bs) is = synced_image d id t is

module _ (dir : List ℕ) (d later next : disk.State) (kept : KeepsFolder dir d later)
    (was : (t : Tree) → IsImage next t → IsImage later t) where
  fewer_kept : KeepsFolder dir d next
  fewer_kept = record { each = λ t image. kept.each t (was t image) }

pub names_kept : (dir : List ℕ) (d later : disk.State) → KeepsFolder dir d later
    → KeepsFolder dir d (after later (names_synced later))
names_kept dir d later kept = fewer_kept dir d later (after later (names_synced later)) kept (names_image later)

pub file_kept : (dir path : List ℕ) (d later : disk.State) → KeepsFolder dir d later
    → KeepsFolder dir d (after later (file_synced path later))
file_kept dir path d later kept = fewer_kept dir d later (after later (file_synced path later)) kept (file_image path later)

-- ---- what was found is found still

-- a checkpoint may be built where it may in each image
pub image_clear : (d : disk.State) → ((t : Tree) → IsImage d t → IsClearable t.names) → AreClearable d
image_clear d each = record {
  no_file = λ dir k id named is. (each (cut k) (cut_is k)).no_file dir id named is;
  no_folder = λ dir rest k named is. (each (cut k) (cut_is k)).no_folder dir rest named is;
}
  where
    cut : ℕ → Tree
    cut k = record { names = cut_names d k; contents = (tree_now d).contents }

    cut_is : (k : ℕ) → IsImage d (cut k)
    cut_is k = record { kept = k; names = refl; files = (reads_image d).files }

module _ (d later : disk.State) (s : State) (found : IsFound d s) (same : tree_now later ≡ tree_now d)
    (was : (t : Tree) → IsImage later t → IsImage d t) (synced : TablesAreSynced later s.own) where
  found_still : IsFound later s
  found_still = record {
    now = subst (HoldsFrom s (length s.accepted)) (sym same) found.now;
    images = λ t image. found.images t (was t image);
    synced = synced;
    folders = record {
      now = subst (FoldersAre s.own s.folders) (sym same) found.folders.now;
      sure = λ name folder listed marked.
          let is = found.folders.sure name folder listed marked in
          record {
            there = λ t image. is.there t (was t image);
            reads = λ t image. is.reads t (was t image);
          };
    };
    clear = image_clear later (λ t image. clear_image d found.clear t (was t image));
  }

pub names_found : (d : disk.State) (s : State) → IsFound d s → IsFound (after d (names_synced d)) s
names_found d s found = subst (λ (e : disk.State). IsFound e s) (sym (after_names_synced d))
    (found_still d (after d Names_synced) s found refl (names_synced_image d)
    (λ edits number placed said listed. by (file_at d (path_in s.own (Table number)))
    (found.synced edits number placed said listed)))
  where
    by : (o : Option ℕ) → (file_by o d).unsynced ≡ [] → (file_by o (after d Names_synced)).unsynced ≡ []
    by None is = refl
    by (Some id) is = is

-- a synced file is so behind the sync of another
sure_still : (fs : List FileState) (id k : ℕ) → (file_or (slice_get fs k)).unsynced ≡ []
    → (file_or (slice_get (in_file sure id fs) k)).unsynced ≡ []
sure_still [] id k is = is
sure_still (f ∷ fs) zero zero is = refl
sure_still (f ∷ fs) zero (suc k) is = is
sure_still (f ∷ fs) (suc id) zero is = is
sure_still (f ∷ fs) (suc id) (suc k) is = sure_still fs id k is

module _ (d : disk.State) (id : ℕ) where
  same_tree : tree_now (after d (Synced id)) ≡ tree_now d
  same_tree = λ i. record { names = (tree_now d).names; contents = sure_contents d.files id i }

  synced_now : (path : List ℕ) → (file_now path d).unsynced ≡ [] → (file_now path (after d (Synced id))).unsynced ≡ []
  synced_now path is = by (file_at d path) is
    where
      by : (o : Option ℕ) → (file_by o d).unsynced ≡ [] → (file_by o (after d (Synced id))).unsynced ≡ []
      by None is = refl
      by (Some k) is = sure_still d.files id k is

pub file_found : (path : List ℕ) (d : disk.State) (s : State) → IsFound d s → IsFound (after d (file_synced path d)) s
file_found path d s found = by (file_at d path) (file_by (file_at d path) d).unsynced
  where
    by : (o : Option ℕ) (unsynced : List ℕ) → IsFound (after d (where_new unsynced (in_found o Synced))) s
    by o [] = found
    by None (b ∷ bs) = found
    by (Some id) (b ∷ bs) = found_still d (after d (Synced id)) s found (same_tree d id) (synced_image d id)
        (λ edits number placed said listed. synced_now d id (path_in s.own (Table number))
        (found.synced edits number placed (ap (λ (t : Tree). edits_at (files_in s.own t)) (sym (same_tree d id)) ∙ said)
        listed))
