-- What images read as, and those of a call that did nothing.
use Rattle.std.specs.Prelude.{◌⊎◌, [], Some}
use Rattle.std.proofs.Common.{refl, sym, inl}
use Rattle.std.proofs.lemmas.List.{append-nil}
use Rattle.lsm_disk.specs.State.{Story, State as DiskState, state_of}
use Rattle.lsm_disk.specs.Images.{Tree, IsImage}
use Rattle.lsm_disk.specs.Goes.{GoesOn}
use Rattle.lsm_model.specs.declared.states.State.{State}
use Rattle.lsm_refine.specs.Kept.{Shown}
use Rattle.lsm_refine.specs.Folders.{StandsFrom, FoldersRead}
use Rattle.lsm_refine.specs.Good.{Good}
use Rattle.lsm_refine.specs.Moments.{ReadsAsCrashed, ImagesShow}
use Rattle.lsm_refine.proofs.CrashLemmas.{front_reads, image_reads}

-- with no change the story goes on as it is
pub stays : (story : Story) (P : DiskState → Tree → Type 0) → ((t : Tree) → IsImage (state_of story) t → P (state_of story) t)
    → GoesOn story story (λ c. Unit {0}) P
stays story P each = record {
  more = [];
  grows = λ i. record { start = story.start; log = sym (append-nil story.log) i };
  kind = tt;
  along = record { each = each };
}

-- the state in an image that stands for such a front
pub crash_reads : (d : DiskState) (s : State) (t : Tree) → IsImage d t → FoldersRead d s → StandsFrom s s.durable t → ReadsAsCrashed s t
crash_reads d s t i are front = let is = front_reads d s t i are front in record { left = is.0; crashed = is.1; reads = is.2 }

pub reads_crashed : (v : Shown) (s : State) (good : Good v s) (t : Tree) → IsImage (state_of good.story) t → ReadsAsCrashed s t
reads_crashed v s good t i = let is = image_reads v s good t i in record { left = is.0; crashed = is.1; reads = is.2 }

pub nothing_done : (v : Shown) (s t : State) (good : Good v s) → ImagesShow good.story (Some good.story) s t
nothing_done v s t good = record {
  story = good.story;
  tells = refl;
  goes = stays good.story (λ d tree. ReadsAsCrashed s tree ⊎ ReadsAsCrashed t tree) (λ tree i. inl (reads_crashed v s good tree i));
  now = tt;
}
