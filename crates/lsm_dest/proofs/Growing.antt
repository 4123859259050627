-- A folder grows: a file is made in it, filled and sealed.
use Rattle.std.specs.Prelude.{◌≡◌, ◌≢◌, ℕ, ◌<◌, ◌≤◌, cond, true, List, [], ◌∷◌, ◌++◌, length, take, slice_index_or, All, is_some, Option, Some, None}
use Rattle.std.proofs.Common.{⊎_elim, inr, refl, sym, ap, subst, ◌∙◌, arith, length-append}
use Rattle.std.proofs.lemmas.List.Elements.{All-nil, All-cons, All-head, All-tail, All-push, All-pop, All-weaker}
use Rattle.std.specs.FinMap as map
use Rattle.lsm_names.specs.FileNames.{spelled, IsFileName}
use Rattle.lsm_names.specs.declared.file_names.FileName.{FileName}
use Rattle.lsm_names.specs.declared.file_names.FileName.TheVariants.{Current}
use Rattle.lsm_disk.specs.Names.{Node, Folder_node, File_node, NameOp, Put, Names, named, all_named, stands, is_folder, is_folder_node}
use Rattle.lsm_disk.specs.State.{FileState, State, Change, Created, Named, Appended, Synced, Names_synced, Idle, after, names_now, new_file, longer, sure, bytes_of, appended, file_synced}
use Rattle.lsm_disk.specs.Goes.{Shows}
use Rattle.lsm_disk.specs.Kept.{IsFileNow, InFile}
use Rattle.lsm_disk.specs.Refusals.{no_room, no_room_in, no_file}
use Rattle.lsm_disk.specs.declared.calls.DiskError.TheVariants.{NotThere, Exists}
use Rattle.lsm_disk.specs.Dest.{Begun, with_name, path_in, IsPartName}
use Rattle.lsm_disk.specs.Building.{Part, names_of, sealed, IsWithin, LacksCurrent, HasNoCurrent, HoldsNames, IsSealed, IsSealedBeside, IsBuilding, IsWriting}
use Rattle.lsm_disk.proofs.Files.{get_before, get_other}
use Rattle.lsm_disk.proofs.Paths.{get_put_other}
use Rattle.lsm_disk.proofs.Images.{take_push, all_push}
use Rattle.lsm_disk.proofs.Named.{created_now, now_at, now_appended, now_synced, appends_in_now, syncs_in_now}
use Rattle.lsm_disk.proofs.Tree.{length_in}
use Rattle.lsm_disk.proofs.Built.{get_inside}
use Rattle.lsm_publish.proofs.Olds.{within}
use Rattle.lsm_dest.proofs.Places.{part_is_file, not_current, names_apart, rests_apart, not_the_folder, parent_is}

-- ---- lists of parts

pub all_names : (P : FileName → Type 0) (parts : List Part) → All P (names_of parts) → All (λ part. P part.name) parts
all_names P [] all = All-nil (λ (part : Part). P part.name)
all_names P (part ∷ parts) all = All-cons (λ (p : Part). P p.name) part parts (All-head P part.name (names_of parts) all) (all_names P parts (All-tail P part.name (names_of parts) all))

pub names_push : (parts : List Part) (part : Part) → names_of (parts ++ part ∷ []) ≡ names_of parts ++ part.name ∷ []
names_push [] part = refl
names_push (p ∷ parts) part = ap (λ (l : List FileName). p.name ∷ l) (names_push parts part)

-- ---- one file beside others

file_within : {s : State} {path : List ℕ} {id : ℕ} {f : FileState} → IsFileNow s path id f → (n : ℕ) → n ≡ length s.files → id ≢ n
file_within {s} {path} {id} {f} now n is same = let lt : id < length s.files = within s.files id f now.file in absurd (omega (arith, lt, same, is))

-- nothing refuses a call on a file that stands
pub file_there : (path : List ℕ) (id : ℕ) (f : FileState) (s : State) → IsFileNow s path id f → no_file path s ≡ None
file_there path id f s now = ap (λ (o : Option ℕ). cond (is_some o) None (Some NotThere)) (now_at s path id f now)

pub get_created : (s : State) (path p : List ℕ) → p ≢ path → map.get (names_now (after s (Created path))) p ≡ map.get (names_now s) p
get_created s path p ne =
    let node : Node = File_node (length s.files) in
    ap (λ (n : Names). map.get n p) (all_push s.pending (Put path node) s.durable) ∙ get_put_other (names_now s) p path node ne

now_created : (s : State) (path other : List ℕ) (id : ℕ) (f : FileState) → other ≢ path → IsFileNow s other id f → IsFileNow (after s (Created path)) other id f
now_created s path other id f ne now = record { named = get_created s path other ne ∙ now.named; file = get_before s.files (new_file ∷ []) id f now.file }

now_past : (s : State) (path : List ℕ) (other id : ℕ) (f : FileState) (c : Change) → InFile id c → other ≢ id → IsFileNow s path other f → IsFileNow (after s c) path other f
now_past s path other id f (Created p) is ne now = absurd is
now_past s path other id f (Named op) is ne now = absurd is
now_past s path other id f (Appended k bytes) is ne now = record { named = now.named; file = get_other (longer bytes) s.files other k (λ same. ne (same ∙ is)) ∙ now.file }
now_past s path other id f (Synced k) is ne now = record { named = now.named; file = get_other sure s.files other k (λ same. ne (same ∙ is)) ∙ now.file }
now_past s path other id f Names_synced is ne now = absurd is
now_past s path other id f Idle is ne now = now

pub in_file_within : (folder : List ℕ) (first id : ℕ) (c : Change) → InFile id c → first ≤ id → IsWithin folder first c
in_file_within folder first id (Created p) is le = absurd is
in_file_within folder first id (Named op) is le = absurd is
in_file_within folder first id (Appended k bytes) is le = omega (arith, is, le)
in_file_within folder first id (Synced k) is le = omega (arith, is, le)
in_file_within folder first id Names_synced is le = absurd is
in_file_within folder first id Idle is le = tt

-- ---- what the folder holds

pub folder_there : (names : Names) (folder : List ℕ) → map.get names folder ≡ Some Folder_node → is_folder names folder ≡ true
folder_there names [] is = refl
folder_there names (c ∷ folder) is = ap is_folder_node is

-- a free name in a folder that stands has room
pub room_in : (names : Names) (folder : List ℕ) (name : FileName) → IsFileName name → map.get names folder ≡ Some Folder_node → map.get names (path_in folder name) ≡ None → no_room_in names (path_in folder name) ≡ None
room_in names folder name is there free =
    let path = path_in folder name in
    ap (λ b. cond b (cond (is_some (stands names path)) (Some Exists) None) (Some NotThere)) (ap (is_folder names) (parent_is folder name is) ∙ folder_there names folder there)
    ∙ ap (λ (o : Option Node). cond (is_some o) (Some Exists) None) (sym (get_inside names folder (spelled name)) ∙ free)

module _ (start : State) (folder : List ℕ) where
  abbrev Lacks : Names → Type 0
  Lacks names = LacksCurrent start folder names

  abbrev Holds : List FileName → State → Type 0
  Holds names s = HoldsNames start folder names s

  pub holds_shows : (names : List FileName) (s : State) → Holds names s → Shows (HasNoCurrent start folder) s
  holds_shows names s h = record { each = λ t i. subst Lacks (sym i.names) (h.lacks i.kept) }

  -- a name that no part has is free
  pub other_free : (names : List FileName) (s : State) (name : FileName) → Holds names s → IsFileName name → ((other : FileName) → IsPartName other → name ≢ other) → map.get (names_now s) (path_in folder name) ≡ None
  other_free names s name h is apart = h.only (spelled name) (All-weaker IsPartName (λ other. spelled name ≢ spelled other) (λ other own. names_apart name other is (part_is_file other own) (apart other own)) names h.own)

  pub current_free : (names : List FileName) (s : State) → Holds names s → map.get (names_now s) (path_in folder Current) ≡ None
  current_free names s h = other_free names s Current h tt not_current

  -- a new name is free
  pub new_free : (names : List FileName) (s : State) (name : FileName) → Holds names s → IsPartName name → All (λ other. name ≢ other) names → map.get (names_now s) (path_in folder name) ≡ None
  new_free names s name h own new =
      h.only (spelled name) (λ k d lt. names_apart name (slice_index_or names k d) (part_is_file name own) (part_is_file (slice_index_or names k d) (h.own k d lt)) (new k d lt))

  lacks_op : (s : State) (op : NameOp) → ((k : ℕ) → Lacks (all_named (take k s.pending) s.durable)) → map.get (named op (names_now s)) (path_in folder Current) ≡ None → (k : ℕ) → Lacks (all_named (take k (s.pending ++ op ∷ [])) s.durable)
  lacks_op s op lacks free k = ⊎_elim
      (λ short. subst Lacks (sym (ap (λ (ops : List NameOp). all_named ops s.durable) short)) (lacks k))
      (λ long. inr (ap (λ (n : Names). map.get n (path_in folder Current)) (ap (λ (ops : List NameOp). all_named ops s.durable) long ∙ all_push s.pending op s.durable) ∙ free))
      (take_push k s.pending op)

  holds_created : (names : List FileName) (name : FileName) (s : State) → Holds names s → IsPartName name → Holds (names ++ name ∷ []) (after s (Created (path_in folder name)))
  holds_created names name s h own =
      let path : List ℕ = path_in folder name in
      let apart : path_in folder Current ≢ path = rests_apart folder (spelled Current) (spelled name) (names_apart Current name tt (part_is_file name own) (not_current name own)) in
      record {
        own = All-push IsPartName names name h.own own;
        later = omega (arith, h.later, length-append s.files (new_file ∷ []));
        stands = get_created s path folder (not_the_folder folder (spelled name)) ∙ h.stands;
        only = λ rest others.
            let split = All-pop (λ n. rest ≢ spelled n) (names ++ name ∷ []) names (Some name) refl others in
            get_created s path (folder ++ 47 ∷ rest) (rests_apart folder rest (spelled name) split.1) ∙ h.only rest split.0;
        lacks = lacks_op s (Put path (File_node (length s.files))) h.lacks (get_put_other (names_now s) (path_in folder Current) path (File_node (length s.files)) apart ∙ current_free names s h);
      }

  holds_past : (names : List FileName) (s : State) (id : ℕ) (c : Change) → InFile id c → Holds names s → Holds names (after s c)
  holds_past names s id (Created p) is h = absurd is
  holds_past names s id (Named op) is h = absurd is
  holds_past names s id (Appended k bytes) is h = record { own = h.own; later = omega (arith, h.later, length_in (longer bytes) k s.files); stands = h.stands; only = h.only; lacks = h.lacks }
  holds_past names s id (Synced k) is h = record { own = h.own; later = omega (arith, h.later, length_in sure k s.files); stands = h.stands; only = h.only; lacks = h.lacks }
  holds_past names s id Names_synced is h = absurd is
  holds_past names s id Idle is h = h

  part_created : (s : State) (path : List ℕ) (part : Part) → path_in folder part.name ≢ path → IsSealed start folder s part → IsSealedBeside start folder (after s (Created path)) (length s.files) part
  part_created s path part ne is = (record { id = is.id; later = is.later; file = now_created s path (path_in folder part.name) is.id (sealed part.bytes) ne is.file }, file_within is.file (length s.files) refl)

  part_past : (s : State) (id : ℕ) (c : Change) → InFile id c → (part : Part) → IsSealedBeside start folder s id part → IsSealedBeside start folder (after s c) id part
  part_past s id c in_file part is = (record { id = is.0.id; later = is.0.later; file = now_past s (path_in folder part.name) is.0.id id (sealed part.bytes) c in_file is.1 is.0.file }, is.1)

-- ---- each step

module _ (start : State) where
  pub building_shows : (begun : Begun) (parts : List Part) (s : State) → IsBuilding start begun parts s → Shows (HasNoCurrent start begun.folder) s
  building_shows begun parts s b = holds_shows start begun.folder begun.names s b.holds

  pub writing_shows : (begun : Begun) (parts : List Part) (name : FileName) (file : FileState) (s : State) → IsWriting start begun parts name file s → Shows (HasNoCurrent start begun.folder) s
  writing_shows begun parts name file s w = holds_shows start begun.folder begun.names s w.holds

  pub file_room : (begun : Begun) (parts : List Part) (name : FileName) (s : State) → IsPartName name → All (λ other. name ≢ other) begun.names → IsBuilding start begun parts s → no_room (path_in begun.folder name) s ≡ None
  file_room begun parts name s own new b = room_in (names_now s) begun.folder name (part_is_file name own) b.holds.stands (new_free start begun.folder begun.names s name b.holds own new)

  pub step_file : (begun : Begun) (parts : List Part) (name : FileName) (s : State) → IsPartName name → All (λ other. name ≢ other) begun.names → IsBuilding start begun parts s
      → IsWriting start (with_name name begun) parts name new_file (after s (Created (path_in begun.folder name)))
  step_file begun parts name s own new b =
      let folder : List ℕ = begun.folder in
      let fresh : All (λ (part : Part). name ≢ part.name) parts = all_names (λ other. name ≢ other) parts (subst (All (λ other. name ≢ other)) b.names new) in
      let owned : All (λ (part : Part). IsPartName part.name) parts = all_names IsPartName parts (subst (All IsPartName) b.names b.holds.own) in
      record {
        names = ap (λ (l : List FileName). l ++ name ∷ []) b.names;
        holds = holds_created start folder begun.names name s b.holds own;
        id = length s.files;
        later = b.holds.later;
        hand = created_now s (path_in folder name);
        each = λ k d lt.
            let part = slice_index_or parts k d in
            part_created start folder s (path_in folder name) part
            (rests_apart folder (spelled part.name) (spelled name) (names_apart part.name name (part_is_file part.name (owned k d lt)) (part_is_file name own) (λ same. fresh k d lt (sym same)))) (b.each k d lt);
      }

  module _ (begun : Begun) (parts : List Part) (name : FileName) where
    abbrev path : List ℕ
    path = path_in begun.folder name

    -- a change in the file in hand
    step_hand : (file new : FileState) (s : State) (c : Change) (w : IsWriting start begun parts name file s) → InFile w.id c → IsFileNow (after s c) path w.id new → IsWriting start begun parts name new (after s c)
    step_hand file new s c w in_file hand = record {
      names = w.names;
      holds = holds_past start begun.folder begun.names s w.id c in_file w.holds;
      id = w.id;
      later = w.later;
      hand = hand;
      each = All-weaker (IsSealedBeside start begun.folder s w.id) (IsSealedBeside start begun.folder (after s c) w.id) (λ part is. part_past start begun.folder s w.id c in_file part is) parts w.each;
    }

    pub hand_there : (file : FileState) (s : State) → IsWriting start begun parts name file s → no_file path s ≡ None
    hand_there file s w = file_there path w.id file s w.hand

    pub step_append : (file : FileState) (bytes : List ℕ) (s : State) → IsWriting start begun parts name file s → IsWriting start begun parts name (longer bytes file) (after s (appended path bytes s))
    step_append file bytes s w = step_hand file (longer bytes file) s (appended path bytes s) w (appends_in_now s path w.id file w.hand bytes) (now_appended s path w.id file w.hand bytes)

    pub kind_append : (file : FileState) (bytes : List ℕ) (s : State) → IsWriting start begun parts name file s → IsWithin begun.folder (length start.files) (appended path bytes s)
    kind_append file bytes s w = in_file_within begun.folder (length start.files) w.id (appended path bytes s) (appends_in_now s path w.id file w.hand bytes) w.later

    pub kind_sync : (file : FileState) (s : State) → IsWriting start begun parts name file s → IsWithin begun.folder (length start.files) (file_synced path s)
    kind_sync file s w = in_file_within begun.folder (length start.files) w.id (file_synced path s) (syncs_in_now s path w.id file w.hand) w.later

    pub step_seal : (file : FileState) (s : State) → IsWriting start begun parts name file s → IsBuilding start begun (parts ++ (record { name = name; bytes = bytes_of file }) ∷ []) (after s (file_synced path s))
    unfolding step_hand
    step_seal file s w =
        let part : Part = record { name = name; bytes = bytes_of file } in
        let now : State = after s (file_synced path s) in
        let done = step_hand file (sure file) s (file_synced path s) w (syncs_in_now s path w.id file w.hand) (now_synced s path w.id file w.hand) in
        record {
          names = w.names ∙ sym (names_push parts part);
          holds = done.holds;
          each = All-push (IsSealed start begun.folder now) parts part
              (All-weaker (IsSealedBeside start begun.folder now w.id) (IsSealed start begun.folder now) (λ p is. is.0) parts done.each)
              (record { id = w.id; later = w.later; file = now_synced s path w.id file w.hand });
        }
