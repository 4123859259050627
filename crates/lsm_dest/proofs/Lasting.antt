-- What of the folder outlives a crash while `CURRENT` is written and takes its name.
use Rattle.std.specs.Prelude.{◌≡◌, ◌≢◌, ◌⊎◌, ℕ, ◌+◌, ◌≤◌, ◌<◌, cond, List, [], ◌∷◌, ◌++◌, length, take, slice_index_or, All, Option, Some, None}
use Rattle.std.proofs.Common.{⊎_elim, inl, inr, refl, sym, ap, subst, ◌∙◌, arith, length-append}
use Rattle.std.proofs.lemmas.List.{take_all}
use Rattle.std.proofs.lemmas.List.Elements.{All-cons, All-head, All-tail, All-weaker}
use Rattle.std.specs.FinMap as map
use Rattle.std.specs.Cmp.Lexicographic.{nat_list_cmp_total}
use Rattle.lsm_names.specs.FileNames.{spelled}
use Rattle.lsm_names.specs.declared.file_names.FileName.{FileName}
use Rattle.lsm_names.specs.declared.file_names.FileName.TheVariants.{Current}
use Rattle.lsm_disk.specs.Names.{Node, Folder_node, File_node, NameOp, Put, Gone, Moved, Names, named, renamed, all_named, is_in, id_of}
use Rattle.lsm_disk.specs.State.{State, Change, Created, Named, Appended, Synced, Names_synced, Idle, after, names_now, new_file, longer, sure, where_new, names_synced}
use Rattle.lsm_disk.specs.Images.{Tree, IsImage, bytes_at, bytes_by}
use Rattle.lsm_disk.specs.Goes.{Shows}
use Rattle.lsm_disk.specs.Kept.{IsKeptName, Spares, SparesName}
use Rattle.lsm_disk.specs.Refusals.{no_room}
use Rattle.lsm_disk.specs.Dest.{Begun, IsPartName, path_in, temporary}
use Rattle.lsm_disk.specs.Building.{Part, names_of, with_current, sealed, IsWithin, LacksCurrent, HasPart, IsWhole, HasNoneOrAll, IsSealed, IsBuilding, IsKeptPart, IsBuilt}
use Rattle.lsm_disk.proofs.Cuts.{take_none}
use Rattle.lsm_disk.proofs.Paths.{path_cases, path_itself, get_put_other, get_gone_other}
use Rattle.lsm_disk.proofs.Images.{take_push, all_push, after_names_synced}
use Rattle.lsm_disk.proofs.Named.{name_now, name_image, name_spared, now_kept}
use Rattle.lsm_disk.proofs.Kept.{kept_spared, kept_file_now}
use Rattle.lsm_disk.proofs.Now.{names_after}
use Rattle.lsm_disk.proofs.Tree.{length_in}
use Rattle.lsm_publish.specs.Publishing.{IsPublished, Writes, Switches}
use Rattle.lsm_publish.proofs.Olds.{within}
use Rattle.lsm_dest.proofs.Places.{part_is_file, temporary_is_file, not_current, not_temporary, names_apart, rests_apart, not_the_folder, inside_folder}
use Rattle.lsm_dest.proofs.Growing.{all_names, room_in}
use Rattle.lsm_disk.proofs.Built.{part_image}

-- ---- a sync of names

pub name_synced : (s : State) (path : List ℕ) (node : Option Node) → map.get (names_now s) path ≡ node → IsKeptName (after s (names_synced s)) path node
name_synced s path node is =
    subst (λ (x : State). IsKeptName x path node) (sym (after_names_synced s))
    (λ k. ap (λ (ops : List NameOp). map.get (all_named ops (names_now s)) path) (take_none k) ∙ is)

pub names_within : (folder : List ℕ) (first : ℕ) (s : State) → IsWithin folder first (names_synced s)
names_within folder first s = of_pending s.pending where
  of_pending : (ops : List NameOp) → IsWithin folder first (where_new ops Names_synced)
  of_pending [] = tt
  of_pending (op ∷ ops) = tt

module _ (folder : List ℕ) where
  abbrev temporary_path : List ℕ
  temporary_path = path_in folder temporary

  abbrev current_path : List ℕ
  current_path = path_in folder Current

  pub current_apart : current_path ≢ temporary_path
  current_apart = rests_apart folder (spelled Current) (spelled temporary) (names_apart Current temporary tt temporary_is_file (λ same. cc))

  part_apart : (name : FileName) → IsPartName name → path_in folder name ≢ temporary_path
  part_apart name own = rests_apart folder (spelled name) (spelled temporary) (names_apart name temporary (part_is_file name own) temporary_is_file (λ same. not_temporary name own (sym same)))

  part_not_current : (name : FileName) → IsPartName name → path_in folder name ≢ current_path
  part_not_current name own = rests_apart folder (spelled name) (spelled Current) (names_apart name Current (part_is_file name own) tt (λ same. not_current name own (sym same)))

  -- no part has the name of `CURRENT`, or the temporary one
  no_part_current : (names : List FileName) → All IsPartName names → All (λ name. spelled Current ≢ spelled name) names
  no_part_current names own = All-weaker IsPartName (λ name. spelled Current ≢ spelled name) (λ name is. names_apart Current name tt (part_is_file name is) (not_current name is)) names own

  no_part_temporary : (names : List FileName) → All IsPartName names → All (λ name. spelled temporary ≢ spelled name) names
  no_part_temporary names own = All-weaker IsPartName (λ name. spelled temporary ≢ spelled name) (λ name is. names_apart temporary name temporary_is_file (part_is_file name is) (not_temporary name is)) names own

  -- ---- the parts, for good

  -- the part outlives a crash, and its file was made since the folder was begun
  pub record IsLastingPart (start s : State) (part : Part) : Type 0 where
    pub kept : IsKeptPart folder s part
    pub later : length start.files ≤ kept.id

  lasting_spared : (start s : State) (part : Part) (c : Change) (is : IsLastingPart start s part) → Spares (path_in folder part.name) is.kept.id c → IsLastingPart start (after s c) part
  lasting_spared start s part c is spares = record { kept = record { id = is.kept.id; file = kept_spared s (path_in folder part.name) is.kept.id (sealed part.bytes) is.kept.file c spares }; later = is.later }

  -- The folder has the parts, and nothing else but perhaps what the temporary name has.
  pub record IsLasting (start : State) (parts : List Part) (s : State) : Type 0 where
    pub own : All IsPartName (names_of parts)
    pub later : length start.files ≤ length s.files
    pub stands : IsKeptName s folder (Some Folder_node)
    pub each : All (IsLastingPart start s) parts
    pub only : (rest : List ℕ) → rest ≢ spelled temporary → All (λ name. rest ≢ spelled name) (names_of parts) → IsKeptName s (folder ++ 47 ∷ rest) None

  pub lasting_free : (start : State) (parts : List Part) (s : State) → IsLasting start parts s → IsKeptName s current_path None
  lasting_free start parts s l = l.only (spelled Current) (names_apart Current temporary tt temporary_is_file (λ same. cc)) (no_part_current (names_of parts) l.own)

  pub lasting_shows : (start : State) (parts whole : List Part) (s : State) → IsLasting start parts s → Shows (HasNoneOrAll start folder whole) s
  lasting_shows start parts whole s l = record { each = λ t i. inl (inr (name_image s current_path None (lasting_free start parts s l) t i)) }

  -- where the temporary name is free, the folder has the parts alone
  pub lasting_building : (start : State) (names : List FileName) (parts : List Part) (s : State) → names ≡ names_of parts → IsLasting start parts s → map.get (names_now s) temporary_path ≡ None → IsBuilding start (record { folder = folder; names = names }) parts s
  lasting_building start names parts s is l free = record {
    names = is;
    holds = record {
      own = subst (All IsPartName) (sym is) l.own;
      later = l.later;
      stands = name_now s folder (Some Folder_node) l.stands;
      only = λ rest others. ⊎_elim
          (λ same. ap (λ (r : List ℕ). map.get (names_now s) (folder ++ 47 ∷ r)) same ∙ free)
          (λ apart. name_now s (folder ++ 47 ∷ rest) None (l.only rest apart (subst (All (λ name. rest ≢ spelled name)) is others)))
          (path_cases rest (spelled temporary));
      lacks = λ k. inr (lasting_free start parts s l k);
    };
    each = All-weaker (IsLastingPart start s) (IsSealed start folder s)
        (λ part lasts. record { id = lasts.kept.id; later = lasts.later; file = kept_file_now s (path_in folder part.name) lasts.kept.id (sealed part.bytes) lasts.kept.file }) parts l.each;
  }

  abbrev gone : NameOp
  gone = Gone temporary_path

  lasting_unnamed : (start : State) (parts : List Part) (s : State) → IsLasting start parts s → IsLasting start parts (after s (Named gone))
  lasting_unnamed start parts s l =
      let owned : All (λ (part : Part). IsPartName part.name) parts = all_names IsPartName parts l.own in
      record {
        own = l.own;
        later = l.later;
        stands = name_spared s folder (Some Folder_node) l.stands (Named gone) (not_the_folder folder (spelled temporary));
        each = λ k d lt. let part = slice_index_or parts k d in lasting_spared start s part (Named gone) (l.each k d lt) (part_apart part.name (owned k d lt));
        only = λ rest apart others. name_spared s (folder ++ 47 ∷ rest) None (l.only rest apart others) (Named gone) (rests_apart folder rest (spelled temporary) apart);
      }

  unnamed_free : (s : State) → map.get (names_now (after s (Named gone))) temporary_path ≡ None
  unnamed_free s =
      ap (λ (n : Names). map.get n temporary_path) (names_after s gone)
      ∙ map.get-remove nat_list_cmp_total (names_now s) temporary_path temporary_path ∙ ap (λ b. cond b None (map.get (names_now s) temporary_path)) (path_itself temporary_path)

  -- where the temporary name is taken away, the folder has the parts alone
  pub lasting_cleared : (start : State) (names : List FileName) (parts : List Part) (s : State) → names ≡ names_of parts → IsLasting start parts s → IsBuilding start (record { folder = folder; names = names }) parts (after s (Named gone))
  lasting_cleared start names parts s is l = lasting_building start names parts (after s (Named gone)) is (lasting_unnamed start parts s l) (unnamed_free s)

  -- ---- the folder without `CURRENT`, durable

  pub record IsDurable (start : State) (parts : List Part) (s : State) : Type 0 where
    pub lasts : IsLasting start parts s
    pub free : IsKeptName s temporary_path None

  pub durable_free : (start : State) (parts : List Part) (s : State) → IsDurable start parts s → IsKeptName s current_path None
  durable_free start parts s d = lasting_free start parts s d.lasts

  pub durable_shows : (start : State) (parts whole : List Part) (s : State) → IsDurable start parts s → Shows (HasNoneOrAll start folder whole) s
  durable_shows start parts whole s d = lasting_shows start parts whole s d.lasts

  -- the temporary name has room
  pub durable_room : (start : State) (parts : List Part) (s : State) → IsDurable start parts s → no_room temporary_path s ≡ None
  durable_room start parts s d =
      room_in (names_now s) folder temporary temporary_is_file (name_now s folder (Some Folder_node) d.lasts.stands) (name_now s temporary_path None d.free)

  -- ---- while the temporary file is written

  -- The parts are other files than the temporary one, and nothing else is inside. As long as that file isn't made, its name is free.
  pub record IsFirm (start : State) (parts : List Part) (id : ℕ) (s : State) : Type 0 where
    pub lasts : IsLasting start parts s
    pub apart : All (λ part. (is : IsLastingPart start s part) × (is.kept.id ≢ id)) parts
    pub next : ((id ≡ length s.files) × IsKeptName s temporary_path None) ⊎ (id < length s.files)

  pub durable_firm : (start : State) (parts : List Part) (s : State) → IsDurable start parts s → IsFirm start parts (length s.files) s
  durable_firm start parts s d = record {
    lasts = d.lasts;
    apart = All-weaker (IsLastingPart start s) (λ part. (is : IsLastingPart start s part) × (is.kept.id ≢ length s.files))
        (λ part is. (is, λ same. let lt : is.kept.id < length s.files = within s.files is.kept.id (sealed part.bytes) is.kept.file.file in absurd (omega (arith, lt, same)))) parts d.lasts.each;
    next = inl (refl, d.free);
  }

  writes_spare_name : (path : List ℕ) (id : ℕ) (c : Change) → Writes temporary_path id c → path ≢ temporary_path → SparesName path c
  writes_spare_name path id (Created other) is ne = λ same. ne (same ∙ is)
  writes_spare_name path id (Named op) is ne = absurd is
  writes_spare_name path id (Appended k bytes) is ne = tt
  writes_spare_name path id (Synced k) is ne = tt
  writes_spare_name path id Names_synced is ne = tt
  writes_spare_name path id Idle is ne = tt

  writes_spare : (path : List ℕ) (other id : ℕ) (c : Change) → Writes temporary_path id c → path ≢ temporary_path → other ≢ id → Spares path other c
  writes_spare path other id (Created p) is ne apart = λ same. ne (same ∙ is)
  writes_spare path other id (Named op) is ne apart = absurd is
  writes_spare path other id (Appended k bytes) is ne apart = λ same. apart (same ∙ is)
  writes_spare path other id (Synced k) is ne apart = λ same. apart (same ∙ is)
  writes_spare path other id Names_synced is ne apart = tt
  writes_spare path other id Idle is ne apart = tt

  next_kept : (id : ℕ) (s : State) (c : Change) → Writes temporary_path id c → ((id ≡ length s.files) × IsKeptName s temporary_path None) ⊎ (id < length s.files)
      → ((id ≡ length (after s c).files) × IsKeptName (after s c) temporary_path None) ⊎ (id < length (after s c).files)
  next_kept id s (Created other) is next =
      let one : length (s.files ++ new_file ∷ []) ≡ length s.files + 1 = length-append s.files (new_file ∷ []) in
      inr (⊎_elim (λ first. omega (arith, one, first.0)) (λ made. omega (arith, one, made)) next)
  next_kept id s (Named op) is next = absurd is
  next_kept id s (Appended k bytes) is next = ⊎_elim (λ first. inl (omega (arith, first.0, length_in (longer bytes) k s.files), first.1)) (λ made. inr (omega (arith, made, length_in (longer bytes) k s.files))) next
  next_kept id s (Synced k) is next = ⊎_elim (λ first. inl (omega (arith, first.0, length_in sure k s.files), first.1)) (λ made. inr (omega (arith, made, length_in sure k s.files))) next
  next_kept id s Names_synced is next = ⊎_elim (λ first. inl (first.0, name_spared s temporary_path None first.1 Names_synced tt)) (λ made. inr made) next
  next_kept id s Idle is next = next

  writes_grow : (n id : ℕ) (s : State) (c : Change) → Writes temporary_path id c → n ≤ length s.files → n ≤ length (after s c).files
  writes_grow n id s (Created other) is le = omega (arith, le, length-append s.files (new_file ∷ []))
  writes_grow n id s (Named op) is le = absurd is
  writes_grow n id s (Appended k bytes) is le = omega (arith, le, length_in (longer bytes) k s.files)
  writes_grow n id s (Synced k) is le = omega (arith, le, length_in sure k s.files)
  writes_grow n id s Names_synced is le = le
  writes_grow n id s Idle is le = le

  pub firm_kept : (start : State) (parts : List Part) (id : ℕ) (s : State) (c : Change) → Writes temporary_path id c → IsFirm start parts id s → IsFirm start parts id (after s c)
  unfolding lasting_spared
  firm_kept start parts id s c writes f =
      let owned : All (λ (part : Part). IsPartName part.name) parts = all_names IsPartName parts f.lasts.own in
      let apart : All (λ part. (is : IsLastingPart start (after s c) part) × (is.kept.id ≢ id)) parts = λ k d lt.
      let part = slice_index_or parts k d in
      let is = f.apart k d lt in
      (lasting_spared start s part c is.0 (writes_spare (path_in folder part.name) is.0.kept.id id c writes (part_apart part.name (owned k d lt)) is.1), is.1) in
      record {
        lasts = record {
          own = f.lasts.own;
          later = writes_grow (length start.files) id s c writes f.lasts.later;
          stands = name_spared s folder (Some Folder_node) f.lasts.stands c (writes_spare_name folder id c writes (not_the_folder folder (spelled temporary)));
          each = All-weaker (λ part. (is : IsLastingPart start (after s c) part) × (is.kept.id ≢ id)) (IsLastingPart start (after s c)) (λ part is. is.0) parts apart;
          only = λ rest apart others. name_spared s (folder ++ 47 ∷ rest) None (f.lasts.only rest apart others) c (writes_spare_name (folder ++ 47 ∷ rest) id c writes (rests_apart folder rest (spelled temporary) apart));
        };
        apart = apart;
        next = next_kept id s c writes f.next;
      }

  -- where no file was made, the temporary name is free
  pub firm_free : (start : State) (parts : List Part) (id : ℕ) (s : State) → IsFirm start parts id s → length s.files ≡ id → map.get (names_now s) temporary_path ≡ None
  firm_free start parts id s f same = ⊎_elim (λ first. name_now s temporary_path None first.1) (λ made. absurd (omega (arith, made, same))) f.next

  pub writes_within : (first id : ℕ) (c : Change) → first ≤ id → Writes temporary_path id c → IsWithin folder first c
  writes_within first id (Created other) le is = ap (is_in folder) is ∙ inside_folder folder (spelled temporary)
  writes_within first id (Named op) le is = absurd is
  writes_within first id (Appended k bytes) le is = omega (arith, le, is)
  writes_within first id (Synced k) le is = omega (arith, le, is)
  writes_within first id Names_synced le is = tt
  writes_within first id Idle le is = tt

  -- ---- while the temporary file takes its name

  -- the temporary name, if it has something, has a file
  abbrev pub NoneOrFile : Names → Type 0
  NoneOrFile names = (map.get names temporary_path ≡ None) ⊎ ((id : ℕ) × (map.get names temporary_path ≡ Some (File_node id)))

  -- the temporary name is there or `CURRENT` is, and not both
  abbrev pub NotBoth : Names → Type 0
  NotBoth names = (map.get names temporary_path ≡ None) ⊎ (map.get names current_path ≡ None)

  pub record IsSwitchable (start : State) (parts : List Part) (s : State) : Type 0 where
    pub own : All IsPartName (names_of parts)
    pub later : length start.files ≤ length s.files
    pub stands : IsKeptName s folder (Some Folder_node)
    pub each : All (IsLastingPart start s) parts
    pub only : (rest : List ℕ) → rest ≢ spelled temporary → rest ≢ spelled Current → All (λ name. rest ≢ spelled name) (names_of parts) → IsKeptName s (folder ++ 47 ∷ rest) None
    pub one : (k : ℕ) → NotBoth (all_named (take k s.pending) s.durable)
    pub file : NoneOrFile (names_now s)

  pub firm_switchable : (start : State) (parts : List Part) (id : ℕ) (s : State) → IsFirm start parts id s → IsKeptName s current_path None → map.get (names_now s) temporary_path ≡ Some (File_node id) → IsSwitchable start parts s
  firm_switchable start parts id s f free leads = record {
    own = f.lasts.own;
    later = f.lasts.later;
    stands = f.lasts.stands;
    each = f.lasts.each;
    only = λ rest apart current others. f.lasts.only rest apart others;
    one = λ k. inr (free k);
    file = inr (id, leads);
  }

  -- where `CURRENT` has not its name, nothing else was added
  pub switchable_lasting : (start : State) (parts : List Part) (s : State) → IsSwitchable start parts s → IsKeptName s current_path None → IsLasting start parts s
  switchable_lasting start parts s w free = record {
    own = w.own;
    later = w.later;
    stands = w.stands;
    each = w.each;
    only = λ rest apart others. ⊎_elim
        (λ same. subst (λ (r : List ℕ). IsKeptName s (folder ++ 47 ∷ r) None) (sym same) free)
        (λ current. w.only rest apart current others)
        (path_cases rest (spelled Current));
  }

  abbrev move : NameOp
  move = Moved temporary_path current_path

  moved_other : (names : Names) (path : List ℕ) → NoneOrFile names → path ≢ temporary_path → path ≢ current_path → map.get (named move names) path ≡ map.get names path
  moved_other names path (inl none) apart current = ap (λ (o : Option Node). map.get (renamed temporary_path current_path o names) path) none
  moved_other names path (inr file) apart current =
      ap (λ (o : Option Node). map.get (renamed temporary_path current_path o names) path) file.1
      ∙ get_put_other (map.remove names temporary_path) path current_path (File_node file.0) current ∙ get_gone_other names path temporary_path apart

  moved_away : (names : Names) → NoneOrFile names → map.get (named move names) temporary_path ≡ None
  moved_away names (inl none) = ap (λ (o : Option Node). map.get (renamed temporary_path current_path o names) temporary_path) none ∙ none
  moved_away names (inr file) =
      ap (λ (o : Option Node). map.get (renamed temporary_path current_path o names) temporary_path) file.1
      ∙ get_put_other (map.remove names temporary_path) temporary_path current_path (File_node file.0) (λ same. current_apart (sym same))
      ∙ map.get-remove nat_list_cmp_total names temporary_path temporary_path ∙ ap (λ b. cond b None (map.get names temporary_path)) (path_itself temporary_path)

  name_moved : (s : State) (path : List ℕ) (node : Option Node) → NoneOrFile (names_now s) → path ≢ temporary_path → path ≢ current_path → IsKeptName s path node → IsKeptName (after s (Named move)) path node
  name_moved s path node file apart current kept k = ⊎_elim
      (λ short. ap (λ (ops : List NameOp). map.get (all_named ops s.durable) path) short ∙ kept k)
      (λ long.
      ap (λ (n : Names). map.get n path) (ap (λ (ops : List NameOp). all_named ops s.durable) long ∙ all_push s.pending move s.durable)
      ∙ moved_other (names_now s) path file apart current ∙ name_now s path node kept)
      (take_push k s.pending move)

  switchable_moved : (start : State) (parts : List Part) (s : State) → IsSwitchable start parts s → IsSwitchable start parts (after s (Named move))
  switchable_moved start parts s w =
      let owned : All (λ (part : Part). IsPartName part.name) parts = all_names IsPartName parts w.own in
      record {
        own = w.own;
        later = w.later;
        stands = name_moved s folder (Some Folder_node) w.file (not_the_folder folder (spelled temporary)) (not_the_folder folder (spelled Current)) w.stands;
        each = λ k d lt.
            let part = slice_index_or parts k d in
            let is = w.each k d lt in
            record {
              kept = record {
                id = is.kept.id;
                file = record {
                  named = name_moved s (path_in folder part.name) (Some (File_node is.kept.id)) w.file (part_apart part.name (owned k d lt)) (part_not_current part.name (owned k d lt)) is.kept.file.named;
                  file = is.kept.file.file;
                };
              };
              later = is.later;
            };
        only = λ rest apart current others. name_moved s (folder ++ 47 ∷ rest) None w.file (rests_apart folder rest (spelled temporary) apart) (rests_apart folder rest (spelled Current) current) (w.only rest apart current others);
        one = λ k. ⊎_elim
            (λ short. subst NotBoth (sym (ap (λ (ops : List NameOp). all_named ops s.durable) short)) (w.one k))
            (λ long. inl (ap (λ (n : Names). map.get n temporary_path) (ap (λ (ops : List NameOp). all_named ops s.durable) long ∙ all_push s.pending move s.durable) ∙ moved_away (names_now s) w.file))
            (take_push k s.pending move);
        file = inl (ap (λ (n : Names). map.get n temporary_path) (names_after s move) ∙ moved_away (names_now s) w.file);
      }

  switchable_synced : (start : State) (parts : List Part) (s : State) → IsSwitchable start parts s → IsSwitchable start parts (after s Names_synced)
  switchable_synced start parts s w = record {
    own = w.own;
    later = w.later;
    stands = name_spared s folder (Some Folder_node) w.stands Names_synced tt;
    each = All-weaker (IsLastingPart start s) (IsLastingPart start (after s Names_synced)) (λ part is. lasting_spared start s part Names_synced is tt) parts w.each;
    only = λ rest apart current others. name_spared s (folder ++ 47 ∷ rest) None (w.only rest apart current others) Names_synced tt;
    one = λ k. subst NotBoth
        (ap (λ (ops : List NameOp). all_named ops s.durable) (take_all (length s.pending) s.pending (omega arith)) ∙ sym (ap (λ (ops : List NameOp). all_named ops (names_now s)) (take_none k)))
        (w.one (length s.pending));
    file = w.file;
  }

  move_kept : (start : State) (parts : List Part) (s : State) (from to : List ℕ) → from ≡ temporary_path → to ≡ current_path → IsSwitchable start parts s → IsSwitchable start parts (after s (Named (Moved from to)))
  move_kept start parts s from to from_is to_is w =
      subst (λ (f : List ℕ). IsSwitchable start parts (after s (Named (Moved f to)))) (sym from_is)
      (subst (λ (t : List ℕ). IsSwitchable start parts (after s (Named (Moved temporary_path t)))) (sym to_is) (switchable_moved start parts s w))

  pub switchable_kept : (start : State) (parts : List Part) (s : State) (c : Change) → Switches temporary_path current_path c → IsSwitchable start parts s → IsSwitchable start parts (after s c)
  switchable_kept start parts s (Created other) is w = absurd is
  switchable_kept start parts s (Named (Put path node)) is w = absurd is
  switchable_kept start parts s (Named (Gone path)) is w = absurd is
  switchable_kept start parts s (Named (Moved from to)) is w = move_kept start parts s from to is.0 is.1 w
  switchable_kept start parts s (Appended k bytes) is w = absurd is
  switchable_kept start parts s (Synced k) is w = absurd is
  switchable_kept start parts s Names_synced is w = switchable_synced start parts s w
  switchable_kept start parts s Idle is w = w

  pub switches_within : (first : ℕ) (c : Change) → Switches temporary_path current_path c → IsWithin folder first c
  switches_within first (Created other) is = absurd is
  switches_within first (Named (Put path node)) is = absurd is
  switches_within first (Named (Gone path)) is = absurd is
  switches_within first (Named (Moved from to)) is = (ap (is_in folder) is.0 ∙ inside_folder folder (spelled temporary), ap (is_in folder) is.1 ∙ inside_folder folder (spelled Current))
  switches_within first (Appended k bytes) is = absurd is
  switches_within first (Synced k) is = absurd is
  switches_within first Names_synced is = tt
  switches_within first Idle is = tt

  -- ---- the folder whole

  -- what stands in the way of a third name
  clash_current : (names : Names) (id : ℕ) → map.get names current_path ≡ Some (File_node id) → map.get names current_path ≡ None → ⊥
  clash_current names id is none = let clash : None ≡ Some (File_node id) = sym none ∙ is in cc

  pub switched_built : (start : State) (parts : List Part) (bytes : List ℕ) (id : ℕ) (s : State) → IsSwitchable start parts s → IsPublished current_path id bytes s → IsBuilt folder (with_current bytes parts) s
  switched_built start parts bytes id s w published = record {
    stands = w.stands;
    each = All-cons (IsKeptPart folder s) (record { name = Current; bytes = bytes }) parts (record { id = id; file = published }) (All-weaker (IsLastingPart start s) (IsKeptPart folder s) (λ part lasts. lasts.kept) parts w.each);
    only = λ rest others.
        let current = All-head (λ name. rest ≢ spelled name) Current (names_of parts) others in
        let parts_apart = All-tail (λ name. rest ≢ spelled name) Current (names_of parts) others in
        ⊎_elim
        (λ same k. ap (λ (r : List ℕ). map.get (all_named (take k s.pending) s.durable) (folder ++ 47 ∷ r)) same
        ∙ ⊎_elim (λ gone. gone) (λ none. absurd (clash_current (all_named (take k s.pending) s.durable) id (published.named k) none)) (w.one k))
        (λ apart. w.only rest apart current parts_apart)
        (path_cases rest (spelled temporary));
  }

  -- where `CURRENT` is in an image, the image has all
  current_there : (t : Tree) (bytes : List ℕ) → bytes_at t current_path ≡ Some bytes → map.get t.names current_path ≡ None → ⊥
  current_there t bytes is none = let clash : None ≡ Some bytes = sym (ap (λ (o : Option Node). bytes_by (id_of o) t) none) ∙ is in cc

  pub switched_whole : (start : State) (parts : List Part) (bytes : List ℕ) (s : State) (t : Tree) → IsSwitchable start parts s → IsImage s t → bytes_at t current_path ≡ Some bytes → IsWhole folder (with_current bytes parts) t
  switched_whole start parts bytes s t w i is = record {
    stands = name_image s folder (Some Folder_node) w.stands t i;
    each = All-cons (HasPart folder t) (record { name = Current; bytes = bytes }) parts is (All-weaker (IsLastingPart start s) (HasPart folder t) (λ part lasts. part_image s folder t part i lasts.kept) parts w.each);
    only = λ rest others.
        let current = All-head (λ name. rest ≢ spelled name) Current (names_of parts) others in
        let parts_apart = All-tail (λ name. rest ≢ spelled name) Current (names_of parts) others in
        ⊎_elim
        (λ same. ap (λ (r : List ℕ). map.get t.names (folder ++ 47 ∷ r)) same ∙ ⊎_elim (λ gone. gone) (λ none. absurd (current_there t bytes is none)) (subst NotBoth (sym i.names) (w.one i.kept)))
        (λ apart. name_image s (folder ++ 47 ∷ rest) None (w.only rest apart current parts_apart) t i)
        (path_cases rest (spelled temporary));
  }

-- ---- from what was built

pub building_durable : (start : State) (begun : Begun) (parts : List Part) (s : State) → IsBuilding start begun parts s → IsDurable begun.folder start parts (after s (names_synced s))
building_durable start begun parts s b =
    let folder : List ℕ = begun.folder in
    let now : State = after s (names_synced s) in
    let own : All IsPartName (names_of parts) = subst (All IsPartName) b.names b.holds.own in
    let only : (rest : List ℕ) → All (λ name. rest ≢ spelled name) (names_of parts) → IsKeptName now (folder ++ 47 ∷ rest) None = λ rest others.
    name_synced s (folder ++ 47 ∷ rest) None (b.holds.only rest (subst (All (λ name. rest ≢ spelled name)) (sym b.names) others)) in
    record {
      lasts = record {
        own = own;
        later = subst (λ (x : State). length start.files ≤ length x.files) (sym (after_names_synced s)) b.holds.later;
        stands = name_synced s folder (Some Folder_node) b.holds.stands;
        each = λ k d lt.
            let part = slice_index_or parts k d in
            let is = b.each k d lt in
            record { kept = record { id = is.id; file = now_kept s (path_in folder part.name) is.id (sealed part.bytes) is.file }; later = is.later };
        only = λ rest apart others. only rest others;
      };
      free = only (spelled temporary) (no_part_temporary folder (names_of parts) own);
    }

pub building_none : (start : State) (begun : Begun) (parts whole : List Part) (s : State) → IsBuilding start begun parts s → Shows (HasNoneOrAll start begun.folder whole) s
building_none start begun parts whole s b = record { each = λ t i. inl (subst (LacksCurrent start begun.folder) (sym i.names) (b.holds.lacks i.kept)) }
