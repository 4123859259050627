-- The parts of an opening of a folder that stands make the whole of it.
use Rattle.std.specs.Prelude.{◌≡◌, ◌≢◌, ℕ, ◌+◌, true, List, [], ◌∷◌, length, All, Contains, Option, Some, None}
use Rattle.std.proofs.Common.{inr, refl, sym, subst, ◌∙◌, arith}
use Rattle.std.proofs.lemmas.List.Elements.{All-nil, All-cons, All-head, All-contains_itself}
use Rattle.lsm_names.specs.Folders.{is_folder_name}
use Rattle.lsm_names.specs.FileNames.{IsFileName}
use Rattle.lsm_names.specs.declared.file_names.FileName.{FileName}
use Rattle.lsm_names.specs.declared.file_names.FileName.TheVariants.{Log, Table, Manifest, Temp, Current}
use Rattle.lsm_disk.specs.Names.{Folder_node, File_node}
use Rattle.lsm_disk.specs.State as disk
use Rattle.lsm_disk.specs.State.{Created, Names_synced, after, names_now, new_file}
use Rattle.lsm_disk.specs.Kept.{IsFileNow, OpSpares}
use Rattle.lsm_disk.specs.Dest.{path_in}
use Rattle.lsm_disk.proofs.Images.{after_names_synced}
use Rattle.lsm_disk.proofs.Named.{created_now}
use Rattle.lsm_wal.specs.Making.{with_made}
use Rattle.lsm_folder.specs.Manifests.{last_after}
use Rattle.lsm_refine.specs.Beside.{LeadToFiles, ChangesAt, MakesAt}
use Rattle.lsm_refine.specs.Among.{ChangesAmong, switched_names}
use Rattle.lsm_refine.specs.Folders.{ChangesInside}
use Rattle.lsm_refine.specs.Naming.{HasReplaced}
use Rattle.lsm_refine.specs.FoundFolder.{NewTable, Recovery, TakesRows, IsPlanned, HasNewTable, HasSwitched, HasRecovered, new_manifest, new_log, table_names, opening_names, opening_edits}
use Rattle.lsm_refine.proofs.AmongLemmas.{among_both, among_at, among_more, whole_among}
use Rattle.lsm_refine.proofs.ChangeLemmas.{at_cut, made_alone, names_synced_at, whole_stays}
use Rattle.lsm_refine.proofs.FlushedLemmas.{all_left, all_right}
use Rattle.lsm_refine.proofs.NewFileLemmas.{synced_cut, makes_none, makes_more}
use Rattle.lsm_refine.proofs.OtherFileLemmas.{name_apart}
use Rattle.lsm_refine.proofs.OutsideLemmas.{change_inside, inside_both}
use Rattle.lsm_refine.proofs.RecoveredRows.{lesser_number, next_least}
use Rattle.lsm_refine.proofs.RecoveredStores.{settled_name}
use Rattle.lsm_refine.proofs.SwitchedLemmas.{name_elsewhere}

-- ---- a sync of names

-- it changes nothing at any name
pub names_synced_among : (dir : List ℕ) (names : List FileName) (d : disk.State)
    → ChangesAmong dir names d (after d Names_synced)
names_synced_among dir names d = record {
  now = λ other elsewhere. refl;
  cuts = λ k. inr (λ other elsewhere. synced_cut d k other);
  files = λ other id f elsewhere is. record { named = is.named; file = is.file };
  alone = λ other elsewhere is. record {
    only = λ id k another at leads. is.only id (length d.pending) another at
        (at_cut d another (Some (File_node id)) (sym (synced_cut d k another) ∙ leads));
  };
  quiet = λ other outside is. All-nil (OpSpares other);
  fewer = omega arith;
  no_folder = λ other never k is. never (length d.pending)
      (at_cut d other (Some Folder_node) (sym (synced_cut d k other) ∙ is));
}

pub names_synced_inside : (dir : List ℕ) (d : disk.State) → ChangesInside dir d (after d Names_synced)
names_synced_inside dir d =
    change_inside dir d Names_synced (record { names = λ folder ok other. tt; files = λ folder file ok other is. tt }) tt

-- ---- the parts

module _ (dir : List ℕ) (named : is_folder_name dir ≡ true) (r : Recovery) (planned : IsPlanned r) where
  abbrev m : ℕ
  m = new_manifest r

  abbrev l : ℕ
  l = new_log r

  abbrev names : List FileName
  names = opening_names r

  abbrev rest : List FileName
  rest = Manifest m ∷ Temp m ∷ Current ∷ Log l ∷ []

  among : All (Contains (opening_names r)) (opening_names r)
  among = All-contains_itself (opening_names r)

  tables_among : All (Contains (opening_names r)) (table_names r.table)
  tables_among = all_left (Contains (opening_names r)) (table_names r.table) rest among

  switched_among : All (Contains (opening_names r)) (switched_names (new_manifest r) (new_manifest r))
  switched_among = all_left (Contains (opening_names r)) (switched_names m m) (Log l ∷ [])
      (all_right (Contains (opening_names r)) (table_names r.table) rest among)

  log_among : Contains (opening_names r) (Log (new_log r))
  log_among = All-head (Contains (opening_names r)) (Log l) []
      (all_right (Contains (opening_names r)) (switched_names m m) (Log l ∷ [])
      (all_right (Contains (opening_names r)) (table_names r.table) rest among))

  manifest_fits : IsFileName (Manifest m)
  manifest_fits = lesser_number m l planned.fits (omega (arith, planned.some, next_least r.table r.next)) (omega arith)

  switched_fit : All IsFileName (switched_names (new_manifest r) (new_manifest r))
  switched_fit =
      All-cons IsFileName (Manifest m) (Temp m ∷ Current ∷ []) manifest_fits
      (All-cons IsFileName (Temp m) (Current ∷ []) manifest_fits (All-cons IsFileName Current [] tt (All-nil IsFileName)))

  numbered : (o : Option NewTable) → r.table ≡ o → (new : NewTable) → o ≡ Some new → IsFileName (Table new.info.number)
  numbered None at new is = absurd (cc)
  numbered (Some some) at new is = number_of (subst (TakesRows (last_after r.edits + 1) r.batches r.next) at planned.takes)
    where
      same_table : (a b : NewTable) → Some a ≡ Some b → a ≡ b
      same_table a b same = cc

      number_of : TakesRows (last_after r.edits + 1) r.batches r.next (Some some) → IsFileName (Table new.info.number)
      number_of takes = subst (λ (t : NewTable). IsFileName (Table t.info.number)) (same_table some new is)
          (lesser_number some.info.number l planned.fits (omega (arith, planned.some, takes.0))
          (omega (arith, takes.0, next_least r.table r.next)))

  -- the table's number is a file's
  table_fits : (new : NewTable) → r.table ≡ Some new → IsFileName (Table new.info.number)
  table_fits = numbered r.table refl

  -- the table is written, and then the new manifest takes the place
  module _ (d mid later : disk.State) (one : ChangesAmong dir (table_names r.table) d mid)
      (one_inside : ChangesInside dir d mid)
      (table : HasNewTable mid dir r.table)
      (two : ChangesAmong dir (switched_names (new_manifest r) (new_manifest r)) mid later)
      (two_inside : ChangesInside dir mid later)
      (replaced : HasReplaced later dir (new_manifest r) (opening_edits r)) where
    table_stays : (o : Option NewTable) → ((new : NewTable) → o ≡ Some new → IsFileName (Table new.info.number))
        → HasNewTable mid dir o → HasNewTable later dir o
    table_stays None fits is = tt
    table_stays (Some new) fits is = record {
      bytes = is.bytes;
      file = whole_among dir (switched_names m m) mid later two (path_in dir (Table new.info.number))
          (name_elsewhere dir named (switched_names m m) switched_fit mid later two (Table new.info.number) (fits new refl)
          (All-cons (λ (n : FileName). Table new.info.number ≢ n) (Manifest m) (Temp m ∷ Current ∷ []) (λ same. cc)
          (All-cons (λ (n : FileName). Table new.info.number ≢ n) (Temp m) (Current ∷ []) (λ same. cc)
          (All-cons (λ (n : FileName). Table new.info.number ≢ n) Current [] (λ same. cc)
          (All-nil (λ (n : FileName). Table new.info.number ≢ n)))))) is.bytes is.file;
      table = is.table;
      size = is.size;
    }

    pub has_switched : HasSwitched d later dir r
    has_switched = record {
      among = among_both dir (opening_names r) d mid later
          (among_more dir (opening_names r) (table_names r.table) tables_among d mid one)
          (among_more dir (opening_names r) (switched_names m m) switched_among mid later two);
      inside = inside_both dir d mid later one_inside two_inside;
      table = table_stays r.table table_fits table;
      replaced = replaced;
    }

  -- and then the empty log is made
  module _ (d mid : disk.State) (switched : HasSwitched d mid dir r) (lead : LeadToFiles mid) where
    abbrev path : List ℕ
    path = path_in dir (Log l)

    abbrev created : disk.State
    created = after mid (Created path)

    abbrev made : disk.State
    made = after created Names_synced

    makes : MakesAt dir (Log l) mid made
    makes = makes_more dir (Log l) named planned.fits mid created
        (makes_more dir (Log l) named planned.fits mid mid (makes_none dir (Log l) named planned.fits mid lead) (Created path)
        refl)
        Names_synced tt

    at : ChangesAt path mid made
    at = makes.at

    apart : (name : FileName) → IsFileName name → name ≢ Log l → path_in dir name ≢ path_in dir (Log l)
    apart = name_apart dir (Log l) named planned.fits

    log_now : IsFileNow created path (length mid.files) new_file
    log_now = created_now mid path

    table_made : (o : Option NewTable) → ((new : NewTable) → o ≡ Some new → IsFileName (Table new.info.number))
        → HasNewTable mid dir o → HasNewTable made dir o
    table_made None fits is = tt
    table_made (Some new) fits is = record {
      bytes = is.bytes;
      file = whole_stays path mid made at (path_in dir (Table new.info.number))
          (apart (Table new.info.number) (fits new refl) (λ same. cc)) is.bytes is.file;
      table = is.table;
      size = is.size;
    }

    recovered_made : HasRecovered d made dir r
    recovered_made = record {
      among = among_both dir (opening_names r) d mid made switched.among
          (among_at dir (opening_names r) (Log l) log_among mid made at);
      inside = inside_both dir d mid made switched.inside makes.inside;
      table = table_made r.table table_fits switched.table;
      replaced = record {
        current = whole_stays path mid made at (path_in dir Current) (apart Current tt (λ same. cc)) _
            switched.replaced.current;
        manifest = whole_stays path mid made at (path_in dir (Manifest m)) (apart (Manifest m) manifest_fits (λ same. cc)) _
            switched.replaced.manifest;
        alone = at.alone (path_in dir (Manifest m)) switched.replaced.alone;
        gone = at.now (path_in dir (Temp m)) (apart (Temp m) manifest_fits (λ same. cc)) ∙ switched.replaced.gone;
        quiet = refl;
      };
      log = record {
        id = length mid.files;
        file = record {
          named = settled_name made path (Some (File_node (length mid.files))) refl log_now.named;
          file = log_now.file;
        };
      };
      alone = (names_synced_at path created).alone path (made_alone path mid lead);
    }

    pub has_recovered : (later : disk.State) → later ≡ with_made (path_in dir (Log (new_log r))) mid
        → HasRecovered d later dir r
    has_recovered later same = subst (λ (x : disk.State). HasRecovered d x dir r) (sym (same ∙ after_names_synced created))
        recovered_made
