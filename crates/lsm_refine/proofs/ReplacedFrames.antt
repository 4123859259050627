-- While a new manifest is made and CURRENT comes to name it, nothing else changes.
use Rattle.std.specs.Prelude.{◌≡◌, ◌≢◌, ◌⊎◌, ℕ, ◌<◌, ◌≤◌, true, false, List, [], ◌∷◌, ◌++◌, drop, length, All, Contains, Option, Some, None}
use Rattle.std.proofs.Common.{⊎_elim, inl, inr, refl, sym, ap, subst, ◌∙◌, arith, append_assoc}
use Rattle.std.proofs.lemmas.List.{append_cancel_left}
use Rattle.std.proofs.lemmas.List.Elements.{All-nil, All-cons, All-weaker, All-push, All-contains, Contains-get_or}
use Rattle.std.specs.FinMap as finmap
use Rattle.lsm_names.specs.Folders.{is_folder_name}
use Rattle.lsm_names.specs.FileNames.{IsFileName, spelled}
use Rattle.lsm_names.specs.declared.file_names.FileName.{FileName}
use Rattle.lsm_names.specs.declared.file_names.FileName.TheVariants.{Manifest, Temp, Current}
use Rattle.lsm_names.proofs.FileNameLemmas.{spelled_is_component}
use Rattle.lsm_names.proofs.FolderLemmas.{folder_is_component}
use Rattle.lsm_disk.specs.Names.{Node, Folder_node, File_node, NameOp, Names, Put, Gone, Moved, named, renamed, all_named, id_of, under}
use Rattle.lsm_disk.specs.State.{FileState, State, Story, Change, Created, Named, Appended, Synced, Names_synced, Idle, after, state_of, names_now, longer, sure, in_file}
use Rattle.lsm_disk.specs.Images.{Tree, IsImage}
use Rattle.lsm_disk.specs.Kept.{OpSpares}
use Rattle.lsm_disk.specs.Goes.{Went}
use Rattle.lsm_disk.specs.Dest.{path_in}
use Rattle.lsm_disk.proofs.Cuts.{take_none}
use Rattle.lsm_disk.proofs.Images.{take_push, all_push}
use Rattle.lsm_disk.proofs.Moves.{under_is}
use Rattle.lsm_disk.proofs.Paths.{path_cases, get_put, get_put_other, get_gone_other, under_tail}
use Rattle.lsm_disk.proofs.Lawful.{get_gone}
use Rattle.lsm_disk.proofs.Runs.{went_kept}
use Rattle.lsm_disk.proofs.Tree.{length_in}
use Rattle.lsm_disk.proofs.Files.{get_other}
use Rattle.lsm_refine.specs.Sane.{AreFiles}
use Rattle.lsm_refine.specs.Folders.{ChangesInside, SparesOutside}
use Rattle.lsm_refine.specs.Beside.{cut_names, LeadToFiles}
use Rattle.lsm_refine.specs.Among.{IsElsewhere, ChangesAmong, switched_names}
use Rattle.lsm_refine.specs.Naming.{Replaces, ReplacesAt}
use Rattle.lsm_refine.proofs.AmongLemmas.{among_none, among_both, among_at, among_renamed, cut_among}
use Rattle.lsm_refine.proofs.ChangeLemmas.{at_cut, names_synced_at, made_at, made_lead}
use Rattle.lsm_refine.proofs.OtherFileLemmas.{flat, name_apart}
use Rattle.lsm_refine.proofs.FolderDisks.{has_slash, slash_inside}
use Rattle.lsm_refine.proofs.OutsideLemmas.{same_folder, append_inside, change_inside, inside_both, created_spares}
use Rattle.lsm_refine.proofs.WithinStores.{IsInside, inside_is, first_slash}

-- ---- paths that aren't inside one another

off_is : (folder path : List ℕ) → (IsInside folder path → ⊥) → under folder path ≡ None
off_is folder path never = by (under folder path) refl
  where
    by : (o : Option (List ℕ)) → under folder path ≡ o → o ≡ None
    by None is = refl
    by (Some rest) is = absurd
        (never (inside_is folder path rest (under_is folder path rest is) (under_tail folder path rest is)))

module _ (dir : List ℕ) (is_folder : is_folder_name dir ≡ true) (file : FileName) (fits : IsFileName file) where
  abbrev path : List ℕ
  path = path_in dir file

  -- another file of the folder
  pub file_off : (other : FileName) → IsFileName other → other ≢ file → under (path_in dir file) (path_in dir other) ≡ None
  file_off other is differs = off_is path (path_in dir other) (λ place. ⊎_elim
      (name_apart dir file is_folder fits other is differs)
      (λ deep.
      let text : spelled other ≡ spelled file ++ 47 ∷ deep.0 =
      ap (λ (l : List ℕ). drop 1 l) (append_cancel_left dir (47 ∷ spelled other) (47 ∷ spelled file ++ 47 ∷ deep.0)
      (deep.1 ∙ append_assoc dir (47 ∷ spelled file) (47 ∷ deep.0))) in
      let clash : false ≡ true = sym (flat (spelled other) (spelled_is_component other is)) ∙ ap has_slash text
      ∙ slash_inside (spelled file) deep.0 in
      cc)
      place.is)

  -- a name in the root
  root_off : (name : List ℕ) → is_folder_name name ≡ true → name ≢ dir → under (path_in dir file) name ≡ None
  root_off name named differs = off_is path name (λ place. ⊎_elim
      ((created_spares dir file is_folder fits).names name named differs)
      (λ deep.
      let clash : false ≡ true = sym (flat name (folder_is_component name named)) ∙ ap has_slash deep.1
      ∙ slash_inside path deep.0 in cc)
      place.is)

  -- what is inside another folder
  inside_off : (name : List ℕ) (other : FileName) → is_folder_name name ≡ true → name ≢ dir → IsFileName other
      → under (path_in dir file) (path_in name other) ≡ None
  inside_off name other named differs is = off_is path (path_in name other) (λ place. ⊎_elim
      (λ same. differs (same_folder name dir other file is fits same))
      (λ deep. differs (first_slash name dir (spelled other) (spelled file ++ 47 ∷ deep.0)
      (flat name (folder_is_component name named)) (flat dir (folder_is_component dir is_folder))
      (deep.1 ∙ append_assoc dir (47 ∷ spelled file) (47 ∷ deep.0))))
      place.is)

-- ---- one change

module _ (dir : List ℕ) (is_folder : is_folder_name dir ≡ true) (number : ℕ) (manifest_fits : IsFileName (Manifest number))
    (temp_fits : IsFileName (Temp number)) (d : State) (lead_d : LeadToFiles d) (files : AreFiles d dir) where
  abbrev names : List FileName
  names = switched_names number number

  abbrev first : ℕ
  first = length d.files

  abbrev temp : List ℕ
  temp = path_in dir (Temp number)

  abbrev current : List ℕ
  current = path_in dir Current

  manifest_among : Contains names (Manifest number)
  manifest_among = Contains-get_or names 0 Current (omega arith)

  temp_among : Contains names (Temp number)
  temp_among = Contains-get_or names 1 Current (omega arith)

  current_among : Contains names Current
  current_among = Contains-get_or names 2 Current (omega arith)

  all_fit : All IsFileName names
  all_fit = All-cons IsFileName (Manifest number) (Temp number ∷ Current ∷ []) manifest_fits
      (All-cons IsFileName (Temp number) (Current ∷ []) temp_fits (All-cons IsFileName Current [] tt (All-nil IsFileName)))

  module _ (x : State) (is : ReplacesAt dir number d x) where
    -- what another name leads to was there before
    old_file : (other : List ℕ) → IsElsewhere dir names other → (k id : ℕ)
        → finmap.get (cut_names x k) other ≡ Some (File_node id) → id < first
    old_file other elsewhere k id leads =
        let was = cut_among dir names d x is.among other elsewhere k in
        (lead_d was.0).made other id (sym was.1 ∙ leads)

    folder_elsewhere : (name : List ℕ) (file : FileName) → is_folder_name name ≡ true → name ≢ dir → IsFileName file
        → IsElsewhere dir names (path_in name file)
    folder_elsewhere name file named differs fits = All-weaker IsFileName (λ (m : FileName). path_in name file ≢ path_in dir m)
        (λ m fit same. differs (same_folder name dir file m fits fit same)) names all_fit

    lead_still : (change : FileState → FileState) (id : ℕ) → LeadToFiles (record x { files = in_file change id x.files })
    lead_still change id k = record {
      made = λ other n leads. let less = (is.lead k).made other n leads in omega (arith, less, length_in change id x.files);
    }

    -- a file that wasn't there before is written
    file_changed : (change : FileState → FileState) (id : ℕ) → first ≤ id
        → ChangesAmong dir names x (record x { files = in_file change id x.files })
    file_changed change id late = record {
      now = λ other elsewhere. refl;
      cuts = λ k. inl (k, refl);
      files = λ other k f elsewhere now. record {
        named = now.named;
        file = get_other change x.files k id (λ same.
            let less = old_file other elsewhere (length x.pending) k (at_cut x other (Some (File_node k)) now.named) in
            omega (arith, late, less, same)) ∙ now.file;
      };
      alone = λ other elsewhere alone. record { only = alone.only };
      quiet = λ other out spares. spares;
      fewer = omega (arith, length_in change id x.files);
      no_folder = λ other never. never;
    }

    further : (later : State) → ChangesAmong dir names x later → LeadToFiles later → ChangesInside dir x later
        → ReplacesAt dir number d later
    further later among lead inside = record {
      among = among_both dir names d x later is.among among;
      lead = lead;
      inside = inside_both dir d x later is.inside inside;
    }

    -- ---- the temporary file's name becomes CURRENT

    abbrev moved : State
    moved = after x (Named (Moved temp current))

    moved_now : names_now moved ≡ renamed temp current (finmap.get (names_now x) temp) (names_now x)
    moved_now = all_push x.pending (Moved temp current) x.durable

    moved_cuts : (k : ℕ) → (cut_names moved k ≡ cut_names x k) ⊎ (cut_names moved k ≡ names_now moved)
    moved_cuts k = ⊎_elim (λ short. inl (ap (λ (ops : List NameOp). all_named ops x.durable) short))
        (λ long. inr (ap (λ (ops : List NameOp). all_named ops x.durable) long)) (take_push k x.pending (Moved temp current))

    -- where no file has the temporary name nothing moves
    module _ (none : finmap.get (names_now x) temp ≡ None) where
      same_now : names_now moved ≡ names_now x
      same_now = moved_now ∙ ap (λ (o : Option Node). renamed temp current o (names_now x)) none

      same_cut : (k : ℕ) (other : List ℕ) → (j : ℕ) × (finmap.get (cut_names moved k) other ≡ finmap.get (cut_names x j) other)
      same_cut k other = ⊎_elim
          (λ short. (k, ap (λ (left : Names). finmap.get left other) short))
          (λ long. (
            length x.pending,
            ap (λ (left : Names). finmap.get left other) (long ∙ same_now)
                ∙ sym (at_cut x other (finmap.get (names_now x) other) refl),
          ))
          (moved_cuts k)

      unmoved : ChangesAmong dir names x moved
      unmoved = record {
        now = λ other elsewhere. ap (λ (left : Names). finmap.get left other) same_now;
        cuts = λ k. ⊎_elim (λ short. inl (k, short))
            (λ long. inr (λ other elsewhere. ap (λ (left : Names). finmap.get left other) long
            ∙ ap (λ (left : Names). finmap.get left other) same_now)) (moved_cuts k);
        files = λ other id f elsewhere now. record {
          named = ap (λ (left : Names). finmap.get left other) same_now
              ∙ now.named;
          file = now.file;
        };
        alone = λ other elsewhere alone. record {
          only = λ id k another at leads. let was = same_cut k another in
              alone.only id was.0 another (sym (ap (λ (left : Names). id_of (finmap.get left other)) same_now) ∙ at) (sym was.1
              ∙ leads);
        };
        quiet = λ other out spares.
            let from = All-contains (λ (m : FileName). (other ≢ path_in dir m) × (under (path_in dir m) other ≡ None)) names
            (Temp number) out temp_among in
            let to = All-contains
            (λ (m : FileName). (other ≢ path_in dir m) × (under (path_in dir m) other ≡ None))
            names Current out current_among in
            All-push (OpSpares other) x.pending (Moved temp current) spares (from.0, to.0, from.1, to.1);
        fewer = omega arith;
        no_folder = λ other never k leads. let was = same_cut k other in never was.0 (sym was.1 ∙ leads);
      }

      unmoved_lead : LeadToFiles moved
      unmoved_lead k = record {
        made = λ other id leads. let was = same_cut k other in (is.lead was.0).made other id (sym was.1
            ∙ leads);
      }

    -- where one has, it leads on to that
    module _ (file : ℕ) (there : finmap.get (names_now x) temp ≡ Some (File_node file)) where
      then_now : names_now moved ≡ finmap.insert (finmap.remove (names_now x) temp) current (File_node file)
      then_now = moved_now ∙ ap (λ (o : Option Node). renamed temp current o (names_now x)) there

      led_now : (other : List ℕ) (id : ℕ) → finmap.get (names_now moved) other ≡ Some (File_node id) → id < length x.files
      led_now other id leads = by (path_cases other current) (path_cases other temp)
        where
          before : (p : List ℕ) (k : ℕ) → finmap.get (names_now x) p ≡ Some (File_node k) → k < length x.files
          before p k at = (is.lead (length x.pending)).made p k (at_cut x p (Some (File_node k)) at)

          by : (other ≡ current) ⊎ (other ≢ current) → (other ≡ temp) ⊎ (other ≢ temp) → id < length x.files
          by (inl same) any = before temp id (there
              ∙ sym (get_put (finmap.remove (names_now x) temp) current (File_node file))
              ∙ sym (ap (λ (left : Names). finmap.get left current) then_now)
              ∙ ap (finmap.get (names_now moved)) (sym same) ∙ leads)
          by (inr differs) (inl same) =
              let clash : None ≡ Some (File_node id) = sym (get_gone (names_now x) temp)
              ∙ ap (finmap.get (finmap.remove (names_now x) temp)) (sym same)
              ∙ sym (get_put_other (finmap.remove (names_now x) temp) other current (File_node file) differs)
              ∙ sym (ap (λ (left : Names). finmap.get left other) then_now) ∙ leads in
              absurd (cc)
          by (inr differs) (inr apart) = before other id (sym (get_gone_other (names_now x) other temp apart)
              ∙ sym (get_put_other (finmap.remove (names_now x) temp) other current (File_node file) differs)
              ∙ sym (ap (λ (left : Names). finmap.get left other) then_now) ∙ leads)

      moved_lead : LeadToFiles moved
      moved_lead k = record {
        made = λ other id leads. ⊎_elim
            (λ short. (is.lead k).made other id (ap (λ (left : Names). finmap.get left other) (sym short) ∙ leads))
            (λ long. led_now other id (ap (λ (left : Names). finmap.get left other) (sym long) ∙ leads))
            (moved_cuts k);
      }

    moved_spares : SparesOutside dir (Named (Moved temp current))
    moved_spares = record {
      names = λ name named differs. (
        (created_spares dir (Temp number) is_folder temp_fits).names name named differs,
        (created_spares dir Current is_folder tt).names name named differs,
        root_off dir is_folder (Temp number) temp_fits name named differs,
        root_off dir is_folder Current tt name named differs,
      );
      files = λ name file named differs fits. (
        (λ same. differs (same_folder name dir file (Temp number) fits temp_fits same)),
        (λ same. differs (same_folder name dir file Current fits tt same)),
        inside_off dir is_folder (Temp number) temp_fits name file named differs fits,
        inside_off dir is_folder Current tt name file named differs fits,
      );
    }

    renames : ReplacesAt dir number d (after x (Named (Moved (path_in dir (Temp number)) (path_in dir Current))))
    renames = by (finmap.get (names_now x) temp) refl
      where
        inside : ChangesInside dir x moved
        inside = change_inside dir x (Named (Moved temp current)) moved_spares tt

        by : (o : Option Node) → finmap.get (names_now x) temp ≡ o → ReplacesAt dir number d moved
        by None none = further moved (unmoved none) (unmoved_lead none) inside
        by (Some (File_node id)) there = further moved
            (among_renamed dir names (Temp number) Current temp_among current_among x id there)
            (moved_lead id there) inside
        by (Some Folder_node) there = absurd
            (is.among.no_folder temp (λ k. files.no_folder (Temp number) k temp_fits) (length x.pending)
            (at_cut x temp (Some Folder_node) there))

    -- ---- each of the changes

    makes : (file : FileName) → IsFileName file → Contains names file
        → ReplacesAt dir number d (after x (Created (path_in dir file)))
    makes file fits among = further (after x (Created (path_in dir file)))
        (among_at dir names file among x (after x (Created (path_in dir file))) (made_at (path_in dir file) x is.lead))
        (made_lead (path_in dir file) x is.lead)
        (change_inside dir x (Created (path_in dir file)) (created_spares dir file is_folder fits) tt)

    pub replaces_more : (c : Change) → Replaces dir number (length d.files) c → ReplacesAt dir number d (after x c)
    replaces_more (Created other) kind = ⊎_elim
        (λ same. subst (λ (p : List ℕ). ReplacesAt dir number d (after x (Created p))) (sym same)
        (makes (Manifest number) manifest_fits manifest_among))
        (λ same. subst (λ (p : List ℕ). ReplacesAt dir number d (after x (Created p))) (sym same)
        (makes (Temp number) temp_fits temp_among))
        kind
    replaces_more (Named (Put path node)) kind = absurd kind
    replaces_more (Named (Gone path)) kind = absurd kind
    replaces_more (Named (Moved from to)) kind =
        subst (λ (p : List ℕ). ReplacesAt dir number d (after x (Named (Moved p to)))) (sym kind.0)
        (subst (λ (p : List ℕ). ReplacesAt dir number d (after x (Named (Moved temp p)))) (sym kind.1) renames)
    replaces_more (Appended k bytes) kind = further (after x (Appended k bytes)) (file_changed (longer bytes) k kind)
        (lead_still (longer bytes) k)
        (append_inside x dir k bytes (λ n name file fits differs ok leads.
        let less = old_file (path_in name file) (folder_elsewhere name file fits differs ok) n k leads in omega
        (arith, less, kind)))
    replaces_more (Synced k) kind = further (after x (Synced k)) (file_changed sure k kind) (lead_still sure k)
        (change_inside dir x (Synced k) (record { names = λ folder ok other. tt; files = λ folder file ok other fits. tt }) tt)
    replaces_more Names_synced kind = further (after x Names_synced)
        (among_at dir names (Temp number) temp_among x (after x Names_synced) (names_synced_at temp x))
        (λ k. record {
          made = λ other id leads. (is.lead (length x.pending)).made other id
              (at_cut x other (Some (File_node id))
              (sym (ap (λ (ops : List NameOp). finmap.get (all_named ops (names_now x)) other) (take_none k)) ∙ leads));
        })
        (change_inside dir x Names_synced
        (record { names = λ folder ok other. tt; files = λ folder file ok other fits. tt }) tt)
    replaces_more Idle kind = is

  pub replaces_none : ReplacesAt dir number d d
  replaces_none = record {
    among = among_none dir names d;
    lead = lead_d;
    inside = change_inside dir d Idle (record { names = λ folder ok other. tt; files = λ folder file ok other fits. tt }) tt;
  }

-- what a run of such changes leaves is so, and each image on the way comes from a disk that is
pub went_replacing : (dir : List ℕ) → is_folder_name dir ≡ true → (number : ℕ) → IsFileName (Manifest number)
    → IsFileName (Temp number)
    → (start : Story) (told : Option Story) (P R : State → Tree → Type 0) (J : State → Type 0)
    → LeadToFiles (state_of start) → AreFiles (state_of start) dir
    → ((x : State) (t : Tree) → ReplacesAt dir number (state_of start) x → IsImage x t → P x t → R x t)
    → Went start told (Replaces dir number (length (state_of start).files)) P J
    → Went start told (Replaces dir number (length (state_of start).files)) R
    (λ x. J x × ReplacesAt dir number (state_of start) x)
went_replacing dir is_folder number manifest temp start told P R J lead files shows went =
    went_kept R (λ x. ReplacesAt dir number (state_of start) x)
    (λ x c kind is. replaces_more dir is_folder number manifest temp (state_of start) lead files x is c kind)
    (λ x t is i held. shows x t is i held) J (replaces_none dir is_folder number manifest temp (state_of start) lead files) went
