-- While files are made and written under a few names of the store's folder, nothing else changes.
use Rattle.std.specs.Prelude.{◌≡◌, ◌≢◌, ℕ, ◌<◌, ◌≤◌, true, List, length, All, Contains, Option, Some}
use Rattle.std.proofs.Common.{inl, inr, refl, sym, subst, ◌∙◌, arith}
use Rattle.std.proofs.lemmas.List.Elements.{All-nil, All-weaker, All-contains}
use Rattle.std.specs.FinMap as finmap
use Rattle.lsm_names.specs.Folders.{is_folder_name}
use Rattle.lsm_names.specs.FileNames.{IsFileName}
use Rattle.lsm_names.specs.declared.file_names.FileName.{FileName}
use Rattle.lsm_disk.specs.Names.{File_node}
use Rattle.lsm_disk.specs.State.{FileState, State, Story, Change, Created, Named, Appended, Synced, Names_synced, Idle, after, state_of, longer, sure, in_file}
use Rattle.lsm_disk.specs.Images.{Tree}
use Rattle.lsm_disk.specs.Kept.{OpSpares}
use Rattle.lsm_disk.specs.Goes.{Went}
use Rattle.lsm_disk.specs.Dest.{path_in}
use Rattle.lsm_disk.proofs.Files.{get_other}
use Rattle.lsm_disk.proofs.Runs.{went_kept}
use Rattle.lsm_disk.proofs.Tree.{length_in}
use Rattle.lsm_refine.specs.Folders.{ChangesInside}
use Rattle.lsm_refine.specs.Beside.{cut_names, LeadToFiles}
use Rattle.lsm_refine.specs.Among.{IsElsewhere, ChangesAmong, MakesAmong, MadeAmong}
use Rattle.lsm_refine.proofs.AmongLemmas.{among_none, among_both, among_at, cut_among}
use Rattle.lsm_refine.proofs.ChangeLemmas.{at_cut, names_synced_at, made_at, made_lead}
use Rattle.lsm_refine.proofs.NewFileLemmas.{synced_cut}
use Rattle.lsm_refine.proofs.OutsideLemmas.{same_folder, append_inside, change_inside, inside_both, created_spares}

module _ (dir : List ℕ) (is_folder : is_folder_name dir ≡ true) (names : List FileName) (fits : All IsFileName names)
    (d : State) (lead_d : LeadToFiles d) where
  abbrev first : ℕ
  first = length d.files

  module _ (x : State) (is : MadeAmong dir names d x) where
    -- what another name leads to was there before
    old_file : (other : List ℕ) → IsElsewhere dir names other → (k id : ℕ)
        → finmap.get (cut_names x k) other ≡ Some (File_node id) → id < first
    old_file other elsewhere k id leads =
        let was = cut_among dir names d x is.among other elsewhere k in
        (lead_d was.0).made other id (sym was.1 ∙ leads)

    folder_elsewhere : (folder : List ℕ) (file : FileName) → folder ≢ dir → IsFileName file
        → IsElsewhere dir names (path_in folder file)
    folder_elsewhere folder file differs ok = All-weaker IsFileName (λ (m : FileName). path_in folder file ≢ path_in dir m)
        (λ m fit same. differs (same_folder folder dir file m ok fit same)) names fits

    lead_still : (change : FileState → FileState) (id : ℕ) → LeadToFiles (record x { files = in_file change id x.files })
    lead_still change id k = record {
      made = λ other n leads. let less = (is.lead k).made other n leads in omega (arith, less, length_in change id x.files);
    }

    -- a file that wasn't there before is written
    file_changed : (change : FileState → FileState) (id : ℕ) → length d.files ≤ id
        → ChangesAmong dir names x (record x { files = in_file change id x.files })
    file_changed change id late = record {
      now = λ other elsewhere. refl;
      cuts = λ k. inl (k, refl);
      files = λ other k f elsewhere now. record {
        named = now.named;
        file = get_other change x.files k id (λ same.
            let less = old_file other elsewhere (length x.pending) k (at_cut x other (Some (File_node k)) now.named) in
            omega (arith, late, less, same)) ∙ now.file;
      };
      alone = λ other elsewhere alone. record { only = alone.only };
      quiet = λ other out spares. spares;
      fewer = omega (arith, length_in change id x.files);
      no_folder = λ other never. never;
    }

    further : (later : State) → ChangesAmong dir names x later → LeadToFiles later → ChangesInside dir x later
        → MadeAmong dir names d later
    further later among lead inside = record {
      among = among_both dir names d x later is.among among;
      lead = lead;
      inside = inside_both dir d x later is.inside inside;
    }

    makes : (file : FileName) → Contains names file → MadeAmong dir names d (after x (Created (path_in dir file)))
    makes file among = further (after x (Created (path_in dir file)))
        (among_at dir names file among x (after x (Created (path_in dir file))) (made_at (path_in dir file) x is.lead))
        (made_lead (path_in dir file) x is.lead)
        (change_inside dir x (Created (path_in dir file))
        (created_spares dir file is_folder (All-contains IsFileName names file fits among)) tt)

    names_still : ChangesAmong dir names x (after x Names_synced)
    names_still = record {
      now = λ other elsewhere. refl;
      cuts = λ k. inr (λ other elsewhere. synced_cut x k other);
      files = λ other id f elsewhere now. record { named = now.named; file = now.file };
      alone = λ other elsewhere alone. (names_synced_at other x).alone other alone;
      quiet = λ other out spares. All-nil (OpSpares other);
      fewer = omega arith;
      no_folder = λ other never. (names_synced_at other x).no_folder never;
    }

    pub made_more : (c : Change) → MakesAmong dir names (length d.files) c → MadeAmong dir names d (after x c)
    made_more (Created other) kind = subst (λ (p : List ℕ). MadeAmong dir names d (after x (Created p))) (sym kind.2)
        (makes kind.0 kind.1)
    made_more (Named op) kind = absurd kind
    made_more (Appended k bytes) kind = further (after x (Appended k bytes)) (file_changed (longer bytes) k kind)
        (lead_still (longer bytes) k)
        (append_inside x dir k bytes (λ n name file fit differs ok leads.
        let less = old_file (path_in name file) (folder_elsewhere name file differs ok) n k leads in omega (arith, less, kind)))
    made_more (Synced k) kind = further (after x (Synced k)) (file_changed sure k kind) (lead_still sure k)
        (change_inside dir x (Synced k) (record { names = λ folder ok other. tt; files = λ folder file ok other fit. tt }) tt)
    made_more Names_synced kind = further (after x Names_synced) names_still
        (λ k. record {
          made = λ other id leads. (is.lead (length x.pending)).made other id
              (at_cut x other (Some (File_node id)) (sym (synced_cut x k other) ∙ leads));
        })
        (change_inside dir x Names_synced
        (record { names = λ folder ok other. tt; files = λ folder file ok other fit. tt }) tt)
    made_more Idle kind = is

  pub made_none : MadeAmong dir names d d
  made_none = record {
    among = among_none dir names d;
    lead = lead_d;
    inside = change_inside dir d Idle (record { names = λ folder ok other. tt; files = λ folder file ok other fit. tt }) tt;
  }

-- what a run of such changes leaves is so
pub went_making_among : (dir : List ℕ) → is_folder_name dir ≡ true → (names : List FileName) → All IsFileName names
    → {start : Story} {told : Option Story} {P : State → Tree → Type 0} (J : State → Type 0) → LeadToFiles (state_of start)
    → Went start told (MakesAmong dir names (length (state_of start).files)) P J
    → Went start told (MakesAmong dir names (length (state_of start).files)) P
    (λ x. J x × MadeAmong dir names (state_of start) x)
went_making_among dir is_folder names fits {start} {told} {P} J lead went =
    went_kept P (λ x. MadeAmong dir names (state_of start) x)
    (λ x c kind is. made_more dir is_folder names fits (state_of start) lead x is c kind)
    (λ x t is i held. held) J (made_none dir is_folder names fits (state_of start) lead) went
