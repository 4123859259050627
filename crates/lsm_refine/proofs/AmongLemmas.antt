-- Changes at a few names of the store's folder, and what all of them leave of other files.
use Rattle.std.specs.Prelude.{◌≡◌, ◌≢◌, ◌⊎◌, ℕ, List, length, All, Contains, Option, Some, None}
use Rattle.std.proofs.Common.{⊎_elim, inl, inr, refl, sym, ap, subst, ◌∙◌, arith}
use Rattle.std.proofs.lemmas.List.Elements.{All-push, All-weaker, All-contains}
use Rattle.std.specs.FinMap as finmap
use Rattle.lsm_names.specs.declared.file_names.FileName.{FileName}
use Rattle.lsm_disk.specs.Names.{Node, Folder_node, File_node, NameOp, Names, Moved, all_named, renamed, id_of, under}
use Rattle.lsm_disk.specs.State.{FileState, State, Named, after, file_at, names_now}
use Rattle.lsm_disk.specs.Images.{bytes_at, tree_now}
use Rattle.lsm_disk.specs.Kept.{IsKeptName, IsKeptFile, OpSpares}
use Rattle.lsm_disk.specs.Dest.{path_in}
use Rattle.lsm_disk.proofs.Images.{take_push, all_push}
use Rattle.lsm_disk.proofs.Kept.{kept_file_now}
use Rattle.lsm_disk.proofs.Lawful.{get_gone}
use Rattle.lsm_disk.proofs.Paths.{path_cases, get_put, get_put_other, get_gone_other}
use Rattle.lsm_refine.specs.Sane.{IsAlone, IsWholeFile}
use Rattle.lsm_refine.specs.Beside.{cut_names, NeverFolder, ChangesAt, MakesAt}
use Rattle.lsm_refine.specs.Among.{IsElsewhere, IsOutside, ChangesAmong}
use Rattle.lsm_refine.proofs.ChangeLemmas.{at_cut, file_of, bytes_now, some_cut}

-- ---- nothing, one after another, and a change at one of the names

module _ (dir : List ℕ) (names : List FileName) where
  pub among_none : (d : State) → ChangesAmong dir names d d
  among_none d = record {
    now = λ other elsewhere. refl;
    cuts = λ k. inl (k, refl);
    files = λ other id f elsewhere is. is;
    alone = λ other elsewhere is. is;
    quiet = λ other outside is. is;
    fewer = omega arith;
    no_folder = λ other never. never;
  }

  pub among_both : (d mid later : State) → ChangesAmong dir names d mid → ChangesAmong dir names mid later → ChangesAmong dir names d later
  among_both d mid later first second = record {
    now = λ other elsewhere. second.now other elsewhere ∙ first.now other elsewhere;
    cuts = λ k. ⊎_elim
        (λ old. ⊎_elim
        (λ older. inl (older.0, old.1 ∙ older.1))
        (λ same. inr (λ other elsewhere. ap (λ (left : Names). finmap.get left other) old.1 ∙ same other elsewhere))
        (first.cuts old.0))
        (λ same. inr (λ other elsewhere. same other elsewhere ∙ first.now other elsewhere))
        (second.cuts k);
    files = λ other id f elsewhere is. second.files other id f elsewhere (first.files other id f elsewhere is);
    alone = λ other elsewhere is. second.alone other elsewhere (first.alone other elsewhere is);
    quiet = λ other outside is. second.quiet other outside (first.quiet other outside is);
    fewer = omega (arith, first.fewer, second.fewer);
    no_folder = λ other never. second.no_folder other (first.no_folder other never);
  }

  not_here : (name : FileName) → Contains names name → (other : List ℕ) → IsElsewhere dir names other → other ≢ path_in dir name
  not_here name among other elsewhere = All-contains (λ (n : FileName). other ≢ path_in dir n) names name elsewhere among

  not_inside : (name : FileName) → Contains names name → (other : List ℕ) → IsOutside dir names other
      → (other ≢ path_in dir name) × (under (path_in dir name) other ≡ None)
  not_inside name among other outside = All-contains (λ (n : FileName). (other ≢ path_in dir n)
      × (under (path_in dir n) other ≡ None)) names name outside among

  pub among_at : (name : FileName) → Contains names name → (d later : State) → ChangesAt (path_in dir name) d later
      → ChangesAmong dir names d later
  among_at name among d later at = record {
    now = λ other elsewhere. at.now other (not_here name among other elsewhere);
    cuts = λ k. ⊎_elim (λ old. inl old) (λ same. inr (λ other elsewhere. same other (not_here name among other elsewhere))) (at.cuts k);
    files = λ other id f elsewhere is. at.files other id f (not_here name among other elsewhere) is;
    alone = λ other elsewhere is. at.alone other is;
    quiet = λ other outside is. at.quiet other (not_inside name among other outside).0 is;
    fewer = at.fewer;
    no_folder = λ other never. by other never (path_cases other (path_in dir name));
  }
    where
      by : (other : List ℕ) → NeverFolder other d → (other ≡ path_in dir name) ⊎ (other ≢ path_in dir name) → NeverFolder other later
      by other never (inl same) = subst (λ (p : List ℕ). NeverFolder p later) (sym same)
          (at.no_folder (subst (λ (p : List ℕ). NeverFolder p d) same never))
      by other never (inr differs) = λ k is. let was = some_cut (path_in dir name) d later at other differs k in never was.0
          (sym was.1 ∙ is)

  -- what changes at some of the names
  pub among_more : (some : List FileName) → All (Contains names) some → (d later : State) → ChangesAmong dir some d later
      → ChangesAmong dir names d later
  among_more some all d later at = record {
    now = λ other elsewhere. at.now other (fewer_elsewhere other elsewhere);
    cuts = λ k. ⊎_elim (λ old. inl old) (λ same. inr (λ other elsewhere. same other (fewer_elsewhere other elsewhere))) (at.cuts k);
    files = λ other id f elsewhere is. at.files other id f (fewer_elsewhere other elsewhere) is;
    alone = λ other elsewhere is. at.alone other (fewer_elsewhere other elsewhere) is;
    quiet = λ other outside is. at.quiet other (fewer_outside other outside) is;
    fewer = at.fewer;
    no_folder = at.no_folder;
  }
    where
      fewer_elsewhere : (other : List ℕ) → IsElsewhere dir names other → IsElsewhere dir some other
      fewer_elsewhere other elsewhere = All-weaker (Contains names) (λ (n : FileName). other ≢ path_in dir n)
          (λ n among. not_here n among other elsewhere) some all

      fewer_outside : (other : List ℕ) → IsOutside dir names other → IsOutside dir some other
      fewer_outside other outside =
          All-weaker (Contains names) (λ (n : FileName). (other ≢ path_in dir n) × (under (path_in dir n) other ≡ None))
          (λ n among. not_inside n among other outside) some all

  -- ---- a file's name becomes another

  module _ (from to : FileName) (among_from : Contains names from) (among_to : Contains names to) (d : State) (id : ℕ)
      (there : finmap.get (names_now d) (path_in dir from) ≡ Some (File_node id)) where
    abbrev old : List ℕ
    old = path_in dir from

    abbrev new : List ℕ
    new = path_in dir to

    abbrev moved : State
    moved = after d (Named (Moved (path_in dir from) (path_in dir to)))

    moved_now : names_now moved ≡ finmap.insert (finmap.remove (names_now d) old) new (File_node id)
    moved_now = all_push d.pending (Moved old new) d.durable ∙ ap (λ (o : Option Node). renamed old new o (names_now d)) there

    moved_same : (other : List ℕ) → other ≢ old → other ≢ new → finmap.get (names_now moved) other ≡ finmap.get (names_now d) other
    moved_same other no_old no_new =
        ap (λ (left : Names). finmap.get left other) moved_now
        ∙ get_put_other (finmap.remove (names_now d) old) other new (File_node id) no_new ∙ get_gone_other (names_now d) other old no_old

    moved_there : finmap.get (names_now moved) new ≡ Some (File_node id)
    moved_there = ap (λ (left : Names). finmap.get left new) moved_now ∙ get_put (finmap.remove (names_now d) old) new (File_node id)

    moved_gone : old ≢ new → finmap.get (names_now moved) old ≡ None
    moved_gone differs =
        ap (λ (left : Names). finmap.get left old) moved_now
        ∙ get_put_other (finmap.remove (names_now d) old) old new (File_node id) differs ∙ get_gone (names_now d) old

    moved_elsewhere : (other : List ℕ) → IsElsewhere dir names other → finmap.get (names_now moved) other ≡ finmap.get (names_now d) other
    moved_elsewhere other elsewhere = moved_same other (not_here from among_from other elsewhere) (not_here to among_to other elsewhere)

    moved_cuts : (k : ℕ) → (cut_names moved k ≡ cut_names d k) ⊎ (cut_names moved k ≡ names_now moved)
    moved_cuts k = ⊎_elim (λ short. inl (ap (λ (ops : List NameOp). all_named ops d.durable) short))
        (λ long. inr (ap (λ (ops : List NameOp). all_named ops d.durable) long)) (take_push k d.pending (Moved old new))

    -- what a name leads to then, a name led to before: the new one to what the old one led to
    came_from : (other : List ℕ) (node : Node) → finmap.get (names_now moved) other ≡ Some node
        → ((other ≡ new) × (Some node ≡ Some (File_node id))) ⊎ (finmap.get (names_now d) other ≡ Some node)
    came_from other node is = by (path_cases other new) (path_cases other old)
      where
        by : (other ≡ new) ⊎ (other ≢ new) → (other ≡ old) ⊎ (other ≢ old)
            → ((other ≡ new) × (Some node ≡ Some (File_node id))) ⊎ (finmap.get (names_now d) other ≡ Some node)
        by (inl same) any = inl (same, sym is ∙ ap (finmap.get (names_now moved)) same ∙ moved_there)
        by (inr differs) (inl same) = let clash : None ≡ Some node =
            sym (moved_gone (λ o. differs (same ∙ o))) ∙ ap (finmap.get (names_now moved)) (sym same) ∙ is in absurd (cc)
        by (inr differs) (inr apart) = inr (sym (moved_same other apart differs) ∙ is)

    moved_alone : (other : List ℕ) → IsElsewhere dir names other → IsAlone d other → IsAlone moved other
    moved_alone other elsewhere is = record {
      only = λ n k another at leads. by n k another
          (sym (ap id_of (moved_elsewhere other elsewhere)) ∙ at) leads (moved_cuts k);
    }
      where
        now_led : (n : ℕ) (another : List ℕ) → file_at d other ≡ Some n → finmap.get (names_now d) another ≡ Some (File_node n)
            → another ≡ other
        now_led n another at leads = is.only n (length d.pending) another at (at_cut d another (Some (File_node n)) leads)

        by : (n k : ℕ) (another : List ℕ) → file_at d other ≡ Some n
            → finmap.get (cut_names moved k) another ≡ Some (File_node n)
            → (cut_names moved k ≡ cut_names d k) ⊎ (cut_names moved k ≡ names_now moved) → another ≡ other
        by n k another at leads (inl short) = is.only n k another at (ap (λ (left : Names). finmap.get left another) (sym short) ∙ leads)
        by n k another at leads (inr long) = ⊎_elim
            (λ fresh. absurd (not_here from among_from other elsewhere (sym (now_led n old at (there ∙ sym fresh.1)))))
            (λ led. now_led n another at led)
            (came_from another (File_node n) (ap (λ (left : Names). finmap.get left another) (sym long) ∙ leads))

    file_is_no_folder : Some Folder_node ≡ Some (File_node id) → ⊥
    file_is_no_folder same = cc

    pub among_renamed : ChangesAmong dir names d (after d (Named (Moved (path_in dir from) (path_in dir to))))
    among_renamed = record {
      now = moved_elsewhere;
      cuts = λ k. ⊎_elim
          (λ short. inl (k, short))
          (λ long. inr (λ other elsewhere. ap (λ (left : Names). finmap.get left other) long ∙ moved_elsewhere other elsewhere))
          (moved_cuts k);
      files = λ other n f elsewhere is. record { named = moved_elsewhere other elsewhere ∙ is.named; file = is.file };
      alone = moved_alone;
      quiet = λ other outside is.
          let apart_from = not_inside from among_from other outside in
          let apart_to = not_inside to among_to other outside in
          All-push (OpSpares other) d.pending (Moved old new) is (apart_from.0, apart_to.0, apart_from.1, apart_to.1);
      fewer = omega arith;
      no_folder = λ other never k is. ⊎_elim
          (λ short. never k (ap (λ (left : Names). finmap.get left other) (sym short) ∙ is))
          (λ long. ⊎_elim
          (λ fresh. file_is_no_folder fresh.1)
          (λ led. never (length d.pending) (at_cut d other (Some Folder_node) led))
          (came_from other Folder_node (ap (λ (left : Names). finmap.get left other) (sym long) ∙ is)))
          (moved_cuts k);
    }

  -- ---- what stays of other files

  module _ (d later : State) (at : ChangesAmong dir names d later) (other : List ℕ) (elsewhere : IsElsewhere dir names other) where
    pub file_among : file_at later other ≡ file_at d other
    file_among = ap id_of (at.now other elsewhere)

    pub bytes_among : (held : List ℕ) → bytes_at (tree_now d) other ≡ Some held → bytes_at (tree_now later) other ≡ Some held
    bytes_among held is = let found = file_of d other held is in bytes_now later other found.0 found.1
        (at.files other found.0 found.1 elsewhere found.2) ∙ ap Some found.3

    -- what a crash leaves of the name then, one may leave before
    pub cut_among : (k : ℕ) → (j : ℕ) × (finmap.get (cut_names later k) other ≡ finmap.get (cut_names d j) other)
    cut_among k = ⊎_elim
        (λ old. (old.0, ap (λ (left : Names). finmap.get left other) old.1))
        (λ same. (length d.pending, same other elsewhere ∙ sym (at_cut d other (finmap.get (names_now d) other) refl)))
        (at.cuts k)

    pub kept_name_among : (what : Option Node) → IsKeptName d other what → IsKeptName later other what
    kept_name_among what is k = let was = cut_among k in was.1 ∙ is was.0

    pub kept_file_among : (id : ℕ) (f : FileState) → IsKeptFile d other id f → IsKeptFile later other id f
    kept_file_among id f is = record {
      named = kept_name_among (Some (File_node id)) is.named;
      file = (at.files other id f elsewhere (kept_file_now d other id f is)).file;
    }

    pub whole_among : (held : List ℕ) → IsWholeFile d other held → IsWholeFile later other held
    whole_among held is = record { id = is.id; file = kept_file_among is.id _ is.file }

-- ---- a new file

-- a new file that was made at a name has no other
pub new_alone : (dir : List ℕ) (name : FileName) (d later : State) → MakesAt dir name d later
    → file_at later (path_in dir name) ≡ Some (length d.files) → IsAlone later (path_in dir name)
new_alone dir name d later makes there = record {
  only = λ id k other at leads. makes.only k other
      (leads ∙ ap (λ (o : Option ℕ). node o) (sym at ∙ there));
}
  where
    node : Option ℕ → Option Node
    node None = None
    node (Some id) = Some (File_node id)
