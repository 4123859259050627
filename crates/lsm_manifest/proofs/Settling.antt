-- Under which names the new manifest's file stands while it is made and named.
use Rattle.std.specs.Prelude.{◌≡◌, ◌≢◌, ◌⊎◌, ℕ, List, length, Option, Some, None, IfSome}
use Rattle.std.proofs.Common.{⊎_elim, inl, inr, sym, ap, subst, ◌∙◌, arith}
use Rattle.std.specs.FinMap as map
use Rattle.lsm_disk.specs.Names.{Node, File_node, Names, Put, Moved, renamed, id_of}
use Rattle.lsm_disk.specs.State.{State, Story, Change, Created, Named, Appended, Synced, Names_synced, Idle, after, state_of, names_now, names_synced, renamed_by}
use Rattle.lsm_disk.specs.Images.{Tree}
use Rattle.lsm_disk.specs.Goes.{Shows, Went}
use Rattle.lsm_disk.specs.Answers.{Makes}
use Rattle.lsm_disk.specs.Tree.{IsLawful}
use Rattle.lsm_disk.proofs.Files.{same_some}
use Rattle.lsm_disk.proofs.Images.{all_push, after_names_synced}
use Rattle.lsm_disk.proofs.Lawful.{get_gone}
use Rattle.lsm_disk.proofs.Now.{names_after, get_created}
use Rattle.lsm_disk.proofs.Paths.{path_cases, get_put, get_put_other, get_gone_other}
use Rattle.lsm_disk.proofs.Runs.{went_start, went_ok}
use Rattle.lsm_disk.proofs.Tree.{lawful_made}
use Rattle.lsm_publish.specs.Publishing.{Writes}
use Rattle.lsm_manifest.specs.Installing.{IsOnly, IsSettled, Anything}

same_file : (a b : ℕ) → Some (File_node a) ≡ Some (File_node b) → a ≡ b
same_file a b same = same_some a b (ap id_of same)

-- a disk's story is lawful
pub tells_lawful : (story : Story) (told : Option Story) → told ≡ Some story → IfSome told (λ x. IsLawful (state_of x))
    → IsLawful (state_of story)
tells_lawful story told tells lawful = subst (λ (o : Option Story). IfSome o (λ x. IsLawful (state_of x))) tells lawful

-- no name leads to the next new file
pub only_next : (s : State) (path : List ℕ) → IsLawful s → IsOnly s path (length s.files)
only_next s path lawful = record {
  only = λ other is. let lt = (lawful_made s lawful).made other (length s.files) is in absurd (omega (arith, lt));
}

-- a file is made under that name, or another file
only_created : (s : State) (path : List ℕ) (id : ℕ) (other : List ℕ) → (other ≡ path) ⊎ (length s.files ≢ id) → IsOnly s path id
    → IsOnly (after s (Created other)) path id
only_created s path id other or only =
    let new : Names = names_now (after s (Created other)) in
    let past : (p : List ℕ) → p ≢ other → map.get new p ≡ map.get (names_now s) p = λ p ne.
    ap (λ (n : Names). map.get n p) (all_push s.pending (Put other (File_node (length s.files))) s.durable)
    ∙ get_put_other (names_now s) p other (File_node (length s.files)) ne in
    record {
      only = λ p is. ⊎_elim
          (λ same. ⊎_elim
          (λ its. same ∙ its)
          (λ ne. absurd (ne (same_file (length s.files) id (sym (get_created s other) ∙ sym (ap (map.get new) same) ∙ is))))
          or)
          (λ ne. only.only p (sym (past p ne) ∙ is))
          (path_cases p other);
    }

pub only_written : (s : State) (path : List ℕ) (id : ℕ) (to : List ℕ) (k : ℕ) (c : Change) → (to ≡ path) ⊎
    (length s.files ≢ id) → Writes to k c
    → IsOnly s path id → IsOnly (after s c) path id
only_written s path id to k (Created other) or is only = only_created s path id other (⊎_elim (λ same. inl (is ∙ same))
    (λ ne. inr ne) or) only
only_written s path id to k (Named op) or is only = absurd is
only_written s path id to k (Appended j bytes) or is only = record { only = only.only }
only_written s path id to k (Synced j) or is only = record { only = only.only }
only_written s path id to k Names_synced or is only = record { only = only.only }
only_written s path id to k Idle or is only = only

-- ---- the switch

module _ (temporary path other : List ℕ) (id k : ℕ) (apart : temporary ≢ path) (ne : id ≢ k) where
  -- the temporary name leads to the one file, and only this name to the other
  pub record IsTemporary (s : State) : Type 0 where
    pub named : map.get (names_now s) temporary ≡ Some (File_node id)
    pub only : IsOnly s other k

  record IsMoved (s : State) : Type 0 where
    gone : map.get (names_now s) temporary ≡ None
    only : IsOnly s other k

  names_kept : (s : State) → names_now (after s (names_synced s)) ≡ names_now s
  names_kept s = ap names_now (after_names_synced s)

  step_names : (s : State) → IsTemporary s → IsTemporary (after s (names_synced s))
  step_names s is = record {
    named = ap (λ (n : Names). map.get n temporary) (names_kept s) ∙ is.named;
    only = record { only = λ p at. is.only.only p (sym (ap (λ (n : Names). map.get n p) (names_kept s)) ∙ at) };
  }

  moved_names : (s : State) → IsTemporary s
      → names_now (after s (Named (Moved temporary path))) ≡ map.insert (map.remove (names_now s) temporary) path (File_node id)
  moved_names s is = names_after s (Moved temporary path) ∙ ap (λ (o : Option Node). renamed temporary path o
      (names_now s)) is.named

  only_moved : (names : Names) → ((p : List ℕ) → map.get names p ≡ Some (File_node k) → p ≡ other) → (p : List ℕ)
      → map.get (map.insert (map.remove names temporary) path (File_node id)) p ≡ Some (File_node k) → p ≡ other
  only_moved names only p is =
      let new : Names = map.insert (map.remove names temporary) path (File_node id) in
      ⊎_elim
      (λ same. absurd (ne (same_file id k (sym (get_put (map.remove names temporary) path (File_node id)) ∙ sym (ap
      (map.get new) same) ∙ is))))
      (λ past.
      let left : map.get (map.remove names temporary) p ≡ Some (File_node k) = sym (get_put_other
      (map.remove names temporary) p path (File_node id) past) ∙ is in
      ⊎_elim
      (λ same. let clash : None ≡ Some (File_node k) = sym (ap (map.get (map.remove names temporary)) same
      ∙ get_gone names temporary) ∙ left in absurd (cc clash))
      (λ past. only p (sym (get_gone_other names p temporary past) ∙ left))
      (path_cases p temporary))
      (path_cases p path)

  step_move : (s : State) → IsTemporary s → IsMoved (after s (renamed_by temporary path s))
  step_move s is = record {
    gone = ap (λ (n : Names). map.get n temporary) (moved_names s is) ∙ get_put_other (map.remove
        (names_now s) temporary) temporary path (File_node id) apart
        ∙ get_gone (names_now s) temporary;
    only = record {
      only = λ p at. only_moved (names_now s) is.only.only p (sym (ap (λ (n : Names). map.get n p)
          (moved_names s is)) ∙ at);
    };
  }

  step_settle : (s : State) → IsMoved s → IsSettled temporary other k (after s (names_synced s))
  step_settle s is = record {
    alone = record { only = λ p at. is.only.only p (sym (ap (λ (n : Names). map.get n p) (names_kept s)) ∙ at) };
    gone = ap (λ (n : Names). map.get n temporary) (names_kept s) ∙ is.gone;
    quiet = ap (λ (x : State). x.pending) (after_names_synced s);
  }

  abbrev AnyChange : Change → Type 0
  AnyChange c = Unit {0}

  anything : (I : State → Type 0) (s : State) → I s → Shows Anything s
  anything I s i = record { each = λ t image. tt }

  -- the three calls were Ok
  pub settled : (story : Story) {o1 o2 o3 o4 : Option Story} → o1 ≡ Some story → Makes o1 names_synced o2 → Makes o2
      (renamed_by temporary path) o3
      → Makes o3 names_synced o4 → IsTemporary (state_of story) → Went story o4 AnyChange Anything (IsSettled temporary other k)
  settled story tells synced moves last is =
      went_ok IsMoved (IsSettled temporary other k) names_synced last (λ s i. tt) step_settle (anything
      (IsSettled temporary other k))
      (went_ok IsTemporary IsMoved (renamed_by temporary path) moves (λ s i. tt) step_move (anything IsMoved)
      (went_ok IsTemporary IsTemporary names_synced synced (λ s i. tt) step_names (anything IsTemporary)
      (went_start IsTemporary tells is (anything IsTemporary))))

-- two runs to one story
pub went_both : {story : Story} {told : Option Story} {q r : Change → Type 0} {P R : State → Tree → Type 0} (I J : State
    → Type 0)
    → Went story told q P I → Went story told r R J → Went story told q P (λ s. I s × J s)
went_both I J w v = record {
  story = w.story;
  tells = w.tells;
  goes = w.goes;
  now = (w.now, subst (λ (x : Story). J (state_of x)) (same_some v.story w.story (sym v.tells ∙ w.tells)) v.now);
}
