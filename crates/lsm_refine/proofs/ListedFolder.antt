-- What a pin's folder has under each name.
use Rattle.std.specs.Prelude.{◌≡◌, ℕ, Bool, true, false, cond, List, [], ◌∷◌, ◌++◌, map, All, Option, Some, None, option_map}
use Rattle.std.proofs.Common.{refl, sym, ap, ◌∙◌}
use Rattle.std.proofs.lemmas.List.Elements.{All-nil, All-cons, All-head, All-tail}
use Rattle.std.specs.Ordering.{nat_cmp, eq_by_cmp}
use Rattle.std.specs.FinMap as finmap
use Rattle.lsm_names.specs.declared.file_names.FileName.{FileName}
use Rattle.lsm_names.specs.declared.file_names.FileName.TheVariants.{Log, Table}
use Rattle.lsm_disk.specs.State.{State}
use Rattle.lsm_disk.specs.Images.{bytes_at, tree_now}
use Rattle.lsm_disk.specs.Dest.{path_in}
use Rattle.lsm_folder.specs.Files.{Item, A_file}
use Rattle.lsm_folder.specs.Names.{name_cmp}
use Rattle.lsm_folder.proofs.LiveLemmas.{equal_number}
use Rattle.lsm_version.specs.declared.tables.Placed.{Placed}
use Rattle.lsm_model.specs.declared.states.PinnedFile.{PinnedFile}
use Rattle.lsm_refine.specs.Pins.{entry_of}
use Rattle.lsm_refine.proofs.ListedLogs.{log_pin}

abbrev Entries : Type 0
Entries = List (FileName × Item)

-- none of these entries has the name
abbrev pub LacksName : FileName → Entries → Type 0
LacksName name es = All (λ (e : FileName × Item). eq_by_cmp name_cmp name e.0 ≡ false) es

pub passed : (name : FileName) (es more : Entries) → LacksName name es
    → finmap.find name_cmp name (es ++ more) ≡ finmap.find name_cmp name more
passed name [] more lacks = refl
passed name (e ∷ es) more lacks =
    ap (λ (b : Bool). cond b (Some e.1) (finmap.find name_cmp name (es ++ more)))
    (All-head (λ (x : FileName × Item). eq_by_cmp name_cmp name x.0 ≡ false) e es lacks)
    ∙ passed name es more (All-tail (λ (x : FileName × Item). eq_by_cmp name_cmp name x.0 ≡ false) e es lacks)

-- ---- logs

pub logs_pass : (name : FileName) (es : List (ℕ × List ℕ)) → ((number : ℕ) → eq_by_cmp name_cmp name (Log number) ≡ false)
    → LacksName name (map entry_of (map log_pin es))
logs_pass name [] other = All-nil (λ (x : FileName × Item). eq_by_cmp name_cmp name x.0 ≡ false)
logs_pass name (e ∷ es) other = All-cons (λ (x : FileName × Item). eq_by_cmp name_cmp name x.0 ≡ false) (entry_of (log_pin e))
    (map entry_of (map log_pin es)) (other e.0) (logs_pass name es other)

pub log_found : (number : ℕ) (es : List (ℕ × List ℕ)) (more : Entries) → finmap.find name_cmp (Log number) more ≡ None
    → finmap.find name_cmp (Log number) (map entry_of (map log_pin es) ++ more) ≡ option_map A_file (finmap.find nat_cmp number es)
log_found number [] more none = none
log_found number (e ∷ es) more none = by_test (eq_by_cmp nat_cmp number e.0) (log_found number es more none)
  where
    by_test : (b : Bool) → finmap.find name_cmp (Log number) (map entry_of (map log_pin es) ++ more)
        ≡ option_map A_file (finmap.find nat_cmp number es)
        → cond b (Some (A_file e.1)) (finmap.find name_cmp (Log number) (map entry_of (map log_pin es) ++ more))
        ≡ option_map A_file (cond b (Some e.1) (finmap.find nat_cmp number es))
    by_test true rest = refl
    by_test false rest = rest

-- ---- tables, with the bytes that they have now

abbrev pub bytes_or_none : Option (List ℕ) → List ℕ
bytes_or_none None = []
bytes_or_none (Some bytes) = bytes

module _ (d : State) (dir : List ℕ) where
  abbrev pub now_of : ℕ → List ℕ
  now_of number = bytes_or_none (bytes_at (tree_now d) (path_in dir (Table number)))

  abbrev pub table_pin : ℕ × Placed → PinnedFile
  table_pin e = record { name = Table e.0; bytes = now_of e.0 }

  pub tables_pass : (name : FileName) (es : List (ℕ × Placed))
      → ((number : ℕ) → eq_by_cmp name_cmp name (Table number) ≡ false) → LacksName name (map entry_of (map table_pin es))
  tables_pass name [] other = All-nil (λ (x : FileName × Item). eq_by_cmp name_cmp name x.0 ≡ false)
  tables_pass name (e ∷ es) other = All-cons (λ (x : FileName × Item). eq_by_cmp name_cmp name x.0 ≡ false)
      (entry_of (table_pin e)) (map entry_of (map table_pin es)) (other e.0) (tables_pass name es other)

  pub table_found : (number : ℕ) (placed : Placed) (es : List (ℕ × Placed)) (more : Entries) → finmap.find nat_cmp number es ≡ Some placed
      → finmap.find name_cmp (Table number) (map entry_of (map table_pin es) ++ more) ≡ Some (A_file (now_of number))
  table_found number placed [] more is = absurd (cc)
  table_found number placed (e ∷ es) more is =
      elim (eq_by_cmp nat_cmp number e.0) as (λ b. eq_by_cmp nat_cmp number e.0 ≡ b
      → cond b (Some e.1) (finmap.find nat_cmp number es) ≡ Some placed
      → cond b (Some (A_file (now_of e.0))) (finmap.find name_cmp (Table number) (map entry_of (map table_pin es) ++ more))
      ≡ Some (A_file (now_of number))) [
        | true ↦ λ same h. ap (λ (n : ℕ). Some (A_file (now_of n))) (sym (equal_number number e.0 same))
        | false ↦ λ other h. table_found number placed es more h
      ] refl is
