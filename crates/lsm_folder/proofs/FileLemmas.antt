-- What a folder has under a name is what the tree has at the name's path.
use Rattle.std.specs.Prelude.{◌≡◌, ℕ, ◌≤◌, Bool, true, false, cond, ◌==◌, List, [], ◌∷◌, ◌++◌, length, Option, Some, None, option_map, unwrap_or}
use Rattle.std.proofs.Common.{refl, sym, ap, subst, ◌∙◌, arith}
use Rattle.std.specs.Option.{option_and_then}
use Rattle.std.specs.Ordering.{eq_by_cmp, is_eq}
use Rattle.std.specs.Cmp.{tied_itself}
use Rattle.std.specs.FinMap as map
use Rattle.lsm_names.specs.declared.file_names.FileName.{FileName}
use Rattle.lsm_names.specs.FileNames.{spelled, IsFileName}
use Rattle.lsm_disk.specs.Names.{Node, Folder_node, File_node, path_cmp, under, after_slash, id_of, stands}
use Rattle.lsm_disk.specs.Images.{Tree, bytes_at, bytes_by}
use Rattle.lsm_disk.proofs.Paths.{same_path, path_itself, number}
use Rattle.lsm_disk.proofs.Moves.{under_is, inside_joined}
use Rattle.lsm_folder.specs.Names.{name_cmp, names_total, names_exact, name_of}
use Rattle.lsm_folder.specs.Files.{Item, A_file, item_of, item_at, Nothing, Not_a_folder, Stands_with, name_in, with_name, entries_in, files_in, place_by, place_of}
use Rattle.lsm_folder.proofs.NameLemmas.{name_again, name_only}
use Rattle.std.proofs.lemmas.Option.{same_Some}
use Rattle.lsm_rows.proofs.NewestRows.{equal_of}

-- ---- tests of keys

pub same_name : (m n : FileName) → eq_by_cmp name_cmp m n ≡ true → m ≡ n
same_name m n e = names_exact m n (equal_of (name_cmp m n) e)

pub name_itself : (n : FileName) → eq_by_cmp name_cmp n n ≡ true
name_itself n = ap is_eq (tied_itself names_total n)

pub alike : (a b : Bool) → (a ≡ true → b ≡ true) → (b ≡ true → a ≡ true) → a ≡ b
alike true b f g = sym (f refl)
alike false true f g = g refl
alike false false f g = refl

-- ---- one entry

abbrev head_or : List ℕ → ℕ
head_or [] = 0
head_or (x ∷ xs) = x

pub first_is : (b c : ℕ) (rest more : List ℕ) → Some (b ∷ rest) ≡ Some (c ∷ more) → b ≡ c
first_is b c rest more e = ap (λ (o : Option (List ℕ)). head_or (unwrap_or o [])) e

-- what follows a folder begins with a slash
pub slash_is : (dir path : List ℕ) (c : ℕ) (rest : List ℕ) → under dir path ≡ Some (c ∷ rest) → c ≡ 47
slash_is [] [] c rest e = cc
slash_is [] (d ∷ path) c rest e =
    elim (d == 47) as (λ b. (d == 47) ≡ b → cond b (Some (d ∷ path)) None ≡ Some (c ∷ rest) → c ≡ 47) [
      | true ↦ λ is h. sym (first_is d c path rest h) ∙ number d 47 is
      | false ↦ λ is h. cc
    ] refl e
slash_is (f ∷ dir) [] c rest e = cc
slash_is (f ∷ dir) (d ∷ path) c rest e =
    elim (f == d) as (λ b. cond b (under dir path) None ≡ Some (c ∷ rest) → c ≡ 47) [ true ↦ λ h. slash_is dir path c rest h | false ↦ λ h. cc ] e

module _ (first : ℕ) (more : List ℕ) where
  abbrev dir : List ℕ
  dir = first ∷ more

  abbrev path_of : FileName → List ℕ
  path_of name = dir ++ 47 ∷ spelled name

  in_folder : (name : FileName) → IsFileName name → name_in dir (path_of name) ≡ Some name
  in_folder name fits = ap (option_and_then name_of) (inside_joined first more (spelled name)) ∙ name_again name fits

  -- a path that has a name in the folder is the name's
  named_under : (path : List ℕ) (o : Option (List ℕ)) (name : FileName) → under dir path ≡ o
      → option_and_then name_of (after_slash o) ≡ Some name → (path ≡ path_of name) × IsFileName name
  named_under path None name u e = cc
  named_under path (Some []) name u e = cc
  named_under path (Some (c ∷ rest)) name u e =
      let is = name_only rest name e in (
        under_is dir path (c ∷ rest) u ∙ ap (λ (b : ℕ). dir ++ b ∷ rest) (slash_is dir path c rest u)
            ∙ ap (λ (l : List ℕ). dir ++ 47 ∷ l) is.is,
        is.fits,
      )

  path_is : (path : List ℕ) (name : FileName) → name_in dir path ≡ Some name → (path ≡ path_of name) × IsFileName name
  path_is path name e = named_under path (under dir path) name refl e

  module _ (name : FileName) (fits : IsFileName name) where
    same_test : (path : List ℕ) (other : FileName) → name_in dir path ≡ Some other
        → eq_by_cmp name_cmp name other ≡ eq_by_cmp path_cmp (path_of name) path
    same_test path other is = alike _ _
        (λ e. subst (λ (p : List ℕ). eq_by_cmp path_cmp (path_of name) p ≡ true) (ap path_of (same_name name other e) ∙ sym (path_is path other is).0) (path_itself (path_of name)))
        (λ e. subst (λ (n : FileName). eq_by_cmp name_cmp name n ≡ true) (same_Some name other (sym (in_folder name fits) ∙ ap (name_in dir) (same_path (path_of name) path e) ∙ is)) (name_itself name))

    none_test : (path : List ℕ) → name_in dir path ≡ None → eq_by_cmp path_cmp (path_of name) path ≡ false
    none_test path none = alike _ false
        (λ e. let clash : Some name ≡ None = sym (in_folder name fits) ∙ ap (name_in dir) (same_path (path_of name) path e) ∙ none in cc)
        (λ e. cc)

    find_entry : (contents : List (List ℕ)) (es : List (List ℕ × Node)) → map.find name_cmp name (entries_in dir contents es) ≡ option_map (item_of contents) (map.find path_cmp (path_of name) es)
    find_entry contents [] = refl
    find_entry contents (e ∷ es) =
        let rest = find_entry contents es in
        elim (name_in dir e.0) as (λ o. name_in dir e.0 ≡ o → map.find name_cmp name (with_name o (item_of contents e.1) (entries_in dir contents es))
        ≡ option_map (item_of contents)
        (cond (eq_by_cmp path_cmp (path_of name) e.0) (Some e.1) (map.find path_cmp (path_of name) es))) [
          | None ↦ λ none. rest ∙ sym (ap (λ (b : Bool). option_map (item_of contents) (cond b (Some e.1) (map.find path_cmp (path_of name) es))) (none_test e.0 none))
          | Some other ↦ λ is. ap
              (λ (b : Bool). cond b (Some (item_of contents e.1)) (map.find name_cmp name (entries_in dir contents es)))
              (same_test e.0 other is)
              ∙ either (eq_by_cmp path_cmp (path_of name) e.0) (item_of contents) e.1
              (map.find path_cmp (path_of name) es) _ rest
        ] refl
      where
        either : {A B : Type 0} (b : Bool) (f : A → B) (x : A) (o : Option A) (p : Option B) → p ≡ option_map f o
            → cond b (Some (f x)) p ≡ option_map f (cond b (Some x) o)
        either true f x o p is = refl
        either false f x o p is = is

    pub get_files : (tree : Tree) → map.get (files_in dir tree) name ≡ item_at tree (path_of name)
    unfolding files_in
    get_files tree =
        map.get-from_entries names_total (entries_in dir tree.contents (map.entries tree.names)) name
        ∙ find_entry tree.contents (map.entries tree.names)
        ∙ ap (option_map (item_of tree.contents)) (sym (map.get-entries tree.names (path_of name)))

  -- only lawful names stand in a folder
  among : (contents : List (List ℕ)) (es : List (List ℕ × Node)) (name : FileName) (item : Item)
      → map.find name_cmp name (entries_in dir contents es) ≡ Some item → IsFileName name
  among contents [] name item is = cc
  among contents (e ∷ es) name item is =
      elim (name_in dir e.0) as (λ o. name_in dir e.0 ≡ o → map.find name_cmp name (with_name o (item_of contents e.1) (entries_in dir contents es)) ≡ Some item → IsFileName name) [
        | None ↦ λ none h. among contents es name item h
        | Some other ↦ λ there h. elim (eq_by_cmp name_cmp name other) as (λ b. eq_by_cmp name_cmp name other ≡ b → cond b (Some (item_of contents e.1)) (map.find name_cmp name (entries_in dir contents es)) ≡ Some item → IsFileName name) [
          | true ↦ λ same h. subst IsFileName (sym (same_name name other same)) (path_is e.0 other there).1
          | false ↦ λ differ h. among contents es name item h
        ] refl h
      ] refl is

  pub names_lawful : (tree : Tree) (name : FileName) (item : Item) → map.get (files_in dir tree) name ≡ Some item
      → IsFileName name
  unfolding files_in
  names_lawful tree name item is =
      among tree.contents (map.entries tree.names) name item
      (sym (map.get-from_entries names_total (entries_in dir tree.contents (map.entries tree.names)) name) ∙ is)

-- what stands under a file's name in a folder
pub files_are : (dir : List ℕ) (tree : Tree) (name : FileName) → 1 ≤ length dir → IsFileName name
    → map.get (files_in dir tree) name ≡ item_at tree (dir ++ 47 ∷ spelled name)
files_are [] tree name some fits = absurd (omega (arith, some))
files_are (first ∷ more) tree name some fits = get_files first more name fits tree

-- a file whose bytes the tree has
bytes_item : (tree : Tree) (o : Option Node) (bytes : List ℕ) → bytes_by (id_of o) tree ≡ Some bytes
    → option_map (item_of tree.contents) o ≡ Some (A_file bytes)
bytes_item tree None bytes is = cc
bytes_item tree (Some Folder_node) bytes is = cc
bytes_item tree (Some (File_node id)) bytes is = ap (λ (o : Option (List ℕ)). Some (A_file (unwrap_or o []))) is

pub file_is : (dir : List ℕ) (tree : Tree) (name : FileName) (bytes : List ℕ) → 1 ≤ length dir → IsFileName name
    → bytes_at tree (dir ++ 47 ∷ spelled name) ≡ Some bytes → map.get (files_in dir tree) name ≡ Some (A_file bytes)
file_is dir tree name bytes some fits is =
    files_are dir tree name some fits ∙ bytes_item tree (map.get tree.names (dir ++ 47 ∷ spelled name)) bytes is

pub file_names : (dir : List ℕ) (tree : Tree) (name : FileName) (item : Item) → 1 ≤ length dir
    → map.get (files_in dir tree) name ≡ Some item → IsFileName name
file_names [] tree name item some is = absurd (omega (arith, some))
file_names (first ∷ more) tree name item some is = names_lawful first more tree name item is

-- what stands in a folder's place
pub no_place : (dir : List ℕ) (tree : Tree) → stands tree.names dir ≡ None → place_of dir tree ≡ Nothing
unfolding place_of
no_place dir tree is = ap (λ (o : Option Node). place_by o (files_in dir tree)) is

pub folder_place : (dir : List ℕ) (tree : Tree) → stands tree.names dir ≡ Some Folder_node
    → place_of dir tree ≡ Stands_with (files_in dir tree)
unfolding place_of
folder_place dir tree is = ap (λ (o : Option Node). place_by o (files_in dir tree)) is

pub file_place : (dir : List ℕ) (tree : Tree) (id : ℕ) → stands tree.names dir ≡ Some (File_node id)
    → place_of dir tree ≡ Not_a_folder
unfolding place_of
file_place dir tree id is = ap (λ (o : Option Node). place_by o (files_in dir tree)) is
