-- The script: its lines, and what a line asks for.
use Rattle.std.specs.Prelude.{ℕ, Bool, true, false, ◌&&◌, List, [], ◌∷◌, Option, Some, None, if◌then◌else◌, ◌==◌, codes}
use Rattle.std.specs.List.{slice_split, list_all}
use Rattle.std.specs.Str.{bytes_eq}
use Rattle.ldb_script.specs.Words.{is_word, is_actor, bytes_of_word}
use Rattle.ldb_script.specs.declared.line.Line.{Line}
use Rattle.ldb_script.specs.declared.line.Line.TheVariants.{Blank, Ask}
use Rattle.ldb_script.specs.declared.line.Command.{Command}
use Rattle.std.specs.Fmt.{decimal}
use Rattle.std.specs.Str.Parse.{digits_value}
use Rattle.lsm_names.specs.Folders.{is_folder_name}
use Rattle.bk_tree.specs.Places.{is_identifier}
use Rattle.ldb_script.specs.declared.line.Command.TheVariants.{Write, Sync, Get, Scan, State, ShowFolder, CreateBackup, ListBackups, RestoreBackup}
use Rattle.lsm_rows.specs.declared.operations.Op.{Op}
use Rattle.lsm_rows.specs.declared.operations.Op.TheVariants as ops

-- a last line is there only where the input goes on behind the last newline
abbrev pub without_empty_end : List (List ℕ) → List (List ℕ)
without_empty_end [] = []
without_empty_end ([] ∷ []) = []
without_empty_end ((b ∷ bs) ∷ []) = (b ∷ bs) ∷ []
without_empty_end (line ∷ next ∷ more) = line ∷ without_empty_end (next ∷ more)

-- the lines of an input, each ended by a newline or by the input's end
unfoldable pub lines : List ℕ → List (List ℕ)
lines bytes = without_empty_end (slice_split (λ b. b == 10) bytes)

-- an empty line, and a comment
abbrev pub is_blank : List ℕ → Bool
is_blank [] = true
is_blank (b ∷ bs) = b == 35

-- a put of what two words stand for, and a delete of what one does
abbrev pub a_put : Option (List ℕ) → Option (List ℕ) → Option Op
a_put None value = None
a_put (Some key) None = None
a_put (Some key) (Some value) = Some (ops.Put key value)

abbrev pub a_delete : Option (List ℕ) → Option Op
a_delete None = None
a_delete (Some key) = Some (ops.Delete key)

-- one operation, and those behind it
abbrev pub and_more : Option Op → Option (List Op) → Option (List Op)
and_more None more = None
and_more (Some op) None = None
and_more (Some op) (Some more) = Some (op ∷ more)

-- the operations that words name, one behind another: each is `put K V` or `del K`
unfoldable pub operations : List (List ℕ) → Option (List Op)
operations [] = Some []
operations (verb ∷ []) = None
operations (verb ∷ key ∷ []) = if bytes_eq verb (codes "del") then and_more (a_delete (bytes_of_word key)) (Some []) else None
operations (verb ∷ key ∷ value ∷ more) =
    if bytes_eq verb (codes "del") then and_more (a_delete (bytes_of_word key)) (operations (value ∷ more))
    else (if bytes_eq verb (codes "put") then and_more (a_put (bytes_of_word key) (bytes_of_word value)) (operations more) else None)

-- the operation that words begin with
abbrev pub first_operation : List (List ℕ) → Option Op
first_operation [] = None
first_operation (verb ∷ []) = None
first_operation (verb ∷ key ∷ []) = if bytes_eq verb (codes "del") then a_delete (bytes_of_word key) else None
first_operation (verb ∷ key ∷ value ∷ more) =
    if bytes_eq verb (codes "del") then a_delete (bytes_of_word key)
    else (if bytes_eq verb (codes "put") then a_put (bytes_of_word key) (bytes_of_word value) else None)

-- how many words name an operation
abbrev pub words_in : Op → ℕ
words_in (ops.Put key value) = 3
words_in (ops.Delete key) = 2

-- those that are at least one, and those that are exactly one
abbrev pub some_of : Option (List Op) → Option (List Op)
some_of None = None
some_of (Some []) = None
some_of (Some (op ∷ more)) = Some (op ∷ more)

abbrev pub one_of : Option (List Op) → Option (List Op)
one_of None = None
one_of (Some []) = None
one_of (Some (op ∷ [])) = Some (op ∷ [])
one_of (Some (op ∷ next ∷ more)) = None

-- the batch that words name: one operation, or `batch` and its operations
abbrev pub write_of : List (List ℕ) → Option (List Op)
write_of [] = None
write_of (verb ∷ words) = if bytes_eq verb (codes "batch") then some_of (operations words) else one_of (operations (verb ∷ words))

abbrev pub a_write : Bool → Option (List Op) → Option Command
a_write durable None = None
a_write durable (Some ops) = Some (Write durable ops)

abbrev pub a_get_of : Option (List ℕ) → Option Command
a_get_of None = None
a_get_of (Some key) = Some (Get key)

abbrev pub a_get : List (List ℕ) → Option Command
a_get [] = None
a_get (key ∷ []) = a_get_of (bytes_of_word key)
a_get (key ∷ more ∷ words) = None

-- a command of one word
abbrev pub a_bare : Command → List (List ℕ) → Option Command
a_bare command [] = Some command
a_bare command (word ∷ words) = None

-- the name of a folder
abbrev pub folder_of : List ℕ → Option (List ℕ)
folder_of word = if is_folder_name word then Some word else None

-- an identifier is spelled in decimal, without leading zeros, and is 1 to 4,294,967,295
abbrev pub is_spelled_identifier : ℕ → List ℕ → Bool
is_spelled_identifier id word = is_identifier id && bytes_eq word (decimal id)

unfoldable pub identifier_of : List ℕ → Option ℕ
identifier_of word = if is_spelled_identifier (digits_value 10 word) word then Some (digits_value 10 word) else None

abbrev pub a_show_of : Option (List ℕ) → Option Command
a_show_of None = None
a_show_of (Some name) = Some (ShowFolder name)

-- `dir DIR`
abbrev pub a_show : List (List ℕ) → Option Command
a_show (what ∷ word ∷ []) = if bytes_eq what (codes "dir") then a_show_of (folder_of word) else None
a_show words = None

abbrev pub a_restore_of : Option ℕ → Option (List ℕ) → Option Command
a_restore_of None name = None
a_restore_of (Some id) None = None
a_restore_of (Some id) (Some name) = Some (RestoreBackup id name)

-- `ID DIR`
abbrev pub a_restore : List (List ℕ) → Option Command
a_restore (word ∷ name ∷ []) = a_restore_of (identifier_of word) (folder_of name)
a_restore words = None

-- `create`, `list`, or `restore ID DIR`
abbrev pub a_backup : List (List ℕ) → Option Command
a_backup [] = None
a_backup (verb ∷ words) =
    if bytes_eq verb (codes "create") then a_bare CreateBackup words
    else (if bytes_eq verb (codes "list") then a_bare ListBackups words
    else (if bytes_eq verb (codes "restore") then a_restore words else None))

-- the words behind the actor: `get K`, `sync`, `scan`, `state`, `show dir DIR`, `backup` and what is asked of backups, or a
-- write, durable or not
abbrev pub command_of : List (List ℕ) → Option Command
command_of [] = None
command_of (verb ∷ words) =
    if bytes_eq verb (codes "get") then a_get words
    else (if bytes_eq verb (codes "sync") then a_bare Sync words
    else (if bytes_eq verb (codes "scan") then a_bare Scan words
    else (if bytes_eq verb (codes "state") then a_bare State words
    else (if bytes_eq verb (codes "show") then a_show words
    else (if bytes_eq verb (codes "backup") then a_backup words
    else (if bytes_eq verb (codes "durable") then a_write true (write_of words)
    else a_write false (write_of (verb ∷ words))))))))

abbrev pub asked_by : List ℕ → Option Command → Option Line
asked_by actor None = None
asked_by actor (Some command) = Some (Ask actor command)

abbrev pub line_of_words : List (List ℕ) → Option Line
line_of_words [] = None
line_of_words (actor ∷ words) = if is_actor actor then asked_by actor (command_of words) else None

-- What a line asks for, where it is in the grammar: nothing, or `ACTOR COMMAND` in words with exactly one space between two.
unfoldable pub line_of : List ℕ → Option Line
line_of bytes = if is_blank bytes then Some Blank
    else (if list_all is_word (slice_split (λ b. b == 32) bytes) then line_of_words (slice_split (λ b. b == 32) bytes) else None)
