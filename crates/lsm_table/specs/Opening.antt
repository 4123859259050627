-- How a table's text is opened: its footer, its index and its properties. The tests come in the order in which they
-- stand here, and the first that fails tells what is wrong.
use Rattle.std.specs.Prelude.{◌≡◌, Bool, ℕ, ◌+◌, ◌-◌, ◌==◌, ◌&&◌, ◌⊎◌, ◌^◌, ◌<◌, ◌++◌, All, nat_eq, nat_lt, if◌then◌else◌, List, length, take, drop, get_or, Result, Ok, Err}
use Rattle.std.specs.Cmp.Lexicographic.{pointwise}
use Rattle.lsm_bytes.specs.Checksum.{crc32c, masked}
use Rattle.lsm_bytes.specs.Varint.{varint}
use Rattle.lsm_bytes.specs.Numbers.{number_at}
use Rattle.lsm_names.specs.Sessions.{is_session}
use Rattle.lsm_block.specs.declared.entries.Entry.{Entry}
use Rattle.lsm_block.specs.Blocks.{IsBlockText}
use Rattle.lsm_block.specs.TableText.{magic}
use Rattle.lsm_table.specs.declared.faults.TableFault.{TableFault}
use Rattle.lsm_table.specs.declared.faults.TableFault.TheVariants.{ReadFault, Damaged, Malformed, NoMemory}
use Rattle.lsm_table.specs.declared.parts.Places.{Places}
use Rattle.lsm_table.specs.declared.parts.Properties.{Properties}

-- so many bytes of a text, from a place on
abbrev pub part_at : ℕ → ℕ → List ℕ → List ℕ
part_at place len text = take len (drop place text)

-- the places that a footer tells
abbrev pub places_in : List ℕ → Places
places_in footer = record { index = number_at 8 footer 0; len = number_at 8 footer 8; properties = number_at 8 footer 16 }

-- index, properties and footer lie directly behind each other
abbrev pub lie_in_turn : Places → ℕ → Bool
lie_in_turn p footer = nat_eq (p.index + p.len + 5) p.properties && nat_eq (p.properties + 41) footer

-- what the footer at a place tells: its last 8 bytes are those of a table, its checksum is right, and its places fit
unfoldable pub footer_in : ℕ → List ℕ → Result Places TableFault
footer_in place footer =
    if pointwise nat_eq (drop 28 footer) magic
    then if number_at 4 footer 24 == masked (crc32c (take 24 footer))
    then if lie_in_turn (places_in footer) place then Ok (places_in footer) else Err (Malformed place)
    else Err (Damaged place (number_at 4 footer 24) (masked (crc32c (take 24 footer))))
    else Err (Malformed place)

-- the footer of a text is its last 36 bytes
unfoldable pub footer_of : List ℕ → Result Places TableFault
footer_of text = if nat_lt (length text) 36 then Err (Malformed 0) else footer_in (length text - 36) (drop (length text - 36) text)

-- The contents of a stored part, which are all but its last five bytes: behind them stand a byte 0 and their checksum.
unfoldable pub contents_in : ℕ → List ℕ → Result (List ℕ) TableFault
contents_in place part =
    if get_or part (length part - 5) 0 == 0
    then if number_at 4 part (length part - 4) == masked (crc32c (take (length part - 4) part))
    then Ok (take (length part - 5) part)
    else Err (Damaged place (number_at 4 part (length part - 4)) (masked (crc32c (take (length part - 4) part))))
    else Err (Malformed place)

-- the contents of so many bytes that are stored at a place
abbrev pub contents_at : ℕ → ℕ → List ℕ → Result (List ℕ) TableFault
contents_at place len text = contents_in place (part_at place (len + 5) text)

-- the properties that contents tell, where their session is spelled as one
unfoldable pub properties_in : ℕ → List ℕ → Result Properties TableFault
properties_in place contents =
    if is_session (take 20 (drop 8 contents))
    then Ok (record { number = number_at 8 contents 0; session = take 20 (drop 8 contents); rows = number_at 8 contents 28 })
    else Err (Malformed place)

-- the properties in contents, where these are right
abbrev pub told_by : ℕ → Result (List ℕ) TableFault → Result Properties TableFault
told_by place (Ok contents) = properties_in place contents
told_by place (Err fault) = Err fault

-- the properties that a text has at a place
abbrev pub properties_at : ℕ → List ℕ → Result Properties TableFault
properties_at place text = told_by place (contents_at place 36 text)

-- the value of an index's entry tells the place of a data block and the length of its contents
pub record TellsPlace (value : List ℕ) (place len : ℕ) : Type 0 where
  pub text : value ≡ varint place ++ varint len
  pub place_fits : place < 2 ^ 64
  pub len_fits : len < 2 ^ 64

-- an entry tells some block's
pub record TellsBlock (e : Entry) : Type 0 where
  pub place : ℕ
  pub len : ℕ
  pub tells : TellsPlace e.value place len

-- the contents are a block whose entries tell blocks
pub record IsIndexText (contents : List ℕ) (index : List Entry) : Type 0 where
  pub block : IsBlockText contents index
  pub places : All TellsBlock index

-- a text has an index with these entries where its footer tells it
pub record IsIndex (text : List ℕ) (places : Places) (index : List Entry) : Type 0 where
  pub contents : List ℕ
  pub stored : contents_at places.index places.len text ≡ Ok contents
  pub is : IsIndexText contents index

-- what is stored as index is right and is no index's contents
pub record IsNoIndex (text : List ℕ) (places : Places) : Type 0 where
  pub contents : List ℕ
  pub stored : contents_at places.index places.len text ≡ Ok contents
  pub none : (es : List Entry) → ¬ IsIndexText contents es

-- a text is opened to these properties and the entries of this index
pub record Opens (text : List ℕ) (properties : Properties) (index : List Entry) : Type 0 where
  pub places : Places
  pub footer : footer_of text ≡ Ok places
  pub is_index : IsIndex text places index
  pub told : properties_at places.properties text ≡ Ok properties

-- a reading ends with this fault; a fault of the view and want of memory say nothing of the text
unfoldable pub IsFaultOf : {A : Type 0} → Result A TableFault → TableFault → Type 0
IsFaultOf read ReadFault = Unit {0}
IsFaultOf read (Damaged place kept found) = read ≡ Err (Damaged place kept found)
IsFaultOf read (Malformed place) = read ≡ Err (Malformed place)
IsFaultOf read NoMemory = Unit {0}

-- what is wrong with an index: how it is stored, or its contents
abbrev pub IsIndexFault : List ℕ → Places → TableFault → Type 0
IsIndexFault text places fault = IsFaultOf (contents_at places.index places.len text) fault
    ⊎ ((fault ≡ Malformed places.index) × IsNoIndex text places)

-- the properties are wrong, where the index is right
pub record IsPropertiesFault (text : List ℕ) (places : Places) (fault : TableFault) : Type 0 where
  pub index : List Entry
  pub is_index : IsIndex text places index
  pub fault_is : IsFaultOf (properties_at places.properties text) fault

-- the footer is right, and the index or the properties are wrong
pub record IsPartFault (text : List ℕ) (fault : TableFault) : Type 0 where
  pub places : Places
  pub footer : footer_of text ≡ Ok places
  pub fault_is : IsIndexFault text places fault ⊎ IsPropertiesFault text places fault

-- why a text isn't opened
abbrev pub IsRefused : List ℕ → TableFault → Type 0
IsRefused text fault = IsFaultOf (footer_of text) fault ⊎ IsPartFault text fault

-- the two faults that say nothing of the text
unfoldable pub IsOutside : TableFault → Type 0
IsOutside ReadFault = Unit {0}
IsOutside (Damaged place kept found) = ⊥
IsOutside (Malformed place) = ⊥
IsOutside NoMemory = Unit {0}
