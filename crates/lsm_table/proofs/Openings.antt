-- What the parts of a table tell of its text.
use Rattle.std.proofs.Common.{◌≡◌, ◌≢◌, inl, inr, ℕ, ◌-◌, ◌<◌, ◌≤◌, List, length, take, drop, Result, Ok, Err, IfOk, IfErr, MatchResult, refl, ap, sym, subst, All, ◌∙◌, arith}
use Rattle.std.specs.Result.{IsErrAnd}
use Rattle.std.proofs.lemmas.Bool.Decides.{nat_tests}
use Rattle.std.proofs.lemmas.List.{length-drop, take_all}
use Rattle.lsm_disk.specs.Viewed.{Viewed}
use Rattle.lsm_frame.specs.Reader.{Tells, Stays}
use Rattle.lsm_block.specs.declared.entries.Entry.{Entry}
use Rattle.lsm_block.specs.declared.errors.BlockError.TheVariants as block
use Rattle.lsm_block.specs.Blocks.{IsBlockText, IsBad}
use Rattle.lsm_block.proofs.Readings.{block_once}
use Rattle.lsm_table.specs.declared.faults.TableFault.{TableFault}
use Rattle.lsm_table.specs.declared.faults.TableFault.TheVariants.{ReadFault, Damaged, Malformed, NoMemory}
use Rattle.lsm_table.specs.declared.parts.Places.{Places}
use Rattle.lsm_table.specs.declared.parts.Properties.{Properties}
use Rattle.lsm_table.specs.Opening.{part_at, footer_in, footer_of, contents_at, told_by, properties_at, TellsBlock, IsIndex, IsFaultOf, IsIndexFault, IsRefused, IsOutside, Opens}
use Rattle.lsm_table.specs.Tables.{Shows, AreParts}
use Rattle.lsm_frame.proofs.Agreeing.{tells_before}

-- an exit that hands a fault on
pub by_fault : {T : Type 0} (P : TableFault → Type 0) (r : Result T TableFault) (e : TableFault) → IsErrAnd r (λ x. x ≡ e) → P e → IfErr r P
by_fault P (Ok x) e is p = absurd is
by_fault P (Err y) e is p = subst P (sym is) p

pub match_fault : {T : Type 0} (P : TableFault → Type 0) (Q : T → Type 0) (r : Result T TableFault) (e : TableFault) → IsErrAnd r (λ x. x ≡ e) → P e → MatchResult r Q P
match_fault P Q (Ok x) e is p = absurd is
match_fault P Q (Err y) e is p = subst P (sym is) p

-- a fault of the view or of memory says nothing
pub outside_fault : {A : Type 0} (read : Result A TableFault) (e : TableFault) → IsOutside e → IsFaultOf read e
unfolding IsFaultOf IsOutside
outside_fault read ReadFault is = tt
outside_fault read (Damaged place kept found) is = absurd is
outside_fault read (Malformed place) is = absurd is
outside_fault read NoMemory is = tt

pub no_memory : {A : Type 0} (read : Result A TableFault) → IsFaultOf read NoMemory
unfolding IsFaultOf
no_memory read = tt

-- what a reading refuses is its fault
pub fault_told : {A : Type 0} (read : Result A TableFault) (e : TableFault) → read ≡ Err e → IsFaultOf read e
unfolding IsFaultOf
fault_told read ReadFault is = tt
fault_told read (Damaged place kept found) is = is
fault_told read (Malformed place) is = is
fault_told read NoMemory is = tt

-- the fault of a reading is that of another which begins with it
pub carried : {A B : Type 0} (read : Result A TableFault) (other : Result B TableFault) (e : TableFault) → ((f : TableFault) → read ≡ Err f → other ≡ Err f) → IsFaultOf read e → IsFaultOf other e
unfolding IsFaultOf
carried read other ReadFault on is = tt
carried read other (Damaged place kept found) on is = on (Damaged place kept found) is
carried read other (Malformed place) on is = on (Malformed place) is
carried read other NoMemory on is = tt

-- an answer that is each text's reading
pub ok_all : {A : Type 0} (v : Viewed) (r : Result A TableFault) (read : List ℕ → Result A TableFault) → ((text : List ℕ) → Tells v text → read text ≡ r)
    → IfOk r (λ x. (text : List ℕ) → Tells v text → read text ≡ Ok x)
ok_all v (Ok x) read same = same
ok_all v (Err e) read same = tt

pub err_all : {A : Type 0} (v : Viewed) (r : Result A TableFault) (read : List ℕ → Result A TableFault) → ((text : List ℕ) → Tells v text → read text ≡ r)
    → IfErr r (λ e. (text : List ℕ) → Tells v text → IsFaultOf (read text) e)
err_all v (Ok x) read same = tt
err_all v (Err e) read same = λ text told. fault_told (read text) e (same text told)

-- a fault of the bytes has no cause in the view
pub no_cause : {A : Type 0} (X : Type 0) (r : Result A TableFault) → IfErr r (λ e. e ≢ ReadFault) → IfErr r (λ e. e ≡ ReadFault → X)
no_cause X (Ok x) inside = tt
no_cause X (Err e) inside = λ is. absurd (inside is)

pub short_footer : (text : List ℕ) → length text < 36 → footer_of text ≡ Err (Malformed 0)
unfolding footer_of
short_footer text less = grind (arith, nat_tests)

pub long_footer : (text : List ℕ) → 36 ≤ length text → footer_of text ≡ footer_in (length text - 36) (drop (length text - 36) text)
unfolding footer_of
long_footer text more = grind (arith, nat_tests)

-- a text of fewer bytes than a footer has
pub footer_short : (v : Viewed) (text : List ℕ) → Tells v text → v.len < 36 → IsFaultOf (footer_of text) (Malformed 0)
footer_short v text told less = fault_told (footer_of text) (Malformed 0) (short_footer text (omega (arith, told.whole)))

-- the last bytes of a text are its footer
pub footer_read : (v : Viewed) (text part : List ℕ) (place : ℕ) → Tells v text → 36 ≤ v.len → place ≡ v.len - 36 → part ≡ part_at place 36 text → footer_of text ≡ footer_in place part
footer_read v text part place told long at is =
    let place_is : length text - 36 ≡ place = omega (arith, told.whole) in
    let all : take 36 (drop place text) ≡ drop place text = take_all 36 (drop place text) (omega (arith, told.whole, length-drop place text)) in
    long_footer text (omega (arith, told.whole)) ∙ ap (λ (n : ℕ). footer_in n (drop n text)) place_is ∙ ap (λ (l : List ℕ). footer_in place l) (sym all ∙ sym is)

-- contents that are no block's
pub no_block : (bytes : List ℕ) (place : ℕ) → IsBad bytes (block.Malformed place) → (es : List Entry) → ¬ IsBlockText bytes es
unfolding IsBad
no_block bytes place bad = bad.none

pub index_malformed : (text contents : List ℕ) (places : Places) (place : ℕ) → contents_at places.index places.len text ≡ Ok contents → IsBad contents (block.Malformed place) → IsIndexFault text places (Malformed places.index)
index_malformed text contents places place stored bad = inr (refl, record { contents = contents; stored = stored; none = λ es is. no_block contents place bad es is.block })

-- a block of which an entry tells no block
pub index_strange : (text contents : List ℕ) (places : Places) (index : List Entry) → contents_at places.index places.len text ≡ Ok contents → IsBlockText contents index → ¬ All TellsBlock index → IsIndexFault text places (Malformed places.index)
index_strange text contents places index stored block strange = inr (refl, record { contents = contents; stored = stored; none = λ es is. strange (subst (All TellsBlock) (block_once contents es index is.block block) is.places) })

-- the properties behind contents
pub told_ok : (place : ℕ) (text : List ℕ) (contents : List ℕ) → contents_at place 36 text ≡ Ok contents → properties_at place text ≡ told_by place (Ok contents)
told_ok place text contents is = ap (λ (r : Result (List ℕ) TableFault). told_by place r) is

pub told_fault : (place : ℕ) (text : List ℕ) (e : TableFault) → IsFaultOf (contents_at place 36 text) e → IsFaultOf (properties_at place text) e
told_fault place text e fault = carried (contents_at place 36 text) (properties_at place text) e (λ f is. ap (λ (r : Result (List ℕ) TableFault). told_by place r) is) fault

pub index_refused : (text : List ℕ) (places : Places) (e : TableFault) → footer_of text ≡ Ok places → IsIndexFault text places e → IsRefused text e
index_refused text places e footer fault = inr (record { places = places; footer = footer; fault_is = inl fault })

pub properties_refused : (text : List ℕ) (places : Places) (index : List Entry) (e : TableFault) → footer_of text ≡ Ok places → IsIndex text places index → IsFaultOf (properties_at places.properties text) e → IsRefused text e
properties_refused text places index e footer is fault = inr (record { places = places; footer = footer; fault_is = inr (record { index = index; is_index = is; fault_is = fault }) })

pub parts_after : (a b : Viewed) (properties : Properties) (index : List Entry) → Stays a b → ((text : List ℕ) → Tells a text → Opens text properties index) → All TellsBlock index → AreParts b properties index
unfolding Shows
parts_after a b properties index stays opens places = record { shows = λ text told. opens text (tells_before a b text stays told); places = places }

-- an exit with a fault of the bytes has no cause in the view
pub outside_error : {T : Type 0} (X : Type 0) (r : Result T TableFault) (e : TableFault) → IsErrAnd r (λ x. x ≡ e) → e ≢ ReadFault → IfErr r (λ x. x ≡ ReadFault → X)
outside_error X r e is inside = by_fault (λ x. x ≡ ReadFault → X) r e is (λ same. absurd (inside same))
