-- How far a record was read.
use Rattle.std.proofs.Common.{◌≡◌, ℕ, ◌+◌, ◌%◌, ◌≤◌, List, [], length, take, drop, Option, Some, None, refl, ap, sym, subst, ◌∙◌, arith}
use Rattle.lsm_io.specs.Causes.{Rose}
use Rattle.lsm_disk.specs.Viewed.{Viewed}
use Rattle.lsm_frame.specs.Records.{Ending, ended}
use Rattle.lsm_frame.specs.declared.ending.Ending.TheVariants.{End}
use Rattle.lsm_frame.specs.Reader.{Tells, Stays}
use Rattle.lsm_frame.specs.Reading.{left, in_block, under_way, IsReady, IsStep, Leads}
use Rattle.lsm_frame.specs.Loaded.{size_at, base_of, IsLoaded, Loads}
use Rattle.lsm_frame.specs.declared.steps.Step.{Step}
use Rattle.lsm_frame.specs.declared.steps.Step.TheVariants.{More}
use Rattle.lsm_frame.proofs.Here.{here_none}
use Rattle.lsm_frame.proofs.OnePiece.{reading_stops}
use Rattle.lsm_frame.proofs.Loading.{loaded_at, rest_long, rest_told}
use Rattle.std.proofs.lemmas.List.{length-drop}

pub stays_same : (v : Viewed) → Stays v v
stays_same v = record { bytes = refl; len = refl; faults = omega arith }

pub stays_trans : (a b c : Viewed) → Stays a b → Stays b c → Stays a c
stays_trans a b c first second = record { bytes = second.bytes ∙ first.bytes; len = second.len ∙ first.len; faults = omega (arith, first.faults, second.faults) }

pub rose_later : (a b c : ℕ) → a ≤ b → Rose b c → Rose a c
rose_later a b c le rose = omega arith

pub tells_still : (a b : Viewed) (text : List ℕ) → Stays a b → Tells a text → Tells b text
tells_still a b text stays told = record { bytes = stays.bytes ∙ told.bytes; whole = told.whole ∙ sym stays.len }

-- a record is looked for from one place on, and reading has come to another
pub record Going (was now : Viewed) (buffer : List ℕ) (base : Option ℕ) (from at : ℕ) (begun : Option ℕ) (payload : List ℕ) : Type 0 where
  pub loads : Loads now buffer base
  pub stays : Stays was now
  pub reached : from ≤ at
  pub inside : at ≤ was.len
  pub ready : IsReady begun payload
  pub same : (text : List ℕ) → Tells was text → left None from text ≡ left (under_way begun payload) at text

-- one step over the bytes of a block
pub record Stepped (was now : Viewed) (buffer : List ℕ) (at : ℕ) (rest : List ℕ) (begun : Option ℕ) (old new : List ℕ) (step : Step) : Type 0 where
  pub stays : Stays was now
  pub inside : at ≤ was.len
  pub loaded : IsLoaded now buffer (base_of at)
  pub rest_is : rest ≡ drop (at % 32768) (take (size_at was.len (base_of at)) buffer)
  pub is : (text : List ℕ) → rest ≡ in_block at text → IsStep (under_way begun old) at text new step
  pub leads : Leads at (length rest) new step

module _ (was now : Viewed) (buffer : List ℕ) (at : ℕ) (rest : List ℕ) (begun : Option ℕ) (old new : List ℕ) (step : Step) (s : Stepped was now buffer at rest begun old new step) where
  here_rest : rest ≡ drop (at % 32768) (take (size_at now.len (base_of at)) buffer)
  here_rest = s.rest_is ∙ ap (λ (n : ℕ). drop (at % 32768) (take (size_at n (base_of at)) buffer)) (sym s.stays.len)

  here_inside : at ≤ now.len
  here_inside = rw s.stays.len s.inside

  pub is_step : (text : List ℕ) → Tells was text → IsStep (under_way begun old) at text new step
  is_step text told = s.is text (rest_told now buffer rest at here_inside s.loaded here_rest text (tells_still was now text s.stays told))

  pub rest_inside : at + length rest ≤ was.len
  rest_inside = omega (arith, rest_long now buffer rest at here_inside s.loaded here_rest, s.inside, s.stays.len)

-- the text ends where reading has come to
pub going_over : (was now : Viewed) (buffer : List ℕ) (base : Option ℕ) (from at : ℕ) (begun : Option ℕ) (payload : List ℕ) (last : Ending) → Going was now buffer base from at begun payload → was.len ≤ at → last ≡ ended (under_way begun payload) End
    → (text : List ℕ) → Tells was text → left None from text ≡ ([], last)
going_over was now buffer base from at begun payload last g past is text told =
    g.same text told
    ∙ reading_stops (under_way begun payload) at (at % 32768) (drop at text) End (here_none at (at % 32768) (drop at text) (omega (arith, length-drop at text, told.whole)))
    ∙ ap (λ (x : Ending). (let none : List (ℕ × List ℕ) = [] in (none, x))) (sym is)

-- the step that was made over the bytes in memory
pub stepped : (was mid now : Viewed) (buffer held : List ℕ) (base : Option ℕ) (len at : ℕ) (rest : List ℕ) (begun : Option ℕ) (old new : List ℕ) (made step : Step) → Stays was mid → Stays mid now → at ≤ was.len → base ≡ Some (base_of at) → Loads now buffer base
    → len ≡ was.len → held ≡ buffer → rest ≡ drop (at % 32768) (take (size_at len (base_of at)) held) → made ≡ step
    → ((text : List ℕ) → rest ≡ in_block at text → IsStep (under_way begun old) at text new made) → Leads at (length rest) new made → Stepped was now buffer at rest begun old new step
stepped was mid now buffer held base len at rest begun old new made step first second inside at_base loads long same rest_is is_made is leads = record {
  stays = stays_trans was mid now first second;
  inside = inside;
  loaded = loaded_at now buffer base (base_of at) at_base loads;
  rest_is = rest_is ∙ ap (λ (n : ℕ). drop (at % 32768) (take (size_at n (base_of at)) held)) long ∙ ap (λ (l : List ℕ). drop (at % 32768) (take (size_at was.len (base_of at)) l)) same;
  is = subst (λ (s : Step). (text : List ℕ) → rest ≡ in_block at text → IsStep (under_way begun old) at text new s) is_made is;
  leads = subst (λ (s : Step). Leads at (length rest) new s) is_made leads;
}

-- there is room for the block in memory
pub has_room : (was mid now : Viewed) (buffer held : List ℕ) (base : Option ℕ) (len at : ℕ) → Stays was mid → Stays mid now → base ≡ Some (base_of at) → Loads now buffer base → len ≡ was.len → held ≡ buffer → size_at len (base_of at) ≤ length held
has_room was mid now buffer held base len at first second at_base loads long same =
    let l = loaded_at now buffer base (base_of at) at_base loads in
    rw (long, same, ← first.len, ← second.len) l.room

-- what a step makes of a record that is looked for
pub going_on : (was mid now : Viewed) (buffer before : List ℕ) (base base0 : Option ℕ) (from at : ℕ) (rest : List ℕ) (begun next_begun : Option ℕ) (old new : List ℕ) (next : ℕ) → Going was mid before base0 from at begun old → Loads now buffer base
    → Stepped was now buffer at rest begun old new (More next_begun next) → Going was now buffer base from next next_begun new
going_on was mid now buffer before base base0 from at rest begun next_begun old new next g loads s = record {
  loads = loads;
  stays = s.stays;
  reached = omega (arith, g.reached, s.leads.0);
  inside = omega (arith, s.leads.1, rest_inside was now buffer at rest begun old new (More next_begun next) s);
  ready = s.leads.2;
  same = λ (text : List ℕ) (told : Tells was text). g.same text told ∙ is_step was now buffer at rest begun old new (More next_begun next) s text told;
}
