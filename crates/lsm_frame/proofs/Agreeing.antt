-- A reader's fields go on agreeing.
use Rattle.std.proofs.Common.{◌≡◌, ℕ, ◌+◌, ◌≤◌, List, [], ◌∷◌, ◌++◌, length, Option, Some, None, refl, ap, sym, subst, ◌∙◌, arith}
use Rattle.std.proofs.lemmas.List.{length-append, append_assoc}
use Rattle.std.specs.Prelude.{slice_get}
use Rattle.lsm_disk.specs.Viewed.{Viewed}
use Rattle.lsm_frame.specs.Records.{Ending, records_of}
use Rattle.lsm_frame.specs.Reading.{left}
use Rattle.lsm_frame.specs.Reader.{Tells, Stays, IsRecord}
use Rattle.lsm_frame.specs.Loaded.{Loads}
use Rattle.lsm_frame.specs.Found.{StandsAt, Agrees, IsFound, LeadsTo}
use Rattle.lsm_frame.specs.declared.found.Found.{Found}
use Rattle.lsm_frame.specs.declared.found.Found.TheVariants.{Record}
use Rattle.lsm_frame.proofs.OnePiece.{reading_all}

-- nothing was read yet
pub agrees_new : (viewed : Viewed) (buffer : List ℕ) → Agrees viewed buffer None 0 0 None
agrees_new viewed buffer = record {
  loads = tt;
  inside = omega arith;
  counted = omega arith;
  read = λ (text : List ℕ) (told : Tells viewed text). record { before = []; count = refl; all = reading_all text };
}

pub tells_before : (was now : Viewed) (text : List ℕ) → Stays was now → Tells now text → Tells was text
tells_before was now text stays told = record { bytes = sym stays.bytes ∙ told.bytes; whole = told.whole ∙ stays.len }

-- a record is found at a place, and the next one is looked for at another
abbrev pub Finds : List ℕ → ℕ → ℕ → ℕ → List ℕ → Type 0
Finds text at place next payload = left None at text ≡ ((place, payload) ∷ (left None next text).0, (left None next text).1)

all_records : (text : List ℕ) (given at place next : ℕ) (payload : List ℕ) (s : StandsAt text given at) → Finds text at place next payload → records_of text ≡ (s.before ++ (place, payload) ∷ (left None next text).0, (left None next text).1)
all_records text given at place next payload s found = s.all ∙ ap (λ (r : List (ℕ × List ℕ) × Ending). (s.before ++ r.0, r.1)) found

stands_behind : (text : List ℕ) (given at place next : ℕ) (payload : List ℕ) → StandsAt text given at → Finds text at place next payload → StandsAt text (given + 1) next
stands_behind text given at place next payload s found = record {
  before = s.before ++ (place, payload) ∷ [];
  count = omega (arith, s.count, length-append s.before ((place, payload) ∷ []));
  all = all_records text given at place next payload s found ∙ ap (λ (l : List (ℕ × List ℕ)). (l, (left None next text).1)) (sym (append_assoc s.before ((place, payload) ∷ []) (left None next text).0));
}

get_behind : {A : Type 0} (front : List A) (x : A) (rest : List A) → slice_get (front ++ x ∷ rest) (length front) ≡ Some x
get_behind [] x rest = refl
get_behind (y ∷ front) x rest = get_behind front x rest

-- the record that is found is the text's
pub finds_record : (text : List ℕ) (given at place next : ℕ) (payload : List ℕ) → StandsAt text given at → Finds text at place next payload → IsRecord text given place payload
finds_record text given at place next payload s found =
    ap (λ (r : List (ℕ × List ℕ) × Ending). slice_get r.0 given) (all_records text given at place next payload s found)
    ∙ ap (λ (n : ℕ). slice_get (s.before ++ (place, payload) ∷ (left None next text).0) n) (sym s.count)
    ∙ get_behind s.before (place, payload) (left None next text).0

-- one record more was given
pub agrees_record : (was now : Viewed) (before buffer : List ℕ) (base0 base : Option ℕ) (given at place next : ℕ) (payload : List ℕ) (ended : Option Ending) → ended ≡ None → Agrees was before base0 given at ended → Loads now buffer base → Stays was now → (at + 7 ≤ next) × (next ≤ was.len)
    → ((text : List ℕ) → Tells was text → Finds text at place next payload) → Agrees now buffer base (given + 1) next ended
agrees_record was now before buffer base0 base given at place next payload ended none a loads stays leads found =
    subst (λ (e : Option Ending). Agrees now buffer base (given + 1) next e) (sym none) (go (subst (λ (e : Option Ending). Agrees was before base0 given at e) none a))
  where
    go : Agrees was before base0 given at None → Agrees now buffer base (given + 1) next None
    go a = record {
      loads = loads;
      inside = omega (arith, leads.1, stays.len);
      counted = omega (arith, a.counted, leads.0);
      read = λ (text : List ℕ) (told : Tells now text). (let was_told = tells_before was now text stays told in stands_behind text given at place next payload (a.read text was_told) (found text was_told));
    }

pub none_from : (ended : Option Ending) → ((e : Ending) → ended ≡ Some e → ⊥) → ended ≡ None
none_from None other = refl
none_from (Some e) other = absurd (other e refl)

-- what was found, where it is a record
pub found_record : (was : Viewed) (at place next : ℕ) (payload : List ℕ) (found : Found) → found ≡ Record place next payload → ((text : List ℕ) → Tells was text → IsFound text at found) → (text : List ℕ) → Tells was text → Finds text at place next payload
found_record was at place next payload found e is = subst (λ (f : Found). (text : List ℕ) → Tells was text → IsFound text at f) e is

pub leads_record : (at len place next : ℕ) (payload : List ℕ) (found : Found) → found ≡ Record place next payload → LeadsTo at len found → (at + 7 ≤ next) × (next ≤ len)
leads_record at len place next payload found e is = subst (λ (f : Found). LeadsTo at len f) e is
