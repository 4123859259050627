-- The store that new parts make, as contracts see it.
use Rattle.std.specs.Prelude.{◌≡◌, ℕ, ◌+◌, ◌^◌, ◌<◌, ◌≤◌, true, false, is_some, List, [], ◌∷◌, length, All, None}
use Rattle.std.proofs.Common.{refl, sym, ap, ◌∙◌, arith}
use Rattle.std.specs.Ordering.{nat_cmp}
use Rattle.std.proofs.lemmas.List.Elements.{All-nil, All-cons, All-weaker}
use Rattle.std.specs.FinMap as finmap
use Rattle.lsm_names.specs.FileNames.{IsFileName}
use Rattle.lsm_names.specs.declared.file_names.FileName.{FileName}
use Rattle.lsm_names.specs.declared.file_names.FileName.TheVariants.{Log, Table, Manifest, Temp, Current}
use Rattle.lsm_rows.specs.declared.rows.Row.{Row}
use Rattle.lsm_disk.specs.State.{Seen}
use Rattle.lsm_disk.specs.Dest.{path_in}
use Rattle.lsm_disk.specs.Viewed.{Viewed}
use Rattle.lsm_version.specs.Levels.{Tables}
use Rattle.lsm_version.specs.Versions.{empty_version}
use Rattle.lsm_core.specs.Catalogs.{AreOfLive, kept_with}
use Rattle.lsm_opening.proofs.RecoveredFolders.{fits_number}
use Rattle.lsm_recover.specs.Site.{IsBefore}
use Rattle.lsm_refine.specs.Kept.{KeptPin}
use Rattle.lsm_refine.specs.Grown.{IsDrawn}
use Rattle.lsm_refine.specs.Within.{IsNamedJob}
use Rattle.lsm_refine.specs.New.{first_manifest, new_names, new_store}
use Rattle.lsm_flush.specs.declared.frozen.Held.TheVariants.{Rows}
use Rattle.lsm_store.specs.Inside.{HasShortKey, Inner, IsInside, shown_of}

-- what a store holds that was made of new parts
abbrev pub new_inner : Seen → List ℕ → ℕ → List FileName → Inner
new_inner seen dir m beside = record {
  disk = seen;
  home = dir;
  wal = record { path = path_in dir (Log (m + 1)); len = 0 };
  log = m + 1;
  older = None;
  older_len = 0;
  active = [];
  frozen = Rows [];
  sequence = 0;
  next = m + 2;
  known = new_names m beside;
  halt = None;
  manifest = record { dir = dir; number = m; path = path_in dir (Manifest m); len = length (first_manifest m) };
  catalog = kept_with empty_version finmap.empty (m + 1) 0 [] 0 0;
  begun = None;
  hand = None;
}

-- contracts see a new store
pub new_shown : (seen : Seen) (dir : List ℕ) (m : ℕ) (beside : List FileName)
    → shown_of (new_inner seen dir m beside) ≡ new_store seen dir m beside
new_shown seen dir m beside = refl

drawn : (m : ℕ) (name : FileName) → IsBefore m name → IsDrawn (m + 2) name
drawn m (Log n) is = omega (arith, is.1)
drawn m (Table n) is = omega (arith, is.1)
drawn m (Manifest n) is = omega (arith, is.1)
drawn m (Temp n) is = omega (arith, is.1)
drawn m Current is = tt

-- it is as every store is
pub new_inside : (seen : Seen) (dir : List ℕ) (m : ℕ) (beside : List FileName) → 1 ≤ m → m + 2 < 2 ^ 56
    → All (IsBefore m) beside → IsInside (new_inner seen dir m beside)
new_inside seen dir m beside least small before = record {
  path_is = refl;
  manifest_in = refl;
  manifest_is = refl;
  before = All-nil (λ (row : Row). row.sequence < 1);
  small = omega arith;
  one = λ none. refl;
  drawn = omega arith;
  most = small;
  below = All-cons (IsDrawn (m + 2)) Current (Manifest m ∷ Log (m + 1) ∷ beside) tt
      (All-cons (IsDrawn (m + 2)) (Manifest m) (Log (m + 1) ∷ beside) (omega arith)
      (All-cons (IsDrawn (m + 2)) (Log (m + 1)) beside (omega arith)
      (All-weaker (IsBefore m) (IsDrawn (m + 2)) (drawn m) beside before)));
  fit = All-cons IsFileName Current (Manifest m ∷ Log (m + 1) ∷ beside) tt
      (All-cons IsFileName (Manifest m) (Log (m + 1) ∷ beside) (fits_number m least (omega (arith, small)))
      (All-cons IsFileName (Log (m + 1)) beside (fits_number (m + 1) (omega arith) (omega (arith, small)))
      (All-weaker (IsBefore m) IsFileName (λ name is. is.0) beside before)));
  flush = record {
    log_number = record { some = omega arith; most = omega (arith, small) };
    active_keys = All-nil HasShortKey;
    frozen_keys = All-nil HasShortKey;
    below = λ number is.
        let clash : false ≡ true = sym (ap is_some (finmap.get-empty nat_cmp number)) ∙ is in
        absurd (cc);
    table = tt;
  };
  jobs = All-nil (λ (pin : KeptPin). IsNamedJob pin.job);
}

-- no table is open
pub none_open : (tables : Tables) (views : finmap.FinMap nat_cmp Viewed) → views ≡ finmap.empty → AreOfLive tables views
none_open tables views none number is =
    let clash : false ≡ true =
    sym (ap is_some (finmap.get-empty nat_cmp number))
    ∙ ap (λ (v : finmap.FinMap nat_cmp Viewed). is_some (finmap.get v number)) (sym none) ∙ is in
    absurd (cc)
