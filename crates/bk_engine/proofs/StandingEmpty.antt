-- A store's folder without any log stands for nothing.
use Rattle.std.specs.Prelude.{◌≡◌, ℕ, ◌+◌, ◌≤◌, nat_eq, List, [], ◌∷◌, ◌++◌, Some, None}
use Rattle.std.proofs.Common.{refl, sym, ap, subst, ◌∙◌}
use Rattle.std.specs.List.{flat_map, IsDistinct}
use Rattle.std.specs.Ordering.{nat_cmp}
use Rattle.std.specs.Cmp.{nat_cmp_total}
use Rattle.std.specs.FinMap as finmap
use Rattle.lsm_rows.specs.declared.rows.Row.{Row}
use Rattle.lsm_rows.specs.Contents.{contents_of}
use Rattle.lsm_rows.specs.Replay.{Contents}
use Rattle.lsm_version.specs.declared.tables.Placed.{Placed}
use Rattle.lsm_version.specs.Levels.{Tables}
use Rattle.lsm_folder.specs.Files.{Files}
use Rattle.lsm_folder.specs.Manifests.{first_edit, manifest_text, tables_after, last_after}
use Rattle.lsm_folder.specs.Needed.{Stands, sequences}
use Rattle.lsm_folder.specs.Parts.{AreLawful, AreLogs, HasParts, rows_of_tables}
use Rattle.lsm_folder.proofs.FirstEditLemmas.{first_edits, first_tables, first_log, first_last, no_entries}
use Rattle.lsm_folder.proofs.LiveLemmas.{same_entries}
use Rattle.lsm_folder.proofs.ManifestLemmas.{manifest_written}
use Rattle.lsm_folder.proofs.PartsLemmas.{parts_stand}
use Rattle.bk_engine.specs.Standing.{HasNoLog}

-- ---- no tables and no logs

abbrev rows : ℕ → List Row
rows number = []

abbrev logs : finmap.FinMap nat_cmp (List ℕ)
logs = finmap.empty

nowhere : (number : ℕ) (placed : Placed) → finmap.get (tables_after (first_edit ∷ [])) number ≡ Some placed → ⊥
nowhere number placed there =
    let clash : Some placed ≡ None = sym there ∙ ap (λ (tables : Tables). finmap.get tables number) first_tables ∙ finmap.get-empty nat_cmp number in
    cc

no_rows : rows_of_tables (tables_after (first_edit ∷ [])) rows ≡ []
no_rows =
    ap (λ (tables : Tables). rows_of_tables tables rows) first_tables
    ∙ ap (λ (es : List (ℕ × Placed)). flat_map (λ (table : ℕ × Placed). rows table.0) es) no_entries

no_logs : finmap.entries logs ≡ []
no_logs =
    ap finmap.entries (finmap.same_map nat_cmp_total finmap.nat_cmp-IsAntisymmetric logs (finmap.from_entries {R = nat_cmp} [])
    (λ number. finmap.get-empty nat_cmp number ∙ sym (finmap.get-from_entries nat_cmp_total [] number)))
    ∙ same_entries nat_cmp nat_cmp_total [] tt finmap.nat_cmp-IsAntisymmetric

lawful : AreLawful (first_edit ∷ []) rows
unfolding IsDistinct
lawful = record {
  leveled = record {
    apart = λ m n a b at_m at_n other low same. absurd (nowhere m a at_m);
    older = λ m n a b at_m at_n deeper. absurd (nowhere m a at_m);
  };
  listed = λ number placed there. absurd (nowhere number placed there);
  distinct = subst (λ (all : List Row). IsDistinct nat_eq (sequences all)) (sym no_rows) tt;
}

no_contents : contents_of [] ≡ finmap.empty
unfolding contents_of
no_contents = refl

-- ---- the folder

module _ (files : Files) (has : HasNoLog files) where
  parts : HasParts files (first_edit ∷ []) rows logs []
  unfolding AreLogs
  parts = record {
    manifest = 1;
    numbered = refl;
    current = has.current;
    text = manifest_text (first_edit ∷ []);
    there = has.manifest;
    edits_are = manifest_written (first_edit ∷ []) first_edits;
    tables = λ number placed there. absurd (nowhere number placed there);
    has_logs = record {
      there = λ number live. has.no_log number (subst (λ (least : ℕ). least ≤ number) first_log live) ∙ sym (finmap.get-empty nat_cmp number);
      live = λ number bytes there. absurd (none_there number bytes there);
    };
    logs_are = subst (λ (es : List (ℕ × List ℕ)). AreLogs (last_after (first_edit ∷ []) + 1) es []) (sym no_logs) tt;
  }
    where
      none_there : (number : ℕ) (bytes : List ℕ) → finmap.get logs number ≡ Some bytes → ⊥
      none_there number bytes there =
          let clash : Some bytes ≡ None = sym there ∙ finmap.get-empty nat_cmp number in
          cc

  -- it stands for nothing
  pub empty_stands : Stands files finmap.empty 0
  empty_stands =
      subst (Stands files finmap.empty) first_last
      (subst (λ (all : Contents). Stands files all (last_after (first_edit ∷ []))) (ap (λ (all : List Row). contents_of (all ++ [])) no_rows ∙ no_contents)
      (parts_stand files (first_edit ∷ []) rows logs [] parts lawful))
