use Rattle.std.proofs.Common.{List, [], length, arith, ℕ, ◌≡◌, ◌++◌, true, ap, sym, subst, ◌∙◌}
use Rattle.std.specs.Prelude.{codes, IsTrue}
use Rattle.std.specs.Fmt.{decimal}
use Rattle.lsm_names.specs.Paths.{is_path}
use Rattle.lsm_names.specs.declared.file_names.FileName.{FileName}
use Rattle.lsm_names.specs.FileNames.{spelled}
use Rattle.lsm_names.proofs.FileNameLemmas.{spelled_is_short}
use Rattle.bk_meta.specs.declared.backup_files.BackupFile.TheVariants.{Private}
use Rattle.bk_meta.specs.BackupFiles.{path_of, IsBackupFile}
use Rattle.bk_meta.proofs.FileLemmas.{file_has_path, private_is_named}
use Rattle.bk_engine.proofs.PathTexts.{three_parts, is_own_path}
use Rattle.bk_engine.proofs.places.own_path.Goals as goal

written : (none one two three text digits last : List ℕ) (id : ℕ) (name : FileName) → none ≡ [] → one ≡ none ++ codes "private/" → two ≡ one ++ digits → three ≡ two ++ codes "/" → text ≡ three ++ last → digits ≡ decimal id → last ≡ spelled name
    → text ≡ path_of id (Private name)
written none one two three text digits last id name empty first second third fourth same named =
    fourth ∙ ap (λ (l : List ℕ). l ++ last) (three_parts none one two three (codes "private/") digits (codes "/") empty first second third)
    ∙ (λ i. codes "private/" ++ same i ++ codes "/" ++ named i) ∙ sym (is_own_path id name)

pub push_str-requires-4 : goal.push_str-requires-4
push_str-requires-4 c =
    let short = spelled_is_short c.args.name.now (private_is_named c.args.name.now c.requires) in
    (omega arith, omega (arith, ap length c.new-text.ensures, c.push_str.ensures.len, c.push_str-2.ensures.len, c.push_str-3.ensures.len, c.format.ensures.short, short, ap length (c.as_str.ensures.value ∙ c.print.ensures)))

pub path_of-requires : goal.path_of-requires
path_of-requires c =
    subst (λ (t : List ℕ). is_path t ≡ true) (sym (written c.new-text.result.bytes c.push_str.new.self.bytes c.push_str-2.new.self.bytes c.push_str-3.new.self.bytes c.push_str-4.new.self.bytes c.format.result.now c.as_str.result.now c.args.id c.args.name.now
    c.new-text.ensures c.push_str.ensures.bytes c.push_str-2.ensures.bytes c.push_str-3.ensures.bytes c.push_str-4.ensures.bytes c.format.ensures.text (c.as_str.ensures.value ∙ c.print.ensures)))
    (file_has_path c.args.id (Private c.args.name.now) c.ranges.id.fits c.requires)

pub returns : goal.returns
returns c =
    c.path_of.ensures ∙ written c.new-text.result.bytes c.push_str.new.self.bytes c.push_str-2.new.self.bytes c.push_str-3.new.self.bytes c.push_str-4.new.self.bytes c.format.result.now c.as_str.result.now c.args.id c.args.name.now
    c.new-text.ensures c.push_str.ensures.bytes c.push_str-2.ensures.bytes c.push_str-3.ensures.bytes c.push_str-4.ensures.bytes c.format.ensures.text (c.as_str.ensures.value ∙ c.print.ensures)
