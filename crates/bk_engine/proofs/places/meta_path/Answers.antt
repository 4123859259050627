use Rattle.std.proofs.Common.{List, [], ℕ, ◌≡◌, ◌++◌, true, ap, sym, subst, ◌∙◌}
use Rattle.std.specs.Prelude.{codes, IsTrue}
use Rattle.std.specs.Fmt.{decimal}
use Rattle.lsm_names.specs.Paths.{is_path}
use Rattle.bk_engine.proofs.PathTexts.{two_parts, meta_path_is_path, is_meta_path}
use Rattle.bk_engine.proofs.places.meta_path.Goals as goal

written : (none one text digits : List ℕ) (id : ℕ) → none ≡ [] → one ≡ none ++ codes "meta/" → text ≡ one ++ digits → digits ≡ decimal id → text ≡ codes "meta/" ++ decimal id
written none one text digits id empty first second same = two_parts none one text (codes "meta/") digits empty first second ∙ ap (λ (l : List ℕ). codes "meta/" ++ l) same

pub path_of-requires : goal.path_of-requires
path_of-requires c =
    subst (λ (t : List ℕ). is_path t ≡ true) (sym (written c.new-text.result.bytes c.push_str.new.self.bytes c.push_str-2.new.self.bytes c.format.result.now c.args.id c.new-text.ensures c.push_str.ensures.bytes c.push_str-2.ensures.bytes c.format.ensures.text))
    (meta_path_is_path c.args.id c.ranges.id.fits)

pub returns : goal.returns
returns c =
    c.path_of.ensures ∙ written c.new-text.result.bytes c.push_str.new.self.bytes c.push_str-2.new.self.bytes c.format.result.now c.args.id c.new-text.ensures c.push_str.ensures.bytes c.push_str-2.ensures.bytes c.format.ensures.text ∙ sym (is_meta_path c.args.id)
