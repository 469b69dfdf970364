use Rattle.std.proofs.Common.{rules, [], Err, sym, ap, ◌∙◌, subst}
use Rattle.std.proofs.lemmas.Fn.{always_returns_same}
use Rattle.cue_sets.specs.Texts.{is_listed, IsAscending, text_cmp}
use Rattle.cue_sets.proofs.Removed.{IsAscending-remove, found_leaves, none_leaves}
use Rattle.cue_sets.proofs.TextSearch.{is_listed-searched}
use Rattle.cue_sets.proofs.leaving.remove.Goals as goal

pub returns-in-Ok-clause-ascending : goal.returns-in-Ok-clause-ascending
returns-in-Ok-clause-ascending c = subst IsAscending (sym c.remove.ensures.items) (IsAscending-remove c.args.texts.now.items c.in-Ok.at c.requires)

pub returns-in-Ok-clause-listed : goal.returns-in-Ok-clause-listed
returns-in-Ok-clause-listed c =
    let found = c.in-Ok.ensures.position (λ listed. text_cmp listed c.args.text.now) (always_returns_same _ _ _ (λ a r f k. search rules)) in
    found_leaves c.deref.result.now c.args.texts.now.items c.remove.new.self.items c.in-Ok.at c.args.text.now c.deref.ensures.value c.requires c.in-Ok.ensures.bound (found []) c.remove.ensures.items

pub returns-in_default-clause-listed : goal.returns-in_default-clause-listed
returns-in_default-clause-listed c =
    let texts = c.deref.result.now in
    let none = c.in_default.ensures.position (λ listed. text_cmp listed c.args.text.now) (always_returns_same _ _ _ (λ a r f k. search rules)) in
    let out = is_listed-searched texts c.args.text.now (Err c.in_default.field-0) (subst IsAscending (sym c.deref.ensures.value) c.requires) c.in_default.ensures.bound none in
    λ t. none_leaves c.args.texts.now.items c.args.text.now t (ap (λ xs. is_listed xs c.args.text.now) (sym c.deref.ensures.value) ∙ sym out)
