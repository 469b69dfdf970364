use Rattle.std.proofs.Common.{rules, Ok, sym, ap, ◌∙◌, subst}
use Rattle.std.proofs.lemmas.Fn.{always_returns_same}
use Rattle.cue_sets.specs.Texts.{is_listed, IsAscending, text_cmp}
use Rattle.cue_sets.proofs.Joined.{IsAscending-placed, is_listed-placed, listed_adds_none}
use Rattle.cue_sets.proofs.TextSearch.{is_listed-searched}
use Rattle.cue_sets.proofs.joining.put.Goals as goal

pub returns-in-Err-clause-ascending : goal.returns-in-Err-clause-ascending
returns-in-Err-clause-ascending c =
    let room = c.insert.ensures.succeeds c.requires.room in
    let items = c.insert.ensures.items in
    IsAscending-placed c.deref.result.now c.args.texts.now.items c.insert.new.self.items c.in-Err.at c.args.text c.deref.ensures.value c.requires.ascending
    (c.in-Err.ensures.position (λ listed. text_cmp listed c.args.text) (always_returns_same _ _ _ (λ a r f k. search rules))) (search rules)

pub returns-in-Err-clause-listed : goal.returns-in-Err-clause-listed
returns-in-Err-clause-listed c =
    let room = c.insert.ensures.succeeds c.requires.room in
    let items = c.insert.ensures.items in
    is_listed-placed c.args.texts.now.items c.insert.new.self.items c.in-Err.at c.args.text (search rules)

pub returns-in_default-clause-listed : goal.returns-in_default-clause-listed
returns-in_default-clause-listed c =
    let texts = c.deref.result.now in
    let found = c.in_default.ensures.position (λ listed. text_cmp listed c.args.text) (always_returns_same _ _ _ (λ a r f k. search rules)) in
    let in_it = is_listed-searched texts c.args.text (Ok c.in_default.field-0) (subst IsAscending (sym c.deref.ensures.value) c.requires.ascending) c.in_default.ensures.bound found in
    λ t. listed_adds_none c.args.texts.now.items c.args.text t (ap (λ xs. is_listed xs c.args.text) (sym c.deref.ensures.value) ∙ sym in_it)
