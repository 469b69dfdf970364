use Rattle.std.proofs.Common.{◌<◌, length, sym, refl, ◌∙◌, None, Some, arith}
use Rattle.std.proofs.lemmas.List.{get_or_read}
use borrow.Author.Tests.{ltb-true}
use Rattle.std.specs.Prelude.{slice_index_or}
use Rattle.cue_scope.specs.Meaning.{meaning_of_number}
use Rattle.cue_eval.specs.Inner.Ready.{all_definitions}
use Rattle.cue_eval.proofs.Leaves.{used_result}
use Rattle.cue_eval.proofs.tables.TableBuilder.copy_definition.Goals as goal

pub returns-in-Some-Some-clause-answers : goal.returns-in-Some-Some-clause-answers
returns-in-Some-Some-clause-answers c =
    let ds = all_definitions c.args.self.now in
    let i = c.args.number in
    let kept = c.args.self.now.tables.now in
    let inside : i < length kept = let b = sym c.in-Some-Some.ensures.lookup.0 in omega (arith, ltb-true) in
    let there = get_or_read kept i c.in-Some-Some.field-0.now inside c.in-Some-Some.ensures.lookup.1 None in
    used_result c.copy.result (meaning_of_number ds) (Some i) i (slice_index_or c.args.self.now.tables.now i None) c.in-Some-Some.table refl c.requires (sym there ∙ c.in-Some-Some.field-0-is) c.copy.ensures
