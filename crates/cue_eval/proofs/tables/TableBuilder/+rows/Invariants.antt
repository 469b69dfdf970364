use Rattle.std.proofs.Common.{drop}
use Rattle.cue_syntax.specs.Syntax.{entries}
use Rattle.cue_eval.proofs.Walks.{Gathering}
use Rattle.cue_eval.proofs.Repeated.{Joining}
use Rattle.cue_eval.proofs.Listings.{Listing}
use Rattle.cue_eval.proofs.tables.TableBuilder.+rows.Given as goal

abbrev pub invariant-conjunction-loop-part : goal.invariant-conjunction-loop-part
invariant-conjunction-loop-part l = Joining l.self l.tables.items l.scalars.items l.numbers.items l.parts (drop l.part-index l.parts)

abbrev pub invariant-fields-loop-declaration : goal.invariant-fields-loop-declaration
invariant-fields-loop-declaration l = Gathering l.self l.fields.items (entries l.declarations) (entries (drop l.declaration-index l.declarations))

abbrev pub invariant-list-loop-element : goal.invariant-list-loop-element
invariant-list-loop-element l = Listing l.self l.steps.items l.elements (drop l.element-index l.elements)
