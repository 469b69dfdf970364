use Rattle.std.proofs.Common.{◌∷◌, ◌++◌, [], map, ap, ◌∙◌}
use Rattle.cue_row.specs.Steps.{step_of}
use Rattle.cue_why.specs.declared.part.WrittenPart.{WrittenPart}
use Rattle.cue_why.proofs.Parts.{root_parts}
use Rattle.cue_why.proofs.trail.root_parts.Goals as goal

pub returns : goal.returns
returns c =
    let one : WrittenPart = record { written = c.new-2.result; branch = c.root.result } in
    root_parts c.args.source.now.kind c.args.source.now.table.now one c.push.new.self.items (c.new-2.ensures ∙ ap (map step_of) c.new.ensures.items) c.root.ensures.branch
    (c.in_ok-push.ensures.items ∙ ap (λ parts. parts ++ one ∷ []) c.in_ok-parts.ensures.items)
