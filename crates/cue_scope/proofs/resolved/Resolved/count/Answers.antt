use Rattle.std.proofs.Common.{arith, ◌<◌, ◌-◌, ◌^◌, min, length, sym, ap, subst, ◌∙◌}
use Rattle.std.proofs.lemmas.List.{get_or_read}
use Rattle.cue_scope.specs.Definitions.{definitions}
use Rattle.cue_scope.specs.Files.{entries_of}
use Rattle.cue_scope.specs.Uses.{graph, uses_of_fields}
use Rattle.cue_scope.proofs.Counting.{same_times}
use Rattle.cue_scope.proofs.resolved.Resolved.count.Goals as goal

pub returns : goal.returns
returns c =
    let es = entries_of c.self.inside.file.now in
    let ds = definitions es in
    let below : c.args.number < length ds = subst (λ z. c.args.number < length (definitions (entries_of z))) (sym c.self.view_is) c.requires in
    let inside : c.args.number < length c.self.inside.counts.items = let same = c.self.invariant.counts in omega arith in
    let read = get_or_read c.self.inside.counts.items c.args.number c.index.result.now inside c.index.ensures 0 in
    rw (← c.self.view_is) (λ order reached.
    let same = same_times (graph ds) (uses_of_fields ds es) c.self.inside.order.items order c.args.number c.self.invariant.order reached in
    read ∙ c.self.invariant.counted c.args.number below ∙ ap (λ z. min z (2 ^ 64 - 1)) same)
