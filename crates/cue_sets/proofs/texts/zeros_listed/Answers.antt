use Rattle.std.proofs.Common.{◌≤◌, [], length, ◌∙◌, arith}
use Rattle.std.proofs.lemmas.List.{get_or_read}
use Rattle.cue_sets.proofs.Zeros.{first_gap}
use Rattle.cue_sets.proofs.texts.zeros_listed.Goals as goal

pub returns-then-not-are_zeros : goal.returns-then-not-are_zeros
returns-then-not-are_zeros c =
    let texts = c.args.texts.now in let count = c.loop-count.count in
    let bound : count ≤ length texts = omega arith in
    first_gap texts count c.requires bound c.loop-count.invariant
    (λ l e.
    let zeros = c.are_zeros.ensures.1 (c.as_bytes.ensures ∙ get_or_read texts count c.index-texts-count.result l c.index-texts-count.is [] ∙ e) in
    cc (zeros, c.if-not-are_zeros.true))

pub returns : goal.returns
returns c =
    let texts = c.args.texts.now in
    first_gap texts (length texts) c.requires (omega arith) (λ k l. c.loop-count.invariant k (omega arith)) (λ l e. omega arith)
