use Rattle.std.proofs.Common.{length, ◌/◌}
use Rattle.cue_lattice.proofs.OneOf.{one_of-halves, one_of-as_it_was, one_of-met}
use Rattle.cue_lattice.proofs.narrow.+meet_all.Goals as goal

pub returns-in-Unchanged : goal.returns-in-Unchanged
returns-in-Unchanged g t c question =
    let refused = λ (value : g.row.N.Denot). g.N.Narrow.refuses value question in
    let both = one_of-halves refused c.args.values.now (length c.args.values.now / 2) c.split_at.result.0.now c.split_at.result.1.now c.split_at.ensures.front c.split_at.ensures.back in
    let kept : g.N.Narrow.refuses c.in_ok-right.right question → g.N.Narrow.refuses c.in_ok-left.left question = (rw c.in-Unchanged.is at c.in_ok-narrowed_by.ensures) question in
    one_of-as_it_was refused c.args.values.now _ _ _ _ both (c.in_ok-left.ensures question) (c.in_ok-right.ensures question) kept

pub returns-in-To : goal.returns-in-To
returns-in-To g t c question =
    let refused = λ (value : g.row.N.Denot). g.N.Narrow.refuses value question in
    let both = one_of-halves refused c.args.values.now (length c.args.values.now / 2) c.split_at.result.0.now c.split_at.result.1.now c.split_at.ensures.front c.split_at.ensures.back in
    one_of-met refused c.args.values.now _ _ _ _ both (c.in_ok-left.ensures question) (c.in_ok-right.ensures question) ((rw c.in-To.is at c.in_ok-narrowed_by.ensures) question)
