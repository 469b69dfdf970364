use Rattle.std.proofs.Common.{◌-◌, sym, subst, arith}
use Rattle.cue_layers.specs.View.{IsTooLarge}
use Rattle.cue_layers.proofs.LeavingOut.{cut_out, put_in}
use Rattle.cue_layers.proofs.least.leave_out_at.Goals as goal

pub returns-then-branch : goal.returns-then-branch
returns-then-branch c =
    let place = c.requires.within in
    let some = c.requires.some in
    let tail = c.in_ok-left_out.ensures.tail_len in
    cut_out c.args.limit c.args.at c.args.size c.min.result c.args.layers.items c.split_off.new.self.items c.in_ok-left_out.left_out.items c.in_ok-back.back.items c.append.new.self.items
    c.requires.layers place (omega (arith, place, some, tail, c.min.ensures, c.len.ensures)) (omega (arith, c.min.ensures, c.len.ensures))
    c.in_ok-left_out.ensures.items c.in_ok-left_out.ensures.tail c.in_ok-back.ensures.tail c.in_ok-append.ensures.items
    (subst (IsTooLarge c.args.limit) c.deref.ensures.value (c.in_ok-is_too_large.ensures.0 c.if-branch.true))

pub returns : goal.returns
returns c =
    let small : ¬ IsTooLarge c.args.limit c.append.new.self.items = λ large. absurd (let yes = c.in_ok-is_too_large.ensures.1 (subst (IsTooLarge c.args.limit) (sym c.deref.ensures.value) large) in let no_it = c.if-branch.false in cc) in
    put_in c.args.limit c.args.at c.args.size c.min.result (c.len-2.result - c.len-count.result) c.args.layers.items c.split_off.new.self.items c.in_ok-left_out.left_out.items c.split_off-2.new.self.items
    c.in_ok-back.back.items c.append.new.self.items c.split_off-3.new.self.items c.in_ok-back-2.back.items c.append-2.new.self.items c.append-3.new.self.items
    c.requires.layers c.requires.large c.requires.within c.in_ok-left_out.ensures.items c.in_ok-left_out.ensures.tail (omega (arith, c.min.ensures, c.len.ensures)) c.in_ok-back.ensures.items c.in_ok-back.ensures.tail
    c.in_ok-append.ensures.items small (omega (arith, c.len-2.ensures, c.len-count.ensures, c.in_ok-append.ensures.len)) c.in_ok-back-2.ensures.items c.in_ok-back-2.ensures.tail c.in_ok-append-2.ensures.items c.in_ok-append-3.ensures.items
