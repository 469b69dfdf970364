use Rattle.std.proofs.Common.{rules}
use Rattle.std.specs.Prelude.{IsTrue}
use Rattle.cue_why.proofs.Saying.{kept_some}
use Rattle.cue_why.proofs.shown.keep_refusing.Goals as goal

pub returns : goal.returns
returns c = λ one.
    let found : IsTrue c.in_ok-refuses_any.field-0 = search rules in
    kept_some c.args.kind c.args.kept.now.items c.push.new.self.items c.args.part one (c.in_ok-refuses_any.ensures.0 found) c.in_ok-push.ensures.items
