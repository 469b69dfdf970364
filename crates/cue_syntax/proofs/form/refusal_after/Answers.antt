use Rattle.std.proofs.Common.{◌≡◌, ◌<◌, ◌-◌, rules, arith}
use Rattle.cue_syntax.specs.Refusals.{IsNamedEarly}
use Rattle.cue_syntax.proofs.SymbolsNamed.{tells_here}
use Rattle.cue_syntax.proofs.form.refusal_after.Goals as goal
use Rattle.cue_syntax.proofs.form.refusal_after.Goals.{else-read-gt0-via-then-read-gt0+else-is_named_early, else-read-gt0-via-else-read-gt0}

pub returns : goal.returns
returns c =
    let other : 0 < c.args.read → ¬ IsNamedEarly (c.args.read - 1) c.args.text.rest.now =
    elim c.else-read-gt0.branch [
      | else-read-gt0-via-then-read-gt0+else-is_named_early w ↦
          let early : ¬ IsNamedEarly (c.args.read - 1) c.args.text.rest.now = search rules in
          λ some. early
      | else-read-gt0-via-else-read-gt0 w ↦
          let none : c.args.read ≡ 0 = search rules in
          λ some. absurd (omega (arith, some, none))
    ] in
    tells_here other c.symbol_refusal-2.ensures.place c.symbol_refusal-2.ensures.kind
