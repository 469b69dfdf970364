use Rattle.std.proofs.Common.{sym, subst, string_bytes}
use Rattle.cue_lex.proofs.Bodies.{BodySoFar, body_next}
use Rattle.cue_lex.proofs.string.body.Goals as goal

pub loop-rest-preserved : goal.loop-rest-preserved
loop-rest-preserved c = (
  c.range_from-rest.utf8,
  subst (BodySoFar c.args.start c.args.text.now (string_bytes c.keep.new.decoded) _) (sym c.range_from-rest.ensures.value)
      (body_next c.loop-rest.invariant.1 c.in-Some.meant c.in-Some.width (string_bytes c.keep.new.decoded) c.in-Some.ensures.boundary.0 c.in-Some.ensures.found c.in_ok-keep.ensures),
)
