use Rattle.cue_codec.proofs.StateSets.{text_alone_found}
use Rattle.cue_codec.proofs.sets.lone_text_at.Goals as goal

pub returns : goal.returns
returns c =
    text_alone_found c.args.bytes.now c.in_ok-rest.rest.now c.in_ok-rest-2.rest.now c.in-Ok.rest.now c.in-Ok.text.now c.in_ok-rest.ensures c.in_ok-rest-2.ensures c.in-Ok.ensures.ok
