use Rattle.std.proofs.Common.{length, ap, arith}
use Rattle.cue_codec.proofs.Lengths.{texts_more, texts_done}
use Rattle.cue_codec.proofs.sizes.texts_size.Goals as goal

pub loop-text-preserved : goal.loop-text-preserved
loop-text-preserved c =
    let more = texts_more c.args.texts.now c.loop-text.text-index c.text-item.result c.loop-text.size c.loop-text-test.true c.text-item.is c.loop-text.invariant in
    omega (arith, more, c.add-size.ensures, c.add.ensures, ap length c.as_bytes.ensures)

pub returns : goal.returns
returns c = texts_done c.args.texts.now c.loop-text.text-index c.loop-text.size c.loop-text-test.false c.loop-text.invariant
