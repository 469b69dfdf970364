use Rattle.std.proofs.Common.{arith, ◌∷◌, []}
use Rattle.std.proofs.lemmas.List.{length-append}
use Rattle.cue_codec.specs.Parts.{piece_bytes}
use Rattle.cue_codec.specs.Reading.{IsPieceBytes}
use Rattle.cue_codec.proofs.Codes.{items_more, all_more, items_none}
use Rattle.cue_codec.proofs.Numbers.{one_piece}
use Rattle.cue_codec.proofs.lists.each_piece.Goals as goal

pub loop-rest-preserved : goal.loop-rest-preserved
loop-rest-preserved c =
    rw c.in-Ok.ensures.items (record {
      few = omega (arith, length-append c.loop-rest.pieces.items (c.in-Some.piece ∷ []));
      each = all_more IsPieceBytes c.loop-rest.pieces.items c.in-Some.piece c.loop-rest.invariant.each c.in-Some.ensures.some.value;
      parts = items_more piece_bytes c.loop-rest.pieces.items c.in-Some.piece c.args.bytes.now c.loop-rest.rest.now c.in-Some.after.now c.loop-rest.invariant.parts c.in-Some.ensures.some.parts;
    })

pub returns-in_default-clause-refused : goal.returns-in_default-clause-refused
returns-in_default-clause-refused c =
    items_none IsPieceBytes piece_bytes one_piece c.args.count c.loop-rest.pieces.items c.args.bytes.now c.loop-rest.rest.now c.loop-rest.invariant.each (omega arith) c.loop-rest.invariant.parts c.in_default.ensures.none

pub returns-clause-ok : goal.returns-clause-ok
returns-clause-ok c = record { value = (omega (arith, c.loop-rest.invariant.few), c.loop-rest.invariant.each); parts = c.loop-rest.invariant.parts }
