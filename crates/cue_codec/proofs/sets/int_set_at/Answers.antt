use Rattle.std.proofs.Common.{◌++◌, subst}
use Rattle.std.proofs.lemmas.Result.{err_from_is_err_and}
use Rattle.cue_sets.specs.Pieces.{IsCanonical}
use Rattle.cue_codec.specs.Parts.{counted_bytes, piece_bytes}
use Rattle.cue_codec.specs.Reading.{AreCounted, IsPieceBytes}
use Rattle.cue_codec.proofs.Codes.{begins_more, unread_so}
use Rattle.cue_codec.proofs.SetLaws.{integers_none, integers_other, integers_found}
use Rattle.cue_codec.proofs.sets.int_set_at.Goals as goal

pub returns-in_err-pieces-clause-refused : goal.returns-in_err-pieces-clause-refused
returns-in_err-pieces-clause-refused c =
    let p = err_from_is_err_and c.from_residual.result c.from_residual.ensures.1 in
    rw (p.1, p.2) (unread_so c.in_err-pieces.field-0.0 _ _ c.args.bytes.now c.args.bytes.now (λ more. integers_none (c.args.bytes.now ++ more)) c.in_err-pieces.ensures.refused)

pub returns-in_default-clause-refused : goal.returns-in_default-clause-refused
returns-in_default-clause-refused c = λ more.
    integers_other c.in_ok-pieces.pieces.items (c.args.bytes.now ++ more) (c.in_ok-pieces.rest.now ++ more) (begins_more (AreCounted IsPieceBytes) (counted_bytes piece_bytes) c.in_ok-pieces.pieces.items c.args.bytes.now c.in_ok-pieces.rest.now more c.in_ok-pieces.ensures.ok) c.in_default.ensures.none

pub returns-clause-ok : goal.returns-clause-ok
returns-clause-ok c =
    integers_found c.in_ok-pieces.pieces.items c.in-Some.set c.args.bytes.now c.in_ok-pieces.rest.now c.in_ok-pieces.ensures.ok c.in-Some.ensures.some (subst IsCanonical c.in-Some.ensures.some c.known.ensures)
