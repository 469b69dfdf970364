use Rattle.std.proofs.Common.{[], false, ◌∷◌, refl}
use Rattle.std.specs.Int.{w64, cast_signed, cast_unsigned}
use Rattle.cue_codec.proofs.SetLaws.{canonical_piece, not_less}
use Rattle.cue_codec.proofs.StateSets.{piece_set_found}
use Rattle.cue_codec.proofs.sets.lone_piece_at.Goals as goal

pub returns-clause-set : goal.returns-clause-set
returns-clause-set c =
    let first = cast_signed w64 (cast_unsigned w64 c.in_ok-first.first) in
    let last = cast_signed w64 (cast_unsigned w64 c.in_ok-first.last) in
    piece_set_found c.args.bytes.now c.in_ok-rest.rest.now c.in_ok-first.rest.now c.in_ok-rest-2.rest.now c.in_ok-first.first c.in_ok-first.last ((first, last) ∷ []) (false, []) c.in_ok-rest.ensures c.in_ok-first.ensures.some c.in_ok-rest-2.ensures refl
    (canonical_piece c.in_ok-first.first c.in_ok-first.last c.in_ok-first.ensures.some.value (not_less first last c.if-first-last.false)) refl
