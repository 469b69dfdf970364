use Rattle.std.proofs.Common.{◌≡◌, ◌++◌, map, take}
use Rattle.cue_print.specs.Terms.{piece_term}
use Rattle.cue_print.specs.Inner.TermOf.{term_of}
use Rattle.cue_print.proofs.terms.add_pieces.Given as goal

abbrev pub invariant-loop-piece : goal.invariant-loop-piece
invariant-loop-piece l = map term_of l.terms.items ≡ map term_of l.initial.terms.items ++ map piece_term (take l.piece-index l.pieces)
