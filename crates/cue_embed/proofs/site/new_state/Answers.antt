use Rattle.std.proofs.Common.{[], subst, sym}
use Rattle.std.proofs.lemmas.Result.{MatchResult-weaker}
use Rattle.cue_replica.specs.Accepted.{IsOfPieces}
use Rattle.cue_replica.specs.Language.{Table}
use Rattle.cue_replica.proofs.Accepted.{of_no_piece}
use Rattle.cue_embed.proofs.site.new_state.Goals as goal

pub returns : goal.returns
returns c =
    MatchResult-weaker c.answer_question-2.result c.answer_question-2.ensures
    (λ answer tells. (c.new.result, subst (λ (t : Table). IsOfPieces t []) (sym c.new.ensures) of_no_piece, tells))
    (λ stop memory. memory)
