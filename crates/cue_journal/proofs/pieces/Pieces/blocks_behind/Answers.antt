use Rattle.std.proofs.Common.{◌≡◌, ◌-◌, ℕ, List, [], ◌++◌, length, drop, sym, ap, ◌∙◌, subst, append-nil, arith}
use Rattle.std.specs.List.{AllByRecursion}
use Rattle.cue_journal.specs.Blocks.{recovered_pieces, FitsInBlock}
use Rattle.cue_journal.specs.Listed.{Listed, behind_of}
use Rattle.cue_journal.specs.Lists.{blocks}
use Rattle.cue_journal.proofs.Sound.{fit_behind, none_behind}
use Rattle.cue_journal.proofs.Written.{blocks_read}
use Rattle.cue_journal.proofs.pieces.Pieces.blocks_behind.Goals as goal

pub returns-clause-some : goal.returns-clause-some
returns-clause-some c =
    let kept = c.args.self.now.kept in
    let fit : AllByRecursion FitsInBlock kept = subst (λ (l : Listed). AllByRecursion FitsInBlock l.kept) c.self.view_is c.self.invariant.fit in
    let rest : drop c.loop-at.at kept ≡ [] = none_behind c.loop-at.at kept (omega (arith, ap (λ (l : Listed). length l.kept) c.self.view_is)) in
    let body : c.loop-at.body.items ≡ blocks (behind_of c.args.self.now c.args.cursor.count) =
    sym (ap (λ n. blocks (drop n kept)) (sym c.in-Some.ensures.some.1) ∙ c.loop-at.invariant ∙ ap (λ (l : List (List ℕ)). c.loop-at.body.items ++ blocks l) rest ∙ append-nil c.loop-at.body.items) in (
      c.in-Some.ensures.some.0,
      body,
      ap recovered_pieces body ∙ blocks_read (behind_of c.args.self.now c.args.cursor.count) (fit_behind (c.args.cursor.count - c.args.self.now.given_up) kept fit),
    )
