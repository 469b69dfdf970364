use Rattle.std.proofs.Common.{sym, ap, ◌∙◌, subst}
use Rattle.std.proofs.lemmas.Bool.{false≢true}
use Rattle.cue_scalars.specs.Scalars.{IsScalarSet}
use Rattle.cue_row.specs.Kinds.{IsEmptySet}
use Rattle.cue_row.proofs.SmallRows.{none_in_empty, empty_by_parts, empty_of_none}
use Rattle.cue_row.proofs.scalars.Scalars.is_empty.Goals as goal

pub returns-then-not-lacks_plain : goal.returns-then-not-lacks_plain
returns-then-not-lacks_plain c = (
  λ e. absurd (false≢true e),
  λ none.
      let e = empty_of_none c.args.self.now (subst IsScalarSet c.self.view_is c.self.invariant) none in
      sym c.if-not-lacks_plain.true ∙ c.lacks_plain.ensures.1 (ap (λ set. set.null) e, ap (λ set. set.no) e, ap (λ set. set.yes) e),
)

pub returns-then-not-lacks_integers : goal.returns-then-not-lacks_integers
returns-then-not-lacks_integers c = (
  λ e. absurd (false≢true e),
  λ none.
      let e = empty_of_none c.args.self.now (subst IsScalarSet c.self.view_is c.self.invariant) none in
      sym c.if-not-lacks_integers.true ∙ c.lacks_integers.ensures.1 (ap (λ set. set.ints) e),
)

pub returns : goal.returns
returns c = (
  λ e.
      let empty = empty_by_parts c.args.self.now (c.lacks_plain.ensures.0 c.if-not-lacks_plain.false) (c.lacks_integers.ensures.0 c.if-not-lacks_integers.false) (c.lacks_texts.ensures.0 e) in
      subst IsEmptySet (sym empty) none_in_empty,
  λ none.
      let e = empty_of_none c.args.self.now (subst IsScalarSet c.self.view_is c.self.invariant) none in
      c.lacks_texts.ensures.1 (ap (λ set. set.texts) e),
)
