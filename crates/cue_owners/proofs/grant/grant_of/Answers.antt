use Rattle.std.proofs.Common.{subst, sym, ◌∙◌}
use Rattle.std.proofs.lemmas.Bool.{false≢true}
use Rattle.cue_owners.specs.Files.{IsRow}
use Rattle.cue_owners.proofs.Named.{no_words, one_word, row_of_words}
use Rattle.cue_owners.proofs.grant.grant_of.Goals as goal

pub returns-in_default-clause-none : goal.returns-in_default-clause-none
returns-in_default-clause-none c = no_words c.args.words.now c.in_default.ensures.cases

pub returns-in_default-split_first-clause-none : goal.returns-in_default-split_first-clause-none
returns-in_default-split_first-clause-none c =
    one_word c.args.words.now c.in-Some.owner.now c.in-Some.rest.now c.in-Some.ensures.cases.0 c.in_default-split_first.ensures.cases

pub returns-then-not-is_row-clause-none : goal.returns-then-not-is_row-clause-none
returns-then-not-is_row-clause-none c =
    let row = row_of_words c.args.words.now c.in-Some.owner.now c.in-Some-split_first.token.now c.in-Some.rest.now c.in-Some-split_first.patterns.now c.in-Some.ensures.cases.0 c.in-Some-split_first.ensures.cases.0 in
    λ r. false≢true (sym c.if-not-is_row.true ∙ c.is_row.ensures.1 (subst IsRow row r))

pub returns-clause-some : goal.returns-clause-some
returns-clause-some c =
    let row = row_of_words c.args.words.now c.in-Some.owner.now c.in-Some-split_first.token.now c.in-Some.rest.now c.in-Some-split_first.patterns.now c.in-Some.ensures.cases.0 c.in-Some-split_first.ensures.cases.0 in
    c.in_ok-copy_row.ensures (c.is_row.ensures.0 c.if-not-is_row.false).0 ∙ sym row

pub returns-clause-row : goal.returns-clause-row
returns-clause-row c =
    let row = row_of_words c.args.words.now c.in-Some.owner.now c.in-Some-split_first.token.now c.in-Some.rest.now c.in-Some-split_first.patterns.now c.in-Some.ensures.cases.0 c.in-Some-split_first.ensures.cases.0 in
    subst IsRow (sym row) (c.is_row.ensures.0 c.if-not-is_row.false)
