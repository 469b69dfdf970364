use Rattle.std.proofs.Common.{ℕ, List, length, sym, subst, ap, ◌∙◌}
use Rattle.std.proofs.lemmas.Bool.{false≢true}
use Rattle.cue_owners.specs.Files.{IsLone}
use Rattle.cue_owners.proofs.Whole.{no_token, more_words, the_word, other_word, is_none, is_some}
use Rattle.cue_owners.proofs.read.sole_token.Goals as goal

pub returns-in_default-clause-none : goal.returns-in_default-clause-none
returns-in_default-clause-none c =
    no_token c.args.text.now c.in_ok-words.words.items c.in_ok-words.ensures (ap length (sym c.deref.ensures.value) ∙ c.in_default.ensures.cases)

pub returns-then-not-is_empty-clause-none : goal.returns-then-not-is_empty-clause-none
returns-then-not-is_empty-clause-none c =
    more_words c.args.text.now c.in_ok-words.words.items c.in-Some.rest.now c.in-Some.token.now c.in_ok-words.ensures (sym c.deref.ensures.value ∙ c.in-Some.ensures.cases.0)
    (is_some (length c.in-Some.rest.now) c.is_empty.result c.is_empty.ensures c.if-not-is_empty.true)

pub returns-then-not-is_token-clause-none : goal.returns-then-not-is_token-clause-none
returns-then-not-is_token-clause-none c =
    let word = the_word c.args.text.now c.in_ok-words.words.items c.in-Some.rest.now c.in-Some.token.now c.in_ok-words.ensures (sym c.deref.ensures.value ∙ c.in-Some.ensures.cases.0)
    (is_none (length c.in-Some.rest.now) c.is_empty.result c.is_empty.ensures c.if-not-is_empty.false) in
    other_word c.args.text.now c.in-Some.token.now.now word (λ t. false≢true (sym c.if-not-is_token.true ∙ c.is_token.ensures.1 t))

pub returns-clause-some : goal.returns-clause-some
returns-clause-some c =
    let word = the_word c.args.text.now c.in_ok-words.words.items c.in-Some.rest.now c.in-Some.token.now c.in_ok-words.ensures (sym c.deref.ensures.value ∙ c.in-Some.ensures.cases.0)
    (is_none (length c.in-Some.rest.now) c.is_empty.result c.is_empty.ensures c.if-not-is_empty.false) in
    let P : List ℕ → Type 0 = λ t. IsLone t c.args.text.now in
    subst P (sym c.in_ok-from_slice.ensures.items) (word, c.is_token.ensures.0 c.if-not-is_token.false)
