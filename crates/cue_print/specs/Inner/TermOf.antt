-- The terms that the program writes, as terms of expressions.
use Rattle.cue_print.specs.declared.term.PrintedTerm as program
use Rattle.cue_print.specs.declared.term.PrintedTerm.TheVariants as terms
use Rattle.cue_print.specs.Expressions.{PrintedTerm, null, truths, truth, integers, number, at_most}
use Rattle.cue_print.specs.Expressions.{at_least, between, texts, text, other_texts}

abbrev pub term_of : program.PrintedTerm → PrintedTerm
term_of terms.Null = null
term_of terms.Truths = truths
term_of (terms.Truth b) = truth b
term_of terms.Integers = integers
term_of (terms.Number n) = number n
term_of (terms.AtMost n) = at_most n
term_of (terms.AtLeast n) = at_least n
term_of (terms.Between m n) = between m n
term_of terms.Texts = texts
term_of (terms.Text t) = text t.now
term_of (terms.OtherTexts ts) = other_texts ts.now
