-- Beside `specs/Forms.antt`: what private clauses and proofs alone cite.
use Rattle.std.specs.Prelude.{List}
use Rattle.cue_lattice.specs.declared.refusal.Form.{Form}
use Rattle.cue_lex.specs.declared.token.Token.{Token}
use Rattle.cue_syntax.specs.declared.spot.Position.{Position}
use Rattle.cue_syntax.specs.Forms.{IsFormAt}

-- no form stands there
abbrev pub HasNoForm : Position → List Token → Type 0
HasNoForm spot ts = (form : Form) → ¬ IsFormAt form spot ts
