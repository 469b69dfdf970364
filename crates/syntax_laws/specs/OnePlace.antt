-- The tokens leave no choice of where they are refused.
use Rattle.std.specs.Prelude.{◌≡◌, ℕ, List}
use Rattle.cue_lattice.specs.declared.refusal.Kind.TheVariants as refusals
use Rattle.cue_lattice.specs.declared.refusal.Refusal.{Refusal}
use Rattle.cue_lex.specs.declared.token.Token.{Token}
use Rattle.cue_syntax.specs.Refusals.{FitsRefusal}

-- two refusals name one place, and if one says Syntax or Nesting there, the other does
pub record AgreeOn (a b : Refusal) : Type 0 where
  pub place : a.place ≡ b.place
  pub kind : a.kind ≡ refusals.Syntax → b.kind ≡ refusals.Syntax
  pub nesting : a.kind ≡ refusals.Nesting → b.kind ≡ refusals.Nesting

-- all that fit the same tokens agree so
abbrev pub FitsOnePlace : Type 0
FitsOnePlace =
    (levels end : ℕ) (tokens : List Token) (a b : Refusal) → FitsRefusal levels end tokens a
    → FitsRefusal levels end tokens b → AgreeOn a b
