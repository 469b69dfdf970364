-- Which symbol is named where tokens leave the grammar, and by what.
use Rattle.std.proofs.Common.{◌≡◌, subst, sym, inl, inr, ℕ, zero, suc, ◌<◌, ◌-◌, List, take, drop, arith, Option, Some, None, MatchOption}
use Rattle.cue_lattice.specs.declared.refusal.Form.{Form}
use Rattle.cue_lattice.specs.declared.refusal.Refusal.{Refusal}
use Rattle.cue_lex.specs.declared.token.Token.{Token}
use Rattle.cue_syntax.specs.declared.spot.Position.{Position}
use Rattle.cue_syntax.specs.Viability.{place_of_symbol}
use Rattle.cue_syntax.specs.Spots.{spot_of}
use Rattle.cue_syntax.specs.Forms.{IsFormAt}
use Rattle.cue_syntax.specs.Inner.Forms.{HasNoForm}
use Rattle.cue_syntax.specs.Refusals.{BeginsPackage, FormIsAfter, IsNamedEarly, IsKindAfter, RefusalSaysOf}

-- no clause of a package begins after the first token
pub no_package : (j : ℕ) (tokens : List Token) → (j ≡ 0 → ⊥) → ¬ BeginsPackage j tokens
no_package zero tokens some = λ is. some (let e : 0 ≡ 0 = omega arith in e)
no_package (suc j) tokens some = λ is. is

-- the form at a spot is the one after the tokens before it
pub form_stands : (r : Option Form) (j : ℕ) (tokens ts : List Token) (spot : Position) → spot ≡ spot_of (take j tokens) → ts ≡ drop j tokens → ¬ BeginsPackage j tokens
    → MatchOption r (HasNoForm spot ts) (λ form. IsFormAt form spot ts) → MatchOption r ((form : Form) → ¬ FormIsAfter j tokens form) (λ form. FormIsAfter j tokens form)
form_stands None j tokens ts spot is rest clause none = λ form stands. none form (subst (λ z. IsFormAt form z ts) (sym is) (subst (IsFormAt form (spot_of (take j tokens))) (sym rest) stands.0))
form_stands (Some form) j tokens ts spot is rest clause stands = (subst (IsFormAt form (spot_of (take j tokens))) rest (subst (λ z. IsFormAt form z ts) is stands), clause)

-- a token that is named early
pub tells_early : {end : ℕ} {tokens : List Token} {k j : ℕ} {r : Refusal} → suc j ≡ k → IsNamedEarly j tokens → r.place ≡ place_of_symbol end (drop j tokens) → IsKindAfter j tokens r.kind → RefusalSaysOf end tokens k r
tells_early {j = j} next early place kind = record { j = j; place = place; named = inl (next, early); kind = kind }

-- the symbol at which tokens leave the grammar
pub tells_here : {end : ℕ} {tokens : List Token} {k : ℕ} {r : Refusal} → (0 < k → ¬ IsNamedEarly (k - 1) tokens) → r.place ≡ place_of_symbol end (drop k tokens) → IsKindAfter k tokens r.kind → RefusalSaysOf end tokens k r
tells_here {tokens = tokens} {k = k} other place kind = record {
  j = k;
  place = place;
  named = inr (omega arith, λ i next early. other (omega (arith, next)) (subst (λ n. IsNamedEarly n tokens) (let e : i ≡ k - 1 = omega (arith, next) in e) early));
  kind = kind;
}
