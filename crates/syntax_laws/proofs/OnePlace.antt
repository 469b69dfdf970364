-- Refusals that fit the same tokens name one place.
use Rattle.std.proofs.Common.{◌≡◌, ◌∙◌, ap, sym, subst, refl, ℕ, suc, ◌<◌, ◌≤◌, ◌⊎◌, inl, inr, List, drop, arith}
use Rattle.cue_lattice.specs.declared.refusal.Refusal.{Refusal}
use Rattle.std.proofs.lemmas.Bool.{cases_order}
use Rattle.cue_lattice.specs.declared.refusal.Form.{Form}
use Rattle.cue_lattice.specs.declared.refusal.Kind.{Kind}
use Rattle.cue_lattice.specs.declared.refusal.Kind.TheVariants as refusals
use Rattle.cue_lex.specs.declared.token.Token.{Token}
use Rattle.cue_syntax.specs.Grammar.{unlimited, at_most}
use Rattle.cue_syntax.specs.Viability.{Leaves, IsTokenAt, IsMark, place_of_symbol}
use Rattle.cue_syntax.specs.Refusals.{OwesLevel, BeginsWithin, NestsAt, FitsRefusalAt, FitsRefusal, LeavesAt, IsSymbolNamed, IsKindAfter, FormIsAfter}
use Rattle.cue_syntax.proofs.TakenBeginsAText.{fewer}
use Rattle.syntax_laws.specs.OnePlace.{AgreeOn, FitsOnePlace}

-- what fits tells of nesting, or of where the tokens leave the grammar
either : (levels : ℕ) (tokens : List Token) (kind : Kind) (j : ℕ) → FitsRefusalAt levels tokens kind j → ((kind ≡ refusals.Nesting) × NestsAt levels tokens j) ⊎ LeavesAt levels tokens kind j
either levels tokens refusals.Nesting j fits = inl (refl, fits)
either levels tokens _ j fits = inr fits

-- tokens leave the grammar at one symbol
no_later : {tokens : List Token} {k n : ℕ} → Leaves unlimited tokens k → Leaves unlimited tokens n → k < n → ⊥
no_later {tokens = tokens} {k = k} {n = n} first second later = first.behind (fewer unlimited (suc k) n tokens second.before later)

same_leaving : {tokens : List Token} {k n : ℕ} → Leaves unlimited tokens k → Leaves unlimited tokens n → k ≡ n
same_leaving {k = k} {n = n} first second = elim (cases_order k n) [
  | inl e ↦ e
  | inr (inl e) ↦ absurd (no_later first second e)
  | inr (inr e) ↦ absurd (no_later second first e)
]

-- and there one symbol is named
same_named : {tokens : List Token} {k i j : ℕ} → IsSymbolNamed tokens k i → IsSymbolNamed tokens k j → i ≡ j
same_named {tokens = tokens} {k = k} {i = i} {j = j} (inl a) (inl b) = omega (arith, a.0, b.0)
same_named {tokens = tokens} {k = k} {i = i} {j = j} (inr a) (inr b) = a.0 ∙ sym b.0
same_named {tokens = tokens} {k = k} {i = i} {j = j} (inl a) (inr b) = absurd (b.1 i a.0 a.1)
same_named {tokens = tokens} {k = k} {i = i} {j = j} (inr a) (inl b) = absurd (a.1 j b.0 b.1)

-- where no form stands, none is told
syntax_too : (j : ℕ) (tokens : List Token) (a b : Kind) → a ≡ refusals.Syntax → IsKindAfter j tokens a → IsKindAfter j tokens b → b ≡ refusals.Syntax
syntax_too j tokens a refusals.Syntax is first second = refl
syntax_too j tokens a (refusals.LeftOut form) is first second = let none : (f : Form) → ¬ FormIsAfter j tokens f = subst (IsKindAfter j tokens) is first in absurd (none form second)
syntax_too j tokens a _ is first second = absurd second

-- fewer tokens open no more levels
fewer_within : {levels m n : ℕ} {tokens : List Token} → m ≤ n → BeginsWithin levels n tokens → BeginsWithin levels m tokens
fewer_within {levels = levels} {m = m} {n = n} {tokens = tokens} le (inl b) = inl (fewer (at_most levels) m n tokens b le)
fewer_within {levels = levels} {m = m} {n = n} {tokens = tokens} le (inr o) = elim (cases_order m n) [
  | inl e ↦ inr (subst (λ k. OwesLevel levels k tokens) (sym e) o)
  | inr (inl less) ↦ inl (fewer (at_most levels) m o.earlier tokens o.begins (omega (arith, less, o.next)))
  | inr (inr more) ↦ absurd (omega (arith, le, more))
]

-- a level too many is opened once
no_further : {levels i n : ℕ} {tokens : List Token} (nests : NestsAt levels tokens i) → BeginsWithin levels n tokens → nests.k < n → ⊥
no_further nests within later = nests.beyond (fewer_within later within)

same_opening : {levels i j : ℕ} {tokens : List Token} (a : NestsAt levels tokens i) (b : NestsAt levels tokens j) → a.k ≡ b.k
same_opening a b = elim (cases_order a.k b.k) [
  | inl e ↦ e
  | inr (inl e) ↦ absurd (no_further a b.within e)
  | inr (inr e) ↦ absurd (no_further b a.within e)
]

same_opener : {i j : ℕ} (k : ℕ) (tokens : List Token) → ((i ≡ k) × ¬ IsTokenAt IsMark (drop k tokens)) ⊎ ((suc i ≡ k) × IsTokenAt IsMark (drop k tokens))
    → ((j ≡ k) × ¬ IsTokenAt IsMark (drop k tokens)) ⊎ ((suc j ≡ k) × IsTokenAt IsMark (drop k tokens)) → i ≡ j
same_opener k tokens (inl a) (inl b) = a.0 ∙ sym b.0
same_opener k tokens (inl a) (inr b) = absurd (a.1 b.1)
same_opener k tokens (inr a) (inl b) = absurd (b.1 a.1)
same_opener k tokens (inr a) (inr b) = omega (arith, a.0, b.0)

same_nesting : {levels i j : ℕ} {tokens : List Token} → NestsAt levels tokens i → NestsAt levels tokens j → i ≡ j
same_nesting {j = j} {tokens = tokens} a b =
    same_opener a.k tokens a.named (subst (λ n. ((j ≡ n) × ¬ IsTokenAt IsMark (drop n tokens)) ⊎ ((suc j ≡ n) × IsTokenAt IsMark (drop n tokens))) (sym (same_opening a b)) b.named)

-- and not where the tokens leave the grammar first, nor before they do
apart : {levels i j : ℕ} {tokens : List Token} {kind : Kind} → NestsAt levels tokens i → LeavesAt levels tokens kind j → ⊥
apart {tokens = tokens} nests leaves = elim (cases_order leaves.k nests.k) [
  | inl e ↦ (let l = leaves.leaves in l.behind (fewer unlimited (suc leaves.k) (suc nests.k) tokens nests.deeper (omega (arith, e))))
  | inr (inl e) ↦ (let l = leaves.leaves in l.behind (fewer unlimited (suc leaves.k) (suc nests.k) tokens nests.deeper (omega (arith, e))))
  | inr (inr e) ↦ no_further nests leaves.within e
]

other_kinds : refusals.Nesting ≡ refusals.Syntax → ⊥
other_kinds e = cc

both : {levels end : ℕ} {tokens : List Token} {a b : Refusal} (first : FitsRefusal levels end tokens a) (second : FitsRefusal levels end tokens b)
    → ((a.kind ≡ refusals.Nesting) × NestsAt levels tokens first.j) ⊎ LeavesAt levels tokens a.kind first.j
    → ((b.kind ≡ refusals.Nesting) × NestsAt levels tokens second.j) ⊎ LeavesAt levels tokens b.kind second.j → AgreeOn a b
both {end = end} {tokens = tokens} first second (inl n) (inl m) = record {
  place = first.place ∙ ap (λ k. place_of_symbol end (drop k tokens)) (same_nesting n.1 m.1) ∙ sym second.place;
  kind = λ is. absurd (other_kinds (sym n.0 ∙ is));
  nesting = λ is. m.0;
}
both first second (inl n) (inr m) = absurd (apart n.1 m)
both first second (inr l) (inl n) = absurd (apart n.1 l)
both {end = end} {tokens = tokens} {a = a} {b = b} first second (inr l) (inr m) =
    let k : m.k ≡ l.k = same_leaving m.leaves l.leaves in
    let j : first.j ≡ second.j = same_named l.named (subst (λ n. IsSymbolNamed tokens n second.j) k m.named) in
    record {
      place = first.place ∙ ap (λ n. place_of_symbol end (drop n tokens)) j ∙ sym second.place;
      kind = λ is. syntax_too second.j tokens a.kind b.kind is (subst (λ n. IsKindAfter n tokens a.kind) j l.told) m.told;
      nesting = λ is. absurd (subst (IsKindAfter first.j tokens) is l.told);
    }

pub one_place : FitsOnePlace
one_place levels end tokens a b first second = both first second (either levels tokens a.kind first.j first.fits) (either levels tokens b.kind second.j second.fits)
