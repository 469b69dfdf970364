-- Why the parser refuses a text, and at which byte.
use Rattle.std.proofs.Common.{◌≡◌, ◌∙◌, sym, subst, ℕ, suc, ◌-◌, inl, inr, List, [], ◌∷◌, length, take, drop, Some, refl, rules, arith}
use Rattle.std.specs.Prelude.{codes, Ok}
use Rattle.cue_lattice.specs.Limits.{level_limit}
use Rattle.cue_lattice.specs.declared.refusal.Form.{Form}
use Rattle.cue_lattice.specs.declared.refusal.Form.TheVariants as forms
use Rattle.cue_lattice.specs.declared.refusal.Kind.{Kind}
use Rattle.cue_lattice.specs.declared.refusal.Kind.TheVariants.{Syntax, LeftOut}
use Rattle.cue_lattice.specs.declared.refusal.Refusal.{Refusal}
use Rattle.cue_lattice.specs.Refusal.{refusal_at}
use Rattle.cue_lex.specs.declared.token.Token.{Token}
use Rattle.cue_lex.specs.declared.token.TokenKind.TheVariants.{Name, Mark}
use Rattle.cue_lex.specs.declared.punctuation.Punctuation.TheVariants.{OpenBrace, OpenParenthesis, Less, Ellipsis}
use Rattle.cue_lex.specs.Tokens.{tokens}
use Rattle.cue_syntax.specs.declared.spot.Position.{Position}
use Rattle.cue_syntax.specs.declared.spot.Position.TheVariants as spots
use Rattle.cue_syntax.specs.Forms.{IsFormAt}
use Rattle.cue_syntax.specs.Grammar.{unlimited, at_most}
use Rattle.cue_syntax.specs.Recogniser.{Goal, rest_where_stuck}
use Rattle.cue_syntax.specs.Spots.{spot_of}
use Rattle.cue_syntax.specs.Viability.{place_of_symbol, IsHidden, IsDefinition, IsCallable, NextSign}
use Rattle.cue_syntax.specs.Refusals.{IsNamedEarly, IsSymbolNamed, IsKindAfter, LeavesAt, FitsRefusalAt, FitsRefusal}
use Rattle.cue_syntax.proofs.NoTextWhereStuck.{stuck_begins_none}
use Rattle.cue_syntax.proofs.TakenBeginsAText.{begins}
use Rattle.text_facts.proofs.OnLiterals.{lexed}
use Rattle.text_facts.proofs.Spelt.{at, mark_at, name_at, digit_at}
use Rattle.text_facts.proofs.Trees.{words_of}

-- the text has tokens, and the refusal fits them
record IsRefused (text : List ℕ) (why : Refusal) : Type 0 where
  pub words : List Token
  pub lexed : tokens text ≡ Ok words
  pub fits : FitsRefusal level_limit (length text) words why

-- ---- proofs
refused : (text : List ℕ) (why : Refusal) (j : ℕ) → tokens text ≡ Ok (words_of (tokens text)) → why.place ≡ place_of_symbol (length text) (drop j (words_of (tokens text)))
    → FitsRefusalAt level_limit (words_of (tokens text)) why.kind j → IsRefused text why
refused text why j lexed place fits = record { words = words_of (tokens text); lexed = lexed; fits = record { j = j; place = place; fits = fits } }

-- where the recogniser sticks, within a limit and without one, the tokens leave the grammar
left : (words here : List Token) (kind : Kind) (j : ℕ) → rest_where_stuck unlimited (Goal.text ∷ []) words ≡ Some here → rest_where_stuck (at_most level_limit) (Goal.text ∷ []) words ≡ Some here
    → IsSymbolNamed words (length words - length here) j → IsKindAfter j words kind → LeavesAt level_limit words kind j
left words here kind j free within named told = record {
  k = length words - length here;
  within = inl (begins (at_most level_limit) words here within);
  leaves = record { inside = omega arith; before = begins unlimited words here free; behind = stuck_begins_none unlimited words here free };
  named = named;
  told = told;
}

-- the symbol there is named, where the one before it isn't
named_here : (words : List Token) (k : ℕ) → ¬ IsNamedEarly k words → IsSymbolNamed words (suc k) (suc k)
named_here words k not_early = inr (refl, λ i next early. not_early (subst (λ n. IsNamedEarly n words) (let e : i ≡ k = omega (arith, next) in e) early))

first_named : (words : List Token) → IsSymbolNamed words 0 0
first_named words = inr (refl, λ i next early. absurd (let e : suc i ≡ 0 = next in omega (arith, e)))

-- at no other spot a form is left out
none_at_other : (ts : List Token) (form : Form) → ¬ IsFormAt form spots.Other ts
none_at_other ts forms.HiddenLabel h = h.0
none_at_other ts forms.MarkedDefinition h = h.0
none_at_other ts forms.NestedDefinition h = h.0
none_at_other ts forms.Clause h = h.0
none_at_other ts forms.DynamicLabel h = h.0
none_at_other ts forms.Embedding h = h.0
none_at_other ts forms.TypedEllipsis h = let e : spots.Other ≡ spots.Ellipsis = h.0 in cc
none_at_other ts forms.TypedRest h = h
none_at_other ts forms.Bound h = h.0
none_at_other ts forms.Call h = h.0
none_at_other ts forms.CloseArgument h = let e : spots.Other ≡ spots.CloseArgument = h.0 in cc

-- nor at the end of a text
none_at_end : (spot : Position) (form : Form) → ¬ IsFormAt form spot []
none_at_end spot forms.HiddenLabel h = h.1
none_at_end spot forms.MarkedDefinition h = h.1
none_at_end spot forms.NestedDefinition h = h.1
none_at_end spot forms.Clause h = h.1
none_at_end spot forms.DynamicLabel (a, inl h) = h
none_at_end spot forms.DynamicLabel (a, inr h) = h
none_at_end spot forms.Embedding h = h.1
none_at_end spot forms.TypedEllipsis h = h.1
none_at_end spot forms.TypedRest h = h
none_at_end spot forms.Bound h = h.1
none_at_end spot forms.Call h = h.1
none_at_end spot forms.CloseArgument h = h.1

-- nor between `close` and its parenthesis
none_at_close : (ts : List Token) (form : Form) → ¬ IsFormAt form spots.CloseName ts
none_at_close ts forms.HiddenLabel h = h.0
none_at_close ts forms.MarkedDefinition h = h.0
none_at_close ts forms.NestedDefinition h = h.0
none_at_close ts forms.Clause h = h.0
none_at_close ts forms.DynamicLabel h = h.0
none_at_close ts forms.Embedding h = h.0
none_at_close ts forms.TypedEllipsis h = let e : spots.CloseName ≡ spots.Ellipsis = h.0 in cc
none_at_close ts forms.TypedRest h = h
none_at_close ts forms.Bound h = h.0
none_at_close ts forms.Call h = h.0
none_at_close ts forms.CloseArgument h = let e : spots.CloseName ≡ spots.CloseArgument = h.0 in cc

-- a value that is no hidden name, no definition, and no call
none_of_value : (t : Token) (ts : List Token) → ¬ IsHidden t.kind → ¬ IsDefinition t.kind → ¬ (IsCallable t.kind × NextSign (Mark OpenParenthesis) (t ∷ ts))
    → (form : Form) → ¬ IsFormAt form spots.Value (t ∷ ts)
none_of_value t ts hidden definition call forms.HiddenLabel h = hidden h.1
none_of_value t ts hidden definition call forms.MarkedDefinition h = definition h.1
none_of_value t ts hidden definition call forms.NestedDefinition h = definition h.1
none_of_value t ts hidden definition call forms.Clause h = h.0
none_of_value t ts hidden definition call forms.DynamicLabel h = h.0
none_of_value t ts hidden definition call forms.Embedding h = h.0
none_of_value t ts hidden definition call forms.TypedEllipsis h = let e : spots.Value ≡ spots.Ellipsis = h.0 in cc
none_of_value t ts hidden definition call forms.TypedRest h = h
none_of_value t ts hidden definition call forms.Bound h = h.0
none_of_value t ts hidden definition call forms.Call h = call (h.1, h.2)
none_of_value t ts hidden definition call forms.CloseArgument h = let e : spots.Value ≡ spots.CloseArgument = h.0 in cc

-- an operand that is no call
none_of_operand : (t : Token) (ts : List Token) → ¬ IsCallable t.kind → (form : Form) → ¬ IsFormAt form spots.Operand (t ∷ ts)
none_of_operand t ts call forms.HiddenLabel h = h.0
none_of_operand t ts call forms.MarkedDefinition h = h.0
none_of_operand t ts call forms.NestedDefinition h = h.0
none_of_operand t ts call forms.Clause h = h.0
none_of_operand t ts call forms.DynamicLabel h = h.0
none_of_operand t ts call forms.Embedding h = h.0
none_of_operand t ts call forms.TypedEllipsis h = let e : spots.Operand ≡ spots.Ellipsis = h.0 in cc
none_of_operand t ts call forms.TypedRest h = h
none_of_operand t ts call forms.Bound h = h.0
none_of_operand t ts call forms.Call h = call h.1
none_of_operand t ts call forms.CloseArgument h = let e : spots.Operand ≡ spots.CloseArgument = h.0 in cc

-- `...` at the top
none_of_dots : (from to : ℕ) (ts : List Token) (form : Form) → ¬ IsFormAt form spots.Top (record { kind = Mark Ellipsis; from = from; to = to } ∷ ts)
none_of_dots from to ts forms.HiddenLabel h = h.1
none_of_dots from to ts forms.MarkedDefinition h = h.1
none_of_dots from to ts forms.NestedDefinition h = h.0
none_of_dots from to ts forms.Clause h = h.1
none_of_dots from to ts forms.DynamicLabel (a, inl h) = cc
none_of_dots from to ts forms.DynamicLabel (a, inr h) = cc
none_of_dots from to ts forms.Embedding h = h.1
none_of_dots from to ts forms.TypedEllipsis h = let e : spots.Top ≡ spots.Ellipsis = h.0 in cc
none_of_dots from to ts forms.TypedRest h = h
none_of_dots from to ts forms.Bound h = h.0
none_of_dots from to ts forms.Call h = h.0
none_of_dots from to ts forms.CloseArgument h = let e : spots.Top ≡ spots.CloseArgument = h.0 in cc

-- so such a symbol is not named before the next
not_early_other : (j : ℕ) (words : List Token) → spot_of (take j words) ≡ spots.Other → ¬ IsNamedEarly j words
not_early_other j words is (inl (form, h)) = none_at_other (drop j words) form (subst (λ spot. IsFormAt form spot (drop j words)) is h.0)
not_early_other j words is (inr h) = let e : spots.Other ≡ spots.Value = sym is ∙ h.0 in cc

syntax_at_other : (j : ℕ) (words : List Token) → spot_of (take j words) ≡ spots.Other → IsKindAfter j words Syntax
syntax_at_other j words is form h = none_at_other (drop j words) form (subst (λ spot. IsFormAt form spot (drop j words)) is h.0)

-- ---- facts
-- at the end of the text
a_value_is_wanted : IsRefused (codes "a:") (refusal_at Syntax 2)
unfolding lexed
a_value_is_wanted = refused _ _ 2 refl refl (left _ [] Syntax 2 refl refl (named_here _ 1 (not_early_other 1 (words_of (tokens (codes "a:"))) refl)) (λ form h. none_at_end spots.Value form h.0))

-- at the second number
two_values : IsRefused (codes "a: 1 2") (refusal_at Syntax 5)
unfolding lexed
two_values = refused _ _ 3 refl refl (left _ _ Syntax 3 refl refl (named_here _ 2 not_early) (syntax_at_other 3 (words_of (tokens (codes "a: 1 2"))) refl))
  where
    not_early : ¬ IsNamedEarly 2 (words_of (tokens (codes "a: 1 2")))
    not_early (inl (form, h)) = none_of_value (digit_at 3 1) (digit_at 5 2 ∷ []) (λ z. z) (λ z. z) (λ z. z.0) form h.0
    not_early (inr h) = h.1

-- behind it a further term is wanted
a_default_alone : IsRefused (codes "a: *1") (refusal_at Syntax 5)
unfolding lexed
a_default_alone = refused _ _ 4 refl refl (left _ [] Syntax 4 refl refl (named_here _ 3 not_early) (λ form h. none_at_end spots.Other form h.0))
  where
    not_early : ¬ IsNamedEarly 3 (words_of (tokens (codes "a: *1")))
    not_early (inl (form, h)) = none_of_operand (digit_at 4 1) [] (λ z. z) form h.0
    not_early (inr h) = let e : spots.Operand ≡ spots.Value = h.0 in cc

-- at the keyword, not at what lacks behind it
a_keyword_as_a_value : IsRefused (codes "a: for") (refusal_at Syntax 3)
unfolding lexed
a_keyword_as_a_value = refused _ _ 2 refl refl (left _ [] Syntax 2 refl refl (inl (refl, inr (search rules))) (λ form h. none_of_value (at 3 6 (Name (codes "for"))) [] (λ z. z) (λ z. z) (λ z. z.1) form h.0))

-- the first word is no embedding, since it begins the clause of a package
a_package_without_a_name : IsRefused (codes "package 1") (refusal_at Syntax 8)
unfolding lexed
a_package_without_a_name = refused _ _ 1 refl refl (left _ _ Syntax 1 refl refl (named_here _ 0 not_early) (syntax_at_other 1 (words_of (tokens (codes "package 1"))) refl))
  where
    not_early : ¬ IsNamedEarly 0 (words_of (tokens (codes "package 1")))
    not_early (inl (form, h)) = h.1 (refl, λ z. z)
    not_early (inr h) = let e : spots.Top ≡ spots.Value = h.0 in cc

a_number_is_no_declaration : IsRefused (codes "1") (refusal_at (LeftOut forms.Embedding) 0)
unfolding lexed
a_number_is_no_declaration = refused _ _ 0 refl refl (left _ _ (LeftOut forms.Embedding) 0 refl refl (first_named _) (search rules))

a_label_in_parentheses : IsRefused (codes "(") (refusal_at (LeftOut forms.DynamicLabel) 0)
unfolding lexed
a_label_in_parentheses = refused _ _ 0 refl refl (left _ _ (LeftOut forms.DynamicLabel) 0 refl refl (first_named _) (search rules))

a_hidden_label : IsRefused (codes "_a: 1") (refusal_at (LeftOut forms.HiddenLabel) 0)
unfolding lexed
a_hidden_label = refused _ _ 0 refl refl (left _ _ (LeftOut forms.HiddenLabel) 0 refl refl (first_named _) (search rules))

a_hidden_label_in_a_chain : IsRefused (codes "a: _b: 1") (refusal_at (LeftOut forms.HiddenLabel) 3)
unfolding lexed
a_hidden_label_in_a_chain = refused _ _ 2 refl refl (left _ _ (LeftOut forms.HiddenLabel) 2 refl refl (inl (refl, inl (forms.HiddenLabel, search rules))) (search rules))

a_marked_definition : IsRefused (codes "#A?: 1") (refusal_at (LeftOut forms.MarkedDefinition) 0)
unfolding lexed
a_marked_definition = refused _ _ 0 refl refl (left _ _ (LeftOut forms.MarkedDefinition) 0 refl refl (inl (refl, inl (forms.MarkedDefinition, search rules))) (search rules))

a_definition_in_a_struct : IsRefused (codes "a: {#B: 1}") (refusal_at (LeftOut forms.NestedDefinition) 4)
unfolding lexed
a_definition_in_a_struct = refused _ _ 3 refl refl (left _ _ (LeftOut forms.NestedDefinition) 3 refl refl (named_here _ 2 not_early) (search rules))
  where
    not_early : ¬ IsNamedEarly 2 (words_of (tokens (codes "a: {#B: 1}")))
    not_early (inl (form, h)) = none_of_value (mark_at 3 OpenBrace) (drop 3 (words_of (tokens (codes "a: {#B: 1}")))) (λ z. z) (λ z. z) (λ z. z.0) form h.0
    not_early (inr h) = h.1

a_clause_of_a_loop : IsRefused (codes "for a") (refusal_at (LeftOut forms.Clause) 0)
unfolding lexed
a_clause_of_a_loop = refused _ _ 0 refl refl (left _ _ (LeftOut forms.Clause) 0 refl refl (inl (refl, inl (forms.Clause, search rules))) (search rules))

a_typed_ellipsis : IsRefused (codes "... a") (refusal_at (LeftOut forms.TypedEllipsis) 4)
unfolding lexed
a_typed_ellipsis = refused _ _ 1 refl refl (left _ _ (LeftOut forms.TypedEllipsis) 1 refl refl (named_here _ 0 not_early) (search rules))
  where
    not_early : ¬ IsNamedEarly 0 (words_of (tokens (codes "... a")))
    not_early (inl (form, h)) = none_of_dots 0 3 (name_at 4 (codes "a") ∷ []) form h.0
    not_early (inr h) = h.1

a_bound_of_a_name : IsRefused (codes "a: <b") (refusal_at (LeftOut forms.Bound) 4)
unfolding lexed
a_bound_of_a_name = refused _ _ 3 refl refl (left _ _ (LeftOut forms.Bound) 3 refl refl (named_here _ 2 not_early) (search rules))
  where
    not_early : ¬ IsNamedEarly 2 (words_of (tokens (codes "a: <b")))
    not_early (inl (form, h)) = none_of_value (mark_at 3 Less) (name_at 4 (codes "b") ∷ []) (λ z. z) (λ z. z) (λ z. z.0) form h.0
    not_early (inr h) = h.1

a_call : IsRefused (codes "a: b(1)") (refusal_at (LeftOut forms.Call) 3)
unfolding lexed
a_call = refused _ _ 2 refl refl (left _ _ (LeftOut forms.Call) 2 refl refl (inl (refl, inl (forms.Call, search rules))) (search rules))

close_of_a_number : IsRefused (codes "a: close(1)") (refusal_at (LeftOut forms.CloseArgument) 9)
unfolding lexed
close_of_a_number = refused _ _ 4 refl refl (left _ _ (LeftOut forms.CloseArgument) 4 refl refl (named_here _ 3 not_early) (search rules))
  where
    not_early : ¬ IsNamedEarly 3 (words_of (tokens (codes "a: close(1)")))
    not_early (inl (form, h)) = none_at_close (drop 3 (words_of (tokens (codes "a: close(1)")))) form h.0
    not_early (inr h) = let e : spots.CloseName ≡ spots.Value = h.0 in cc
