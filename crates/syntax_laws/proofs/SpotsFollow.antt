-- The spot after tokens that begin a text tells what can come next.
use Rattle.std.proofs.Common.{◌≡◌, ◌∙◌, ◌↔◌, ap, sym, subst, refl, ℕ, suc, ◌-◌, ◌⊎◌, inl, inr, Bool, true, false, List, [], ◌∷◌, ◌++◌, length, Option, Some, None, arith}
use Rattle.std.specs.Prelude.{if◌then◌else◌}
use Rattle.cue_lex.specs.declared.token.Token.{Token}
use Rattle.cue_lex.specs.declared.token.TokenKind.TheVariants as kinds
use Rattle.cue_lex.specs.declared.punctuation.Punctuation.TheVariants as points
use Rattle.cue_syntax.specs.declared.spot.Position.{Position}
use Rattle.cue_syntax.specs.declared.spot.Position.TheVariants as spots
use Rattle.cue_syntax.specs.declared.spot.Inside.{Inside}
use Rattle.cue_syntax.specs.Grammar.{unlimited}
use Rattle.cue_syntax.specs.Viability.{BeginsText}
use Rattle.cue_syntax.specs.Spots.{is_close, innermost_open, open_after, spot_after, spot_from, spot_of}
use Rattle.cue_syntax.specs.Forms.{IsOfLabel, IsOfOperand}
use Rattle.cue_syntax.specs.Recogniser.{Stack, step_stack, rest_where_stuck, rest_where_stuck_behind, is_over, is_keyword, text, package_word, package_end, entries, more_entries, mark, colon, value, value_name, value_text, chained, expression, term, unary, more_parts, bar, more_terms, signed, signed_or_text, magnitude, behind_close, closed, parenthesis, parenthesis_end, elements, more_elements, dots, bracket, bracket_end}
use Rattle.cue_syntax.proofs.NoTextWhereStuck.{stuck_begins_none, stuck_inside}
use Rattle.cue_syntax.proofs.TakenBeginsAText.{begins, taken, fewer}
use Rattle.syntax_laws.specs.Following.{BeginText, token_of, OperandNext, LabelNext, SpotsFollowTheGrammar}
use Rattle.syntax_laws.proofs.SpotsOfGoals.{Quiet, SpotTop, Afters, Shape, Fit, next_fit}

-- the goals take all of the tokens
abbrev Takes : Stack → List Token → Type 0
Takes goals tokens = (rest_where_stuck unlimited goals tokens ≡ None) ⊎ (rest_where_stuck unlimited goals tokens ≡ Some [])

-- the goals are stuck at one of the tokens
record Stops (goals : Stack) (tokens : List Token) : Type 0 where
  pub token : Token
  pub behind : List Token
  pub is : rest_where_stuck unlimited goals tokens ≡ Some (token ∷ behind)

-- where the tokens lead from these goals and this spot
record Leads (goals : Stack) (s : Position) (opened : List Inside) (tokens : List Token) : Type 0 where
  pub next : Stack
  pub shape : Shape next
  pub spot : SpotTop next (spot_from opened s tokens)
  pub leads : (more : List Token) → rest_where_stuck unlimited goals (tokens ++ more) ≡ rest_where_stuck unlimited next more

taken_none : (goals : Stack) (t : Token) (ts : List Token) → step_stack goals t.kind ≡ None → rest_where_stuck unlimited goals (t ∷ ts) ≡ Some (t ∷ ts)
taken_none goals t ts is = ap (λ o. rest_where_stuck_behind unlimited o (t ∷ ts) (λ next. rest_where_stuck unlimited next ts)) is

taken_some : (goals next : Stack) (t : Token) (ts : List Token) → step_stack goals t.kind ≡ Some next → rest_where_stuck unlimited goals (t ∷ ts) ≡ rest_where_stuck unlimited next ts
taken_some goals next t ts is = ap (λ o. rest_where_stuck_behind unlimited o (t ∷ ts) (λ n. rest_where_stuck unlimited n ts)) is

not_taken : (P : Type 0) (goals : Stack) (t : Token) (ts : List Token) → rest_where_stuck unlimited goals (t ∷ ts) ≡ Some (t ∷ ts) → Takes goals (t ∷ ts) → P
not_taken P goals t ts is takes = absurd (elim takes [
  | inl e ↦ (let f : Some (t ∷ ts) ≡ None = sym is ∙ e in cc)
  | inr e ↦ (let f : Some (t ∷ ts) ≡ Some [] = sym is ∙ e in cc)
])

leads : (tokens : List Token) (goals : Stack) (s : Position) (opened : List Inside) → Fit goals opened s → Takes goals tokens → Leads goals s opened tokens
leads [] goals s opened fit takes = record { next = goals; shape = fit.shape; spot = fit.spot_is; leads = λ more. refl }
leads (t ∷ ts) goals s opened fit takes =
    by (step_stack goals t.kind) refl (λ next fits rest. leads ts next (spot_after (innermost_open opened) s t.kind) (open_after opened t.kind) fits rest)
  where
    by : (o : Option Stack) → step_stack goals t.kind ≡ o
        → ((next : Stack) → Fit next (open_after opened t.kind) (spot_after (innermost_open opened) s t.kind) → Takes next ts → Leads next (spot_after (innermost_open opened) s t.kind) (open_after opened t.kind) ts)
        → Leads goals s opened (t ∷ ts)
    by None is later = not_taken (Leads goals s opened (t ∷ ts)) goals t ts (taken_none goals t ts is) takes
    by (Some next) is later =
        let fits : Fit next (open_after opened t.kind) (spot_after (innermost_open opened) s t.kind) =
        subst (λ z. Fit next (open_after z t.kind) (spot_after (innermost_open z) s t.kind)) fit.opened_is (next_fit goals next s t.kind fit.shape fit.spot_is is) in
        let rest : Takes next ts = subst (λ z. (z ≡ None) ⊎ (z ≡ Some [])) (taken_some goals next t ts is) takes in
        let l = later next fits rest in
        record { next = l.next; shape = l.shape; spot = l.spot; leads = λ more. taken_some goals next t (ts ++ more) is ∙ l.leads more }

-- tokens that begin a text are taken, and no others
begin_taken : (tokens : List Token) → BeginText tokens → Takes (text ∷ []) tokens
begin_taken tokens begun = by (rest_where_stuck unlimited (text ∷ []) tokens) refl
  where
    by : (o : Option (List Token)) → rest_where_stuck unlimited (text ∷ []) tokens ≡ o → Takes (text ∷ []) tokens
    by None is = inl is
    by (Some []) is = inr is
    by (Some (t ∷ here)) is =
        let inside = stuck_inside unlimited (text ∷ []) tokens (t ∷ here) is in
        absurd (stuck_begins_none unlimited tokens (t ∷ here) is (fewer unlimited (suc (length tokens - length (t ∷ here))) (length tokens) tokens begun (omega (arith, inside))))

taken_begins : (tokens : List Token) → Takes (text ∷ []) tokens → BeginText tokens
taken_begins tokens takes = elim takes [
  | inl is ↦ (let t = taken unlimited tokens is in record { whole = tokens; tree = t.0; alike = refl; is = t.1 })
  | inr is ↦ subst (λ n. BeginsText unlimited n tokens) (let e : length tokens - 0 ≡ length tokens = omega arith in e) (begins unlimited tokens [] is)
]

stops_none : (tokens : List Token) → Stops (text ∷ []) tokens → ¬ BeginText tokens
stops_none tokens stops = λ begun. elim (begin_taken tokens begun) [
  | inl e ↦ (let f : Some (stops.token ∷ stops.behind) ≡ None = sym stops.is ∙ e in cc)
  | inr e ↦ (let f : Some (stops.token ∷ stops.behind) ≡ Some [] = sym stops.is ∙ e in cc)
]

-- the end of the tokens is always taken
end_takes : (goals : Stack) → Takes goals []
end_takes goals = by (is_over goals) refl
  where
    by : (b : Bool) → is_over goals ≡ b → Takes goals []
    by true is = inl (ap (λ z. if z then None else Some []) is)
    by false is = inr (ap (λ z. if z then None else Some []) is)

take_one : (goals next : Stack) (t : Token) → step_stack goals t.kind ≡ Some next → Takes goals (t ∷ [])
take_one goals next t is = subst (λ z. (z ≡ None) ⊎ (z ≡ Some [])) (sym (taken_some goals next t [] is)) (end_takes next)

take_two : (goals next last : Stack) (t u : Token) → step_stack goals t.kind ≡ Some next → step_stack next u.kind ≡ Some last → Takes goals (t ∷ u ∷ [])
take_two goals next last t u first second = subst (λ z. (z ≡ None) ⊎ (z ≡ Some [])) (sym (taken_some goals next t (u ∷ []) first)) (take_one next last u second)

stop_first : (goals : Stack) (t : Token) (ts : List Token) → step_stack goals t.kind ≡ None → Stops goals (t ∷ ts)
stop_first goals t ts is = record { token = t; behind = ts; is = taken_none goals t ts is }

stop_second : (goals next : Stack) (t u : Token) → step_stack goals t.kind ≡ Some next → step_stack next u.kind ≡ None → Stops goals (t ∷ u ∷ [])
stop_second goals next t u first second = record { token = u; behind = []; is = taken_some goals next t (u ∷ []) first ∙ taken_none next u [] second }

bottom_none : (gs : Stack) → Afters gs → step_stack gs kinds.Bottom ≡ None
bottom_none [] a = refl
bottom_none (more_parts ∷ gs) a = bottom_none gs a.1
bottom_none (more_terms ∷ gs) a = bottom_none gs a.1
bottom_none (chained ∷ gs) a = bottom_none gs a.1
bottom_none (bar ∷ gs) a = refl
bottom_none (parenthesis ∷ gs) a = refl
bottom_none (more_elements ∷ gs) a = refl
bottom_none (bracket ∷ gs) a = refl
bottom_none (more_entries true ∷ gs) a = refl
bottom_none (more_entries false ∷ gs) a = refl
bottom_none (_ ∷ gs) a = absurd a.0

string_none : (gs : Stack) → Afters gs → step_stack gs (kinds.Text []) ≡ None
string_none [] a = refl
string_none (more_parts ∷ gs) a = string_none gs a.1
string_none (more_terms ∷ gs) a = string_none gs a.1
string_none (chained ∷ gs) a = string_none gs a.1
string_none (bar ∷ gs) a = refl
string_none (parenthesis ∷ gs) a = refl
string_none (more_elements ∷ gs) a = refl
string_none (bracket ∷ gs) a = refl
string_none (more_entries true ∷ gs) a = refl
string_none (more_entries false ∷ gs) a = refl
string_none (_ ∷ gs) a = absurd a.0

definition_none : (gs : Stack) → Afters gs → step_stack gs (kinds.Definition []) ≡ None
definition_none [] a = refl
definition_none (more_parts ∷ gs) a = definition_none gs a.1
definition_none (more_terms ∷ gs) a = definition_none gs a.1
definition_none (chained ∷ gs) a = definition_none gs a.1
definition_none (bar ∷ gs) a = refl
definition_none (parenthesis ∷ gs) a = refl
definition_none (more_elements ∷ gs) a = refl
definition_none (bracket ∷ gs) a = refl
definition_none (more_entries true ∷ gs) a = refl
definition_none (more_entries false ∷ gs) a = refl
definition_none (_ ∷ gs) a = absurd a.0

colon_none : (gs : Stack) → Afters gs → step_stack gs (kinds.Mark points.Colon) ≡ None
colon_none [] a = refl
colon_none (more_parts ∷ gs) a = colon_none gs a.1
colon_none (more_terms ∷ gs) a = colon_none gs a.1
colon_none (chained ∷ gs) a = colon_none gs a.1
colon_none (bar ∷ gs) a = refl
colon_none (parenthesis ∷ gs) a = refl
colon_none (more_elements ∷ gs) a = refl
colon_none (bracket ∷ gs) a = refl
colon_none (more_entries true ∷ gs) a = refl
colon_none (more_entries false ∷ gs) a = refl
colon_none (_ ∷ gs) a = absurd a.0

keyword_none : (o : Option Stack) (b : Bool) → o ≡ None → (if b then None else o) ≡ None
keyword_none o true is = refl
keyword_none o false is = is

-- what is told of one or two tokens that may come next, by the spot
data Told (P : Type 0) (goals : Stack) (more : List Token) : Type 0 where
  yes : P → Takes goals more → Told P goals more
  no : ¬ P → Stops goals more → Told P goals more

abbrev bottom : Token
bottom = token_of kinds.Bottom

abbrev string_label : List Token
string_label = token_of (kinds.Text []) ∷ token_of (kinds.Mark points.Colon) ∷ []

abbrev definition_label : List Token
definition_label = token_of (kinds.Definition []) ∷ token_of (kinds.Mark points.Colon) ∷ []

quiet_bottom : (goals : Stack) (s : Position) → Quiet s → step_stack goals kinds.Bottom ≡ None → Told (IsOfOperand s) goals (bottom ∷ [])
quiet_bottom goals s quiet is = no quiet.0 (stop_first goals bottom [] is)

quiet_label : (goals : Stack) (s : Position) → Quiet s → step_stack goals (kinds.Text []) ≡ None → Told (IsOfLabel s) goals string_label
quiet_label goals s quiet is = no quiet.1 (stop_first goals (token_of (kinds.Text [])) _ is)

named : (b : Bool) → Quiet (if b then spots.CloseName else spots.Other)
named true = (λ x. x, λ x. x)
named false = (λ x. x, λ x. x)

quiet_named : (t : List ℕ) (s : Position) → s ≡ (if is_close t then spots.CloseName else spots.Other) → Quiet s
quiet_named t s is = subst Quiet (sym is) (named (is_close t))

quiet_close : (s : Position) → s ≡ spots.CloseName → Quiet s
quiet_close s is = subst Quiet (sym is) (λ x. x, λ x. x)

-- an operand
of_top : (s : Position) → s ≡ spots.Top → ¬ IsOfOperand s
of_top s is = subst (λ z. ¬ IsOfOperand z) (sym is) (λ x. x)

of_inner : (s : Position) → s ≡ spots.Inner → ¬ IsOfOperand s
of_inner s is = subst (λ z. ¬ IsOfOperand z) (sym is) (λ x. x)

operand_told : (goals : Stack) (s : Position) → Shape goals → SpotTop goals s → Told (IsOfOperand s) goals (bottom ∷ [])
operand_told [] s shape spot = quiet_bottom [] s spot refl
operand_told (text ∷ gs) s shape spot = no (of_top s spot) (stop_first (text ∷ gs) bottom [] refl)
operand_told (package_word ∷ gs) s shape spot = quiet_bottom (package_word ∷ gs) s spot refl
operand_told (package_end ∷ gs) s shape spot = quiet_bottom (package_end ∷ gs) s spot refl
operand_told (entries true ∷ gs) s shape spot = no (of_top s spot) (stop_first (entries true ∷ gs) bottom [] refl)
operand_told (entries false ∷ gs) s shape spot = no (of_inner s spot) (stop_first (entries false ∷ gs) bottom [] refl)
operand_told (more_entries true ∷ gs) s shape spot = quiet_bottom (more_entries true ∷ gs) s spot refl
operand_told (more_entries false ∷ gs) s shape spot = quiet_bottom (more_entries false ∷ gs) s spot refl
operand_told (mark ∷ gs) s shape spot = quiet_bottom (mark ∷ gs) s spot refl
operand_told (colon ∷ gs) s shape spot = quiet_bottom (colon ∷ gs) s spot refl
operand_told (value ∷ gs) s shape spot = yes (subst IsOfOperand (sym spot) tt) (take_one (value ∷ gs) (more_parts ∷ more_terms ∷ gs) bottom refl)
operand_told (value_name t ∷ gs) s shape spot = quiet_bottom (value_name t ∷ gs) s (quiet_named t s spot) (keyword_none _ (is_keyword t) (bottom_none gs shape))
operand_told (value_text ∷ gs) s shape spot = quiet_bottom (value_text ∷ gs) s spot (bottom_none gs shape)
operand_told (chained ∷ gs) s shape spot = quiet_bottom (chained ∷ gs) s spot (bottom_none gs shape)
operand_told (expression ∷ gs) s shape spot = yes (subst IsOfOperand (sym spot) tt) (take_one (expression ∷ gs) (more_parts ∷ more_terms ∷ gs) bottom refl)
operand_told (term ∷ gs) s shape spot = yes (subst IsOfOperand (sym spot) tt) (take_one (term ∷ gs) (more_parts ∷ gs) bottom refl)
operand_told (unary ∷ gs) s shape spot = yes (subst IsOfOperand (sym spot) tt) (take_one (unary ∷ gs) gs bottom refl)
operand_told (more_parts ∷ gs) s shape spot = quiet_bottom (more_parts ∷ gs) s spot (bottom_none gs shape)
operand_told (bar ∷ gs) s shape spot = quiet_bottom (bar ∷ gs) s spot refl
operand_told (more_terms ∷ gs) s shape spot = quiet_bottom (more_terms ∷ gs) s spot (bottom_none gs shape)
operand_told (signed ∷ gs) s shape spot = quiet_bottom (signed ∷ gs) s spot refl
operand_told (signed_or_text ∷ gs) s shape spot = quiet_bottom (signed_or_text ∷ gs) s spot refl
operand_told (magnitude sign ∷ gs) s shape spot = quiet_bottom (magnitude sign ∷ gs) s spot refl
operand_told (behind_close ∷ gs) s shape spot = quiet_bottom (behind_close ∷ gs) s (quiet_close s spot) (bottom_none gs shape)
operand_told (closed ∷ gs) s shape spot = quiet_bottom (closed ∷ gs) s spot refl
operand_told (parenthesis ∷ gs) s shape spot = quiet_bottom (parenthesis ∷ gs) s spot refl
operand_told (parenthesis_end ∷ gs) s shape spot = quiet_bottom (parenthesis_end ∷ gs) s spot refl
operand_told (elements ∷ gs) s shape spot = yes (subst IsOfOperand (sym spot) tt) (take_one (elements ∷ gs) (more_parts ∷ more_terms ∷ more_elements ∷ gs) bottom refl)
operand_told (more_elements ∷ gs) s shape spot = quiet_bottom (more_elements ∷ gs) s spot refl
operand_told (dots ∷ gs) s shape spot = yes (subst IsOfOperand (sym spot) tt) (take_one (dots ∷ gs) (more_parts ∷ more_terms ∷ bracket ∷ gs) bottom refl)
operand_told (bracket ∷ gs) s shape spot = quiet_bottom (bracket ∷ gs) s spot refl
operand_told (bracket_end ∷ gs) s shape spot = quiet_bottom (bracket_end ∷ gs) s spot refl

-- a label
no_label : (s : Position) → s ≡ spots.Operand → ¬ IsOfLabel s
no_label s is = subst (λ z. ¬ IsOfLabel z) (sym is) (λ x. x)

abbrev string : Token
string = token_of (kinds.Text [])

abbrev sign : Token
sign = token_of (kinds.Mark points.Colon)

label_told : (goals : Stack) (s : Position) → Shape goals → SpotTop goals s → Told (IsOfLabel s) goals string_label
label_told [] s shape spot = quiet_label [] s spot refl
label_told (text ∷ gs) s shape spot = yes (subst IsOfLabel (sym spot) tt) (take_two (text ∷ gs) (mark ∷ value ∷ more_entries true ∷ gs) (value ∷ more_entries true ∷ gs) string sign refl refl)
label_told (package_word ∷ gs) s shape spot = quiet_label (package_word ∷ gs) s spot refl
label_told (package_end ∷ gs) s shape spot = quiet_label (package_end ∷ gs) s spot refl
label_told (entries true ∷ gs) s shape spot = yes (subst IsOfLabel (sym spot) tt) (take_two (entries true ∷ gs) (mark ∷ value ∷ more_entries true ∷ gs) (value ∷ more_entries true ∷ gs) string sign refl refl)
label_told (entries false ∷ gs) s shape spot = yes (subst IsOfLabel (sym spot) tt) (take_two (entries false ∷ gs) (mark ∷ value ∷ more_entries false ∷ gs) (value ∷ more_entries false ∷ gs) string sign refl refl)
label_told (more_entries true ∷ gs) s shape spot = quiet_label (more_entries true ∷ gs) s spot refl
label_told (more_entries false ∷ gs) s shape spot = quiet_label (more_entries false ∷ gs) s spot refl
label_told (mark ∷ gs) s shape spot = quiet_label (mark ∷ gs) s spot refl
label_told (colon ∷ gs) s shape spot = quiet_label (colon ∷ gs) s spot refl
label_told (value ∷ gs) s shape spot = yes (subst IsOfLabel (sym spot) tt) (take_two (value ∷ gs) (value_text ∷ gs) (value ∷ chained ∷ gs) string sign refl refl)
label_told (value_name t ∷ gs) s shape spot = quiet_label (value_name t ∷ gs) s (quiet_named t s spot) (keyword_none _ (is_keyword t) (string_none gs shape))
label_told (value_text ∷ gs) s shape spot = quiet_label (value_text ∷ gs) s spot (string_none gs shape)
label_told (chained ∷ gs) s shape spot = quiet_label (chained ∷ gs) s spot (string_none gs shape)
label_told (expression ∷ gs) s shape spot = no (no_label s spot) (stop_second (expression ∷ gs) (more_parts ∷ more_terms ∷ gs) string sign refl (colon_none gs shape))
label_told (term ∷ gs) s shape spot = no (no_label s spot) (stop_second (term ∷ gs) (more_parts ∷ gs) string sign refl (colon_none gs shape))
label_told (unary ∷ gs) s shape spot = no (no_label s spot) (stop_second (unary ∷ gs) gs string sign refl (colon_none gs shape))
label_told (more_parts ∷ gs) s shape spot = quiet_label (more_parts ∷ gs) s spot (string_none gs shape)
label_told (bar ∷ gs) s shape spot = quiet_label (bar ∷ gs) s spot refl
label_told (more_terms ∷ gs) s shape spot = quiet_label (more_terms ∷ gs) s spot (string_none gs shape)
label_told (signed ∷ gs) s shape spot = quiet_label (signed ∷ gs) s spot refl
label_told (signed_or_text ∷ gs) s shape spot = no spot.1 (stop_second (signed_or_text ∷ gs) gs string sign refl (colon_none gs shape))
label_told (magnitude n ∷ gs) s shape spot = quiet_label (magnitude n ∷ gs) s spot refl
label_told (behind_close ∷ gs) s shape spot = quiet_label (behind_close ∷ gs) s (quiet_close s spot) (string_none gs shape)
label_told (closed ∷ gs) s shape spot = quiet_label (closed ∷ gs) s spot refl
label_told (parenthesis ∷ gs) s shape spot = quiet_label (parenthesis ∷ gs) s spot refl
label_told (parenthesis_end ∷ gs) s shape spot = quiet_label (parenthesis_end ∷ gs) s spot refl
label_told (elements ∷ gs) s shape spot = no (no_label s spot) (stop_second (elements ∷ gs) (more_parts ∷ more_terms ∷ more_elements ∷ gs) string sign refl refl)
label_told (more_elements ∷ gs) s shape spot = quiet_label (more_elements ∷ gs) s spot refl
label_told (dots ∷ gs) s shape spot = no (no_label s spot) (stop_second (dots ∷ gs) (more_parts ∷ more_terms ∷ bracket ∷ gs) string sign refl refl)
label_told (bracket ∷ gs) s shape spot = quiet_label (bracket ∷ gs) s spot refl
label_told (bracket_end ∷ gs) s shape spot = quiet_label (bracket_end ∷ gs) s spot refl

-- a definition
abbrev defined : Token
defined = token_of (kinds.Definition [])

quiet_top : (s : Position) → Quiet s → s ≡ spots.Top → ⊥
quiet_top s quiet is = quiet.1 (subst IsOfLabel (sym is) tt)

inner_top : (s : Position) → s ≡ spots.Inner → s ≡ spots.Top → ⊥
inner_top s is top = let e : spots.Inner ≡ spots.Top = sym is ∙ top in cc

value_top : (s : Position) → s ≡ spots.Value → s ≡ spots.Top → ⊥
value_top s is top = let e : spots.Value ≡ spots.Top = sym is ∙ top in cc

operand_top : (s : Position) → s ≡ spots.Operand → s ≡ spots.Top → ⊥
operand_top s is top = let e : spots.Operand ≡ spots.Top = sym is ∙ top in cc

quiet_definition : (goals : Stack) (s : Position) → Quiet s → step_stack goals (kinds.Definition []) ≡ None → Told (s ≡ spots.Top) goals definition_label
quiet_definition goals s quiet is = no (quiet_top s quiet) (stop_first goals defined _ is)

definition_told : (goals : Stack) (s : Position) → Shape goals → SpotTop goals s → Told (s ≡ spots.Top) goals definition_label
definition_told [] s shape spot = quiet_definition [] s spot refl
definition_told (text ∷ gs) s shape spot = yes spot (take_two (text ∷ gs) (colon ∷ value ∷ more_entries true ∷ gs) (value ∷ more_entries true ∷ gs) defined sign refl refl)
definition_told (package_word ∷ gs) s shape spot = quiet_definition (package_word ∷ gs) s spot refl
definition_told (package_end ∷ gs) s shape spot = quiet_definition (package_end ∷ gs) s spot refl
definition_told (entries true ∷ gs) s shape spot = yes spot (take_two (entries true ∷ gs) (colon ∷ value ∷ more_entries true ∷ gs) (value ∷ more_entries true ∷ gs) defined sign refl refl)
definition_told (entries false ∷ gs) s shape spot = no (inner_top s spot) (stop_first (entries false ∷ gs) defined _ refl)
definition_told (more_entries true ∷ gs) s shape spot = quiet_definition (more_entries true ∷ gs) s spot refl
definition_told (more_entries false ∷ gs) s shape spot = quiet_definition (more_entries false ∷ gs) s spot refl
definition_told (mark ∷ gs) s shape spot = quiet_definition (mark ∷ gs) s spot refl
definition_told (colon ∷ gs) s shape spot = quiet_definition (colon ∷ gs) s spot refl
definition_told (value ∷ gs) s shape spot = no (value_top s spot) (stop_second (value ∷ gs) (more_parts ∷ more_terms ∷ gs) defined sign refl (colon_none gs shape))
definition_told (value_name t ∷ gs) s shape spot = quiet_definition (value_name t ∷ gs) s (quiet_named t s spot) (keyword_none _ (is_keyword t) (definition_none gs shape))
definition_told (value_text ∷ gs) s shape spot = quiet_definition (value_text ∷ gs) s spot (definition_none gs shape)
definition_told (chained ∷ gs) s shape spot = quiet_definition (chained ∷ gs) s spot (definition_none gs shape)
definition_told (expression ∷ gs) s shape spot = no (operand_top s spot) (stop_second (expression ∷ gs) (more_parts ∷ more_terms ∷ gs) defined sign refl (colon_none gs shape))
definition_told (term ∷ gs) s shape spot = no (operand_top s spot) (stop_second (term ∷ gs) (more_parts ∷ gs) defined sign refl (colon_none gs shape))
definition_told (unary ∷ gs) s shape spot = no (operand_top s spot) (stop_second (unary ∷ gs) gs defined sign refl (colon_none gs shape))
definition_told (more_parts ∷ gs) s shape spot = quiet_definition (more_parts ∷ gs) s spot (definition_none gs shape)
definition_told (bar ∷ gs) s shape spot = quiet_definition (bar ∷ gs) s spot refl
definition_told (more_terms ∷ gs) s shape spot = quiet_definition (more_terms ∷ gs) s spot (definition_none gs shape)
definition_told (signed ∷ gs) s shape spot = quiet_definition (signed ∷ gs) s spot refl
definition_told (signed_or_text ∷ gs) s shape spot = quiet_definition (signed_or_text ∷ gs) s spot refl
definition_told (magnitude n ∷ gs) s shape spot = quiet_definition (magnitude n ∷ gs) s spot refl
definition_told (behind_close ∷ gs) s shape spot = quiet_definition (behind_close ∷ gs) s (quiet_close s spot) (definition_none gs shape)
definition_told (closed ∷ gs) s shape spot = quiet_definition (closed ∷ gs) s spot refl
definition_told (parenthesis ∷ gs) s shape spot = quiet_definition (parenthesis ∷ gs) s spot refl
definition_told (parenthesis_end ∷ gs) s shape spot = quiet_definition (parenthesis_end ∷ gs) s spot refl
definition_told (elements ∷ gs) s shape spot = no (operand_top s spot) (stop_second (elements ∷ gs) (more_parts ∷ more_terms ∷ more_elements ∷ gs) defined sign refl refl)
definition_told (more_elements ∷ gs) s shape spot = quiet_definition (more_elements ∷ gs) s spot refl
definition_told (dots ∷ gs) s shape spot = no (operand_top s spot) (stop_second (dots ∷ gs) (more_parts ∷ more_terms ∷ bracket ∷ gs) defined sign refl refl)
definition_told (bracket ∷ gs) s shape spot = quiet_definition (bracket ∷ gs) s spot refl
definition_told (bracket_end ∷ gs) s shape spot = quiet_definition (bracket_end ∷ gs) s spot refl

-- whole texts
told_next : (P : Type 0) (before more : List Token) (next : Stack) → ((ts : List Token) → rest_where_stuck unlimited (text ∷ []) (before ++ ts) ≡ rest_where_stuck unlimited next ts) → Told P next more → P ↔ BeginText (before ++ more)
told_next P before more next leads (yes is takes) = (
  λ p. taken_begins (before ++ more) (subst (λ z. (z ≡ None) ⊎ (z ≡ Some [])) (sym (leads more)) takes),
  λ b. is,
)
told_next P before more next leads (no other stops) = (
  λ p. absurd (other p),
  λ b. absurd (stops_none (before ++ more) (record { token = stops.token; behind = stops.behind; is = leads more ∙ stops.is }) b),
)

value_both : (s : Position) → IsOfOperand s → IsOfLabel s → s ≡ spots.Value
value_both spots.Value operand label = refl
value_both spots.Operand operand label = absurd label
value_both _ operand label = absurd operand

pub spots_follow : SpotsFollowTheGrammar
spots_follow before begun =
    let l = leads before (text ∷ []) spots.Top [] (record { shape = refl; opened_is = refl; spot_is = refl }) (begin_taken before begun) in
    let s = spot_of before in
    let operand : IsOfOperand s ↔ OperandNext before = told_next (IsOfOperand s) before (bottom ∷ []) l.next l.leads (operand_told l.next s l.shape l.spot) in
    let label : IsOfLabel s ↔ LabelNext before = told_next (IsOfLabel s) before string_label l.next l.leads (label_told l.next s l.shape l.spot) in
    record {
      operand = operand;
      label = label;
      value = (
        λ is. (operand.0 (subst IsOfOperand (sym is) tt), label.0 (subst IsOfLabel (sym is) tt)),
        λ b. value_both s (operand.1 b.0) (label.1 b.1),
      );
      top = told_next (s ≡ spots.Top) before definition_label l.next l.leads (definition_told l.next s l.shape l.spot);
    }
