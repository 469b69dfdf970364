-- What the recogniser takes begins some text of the grammar.
use Rattle.std.proofs.Common.{◌≡◌, refl, sym, ap, subst, ◌∙◌, ℕ, suc, ◌+◌, ◌-◌, ◌≤◌, Bool, true, false, List, [], ◌∷◌, length, take, codes, Option, arith}
use Rattle.std.specs.Prelude.{None, Some, if◌then◌else◌}
use Rattle.std.proofs.lemmas.Bool.{leb-true}
use Rattle.std.proofs.lemmas.List.{take-take}
use Rattle.cue_lex.specs.declared.token.Token.{Token}
use Rattle.cue_syntax.specs.Syntax.{FileTree}
use Rattle.cue_syntax.specs.Spelling.{SpellsTree, spell_file}
use Rattle.cue_syntax.specs.Grammar.{Limit, unlimited, at_most, IsFileTree}
use Rattle.cue_syntax.specs.Viability.{Alike, BeginsText}
use Rattle.cue_syntax.specs.Recogniser.{Goal, Stack, is_keyword, depth, fits_limit, goal_is_over, is_over, step_stack, rest_where_stuck_behind, rest_where_stuck}
use Rattle.cue_syntax.proofs.StillToRead.{beneath, Keeps, Whole, Ahead}
use Rattle.cue_syntax.proofs.EachStackEnds.{keeps_from, no_text, no_packaged, no_declared, no_more_declared, less_below, stack_ends, depth_is}
use Rattle.cue_syntax.proofs.ExpressionsByParts.{name_unary}
use Rattle.cue_syntax.proofs.StepsKeepWhatIsAhead.{Before, no_parts, no_terms, name_operand, text_operand}
use Rattle.cue_syntax.proofs.StepsOfDeclarations.{step_before}

-- goals that are over have nothing more to read
goal_over : (limit : Limit) (goal : Goal) (goals : Stack) (behind : Bool) → Keeps limit (beneath goals) → (behind ≡ true → Ahead limit goals []) → goal_is_over goal behind ≡ true → Ahead limit (goal ∷ goals) []
goal_over limit Goal.text goals behind low ends is = ([], no_text low, refl)
goal_over limit Goal.package_end goals behind low ends is = ([], no_packaged low, refl)
goal_over limit (Goal.entries true) goals behind low ends is = ([], no_declared low, refl)
goal_over limit (Goal.more_entries true) goals behind low ends is = ([], no_more_declared low, refl)
goal_over limit (Goal.value_name w) goals behind low ends is = by_word (is_keyword w) refl is
  where
    by_word : (keyword : Bool) → is_keyword w ≡ keyword → (if keyword then false else behind) ≡ true → Ahead limit (Goal.value_name w ∷ goals) []
    by_word true word wrong = absurd (let e : false ≡ true = wrong in cc)
    by_word false other goal_is_over = name_operand limit goals w other low [] ([], no_parts low, ([], no_terms low, ends goal_is_over))
goal_over limit Goal.value_text goals behind low ends is = text_operand limit goals low [] ([], no_parts low, ([], no_terms low, ends is))
goal_over limit Goal.chained goals behind low ends is = ([], refl, ends is)
goal_over limit Goal.more_parts goals behind low ends is = ([], no_parts low, ends is)
goal_over limit Goal.more_terms goals behind low ends is = ([], no_terms low, ends is)
goal_over limit Goal.behind_close goals behind low ends is = ([], λ first kind. name_unary first (codes "close") kind refl low, ends is)
goal_over limit _ goals behind low ends is = absurd (let e : false ≡ true = is in cc)

stack_over : (limit : Limit) (goals : Stack) → Keeps limit (beneath goals) → is_over goals ≡ true → Ahead limit goals []
stack_over limit [] keeps is = refl
stack_over limit (goal ∷ goals) keeps is =
    let low : Keeps limit (beneath goals) = keeps_from keeps (less_below goal (beneath goals)) in
    goal_over limit goal goals (is_over goals) low (λ e. stack_over limit goals low e) is

-- the tokens before a place begin what the goals can read
pub record Viable (limit : Limit) (goals : Stack) (tokens here : List Token) : Type 0 where
  pub read : ℕ
  pub whole : List Token
  pub ahead : Ahead limit goals whole
  pub size : read + length here ≡ length tokens
  pub alike : Alike read tokens whole

abbrev Told : Limit → Stack → List Token → Option (List Token) → Type 0
Told limit goals tokens None = Ahead limit goals tokens
Told limit goals tokens (Some here) = Viable limit goals tokens here

sticks_here : (limit : Limit) (goals : Stack) (tokens : List Token) → Keeps limit (beneath goals) → Viable limit goals tokens tokens
sticks_here limit goals tokens keeps =
    let ending : (a : List Token) × Ahead limit goals a = stack_ends limit goals keeps in
    record { read = 0; whole = ending.0; ahead = ending.1; size = omega arith; alike = refl }

fits_keeps : (limit : Limit) (n : ℕ) → fits_limit limit n ≡ true → Keeps limit n
fits_keeps unlimited n fit = record { within = tt }
fits_keeps (at_most m) n fit = record { within = leb-true n m fit }

told_further : (limit : Limit) (goals next : Stack) (t : Token) (tokens : List Token) → Before limit t goals (Some next) → (o : Option (List Token)) → Told limit next tokens o → Told limit goals (t ∷ tokens) o
told_further limit goals next t tokens before None ahead = before tokens ahead
told_further limit goals next t tokens before (Some here) told = record {
  read = suc told.read;
  whole = t ∷ told.whole;
  ahead = before told.whole told.ahead;
  size = omega (arith, told.size);
  alike = ap (λ z. t ∷ z) told.alike;
}

told_behind : (limit : Limit) (goals : Stack) (t : Token) (tokens : List Token) → Keeps limit (beneath goals) → (o : Option Stack) → Before limit t goals o
    → ((next : Stack) → Keeps limit (beneath next) → Told limit next tokens (rest_where_stuck limit next tokens))
    → Told limit goals (t ∷ tokens) (rest_where_stuck_behind limit o (t ∷ tokens) (λ next. rest_where_stuck limit next tokens))
told_behind limit goals t tokens keeps None before further = sticks_here limit goals (t ∷ tokens) keeps
told_behind limit goals t tokens keeps (Some next) before further = by_fit (fits_limit limit (depth next)) refl
  where
    by_fit : (fit : Bool) → fits_limit limit (depth next) ≡ fit → Told limit goals (t ∷ tokens) (if fit then rest_where_stuck limit next tokens else Some (t ∷ tokens))
    by_fit false goal_is_over = sticks_here limit goals (t ∷ tokens) keeps
    by_fit true fit =
        let below : Keeps limit (beneath next) = subst (λ n. Keeps limit n) (depth_is next) (fits_keeps limit (depth next) fit) in
        told_further limit goals next t tokens before (rest_where_stuck limit next tokens) (further next below)

told : (limit : Limit) (goals : Stack) (tokens : List Token) → Keeps limit (beneath goals) → Told limit goals tokens (rest_where_stuck limit goals tokens)
told limit goals [] keeps = by_end (is_over goals) refl
  where
    by_end : (ended : Bool) → is_over goals ≡ ended → Told limit goals [] (if ended then None else Some [])
    by_end true is = stack_over limit goals keeps is
    by_end false is = sticks_here limit goals [] keeps
told limit goals (t ∷ tokens) keeps = told_behind limit goals t tokens keeps (step_stack goals t.kind) (step_before limit t goals keeps) (λ next below. told limit next tokens below)

-- whole texts
no_levels : (limit : Limit) → Keeps limit 0
no_levels unlimited = record { within = tt }
no_levels (at_most m) = record { within = omega arith }

whole_is : {limit : Limit} {a : List Token} (b : List Token) → b ≡ [] → Whole limit 0 a b → (tree : FileTree) × IsFileTree limit a tree
whole_is {limit} {a} b is whole = (
  whole.tree,
  record {
    reads = subst (λ z. SpellsTree a (spell_file whole.tree) z) is whole.reads;
    clause = whole.clause;
    right = whole.right;
    ends = whole.ends;
    levels = (kept whole.within).within;
  },
)
  where
    kept : {n : ℕ} → Keeps limit (n + 0) → Keeps limit n
    kept keeps = keeps_from keeps (omega arith)

-- what the recogniser takes is a text
pub taken : (limit : Limit) (tokens : List Token) → rest_where_stuck limit (Goal.text ∷ []) tokens ≡ None → (tree : FileTree) × IsFileTree limit tokens tree
taken limit tokens is =
    let ahead : Ahead limit (Goal.text ∷ []) tokens = subst (λ o. Told limit (Goal.text ∷ []) tokens o) is (told limit (Goal.text ∷ []) tokens (no_levels limit)) in
    whole_is ahead.0 ahead.2 ahead.1

-- where it sticks, the tokens before the place begin a text
pub begins : (limit : Limit) (tokens here : List Token) → rest_where_stuck limit (Goal.text ∷ []) tokens ≡ Some here → BeginsText limit (length tokens - length here) tokens
begins limit tokens here is =
    let viable : Viable limit (Goal.text ∷ []) tokens here = subst (λ o. Told limit (Goal.text ∷ []) tokens o) is (told limit (Goal.text ∷ []) tokens (no_levels limit)) in
    let file : (tree : FileTree) × IsFileTree limit viable.whole tree = whole_is viable.ahead.0 viable.ahead.2 viable.ahead.1 in
    let count : viable.read ≡ length tokens - length here = omega (arith, viable.size) in
    record { whole = viable.whole; tree = file.0; alike = subst (λ n. Alike n tokens viable.whole) count viable.alike; is = file.1 }

-- fewer tokens of a beginning are a beginning
pub fewer : (limit : Limit) (m n : ℕ) (tokens : List Token) → BeginsText limit n tokens → m ≤ n → BeginsText limit m tokens
fewer limit m n tokens b le = record {
  whole = b.whole;
  tree = b.tree;
  alike = sym (take-take m n tokens le) ∙ ap (λ z. take m z) b.alike ∙ take-take m n b.whole le;
  is = b.is;
}
