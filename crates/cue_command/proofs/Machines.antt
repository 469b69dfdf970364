-- A walk over words, told by the states of a machine that takes the arguments one after the other.
use Rattle.std.proofs.Common.{◌≡◌, ◌∙◌, ℕ, Bool, true, false, cond, List, [], ◌∷◌, Option, Some, None, codes, refl, sym, ap, subst, IsUtf8, fold, option_map}
use Rattle.std.specs.Prelude.{option_and_then}
use Rattle.std.specs.Str.{bytes_eq}
use Rattle.clap.specs.Kinds.{Kinds, or_else}
use Rattle.clap.specs.Walk.{Row, Text, Walk, arg_by_long, arg_by_short, finished, nothing_held, rows_after, settled, walk_from, walked}
use Rattle.clap.specs.Simple.{Shape}
use Rattle.clap.specs.Faults.{check_fault, defaults_fault, level_fault, settle_fault, turn_fault, walk_fault}
use Rattle.cue_command.specs.Words.{arguments, is_option}
use Rattle.cue_command.proofs.Walking.{IsFault, dashes_fault, dashes_walked, first_fault, later_fault, option_fault, plain_fault, plain_walked, put, put_fault, standing, trailing_fault, trailing_walked}

-- each word is text
abbrev pub AllText : List Text → Type 0
AllText [] = Unit {0}
AllText (word ∷ words) = IsUtf8 word × AllText words

-- where the walk stands, behind a `--` or not
pub record Place : Type 0 where
  pub rows : List Row
  pub pending : Option (Text × List Text)
  pub several : Bool
  pub position : ℕ

abbrev pub at : Place → Bool → Walk
at p trailing = standing p.rows p.pending p.several p.position trailing

-- the faults that are found behind the last word
abbrev pub left_fault : Shape → Walk → Kinds
left_fault s w = or_else (settle_fault s.rules s.args_override_self w.held)
    (or_else (defaults_fault (settled s.rules w.held).rows s.rules) (check_fault s (finished s.rules w.held) false))

-- a walk over these words ends with these rows, or with a fault
abbrev pub Ends : Shape → List Text → Option (List Row) → Type 0
Ends s words (Some rows) = (level_fault s [] nothing_held words false [] ≡ []) × (rows_after s.rules [] words ≡ rows)
Ends s words None = IsFault (level_fault s [] nothing_held words false [])

module _ (s : Shape) (no_long : (name : Text) → arg_by_long s.rules name ≡ None) (no_short : (x : ℕ) → arg_by_short s.rules x ≡ None) (State : Type 0) (place : State → Place) (step : State → Text → Option State) where
  -- a word goes to its positional, or there is none
  abbrev pub Puts : State → Bool → Text → Option State → Type 0
  Puts σ b word (Some τ) = (put s.rules (at (place σ) b) word ≡ at (place τ) b) × (put_fault s (at (place σ) b) ≡ [])
  Puts σ b word None = IsFault (put_fault s (at (place σ) b))

  -- all arguments, one after the other
  abbrev pub run : State → List Text → Option State
  run σ [] = Some σ
  run σ (word ∷ words) = option_and_then (λ τ. run τ words) (step σ word)

  abbrev pub reached : State → Bool → List Text → Option State
  reached σ true words = run σ words
  reached σ false words = option_and_then (run σ) (arguments words)

  -- what a walk comes to
  abbrev pub Comes : State → Bool → List Text → Option State → Type 0
  Comes σ b words (Some τ) = (walk_fault s [] (at (place σ) b) words ≡ []) × ((b' : Bool) × (fold (walked s.rules []) (at (place σ) b) words ≡ at (place τ) b'))
  Comes σ b words None = IsFault (walk_fault s [] (at (place σ) b) words)

  module _ (puts : (σ : State) (b : Bool) (word : Text) → Puts σ b word (step σ word)) where
    after : (σ τ : State) (b b' : Bool) (word : Text) (words : List Text) (end : Option State) → walked s.rules [] (at (place σ) b) word ≡ at (place τ) b'
        → turn_fault s [] (at (place σ) b) word ≡ [] → Comes τ b' words end → Comes σ b (word ∷ words) end
    unfolding walk_fault
    after σ τ b b' word words (Some end) goes none c = (
      later_fault _ _ none ∙ ap (λ (w : Walk). walk_fault s [] w words) goes ∙ c.0,
      (c.1.0, ap (λ (w : Walk). fold (walked s.rules []) w words) goes ∙ c.1.1),
    )
    after σ τ b b' word words None goes none c =
        subst IsFault (sym (later_fault _ _ none ∙ ap (λ (w : Walk). walk_fault s [] w words) goes)) c

    stops : (σ : State) (b : Bool) (word : Text) (words : List Text) → IsFault (turn_fault s [] (at (place σ) b) word) → IsFault (walk_fault s [] (at (place σ) b) (word ∷ words))
    unfolding walk_fault
    stops σ b word words f = first_fault _ _ f

    -- one argument
    moved : (σ : State) (b : Bool) (word : Text) (words : List Text) (to : Option State) → walked s.rules [] (at (place σ) b) word ≡ put s.rules (at (place σ) b) word
        → turn_fault s [] (at (place σ) b) word ≡ put_fault s (at (place σ) b) → Puts σ b word to → ((τ : State) → Comes τ b words (reached τ b words))
        → Comes σ b (word ∷ words) (option_and_then (λ τ. reached τ b words) to)
    moved σ b word words (Some τ) goes fault p next = after σ τ b b word words (reached τ b words) (goes ∙ p.0) (fault ∙ p.1) (next τ)
    moved σ b word words None goes fault p next = stops σ b word words (subst IsFault (sym fault) p)

    pulled : (σ : State) (word : Text) (more : Option (List Text)) → option_and_then (λ τ. option_and_then (run τ) more) (step σ word) ≡ option_and_then (run σ) (option_map (λ ws. word ∷ ws) more)
    pulled σ word (Some more) = refl
    pulled σ word None = go (step σ word)
      where
        go : (to : Option State) → option_and_then (λ τ. option_and_then (run τ) None) to ≡ None
        go None = refl
        go (Some τ) = refl

    module _ (σ : State) (word : Text) (words : List Text) (text : IsUtf8 word) (next : (τ : State) (b : Bool) → Comes τ b words (reached τ b words)) where
      abbrev p : Place
      p = place σ

      behind : Comes σ true (word ∷ words) (reached σ true (word ∷ words))
      behind = moved σ true word words (step σ word) (trailing_walked s no_long no_short p.rows p.pending p.position p.several word)
          (trailing_fault s no_long no_short p.rows p.pending p.position p.several word) (puts σ true word) (λ τ. next τ true)

      plain : bytes_eq word (codes "--") ≡ false → is_option word ≡ false → Comes σ false (word ∷ words) (option_and_then (run σ) (option_map (λ ws. word ∷ ws) (arguments words)))
      plain d o = subst (Comes σ false (word ∷ words)) (pulled σ word (arguments words))
          (moved σ false word words (step σ word) (plain_walked s no_long no_short p.rows p.pending p.position p.several word d o)
          (plain_fault s no_long no_short p.rows p.pending p.position p.several word d o) (puts σ false word) (λ τ. next τ false))

      by_option : bytes_eq word (codes "--") ≡ false → (o : Bool) → is_option word ≡ o
          → Comes σ false (word ∷ words) (option_and_then (run σ) (cond o None (option_map (λ ws. word ∷ ws) (arguments words))))
      by_option d true o = stops σ false word words (option_fault s no_long no_short p.rows p.pending p.position p.several word text d o)
      by_option d false o = plain d o

      by_dashes : (d : Bool) → bytes_eq word (codes "--") ≡ d
          → Comes σ false (word ∷ words) (option_and_then (run σ) (cond d (Some words) (cond (is_option word) None (option_map (λ ws. word ∷ ws) (arguments words)))))
      by_dashes true d = after σ σ false true word words (run σ words) (dashes_walked s no_long no_short p.rows p.pending p.position p.several word d)
          (dashes_fault s no_long no_short p.rows p.pending p.position p.several word d) (next σ true)
      by_dashes false d = by_option d (is_option word) refl

      word_comes : (b : Bool) → Comes σ b (word ∷ words) (reached σ b (word ∷ words))
      word_comes true = behind
      word_comes false = by_dashes (bytes_eq word (codes "--")) refl

    pub comes : (words : List Text) → AllText words → (σ : State) (b : Bool) → Comes σ b words (reached σ b words)
    unfolding walk_fault
    comes [] t σ true = (refl, (true, refl))
    comes [] t σ false = (refl, (false, refl))
    comes (word ∷ words) t σ b = word_comes σ word words t.0 (comes words t.1) b

    -- ---- behind the last word

    abbrev pub Leaves : State → Bool → Option (List Row) → Type 0
    Leaves σ b (Some rows) = (left_fault s (at (place σ) b) ≡ []) × (finished s.rules (at (place σ) b).held ≡ rows)
    Leaves σ b None = IsFault (left_fault s (at (place σ) b))

    module _ (gives : State → Option (List Row)) (leaves : (σ : State) (b : Bool) → Leaves σ b (gives σ)) (start : State) (begins : walk_from nothing_held ≡ at (place start) false) where
      passed : (words : List Text) (τ : State) (b : Bool) (rows : Option (List Row)) → walk_fault s [] (at (place start) false) words ≡ []
          → fold (walked s.rules []) (at (place start) false) words ≡ at (place τ) b → Leaves τ b rows → Ends s words rows
      passed words τ b (Some rows) none goes l = (
        later_fault _ _ (ap (λ (w : Walk). walk_fault s [] w words) begins ∙ none) ∙ ap (left_fault s) here ∙ l.0,
        ap (λ (w : Walk). finished s.rules w.held) here ∙ l.1,
      )
        where
          here : fold (walked s.rules []) (walk_from nothing_held) words ≡ at (place τ) b
          here = ap (λ (w : Walk). fold (walked s.rules []) w words) begins ∙ goes
      passed words τ b None none goes l =
          subst IsFault (sym (later_fault _ _ (ap (λ (w : Walk). walk_fault s [] w words) begins ∙ none)
          ∙ ap (left_fault s) (ap (λ (w : Walk). fold (walked s.rules []) w words) begins ∙ goes))) l

      ended : (words : List Text) (to : Option State) → Comes start false words to → Ends s words (option_and_then gives to)
      ended words (Some τ) c = passed words τ c.1.0 (gives τ) c.0 c.1.1 (leaves τ c.1.0)
      ended words None c = first_fault _ _ (subst (λ (w : Walk). IsFault (walk_fault s [] w words)) (sym begins) c)

      -- what the words end with, where the rows of arguments are known
      pub ends : (rows_of : List Text → Option (List Row)) → ((files : List Text) → option_and_then gives (run start files) ≡ rows_of files)
          → (words : List Text) → AllText words → Ends s words (option_and_then rows_of (arguments words))
      ends rows_of are words text = subst (Ends s words) (by_arguments (arguments words)) (ended words (reached start false words) (comes words text start false))
        where
          by_arguments : (some : Option (List Text)) → option_and_then gives (option_and_then (run start) some) ≡ option_and_then rows_of some
          by_arguments None = refl
          by_arguments (Some files) = are files
