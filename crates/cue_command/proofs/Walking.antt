-- What `clap`'s walk makes of the words of a command that has positionals alone.
use Rattle.std.proofs.Common.{◌≡◌, ℕ, Bool, true, false, List, [], ◌∷◌, Option, None, codes, refl, ap, subst, IsUtf8}
use Rattle.std.specs.Str.{bytes_eq}
use Rattle.clap.specs.Kinds.{Kinds, or_else}
use Rattle.clap.specs.Walk.{Row, Rule, Text, Waiting, Walk, arg_by_index, arg_by_long, arg_by_short, idle, positional, to_positional, value, walked}
use Rattle.clap.specs.Simple.{Shape}
use Rattle.clap.specs.Faults.{flags_fault, step_fault, turn_fault}
use Rattle.cue_command.specs.Words.{is_option}
use Rattle.cue_command.proofs.Looks.{Flag, flag_of, has_char, long, plain_long, plain_short, short}

-- ---- faults

abbrev pub IsFault : Kinds → Type 0
IsFault [] = ⊥
IsFault (k ∷ ks) = Unit {0}

pub first_fault : (a b : Kinds) → IsFault a → IsFault (or_else a b)
first_fault [] b h = absurd h
first_fault (k ∷ ks) b h = tt

pub later_fault : (a b : Kinds) → a ≡ [] → or_else a b ≡ b
later_fault a b e = ap (λ x. or_else x b) e

-- ---- one word

abbrev pub waits : Bool → Waiting
waits true = positional
waits false = idle

-- where a walk stands that has met no option
abbrev pub standing : List Row → Option (Text × List Text) → Bool → ℕ → Bool → Walk
standing rows pending q position trailing = record {
  held = record { rows = rows; pending = pending; skip = 0 };
  waiting = waits q;
  position = position;
  is_trailing = trailing;
  stopped = None;
}

-- the word goes to the positional whose turn it is
abbrev pub put : List Rule → Walk → Text → Walk
put c w word = to_positional c (arg_by_index c w.position) word w w.held

abbrev pub put_fault : Shape → Walk → Kinds
put_fault s w = step_fault s w.position w.held value

module _ (s : Shape) (no_long : (name : Text) → arg_by_long s.rules name ≡ None) (no_short : (x : ℕ) → arg_by_short s.rules x ≡ None) (rows : List Row) (pending : Option (Text × List Text)) (position : ℕ) where
  -- behind a `--`
  pub trailing_walked : (q : Bool) (word : Text) → walked s.rules [] (standing rows pending q position true) word ≡ put s.rules (standing rows pending q position true) word
  unfolding walked
  trailing_walked q word = refl

  pub trailing_fault : (q : Bool) (word : Text) → turn_fault s [] (standing rows pending q position true) word ≡ put_fault s (standing rows pending q position true)
  trailing_fault q word = refl

  -- the first `--`
  pub dashes_walked : (q : Bool) (word : Text) → bytes_eq word (codes "--") ≡ true → walked s.rules [] (standing rows pending q position false) word ≡ standing rows pending q position true
  unfolding walked
  dashes_walked true word d = rw d refl
  dashes_walked false word d = rw d refl

  pub dashes_fault : (q : Bool) (word : Text) → bytes_eq word (codes "--") ≡ true → turn_fault s [] (standing rows pending q position false) word ≡ []
  dashes_fault true word d = rw d refl
  dashes_fault false word d = rw d refl

  -- a plain word
  pub plain_walked : (q : Bool) (word : Text) → bytes_eq word (codes "--") ≡ false → is_option word ≡ false
      → walked s.rules [] (standing rows pending q position false) word ≡ put s.rules (standing rows pending q position false) word
  unfolding walked
  plain_walked true word d o = rw (d, plain_long word o, plain_short word o) refl
  plain_walked false word d o = rw (d, plain_long word o, plain_short word o) refl

  pub plain_fault : (q : Bool) (word : Text) → bytes_eq word (codes "--") ≡ false → is_option word ≡ false
      → turn_fault s [] (standing rows pending q position false) word ≡ put_fault s (standing rows pending q position false)
  plain_fault true word d o = rw (d, plain_long word o, plain_short word o) refl
  plain_fault false word d o = rw (d, plain_long word o, plain_short word o) refl

  -- an option
  option_refused : (q : Bool) (word : Text) → IsUtf8 word → bytes_eq word (codes "--") ≡ false → Flag word → IsFault (turn_fault s [] (standing rows pending q position false) word)
  unfolding flags_fault
  option_refused true word u d (long p e) = rw (d, e, no_long p.0) tt
  option_refused false word u d (long p e) = rw (d, e, no_long p.0) tt
  option_refused true word u d (short c rest l e is) = let first = has_char c rest (subst IsUtf8 is u) in rw (d, l, e, first.1, no_short first.0) tt
  option_refused false word u d (short c rest l e is) = let first = has_char c rest (subst IsUtf8 is u) in rw (d, l, e, first.1, no_short first.0) tt

  pub option_fault : (q : Bool) (word : Text) → IsUtf8 word → bytes_eq word (codes "--") ≡ false → is_option word ≡ true → IsFault (turn_fault s [] (standing rows pending q position false) word)
  option_fault q word u d o = option_refused q word u d (flag_of word d o)
