-- What an expression means once the names in it are replaced: a tree without names, parentheses and
-- commas.
use Rattle.std.specs.Prelude.{ℕ, Bool, true, false, ◌&&◌, List}
use Rattle.cue_syntax.specs.declared.tree.Signed.{Signed}
use Rattle.cue_syntax.specs.declared.tree.Comparison.{Comparison}
use Rattle.cue_syntax.specs.declared.tree.Mark.{Mark}
use Rattle.cue_scope.specs.declared.named.Named.{Named}

mutual
  pub data Core : Type 0 where
    null : Core
    truth : Bool → Core
    integer : Signed → Core
    text : List ℕ → Core
    -- a set of scalars that has a name of its own, as `int`
    named : Named → Core
    top : Core
    bottom : Core
    bound : Comparison → Signed → Core
    other_integer : Signed → Core
    other_text : List ℕ → Core
    conjunction : Cores → Core
    disjunction : Choices → Core
    struct : Members → Core
    close : Members → Core
    list : Elements → Core
    -- a use of a definition: what its body means, closed
    closed : Core → Core

  pub data Cores : Type 0 where
    no_cores : Cores
    core : Core → Cores → Cores

  -- the elements of a list literal, which ends with them, or goes on where it has a `...`, and
  -- where an expression stands behind that, each further element is so
  pub data Elements : Type 0 where
    ends : Elements
    goes_on : Elements
    each : Core → Elements
    element : Core → Elements → Elements

  -- the terms of a disjunction, each with whether it is marked
  pub data Choices : Type 0 where
    no_choices : Choices
    choice : Bool → Core → Choices → Choices

  -- the declarations of a struct literal
  pub data Members : Type 0 where
    no_members : Members
    member : List ℕ → Mark → Core → Members → Members
    dots : Members → Members

-- these elements, and behind them what follows
abbrev pub followed_by : Cores → Elements → Elements
followed_by no_cores rest = rest
followed_by (core c cs) rest = element c (followed_by cs rest)

-- it is made of scalars and sets of scalars alone
abbrev mutual
  pub is_scalar : Core → Bool
  is_scalar top = false
  is_scalar (struct ms) = false
  is_scalar (close ms) = false
  is_scalar (list es) = false
  is_scalar (conjunction cs) = are_scalar cs
  is_scalar (disjunction cs) = are_scalar_choices cs
  is_scalar (closed c) = is_scalar c
  is_scalar _ = true

  pub are_scalar : Cores → Bool
  are_scalar no_cores = true
  are_scalar (core c cs) = is_scalar c && are_scalar cs

  pub are_scalar_choices : Choices → Bool
  are_scalar_choices no_choices = true
  are_scalar_choices (choice marked c cs) = is_scalar c && are_scalar_choices cs
