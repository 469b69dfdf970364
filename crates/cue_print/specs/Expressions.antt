-- What is printed, as trees of expressions apart from any bytes.
use Rattle.std.specs.Prelude.{ℕ, ℤ, Bool, List, Option}
use Rattle.cue_row.specs.declared.level.Level.{Level}

-- A term of a disjunction of scalars: `null`; `bool`, or one truth value; `int`, one integer, all
-- up to one, all from one on, or all from one to another; `string`, one text, or all texts but
-- these.
pub data PrintedTerm : Type 0 where
  null : PrintedTerm
  truths : PrintedTerm
  truth : Bool → PrintedTerm
  integers : PrintedTerm
  number : ℤ → PrintedTerm
  at_most : ℤ → PrintedTerm
  at_least : ℤ → PrintedTerm
  between : ℤ → ℤ → PrintedTerm
  texts : PrintedTerm
  text : List ℕ → PrintedTerm
  other_texts : List (List ℕ) → PrintedTerm

mutual
  -- anything; a disjunction of scalars, with the terms of its default where one is written; or
  -- parts that are unified
  pub data Value : Type 0 where
    top : Value
    scalar : Option (List PrintedTerm) → List PrintedTerm → Value
    all : Parts → Value

  -- a struct literal; one in `close`; a list literal with its ending; or `_|_`: each in front of
  -- other parts
  pub data Parts : Type 0 where
    no_parts : Parts
    struct : Fields → Parts → Parts
    close : Fields → Parts → Parts
    list : Elements → Ending → Parts → Parts
    bottom : Parts → Parts

  -- a label, its level and its value, in front of other fields
  pub data Fields : Type 0 where
    no_more : Fields
    field : List ℕ → Level → Value → Fields → Fields

  pub data Elements : Type 0 where
    no_elements : Elements
    element : Value → Elements → Elements

  -- how a list ends: with its last element, with `...`, or with `...` and what each further element
  -- is
  pub data Ending : Type 0 where
    ends : Ending
    goes_on : Ending
    goes_on_as : Value → Ending
