-- What is known of the definitions of a text that were evaluated.
use Rattle.std.specs.Prelude.{◌≡◌, ◌≤◌, ◌<◌, ℕ, Bool, true, false, List, [], ◌++◌, Option, Some}
use Rattle.std.specs.Prelude.{None, IsTrue, length, drop, slice_index, slice_index_or}
use Rattle.cue_lattice.specs.Limits.{size_limit, step_limit}
use Rattle.cue_row.specs.Row.{RefusesAsked, IsRow}
use Rattle.cue_row.specs.declared.parts.RowParts.{RowParts as Row}
use Rattle.cue_table.specs.Form.{IsTable}
use Rattle.cue_table.specs.Tree.{Tree}
use Rattle.cue_syntax.specs.Grammar.{IsRight, AreRight}
use Rattle.cue_syntax.specs.Syntax.{Expression, Elements, Entries}
use Rattle.cue_scope.specs.Core.{Core, is_scalar}
use Rattle.cue_scope.specs.Definitions.{Definition, definitions}
use Rattle.cue_scope.specs.Graph.{IsNodeIn}
use Rattle.cue_scope.specs.Limits.{size, size_of_cores, depth, depth_of_cores}
use Rattle.cue_scope.specs.Meaning.{meaning_of_number, meant, meant_elements, meant_use}
use Rattle.cue_scope.specs.Reached.{IsReachedOrder, times_in_list, targets_of}
use Rattle.cue_scope.specs.Terms.{terms, terms_of_elements}
use Rattle.cue_scope.specs.Uses.{uses, uses_of_elements, uses_of_fields, graph}
use Rattle.cue_scope.specs.Written.{written_uses}
use Rattle.cue_eval.specs.declared.declared.Declared.{Declared}
use Rattle.cue_eval.specs.declared.definitions.Body.{Body}
use Rattle.cue_eval.specs.declared.definitions.Defined.{Defined}
use Rattle.cue_eval.specs.declared.definitions.EvaluatedDefinitions.{EvaluatedDefinitions}
use Rattle.cue_eval.specs.declared.declares.LiteralSelection.TheVariants.{Dotted}
use Rattle.cue_eval.specs.Evaluated.{HasAnswersOf}
use Rattle.cue_eval.specs.Inner.Known.{IsPairOf}
use Rattle.cue_eval.specs.Inner.Ready.{IsTableOf, IsTableAt}
use Rattle.cue_eval.specs.Inner.Told.{AreDots, DeclaresLiterals}

-- what a use of the definition means: its body, closed
abbrev pub body_of : List Definition → Definition → Core
body_of ds d = meant_use ds (meaning_of_number ds) (Some d)

-- what is known of a definition of this meaning
pub record IsDefined (c : Core) (defined : Defined) : Type 0 where
  pub pair : IsTrue (is_scalar c) → IsPairOf c defined.pair
  pub rows : IsTableOf c defined.closed.rows
  pub dots : AreDots c defined.closed.dots

-- the same of what is kept at a number
pub record IsFoundAt (c : Core) (i : ℕ) (found : EvaluatedDefinitions) : Type 0 where
  pub pair : IsTrue (is_scalar c) → IsPairOf c (slice_index_or found.pairs.items i None)
  pub rows : IsTableAt c (slice_index_or found.tables.items i None)
  pub dots : (table : Tree Declared)
      × ((d : Option (Tree Declared)) → slice_index_or found.dots.items i d ≡ Some table)
      × AreDots c table

-- of these definitions all is known
abbrev pub AreFound : List Definition → List ℕ → EvaluatedDefinitions → Type 0
AreFound ds is found = (i : ℕ) → IsNodeIn i is → IsFoundAt (meaning_of_number ds i) i found

-- there is room for so many definitions
pub record HasRoom (count : ℕ) (found : EvaluatedDefinitions) : Type 0 where
  pub pairs : length found.pairs.items ≡ count
  pub tables : length found.tables.items ≡ count
  pub dots : length found.dots.items ≡ count

-- of the definitions that are used once in all, these say which
abbrev pub AreOnce : Entries → List Bool → Type 0
AreOnce es once =
    (order : List ℕ)
    → IsReachedOrder (graph (definitions es)) (uses_of_fields (definitions es) es) order
    → (i : ℕ) → slice_index_or once i false ≡ true
    → times_in_list i (written_uses (definitions es) es order) ≡ 1

abbrev pub IsOnce : EvaluatedDefinitions → ℕ → Type 0
IsOnce found i = slice_index_or found.once.items i false ≡ true

-- these uses are all that a definition has which is used once
abbrev pub AreSingle : EvaluatedDefinitions → List ℕ → Type 0
AreSingle found us = (i : ℕ) → IsOnce found i → times_in_list i us ≤ 1

-- A definition of the grammar with scalar terms, that is neither too large nor too deep, and that
-- uses known definitions.
pub record IsDefinable (ds : List Definition) (d : Definition) (found : EvaluatedDefinitions) : Type 0 where
  pub room : HasRoom (length ds) found
  pub used : AreFound ds (uses ds d.value) found
  pub once : AreSingle found (uses ds d.value)
  pub right : IsRight d.value
  pub terms : terms ds (meaning_of_number ds) d.value ≡ []
  pub size : size (body_of ds d) ≤ size_limit
  pub depth : depth (body_of ds d) ≤ step_limit

-- the same of an expression
pub record IsFindable (ds : List Definition) (e : Expression) (found : EvaluatedDefinitions) : Type 0 where
  pub room : HasRoom (length ds) found
  pub used : AreFound ds (uses ds e) found
  pub once : AreSingle found (uses ds e)
  pub right : IsRight e
  pub terms : terms ds (meaning_of_number ds) e ≡ []
  pub size : size (meant ds (meaning_of_number ds) e) ≤ size_limit
  pub depth : depth (meant ds (meaning_of_number ds) e) ≤ step_limit

-- and of the parts of a conjunction
pub record AreFindable (ds : List Definition) (es : Elements) (found : EvaluatedDefinitions) : Type 0 where
  pub room : HasRoom (length ds) found
  pub used : AreFound ds (uses_of_elements ds es) found
  pub once : AreSingle found (uses_of_elements ds es)
  pub right : AreRight es
  pub terms : terms_of_elements ds (meaning_of_number ds) es ≡ []
  pub size : size_of_cores (meant_elements ds (meaning_of_number ds) es) ≤ size_limit
  pub depth : depth_of_cores (meant_elements ds (meaning_of_number ds) es) ≤ step_limit

-- what the expression refuses, and where literals of definitions that it names have a `...`
pub record IsFoundBody (c : Core) (body : Body) : Type 0 where
  pub form : IsTable RefusesAsked IsRow body.rows
  pub answers : HasAnswersOf c body.rows
  pub dots : DeclaresLiterals Dotted c body.dots

-- all is kept but what is known of definitions that have their only use here
pub record IsKept (us : List ℕ) (old new : EvaluatedDefinitions) : Type 0 where
  pub pairs : new.pairs.items ≡ old.pairs.items
  pub once : new.once.items ≡ old.once.items
  pub count_tables : length new.tables.items ≡ length old.tables.items
  pub count_dots : length new.dots.items ≡ length old.dots.items
  pub tables : (i : ℕ) (d : Option (Tree Row)) → ¬ (IsOnce old i × IsNodeIn i us)
      → slice_index_or new.tables.items i d ≡ slice_index_or old.tables.items i d
  pub dots : (i : ℕ) (d : Option (Tree Declared)) → ¬ (IsOnce old i × IsNodeIn i us)
      → slice_index_or new.dots.items i d ≡ slice_index_or old.dots.items i d

-- the uses that are written in the text's fields, and in those definitions of the order that come
-- later
abbrev pub later_uses : List Definition → List ℕ → List ℕ → ℕ → List ℕ
later_uses ds from order count = from ++ targets_of (graph ds) (drop count order)

-- so many definitions of the order are known, as far as they are used later
pub record IsFoundSoFar (ds : List Definition) (from order : List ℕ) (count : ℕ)
    (found : EvaluatedDefinitions) : Type 0 where
  pub room : HasRoom (length ds) found
  pub once : AreSingle found (later_uses ds from order count)
  pub each : (k : ℕ) → k < count → k < length order
      → IsNodeIn (slice_index order k) (later_uses ds from order count)
      → IsFoundAt (meaning_of_number ds (slice_index order k)) (slice_index order k) found
