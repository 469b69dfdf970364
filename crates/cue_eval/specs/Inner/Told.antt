-- What the struct literals at a place declare together, place by place of an expression.
use Rattle.std.specs.Prelude.{◌≡◌, ◌↔◌, ◌⊎◌, ◌≤◌, ◌<◌, ◌+◌, true, List, [], ◌∷◌, ℕ, Option, Some}
use Rattle.std.specs.Prelude.{length}
use Rattle.std.specs.Prelude.{slice_index_or}
use Rattle.std.specs.List.{list_any}
use Rattle.cue_lattice.specs.Path.{Path, label, index}
use Rattle.cue_table.specs.Tree.{Tree}
use Rattle.cue_table.specs.Form.{IsTable}
use Rattle.cue_table.specs.Meet.{IsAdded}
use Rattle.cue_table.specs.Refuses.{TableRefuses}
use Rattle.cue_syntax.specs.declared.tree.Identifier.{Identifier}
use Rattle.cue_syntax.specs.Syntax.{Expression, Elements, Rest, Entries}
use Rattle.cue_scope.specs.Core as cores
use Rattle.cue_scope.specs.Core.{Core, Cores, ends, followed_by, Members}
use Rattle.cue_scope.specs.Graph.{IsNodeIn}
use Rattle.cue_scope.specs.Kept.{nodes_kept}
use Rattle.cue_scope.specs.Limits.{size, size_of_cores, size_of_elements, size_of_members}
use Rattle.cue_scope.specs.Limits.{depth, depth_of_cores}
use Rattle.cue_scope.specs.Limits.{depth_of_elements, depth_of_members}
use Rattle.cue_scope.specs.Meaning.{meaning_of_number, meant, meant_name, meant_elements, meant_rest}
use Rattle.cue_scope.specs.Meaning.{meant_members}
use Rattle.cue_scope.specs.Uses.{uses, uses_of_name, uses_of_elements, uses_of_rest}
use Rattle.cue_scope.specs.Uses.{uses_of_entries}
use Rattle.cue_eval.specs.declared.declared.Declared.{Declared}
use Rattle.cue_eval.specs.declared.declared.DeclaredQuestion.{DeclaredQuestion}
use Rattle.cue_eval.specs.declared.declares.LiteralSelection.{LiteralSelection}
use Rattle.cue_eval.specs.declared.declares.LiteralSelection.TheVariants.{Own, Dotted}
use Rattle.cue_eval.specs.declared.declares.LiteralScope.{LiteralScope}
use Rattle.cue_eval.specs.Literals.{literals, has_dots}
use Rattle.cue_eval.specs.Closing.{OneDoes, OneOfFields, OneOfElements, AtStruct}
use Rattle.cue_eval.specs.Telling.{DeclaredRefuses, IsDeclaredLabel}
use Rattle.cue_eval.specs.Inner.Telling.{literal_declares}

-- what is asked of the struct literals that an expression writes itself: what they declare, or
-- whether one has a `...`
abbrev pub own_literals_declare : LiteralSelection → DeclaredQuestion → Members → Type 0
own_literals_declare Own asked ms = literal_declares asked ms ≡ true
own_literals_declare Dotted asked ms = has_dots ms ≡ true

-- and of those in definitions that it names: nothing, or whether one has a `...`
abbrev pub used_literals_declare : LiteralSelection → Core → Path → Type 0
used_literals_declare Own c path = ⊥
used_literals_declare Dotted c path = list_any has_dots (literals c path) ≡ true

-- it is told of the expression at the path
abbrev pub IsDeclaredAt : LiteralSelection → Core → Path → DeclaredQuestion → Type 0
IsDeclaredAt whose c path asked = OneDoes (own_literals_declare whose asked) (used_literals_declare whose) c path

-- The table says at each path just what is told of the expression.
pub record DeclaresLiterals (whose : LiteralSelection) (c : Core) (table : Tree Declared) : Type 0 where
  pub form : IsTable DeclaredRefuses IsDeclaredLabel table
  pub told : (path : Path) (asked : DeclaredQuestion)
      → TableRefuses DeclaredRefuses table path asked ↔ IsDeclaredAt whose c path asked

-- The table says so of the fields of a struct literal, and nothing of the literal itself.
pub record DeclaresFields (whose : LiteralSelection) (ms : Members) (table : Tree Declared) : Type 0 where
  pub form : IsTable DeclaredRefuses IsDeclaredLabel table
  pub told : (path : Path) (asked : DeclaredQuestion)
      → TableRefuses DeclaredRefuses table path asked
      ↔ AtStruct ⊥ (OneOfFields (own_literals_declare whose asked) (used_literals_declare whose) ms) path

-- below the elements from an index on: what is told of the further elements
abbrev pub IsDeclaredBeyond : LiteralSelection → ℕ → cores.Elements → Path → DeclaredQuestion → Type 0
IsDeclaredBeyond whose first es [] asked = ⊥
IsDeclaredBeyond whose first es (label l ∷ path) asked = ⊥
IsDeclaredBeyond whose first es (index i ∷ path) asked =
    (k : ℕ) × (first + k ≡ i)
    × OneOfElements (own_literals_declare whose asked) (used_literals_declare whose) es k path

-- The second table says what the first does, and that.
pub record DeclareBeyond (whose : LiteralSelection) (first : ℕ) (es : cores.Elements) (list : Tree Declared)
    (all : Tree Declared) : Type 0 where
  pub form : IsTable DeclaredRefuses IsDeclaredLabel all
  pub told : (path : Path) (asked : DeclaredQuestion)
      → TableRefuses DeclaredRefuses all path asked
      ↔ (TableRefuses DeclaredRefuses list path asked ⊎ IsDeclaredBeyond whose first es path asked)

-- The table has a row just where one of the struct literals has a `...`.
pub record AreDots (c : Core) (table : Tree Declared) : Type 0 where
  pub form : IsTable DeclaredRefuses IsDeclaredLabel table
  pub told : (path : Path) (asked : DeclaredQuestion)
      → TableRefuses DeclaredRefuses table path asked ↔ (list_any has_dots (literals c path) ≡ true)

-- the table with a row at its root besides
pub record IsRooted (table : Tree Declared) (row : Declared) (all : Tree Declared) : Type 0 where
  pub form : IsTable DeclaredRefuses IsDeclaredLabel all
  pub added : IsAdded DeclaredRefuses table [] row all

-- what the expression means
abbrev pub meaning_in_scope : LiteralScope → Expression → Core
meaning_in_scope known e = meant (nodes_kept known.definitions.now) (meaning_of_number (nodes_kept known.definitions.now)) e

abbrev pub mean_elements : LiteralScope → Elements → Cores
mean_elements known es =
    meant_elements (nodes_kept known.definitions.now) (meaning_of_number (nodes_kept known.definitions.now)) es

abbrev pub mean_rest : LiteralScope → Rest → cores.Elements
mean_rest known rest =
    meant_rest (nodes_kept known.definitions.now) (meaning_of_number (nodes_kept known.definitions.now)) rest

abbrev pub mean_members : LiteralScope → Entries → Members
mean_members known es =
    meant_members (nodes_kept known.definitions.now) (meaning_of_number (nodes_kept known.definitions.now)) es

-- The dots of the definitions that are used are known, and the limits are kept.
pub record AreKnown (known : LiteralScope) (us : List ℕ) (size depth : ℕ) : Type 0 where
  pub used : (i : ℕ) → IsNodeIn i us
      → (table : Tree Declared) × (i < length known.dots.now)
      × ((d : Option (Tree Declared)) → slice_index_or known.dots.now i d ≡ Some table)
      × AreDots (meaning_of_number (nodes_kept known.definitions.now) i) table
  pub small : size ≤ 65536
  pub flat : depth ≤ 64

abbrev pub IsKnown : LiteralScope → Expression → Type 0
IsKnown known e =
    AreKnown known (uses (nodes_kept known.definitions.now) e) (size (meaning_in_scope known e))
    (depth (meaning_in_scope known e))

abbrev pub ArePartsKnown : LiteralScope → Elements → Type 0
ArePartsKnown known es =
    AreKnown known (uses_of_elements (nodes_kept known.definitions.now) es)
    (size_of_cores (mean_elements known es)) (depth_of_cores (mean_elements known es))

abbrev pub AreElementsKnown : LiteralScope → Elements → Type 0
AreElementsKnown known es =
    AreKnown known (uses_of_elements (nodes_kept known.definitions.now) es)
    (size_of_cores (mean_elements known es))
    (depth_of_elements (followed_by (mean_elements known es) ends))

abbrev pub IsRestKnown : LiteralScope → Rest → Type 0
IsRestKnown known rest =
    AreKnown known (uses_of_rest (nodes_kept known.definitions.now) rest)
    (size_of_elements (mean_rest known rest)) (depth_of_elements (mean_rest known rest))

abbrev pub AreMembersKnown : LiteralScope → Entries → Type 0
AreMembersKnown known es =
    AreKnown known (uses_of_entries (nodes_kept known.definitions.now) es)
    (size_of_members (mean_members known es)) (depth_of_members (mean_members known es))

abbrev pub IsNameKnown : LiteralScope → Identifier → Type 0
IsNameKnown known n =
    AreKnown known (uses_of_name (nodes_kept known.definitions.now) n) 1
    (depth
    (meant_name (nodes_kept known.definitions.now) (meaning_of_number (nodes_kept known.definitions.now)) n))
