-- What is known of the definitions that a definition uses is what its table, its pair and its closing ask.
use Rattle.std.proofs.Common.{◌≡◌, ◌+◌, ◌≤◌, ℕ, Option, None, Some, List, [], ◌∷◌, length, get_or, refl, sym, ap, subst, ◌∙◌, arith}
use Rattle.std.specs.Prelude.{IsTrue}
use Rattle.cue_lattice.specs.Limits.{step_limit}
use Rattle.cue_row.specs.Row.{RefusesAsked, IsRow}
use Rattle.cue_row.specs.declared.parts.RowParts.{RowParts as Row}
use Rattle.cue_table.specs.Depth.{tree_depth}
use Rattle.cue_table.specs.Form.{IsTable}
use Rattle.cue_table.specs.Tree.{Tree}
use Rattle.cue_syntax.specs.declared.tree.Label.{Label}
use Rattle.cue_scope.specs.Core.{Core, is_scalar}
use Rattle.cue_scope.specs.Definitions.{Definition}
use Rattle.cue_scope.specs.Kept.{nodes_kept}
use Rattle.cue_scope.specs.Meaning.{meaning_of_number, meant, nest_in_labels}
use Rattle.cue_scope.specs.Uses.{uses}
use Rattle.cue_scope.proofs.Inside.{uses_below, below_is}
use Rattle.cue_scalars.specs.declared.valued.Valued.{Valued}
use Rattle.cue_eval.specs.declared.declared.Declared.{Declared}
use Rattle.cue_eval.specs.declared.definitions.EvaluatedDefinitions.{EvaluatedDefinitions}
use Rattle.cue_eval.specs.declared.tables.TableBuilder.{TableBuilder}
use Rattle.cue_eval.specs.declared.declares.LiteralScope.{LiteralScope}
use Rattle.cue_eval.specs.Inner.Adding.{IsBodyKnown}
use Rattle.cue_eval.specs.Evaluated.{HasAnswersOf}
use Rattle.cue_eval.specs.declared.declares.LiteralSelection.{LiteralSelection}
use Rattle.cue_eval.specs.Inner.Finding.{body_of, AreFound, IsDefinable, IsFindable, IsKept}
use Rattle.cue_eval.specs.Inner.Known.{IsPairOf, IsPairable}
use Rattle.cue_eval.specs.Pairs.{pair}
use Rattle.cue_eval.specs.Inner.Ready.{all_definitions, AreKnown, IsTableAt}
use Rattle.cue_eval.specs.Inner.Told.{DeclaresLiterals}
use Rattle.cue_eval.proofs.TellingDepth.{told_flat, nested_depth, nested_size}
use Rattle.cue_eval.proofs.Walks.{within_depth}

pub known_of : (found : EvaluatedDefinitions) (known : TableBuilder) (us : List ℕ) → known.pairs.pairs.now ≡ found.pairs.items → known.tables.now ≡ found.tables.items → AreFound (all_definitions known) us found → AreKnown known us
known_of found known us pairs tables h = record {
  pairs = λ i there sure. subst (λ (xs : List (Option _)). IsPairOf (meaning_of_number (all_definitions known) i) (get_or xs i None)) (sym pairs) ((h i there).pair sure);
  tables = λ i there. subst (λ (xs : List (Option (Tree Row))). IsTableAt (meaning_of_number (all_definitions known) i) (get_or xs i None)) (sym tables) (h i there).rows;
}

-- the value of a definition can be found, as far as its chain of labels leaves room
pub findable_of : (ds : List Definition) (d : Definition) (found : EvaluatedDefinitions) → IsDefinable ds d found → IsFindable ds d.value found
findable_of ds d found h =
    let c = meant ds (meaning_of_number ds) d.value in
    let more = nested_size d.chain c in
    let deeper = nested_depth d.chain c in
    let s = h.size in
    let t = h.depth in record {
      room = h.room;
      used = h.used;
      once = h.once;
      right = h.right;
      terms = h.terms;
      size = omega arith;
      depth = omega arith;
    }

-- a chain of labels makes a struct, so that nothing scalar stands behind one
scalar_nested : (chain : List Label) (c : Core) → IsTrue (is_scalar (nest_in_labels chain c)) → nest_in_labels chain c ≡ c
scalar_nested [] c h = refl
scalar_nested (l ∷ ls) c h = absurd (cc)

-- the definitions that it uses may be taken over before its pair is found
pub pairable_of : (old found : EvaluatedDefinitions) (known : TableBuilder) (d : Definition) → IsKept (uses (all_definitions known) d.value) old found → known.pairs.pairs.now ≡ found.pairs.items → IsDefinable (all_definitions known) d old
    → IsTrue (is_scalar (body_of (all_definitions known) d)) → IsPairable known.pairs d.value
pairable_of old found known d kept pairs h sure =
    let ds = all_definitions known in
    let c = meant ds (meaning_of_number ds) d.value in record {
      right = h.right;
      scalar = subst (λ z. IsTrue (is_scalar z)) (scalar_nested d.chain c sure) sure;
      used = λ i there scalar. subst (λ (xs : List (Option Valued)). IsPairOf (meaning_of_number ds i) (get_or xs i None)) (sym (pairs ∙ kept.pairs)) ((h.used i there).pair scalar);
    }

pub pair_of_body : (ds : List Definition) (d : Definition) → IsTrue (is_scalar (body_of ds d)) → pair (body_of ds d) ≡ pair (meant ds (meaning_of_number ds) d.value)
pair_of_body ds d sure = ap pair (scalar_nested d.chain (meant ds (meaning_of_number ds) d.value) sure)

-- there is room for the chain of labels
pub chain_within : (ds : List Definition) (d : Definition) (found : EvaluatedDefinitions) (table : Tree Row) → IsDefinable ds d found → IsTable RefusesAsked IsRow table → HasAnswersOf (meant ds (meaning_of_number ds) d.value) table
    → tree_depth table + length d.chain ≤ step_limit
chain_within ds d found table h form same =
    let c = meant ds (meaning_of_number ds) d.value in
    let at = within_depth c table form same in
    let deeper = nested_depth d.chain c in
    let t = h.depth in
    omega arith

-- the same for what is told of it
pub chain_flat : (ds : List Definition) (d : Definition) (found : EvaluatedDefinitions) (whose : LiteralSelection) (table : Tree Declared) → IsDefinable ds d found → DeclaresLiterals whose (meant ds (meaning_of_number ds) d.value) table
    → length d.chain + tree_depth table ≤ step_limit
chain_flat ds d found whose table h told =
    let c = meant ds (meaning_of_number ds) d.value in
    let flat = told_flat whose c table told in
    let deeper = nested_depth d.chain c in
    let t = h.depth in
    omega arith

-- the definitions that it uses are known to what closes it
pub body_known : (found : EvaluatedDefinitions) (known : LiteralScope) (d : Definition) → known.dots.now ≡ found.dots.items → IsDefinable (nodes_kept known.definitions.now) d found → IsBodyKnown known d.chain d.value
body_known found known d dots h =
    let ds = nodes_kept known.definitions.now in
    let c = meant ds (meaning_of_number ds) d.value in
    let more = nested_size d.chain c in
    let s = h.size in
    let t = h.depth in record {
      used = λ i there.
          let at = (h.used i there).dots in
          let below = below_is (length ds) (uses ds d.value) (uses_below ds d.value) i there in
          let room = h.room.dots in
          let long = ap length dots in
          (at.0, omega arith, λ o. subst (λ (xs : List (Option (Tree Declared))). get_or xs i o ≡ Some at.0) (sym dots) (at.1 o), at.2);
      small = omega arith;
      flat = omega arith;
    }
