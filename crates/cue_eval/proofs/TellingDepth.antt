-- How deep tables are that tell of struct literals.
use Rattle.std.proofs.Common.{◌≡◌, ◌≢◌, ◌+◌, ◌≤◌, Bool, true, List, [], ◌∷◌, length, inl, arith}
use Rattle.std.specs.List.{list_any}
use Rattle.std.proofs.lemmas.Bool.{false≢true}
use Rattle.cue_lattice.specs.Path.{Path}
use Rattle.cue_lattice.specs.Question as questions
use Rattle.cue_syntax.specs.declared.tree.Label.{Label}
use Rattle.cue_scope.specs.Core.{Core, conjunction, disjunction, struct, close, list, closed, Members}
use Rattle.cue_scope.specs.Limits.{size, depth}
use Rattle.cue_scope.specs.Meaning.{nest_in_labels}
use Rattle.cue_table.specs.Depth.{tree_depth}
use Rattle.cue_table.specs.Tree.{Tree}
use Rattle.cue_table.proofs.Depth.{refusals_depth}
use Rattle.cue_eval.specs.declared.declared.Declared.{Declared}
use Rattle.cue_eval.specs.declared.declared.DeclaredQuestion.{DeclaredQuestion}
use Rattle.cue_eval.specs.declared.declares.LiteralSelection.{LiteralSelection}
use Rattle.cue_eval.specs.declared.declares.LiteralSelection.TheVariants.{Own, Dotted}
use Rattle.cue_eval.specs.Literals.{literals, has_dots}
use Rattle.cue_eval.specs.Telling.{DeclaredRefuses, IsDeclaredLabel}
use Rattle.cue_eval.specs.Inner.Telling.{literal_declares}
use Rattle.cue_eval.specs.Inner.Told.{IsDeclaredAt, DeclaresLiterals}
use Rattle.cue_eval.proofs.Depth.{paths_within_depth}
use Rattle.cue_eval.proofs.Origins.{struct_written}
use Rattle.cue_eval.proofs.Own.{own_or_used}
use Rattle.cue_eval.proofs.TellingNames.{dotted_told}

any_not_none : (test : Members → Bool) (all : List Members) → list_any test all ≡ true → all ≢ []
any_not_none test [] h e = false≢true h
any_not_none test (ms ∷ all) h e = cc

written_depth : (test : Members → Bool) (c : Core) (path : Path) → list_any test (literals c path) ≡ true → length path ≤ depth c
written_depth test c path h = paths_within_depth c path questions.list (struct_written c path (any_not_none test (literals c path) h) questions.list tt)

told_within : (whose : LiteralSelection) (c : Core) (path : Path) (asked : DeclaredQuestion) → IsDeclaredAt whose c path asked → length path ≤ depth c
told_within Own c path asked h = written_depth (literal_declares asked) c path ((own_or_used (literal_declares asked) c path).1 (inl h))
told_within Dotted c path asked h = written_depth has_dots c path ((dotted_told c path asked).1 h)

-- a table is no deeper than the expression of which it tells
pub told_flat : (whose : LiteralSelection) (c : Core) (table : Tree Declared) → DeclaresLiterals whose c table → tree_depth table ≤ depth c
told_flat whose c table t = refusals_depth DeclaredRefuses IsDeclaredLabel table (depth c) t.form (λ path asked h. told_within whose c path asked ((t.told path asked).0 h))

-- each expression has a size
pub some_size : (c : Core) → 1 ≤ size c
some_size (conjunction cs) = omega arith
some_size (disjunction cs) = omega arith
some_size (struct ms) = omega arith
some_size (close ms) = omega arith
some_size (list es) = omega arith
some_size (closed c) = omega arith
some_size _ = omega arith

-- a chain of labels is as deep as it is long
pub nested_depth : (chain : List Label) (c : Core) → depth (nest_in_labels chain c) ≡ length chain + depth c
nested_depth [] c = omega arith
nested_depth (l ∷ chain) c = let rest = nested_depth chain c in omega arith

pub nested_size : (chain : List Label) (c : Core) → size c ≤ size (nest_in_labels chain c)
nested_size [] c = omega arith
nested_size (l ∷ chain) c = let rest = nested_size chain c in omega arith
