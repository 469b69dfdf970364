-- What a legal text keeps for evaluation.
use Rattle.std.specs.Prelude.{ℕ, ◌≡◌, ◌<◌, ◌-◌, ◌^◌, min, length, slice_get, slice_index}
use Rattle.std.specs.Prelude.{slice_index_or}
use Rattle.cue_scope.specs.declared.measure.Measure.{Measure}
use Rattle.cue_scope.specs.declared.resolved.Resolved.TheInside.{Inside}
use Rattle.cue_scope.specs.Core.{is_scalar}
use Rattle.cue_scope.specs.Definitions.{definitions}
use Rattle.cue_scope.specs.Files.{entries_of}
use Rattle.cue_scope.specs.Kept.{nodes_kept}
use Rattle.cue_scope.specs.Limits as limits
use Rattle.cue_scope.specs.Meaning.{meaning_of_number, meant_text, meant_use}
use Rattle.cue_scope.specs.Reached.{IsReachedOrder, times_in_list}
use Rattle.cue_scope.specs.Refusing.{IsLegalTree}
use Rattle.cue_scope.specs.Uses.{graph, uses_of_fields}
use Rattle.cue_scope.specs.Written.{written_uses}
use Rattle.cue_syntax.specs.Syntax.{Entries}

-- The text is legal, and what is kept is what it means: its definitions, whose uses mean their
-- closed bodies, which of these are scalar, an order of those that it reaches, how often it names
-- them, and its size.
pub record Keeps (r : Inside) (es : Entries) : Type 0 where
  pub legal : IsLegalTree es
  pub defined : nodes_kept r.definitions ≡ definitions es
  pub uses : (i : ℕ) → i < length (definitions es)
      → meaning_of_number (definitions es) i
      ≡ meant_use (definitions es) (meaning_of_number (definitions es)) (slice_get (definitions es) i)
  pub measured : length r.measures.items ≡ length (definitions es)
  pub scalar : (i : ℕ) (d : Measure) → i < length (definitions es)
      → (slice_index_or r.measures.items i d).scalar ≡ is_scalar (meaning_of_number (definitions es) i)
  pub order : IsReachedOrder (graph (definitions es)) (uses_of_fields (definitions es) es)
      r.order.items
  pub counts : length r.counts.items ≡ length (definitions es)
  pub counted : (i : ℕ) → i < length (definitions es)
      → slice_index r.counts.items i
      ≡ min (times_in_list i (written_uses (definitions es) es r.order.items)) (2 ^ 64 - 1)
  pub size : r.size ≡ limits.size (meant_text es)

abbrev pub IsResolved : Inside → Type 0
IsResolved r = Keeps r (entries_of r.file.now)
