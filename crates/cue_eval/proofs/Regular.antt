-- The regular declarations of a struct literal are all that a struct of them asks: its `...` refuses nothing.
use Rattle.std.proofs.Common.{◌↔◌, ◌≤◌, ℕ, inl, inr, ⊎_elim, Bool, List, [], ◌∷◌, arith}
use Rattle.cue_lattice.specs.Path.{Path, label, index}
use Rattle.cue_lattice.specs.Question.{Question}
use Rattle.cue_row.specs.declared.parts.RowParts.{RowParts as Row}
use Rattle.cue_table.specs.Tree.{Tree}
use Rattle.cue_syntax.specs.Syntax as tree
use Rattle.cue_syntax.specs.Syntax.{Entries, no_entries, entry, ellipsis, field, definition}
use Rattle.cue_scope.specs.Core.{Core, struct}
use Rattle.cue_scope.specs.Definitions.{Definition}
use Rattle.cue_scope.specs.Graph.{IsNodeIn}
use Rattle.cue_scope.specs.Limits.{size_of_members, depth_of_members}
use Rattle.cue_scope.specs.Meaning.{meaning_of_number, meant_members, meant_fields}
use Rattle.cue_scope.specs.Uses.{uses, uses_of_entries, uses_of_fields}
use Rattle.cue_scope.proofs.Nodes.{in_append, in_append_left, in_append_right}
use Rattle.cue_eval.specs.declared.tables.TableBuilder.{TableBuilder}
use Rattle.cue_eval.specs.Evaluated.{HasAnswersOf}
use Rattle.cue_eval.specs.Inner.Ready.{all_definitions, IsReady, AreReadyEntries, AreReadyFields}
use Rattle.cue_eval.specs.Refuses.{Refuses, FieldRefuses}

used_by_fields : (ds : List Definition) (es : Entries) (i : ℕ) → IsNodeIn i (uses_of_fields ds es) → IsNodeIn i (uses_of_entries ds es)
used_by_fields ds no_entries i h = h
used_by_fields ds (entry ellipsis es) i h = used_by_fields ds es i h
used_by_fields ds (entry (field l chain e) es) i h =
    ⊎_elim
    (λ g. in_append_left (uses ds e) (uses_of_entries ds es) i g)
    (λ g. in_append_right (uses ds e) (uses_of_entries ds es) i (used_by_fields ds es i g))
    (in_append (uses ds e) (uses_of_fields ds es) i h)
used_by_fields ds (entry (definition t place chain e) es) i h = in_append_right (uses ds e) (uses_of_entries ds es) i (used_by_fields ds es i h)

no_larger : (ds : List Definition) (m : ℕ → Core) (es : Entries) → size_of_members (meant_fields ds m es) ≤ size_of_members (meant_members ds m es)
no_larger ds m no_entries = omega arith
no_larger ds m (entry ellipsis es) = let rest = no_larger ds m es in omega arith
no_larger ds m (entry (field l chain e) es) = let rest = no_larger ds m es in omega arith
no_larger ds m (entry (definition t place chain e) es) = no_larger ds m es

no_deeper : (ds : List Definition) (m : ℕ → Core) (es : Entries) → depth_of_members (meant_fields ds m es) ≤ depth_of_members (meant_members ds m es)
no_deeper ds m no_entries = omega arith
no_deeper ds m (entry ellipsis es) = no_deeper ds m es
no_deeper ds m (entry (field l chain e) es) = let rest = no_deeper ds m es in omega arith
no_deeper ds m (entry (definition t place chain e) es) = no_deeper ds m es

pub fields_ready : (known : TableBuilder) (es : Entries) → AreReadyEntries known es → AreReadyFields known es
fields_ready known es h =
    let ds = all_definitions known in
    let less = no_larger ds (meaning_of_number ds) es in
    let shallow = no_deeper ds (meaning_of_number ds) es in
    let s = h.size in
    let d = h.depth in record {
      right = h.right;
      used = record { pairs = λ i there. h.used.pairs i (used_by_fields ds es i there); tables = λ i there. h.used.tables i (used_by_fields ds es i there) };
      terms = h.terms;
      size = omega arith;
      depth = omega arith;
    }

pub struct_ready : (known : TableBuilder) (es : Entries) (comma : Bool) → IsReady known (tree.struct es comma) → AreReadyFields known es
struct_ready known es comma h =
    let s = h.size in
    fields_ready known es (record { right = h.right.0; used = h.used; terms = h.terms; size = omega arith; depth = h.depth })

same_fields : (ds : List Definition) (m : ℕ → Core) (es : Entries) (l : List ℕ) (path : Path) (question : Question) → FieldRefuses (meant_fields ds m es) l path question ↔ FieldRefuses (meant_members ds m es) l path question
same_fields ds m no_entries l path question = (λ h. h, λ h. h)
same_fields ds m (entry ellipsis es) l path question = same_fields ds m es l path question
same_fields ds m (entry (field k chain e) es) l path question =
    let rest = same_fields ds m es l path question in
    (λ h. ⊎_elim (λ g. inl g) (λ g. inr (rest.0 g)) h, λ h. ⊎_elim (λ g. inl g) (λ g. inr (rest.1 g)) h)
same_fields ds m (entry (definition t place chain e) es) l path question = same_fields ds m es l path question

same_struct : (ds : List Definition) (m : ℕ → Core) (es : Entries) (path : Path) (question : Question) → Refuses (struct (meant_fields ds m es)) path question ↔ Refuses (struct (meant_members ds m es)) path question
same_struct ds m es [] question = (λ h. h, λ h. h)
same_struct ds m es (label l ∷ path) question = same_fields ds m es l path question
same_struct ds m es (index i ∷ path) question = (λ h. h, λ h. h)

-- a table of all declarations is one of the regular ones
pub of_fields : (ds : List Definition) (m : ℕ → Core) (es : Entries) (table : Tree Row) → HasAnswersOf (struct (meant_members ds m es)) table → HasAnswersOf (struct (meant_fields ds m es)) table
of_fields ds m es table h path question =
    let a = h path question in
    let s = same_struct ds m es path question in
    (λ g. s.1 (a.0 g), λ g. a.1 (s.0 g))
