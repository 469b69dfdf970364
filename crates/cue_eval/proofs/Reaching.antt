-- The definitions that a legal text reaches follow the grammar, have scalar terms, and keep the limits.
use Rattle.std.proofs.Common.{◌≡◌, ◌≤◌, ◌<◌, ℕ, zero, suc, Some, List, [], ◌∷◌, length, map, refl, ap, subst, ◌∙◌, arith}
use Rattle.std.specs.Prelude.{slice_get}
use Rattle.cue_lattice.specs.Limits.{size_limit, step_limit}
use Rattle.cue_syntax.specs.Grammar.{IsRight, AreRightEntries}
use Rattle.cue_syntax.specs.Syntax.{Entries, no_entries, entry, ellipsis, field, definition}
use Rattle.cue_scope.specs.Core.{Core, closed}
use Rattle.cue_scope.specs.Definitions.{Definition, definitions}
use Rattle.cue_scope.specs.Graph.{IsNodeIn, IsReached, start, go_on, targets}
use Rattle.cue_scope.specs.Limits.{size, depth}
use Rattle.cue_scope.specs.Meaning.{meaning_of_number, meant, meant_use, nest_in_labels}
use Rattle.cue_scope.specs.Refusing.{IsLegalTree}
use Rattle.cue_scope.specs.Terms.{terms, terms_of_entries}
use Rattle.cue_scope.specs.Uses.{uses, uses_of_fields, graph}
use Rattle.cue_scope.proofs.Meanings.{length_graph}
use Rattle.cue_scope.proofs.Nodes.{points_inside}
use Rattle.cue_eval.proofs.Leaves.{nil_both}
use Rattle.cue_eval.proofs.TellingDepth.{nested_depth, nested_size}
use Rattle.cue_eval.proofs.UsedWithin.{used_within, fields_within}

-- what a node points to is used by the definition of its number
pub pointed : (ds xs : List Definition) (i j : ℕ) → IsNodeIn j (targets (map (λ x. uses ds x.value) xs) i) → (d : Definition) × (slice_get xs i ≡ Some d) × IsNodeIn j (uses ds d.value)
pointed ds [] i j h = absurd h
pointed ds (x ∷ xs) zero j h = (x, refl, h)
pointed ds (x ∷ xs) (suc i) j h = pointed ds xs i j h

pub right_at : (es : Entries) (i : ℕ) (d : Definition) → AreRightEntries es → slice_get (definitions es) i ≡ Some d → IsRight d.value
right_at no_entries i d right is = absurd (cc)
right_at (entry ellipsis es) i d right is = right_at es i d right.1 is
right_at (entry (field l chain e) es) i d right is = right_at es i d right.1 is
right_at (entry (definition t place chain e) es) zero d right is =
    let first : Definition = record { name = t; place = place; chain = chain; value = e } in
    let same : first ≡ d = cc in
    subst (λ (x : Definition). IsRight x.value) same right.0
right_at (entry (definition t place chain e) es) (suc i) d right is = right_at es i d right.1 is

pub terms_at : (ds : List Definition) (m : ℕ → Core) (es : Entries) (i : ℕ) (d : Definition) → terms_of_entries ds m es ≡ [] → slice_get (definitions es) i ≡ Some d → terms ds m d.value ≡ []
terms_at ds m no_entries i d none is = absurd (cc)
terms_at ds m (entry ellipsis es) i d none is = terms_at ds m es i d none is
terms_at ds m (entry (field l chain e) es) i d none is = terms_at ds m es i d (nil_both (terms ds m e) (terms_of_entries ds m es) none).1 is
terms_at ds m (entry (definition t place chain e) es) zero d none is =
    let first : Definition = record { name = t; place = place; chain = chain; value = e } in
    let same : first ≡ d = cc in
    subst (λ (x : Definition). terms ds m x.value ≡ []) same (nil_both (terms ds m e) (terms_of_entries ds m es) none).0
terms_at ds m (entry (definition t place chain e) es) (suc i) d none is = terms_at ds m es i d (nil_both (terms ds m e) (terms_of_entries ds m es) none).1 is

-- neither too large nor too deep
pub record IsLimited (c : Core) : Type 0 where
  pub size : size c ≤ size_limit
  pub depth : depth c ≤ step_limit

limited_use : (ds : List Definition) (m : ℕ → Core) (d : Definition) (j : ℕ) → IsRight d.value → IsNodeIn j (uses ds d.value) → IsLimited (closed (nest_in_labels d.chain (meant ds m d.value))) → IsLimited (m j)
limited_use ds m d j right there h =
    let w = used_within ds m d.value j right there in
    let a = w.size in
    let b = w.depth in
    let more = nested_size d.chain (meant ds m d.value) in
    let deeper = nested_depth d.chain (meant ds m d.value) in
    let s = h.size in
    let t = h.depth in
    record { size = omega arith; depth = omega arith }

pub reached_limited : (es : Entries) → IsLegalTree es → AreRightEntries es
    → ((i : ℕ) → i < length (definitions es) → meaning_of_number (definitions es) i ≡ meant_use (definitions es) (meaning_of_number (definitions es)) (slice_get (definitions es) i))
    → (i : ℕ) → IsReached (graph (definitions es)) (uses_of_fields (definitions es) es) i → IsLimited (meaning_of_number (definitions es) i)
reached_limited es legal right closed_uses i (start _ there) =
    let w = fields_within (definitions es) (meaning_of_number (definitions es)) es i right there in
    let a = w.size in
    let b = w.depth in
    let s = legal.small.size in
    let t = legal.depth in
    record { size = omega arith; depth = omega arith }
reached_limited es legal right closed_uses i (go_on j _ reached points) =
    let ds = definitions es in
    let before = reached_limited es legal right closed_uses j reached in
    let found = pointed ds ds j i points in
    let same = length_graph ds ds in
    let inside : j < length ds = let less = points_inside (graph ds) j i points in omega arith in
    let is : meaning_of_number ds j ≡ closed (nest_in_labels found.0.chain (meant ds (meaning_of_number ds) found.0.value)) = closed_uses j inside ∙ ap (meant_use ds (meaning_of_number ds)) found.1 in
    limited_use ds (meaning_of_number ds) found.0 i (right_at es j found.0 right found.1) found.2 (subst (λ c. IsLimited c) is before)
