-- Definitions are evaluated in an order in which each comes after those that it uses, and then the text.
use Rattle.std.proofs.Common.{◌≡◌, ◌+◌, ◌≤◌, ◌<◌, ℕ, ⊎_elim, Option, None, Some, Result, Ok, Err, Bool, true, false, List, [], ◌++◌, length, drop, get_or, get_or-set_same, get_or-set_other, sym, ap, subst, ◌∙◌, arith}
use Rattle.std.proofs.Math.ListN.{set, length-set}
use Rattle.std.proofs.lemmas.List.{drop_more}
use Rattle.std.proofs.lemmas.Bool.Decides.{eqb_tells}
use Rattle.std.specs.Prelude.{IfOk, slice_get}
use Rattle.cue_lattice.specs.Limits.{size_limit, step_limit}
use Rattle.cue_row.specs.Row.{RefusesAsked, IsRow}
use Rattle.cue_row.specs.declared.parts.RowParts.{RowParts as Row}
use Rattle.cue_scalars.specs.declared.valued.Valued.{Valued}
use Rattle.cue_table.specs.Form.{IsTable}
use Rattle.cue_table.specs.Tree.{Tree}
use Rattle.cue_syntax.specs.Grammar.{AreRightEntries}
use Rattle.cue_syntax.specs.Syntax.{Entries}
use Rattle.cue_syntax.specs.Words.{HaveWordsEntries}
use Rattle.cue_scope.specs.Core.{struct}
use Rattle.cue_scope.specs.Definitions.{Definition, definitions}
use Rattle.cue_scope.specs.Graph.{IsNodeIn, PointsTo, start, targets}
use Rattle.cue_scope.specs.Limits.{size_of_members, depth_of_members}
use Rattle.cue_scope.specs.Meaning.{meaning_of_number, meant_use, meant_members, meant_fields, meant_text}
use Rattle.cue_scope.specs.Reached.{IsReachedOrder, times_in_list, targets_of}
use Rattle.cue_scope.specs.Refusing.{IsLegalTree}
use Rattle.cue_scope.specs.Terms.{terms_of_entries}
use Rattle.cue_scope.specs.Uses.{uses, uses_of_fields, graph}
use Rattle.cue_scope.proofs.Kept.{reached_below}
use Rattle.cue_scope.proofs.Meanings.{uses_at}
use Rattle.cue_scope.proofs.Nodes.{in_append, in_append_left, in_append_right, in_at, in_index}
use Rattle.cue_eval.specs.declared.declared.Declared.{Declared}
use Rattle.cue_eval.specs.declared.definitions.Defined.{Defined}
use Rattle.cue_eval.specs.declared.definitions.EvaluatedDefinitions.{EvaluatedDefinitions}
use Rattle.cue_eval.specs.declared.tables.TableBuilder.{TableBuilder}
use Rattle.cue_eval.specs.Evaluated.{HasAnswersOf, IsEvaluated}
use Rattle.cue_eval.specs.Inner.Finding.{body_of, later_uses, HasRoom, IsOnce, AreSingle, IsKept, IsDefined, IsDefinable, IsFoundAt, IsFoundSoFar, AreFound}
use Rattle.cue_eval.specs.Inner.Known.{IsPairOf}
use Rattle.cue_eval.specs.Inner.Ready.{all_definitions, members_of, AreReadyFields, IsTableAt}
use Rattle.cue_eval.proofs.Defining.{known_of}
use Rattle.cue_eval.proofs.Kept.{times_both, in_times, once_before, room_kept, found_kept}
use Rattle.cue_eval.proofs.Reaching.{IsLimited, right_at, terms_at, reached_limited}
use Rattle.cue_eval.proofs.Regular.{of_fields}
use Rattle.cue_eval.proofs.ValidTables.{texts_are_valid}
use Rattle.cue_eval.proofs.WordsOfTexts.{texts_write_words}

-- ---- the uses that come later
later_now : (ds : List Definition) (from order : List ℕ) (k : ℕ) → k < length order
    → later_uses ds from order k ≡ from ++ (targets (graph ds) (get_or order k 0) ++ targets_of (graph ds) (drop (k + 1) order))
later_now ds from order k h = ap (λ z. from ++ targets_of (graph ds) z) (drop_more order k 0 h)

times_later : (ds : List Definition) (from order : List ℕ) (i k : ℕ) → k < length order
    → times_in_list i (later_uses ds from order k) ≡ times_in_list i (targets (graph ds) (get_or order k 0)) + times_in_list i (later_uses ds from order (k + 1))
times_later ds from order i k h =
    let us = targets (graph ds) (get_or order k 0) in
    let vs = targets_of (graph ds) (drop (k + 1) order) in
    let all = ap (times_in_list i) (later_now ds from order k h) in
    let one = times_both i from (us ++ vs) in
    let two = times_both i us vs in
    let rest = times_both i from vs in
    omega arith

in_later : (ds : List Definition) (from order : List ℕ) (i k : ℕ) → k < length order → IsNodeIn i (later_uses ds from order (k + 1)) → IsNodeIn i (later_uses ds from order k)
in_later ds from order i k h there =
    let us = targets (graph ds) (get_or order k 0) in
    let vs = targets_of (graph ds) (drop (k + 1) order) in
    subst (λ z. IsNodeIn i z) (sym (later_now ds from order k h))
    (⊎_elim (λ a. in_append_left from (us ++ vs) i a) (λ b. in_append_right from (us ++ vs) i (in_append_right us vs i b)) (in_append from vs i there))

in_now : (ds : List Definition) (from order : List ℕ) (i k : ℕ) → k < length order → IsNodeIn i (targets (graph ds) (get_or order k 0)) → IsNodeIn i (later_uses ds from order k)
in_now ds from order i k h there =
    let us = targets (graph ds) (get_or order k 0) in
    let vs = targets_of (graph ds) (drop (k + 1) order) in
    subst (λ z. IsNodeIn i z) (sym (later_now ds from order k h)) (in_append_right from (us ++ vs) i (in_append_left us vs i there))

-- those that the next definition uses are known
found_next : (ds : List Definition) (from order : List ℕ) (k : ℕ) (found : EvaluatedDefinitions) (d : Definition) → IsReachedOrder (graph ds) from order → k < length order → slice_get ds (get_or order k 0) ≡ Some d
    → IsFoundSoFar ds from order k found → AreFound ds (uses ds d.value) found
found_next ds from order k found d o h is w = λ j there.
    let points : PointsTo (graph ds) (get_or order k 0) j = subst (λ us. IsNodeIn j us) (sym (uses_at ds ds (get_or order k 0) d is)) there in
    let before = o.after k j h points in
    let less : before.0 < k = before.1 in
    let same : get_or order before.0 0 ≡ j = before.2 in
    let now : IsNodeIn (get_or order before.0 0) (later_uses ds from order k) = subst (λ z. IsNodeIn z (later_uses ds from order k)) (sym same) (in_now ds from order j k h points) in
    subst (λ z. IsFoundAt (meaning_of_number ds z) z found) same (w.each before.0 less (omega arith) now)

-- and those of them that are used once are used once in its body
single_next : (ds : List Definition) (from order : List ℕ) (k : ℕ) (found : EvaluatedDefinitions) (d : Definition) → k < length order → slice_get ds (get_or order k 0) ≡ Some d → IsFoundSoFar ds from order k found
    → AreSingle found (uses ds d.value)
single_next ds from order k found d h is w =
    subst (λ us. AreSingle found us) (uses_at ds ds (get_or order k 0) d is)
    (λ i once. let few = w.once i once in let all = times_later ds from order i k h in omega arith)

-- what is said of the definitions of a legal text
abbrev pub AreClosed : List Definition → Type 0
AreClosed ds = (i : ℕ) → i < length ds → meaning_of_number ds i ≡ meant_use ds (meaning_of_number ds) (slice_get ds i)

pub next_below : (es : Entries) (order : List ℕ) (k : ℕ) → IsReachedOrder (graph (definitions es)) (uses_of_fields (definitions es) es) order → k < length order → get_or order k 0 < length (definitions es)
next_below es order k o h = reached_below (definitions es) es order o (get_or order k 0) (in_at order k h)

-- the next definition means its body, closed
pub next_means : (es : Entries) (order : List ℕ) (k : ℕ) (d : Definition) → AreClosed (definitions es) → IsReachedOrder (graph (definitions es)) (uses_of_fields (definitions es) es) order → k < length order
    → slice_get (definitions es) (get_or order k 0) ≡ Some d → meaning_of_number (definitions es) (get_or order k 0) ≡ body_of (definitions es) d
next_means es order k d closed_uses o h is =
    let ds = definitions es in
    closed_uses (get_or order k 0) (next_below es order k o h) ∙ ap (meant_use ds (meaning_of_number ds)) is

pub next_definable : (es : Entries) (order : List ℕ) (k : ℕ) (found : EvaluatedDefinitions) (d : Definition) → IsLegalTree es → AreRightEntries es → AreClosed (definitions es)
    → IsReachedOrder (graph (definitions es)) (uses_of_fields (definitions es) es) order → k < length order → slice_get (definitions es) (get_or order k 0) ≡ Some d
    → IsFoundSoFar (definitions es) (uses_of_fields (definitions es) es) order k found → IsDefinable (definitions es) d found
next_definable es order k found d legal right closed_uses o h is w =
    let ds = definitions es in
    let i = get_or order k 0 in
    let within = reached_limited es legal right closed_uses i ((o.reached i).0 (in_at order k h)) in
    let limited = subst (λ c. IsLimited c) (next_means es order k d closed_uses o h is) within in record {
      room = w.room;
      used = found_next ds (uses_of_fields ds es) order k found d o h is w;
      once = single_next ds (uses_of_fields ds es) order k found d h is w;
      right = right_at es i d right is;
      terms = terms_at ds (meaning_of_number ds) es i d legal.small.scalar.terms is;
      size = limited.size;
      depth = limited.depth;
    }

-- what is kept at a number is known there
kept_here : (ds : List Definition) (n : ℕ) (old new : EvaluatedDefinitions) (defined : Defined) → HasRoom (length ds) old → n < length ds → IsDefined (meaning_of_number ds n) defined
    → new.pairs.items ≡ set old.pairs.items n defined.pair → new.tables.items ≡ set old.tables.items n (Some defined.closed.rows) → new.dots.items ≡ set old.dots.items n (Some defined.closed.dots)
    → IsFoundAt (meaning_of_number ds n) n new
kept_here ds n old new defined room below x pairs tables dots =
    let a = room.pairs in
    let b = room.tables in
    let e = room.dots in record {
      pair = λ sure. subst (λ (xs : List (Option Valued)). IsPairOf (meaning_of_number ds n) (get_or xs n None)) (sym pairs)
          (subst (λ p. IsPairOf (meaning_of_number ds n) p) (sym (get_or-set_same old.pairs.items n defined.pair None (omega arith))) (x.pair sure));
      rows = subst (λ (xs : List (Option (Tree Row))). IsTableAt (meaning_of_number ds n) (get_or xs n None)) (sym tables)
          (subst (λ t. IsTableAt (meaning_of_number ds n) t) (sym (get_or-set_same old.tables.items n (Some defined.closed.rows) None (omega arith))) x.rows);
      dots = (
        defined.closed.dots,
        λ o. subst (λ (xs : List (Option (Tree Declared))). get_or xs n o ≡ Some defined.closed.dots) (sym dots) (get_or-set_same old.dots.items n (Some defined.closed.dots) o (omega arith)),
        x.dots,
      );
    }

-- what is known at another number still is
kept_there : (ds : List Definition) (n i : ℕ) (old new : EvaluatedDefinitions) (defined : Defined) → (i ≡ n → ⊥) → IsFoundAt (meaning_of_number ds i) i old
    → new.pairs.items ≡ set old.pairs.items n defined.pair → new.tables.items ≡ set old.tables.items n (Some defined.closed.rows) → new.dots.items ≡ set old.dots.items n (Some defined.closed.dots)
    → IsFoundAt (meaning_of_number ds i) i new
kept_there ds n i old new defined apart x pairs tables dots = record {
  pair = λ sure. subst (λ (xs : List (Option Valued)). IsPairOf (meaning_of_number ds i) (get_or xs i None)) (sym pairs)
      (subst (λ p. IsPairOf (meaning_of_number ds i) p) (sym (get_or-set_other old.pairs.items n i defined.pair None apart)) (x.pair sure));
  rows = subst (λ (xs : List (Option (Tree Row))). IsTableAt (meaning_of_number ds i) (get_or xs i None)) (sym tables)
      (subst (λ t. IsTableAt (meaning_of_number ds i) t) (sym (get_or-set_other old.tables.items n i (Some defined.closed.rows) None apart)) x.rows);
  dots = (
    x.dots.0,
    λ o. subst (λ (xs : List (Option (Tree Declared))). get_or xs i o ≡ Some x.dots.0) (sym dots)
        (get_or-set_other old.dots.items n i (Some defined.closed.dots) o apart ∙ x.dots.1 o),
    x.dots.2,
  );
}

-- one definition more is known, and what is used later still is
pub found_more : (ds : List Definition) (from order : List ℕ) (k : ℕ) (d : Definition) (old kept new : EvaluatedDefinitions) (defined : Defined) → IsReachedOrder (graph ds) from order → k < length order → get_or order k 0 < length ds
    → slice_get ds (get_or order k 0) ≡ Some d → IsFoundSoFar ds from order k old → IsKept (uses ds d.value) old kept → IsDefined (meaning_of_number ds (get_or order k 0)) defined
    → new.pairs.items ≡ set kept.pairs.items (get_or order k 0) defined.pair → new.tables.items ≡ set kept.tables.items (get_or order k 0) (Some defined.closed.rows)
    → new.dots.items ≡ set kept.dots.items (get_or order k 0) (Some defined.closed.dots) → new.once.items ≡ kept.once.items → IsFoundSoFar ds from order (k + 1) new
found_more ds from order k d old kept new defined o h below is w stays x pairs tables dots once =
    let n = get_or order k 0 in
    let us = uses ds d.value in
    let room = room_kept us old kept (length ds) stays w.room in record {
      room = record {
        pairs = ap length pairs ∙ length-set kept.pairs.items n defined.pair ∙ room.pairs;
        tables = ap length tables ∙ length-set kept.tables.items n (Some defined.closed.rows) ∙ room.tables;
        dots = ap length dots ∙ length-set kept.dots.items n (Some defined.closed.dots) ∙ room.dots;
      };
      once = λ i this.
          let was = once_before us old kept i stays (subst (λ (xs : List Bool). get_or xs i false ≡ true) once this) in
          let few = w.once i was in
          let all = times_later ds from order i k h in
          omega arith;
      each = λ j less inside later. ⊎_elim
          (λ t. subst (λ z. IsFoundAt (meaning_of_number ds z) z new) (sym (ap (λ z. get_or order z 0) t.1)) (kept_here ds n kept new defined room below x pairs tables dots))
          (λ f.
          let i = get_or order j 0 in
          let apart : IsOnce old i × IsNodeIn i us → ⊥ = λ y.
          let few = w.once i y.0 in
          let all = times_later ds from order i k h in
          let now = in_times i (targets (graph ds) n) (subst (λ vs. IsNodeIn i vs) (sym (uses_at ds ds n d is)) y.1) in
          let then = in_times i (later_uses ds from order (k + 1)) later in
          omega arith in
          kept_there ds n i kept new defined (λ e. f.1 (o.once j k inside h e))
          (found_kept (meaning_of_number ds i) us old kept i stays apart (w.each j (let other = f.1 in omega arith) inside (in_later ds from order i k h later))) pairs tables dots)
          (eqb_tells j k);
    }

-- at the end of the order all is known that the text uses
pub text_ready : (es : Entries) (order : List ℕ) (count : ℕ) (found : EvaluatedDefinitions) (known : TableBuilder) → IsLegalTree es → AreRightEntries es → IsReachedOrder (graph (definitions es)) (uses_of_fields (definitions es) es) order
    → length order ≤ count → IsFoundSoFar (definitions es) (uses_of_fields (definitions es) es) order count found → all_definitions known ≡ definitions es → known.pairs.pairs.now ≡ found.pairs.items → known.tables.now ≡ found.tables.items → AreReadyFields known es
text_ready es order count found known legal right o all w same pairs tables =
    let ds = definitions es in
    let used : AreFound ds (uses_of_fields ds es) found = λ i there.
    let at = in_index order i ((o.reached i).1 (start i there)) in
    let from = uses_of_fields ds es in
    let now : IsNodeIn (get_or order at.0 0) (later_uses ds from order count) = subst (λ z. IsNodeIn z (later_uses ds from order count)) (sym at.2) (in_append_left from (targets_of (graph ds) (drop count order)) i there) in
    subst (λ z. IsFoundAt (meaning_of_number ds z) z found) at.2 (w.each at.0 (let l = at.1 in omega arith) at.1 now) in
    let s = legal.small.size in
    let d = legal.depth in
    let size : size_of_members (meant_fields ds (meaning_of_number ds) es) ≤ size_limit = omega arith in
    let depth : depth_of_members (meant_fields ds (meaning_of_number ds) es) ≤ step_limit = omega arith in record {
      right = right;
      used = known_of found known (uses_of_fields (all_definitions known) es) pairs tables (subst (λ zs. AreFound zs (uses_of_fields zs es) found) (sym same) used);
      terms = subst (λ zs. terms_of_entries zs (meaning_of_number zs) es ≡ []) (sym same) legal.small.scalar.terms;
      size = subst (λ zs. size_of_members (meant_fields zs (meaning_of_number zs) es) ≤ size_limit) (sym same) size;
      depth = subst (λ zs. depth_of_members (meant_fields zs (meaning_of_number zs) es) ≤ step_limit) (sym same) depth;
    }

-- the table of the text's declarations is what evaluation owes
pub evaluated_result : {E : Type 0} (r : Result (Tree Row) E) (es : Entries) (known : TableBuilder) → IsLegalTree es → HaveWordsEntries es → all_definitions known ≡ definitions es
    → IfOk r (IsTable RefusesAsked IsRow) → IfOk r (HasAnswersOf (struct (members_of known es))) → IfOk r (IsEvaluated (meant_text es))
evaluated_result (Ok table) es known legal words same form answers =
    let ds = definitions es in
    let own = of_fields ds (meaning_of_number ds) es table (subst (λ zs. HasAnswersOf (struct (meant_members zs (meaning_of_number zs) es)) table) same answers) in
    record { answers = own; valid = texts_are_valid es table legal (texts_write_words es words) form own }
evaluated_result (Err e) es known legal words same form answers = form
