-- Bodies of definitions, of which what is used once is taken over.
use Rattle.std.proofs.Common.{◌≡◌, ◌+◌, ◌≤◌, ◌<◌, ◌⊎◌, inl, inr, ⊎_elim, ℕ, Option, None, Some, List, [], ◌∷◌, ◌++◌, length, drop, get_or, refl, sym, ap, subst, arith}
use Rattle.std.proofs.lemmas.List.{drop_all}
use Rattle.cue_lattice.specs.OneOf.{OneOf}
use Rattle.cue_lattice.specs.Path.{Path}
use Rattle.cue_lattice.specs.Question.{Question}
use Rattle.cue_lattice.proofs.OneOf.{one_of-push}
use Rattle.cue_row.specs.Row.{RefusesAsked, IsRow}
use Rattle.cue_row.specs.declared.parts.RowParts.{RowParts as Row}
use Rattle.cue_scalars.specs.Values.{pair_of_value}
use Rattle.cue_scalars.specs.declared.valued.Valued.{Valued}
use Rattle.cue_table.specs.Form.{IsTable}
use Rattle.cue_table.specs.Many.{AreUnified}
use Rattle.cue_table.specs.Refuses.{TableRefuses}
use Rattle.cue_table.specs.Tree.{Tree}
use Rattle.cue_syntax.specs.declared.tree.Expr.{Expr}
use Rattle.cue_syntax.specs.Syntax.{Expression, expression, elements_of_list}
use Rattle.cue_scope.specs.Core.{Core, Cores, conjunction}
use Rattle.cue_scope.specs.Definitions.{Definition}
use Rattle.cue_scope.specs.Graph.{IsNodeIn}
use Rattle.cue_scope.specs.Kept.{nodes_kept}
use Rattle.cue_scope.specs.Meaning.{meaning_of_number, meant, meant_elements}
use Rattle.cue_scope.specs.Terms.{terms, terms_of_elements}
use Rattle.cue_scope.specs.Uses.{uses, uses_of_elements}
use Rattle.cue_scope.proofs.Inside.{uses_below, below_is}
use Rattle.cue_scope.proofs.Nodes.{in_append_left, in_append_right}
use Rattle.cue_scope.proofs.Walking.{at_hand}
use Rattle.cue_eval.specs.declared.declared.Declared.{Declared}
use Rattle.cue_eval.specs.declared.declared.DeclaredQuestion.{DeclaredQuestion}
use Rattle.cue_eval.specs.declared.definitions.Body.{Body}
use Rattle.cue_eval.specs.declared.definitions.EvaluatedDefinitions.{EvaluatedDefinitions}
use Rattle.cue_eval.specs.declared.tables.TableBuilder.{TableBuilder}
use Rattle.cue_eval.specs.declared.declares.LiteralScope.{LiteralScope}
use Rattle.cue_eval.specs.declared.declares.LiteralSelection.TheVariants.{Dotted}
use Rattle.cue_eval.specs.Closing.{OneOfParts}
use Rattle.cue_eval.specs.Inner.Finding.{IsFoundAt, IsKept, IsFindable, AreFindable, IsFoundBody}
use Rattle.cue_eval.specs.Inner.Gathered.{TreeRefusals}
use Rattle.cue_eval.specs.Pairs.{pair}
use Rattle.cue_eval.specs.Inner.Parts.{AreJoined, IsScalarPart, OneScalarRefuses}
use Rattle.cue_eval.specs.Places.{IsAtPlace, ScalarRefuses}
use Rattle.cue_eval.specs.Inner.Ready.{all_definitions, IsReady, IsTableOf, IsTableAt}
use Rattle.cue_eval.specs.Refuses.{PartsRefuse}
use Rattle.cue_eval.specs.Telling.{DeclaredRefuses, IsDeclaredLabel}
use Rattle.cue_eval.specs.Inner.Told.{AreDots, IsKnown, own_literals_declare, used_literals_declare}
use Rattle.cue_eval.proofs.Defining.{known_of}
use Rattle.cue_eval.proofs.Gathering.{unified_answers}
use Rattle.cue_eval.proofs.Kept.{single_left, single_right, single_after, kept_itself, kept_both, room_kept, found_later}
use Rattle.cue_eval.proofs.Joined.{part_value, part_tells, more_left, more_right}
use Rattle.cue_eval.proofs.Leaves.{nil_both}
use Rattle.cue_eval.proofs.TellingNames.{use_told}
use Rattle.cue_eval.proofs.TellingParts.{IsSplit, split_more, split_all, same_sides, itself}

-- what the parts mean
abbrev pub each_of : List Definition → List Expr → Cores
each_of ds es = meant_elements ds (meaning_of_number ds) (elements_of_list es)

-- the parts of a conjunction: the tables and scalars so far, and the parts that are left
pub record Taking (ds : List Definition) (rows : List (Tree Row)) (dots : List (Tree Declared)) (scalars : List Valued) (all left : List Expr) (start now : EvaluatedDefinitions) : Type 0 where
  pub refused : (path : Path) (question : Question) →
      IsSplit (PartsRefuse (each_of ds all) path question) (OneOf (λ table. TreeRefusals table path question) rows ⊎ OneScalarRefuses scalars path question) (PartsRefuse (each_of ds left) path question)
  pub told : (path : Path) (asked : DeclaredQuestion) →
      IsSplit (OneOfParts (own_literals_declare Dotted asked) (used_literals_declare Dotted) (each_of ds all) path) (OneOf (λ (t : Tree Declared). TableRefuses DeclaredRefuses t path asked) dots)
      (OneOfParts (own_literals_declare Dotted asked) (used_literals_declare Dotted) (each_of ds left) path)
  pub others : AreFindable ds (elements_of_list left) now
  pub inside : (i : ℕ) → IsNodeIn i (uses_of_elements ds (elements_of_list left)) → IsNodeIn i (uses_of_elements ds (elements_of_list all))
  pub kept : IsKept (uses_of_elements ds (elements_of_list all)) start now

-- at first all parts are left
pub taking_none : (ds : List Definition) (all : List Expr) (found : EvaluatedDefinitions) → AreFindable ds (elements_of_list all) found → Taking ds [] [] [] all all found found
taking_none ds all found h = record {
  refused = λ path question. (λ k. inr k, λ k. ⊎_elim (λ g. ⊎_elim (λ n. absurd n) (λ n. absurd n) g) (λ g. g) k);
  told = λ path asked. (λ k. inr k, λ k. ⊎_elim (λ g. absurd g) (λ g. g) k);
  others = h;
  inside = λ i there. there;
  kept = kept_itself _ found;
}

-- the next part is the first of those that are left
pub taking_next : (ds : List Definition) (rows : List (Tree Row)) (dots : List (Tree Declared)) (scalars : List Valued) (all : List Expr) (i : ℕ) (e : Expr) (start now : EvaluatedDefinitions) → Taking ds rows dots scalars all (drop i all) start now
    → i < length all → e ≡ get_or all i e → Taking ds rows dots scalars all (e ∷ drop (i + 1) all) start now
taking_next ds rows dots scalars all i e start now w h is = subst (λ z. Taking ds rows dots scalars all z start now) (at_hand all i e h is) w

-- what it needs is known
pub taking_part : (ds : List Definition) (rows : List (Tree Row)) (dots : List (Tree Declared)) (scalars : List Valued) (all rest : List Expr) (e : Expr) (start now : EvaluatedDefinitions) → Taking ds rows dots scalars all (e ∷ rest) start now
    → IsFindable ds (expression e) now
taking_part ds rows dots scalars all rest e start now w =
    let here = w.others in
    let s = here.size in
    let d = here.depth in record {
      room = here.room;
      used = λ i there. here.used i (in_append_left (uses ds (expression e)) (uses_of_elements ds (elements_of_list rest)) i there);
      once = single_left now (uses ds (expression e)) (uses_of_elements ds (elements_of_list rest)) here.once;
      right = here.right.0;
      terms = (nil_both (terms ds (meaning_of_number ds) (expression e)) (terms_of_elements ds (meaning_of_number ds) (elements_of_list rest)) here.terms).0;
      size = omega arith;
      depth = omega arith;
    }

-- and what the parts need that are left after it
rest_findable : (ds : List Definition) (e : Expr) (rest : List Expr) (now new : EvaluatedDefinitions) → AreFindable ds (elements_of_list (e ∷ rest)) now → IsKept (uses ds (expression e)) now new → AreFindable ds (elements_of_list rest) new
rest_findable ds e rest now new here k =
    let s = here.size in
    let d = here.depth in
    let us = uses ds (expression e) in
    let vs = uses_of_elements ds (elements_of_list rest) in record {
      room = room_kept us now new (length ds) k here.room;
      used = found_later ds us vs now new here.once k (λ i there. here.used i (in_append_right us vs i there));
      once = single_after us vs now new k (single_right now us vs here.once);
      right = here.right.1;
      terms = (nil_both (terms ds (meaning_of_number ds) (expression e)) (terms_of_elements ds (meaning_of_number ds) (elements_of_list rest)) here.terms).1;
      size = omega arith;
      depth = omega arith;
    }

-- one part more
pub taking_more : (ds : List Definition) (rows : List (Tree Row)) (dots : List (Tree Declared)) (scalars : List Valued) (all rest : List Expr) (e : Expr) (start now new : EvaluatedDefinitions) (body : Body) → Taking ds rows dots scalars all (e ∷ rest) start now
    → IsFoundBody (meant ds (meaning_of_number ds) (expression e)) body → IsKept (uses ds (expression e)) now new → Taking ds (rows ++ body.rows ∷ []) (dots ++ body.dots ∷ []) scalars all rest start new
taking_more ds rows dots scalars all rest e start now new body w is k =
    let us = uses ds (expression e) in
    let vs = uses_of_elements ds (elements_of_list rest) in record {
      refused = λ path question. split_more _ _ _ _ (TreeRefusals body.rows path question) _ (w.refused path question)
          (same_sides _ _ _ _ (let a = is.answers path question in (a.1, a.0)) (itself _))
          (more_left (one_of-push (λ t. TreeRefusals t path question) rows body.rows));
      told = λ path asked. split_more _ _ _ _ (TableRefuses DeclaredRefuses body.dots path asked) _ (w.told path asked)
          (same_sides _ _ _ _ (let a = is.dots.told path asked in (a.1, a.0)) (itself _))
          (one_of-push (λ (t : Tree Declared). TableRefuses DeclaredRefuses t path asked) dots body.dots);
      others = rest_findable ds e rest now new w.others k;
      inside = λ i there. w.inside i (in_append_right us vs i there);
      kept = kept_both (uses_of_elements ds (elements_of_list all)) us (uses_of_elements ds (elements_of_list all)) start now new (λ i there. there) (λ i there. w.inside i (in_append_left us vs i there)) w.kept k;
    }

-- one that is scalar, which takes nothing over
pub taking_scalar : (ds : List Definition) (rows : List (Tree Row)) (dots : List (Tree Declared)) (scalars : List Valued) (all rest : List Expr) (e : Expr) (start now : EvaluatedDefinitions) (v : Valued) → Taking ds rows dots scalars all (e ∷ rest) start now
    → IsScalarPart (expression e) → pair_of_value v ≡ pair (meant ds (meaning_of_number ds) (expression e)) → Taking ds rows dots (scalars ++ v ∷ []) all rest start now
taking_scalar ds rows dots scalars all rest e start now v w part is =
    let us = uses ds (expression e) in
    let vs = uses_of_elements ds (elements_of_list rest) in record {
      refused = λ path question. split_more _ _ _ _ (IsAtPlace (ScalarRefuses (pair_of_value v)) path question) _ (w.refused path question)
          (same_sides _ _ _ _ (part_value ds (meaning_of_number ds) (expression e) v part is path question) (itself _))
          (more_right (one_of-push (λ (x : Valued). IsAtPlace (ScalarRefuses (pair_of_value x)) path question) scalars v));
      told = λ path asked.
          let t = w.told path asked in (
            λ h. ⊎_elim inl (λ g. ⊎_elim (λ n. absurd (part_tells Dotted ds (meaning_of_number ds) (expression e) part path asked n)) inr g) (t.0 h),
            λ h. t.1 (⊎_elim inl (λ g. inr (inr g)) h),
          );
      others = rest_findable ds e rest now now w.others (kept_itself us now);
      inside = λ i there. w.inside i (in_append_right us vs i there);
      kept = w.kept;
    }

-- the tables of all parts, with that of the scalars, unified, are those of the conjunction
pub all_taken : (ds : List Definition) (rows with_scalars : List (Tree Row)) (dots : List (Tree Declared)) (scalars : List Valued) (all : List Expr) (i : ℕ) (start now : EvaluatedDefinitions) (met : Tree Row) (marks : Tree Declared)
    → Taking ds rows dots scalars all (drop i all) start now → length all ≤ i → AreJoined rows scalars with_scalars → IsTable RefusesAsked IsRow met → AreUnified RefusesAsked with_scalars met → IsTable DeclaredRefuses IsDeclaredLabel marks
    → AreUnified DeclaredRefuses dots marks → IsFoundBody (conjunction (each_of ds all)) (record { rows = met; dots = marks })
all_taken ds rows with_scalars dots scalars all i start now met marks w h joined form unified told_form told_unified = record {
  form = form;
  answers = λ path question.
      let u = unified_answers with_scalars met path question unified in
      let j = joined path question in
      let s = split_all _ _ _ (end.refused path question) (λ n. n) in
      (λ r. s.0 (j.0 (u.0 r)), λ r. u.1 (j.1 (s.1 r)));
  dots = record {
    form = told_form;
    told = λ path asked.
        let u = told_unified path asked in
        let s = split_all _ _ _ (end.told path asked) (λ n. n) in
        (λ r. s.0 (u.0 r), λ r. u.1 (s.1 r));
  };
} where
  end : Taking ds rows dots scalars all [] start now
  end = subst (λ z. Taking ds rows dots scalars all z start now) (drop_all i all h) w

-- ---- a use of a definition, which is taken over
some_table : (c : Core) (o : Option (Tree Row)) → IsTableAt c o → (table : Tree Row) × (o ≡ Some table) × IsTableOf c table
some_table c None h = absurd h
some_table c (Some table) h = (table, refl, h)

-- what is taken over is what the use means
pub taken_body : (ds : List Definition) (c : Core) (i : ℕ) (found : EvaluatedDefinitions) (body : Body) → IsFoundAt (meaning_of_number ds i) i found → c ≡ meaning_of_number ds i
    → ((table : Tree Row) → get_or found.tables.items i None ≡ Some table → body.rows ≡ table) → ((table : Tree Declared) → get_or found.dots.items i None ≡ Some table → body.dots ≡ table) → IsFoundBody c body
taken_body ds c i found body h is rows dots =
    let at = some_table (meaning_of_number ds i) (get_or found.tables.items i None) h.rows in
    let same = sym (rows at.0 at.1) in
    let table = subst (λ (t : Tree Row). IsTableOf (meaning_of_number ds i) t) same at.2 in
    let marks = subst (λ (t : Tree Declared). AreDots (meaning_of_number ds i) t) (sym (dots h.dots.0 (h.dots.1 None))) h.dots.2 in
    subst (λ z. IsFoundBody z body) (sym is) (record { form = table.form; answers = table.answers; dots = use_told ds (Some i) i body.dots refl marks })

-- ---- what is copied
-- its table can be made
pub findable_ready : (found : EvaluatedDefinitions) (known : TableBuilder) (e : Expression) → known.pairs.pairs.now ≡ found.pairs.items → known.tables.now ≡ found.tables.items → IsFindable (all_definitions known) e found → IsReady known e
findable_ready found known e pairs tables h = record {
  right = h.right;
  used = known_of found known (uses (all_definitions known) e) pairs tables h.used;
  terms = h.terms;
  size = h.size;
  depth = h.depth;
}

-- and where literals of definitions that it names have a `...`
pub findable_known : (found : EvaluatedDefinitions) (known : LiteralScope) (e : Expression) → known.dots.now ≡ found.dots.items → IsFindable (nodes_kept known.definitions.now) e found → IsKnown known e
findable_known found known e dots h =
    let ds = nodes_kept known.definitions.now in
    let s = h.size in
    let d = h.depth in record {
      used = λ i there.
          let at = (h.used i there).dots in
          let below = below_is (length ds) (uses ds e) (uses_below ds e) i there in
          let room = h.room.dots in
          let long = ap length dots in
          (at.0, omega arith, λ o. subst (λ (xs : List (Option (Tree Declared))). get_or xs i o ≡ Some at.0) (sym dots) (at.1 o), at.2);
      small = omega arith;
      flat = omega arith;
    }
