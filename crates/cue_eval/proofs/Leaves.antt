-- Tables of scalars and of names.
use Rattle.std.proofs.Common.{◌≡◌, ◌↔◌, ℕ, Bool, true, false, cond, List, [], ◌∷◌, ◌++◌, Option, Some, None, Result, Ok, Err, refl, sym, subst, ap, ◌∙◌}
use Rattle.std.specs.Prelude.{IsTrue, ◌&&◌, codes, IfOk}
use Rattle.std.specs.Option.{option_map_or}
use Rattle.std.specs.Str.{bytes_eq}
use Rattle.cue_lattice.specs.Path.{Path}
use Rattle.cue_lattice.specs.Question.{Question, SameAnswers}
use Rattle.cue_scalars.specs.declared.valued.Valued.{Valued}
use Rattle.cue_scalars.specs.Values.{pair_of_value}
use Rattle.cue_row.specs.declared.parts.RowParts.{RowParts as Row}
use Rattle.cue_table.specs.Tree.{Tree, empty}
use Rattle.cue_syntax.specs.Syntax as tree
use Rattle.cue_syntax.specs.Syntax.{Expression, Branches, no_branches, next_branch, branch}
use Rattle.cue_scope.specs.declared.named.Named.{Named}
use Rattle.cue_scope.specs.Core.{Core, null, truth, named, top, bottom, is_scalar, are_scalar_choices}
use Rattle.cue_scope.specs.Definitions.{Definition}
use Rattle.cue_scope.specs.Meaning.{meant, meant_word, meant_branches}
use Rattle.cue_scope.specs.Named.{named_of}
use Rattle.cue_scope.specs.Terms.{terms, terms_of_branches}
use Rattle.cue_eval.specs.Evaluated.{HasAnswersOf}
use Rattle.cue_eval.specs.Inner.Gathered.{TreeRefusals}
use Rattle.cue_eval.specs.Pairs.{pair}
use Rattle.cue_eval.specs.Places.{IsAtPlace, ScalarRefuses}
use Rattle.cue_eval.specs.Inner.Ready.{IsScalarLeaf, IsTableAt, IsTableOf}
use Rattle.cue_eval.specs.Refuses.{Refuses}

pub nil_both : {A : Type 0} (xs ys : List A) → xs ++ ys ≡ [] → (xs ≡ []) × (ys ≡ [])
nil_both [] ys h = (refl, h)
nil_both (x ∷ xs) ys h = absurd (cc)

place_kept : (b : Bool) (place : ℕ) → cond b [] (place ∷ []) ≡ [] → b ≡ true
place_kept true place h = refl
place_kept false place h = absurd (cc)

-- where no term is marked as wrong, all are scalar
terms_scalar : (ds : List Definition) (m : ℕ → Core) (bs : Branches) → terms_of_branches ds m bs ≡ [] → are_scalar_choices (meant_branches ds m bs) ≡ true
terms_scalar ds m no_branches h = refl
terms_scalar ds m (next_branch (branch marked place e) bs) h =
    let first = nil_both (cond (is_scalar (meant ds m e)) [] (place ∷ []) ++ terms ds m e) (terms_of_branches ds m bs) h in
    let own = nil_both (cond (is_scalar (meant ds m e)) [] (place ∷ [])) (terms ds m e) first.0 in
    let here = place_kept (is_scalar (meant ds m e)) place own.0 in
    let rest = terms_scalar ds m bs first.1 in
    ap (λ b. b && are_scalar_choices (meant_branches ds m bs)) here ∙ rest

pub leaf_scalar : (ds : List Definition) (m : ℕ → Core) (e : Expression) → IsScalarLeaf e → terms ds m e ≡ [] → IsTrue (is_scalar (meant ds m e))
leaf_scalar ds m (tree.integer n) l h = refl
leaf_scalar ds m (tree.text t) l h = refl
leaf_scalar ds m tree.bottom l h = refl
leaf_scalar ds m (tree.bound c n) l h = refl
leaf_scalar ds m (tree.other_integer n) l h = refl
leaf_scalar ds m (tree.other_text t) l h = refl
leaf_scalar ds m (tree.disjunction bs) l h = terms_scalar ds m bs h
leaf_scalar ds m _ l h = absurd l

of_pair : (c : Core) (v : Valued) (table : Tree Row) → pair_of_value v ≡ pair c → SameAnswers (TreeRefusals table) (IsAtPlace (ScalarRefuses (pair_of_value v)))
    → SameAnswers (TreeRefusals table) (IsAtPlace (ScalarRefuses (pair c)))
of_pair c v table is same path question = subst (λ p. TreeRefusals table path question ↔ IsAtPlace (ScalarRefuses p) path question) is (same path question)

pub leaf_refuses : (ds : List Definition) (m : ℕ → Core) (e : Expression) → IsScalarLeaf e → SameAnswers (Refuses (meant ds m e)) (IsAtPlace (ScalarRefuses (pair (meant ds m e))))
leaf_refuses ds m (tree.integer n) l path question = (λ h. h, λ h. h)
leaf_refuses ds m (tree.text t) l path question = (λ h. h, λ h. h)
leaf_refuses ds m tree.bottom l path question = (λ h. h, λ h. h)
leaf_refuses ds m (tree.bound c n) l path question = (λ h. h, λ h. h)
leaf_refuses ds m (tree.other_integer n) l path question = (λ h. h, λ h. h)
leaf_refuses ds m (tree.other_text t) l path question = (λ h. h, λ h. h)
leaf_refuses ds m (tree.disjunction bs) l path question = (λ h. h, λ h. h)
leaf_refuses ds m _ l path question = absurd l

-- what refuses as its pair does has the answers of a table that refuses as the pair does
pub by_its_pair : (c : Core) (v : Valued) (table : Tree Row) → SameAnswers (Refuses c) (IsAtPlace (ScalarRefuses (pair c))) → pair_of_value v ≡ pair c → SameAnswers (TreeRefusals table) (IsAtPlace (ScalarRefuses (pair_of_value v)))
    → HasAnswersOf c table
by_its_pair c v table refused is same path question =
    let e = of_pair c v table is same path question in
    let r = refused path question in
    (λ h. r.1 (e.0 h), λ h. e.1 (r.0 h))

pub leaf_answers : (ds : List Definition) (m : ℕ → Core) (e : Expression) (v : Valued) (table : Tree Row) → IsScalarLeaf e → pair_of_value v ≡ pair (meant ds m e)
    → SameAnswers (TreeRefusals table) (IsAtPlace (ScalarRefuses (pair_of_value v))) → HasAnswersOf (meant ds m e) table
leaf_answers ds m e v table l is same = by_its_pair (meant ds m e) v table (leaf_refuses ds m e l) is same

-- scalar, and refuses what its pair does
record IsPlain (c : Core) : Type 0 where
  scalar : IsTrue (is_scalar c)
  refused : SameAnswers (Refuses c) (IsAtPlace (ScalarRefuses (pair c)))

plain_cond : (b : Bool) (x y : Core) → IsPlain x → IsPlain y → IsPlain (cond b x y)
plain_cond true x y p q = p
plain_cond false x y p q = q

plain_named : (name : Option Named) → IsPlain (option_map_or named name bottom)
plain_named None = record { scalar = refl; refused = λ path question. (λ h. h, λ h. h) }
plain_named (Some name) = record { scalar = refl; refused = λ path question. (λ h. h, λ h. h) }

plain_truth : (b : Bool) → IsPlain (truth b)
plain_truth b = record { scalar = refl; refused = λ path question. (λ h. h, λ h. h) }

plain_null : IsPlain null
plain_null = record { scalar = refl; refused = λ path question. (λ h. h, λ h. h) }

plain_word : (t : List ℕ) → IsPlain (meant_word t)
plain_word t =
    let last = cond (bytes_eq t (codes "null")) null (option_map_or named (named_of t) bottom) in
    let p = plain_cond (bytes_eq t (codes "null")) null (option_map_or named (named_of t) bottom) plain_null (plain_named (named_of t)) in
    let no = cond (bytes_eq t (codes "false")) (truth false) last in
    let q = plain_cond (bytes_eq t (codes "false")) (truth false) last (plain_truth false) p in
    plain_cond (bytes_eq t (codes "true")) (truth true) no (plain_truth true) q

pub word_scalar : (t : List ℕ) → IsTrue (is_scalar (meant_word t))
word_scalar t = (plain_word t).scalar

pub word_refuses : (t : List ℕ) → SameAnswers (Refuses (meant_word t)) (IsAtPlace (ScalarRefuses (pair (meant_word t))))
word_refuses t = (plain_word t).refused

pub word_answers : (t : List ℕ) (v : Valued) (table : Tree Row) → pair_of_value v ≡ pair (meant_word t) → SameAnswers (TreeRefusals table) (IsAtPlace (ScalarRefuses (pair_of_value v)))
    → HasAnswersOf (meant_word t) table
word_answers t v table is same = by_its_pair (meant_word t) v table (word_refuses t) is same

pub bottom_answers : (v : Valued) (table : Tree Row) → pair_of_value v ≡ pair bottom → SameAnswers (TreeRefusals table) (IsAtPlace (ScalarRefuses (pair_of_value v))) → HasAnswersOf bottom table
bottom_answers v table is same = of_pair bottom v table is same

nothing_refused : (path : Path) (question : Question) → TreeRefusals empty path question → ⊥
nothing_refused [] question h = h
nothing_refused (step ∷ path) question h = h

pub top_answers : (table : Tree Row) → table ≡ empty → HasAnswersOf top table
top_answers table is path question =
    (λ h. nothing_refused path question (subst (λ (t : Tree Row). TreeRefusals t path question) is h), λ h. absurd h)

pub hidden_top : (b : Bool) (table : Tree Row) → b ≡ true → table ≡ empty → HasAnswersOf (cond b top bottom) table
hidden_top true table e is = top_answers table is
hidden_top false table e is = absurd (cc)

pub hidden_bottom : (b : Bool) (v : Valued) (table : Tree Row) → b ≡ false → pair_of_value v ≡ pair bottom → SameAnswers (TreeRefusals table) (IsAtPlace (ScalarRefuses (pair_of_value v)))
    → HasAnswersOf (cond b top bottom) table
hidden_bottom true v table e is same = absurd (cc)
hidden_bottom false v table e is same = bottom_answers v table is same

pub table_found : (c : Core) (kept : Option (Tree Row)) (table : Tree Row) → IsTableAt c kept → kept ≡ Some table → IsTableOf c table
table_found c kept table h is = subst (λ (k : Option (Tree Row)). IsTableAt c k) is h

-- ---- the same of what calls return
pub leaf_result : {E : Type 0} (r : Result (Tree Row) E) (ds : List Definition) (m : ℕ → Core) (e : Expression) (v : Valued) → IsScalarLeaf e → pair_of_value v ≡ pair (meant ds m e)
    → IfOk r (λ table. SameAnswers (TreeRefusals table) (IsAtPlace (ScalarRefuses (pair_of_value v)))) → IfOk r (HasAnswersOf (meant ds m e))
leaf_result (Ok table) ds m e v l is same = leaf_answers ds m e v table l is same
leaf_result (Err x) ds m e v l is same = same

-- of a table that refuses as the expression's pair does
pub scalar_result : {E : Type 0} (r : Result (Tree Row) E) (ds : List Definition) (m : ℕ → Core) (e : Expression) → IsScalarLeaf e
    → IfOk r (λ table. SameAnswers (TreeRefusals table) (IsAtPlace (ScalarRefuses (pair (meant ds m e))))) → IfOk r (HasAnswersOf (meant ds m e))
scalar_result (Ok table) ds m e l same = λ path question.
    let r = leaf_refuses ds m e l path question in
    let s = same path question in
    (λ h. r.1 (s.0 h), λ h. s.1 (r.0 h))
scalar_result (Err x) ds m e l same = same

pub word_result : {E : Type 0} (r : Result (Tree Row) E) (t : List ℕ) (v : Valued) → pair_of_value v ≡ pair (meant_word t)
    → IfOk r (λ table. SameAnswers (TreeRefusals table) (IsAtPlace (ScalarRefuses (pair_of_value v)))) → IfOk r (HasAnswersOf (meant_word t))
word_result (Ok table) t v is same = word_answers t v table is same
word_result (Err x) t v is same = same

pub hidden_result : {E : Type 0} (r : Result (Tree Row) E) (b : Bool) (v : Valued) → b ≡ false → pair_of_value v ≡ pair bottom
    → IfOk r (λ table. SameAnswers (TreeRefusals table) (IsAtPlace (ScalarRefuses (pair_of_value v)))) → IfOk r (HasAnswersOf (cond b top bottom))
hidden_result (Ok table) b v e is same = hidden_bottom b v table e is same
hidden_result (Err x) b v e is same = same

pub unknown_result : {E : Type 0} (r : Result (Tree Row) E) (meanings : ℕ → Core) (number : Option ℕ) (v : Valued) → number ≡ None → pair_of_value v ≡ pair bottom
    → IfOk r (λ table. SameAnswers (TreeRefusals table) (IsAtPlace (ScalarRefuses (pair_of_value v)))) → IfOk r (HasAnswersOf (option_map_or meanings number bottom))
unknown_result (Ok table) meanings number v none is same = subst (λ n. HasAnswersOf (option_map_or meanings n bottom) table) (sym none) (bottom_answers v table is same)
unknown_result (Err x) meanings number v none is same = same

pub used_result : {E : Type 0} (r : Result (Tree Row) E) (meanings : ℕ → Core) (number : Option ℕ) (i : ℕ) (kept : Option (Tree Row)) (table : Tree Row) → Some i ≡ number → IsTableAt (meanings i) kept → kept ≡ Some table
    → IfOk r (λ copied. copied ≡ table) → IfOk r (HasAnswersOf (option_map_or meanings number bottom))
used_result (Ok copied) meanings number i kept table is known found same =
    let t = table_found (meanings i) kept table known found in
    subst (λ n. HasAnswersOf (option_map_or meanings n bottom) copied) is (subst (λ (z : Tree Row). HasAnswersOf (meanings i) z) (sym same) t.answers)
used_result (Err e) meanings number i kept table is known found same = same
