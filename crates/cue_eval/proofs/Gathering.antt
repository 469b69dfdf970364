-- What tables of literals refuse, by what is given of their parts.
use Rattle.std.proofs.Common.{◌≡◌, ◌↔◌, ◌⊎◌, ◌≤◌, ◌<◌, inl, inr, ⊎_elim, ℕ, zero, suc, ◌+◌, List, [], ◌∷◌, Option, Some, None, Result, Ok, Err, length, refl, sym, subst, arith}
use Rattle.std.specs.Prelude.{IfOk}
use Rattle.cue_syntax.specs.declared.tree.Mark.{Mark}
use Rattle.std.proofs.lemmas.Bool.{cases_lt}
use Rattle.cue_lattice.specs.OneOf.{OneOf}
use Rattle.cue_lattice.specs.Path as paths
use Rattle.cue_lattice.specs.Path.{Path, label, index}
use Rattle.cue_lattice.specs.Question as questions
use Rattle.cue_lattice.specs.Question.{Question, may_be, usual, allows, level_at_most, length_at_most, length_at_least, SameAnswers}
use Rattle.cue_row.specs.Questions.{question_of, asked_by_question}
use Rattle.cue_row.specs.Row.{RowRefusesQuestion, RefusesAsked, IsRow}
use Rattle.cue_row.specs.Steps.{step_of}
use Rattle.cue_row.specs.declared.question.Question as program
use Rattle.cue_row.specs.declared.parts.RowParts.{RowParts as Row}
use Rattle.cue_row.specs.declared.step.Step.{Step}
use Rattle.cue_table.specs.Depth.{tree_depth}
use Rattle.cue_table.specs.Form.{IsTable, IsRowKept}
use Rattle.cue_table.specs.Many.{IsOfBranches, AreUnified}
use Rattle.cue_table.specs.Meet.{IsAdded, IsRestAdded, RestOfMeetRefuses}
use Rattle.cue_scope.specs.Core.{Core, Elements, each}
use Rattle.cue_table.specs.Refuses as tables
use Rattle.cue_table.specs.Refuses.{TableRefuses}
use Rattle.cue_table.specs.Tree.{Tree, node, empty, below, rest_below, row_at, row_of}
use Rattle.cue_table.proofs.Depth.{depth_rows, kept_at, row_depth}
use Rattle.cue_eval.specs.Places.{IsAtPlace, MarkRefuses}
use Rattle.cue_eval.specs.Evaluated.{HasAnswersOf}
use Rattle.cue_eval.specs.Inner.Gathered.{TreeRefusals, GivenRefuse, LiteralAnswers, FurtherRefuse}
use Rattle.cue_eval.specs.Refuses.{ElementRefuses}

-- each question is asked by one of the program
asked_back : (row : Row) (question : Question) → RowRefusesQuestion row question ↔ RefusesAsked row (asked_by_question question)
asked_back row (may_be x) = (λ h. h, λ h. h)
asked_back row (usual x) = (λ h. h, λ h. h)
asked_back row questions.struct = (λ h. h, λ h. h)
asked_back row questions.list = (λ h. h, λ h. h)
asked_back row (allows l) = (λ h. h, λ h. h)
asked_back row (level_at_most k) = (λ h. h, λ h. h)
asked_back row (length_at_most n) = (λ h. h, λ h. h)
asked_back row (length_at_least n) = (λ h. h, λ h. h)

row_asked : (row : Option Row) (question : Question) → tables.RowRefuses RowRefusesQuestion row question ↔ tables.RowRefuses RefusesAsked row (asked_by_question question)
row_asked None question = (λ h. h, λ h. h)
row_asked (Some row) question = asked_back row question

-- what a table refuses, by the questions of the program
pub asked : (table : Tree Row) (path : Path) (question : Question) → TreeRefusals table path question ↔ TableRefuses RefusesAsked table path (asked_by_question question)
asked table path question = row_asked (row_at table path) question

answered : (row : Option Row) (question : program.Question) → tables.RowRefuses RefusesAsked row question → tables.RowRefuses RowRefusesQuestion row (question_of question)
answered None question h = h
answered (Some row) question h = h

-- where no path of an answer is longer than n, the table is not deeper
pub shallow : (table : Tree Row) (n : ℕ) → IsTable RefusesAsked IsRow table → ((path : Path) (question : Question) → TreeRefusals table path question → length path ≤ n) → tree_depth table ≤ n
shallow table n form short = depth_rows (IsRowKept RefusesAsked IsRow) n table form (λ path row e.
    ⊎_elim
    (λ (far : n < length path). absurd ((kept_at (IsRowKept RefusesAsked IsRow) table path row form e).1 (λ question r.
    let here : TableRefuses RefusesAsked table path question = rw e r in
    let near : length path ≤ n = short path (question_of question) (answered (row_at table path) question here) in
    omega arith)))
    (λ near. near)
    (cases_lt n (length path)))

told_row : (row : Option Row) (question : Question) → tables.RowRefuses RowRefusesQuestion row question → (r : Row) × (row ≡ Some r)
told_row None question h = absurd h
told_row (Some r) question h = (r, refl)

-- no path of an answer is longer than the table is deep
pub answer_short : (table : Tree Row) (path : Path) (question : Question) → TreeRefusals table path question → length path ≤ tree_depth table
answer_short table path question h = let row = told_row (row_at table path) question h in row_depth table path row.0 row.1

-- a row that is put at the root
pub rooted_answers : (old new : Tree Row) (row : Row) → IsAdded RefusesAsked old [] row new
    → SameAnswers (TreeRefusals new) (λ path question. TreeRefusals old path question ⊎ IsAtPlace (RowRefusesQuestion row) path question)
rooted_answers old new row added [] question =
    let e = added [] (asked_by_question question) in (
      λ h. ⊎_elim (λ g. inl ((asked old [] question).1 g)) (λ g. inr ((asked_back row question).1 g.1)) (e.0 ((asked new [] question).0 h)),
      λ h. (asked new [] question).1 (e.1 (⊎_elim (λ g. inl ((asked old [] question).0 g)) (λ g. inr (refl, (asked_back row question).0 g)) h)),
    )
rooted_answers old new row added (step ∷ path) question =
    let e = added (step ∷ path) (asked_by_question question) in (
      λ h. ⊎_elim (λ g. inl ((asked old (step ∷ path) question).1 g)) (λ g. let apart = g.0 in absurd (cc)) (e.0 ((asked new (step ∷ path) question).0 h)),
      λ h. (asked new (step ∷ path) question).1 (e.1 (⊎_elim (λ g. inl ((asked old (step ∷ path) question).0 g)) (λ g. absurd g) h)),
    )

given_asked : (given : List (Step × Tree Row)) (step : paths.Step) (path : Path) (question : Question)
    → GivenRefuse given step path question ↔ OneOf (λ one. (step_of one.0 ≡ step) × TableRefuses RefusesAsked one.1 path (asked_by_question question)) given
given_asked [] step path question = (λ h. h, λ h. h)
given_asked (one ∷ given) step path question =
    let here = asked one.1 path question in
    let rest = given_asked given step path question in (
      λ h. ⊎_elim (λ g. inl (g.0, here.0 g.1)) (λ g. inr (rest.0 g)) h,
      λ h. ⊎_elim (λ g. inl (g.0, here.1 g.1)) (λ g. inr (rest.1 g)) h,
    )

-- a table of branches with a row at the root
pub literal_answers : (given : List (Step × Tree Row)) (below table : Tree Row) (row : Row) (own : Question → Type 0) → IsOfBranches RefusesAsked given below
    → SameAnswers (TreeRefusals table) (λ path question. TreeRefusals below path question ⊎ IsAtPlace (RowRefusesQuestion row) path question)
    → ((question : Question) → RowRefusesQuestion row question ↔ own question)
    → SameAnswers (TreeRefusals table) (LiteralAnswers own given)
literal_answers given below table row own branches rooted is [] question =
    let e = rooted [] question in
    let o = is question in (
      λ h. ⊎_elim (λ g. absurd (branches.root (asked_by_question question) ((asked below [] question).0 g))) (λ g. o.0 g) (e.0 h),
      λ h. e.1 (inr (o.1 h)),
    )
literal_answers given below table row own branches rooted is (step ∷ path) question =
    let e = rooted (step ∷ path) question in
    let b = branches.below step path (asked_by_question question) in
    let t = asked below (step ∷ path) question in
    let g = given_asked given step path question in (
      λ h. ⊎_elim (λ k. g.1 (b.0 (t.0 k))) (λ k. absurd k) (e.0 h),
      λ h. e.1 (inl (t.1 (b.1 (g.0 h)))),
    )

-- a table with a row at the root, which refuses what a mark or a literal does
pub own_answers : (before after : Tree Row) (row : Row) (own : Question → Type 0)
    → SameAnswers (TreeRefusals after) (λ path question. TreeRefusals before path question ⊎ IsAtPlace (RowRefusesQuestion row) path question)
    → ((question : Question) → RowRefusesQuestion row question ↔ own question)
    → SameAnswers (TreeRefusals after) (λ path question. IsAtPlace own path question ⊎ TreeRefusals before path question)
own_answers before after row own rooted is [] question =
    let e = rooted [] question in
    let o = is question in (
      λ h. ⊎_elim (λ g. inr g) (λ g. inl (o.0 g)) (e.0 h),
      λ h. e.1 (⊎_elim (λ g. inr (o.1 g)) (λ g. inl g) h),
    )
own_answers before after row own rooted is (step ∷ path) question =
    let e = rooted (step ∷ path) question in (
      λ h. ⊎_elim (λ g. inr g) (λ g. absurd g) (e.0 h),
      λ h. e.1 (⊎_elim (λ g. absurd g) (λ g. inl g) h),
    )

each_asked : (given : List (Tree Row)) (path : Path) (question : Question)
    → OneOf (λ table. TreeRefusals table path question) given ↔ OneOf (λ table. TableRefuses RefusesAsked table path (asked_by_question question)) given
each_asked [] path question = (λ h. h, λ h. h)
each_asked (table ∷ given) path question =
    let here = asked table path question in
    let rest = each_asked given path question in (
      λ h. ⊎_elim (λ g. inl (here.0 g)) (λ g. inr (rest.0 g)) h,
      λ h. ⊎_elim (λ g. inl (here.1 g)) (λ g. inr (rest.1 g)) h,
    )

-- a table that refuses what one of several does
pub unified_answers : (given : List (Tree Row)) (met : Tree Row) (path : Path) (question : Question) → AreUnified RefusesAsked given met
    → TreeRefusals met path question ↔ OneOf (λ table. TreeRefusals table path question) given
unified_answers given met path question unified =
    let e = unified path (asked_by_question question) in
    let t = asked met path question in
    let g = each_asked given path question in
    (λ h. g.1 (e.0 (t.0 h)), λ h. t.1 (e.1 (g.0 h)))

-- ---- the row at the root is taken off, and one with a mark put there
-- what a row refuses, where there is one, and what a mark does
abbrev pub IsMarked : Mark → Option Row → Row → Type 0
IsMarked mark before row = (question : Question) → RowRefusesQuestion row question ↔ (tables.RowRefuses RowRefusesQuestion before question ⊎ MarkRefuses mark question)

pub marked_none : (mark : Mark) (before : Option Row) (row : Row) → before ≡ None → ((question : Question) → RowRefusesQuestion row question ↔ MarkRefuses mark question) → IsMarked mark before row
marked_none mark None row e is question = let o = is question in (λ h. inr (o.0 h), ⊎_elim (λ h. absurd h) (λ h. o.1 h))
marked_none mark (Some old) row e is question = absurd (cc)

pub marked_some : (mark : Mark) (before : Option Row) (old row : Row) → before ≡ Some old → ((question : Question) → RowRefusesQuestion row question ↔ (RowRefusesQuestion old question ⊎ MarkRefuses mark question)) → IsMarked mark before row
marked_some mark before old row e is = subst (λ r. IsMarked mark r row) (sym e) is

pub marked_answers : (before rest after : Tree Row) (mark : Mark) (row : Row) → rest ≡ node None (below before) (rest_below before)
    → SameAnswers (TreeRefusals after) (λ path question. TreeRefusals rest path question ⊎ IsAtPlace (RowRefusesQuestion row) path question) → IsMarked mark (row_of before) row
    → SameAnswers (TreeRefusals after) (λ path question. IsAtPlace (MarkRefuses mark) path question ⊎ TreeRefusals before path question)
marked_answers (node old children more) rest after mark row e rooted is [] question =
    let all = rooted [] question in
    let o = is question in
    let free : TreeRefusals rest [] question → ⊥ = λ h. subst (λ (t : Tree Row). TreeRefusals t [] question) e h in (
      λ h. ⊎_elim (λ g. absurd (free g)) (λ g. ⊎_elim (λ k. inr k) (λ k. inl k) (o.0 g)) (all.0 h),
      λ h. all.1 (inr (o.1 (⊎_elim (λ g. inr g) (λ g. inl g) h))),
    )
marked_answers (node old children more) rest after mark row e rooted is (step ∷ path) question =
    let all = rooted (step ∷ path) question in (
      λ h. ⊎_elim (λ g. inr (subst (λ (t : Tree Row). TreeRefusals t (step ∷ path) question) e g)) (λ g. absurd g) (all.0 h),
      λ h. ⊎_elim (λ g. absurd g) (λ g. all.1 (inl (subst (λ (t : Tree Row). TreeRefusals t (step ∷ path) question) (sym e) g))) h,
    )

nothing_refused : (path : Path) (question : Question) → TreeRefusals empty path question → ⊥
nothing_refused [] question h = h
nothing_refused (step ∷ path) question h = h

pub alone : (before after : Tree Row) (row : Row) (own : Question → Type 0) → before ≡ empty
    → SameAnswers (TreeRefusals after) (λ path question. TreeRefusals before path question ⊎ IsAtPlace (RowRefusesQuestion row) path question)
    → ((question : Question) → RowRefusesQuestion row question ↔ own question) → SameAnswers (TreeRefusals after) (IsAtPlace own)
alone before after row own none rooted is path question =
    let e = own_answers before after row own rooted is path question in (
      λ h. ⊎_elim (λ g. g) (λ g. absurd (nothing_refused path question (subst (λ (t : Tree Row). TreeRefusals t path question) none g))) (e.0 h),
      λ h. e.1 (inl h),
    )

here_same : (p q : Question → Type 0) → ((question : Question) → p question ↔ q question) → SameAnswers (IsAtPlace p) (IsAtPlace q)
here_same p q same [] question = same question
here_same p q same (step ∷ path) question = (λ h. h, λ h. h)

-- a table of one row, by what the row refuses
pub row_alone : {E : Type 0} (r : Result (Tree Row) E) (row : Row) (own : Question → Type 0) → IfOk r (λ table. SameAnswers (TreeRefusals table) (IsAtPlace (RowRefusesQuestion row)))
    → ((question : Question) → RowRefusesQuestion row question ↔ own question) → IfOk r (λ table. SameAnswers (TreeRefusals table) (IsAtPlace own))
row_alone (Ok table) row own given is = λ path question.
    let a = given path question in
    let b = here_same (RowRefusesQuestion row) own is path question in
    (λ h. b.0 (a.0 h), λ h. a.1 (b.1 h))
row_alone (Err e) row own given is = given

here_short : (own : Question → Type 0) (path : Path) (question : Question) (n : ℕ) → IsAtPlace own path question → length path ≤ n
here_short own [] question n h = omega arith
here_short own (step ∷ path) question n h = absurd h

-- a field with its mark is no deeper than its value
pub marked_depth : (before after : Tree Row) (m : Mark) → IsTable RefusesAsked IsRow after
    → SameAnswers (TreeRefusals after) (λ path question. IsAtPlace (MarkRefuses m) path question ⊎ TreeRefusals before path question) → tree_depth after ≤ tree_depth before
marked_depth before after m form same = shallow after (tree_depth before) form (λ path question h.
    ⊎_elim (λ g. here_short (MarkRefuses m) path question (tree_depth before) g) (λ g. answer_short before path question g) ((same path question).0 h))

-- ---- further elements are hung in
pub further_answers : (first : ℕ) (c : Core) (table further all : Tree Row) → IsRestAdded RefusesAsked table [] first further all → HasAnswersOf c further
    → SameAnswers (TreeRefusals all) (λ path question. TreeRefusals table path question ⊎ FurtherRefuse first (each c) path question)
further_answers first c table further all added same path question = (to path question, from path question) where
  count_from : (m n : ℕ) → m ≤ n → (k : ℕ) × (m + k ≡ n)
  count_from zero n h = (n, omega arith)
  count_from (suc m) zero h = absurd (omega arith)
  count_from (suc m) (suc n) h = let k = count_from m n (omega arith) in let e = k.1 in (k.0, omega (arith, e))

  in_rest : (path : Path) (question : Question) → RestOfMeetRefuses RefusesAsked [] first further path (asked_by_question question) → FurtherRefuse first (each c) path question
  in_rest path question (i, rest, at, least, r) =
      let k = count_from first i least in
      subst (λ p. FurtherRefuse first (each c) p question) (sym at) (k.0, k.1, (same rest question).0 ((asked further rest question).1 r))

  of_rest : (path : Path) (question : Question) → FurtherRefuse first (each c) path question → RestOfMeetRefuses RefusesAsked [] first further path (asked_by_question question)
  of_rest [] question h = absurd h
  of_rest (label l ∷ path) question h = absurd h
  of_rest (index i ∷ path) question (k, e, r) = (i, path, refl, omega (arith, e), (asked further path question).0 ((same path question).1 r))

  to : (path : Path) (question : Question) → TreeRefusals all path question → TreeRefusals table path question ⊎ FurtherRefuse first (each c) path question
  to path question h =
      ⊎_elim (λ g. inl ((asked table path question).1 g)) (λ g. inr (in_rest path question g)) ((added path (asked_by_question question)).0 ((asked all path question).0 h))

  from : (path : Path) (question : Question) → TreeRefusals table path question ⊎ FurtherRefuse first (each c) path question → TreeRefusals all path question
  from path question h =
      (asked all path question).1 ((added path (asked_by_question question)).1 (⊎_elim (λ g. inl ((asked table path question).0 g)) (λ g. inr (of_rest path question g)) h))

-- and where none are, nothing changes
pub no_further : (first : ℕ) (es : Elements) (table : Tree Row) → ((k : ℕ) (path : Path) (question : Question) → ¬ ElementRefuses es k path question)
    → SameAnswers (TreeRefusals table) (λ path question. TreeRefusals table path question ⊎ FurtherRefuse first es path question)
no_further first es table none path question = (λ h. inl h, λ h. ⊎_elim (λ g. g) (λ g. absurd (nowhere path question g)) h) where
  nowhere : (path : Path) (question : Question) → ¬ FurtherRefuse first es path question
  nowhere [] question h = h
  nowhere (label l ∷ path) question h = h
  nowhere (index i ∷ path) question h = none h.0 path question h.2
