-- The conflicts of branches that are kept as one.
use Rattle.std.proofs.Common.{◌≡◌, inl, inr, ℕ, zero, suc, min, ◌+◌, ◌-◌, ◌<◌, ◌≤◌, false, List, [], ◌∷◌, ◌++◌, map, Option, sym, ap, ◌∙◌, arith, append_assoc}
use Rattle.std.proofs.lemmas.Bool.{cases_lt}
use Rattle.std.proofs.lemmas.List.{append-nil}
use Rattle.cue_lattice.specs.Path as paths
use Rattle.cue_lattice.specs.Path.{label, index}
use Rattle.cue_row.specs.declared.parts.RowParts.{RowParts as Row}
use Rattle.cue_table.specs.Spans.{Span, field, elements, alike_elements, branches_of_span}
use Rattle.cue_table.specs.Tree.{Tree, Children, none, row_of}
use Rattle.cue_report.specs.declared.conflict.Conflict.{Conflict}
use Rattle.cue_report.specs.Inner.Search.{conflict_under, only_if, is_demanded, is_refused, conflicts_in, conflicts_below, each_index, least_at}
use Rattle.cue_report.proofs.Rows.{index_allowed, is_long, not_long}

-- those of one branch, where it is demanded
abbrev at_step : Option Row → paths.Step → Tree Row → List Conflict
at_step row step tree = only_if (is_demanded row step (row_of tree)) (map (conflict_under (step ∷ [])) (conflicts_in (is_refused row step) tree))

-- of branches that are kept as one, and then of others
run_first : (row : Option Row) (i more : ℕ) (tree : Tree Row) (others : Children Row) → conflicts_below row (alike_elements i more tree others) ≡ conflicts_below row (alike_elements i more tree none) ++ conflicts_below row others
run_first row i zero tree others = ap (λ xs. xs ++ conflicts_below row others) (sym (append-nil (at_step row (index i) tree)))
run_first row i (suc more) tree others =
    ap (λ xs. at_step row (index i) tree ++ xs) (run_first row (suc i) more tree others)
    ∙ sym (append_assoc (at_step row (index i) tree) (conflicts_below row (alike_elements (suc i) more tree none)) (conflicts_below row others))

pub span_first : (row : Option Row) (span : Span) (tree : Tree Row) (others : Children Row) → conflicts_below row (branches_of_span span tree others) ≡ conflicts_below row (branches_of_span span tree none) ++ conflicts_below row others
span_first row (field text) tree others = ap (λ xs. xs ++ conflicts_below row others) (sym (append-nil (at_step row (label text) tree)))
span_first row (elements i more) tree others = run_first row i more tree others

-- the first element of some, and those behind it
each_first : (i count : ℕ) (found : List Conflict) → each_index i (suc count) found ≡ map (conflict_under (index i ∷ [])) found ++ each_index (suc i) count found
each_first i zero found =
    let same : i + 0 ≡ i = omega arith in
    ap (λ k. map (conflict_under (index k ∷ [])) found) same ∙ sym (append-nil (map (conflict_under (index i ∷ [])) found))
each_first i (suc count) found =
    let last : i + suc count ≡ suc i + count = omega arith in
    ap (λ xs. xs ++ map (conflict_under (index (i + suc count) ∷ [])) found) (each_first i count found)
    ∙ ap (λ k. (map (conflict_under (index i ∷ [])) found ++ each_index (suc i) count found) ++ map (conflict_under (index k ∷ [])) found) last
    ∙ append_assoc (map (conflict_under (index i ∷ [])) found) (each_index (suc i) count found) (map (conflict_under (index (suc i + count) ∷ [])) found)

-- an element that each list has, or that not each has
asked_at : (row : Option Row) (i : ℕ) (tree : Tree Row) → i < least_at row → at_step row (index i) tree ≡ map (conflict_under (index i ∷ [])) (conflicts_in false tree)
asked_at row i tree h =
    ap (λ b. only_if b (map (conflict_under (index i ∷ [])) (conflicts_in (is_refused row (index i)) tree))) (is_long row i h)
    ∙ ap (λ b. map (conflict_under (index i ∷ [])) (conflicts_in b tree)) (index_allowed row i)

unasked_at : (row : Option Row) (i : ℕ) (tree : Tree Row) → least_at row ≤ i → at_step row (index i) tree ≡ []
unasked_at row i tree h = ap (λ b. only_if b (map (conflict_under (index i ∷ [])) (conflicts_in (is_refused row (index i)) tree))) (not_long row i h)

-- the conflicts of elements that are kept as one are those of each that each list has
pub run_is : (row : Option Row) (i more end : ℕ) (tree : Tree Row) → end ≡ min (least_at row) (i + more + 1) → conflicts_below row (alike_elements i more tree none) ≡ each_index i (end - i) (conflicts_in false tree)
run_is row i zero end tree e = elim (cases_lt i (least_at row)) [
  | inl h ↦
      let found : List Conflict = conflicts_in false tree in
      let same : i ≡ i + 0 = omega arith in
      let count : 1 ≡ end - i = omega arith in
      append-nil (at_step row (index i) tree) ∙ asked_at row i tree h ∙ ap (λ k. map (conflict_under (index k ∷ [])) found) same ∙ ap (λ n. each_index i n found) count
  | inr h ↦
      let count : 0 ≡ end - i = omega arith in
      append-nil (at_step row (index i) tree) ∙ unasked_at row i tree h ∙ ap (λ n. each_index i n (conflicts_in false tree)) count
]
run_is row i (suc more) end tree e =
    let found : List Conflict = conflicts_in false tree in
    let others : List Conflict = conflicts_below row (alike_elements (suc i) more tree none) in
    let behind : others ≡ each_index (suc i) (end - suc i) found = run_is row (suc i) more end tree (omega arith) in
    elim (cases_lt i (least_at row)) [
      | inl h ↦
          let count : suc (end - suc i) ≡ end - i = omega arith in
          ap (λ xs. xs ++ others) (asked_at row i tree h) ∙ ap (λ xs. map (conflict_under (index i ∷ [])) found ++ xs) behind
          ∙ sym (each_first i (end - suc i) found) ∙ ap (λ n. each_index i n found) count
      | inr h ↦
          let none_behind : end - suc i ≡ 0 = omega arith in
          let count : 0 ≡ end - i = omega arith in
          ap (λ xs. xs ++ others) (unasked_at row i tree h) ∙ behind ∙ ap (λ n. each_index (suc i) n found) none_behind ∙ ap (λ n. each_index i n found) count
    ]
