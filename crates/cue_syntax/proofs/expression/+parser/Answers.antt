use Rattle.std.proofs.Common.{◌≡◌, ◌∙◌, ◌++◌, [], ◌∷◌, List, sym, subst, ap, refl, inl, inr, ◌⊎◌, true, false, length, arith, rules}
use Rattle.std.proofs.lemmas.List.{nil_from_length}
use Rattle.cue_lex.specs.declared.token.TokenKind.TheVariants as kinds
use Rattle.cue_lex.specs.declared.punctuation.Punctuation.TheVariants as points
use Rattle.cue_syntax.specs.declared.tree.Expr.{Expr}
use Rattle.cue_syntax.specs.declared.tree.Rest.TheVariants as rests
use Rattle.cue_syntax.specs.declared.tree.Term.{Term}
use Rattle.cue_syntax.specs.Syntax.{no_elements, branch, parenthesis, struct, close, list, conjunction, disjunction, elements_of_list, branches_of_list, entries, expression, rest_of_tree}
use Rattle.cue_syntax.specs.Grammar.{IsExpression, AreEntries, AreNested}
use Rattle.cue_syntax.specs.Inner.Grammar.{IsTermOf, IsEntry, AreElementTokens}
use Rattle.cue_syntax.proofs.ReadingsJoin.{reads_one_at, reads_none}
use Rattle.cue_syntax.proofs.RowsGrow.{nested_pushed}
use Rattle.cue_syntax.proofs.Views.{view-term, view-Parenthesis, view-Struct, view-Close, view-Conjunction, view-Disjunction, view-Field, view-Definition, view-List, view-Ends}
use Rattle.cue_syntax.proofs.PartsMakeTrees.{term_is, AreTerms, AreParts, Between, terms_first, terms_next, terms_more, between_pushed, disjunction_is, parts_first, parts_next, parts_more, conjunction_is, elements_next, entries_next, braced_is, struct_is, close_is, parenthesis_is, list_is, open_list_is, field_is, definition_is}
use Rattle.cue_syntax.specs.Viability.{IsSignAt, BeginsLabel}
use Rattle.cue_syntax.specs.Inner.Viability.{behind_begun}
use Rattle.cue_syntax.specs.Begun.{MayBeginEntry}
use Rattle.cue_syntax.proofs.TextsBeginSo.{begun, begins_always, no_memory, read_stands}
use Rattle.cue_syntax.specs.Recogniser as goals
use Rattle.cue_syntax.proofs.MovesAndStops.{end_then, moves_then, moves_more, follows_behind, refused_behind, refused_end, halted_behind, if_ok}
use Rattle.cue_syntax.proofs.OpensLevels.{follows_mark, follows_comma, labels_lead}
use Rattle.cue_syntax.proofs.RefusalsPassOn.{passed_on, passed_on_each, memory_passed_on}
use Rattle.cue_syntax.proofs.MovesOverLabels.{misses_entry}
use Rattle.cue_syntax.proofs.MovesOverOperands.{no_room, sign_alone, inner_comma, inner_closes, inner_halts, parenthesis_opens, parenthesis_refused, struct_moves, struct_refused, call_paren, call_no_room, brace_no_room, close_misses, close_moves, close_refused, unmarked_moves, marked_moves, parts_end, parts_go, part_moves, part_refused, terms_end, terms_go, term_moves, term_refused, first_moves, first_go, first_end, first_halts, first_refused, alone_moves, alone_refused}
use Rattle.cue_syntax.proofs.MovesOverRows.{ellipsis_comma, ellipsis_closes, ellipsis_halts, list_opens, refused_inside, list_refused, dots_refused, row_ends, element_moves, element_refused, element_next, row_closes, row_halts, open_ellipsis, entry_next, braces_close, braces_halt, entry_ellipsis, chain_value, chain_value_refused, field_moves, field_refused, definition_moves, definition_refused, no_entry_refused}
use Rattle.cue_syntax.proofs.expression.+parser.Goals as goal
use Rattle.cue_syntax.proofs.expression.+parser.Goals.{list-then-row-via-then-row, list-then-row-via-else-row+then-is_empty, list-then-row+in_default, list-else-row+else-is_empty}

pub braces-returns-clause-spelled : goal.braces-returns-clause-spelled
braces-returns-clause-spelled t c = braced_is c.in_ok-row.ensures.spelled (c.in_ok-row.ensures.nested refl) c.in_ok-rest.ensures.reads

pub parenthesis-returns-clause-spelled : goal.parenthesis-returns-clause-spelled
parenthesis-returns-clause-spelled t c =
    let a = c.args.cursor.rest.now in
    let b = c.in_ok-rest.rest.rest.now in
    let comma = c.trailing_comma-comma.result.0 in
    subst (λ e. IsExpression c.args.room a e b) (sym (view-Parenthesis c.in_ok-inner-2.inner comma))
    (subst (λ (e : Expr). IsExpression c.args.room a (parenthesis (expression e) comma) b) (sym c.in_ok-inner-2.ensures.boxed)
    (parenthesis_is c.in_ok-inside.ensures.left c.in_ok-open.ensures.reads c.in_ok-inner.ensures.spelled c.trailing_comma-comma.ensures.reads c.in_ok-rest.ensures.reads))

pub close-returns-clause-spelled : goal.close-returns-clause-spelled
close-returns-clause-spelled t c =
    let a = c.args.cursor.rest.now in
    let b = c.in_ok-rest.rest.rest.now in
    let inner = c.in_ok-row.row.comma in
    let comma = c.trailing_comma-comma.result.0 in
    subst (λ e. IsExpression c.args.room a e b) (sym (view-Close c.in_ok-from.from c.drop_spare_room.result inner comma))
    (subst (λ z. IsExpression c.args.room a (close c.in_ok-from.from (entries z) inner comma) b) (sym c.drop_spare_room.ensures)
    (close_is c.in_ok-inside.ensures.left c.in_ok-last.ensures.left c.in_ok-from.ensures.reads c.in_ok-open.ensures.reads c.in_ok-brace.ensures.reads c.in_ok-row.ensures.spelled c.trailing_comma-comma.ensures.reads c.in_ok-rest.ensures.reads))

pub structure-returns-clause-spelled : goal.structure-returns-clause-spelled
structure-returns-clause-spelled t c =
    let a = c.args.cursor.rest.now in
    let b = c.in_ok-row.rest.rest.now in
    subst (λ e. IsExpression c.args.room a e b) (sym (view-Struct c.drop_spare_room.result c.in_ok-row.row.comma))
    (subst (λ z. IsExpression c.args.room a (struct (entries z) c.in_ok-row.row.comma) b) (sym c.drop_spare_room.ensures)
    (struct_is c.in_ok-inside.ensures.left c.in_ok-open.ensures.reads c.in_ok-row.ensures.spelled))

pub parts-parts-init : goal.parts-parts-init
parts-parts-init t c =
    let pushed : c.push.new.values.items ≡ c.args.first ∷ [] =
    c.in_ok-push.ensures.pushed ∙ ap (λ (z : List Expr). z ++ c.args.first ∷ []) c.new-parts.ensures.items in
    record {
      shorter = omega (arith, c.requires.further.shorter, c.in-Some.ensures.further.shorter);
      parts = subst (λ z. AreParts c.args.room c.args.cursor.rest.now z c.in-Some.after.rest.now) (sym pushed)
          (parts_first c.args.first c.requires.spelled c.requires.unary c.in-Some.ensures.reads);
      end = c.in-Some.ensures.further.end ∙ c.requires.further.end;
      moves = moves_then (part_moves c.requires.moves) (parts_go c.in-Some.ensures.reads);
      follows = follows_behind c.requires.moves.inside (follows_mark points.Ampersand c.in-Some.ensures.reads);
    }

pub parts-parts-preserved : goal.parts-parts-preserved
parts-parts-preserved t c =
    let pushed : c.push-in-parts.new.values.items ≡ c.parts.parts.items ++ c.in_ok-next.next ∷ [] = search rules in
    record {
      shorter = omega (arith, c.in_ok-next.ensures.further.shorter, c.in-Some-skip.ensures.further.shorter);
      parts = subst (λ z. AreParts c.args.room c.args.cursor.rest.now z c.in-Some-skip.behind.rest.now) (sym pushed)
          (parts_more (parts_next c.parts.parts.items c.in_ok-next.next c.parts.invariant.parts c.in_ok-next.ensures.spelled c.in_ok-next.ensures.unary)
          c.in-Some-skip.ensures.reads);
      end = c.in-Some-skip.ensures.further.end ∙ c.in_ok-next.ensures.further.end ∙ c.parts.invariant.end;
      moves = moves_then c.parts.invariant.moves (moves_then (part_moves c.in_ok-next.ensures.moves) (parts_go c.in-Some-skip.ensures.reads));
      follows = follows_behind (end_then c.parts.invariant.moves.inside c.in_ok-next.ensures.moves.inside) (follows_mark points.Ampersand c.in-Some-skip.ensures.reads);
    }

pub parts-returns-in-None-clause-spelled : goal.parts-returns-in-None-clause-spelled
parts-returns-in-None-clause-spelled t c =
    let a = c.args.cursor.rest.now in
    let b = c.in_ok-next.rest.rest.now in
    let pushed : c.push-in-parts.new.values.items ≡ c.parts.parts.items ++ c.in_ok-next.next ∷ [] = search rules in
    subst (λ e. IsExpression c.args.room a e b) (sym (view-Conjunction c.push-in-parts.new.values))
    (subst (λ (z : List Expr). IsExpression c.args.room a (conjunction (elements_of_list z)) b) (sym pushed)
    (conjunction_is (parts_next c.parts.parts.items c.in_ok-next.next c.parts.invariant.parts c.in_ok-next.ensures.spelled c.in_ok-next.ensures.unary)))

pub disjunction-terms-init : goal.disjunction-terms-init
disjunction-terms-init t c =
    let pushed : c.push.new.values.items ≡ c.args.first ∷ [] =
    c.in_ok-push.ensures.pushed ∙ ap (λ (z : List Term). z ++ c.args.first ∷ []) c.new-terms.ensures.items in
    record {
      shorter = omega (arith, c.requires.further.shorter, c.in-Some.ensures.further.shorter);
      terms = subst (λ z. AreTerms c.args.room c.args.cursor.rest.now z c.in-Some.after.rest.now) (sym pushed)
          (terms_first c.args.first c.requires.spelled c.in-Some.ensures.reads);
      end = c.in-Some.ensures.further.end ∙ c.requires.further.end;
      moves = moves_then (first_moves c.args.first.marked c.requires.marked.0 c.requires.marked.1 c.requires.moves) (first_go c.args.first.marked c.in-Some.ensures.reads);
      follows = follows_behind c.requires.moves.inside (follows_mark points.Bar c.in-Some.ensures.reads);
    }

pub disjunction-terms-preserved : goal.disjunction-terms-preserved
disjunction-terms-preserved t c =
    let pushed : c.push-in-terms.new.values.items ≡ c.terms.terms.items ++ c.in_ok-next.next ∷ [] = search rules in
    record {
      shorter = omega (arith, c.in_ok-next.ensures.further.shorter, c.in-Some-skip.ensures.further.shorter);
      terms = subst (λ z. AreTerms c.args.room c.args.cursor.rest.now z c.in-Some-skip.behind.rest.now) (sym pushed)
          (terms_more (terms_next c.terms.terms.items c.in_ok-next.next c.terms.invariant.terms c.in_ok-next.ensures.spelled) c.in-Some-skip.ensures.reads);
      end = c.in-Some-skip.ensures.further.end ∙ c.in_ok-next.ensures.further.end ∙ c.terms.invariant.end;
      moves = moves_then c.terms.invariant.moves (moves_then (term_moves c.in_ok-next.ensures.moves) (terms_go c.in-Some-skip.ensures.reads));
      follows = follows_behind (end_then c.terms.invariant.moves.inside c.in_ok-next.ensures.moves.inside) (follows_mark points.Bar c.in-Some-skip.ensures.reads);
    }

pub disjunction-returns-in-None-clause-spelled : goal.disjunction-returns-in-None-clause-spelled
disjunction-returns-in-None-clause-spelled t c =
    let a = c.args.cursor.rest.now in
    let b = c.in_ok-next.rest.rest.now in
    let pushed : c.push-in-terms.new.values.items ≡ c.terms.terms.items ++ c.in_ok-next.next ∷ [] = search rules in
    subst (λ e. IsExpression c.args.room a e b) (sym (view-Disjunction c.push-in-terms.new.values))
    (subst (λ (z : List Term). IsExpression c.args.room a (disjunction (branches_of_list z)) b) (sym pushed)
    (disjunction_is (terms_next c.terms.terms.items c.in_ok-next.next c.terms.invariant.terms c.in_ok-next.ensures.spelled)))

pub declarations-declarations-preserved : goal.declarations-declarations-preserved
declarations-declarations-preserved t c =
    let l = c.declarations in
    let pushed : c.push.new.values.items ≡ l.items.items ++ c.in_ok-item.item ∷ [] = search rules in
    record {
      shorter = omega (arith, c.in_ok-item.ensures.further.shorter, c.trailing_comma.ensures.onward.no_longer);
      row = subst (λ z. AreEntries c.args.room c.args.cursor.rest.now (entries z) c.trailing_comma.result.0 c.trailing_comma.result.1.rest.now) (sym pushed)
          (entries_next l.items.items l.comma c.in_ok-item.item c.trailing_comma.result.0 l.invariant.row l.invariant.between c.in_ok-item.ensures.spelled c.trailing_comma.ensures.reads);
      between = subst (λ z. Between c.trailing_comma.result.0 z) (sym pushed)
          (between_pushed c.trailing_comma.result.0 l.items.items c.in_ok-item.item c.if-not-comma.false);
      nested = λ below. subst (λ z. AreNested (entries z)) (sym pushed)
          (nested_pushed l.items.items c.in_ok-item.item (l.invariant.nested below) (c.in_ok-item.ensures.nested below));
      end = c.trailing_comma.ensures.onward.end ∙ c.in_ok-item.ensures.further.end ∙ l.invariant.end;
      begins = inr (begun l.rest.rest.now c.args.cursor.rest.now l.invariant.begins c.in_ok-item.ensures.begins);
      moves = moves_then l.invariant.moves (moves_then c.in_ok-item.ensures.moves (entry_next c.args.top c.trailing_comma.result.0 c.if-not-comma.false (omega arith) c.trailing_comma.ensures.reads));
    }

pub declarations-returns-then-not-comma-clause-spelled : goal.declarations-returns-then-not-comma-clause-spelled
declarations-returns-then-not-comma-clause-spelled t c =
    let l = c.declarations in
    let pushed : c.push.new.values.items ≡ l.items.items ++ c.in_ok-item.item ∷ [] = search rules in
    subst (λ z. AreEntries c.args.room c.args.cursor.rest.now (entries z) c.trailing_comma.result.0 c.trailing_comma.result.1.rest.now) (sym pushed)
    (entries_next l.items.items l.comma c.in_ok-item.item c.trailing_comma.result.0 l.invariant.row l.invariant.between c.in_ok-item.ensures.spelled c.trailing_comma.ensures.reads)

pub declarations-returns-then-not-comma-clause-nested : goal.declarations-returns-then-not-comma-clause-nested
declarations-returns-then-not-comma-clause-nested t c below =
    let l = c.declarations in
    let pushed : c.push.new.values.items ≡ l.items.items ++ c.in_ok-item.item ∷ [] = search rules in
    subst (λ z. AreNested (entries z)) (sym pushed) (nested_pushed l.items.items c.in_ok-item.item (l.invariant.nested below) (c.in_ok-item.ensures.nested below))

pub declarations-returns-clause-spelled : goal.declarations-returns-clause-spelled
declarations-returns-clause-spelled t c = c.declarations.invariant.row

pub elements-elements-preserved : goal.elements-elements-preserved
elements-elements-preserved t c =
    let l = c.elements in
    let pushed : c.push.new.values.items ≡ l.items.items ++ c.in_ok-element.element ∷ [] = search rules in
    record {
      shorter = omega (arith, c.in_ok-element.ensures.further.shorter, c.trailing_comma.ensures.onward.no_longer);
      row = subst (λ z. AreElementTokens c.args.room c.args.cursor.rest.now (elements_of_list z) c.trailing_comma.result.0 c.trailing_comma.result.1.rest.now) (sym pushed)
          (elements_next l.items.items l.comma c.in_ok-element.element c.trailing_comma.result.0 l.invariant.row l.invariant.between c.in_ok-element.ensures.spelled c.trailing_comma.ensures.reads);
      between = subst (λ z. Between c.trailing_comma.result.0 z) (sym pushed)
          (between_pushed c.trailing_comma.result.0 l.items.items c.in_ok-element.element c.if-not-comma.false);
      end = c.trailing_comma.ensures.onward.end ∙ c.in_ok-element.ensures.further.end ∙ l.invariant.end;
      moves =
          let close : ¬ IsSignAt (kinds.Mark points.CloseBracket) l.rest.rest.now = search rules in
          let dots : ¬ IsSignAt (kinds.Mark points.Ellipsis) l.rest.rest.now = search rules in
          moves_then l.invariant.moves (moves_then (element_moves close dots c.in_ok-element.ensures.moves) (element_next c.trailing_comma.result.0 c.if-not-comma.false (omega arith) c.trailing_comma.ensures.reads));
      leads = inr (follows_behind (end_then l.invariant.moves.inside c.in_ok-element.ensures.moves.inside) (follows_comma c.trailing_comma.result.0 c.if-not-comma.false c.trailing_comma.ensures.reads));
    }

pub elements-returns-then-not-comma-clause-spelled : goal.elements-returns-then-not-comma-clause-spelled
elements-returns-then-not-comma-clause-spelled t c =
    let l = c.elements in
    let pushed : c.push.new.values.items ≡ l.items.items ++ c.in_ok-element.element ∷ [] = search rules in
    subst (λ z. AreElementTokens c.args.room c.args.cursor.rest.now (elements_of_list z) c.trailing_comma.result.0 c.trailing_comma.result.1.rest.now) (sym pushed)
    (elements_next l.items.items l.comma c.in_ok-element.element c.trailing_comma.result.0 l.invariant.row l.invariant.between c.in_ok-element.ensures.spelled c.trailing_comma.ensures.reads)

pub field-returns-clause-spelled : goal.field-returns-clause-spelled
field-returns-clause-spelled t c =
    subst (λ e. IsEntry c.args.room c.args.cursor.rest.now e c.in_ok-value.rest.rest.now)
    (sym (view-Field c.in_ok-label.label c.in_ok-chain.chain.labels c.in_ok-value.value))
    (field_is c.in_ok-chain.ensures.levels c.in_ok-label.ensures.spelled c.in_ok-chain.ensures.spelled c.in_ok-value.ensures.spelled)

pub definition-returns-clause-spelled : goal.definition-returns-clause-spelled
definition-returns-clause-spelled t c =
    let kind : c.in-Some.token.now.kind ≡ kinds.Definition c.share-name.result = search rules in
    subst (λ e. IsEntry c.args.room c.args.cursor.rest.now e c.in_ok-value.rest.rest.now)
    (sym (view-Definition c.share-name.result c.in-Some.token.now.from c.in_ok-chain.chain.labels c.in_ok-value.value))
    (definition_is c.in_ok-chain.ensures.levels (reads_one_at c.in-Some.token.now c.in-Some.ensures.first kind) c.in_ok-after.ensures.reads c.in_ok-chain.ensures.spelled c.in_ok-value.ensures.spelled)

pub list-returns-in-Some-clause-spelled : goal.list-returns-in-Some-clause-spelled
list-returns-in-Some-clause-spelled t c =
    let items = c.in_ok-row.row.items in
    let which : (c.in_ok-row.row.comma ≡ true) ⊎ (elements_of_list items.items ≡ no_elements) =
    elim c.then-row.branch [
      | list-then-row-via-then-row w ↦ inl w.if-row.true
      | list-then-row-via-else-row+then-is_empty w ↦
          let zero : length items.items ≡ 0 = grind (arith, items.ok.0) in
          inr (ap elements_of_list (nil_from_length items.items zero))
    ] in
    subst (λ e. IsExpression c.args.room c.args.cursor.rest.now e c.in_ok-rest.rest.rest.now)
    (sym (view-List items c.in_ok-further.further c.trailing_comma-comma.result.0))
    (open_list_is (rest_of_tree c.in_ok-further.further) c.in_ok-inside.ensures.left c.in_ok-open.ensures.reads c.in_ok-row.ensures.spelled which c.in-Some.ensures.reads c.in_ok-further.ensures.spelled c.trailing_comma-comma.ensures.reads c.in_ok-rest.ensures.reads)

pub list-returns-clause-spelled : goal.list-returns-clause-spelled
list-returns-clause-spelled t c =
    subst (λ e. IsExpression c.args.room c.args.cursor.rest.now e c.in_ok-rest-2.rest.rest.now)
    (sym (view-List c.in_ok-row.row.items rests.Ends c.in_ok-row.row.comma ∙ ap (λ z. list (elements_of_list c.in_ok-row.row.items.items) z c.in_ok-row.row.comma) view-Ends))
    (list_is c.in_ok-inside.ensures.left c.in_ok-open.ensures.reads c.in_ok-row.ensures.spelled c.in_ok-rest-2.ensures.reads)

pub list_rest-returns-in_err-each-clause-refused : goal.list_rest-returns-in_err-each-clause-refused
list_rest-returns-in_err-each-clause-refused t c =
    let comma : ¬ IsSignAt (kinds.Mark points.Comma) c.args.cursor.rest.now = search rules in
    let close : ¬ IsSignAt (kinds.Mark points.CloseBracket) c.args.cursor.rest.now = search rules in
    passed_on c.from_residual.result c.from_residual.ensures.1 (dots_refused comma close c.in_err-each.ensures.refused)

pub conjunction-returns-in_err-first-clause-refused : goal.conjunction-returns-in_err-first-clause-refused
conjunction-returns-in_err-first-clause-refused t c = passed_on c.from_residual.result c.from_residual.ensures.1 (part_refused c.in_err-first.ensures.refused)

pub parts-returns-in_err-next-clause-refused : goal.parts-returns-in_err-next-clause-refused
parts-returns-in_err-next-clause-refused t c = passed_on c.from_residual-in_err-next.result c.from_residual-in_err-next.ensures.1 (refused_behind c.parts.invariant.moves (λ begins. inr c.parts.invariant.follows) (refused_end c.parts.invariant.end (part_refused c.in_err-next.ensures.refused)))

pub parts-returns-in-None-clause-moves : goal.parts-returns-in-None-clause-moves
parts-returns-in-None-clause-moves t c =
    let lacks : ¬ IsSignAt (kinds.Mark points.Ampersand) c.in_ok-next.rest.rest.now = search rules in
    moves_then c.parts.invariant.moves (moves_then (part_moves c.in_ok-next.ensures.moves) (parts_end lacks))

pub expression-returns-in-Some-clause-moves : goal.expression-returns-in-Some-clause-moves
expression-returns-in-Some-clause-moves t c = alone_moves c.in-Some.ensures.unmarked c.in-Some.ensures.ends (moves_more (omega arith) c.in-Some.ensures.moves)

pub compound-returns-in_err-marked-clause-refused : goal.compound-returns-in_err-marked-clause-refused
compound-returns-in_err-marked-clause-refused t c = passed_on c.from_residual.result c.from_residual.ensures.1 (first_refused c.in_err-marked.ensures.refused)

pub compound-returns-in_err-first-clause-refused : goal.compound-returns-in_err-first-clause-refused
compound-returns-in_err-first-clause-refused t c =
    let lacks : ¬ IsSignAt (kinds.Mark points.Star) c.args.cursor.rest.now = search rules in
    passed_on c.from_residual-in_err-first.result c.from_residual-in_err-first.ensures.1 (alone_refused lacks c.in_err-first.ensures.refused)

pub compound-returns-then-ends_operand-clause-moves : goal.compound-returns-then-ends_operand-clause-moves
compound-returns-then-ends_operand-clause-moves t c =
    let lacks : ¬ IsSignAt (kinds.Mark points.Star) c.args.cursor.rest.now = search rules in
    alone_moves lacks (c.ends_operand.ensures c.if-ends_operand.true) c.in_ok-first.ensures.moves

pub after_operand-disjunction-requires : goal.after_operand-disjunction-requires
after_operand-disjunction-requires t c =
    let a = c.args.cursor.rest.now in
    let b = c.in_ok-value.rest.rest.now in
    let first : IsTermOf c.args.room a (branch false c.place-from.result (expression c.in_ok-value.value)) b =
    term_is false c.place-from.result reads_none c.place-from.ensures.is c.in_ok-value.ensures.spelled c.in_ok-value.ensures.conjunct in
    (omega (arith, c.decreases), (subst (λ z. IsTermOf c.args.room a z b) (sym (view-term _)) first, (c.in_ok-value.ensures.further, (moves_then (unmarked_moves c.requires.unmarked) c.in_ok-value.ensures.moves, (λ e. (let f : false ≡ true = e in cc), λ stands. absurd (c.requires.unmarked stands))))))

pub after_operand-returns-in_err-value-clause-refused : goal.after_operand-returns-in_err-value-clause-refused
after_operand-returns-in_err-value-clause-refused t c = passed_on c.from_residual.result c.from_residual.ensures.1 (first_refused (refused_behind (unmarked_moves c.requires.unmarked) (λ begins. inl (refl, tt)) c.in_err-value.ensures.refused))

pub disjunction-returns-then-first-clause-refused : goal.disjunction-returns-then-first-clause-refused
disjunction-returns-then-first-clause-refused t c =
    let lacks : ¬ IsSignAt (kinds.Mark points.Bar) c.args.rest.rest.now = search rules in
    halted_behind (first_moves c.args.first.marked c.requires.marked.0 c.requires.marked.1 c.requires.moves) c.requires.further.end c.syntax.ensures (first_halts c.args.first.marked c.if-first.true lacks)

pub disjunction-returns-in_default-clause-moves : goal.disjunction-returns-in_default-clause-moves
disjunction-returns-in_default-clause-moves t c =
    let lacks : ¬ IsSignAt (kinds.Mark points.Bar) c.args.rest.rest.now = search rules in
    moves_then (first_moves c.args.first.marked c.requires.marked.0 c.requires.marked.1 c.requires.moves) (first_end c.args.first.marked c.if-first.false lacks)

pub disjunction-returns-in_err-next-clause-refused : goal.disjunction-returns-in_err-next-clause-refused
disjunction-returns-in_err-next-clause-refused t c = passed_on c.from_residual-in_err-next.result c.from_residual-in_err-next.ensures.1 (refused_behind c.terms.invariant.moves (λ begins. inr c.terms.invariant.follows) (refused_end c.terms.invariant.end (term_refused c.in_err-next.ensures.refused)))

pub disjunction-returns-in-None-clause-moves : goal.disjunction-returns-in-None-clause-moves
disjunction-returns-in-None-clause-moves t c =
    let lacks : ¬ IsSignAt (kinds.Mark points.Bar) c.in_ok-next.rest.rest.now = search rules in
    moves_then c.terms.invariant.moves (moves_then (term_moves c.in_ok-next.ensures.moves) (terms_end lacks))

pub term-returns-in_err-value-in-Some-clause-refused : goal.term-returns-in_err-value-in-Some-clause-refused
term-returns-in_err-value-in-Some-clause-refused t c = passed_on c.from_residual.result c.from_residual.ensures.1 (refused_behind (marked_moves c.in-Some.ensures.reads) (λ begins. inr (follows_mark points.Star c.in-Some.ensures.reads)) (refused_end c.in-Some.ensures.further.end c.in_err-value-in-Some.ensures.refused))

pub term-returns-in_err-value-in-None-clause-refused : goal.term-returns-in_err-value-in-None-clause-refused
term-returns-in_err-value-in-None-clause-refused t c =
    let lacks : ¬ IsSignAt (kinds.Mark points.Star) c.args.cursor.rest.now = search rules in
    passed_on c.from_residual-in_err-value-in-None.result c.from_residual-in_err-value-in-None.ensures.1 (refused_behind (unmarked_moves lacks) (λ begins. inl (refl, tt)) c.in_err-value-in-None.ensures.refused)

pub term-returns-in_ok-value-in-Some-clause-moves : goal.term-returns-in_ok-value-in-Some-clause-moves
term-returns-in_ok-value-in-Some-clause-moves t c = moves_then (marked_moves c.in-Some.ensures.reads) c.in_ok-value-in-Some.ensures.moves

pub parenthesis-returns-in_err-inside-clause-refused : goal.parenthesis-returns-in_err-inside-clause-refused
parenthesis-returns-in_err-inside-clause-refused t c = passed_on c.from_residual.result c.from_residual.ensures.1 (no_room (kinds.Mark points.OpenParenthesis) (goals.expression ∷ goals.parenthesis ∷ []) c.requires (λ m. m) (λ below. refl) (omega arith) (omega arith) (inr (c.requires, inl (inl (refl, tt)))) c.in_err-inside.ensures.none c.in_err-inside.ensures.refused)

pub parenthesis-returns-in_err-inner-clause-refused : goal.parenthesis-returns-in_err-inner-clause-refused
parenthesis-returns-in_err-inner-clause-refused t c = passed_on c.from_residual-in_err-inner.result c.from_residual-in_err-inner.ensures.1 (parenthesis_refused c.in_ok-inside.ensures.left c.in_ok-open.ensures.further.end c.in_ok-open.ensures.reads c.in_err-inner.ensures.refused)

pub parenthesis-returns-in_err-rest-clause-refused : goal.parenthesis-returns-in_err-rest-clause-refused
parenthesis-returns-in_err-rest-clause-refused t c = passed_on c.from_residual-in_err-rest.result c.from_residual-in_err-rest.ensures.1
    (halted_behind (moves_then (parenthesis_opens c.in_ok-inside.ensures.left c.in_ok-open.ensures.reads c.in_ok-inner.ensures.moves) (inner_comma c.trailing_comma-comma.result.0 (omega (arith, c.in_ok-inside.ensures.left)) c.trailing_comma-comma.ensures.reads)) (c.trailing_comma-comma.ensures.onward.end ∙ c.in_ok-inner.ensures.further.end ∙ c.in_ok-open.ensures.further.end)
    c.in_err-rest.ensures.refused (inner_halts c.trailing_comma-comma.result.0 c.trailing_comma-comma.ensures.reads c.trailing_comma-comma.ensures.missing c.in_err-rest.ensures.missing))

pub parenthesis-returns-clause-moves : goal.parenthesis-returns-clause-moves
parenthesis-returns-clause-moves t c = moves_then (moves_then (parenthesis_opens c.in_ok-inside.ensures.left c.in_ok-open.ensures.reads c.in_ok-inner.ensures.moves) (inner_comma c.trailing_comma-comma.result.0 (omega (arith, c.in_ok-inside.ensures.left)) c.trailing_comma-comma.ensures.reads)) (inner_closes c.trailing_comma-comma.result.0 c.in_ok-rest.ensures.reads)

pub structure-returns-in_err-inside-clause-refused : goal.structure-returns-in_err-inside-clause-refused
structure-returns-in_err-inside-clause-refused t c = passed_on c.from_residual.result c.from_residual.ensures.1 (no_room (kinds.Mark points.OpenBrace) (goals.entries false ∷ []) c.requires (λ m. m) (λ below. refl) (omega arith) (omega arith) (sign_alone c.args.room (goals.unary ∷ []) (kinds.Mark points.OpenBrace) c.requires tt) c.in_err-inside.ensures.none c.in_err-inside.ensures.refused)

pub structure-returns-in_err-row-clause-refused : goal.structure-returns-in_err-row-clause-refused
structure-returns-in_err-row-clause-refused t c = passed_on c.from_residual-in_err-row.result c.from_residual-in_err-row.ensures.1 (struct_refused c.in_ok-inside.inside c.in_ok-inside.ensures.left c.in_ok-open.ensures.further.end c.in_ok-open.ensures.reads c.in_err-row.ensures.refused)

pub structure-returns-clause-moves : goal.structure-returns-clause-moves
structure-returns-clause-moves t c = struct_moves c.in_ok-inside.inside c.in_ok-inside.ensures.left c.in_ok-open.ensures.reads c.in_ok-row.ensures.moves

pub close-returns-in_err-inside-clause-refused : goal.close-returns-in_err-inside-clause-refused
close-returns-in_err-inside-clause-refused t c = passed_on c.from_residual-in_err-inside.result c.from_residual-in_err-inside.ensures.1 (call_no_room c.in_err-inside.ensures.none c.in_ok-from.ensures.further.end c.requires c.in_ok-from.ensures.reads c.in_err-inside.ensures.refused)

pub close-returns-in_err-brace-clause-refused : goal.close-returns-in_err-brace-clause-refused
close-returns-in_err-brace-clause-refused t c = passed_on c.from_residual-in_err-brace.result c.from_residual-in_err-brace.ensures.1 (close_misses c.in_ok-inside.inside c.in_ok-inside.ensures.left (c.in_ok-open.ensures.further.end ∙ c.in_ok-from.ensures.further.end) c.in_ok-from.ensures.reads c.in_ok-open.ensures.reads c.in_err-brace.ensures.missing c.in_err-brace.ensures.refused)

pub close-returns-in_err-last-clause-refused : goal.close-returns-in_err-last-clause-refused
close-returns-in_err-last-clause-refused t c = passed_on c.from_residual-in_err-last.result c.from_residual-in_err-last.ensures.1 (brace_no_room c.in_ok-inside.ensures.left c.in_err-last.ensures.none (c.in_ok-open.ensures.further.end ∙ c.in_ok-from.ensures.further.end) c.in_ok-from.ensures.reads c.in_ok-open.ensures.reads c.in_ok-brace.ensures.reads c.in_err-last.ensures.refused)

pub close-returns-in_err-row-clause-refused : goal.close-returns-in_err-row-clause-refused
close-returns-in_err-row-clause-refused t c = passed_on c.from_residual-in_err-row.result c.from_residual-in_err-row.ensures.1 (close_refused c.in_ok-last.last c.in_ok-inside.ensures.left c.in_ok-last.ensures.left (c.in_ok-brace.ensures.further.end ∙ c.in_ok-open.ensures.further.end ∙ c.in_ok-from.ensures.further.end) c.in_ok-from.ensures.reads c.in_ok-open.ensures.reads c.in_ok-brace.ensures.reads c.in_err-row.ensures.refused)

pub close-returns-in_err-rest-clause-refused : goal.close-returns-in_err-rest-clause-refused
close-returns-in_err-rest-clause-refused t c = passed_on c.from_residual-in_err-rest.result c.from_residual-in_err-rest.ensures.1
    (halted_behind (moves_then (close_moves c.in_ok-last.last c.in_ok-inside.ensures.left c.in_ok-last.ensures.left c.in_ok-from.ensures.reads c.in_ok-open.ensures.reads c.in_ok-brace.ensures.reads c.in_ok-row.ensures.moves) (inner_comma c.trailing_comma-comma.result.0 (omega (arith, c.in_ok-inside.ensures.left)) c.trailing_comma-comma.ensures.reads)) (c.trailing_comma-comma.ensures.onward.end ∙ c.in_ok-row.ensures.onward.end ∙ (c.in_ok-brace.ensures.further.end ∙ c.in_ok-open.ensures.further.end ∙ c.in_ok-from.ensures.further.end))
    c.in_err-rest.ensures.refused (inner_halts c.trailing_comma-comma.result.0 c.trailing_comma-comma.ensures.reads c.trailing_comma-comma.ensures.missing c.in_err-rest.ensures.missing))

pub close-returns-clause-moves : goal.close-returns-clause-moves
close-returns-clause-moves t c = moves_then (moves_then (close_moves c.in_ok-last.last c.in_ok-inside.ensures.left c.in_ok-last.ensures.left c.in_ok-from.ensures.reads c.in_ok-open.ensures.reads c.in_ok-brace.ensures.reads c.in_ok-row.ensures.moves) (inner_comma c.trailing_comma-comma.result.0 (omega (arith, c.in_ok-inside.ensures.left)) c.trailing_comma-comma.ensures.reads)) (inner_closes c.trailing_comma-comma.result.0 c.in_ok-rest.ensures.reads)

pub braces-returns-in_err-rest-clause-refused : goal.braces-returns-in_err-rest-clause-refused
braces-returns-in_err-rest-clause-refused t c = passed_on c.from_residual-in_err-rest.result c.from_residual-in_err-rest.ensures.1
    (halted_behind c.in_ok-row.ensures.moves c.in_ok-row.ensures.onward.end c.in_err-rest.ensures.refused
    (braces_halt c.in_ok-row.row.comma c.in_ok-row.row.items.items c.in_ok-row.ensures.last c.in_ok-row.ensures.open c.in_err-rest.ensures.missing))

pub braces-returns-clause-moves : goal.braces-returns-clause-moves
braces-returns-clause-moves t c = moves_then c.in_ok-row.ensures.moves (braces_close c.in_ok-row.row.comma c.in_ok-row.row.items.items c.in_ok-rest.ensures.reads)

pub declarations-returns-in_err-item-clause-refused : goal.declarations-returns-in_err-item-clause-refused
declarations-returns-in_err-item-clause-refused t c = passed_on c.from_residual.result c.from_residual.ensures.1 (refused_behind c.declarations.invariant.moves (λ none. absurd none) (refused_end c.declarations.invariant.end c.in_err-item.ensures.refused))

pub declarations-returns-then-not-comma-clause-moves : goal.declarations-returns-then-not-comma-clause-moves
declarations-returns-then-not-comma-clause-moves t c =
    let l = c.declarations in
    let pushed : c.push.new.values.items ≡ l.items.items ++ c.in_ok-item.item ∷ [] = search rules in
    row_ends (goals.entries c.args.top) (goals.more_entries c.args.top) l.items.items c.in_ok-item.item c.if-not-comma.true pushed c.trailing_comma.ensures.reads
    (moves_then l.invariant.moves c.in_ok-item.ensures.moves)

pub elements-returns-in_err-element-clause-refused : goal.elements-returns-in_err-element-clause-refused
elements-returns-in_err-element-clause-refused t c =
    let close : ¬ IsSignAt (kinds.Mark points.CloseBracket) c.elements.rest.rest.now = search rules in
    let dots : ¬ IsSignAt (kinds.Mark points.Ellipsis) c.elements.rest.rest.now = search rules in
    passed_on c.from_residual.result c.from_residual.ensures.1 (refused_behind c.elements.invariant.moves (λ begins. c.elements.invariant.leads) (refused_end c.elements.invariant.end (element_refused close dots c.in_err-element.ensures.refused)))

pub elements-returns-then-not-comma-clause-moves : goal.elements-returns-then-not-comma-clause-moves
elements-returns-then-not-comma-clause-moves t c =
    let l = c.elements in
    let close : ¬ IsSignAt (kinds.Mark points.CloseBracket) c.elements.rest.rest.now = search rules in
    let dots : ¬ IsSignAt (kinds.Mark points.Ellipsis) c.elements.rest.rest.now = search rules in
    let pushed : c.push.new.values.items ≡ l.items.items ++ c.in_ok-element.element ∷ [] = search rules in
    row_ends goals.elements goals.more_elements l.items.items c.in_ok-element.element c.if-not-comma.true pushed c.trailing_comma.ensures.reads
    (moves_then l.invariant.moves (element_moves close dots c.in_ok-element.ensures.moves))

pub list-returns-in_err-inside-clause-refused : goal.list-returns-in_err-inside-clause-refused
list-returns-in_err-inside-clause-refused t c = passed_on c.from_residual.result c.from_residual.ensures.1 (no_room (kinds.Mark points.OpenBracket) (goals.elements ∷ []) c.requires (λ m. m) (λ below. refl) (omega arith) (omega arith) (sign_alone c.args.room (goals.unary ∷ []) (kinds.Mark points.OpenBracket) c.requires tt) c.in_err-inside.ensures.none c.in_err-inside.ensures.refused)

pub list-returns-in_err-row-clause-refused : goal.list-returns-in_err-row-clause-refused
list-returns-in_err-row-clause-refused t c = passed_on c.from_residual-in_err-row.result c.from_residual-in_err-row.ensures.1 (list_refused c.in_ok-inside.inside c.in_ok-inside.ensures.left c.in_ok-open.ensures.further.end c.in_ok-open.ensures.reads c.in_err-row.ensures.refused)

pub list-returns-in_err-rest-clause-refused : goal.list-returns-in_err-rest-clause-refused
list-returns-in_err-rest-clause-refused t c =
    let items = c.in_ok-row.row.items in
    let which : (c.in_ok-row.row.comma ≡ true) ⊎ (items.items ≡ []) =
    elim c.then-row.branch [
      | list-then-row-via-then-row w ↦ inl w.if-row.true
      | list-then-row-via-else-row+then-is_empty w ↦
          let zero : length items.items ≡ 0 = grind (arith, items.ok.0) in
          inr (nil_from_length items.items zero)
    ] in
    passed_on c.from_residual-in_err-rest.result c.from_residual-in_err-rest.ensures.1
    (halted_behind (moves_then (moves_then (list_opens c.in_ok-inside.inside c.in_ok-inside.ensures.left c.in_ok-open.ensures.reads c.in_ok-row.ensures.moves) (moves_then (open_ellipsis c.in_ok-row.row.comma items.items (omega (arith, c.in_ok-inside.ensures.left)) which c.in-Some.ensures.reads) (moves_more (omega (arith, c.in_ok-inside.ensures.left)) c.in_ok-further.ensures.moves))) (ellipsis_comma c.trailing_comma-comma.result.0 (omega (arith, c.in_ok-inside.ensures.left)) c.trailing_comma-comma.ensures.reads)) (c.trailing_comma-comma.ensures.onward.end ∙ c.in_ok-further.ensures.onward.end ∙ c.in-Some.ensures.further.end ∙ c.in_ok-row.ensures.onward.end ∙ c.in_ok-open.ensures.further.end)
    c.in_err-rest.ensures.refused (ellipsis_halts c.trailing_comma-comma.result.0 c.trailing_comma-comma.ensures.reads c.trailing_comma-comma.ensures.missing c.in_err-rest.ensures.missing))

pub list-returns-in_err-further-clause-refused : goal.list-returns-in_err-further-clause-refused
list-returns-in_err-further-clause-refused t c =
    let items = c.in_ok-row.row.items in
    let which : (c.in_ok-row.row.comma ≡ true) ⊎ (items.items ≡ []) =
    elim c.then-row.branch [
      | list-then-row-via-then-row w ↦ inl w.if-row.true
      | list-then-row-via-else-row+then-is_empty w ↦
          let zero : length items.items ≡ 0 = grind (arith, items.ok.0) in
          inr (nil_from_length items.items zero)
    ] in
    passed_on c.from_residual-in_err-further.result c.from_residual-in_err-further.ensures.1
    (refused_behind (moves_then (list_opens c.in_ok-inside.inside c.in_ok-inside.ensures.left c.in_ok-open.ensures.reads c.in_ok-row.ensures.moves) (open_ellipsis c.in_ok-row.row.comma items.items (omega (arith, c.in_ok-inside.ensures.left)) which c.in-Some.ensures.reads))
    (λ begins. inr (follows_behind (list_opens c.in_ok-inside.inside c.in_ok-inside.ensures.left c.in_ok-open.ensures.reads c.in_ok-row.ensures.moves).inside (follows_mark points.Ellipsis c.in-Some.ensures.reads)))
    (refused_end (c.in-Some.ensures.further.end ∙ c.in_ok-row.ensures.onward.end ∙ c.in_ok-open.ensures.further.end) (refused_inside c.in_ok-inside.inside c.in_ok-inside.ensures.left c.in_err-further.ensures.refused)))

pub list-returns-in-Some-clause-moves : goal.list-returns-in-Some-clause-moves
list-returns-in-Some-clause-moves t c =
    let items = c.in_ok-row.row.items in
    let which : (c.in_ok-row.row.comma ≡ true) ⊎ (items.items ≡ []) =
    elim c.then-row.branch [
      | list-then-row-via-then-row w ↦ inl w.if-row.true
      | list-then-row-via-else-row+then-is_empty w ↦
          let zero : length items.items ≡ 0 = grind (arith, items.ok.0) in
          inr (nil_from_length items.items zero)
    ] in
    moves_then (moves_then (moves_then (list_opens c.in_ok-inside.inside c.in_ok-inside.ensures.left c.in_ok-open.ensures.reads c.in_ok-row.ensures.moves) (moves_then (open_ellipsis c.in_ok-row.row.comma items.items (omega (arith, c.in_ok-inside.ensures.left)) which c.in-Some.ensures.reads) (moves_more (omega (arith, c.in_ok-inside.ensures.left)) c.in_ok-further.ensures.moves))) (ellipsis_comma c.trailing_comma-comma.result.0 (omega (arith, c.in_ok-inside.ensures.left)) c.trailing_comma-comma.ensures.reads)) (ellipsis_closes c.trailing_comma-comma.result.0 c.in_ok-rest.ensures.reads)

pub list-returns-in_err-rest-2-clause-refused : goal.list-returns-in_err-rest-2-clause-refused
list-returns-in_err-rest-2-clause-refused t c =
    let items = c.in_ok-row.row.items in
    let shut : (c.in_ok-row.row.comma ≡ true) ⊎ (items.items ≡ []) → ⊥ =
    elim c.if-row.branch [
      | list-then-row+in_default w ↦ λ which. elim (c.in_ok-row.ensures.open which) [ inl e ↦ c.in_err-rest-2.ensures.missing e | inr e ↦ w.in_default.ensures.missing e ]
      | list-else-row+else-is_empty w ↦ λ which. elim which [
        | inl e ↦ (let f : true ≡ false = sym e ∙ w.if-row.false in cc)
        | inr e ↦ (let none = ap length e in grind (arith, items.ok.0))
      ]
    ] in
    passed_on c.from_residual-in_err-rest-2.result c.from_residual-in_err-rest-2.ensures.1
    (halted_behind (list_opens c.in_ok-inside.inside c.in_ok-inside.ensures.left c.in_ok-open.ensures.reads c.in_ok-row.ensures.moves) (c.in_ok-row.ensures.onward.end ∙ c.in_ok-open.ensures.further.end)
    c.in_err-rest-2.ensures.refused (row_halts c.in_ok-row.row.comma c.in_ok-row.row.items.items c.in_ok-row.ensures.last shut c.in_err-rest-2.ensures.missing))

pub list-returns-clause-moves : goal.list-returns-clause-moves
list-returns-clause-moves t c = moves_then (list_opens c.in_ok-inside.inside c.in_ok-inside.ensures.left c.in_ok-open.ensures.reads c.in_ok-row.ensures.moves) (row_closes c.in_ok-row.row.comma c.in_ok-row.row.items.items c.in_ok-rest-2.ensures.reads)

pub declarations-returns-in_err-item-clause-begins : goal.declarations-returns-in_err-item-clause-begins
declarations-returns-in_err-item-clause-begins t c = memory_passed_on _ c.from_residual.result c.from_residual.ensures.1 (λ lacks. begun c.declarations.rest.rest.now c.args.cursor.rest.now c.declarations.invariant.begins (c.in_err-item.ensures.begins lacks))

pub declarations-returns-in_err-push-clause-begins : goal.declarations-returns-in_err-push-clause-begins
declarations-returns-in_err-push-clause-begins t c = memory_passed_on _ c.from_residual-in_err-push.result c.from_residual-in_err-push.ensures.1 (λ lacks. begun c.declarations.rest.rest.now c.args.cursor.rest.now c.declarations.invariant.begins c.in_ok-item.ensures.begins)

pub declaration-returns-in-Some-clause-begins : goal.declaration-returns-in-Some-clause-begins
declaration-returns-in-Some-clause-begins t c = inl (read_stands _ _ _ c.in-Some.ensures.reads)

pub declaration-returns-then-begins_label-clause-begins : goal.declaration-returns-then-begins_label-clause-begins
declaration-returns-then-begins_label-clause-begins t c =
    let label : BeginsLabel c.args.cursor.rest.now = search rules in
    begins_always c.field.result (MayBeginEntry c.args.cursor.rest.now) (inr (inl label))

pub declaration-returns-then-begins_definition-clause-begins : goal.declaration-returns-then-begins_definition-clause-begins
declaration-returns-then-begins_definition-clause-begins t c = begins_always c.definition.result (MayBeginEntry c.args.cursor.rest.now) (inr (inr (c.begins_definition.ensures.begins c.if-begins_definition.true)))

pub declaration-returns-clause-begins : goal.declaration-returns-clause-begins
declaration-returns-clause-begins t c = λ lacks. no_memory c.args.cursor.end (behind_begun c.args.top c.args.cursor.rest.now) c.no_declaration.ensures lacks

pub declaration-returns-in-Some-clause-moves : goal.declaration-returns-in-Some-clause-moves
declaration-returns-in-Some-clause-moves t c = entry_ellipsis c.args.top (omega arith) c.in-Some.ensures.reads

pub declaration-returns-then-begins_label-clause-moves : goal.declaration-returns-then-begins_label-clause-moves
declaration-returns-then-begins_label-clause-moves t c = if_ok c.field.result (λ x m. m c.args.top) c.field.ensures.moves

pub declaration-returns-clause-refused : goal.declaration-returns-clause-refused
declaration-returns-clause-refused t c =
    let dots : ¬ IsSignAt (kinds.Mark points.Ellipsis) c.args.cursor.rest.now = search rules in
    let label : ¬ BeginsLabel c.args.cursor.rest.now = search rules in
    no_entry_refused c.args.room c.args.top dots label (c.begins_definition.ensures.no c.if-begins_definition.false) c.requires c.no_declaration.ensures

pub field-returns-in_err-label-clause-refused : goal.field-returns-in_err-label-clause-refused
field-returns-in_err-label-clause-refused t c = passed_on_each c.args.room c.from_residual.result c.from_residual.ensures.1 (λ top. misses_entry c.args.room top c.in_err-label.ensures.refused)

pub field-returns-in_err-chain-clause-refused : goal.field-returns-in_err-chain-clause-refused
field-returns-in_err-chain-clause-refused t c = passed_on_each c.args.room c.from_residual-in_err-chain.result c.from_residual-in_err-chain.ensures.1 (λ top. field_refused top c.in_ok-label.label c.in_ok-label.ensures.spelled c.in_ok-label.ensures.further.end c.in_err-chain.ensures.refused)

pub field-returns-in_err-value-clause-refused : goal.field-returns-in_err-value-clause-refused
field-returns-in_err-value-clause-refused t c = passed_on_each c.args.room c.from_residual-in_err-value.result c.from_residual-in_err-value.ensures.1 (λ top. field_refused top c.in_ok-label.label c.in_ok-label.ensures.spelled c.in_ok-label.ensures.further.end (chain_value_refused c.in_ok-chain.chain.room c.in_ok-chain.chain.labels.items c.in_ok-chain.ensures.levels c.in_ok-chain.ensures.onward.end c.in_ok-chain.ensures.moves (labels_lead c.in_ok-chain.chain.labels.items c.in_ok-chain.ensures.spelled) c.in_ok-chain.ensures.whole c.in_ok-chain.ensures.other c.in_err-value.ensures.refused))

pub field-returns-clause-moves : goal.field-returns-clause-moves
field-returns-clause-moves t c top = field_moves top c.in_ok-label.label c.in_ok-label.ensures.spelled (chain_value c.in_ok-chain.chain.room c.in_ok-chain.chain.labels.items c.in_ok-chain.ensures.levels c.in_ok-chain.ensures.moves c.in_ok-chain.ensures.whole c.in_ok-chain.ensures.other c.in_ok-value.ensures.moves)

pub definition-returns-in_err-chain-clause-refused : goal.definition-returns-in_err-chain-clause-refused
definition-returns-in_err-chain-clause-refused t c =
    let kind : c.in-Some.token.now.kind ≡ kinds.Definition c.share-name.result = search rules in
    passed_on c.from_residual-in_err-chain.result c.from_residual-in_err-chain.ensures.1 (definition_refused (reads_one_at c.in-Some.token.now c.in-Some.ensures.first kind) c.in_ok-after.ensures.reads (c.in_ok-after.ensures.further.end ∙ c.in-Some.ensures.end) c.in_err-chain.ensures.refused)

pub definition-returns-in_err-value-clause-refused : goal.definition-returns-in_err-value-clause-refused
definition-returns-in_err-value-clause-refused t c =
    let kind : c.in-Some.token.now.kind ≡ kinds.Definition c.share-name.result = search rules in
    passed_on c.from_residual-in_err-value.result c.from_residual-in_err-value.ensures.1 (definition_refused (reads_one_at c.in-Some.token.now c.in-Some.ensures.first kind) c.in_ok-after.ensures.reads (c.in_ok-after.ensures.further.end ∙ c.in-Some.ensures.end) (chain_value_refused c.in_ok-chain.chain.room c.in_ok-chain.chain.labels.items c.in_ok-chain.ensures.levels c.in_ok-chain.ensures.onward.end c.in_ok-chain.ensures.moves (labels_lead c.in_ok-chain.chain.labels.items c.in_ok-chain.ensures.spelled) c.in_ok-chain.ensures.whole c.in_ok-chain.ensures.other c.in_err-value.ensures.refused))

pub definition-returns-clause-moves : goal.definition-returns-clause-moves
definition-returns-clause-moves t c =
    let kind : c.in-Some.token.now.kind ≡ kinds.Definition c.share-name.result = search rules in
    definition_moves (reads_one_at c.in-Some.token.now c.in-Some.ensures.first kind) c.in_ok-after.ensures.reads (chain_value c.in_ok-chain.chain.room c.in_ok-chain.chain.labels.items c.in_ok-chain.ensures.levels c.in_ok-chain.ensures.moves c.in_ok-chain.ensures.whole c.in_ok-chain.ensures.other c.in_ok-value.ensures.moves)

pub close-returns-in_err-open-clause-refused : goal.close-returns-in_err-open-clause-refused
close-returns-in_err-open-clause-refused t c = absurd (c.in_err-open.ensures.missing (call_paren c.requires c.in_ok-from.ensures.reads))
