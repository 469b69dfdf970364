use Rattle.std.proofs.Common.{◌≡◌, map, not, rules, subst, sym, ap, ◌∙◌, All, ◌&&◌}
use Rattle.std.specs.Prelude.{IfSome}
use Rattle.cue_sets.specs.Pieces.{is_int64, is_member}
use Rattle.cue_syntax.specs.Grammar.{IsInRange}
use Rattle.cue_syntax.specs.declared.tree.Expr.TheVariants.{OtherInteger}
use Rattle.cue_eval.specs.Inner.Written.{is_listed_integer}
use Rattle.cue_eval.proofs.OtherIntegers.{others_in_range, all_without}
use Rattle.cue_eval.proofs.pair.all_but_integers.Goals as goal

pub set_of_integers-requires : goal.set_of_integers-requires
set_of_integers-requires c =
    let numbers = c.in-Some.numbers.items in
    let written : c.args.parts.now ≡ map OtherInteger numbers = subst (λ found. IfSome found (λ all. c.args.parts.now ≡ map OtherInteger all.items)) c.in-Some.is c.in_ok-numbers.ensures in
    subst (λ ns. All IsInRange ns) (sym c.deref.ensures.value) (others_in_range c.args.parts.now numbers written c.requires)

pub returns : goal.returns
returns c =
    let numbers = c.in-Some.numbers.items in record {
      numbers = numbers;
      some = search rules;
      written = subst (λ found. IfSome found (λ all. c.args.parts.now ≡ map OtherInteger all.items)) c.in-Some.is c.in_ok-numbers.ensures;
      value = c.of_integers.ensures (λ n. not (is_listed_integer numbers n))
          (λ n. all_without c.in_ok-set.set c.in_ok-left_out.left_out numbers n
          (c.in_ok-set.ensures n ∙ ap (λ full. is_member full n && not (is_member c.in_ok-left_out.left_out n)) c.full.ensures)
          (subst (λ ns. is_member c.in_ok-left_out.left_out n ≡ (is_int64 n && is_listed_integer ns n)) c.deref.ensures.value (c.in_ok-left_out.ensures n)));
    }
