use Rattle.std.proofs.Common.{◌≡◌, map, not, rules, subst}
use Rattle.std.specs.Prelude.{IfSome}
use Rattle.cue_sets.specs.Texts.{is_listed}
use Rattle.cue_syntax.specs.declared.tree.Expr.TheVariants.{OtherText}
use Rattle.cue_eval.proofs.pair.all_but_texts.Goals as goal

pub returns-in-Some-set_of_texts : goal.returns-in-Some-set_of_texts
returns-in-Some-set_of_texts c =
    let texts = c.in-Some.texts.items in record {
      texts = texts;
      some = search rules;
      written = subst (λ found. IfSome found (λ all. c.args.parts.now ≡ map OtherText all.items)) c.in-Some.is c.in_ok-texts.ensures;
      value = c.of_texts.ensures (λ t. not (is_listed texts t)) (λ t. c.in-Some-set_of_texts.ensures t);
    }
