use Rattle.std.proofs.Common.{map, nat_eq, ap, arith}
use Rattle.std.specs.Prelude.{codes}
use Rattle.std.proofs.lemmas.List.{drop_all}
use Rattle.cue_device.proofs.Telling.{on_err, tells_all}
use Rattle.cue_print.specs.Spelled.{spell_unequal}
use Rattle.cue_print.proofs.Joined.{none_joined, part_separated, text_told, part_told, later, from_here}
use Rattle.cue_print.proofs.term.push_others.Goals as goal

pub loop-i-preserved : goal.loop-i-preserved
loop-i-preserved g c =
    let i = c.loop-i.i in
    later _ _ (codes " & ") i _ _
    (text_told _ _ _ _ (codes " & ") (nat_eq i 0) _ _ _ _ (ap (λ xs. map spell_unequal xs) (from_here c.args.texts.now i _ c.loop-i-test.true c.index-texts-i.is)) c.loop-i.invariant c.in_ok-separate.ensures.told c.in_ok-push_unequal.ensures.told)

pub returns-in_err-separate-clause-begun : goal.returns-in_err-separate-clause-begun
returns-in_err-separate-clause-begun g c =
    let i = c.loop-i.i in
    on_err _ (part_separated _ _ _ (codes " & ") (nat_eq i 0) _ _ _ _ (ap (λ xs. map spell_unequal xs) (from_here c.args.texts.now i _ c.loop-i-test.true c.index-texts-i.is)) c.loop-i.invariant c.in_err-separate.ensures.begun)

pub returns-in_err-push_unequal-clause-begun : goal.returns-in_err-push_unequal-clause-begun
returns-in_err-push_unequal-clause-begun g c =
    let i = c.loop-i.i in
    on_err _ (part_told _ _ _ _ (codes " & ") (nat_eq i 0) _ _ _ _ (ap (λ xs. map spell_unequal xs) (from_here c.args.texts.now i _ c.loop-i-test.true c.index-texts-i.is)) c.loop-i.invariant c.in_ok-separate.ensures.told c.in_err-push_unequal.ensures.begun)

pub returns-clause-told : goal.returns-clause-told
returns-clause-told g c =
    tells_all _ _ _ _ (none_joined (codes " & ") (nat_eq c.loop-i.i 0) _ (ap (λ xs. map spell_unequal xs) (drop_all c.loop-i.i c.args.texts.now (omega arith)))) c.loop-i.invariant
