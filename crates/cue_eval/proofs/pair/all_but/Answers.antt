use Rattle.std.specs.Prelude.{IfSome}
use Rattle.std.proofs.lemmas.Result.{IfOk-weaker}
use Rattle.cue_eval.specs.Inner.Written.{IsAllBut, IsAllButIntegers, IsAllButTexts}
use Rattle.cue_eval.proofs.AllBut.{some_others}
use Rattle.cue_eval.proofs.OtherIntegers as integers
use Rattle.cue_eval.proofs.OtherTexts as texts
use Rattle.cue_eval.proofs.pair.all_but.Goals as goal

pub returns-in-OtherText : goal.returns-in-OtherText
returns-in-OtherText c =
    let parts = c.args.parts.now in
    IfOk-weaker c.all_but_texts.result (λ found. IfSome found (IsAllButTexts parts)) (λ found. IfSome found (IsAllBut parts))
    (λ found. some_others (IsAllButTexts parts) (IsAllBut parts) found (texts.others_known parts)) c.all_but_texts.ensures

pub returns-in-OtherInteger : goal.returns-in-OtherInteger
returns-in-OtherInteger c =
    let parts = c.args.parts.now in
    IfOk-weaker c.all_but_integers.result (λ found. IfSome found (IsAllButIntegers parts)) (λ found. IfSome found (IsAllBut parts))
    (λ found. some_others (IsAllButIntegers parts) (IsAllBut parts) found (integers.others_known parts)) c.all_but_integers.ensures
