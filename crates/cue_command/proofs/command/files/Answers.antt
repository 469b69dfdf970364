use Rattle.std.proofs.Common.{◌∙◌, ap, codes, unwrap_or, [], List, Option}
use Rattle.std.proofs.lemmas.Result.{IfOk-weaker}
use Rattle.clap.specs.Matches.{found_of}
use Rattle.clap.specs.Walk.{Text, texts}
use Rattle.cue_command.proofs.Found.{all_by_rows}
use Rattle.cue_command.proofs.command.files.Goals as goal

pub returns-in-Some : goal.returns-in-Some
returns-in-Some c = IfOk-weaker c.copy_words.result _ _
    (λ v h. ap texts h ∙ ap (λ (o : Option (List Text)). unwrap_or o []) (c.in-Some.ensures ∙ all_by_rows (found_of c.args.found.now) (codes "FILE"))) c.copy_words.ensures

pub returns-in-None : goal.returns-in-None
returns-in-None c =
    ap texts c.new.ensures.items ∙ ap (λ (o : Option (List Text)). unwrap_or o []) (c.in-None.ensures ∙ all_by_rows (found_of c.args.found.now) (codes "FILE"))
