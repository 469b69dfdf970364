use Rattle.cue_net.proofs.serving.serve_one.Goals as goal

pub returns : goal.returns
returns g c =
    let passage = c.serve-ended.ensures.passage in
    (passage.0, c.serve-ended.result, passage.1, passage.2)
