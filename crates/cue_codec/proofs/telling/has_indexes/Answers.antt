use Rattle.std.proofs.Common.{[], sym, ap, ◌∙◌}
use Rattle.std.proofs.lemmas.List.{append-nil}
use Rattle.cue_codec.specs.Entry.{indexes_of}
use Rattle.cue_codec.proofs.telling.has_indexes.Goals as goal

pub returns-in-None : goal.returns-in-None
returns-in-None c = (
  λ no. absurd (cc),
  λ is. absurd (c.in-None.ensures.none [] (is ∙ ap (indexes_of c.args.version) (sym c.root.ensures.branch) ∙ sym (append-nil _))),
)
