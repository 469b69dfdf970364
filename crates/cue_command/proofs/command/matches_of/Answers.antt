use Rattle.std.proofs.Common.{◌∙◌, inl, inr, map, string_bytes}
use Rattle.cue_command.proofs.Meaning.{all_text, found_is, refused_is}
use Rattle.cue_command.proofs.command.matches_of.Goals as goal

pub returns-in-Ok-clause-found : goal.returns-in-Ok-clause-found
returns-in-Ok-clause-found c =
    found_is _ (map string_bytes c.args.words.now) c.in-Ok.matches c.in_ok-store.ensures.0 (all_text c.args.words.now) c.in-Ok.ensures.kinds c.in-Ok.ensures.matches

pub returns-in-Err-clause-fault : goal.returns-in-Err-clause-fault
returns-in-Err-clause-fault c = elim c.usage_fault.ensures.fault [
  | inl usage ↦ inl (
    usage,
    refused_is _ (map string_bytes c.args.words.now) c.in-Err.error c.in_ok-store.ensures.0 (all_text c.args.words.now) c.in-Err.ensures.kinds
        (λ memory. c.usage_fault.ensures.usage usage (c.kind.ensures ∙ memory)),
  )
  | inr memory ↦ inr memory
]
