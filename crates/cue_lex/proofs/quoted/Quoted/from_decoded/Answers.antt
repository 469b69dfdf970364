use Rattle.std.proofs.Common.{sym, subst, string_bytes}
use Rattle.std.proofs.lemmas.Str.{IsUtf8-string_bytes}
use Rattle.cue_lattice.specs.Word.{IsWord}
use Rattle.cue_lex.proofs.quoted.Quoted.from_decoded.Goals as goal

pub invariant_of-result : goal.invariant_of-result
invariant_of-result c =
    let word : IsWord (string_bytes c.args.text) = record { utf8 = IsUtf8-string_bytes c.args.text; short = c.requires } in
    subst (λ text. IsWord (string_bytes text)) (sym c.in_ok-new.ensures.ok) word
