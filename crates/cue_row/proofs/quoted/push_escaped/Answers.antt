use Rattle.std.proofs.Common.{◌≡◌, true, ◌++◌, ap, sym, ◌∙◌, string_bytes}
use Rattle.std.specs.List.{flat_map, list_all}
use Rattle.std.proofs.lemmas.Iterator.{YieldsList-from_chars}
use Rattle.std.proofs.lemmas.Iterator.Consumers.{YieldsList-end}
use Rattle.std.proofs.lemmas.List.{map-id}
use Rattle.cue_row.specs.Quoted.{char_text}
use Rattle.cue_row.specs.Inner.Quoted.{is_plain_byte}
use Rattle.cue_row.proofs.Begun.{begins_more, begins_on, on_err}
use Rattle.cue_row.proofs.Plain.{plain_text}
use Rattle.cue_row.proofs.quoted.push_escaped.Goals as goal

pub returns-then-is_plain-clause-written : goal.returns-then-is_plain-clause-written
returns-then-is_plain-clause-written c =
    let plain : list_all is_plain_byte c.args.text.now ≡ true = ap (λ t. list_all is_plain_byte t) (sym c.as_bytes.ensures.value) ∙ sym c.is_plain.ensures ∙ c.if-is_plain.true in
    c.in_ok-push_str.ensures.bytes ∙ ap (λ t. string_bytes c.args.out.now ++ t) (sym (plain_text c.args.text.now plain))

pub returns-clause-written : goal.returns-clause-written
returns-clause-written c =
    let all = YieldsList-end (YieldsList-from_chars c.args.text.now c.utf8.text cc) c.loop-character.yielded _ c.loop-character.yielded_by _ _ c.in-None.is c.next.ensures.steps in
    c.loop-character.invariant ∙ ap (λ cs. string_bytes c.args.out.now ++ flat_map char_text cs) (sym (map-id c.loop-character.yielded) ∙ all.0)

pub returns-in_err-push_char-clause-kept : goal.returns-in_err-push_char-clause-kept
returns-in_err-push_char-clause-kept c =
    on_err c.from_residual-in_err-push_char.result
    (begins_on _ _ _ (begins_more _ _ _ c.loop-character.invariant) c.in_err-push_char.ensures.kept)
