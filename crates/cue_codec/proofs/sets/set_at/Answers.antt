use Rattle.std.proofs.Common.{◌++◌}
use Rattle.std.proofs.lemmas.Result.{err_from_is_err_and}
use Rattle.cue_codec.specs.Parts.{counted_bytes, piece_bytes}
use Rattle.cue_codec.specs.StateRow.{IsStateIntegers}
use Rattle.cue_codec.proofs.Codes.{begins_more, tag_more, unread_so}
use Rattle.cue_codec.proofs.StateSets.{set_empty, set_tag, set_ints, set_texts, set_found}
use Rattle.cue_codec.proofs.sets.set_at.Goals as goal

pub returns-in_default-split_first-clause-refused : goal.returns-in_default-split_first-clause-refused
returns-in_default-split_first-clause-refused c = set_empty c.args.bytes.now c.in_default-split_first.ensures.cases

pub returns-in_default-flags_of-clause-refused : goal.returns-in_default-flags_of-clause-refused
returns-in_default-flags_of-clause-refused c = λ more.
    set_tag (c.args.bytes.now ++ more) (c.in-Some-split_first.rest.now ++ more) c.in-Some-split_first.tag.now (tag_more c.args.bytes.now c.in-Some-split_first.rest.now c.in-Some-split_first.tag.now more c.in-Some-split_first.ensures.cases.0) c.in_default-flags_of.ensures.none

pub returns-in_err-ints-clause-refused : goal.returns-in_err-ints-clause-refused
returns-in_err-ints-clause-refused c =
    let p = err_from_is_err_and c.from_residual.result c.from_residual.ensures.1 in
    rw (p.1, p.2)
    (unread_so c.in_err-ints.field-0.0 _ _ c.in-Some-split_first.rest.now c.args.bytes.now (λ more. set_ints (c.args.bytes.now ++ more) (c.in-Some-split_first.rest.now ++ more) c.in-Some-split_first.tag.now (tag_more c.args.bytes.now c.in-Some-split_first.rest.now c.in-Some-split_first.tag.now more c.in-Some-split_first.ensures.cases.0)) c.in_err-ints.ensures.refused)

pub returns-in_err-texts-clause-refused : goal.returns-in_err-texts-clause-refused
returns-in_err-texts-clause-refused c =
    let p = err_from_is_err_and c.from_residual-in_err-texts.result c.from_residual-in_err-texts.ensures.1 in
    rw (p.1, p.2)
    (unread_so c.in_err-texts.field-0.0 _ _ c.in_ok-ints.rest.now c.args.bytes.now
    (λ more. set_texts (c.args.bytes.now ++ more) (c.in-Some-split_first.rest.now ++ more) (c.in_ok-ints.rest.now ++ more) c.in-Some-split_first.tag.now c.in_ok-ints.ints (tag_more c.args.bytes.now c.in-Some-split_first.rest.now c.in-Some-split_first.tag.now more c.in-Some-split_first.ensures.cases.0)
    (begins_more IsStateIntegers (counted_bytes piece_bytes) c.in_ok-ints.ints c.in-Some-split_first.rest.now c.in_ok-ints.rest.now more c.in_ok-ints.ensures.ok)) c.in_err-texts.ensures.refused)

pub returns-clause-ok : goal.returns-clause-ok
returns-clause-ok c =
    set_found c.args.bytes.now c.in-Some-split_first.rest.now c.in_ok-ints.rest.now c.in_ok-texts.rest.now c.in-Some-split_first.tag.now _ c.in-Some-split_first.ensures.cases.0 c.in-Some-flags_of.ensures.some c.in_ok-ints.ensures.ok c.in_ok-texts.ensures.ok
