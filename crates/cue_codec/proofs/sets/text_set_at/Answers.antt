use Rattle.std.proofs.Common.{◌++◌}
use Rattle.std.proofs.lemmas.Result.{err_from_is_err_and}
use Rattle.cue_codec.specs.Parts.{counted_bytes, text_bytes}
use Rattle.cue_codec.specs.Reading.{AreCounted, IsWord}
use Rattle.cue_codec.proofs.Codes.{begins_more, tag_more, unread_so}
use Rattle.cue_codec.proofs.StateSets.{text_set_empty, text_set_tag, text_set_rest, text_set_other, text_set_found}
use Rattle.cue_codec.proofs.sets.text_set_at.Goals as goal

pub returns-in_default-clause-refused : goal.returns-in_default-clause-refused
returns-in_default-clause-refused c = text_set_empty c.args.bytes.now c.in_default.ensures.cases

pub returns-in_default-bit_of-clause-refused : goal.returns-in_default-bit_of-clause-refused
returns-in_default-bit_of-clause-refused c = λ more.
    text_set_tag (c.args.bytes.now ++ more) (c.in-Some.rest.now ++ more) c.in-Some.tag.now (tag_more c.args.bytes.now c.in-Some.rest.now c.in-Some.tag.now more c.in-Some.ensures.cases.0) c.in_default-bit_of.ensures.none

pub returns-in_err-texts-clause-refused : goal.returns-in_err-texts-clause-refused
returns-in_err-texts-clause-refused c =
    let p = err_from_is_err_and c.from_residual.result c.from_residual.ensures.1 in
    rw (p.1, p.2)
    (unread_so c.in_err-texts.field-0.0 _ _ c.in-Some.rest.now c.args.bytes.now (λ more. text_set_rest (c.args.bytes.now ++ more) (c.in-Some.rest.now ++ more) c.in-Some.tag.now (tag_more c.args.bytes.now c.in-Some.rest.now c.in-Some.tag.now more c.in-Some.ensures.cases.0)) c.in_err-texts.ensures.refused)

pub returns-in_default-from_texts-clause-refused : goal.returns-in_default-from_texts-clause-refused
returns-in_default-from_texts-clause-refused c = λ more.
    text_set_other (c.args.bytes.now ++ more) (c.in-Some.rest.now ++ more) (c.in_ok-texts.rest.now ++ more) c.in-Some.tag.now c.in_ok-texts.texts.items (tag_more c.args.bytes.now c.in-Some.rest.now c.in-Some.tag.now more c.in-Some.ensures.cases.0)
    (begins_more (AreCounted IsWord) (counted_bytes text_bytes) c.in_ok-texts.texts.items c.in-Some.rest.now c.in_ok-texts.rest.now more c.in_ok-texts.ensures.ok) c.in_default-from_texts.ensures.none

pub returns-clause-ok : goal.returns-clause-ok
returns-clause-ok c =
    text_set_found c.args.bytes.now c.in-Some.rest.now c.in_ok-texts.rest.now c.in-Some.tag.now c.in-Some-bit_of.all_but c.in_ok-texts.texts.items c.in-Some-from_texts.set c.in-Some.ensures.cases.0 c.in-Some-bit_of.ensures.some c.in_ok-texts.ensures.ok c.in-Some-from_texts.ensures.some c.known.ensures
