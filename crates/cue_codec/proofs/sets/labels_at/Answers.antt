use Rattle.std.proofs.Common.{◌++◌, sym, ap, subst, ◌∙◌}
use Rattle.cue_row.specs.LabelSets.{AreLabels}
use Rattle.std.proofs.lemmas.Result.{err_from_is_err_and}
use Rattle.cue_codec.specs.Parts.{bit, counted_bytes, text_bytes}
use Rattle.cue_codec.specs.Reading.{AreCounted, IsWord}
use Rattle.cue_codec.proofs.Codes.{begins_more, tag_more, unread_so}
use Rattle.cue_codec.proofs.StateSets.{labels_empty, labels_tag, labels_rest, labels_other, labels_all, labels_found}
use Rattle.cue_codec.proofs.sets.labels_at.Goals as goal

pub returns-in_default-clause-refused : goal.returns-in_default-clause-refused
returns-in_default-clause-refused c = labels_empty c.args.bytes.now c.in_default.ensures.cases

pub returns-in_default-bit_of-clause-refused : goal.returns-in_default-bit_of-clause-refused
returns-in_default-bit_of-clause-refused c = λ more.
    labels_tag (c.args.bytes.now ++ more) (c.in-Some.rest.now ++ more) c.in-Some.tag.now (tag_more c.args.bytes.now c.in-Some.rest.now c.in-Some.tag.now more c.in-Some.ensures.cases.0) c.in_default-bit_of.ensures.none

pub returns-then-not-is_listed-clause-ok : goal.returns-then-not-is_listed-clause-ok
returns-then-not-is_listed-clause-ok c =
    labels_all c.args.bytes.now c.in-Some.rest.now c.in-Some.tag.now c.all.result c.in-Some.ensures.cases.0 (sym c.in-Some-bit_of.ensures.some ∙ ap bit c.if-not-is_listed.true) c.all.ensures

pub returns-in_err-texts-clause-refused : goal.returns-in_err-texts-clause-refused
returns-in_err-texts-clause-refused c =
    let p = err_from_is_err_and c.from_residual.result c.from_residual.ensures.1 in
    rw (p.1, p.2)
    (unread_so c.in_err-texts.field-0.0 _ _ c.in-Some.rest.now c.args.bytes.now (λ more. labels_rest (c.args.bytes.now ++ more) (c.in-Some.rest.now ++ more) c.in-Some.tag.now (tag_more c.args.bytes.now c.in-Some.rest.now c.in-Some.tag.now more c.in-Some.ensures.cases.0) (sym c.in-Some-bit_of.ensures.some ∙ ap bit c.if-not-is_listed.false)) c.in_err-texts.ensures.refused)

pub returns-in_default-listing-clause-refused : goal.returns-in_default-listing-clause-refused
returns-in_default-listing-clause-refused c = λ more.
    labels_other (c.args.bytes.now ++ more) (c.in-Some.rest.now ++ more) (c.in_ok-texts.rest.now ++ more) c.in-Some.tag.now c.in_ok-texts.texts.items (tag_more c.args.bytes.now c.in-Some.rest.now c.in-Some.tag.now more c.in-Some.ensures.cases.0) (sym c.in-Some-bit_of.ensures.some ∙ ap bit c.if-not-is_listed.false)
    (begins_more (AreCounted IsWord) (counted_bytes text_bytes) c.in_ok-texts.texts.items c.in-Some.rest.now c.in_ok-texts.rest.now more c.in_ok-texts.ensures.ok) c.in_default-listing.ensures.none

pub returns-clause-ok : goal.returns-clause-ok
returns-clause-ok c =
    labels_found c.args.bytes.now c.in-Some.rest.now c.in_ok-texts.rest.now c.in-Some.tag.now c.in_ok-texts.texts.items c.in-Some-listing.labels c.in-Some.ensures.cases.0 (sym c.in-Some-bit_of.ensures.some ∙ ap bit c.if-not-is_listed.false) c.in_ok-texts.ensures.ok c.in-Some-listing.ensures.some (subst AreLabels c.in-Some-listing.ensures.some c.known.ensures)
