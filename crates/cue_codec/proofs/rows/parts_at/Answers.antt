use Rattle.std.proofs.Common.{◌++◌, arith, refl}
use Rattle.std.proofs.lemmas.Result.{IfOk-weaker, IfErr-weaker}
use Rattle.cue_codec.specs.Parts.{labels_bytes, lengths_bytes}
use Rattle.cue_codec.specs.Reading.{ReadsNoItem, AreWideLengths}
use Rattle.cue_codec.specs.Inner.Reading.{IsNoneRead}
use Rattle.cue_codec.specs.StateRow.{AreStateLabels}
use Rattle.cue_codec.specs.RowBytes.{scalar, struct, list, nothing, scalars_bytes, left_out_bytes, row_part_bytes, AreScalarParts, AreLeftOut, IsStateParts, ReadsPart}
use Rattle.cue_codec.proofs.Codes.{tag_more, unread_so}
use Rattle.cue_codec.proofs.RowParts.{parts_empty, parts_tag, parts_scalar, parts_struct, parts_list, parts_nothing, free_found, scalar_found, struct_found, list_found, nothing_found}
use Rattle.cue_codec.proofs.rows.parts_at.Goals as goal

pub returns-in_default-clause-refused : goal.returns-in_default-clause-refused
returns-in_default-clause-refused c = parts_empty c.args.version c.args.bytes.now c.in_default.ensures.cases

pub returns-in-0-clause-ok : goal.returns-in-0-clause-ok
returns-in-0-clause-ok c =
    free_found c.args.version c.args.bytes.now c.in-Some.rest.now c.in-Some.tag.now c.args.level c.of_anything.result 0 c.in-Some.ensures.cases.0 c.in-0.is c.of_anything.ensures refl

pub returns-in-5-to-255-clause-refused : goal.returns-in-5-to-255-clause-refused
returns-in-5-to-255-clause-refused c = λ more.
    parts_tag c.args.version (c.args.bytes.now ++ more) (c.in-Some.rest.now ++ more) c.in-Some.tag.now (tag_more c.args.bytes.now c.in-Some.rest.now c.in-Some.tag.now more c.in-Some.ensures.cases.0) (omega (arith, c.in-5-to-255))

pub returns-in-1-clause-ok : goal.returns-in-1-clause-ok
returns-in-1-clause-ok c =
    IfOk-weaker c.scalar_at.result (λ x. ReadsPart (λ sets. scalar sets.0 sets.1) AreScalarParts scalars_bytes c.args.level x.0 x.1 c.in-Some.rest.now x.2.now) (λ x. ReadsPart (λ parts. parts) (IsStateParts c.args.version) (row_part_bytes c.args.version) c.args.level x.0 x.1 c.args.bytes.now x.2.now)
    (λ x r. scalar_found c.args.version c.args.bytes.now c.in-Some.rest.now x.2.now c.in-Some.tag.now c.args.level x.0 x.1 c.in-Some.ensures.cases.0 c.in-1.is r) c.scalar_at.ensures.ok

pub returns-in-1-clause-refused : goal.returns-in-1-clause-refused
returns-in-1-clause-refused c =
    IfErr-weaker c.scalar_at.result (λ why. IsNoneRead why (ReadsNoItem AreScalarParts scalars_bytes) c.in-Some.rest.now) (λ why. IsNoneRead why (ReadsNoItem (IsStateParts c.args.version) (row_part_bytes c.args.version)) c.args.bytes.now)
    (λ why. unread_so why _ _ c.in-Some.rest.now c.args.bytes.now
    (λ more. parts_scalar c.args.version (c.args.bytes.now ++ more) (c.in-Some.rest.now ++ more) c.in-Some.tag.now (tag_more c.args.bytes.now c.in-Some.rest.now c.in-Some.tag.now more c.in-Some.ensures.cases.0) c.in-1.is)) c.scalar_at.ensures.refused

pub returns-in-2-clause-ok : goal.returns-in-2-clause-ok
returns-in-2-clause-ok c =
    IfOk-weaker c.struct_at.result (λ x. ReadsPart struct AreStateLabels labels_bytes c.args.level x.0 x.1 c.in-Some.rest.now x.2.now) (λ x. ReadsPart (λ parts. parts) (IsStateParts c.args.version) (row_part_bytes c.args.version) c.args.level x.0 x.1 c.args.bytes.now x.2.now)
    (λ x r. struct_found c.args.version c.args.bytes.now c.in-Some.rest.now x.2.now c.in-Some.tag.now c.args.level x.0 x.1 c.in-Some.ensures.cases.0 c.in-2.is r) c.struct_at.ensures.ok

pub returns-in-2-clause-refused : goal.returns-in-2-clause-refused
returns-in-2-clause-refused c =
    IfErr-weaker c.struct_at.result (λ why. IsNoneRead why (ReadsNoItem AreStateLabels labels_bytes) c.in-Some.rest.now) (λ why. IsNoneRead why (ReadsNoItem (IsStateParts c.args.version) (row_part_bytes c.args.version)) c.args.bytes.now)
    (λ why. unread_so why _ _ c.in-Some.rest.now c.args.bytes.now
    (λ more. parts_struct c.args.version (c.args.bytes.now ++ more) (c.in-Some.rest.now ++ more) c.in-Some.tag.now (tag_more c.args.bytes.now c.in-Some.rest.now c.in-Some.tag.now more c.in-Some.ensures.cases.0) c.in-2.is)) c.struct_at.ensures.refused

pub returns-in-3-clause-ok : goal.returns-in-3-clause-ok
returns-in-3-clause-ok c =
    IfOk-weaker c.list_at.result (λ x. ReadsPart list (AreWideLengths c.args.version) (lengths_bytes c.args.version) c.args.level x.0 x.1 c.in-Some.rest.now x.2.now) (λ x. ReadsPart (λ parts. parts) (IsStateParts c.args.version) (row_part_bytes c.args.version) c.args.level x.0 x.1 c.args.bytes.now x.2.now)
    (λ x r. list_found c.args.version c.args.bytes.now c.in-Some.rest.now x.2.now c.in-Some.tag.now c.args.level x.0 x.1 c.in-Some.ensures.cases.0 c.in-3.is r) c.list_at.ensures.ok

pub returns-in-3-clause-refused : goal.returns-in-3-clause-refused
returns-in-3-clause-refused c =
    IfErr-weaker c.list_at.result (λ why. IsNoneRead why (ReadsNoItem (AreWideLengths c.args.version) (lengths_bytes c.args.version)) c.in-Some.rest.now) (λ why. IsNoneRead why (ReadsNoItem (IsStateParts c.args.version) (row_part_bytes c.args.version)) c.args.bytes.now)
    (λ why. unread_so why _ _ c.in-Some.rest.now c.args.bytes.now
    (λ more. parts_list c.args.version (c.args.bytes.now ++ more) (c.in-Some.rest.now ++ more) c.in-Some.tag.now (tag_more c.args.bytes.now c.in-Some.rest.now c.in-Some.tag.now more c.in-Some.ensures.cases.0) c.in-3.is)) c.list_at.ensures.refused

pub returns-in-4-clause-ok : goal.returns-in-4-clause-ok
returns-in-4-clause-ok c =
    IfOk-weaker c.nothing_at.result (λ x. ReadsPart (λ parts. nothing parts.0 parts.1) (AreLeftOut c.args.version) (left_out_bytes c.args.version) c.args.level x.0 x.1 c.in-Some.rest.now x.2.now) (λ x. ReadsPart (λ parts. parts) (IsStateParts c.args.version) (row_part_bytes c.args.version) c.args.level x.0 x.1 c.args.bytes.now x.2.now)
    (λ x r. nothing_found c.args.version c.args.bytes.now c.in-Some.rest.now x.2.now c.in-Some.tag.now c.args.level x.0 x.1 c.in-Some.ensures.cases.0 c.in-4.is r) c.nothing_at.ensures.ok

pub returns-in-4-clause-refused : goal.returns-in-4-clause-refused
returns-in-4-clause-refused c =
    IfErr-weaker c.nothing_at.result (λ why. IsNoneRead why (ReadsNoItem (AreLeftOut c.args.version) (left_out_bytes c.args.version)) c.in-Some.rest.now) (λ why. IsNoneRead why (ReadsNoItem (IsStateParts c.args.version) (row_part_bytes c.args.version)) c.args.bytes.now)
    (λ why. unread_so why _ _ c.in-Some.rest.now c.args.bytes.now
    (λ more. parts_nothing c.args.version (c.args.bytes.now ++ more) (c.in-Some.rest.now ++ more) c.in-Some.tag.now (tag_more c.args.bytes.now c.in-Some.rest.now c.in-Some.tag.now more c.in-Some.ensures.cases.0) c.in-4.is)) c.nothing_at.ensures.refused
