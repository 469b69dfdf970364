use Rattle.std.proofs.Common.{◌^◌, ◌++◌, arith}
use Rattle.std.specs.Int.{w64, to_be_bytes}
use Rattle.std.specs.List.{flat_map}
use Rattle.std.proofs.lemmas.Result.{IfOk-weaker, IfErr-weaker}
use Rattle.cue_codec.specs.Parts.{counted_bytes, text_bytes}
use Rattle.cue_codec.specs.Reading.{ReadsItem, ReadsNoItem, AreCounted, IsWord}
use Rattle.cue_codec.specs.Inner.Reading.{AreSo, IsNoneRead}
use Rattle.cue_codec.proofs.Codes.{counted_found, counted_none, counted_short, front_more, unread_so}
use Rattle.cue_codec.proofs.Numbers.{number_missing, number_takes, read64}
use Rattle.cue_codec.proofs.lists.texts_at.Goals as goal

pub returns-in_default-clause-refused : goal.returns-in_default-clause-refused
returns-in_default-clause-refused c = counted_short IsWord text_bytes c.args.bytes.now (number_missing w64 c.args.bytes.now c.in_default.ensures)

pub returns-clause-ok : goal.returns-clause-ok
returns-clause-ok c =
    let t = number_takes w64 (2 ^ 64) read64 c.args.bytes.now c.in-Some.count c.in-Some.rest.now (λ i. omega (arith, c.type_inv.bytes i)) c.in-Some.ensures in
    IfOk-weaker c.each_text.result (λ x. ReadsItem (AreSo IsWord c.in-Some.count) (flat_map text_bytes) x.0.items c.in-Some.rest.now x.1.now) (λ x. ReadsItem (AreCounted IsWord) (counted_bytes text_bytes) x.0.items c.args.bytes.now x.1.now)
    (λ x b. counted_found IsWord text_bytes c.in-Some.count x.0.items c.args.bytes.now c.in-Some.rest.now x.1.now t.1 t.0 b) c.each_text.ensures.ok

pub returns-clause-refused : goal.returns-clause-refused
returns-clause-refused c =
    let t = number_takes w64 (2 ^ 64) read64 c.args.bytes.now c.in-Some.count c.in-Some.rest.now (λ i. omega (arith, c.type_inv.bytes i)) c.in-Some.ensures in
    IfErr-weaker c.each_text.result (λ why. IsNoneRead why (ReadsNoItem (AreSo IsWord c.in-Some.count) (flat_map text_bytes)) c.in-Some.rest.now) (λ why. IsNoneRead why (ReadsNoItem (AreCounted IsWord) (counted_bytes text_bytes)) c.args.bytes.now)
    (λ why. unread_so why (ReadsNoItem (AreSo IsWord c.in-Some.count) (flat_map text_bytes)) (ReadsNoItem (AreCounted IsWord) (counted_bytes text_bytes)) c.in-Some.rest.now c.args.bytes.now
    (λ more. counted_none IsWord text_bytes c.in-Some.count (c.args.bytes.now ++ more) (c.in-Some.rest.now ++ more) t.1 (front_more c.args.bytes.now (to_be_bytes w64 c.in-Some.count) c.in-Some.rest.now more t.0))) c.each_text.ensures.refused
