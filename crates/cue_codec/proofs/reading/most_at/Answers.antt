use Rattle.std.proofs.Common.{arith, ◌∷◌, ◌++◌, ℕ, ◌∙◌, ap}
use Rattle.cue_codec.proofs.Codes.{tag_more}
use Rattle.cue_codec.proofs.Numbers.{IsBytes, IsBytes-rest, most_empty, most_tag, most_cut, most_without, most_found}
use Rattle.cue_codec.proofs.reading.most_at.Goals as goal

pub returns-in_default-clause-refused : goal.returns-in_default-clause-refused
returns-in_default-clause-refused c = most_empty c.args.bytes.now c.in_default.ensures.cases

pub returns-in_default-u32_at-clause-refused : goal.returns-in_default-u32_at-clause-refused
returns-in_default-u32_at-clause-refused c =
    most_cut c.args.bytes.now c.in-Some.rest.now (c.in-Some.ensures.cases.0 ∙ ap (λ (t : ℕ). t ∷ c.in-Some.rest.now) c.in-1.is) c.in_default-u32_at.ensures

pub returns-in-0-clause-ok : goal.returns-in-0-clause-ok
returns-in-0-clause-ok c = most_without c.args.bytes.now c.in-Some.rest.now (c.in-Some.ensures.cases.0 ∙ ap (λ (t : ℕ). t ∷ c.in-Some.rest.now) c.in-0.is)

pub returns-in-Some-u32_at-clause-ok : goal.returns-in-Some-u32_at-clause-ok
returns-in-Some-u32_at-clause-ok c =
    let whole = c.in-Some.ensures.cases.0 ∙ ap (λ (t : ℕ). t ∷ c.in-Some.rest.now) c.in-1.is in
    let fits : IsBytes c.args.bytes.now = λ i. omega (arith, c.type_inv.bytes i) in
    most_found c.args.bytes.now c.in-Some.rest.now c.in-Some-u32_at.rest.now c.in-Some-u32_at.most (IsBytes-rest 1 c.args.bytes.now c.in-Some.rest.now whole fits) whole c.in-Some-u32_at.ensures

pub returns-in-2-to-255-clause-refused : goal.returns-in-2-to-255-clause-refused
returns-in-2-to-255-clause-refused c = λ more.
    most_tag (c.args.bytes.now ++ more) (c.in-Some.rest.now ++ more) c.in-Some.tag.now (tag_more c.args.bytes.now c.in-Some.rest.now c.in-Some.tag.now more c.in-Some.ensures.cases.0) (omega (arith, c.in-2-to-255))
