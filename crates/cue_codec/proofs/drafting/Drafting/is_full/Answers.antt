use Rattle.std.proofs.Common.{◌≡◌, ◌++◌, sym, subst}
use Rattle.cue_codec.specs.Decoding.{NoRows}
use Rattle.cue_codec.specs.Inner.Drafting.{RowsRead, rows_in}
use Rattle.cue_codec.proofs.Drafted.{next_trailing}
use Rattle.cue_codec.proofs.drafting.Drafting.is_full.Goals as goal

pub returns-clause-trailing : goal.returns-clause-trailing
returns-clause-trailing c = λ none more some.
    let i = c.self.inside in
    let full = subst (λ (v : RowsRead). v.left ≡ 0) (sym c.self.view_is) none in
    subst (λ (v : RowsRead). NoRows v.version v.count (v.bytes ++ more)) c.self.view_is (next_trailing i.version i.count i.left (rows_in i.draft) i.indexes.items i.known c.self.invariant.read full more some)
