use Rattle.std.proofs.Common.{◌<◌, ◌^◌, ◌++◌, length, sym, subst, ◌∙◌, arith}
use Rattle.std.proofs.lemmas.Bool.{false≢true}
use Rattle.std.proofs.lemmas.Result.{err_from_is_err_and}
use Rattle.cue_table.specs.Valid.{IsValidTable}
use Rattle.cue_table.proofs.ValidWalks.{empty_valid}
use Rattle.cue_codec.specs.Decoding.{AreReadRows, NoRows}
use Rattle.cue_codec.specs.Inner.Drafting.{RowsRead}
use Rattle.cue_codec.specs.Reading.{IsReadRefused}
use Rattle.cue_codec.specs.State.{IsTableBytes}
use Rattle.cue_codec.proofs.ReadStates.{undecoded_rows, undecoded_table, decoded_bytes, opening_begins, opening_bytes, opening_rows}
use Rattle.cue_codec.proofs.decoding.decode.Goals as goal

pub returns-clause-bytes : goal.returns-clause-bytes
returns-clause-bytes c =
    let rest = c.in_ok-version.rest.now in
    let table = c.in_ok-table.table in
    let read = subst (λ (r : RowsRead). AreReadRows r.version r.count (r.bytes ++ rest) table) c.new-2.ensures c.in_ok-table.ensures.ok in
    decoded_bytes c.in_ok-version.version c.args.bytes.now rest c.in_ok-version.count table c.in_ok-version.ensures.ok read

pub returns-in_err-table-clause-refused : goal.returns-in_err-table-clause-refused
returns-in_err-table-clause-refused c =
    let p = err_from_is_err_and c.from_residual-in_err-table.result c.from_residual-in_err-table.ensures.1 in
    let rest = c.in_ok-version.rest.now in
    let kind = c.in_err-table.field-0.0 in
    let fits : length c.args.bytes.now < 2 ^ 64 = omega arith in
    let none = subst (λ (r : RowsRead). IsReadRefused kind (NoRows r.version r.count (r.bytes ++ rest))) c.new-2.ensures c.in_err-table.ensures.refused in
    rw (p.1, p.2) (undecoded_rows c.in_ok-version.version c.args.bytes.now rest c.in_ok-version.count kind c.in_ok-version.ensures.ok c.in_ok-version.ensures.small fits none)

pub returns-then-not-is_valid-clause-refused : goal.returns-then-not-is_valid-clause-refused
returns-then-not-is_valid-clause-refused c =
    let rest = c.in_ok-version.rest.now in
    let table = c.in_ok-table.table in
    let fits : length c.args.bytes.now < 2 ^ 64 = omega arith in
    let read = subst (λ (r : RowsRead). AreReadRows r.version r.count (r.bytes ++ rest) table) c.new-2.ensures c.in_ok-table.ensures.ok in
    undecoded_table c.in_ok-version.version c.args.bytes.now rest c.in_ok-version.count table c.in_ok-version.ensures.ok c.in_ok-version.ensures.small fits read (λ valid. false≢true (sym c.if-not-is_valid.true ∙ c.is_valid.ensures.1 valid))

-- ---- the state without rows
pub returns-in_err-version-clause-opening : goal.returns-in_err-version-clause-opening
returns-in_err-version-clause-opening c = λ version is. absurd (c.in_err-version.ensures.begun (opening_begins version c.args.bytes.now is))

pub returns-then-are_none-clause-valid : goal.returns-then-are_none-clause-valid
returns-then-are_none-clause-valid c = subst IsValidTable (sym c.new.ensures) empty_valid

pub returns-then-are_none-clause-bytes : goal.returns-then-are_none-clause-bytes
returns-then-are_none-clause-bytes c =
    subst (IsTableBytes c.args.bytes.now) (sym c.new.ensures) (opening_bytes c.in_ok-version.version c.args.bytes.now c.in_ok-version.rest.now c.in_ok-version.count c.in_ok-version.ensures.ok (c.are_none.ensures.0 c.if-are_none.true))

pub returns-in_err-table-clause-opening : goal.returns-in_err-table-clause-opening
returns-in_err-table-clause-opening c = λ version is.
    let none = opening_rows c.in_ok-version.version version c.args.bytes.now c.in_ok-version.rest.now c.in_ok-version.count c.in_ok-version.ensures.ok c.in_ok-version.ensures.small is in
    absurd (false≢true (sym c.if-are_none.false ∙ c.are_none.ensures.1 none))

pub returns-then-not-is_valid-clause-opening : goal.returns-then-not-is_valid-clause-opening
returns-then-not-is_valid-clause-opening c = λ version is.
    let none = opening_rows c.in_ok-version.version version c.args.bytes.now c.in_ok-version.rest.now c.in_ok-version.count c.in_ok-version.ensures.ok c.in_ok-version.ensures.small is in
    absurd (false≢true (sym c.if-are_none.false ∙ c.are_none.ensures.1 none))
