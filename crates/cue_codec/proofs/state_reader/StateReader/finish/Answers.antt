use Rattle.std.proofs.Common.{◌≡◌, List, ℕ, refl, sym, ap, subst, ◌∙◌}
use Rattle.std.proofs.lemmas.Bool.{false≢true}
use Rattle.std.proofs.lemmas.Result.{err_from_is_err_and}
use Rattle.cue_lattice.specs.declared.refusal.Kind.TheVariants as kinds
use Rattle.cue_codec.specs.Inner.Intakes.{with_head, intake_of, IsSound}
use Rattle.cue_codec.specs.Pieces.{Intake, so_far, IsReadTable, IsIntakeUnread}
use Rattle.cue_codec.specs.State.{table_bytes_in, IsTableBytes}
use Rattle.cue_table.specs.Tree.{empty}
use Rattle.cue_table.specs.Valid.{IsValidTable}
use Rattle.cue_table.proofs.ValidWalks.{empty_valid}
use Rattle.cue_codec.proofs.Fed.{head_fits}
use Rattle.cue_codec.proofs.ReadStates.{undecoded_rows, undecoded_table, decoded_bytes, opening_bytes, opening_rows}
use Rattle.cue_codec.proofs.state_reader.StateReader.finish.Goals as goal

taken_bytes : (a b : List ℕ) → so_far a ≡ so_far b → a ≡ b
taken_bytes a b e = cc

pub returns-in_err-table-in-Rows-clause-refused : goal.returns-in_err-table-in-Rows-clause-refused
returns-in_err-table-in-Rows-clause-refused c =
    let p = err_from_is_err_and c.from_residual.result c.from_residual.ensures.1 in
    let r = c.in-Rows.rows in
    let kind = c.in_err-table-in-Rows.field-0.0 in
    let is = ap intake_of (sym c.in-Rows.is) ∙ c.self.view_is in
    let small = subst IsSound c.in-Rows.is c.self.invariant in
    rw (p.1, p.2)
    (subst (λ (v : Intake). IsIntakeUnread v kind) is
    (undecoded_rows r.version (with_head r.version r.count r.bytes) r.bytes r.count kind refl small (head_fits r.version r.count r.bytes c.finish.ensures.fits) c.in_err-table-in-Rows.ensures.refused))

pub returns-then-not-is_valid-clause-refused : goal.returns-then-not-is_valid-clause-refused
returns-then-not-is_valid-clause-refused c =
    let r = c.in-Rows.rows in
    let is = ap intake_of (sym c.in-Rows.is) ∙ c.self.view_is in
    let small = subst IsSound c.in-Rows.is c.self.invariant in
    subst (λ (v : Intake). IsIntakeUnread v kinds.NotState) is
    (undecoded_table r.version (with_head r.version r.count r.bytes) r.bytes r.count c.in_ok-table-in-Rows.table refl small (head_fits r.version r.count r.bytes c.finish.ensures.fits) c.in_ok-table-in-Rows.ensures.ok (λ valid. false≢true (sym c.if-not-is_valid.true ∙ c.is_valid.ensures.1 valid)))

pub returns-else-not-is_valid-clause-bytes : goal.returns-else-not-is_valid-clause-bytes
returns-else-not-is_valid-clause-bytes c =
    let r = c.in-Rows.rows in
    let is = ap intake_of (sym c.in-Rows.is) ∙ c.self.view_is in
    subst (λ (v : Intake). IsReadTable v c.in_ok-table-in-Rows.table) is
    (decoded_bytes r.version (with_head r.version r.count r.bytes) r.bytes r.count c.in_ok-table-in-Rows.table refl c.in_ok-table-in-Rows.ensures.ok)

-- ---- the state without rows
pub returns-then-is_none-clause-valid : goal.returns-then-is_none-clause-valid
returns-then-is_none-clause-valid c = subst IsValidTable (sym c.new.ensures) empty_valid

pub returns-then-is_none-clause-bytes : goal.returns-then-is_none-clause-bytes
returns-then-is_none-clause-bytes c =
    let r = c.in-Rows.rows in
    let is = ap intake_of (sym c.in-Rows.is) ∙ c.self.view_is in
    subst (λ (v : Intake). IsReadTable v c.new.result) is
    (subst (IsTableBytes (with_head r.version r.count r.bytes)) (sym c.new.ensures) (opening_bytes r.version (with_head r.version r.count r.bytes) r.bytes r.count refl (c.is_none.ensures.0 c.if-is_none.true)))

pub returns-in_err-table-in-Rows-clause-opening : goal.returns-in_err-table-in-Rows-clause-opening
returns-in_err-table-in-Rows-clause-opening c = λ version own.
    let r = c.in-Rows.rows in
    let is = ap intake_of (sym c.in-Rows.is) ∙ c.self.view_is in
    let small = subst IsSound c.in-Rows.is c.self.invariant in
    let bytes = taken_bytes (with_head r.version r.count r.bytes) (table_bytes_in version empty) (is ∙ own) in
    absurd (false≢true (sym c.if-is_none.false ∙ c.is_none.ensures.1 (opening_rows r.version version (with_head r.version r.count r.bytes) r.bytes r.count refl small bytes)))

pub returns-then-not-is_valid-clause-opening : goal.returns-then-not-is_valid-clause-opening
returns-then-not-is_valid-clause-opening c = λ version own.
    let r = c.in-Rows.rows in
    let is = ap intake_of (sym c.in-Rows.is) ∙ c.self.view_is in
    let small = subst IsSound c.in-Rows.is c.self.invariant in
    let bytes = taken_bytes (with_head r.version r.count r.bytes) (table_bytes_in version empty) (is ∙ own) in
    absurd (false≢true (sym c.if-is_none.false ∙ c.is_none.ensures.1 (opening_rows r.version version (with_head r.version r.count r.bytes) r.bytes r.count refl small bytes)))
