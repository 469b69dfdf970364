use Rattle.std.proofs.Common.{◌≡◌, ◌∙◌, Bool, true, false, Option, Some, sym, subst, Bor}
use Rattle.std.specs.Prelude.{IfSome}
use Rattle.std.specs.Option.{option_map}
use Rattle.std.proofs.lemmas.Bool.{false≢true}
use Rattle.cue_row.specs.Row.{IsRow}
use Rattle.cue_row.specs.declared.parts.RowParts.{RowParts as Row}
use Rattle.cue_report.specs.Inner.GapSearch.{IsGapAt}
use Rattle.cue_report.proofs.Open.{free_gap, missing_gap, open_gap, no_gap}
use Rattle.cue_report.proofs.gap.gap_at.Goals as goal

at : (row : Option (Bor Row)) (found : Bor Row) (missing : Bool) → row ≡ Some found → IsGapAt (Some found.now) missing → IsGapAt (option_map (λ r. r.now) row) missing
at row found missing e g = let P : Option (Bor Row) → Type 0 = λ r. IsGapAt (option_map (λ s. s.now) r) missing in subst P (sym e) g

from : (row : Option (Bor Row)) (found : Bor Row) (missing : Bool) → row ≡ Some found → IsGapAt (option_map (λ r. r.now) row) missing → IsGapAt (Some found.now) missing
from row found missing e g = let P : Option (Bor Row) → Type 0 = λ r. IsGapAt (option_map (λ s. s.now) r) missing in subst P e g

form : (row : Option (Bor Row)) (found : Bor Row) → row ≡ Some found → IfSome row (λ r. IsRow r.now) → IsRow found.now
form row found e h = let P : Option (Bor Row) → Type 0 = λ r. IfSome r (λ s. IsRow s.now) in subst P e h

pub returns-in_default-clause-some : goal.returns-in_default-clause-some
returns-in_default-clause-some c = let P : Option (Bor Row) → Type 0 = λ r. IsGapAt (option_map (λ s. s.now) r) false in subst P (sym c.in_default.is) free_gap

pub returns-in-Required-clause-some : goal.returns-in-Required-clause-some
returns-in-Required-clause-some c =
    at c.args.row c.in-Some.row true c.in-Some.is
    (missing_gap c.in-Some.row.now (form c.args.row c.in-Some.row c.in-Some.is c.requires) (sym c.lacks_value.ensures ∙ c.if-lacks_value.false) (sym c.level.ensures ∙ c.in-Required.is))

pub returns-then-branch : goal.returns-then-branch
returns-then-branch c = record {
  some = at c.args.row c.in-Some.row false c.in-Some.is
      (open_gap c.in-Some.row.now (form c.args.row c.in-Some.row c.in-Some.is c.requires) (sym c.lacks_value.ensures ∙ c.if-lacks_value.false) (λ r. c.in_default-level.not-Required (c.level.ensures ∙ r)) (c.in_ok-is_open.ensures.0 c.if-branch.true));
  none = tt;
}

pub returns : goal.returns
returns c = record {
  some = tt;
  none = λ missing g. no_gap c.in-Some.row.now missing (λ r. c.in_default-level.not-Required (c.level.ensures ∙ r)) (λ o. false≢true (sym c.if-branch.false ∙ c.in_ok-is_open.ensures.1 o))
      (from c.args.row c.in-Some.row missing c.in-Some.is g);
}
