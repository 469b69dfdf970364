use Rattle.std.proofs.Common.{codes, ap, ◌∙◌, ◌++◌, string_bytes}
use Rattle.cue_lattice.specs.Path.{index}
use Rattle.cue_row.specs.PathText.{step_text}
use Rattle.cue_report.specs.Lines.{report_line_end}
use Rattle.cue_report.proofs.Texts.{four_pieces}
use Rattle.cue_report.proofs.written.Written.element_line.Goals as goal

pub returns-clause-line : goal.returns-clause-line
returns-clause-line g c =
    four_pieces (string_bytes c.clear.new.self) (codes "incomplete ") (string_bytes c.args.self.now.list) (step_text (index c.args.number)) (report_line_end (codes "not a single value"))
    (string_bytes c.push_str.new.self) (string_bytes c.push_str-2.new.self) (string_bytes c.push_index.new.out) (string_bytes c.end_line.new.out)
    c.in_ok-push_str.ensures.bytes (c.in_ok-push_str-2.ensures.bytes ∙ ap (λ t. string_bytes c.push_str.new.self ++ t) c.as_str.ensures.value)
    c.in_ok-push_index.ensures
    (c.in_ok-end_line.ensures ∙ ap (λ why. string_bytes c.push_index.new.out ++ report_line_end why) c.gap_reason.ensures)
    ∙ ap (λ front. front ++ (codes "incomplete " ++ (string_bytes c.args.self.now.list ++ (step_text (index c.args.number) ++ report_line_end (codes "not a single value"))))) c.clear.ensures.bytes
