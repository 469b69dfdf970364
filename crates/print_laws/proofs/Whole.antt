-- The printed text of a valid table is a legal text, unless it is over a limit, and means the table.
use Rattle.std.proofs.Common.{inl, inr, Some, ⊎_elim, IsUtf8}
use Rattle.cue_print.specs.Expressions.{Fields}
use Rattle.cue_print.specs.Spelled.{field_texts, file_text}
use Rattle.print_laws.specs.Accepted.{IsAccepted}
use Rattle.print_laws.specs.Inner.Printable.{ArePrintableFields}
use Rattle.print_laws.specs.PrintedTree.{field_trees, printed_file_tree}
use Rattle.print_laws.specs.Reading.{IsSpelling}
use Rattle.print_laws.specs.Meant.{IsTableAgain}
use Rattle.print_laws.specs.Taken.{IsLegalAs, IsLegalAgain}
use Rattle.print_laws.proofs.Acceptance.{accepted_again}
use Rattle.print_laws.proofs.Files.{lines_read, file_read}
use Rattle.print_laws.proofs.MeantFiles.{meant_again}
use Rattle.print_laws.proofs.Rows.{each_entry}
use Rattle.print_laws.proofs.Valid.{valid_printable}
use Rattle.print_laws.proofs.Values.{each_field}

-- the printed text is UTF-8
file_utf8 : (fields : Fields) → ArePrintableFields fields → IsUtf8 (file_text (Some fields))
unfolding file_text
file_utf8 fields are = (lines_read (field_texts fields) (each_entry (field_trees fields)) (each_field fields are)).utf8

-- what is spelled and accepted is legal
legal_as : (fields : Fields) → ArePrintableFields fields → (spelling : IsSpelling (file_text (Some fields)) (printed_file_tree fields)) → IsAccepted spelling.placed → IsLegalAs (file_text (Some fields)) (printed_file_tree fields)
legal_as fields are spelling ok = record {
  utf8 = file_utf8 fields are;
  words = spelling.found;
  lexed = spelling.are;
  placed = spelling.placed;
  same = spelling.same;
  spelled = record { reads = spelling.spelled.reads; clause = ok.fragment.package_clause; right = ok.fragment.right; ends = ok.fragment.ends; levels = ok.fragment.levels };
  legal = ok.legal;
}

pub legal_again : IsLegalAgain
legal_again table fields valid is =
    let are = valid_printable table fields valid is in
    ⊎_elim
    (λ long. inl long)
    (λ spelling. ⊎_elim
    (λ ok. inr (inr (legal_as fields are spelling ok)))
    (λ over. inr (inl (record { spelling = spelling; over = over })))
    (accepted_again table fields valid is spelling.placed spelling.same))
    (file_read fields are)

-- and means the table
pub table_again : IsTableAgain
table_again table fields valid is =
    ⊎_elim inl
    (λ known. inr (⊎_elim inl (λ read. inr (record { read = read; means = meant_again table fields valid is read.placed read.same })) known))
    (legal_again table fields valid is)
