-- The printed text of a site gives an equal site.
use Rattle.std.proofs.Common.{◌≡◌, ◌≢◌, ◌⊎◌, inl, inr, ⊎_elim, ℕ, List, Option, None, Some, refl, sym, subst}
use Rattle.cue_lattice.specs.Question.{SameAnswers}
use Rattle.cue_table.specs.Tree.{node}
use Rattle.cue_table.proofs.ValidWalks.{valid_empty}
use Rattle.cue_eval.specs.Texts as meaning
use Rattle.cue_print.specs.Expressions.{Fields}
use Rattle.cue_print.specs.Printed.{file_of}
use Rattle.cue_print.specs.Spelled.{file_text}
use Rattle.print_laws.specs.Meant as reading
use Rattle.print_laws.specs.PrintedTree.{printed_file_tree}
use Rattle.print_laws.specs.Taken.{IsLegalAs}
use Rattle.print_laws.proofs.Whole.{table_again}
use Rattle.cue_replica.specs.declared.world.Outcome.{Outcome}
use Rattle.cue_replica.specs.declared.world.Outcome.TheVariants.{Accepted, Sent, Refused, NoSuch}
use Rattle.cue_replica.specs.Language.{Table, empty_site, language}
use Rattle.cue_replica.specs.PrintedAgain.{IsOverLimit, TextMeans, IsStateReadAgain, IsAgain, GivesTheSiteAgain}
use Rattle.cue_replica.specs.Replica.{AddsRefusals}
use Rattle.cue_replica.specs.Reports.{printed_text}
use Rattle.cue_replica.specs.Texts.{IsTreeOf}
use Rattle.cue_replica.specs.World.{SubmitsText}
use Rattle.cue_replica.proofs.Accepted.{new_site}
use Rattle.cue_replica.proofs.Asked.{one_table}
use Rattle.cue_replica.proofs.Texts.{one_reading, no_text_fault}

-- where something is known, there is a file
has_file : (table : Table) → language.IsValid table → table ≢ empty_site → (fields : Fields) × (file_of table ≡ Some fields)
unfolding file_of
has_file (node None children rest) valid known = absurd (known (valid_empty (node None children rest) refl valid))
has_file (node (Some row) children rest) valid known = (_, refl)

-- the text's own tree
tree_of : (text : List ℕ) (fields : Fields) (read : IsLegalAs text (printed_file_tree fields)) → IsTreeOf text read.placed
tree_of text fields read = record { words = read.words; lexed = read.lexed; spelled = read.spelled }

means : (table : Table) (text : List ℕ) (fields : Fields) → reading.IsLegalAndMeans text (printed_file_tree fields) table → TextMeans table text
means table text fields is =
    let read = is.read in
    let tree = tree_of text fields read in
    record {
      legal = (read.placed, tree, read.legal, read.utf8);
      answers = λ path question. (
        λ h. (is.means path question).0 (subst (λ t. meaning.meaning_refuses t.declarations path question) (one_reading text h.0 read.placed h.1 tree) h.2),
        λ h. (read.placed, tree, (is.means path question).1 h),
      );
    }

pub read_again : (table : Table) → language.IsValid table → IsStateReadAgain table (printed_text table)
read_again table valid known =
    let file = has_file table valid known in
    subst (λ (found : Option Fields). IsOverLimit (file_text found) ⊎ TextMeans table (file_text found)) (sym file.1)
    (⊎_elim
    (λ long. inl (inl long))
    (λ rest. ⊎_elim (λ over. inl (inr (printed_file_tree file.0, over))) (λ is. inr (means table (file_text (Some file.0)) file.0 is)) rest)
    (table_again table file.0 valid file.1))

-- a text as it is returned
pub text_again : (table : Table) (text : List ℕ) → language.IsValid table → text ≡ printed_text table → IsStateReadAgain table text
text_again table text valid is = subst (IsStateReadAgain table) (sym is) (read_again table valid)

-- a site that has accepted nothing refuses nothing, so that it holds what is added
added_alone : (table new : Table) (text : List ℕ) → TextMeans table text → AddsRefusals empty_site (language.text_refuses text) new → SameAnswers (language.table_refuses new) (language.table_refuses table)
added_alone table new text same adds path question =
    let added = adds path question in
    let here = same.answers path question in (
      λ h. ⊎_elim (λ old. absurd ((new_site.1 path question).0 old)) here.0 (added.0 h),
      λ h. added.1 (inr (here.1 h)),
    )

again : (table new : Table) (text : List ℕ) (outcome : Outcome) → language.IsValid table → TextMeans table text → SubmitsText text empty_site new outcome → IsAgain table new outcome
again table new text Accepted valid same done = one_table new table done.2 valid (added_alone table new text same done.1)
again table new text (Refused why) valid same done = ⊎_elim (λ starved. starved.0) (λ fault. absurd (no_text_fault text why same.legal fault)) done.1
again table new text (Sent number) valid same done = done
again table new text NoSuch valid same done = done

pub gives_again : GivesTheSiteAgain
gives_again table new outcome valid known done =
    ⊎_elim inl (λ same. inr (again table new (printed_text table) outcome valid same done)) (read_again table valid known)
