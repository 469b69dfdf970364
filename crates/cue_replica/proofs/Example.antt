-- A legal text.
use Rattle.std.proofs.Common.{ℕ, [], None, false, refl, arith}
use Rattle.std.specs.Prelude.{codes}
use Rattle.std.specs.Str.{IsUtf8, is_utf8, chars}
use Rattle.std.proofs.lemmas.Str.{IsUtf8-from_is_utf8}
use lib.Utf8.{encode}
use Rattle.cue_lattice.specs.Limits.{level_limit}
use Rattle.cue_replica.proofs.Lexed.{words, lexed}
use Rattle.cue_syntax.specs.declared.tree.LabelName.TheVariants as names
use Rattle.cue_syntax.specs.declared.tree.Mark.TheVariants as marks
use Rattle.cue_syntax.specs.declared.tree.Sign.TheVariants as signs
use Rattle.cue_syntax.specs.Grammar.{at_most, IsFileTree}
use Rattle.cue_syntax.specs.Syntax.{FileTree, Entries, no_entries, entry, field, integer}
use Rattle.cue_scope.specs.Graph.{IsAcyclic, IsReached, start, go_on}
use Rattle.cue_scope.specs.Refusing as checks
use Rattle.cue_replica.specs.Texts.{IsLegalText}

abbrev declarations : Entries
declarations =
    entry
    (field (record { name = names.Plain (codes "a"); mark = marks.Regular }) [] (integer (record { sign = signs.Absent; magnitude = 1 })))
    no_entries

abbrev tree : FileTree
tree = record { package_clause = None; declarations = declarations; comma = false }

spelled : IsFileTree (at_most level_limit) words tree
spelled = record {
  reads = record { follows = (refl, tt, (refl, tt, (refl, tt, refl))) };
  clause = tt;
  right = (omega arith, tt);
  ends = tt;
  levels = omega arith;
}

acyclic : IsAcyclic []
acyclic i h = none i h where
  none : (j : ℕ) → IsReached [] [] j → ⊥
  none j (start j' h) = h
  none j (go_on k j' h p) = none k h

passes : checks.IsLegalTree declarations
passes = record {
  small = record {
    scalar = record {
      ordered = record {
        named = record { unrepeated = refl; names = refl };
        acyclic = acyclic;
      };
      terms = refl;
    };
    size = omega arith;
  };
  depth = omega arith;
}

utf8 : IsUtf8 (codes "a: 1")
unfolding is_utf8 chars encode
utf8 = IsUtf8-from_is_utf8 (codes "a: 1") refl

pub legal_text : IsLegalText (codes "a: 1")
legal_text = (tree, record { words = words; lexed = lexed; spelled = spelled }, passes, utf8)
