use Rattle.std.proofs.Common.{Bool, true, List, ℕ, ℤ, pos, refl, sym, ap, ◌∙◌, arith}
use Rattle.std.specs.Prelude.{int_le}
use Rattle.std.proofs.lemmas.Int.{ints}
use Rattle.cue_sets.specs.Pieces.{is_member}
use Rattle.cue_sets.specs.Texts.{is_text_member}
use Rattle.cue_eval.specs.Sets as sets
use Rattle.cue_eval.specs.Pairs.{plain_pair}
use Rattle.cue_eval.proofs.Integers.{from_below, all_integers}
use Rattle.cue_eval.proofs.scalars.named_set.Goals as goal

pub returns-in-Int : goal.returns-in-Int
returns-in-Int c =
    c.of_integers.ensures (λ n. true) (λ n. ap (λ (s : List (ℤ × ℤ)). is_member s n) c.full.ensures ∙ all_integers n) ∙ ap (λ k. plain_pair (sets.named_set k)) (sym c.in-Int.is)

pub returns-in-Text : goal.returns-in-Text
returns-in-Text c = c.of_texts.ensures (λ t. true) (λ t. ap (λ (s : Bool × List (List ℕ)). is_text_member s t) c.all.ensures) ∙ ap (λ k. plain_pair (sets.named_set k)) (sym c.in-Text.is)

pub returns-in-Bool : goal.returns-in-Bool
returns-in-Bool c = c.of_truths.ensures (λ b. true) refl refl ∙ ap (λ k. plain_pair (sets.named_set k)) (sym c.in-Bool.is)

pub returns-in-Int64 : goal.returns-in-Int64
returns-in-Int64 c =
    c.of_integers-in-Int64.ensures (λ n. true) (λ n. ap (λ (s : List (ℤ × ℤ)). is_member s n) c.full-in-Int64.ensures ∙ all_integers n) ∙ ap (λ k. plain_pair (sets.named_set k)) (sym c.in-Int64.is)

pub returns-in-Uint : goal.returns-in-Uint
returns-in-Uint c =
    c.of_integers-in-Uint.ensures (λ n. int_le (pos 0) n) (λ n. ap (λ (s : List (ℤ × ℤ)). is_member s n) c.at_least.ensures ∙ from_below (pos 0) n (omega (arith, ints))) ∙ ap (λ k. plain_pair (sets.named_set k)) (sym c.in-Uint.is)
