-- Printed integers.
use Rattle.std.proofs.Common.{◌≡◌, ℕ, suc, ℤ, pos, negsuc, ◌≤◌, Bool, true, false, List, ◌++◌, refl, arith, le-leb, leb-false, eq-eqb, Some, codes}
use Rattle.std.specs.Fmt.{signed_decimal, decimal}
use Rattle.std.specs.Prelude.{nat_le, ◌==◌, ◌≤ℤ◌}
use Rattle.std.proofs.lemmas.Int.{ints}
use Rattle.cue_lattice.specs.Scalar.{IsInteger}
use Rattle.cue_lex.specs.declared.punctuation.Punctuation.TheVariants as points
use Rattle.cue_lex.specs.Lexemes.{is_in_range}
use Rattle.cue_lex.specs.Marks.{mark_in_front, single_mark}
use Rattle.cue_syntax.specs.Spelling.{spell_signed}
use Rattle.print_laws.specs.Kinds.{IsKindRead}
use Rattle.print_laws.specs.Spelled.{spelled_kinds}
use Rattle.print_laws.specs.PrintedTree.{signed_of_integer}
use Rattle.print_laws.proofs.Decimals.{one_number}
use Rattle.print_laws.proofs.Marks.{one_mark, ascii_text}

pub positive_below : (n : ℕ) → pos n ≤ℤ pos 9223372036854775807 → n ≤ 9223372036854775807
positive_below n below = omega (arith, ints)

pub negative_below : (n : ℕ) → negsuc 9223372036854775807 ≤ℤ negsuc n → n ≤ 9223372036854775807
negative_below n above = omega (arith, ints)

in_range : (n : ℕ) → n ≤ 9223372036854775807 → is_in_range false n ≡ true
in_range n below = let small = le-leb n 9223372036854775807 below in rw small refl

-- the one above the greatest has its minus
in_range_after : (n : ℕ) → n ≤ 9223372036854775808 → is_in_range true n ≡ true
in_range_after n below = by (nat_le n 9223372036854775807) refl
  where
    by : (small : Bool) → nat_le n 9223372036854775807 ≡ small → is_in_range true n ≡ true
    by true is = rw is refl
    by false is = let large = leb-false n 9223372036854775807 is in let last : (n == 9223372036854775808) ≡ true = eq-eqb n 9223372036854775808 (omega arith) in rw (is, last) refl

minus_mark : (rest : List ℕ) → mark_in_front (codes "-" ++ rest) ≡ Some (points.Minus, 1)
unfolding mark_in_front single_mark
minus_mark rest = refl

-- A printed integer of 64 bits is read with its sign.
pub integer_read : (n : ℤ) → IsInteger n → IsKindRead (signed_decimal n) (spelled_kinds (spell_signed (signed_of_integer n)))
integer_read (pos n) is = record {
  reads = λ ended rest more stops after.
      let below = positive_below n is.1 in
      one_number {n = n} (omega arith) (in_range n below) stops after;
}
integer_read (negsuc n) is = record {
  reads = λ ended rest more stops after.
      let below = negative_below n is.0 in
      one_mark {text = codes "-"} {rest = decimal (suc n) ++ rest} (omega arith) (ascii_text (codes "-") refl) (minus_mark (decimal (suc n) ++ rest))
      (one_number {n = suc n} (omega arith) (in_range_after (suc n) (omega arith)) stops after);
}
