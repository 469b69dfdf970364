use Rattle.std.proofs.Common.{◌≡◌, ◌<◌, ◌^◌, take, drop, false}
use Rattle.std.specs.Prelude.{nat_lt}
use Rattle.std.specs.List.{fold}
use Rattle.cue_lex.specs.Integers.{are_digits, with_digit}
use Rattle.cue_lex.proofs.integer.decimal_value.Given as goal

abbrev pub invariant-loop-byte : goal.invariant-loop-byte
invariant-loop-byte l = record {
  number : l.value ≡ fold (with_digit 10) 0 (take l.byte-index l.digits);
  spelled : are_digits 10 false l.digits ≡ are_digits 10 (nat_lt 0 l.byte-index) (drop l.byte-index l.digits);
  small : l.value < 10 ^ l.byte-index;
}
