use Rattle.std.proofs.Common.{◌≡◌, min, take, drop, false}
use Rattle.std.specs.List.{fold}
use Rattle.cue_lex.specs.Integers.{are_digits, with_digit}
use Rattle.cue_lex.proofs.integer.digits_value.Given as goal

abbrev pub invariant-loop-byte : goal.invariant-loop-byte
invariant-loop-byte l = record {
  number : l.value ≡ min (fold (with_digit l.base) 0 (take l.byte-index l.digits)) 0xffff_ffff_ffff_ffff;
  spelled : are_digits l.base false l.digits ≡ are_digits l.base l.after_digit (drop l.byte-index l.digits);
}
