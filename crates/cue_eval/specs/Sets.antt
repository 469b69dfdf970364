-- Which scalars the names, bounds and literals of the language let stand.
use Rattle.std.specs.Prelude.{ℕ, Bool, true, false, not, ◌&&◌, List, ℤ, pos, negsuc, neg_ℤ, int_lt}
use Rattle.std.specs.Prelude.{int_le}
use Rattle.std.specs.Ordering.{int_eq}
use Rattle.std.specs.Str.{bytes_eq}
use Rattle.cue_lattice.specs.declared.scalar.Scalar.TheVariants as scalars
use Rattle.cue_sets.specs.Pieces.{is_int64}
use Rattle.cue_scalars.specs.Pairs.{ScalarMembers}
use Rattle.cue_syntax.specs.declared.tree.Sign.{Sign}
use Rattle.cue_syntax.specs.declared.tree.Sign.TheVariants.{Absent, Minus, Plus}
use Rattle.cue_syntax.specs.declared.tree.Signed.{Signed}
use Rattle.cue_syntax.specs.declared.tree.Comparison.{Comparison}
use Rattle.cue_syntax.specs.declared.tree.Comparison.TheVariants.{Less, AtMost, Greater, AtLeast}
use Rattle.cue_scope.specs.declared.named.Named.{Named}
use Rattle.cue_scope.specs.declared.named.Named.TheVariants as names

abbrev pub signed_integer : Sign → ℕ → ℤ
signed_integer Absent n = pos n
signed_integer Minus n = neg_ℤ (pos n)
signed_integer Plus n = pos n

-- the integer that is written
abbrev pub integer_of : Signed → ℤ
integer_of n = signed_integer n.sign n.magnitude

-- no scalar
abbrev pub no_scalars : ScalarMembers
no_scalars scalar = false

-- null alone
abbrev pub null_alone : ScalarMembers
null_alone scalars.Null = true
null_alone _ = false

-- the truth values for which the test holds
abbrev pub truth_values : (Bool → Bool) → ScalarMembers
truth_values test (scalars.Bool b) = test b
truth_values test _ = false

-- the integers of 64 bits for which the test holds
abbrev pub integers : (ℤ → Bool) → ScalarMembers
integers test (scalars.Int n) = is_int64 n && test n
integers test _ = false

-- the texts for which the test holds
abbrev pub all_texts : (List ℕ → Bool) → ScalarMembers
all_texts test (scalars.Text t) = test t
all_texts test _ = false

abbrev pub same_truth : Bool → Bool → Bool
same_truth true b = b
same_truth false b = not b

-- one truth value, integer or text alone
abbrev pub truth_alone : Bool → ScalarMembers
truth_alone a = truth_values (same_truth a)

abbrev pub integer_alone : ℤ → ScalarMembers
integer_alone a = integers (λ n. int_eq n a)

abbrev pub text_alone : List ℕ → ScalarMembers
text_alone a = all_texts (λ t. bytes_eq a t)

-- `!=` and an integer, or a text: all others of its kind
abbrev pub other_integers : ℤ → ScalarMembers
other_integers a = integers (λ n. not (int_eq n a))

abbrev pub other_texts : List ℕ → ScalarMembers
other_texts a = all_texts (λ t. not (bytes_eq a t))

-- `<`, `<=`, `>` or `>=` and an integer
abbrev pub bound_scalars : Comparison → ℤ → ScalarMembers
bound_scalars Less a = integers (λ n. int_lt n a)
bound_scalars AtMost a = integers (λ n. int_le n a)
bound_scalars Greater a = integers (λ n. int_lt a n)
bound_scalars AtLeast a = integers (λ n. int_le a n)

-- the integers from the one number to the other, with both
abbrev pub integers_between : ℤ → ℤ → ScalarMembers
integers_between low high = integers (λ n. int_le low n && int_le n high)

-- the sets that have names
abbrev pub named_set : Named → ScalarMembers
named_set names.Int = integers (λ n. true)
named_set names.Text = all_texts (λ t. true)
named_set names.Bool = truth_values (λ b. true)
named_set names.Int8 = integers_between (negsuc 127) (pos 127)
named_set names.Uint8 = integers_between (pos 0) (pos 255)
named_set names.Int16 = integers_between (negsuc 32767) (pos 32767)
named_set names.Uint16 = integers_between (pos 0) (pos 65535)
named_set names.Int32 = integers_between (negsuc 2147483647) (pos 2147483647)
named_set names.Uint32 = integers_between (pos 0) (pos 4294967295)
named_set names.Int64 = integers (λ n. true)
named_set names.Uint = integers (λ n. int_le (pos 0) n)
