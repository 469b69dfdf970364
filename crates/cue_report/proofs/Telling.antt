-- What is told one part after the other.
use Rattle.std.proofs.Common.{◌≡◌, ℕ, ◌+◌, List, [], ◌++◌, length, Option, None, Some, refl, sym, ap, subst, ◌∙◌, arith, append_assoc, length-append}
use Rattle.std.proofs.lemmas.List.{append-nil}
use Rattle.std.specs.Io.KnownBytes.{Appends}
use Rattle.cue_device.specs.Texts.{WritesPrefix}
use Rattle.cue_report.specs.Telling.{Tally}
use Rattle.cue_report.specs.Inner.Telling.{ExtendsKnown, WritesPieces}
use Rattle.cue_report.specs.Inner.Telling.{WritesPiecesPrefix}

extends_none : {X : Type 0} (known : Option (List X)) → ExtendsKnown known known []
extends_none None = tt
extends_none (Some xs) = sym (append-nil xs)

extends_then : {X : Type 0} (u v w : Option (List X)) (a b : List X) → ExtendsKnown u v a → ExtendsKnown v w b → ExtendsKnown u w (a ++ b)
extends_then None v w a b x y = tt
extends_then (Some xs) None w a b x y = absurd x
extends_then (Some xs) (Some ys) None a b x y = y
extends_then (Some xs) (Some ys) (Some zs) a b x y = y ∙ ap (λ t. t ++ b) x ∙ append_assoc xs a b

pub grows_none : {X : Type 0} (t : Tally X) → WritesPieces t t []
grows_none t = record { count = omega arith; known = extends_none t.known }

pub grows_then : {X : Type 0} (u v w : Tally X) (a b : List X) → WritesPieces u v a → WritesPieces v w b → WritesPieces u w (a ++ b)
grows_then u v w a b x y = record {
  count = let all : length (a ++ b) ≡ length a + length b = length-append a b in omega (arith, x.count, y.count, all);
  known = extends_then u.known v.known w.known a b x.known y.known;
}

-- from what is the same
pub grows_from : {X : Type 0} (u u' v : Tally X) (a : List X) → u'.count ≡ u.count → u'.known ≡ u.known → WritesPieces u' v a → WritesPieces u v a
grows_from u u' v a n k g = record { count = omega (arith, n, g.count); known = subst (λ known. ExtendsKnown known v.known a) k g.known }

pub grows_same : {X : Type 0} (u v : Tally X) → v.count ≡ u.count → v.known ≡ u.known → WritesPieces u v []
grows_same u v n k = grows_from u v v [] n k (grows_none v)

-- of a list
pub grows_list : {X : Type 0} (xs ys more : List X) → ys ≡ xs ++ more → WritesPieces (record { count = length xs; known = Some xs }) (record { count = length ys; known = Some ys }) more
grows_list xs ys more e = record { count = ap length e ∙ length-append xs more; known = e }

-- nothing yet
pub starts_none : {X : Type 0} (u v : Tally X) (a : List X) → v.known ≡ u.known → WritesPiecesPrefix u v a
starts_none u v a e = record { front = []; back = a; whole = refl; added = subst (λ k. ExtendsKnown u.known k []) (sym e) (extends_none u.known) }

-- all of it
pub starts_whole : {X : Type 0} (u v : Tally X) (a : List X) → WritesPieces u v a → WritesPiecesPrefix u v a
starts_whole u v a g = record { front = a; back = []; whole = sym (append-nil a); added = g.known }

pub starts_now : {X : Type 0} (u v : Tally X) (a b : List X) → WritesPiecesPrefix u v a → WritesPiecesPrefix u v (a ++ b)
starts_now u v a b s = record {
  front = s.front;
  back = s.back ++ b;
  whole = ap (λ t. t ++ b) s.whole ∙ append_assoc s.front s.back b;
  added = s.added;
}

pub starts_later : {X : Type 0} (u v w : Tally X) (a b : List X) → WritesPieces u v a → WritesPiecesPrefix v w b → WritesPiecesPrefix u w (a ++ b)
starts_later u v w a b g s = record {
  front = a ++ s.front;
  back = s.back;
  whole = ap (λ t. a ++ t) s.whole ∙ sym (append_assoc a s.front s.back);
  added = extends_then u.known v.known w.known a s.front g.known s.added;
}

-- ---- of bytes
pub appended : (u v : Option (List ℕ)) (a : List ℕ) → ExtendsKnown u v a → Appends u v a
appended None v a x = tt
appended (Some xs) None a x = absurd x
appended (Some xs) (Some ys) a x = x

pub extended : (u v : Option (List ℕ)) (a : List ℕ) → Appends u v a → ExtendsKnown u v a
extended None v a x = tt
extended (Some xs) None a x = absurd x
extended (Some xs) (Some ys) a x = x

pub begun : (u v : Tally ℕ) (a : List ℕ) → WritesPiecesPrefix u v a → WritesPrefix u.known v.known a
begun u v a s = record { front = s.front; back = s.back; whole = s.whole; added = appended u.known v.known s.front s.added }

pub started : (u v : Tally ℕ) (a : List ℕ) → WritesPrefix u.known v.known a → WritesPiecesPrefix u v a
started u v a s = record { front = s.front; back = s.back; whole = s.whole; added = extended u.known v.known s.front s.added }
