-- Texts that are written one behind the other.
use Rattle.std.proofs.Common.{◌++◌, ◌∙◌, ℕ, List, Option, [], None, Some, ap, refl, sym, append_assoc}
use Rattle.std.specs.Io.KnownBytes.{Appends}
use Rattle.std.proofs.lemmas.List.{append-nil}
use Rattle.cue_device.specs.Texts.{WritesPrefix}

pub appends_none : (known : Option (List ℕ)) → Appends known known []
appends_none None = tt
appends_none (Some bytes) = sym (append-nil bytes)

pub appends_then : (u v w : Option (List ℕ)) (a b : List ℕ) → Appends u v a → Appends v w b → Appends u w (a ++ b)
appends_then None v w a b x y = tt
appends_then (Some xs) None w a b x y = absurd x
appends_then (Some xs) (Some ys) None a b x y = y
appends_then (Some xs) (Some ys) (Some zs) a b x y = y ∙ ap (λ (t : List ℕ). t ++ b) x ∙ append_assoc xs a b

pub begins_none : (known : Option (List ℕ)) (text : List ℕ) → WritesPrefix known known text
begins_none known text = record { front = []; back = text; whole = refl; added = appends_none known }

pub begins_now : (u v : Option (List ℕ)) (a b : List ℕ) → WritesPrefix u v a → WritesPrefix u v (a ++ b)
begins_now u v a b begun = record {
  front = begun.front;
  back = begun.back ++ b;
  whole = ap (λ (t : List ℕ). t ++ b) begun.whole ∙ append_assoc begun.front begun.back b;
  added = begun.added;
}

pub begins_later : (u v w : Option (List ℕ)) (a b : List ℕ) → Appends u v a → WritesPrefix v w b → WritesPrefix u w (a ++ b)
begins_later u v w a b added begun = record {
  front = a ++ begun.front;
  back = begun.back;
  whole = ap (λ (t : List ℕ). a ++ t) begun.whole ∙ sym (append_assoc a begun.front begun.back);
  added = appends_then u v w a begun.front added begun.added;
}
