-- Which labels may stand below a place: all, or a finite set that is listed in its order.
use Rattle.std.specs.Prelude.{◌≡◌, ℕ, Bool, true, false, List, [], Option, Some, None}
use Rattle.cue_sets.specs.Texts.{is_listed, IsAscending}

-- whether the label may stand
abbrev pub allows_label : Option (List (List ℕ)) → List ℕ → Bool
allows_label None label = true
allows_label (Some labels) label = is_listed labels label

-- All labels, where none are listed, refuse none. A finite set refuses all others.
abbrev pub RefusesLabel : Option (List (List ℕ)) → List ℕ → Type 0
RefusesLabel labels label = allows_label labels label ≡ false

-- listed labels ascend strictly by their bytes
abbrev pub AreLabels : Option (List (List ℕ)) → Type 0
AreLabels None = Unit {0}
AreLabels (Some labels) = IsAscending labels

-- the labels of a set of texts that is finite or has all texts
abbrev pub labels_of : Bool × List (List ℕ) → Option (List (List ℕ))
labels_of (true, texts) = None
labels_of (false, texts) = Some texts

-- the set is finite or has all texts
abbrev pub IsLabelSet : Bool × List (List ℕ) → Type 0
IsLabelSet (true, texts) = texts ≡ []
IsLabelSet (false, texts) = IsAscending texts
