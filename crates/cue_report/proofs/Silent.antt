-- Elements of which nothing is told.
use Rattle.std.proofs.Common.{◌≡◌, ℕ, zero, suc, ◌+◌, ◌<◌, false, List, [], ◌∷◌, ◌++◌, length, map, refl, sym, ap, subst, ◌∙◌, arith, length-append}
use Rattle.std.specs.List.{flat_map}
use Rattle.cue_lattice.specs.OneOf.{OneOf}
use Rattle.cue_lattice.specs.Path.{Path}
use Rattle.cue_row.specs.declared.parts.RowParts.{RowParts as Row}
use Rattle.cue_table.specs.Tree.{Tree}
use Rattle.cue_report.specs.Inner.GapSearch.{IsGapIn, IsGapAmong, WritesGapsWhere, gap_above}
use Rattle.cue_report.specs.Inner.Search.{each_index}
use Rattle.cue_report.specs.Telling.{Tally}
use Rattle.cue_report.specs.Inner.Telling.{WritesPieces}
use Rattle.cue_report.specs.declared.conflict.Conflict.{Conflict}
use Rattle.cue_report.specs.declared.gap.Gap.{Gap}
use Rattle.cue_report.proofs.Order.{all_from}

module _ {X Y : Type 0} (piece : Y → List X) (some : (y : Y) → 0 < length (piece y)) where
  pieces_some : (lift : Y → Y) (y : Y) (found : List Y) → 0 < length (flat_map piece (map lift (y ∷ found)))
  pieces_some lift y found =
      let here = some (lift y) in
      let all : length (flat_map piece (map lift (y ∷ found))) ≡ length (piece (lift y)) + length (flat_map piece (map lift found)) = length-append (piece (lift y)) (flat_map piece (map lift found)) in
      omega (arith, here, all)

  -- where nothing was told, nothing was found
  pub silent : (lift : Y → Y) (found : List Y) (now after : Tally X) → WritesPieces now after (flat_map piece (map lift found)) → after.count ≡ now.count → found ≡ []
  silent lift [] now after a same = refl
  silent lift (y ∷ found) now after a same =
      let more = pieces_some lift y found in
      absurd (omega (arith, same, more, a.count))

no_elements : (first count : ℕ) → each_index first count [] ≡ []
no_elements first zero = refl
no_elements first (suc count) = ap (λ xs. xs ++ []) (no_elements first count)

-- elements without conflicts have none, however many they are
pub any_elements : (first count other : ℕ) (found : List Conflict) → found ≡ [] → each_index first count found ≡ each_index first other found
any_elements first count other found none =
    ap (each_index first count) none ∙ no_elements first count ∙ sym (no_elements first other) ∙ sym (ap (each_index first other) none)

-- and so of gaps
pub any_among : {X : Type 0} (piece : Gap → List X) → ((gap : Gap) → 0 < length (piece gap)) → (first number least : ℕ) (tree : Tree Row) (path pushed : Path) (start now after : Tally X) → after.count ≡ now.count
    → WritesGapsWhere piece (IsGapIn false tree) pushed now after → WritesGapsWhere piece (IsGapAmong first number tree) path start after → WritesGapsWhere piece (IsGapAmong first least tree) path start after
any_among piece some first number least tree path pushed start now after same here all = record {
  found = all.found;
  lists = record {
    sound = all_from (IsGapAmong first number tree) (IsGapAmong first least tree) all.found (λ gap h. absurd (none gap h)) all.lists.sound;
    complete = λ gap h. absurd (none_least gap h);
    rising = all.lists.rising;
  };
  told = all.told;
} where
  found_none : here.found ≡ []
  found_none = silent piece some (gap_above pushed) here.found now after here.told same

  inner_none : (gap : Gap) → ¬ IsGapIn false tree gap
  inner_none gap h = subst (λ xs. (x : Gap) → IsGapIn false tree x → OneOf (λ y. y ≡ x) xs) found_none here.lists.complete gap h

  none : (gap : Gap) → ¬ IsGapAmong first number tree gap
  none gap h = inner_none (record gap { path = h.path }) h.inner

  none_least : (gap : Gap) → ¬ IsGapAmong first least tree gap
  none_least gap h = inner_none (record gap { path = h.path }) h.inner
