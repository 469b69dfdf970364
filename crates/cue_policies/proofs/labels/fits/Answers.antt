use Rattle.std.proofs.Common.{◌≡◌, ◌∙◌, ap, sym, drop, length, ◌++◌, ◌∷◌, []}
use Rattle.std.proofs.lemmas.Bool.Decides.{Decides-eqb}
use Rattle.std.proofs.lemmas.Slice.Eq.{starts_is}
use Rattle.cue_policies.proofs.Snoc.{stem_same}
use Rattle.cue_policies.proofs.labels.fits.Goals as goal

pub returns-then-last-eq42 : goal.returns-then-last-eq42
returns-then-last-eq42 c =
    let stem = c.in-Some.stem.now in
    let bytes = c.as_bytes-then-last-eq42.result.now in
    let label = c.as_bytes-then-last-eq42.ensures.value in
    let whole : c.args.pattern.now ≡ stem ++ 42 ∷ [] = sym c.as_bytes.ensures.value ∙ c.in-Some.ensures.cases.0 ∙ ap (λ last. stem ++ last ∷ []) c.if-last-eq42.true in
    let begins = starts_is Decides-eqb bytes stem c.starts_with.result c.starts_with.ensures.value in (
      λ t. (stem, drop (length stem) bytes, whole, sym label ∙ begins.0 t),
      λ f. begins.1 f.1 (label ∙ f.3 ∙ ap (λ s. s ++ f.1) (stem_same f.0 stem 42 42 (sym f.2 ∙ whole))),
    )
