-- What a page is made of.
use Rattle.std.specs.Prelude.{◌≡◌, ◌⊎◌, ◌++◌, ◌∷◌, [], ℕ, List, codes}
use Rattle.std.specs.List.{AllByRecursion}
use Rattle.cue_service.specs.Escapes.{escaped}

-- the texts of the page's own
abbrev pub markup : List (List ℕ)
markup =
    codes "<!doctype html>\n<html lang=\"en\"><head><meta charset=\"utf-8\"><title>cuestored</title>\n<style>body{font-family:sans-serif;margin:2em auto;max-width:60em;padding:0 1em}pre{background:#f4f4f4;padding:1em;overflow:auto}.bad{background:#fde8e8}.open{background:#fdf5dd}td{padding:0 1em 0 0}</style></head><body>\n<h1>cuestored</h1>\n"
    ∷ codes "<h2>Conflicts</h2>\n<pre class=\"bad\">"
    ∷ codes "<h2>Incomplete</h2>\n<pre class=\"open\">"
    ∷ codes "<p>No conflicts, and nothing is incomplete.</p>\n"
    ∷ codes "<h2>What is known</h2>\n<pre>"
    ∷ codes "</pre>\n"
    ∷ codes "<h2>Peers</h2>\n"
    ∷ codes "<p>None.</p>\n"
    ∷ codes "<table>\n"
    ∷ codes "<tr><td>"
    ∷ codes "</td><td>"
    ∷ codes "</td></tr>\n"
    ∷ codes "</table>\n"
    ∷ codes "<p><a href=\"/export\">export</a> <a href=\"/report\">report</a> <a href=\"/print\">text</a> <a href=\"/metrics\">metrics</a></p>\n</body></html>\n"
    ∷ []

-- one of these texts
abbrev pub IsOneOf : List (List ℕ) → List ℕ → Type 0
IsOneOf [] text = ⊥
IsOneOf (one ∷ others) text = (text ≡ one) ⊎ IsOneOf others text

abbrev pub IsMarkup : List ℕ → Type 0
IsMarkup text = IsOneOf markup text

-- a text of the page's own, or any other that is escaped
abbrev pub IsPart : List ℕ → Type 0
IsPart part = IsMarkup part ⊎ ((text : List ℕ) × (part ≡ escaped text))

abbrev pub joined : List (List ℕ) → List ℕ
joined [] = []
joined (part ∷ parts) = part ++ joined parts

-- Nothing stands in a page but texts of its own, and others that are escaped.
abbrev pub IsPage : List ℕ → Type 0
IsPage page = (parts : List (List ℕ)) × AllByRecursion IsPart parts × (page ≡ joined parts)
