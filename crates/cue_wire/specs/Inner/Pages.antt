-- What clauses read of a page.
use Rattle.std.specs.Prelude.{ℕ, List}
use Rattle.cue_wire.specs.declared.page.Page.{Page}

-- the bytes that stand on it
abbrev pub page_bytes : Page → List ℕ
page_bytes page = page.bytes.items
