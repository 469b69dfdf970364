-- The names that the language gives to sets of scalars, and to scalars.
use Rattle.std.specs.Prelude.{ℕ, Bool, cond, List, Option, None, Some, codes, ◌||◌}
use Rattle.std.specs.Str.{bytes_eq}
use Rattle.cue_scope.specs.declared.named.Named.{Named}
use Rattle.cue_scope.specs.declared.named.Named.TheVariants as variants

abbrev pub named_of : List ℕ → Option Named
named_of t =
    cond (bytes_eq t (codes "int")) (Some variants.Int)
    (cond (bytes_eq t (codes "string")) (Some variants.Text)
    (cond (bytes_eq t (codes "bool")) (Some variants.Bool)
    (cond (bytes_eq t (codes "int8")) (Some variants.Int8)
    (cond (bytes_eq t (codes "uint8")) (Some variants.Uint8)
    (cond (bytes_eq t (codes "int16")) (Some variants.Int16)
    (cond (bytes_eq t (codes "uint16")) (Some variants.Uint16)
    (cond (bytes_eq t (codes "int32")) (Some variants.Int32)
    (cond (bytes_eq t (codes "uint32")) (Some variants.Uint32)
    (cond (bytes_eq t (codes "int64")) (Some variants.Int64)
    (cond (bytes_eq t (codes "uint")) (Some variants.Uint) None))))))))))

-- a name of a scalar, whatever labels there are
abbrev pub is_literal : List ℕ → Bool
is_literal t = bytes_eq t (codes "true") || bytes_eq t (codes "false") || bytes_eq t (codes "null")
