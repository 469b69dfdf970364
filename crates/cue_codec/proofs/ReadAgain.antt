-- The bytes of a row that the end of a piece cuts.
use Rattle.std.proofs.Common.{◌≡◌, ℕ, ◌+◌, ◌-◌, ◌≤◌, List, ◌++◌, append_assoc, length, take, drop, Option, Some, None, sym, ap, subst, ◌∙◌, arith}
use Rattle.std.proofs.lemmas.List.{length-append, length-take, take_at, take-take, take-append-drop}
use Rattle.cue_codec.specs.declared.version.Version.{Version}
use Rattle.cue_codec.specs.Decoding.{NoRows}
use Rattle.cue_codec.specs.Inner.Drafting.{RowsRead, IsNoRowsPrefix}
use Rattle.cue_codec.specs.Inner.Pieces.{with_bytes, IsReadAgain, IsTaken}

-- where no rows begin with bytes, none do with more
begins_on : (version : Version) (count : ℕ) (bytes more : List ℕ) → IsNoRowsPrefix version count bytes → IsNoRowsPrefix version count (bytes ++ more)
begins_on version count bytes more none = λ others. subst (NoRows version count) (sym (append_assoc bytes more others)) (none (more ++ others))

module _ (rows new : RowsRead) (unfinished bytes put : List ℕ) (len : ℕ) (few : len ≤ length bytes) (longer : put ≡ unfinished ++ take len bytes) where
  -- those of them that were taken in
  front_put : (count : ℕ) → count ≤ len → take (length put - len + count) put ≡ unfinished ++ take count bytes
  front_put count fewer =
      let front : List ℕ = take count bytes in
      let back : List ℕ = drop count (take len bytes) in
      let split : take len bytes ≡ front ++ back = sym (take-append-drop count (take len bytes)) ∙ ap (λ t. t ++ back) (take-take count len bytes fewer) in
      let same : put ≡ (unfinished ++ front) ++ back = longer ∙ ap (λ t. unfinished ++ t) split ∙ sym (append_assoc unfinished front back) in
      let here : length put ≡ length unfinished + len = omega (arith, few, ap length longer, length-append unfinished (take len bytes), length-take len bytes) in
      let long : length (unfinished ++ front) ≡ length put - len + count = omega (arith, few, fewer, here, length-append unfinished front, length-take count bytes) in
      ap (take (length put - len + count)) same ∙ take_at (unfinished ++ front) back (length put - len + count) long

  -- bytes that were put behind others were read with these
  pub put_read : (result : Option ℕ) → IsReadAgain rows put len new result → IsTaken (with_bytes rows unfinished) bytes new result
  put_read (Some count) again = (
    again.0,
    omega (arith, few, again.1),
    record {
      version = again.2.version;
      count = again.2.count;
      bytes = again.2.bytes ∙ ap (λ t. rows.bytes ++ t) (front_put count again.1) ∙ sym (append_assoc rows.bytes unfinished (take count bytes));
    },
  )
  put_read None none =
      let front : List ℕ = take len bytes in
      let back : List ℕ = drop len bytes in
      let same : (rows.bytes ++ put) ++ back ≡ (rows.bytes ++ unfinished) ++ bytes =
      ap (λ t. t ++ back) (ap (λ t. rows.bytes ++ t) longer ∙ sym (append_assoc rows.bytes unfinished front)) ∙ append_assoc (rows.bytes ++ unfinished) front back ∙ ap (λ t. (rows.bytes ++ unfinished) ++ t) (take-append-drop len bytes) in
      subst (IsNoRowsPrefix rows.version rows.count) same (begins_on rows.version rows.count (rows.bytes ++ put) back none)
