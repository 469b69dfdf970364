-- Stacks of sources: one more, and the one on top.
use Rattle.std.proofs.Common.{◌≡◌, ◌↔◌, ◌⊎◌, inl, inr, ⊎_elim, List, [], ◌∷◌, ◌++◌, suc, length, refl, sym, ap, subst, ◌∙◌, append_assoc, append-nil}
use Rattle.cue_lattice.specs.Path.{Path}
use Rattle.cue_lattice.specs.Question.{Question, level_at_most, usual}
use Rattle.cue_row.specs.Row.{RowRefusesQuestion}
use Rattle.cue_row.specs.declared.parts.RowParts.{RowParts as Row}
use Rattle.cue_policies.specs.View.{PartRefuses}
use Rattle.cue_why.specs.Least.{IsLeft}
use Rattle.cue_why.specs.Inner.Findings.{Meets}
use Rattle.cue_why.specs.Inner.Stacks.{LineRefuses, IsTrailOf, ahead_of, IsStack, Suffice, source_part}
use Rattle.cue_why.specs.Inner.Trails.{TrailRefuses, AreMet}
use Rattle.cue_why.specs.declared.finding.Finding.{Finding}
use Rattle.cue_why.specs.declared.least.Traced.{Traced}
use Rattle.cue_why.specs.declared.source.LayerSource.{LayerSource}
use Rattle.cue_why.proofs.Makes.{IsAsNarrowAlong, demanded_more, values_more, not_allowed_more}
use Rattle.cue_why.proofs.Pass.{one_front, one_back, one_split}
use Rattle.cue_why.proofs.Trails.{met_length, trails_met, trail_as}

pub ahead_push : (behind : List LayerSource) (stack : List Traced) (one : Traced) → ahead_of behind (stack ++ one ∷ []) ≡ one.source ∷ ahead_of behind stack
ahead_push behind [] one = refl
ahead_push behind (t ∷ stack) one = ahead_push (t.source ∷ behind) stack one

-- what is at the end of a stack
pub record IsTop (path : Path) (behind : List LayerSource) (stack : List Traced) (one : Traced) : Type 0 where
  pub below : IsStack path behind stack
  pub rest : IsTrailOf path (ahead_of behind stack) one.behind.items
  pub own : IsTrailOf path (one.source ∷ []) one.trail.items

pub stack_push : (path : Path) (behind : List LayerSource) (stack : List Traced) (one : Traced) → IsTop path behind stack one → IsStack path behind (stack ++ one ∷ [])
stack_push path behind [] one top = (top.rest, top.own, tt)
stack_push path behind (t ∷ stack) one top =
    let is : IsStack path behind (t ∷ stack) = top.below in
    (is.0, is.1, stack_push path (t.source ∷ behind) stack one (record { below = is.2; rest = top.rest; own = top.own }))

pub stack_pop : (path : Path) (behind : List LayerSource) (stack : List Traced) (one : Traced) → IsStack path behind (stack ++ one ∷ []) → IsTop path behind stack one
stack_pop path behind [] one is = record { below = tt; rest = is.0; own = is.1 }
stack_pop path behind (t ∷ stack) one is =
    let top = stack_pop path (t.source ∷ behind) stack one is.2 in
    record { below = (is.0, is.1, top.below); rest = top.rest; own = top.own }

-- the trail of one source with those behind it
pub one_more : (path : Path) (source : LayerSource) (behind : List LayerSource) (trail rest rows : List Row) → IsTrailOf path (source ∷ []) trail → IsTrailOf path behind rest → AreMet RowRefusesQuestion trail rest rows
    → IsTrailOf path (source ∷ behind) rows
one_more path source behind trail rest rows a b m =
    trail_as RowRefusesQuestion (λ place question. LineRefuses (source ∷ []) place question ⊎ LineRefuses behind place question) (LineRefuses (source ∷ behind)) path rows
    (λ place question. (
      λ h. ⊎_elim (λ p. ⊎_elim (λ x. inl x) (λ e. absurd e) p) (λ q. inr q) h,
      λ h. ⊎_elim (λ p. inl (inl p)) (λ q. inr q) h,
    ))
    (trails_met RowRefusesQuestion (LineRefuses (source ∷ [])) (LineRefuses behind) path trail rest rows a b m)

-- the trail of two lists of sources
pub both_trails : (path : Path) (some others : List LayerSource) (one other rows : List Row) → IsTrailOf path some one → IsTrailOf path others other → AreMet RowRefusesQuestion one other rows
    → IsTrailOf path (some ++ others) rows
both_trails path some others one other rows a b m =
    trail_as RowRefusesQuestion (λ place question. LineRefuses some place question ⊎ LineRefuses others place question) (LineRefuses (some ++ others)) path rows
    (λ place question. (
      λ h. ⊎_elim (λ p. one_front (λ s. PartRefuses (source_part s) place question) some others p) (λ q. one_back (λ s. PartRefuses (source_part s) place question) some others q) h,
      λ h. one_split (λ s. PartRefuses (source_part s) place question) some others h,
    ))
    (trails_met RowRefusesQuestion (LineRefuses some) (LineRefuses others) path one other rows a b m)

-- what is met along a path by the one is met by what refuses as much
pub meets_more : (finding : Finding) (a b : Path → Question → Type 0) (path : Path) → IsAsNarrowAlong a b path → ((question : Question) → b path question → a path question)
    → Meets finding b path → Meets finding a path
meets_more finding a b path more here h = record {
  demanded = demanded_more a b path more h.demanded;
  no_value = λ t. values_more a b path here (h.no_value t);
  not_allowed = λ t. not_allowed_more a b path more (h.not_allowed t);
  levels = λ k less. here (level_at_most k) (h.levels k less);
  no_default = λ t scalar is. here (usual scalar) (h.no_default t scalar is);
}

-- rows meet a finding where their sources do
pub suffices_is : (finding : Finding) (path : Path) (sources : List LayerSource) (rows : List Row) → IsTrailOf path sources rows
    → Meets finding (TrailRefuses RowRefusesQuestion path rows) path ↔ Suffice finding path sources
suffices_is finding path sources rows trail =
    let whole : path ≡ path ++ [] = sym (append-nil path) in (
      λ h. meets_more finding (LineRefuses sources) (TrailRefuses RowRefusesQuestion path rows) path (record { at = λ place after e question r. (trail.same place after e question).0 r })
          (λ question r. (trail.same path [] whole question).0 r) h,
      λ h. meets_more finding (TrailRefuses RowRefusesQuestion path rows) (LineRefuses sources) path (record { at = λ place after e question r. (trail.same place after e question).1 r })
          (λ question r. (trail.same path [] whole question).1 r) h,
    )

-- a pass by one condition is one by an equal one
pub left_as : {X : Type 0} (P Q : List X → Type 0) → ((xs : List X) → P xs ↔ Q xs) → (kept ahead left : List X) → IsLeft P kept ahead left → IsLeft Q kept ahead left
left_as P Q same kept [] left h = h
left_as P Q same kept (x ∷ ahead) left h = ⊎_elim
    (λ out. inl ((same (kept ++ ahead)).0 out.0, left_as P Q same kept ahead left out.1))
    (λ stays. inr ((λ q. stays.0 ((same (kept ++ ahead)).1 q)), left_as P Q same (kept ++ x ∷ []) ahead left stays.1))
    h

-- ---- the loops over stacks
pub record AreTraced (path : Path) (all left : List LayerSource) (stack : List Traced) (behind : List Row) : Type 0 where
  pub whole : all ≡ left ++ ahead_of [] stack
  pub stacked : IsStack path [] stack
  pub trail : IsTrailOf path (ahead_of [] stack) behind

pub traced_more :
    (path : Path) (all left next : List LayerSource) (x : LayerSource) (stack more : List Traced) (one : Traced) (behind rows : List Row) → AreTraced path all left stack behind
    → left ≡ next ++ x ∷ [] → one.source ≡ x → one.behind.items ≡ behind → IsTrailOf path (x ∷ []) one.trail.items → AreMet RowRefusesQuestion one.trail.items behind rows → more ≡ stack ++ one ∷ []
    → AreTraced path all next more rows
traced_more path all left next x stack more one behind rows are e is rest trail met items =
    let ahead : ahead_of [] more ≡ x ∷ ahead_of [] stack = ap (ahead_of []) items ∙ ahead_push [] stack one ∙ ap (λ s. s ∷ ahead_of [] stack) is in
    record {
      whole = are.whole ∙ ap (λ xs. xs ++ ahead_of [] stack) e ∙ append_assoc next (x ∷ []) (ahead_of [] stack) ∙ ap (λ xs. next ++ xs) (sym ahead);
      stacked = subst (IsStack path []) (sym items)
          (stack_push path [] stack one
          (record { below = are.stacked; rest = subst (IsTrailOf path (ahead_of [] stack)) (sym rest) are.trail; own = subst (λ s. IsTrailOf path (s ∷ []) one.trail.items) (sym is) trail }));
      trail = subst (λ xs. IsTrailOf path xs rows) (sym ahead) (one_more path x (ahead_of [] stack) one.trail.items behind rows trail are.trail met);
    }

-- what is left of a pass goes on as that of the whole
pub record GoesOn (finding : Finding) (path : Path) (all kept : List LayerSource) (stack : List Traced) (own : List Row) : Type 0 where
  pub stacked : IsStack path [] stack
  pub trail : IsTrailOf path kept own
  pub goes : (left : List LayerSource) → IsLeft (Suffice finding path) kept (ahead_of [] stack) left → IsLeft (Suffice finding path) [] all left

ahead_pop : (stack next : List Traced) (one : Traced) → stack ≡ next ++ one ∷ [] → ahead_of [] stack ≡ one.source ∷ ahead_of [] next
ahead_pop stack next one e = ap (ahead_of []) e ∙ ahead_push [] next one

-- one is left out
pub goes_without :
    (finding : Finding) (path : Path) (all kept : List LayerSource) (stack next : List Traced) (one : Traced) (own others : List Row) → GoesOn finding path all kept stack own → stack ≡ next ++ one ∷ []
    → AreMet RowRefusesQuestion own one.behind.items others → Meets finding (TrailRefuses RowRefusesQuestion path others) path → GoesOn finding path all kept next own
goes_without finding path all kept stack next one own others on e met makes =
    let top = stack_pop path [] next one (subst (IsStack path []) e on.stacked) in
    let suffices = (suffices_is finding path (kept ++ ahead_of [] next) others (both_trails path kept (ahead_of [] next) own one.behind.items others on.trail top.rest met)).0 makes in
    record {
      stacked = top.below;
      trail = on.trail;
      goes = λ left h. on.goes left (subst (λ xs. IsLeft (Suffice finding path) kept xs left) (sym (ahead_pop stack next one e)) (inl (suffices, h)));
    }

-- or kept
pub goes_with :
    (finding : Finding) (path : Path) (all kept more : List LayerSource) (stack next : List Traced) (one : Traced) (own others rows : List Row) → GoesOn finding path all kept stack own → stack ≡ next ++ one ∷ []
    → AreMet RowRefusesQuestion own one.behind.items others → ¬ Meets finding (TrailRefuses RowRefusesQuestion path others) path → AreMet RowRefusesQuestion own one.trail.items rows → more ≡ kept ++ one.source ∷ []
    → GoesOn finding path all more next rows
goes_with finding path all kept more stack next one own others rows on e met makes joined items =
    let top = stack_pop path [] next one (subst (IsStack path []) e on.stacked) in
    let same = suffices_is finding path (kept ++ ahead_of [] next) others (both_trails path kept (ahead_of [] next) own one.behind.items others on.trail top.rest met) in
    record {
      stacked = top.below;
      trail = subst (λ xs. IsTrailOf path xs rows) (sym items) (both_trails path kept (one.source ∷ []) own one.trail.items rows on.trail top.own joined);
      goes = λ left h.
          let rest = subst (λ xs. IsLeft (Suffice finding path) xs (ahead_of [] next) left) items h in
          on.goes left (subst (λ xs. IsLeft (Suffice finding path) kept xs left) (sym (ahead_pop stack next one e)) (inr (λ s. makes (same.1 s), rest)));
    }

pub goes_start : (finding : Finding) (path : Path) (stack : List Traced) (kept : List LayerSource) (own : List Row) → IsStack path [] stack → kept ≡ [] → IsTrailOf path [] own → GoesOn finding path (ahead_of [] stack) kept stack own
goes_start finding path stack kept own is none trail = record {
  stacked = is;
  trail = subst (λ xs. IsTrailOf path xs own) (sym none) trail;
  goes = λ left h. subst (λ xs. IsLeft (Suffice finding path) xs (ahead_of [] stack) left) none h;
}

pub goes_end : (finding : Finding) (path : Path) (all kept : List LayerSource) (stack : List Traced) (own : List Row) → GoesOn finding path all kept stack own → stack ≡ [] → IsLeft (Suffice finding path) [] all kept
goes_end finding path all kept stack own on e = on.goes kept (subst (λ s. IsLeft (Suffice finding path) kept (ahead_of [] s) kept) (sym e) refl)

-- trails along one path are as long
pub as_long : (path : Path) (some others : List LayerSource) (one other : List Row) → IsTrailOf path some one → IsTrailOf path others other → length one ≡ length other
as_long path some others one other a b = a.long ∙ sym b.long

-- the rows of what is on top of a stack are as long
pub top_long : (finding : Finding) (path : Path) (all kept : List LayerSource) (stack next : List Traced) (one : Traced) (own : List Row) → GoesOn finding path all kept stack own → stack ≡ next ++ one ∷ []
    → (length own ≡ length one.behind.items) × (length own ≡ length one.trail.items)
top_long finding path all kept stack next one own on e =
    let top = stack_pop path [] next one (subst (IsStack path []) e on.stacked) in
    (on.trail.long ∙ sym top.rest.long, on.trail.long ∙ sym top.own.long)

pub met_long : (path : Path) (sources : List LayerSource) (one other rows : List Row) → IsTrailOf path sources one → length one ≡ length other → AreMet RowRefusesQuestion one other rows → length rows ≡ suc (length path)
met_long path sources one other rows a e m = met_length RowRefusesQuestion one other rows e m ∙ a.long

pub as_met : (a b other next rows : List Row) → a ≡ b → other ≡ next → AreMet RowRefusesQuestion a other rows → AreMet RowRefusesQuestion b next rows
as_met a b other next rows e f m = subst (λ xs. AreMet RowRefusesQuestion xs next rows) e (subst (λ ys. AreMet RowRefusesQuestion a ys rows) f m)

pub as_meets : (finding : Finding) (path : Path) (a b : List Row) → a ≡ b → Meets finding (TrailRefuses RowRefusesQuestion path a) path → Meets finding (TrailRefuses RowRefusesQuestion path b) path
as_meets finding path a b e m = subst (λ xs. Meets finding (TrailRefuses RowRefusesQuestion path xs) path) e m

pub traced_none : (path : Path) (all : List LayerSource) (stack : List Traced) (behind : List Row) → stack ≡ [] → IsTrailOf path [] behind → AreTraced path all all stack behind
traced_none path all stack behind e trail = record {
  whole = sym (append-nil all) ∙ ap (λ s. all ++ ahead_of [] s) (sym e);
  stacked = subst (IsStack path []) (sym e) tt;
  trail = subst (λ s. IsTrailOf path (ahead_of [] s) behind) (sym e) trail;
}

pub traced_all : (path : Path) (all left : List LayerSource) (stack : List Traced) (behind : List Row) → left ≡ [] → AreTraced path all left stack behind → (ahead_of [] stack ≡ all) × IsTrailOf path all behind
traced_all path all left stack behind e are =
    let whole : all ≡ ahead_of [] stack = are.whole ∙ ap (λ xs. xs ++ ahead_of [] stack) e in
    (sym whole, subst (λ xs. IsTrailOf path xs behind) (sym whole) are.trail)
