-- Rows along a path: one more of them, and those of two trails together.
use Rattle.std.proofs.Common.{◌≡◌, ◌↔◌, ◌⊎◌, inl, inr, ⊎_elim, suc, List, [], ◌∷◌, ◌++◌, length, refl, sym, ap, subst, ◌∙◌, append_assoc, append-nil, arith}
use Rattle.cue_lattice.specs.Path.{Step, Path}
use Rattle.cue_lattice.specs.Question.{Question, Refusals}
use Rattle.cue_why.specs.Inner.Trails.{TrailRefuses, AreMet, IsTrail}

-- a beginning of a path with one step more is the whole, or a beginning of the path
pub beginning : (done place after : Path) (step : Step) → done ++ step ∷ [] ≡ place ++ after
    → ((after ≡ []) × (place ≡ done ++ step ∷ [])) ⊎ ((more : Path) × (after ≡ more ++ step ∷ []) × (done ≡ place ++ more))
beginning done [] after step e = inr (done, sym e, refl)
beginning [] (p ∷ place) [] step e = inl (refl, sym (e ∙ append-nil (p ∷ place)))
beginning [] (p ∷ place) (a ∷ after) step e = absurd (none place a after (tails e))
  where
    none : (xs : Path) (y : Step) (ys : Path) → [] ≡ xs ++ y ∷ ys → ⊥
    none [] y ys e = cc
    none (x ∷ xs) y ys e = cc

    tails : step ∷ [] ≡ p ∷ (place ++ a ∷ after) → [] ≡ place ++ a ∷ after
    tails e = cc
beginning (d ∷ done) (p ∷ place) after step e =
    let same : d ≡ p = cc in
    let rest : done ++ step ∷ [] ≡ place ++ after = cc in
    ⊎_elim
    (λ h. let e1 = h.1 in let whole : p ∷ place ≡ d ∷ (done ++ step ∷ []) = cc in inl (h.0, whole))
    (λ h. let e2 = h.2 in let whole : d ∷ done ≡ p ∷ (place ++ h.0) = cc in inr (h.0, h.1, whole))
    (beginning done place after step rest)

module _ {R : Type 0} (refuses : R → Question → Type 0) where
  abbrev Refuses : Path → List R → Refusals
  Refuses = TrailRefuses refuses

  -- a row behind others is that of the place to which they lead
  pub pushed_at : (place further : Path) (rows : List R) (row : R) (question : Question) → length rows ≡ length place
      → Refuses (place ++ further) (rows ++ row ∷ []) place question ↔ refuses row question
  pushed_at [] further [] row question e = (λ h. h, λ h. h)
  pushed_at [] further (r ∷ rows) row question e = absurd (omega arith)
  pushed_at (s ∷ place) further [] row question e = absurd (omega arith)
  pushed_at (s ∷ place) further (r ∷ rows) row question e =
      let more = pushed_at place further rows row question (omega arith) in
      (λ h. more.0 h.1, λ h. (refl, more.1 h))

  -- and changes nothing at places before it
  pub pushed_before : (path place more : Path) (rows : List R) (row : R) (question : Question) → length rows ≡ suc (length (place ++ more))
      → Refuses path (rows ++ row ∷ []) place question ↔ Refuses path rows place question
  pushed_before path place more [] row question e = absurd (omega arith)
  pushed_before path [] more (r ∷ rows) row question e = (λ h. h, λ h. h)
  pushed_before [] (s ∷ place) more (r ∷ rows) row question e = (λ h. h, λ h. h)
  pushed_before (first ∷ path) (s ∷ place) more (r ∷ rows) row question e =
      let rest = pushed_before path place more rows row question (omega arith) in
      (λ h. (h.0, rest.0 h.1), λ h. (h.0, rest.1 h.1))

  -- the rows so far, of which the last is that of the place at hand
  pub record IsTrailTo (refused : Refusals) (path done ahead : Path) (rows : List R) : Type 0 where
    pub whole : path ≡ done ++ ahead
    pub long : length rows ≡ suc (length done)
    pub same : (place after : Path) → done ≡ place ++ after → (question : Question) → Refuses path rows place question ↔ refused place question

  pub trail_starts : (refused : Refusals) (path : Path) (row : R) → ((question : Question) → refuses row question ↔ refused [] question) → IsTrailTo refused path [] path (row ∷ [])
  trail_starts refused path row is = record { whole = refl; long = refl; same = same }
    where
      same : (place after : Path) → [] ≡ place ++ after → (question : Question) → Refuses path (row ∷ []) place question ↔ refused place question
      same [] after e question = is question
      same (p ∷ place) after e question = absurd (cc)

  pub trail_goes :
      (refused : Refusals) (path done ahead : Path) (step : Step) (rows : List R) (row : R) → IsTrailTo refused path done (step ∷ ahead) rows
      → ((question : Question) → refuses row question ↔ refused (done ++ step ∷ []) question) → IsTrailTo refused path (done ++ step ∷ []) ahead (rows ++ row ∷ [])
  trail_goes refused path done ahead step rows row trail is = record { whole = whole; long = long rows row done trail.long; same = same }
    where
      whole : path ≡ (done ++ step ∷ []) ++ ahead
      whole = trail.whole ∙ sym (append_assoc done (step ∷ []) ahead)

      snoc_length : {X : Type 0} (xs : List X) (x : X) → length (xs ++ x ∷ []) ≡ suc (length xs)
      snoc_length [] x = refl
      snoc_length (y ∷ xs) x = ap suc (snoc_length xs x)

      long : (rows : List R) (row : R) (done : Path) → length rows ≡ suc (length done) → length (rows ++ row ∷ []) ≡ suc (length (done ++ step ∷ []))
      long rows row done e = snoc_length rows row ∙ ap suc (e ∙ sym (snoc_length done step))

      same : (place after : Path) → done ++ step ∷ [] ≡ place ++ after → (question : Question) → Refuses path (rows ++ row ∷ []) place question ↔ refused place question
      same place after e question = ⊎_elim here before (beginning done place after step e)
        where
          here : (after ≡ []) × (place ≡ done ++ step ∷ []) → Refuses path (rows ++ row ∷ []) place question ↔ refused place question
          here h =
              let at = pushed_at (done ++ step ∷ []) ahead rows row question (trail.long ∙ sym (snoc_length done step)) in
              let Q : Path → Path → Type 0 = λ p w. Refuses p (rows ++ row ∷ []) w question ↔ refused w question in
              let full : Q ((done ++ step ∷ []) ++ ahead) (done ++ step ∷ []) = (λ r. (is question).0 (at.0 r), λ r. at.1 ((is question).1 r)) in
              subst (λ w. Q path w) (sym h.1) (subst (λ p. Q p (done ++ step ∷ [])) (sym whole) full)

          before : (more : Path) × (after ≡ more ++ step ∷ []) × (done ≡ place ++ more) → Refuses path (rows ++ row ∷ []) place question ↔ refused place question
          before h =
              let old = trail.same place h.0 h.2 question in
              let same_rows = pushed_before path place h.0 rows row question (trail.long ∙ ap (λ p. suc (length p)) h.2) in
              (λ r. old.0 (same_rows.0 r), λ r. same_rows.1 (old.1 r))

  pub trail_ends : (refused : Refusals) (path done : Path) (rows : List R) → IsTrailTo refused path done [] rows → IsTrail refuses refused path rows
  trail_ends refused path done rows trail =
      let e : path ≡ done = trail.whole ∙ append-nil done in
      record { long = trail.long ∙ ap (λ p. suc (length p)) (sym e); same = λ place after is question. trail.same place after (sym e ∙ is) question }

  -- what two trails refuse together
  pub met_refuses : (path : Path) (one other rows : List R) → length one ≡ length other → AreMet refuses one other rows → (place : Path) (question : Question)
      → Refuses path rows place question ↔ (Refuses path one place question ⊎ Refuses path other place question)
  met_refuses path [] [] rows e m place question =
      (λ h. let P : List R → Type 0 = λ rs. Refuses path rs place question in absurd (none path place (subst P m h)), λ h. ⊎_elim (λ a. absurd (none path place a)) (λ b. absurd (none path place b)) h)
    where
      none : (path place : Path) → Refuses path [] place question → ⊥
      none path place h = h
  met_refuses path [] (b ∷ other) rows e m place question = absurd (omega arith)
  met_refuses path (a ∷ one) [] rows e m place question = absurd (omega arith)
  met_refuses path (a ∷ one) (b ∷ other) rows e m place question =
      let P : List R → Type 0 = λ rs. Refuses path rs place question ↔ (Refuses path (a ∷ one) place question ⊎ Refuses path (b ∷ other) place question) in
      subst P (sym m.2) (cases path place (λ steps further. met_refuses steps one other m.1 (omega arith) m.4 further question))
    where
      cases :
          (path place : Path)
          → ((steps further : Path) → Refuses steps m.1 further question ↔ (Refuses steps one further question ⊎ Refuses steps other further question))
          → Refuses path (m.0 ∷ m.1) place question ↔ (Refuses path (a ∷ one) place question ⊎ Refuses path (b ∷ other) place question)
      cases path [] rest = m.3 question
      cases [] (s ∷ place) rest = (λ h. absurd h, λ h. ⊎_elim (λ x. x) (λ x. x) h)
      cases (first ∷ path) (s ∷ place) rest =
          let more = rest path place in
          (λ h. ⊎_elim (λ x. inl (h.0, x)) (λ x. inr (h.0, x)) (more.0 h.1), λ h. ⊎_elim (λ x. (x.0, more.1 (inl x.1))) (λ x. (x.0, more.1 (inr x.1))) h)

  pub met_length : (one other rows : List R) → length one ≡ length other → AreMet refuses one other rows → length rows ≡ length one
  met_length [] other rows e m = ap length m
  met_length (a ∷ one) [] rows e m = absurd (omega arith)
  met_length (a ∷ one) (b ∷ other) rows e m = ap length m.2 ∙ ap suc (met_length one other m.1 (omega arith) m.4)

  pub trails_met : (a b : Refusals) (path : Path) (one other rows : List R) → IsTrail refuses a path one → IsTrail refuses b path other → AreMet refuses one other rows
      → IsTrail refuses (λ place question. a place question ⊎ b place question) path rows
  trails_met a b path one other rows x y m =
      let e : length one ≡ length other = x.long ∙ sym y.long in
      record {
        long = met_length one other rows e m ∙ x.long;
        same = λ place after is question.
            let both = met_refuses path one other rows e m place question in
            let p = x.same place after is question in
            let q = y.same place after is question in
            (λ h. ⊎_elim (λ r. inl (p.0 r)) (λ r. inr (q.0 r)) (both.0 h), λ h. both.1 (⊎_elim (λ r. inl (p.1 r)) (λ r. inr (q.1 r)) h));
      }

  -- trails of the same refusals
  pub trail_as : (a b : Refusals) (path : Path) (rows : List R) → ((place : Path) (question : Question) → a place question ↔ b place question) → IsTrail refuses a path rows → IsTrail refuses b path rows
  trail_as a b path rows is trail = record {
    long = trail.long;
    same = λ place after e question. let one = trail.same place after e question in let two = is place question in (λ h. two.0 (one.0 h), λ h. one.1 (two.1 h));
  }
