-- Where there is neither a conflict nor a gap, a scalar is chosen wherever only scalars may stand.
use Rattle.std.proofs.Common.{◌≡◌, ◌<◌, ◌+◌, inl, inr, ℕ, suc, Bool, true, false, [], ◌∷◌, refl, subst, arith}
use Rattle.std.specs.List.{AllByRecursion}
use Rattle.std.proofs.lemmas.Bool.{false≢true}
use Rattle.cue_lattice.specs.Path as paths
use Rattle.cue_lattice.specs.Path.{label, index, Path}
use Rattle.cue_lattice.specs.Question.{Refusals}
use Rattle.cue_lattice.specs.declared.scalar.Scalar.{Scalar}
use Rattle.serde_json.specs.Data.{Data, null, boolean, number, string, array, object, Items, no_items, item, Members, no_members, member}
use Rattle.cue_report.specs.Answers.{IsStepDemanded, HasNoScalar, HasNoValue, IsNotAllowed}
use Rattle.cue_report.specs.Export.{refused_below, data_of, keys, count_elements, IsAtom, IsShape, AreElements, AreMembers}
use Rattle.cue_report.specs.Gaps.{IsMissing, IsChosenScalar, IsReportGap, AreGaps}
use Rattle.cue_report.specs.Listing.{AreConflicts}
use Rattle.cue_report.specs.Picks.{IsPicked}
use Rattle.cue_report.specs.Inner.Writing.{IsSettled}
use Rattle.cue_report.proofs.Clear.{either_way, value_there, allowed_there, all_steps, root_demanded}

no_gap : (refuses : Refusals) (path : Path) (missing : Bool) → AreGaps refuses [] → IsReportGap refuses (record { path = path; missing = missing }) → ⊥
no_gap refuses path missing h g = h.complete (record { path = path; missing = missing }) g

pub settled : (refuses : Refusals) → AreConflicts refuses [] → AreGaps refuses [] → IsSettled refuses
settled refuses h g path d s l n = either_way (IsMissing refuses path)
    (λ m. no_gap refuses path true g (record { demanded = d; has_value = value; allowed = allowed; missing = (λ t. m, λ v. refl); cause = inl m }))
    (λ m. no_gap refuses path false g (record { demanded = d; has_value = value; allowed = allowed; missing = (λ t. absurd (false≢true t), λ v. absurd (m v)); cause = inr (inr (scalar, s, l, n)) }))
  where
    value : HasNoValue refuses path → ⊥
    value = value_there refuses path h d

    allowed : IsNotAllowed refuses path → ⊥
    allowed = allowed_there refuses path h d

    scalar : HasNoScalar refuses path → ⊥
    scalar none = value (inl (none, s, l))

pub settled_beyond : (refuses : Refusals) (step : paths.Step) → IsStepDemanded refuses [] step → IsSettled refuses → IsSettled (refused_below refuses step)
settled_beyond refuses step first z path d s l n = z (step ∷ path) (all_steps refuses step path first d) s l n

-- ---- what is picked is chosen then
chosen_atom : (refuses : Refusals) (json : Data) → IsSettled refuses → IsAtom IsPicked refuses json → IsAtom IsChosenScalar refuses json
chosen_atom refuses json z (inl free) = inl free
chosen_atom refuses json z (inr h) = inr (record { no_struct = h.no_struct; no_list = h.no_list; picked = which h.picked.0 h.picked.1 h.picked.2 }) where
  which : (scalar : Scalar) → IsPicked refuses [] scalar → json ≡ data_of scalar → (scalar : Scalar) × IsChosenScalar refuses [] scalar × (json ≡ data_of scalar)
  which scalar (inl chosen) e = (scalar, chosen, e)
  which scalar (inr first) e = absurd (z [] (root_demanded refuses) h.no_struct h.no_list first.0)

mutual
  pub chosen_shape : (json : Data) (refuses : Refusals) → IsSettled refuses → IsShape IsPicked refuses json → IsShape IsChosenScalar refuses json
  chosen_shape null refuses z h = chosen_atom refuses null z h
  chosen_shape (boolean b) refuses z h = chosen_atom refuses (boolean b) z h
  chosen_shape (number n) refuses z h = chosen_atom refuses (number n) z h
  chosen_shape (string s) refuses z h = chosen_atom refuses (string s) z h
  chosen_shape (array items) refuses z h =
      (h.0, h.1, h.2, chosen_elements items refuses 0 z (λ i l. (h.2 (0 + i)).1 (let e : 0 + i ≡ i = omega arith in omega (arith, e, l))) h.3)
  chosen_shape (object members) refuses z h = (h.0, h.1, h.2, chosen_members members refuses z h.2.sound h.3)

  pub chosen_elements : (items : Items) (refuses : Refusals) (first : ℕ) → IsSettled refuses → ((i : ℕ) → i < count_elements items → IsStepDemanded refuses [] (index (first + i))) → AreElements IsPicked refuses first items → AreElements IsChosenScalar refuses first items
  chosen_elements no_items refuses first z d h = tt
  chosen_elements (item json items) refuses first z d h =
      let here : IsStepDemanded refuses [] (index first) = (let e : first + 0 ≡ first = omega arith in subst (λ n. IsStepDemanded refuses [] (index n)) e (d 0 (omega arith))) in (
        chosen_shape json (refused_below refuses (index first)) (settled_beyond refuses (index first) here z) h.0,
        chosen_elements items refuses (suc first) z
            (λ i l. let e : first + suc i ≡ suc first + i = omega arith in subst (λ n. IsStepDemanded refuses [] (index n)) e (d (suc i) (omega (arith, l)))) h.1,
      )

  pub chosen_members : (members : Members) (refuses : Refusals) → IsSettled refuses → AllByRecursion (λ key. IsStepDemanded refuses [] (label key)) (keys members) → AreMembers IsPicked refuses members → AreMembers IsChosenScalar refuses members
  chosen_members no_members refuses z d h = tt
  chosen_members (member key json members) refuses z d h =
      (chosen_shape json (refused_below refuses (label key)) (settled_beyond refuses (label key) d.0 z) h.0, chosen_members members refuses z d.1 h.1)

-- ---- what is chosen is picked
picked_atom : (refuses : Refusals) (json : Data) → IsAtom IsChosenScalar refuses json → IsAtom IsPicked refuses json
picked_atom refuses json (inl free) = inl free
picked_atom refuses json (inr h) = inr (record { no_struct = h.no_struct; no_list = h.no_list; picked = (h.picked.0, inl h.picked.1, h.picked.2) })

mutual
  pub picked_shape : (json : Data) (refuses : Refusals) → IsShape IsChosenScalar refuses json → IsShape IsPicked refuses json
  picked_shape null refuses h = picked_atom refuses null h
  picked_shape (boolean b) refuses h = picked_atom refuses (boolean b) h
  picked_shape (number n) refuses h = picked_atom refuses (number n) h
  picked_shape (string s) refuses h = picked_atom refuses (string s) h
  picked_shape (array items) refuses h = (h.0, h.1, h.2, picked_elements items refuses 0 h.3)
  picked_shape (object members) refuses h = (h.0, h.1, h.2, picked_members members refuses h.3)

  picked_elements : (items : Items) (refuses : Refusals) (first : ℕ) → AreElements IsChosenScalar refuses first items → AreElements IsPicked refuses first items
  picked_elements no_items refuses first h = tt
  picked_elements (item json items) refuses first h = (picked_shape json (refused_below refuses (index first)) h.0, picked_elements items refuses (suc first) h.1)

  picked_members : (members : Members) (refuses : Refusals) → AreMembers IsChosenScalar refuses members → AreMembers IsPicked refuses members
  picked_members no_members refuses h = tt
  picked_members (member key json members) refuses h = (picked_shape json (refused_below refuses (label key)) h.0, picked_members members refuses h.1)
