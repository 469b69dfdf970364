-- What a scalar expression means: which scalars may stand, and its default, where it has one.
use Rattle.std.specs.Prelude.{Bool, List, [], ◌∷◌, None}
use Rattle.cue_scalars.specs.Pairs as pairs
use Rattle.cue_scalars.specs.Pairs.{ScalarMembers, ScalarPair, all_of}
use Rattle.cue_scope.specs.Core.{Core, null, truth, integer, text, named, bottom, bound}
use Rattle.cue_scope.specs.Core.{other_integer, other_text, conjunction, disjunction, closed, Cores}
use Rattle.cue_scope.specs.Core.{no_cores, core, Choices, no_choices, choice}
use Rattle.cue_eval.specs.Sets.{integer_of, no_scalars, null_alone, truth_alone, integer_alone}
use Rattle.cue_eval.specs.Sets.{text_alone, other_integers, other_texts, bound_scalars, named_set}

-- these scalars, without a default
abbrev pub plain_pair : ScalarMembers → ScalarPair
plain_pair scalars = record { value = scalars; usual = None }

-- A definition's name means what its body means. Of an expression that isn't scalar nothing is
-- asked.
abbrev mutual
  pub pair : Core → ScalarPair
  pair null = plain_pair null_alone
  pair (truth b) = plain_pair (truth_alone b)
  pair (integer n) = plain_pair (integer_alone (integer_of n))
  pair (text t) = plain_pair (text_alone t)
  pair (named name) = plain_pair (named_set name)
  pair bottom = plain_pair no_scalars
  pair (bound comparison n) = plain_pair (bound_scalars comparison (integer_of n))
  pair (other_integer n) = plain_pair (other_integers (integer_of n))
  pair (other_text t) = plain_pair (other_texts t)
  pair (conjunction cs) = all_of (pairs_of cs)
  pair (disjunction terms) = pairs.disjunction (terms_of terms)
  pair (closed c) = pair c
  pair _ = plain_pair no_scalars

  pub pairs_of : Cores → List ScalarPair
  pairs_of no_cores = []
  pairs_of (core c cs) = pair c ∷ pairs_of cs

  -- each with whether it is marked
  pub terms_of : Choices → List (Bool × ScalarPair)
  terms_of no_choices = []
  terms_of (choice marked c terms) = (marked, pair c) ∷ terms_of terms
