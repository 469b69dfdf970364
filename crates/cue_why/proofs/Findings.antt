-- What has to be refused for a finding.
use Rattle.std.proofs.Common.{◌↔◌}
use Rattle.cue_lattice.specs.Path.{Path}
use Rattle.cue_lattice.specs.Question.{Refusals}
use Rattle.cue_why.specs.Finding.{Makes}
use Rattle.cue_why.specs.Inner.Findings.{IsFinding, Meets}
use Rattle.cue_why.specs.declared.finding.Finding.{Finding}

pub makes_is : (view own : Refusals) (path : Path) (finding : Finding) → IsFinding view path finding → Meets finding own path ↔ Makes view own path
makes_is view own path finding is = (
  λ h. record {
    demanded = h.demanded;
    no_value = λ n. h.no_value (is.no_value.1 n);
    not_allowed = λ n. h.not_allowed (is.not_allowed.1 n);
    levels = λ clear k r. h.levels k ((is.levels k).1 (clear, r));
    no_default = λ clear given none. h.no_default (is.no_default.1 (clear, given, none));
  },
  λ m. record {
    demanded = m.demanded;
    no_value = λ t. m.no_value (is.no_value.0 t);
    not_allowed = λ t. m.not_allowed (is.not_allowed.0 t);
    levels = λ k less. let both = (is.levels k).0 less in m.levels both.0 k both.1;
    no_default = λ t. let all = is.no_default.0 t in m.no_default all.0 all.1 all.2;
  },
)
