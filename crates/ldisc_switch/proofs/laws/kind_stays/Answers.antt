use Rattle.std.proofs.Common.{ap, ◌∙◌}
use Rattle.ldisc_switch.specs.Disciplines.{kind_of}
use Rattle.ldisc_switch.proofs.KindLemmas.{kept_kind}
use Rattle.ldisc_switch.proofs.laws.kind_stays.Goals as goal

pub returns : goal.returns
returns c state kind events h = ap kind_of h ∙ kept_kind kind events
