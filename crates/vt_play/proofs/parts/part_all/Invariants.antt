use Rattle.vt_play.specs.Parts.{ArePartedAll}
use Rattle.vt_play.proofs.parts.part_all.Given as goal

abbrev pub invariant-loop-console : goal.invariant-loop-console
invariant-loop-console l = record {
  parted : ArePartedAll l.session.calls l.k l.yielded l.all;
}
