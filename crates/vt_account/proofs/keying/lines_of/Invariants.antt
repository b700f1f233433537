use Rattle.std.proofs.Common.{◌≡◌, ◌≤◌, ◌+◌, map}
use Rattle.line_steps.specs.Steps.{StepList}
use Rattle.vt_account.specs.Played.{key_lines}
use Rattle.vt_account.proofs.keying.lines_of.Given as goal

abbrev pub invariant-loop-p : goal.invariant-loop-p
invariant-loop-p l = record {
  lines : map (λ (line : StepList). line.items) l.lines.items ≡ key_lines l.p l.active l.keys;
  room : l.consoles ≤ l.p + l.lines.spare;
}
