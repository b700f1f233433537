use Rattle.std.proofs.Common.{◌≡◌, ◌+◌, ◌≤◌, length}
use Rattle.text_lines.specs.Lines.{words_of}
use Rattle.session_text.specs.Kinds.{fault_from}
use Rattle.session_text.proofs.kinds.fault_behind.Given as goal

abbrev pub invariant-loop-word : goal.invariant-loop-word
invariant-loop-word l = record {
  same : fault_from l.ports l.verb l.place (words_of l.rest) ≡ fault_from l.ports l.verb 2 (words_of l.line);
  few : l.place + length l.rest ≤ length l.line + 2;
}

abbrev pub decreases-loop-word : goal.decreases-loop-word
decreases-loop-word l = length l.rest
