use Rattle.std.proofs.Common.{◌≡◌, map, take}
use Rattle.session_print.specs.Ends.{end_of}
use Rattle.session_print.specs.Summary.{all_generations}
use Rattle.session_print.proofs.summaries.generations_of.Given as goal

abbrev pub invariant-loop-end : goal.invariant-loop-end
invariant-loop-end l = l.count ≡ all_generations (map end_of (take l.end-index l.ends))
