use Rattle.std.proofs.Common.{◌≡◌, length}
use Rattle.session_text.specs.Refusals.{lines_in}
use Rattle.session_text.specs.Fronts.{front_from}
use Rattle.session_text.specs.Views.{reading_of}
use Rattle.session_text.proofs.reader.Reader.read_front.Given as goal

abbrev pub invariant-loop-alloc : goal.invariant-loop-alloc
invariant-loop-alloc l =
    front_from (reading_of l.self) l.number (lines_in l.rest) ≡ front_from (reading_of l.fn.self) 1 (lines_in l.text)

abbrev pub decreases-loop-alloc : goal.decreases-loop-alloc
decreases-loop-alloc l = length l.rest
