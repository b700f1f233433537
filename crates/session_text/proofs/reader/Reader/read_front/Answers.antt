use Rattle.std.proofs.Common.{◌≡◌, true, sym, ◌∙◌}
use Rattle.tty_calls.specs.Sessions.{session_of}
use Rattle.session_text.specs.Refusals.{lines_in}
use Rattle.session_text.specs.Stands.{is_ended}
use Rattle.session_text.specs.Views.{reading_of}
use Rattle.session_text.proofs.Fronts.{front_taken}
use Rattle.session_text.proofs.reader.Reader.read_front.Goals as goal

pub returns : goal.returns
returns c =
    let ended : is_ended (reading_of c.loop-alloc.self).stand.place ≡ true = cc in
    sym c.loop-alloc.invariant
    ∙ front_taken (reading_of c.loop-alloc.self) c.loop-alloc.number (lines_in c.loop-alloc.rest.now)
    (session_of c.in_ok-end.field-0) ended c.in_ok-end.ensures
