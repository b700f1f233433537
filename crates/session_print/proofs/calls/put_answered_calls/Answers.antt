use Rattle.std.proofs.Common.{ap, map, string_bytes}
use Rattle.tty_calls.specs.Sessions.{phase_of, session_of}
use Rattle.session_print.specs.Printing.{noted_answer}
use Rattle.session_print.proofs.Numbering.{told_added}
use Rattle.session_print.proofs.calls.put_answered_calls.Goals as goal

pub returns : goal.returns
returns c =
    told_added c.put_phases-told.result c.args.port (noted_answer c.args.answers) (session_of c.args.session.now)
    c.in_ok-names.names (map phase_of c.as_slice.result.now) (string_bytes c.args.text.now)
    (string_bytes c.put_phases-told.new.text)
    c.in_ok-names.ensures (ap (λ ps. map phase_of ps) c.as_slice.ensures) c.put_phases-told.ensures
