use Rattle.std.proofs.Common.{map}
use Rattle.tty_calls.specs.Sessions.{session_of}
use Rattle.check_text.proofs.Rows.{callers_made}
use Rattle.check_text.proofs.callers.Callers.on_port.Goals as goal

pub returns : goal.returns
returns c =
    callers_made c.args.port (session_of c.args.session.now) c.in_ok-names.names
    (map (λ row. row.items) c.in_ok-kinds.kinds.items) c.in_ok-names.ensures c.in_ok-kinds.ensures
