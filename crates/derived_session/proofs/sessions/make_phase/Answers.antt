use Rattle.std.proofs.Common.{◌<◌, List, length, sym, subst}
use Rattle.std.specs.Prelude.{All}
use Rattle.tty_calls.specs.declared.sessions.Script.{Script}
use Rattle.derived_session.proofs.Making.{unmapped}
use Rattle.derived_session.proofs.sessions.make_phase.Goals as goal

pub make_scripts-requires-clause-scripts : goal.make_scripts-requires-clause-scripts
make_scripts-requires-clause-scripts g c =
    let n = length c.args.ports.now in
    subst (λ (ss : List Script). All (λ (s : Script). s.port < n) ss) (sym c.as_slice-2.ensures)
    (unmapped n c.args.phase.now.callers.items c.requires.scripts)
