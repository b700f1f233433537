use Rattle.std.proofs.Common.{ℕ, List, [], ap, ◌∙◌, subst}
use Rattle.std.specs.Prelude.{replicate}
use Rattle.modem_lines.specs.Lines.{first_lines}
use Rattle.tty_calls.specs.Sessions.{session_of, scripts_over, names_of}
use Rattle.play_base.specs.Phases.{IsBeforePhase}
use Rattle.play_base.specs.Roles.{scene_of}
use Rattle.modem_ports.proofs.Beginning.{base_within}
use Rattle.modem_ports.proofs.Starting.{opened_between}
use Rattle.modem_ports.proofs.ports.open.Goals as goal

pub open_port-requires-clause-within : goal.open_port-requires-clause-within
open_port-requires-clause-within c = base_within c.args.session.now c.args.base.now c.requires.within c.requires.base

pub returns : goal.returns
returns c =
    opened_between c.args.number c.args.session.now c.args.base.now c.in_ok-names.names c.in_ok-station.station
    c.new-desk.result c.requires.within c.requires.base
    (c.in_ok-names.ensures
    ∙ ap (λ (q : ℕ). names_of (scripts_over q (session_of c.args.base.now).phases)) c.from-port.ensures)
    (subst (λ (q : ℕ). IsBeforePhase (scene_of q c.args.base.now) 0 c.in_ok-station.station 0) c.from-port.ensures
    c.in_ok-station.ensures)
    c.known.ensures.port
    (c.new-desk.ensures
    ∙ ap (λ (ns : List ℕ). record { number = c.args.number; lines = first_lines; next = ns; items = 0; log = [] })
    (c.in_ok-next.ensures.items_if_clones_equal (λ y e. e) ∙ ap (λ (n : ℕ). replicate n 0) c.len.ensures))
