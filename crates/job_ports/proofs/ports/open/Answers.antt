use Rattle.std.proofs.Common.{ℕ, List, length, refl, sym, ap, ◌∙◌, subst, arith}
use Rattle.tty_calls.specs.Sessions.{session_of, scripts_over, names_of}
use Rattle.play_base.specs.Phases.{IsBeforePhase}
use Rattle.play_base.specs.Roles.{scene_of}
use Rattle.play_base.proofs.NameLemmas.{number_at}
use Rattle.job_control.specs.declared.processes.Proc.{Proc}
use Rattle.job_ports.specs.Callers.{StandOnce}
use Rattle.job_ports.proofs.Beginning.{base_within}
use Rattle.job_ports.proofs.Starting.{opened_between, procs_are}
use Rattle.job_ports.proofs.ports.open.Goals as goal

pub open_desk-requires-clause-few : goal.open_desk-requires-clause-few
open_desk-requires-clause-few c =
    let few = c.requires.within.procs c.args.number in
    let same = ap (λ (ps : List Proc). length ps) (procs_are c.args.number c.args.session.now c.requires.port) in
    omega (arith, few, same)

pub open_desk-requires-clause-once : goal.open_desk-requires-clause-once
open_desk-requires-clause-once c =
    let scripts = scripts_over c.from-port.result (session_of c.args.session.now.session).phases in
    subst StandOnce (sym c.in_ok-names.ensures) (λ n name is. number_at scripts name n is)

pub open_port-requires-clause-within : goal.open_port-requires-clause-within
open_port-requires-clause-within c = base_within c.args.session.now c.requires.within

pub returns : goal.returns
returns c =
    let p = c.args.number in
    let kept = c.args.session.now in
    opened_between p kept c.in_ok-names.names c.in_ok-station.station
    (record { names = c.in_ok-names.names; station = c.in_ok-station.station; desk = c.in_ok-desk.desk })
    c.requires.within c.requires.port (c.in_ok-names.ensures
    ∙ ap (λ (q : ℕ). names_of (scripts_over q (session_of kept.session).phases)) c.from-port.ensures)
    c.in_ok-desk.ensures.opened c.in_ok-desk.ensures.callers
    (subst (λ (q : ℕ). IsBeforePhase (scene_of q kept.session) 0 c.in_ok-station.station 0)
    c.from-port.ensures c.in_ok-station.ensures) c.known.ensures.port refl refl
