use Rattle.std.proofs.Common.{◌≡◌, ℕ, length, take, ap, ◌∙◌, refl, subst, arith, length-take}
use Rattle.flow_control.specs.Output.{without_room}
use Rattle.flow_control.specs.Counting.{without_signal_room}
use Rattle.ldisc_switch.specs.Disciplines.{disc_on_port}
use Rattle.tty_terminal.specs.Terminals.{Terminal}
use Rattle.tty_terminal.specs.Inside.{terminal_of}
use Rattle.tty_terminal.specs.Meeting.{InRoom}
use Rattle.tty_terminal.specs.Receiving.{AcceptsAll}
use Rattle.tty_terminal.proofs.Received.{with_received, run_made, run_accepted}
use Rattle.tty_terminal.proofs.terminals.Terminal.receive_all.Goals as goal

pub returns-clause-received : goal.returns-clause-received
returns-clause-received c =
    let a = c.self.inside in
    let t : Terminal = terminal_of a in
    let n = c.receive_all-count.result in
    let cs = take n c.args.chars.now in
    let later = c.receive_all-count.new in
    let all : n ≡ length cs = omega (arith, length-take n c.args.chars.now, c.receive_all-count.ensures.within) in
    rw (← c.self.view_is)
    (
    ap
    (λ (k : ℕ). with_received t (disc_on_port later.self (without_room later.wire) (without_signal_room later.tally)) k)
    all
    ∙ run_made t cs a.wire a.tally later.self later.wire later.tally refl refl c.receive_all-count.ensures.after
    )

pub returns-clause-accepted : goal.returns-clause-accepted
returns-clause-accepted c =
    let a = c.self.inside in
    let cs = take c.receive_all-count.result c.args.chars.now in
    subst (λ (v : InRoom). AcceptsAll v.terminal cs) c.self.view_is
    (run_accepted (terminal_of a) cs a.wire a.tally refl refl c.receive_all-count.ensures.accepted)
