use Rattle.std.proofs.Common.{◌≡◌, ℕ, not, nat_lt, sym, ◌∙◌, ap, subst}
use Rattle.n_tty.specs.Writing.{piece_size}
use Rattle.n_tty.proofs.WithoutRoom.{piece_size-room}
use Rattle.ldisc_switch.specs.declared.discipline.Disc.{Disc}
use Rattle.tty_terminal.specs.Inside.{terminal_of}
use Rattle.tty_terminal.specs.Meeting.{InRoom}
use Rattle.tty_terminal.specs.Questions.{rest_waits}
use Rattle.tty_terminal.proofs.RoomLaws.{and_not}
use Rattle.tty_terminal.proofs.terminals.Terminal.rest_must_wait.Goals as goal

pub returns-else-is_empty : goal.returns-else-is_empty
returns-else-is_empty c =
    let a = c.self.inside in
    let t = terminal_of a in
    let rest = c.args.rest.now in
    let tty = c.in-Tty.tty in
    let some = sym c.is_empty.ensures ∙ c.if-is_empty.false in
    let fits = c.can_write.ensures ∙ ap (λ (n : ℕ). nat_lt 0 n) (sym (piece_size-room a.modes tty a.wire rest)) in
    subst (λ (v : InRoom). not c.can_write.result ≡ rest_waits v.terminal rest v.terminal.disc) c.self.view_is
    (subst (λ (d : Disc). not c.can_write.result ≡ rest_waits t rest d) (sym c.in-Tty.is)
    (ap not fits ∙ sym (and_not _ (not (nat_lt 0 (piece_size t.modes tty t.output rest))) some)))
