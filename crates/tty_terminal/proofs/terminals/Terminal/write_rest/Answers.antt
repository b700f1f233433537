use Rattle.std.proofs.Common.{◌≡◌, ℕ, nat_lt, sym, ◌∙◌, ap, subst}
use Rattle.ldisc_switch.specs.declared.discipline.Disc.{Disc}
use Rattle.flow_control.specs.Output.{Output, without_room}
use Rattle.n_tty.specs.Writing.{piece_size}
use Rattle.n_tty.proofs.WithoutRoom.{piece_size-room, after_write-room}
use Rattle.ldisc_switch.specs.declared.discipline.Disc.TheVariants as disc
use Rattle.tty_terminal.specs.Inside.{terminal_of}
use Rattle.tty_terminal.specs.Transfers.{with_piece_posted, write_outcome}
use Rattle.tty_terminal.specs.Meeting.{InRoom, Meets, left_before_rule}
use Rattle.tty_terminal.proofs.RoomLaws.{posted_made}
use Rattle.tty_terminal.proofs.WriteLaws.{refused_met, waiting_met, nothing_left, whole_met, part_met, posted_left}
use Rattle.tty_terminal.proofs.terminals.Terminal.write_rest.Goals as goal
use Rattle.tty_terminal.proofs.terminals.Terminal.write_rest.Goals.{then-nonblock, else-nonblock}
use Rattle.tty_terminal.proofs.terminals.Terminal.write_rest.Goals.{then-count-rest, else-count-rest}

pub returns-then-not-can_write-clause-met : goal.returns-then-not-can_write-clause-met
returns-then-not-can_write-clause-met c =
    let a = c.self.inside in
    let t = terminal_of a in
    let s = c.args.state.now in
    let rest = c.args.rest.now in
    let tty = c.in-Tty.tty in
    let fit = piece_size a.modes tty a.wire rest in
    let size = piece_size-room a.modes tty a.wire rest in
    let some = sym c.is_empty.ensures ∙ c.if-is_empty.false in
    let none = sym c.can_write.ensures ∙ c.if-not-can_write.true in
    subst (λ (v : InRoom). Meets (write_outcome v.terminal s c.args.nonblock rest v.terminal.disc) c.if-nonblock.result)
    c.self.view_is
    (subst (λ (d : Disc). Meets (write_outcome t s c.args.nonblock rest d) c.if-nonblock.result) (sym c.in-Tty.is)
    (elim c.if-nonblock.branch [
      | then-nonblock w ↦ refused_met t s c.args.nonblock rest tty fit c.if-nonblock.result size some none
          w.if-nonblock.true (w.result-is ∙ w.refuse_write-then-nonblock.ensures)
      | else-nonblock w ↦ waiting_met t s c.args.nonblock rest tty fit c.if-nonblock.result
          size some none w.if-nonblock.false w.result-is
    ]))

pub returns-then-not-can_write-clause-left : goal.returns-then-not-can_write-clause-left
returns-then-not-can_write-clause-left c =
    let a = c.self.inside in
    let t = terminal_of a in
    let s = c.args.state.now in
    let rest = c.args.rest.now in
    let tty = c.in-Tty.tty in
    let fit = piece_size a.modes tty a.wire rest in
    let some = sym c.is_empty.ensures ∙ c.if-is_empty.false in
    let none = sym c.can_write.ensures ∙ c.if-not-can_write.true in
    subst (λ (v : InRoom).
    record t { disc = disc.Tty tty }
    ≡ left_before_rule (write_outcome v.terminal s c.args.nonblock rest v.terminal.disc) v.terminal) c.self.view_is
    (ap (λ (d : Disc). record t { disc = d }) (sym c.in-Tty.is)
    ∙ (nothing_left t s c.args.nonblock rest tty fit (piece_size-room a.modes tty a.wire rest) some none
    ∙ ap (λ (d : Disc). left_before_rule (write_outcome t s c.args.nonblock rest d) t) (sym c.in-Tty.is)))

pub returns-after-count-rest-clause-met : goal.returns-after-count-rest-clause-met
returns-after-count-rest-clause-met c =
    let a = c.self.inside in
    let t = terminal_of a in
    let s = c.args.state.now in
    let rest = c.args.rest.now in
    let tty = c.in-Tty.tty in
    let n = c.write_piece-count.result in
    let size = piece_size-room a.modes tty a.wire rest ∙ sym c.write_piece-count.ensures.count in
    let some =
    ap (λ (k : ℕ). nat_lt 0 k) c.write_piece-count.ensures.count
    ∙ (sym c.can_write.ensures ∙ c.if-not-can_write.false) in
    subst
    (λ (v : InRoom). Meets (write_outcome v.terminal s c.args.nonblock rest v.terminal.disc) c.if-count-rest.result)
    c.self.view_is
    (subst (λ (d : Disc). Meets (write_outcome t s c.args.nonblock rest d) c.if-count-rest.result) (sym c.in-Tty.is)
    (elim c.if-count-rest.branch [
      | then-count-rest w ↦
          whole_met t s c.args.nonblock rest tty n c.if-count-rest.result size w.if-count-rest.true w.result-is
      | else-count-rest w ↦
          part_met t s c.args.nonblock rest tty n c.if-count-rest.result size some w.if-count-rest.false w.result-is
    ]))

pub returns-after-count-rest-clause-left : goal.returns-after-count-rest-clause-left
returns-after-count-rest-clause-left c =
    let a = c.self.inside in
    let t = terminal_of a in
    let s = c.args.state.now in
    let rest = c.args.rest.now in
    let tty = c.in-Tty.tty in
    let n = c.write_piece-count.result in
    let size = piece_size-room a.modes tty a.wire rest ∙ sym c.write_piece-count.ensures.count in
    let some =
    ap (λ (k : ℕ). nat_lt 0 k) c.write_piece-count.ensures.count
    ∙ (sym c.can_write.ensures ∙ c.if-not-can_write.false) in
    let posted = c.write_piece-count.ensures in
    subst (λ (v : InRoom).
    record t { disc = disc.Tty c.write_piece-count.new.self; output = without_room c.write_piece-count.new.wire }
    ≡ left_before_rule (write_outcome v.terminal s c.args.nonblock rest v.terminal.disc) v.terminal) c.self.view_is
    (ap (λ (d : Disc). record t { disc = d; output = without_room c.write_piece-count.new.wire })
    (ap disc.Tty (posted.after ∙ sym (after_write-room a.modes a.wire rest tty)))
    ∙ (ap (λ (o : Output). record (with_piece_posted t tty rest) { output = o })
    (ap without_room posted.wire ∙ posted_made a.modes tty a.wire rest)
    ∙ (posted_left t s c.args.nonblock rest tty n size some
    ∙ ap (λ (d : Disc). left_before_rule (write_outcome t s c.args.nonblock rest d) t) (sym c.in-Tty.is))))
