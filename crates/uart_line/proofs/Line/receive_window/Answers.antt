use Rattle.uart_line.proofs.GoodWindows.{done-accepted, uncut-accepted, hands_over-accepted}
use Rattle.uart_line.proofs.Line.receive_window.Goals as goal

pub returns-clause-done : goal.returns-clause-done
returns-clause-done c =
    done-accepted c.args.self.now c.count_appended.new.self c.args.bytes.now c.requires.open
    (rw (← c.self.view_is) c.count_appended.ensures)

pub returns-clause-uncut : goal.returns-clause-uncut
returns-clause-uncut c =
    uncut-accepted c.args.self.now c.count_appended.new.self c.args.bytes.now c.requires.open
    (rw (← c.self.view_is) c.count_appended.ensures)

pub returns-clause-hands_over : goal.returns-clause-hands_over
returns-clause-hands_over c =
    hands_over-accepted c.args.self.now c.count_appended.new.self c.args.bytes.now c.requires.open
    (rw (← c.self.view_is) c.count_appended.ensures)
