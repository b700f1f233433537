use Rattle.std.proofs.Common.{◌-◌, length}
use Rattle.tty_base.specs.Sizes.{MOST_ENTRIES}
use Rattle.legal_runs.specs.Order.{is_of_consoles}
use Rattle.one_thread.specs.Turns.{role_numbers, IsTurn}
use Rattle.one_thread.specs.Acts.{Playing}
use Rattle.one_thread.proofs.after_line.play_after_line.Given as goal

abbrev pub ghost-play_turn : goal.ghost-play_turn
ghost-play_turn g a = g.scene

abbrev pub invariant-loop-next : goal.invariant-loop-next
invariant-loop-next g l =
    record {
      playing : Playing g.scene l.scripts l.roles l.fn.port l.port l.ticks l.stand;
      turn : IsTurn (is_of_consoles g.scene.session) l.port (role_numbers l.roles) l.stand.going l.next;
    }

abbrev pub decreases-loop-next : goal.decreases-loop-next
decreases-loop-next g l = MOST_ENTRIES - length l.port.journal
