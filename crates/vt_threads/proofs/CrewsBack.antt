-- What the keyboard's thread and a console's own threads bring back is what a crew does.
use Rattle.std.proofs.Common.{◌≡◌, ℕ, List, subst}
use Rattle.tty_base.specs.declared.characters.Flagged.{Flagged}
use Rattle.word_ring.specs.Ends.{PutterState}
use Rattle.uart_line.specs.LineState.{LineState}
use Rattle.port_cell.specs.Knowledge.{list_seen}
use Rattle.tty_port.specs.Calls.{PortSeat}
use Rattle.tty_port.specs.declared.shared.SharedPort.{SharedPort}
use Rattle.many_threads.specs.declared.caller_threads.CallersBack.{CallersBack}
use Rattle.many_threads.specs.declared.thread_bodies.FlusherBack.{FlusherBack}
use Rattle.many_threads.specs.declared.seats.Seats.{Seats}
use Rattle.many_threads.specs.declared.shared_phase.PhaseWork.{PhaseWork}
use Rattle.many_threads.specs.Comings.{ClockComes, FlusherComes, LineComes}
use Rattle.many_threads.specs.Callers.{CallersCome, plain_cast}
use Rattle.many_threads.specs.Crew.{CrewComes, crew_in}
use Rattle.vt_account.specs.Keyed.{key_line}
use Rattle.vt_keyboard.specs.declared.console_ends.KeySeats.{KeySeats}
use Rattle.vt_keyboard.specs.Consoles.{ConsoleComes}
use Rattle.vt_threads.specs.Halves.{crew_back, with_steps}

pub crew_comes : (p : SharedPort) (dealt : Seats) (work : PhaseWork) (keys : List ℕ) (s t : KeySeats) (l m : LineState)
    (e f : PutterState Flagged) (flusher : FlusherBack) (callers : CallersBack)
    → s.line ≡ dealt.line
    → s.clock ≡ dealt.clock
    → s.ticks ≡ work.ticks
    → ConsoleComes p keys s t l m e f
    → FlusherComes p work.run dealt.flusher flusher
    → CallersCome p (plain_cast work.scripts.now work.cast.now) callers
    → CrewComes p (crew_in dealt l e (with_steps (key_line keys) work)) (crew_back t m f flusher callers)
crew_comes p dealt work keys s t l m e f flusher callers line clock ticks h flushed called = record {
  line = subst (λ (seat : PortSeat). LineComes p (key_line keys) (record { seat = seat; line = l; putter = e })
      (record { receiver = record { seat = t.line; line = m; putter = f }; result = t.line_result })) line h.line;
  clock = subst (λ (n : ℕ). ClockComes p n (list_seen dealt.clock) (record { seat = t.clock; result = t.clock_result }))
      ticks
      (subst
      (λ (seat : PortSeat). ClockComes p s.ticks (list_seen seat) (record { seat = t.clock; result = t.clock_result }))
      clock h.clock);
  flusher = flushed;
  callers = called;
}
