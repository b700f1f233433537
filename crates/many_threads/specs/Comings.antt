-- What comes of each thread of a phase, whether or not it was denied an entry.
use Rattle.std.specs.Prelude.{ℕ, ◌+◌, List, IfOk, IfErr, OnOk, OnErr}
use Rattle.tty_base.specs.declared.lines.LineStep.{LineStep}
use Rattle.tty_calls.specs.Plain.{PlainCall}
use Rattle.port_cell.specs.declared.kept.Stamped.{Stamped}
use Rattle.port_cell.specs.Knowledge.{list_seen}
use Rattle.tty_port.specs.Inside.{EntryWithCall}
use Rattle.tty_port.specs.Adding.{IsFull}
use Rattle.tty_port.specs.Calls.{PortSeat}
use Rattle.tty_port.specs.Shared.{IsHere, name_of_port}
use Rattle.tty_port.specs.declared.shared.SharedPort.{SharedPort}
use Rattle.many_threads.specs.Parts.{MakesInRole, PlaysCaller, StopsClock, PlaysClock}
use Rattle.many_threads.specs.Parts.{RunsLine, PlaysLine, PlaysFlusher, StopsFlusher}
use Rattle.many_threads.specs.declared.line_part.Receiver.{Receiver}
use Rattle.many_threads.specs.declared.thread_bodies.SeatBack.{SeatBack}
use Rattle.many_threads.specs.declared.thread_bodies.FlusherBack.{FlusherBack}
use Rattle.many_threads.specs.declared.thread_bodies.LineBack.{LineBack}

pub record CallerComes (p : SharedPort) (c first : ℕ) (calls : List PlainCall) (start : List (Stamped EntryWithCall))
    (back : SeatBack) : Type 0 where
  pub here : IsHere p c back.seat
  pub ok : OnOk back.result (PlaysCaller c first calls start back.seat)
  pub err : OnErr back.result (MakesInRole c first calls start back.seat)
  pub full : IfErr back.result (λ d. IsFull (name_of_port p) d (list_seen back.seat))

pub record ClockComes (p : SharedPort) (ticks : ℕ) (start : List (Stamped EntryWithCall))
    (back : SeatBack) : Type 0 where
  pub here : IsHere p ((name_of_port p).callers + 2) back.seat
  pub ok : OnOk back.result (PlaysClock ((name_of_port p).callers + 2) ticks start back.seat)
  pub err : OnErr back.result (StopsClock ((name_of_port p).callers + 2) ticks start back.seat)
  pub full : IfErr back.result (λ d. IsFull (name_of_port p) d (list_seen back.seat))

pub record FlusherComes (p : SharedPort) (run : ℕ) (start : PortSeat) (back : FlusherBack) : Type 0 where
  pub here : IsHere p (name_of_port p).callers back.seat
  pub ok : IfOk back.result (λ next. PlaysFlusher (name_of_port p) run start next back.seat)
  pub err : OnErr back.result (StopsFlusher (name_of_port p) run start back.seat)
  pub full : IfErr back.result (λ d. IsFull (name_of_port p) d (list_seen back.seat))

pub record LineComes (p : SharedPort) (steps : List LineStep) (receiver : Receiver) (back : LineBack) : Type 0 where
  pub here : IsHere p ((name_of_port p).callers + 1) back.receiver.seat
  pub ok : OnOk back.result (PlaysLine ((name_of_port p).callers + 1) steps receiver.line back.receiver.line
      receiver.putter back.receiver.putter (list_seen receiver.seat) back.receiver.seat)
  pub err : OnErr back.result (RunsLine steps receiver.line back.receiver.line receiver.putter back.receiver.putter)
  pub full : IfErr back.result (λ d. IsFull (name_of_port p) d (list_seen back.receiver.seat))
