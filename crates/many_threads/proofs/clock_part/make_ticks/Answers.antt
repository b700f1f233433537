use Rattle.std.proofs.Common.{◌≡◌, ℕ, List, sum, arith, subst}
use Rattle.port_cell.specs.declared.kept.Stamped.{Stamped}
use Rattle.port_cell.specs.Knowledge.{list_seen}
use Rattle.tty_port.specs.Inside.{EntryWithCall}
use Rattle.tty_port.specs.Seen.{marks_at}
use Rattle.tty_port.specs.Shared.{name_of_port}
use Rattle.many_threads.specs.Parts.{MakesTicks}
use Rattle.many_threads.proofs.PartLemmas.{clock_goes_on, tick_more}
use Rattle.many_threads.proofs.clock_part.make_ticks.Goals as goal

pub loop-preserved : goal.loop-preserved
loop-preserved g c =
    let name = name_of_port c.args.shared.now in
    let phase = λ (before : List (Stamped EntryWithCall)). (marks_at before).phase in
    let one = c.in_ok-tick.ensures.ok in
    record {
      within = omega arith;
      seat = c.tick.ensures.seat;
      not_over = clock_goes_on name.callers (sum name.counts) phase c.loop.seat c.tick.new.seat
          c.loop.invariant.seat.number c.tick.ensures.placed one c.loop.invariant.not_over;
      makes = tick_more name.callers (sum name.counts) phase c.loop.seat c.tick.new.seat c.loop.invariant.seat.number
          c.tick.ensures.placed one c.loop.counter (list_seen c.args.seat.now) c.loop.invariant.makes;
    }

pub returns-clause-ok : goal.returns-clause-ok
returns-clause-ok g c =
    let all : c.loop.counter ≡ c.args.ticks = omega arith in
    subst (λ (n : ℕ). MakesTicks n (list_seen c.args.seat.now) c.loop.seat) all c.loop.invariant.makes
