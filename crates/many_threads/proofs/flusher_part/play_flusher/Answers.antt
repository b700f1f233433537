use Rattle.std.proofs.Common.{rules, arith, ◌≡◌, ◌+◌, ◌<◌, ◌∷◌, true, sum, refl, sym, ◌∙◌, subst}
use Rattle.port_cell.specs.Knowledge.{list_seen}
use Rattle.tty_port.specs.Calls.{PortSeat}
use Rattle.tty_port.specs.Seen.{next_run}
use Rattle.tty_port.specs.Flushing.{run_past}
use Rattle.tty_port.specs.Shared.{IsHere, name_of_port}
use Rattle.many_threads.specs.Parts.{StopsFlusher, FlushesRuns}
use Rattle.many_threads.proofs.PartLemmas.{run_goes_on, makes_same, run_made, runs_more}
use Rattle.many_threads.proofs.PartLemmas.{same_number, next_number, where_any_err}
use Rattle.many_threads.proofs.flusher_part.play_flusher.Goals as goal

pub returns-in_err-count-clause-err : goal.returns-in_err-count-clause-err
returns-in_err-count-clause-err g c =
    let name = name_of_port c.args.shared.now in
    let runs = c.loop.invariant.so_far in
    let one = c.in_err-count.ensures.err in
    let stops : StopsFlusher name c.args.run c.args.seat.now c.flush_run.new.seat =
    record {
      runs = runs.0;
      last = run_made c.loop.next one.0 c.loop.seat c.flush_run.new.seat;
      next = run_past c.loop.next one.0;
      flushes = runs_more name c.args.run c.args.seat.now runs.0 c.loop.next one.0 (run_past c.loop.next one.0)
          c.loop.seat c.flush_run.new.seat c.flush_run.new.seat runs.1 one.1 refl (makes_same c.flush_run.new.seat);
    } in
    where_any_err c.from_residual.result _ stops

pub loop-preserved-then-count-gt0 : goal.loop-preserved-then-count-gt0
loop-preserved-then-count-gt0 g c =
    let name = name_of_port c.args.shared.now in
    let runs = c.loop.invariant.so_far in
    let count = c.in_ok-count.count in
    let one = c.in_ok-count.ensures.ok in
    let some : 0 < count = omega arith in
    let next = next_number c.loop.next (c.loop.next + 1) count some refl in
    record {
      can_next = tt;
      finite = tt;
      seat = c.flush_run.ensures.seat;
      numbered = next ∙ sym one.next;
      so_far = (
        run_made c.loop.next count c.loop.seat c.flush_run.new.seat ∷ runs.0,
        runs_more name c.args.run c.args.seat.now runs.0 c.loop.next count (c.loop.next + 1) c.loop.seat
            c.flush_run.new.seat c.flush_run.new.seat runs.1 one next (makes_same c.flush_run.new.seat),
      );
    }

pub returns-then-ended-clause-ok : goal.returns-then-ended-clause-ok
returns-then-ended-clause-ok g c =
    let name = name_of_port c.args.shared.now in
    let runs = c.loop.invariant.so_far in
    let count = c.in_ok-count.count in
    let one = c.in_ok-count.ensures.ok in
    let none : count ≡ 0 = omega arith in
    let yes : c.ended.result ≡ true = first_of (search rules, cc) in
    record {
      runs = runs.0;
      last = run_made c.loop.next count c.loop.seat c.flush_run.new.seat;
      flushes = runs_more name c.args.run c.args.seat.now runs.0 c.loop.next count c.loop.next c.loop.seat
          c.flush_run.new.seat c.ended.new.seat runs.1 one (same_number c.loop.next count none) c.ended.ensures.kept;
      none = none;
      left = c.in_ok-count.ensures.last;
      numbered = run_goes_on name.callers (sum name.counts) c.loop.next count c.flush_run.new.seat c.ended.new.seat
          c.flush_run.ensures.seat.number one.next none c.ended.ensures.kept c.ended.ensures.placed;
      ended = sym c.ended.ensures.ended ∙ yes;
    }

pub loop-preserved : goal.loop-preserved
loop-preserved g c =
    let p = c.args.shared.now in
    let name = name_of_port p in
    let runs = c.loop.invariant.so_far in
    let count = c.in_ok-count.count in
    let one = c.in_ok-count.ensures.ok in
    let none : count ≡ 0 = omega arith in
    let here = subst (λ k. IsHere p k c.ended.new.seat) c.flush_run.ensures.seat.number c.ended.ensures.seat in
    let next = run_goes_on name.callers (sum name.counts) c.loop.next count c.flush_run.new.seat c.ended.new.seat
    c.flush_run.ensures.seat.number one.next none c.ended.ensures.kept c.ended.ensures.placed in
    let more = run_made c.loop.next count c.loop.seat c.flush_run.new.seat ∷ runs.0 in
    let made = runs_more name c.args.run c.args.seat.now runs.0 c.loop.next count c.loop.next c.loop.seat
    c.flush_run.new.seat c.ended.new.seat runs.1 one (same_number c.loop.next count none) c.ended.ensures.kept in
    let still = sym c.pause.ensures in
    record {
      can_next = tt;
      finite = tt;
      seat = subst (IsHere p name.callers) still here;
      numbered = subst (λ (s : PortSeat). c.loop.next ≡ next_run (list_seen s)) still next;
      so_far = (more, subst (FlushesRuns name c.args.run c.args.seat.now more c.loop.next) still made);
    }

-- the seat that has looked whether the phase may end waits
pub pause-requires : goal.pause-requires
pause-requires g c =
    subst (λ k. IsHere c.args.shared.now k c.ended.new.seat) (sym c.ended.ensures.seat.number) c.ended.ensures.seat
