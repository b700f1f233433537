use Rattle.std.proofs.Common.{arith, ℕ, List, length, take, ap, subst, length-drop}
use Rattle.flip_buffer.specs.Packed.{with_flag}
use Rattle.tty_device.specs.Lines.{Puts}
use Rattle.tty_device.proofs.Putting.{more_put}
use Rattle.tty_device.proofs.lines.put_some.Goals as goal

pub loop-done-preserved : goal.loop-done-preserved
loop-done-preserved c =
    let before = c.loop-done.invariant in
    let rest = c.rest_of.ensures in
    record {
      within = omega (
        arith,
        before.within,
        c.put_run-count.ensures.within,
        ap length rest,
        length-drop c.loop-done.done c.args.bytes.now,
      );
      puts = more_put _ _ _ _ _ _ _ before.puts
          (subst (λ (xs : List ℕ).
          Puts c.loop-done.input c.put_run-count.new.input (with_flag c.args.flag (take c.put_run-count.result xs)))
          rest c.put_run-count.ensures.puts);
    }
