use Rattle.std.proofs.Common.{◌≡◌, ◌*◌}
use Rattle.arrayvec.specs.ArrayVec.{array_vec_len}
use Rattle.echo_out.specs.Echo.{blanking_bytes}
use Rattle.echo_out.proofs.blanking_bytes.Given as goal

abbrev pub invariant-loop : goal.invariant-loop
invariant-loop l = (l.out.items ≡ blanking_bytes l.counter) × (array_vec_len l.out ≡ 3 * l.counter)
