use Rattle.std.proofs.Common.{◌≡◌, ◌+◌, ◌<◌, length, take, drop, get_or, ap, arith, length-append}
use Rattle.n_tty.specs.Editing.{echo_of_gone}
use Rattle.n_tty.proofs.ErasedLemmas.{echo_at, echo_at-is, echo_of_gone-more, length-echo-le}
use Rattle.n_tty.proofs.erasing.erased_len.Goals as goal

pub loop-i-preserved : goal.loop-i-preserved
loop-i-preserved c =
    let modes = c.args.modes.now in
    let kind = c.args.erasing.kind in
    let start = c.args.erasing.start in
    let line = c.args.edit.now in
    let i = c.loop-i.i in
    let echo : c.echo.result.items ≡ echo_at modes kind start line i =
    echo_at-is modes kind start line c.bytes-line.result.now i c.width_at.result c.echo.result.items
    c.bytes-line.ensures.bytes c.width_at.ensures.width c.echo.ensures in
    let within : i < length line = omega (arith, c.loop-i-test.true, ap length c.bytes-line.ensures.bytes) in
    let more = ap length (echo_of_gone-more modes kind start line i within) in
    let parts = length-append (echo_of_gone modes kind start (take (i + 1) line) (drop (i + 1) line))
    (echo_at modes kind start line i) in
    let size = ap length echo in
    let short = length-echo-le modes kind start (take i line) (get_or line i 0) c.requires.kind in
    record {
      len = omega (arith, c.loop-i.invariant.len, more, parts, size, c.len-count.ensures.value);
      most = omega (arith, c.loop-i.invariant.most, c.loop-i.auto.i, short, size, c.len-count.ensures.value);
    }
