use Rattle.std.proofs.Common.{◌≡◌, ◌+◌, ◌++◌, length, drop, ap, arith, length-append}
use Rattle.n_tty.specs.Posting.{all_posted_bytes}
use Rattle.n_tty.proofs.PostingLemmas.{column_past_text-le, all_posted_bytes-more}
use Rattle.n_tty.proofs.posting.text_len.Goals as goal

pub loop-byte-preserved : goal.loop-byte-preserved
loop-byte-preserved c =
    let modes = c.args.modes.now in
    let bytes = c.args.bytes.now in
    let column = c.loop-byte.ahead in
    let piece = c.post.result in
    let rest = all_posted_bytes modes c.post.new.self (drop (c.loop-byte.byte-index + 1) bytes) in
    let more : all_posted_bytes modes column (drop c.loop-byte.byte-index bytes) ≡ piece ++ rest =
    all_posted_bytes-more modes column c.post.new.self bytes piece c.loop-byte.byte-index c.loop-byte-test.true
    c.post.ensures.piece c.post.ensures.column in
    record {
      len =
          omega (arith, c.loop-byte.invariant.len, ap length more, length-append piece rest, c.len-count.ensures.count);
      bound = omega (
        arith,
        c.loop-byte.invariant.bound,
        c.post.ensures.column,
        column_past_text-le modes column piece,
        c.len-count.ensures.count,
        c.len-count.ensures.short,
      );
      most = omega (arith, c.loop-byte.invariant.most, c.len-count.ensures.short);
    }
