use Rattle.std.proofs.Common.{◌≡◌, ◌+◌, ◌++◌, true, length, drop, ap, sym, ◌∙◌, arith, length-append}
use Rattle.flow_control.specs.Output.{has_room, after_send, after_try}
use Rattle.n_tty.specs.Posting.{column_past_text, all_posted_bytes}
use Rattle.n_tty.proofs.PostingLemmas.{after_send-append, after_send-spare, has_room-front}
use Rattle.n_tty.proofs.PostingLemmas.{has_room-rest, column_past_text-append}
use Rattle.n_tty.proofs.PostingLemmas.{column_past_text-le, all_posted_bytes-more, after_try-fits}
use Rattle.n_tty.proofs.posting.post.Goals as goal

pub loop-byte-preserved : goal.loop-byte-preserved
loop-byte-preserved c =
    let modes = c.args.modes.now in
    let bytes = c.args.bytes.now in
    let column = c.loop-byte.out in
    let wire = c.loop-byte.wire in
    let piece = c.post-piece.result in
    let rest = all_posted_bytes modes c.post-piece.new.self (drop (c.loop-byte.byte-index + 1) bytes) in
    let more : all_posted_bytes modes column (drop c.loop-byte.byte-index bytes) ≡ piece ++ rest =
    all_posted_bytes-more modes column c.post-piece.new.self bytes piece c.loop-byte.byte-index c.loop-byte-test.true
    c.post-piece.ensures.piece c.post-piece.ensures.column in
    let fits : has_room wire (piece ++ rest) ≡ true = ap (has_room wire) (sym more) ∙ c.loop-byte.invariant.room in
    let left : c.send-sent.new.self ≡ after_send wire piece =
    c.send-sent.ensures.sent
    ∙ ap (after_try wire) c.as_slice.ensures.bytes
    ∙ after_try-fits wire piece (has_room-front wire piece rest fits) in
    let spare = ap (λ o. o.spare) left in
    record {
      column =
          ap (λ k. column_past_text modes k rest) c.post-piece.ensures.column
          ∙ sym (column_past_text-append modes column piece rest)
          ∙ ap (column_past_text modes column) (sym more)
          ∙ c.loop-byte.invariant.column;
      wire =
          ap (λ o. after_send o rest) left
          ∙ sym (after_send-append wire piece rest)
          ∙ ap (after_send wire) (sym more)
          ∙ c.loop-byte.invariant.wire;
      room = ap (λ o. has_room o rest) left ∙ has_room-rest wire piece rest fits;
      spare = omega (
        arith,
        spare,
        after_send-spare wire piece,
        ap length more,
        length-append piece rest,
        c.loop-byte.invariant.spare,
      );
      bound = omega (
        arith,
        c.post-piece.ensures.column,
        column_past_text-le modes column piece,
        c.as_slice.ensures.short,
        c.loop-byte.invariant.bound,
      );
    }

pub send-sent-requires : goal.send-sent-requires
send-sent-requires c =
    let modes = c.args.modes.now in
    let bytes = c.args.bytes.now in
    let piece = c.post-piece.result in
    let rest = all_posted_bytes modes c.post-piece.new.self (drop (c.loop-byte.byte-index + 1) bytes) in
    let more : all_posted_bytes modes c.loop-byte.out (drop c.loop-byte.byte-index bytes) ≡ piece ++ rest =
    all_posted_bytes-more modes c.loop-byte.out c.post-piece.new.self bytes piece c.loop-byte.byte-index
    c.loop-byte-test.true c.post-piece.ensures.piece c.post-piece.ensures.column in
    omega
    (arith, ap length c.as_slice.ensures.bytes, ap length more, length-append piece rest, c.loop-byte.invariant.spare)
