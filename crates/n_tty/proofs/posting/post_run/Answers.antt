use Rattle.std.proofs.Common.{◌≡◌, ◌+◌, true, take, drop, ap, sym, ◌∙◌, arith, length-take}
use Rattle.flow_control.specs.Output.{has_room, after_send, after_try}
use Rattle.n_tty.specs.Posting.{column_past_text}
use Rattle.n_tty.specs.Writing.{fitting_count}
use Rattle.n_tty.proofs.PostingLemmas.{column_past_text-le, after_try-fits}
use Rattle.n_tty.proofs.RunLemmas.{run_text, run_column, run_fits}
use Rattle.n_tty.proofs.posting.post_run.Goals as goal

pub returns-then-has_room-clause-fitting : goal.returns-then-has_room-clause-fitting
returns-then-has_room-clause-fitting c = λ some.
    let bytes = c.args.bytes.now in
    let n = c.plain_len-plain.result in
    let output = c.args.wire.now in
    let run = c.plain_len-plain.ensures in
    let fits : has_room output (take n bytes) ≡ true =
    sym (c.has_room.ensures (take n bytes) (omega (arith, length-take n bytes, run.within))) ∙ c.if-has_room.true in
    let sent : c.send-sent.new.self ≡ after_send output (take n bytes) =
    c.send-sent.ensures.sent ∙ ap (after_try output) c.front_of.ensures ∙ after_try-fits output (take n bytes) fits in
    run_fits c.args.modes.now c.args.out.now output bytes n run.within run.plain fits
    ∙ (λ i. n + fitting_count c.args.modes.now (sym c.pass.ensures i) (sym sent i) (drop n bytes))

pub returns-then-has_room-clause-column : goal.returns-then-has_room-clause-column
returns-then-has_room-clause-column c = λ some.
    let modes = c.args.modes.now in
    let column = c.args.out.now in
    let n = c.plain_len-plain.result in
    let run = c.plain_len-plain.ensures in
    c.pass.ensures
    ∙ sym (ap (column_past_text modes column) (run_text modes column c.args.bytes.now n run.within run.plain)
    ∙ run_column modes column c.args.bytes.now n run.within run.plain)

pub returns-then-has_room-clause-wire : goal.returns-then-has_room-clause-wire
returns-then-has_room-clause-wire c = λ some.
    let bytes = c.args.bytes.now in
    let n = c.plain_len-plain.result in
    let output = c.args.wire.now in
    let run = c.plain_len-plain.ensures in
    let fits : has_room output (take n bytes) ≡ true =
    sym (c.has_room.ensures (take n bytes) (omega (arith, length-take n bytes, run.within))) ∙ c.if-has_room.true in
    c.send-sent.ensures.sent
    ∙ ap (after_try output) c.front_of.ensures
    ∙ after_try-fits output (take n bytes) fits
    ∙ ap (after_send output) (sym (run_text c.args.modes.now c.args.out.now bytes n run.within run.plain))

pub returns-clause-moved : goal.returns-clause-moved
returns-clause-moved c =
    omega (
      arith,
      c.post-piece.ensures.column,
      column_past_text-le c.args.modes.now c.args.out.now c.post-piece.result,
      c.as_slice.ensures.short,
    )
