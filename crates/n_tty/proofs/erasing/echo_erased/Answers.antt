use Rattle.std.proofs.Common.{◌≡◌, ℕ, List, true, false, length, take, drop, ap, sym, ◌∙◌}
use Rattle.flow_control.specs.Output.{has_room, after_send}
use Rattle.n_tty.specs.Editing.{echo_of_erasing}
use Rattle.n_tty.specs.Posting.{column_past_text, all_posted_bytes}
use Rattle.n_tty.proofs.ErasedLemmas.{OnlyRubs-echo_of_gone, all_posted_bytes-rubs}
use Rattle.n_tty.proofs.PostingLemmas.{column_after_try-fits, column_after_try-full, after_try-fits, after_try-full}
use Rattle.n_tty.proofs.PostingLemmas.{tally_after_try-fits, tally_after_try-full, with_echo_counted}
use Rattle.n_tty.proofs.erasing.echo_erased.Goals as goal
use Rattle.n_tty.proofs.erasing.echo_erased.Goals.{After-erased_len-count}

-- what is posted for the echo
abbrev text : After-erased_len-count → List ℕ
text c = all_posted_bytes c.args.modes.now c.args.out.now
    (echo_of_erasing c.args.modes.now c.args.erasing c.args.edit.now)

-- that is the echo itself
same : (c : After-erased_len-count) → text c ≡ echo_of_erasing c.args.modes.now c.args.erasing c.args.edit.now
same c = all_posted_bytes-rubs c.args.modes.now c.args.out.now
    (echo_of_erasing c.args.modes.now c.args.erasing c.args.edit.now)
    (OnlyRubs-echo_of_gone c.args.modes.now c.args.erasing.kind c.args.erasing.start
    (take c.args.erasing.from c.args.edit.now) (drop c.args.erasing.from c.args.edit.now) c.requires.kind)

counted : (c : After-erased_len-count) → length (text c) ≡ c.erased_len-count.result
counted c = ap length (same c) ∙ sym c.erased_len-count.ensures.len

pub returns-then-has_room-clause-column : goal.returns-then-has_room-clause-column
returns-then-has_room-clause-column c =
    let d = (goal.at.returns-then-has_room-clause-column c).After-erased_len-count in
    let room : has_room c.args.wire.now (text d) ≡ true =
    sym (c.has_room.ensures (text d) (counted d)) ∙ c.if-has_room.true in
    c.post_erased.ensures.column
    ∙ ap (column_past_text c.args.modes.now c.args.out.now) (sym (same d))
    ∙ sym (column_after_try-fits c.args.modes.now c.args.wire.now c.args.out.now (text d) room)

pub returns-then-has_room-clause-wire : goal.returns-then-has_room-clause-wire
returns-then-has_room-clause-wire c =
    let d = (goal.at.returns-then-has_room-clause-wire c).After-erased_len-count in
    let room : has_room c.args.wire.now (text d) ≡ true =
    sym (c.has_room.ensures (text d) (counted d)) ∙ c.if-has_room.true in
    c.post_erased.ensures.wire
    ∙ ap (after_send c.args.wire.now) (sym (same d))
    ∙ sym (after_try-fits c.args.wire.now (text d) room)

pub returns-then-has_room-clause-tally : goal.returns-then-has_room-clause-tally
returns-then-has_room-clause-tally c =
    let d = (goal.at.returns-then-has_room-clause-tally c).After-erased_len-count in
    let room : has_room c.args.wire.now (text d) ≡ true =
    sym (c.has_room.ensures (text d) (counted d)) ∙ c.if-has_room.true in
    sym (tally_after_try-fits c.args.wire.now (text d) c.args.tally.now room)

pub returns-else-has_room-clause-column : goal.returns-else-has_room-clause-column
returns-else-has_room-clause-column c =
    let d = (goal.at.returns-else-has_room-clause-column c).After-erased_len-count in
    let full : has_room c.args.wire.now (text d) ≡ false =
    sym (c.has_room.ensures (text d) (counted d)) ∙ c.if-has_room.false in
    sym (column_after_try-full c.args.modes.now c.args.wire.now c.args.out.now (text d) full)

pub returns-else-has_room-clause-wire : goal.returns-else-has_room-clause-wire
returns-else-has_room-clause-wire c =
    let d = (goal.at.returns-else-has_room-clause-wire c).After-erased_len-count in
    let full : has_room c.args.wire.now (text d) ≡ false =
    sym (c.has_room.ensures (text d) (counted d)) ∙ c.if-has_room.false in
    sym (after_try-full c.args.wire.now (text d) full)

pub returns-else-has_room-clause-tally : goal.returns-else-has_room-clause-tally
returns-else-has_room-clause-tally c =
    let d = (goal.at.returns-else-has_room-clause-tally c).After-erased_len-count in
    let full : has_room c.args.wire.now (text d) ≡ false =
    sym (c.has_room.ensures (text d) (counted d)) ∙ c.if-has_room.false in
    c.count.ensures
    ∙ ap (with_echo_counted c.args.tally.now) (sym (counted d))
    ∙ sym (tally_after_try-full c.args.wire.now (text d) c.args.tally.now full)
