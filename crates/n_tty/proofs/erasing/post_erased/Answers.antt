use Rattle.std.proofs.Common.{◌≡◌, ◌+◌, ◌-◌, ◌++◌, true, length, take, drop, get_or, ap, sym, ◌∙◌, arith}
use Rattle.flow_control.specs.Output.{has_room, after_send}
use Rattle.n_tty.specs.Editing.{echo_of_gone}
use Rattle.n_tty.specs.Posting.{column_past_text, all_posted_bytes}
use Rattle.n_tty.proofs.ErasedLemmas.{echo_at, echo_at-is, echo_of_gone-before}
use Rattle.n_tty.proofs.ErasedLemmas.{length-echo-le, OnlyRubs-echo_at, all_posted_bytes-rubs}
use Rattle.n_tty.proofs.PostingLemmas.{after_send-append, after_send-spare, has_room-front}
use Rattle.n_tty.proofs.PostingLemmas.{has_room-rest, column_past_text-append, column_past_text-le}
use Rattle.n_tty.proofs.erasing.post_erased.Goals as goal

pub post-requires-clause-spare : goal.post-requires-clause-spare
post-requires-clause-spare c =
    let modes = c.args.modes.now in
    let kind = c.args.erasing.kind in
    let start = c.args.erasing.start in
    let line = c.args.edit.now in
    let i = c.loop-i.i - 1 in
    let echo : c.echo.result.items ≡ echo_at modes kind start line i =
    echo_at-is modes kind start line c.bytes-line.result.now i c.width_at.result c.echo.result.items
    c.bytes-line.ensures.bytes c.width_at.ensures.width c.echo.ensures in
    let posts : all_posted_bytes modes c.loop-i.out c.as_slice.result.now ≡ echo_at modes kind start line i =
    ap (all_posted_bytes modes c.loop-i.out) (c.as_slice.ensures.value ∙ echo)
    ∙ all_posted_bytes-rubs modes c.loop-i.out _ (OnlyRubs-echo_at modes kind start line i c.requires.kind) in
    omega (
      arith,
      ap length posts,
      length-echo-le modes kind start (take i line) (get_or line i 0) c.requires.kind,
      c.loop-i.invariant.spare,
      c.loop-i-test.true,
    )

pub post-requires-clause-room : goal.post-requires-clause-room
post-requires-clause-room c =
    let modes = c.args.modes.now in
    let kind = c.args.erasing.kind in
    let start = c.args.erasing.start in
    let from = c.args.erasing.from in
    let line = c.args.edit.now in
    let i = c.loop-i.i - 1 in
    let wire = c.loop-i.wire in
    let this = echo_at modes kind start line i in
    let echo : c.echo.result.items ≡ this =
    echo_at-is modes kind start line c.bytes-line.result.now i c.width_at.result c.echo.result.items
    c.bytes-line.ensures.bytes c.width_at.ensures.width c.echo.ensures in
    let posts : all_posted_bytes modes c.loop-i.out c.as_slice.result.now ≡ this =
    ap (all_posted_bytes modes c.loop-i.out) (c.as_slice.ensures.value ∙ echo)
    ∙ all_posted_bytes-rubs modes c.loop-i.out _ (OnlyRubs-echo_at modes kind start line i c.requires.kind) in
    let rest = echo_of_gone modes kind start (take from line) (drop from (take i line)) in
    let next : c.loop-i.i ≡ i + 1 = omega (arith, c.loop-i-test.true) in
    let more : echo_of_gone modes kind start (take from line)
    (drop from (take c.loop-i.i line)) ≡ this ++ rest =
    ap (λ j. echo_of_gone modes kind start (take from line) (drop from (take j line))) next
    ∙ echo_of_gone-before modes kind start line from i (omega (arith, c.loop-i-test.true))
    (omega (arith, c.loop-i-test.true, c.loop-i.invariant.within)) in
    ap (has_room wire) posts ∙ has_room-front wire this rest (ap (has_room wire) (sym more) ∙ c.loop-i.invariant.room)

pub loop-i-preserved : goal.loop-i-preserved
loop-i-preserved c =
    let modes = c.args.modes.now in
    let kind = c.args.erasing.kind in
    let start = c.args.erasing.start in
    let from = c.args.erasing.from in
    let line = c.args.edit.now in
    let i = c.loop-i.i - 1 in
    let wire = c.loop-i.wire in
    let this = echo_at modes kind start line i in
    let echo : c.echo.result.items ≡ this =
    echo_at-is modes kind start line c.bytes-line.result.now i c.width_at.result c.echo.result.items
    c.bytes-line.ensures.bytes c.width_at.ensures.width c.echo.ensures in
    let posts : all_posted_bytes modes c.loop-i.out c.as_slice.result.now ≡ this =
    ap (all_posted_bytes modes c.loop-i.out) (c.as_slice.ensures.value ∙ echo)
    ∙ all_posted_bytes-rubs modes c.loop-i.out _ (OnlyRubs-echo_at modes kind start line i c.requires.kind) in
    let rest = echo_of_gone modes kind start (take from line) (drop from (take i line)) in
    let next : c.loop-i.i ≡ i + 1 = omega (arith, c.loop-i-test.true) in
    let more : echo_of_gone modes kind start (take from line)
    (drop from (take c.loop-i.i line)) ≡ this ++ rest =
    ap (λ j. echo_of_gone modes kind start (take from line) (drop from (take j line))) next
    ∙ echo_of_gone-before modes kind start line from i (omega (arith, c.loop-i-test.true))
    (omega (arith, c.loop-i-test.true, c.loop-i.invariant.within)) in
    let fits : has_room wire (this ++ rest) ≡ true = ap (has_room wire) (sym more) ∙ c.loop-i.invariant.room in
    let left : c.post.new.wire ≡ after_send wire this = c.post.ensures.wire ∙ ap (after_send wire) posts in
    let moved : c.post.new.out ≡ column_past_text modes c.loop-i.out this =
    c.post.ensures.column ∙ ap (column_past_text modes c.loop-i.out) posts in
    let short = length-echo-le modes kind start (take i line) (get_or line i 0) c.requires.kind in
    let spare = ap (λ o. o.spare) left in
    let taken = after_send-spare wire this in
    record {
      from = omega (arith, c.loop-i-test.true);
      within = omega (arith, c.loop-i.invariant.within);
      column =
          ap (λ k. column_past_text modes k rest) moved
          ∙ sym (column_past_text-append modes c.loop-i.out this rest)
          ∙ ap (column_past_text modes c.loop-i.out) (sym more)
          ∙ c.loop-i.invariant.column;
      wire =
          ap (λ o. after_send o rest) left
          ∙ sym (after_send-append wire this rest)
          ∙ ap (after_send wire) (sym more)
          ∙ c.loop-i.invariant.wire;
      room = ap (λ o. has_room o rest) left ∙ has_room-rest wire this rest fits;
      spare = omega (arith, spare, taken, short, c.loop-i.invariant.spare, c.loop-i-test.true);
      bound = omega (
        arith,
        moved,
        column_past_text-le modes c.loop-i.out this,
        short,
        c.loop-i.invariant.bound,
        c.loop-i-test.true,
        c.loop-i.invariant.within,
      );
    }
