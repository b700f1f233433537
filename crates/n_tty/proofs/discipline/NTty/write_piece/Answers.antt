use Rattle.std.proofs.Common.{◌≡◌, ◌≤◌, ℕ, length, take, ap, ◌∙◌, arith, length-take}
use Rattle.flow_control.specs.Output.{after_send}
use Rattle.n_tty.specs.States.{NTtyState}
use Rattle.n_tty.specs.Posting.{column_past_text, all_posted_bytes}
use Rattle.n_tty.specs.Writing.{piece_text}
use Rattle.n_tty.proofs.BoundLemmas.{all_posted_bytes-le}
use Rattle.n_tty.proofs.PostingLemmas.{after_send-spare, column_past_text-le}
use Rattle.n_tty.proofs.WritingLemmas.{piece_text-is, fitting_count-le}
use Rattle.n_tty.proofs.discipline.NTty.write_piece.Goals as goal

pub post_fitting-requires-clause-short : goal.post_fitting-requires-clause-short
post_fitting-requires-clause-short c = omega (arith, ap length c.piece_of.ensures, length-take 64 c.args.bytes.now)

pub returns-clause-wire : goal.returns-clause-wire
returns-clause-wire c =
    c.post_fitting.ensures.wire
    ∙ ap (after_send c.args.wire.now)
    (piece_text-is c.args.modes.now c.args.self.now c.args.wire.now c.args.bytes.now c.piece_of.result.now
    c.self.inside.out c.post_fitting.result (ap (λ (tty : NTtyState). tty.column) c.self.view_is)
    c.piece_of.ensures c.post_fitting.ensures.count)

pub returns-clause-after : goal.returns-clause-after
returns-clause-after c =
    let tty = c.args.self.now in
    let text : all_posted_bytes c.args.modes.now c.self.inside.out (take c.post_fitting.result c.piece_of.result.now)
    ≡ piece_text c.args.modes.now tty c.args.wire.now c.args.bytes.now =
    piece_text-is c.args.modes.now tty c.args.wire.now c.args.bytes.now c.piece_of.result.now c.self.inside.out
    c.post_fitting.result (ap (λ (t : NTtyState). t.column) c.self.view_is)
    c.piece_of.ensures c.post_fitting.ensures.count in
    let moved = c.post_fitting.ensures.column ∙ ap (column_past_text c.args.modes.now c.self.inside.out) text in
    ap (λ (n : ℕ). record {
      items = c.self.inside.store;
      edit = c.self.inside.edit;
      start = c.self.inside.start;
      quoted = c.self.inside.quoted;
      last = c.self.inside.last;
      column = n;
    }) moved
    ∙ ap
    (λ (t : NTtyState). record t {
      column =
          column_past_text c.args.modes.now t.column (piece_text c.args.modes.now tty c.args.wire.now c.args.bytes.now);
    }) c.self.view_is

pub returns-clause-few : goal.returns-clause-few
returns-clause-few c =
    let piece = c.piece_of.result.now in
    omega (
      arith,
      c.post_fitting.ensures.count,
      fitting_count-le c.args.modes.now c.self.inside.out c.args.wire.now piece,
      ap length c.piece_of.ensures,
      length-take 64 c.args.bytes.now,
    )

pub returns-clause-spent : goal.returns-clause-spent
returns-clause-spent c =
    let modes = c.args.modes.now in
    let front = take c.post_fitting.result c.piece_of.result.now in
    let text = all_posted_bytes modes c.self.inside.out front in
    let short : length front ≤ 64 =
    omega (
      arith,
      length-take c.post_fitting.result c.piece_of.result.now,
      ap length c.piece_of.ensures,
      length-take 64 c.args.bytes.now,
    ) in
    omega (
      arith,
      ap (λ o. o.spare) c.post_fitting.ensures.wire,
      after_send-spare c.args.wire.now text,
      all_posted_bytes-le modes c.self.inside.out front,
      short,
    )

pub returns-clause-moved : goal.returns-clause-moved
returns-clause-moved c =
    let modes = c.args.modes.now in
    let front = take c.post_fitting.result c.piece_of.result.now in
    let text = all_posted_bytes modes c.self.inside.out front in
    let short : length front ≤ 64 =
    omega (
      arith,
      length-take c.post_fitting.result c.piece_of.result.now,
      ap length c.piece_of.ensures,
      length-take 64 c.args.bytes.now,
    ) in
    omega (
      arith,
      c.post_fitting.ensures.column,
      column_past_text-le modes c.self.inside.out text,
      all_posted_bytes-le modes c.self.inside.out front,
      short,
      ap (λ (tty : NTtyState). tty.column) c.self.view_is,
    )
