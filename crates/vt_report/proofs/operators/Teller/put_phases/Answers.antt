use Rattle.std.proofs.lemmas.List.{length-replicate}
use Rattle.std.proofs.Common.{replicate, length, ◌+◌, List, ◌++◌, drop, map, string_bytes, subst, sym, ap, ◌∙◌}
use Rattle.vt_text.specs.Sessions.{PlainOperator, operators_of}
use Rattle.vt_report.specs.Printing.{HasBlocks, blocks_in, blocks_text, first_cursor}
use Rattle.vt_report.proofs.Pieces.{blocks_all, blocks_more, blocks_next, no_blocks}
use Rattle.vt_report.proofs.operators.Teller.put_phases.Goals as goal

pub loop-phase-preserved : goal.loop-phase-preserved
loop-phase-preserved c =
    let t = c.args.self.now in
    let states = map (λ told. told.items) t.states.items in
    let phases = c.args.phases.now in
    let i = c.loop-phase.phase-index in
    let x = c.phase-item.result in
    let some = operators_of c.as_slice.result.now in
    blocks_more t.names t.consoles states (string_bytes c.args.text.now) c.in_ok-cursors.cursors.items
    (blocks_in phases) (string_bytes c.loop-phase.text) (string_bytes c.put_blocks.new.text)
    c.loop-phase.cursors.items c.put_blocks.new.cursors.items some (blocks_in (drop (i + 1) phases))
    c.in_ok-put_blocks.ensures.text c.in_ok-put_blocks.ensures.cursors c.in_ok-put_blocks.ensures.each
    (subst (λ (left : List PlainOperator). HasBlocks t.names t.consoles states (string_bytes c.args.text.now)
    c.in_ok-cursors.cursors.items (blocks_in phases) (string_bytes c.loop-phase.text) c.loop-phase.cursors.items left)
    (blocks_next phases i x c.loop-phase-test.true c.phase-item.is
    ∙ ap (λ os. operators_of os ++ blocks_in (drop (i + 1) phases)) (sym c.as_slice.ensures)) c.loop-phase.invariant)

pub put_blocks-requires-clause-seats : goal.put_blocks-requires-clause-seats
put_blocks-requires-clause-seats c =
    c.loop-phase.invariant.each
    ∙ (ap (λ cs. length cs) c.in_ok-cursors.ensures ∙ (length-replicate c.len.result first_cursor ∙ c.len.ensures))

pub returns : goal.returns
returns c =
    let t = c.args.self.now in
    let states = map (λ told. told.items) t.states.items in
    let phases = c.args.phases.now in
    let first = string_bytes c.args.text.now in
    let i = c.loop-phase.phase-index in
    blocks_all t.names t.consoles states first c.in_ok-cursors.cursors.items (blocks_in phases)
    (string_bytes c.loop-phase.text) c.loop-phase.cursors.items (blocks_in (drop i phases))
    (no_blocks phases i c.loop-phase-test.false) c.loop-phase.invariant
    ∙ ap (λ cs. first ++ blocks_text t.names t.consoles states cs (blocks_in phases))
    (c.in_ok-cursors.ensures ∙ ap (λ n. replicate n first_cursor) c.len.ensures)
