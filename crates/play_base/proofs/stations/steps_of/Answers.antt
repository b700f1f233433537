use Rattle.std.proofs.Common.{length, sym, ap, ◌∙◌, subst, arith}
use Rattle.std.specs.Prelude.{All, IsTrue, slice_index_or}
use Rattle.tty_base.specs.Lines.{is_step}
use Rattle.play_base.proofs.CastLemmas.{phase_in, line_count, all_at_index}
use Rattle.play_base.proofs.stations.steps_of.Goals as goal

pub bounds-as_slice-number : goal.bounds-as_slice-number
bounds-as_slice-number c =
    let phase = phase_in c.args.session.now c.args.k c.as_slice.result.now c.index-as_slice-k.result
    c.requires.within c.requires.phase c.as_slice.ensures in
    let lines = line_count c.args.session.now.ports
    (slice_index_or c.as_slice.result.now c.args.k c.index-as_slice-k.result) phase in
    let count = ap (λ xs. length xs) c.as_slice-2.ensures in
    let port = c.requires.port in
    omega (arith, lines, count, port)

pub returns-clause-good : goal.returns-clause-good
returns-clause-good c =
    let phase = phase_in c.args.session.now c.args.k c.as_slice.result.now c.index-as_slice-k.result
    c.requires.within c.requires.phase c.as_slice.ensures in
    let lines = line_count c.args.session.now.ports
    (slice_index_or c.as_slice.result.now c.args.k c.index-as_slice-k.result) phase in
    let port = c.requires.port in
    let good = all_at_index (All (λ step. IsTrue (is_step step))) (λ steps. steps.items)
    (slice_index_or c.as_slice.result.now c.args.k c.index-as_slice-k.result).lines.items c.args.number
    c.index-as_slice-number.result (omega (arith, lines, port)) phase.steps in
    subst (All (λ step. IsTrue (is_step step)))
    (sym (ap (λ l. l.items) (c.index-as_slice-number.is
    ∙ ap (λ xs. slice_index_or xs c.args.number c.index-as_slice-number.result) c.as_slice-2.ensures))) good
