use Rattle.std.proofs.Common.{◌≡◌, Bool, List, sym, ap, ◌∙◌, arith}
use Rattle.std.specs.Prelude.{slice_index_or, false}
use Rattle.std.specs.Vec.{with_items}
use Rattle.std.proofs.lemmas.List.{drop_all, with_items_is}
use Rattle.tty_calls.specs.Plain.{PlainEntry, entry_of}
use Rattle.tty_terminal.specs.Standing.{at_first}
use Rattle.derived_session.specs.Begun.{begun_after}
use Rattle.derived_session.proofs.Beginning.{begun_more, begun_over, stands_begun}
use Rattle.derived_session.proofs.begun.callers_begun.Goals as goal

pub loop-place-preserved : goal.loop-place-preserved
loop-place-preserved c =
    let at = c.loop-place in
    let new = c.note.new.begun in
    let e = entry_of c.at.result in
    let written : (with_items at.begun new).items ≡ new =
    with_items_is at.begun new (c.note.auto.begun ∙ c.as_mut_slice.ensures.len) in
    begun_more c.args.callers at.place c.args.journal.now.items at.begun.items (with_items at.begun new).items e
    c.at.ensures
    (written
    ∙ (c.note.ensures ∙ ap (λ (bs : List Bool). begun_after bs e) c.as_mut_slice.ensures.value))
    at.invariant

pub returns-clause-begun : goal.returns-clause-begun
returns-clause-begun c n lt =
    let at = c.loop-place in
    let journal = c.args.journal.now.items in
    ap (λ (es : List PlainEntry). begun_over n es (slice_index_or at.begun.items n false))
    (sym (drop_all at.place journal (omega (arith, c.loop-place-test.false, c.len-place-end.ensures))))
    ∙ (at.invariant.same n lt ∙ sym (stands_begun n journal at_first))
