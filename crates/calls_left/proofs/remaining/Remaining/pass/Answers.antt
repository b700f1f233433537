use Rattle.std.proofs.Common.{◌≡◌, None, Some, List, map, ap, sym, ◌∙◌}
use Rattle.std.specs.Prelude.{slice_get, slice_set}
use Rattle.std.proofs.lemmas.List.{with_items_is}
use Rattle.calls_left.specs.declared.remaining.Cursor.{Cursor}
use Rattle.calls_left.specs.Remaining.{after_next, calls_from, left_at}
use Rattle.calls_left.proofs.Mixed.{at_place, set_map, set_none}
use Rattle.calls_left.proofs.remaining.Remaining.pass.Goals as goal

pub returns-in-None : goal.returns-in-None
returns-in-None g c =
    let cursors = c.self.inside.cursors.items in
    let place = c.args.place in
    let f = calls_from c.self.inside.scripts.now c.self.inside.placed.now in
    let none : slice_get cursors place ≡ None =
    ap (λ (cs : List Cursor). slice_get cs place) (sym c.as_slice.ensures.value)
    ∙ (sym c.cursor_at.ensures ∙ c.in-None.is) in
    let same = set_none f cursors place (after_next (left_at c.args.self.now place)) none in
    (sym c.self.view_is)
    ∙ (sym same
    ∙ ap (λ v. slice_set v place (after_next (left_at c.args.self.now place))) c.self.view_is)

pub returns-in-Some : goal.returns-in-Some
returns-in-Some g c =
    let cursors = c.self.inside.cursors.items in
    let place = c.args.place in
    let cursor = c.in-Some.cursor in
    let next = c.passed-next.result in
    let f = calls_from c.self.inside.scripts.now c.self.inside.placed.now in
    let some : slice_get cursors place ≡ Some cursor =
    ap (λ (cs : List Cursor). slice_get cs place) (sym c.as_slice.ensures.value)
    ∙ (sym c.cursor_at.ensures ∙ c.in-Some.is) in
    let here : left_at c.args.self.now place ≡ f cursor =
    ap (λ v. left_at v place) (sym c.self.view_is) ∙ at_place f cursors place cursor some in
    let then_is : f next ≡ after_next (left_at c.args.self.now place) =
    c.passed-next.ensures.calls ∙ ap after_next (sym here) in
    let before = c.self.view_is in
    ap (λ (cs : List Cursor). map f cs) (with_items_is c.self.inside.cursors c.set_cursor.new.cursors
    (c.set_cursor.auto.cursors ∙ c.as_mut_slice.ensures.len)
    ∙ c.set_cursor.ensures
    ∙ ap (λ (cs : List Cursor). slice_set cs place next) c.as_mut_slice.ensures.value)
    ∙ (set_map f cursors place next ∙ λ i. slice_set (before i) place (then_is i))
