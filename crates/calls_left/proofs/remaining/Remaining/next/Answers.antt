use Rattle.std.proofs.Common.{◌≡◌, None, Some, List, ap, sym, ◌∙◌}
use Rattle.std.specs.Prelude.{slice_get}
use Rattle.calls_left.specs.declared.remaining.Cursor.{Cursor}
use Rattle.calls_left.specs.Remaining.{calls_from, first_call, left_at, own_from, place_of, plain_from}
use Rattle.calls_left.proofs.Mixed.{at_place, first_is, past_place, told}
use Rattle.calls_left.proofs.remaining.Remaining.next.Goals as goal

pub returns-in-None : goal.returns-in-None
returns-in-None g c =
    let cursors = c.self.inside.cursors.items in
    let place = c.args.place in
    let none : slice_get cursors place ≡ None =
    ap (λ (cs : List Cursor). slice_get cs place) (sym c.as_slice.ensures.value)
    ∙ (sym c.cursor_at.ensures ∙ c.in-None.is) in
    ap (λ v. left_at v place) (sym c.self.view_is)
    ∙ past_place (calls_from c.self.inside.scripts.now c.self.inside.placed.now) cursors place none

pub returns-in-Some : goal.returns-in-Some
returns-in-Some g c =
    let scripts = c.self.inside.scripts.now in
    let placed = c.self.inside.placed.now in
    let cursors = c.self.inside.cursors.items in
    let place = c.args.place in
    let cursor = c.in-Some.cursor in
    let some : slice_get cursors place ≡ Some cursor =
    ap (λ (cs : List Cursor). slice_get cs place) (sym c.as_slice.ensures.value)
    ∙ (sym c.cursor_at.ensures ∙ c.in-Some.is) in
    let here : left_at c.args.self.now place ≡ calls_from scripts placed cursor =
    ap (λ v. left_at v place) (sym c.self.view_is)
    ∙ at_place (calls_from scripts placed) cursors place cursor some in
    told c.next.result (left_at c.args.self.now place)
    (c.next.ensures
    ∙ ((λ i. first_call (place_of cursor) (c.plain.ensures i) (c.own.ensures.call i))
    ∙ (sym (first_is (place_of cursor) (plain_from scripts cursor) (own_from placed cursor))
    ∙ sym (ap (λ xs. slice_get xs 0) here))))
