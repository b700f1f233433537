use Rattle.std.proofs.Common.{◌≡◌, List, ℕ, [], map, replicate, sym, ap, subst, ◌∙◌}
use Rattle.std.specs.Vec.{with_items}
use Rattle.std.proofs.lemmas.List.{with_items_is}
use Rattle.vt_report.specs.Printing.{AreStates, states_after}
use Rattle.vt_report.proofs.Standing.{states_are}
use Rattle.vt_report.proofs.operators.states_of.Goals as goal

pub returns : goal.returns
returns c =
    let entries = c.args.entries.now in
    let old = c.in_ok-states.states in
    let new = c.note_states.new.states in
    let written : (with_items old new).items ≡ new =
    with_items_is old new (c.note_states.auto.states ∙ c.as_mut_slice.ensures.len) in
    let told : map (λ told. told.items) (with_items old new).items ≡ states_after (replicate c.args.seats []) entries =
    ap (λ xs. map (λ told. told.items) xs) written
    ∙ (c.in_ok-note_states.ensures
    ∙ (ap (λ xs. states_after (map (λ told. told.items) xs) entries) c.as_mut_slice.ensures.value
    ∙ ap (λ s. states_after s entries) c.in_ok-states.ensures)) in
    subst (λ (s : List (List ℕ)). AreStates s c.args.seats entries) (sym told) (states_are c.args.seats entries)
