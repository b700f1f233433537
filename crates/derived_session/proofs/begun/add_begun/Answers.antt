use Rattle.std.proofs.Common.{◌≡◌, ◌∷◌, ◌++◌, Bool, [], length, if◌then◌else◌, ap, ◌∙◌, arith}
use Rattle.std.specs.Prelude.{slice_index_or}
use Rattle.tty_terminal.specs.Standing.{standing_in, at_first}
use Rattle.derived_session.specs.declared.passed.Down.TheVariants as down
use Rattle.derived_session.proofs.Beginning.{range_more, read_at}
use Rattle.derived_session.proofs.begun.add_begun.Goals as goal

pub loop-caller-preserved : goal.loop-caller-preserved
loop-caller-preserved c =
    let at = c.loop-caller in
    let journal = c.args.journal.now.items in
    let next = c.args.next.now in
    let many = c.in_ok-begun.ensures.many in
    let lt = c.loop-caller-test.true in
    let begun : c.index.result.now ≡ (standing_in at.caller journal at_first).begun =
    c.index.ensures
    ∙ (read_at c.in_ok-begun.begun.items at.caller c.index.result.now (omega (arith, many, lt))
    ∙ c.in_ok-begun.ensures.begun at.caller lt) in
    range_more
    (λ n.
    if (standing_in n journal at_first).begun
    then record { caller = n; step = slice_index_or next n 0; down = down.Call } ∷ []
    else [])
    (length next) at.caller at.passed.items c.add_call.new.passed.items _ c.loop-caller-test.true
    (c.in_ok-add_call.ensures
    ∙ ap
    (λ (b : Bool).
    at.passed.items
    ++ (if b
    then record { caller = at.caller; step = slice_index_or next at.caller 0; down = down.Call } ∷ []
    else []))
    begun) at.invariant
