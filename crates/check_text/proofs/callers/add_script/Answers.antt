use Rattle.std.proofs.Common.{◌<◌, ap, sym, ◌∙◌, map, arith, length}
use Rattle.tty_calls.specs.Sessions.{script_of}
use Rattle.check_text.specs.Callers.{answer_kind}
use Rattle.check_text.specs.Building.{rows_with}
use Rattle.check_text.proofs.Rows.{row_added, place_within}
use Rattle.check_text.proofs.callers.add_script.Goals as goal

pub returns-in_ok-add_kinds-in-Some : goal.returns-in_ok-add_kinds-in-Some
returns-in_ok-add_kinds-in-Some c =
    let rows = c.args.rows.now in
    let caller = c.in-Some.caller in
    let more = map answer_kind c.args.script.now.calls.items in
    let within : caller < length rows =
    omega
    (arith, c.requires, place_within c.args.names.now c.args.script.now.name.bytes caller (sym c.in-Some.ensures)) in
    row_added (λ row. row.items) rows caller c.index-rows-caller.result c.add_kinds.new.row
    more within c.in_ok-add_kinds-in-Some.ensures
    ∙ ap (rows_with (map (λ row. row.items) rows) (script_of c.args.script.now)) c.in-Some.ensures
