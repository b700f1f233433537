use Rattle.std.proofs.Common.{◌≡◌, ◌++◌, length, map, replicate, string_bytes, sym, ap, ◌∙◌}
use Rattle.std.proofs.lemmas.List.{length-map}
use Rattle.std.proofs.lemmas.Result.{on_ok_weaker}
use Rattle.vt_text.specs.Sessions.{vt_phase_of, vt_session_of}
use Rattle.vt_account.specs.Seats.{operator_names}
use Rattle.vt_report.specs.Printing.{blocks_in, blocks_text, first_cursor}
use Rattle.vt_report.proofs.Standing.{operators_told}
use Rattle.vt_report.proofs.operators.put_operators.Goals as goal

pub put_phases-requires : goal.put_phases-requires
put_phases-requires c =
    sym (length-map c.in_ok-states.states.items (λ told. told.items))
    ∙ (c.in_ok-states.ensures.count_is ∙ c.len.ensures)

pub returns : goal.returns
returns c =
    let session = vt_session_of c.args.session.now in
    let names = c.in_ok-names.names in
    let states = map (λ told. told.items) c.in_ok-states.states.items in
    let text = string_bytes c.args.text.now in
    let phases = c.as_slice-phases.result.now in
    on_ok_weaker c.put_phases.result
    (λ (d : string_bytes c.put_phases.new.text
    ≡ text ++ blocks_text names session.calls.ports states (replicate (length names) first_cursor) (blocks_in phases)).
    d
    ∙ ap (λ l. text ++ l) (operators_told session names c.args.entries.now states (blocks_in phases) c.len.result
    (c.in_ok-names.ensures ∙ ap (λ xs. operator_names (map vt_phase_of xs)) c.as_slice-phases.ensures)
    (ap blocks_in c.as_slice-phases.ensures) c.len.ensures c.in_ok-states.ensures))
    c.put_phases.ensures
