use Rattle.std.proofs.Common.{List, [], map, ap, ◌∙◌}
use Rattle.std.specs.Prelude.{slice_index_or}
use Rattle.tty_calls.specs.Sessions.{session_of}
use Rattle.modem_text.specs.declared.sessions.ModemPart.{ModemPart}
use Rattle.modem_derived.specs.Blocks.{carriers_in, pins_of}
use Rattle.modem_derived.proofs.Listed.{IsCarried}
use Rattle.modem_derived.proofs.carriers.carriers_of.Goals as goal
use Rattle.derived_session.proofs.Listed.{one_more_listed}

pub loop-k-preserved : goal.loop-k-preserved
loop-k-preserved c =
    let at = c.loop-k in
    let kept = c.args.session.now in
    let ports = (session_of kept.session).ports in
    one_more_listed (IsCarried ports kept.parts.items) at.k at.carriers.items c.push.new.self.items
    c.in_ok-blocks.blocks c.in_ok-push.ensures.items
    (c.in_ok-blocks.ensures
    ∙ ap (carriers_in ports)
    (c.pins_in-pins.ensures
    ∙ ap (λ (parts : List ModemPart). slice_index_or (map pins_of parts) at.k []) c.as_slice.ensures))
    at.invariant
