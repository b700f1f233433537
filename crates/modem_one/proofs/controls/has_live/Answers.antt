use Rattle.std.proofs.Common.{ap, ◌∙◌, is_some}
use Rattle.handle_table.specs.Handles.{is_live}
use Rattle.modem_one.proofs.LeastLive.{found_counted}
use Rattle.modem_one.proofs.controls.has_live.Goals as goal

pub returns : goal.returns
returns c =
    c.is_some.ensures
    ∙ (ap is_some c.least_live.ensures ∙ found_counted is_live c.args.port.now.terminal.handles)
