use Rattle.port_core.specs.Inside.{value_of}
use Rattle.port_core.proofs.GoingOn.{known_caller}
use Rattle.port_core.proofs.ports.Port.caller.Goals as goal

pub caller-requires : goal.caller-requires
caller-requires c =
    known_caller (value_of c.self.inside) c.args.self.now c.args.caller c.self.view_is c.self.invariant.port c.requires
