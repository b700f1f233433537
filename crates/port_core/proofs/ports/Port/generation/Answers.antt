use Rattle.std.proofs.Common.{arith}
use Rattle.port_core.specs.Inside.{value_of}
use Rattle.port_core.proofs.GoingOn.{port_bounded}
use Rattle.port_core.proofs.ports.Port.generation.Goals as goal

pub returns-clause-few : goal.returns-clause-few
returns-clause-few c =
    omega (arith, (port_bounded (value_of c.self.inside) c.self.invariant.port).generation, c.generation.ensures)
