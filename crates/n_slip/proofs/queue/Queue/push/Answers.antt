use Rattle.std.proofs.Common.{◌<◌, length, ap, arith}
use Rattle.n_slip.proofs.Packets.{length-packets_of, bytes_bound, packets_of-push, Holds-push}
use Rattle.n_slip.proofs.queue.Queue.push.Goals as goal

pub append-requires : goal.append-requires
append-requires c =
    let few : length c.self.inside.lengths.items < 64 =
    omega (
      arith,
      c.requires.free,
      ap length c.self.view_is,
      length-packets_of c.self.inside.lengths.items c.self.inside.bytes,
    ) in
    omega (arith, few, c.requires.short, bytes_bound _ _ c.self.invariant.holds)

pub push_back_reserved-requires : goal.push_back_reserved-requires
push_back_reserved-requires c =
    omega (
      arith,
      c.requires.free,
      ap length c.self.view_is,
      length-packets_of c.self.inside.lengths.items c.self.inside.bytes,
      c.self.inside.lengths.ok.0,
      c.self.invariant.places,
    )

pub invariant_of-self : goal.invariant_of-self
invariant_of-self c =
    let few : length c.self.inside.lengths.items < 64 =
    omega (
      arith,
      c.requires.free,
      ap length c.self.view_is,
      length-packets_of c.self.inside.lengths.items c.self.inside.bytes,
    ) in
    record {
      holds = rw (c.append.ensures, c.push_back_reserved.ensures.items)
          (Holds-push _ _ c.args.packet.now c.self.invariant.holds few c.requires.short);
      places = omega (arith, c.self.invariant.places, c.push_back_reserved.ensures.capacity);
    }

pub returns : goal.returns
returns c =
    rw (c.append.ensures, c.push_back_reserved.ensures.items, ← c.self.view_is)
    (packets_of-push c.self.inside.lengths.items c.self.inside.bytes c.args.packet.now c.self.invariant.holds.whole)
