use Rattle.std.proofs.Common.{[], ◌∷◌, length, ap, arith}
use Rattle.line_store.specs.Unread.{Byte, End, bytes_of}
use Rattle.n_tty.specs.States.{NTtyState, unread_count}
use Rattle.n_tty.proofs.RoomLemmas.{room_line, one_stored}
use Rattle.n_tty.proofs.StoringLemmas.{length-bytes_of-piece}
use Rattle.n_tty.proofs.discipline.NTty.delimit.Goals as goal

pub end_with-requires-clause-room : goal.end_with-requires-clause-room
end_with-requires-clause-room c =
    let line = ap (λ (tty : NTtyState). length tty.edit) c.self.view_is in
    omega (
      arith,
      line,
      c.self.invariant.line,
      ap unread_count c.self.view_is,
      room_line c.args.modes.now c.args.self.now 1 c.requires.may.accepted c.requires.may.fits
          (one_stored c.args.modes.now) (omega (arith, line, c.self.invariant.line)),
    )

pub invariant_of-self : goal.invariant_of-self
invariant_of-self c =
    let line = ap (λ (tty : NTtyState). length tty.edit) c.self.view_is in
    let room = room_line c.args.modes.now c.args.self.now 1 c.requires.may.accepted c.requires.may.fits
    (one_stored c.args.modes.now) (omega (arith, line, c.self.invariant.line)) in
    let left = ap length c.end_with.ensures.edit in
    record {
      within = omega (
        arith,
        left,
        ap (λ items. length (bytes_of items)) c.end_with.ensures.store,
        length-bytes_of-piece c.self.inside.store c.self.inside.edit (Byte c.args.b ∷ End ∷ []),
        ap unread_count c.self.view_is,
        room,
      );
      line = omega (arith, left);
    }
