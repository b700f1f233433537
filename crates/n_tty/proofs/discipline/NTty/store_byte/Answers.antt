use Rattle.std.proofs.Common.{◌≡◌, false, [], ◌∷◌, length, ap, sym, ◌∙◌, arith}
use Rattle.tty_modes.specs.Settings.{has_flag}
use Rattle.tty_modes.specs.declared.places.TheConstants.{ICANON}
use Rattle.line_store.specs.Unread.{bytes_of}
use Rattle.n_tty.specs.States.{NTtyState, unread_count}
use Rattle.n_tty.proofs.RoomLemmas.{room_plain, room_line, one_stored}
use Rattle.n_tty.proofs.StoringLemmas.{length-bytes_of-plain, length-joined}
use Rattle.n_tty.proofs.discipline.NTty.store_byte.Goals as goal

pub push-requires : goal.push-requires
push-requires c =
    let plain : has_flag c.args.modes.now ICANON ≡ false = sym c.has.ensures ∙ c.if-not-has.true in
    omega (
      arith,
      ap unread_count c.self.view_is,
      room_plain c.args.modes.now c.args.self.now 1 c.requires.may.accepted plain (one_stored c.args.modes.now),
    )

pub invariant_of-self : goal.invariant_of-self
invariant_of-self c =
    let plain : has_flag c.args.modes.now ICANON ≡ false = sym c.has.ensures ∙ c.if-not-has.true in
    record {
      within = omega (
        arith,
        ap (λ items. length (bytes_of items)) c.push.ensures,
        length-bytes_of-plain c.self.inside.store (c.args.b ∷ []),
        ap unread_count c.self.view_is,
        room_plain c.args.modes.now c.args.self.now 1 c.requires.may.accepted plain (one_stored c.args.modes.now),
      );
      line = c.self.invariant.line;
    }

pub invariant_of-self-then-bytes-lt-MOST_LINE : goal.invariant_of-self-then-bytes-lt-MOST_LINE
invariant_of-self-then-bytes-lt-MOST_LINE c =
    let line = ap (λ (tty : NTtyState). length tty.edit) c.self.view_is in
    let joined = ap length c.add-joined.ensures.line in
    let short = ap length c.bytes.ensures.bytes in
    let longer = length-joined c.self.inside.edit c.args.b (omega (arith, short, c.if-bytes-lt-MOST_LINE.true)) in
    record {
      within = omega (
        arith,
        joined,
        longer,
        ap unread_count c.self.view_is,
        room_line c.args.modes.now c.args.self.now 1 c.requires.may.accepted c.requires.may.fits
            (one_stored c.args.modes.now) (omega (arith, line, short, c.if-bytes-lt-MOST_LINE.true)),
      );
      line = omega (arith, joined, longer, short, c.if-bytes-lt-MOST_LINE.true);
    }
