use Rattle.std.proofs.Common.{◌≡◌, false, length, ap, sym, ◌∙◌, arith, length-append}
use Rattle.tty_modes.specs.Settings.{has_flag}
use Rattle.tty_modes.specs.declared.places.TheConstants.{ICANON}
use Rattle.line_store.specs.Unread.{bytes_of}
use Rattle.n_tty.specs.States.{NTtyState, unread_count}
use Rattle.n_tty.proofs.RoomLemmas.{room_plain, room_line}
use Rattle.n_tty.proofs.StoringLemmas.{length-bytes_of-plain}
use Rattle.n_tty.proofs.discipline.NTty.store_bytes.Goals as goal

pub invariant_of-self : goal.invariant_of-self
invariant_of-self c =
    let plain : has_flag c.args.modes.now ICANON ≡ false = sym c.has.ensures ∙ c.if-not-has.true in
    record {
      within = omega (
        arith,
        ap (λ items. length (bytes_of items)) c.append.ensures,
        length-bytes_of-plain c.self.inside.store c.args.bytes.now,
        ap unread_count c.self.view_is,
        room_plain c.args.modes.now c.args.self.now (length c.args.bytes.now)
            c.requires.may.accepted plain c.requires.few,
      );
      line = c.self.invariant.line;
    }

pub invariant_of-self-then-bytes-le-MOST_LINE : goal.invariant_of-self-then-bytes-le-MOST_LINE
invariant_of-self-then-bytes-le-MOST_LINE c =
    let line = ap (λ (tty : NTtyState). length tty.edit) c.self.view_is in
    let joined = ap length c.add_all.ensures in
    let both = length-append c.self.inside.edit c.args.bytes.now in
    let short = ap length c.bytes.ensures.bytes in
    record {
      within = omega (
        arith,
        joined,
        both,
        ap unread_count c.self.view_is,
        room_line c.args.modes.now c.args.self.now (length c.args.bytes.now) c.requires.may.accepted c.requires.may.fits
            c.requires.few (omega (arith, line, short, c.if-bytes-le-MOST_LINE.true)),
      );
      line = omega (arith, joined, both, short, c.if-bytes-le-MOST_LINE.true);
    }
