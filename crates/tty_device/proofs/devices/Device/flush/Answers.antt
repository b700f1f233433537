use Rattle.std.proofs.Common.{◌≡◌, ◌++◌, map, length, refl, sym, ◌∙◌, ap, subst}
use Rattle.tty_terminal.specs.Terminals.{Terminal}
use Rattle.tty_terminal.specs.Receiving.{after_characters}
use Rattle.tty_device.specs.Kept.{flushed}
use Rattle.tty_device.specs.Devices.{DeviceState, is_stuck, FlushesShown}
use Rattle.tty_device.specs.Inside.{device_of}
use Rattle.tty_device.proofs.Handing.{as_many, kept_column, flushed_callers, flushed_noted}
use Rattle.tty_device.proofs.Handing.{flushed_counted, flushes_from, flushes_where}
use Rattle.tty_device.proofs.TakingIn.{line_stays}
use Rattle.tty_device.proofs.devices.Device.flush.Goals as goal

pub invariant_of-self-2 : goal.invariant_of-self-2
invariant_of-self-2 c =
    let a = c.self.inside in
    let t : Terminal = c.reserve.new.self.terminal in
    let u : Terminal = c.hand_over-count.new.terminal.terminal in
    let g = c.hand_over-count.new.flip in
    let cs = c.hand_over-count.new.chars.items in
    let h = c.hand_over-count.ensures in
    record {
      generation = ap (λ (x : Terminal). x.generation) h.left;
      uncounted = ap (λ (x : Terminal). x.taken) h.left;
      column = kept_column (after_characters t cs) u h.left;
      verbs =
          c.self.invariant.verbs
          ∙ sym (flushed_callers t u a.flip g cs c.min-most.result c.hand_over-count.result h
          ∙ ap (λ (x : Terminal). length x.callers) c.reserve.ensures.same);
      taken = flushed_noted t u a.flip g cs c.min-most.result c.hand_over-count.result h a.taken.items
          c.note.new.self.items c.self.invariant.taken c.note.ensures;
      dropped = flushed_counted t u a.flip g cs c.min-most.result c.hand_over-count.result h a.taken.items
          c.note.new.self.items a.dropped c.self.invariant.dropped c.note.ensures;
      line = line_stays _ _ _ h.ring c.self.invariant.line;
    }

pub returns-clause-flushes : goal.returns-clause-flushes
returns-clause-flushes c =
    let a = c.self.inside in
    let t : Terminal = c.reserve.new.self.terminal in
    let u : Terminal = c.hand_over-count.new.terminal.terminal in
    let g = c.hand_over-count.new.flip in
    let cs = c.hand_over-count.new.chars.items in
    let h = c.hand_over-count.ensures in
    let d : DeviceState = device_of a in
    let v : DeviceState = record {
      terminal = u;
      verbs = a.verbs;
      ring = g.ring;
      taken = c.note.new.self.items;
      shown = g.floor;
      line = a.line;
    } in
    let is : v ≡ record d { terminal = u; taken = d.taken ++ map flushed cs; shown = g.floor } =
    λ i.
    record { terminal = u; verbs = a.verbs; ring = h.ring i; taken = c.note.ensures i; shown = g.floor; line = a.line }
    in
    flushes_where (is_stuck c.args.self.now) c.args.self.now v c.args.most c.hand_over-count.result
    (sym c.is_stuck.ensures ∙ c.if-is_stuck.false)
    (subst (λ (x : DeviceState). FlushesShown x v c.args.most c.hand_over-count.result) c.self.view_is
    (flushes_from t u a.flip g cs c.min-most.result c.hand_over-count.result h d v c.args.most
    c.reserve.ensures.same refl (as_many a.taken.items a.flip.taken c.self.invariant.taken) c.min-most.ensures is))
