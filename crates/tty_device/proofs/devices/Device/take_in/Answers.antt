use Rattle.std.proofs.Common.{rules, ◌≡◌, ◌++◌, Some, map, length, refl, sym, ◌∙◌, ap, subst}
use Rattle.tty_terminal.specs.Terminals.{Terminal}
use Rattle.tty_terminal.specs.Receiving.{after_characters}
use Rattle.tty_device.specs.Kept.{flushed}
use Rattle.tty_device.specs.Devices.{MOST_FLUSHED, DeviceState, is_stuck, FlushesShown}
use Rattle.tty_device.specs.Inside.{device_of}
use Rattle.tty_device.specs.Lines.{PutEnd}
use Rattle.tty_device.proofs.Handing.{as_many, kept_column, flushed_callers, flushed_noted}
use Rattle.tty_device.proofs.Handing.{flushed_counted, flushes_from, flushes_where}
use Rattle.tty_device.proofs.TakingIn.{takes_in_where}
use Rattle.tty_device.proofs.devices.Device.take_in.Goals as goal

pub invariant_of-self-2 : goal.invariant_of-self-2
invariant_of-self-2 c =
    let a = c.self.inside in
    let t : Terminal = c.reserve.new.self.terminal in
    let u : Terminal = c.hand_in-count.new.terminal.terminal in
    let g = c.hand_in-count.new.flip in
    let cs = c.hand_in-count.new.chars.items in
    let h = c.hand_in-count.ensures.hands in
    let ring : c.in-Some.line.ring ≡ a.flip.ring = search rules in
    record {
      generation = ap (λ (x : Terminal). x.generation) h.left;
      uncounted = ap (λ (x : Terminal). x.taken) h.left;
      column = kept_column (after_characters t cs) u h.left;
      verbs =
          c.self.invariant.verbs
          ∙ sym (flushed_callers t u a.flip g cs MOST_FLUSHED (length cs) h
          ∙ ap (λ (x : Terminal). length x.callers) c.reserve.ensures.same);
      taken = flushed_noted t u a.flip g cs MOST_FLUSHED (length cs) h a.taken.items
          c.note.new.self.items c.self.invariant.taken c.note.ensures;
      dropped = flushed_counted t u a.flip g cs MOST_FLUSHED (length cs) h a.taken.items c.note.new.self.items
          a.dropped c.self.invariant.dropped c.note.ensures;
      line = ap (λ (x : PutEnd). x.ring) c.hand_in-count.ensures.puts.after ∙ (ring ∙ sym h.ring);
    }

pub returns-clause-takes : goal.returns-clause-takes
returns-clause-takes c =
    let a = c.self.inside in
    let t : Terminal = c.reserve.new.self.terminal in
    let u : Terminal = c.hand_in-count.new.terminal.terminal in
    let g = c.hand_in-count.new.flip in
    let cs = c.hand_in-count.new.chars.items in
    let l : PutEnd = c.hand_in-count.new.line in
    let h = c.hand_in-count.ensures.hands in
    let now : DeviceState = c.args.self.now in
    let d : DeviceState = record (device_of a) { line = Some l } in
    let v : DeviceState = record {
      terminal = u;
      verbs = a.verbs;
      ring = g.ring;
      taken = c.note.new.self.items;
      shown = g.floor;
      line = Some l;
    } in
    let is : v ≡ record d { terminal = u; taken = d.taken ++ map flushed cs; shown = g.floor } =
    λ i.
    record { terminal = u; verbs = a.verbs; ring = h.ring i; taken = c.note.ensures i; shown = g.floor; line = Some l }
    in
    let had : now.line ≡ Some c.in-Some.line = search rules in
    takes_in_where now.line c.in-Some.line now v c.args.flag c.args.bytes.now c.hand_in-count.result had record {
      put = l;
      puts = c.hand_in-count.ensures.puts;
      handed = length cs;
      flushes = flushes_where (is_stuck now) (record now { line = Some l }) v MOST_FLUSHED (length cs)
          (sym c.is_stuck-stuck.ensures ∙ c.if-stuck.false)
          (subst (λ (x : DeviceState). FlushesShown (record x { line = Some l }) v MOST_FLUSHED (length cs))
          c.self.view_is
          (flushes_from t u a.flip g cs MOST_FLUSHED (length cs) h d v MOST_FLUSHED c.reserve.ensures.same refl
          (as_many a.taken.items a.flip.taken c.self.invariant.taken) refl is));
      seen = λ free. c.hand_in-count.ensures.seen;
    }
