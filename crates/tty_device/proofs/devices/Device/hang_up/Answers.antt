use Rattle.std.proofs.Common.{rules, ◌≡◌, length, sym, ◌∙◌, ap}
use Rattle.std.proofs.lemmas.List.{length-map}
use Rattle.tty_terminal.specs.Terminals.{Terminal}
use Rattle.tty_terminal.specs.Generations.{caller_after_hangup, after_hangup}
use Rattle.tty_terminal.specs.Meeting.{InRoom}
use Rattle.tty_terminal.specs.Kept.{kept}
use Rattle.tty_device.proofs.Handing.{kept_column, dropped_noted}
use Rattle.tty_device.proofs.TakingIn.{line_stays}
use Rattle.tty_device.proofs.devices.Device.hang_up.Goals as goal

pub invariant_of-self : goal.invariant_of-self
invariant_of-self c =
    let a = c.self.inside in
    let t : Terminal = a.terminal.terminal in
    let m : Terminal = c.hang_up.new.self.terminal in
    let u : Terminal = c.forget.new.self.terminal in
    let hung : m ≡ after_hangup t = ap (λ (s : InRoom). s.terminal) c.hang_up.ensures in
    let is : u ≡ kept m = ap (λ (s : InRoom). s.terminal) c.forget.ensures in
    record {
      generation = ap (λ (x : Terminal). x.generation) is;
      uncounted = ap (λ (x : Terminal). x.taken) is;
      column = kept_column m u is;
      verbs =
          c.self.invariant.verbs
          ∙ sym (ap (λ (x : Terminal). length x.callers) is
          ∙ (ap (λ (x : Terminal). length x.callers) hung ∙ length-map t.callers caller_after_hangup));
      taken = dropped_noted a.flip c.drop_shown.new.flip a.taken.items c.drop_shown.new.taken.items
          c.drop_shown.ensures.drops c.self.invariant.taken;
      dropped = c.drop_shown.ensures.counted;
      line = line_stays _ _ _ c.drop_shown.ensures.drops.ring c.self.invariant.line;
    }

pub hang_up-requires-clause-fresh : goal.hang_up-requires-clause-fresh
hang_up-requires-clause-fresh c = search rules steps 100000
