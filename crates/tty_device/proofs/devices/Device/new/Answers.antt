use Rattle.std.proofs.Common.{◌≡◌, ℕ, None, max, ap, ◌∙◌}
use Rattle.tty_base.specs.Sizes.{LEAST_FLIP}
use Rattle.tty_base.specs.declared.characters.Flagged.{Flagged}
use Rattle.word_ring.specs.Ends.{PutterState, TakerState}
use Rattle.tty_terminal.specs.Terminals.{opening}
use Rattle.tty_terminal.specs.Meeting.{InRoom}
use Rattle.tty_device.specs.Lines.{PutEnd, buffer_size, fresh_line}
use Rattle.tty_device.proofs.devices.Device.new.Goals as goal

pub returns-clause-device : goal.returns-clause-device
returns-clause-device c =
    let size : c.max-capacity.result ≡ buffer_size c.args.capacity =
    c.max-capacity.ensures ∙ ap (λ (n : ℕ). max n LEAST_FLIP) c.min.ensures in
    let terminal = ap (λ (r : InRoom). r.terminal) c.in_ok-new.ensures ∙ ap (opening c.args.callers) size in
    let shown = ap (λ (t : TakerState Flagged). t.floor) c.in_ok-input.ensures.output in
    λ i.
    record {
      terminal = terminal i;
      verbs = c.in_ok-new-2.ensures i;
      ring = c.in_ok-input.output.ring;
      taken = c.new-3.ensures i;
      shown = shown i;
      line = None;
    }

pub returns-clause-line : goal.returns-clause-line
returns-clause-line c =
    let size : c.max-capacity.result ≡ buffer_size c.args.capacity =
    c.max-capacity.ensures ∙ ap (λ (n : ℕ). max n LEAST_FLIP) c.min.ensures in
    let end : PutterState Flagged → PutEnd = λ p.
    record {
      ring = p.ring;
      capacity = p.capacity;
      sent = p.sent;
      pushed = p.pushed;
      overruns = 0;
      known = p.floor;
    } in
    c.new-7.ensures ∙ (ap end c.in_ok-input.ensures.input ∙ ap (fresh_line c.in_ok-input.output.ring) size)
