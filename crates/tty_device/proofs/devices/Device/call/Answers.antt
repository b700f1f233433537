use Rattle.std.proofs.Common.{◌≡◌, ◌<◌, length, sym, ◌∙◌, ap, subst, refl, arith}
use Rattle.std.specs.Prelude.{slice_index_or}
use Rattle.tty_base.specs.Sizes.{MOST_HANDLES}
use Rattle.tty_calls.specs.Plain.{PlainCall, call_of, handle_of}
use Rattle.tty_terminal.specs.declared.callers.CallerState.{CallerState}
use Rattle.tty_terminal.specs.Terminals.{Terminal}
use Rattle.tty_terminal.specs.Calls.{outcome}
use Rattle.tty_terminal.specs.Meeting.{InRoom, drops_of}
use Rattle.tty_device.specs.declared.askers.Verb.TheVariants as verb
use Rattle.tty_device.specs.Askers.{state_of, asker_for}
use Rattle.tty_device.specs.Acts.{settled, verbs_after}
use Rattle.tty_device.specs.Devices.{DeviceState, state_for, outcome_for, after_call, with_taken_of, DropsWhere}
use Rattle.tty_device.specs.Inside.{device_of}
use Rattle.tty_device.proofs.Handing.{dropped_noted, drops_from, drops_where, keeps_where}
use Rattle.tty_device.proofs.Settling.{same_callers, settled_generation, settled_uncounted, settled_column}
use Rattle.tty_device.proofs.Settling.{settled_callers, as_many_verbs, with_both, with_both_left, call_left, outcome_is}
use Rattle.tty_device.proofs.TakingIn.{line_stays}
use Rattle.tty_device.proofs.devices.Device.call.Goals as goal
use Rattle.tty_device.proofs.devices.Device.call.Goals.{then-drops-2, else-drops-2}

pub settle-requires-clause-known : goal.settle-requires-clause-known
settle-requires-clause-known c =
    let t : Terminal = c.self.inside.terminal.terminal in
    let met = ap (λ (x : Terminal). length x.callers) c.in_ok-met.ensures.left in
    let same = same_callers t (state_of c.asker_for-asker.result) (call_of c.args.call.now) in
    omega (arith, met, same, c.callers.ensures, c.if-caller-callers.false)

pub settle-requires-clause-verbs : goal.settle-requires-clause-verbs
settle-requires-clause-verbs c =
    let t : Terminal = c.self.inside.terminal.terminal in
    let met = ap (λ (x : Terminal). length x.callers) c.in_ok-met.ensures.left in
    let same = same_callers t (state_of c.asker_for-asker.result) (call_of c.args.call.now) in
    omega (arith, met, same, c.self.invariant.verbs)

pub invariant_of-self-then-drops-2 : goal.invariant_of-self-then-drops-2
invariant_of-self-then-drops-2 c =
    let a = c.self.inside in
    let caller = c.args.caller in
    let asker = c.asker_for-asker.result in
    let call : PlainCall = call_of c.args.call.now in
    let t : Terminal = c.meet.new.terminal.terminal in
    let u : Terminal = c.settle.new.terminal.terminal in
    let m = c.in_ok-met.met in
    let is : u ≡ settled t caller asker call m = ap (λ (s : InRoom). s.terminal) c.settle.ensures.terminal in
    let met = ap (λ (x : Terminal). length x.callers) c.in_ok-met.ensures.left in
    let same = same_callers a.terminal.terminal (state_of asker) call in
    let verbs = ap length c.settle.ensures.verbs ∙ as_many_verbs a.verbs caller call m in
    record {
      generation = settled_generation t u caller asker call m is;
      uncounted = settled_uncounted t u caller asker call m is;
      column = settled_column t u caller asker call m is;
      verbs = verbs ∙ (c.self.invariant.verbs ∙ sym (settled_callers t u caller asker call m is ∙ (met ∙ same)));
      taken = dropped_noted a.flip c.drop_shown.new.flip a.taken.items c.drop_shown.new.taken.items
          c.drop_shown.ensures.drops c.self.invariant.taken;
      dropped = c.drop_shown.ensures.counted;
      line = line_stays _ _ _ c.drop_shown.ensures.drops.ring c.self.invariant.line;
    }

pub invariant_of-self-else-drops-2 : goal.invariant_of-self-else-drops-2
invariant_of-self-else-drops-2 c =
    let a = c.self.inside in
    let caller = c.args.caller in
    let asker = c.asker_for-asker.result in
    let call : PlainCall = call_of c.args.call.now in
    let t : Terminal = c.meet.new.terminal.terminal in
    let u : Terminal = c.settle.new.terminal.terminal in
    let m = c.in_ok-met.met in
    let is : u ≡ settled t caller asker call m = ap (λ (s : InRoom). s.terminal) c.settle.ensures.terminal in
    let met = ap (λ (x : Terminal). length x.callers) c.in_ok-met.ensures.left in
    let same = same_callers a.terminal.terminal (state_of asker) call in
    let verbs = ap length c.settle.ensures.verbs ∙ as_many_verbs a.verbs caller call m in
    record {
      generation = settled_generation t u caller asker call m is;
      uncounted = settled_uncounted t u caller asker call m is;
      column = settled_column t u caller asker call m is;
      verbs = verbs ∙ (c.self.invariant.verbs ∙ sym (settled_callers t u caller asker call m is ∙ (met ∙ same)));
      taken = c.self.invariant.taken;
      dropped = c.self.invariant.dropped;
      line = c.self.invariant.line;
    }

pub returns-clause-after : goal.returns-clause-after
returns-clause-after c =
    let a = c.self.inside in
    let d : DeviceState = device_of a in
    let caller = c.args.caller in
    let asker = c.asker_for-asker.result in
    let call : PlainCall = call_of c.args.call.now in
    let t : Terminal = a.terminal.terminal in
    let m = c.in_ok-met.met in
    let v : DeviceState = c.if-drops-2.self in
    let known : caller < length t.callers = omega (arith, c.callers.ensures, c.if-caller-callers.false) in
    let number : handle_of call < MOST_HANDLES = omega (arith, c.handle.ensures, c.if-handle-ge-MOST_HANDLES.false) in
    let state = c.standing.ensures in
    let verbs : c.get-verb.result ≡ slice_index_or a.verbs caller verb.Never = c.get-verb.ensures in
    let goes : state_for d caller call ≡ state_of asker =
    sym (ap state_of (c.asker_for-asker.ensures ∙ (λ i. asker_for (state i) (verbs i) call))) in
    let u = settled c.meet.new.terminal.terminal caller asker call m in
    let left : with_both d u (verbs_after d.verbs caller call m) ≡ after_call d caller call =
    call_left d caller call known number asker m c.meet.new.terminal.terminal
    goes c.in_ok-met.ensures.met c.in_ok-met.ensures.left in
    let terminal = ap (λ (s : InRoom). s.terminal) c.settle.ensures.terminal in
    let after = c.settle.ensures.verbs in
    subst (λ (x : DeviceState). v ≡ with_taken_of v (after_call x caller call)) c.self.view_is
    (elim c.if-drops-2.branch [
      | then-drops-2 w ↦ with_both_left d v (after_call d caller call) u (verbs_after d.verbs caller call m) left
          (ap (λ (x : DeviceState). x.terminal) w.self-is ∙ terminal)
          (ap (λ (x : DeviceState). x.verbs) w.self-is ∙ after)
          (ap (λ (x : DeviceState). x.ring) w.self-is ∙ w.drop_shown.ensures.drops.ring)
          (ap (λ (x : DeviceState). x.line) w.self-is)
      | else-drops-2 w ↦ with_both_left d v (after_call d caller call) u (verbs_after d.verbs caller call m) left
          (ap (λ (x : DeviceState). x.terminal) w.self-is ∙ terminal)
          (ap (λ (x : DeviceState). x.verbs) w.self-is ∙ after) (ap (λ (x : DeviceState). x.ring) w.self-is)
          (ap (λ (x : DeviceState). x.line) w.self-is)
    ])

pub returns-clause-drops : goal.returns-clause-drops
returns-clause-drops c =
    let a = c.self.inside in
    let d : DeviceState = device_of a in
    let caller = c.args.caller in
    let asker = c.asker_for-asker.result in
    let call : PlainCall = call_of c.args.call.now in
    let t : Terminal = a.terminal.terminal in
    let v : DeviceState = c.if-drops-2.self in
    let known : caller < length t.callers = omega (arith, c.callers.ensures, c.if-caller-callers.false) in
    let number : handle_of call < MOST_HANDLES = omega (arith, c.handle.ensures, c.if-handle-ge-MOST_HANDLES.false) in
    let state = c.standing.ensures in
    let verbs : c.get-verb.result ≡ slice_index_or a.verbs caller verb.Never = c.get-verb.ensures in
    let goes : state_for d caller call ≡ state_of asker =
    sym (ap state_of (c.asker_for-asker.ensures ∙ (λ i. asker_for (state i) (verbs i) call))) in
    let told =
    ap drops_of (outcome_is d caller call known number ∙ ap (λ (s : CallerState). outcome t s call) goes)
    ∙ sym c.drops-drops.ensures in
    subst (λ (x : DeviceState). DropsWhere (drops_of (outcome_for x caller call)) x v) c.self.view_is
    (elim c.if-drops-2.branch [
      | then-drops-2 w ↦ drops_where (drops_of (outcome_for d caller call)) d v (told ∙ w.if-drops-2.true)
          (drops_from a.flip w.drop_shown.new.flip a.taken.items w.drop_shown.new.taken.items w.drop_shown.ensures.drops
          d v refl refl c.self.invariant.taken
          (ap (λ (x : DeviceState). x.taken) w.self-is) (ap (λ (x : DeviceState). x.shown) w.self-is))
      | else-drops-2 w ↦ keeps_where (drops_of (outcome_for d caller call)) d v (told ∙ w.if-drops-2.false)
          (ap (λ (x : DeviceState). x.taken) w.self-is) (ap (λ (x : DeviceState). x.shown) w.self-is)
    ])
