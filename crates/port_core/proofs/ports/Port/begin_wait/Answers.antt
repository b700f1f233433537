use Rattle.std.proofs.Common.{◌≡◌, ℕ, List, Option, None}
use Rattle.std.proofs.Common.{Some, set, refl, sym, ◌∙◌, ap, subst}
use Rattle.tty_calls.specs.Plain.{waited, handle_of, call_of}
use Rattle.tty_terminal.specs.Terminals.{caller_at}
use Rattle.tty_terminal.specs.Calls.{outcome}
use Rattle.tty_terminal.specs.Steps.{MustWait, after_wait}
use Rattle.port_core.specs.declared.waiting.WaitingCall.{WaitingCall}
use Rattle.port_core.specs.Ports.{PortValue, caller_entry}
use Rattle.port_core.specs.Attempts.{MustGoOnWaiting}
use Rattle.port_core.specs.Inside.{KeepsCalls, value_of}
use Rattle.port_core.proofs.GoingOn.{known_caller}
use Rattle.port_core.proofs.CanWait.{can_wait_here}
use Rattle.port_core.proofs.Answering.{IsTried, tries, IsNoted, noted, made_by_call, after_call, begins_to_wait}
use Rattle.port_core.proofs.ports.Port.begin_wait.Goals as goal
use Rattle.port_core.proofs.ports.Port.begin_wait.Goals.{After-note}

pub caller-state-requires : goal.caller-state-requires
caller-state-requires c = known_caller (value_of c.self.inside) c.args.self.now c.args.caller
    c.self.view_is c.self.invariant.port c.requires.ready.known

pub copy_of-requires : goal.copy_of-requires
copy_of-requires c = can_wait_here c.args.self.now.terminal (caller_at c.args.self.now.terminal c.args.caller)
    (call_of c.args.call.now) c.requires.must

pub wait-requires-clause-known : goal.wait-requires-clause-known
wait-requires-clause-known c = known_caller (value_of c.self.inside) c.args.self.now c.args.caller
    c.self.view_is c.self.invariant.port c.requires.ready.known

abbrev now_of : After-note → PortValue
now_of c = record (value_of c.self.inside) {
  terminal = c.wait.new.self.terminal;
  journal = c.add.new.self.items;
  kept = c.note.new.self.items;
  starved = c.copy_of.new.starved;
  flip = (value_of c.self.inside).flip;
}

-- the invariant, and what the attempt came to
begins : (c : After-note)
    → KeepsCalls (now_of c) (set c.self.inside.waiting.items c.args.caller (Some c.in_ok-copy.copy))
    × MustGoOnWaiting (value_of c.self.inside) (now_of c) c.args.caller c.args.step (call_of c.args.call.now)
begins c =
    let v : PortValue = value_of c.self.inside in
    let d = c.args.caller in
    let step = c.args.step in
    let call = call_of c.args.call.now in
    let slots : List (Option WaitingCall) = c.self.inside.waiting.items in
    let tried : IsTried v slots d step call =
    tries v c.args.self.now slots d step call c.self.view_is c.self.invariant c.requires.open c.requires.ready in
    let notes : IsNoted v d step call waited c.add.new.self.items c.note.new.self.items =
    noted v d step _ call _ _ waited waited _ _ _ _ tried.ready.next c.caller-state.ensures c.is_some-begun.ensures
    c.generation-generation.ensures refl c.entry_of_call-entry.ensures c.in_ok-reserve_entry.ensures.items
    c.add.ensures c.note.ensures in
    let left : c.wait.new.self.terminal ≡ after_wait v.terminal d (handle_of call) =
    ap (λ r. r.terminal) c.wait.ensures ∙ ap (λ (h : ℕ). after_wait v.terminal d h) c.handle.ensures in
    let same : now_of c
    ≡ after_call v d step call (after_wait v.terminal d (handle_of call)) v.flip (caller_entry v d waited) =
    made_by_call v d step call waited _ _ _ _ _ v.flip notes left
    (c.in_ok-copy.ensures.ok ∙ c.in_ok-reserve_entry.ensures.ok) in
    let must : MustWait (outcome v.terminal (caller_at v.terminal d) call) =
    subst (λ (w : PortValue). MustWait (outcome w.terminal (caller_at w.terminal d) call)) (sym c.self.view_is)
    c.requires.must in
    let first : (caller_at v.terminal d).waits ≡ None =
    subst (λ (w : PortValue). (caller_at w.terminal d).waits ≡ None) (sym c.self.view_is) c.requires.first in
    begins_to_wait v (now_of c) slots d step call c.in_ok-copy.copy c.in_ok-copy.ensures.copy tried must first same

pub invariant_of-self-2 : goal.invariant_of-self-2
invariant_of-self-2 c = (begins (goal.at.invariant_of-self-2 c).After-note).0

pub returns-clause-tried : goal.returns-clause-tried
returns-clause-tried c =
    let d = (goal.at.returns-clause-tried c).After-note in
    subst (λ (w : PortValue). MustGoOnWaiting w (now_of d) c.args.caller c.args.step (call_of c.args.call.now))
    c.self.view_is (begins d).1
