use Rattle.std.proofs.Common.{◌≡◌, List, Option, [], Bool, true, false, ◌&&◌, is_some}
use Rattle.std.proofs.Common.{refl, sym, ◌∙◌, ap, subst, arith, append-nil}
use Rattle.tty_calls.specs.Plain.{answered, idle, call_of}
use Rattle.tty_terminal.specs.Terminals.{Terminal, caller_at}
use Rattle.tty_terminal.specs.Calls.{outcome}
use Rattle.tty_terminal.specs.Meeting.{drops_of}
use Rattle.tty_terminal.specs.Steps.{MustWait, after_answer, with_dropped, quiet}
use Rattle.port_core.specs.declared.waiting.WaitingCall.{WaitingCall}
use Rattle.port_core.specs.Ports.{PortValue, caller_entry}
use Rattle.port_core.specs.Attempts.{AnswersCall}
use Rattle.port_core.specs.Inside.{KeepsCalls, value_of}
use Rattle.port_core.proofs.GoingOn.{known_caller, port_bounded}
use Rattle.port_core.proofs.Calls.{idle_answers, left_waiting}
use Rattle.port_core.proofs.Calls.{waiting_drops, waiting_keeps, with_none_dropped}
use Rattle.port_core.proofs.Answering.{IsTried, tries, IsNoted, noted, made_by_call, after_call, answers_call}
use Rattle.port_core.proofs.Handing.{when_false}
use Rattle.port_core.proofs.ports.Port.answer_idle.Goals as goal
use Rattle.port_core.proofs.ports.Port.answer_idle.Goals.{After-note}

both_true : (a b : Bool) → a ≡ true → b ≡ true → (a && b) ≡ true
both_true true b p q = q
both_true false b p q = p

pub caller-state-requires : goal.caller-state-requires
caller-state-requires c = known_caller (value_of c.self.inside) c.args.self.now c.args.caller
    c.self.view_is c.self.invariant.port c.requires.ready.known

pub advance-requires-clause-known : goal.advance-requires-clause-known
advance-requires-clause-known c = known_caller (value_of c.self.inside) c.args.self.now c.args.caller
    c.self.view_is c.self.invariant.port c.requires.ready.known

pub advance-requires-clause-few : goal.advance-requires-clause-few
advance-requires-clause-few c =
    omega (arith, (port_bounded (value_of c.self.inside) c.self.invariant.port).next c.args.caller)

abbrev now_of : After-note → PortValue
now_of c = record (value_of c.self.inside) {
  terminal = c.advance.new.self.terminal;
  journal = c.add.new.self.items;
  kept = c.note.new.self.items;
  starved = c.reserve_entry.new.starved;
  flip = (value_of c.self.inside).flip;
}

-- the invariant, and what the attempt came to
answers : (c : After-note)
    → KeepsCalls (now_of c) c.self.inside.waiting.items
    × AnswersCall (value_of c.self.inside) (now_of c) c.args.caller c.args.step (call_of c.args.call.now) idle
answers c =
    let v : PortValue = value_of c.self.inside in
    let d = c.args.caller in
    let step = c.args.step in
    let call = call_of c.args.call.now in
    let slots : List (Option WaitingCall) = c.self.inside.waiting.items in
    let tried : IsTried v slots d step call =
    tries v c.args.self.now slots d step call c.self.view_is c.self.invariant c.requires.open c.requires.ready in
    let notes : IsNoted v d step call (answered idle []) c.add.new.self.items c.note.new.self.items =
    noted v d step _ call _ _ (answered idle []) (answered idle []) _ _ _ _ tried.ready.next c.caller-state.ensures
    c.is_some-begun.ensures c.generation-generation.ensures refl c.entry_of_call-entry.ensures
    c.in_ok-reserve_entry.ensures.items c.add.ensures c.note.ensures in
    let left : c.advance.new.self.terminal ≡ after_answer (with_dropped v.terminal 0) d =
    ap (λ r. r.terminal) c.advance.ensures
    ∙ (ap (λ (w : Terminal). after_answer w d) (sym (with_none_dropped v.terminal))) in
    let same : now_of c
    ≡ after_call v d step call (after_answer (with_dropped v.terminal 0) d) v.flip
    (caller_entry v d (answered idle [])) =
    made_by_call v d step call (answered idle []) _ _ _ _ _ v.flip notes left c.in_ok-reserve_entry.ensures.ok in
    let o = outcome v.terminal (caller_at v.terminal d) call in
    let must : MustWait o =
    subst (λ (w : PortValue). MustWait (outcome w.terminal (caller_at w.terminal d) call)) (sym c.self.view_is)
    c.requires.must in
    let may : (is_some (caller_at v.terminal d).waits && quiet v.counts v.terminal) ≡ true = both_true _ _
    (subst (λ (w : PortValue). is_some (caller_at w.terminal d).waits ≡ true) (sym c.self.view_is) c.requires.waits)
    (subst (λ (w : PortValue). quiet w.counts w.terminal ≡ true) (sym c.self.view_is) c.requires.quiet) in
    answers_call v (now_of c) slots d step call idle [] v.terminal v.flip tried (idle_answers _ o must may)
    (waiting_drops v.terminal o must)
    (when_false (drops_of o) _ _ (waiting_keeps o must) (refl, refl)) (sym (append-nil v.flip.taken)) (omega arith) refl
    c.self.invariant.port.sent (sym (left_waiting o v.terminal must)) (omega arith) same

pub invariant_of-self-2 : goal.invariant_of-self-2
invariant_of-self-2 c = (answers (goal.at.invariant_of-self-2 c).After-note).0

pub returns-clause-tried : goal.returns-clause-tried
returns-clause-tried c =
    let d = (goal.at.returns-clause-tried c).After-note in
    subst (λ (w : PortValue). AnswersCall w (now_of d) c.args.caller c.args.step (call_of c.args.call.now) idle)
    c.self.view_is (answers d).1
