use Rattle.std.proofs.Common.{◌≡◌, ℕ, List, Option, [], false, ◌+◌}
use Rattle.std.proofs.Common.{◌<◌, length, refl, sym, ◌∙◌, ap, subst, arith, append-nil}
use Rattle.tty_calls.specs.Plain.{PlainEntry, answered, parted, handle_of, call_of}
use Rattle.tty_calls.specs.Plain.{answer_of, bytes_by, bytes_in}
use Rattle.tty_terminal.specs.Terminals.{Terminal, caller_at}
use Rattle.tty_terminal.specs.Calls.{outcome}
use Rattle.tty_terminal.specs.Meeting.{drops_of}
use Rattle.tty_terminal.specs.Steps.{after_answer, after_part, with_dropped}
use Rattle.port_core.specs.declared.waiting.WaitingCall.{WaitingCall}
use Rattle.port_core.specs.Ports.{PortValue, caller_entry}
use Rattle.port_core.specs.Attempts.{AnswersCall, TakesPartOf}
use Rattle.port_core.specs.Inside.{KeepsCalls, value_of}
use Rattle.port_core.proofs.GoingOn.{known_caller, port_bounded}
use Rattle.port_core.proofs.Calls.{answers_met, parts_met, none_dropped, with_none_dropped}
use Rattle.port_core.proofs.Answering.{IsTried, tries, MetBy, met_before, leaves_of, IsNoted, noted, made_by_call}
use Rattle.port_core.proofs.Answering.{after_call, answers_call, takes_part_of}
use Rattle.tty_calls.specs.Plain.{PlainEvent}
use Rattle.tty_calls.specs.Limits.{byte_count}
use Rattle.tty_terminal.specs.declared.rooms.Met.TheVariants as met
use Rattle.tty_terminal.specs.Meeting.{Meets}
use Rattle.tty_terminal.proofs.Effects.{Leaves}
use Rattle.tty_terminal.proofs.WaitLaws.{run_part_count, part_more}
use Rattle.port_core.specs.Ports.{call_in}
use Rattle.port_core.proofs.Fitting.{answer_fits}
use Rattle.port_core.proofs.Handing.{when_false}
use Rattle.port_core.proofs.ports.Port.answer.Goals as goal
use Rattle.port_core.proofs.ports.Port.answer.Goals.{After-note, After-note-in-Takes}

pub caller-state-requires : goal.caller-state-requires
caller-state-requires c = known_caller (value_of c.self.inside) c.args.self.now c.args.caller
    c.self.view_is c.self.invariant.port c.requires.ready.known

pub meet-requires-clause-known : goal.meet-requires-clause-known
meet-requires-clause-known c = subst (λ (t : Terminal). c.args.caller < length t.callers)
    (sym c.prepare.ensures.terminal)
    (known_caller (value_of c.self.inside) c.args.self.now c.args.caller
    c.self.view_is c.self.invariant.port c.requires.ready.known)

pub meet-requires-clause-few : goal.meet-requires-clause-few
meet-requires-clause-few c = omega (
  arith,
  (port_bounded (value_of c.self.inside) c.self.invariant.port).generation,
  ap (λ (t : Terminal). t.generation) c.prepare.ensures.terminal,
)

pub advance-requires-clause-known : goal.advance-requires-clause-known
advance-requires-clause-known c =
    let w : Leaves c.self.inside.terminal.terminal c.meet.new.self.terminal =
    leaves_of c.self.inside.terminal.terminal c.prepare.new.terminal.terminal c.meet.new.self.terminal c.args.caller
    (call_of c.args.call.now) c.prepare.ensures.terminal c.meet.ensures.left in
    subst (λ n. c.args.caller < n) (sym w.callers)
    (known_caller (value_of c.self.inside) c.args.self.now c.args.caller
    c.self.view_is c.self.invariant.port c.requires.ready.known)

pub note_part-requires-clause-known : goal.note_part-requires-clause-known
note_part-requires-clause-known c =
    let w : Leaves c.self.inside.terminal.terminal c.meet.new.self.terminal =
    leaves_of c.self.inside.terminal.terminal c.prepare.new.terminal.terminal c.meet.new.self.terminal c.args.caller
    (call_of c.args.call.now) c.prepare.ensures.terminal c.meet.ensures.left in
    subst (λ n. c.args.caller < n) (sym w.callers)
    (known_caller (value_of c.self.inside) c.args.self.now c.args.caller
    c.self.view_is c.self.invariant.port c.requires.ready.known)

pub advance-requires-clause-few : goal.advance-requires-clause-few
advance-requires-clause-few c =
    let w : Leaves c.self.inside.terminal.terminal c.meet.new.self.terminal =
    leaves_of c.self.inside.terminal.terminal c.prepare.new.terminal.terminal c.meet.new.self.terminal c.args.caller
    (call_of c.args.call.now) c.prepare.ensures.terminal c.meet.ensures.left in
    omega (
      arith,
      (w.caller c.args.caller).next,
      (port_bounded (value_of c.self.inside) c.self.invariant.port).next c.args.caller,
    )

pub add-requires-clause-bytes : goal.add-requires-clause-bytes
add-requires-clause-bytes c =
    let t : Terminal = c.self.inside.terminal.terminal in
    let d = c.args.caller in
    let call = call_of c.args.call.now in
    let meets : Meets (outcome t (caller_at t d) call) (met.Gives c.in-Gives.answer) =
    subst (λ (u : Terminal). Meets (outcome u (caller_at u d) call) (met.Gives c.in-Gives.answer))
    c.prepare.ensures.terminal c.in-Gives.ensures.met in
    let few = (answer_fits t (caller_at t d) call).fits c.in-Gives.answer meets in
    let bytes = ap (λ (e : PlainEntry). bytes_by e.event) c.entry_of_call-entry.ensures ∙ ap bytes_in c.lent.ensures in
    rw bytes (omega (arith, few, c.room_for-bytes.ensures, c.in_ok-reserve_entry.ensures.bytes))

pub note_part-requires-clause-parts : goal.note_part-requires-clause-parts
note_part-requires-clause-parts c =
    let w : Leaves c.self.inside.terminal.terminal c.meet.new.self.terminal =
    leaves_of c.self.inside.terminal.terminal c.prepare.new.terminal.terminal c.meet.new.self.terminal c.args.caller
    (call_of c.args.call.now) c.prepare.ensures.terminal c.meet.ensures.left in
    let v : PortValue = value_of c.self.inside in
    omega (
      arith,
      (w.caller c.args.caller).parts,
      run_part_count (call_in v.kept) v.counts v.flip.capacity
          v.journal v.terminal c.self.invariant.port.run c.args.caller,
      c.self.invariant.port.few,
      c.self.invariant.port.limit,
    )

pub note_part-requires-clause-bytes : goal.note_part-requires-clause-bytes
note_part-requires-clause-bytes c =
    let w : Leaves c.self.inside.terminal.terminal c.meet.new.self.terminal =
    leaves_of c.self.inside.terminal.terminal c.prepare.new.terminal.terminal c.meet.new.self.terminal c.args.caller
    (call_of c.args.call.now) c.prepare.ensures.terminal c.meet.ensures.left in
    let u : Terminal = c.prepare.new.terminal.terminal in
    let more : (caller_at u c.args.caller).taken + c.in-Takes.count < byte_count (call_of c.args.call.now) =
    part_more u (caller_at u c.args.caller) (call_of c.args.call.now) c.in-Takes.count
    (parts_met _ _ c.in-Takes.ensures.met) in
    omega (
      arith,
      (w.caller c.args.caller).taken,
      more,
      ap (λ (t : Terminal). (caller_at t c.args.caller).taken) c.prepare.ensures.terminal,
      c.requires.ready.bytes,
    )

abbrev answered_now : After-note → PortValue
answered_now c = record (value_of c.self.inside) {
  terminal = c.advance.new.self.terminal;
  journal = c.add.new.self.items;
  kept = c.note.new.self.items;
  starved = c.prepare.new.starved;
  flip = (value_of c.self.inside).flip;
}

-- the invariant, and what the attempt came to
answers : (c : After-note)
    → KeepsCalls (answered_now c) c.self.inside.waiting.items
    × AnswersCall (value_of c.self.inside) (answered_now c) c.args.caller c.args.step (call_of c.args.call.now)
    (answer_of c.in-Gives.answer)
answers c =
    let v : PortValue = value_of c.self.inside in
    let d = c.args.caller in
    let step = c.args.step in
    let call = call_of c.args.call.now in
    let slots : List (Option WaitingCall) = c.self.inside.waiting.items in
    let tried : IsTried v slots d step call =
    tries v c.args.self.now slots d step call c.self.view_is c.self.invariant c.requires.open c.requires.ready in
    let o = outcome v.terminal (caller_at v.terminal d) call in
    let met_by : MetBy v.terminal d call (met.Gives c.in-Gives.answer) c.meet.new.self.terminal =
    met_before v.terminal c.prepare.new.terminal.terminal d call (met.Gives c.in-Gives.answer) c.meet.new.self.terminal
    c.prepare.ensures.terminal
    (record { meets = c.in-Gives.ensures.met; left_is = c.meet.ensures.left; column = c.meet.ensures.column }) in
    let keeps : drops_of o ≡ false =
    subst (λ (w : PortValue). drops_of (outcome w.terminal (caller_at w.terminal d) call) ≡ false) (sym c.self.view_is)
    c.requires.keeps in
    let event : PlainEvent = answered (answer_of c.in-Gives.answer) [] in
    let notes : IsNoted v d step call event c.add.new.self.items c.note.new.self.items =
    noted v d step _ call _ _ event _ _ _ _ _ tried.ready.next c.caller-state.ensures c.is_some-begun.ensures
    c.generation-generation.ensures (ap (λ a. answered a []) c.lent.ensures) c.entry_of_call-entry.ensures
    c.in_ok-reserve_entry.ensures.items c.add.ensures c.note.ensures in
    let goes : c.advance.new.self.terminal ≡ after_answer (with_dropped c.meet.new.self.terminal 0) d =
    ap (λ r. r.terminal) c.advance.ensures
    ∙ ap (λ (w : Terminal). after_answer w d) (sym (with_none_dropped c.meet.new.self.terminal)) in
    let same : answered_now c
    ≡ after_call v d step call (after_answer (with_dropped c.meet.new.self.terminal 0) d) v.flip
    (caller_entry v d event) =
    made_by_call v d step call event _ _ _ _ _ v.flip notes goes
    (c.in_ok-room.ensures.ok ∙ c.in_ok-reserve_entry.ensures.ok) in
    answers_call v (answered_now c) slots d step call (answer_of c.in-Gives.answer)
    [] c.meet.new.self.terminal v.flip tried (answers_met _ o c.in-Gives.answer met_by.meets)
    (none_dropped v.terminal o keeps)
    (when_false (drops_of o) _ _ keeps (refl, refl)) (sym (append-nil v.flip.taken)) (omega arith)
    refl c.self.invariant.port.sent met_by.left_is met_by.column same

pub invariant_of-self-in-Gives : goal.invariant_of-self-in-Gives
invariant_of-self-in-Gives c = (answers (goal.at.invariant_of-self-in-Gives c).After-note).0

pub returns-in-Gives-clause-tried : goal.returns-in-Gives-clause-tried
returns-in-Gives-clause-tried c =
    let d = (goal.at.returns-in-Gives-clause-tried c).After-note in
    subst (λ (w : PortValue).
    AnswersCall w (answered_now d) c.args.caller c.args.step (call_of c.args.call.now) (answer_of c.in-Gives.answer))
    c.self.view_is (answers d).1

abbrev taken_now : After-note-in-Takes → PortValue
taken_now c = record (value_of c.self.inside) {
  terminal = c.note_part.new.self.terminal;
  journal = c.add-in-Takes.new.self.items;
  kept = c.note-in-Takes.new.self.items;
  starved = c.prepare.new.starved;
  flip = (value_of c.self.inside).flip;
}

-- of a part
takes : (c : After-note-in-Takes)
    → KeepsCalls (taken_now c) c.self.inside.waiting.items
    × TakesPartOf (value_of c.self.inside) (taken_now c) c.args.caller c.args.step (call_of c.args.call.now)
takes c =
    let v : PortValue = value_of c.self.inside in
    let d = c.args.caller in
    let step = c.args.step in
    let call = call_of c.args.call.now in
    let slots : List (Option WaitingCall) = c.self.inside.waiting.items in
    let tried : IsTried v slots d step call =
    tries v c.args.self.now slots d step call c.self.view_is c.self.invariant c.requires.open c.requires.ready in
    let o = outcome v.terminal (caller_at v.terminal d) call in
    let met_by : MetBy v.terminal d call (met.Takes c.in-Takes.count) c.meet.new.self.terminal =
    met_before v.terminal c.prepare.new.terminal.terminal d call (met.Takes c.in-Takes.count) c.meet.new.self.terminal
    c.prepare.ensures.terminal
    (record { meets = c.in-Takes.ensures.met; left_is = c.meet.ensures.left; column = c.meet.ensures.column }) in
    let event : PlainEvent = parted c.in-Takes.count in
    let notes : IsNoted v d step call event c.add-in-Takes.new.self.items c.note-in-Takes.new.self.items =
    noted v d step _ call _ _ event event _ _ _ _ tried.ready.next c.caller-state.ensures c.is_some-begun.ensures
    c.generation-generation.ensures refl c.entry_of_call-entry-in-Takes.ensures
    c.in_ok-reserve_entry.ensures.items c.add-in-Takes.ensures c.note-in-Takes.ensures in
    let goes : c.note_part.new.self.terminal ≡ after_part c.meet.new.self.terminal d (handle_of call) c.in-Takes.count =
    ap (λ r. r.terminal) c.note_part.ensures
    ∙ ap (λ (h : ℕ). after_part c.meet.new.self.terminal d h c.in-Takes.count) c.handle.ensures in
    let same : taken_now c
    ≡ after_call v d step call (after_part c.meet.new.self.terminal d (handle_of call) c.in-Takes.count) v.flip
    (caller_entry v d event) =
    made_by_call v d step call event _ _ _ _ _ v.flip notes goes
    (c.in_ok-room.ensures.ok ∙ c.in_ok-reserve_entry.ensures.ok) in
    takes_part_of v (taken_now c) slots d step call c.in-Takes.count c.meet.new.self.terminal tried
    (parts_met o c.in-Takes.count met_by.meets) met_by.left_is met_by.column same

pub invariant_of-self-in-Takes : goal.invariant_of-self-in-Takes
invariant_of-self-in-Takes c = (takes (goal.at.invariant_of-self-in-Takes c).After-note-in-Takes).0

pub returns-in-Takes-clause-tried : goal.returns-in-Takes-clause-tried
returns-in-Takes-clause-tried c =
    let d = (goal.at.returns-in-Takes-clause-tried c).After-note-in-Takes in
    subst (λ (w : PortValue). TakesPartOf w (taken_now d) c.args.caller c.args.step (call_of c.args.call.now))
    c.self.view_is (takes d).1
