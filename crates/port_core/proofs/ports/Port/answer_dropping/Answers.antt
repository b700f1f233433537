use Rattle.std.specs.Prelude.{MatchBool}
use Rattle.std.proofs.Common.{◌≡◌, ℕ, List, Option, Bool, true, false, ◌+◌, ◌-◌}
use Rattle.std.proofs.Common.{min, if◌then◌else◌, ◌<◌, ◌≤◌, length, sym, ◌∙◌, ap, subst, arith}
use Rattle.tty_base.specs.declared.characters.Flagged.{Flagged}
use Rattle.tty_calls.specs.Plain.{PlainEntry, answered, call_of, answer_of, bytes_by, bytes_in, chars_in}
use Rattle.tty_terminal.specs.Terminals.{Terminal, caller_at}
use Rattle.tty_terminal.specs.Calls.{outcome}
use Rattle.tty_terminal.specs.Meeting.{drops_of}
use Rattle.tty_terminal.specs.Steps.{after_answer, with_dropped}
use Rattle.port_core.specs.declared.waiting.WaitingCall.{WaitingCall}
use Rattle.port_core.specs.Flips.{DropsShown}
use Rattle.port_core.specs.Ports.{PortValue, caller_entry}
use Rattle.port_core.specs.Attempts.{AnswersCall}
use Rattle.port_core.specs.Inside.{KeepsCalls, value_of}
use Rattle.port_core.proofs.GoingOn.{known_caller, port_bounded}
use Rattle.port_core.proofs.GoingOn.{port_taken, port_capacity, port_within, port_few}
use Rattle.port_core.proofs.Calls.{answers_met, some_dropped}
use Rattle.port_core.proofs.Answering.{IsTried, tries, MetBy, met_before, leaves_of, IsNoted, noted, made_by_call}
use Rattle.port_core.proofs.Answering.{after_call, answers_call}
use Rattle.tty_calls.specs.Plain.{PlainEvent}
use Rattle.tty_terminal.specs.declared.rooms.Met.TheVariants as met
use Rattle.tty_terminal.specs.Meeting.{Meets}
use Rattle.tty_terminal.proofs.Effects.{Leaves}
use Rattle.port_core.proofs.Fitting.{answer_fits}
use Rattle.std.proofs.lemmas.Bool.{false≢true}
use Rattle.tty_base.specs.Sizes.{MOST_FLIP}
use Rattle.word_ring.specs.Ends.{TakerState}
use Rattle.port_core.specs.Ports.{IsPort}
use Rattle.port_core.proofs.ports.Port.answer_dropping.Goals as goal
use Rattle.port_core.proofs.ports.Port.answer_dropping.Goals.{After-note}

when_true : (b : Bool) (X Y : Type 0) → b ≡ true → X → MatchBool b X Y
when_true true X Y h x = x
when_true false X Y h x = absurd (false≢true h)

shown_few : (over : Bool) (tail taken sent n : ℕ)
    → n ≡ (if over then min (tail - taken) (sent - taken) else tail - taken)
    → n ≤ tail - taken
shown_few true tail taken sent n is = omega arith
shown_few false tail taken sent n is = omega arith

drops_within : (v : PortValue) (f : TakerState Flagged) (chars : List Flagged)
    → IsPort v
    → DropsShown v.terminal v.flip f chars
    → length chars ≤ v.flip.capacity
drops_within v f chars p shown = omega (
  arith,
  shown_few v.terminal.line_over shown.tail v.terminal.taken v.terminal.sent (length chars) shown.all,
  shown.looks.most,
  port_taken v p,
)

drops_few : (v : PortValue) (f : TakerState Flagged) (chars : List Flagged)
    → IsPort v
    → DropsShown v.terminal v.flip f chars
    → length chars ≤ MOST_FLIP
drops_few v f chars p shown = omega (arith, drops_within v f chars p shown, p.capacity)

pub caller-state-requires : goal.caller-state-requires
caller-state-requires c = known_caller (value_of c.self.inside) c.args.self.now c.args.caller
    c.self.view_is c.self.invariant.port c.requires.ready.known

pub drop_shown-requires-clause-taken : goal.drop_shown-requires-clause-taken
drop_shown-requires-clause-taken c =
    ap (λ (t : Terminal). t.taken) c.prepare.ensures.terminal
    ∙ port_taken (value_of c.self.inside) c.self.invariant.port

pub drop_shown-requires-clause-within : goal.drop_shown-requires-clause-within
drop_shown-requires-clause-within c = subst (λ (t : Terminal). t.sent ≤ t.taken + c.self.inside.flip.capacity)
    (sym c.prepare.ensures.terminal)
    (omega (
      arith,
      port_within (value_of c.self.inside) c.self.invariant.port,
      port_taken (value_of c.self.inside) c.self.invariant.port,
    ))

pub meet-requires-clause-known : goal.meet-requires-clause-known
meet-requires-clause-known c = subst (λ (t : Terminal). c.args.caller < length t.callers)
    (sym c.prepare.ensures.terminal)
    (known_caller (value_of c.self.inside) c.args.self.now c.args.caller
    c.self.view_is c.self.invariant.port c.requires.ready.known)

pub meet-requires-clause-few : goal.meet-requires-clause-few
meet-requires-clause-few c = omega (
  arith,
  (port_bounded (value_of c.self.inside) c.self.invariant.port).generation,
  ap (λ (t : Terminal). t.generation) c.prepare.ensures.terminal,
)

pub drop_characters-requires : goal.drop_characters-requires
drop_characters-requires c =
    let w : Leaves c.self.inside.terminal.terminal c.meet.new.self.terminal =
    leaves_of c.self.inside.terminal.terminal c.prepare.new.terminal.terminal c.meet.new.self.terminal c.args.caller
    (call_of c.args.call.now) c.prepare.ensures.terminal c.meet.ensures.left in
    let v : PortValue = value_of c.self.inside in
    let shown : DropsShown v.terminal v.flip c.drop_shown.new.flip c.drop_shown.new.dropped.items =
    subst (λ (t : Terminal). DropsShown t v.flip c.drop_shown.new.flip c.drop_shown.new.dropped.items)
    c.prepare.ensures.terminal c.drop_shown.ensures in
    omega (
      arith,
      w.taken,
      drops_few v c.drop_shown.new.flip c.drop_shown.new.dropped.items c.self.invariant.port shown,
      port_few v c.self.invariant.port,
      port_taken v c.self.invariant.port,
      c.len-count.ensures,
    )

pub advance-requires-clause-known : goal.advance-requires-clause-known
advance-requires-clause-known c =
    let w : Leaves c.self.inside.terminal.terminal c.meet.new.self.terminal =
    leaves_of c.self.inside.terminal.terminal c.prepare.new.terminal.terminal c.meet.new.self.terminal c.args.caller
    (call_of c.args.call.now) c.prepare.ensures.terminal c.meet.ensures.left in
    subst (λ (t : Terminal). c.args.caller < length t.callers) (sym (ap (λ r. r.terminal) c.drop_characters.ensures))
    (subst (λ n. c.args.caller < n) (sym w.callers)
    (known_caller (value_of c.self.inside) c.args.self.now c.args.caller
    c.self.view_is c.self.invariant.port c.requires.ready.known))

pub advance-requires-clause-few : goal.advance-requires-clause-few
advance-requires-clause-few c =
    let w : Leaves c.self.inside.terminal.terminal c.meet.new.self.terminal =
    leaves_of c.self.inside.terminal.terminal c.prepare.new.terminal.terminal c.meet.new.self.terminal c.args.caller
    (call_of c.args.call.now) c.prepare.ensures.terminal c.meet.ensures.left in
    omega (
      arith,
      ap (λ (t : Terminal). (caller_at t c.args.caller).next) (ap (λ r. r.terminal) c.drop_characters.ensures),
      (w.caller c.args.caller).next,
      (port_bounded (value_of c.self.inside) c.self.invariant.port).next c.args.caller,
    )

pub add-requires-clause-bytes : goal.add-requires-clause-bytes
add-requires-clause-bytes c =
    let t : Terminal = c.self.inside.terminal.terminal in
    let d = c.args.caller in
    let call = call_of c.args.call.now in
    let meets : Meets (outcome t (caller_at t d) call) (met.Gives c.in-Gives.answer) =
    subst (λ (u : Terminal). Meets (outcome u (caller_at u d) call) (met.Gives c.in-Gives.answer))
    c.prepare.ensures.terminal c.in-Gives.ensures.met in
    let few = (answer_fits t (caller_at t d) call).fits c.in-Gives.answer meets in
    let bytes = ap (λ (e : PlainEntry). bytes_by e.event) c.entry_of_call-entry.ensures ∙ ap bytes_in c.lent.ensures in
    rw bytes (omega (arith, few, c.room_for-bytes.ensures, c.in_ok-reserve_entry.ensures.bytes))

pub add-requires-clause-characters : goal.add-requires-clause-characters
add-requires-clause-characters c =
    let v : PortValue = value_of c.self.inside in
    let shown : DropsShown v.terminal v.flip c.drop_shown.new.flip c.drop_shown.new.dropped.items =
    subst (λ (t : Terminal). DropsShown t v.flip c.drop_shown.new.flip c.drop_shown.new.dropped.items)
    c.prepare.ensures.terminal c.drop_shown.ensures in
    let characters = ap (λ (e : PlainEntry). chars_in e.event) c.entry_of_call-entry.ensures ∙ c.as_slice.ensures in
    rw characters (omega (
      arith,
      drops_within v c.drop_shown.new.flip c.drop_shown.new.dropped.items c.self.invariant.port shown,
      c.capacity-capacity.ensures,
      c.in_ok-reserve_entry.ensures.characters,
    ))

abbrev now_of : After-note → PortValue
now_of c = record (value_of c.self.inside) {
  terminal = c.advance.new.self.terminal;
  journal = c.add.new.self.items;
  kept = c.note.new.self.items;
  starved = c.prepare.new.starved;
  flip = c.drop_shown.new.flip;
}

-- the invariant, and what the attempt came to
answers : (c : After-note)
    → KeepsCalls (now_of c) c.self.inside.waiting.items
    × AnswersCall (value_of c.self.inside) (now_of c) c.args.caller c.args.step (call_of c.args.call.now)
    (answer_of c.in-Gives.answer)
answers c =
    let v : PortValue = value_of c.self.inside in
    let shown : DropsShown v.terminal v.flip c.drop_shown.new.flip c.drop_shown.new.dropped.items =
    subst (λ (t : Terminal). DropsShown t v.flip c.drop_shown.new.flip c.drop_shown.new.dropped.items)
    c.prepare.ensures.terminal c.drop_shown.ensures in
    let d = c.args.caller in
    let step = c.args.step in
    let call = call_of c.args.call.now in
    let slots : List (Option WaitingCall) = c.self.inside.waiting.items in
    let tried : IsTried v slots d step call =
    tries v c.args.self.now slots d step call c.self.view_is c.self.invariant c.requires.open c.requires.ready in
    let o = outcome v.terminal (caller_at v.terminal d) call in
    let met_by : MetBy v.terminal d call (met.Gives c.in-Gives.answer) c.meet.new.self.terminal =
    met_before v.terminal c.prepare.new.terminal.terminal d call (met.Gives c.in-Gives.answer) c.meet.new.self.terminal
    c.prepare.ensures.terminal
    (record { meets = c.in-Gives.ensures.met; left_is = c.meet.ensures.left; column = c.meet.ensures.column }) in
    let drops : drops_of o ≡ true =
    subst (λ (w : PortValue). drops_of (outcome w.terminal (caller_at w.terminal d) call) ≡ true) (sym c.self.view_is)
    c.requires.drops in
    let event : PlainEvent = answered (answer_of c.in-Gives.answer) c.drop_shown.new.dropped.items in
    let notes : IsNoted v d step call event c.add.new.self.items c.note.new.self.items =
    noted v d step _ call _ _ event _ _ _ _ _ tried.ready.next c.caller-state.ensures c.is_some-begun.ensures
    c.generation-generation.ensures (λ i. answered (c.lent.ensures i) (c.as_slice.ensures i))
    c.entry_of_call-entry.ensures c.in_ok-reserve_entry.ensures.items c.add.ensures c.note.ensures in
    let goes : c.advance.new.self.terminal
    ≡ after_answer (with_dropped c.meet.new.self.terminal (length c.drop_shown.new.dropped.items)) d =
    ap (λ r. r.terminal) c.advance.ensures
    ∙ ap (λ (w : Terminal). after_answer w d) (ap (λ r. r.terminal) c.drop_characters.ensures
    ∙ ap (λ n. with_dropped c.meet.new.self.terminal n) c.len-count.ensures) in
    let same : now_of c
    ≡ after_call v d step call
    (after_answer (with_dropped c.meet.new.self.terminal (length c.drop_shown.new.dropped.items)) d)
    c.drop_shown.new.flip (caller_entry v d event) =
    made_by_call v d step call event _ _ _ _ _ c.drop_shown.new.flip notes goes
    (c.in_ok-room.ensures.ok ∙ c.in_ok-dropped.ensures.ok ∙ c.in_ok-reserve_entry.ensures.ok) in
    let least : v.terminal.sent ≤ shown.tail = omega (arith, c.self.invariant.port.sent, shown.looks.rises) in
    let most : shown.tail ≤ v.terminal.taken + v.terminal.capacity =
    omega (arith, shown.looks.most, port_taken v c.self.invariant.port, port_capacity v c.self.invariant.port) in
    answers_call v (now_of c) slots d step call (answer_of c.in-Gives.answer) c.drop_shown.new.dropped.items
    c.meet.new.self.terminal c.drop_shown.new.flip tried
    (answers_met _ o c.in-Gives.answer met_by.meets)
    (some_dropped v.terminal o shown.tail (length c.drop_shown.new.dropped.items) drops least most shown.all)
    (when_true (drops_of o) _ _ drops shown) shown.takes_out.taken
    (drops_few v c.drop_shown.new.flip c.drop_shown.new.dropped.items c.self.invariant.port shown)
    shown.takes_out.capacity (omega (arith, least, shown.looks.floor)) met_by.left_is met_by.column same

pub invariant_of-self-2 : goal.invariant_of-self-2
invariant_of-self-2 c = (answers (goal.at.invariant_of-self-2 c).After-note).0

pub returns-clause-tried : goal.returns-clause-tried
returns-clause-tried c =
    let d = (goal.at.returns-clause-tried c).After-note in
    subst (λ (w : PortValue).
    AnswersCall w (now_of d) c.args.caller c.args.step (call_of c.args.call.now) (answer_of c.in-Gives.answer))
    c.self.view_is (answers d).1
