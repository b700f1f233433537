use Rattle.std.proofs.Common.{◌≡◌, [], ◌∷◌, ◌++◌, ◌<◌, length, refl, sym, ◌∙◌, subst, ap, false}
use Rattle.tty_calls.specs.Plain.{PlainEntry, entry_of, caller_ended}
use Rattle.tty_calls.specs.declared.journals.Who.TheVariants.{Caller}
use Rattle.tty_terminal.specs.Terminals.{caller_at, has_begun}
use Rattle.tty_terminal.specs.Steps.{Allowed, after}
use Rattle.port_core.specs.Ports.{PortValue, with_entry, call_in, Appends, end_entry}
use Rattle.port_core.specs.Inside.{KeepsCalls, value_of}
use Rattle.port_core.proofs.GoingOn.{still, made, entry_added, few_in, known_caller}
use Rattle.port_core.proofs.ports.Port.caller_end.Goals as goal
use Rattle.port_core.proofs.ports.Port.caller_end.Goals.{After-end_caller}

pub caller-step-requires : goal.caller-step-requires
caller-step-requires c = known_caller (value_of c.self.inside) c.args.self.now c.args.caller
    c.self.view_is c.self.invariant.port c.requires.known

pub end_caller-requires : goal.end_caller-requires
end_caller-requires c = known_caller (value_of c.self.inside) c.args.self.now c.args.caller
    c.self.view_is c.self.invariant.port c.requires.known

abbrev now_of : After-end_caller → PortValue
now_of c = record (value_of c.self.inside) {
  terminal = c.end_caller.new.self.terminal;
  journal = c.add_entry.new.journal.items;
  starved = c.add_entry.new.starved;
}

-- the invariant, and the entry
ends : (c : After-end_caller)
    → KeepsCalls (now_of c) c.self.inside.waiting.items
    × Appends (value_of c.self.inside) (now_of c) (value_of c.self.inside).flip
    (end_entry (value_of c.self.inside) c.args.caller)
ends c =
    let v : PortValue = value_of c.self.inside in
    let d = c.args.caller in
    let known : d < length v.terminal.callers =
    known_caller v c.args.self.now d c.self.view_is c.self.invariant.port c.requires.known in
    let not_over : (caller_at v.terminal d).over ≡ false =
    subst (λ (w : PortValue). (caller_at w.terminal d).over ≡ false) (sym c.self.view_is) c.requires.not_over in
    let between : has_begun (caller_at v.terminal d) ≡ false =
    subst (λ (w : PortValue). has_begun (caller_at w.terminal d) ≡ false) (sym c.self.view_is) c.requires.between in
    let next : c.caller-step.result.next ≡ (caller_at v.terminal d).next = ap (λ s. s.next) c.caller-step.ensures in
    let e : PlainEntry = end_entry v d in
    let entry : entry_of c.entry_of_call-entry.result ≡ e =
    c.entry_of_call-entry.ensures
    ∙ (λ i. record {
      who = Caller d;
      step = next i;
      part = 0;
      generation = c.generation-generation.ensures i;
      event = caller_ended;
    }) in
    let js : c.add_entry.new.journal.items ≡ v.journal ++ e ∷ [] =
    entry_added v.journal v.journal _ _ e refl c.in_ok-add_entry.ensures.entry entry in
    let same : now_of c ≡ record (with_entry v e) { flip = v.flip } =
    made v _ (after (call_in v.kept) v.terminal e) _ (v.journal ++ e ∷ []) v.kept v.kept _ v.flip v.flip
    (ap (λ r. r.terminal) c.end_caller.ensures) js refl c.in_ok-add_entry.ensures.ok refl in
    let allowed : Allowed (call_in v.kept) v.counts v.terminal e =
    (refl, record { known = known; at_step = refl; at_part = refl; not_over = not_over; between = between }) in (
      still v (now_of c) c.self.inside.waiting.items v.flip e c.self.invariant
          (few_in v c.args.self.now c.self.view_is c.in_ok-gate.ensures.open) allowed refl refl
          c.self.invariant.port.sent refl refl refl refl same,
      record { allowed = allowed; appended = same },
    )

pub invariant_of-self-2 : goal.invariant_of-self-2
invariant_of-self-2 c = (ends (goal.at.invariant_of-self-2 c).After-end_caller).0

pub returns-clause-ok : goal.returns-clause-ok
returns-clause-ok c =
    let d = (goal.at.returns-clause-ok c).After-end_caller in
    subst (λ (w : PortValue). Appends w (now_of d) w.flip (end_entry w c.args.caller)) c.self.view_is (ends d).1
