use Rattle.std.proofs.Common.{◌≡◌, ℕ, [], ◌∷◌, ◌++◌, ◌≤◌, length, refl, sym, ◌∙◌, subst, ap, true, false}
use Rattle.tty_calls.specs.Plain.{PlainEntry, line_ended}
use Rattle.tty_calls.specs.declared.journals.Who.TheVariants.{Line}
use Rattle.tty_terminal.specs.Steps.{after}
use Rattle.port_core.specs.Phases.{EndsLine}
use Rattle.port_core.specs.Ports.{PortValue, with_entry, call_in, phase_entry}
use Rattle.port_core.specs.Inside.{KeepsCalls, value_of}
use Rattle.port_core.proofs.GoingOn.{made, phase_entry_added, few_in}
use Rattle.port_core.proofs.Ending.{line_ends}
use Rattle.port_core.proofs.ports.Port.line_end.Goals as goal
use Rattle.port_core.proofs.ports.Port.line_end.Goals.{After-end_line}

abbrev now_of : After-end_line → PortValue
now_of c = record (value_of c.self.inside) {
  terminal = c.end_line.new.self.terminal;
  journal = c.add_entry.new.journal.items;
  starved = c.add_entry.new.starved;
  flip = c.look.new.self;
}

-- the invariant, and what the line's end came to
ends : (c : After-end_line)
    → KeepsCalls (now_of c) c.self.inside.waiting.items
    × EndsLine (value_of c.self.inside) (now_of c) c.args.putter.now c.tell_each_other.new.putter
ends c =
    let v : PortValue = value_of c.self.inside in
    let p = c.args.putter.now in
    let told = c.tell_each_other.ensures in
    let over : v.terminal.line_over ≡ false =
    subst (λ (w : PortValue). w.terminal.line_over ≡ false) (sym c.self.view_is) c.requires.not_over in
    let least : v.terminal.sent ≤ length p.sent =
    subst (λ (w : PortValue). w.terminal.sent ≤ length p.sent) (sym c.self.view_is) c.requires.sent in
    let sent : c.sent-sent.result ≡ length p.sent = c.sent-sent.ensures in
    let e : PlainEntry = phase_entry v Line (line_ended (length p.sent)) in
    let js : c.add_entry.new.journal.items ≡ v.journal ++ e ∷ [] =
    phase_entry_added v c.args.self.now Line (line_ended c.sent-sent.result) _ _ c.self.view_is
    c.entry_of_phase-entry.ensures c.in_ok-add_entry.ensures.entry
    ∙ ap (λ (n : ℕ). v.journal ++ phase_entry v Line (line_ended n) ∷ []) sent in
    let left : c.end_line.new.self.terminal ≡ after (call_in v.kept) v.terminal e =
    ap (λ r. r.terminal) c.end_line.ensures ∙ ap (λ (n : ℕ). record v.terminal { sent = n; line_over = true }) sent in
    let same : now_of c ≡ record (with_entry v e) { flip = c.look.new.self } =
    made v _ (after (call_in v.kept) v.terminal e) _ (v.journal ++ e ∷ []) v.kept v.kept _ c.look.new.self
    c.look.new.self left js refl c.in_ok-add_entry.ensures.ok refl in
    line_ends v (now_of c) c.self.inside.waiting.items p c.tell_each_other.new.putter c.tell_each_other.new.flip
    c.look.new.self c.look.result c.self.invariant
    (few_in v c.args.self.now c.self.view_is c.in_ok-gate.ensures.open)
    over least told.flip told.meets c.look.ensures.same c.look.ensures.count c.look.ensures.most
    c.look.ensures.rises same

pub invariant_of-self-2 : goal.invariant_of-self-2
invariant_of-self-2 c = (ends (goal.at.invariant_of-self-2 c).After-end_line).0

pub returns-clause-ok : goal.returns-clause-ok
returns-clause-ok c =
    let d = (goal.at.returns-clause-ok c).After-end_line in
    subst (λ (w : PortValue). EndsLine w (now_of d) c.args.putter.now c.tell_each_other.new.putter) c.self.view_is
    (ends d).1
