use Rattle.std.proofs.Common.{◌≡◌, [], ◌∷◌, ◌++◌, refl, sym, subst, ap, false, arith}
use Rattle.tty_calls.specs.Plain.{PlainEntry, ticked}
use Rattle.tty_calls.specs.declared.journals.Who.TheVariants.{Clock}
use Rattle.tty_terminal.specs.Steps.{after}
use Rattle.port_core.specs.Ports.{PortValue, with_entry, call_in, phase_entry}
use Rattle.port_core.specs.Inside.{value_of}
use Rattle.port_core.proofs.GoingOn.{still, made, phase_entry_added, few_in, port_bounded}
use Rattle.port_core.proofs.ports.Port.tick.Goals as goal

pub invariant_of-self-2 : goal.invariant_of-self-2
invariant_of-self-2 c =
    let v : PortValue = value_of c.self.inside in
    let over : v.terminal.clock_over ≡ false =
    subst (λ (w : PortValue). w.terminal.clock_over ≡ false) (sym c.self.view_is) c.requires in
    let e : PlainEntry = phase_entry v Clock ticked in
    let js : c.add_entry.new.journal.items ≡ v.journal ++ e ∷ [] =
    phase_entry_added v c.args.self.now Clock ticked _ _ c.self.view_is c.entry_of_phase-entry.ensures
    c.in_ok-add_entry.ensures.entry in
    let now : PortValue = record v {
      terminal = c.raise_tick.new.self.terminal;
      journal = c.add_entry.new.journal.items;
      starved = c.add_entry.new.starved;
    } in
    let same : now ≡ record (with_entry v e) { flip = v.flip } =
    made v _ (after (call_in v.kept) v.terminal e) _ (v.journal ++ e ∷ []) v.kept v.kept _ v.flip v.flip
    (ap (λ r. r.terminal) c.raise_tick.ensures) js refl c.in_ok-add_entry.ensures.ok refl in
    still v now c.self.inside.waiting.items v.flip e c.self.invariant
    (few_in v c.args.self.now c.self.view_is c.in_ok-gate.ensures.open)
    (refl, (refl, record { phase = record { at_step = refl; at_part = refl }; not_over = over })) refl refl
    c.self.invariant.port.sent refl refl refl refl same

pub raise_tick-requires : goal.raise_tick-requires
raise_tick-requires c = omega (arith, (port_bounded (value_of c.self.inside) c.self.invariant.port).tick)
