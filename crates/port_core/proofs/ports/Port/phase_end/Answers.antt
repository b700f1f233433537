use Rattle.std.proofs.Common.{◌≡◌, [], ◌∷◌, ◌++◌, refl, sym, subst, ap, true, arith}
use Rattle.tty_calls.specs.Plain.{PlainEntry, phase_ended}
use Rattle.tty_calls.specs.declared.journals.Who.TheVariants.{Session}
use Rattle.tty_terminal.specs.Steps.{after, may_end}
use Rattle.port_core.specs.Ports.{PortValue, with_entry, call_in, phase_entry}
use Rattle.port_core.specs.Inside.{value_of}
use Rattle.port_core.proofs.GoingOn.{made, phase_entry_added, few_in, port_bounded}
use Rattle.port_core.proofs.Ending.{phase_ends}
use Rattle.port_core.proofs.ports.Port.phase_end.Goals as goal

pub begin_phase-requires : goal.begin_phase-requires
begin_phase-requires c = omega (arith, (port_bounded (value_of c.self.inside) c.self.invariant.port).phase)

pub invariant_of-self-2 : goal.invariant_of-self-2
invariant_of-self-2 c =
    let v : PortValue = value_of c.self.inside in
    let may : may_end v.counts v.terminal ≡ true =
    subst (λ (w : PortValue). may_end w.counts w.terminal ≡ true) (sym c.self.view_is) c.requires.may in
    let e : PlainEntry = phase_entry v Session phase_ended in
    let js : c.add_entry.new.journal.items ≡ v.journal ++ e ∷ [] =
    phase_entry_added v c.args.self.now Session phase_ended _ _ c.self.view_is c.entry_of_phase-entry.ensures
    c.in_ok-add_entry.ensures.entry in
    let f = c.tell_each_other.new.flip in
    let now : PortValue = record v {
      terminal = c.begin_phase.new.self.terminal;
      journal = c.add_entry.new.journal.items;
      starved = c.add_entry.new.starved;
      flip = f;
    } in
    let same : now ≡ record (with_entry v e) { flip = f } =
    made v _ (after (call_in v.kept) v.terminal e) _ (v.journal ++ e ∷ []) v.kept v.kept _ f f
    (ap (λ r. r.terminal) c.begin_phase.ensures) js refl c.in_ok-add_entry.ensures.ok refl in
    phase_ends v now c.self.inside.waiting.items c.args.putter.now f c.self.invariant
    (few_in v c.args.self.now c.self.view_is c.in_ok-gate.ensures.open) may c.tell_each_other.ensures.flip same
