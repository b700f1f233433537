use Rattle.std.proofs.Common.{◌≡◌, ℕ, List, [], ◌∷◌, ◌++◌, ◌<◌, length, refl}
use Rattle.std.proofs.Common.{sym, ◌∙◌, subst, ap, rules, arith, length-append}
use Rattle.tty_base.specs.declared.characters.Flagged.{Flagged}
use Rattle.tty_calls.specs.Plain.{PlainEntry, hung_up}
use Rattle.tty_calls.specs.declared.journals.Who.TheVariants.{Session}
use Rattle.tty_terminal.specs.Generations.{after_hangup}
use Rattle.tty_terminal.specs.Steps.{after, with_dropped}
use Rattle.port_core.specs.Phases.{HangsUp}
use Rattle.port_core.specs.Ports.{PortValue, with_entry, call_in, hangup_entry}
use Rattle.port_core.specs.Inside.{KeepsCalls, value_of}
use Rattle.port_core.proofs.GoingOn.{made, entry_added, port_bounded, port_taken, port_within, port_few}
use Rattle.port_core.proofs.Ending.{hangs_up}
use Rattle.port_core.proofs.ports.Port.last_hangup.Goals as goal
use Rattle.port_core.proofs.ports.Port.last_hangup.Goals.{After-add}

pub drop_rest-requires-clause-within : goal.drop_rest-requires-clause-within
drop_rest-requires-clause-within c =
    let v : PortValue = value_of c.self.inside in
    let sent : v.terminal.sent ≡ length c.args.putter.sent =
    subst (λ (w : PortValue). w.terminal.sent ≡ length c.args.putter.sent) (sym c.self.view_is) c.requires.sent in
    omega (arith, port_within v c.self.invariant.port, sent)

pub hang_up-requires-clause-few : goal.hang_up-requires-clause-few
hang_up-requires-clause-few c = omega (arith, (port_bounded (value_of c.self.inside) c.self.invariant.port).generation)

pub drop_characters-requires : goal.drop_characters-requires
drop_characters-requires c =
    let v : PortValue = value_of c.self.inside in
    let sent : v.terminal.sent ≡ length c.args.putter.sent =
    subst (λ (w : PortValue). w.terminal.sent ≡ length c.args.putter.sent) (sym c.self.view_is) c.requires.sent in
    let hung = ap (λ r. r.terminal.taken) c.hang_up.ensures in
    let dropped = c.len.ensures in
    let whole =
    ap length (sym c.drop_rest.ensures.all ∙ c.drop_rest.ensures.taken)
    ∙ length-append v.flip.taken c.drop_rest.new.dropped.items in
    omega (
      arith,
      port_within v c.self.invariant.port,
      sent,
      hung,
      dropped,
      whole,
      port_taken v c.self.invariant.port,
      port_few v c.self.invariant.port,
      c.self.invariant.port.capacity,
    )

pub add-requires-clause-characters : goal.add-requires-clause-characters
add-requires-clause-characters c =
    let v : PortValue = value_of c.self.inside in
    let sent : v.terminal.sent ≡ length c.args.putter.sent =
    subst (λ (w : PortValue). w.terminal.sent ≡ length c.args.putter.sent) (sym c.self.view_is) c.requires.sent in
    let whole =
    ap length (sym c.drop_rest.ensures.all ∙ c.drop_rest.ensures.taken)
    ∙ length-append v.flip.taken c.drop_rest.new.dropped.items in
    omega (
      arith,
      port_within v c.self.invariant.port,
      sent,
      whole,
      ap length c.as_slice.ensures,
      c.capacity-capacity.ensures,
      c.in_ok-reserve_entry.ensures.characters,
    )

pub overflow_cast-len : goal.overflow_cast-len
overflow_cast-len c =
    let v : PortValue = value_of c.self.inside in
    let after : v.terminal.phase ≡ length v.counts =
    subst (λ (w : PortValue). w.terminal.phase ≡ length w.counts) (sym c.self.view_is) c.requires.after in
    let small : c.len-2.result < 4194305 =
    omega (arith, (port_bounded v c.self.invariant.port).phase, after, c.len-2.ensures) in
    search rules

abbrev now_of : After-add → PortValue
now_of c = record (value_of c.self.inside) {
  terminal = c.drop_characters.new.self.terminal;
  journal = c.add.new.self.items;
  starved = c.room_for_chars.new.starved;
  flip = c.drop_rest.new.flip;
}

-- the invariant, and what the hangup came to
hangs : (c : After-add)
    → KeepsCalls (now_of c) c.self.inside.waiting.items × HangsUp (value_of c.self.inside) (now_of c) c.args.putter
hangs c =
    let v : PortValue = value_of c.self.inside in
    let few : length v.journal < v.limit =
    subst (λ (w : PortValue). length w.journal < w.limit) (sym c.self.view_is) c.in_ok-gate.ensures.open.0 in
    let p = c.args.putter in
    let f = c.drop_rest.new.flip in
    let at_end : v.terminal.phase ≡ length v.counts =
    subst (λ (w : PortValue). w.terminal.phase ≡ length w.counts) (sym c.self.view_is) c.requires.after in
    let sent : v.terminal.sent ≡ length p.sent =
    subst (λ (w : PortValue). w.terminal.sent ≡ length p.sent) (sym c.self.view_is) c.requires.sent in
    let dropped : List Flagged = c.drop_rest.new.dropped.items in
    let taken : f.taken ≡ v.flip.taken ++ dropped = c.drop_rest.ensures.taken in
    let e : PlainEntry = hangup_entry v dropped in
    let step : c.len-2.result ≡ length v.counts = omega (arith, c.len-2.ensures) in
    let entry : record {
      who = Session;
      step = c.len-2.result;
      part = 0;
      generation = c.generation-generation.result;
      event = hung_up c.as_slice.result.now;
    } ≡ e = λ i. record {
      who = Session;
      step = step i;
      part = 0;
      generation = c.generation-generation.ensures i;
      event = hung_up (c.as_slice.ensures i);
    } in
    let js : c.add.new.self.items ≡ v.journal ++ e ∷ [] =
    entry_added v.journal _ _ _ e c.in_ok-reserve_entry.ensures.items c.add.ensures entry in
    let left : c.drop_characters.new.self.terminal ≡ after (call_in v.kept) v.terminal e =
    ap (λ r. r.terminal) c.drop_characters.ensures
    ∙ ((λ i. with_dropped (c.hang_up.ensures i).terminal c.len.result)
    ∙ ap (λ (n : ℕ). with_dropped (after_hangup v.terminal) n) c.len.ensures) in
    let starved = c.in_ok-dropped.ensures.ok ∙ c.in_ok-reserve_entry.ensures.ok in
    let same : now_of c ≡ record (with_entry v e) { flip = f } =
    made v _ (after (call_in v.kept) v.terminal e) _ (v.journal ++ e ∷ [])
    v.kept v.kept _ f f left js refl starved refl in
    let told = c.drop_rest.ensures in
    hangs_up v (now_of c) c.self.inside.waiting.items p f dropped c.self.invariant few at_end sent taken told.all
    told.heads told.released told.floor told.same.0 told.same.1 told.same.2 same

pub invariant_of-self-2 : goal.invariant_of-self-2
invariant_of-self-2 c = (hangs (goal.at.invariant_of-self-2 c).After-add).0

pub returns-clause-ok : goal.returns-clause-ok
returns-clause-ok c =
    let d = (goal.at.returns-clause-ok c).After-add in
    subst (λ (w : PortValue). HangsUp w (now_of d) c.args.putter) c.self.view_is (hangs d).1
