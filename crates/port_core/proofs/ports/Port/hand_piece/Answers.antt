use Rattle.std.proofs.Common.{◌≡◌, ℕ, ◌+◌, ◌*◌, List, [], ◌∷◌, ◌++◌, ◌<◌, ◌≤◌}
use Rattle.std.proofs.Common.{false, Some, length, refl, sym, ◌∙◌, subst, ap, arith}
use Rattle.tty_base.specs.Sizes.{COLUMNS_OF_CHARACTER}
use Rattle.tty_base.specs.declared.characters.Flagged.{Flagged}
use Rattle.tty_calls.specs.Plain.{PlainEntry, flushed, entry_of}
use Rattle.tty_calls.specs.declared.journals.Who.TheVariants.{Flusher}
use Rattle.tty_terminal.specs.Terminals.{Terminal}
use Rattle.tty_terminal.specs.Receiving.{after_characters, AcceptsAll}
use Rattle.tty_terminal.specs.Steps.{after}
use Rattle.ldisc_switch.specs.Disciplines.{column_in}
use Rattle.port_core.specs.Flips.{shown_count}
use Rattle.port_core.specs.Flushes.{IsPieceOf, Takes, TakesNone}
use Rattle.port_core.specs.Ports.{PortValue, is_stuck, with_entry, flush_entry, call_in}
use Rattle.port_core.specs.Inside.{KeepsCalls, value_of}
use Rattle.port_core.proofs.GoingOn.{made, entry_added, port_taken}
use Rattle.port_core.proofs.Handing.{takes_none, takes_piece}
use Rattle.port_core.proofs.ports.Port.hand_piece.Goals as goal
use Rattle.port_core.proofs.ports.Port.hand_piece.Goals.{After-add}

pub look_at-requires : goal.look_at-requires
look_at-requires c =
    ap (λ (t : Terminal). t.taken) c.reserve_piece.ensures.terminal
    ∙ port_taken (value_of c.self.inside) c.self.invariant.port

pub returns-then-count-eq0-clause-flushed : goal.returns-then-count-eq0-clause-flushed
returns-then-count-eq0-clause-flushed c =
    let v : PortValue = value_of c.self.inside in
    let f = c.look_at.new.flip in
    let free : is_stuck v.terminal ≡ false =
    subst (λ (w : PortValue). is_stuck w.terminal ≡ false) (sym c.self.view_is) c.requires.free in
    let shown : c.look_at.result ≡ shown_count v.terminal f.floor =
    c.look_at.ensures.count ∙ ap (λ (t : Terminal). shown_count t f.floor) c.reserve_piece.ensures.terminal in
    let none : shown_count v.terminal f.floor ≡ 0 =
    omega (arith, shown, c.min-count.ensures, c.if-count-eq0.true, c.requires.piece.some) in
    let now : PortValue = record v {
      terminal = c.reserve_piece.new.terminal.terminal;
      journal = c.reserve_piece.new.journal.items;
      flip = f;
    } in
    let same : now ≡ record v { flip = f } =
    made v _ v.terminal _ v.journal v.kept v.kept _ f f c.reserve_piece.ensures.terminal
    c.reserve_piece.ensures.journal refl refl refl in
    subst (λ (w : PortValue). TakesNone w now) c.self.view_is
    (takes_none v now f c.self.invariant.port free c.look_at.ensures.same c.look_at.ensures.looks none same)

abbrev now_of : After-add → PortValue
now_of c = record (value_of c.self.inside) {
  terminal = c.note_piece.new.self.terminal;
  journal = c.add.new.self.items;
  flip = c.hand_over-took.new.flip;
}

-- the invariant, and what the piece took
hands : (c : After-add)
    → KeepsCalls (now_of c) c.self.inside.waiting.items
    × Takes (value_of c.self.inside) (now_of c) c.args.run c.args.part c.args.most
    (length c.hand_over-took.new.chars.items)
hands c =
    let v : PortValue = value_of c.self.inside in
    let f = c.look_at.new.flip in
    let g = c.hand_over-took.new.flip in
    let few : length v.journal < v.limit =
    subst (λ (w : PortValue). length w.journal < w.limit) (sym c.self.view_is) c.requires.open.0 in
    let free : is_stuck v.terminal ≡ false =
    subst (λ (w : PortValue). is_stuck w.terminal ≡ false) (sym c.self.view_is) c.requires.free in
    let asked : IsPieceOf v c.args.run c.args.part c.args.most =
    subst (λ (w : PortValue). IsPieceOf w c.args.run c.args.part c.args.most) (sym c.self.view_is) c.requires.piece in
    let kept : c.reserve_piece.new.terminal.terminal ≡ v.terminal = c.reserve_piece.ensures.terminal in
    let shown : c.look_at.result ≡ shown_count v.terminal f.floor =
    c.look_at.ensures.count ∙ ap (λ (t : Terminal). shown_count t f.floor) kept in
    let chars : List Flagged = c.hand_over-took.new.chars.items in
    let u : Terminal = c.hand_over-took.new.terminal.terminal in
    let told = c.hand_over-took.ensures in
    let received : u ≡ after_characters v.terminal chars =
    told.received ∙ ap (λ (t : Terminal). after_characters t chars) kept in
    let accepted : AcceptsAll v.terminal chars = subst (λ (t : Terminal). AcceptsAll t chars) kept told.accepted in
    let column =
    subst (λ (t : Terminal). column_in u.disc ≤ column_in t.disc + COLUMNS_OF_CHARACTER * c.min-count.result) kept
    told.column in
    let some : 0 < c.min-count.result = omega (arith, c.if-count-eq0.false) in
    let e : PlainEntry = flush_entry v c.args.run c.args.part chars in
    let generation : c.generation-generation.result ≡ v.terminal.generation =
    c.generation-generation.ensures ∙ ap (λ (t : Terminal). t.generation) kept in
    let entry : entry_of c.entry_of_flush-entry.result ≡ e =
    c.entry_of_flush-entry.ensures
    ∙ (λ i. record {
      who = Flusher;
      step = c.args.run;
      part = c.args.part;
      generation = generation i;
      event = flushed (c.as_slice.ensures i);
    }) in
    let js : c.add.new.self.items ≡ v.journal ++ e ∷ [] =
    entry_added v.journal _ _ _ e c.reserve_piece.ensures.journal c.add.ensures entry in
    let left : c.note_piece.new.self.terminal ≡ after (call_in v.kept) v.terminal e =
    ap (λ r. r.terminal) c.note_piece.ensures
    ∙ ap (λ (t : Terminal). record t { flushed = Some (record { run = c.args.run; part = c.args.part }) }) received in
    let same : now_of c ≡ record (with_entry v e) { flip = g } =
    made v _ (after (call_in v.kept) v.terminal e) _ (v.journal ++ e ∷ []) v.kept v.kept _ g g left js refl refl refl in
    takes_piece v (now_of c) c.self.inside.waiting.items c.args.run c.args.part c.args.most c.min-count.result
    c.look_at.result f g chars u c.self.invariant few asked free
    c.look_at.ensures.same c.look_at.ensures.looks shown c.min-count.ensures some told.takes_out
    told.within received accepted told.stops column same

pub invariant_of-self-2 : goal.invariant_of-self-2
invariant_of-self-2 c = (hands (goal.at.invariant_of-self-2 c).After-add).0

pub returns-clause-flushed : goal.returns-clause-flushed
returns-clause-flushed c =
    let d = (goal.at.returns-clause-flushed c).After-add in
    subst (λ (z : PortValue × ℕ). Takes z.0 (now_of d) c.args.run c.args.part c.args.most z.1)
    (λ i. (c.self.view_is i, sym c.hand_over-took.ensures.took i)) (hands d).1
