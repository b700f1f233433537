use Rattle.std.proofs.Common.{◌≡◌, ℕ, ◌+◌, ◌*◌, List, [], ◌∷◌, ◌++◌, ◌<◌, ◌≤◌, false}
use Rattle.std.proofs.Common.{Some, length, take, refl, sym, ◌∙◌, subst, ap, arith}
use Rattle.std.proofs.lemmas.List.{length-map}
use Rattle.tty_base.specs.Sizes.{COLUMNS_OF_CHARACTER}
use Rattle.tty_base.specs.Characters.{good_character, good_characters}
use Rattle.tty_base.specs.declared.characters.Flagged.{Flagged}
use Rattle.word_ring.specs.Ends.{PutterState, TakerState, NothingWaits}
use Rattle.tty_calls.specs.Plain.{PlainEntry, flushed, entry_of}
use Rattle.tty_calls.specs.declared.journals.Who.TheVariants.{Flusher}
use Rattle.tty_terminal.specs.Terminals.{Terminal}
use Rattle.tty_terminal.specs.Receiving.{accepts, after_characters, AcceptsAll}
use Rattle.tty_terminal.specs.Steps.{after}
use Rattle.ldisc_switch.specs.Disciplines.{column_in}
use Rattle.port_core.specs.declared.ports.flushing.Flushed.TheVariants.{Took}
use Rattle.port_core.specs.Flushes.{IsPieceOf}
use Rattle.port_core.specs.Given.{FlushesGiven}
use Rattle.port_core.specs.Ports.{PortValue, is_stuck, with_entry, flush_entry, call_in}
use Rattle.port_core.specs.Inside.{KeepsCalls, value_of}
use Rattle.port_core.proofs.GoingOn.{made, entry_added, port_taken, port_few}
use Rattle.port_core.proofs.Giving.{gives_piece}
use Rattle.port_core.proofs.ports.Port.give_piece.Goals as goal
use Rattle.port_core.proofs.ports.Port.give_piece.Goals.{After-add}

pub receive_front-received-requires-clause-taken : goal.receive_front-received-requires-clause-taken
receive_front-received-requires-clause-taken c =
    let kept = ap (λ (t : Terminal). t.taken) c.reserve_piece.ensures.terminal in
    omega (
      arith,
      kept,
      port_taken (value_of c.self.inside) c.self.invariant.port,
      port_few (value_of c.self.inside) c.self.invariant.port,
      c.requires.piece.few,
    )

abbrev now_of : After-add → PortValue
now_of c = record (value_of c.self.inside) {
  terminal = c.note_piece.new.self.terminal;
  journal = c.add.new.self.items;
  flip = c.take_given.new.flip;
}

-- the invariant, and what the piece came to
gives : (c : After-add)
    → KeepsCalls (now_of c) c.self.inside.waiting.items
    × FlushesGiven (value_of c.self.inside) (now_of c) c.args.putter.now c.take_given.new.putter c.args.run
    (good_characters c.args.bytes.now) (Took c.receive_front-received.result)
gives c =
    let v : PortValue = value_of c.self.inside in
    let p : PutterState Flagged = c.args.putter.now in
    let run = c.args.run in
    let n = c.receive_front-received.result in
    let chars : List Flagged = good_characters c.args.bytes.now in
    let count : 8 ≡ length chars = sym (length-map c.args.bytes.now good_character ∙ c.told-bytes) in
    let few : length v.journal < v.limit =
    subst (λ (w : PortValue). length w.journal < w.limit) (sym c.self.view_is) c.requires.entry.0 in
    let free : is_stuck v.terminal ≡ false =
    subst (λ (w : PortValue). is_stuck w.terminal ≡ false) (sym c.self.view_is) c.requires.free in
    let line : v.terminal.line_over ≡ false =
    subst (λ (w : PortValue). w.terminal.line_over ≡ false) (sym c.self.view_is) c.requires.line in
    let clear : NothingWaits p v.flip =
    subst (λ (w : PortValue). NothingWaits p w.flip) (sym c.self.view_is) c.requires.clear in
    let asked : IsPieceOf v run 0 (length chars) =
    subst (λ (z : PortValue × ℕ). IsPieceOf z.0 run 0 z.1) (λ i. (sym c.self.view_is i, count i)) c.requires.piece in
    let kept : c.reserve_piece.new.terminal.terminal ≡ v.terminal = c.reserve_piece.ensures.terminal in
    let added : c.add_good.new.self.items ≡ chars =
    ap (λ b. b.items) c.add_good.ensures
    ∙ ap (λ (z : List Flagged). z ++ chars) (c.reserve_piece.ensures.chars ∙ ap (λ b. b.items) c.new-chars.ensures) in
    let told = c.receive_front-received.ensures in
    let u : Terminal = c.receive_front-received.new.terminal.terminal in
    let front : c.receive_front-received.new.chars.items ≡ take n chars = told.front ∙ ap (take n) added in
    let received : u ≡ after_characters v.terminal (take n chars) =
    told.received ∙ (λ i. after_characters (kept i) (take n (added i))) in
    let accepted : AcceptsAll v.terminal (take n chars) =
    subst (λ (z : Terminal × List Flagged). AcceptsAll z.0 (take n z.1)) (λ i. (kept i, added i)) told.accepted in
    let stops : n < length chars → accepts u ≡ false = λ less. told.stops (omega (arith, less, count)) in
    let column : column_in u.disc ≤ column_in v.terminal.disc + COLUMNS_OF_CHARACTER * length chars =
    subst (λ (z : Terminal × ℕ). column_in u.disc ≤ column_in z.0.disc + COLUMNS_OF_CHARACTER * z.1)
    (λ i. (kept i, count i))
    told.column in
    let e : PlainEntry = flush_entry v run 0 (take n chars) in
    let generation : c.generation-generation.result ≡ v.terminal.generation =
    c.generation-generation.ensures ∙ ap (λ (t : Terminal). t.generation) kept in
    let entry : entry_of c.entry_of_flush-entry.result ≡ e =
    c.entry_of_flush-entry.ensures
    ∙ (λ i. record {
      who = Flusher;
      step = run;
      part = 0;
      generation = generation i;
      event = flushed ((c.as_slice.ensures ∙ front) i);
    }) in
    let js : c.add.new.self.items ≡ v.journal ++ e ∷ [] =
    entry_added v.journal _ _ _ e c.reserve_piece.ensures.journal c.add.ensures entry in
    let left : c.note_piece.new.self.terminal ≡ after (call_in v.kept) v.terminal e =
    ap (λ r. r.terminal) c.note_piece.ensures
    ∙ ap (λ (t : Terminal). record t { flushed = Some (record { run = run; part = 0 }) }) received in
    let g : TakerState Flagged = c.take_given.new.flip in
    let same : now_of c ≡ record (with_entry v e) { flip = g } =
    made v _ (after (call_in v.kept) v.terminal e) _ (v.journal ++ e ∷ []) v.kept v.kept _ g g left js refl refl refl in
    gives_piece v (now_of c) c.self.inside.waiting.items run n p c.take_given.new.putter g chars u c.self.invariant few
    asked free line clear c.take_given.ensures (omega (arith, told.within, count)) received accepted stops column same

pub invariant_of-self-2 : goal.invariant_of-self-2
invariant_of-self-2 c = (gives (goal.at.invariant_of-self-2 c).After-add).0

pub returns-clause-ok : goal.returns-clause-ok
returns-clause-ok c =
    let d = (goal.at.returns-clause-ok c).After-add in
    subst (λ (w : PortValue). FlushesGiven w (now_of d) c.args.putter.now c.take_given.new.putter c.args.run
    (good_characters c.args.bytes.now) (Took c.receive_front-received.result)) c.self.view_is (gives d).1
