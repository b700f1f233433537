use Rattle.std.proofs.Common.{rules, arith, ap, sym, subst, ◌∙◌, ◌≡◌, ◌≤◌, max, length, ℕ, List}
use mathlib.Core.List.{IsPrefix}
use Rattle.atomic_table.specs.Table.{Me}
use Rattle.word_ring.specs.declared.table.View.{View}
use Rattle.word_ring.specs.Rule.{Slot}
use Rattle.word_ring.specs.TakerParts.{IsTaking}
use Rattle.word_ring.proofs.Taking.{after_end}
use Rattle.word_ring.proofs.taker.Taker.finish.Goals.{After-drop-board}
use Rattle.word_ring.specs.Ends.{AreReleased}
use Rattle.word_ring.proofs.Joining.{ends}
use Rattle.word_ring.proofs.Keeps.{compares}
use Rattle.word_ring.proofs.taker.Taker.finish.Goals as goal

pub join_seat-requires : goal.join_seat-requires
join_seat-requires c = (
  search rules,
  search rules,
  search rules,
  search rules,
  ends _ _ _ _ _ c.self.invariant.taking.takes c.putter.invariant.putting.puts,
)

pub load-self-inside-requires : goal.load-self-inside-requires
load-self-inside-requires c = (
  search rules,
  search rules,
  compares _ _ _ _ (ap (λ m. m.0.takes) c.join_seat.ensures.2 ∙ c.self.invariant.taking.takes),
)

pub returns-clause-heads : goal.returns-clause-heads
returns-clause-heads c =
    let met = c.join_seat.ensures.2 in
    let released = ap (λ m. m.0.released) met ∙ ap (λ s. s.released) c.self.view_is in
    let heads =
    ap (λ m. m.0.heads) met ∙ (ap (λ s. s.heads) c.putter.view_is ∙ ap (λ s. s.heads) c.push.ensures.same) in
    let told = c.load-self-inside.ensures.2.4 (ap (λ m. m.0.puts) met) in
    subst (λ (z : List ℕ × List ℕ). AreReleased z.0 z.1) (λ i. (released i, heads i)) told.1

module _ (c : After-drop-board) where
  told : IsPrefix c.self.inside.seat.me.0.taken c.putter.inside.seat.me.0.pushed
      × (max c.self.inside.seat.me.0.tail (length c.putter.inside.seat.me.0.pushed)
      ≤ length c.putter.inside.seat.me.0.pushed)
  told =
      let met = c.join_seat.ensures.2 in
      let is = c.load-self-inside.ensures.2.4 (ap (λ m. m.0.puts) met) in (
        subst (λ (m : Me Slot View). IsPrefix m.0.taken m.0.pushed) met is.0,
        subst (λ (m : Me Slot View). m.0.tail ≤ length m.0.pushed) met is.2,
      )

  pushed : c.putter.inside.seat.me.0.pushed ≡ c.args.putter.sent
  pushed = ap (λ s. s.pushed) c.putter.view_is ∙ ap (λ s. s.pushed) c.push.ensures.same

pub invariant_of-self : goal.invariant_of-self
invariant_of-self c =
    let now = c.load-self-inside.ensures.2.0 ∙ c.join_seat.ensures.2 in
    let t = told c in
    let sent_is : c.sent-sent.result ≡ length c.putter.inside.seat.me.0.pushed =
    c.sent-sent.ensures ∙ (ap (λ s. length s.sent) c.push.ensures.same ∙ sym (ap length (pushed c))) in
    let long = ap length (pushed c) in
    record {
      table = search rules;
      key = search rules;
      words = search rules;
      small = search rules;
      slot = c.self.invariant.slot;
      holds = ap (λ m. m.1) now ∙ c.self.invariant.holds;
      tail =
          c.max-self-inside.ensures ∙ ((λ i. max (c.self.invariant.tail i) (sent_is i)) ∙ ap (λ m. m.0.tail) (sym now));
      ended = ap (λ m. m.0.puts) (sym now);
      taking = subst (IsTaking c.self.inside.capacity c.self.inside.taken c.self.inside.taken
          c.self.inside.word c.self.inside.start c.self.inside.at)
          (ap (λ m. m.0) (sym now))
          (after_end _ _ _ _ _ _ _ c.self.invariant.taking c.putter.inside.seat.me.0
          (omega (arith, long, sym sent_is, c.sent-sent.type_inv)) t.1 t.0);
    }

pub returns-clause-compared : goal.returns-clause-compared
returns-clause-compared c =
    let taken = ap (λ s. s.taken) c.self.view_is in
    subst (λ (z : List ℕ × List ℕ). IsPrefix z.0 z.1) (λ i. (taken i, pushed c i)) (told c).0
