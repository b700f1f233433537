use Rattle.std.proofs.Common.{ℕ, ◌+◌, true, drop, sym, ◌∙◌, ap, subst}
use Rattle.std.proofs.lemmas.Bool.{false≢true}
use Rattle.uart_line.specs.Offered.{AreShown}
use Rattle.journal_check.proofs.AccountLemmas.{shown_next, next_shown, shown_past}
use Rattle.journal_check.proofs.overruns.are_shown.Goals as goal

pub returns-then-not-is_shown : goal.returns-then-not-is_shown
returns-then-not-is_shown c = (
  λ is. absurd (false≢true is),
  λ all. (let one =
      (shown_next c.args.capacity c.loop-overrun.k c.loop-overrun.floor c.args.overruns.now c.loop-overrun.overrun-index
      _ c.loop-overrun-test.true (c.loop-overrun.invariant.goes_on all)).0 in
      absurd (false≢true (sym c.if-not-is_shown.true ∙ c.is_shown.ensures.1 (one.place, one.sent, one.full)))),
)

pub loop-overrun-preserved : goal.loop-overrun-preserved
loop-overrun-preserved c =
    let i = c.loop-overrun.invariant in
    let one = c.is_shown.ensures.0 c.if-not-is_shown.false in
    let after = c.place_after-floor.ensures in
    record {
      goes_on = λ all. subst (λ (n : ℕ). AreShown c.args.capacity (c.loop-overrun.k + 1) n
          (drop (c.loop-overrun.overrun-index + 1) c.args.overruns.now))
          (sym after)
          ((shown_next c.args.capacity c.loop-overrun.k c.loop-overrun.floor c.args.overruns.now
          c.loop-overrun.overrun-index _ c.loop-overrun-test.true (i.goes_on all)).1);
      came = λ rest. i.came (next_shown c.args.capacity c.loop-overrun.k c.loop-overrun.floor c.args.overruns.now
          c.loop-overrun.overrun-index _ c.loop-overrun-test.true
          (record { place = one.0; sent = one.1; full = one.2 })
          (subst (λ (n : ℕ). AreShown c.args.capacity (c.loop-overrun.k + 1) n
          (drop (c.loop-overrun.overrun-index + 1) c.args.overruns.now)) after rest));
      count = ap (λ (n : ℕ). n + 1) i.count;
    }

pub returns : goal.returns
returns c = (
  λ is. c.loop-overrun.invariant.came (shown_past c.args.capacity c.loop-overrun.k c.loop-overrun.floor
      c.args.overruns.now c.loop-overrun.overrun-index c.loop-overrun-test.false),
  λ all j. true,
)
