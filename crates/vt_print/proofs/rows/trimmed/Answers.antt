use Rattle.std.proofs.Common.{◌≡◌, ◌<◌, ℕ, take, ap, sym, ◌∙◌, arith}
use Rattle.vt_print.specs.Consoles.{trimmed}
use Rattle.vt_print.proofs.Trimming.{shorter, stays}
use Rattle.vt_print.proofs.rows.trimmed.Goals as goal
use Rattle.vt_print.proofs.rows.trimmed.Goals.{then-loop-count-test+else-row-count-eq-BLANK, else-loop-count-test}

pub loop-count-preserved : goal.loop-count-preserved
loop-count-preserved c =
    let inv = c.loop-count.invariant in
    let some : 0 < c.loop-count.count = omega (arith, c.loop-count-test.true) in
    record {
      within = omega (arith, inv.within);
      same = inv.same ∙ shorter c.args.row.now c.loop-count.count some inv.within c.if-row-count-eq-BLANK.true;
    }

pub returns : goal.returns
returns c =
    let row = c.args.row.now in
    let n = c.loop-count.count in
    let inv = c.loop-count.invariant in
    elim c.loop-count-test.branch [
      | then-loop-count-test+else-row-count-eq-BLANK w ↦
          let some : 0 < n = omega (arith, w.loop-count-test.true) in
          sym (inv.same ∙ stays row n some inv.within w.if-row-count-eq-BLANK.false)
      | else-loop-count-test w ↦
          let none : n ≡ 0 = omega (arith, w.loop-count-test.false) in
          ap (λ (k : ℕ). take k row) none ∙ sym (inv.same ∙ ap (λ (k : ℕ). trimmed (take k row)) none)
    ]
