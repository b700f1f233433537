use Rattle.std.proofs.Common.{◌≡◌, ◌∙◌, rules, sum, sym, ap}
use Rattle.tty_terminal.specs.Terminals.{opening}
use Rattle.port_core.proofs.GoingOn.{begins}
use Rattle.port_core.proofs.ports.Port.new.Goals as goal

pub invariant_of-result : goal.invariant_of-result
invariant_of-result c =
    let counts : c.in_ok-counts.counts.items ≡ c.args.callers.now = search rules in
    let many : c.total-count.result ≡ sum c.in_ok-counts.counts.items = c.total-count.ensures ∙ ap sum (sym counts) in
    let terminal : c.in_ok-new.field-0.terminal ≡ opening (sum c.in_ok-counts.counts.items) c.args.flip.capacity =
    ap (λ r. r.terminal) c.in_ok-new.ensures ∙ (λ i. opening (many i) (c.capacity.ensures.count i)) in
    begins _ _ terminal (ap (λ j. j.items) c.new-2.ensures) c.new-3.ensures c.requires.few c.requires.fresh
    c.requires.small (c.in_ok-waiting.ensures ∙ many)
