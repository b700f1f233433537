use Rattle.std.proofs.Common.{◌≤◌, ◌+◌, length, sym, ◌∙◌, subst, arith, map}
use Rattle.tty_base.specs.Sizes.{MOST_CALLERS}
use Rattle.tty_calls.specs.Sessions.{script_of}
use Rattle.play_base.specs.Casting.{own_scripts}
use Rattle.play_base.proofs.CastLemmas.{own_few, count_yes}
use Rattle.play_base.proofs.roles.count_on.Goals as goal

pub overflow_add-count : goal.overflow_add-count
overflow_add-count c =
    let more = count_yes c.args.port c.as_slice-script-items.result.now c.loop-script.script-index c.script-item.result
    c.loop-script-test.true c.script-item.is (sym c.from.ensures ∙ c.if-from-port.true) in
    let few = own_few c.args.port c.as_slice-script-items.result.now (c.loop-script.script-index + 1) in
    let all : length (own_scripts c.args.port (map script_of c.as_slice-script-items.result.now)) ≤ MOST_CALLERS =
    subst (λ xs. length (own_scripts c.args.port (map script_of xs)) ≤ MOST_CALLERS)
    (sym c.as_slice-script-items.ensures)
    c.requires in
    omega (arith, more, few, all, c.loop-script.invariant)
