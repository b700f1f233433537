use Rattle.std.proofs.Common.{◌<◌, ◌+◌, ◌^◌, length, arith}
use Rattle.play_base.specs.Roles.{role_in}
use Rattle.play_base.proofs.CastLemmas.{all_at_index}
use Rattle.play_base.proofs.roles.move_on.Goals as goal

pub call_count-requires : goal.call_count-requires
call_count-requires c =
    let few = all_at_index (λ r. r.first + length r.calls < 2 ^ 32) (role_in c.args.scripts.now) c.args.roles.now
    c.loop-role.role-index (record { number = 0; first = 0; place = 0 }) c.loop-role-test.true c.requires.few in
    omega (arith, few)

pub overflow_add-role : goal.overflow_add-role
overflow_add-role c =
    let few = all_at_index (λ r. r.first + length r.calls < 2 ^ 32) (role_in c.args.scripts.now) c.args.roles.now
    c.loop-role.role-index (record { number = 0; first = 0; place = 0 }) c.loop-role-test.true c.requires.few in
    omega (arith, few, c.call_count.ensures)

pub set_step-requires : goal.set_step-requires
set_step-requires c =
    let within = all_at_index (λ r. r.number < length c.args.steps.now) (role_in c.args.scripts.now) c.args.roles.now
    c.loop-role.role-index (record { number = 0; first = 0; place = 0 }) c.loop-role-test.true c.requires.within in
    omega (arith, within, c.loop-role.auto.steps)
