use Rattle.std.proofs.Common.{◌<◌, ℕ, sym, subst}
use Rattle.tty_modes.proofs.NameSlots.{flag_slots_small}
use Rattle.tty_modes.proofs.slots.flag_near.Goals as goal

pub returns-clause-small : goal.returns-clause-small
returns-clause-small c = subst (λ (n : ℕ). n < 29) (sym c.from.ensures) (flag_slots_small c.args.slot)
