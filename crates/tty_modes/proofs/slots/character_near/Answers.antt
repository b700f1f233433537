use Rattle.tty_modes.proofs.NameSlots.{character_slots_small}
use Rattle.tty_modes.proofs.slots.character_near.Goals as goal

pub returns-clause-small : goal.returns-clause-small
returns-clause-small c = character_slots_small c.args.slot
