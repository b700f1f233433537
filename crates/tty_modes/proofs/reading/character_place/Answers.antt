use Rattle.std.proofs.Common.{◌∙◌, sym, ap, get_or}
use Rattle.tty_modes.specs.declared.slots.TheConstants.{CHARACTER_SLOTS}
use Rattle.tty_modes.specs.Names.{character_names}
use Rattle.tty_modes.proofs.NameSlots.{slot_hit, slot_miss, characters_slotted}
use Rattle.tty_modes.proofs.reading.character_place.Goals as goal

pub returns-then-is_same : goal.returns-then-is_same
returns-then-is_same c =
    slot_hit character_names CHARACTER_SLOTS c.as_bytes.result.now c.args.name.now c.character_near-place.result
    characters_slotted c.character_near-place.ensures.small (c.as_bytes.ensures.value ∙ c.character_name.ensures)
    (sym c.is_same.ensures ∙ c.if-is_same.true)

pub returns-else-is_same : goal.returns-else-is_same
returns-else-is_same c =
    slot_miss character_names CHARACTER_SLOTS c.as_bytes.result.now c.args.name.now
    c.character_near-place.result characters_slotted
    (c.character_near-place.ensures.value ∙ ap (λ s. get_or CHARACTER_SLOTS s 0) c.slot_of.ensures.value)
    (c.as_bytes.ensures.value ∙ c.character_name.ensures) (sym c.is_same.ensures ∙ c.if-is_same.false)
