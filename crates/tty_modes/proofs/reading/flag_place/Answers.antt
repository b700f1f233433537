use Rattle.std.proofs.Common.{◌∙◌, sym, ap, get_or}
use Rattle.tty_modes.specs.declared.slots.TheConstants.{FLAG_SLOTS}
use Rattle.tty_modes.specs.Names.{flag_names}
use Rattle.tty_modes.proofs.NameSlots.{slot_hit, slot_miss, flags_slotted}
use Rattle.tty_modes.proofs.reading.flag_place.Goals as goal

pub returns-then-is_same : goal.returns-then-is_same
returns-then-is_same c =
    slot_hit flag_names FLAG_SLOTS c.as_bytes.result.now c.args.name.now c.flag_near-flag.result flags_slotted
    c.flag_near-flag.ensures.small (c.as_bytes.ensures.value ∙ c.flag_name.ensures)
    (sym c.is_same.ensures ∙ c.if-is_same.true)

pub returns-else-is_same : goal.returns-else-is_same
returns-else-is_same c =
    slot_miss flag_names FLAG_SLOTS c.as_bytes.result.now c.args.name.now c.flag_near-flag.result flags_slotted
    (c.flag_near-flag.ensures.value ∙ ap (λ s. get_or FLAG_SLOTS s 0) c.slot_of.ensures.value)
    (c.as_bytes.ensures.value ∙ c.flag_name.ensures) (sym c.is_same.ensures ∙ c.if-is_same.false)
