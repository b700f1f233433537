-- The blocks of `carrier`, and the session of the ports before anything was passed down.
use Rattle.std.specs.Prelude.{◌≡◌, ◌<◌, ◌==◌, ℕ, List, [], map, filter, length, slice_index_or}
use Rattle.std.specs.List.{range_with_len}
use Rattle.tty_calls.specs.Sessions.{PlainSession}
use Rattle.passed_calls.specs.declared.placed.PlacedCall.{PlacedCall}
use Rattle.passed_calls.specs.Blocks.{Block}
use Rattle.derived_session.specs.declared.passed.FurtherBlock.{FurtherBlock}
use Rattle.modem_text.specs.declared.items.OwnCall.{OwnCall}
use Rattle.modem_text.specs.declared.sessions.ModemPart.{ModemPart}
use Rattle.modem_text.specs.declared.sessions.PinItem.{PinItem}
use Rattle.modem_text.specs.Sessions.{ModemSession, carrier_block}
use Rattle.modem_one.specs.Played.{by_blocks}
use Rattle.order_laws.specs.Sessions.{played_session}

-- nothing was passed down
abbrev pub nothing_passed : ModemSession → PlainSession
nothing_passed session = played_session (by_blocks session) (λ p. [])

-- ---- what phases have beside

abbrev pub own_of : ModemPart → List (PlacedCall OwnCall)
own_of part = part.own.items

abbrev pub pins_of : ModemPart → List PinItem
pins_of part = part.pins.items

-- the items of a port
abbrev pub items_of_port : ℕ → List PinItem → List PinItem
items_of_port p pins = filter (λ item. item.port == p) pins

-- ---- the blocks of `carrier`

abbrev pub block_of_further : FurtherBlock → Block
block_of_further b = record { port = b.port; name = b.name.bytes; steps = b.steps }

-- one on each port, in a phase with these items
abbrev pub carriers_in : (ports : ℕ) → List PinItem → List Block
carriers_in ports pins = map (λ p. carrier_block (length (items_of_port p pins)) p) (range_with_len 0 ports)

-- in each of so many phases
pub record AreCarriers (ports count : ℕ) (parts : List ModemPart) (carriers : List (List FurtherBlock)) : Type 0 where
  pub many : length carriers ≡ count
  pub each : (k : ℕ)
      → k < count
      → map block_of_further (slice_index_or carriers k []) ≡ carriers_in ports
      (slice_index_or (map pins_of parts) k [])
