-- What is left of a phase: the calls of its callers, and the items of its modem block.
use Rattle.std.specs.Prelude.{◌≡◌, ◌≤◌, ◌<◌, ◌+◌, ◌-◌, ◌≢◌, ℕ, List, false, Some, length, slice_get, slice_index_or}
use Rattle.tty_base.specs.Sizes.{MOST_ENTRIES, MOST_STEPS}
use Rattle.port_core.specs.Ports.{PortValue}
use Rattle.one_thread.specs.Turns.{IsAbsent}
use Rattle.play_base.specs.declared.roles.Role.{Role}
use Rattle.order_laws.specs.Passed.{begin_of}
use Rattle.order_laws.specs.Left.{count_left}
use Rattle.calls_left.specs.Remaining.{left_at, IsLeftTo}
use Rattle.modem_text.specs.Sessions.{ModemCall, ModemSession, PinStep}
use Rattle.modem_steps.specs.Derived.{block_phases, carrier_on, modem_call_at}
use Rattle.modem_steps.specs.Steps.{items_from}
use Rattle.modem_steps.specs.Order.{is_of_phase}

-- To the callers of phase k by their roles, of which the last is that of `carrier`. Who is absent has none.
pub record AreCallsLeft (p k : ℕ) (session : ModemSession) (roles : List Role) (next : List ℕ)
    (left : List (List ModemCall)) : Type 0 where
  pub many : length left + 1 ≡ length roles
  pub each : (i : ℕ) (r : Role)
      → slice_get roles i ≡ Some r
      → i < length left
      → IsLeftTo p k (block_phases session) (modem_call_at p session) next r.number (left_at left i)
  pub callers : (i : ℕ) (r : Role) → slice_get roles i ≡ Some r → i < length left → r.number ≢ carrier_on p session
  pub others : (c : ℕ)
      → IsAbsent roles c
      → slice_index_or next c 0 ≡ begin_of p (block_phases session) (k + 1) c

-- the items that are left of the modem block of phase k
pub record AreItemsLeft (p k : ℕ) (session : ModemSession) (items : ℕ) (left : List PinStep) : Type 0 where
  pub from : begin_of p (block_phases session) k (carrier_on p session) ≤ items
  pub count : items + length left ≡ begin_of p (block_phases session) (k + 1) (carrier_on p session)
  pub few : items + length left ≤ MOST_STEPS
  pub each : (i : ℕ) (step : PinStep)
      → slice_get left i ≡ Some step
      → slice_get (items_from p 0 session.phases) (items + i) ≡ Some (record { phase = k; step = step })
  pub behind : is_of_phase k (slice_get (items_from p 0 session.phases) (items + length left)) ≡ false

-- how many calls and items are left, and how many entries with them the journal may still have
abbrev pub turns_left : PortValue → List (List ModemCall) → List PinStep → ℕ
turns_left v left items = (MOST_ENTRIES - length v.journal) + (count_left left + length items)
