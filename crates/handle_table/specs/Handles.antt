-- The handles of a port: a map from the numbers 0 to 31.
use Rattle.std.specs.Prelude.{◌≡◌, ℕ, length, Bool, true, false, Option, Some, None}
use Rattle.std.specs.Prelude.{List, slice_index_or, slice_set, map, replicate, count_by}
use Rattle.tty_base.specs.Sizes.{MOST_HANDLES}
use Rattle.tty_calls.specs.declared.calls.Access.{Access}
use Rattle.handle_table.specs.declared.HandleState.{HandleState}

-- for each number the handle that has it, or None where it is not in use
abbrev pub HandleMap : Type 0
HandleMap = List (Option HandleState)

abbrev pub no_handles : HandleMap
no_handles = replicate MOST_HANDLES None

abbrev pub handle_at : HandleMap → ℕ → Option HandleState
handle_at handles h = slice_index_or handles h None

-- the map with a live handle of this number
abbrev pub with_handle : HandleMap → ℕ → Access → Bool → HandleMap
with_handle handles h access nonblock =
    slice_set handles h (Some (record { access = access; nonblock = nonblock; live = true }))

abbrev pub without_handle : HandleMap → ℕ → HandleMap
without_handle handles h = slice_set handles h None

-- a slot after a hangup: its handle is dead, and keeps the number
abbrev pub handle_after_hangup : Option HandleState → Option HandleState
handle_after_hangup None = None
handle_after_hangup (Some handle) = Some (record handle { live = false })

-- all of them after a hangup
abbrev pub after_hangup : HandleMap → HandleMap
after_hangup handles = map handle_after_hangup handles

abbrev pub is_live : Option HandleState → Bool
is_live None = false
is_live (Some handle) = handle.live

abbrev pub live_count : HandleMap → ℕ
live_count handles = count_by is_live handles

-- each number has a slot, and the number that is kept is that of the live handles in them
pub record IsTable (slots : HandleMap) (live : ℕ) : Type 0 where
  pub numbers : length slots ≡ MOST_HANDLES
  pub live_is : live ≡ live_count slots
