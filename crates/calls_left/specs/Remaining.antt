-- What the callers of a phase have still to call.
use Rattle.std.specs.Prelude.{◌≡◌, ◌≤◌, ◌<◌, ◌+◌, ◌-◌, ◌==◌, ℕ, List, [], ◌∷◌, Option, None, Some, ◌&&◌}
use Rattle.std.specs.Prelude.{if◌then◌else◌, drop, take, filter, nat_lt, length, map, slice_get, slice_index_or}
use Rattle.tty_base.specs.Sizes.{MOST_STEPS}
use Rattle.tty_calls.specs.declared.sessions.Script.{Script}
use Rattle.tty_calls.specs.Plain.{PlainCall, call_of}
use Rattle.tty_calls.specs.Sessions.{script_of}
use Rattle.play_base.specs.Roles.{calls_in}
use Rattle.passed_calls.specs.declared.placed.PlacedCall.{PlacedCall}
use Rattle.passed_calls.specs.Scripts.{AnyCall, plain, further, mixed, mixed_scripts}
use Rattle.passed_calls.specs.Derived.{BlockPhase}
use Rattle.order_laws.specs.Passed.{begin_of}
use Rattle.calls_left.specs.declared.remaining.Cursor.{Cursor}
use Rattle.calls_left.specs.declared.remaining.NextCall.{NextCall}
use Rattle.calls_left.specs.declared.remaining.NextCall.TheVariants as next

abbrev pub any_call_of : {C : Type 0} → NextCall C → AnyCall C
any_call_of (next.Port call) = plain (call_of call)
any_call_of (next.Own call) = further call

-- the place behind the last call that was taken and that the port never sees
abbrev pub behind : Option ℕ → ℕ
behind None = 0
behind (Some place) = place + 1

-- the place of the next call of a script, and its calls from there on
abbrev pub place_of : Cursor → ℕ
place_of c = behind c.last + (c.taken - c.mark)

abbrev pub own_from : {C : Type 0} → List (PlacedCall C) → Cursor → List (PlacedCall C)
own_from placed c = take (c.end - c.first) (drop c.first placed)

abbrev pub plain_from : List Script → Cursor → List PlainCall
plain_from scripts c = drop c.taken (calls_in (slice_get scripts c.script))

abbrev pub calls_from : {C : Type 0} → List Script → List (PlacedCall C) → Cursor → List (AnyCall C)
calls_from scripts placed c = mixed (place_of c) (plain_from scripts c) (own_from placed c)

abbrev pub IsMarked : Cursor → Type 0
IsMarked c = c.mark ≤ c.taken

-- where a script stands behind its next call, with so many calls for the port in all
abbrev pub passed_cursor : {C : Type 0} → (count : ℕ) → Option (PlacedCall C) → Cursor → Cursor
passed_cursor count None c = if nat_lt c.taken count then record c { taken = c.taken + 1 } else c
passed_cursor count (Some o) c =
    if nat_lt c.taken count && nat_lt (place_of c) o.place
    then record c { taken = c.taken + 1 }
    else record c { mark = c.taken; last = Some o.place; first = c.first + 1 }

-- the first of calls for a port and of others, from this place on
abbrev pub first_call : {C : Type 0} → (place : ℕ) → Option PlainCall → Option (PlacedCall C) → Option (AnyCall C)
first_call n None None = None
first_call n (Some call) None = Some (plain call)
first_call n None (Some o) = Some (further o.call)
first_call n (Some call) (Some o) = if nat_lt n o.place then Some (plain call) else Some (further o.call)

-- the calls of each script of a port, in the text's order
abbrev pub calls_of_port : {C : Type 0} → ℕ → List Script → List (PlacedCall C) → List (List (AnyCall C))
calls_of_port p scripts placed =
    map (λ s. s.calls) (filter (λ s. s.port == p) (mixed_scripts 0 (map script_of scripts) placed))

abbrev pub left_at : {C : Type 0} → List (List C) → ℕ → List C
left_at left place = slice_index_or left place []

-- the first of them was made
abbrev pub after_next : {C : Type 0} → List C → List C
after_next [] = []
after_next (call ∷ calls) = calls

-- so many calls are left to a caller of these blocks in phase k, and these are they, where this finds its calls
pub record IsLeftTo {C : Type 0} (p k : ℕ) (phases : List BlockPhase) (calls : (caller step : ℕ) → Option C)
    (next : List ℕ) (c : ℕ) (left : List C) : Type 0 where
  pub known : c < length next
  pub from : begin_of p phases k c ≤ slice_index_or next c 0
  pub count : slice_index_or next c 0 + length left ≡ begin_of p phases (k + 1) c
  pub each : (i : ℕ) → i < length left → calls c (slice_index_or next c 0 + i) ≡ slice_get left i
  pub few : slice_index_or next c 0 + length left ≤ MOST_STEPS
