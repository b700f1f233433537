-- Calls that a port has begun and not answered.
use Rattle.std.specs.Prelude.{ℕ, ◌+◌, Bool, true, false, List, [], ◌∷◌, flat_map, if◌then◌else◌, length}
use Rattle.std.specs.Prelude.{slice_index_or, slice_set}
use Rattle.std.specs.List.{range_with_len}
use Rattle.tty_calls.specs.declared.journals.Who.{Who}
use Rattle.tty_calls.specs.declared.journals.Who.TheVariants.{Caller}
use Rattle.tty_calls.specs.Plain.{PlainEvent, answered, parted, waited, PlainEntry}
use Rattle.tty_terminal.specs.Standing.{standing_in, at_first}
use Rattle.derived_session.specs.declared.passed.Down.TheVariants as down
use Rattle.derived_session.specs.declared.passed.PassedDown.{PassedDown}

-- they are passed down behind all others: of each such caller the one at its next step
abbrev pub begun_down : List PlainEntry → (next : List ℕ) → List PassedDown
begun_down journal next = flat_map
    (λ c.
    if (standing_in c journal at_first).begun
    then record { caller = c; step = slice_index_or next c 0; down = down.Call } ∷ []
    else [])
    (range_with_len 0 (length next))

-- one call more of a caller was answered
abbrev pub one_more : (next : List ℕ) → (caller : ℕ) → List ℕ
one_more next c = slice_set next c (slice_index_or next c 0 + 1)

-- what is known behind each of these events, which are walked one after the other
abbrev pub after_all : {W E : Type 0} → (after : W → E → W) → W → List E → W
after_all after w [] = w
after_all after w (e ∷ es) = after_all after (after w e) es

-- ---- how they are found: for private functions alone

-- whether a caller has begun one, after an entry of its own
abbrev pub has_begun : PlainEvent → Bool → Bool
has_begun (answered answer dropped) begun = false
has_begun (parted taken) begun = true
has_begun waited begun = true
has_begun other begun = begun

abbrev pub begun_own : List Bool → (caller : ℕ) → PlainEvent → List Bool
begun_own begun c event = slice_set begun c (has_begun event (slice_index_or begun c false))

abbrev pub begun_by : List Bool → Who → PlainEvent → List Bool
begun_by begun (Caller c) event = begun_own begun c event
begun_by begun other event = begun

abbrev pub begun_after : List Bool → PlainEntry → List Bool
begun_after begun e = begun_by begun e.who e.event
