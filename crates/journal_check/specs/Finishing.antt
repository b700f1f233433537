-- A finished journal, read from its front: for private functions alone.
use Rattle.std.specs.Prelude.{ℕ, ◌+◌, ◌==◌, ◌&&◌, nat_lt, Bool, true, false, if◌then◌else◌, List, [], ◌∷◌}
use Rattle.tty_calls.specs.Plain.{PlainEvent, answered, parted, waited, flushed, ticked, line_ended}
use Rattle.tty_calls.specs.Plain.{clock_ended, caller_ended, phase_ended, hung_up, PlainEntry}
use Rattle.tty_terminal.specs.Runs.{phase_after}

-- whether an event may stand in a phase whose line sends so many characters by its end, and whose clock has so many
-- ticks, of which so many have passed
abbrev pub may_go : PlainEvent → (sent ticks passed : ℕ) → Bool
may_go (answered a dropped) sent ticks passed = true
may_go (parted taken) sent ticks passed = true
may_go waited sent ticks passed = true
may_go (flushed chars) sent ticks passed = true
may_go ticked sent ticks passed = true
may_go (line_ended n) sent ticks passed = n == sent
may_go clock_ended sent ticks passed = passed == ticks
may_go caller_ended sent ticks passed = true
may_go phase_ended sent ticks passed = true
may_go (hung_up dropped) sent ticks passed = false

abbrev pub ticks_after : PlainEvent → ℕ → ℕ
ticks_after (answered a dropped) passed = passed
ticks_after (parted taken) passed = passed
ticks_after waited passed = passed
ticks_after (flushed chars) passed = passed
ticks_after ticked passed = passed + 1
ticks_after (line_ended n) passed = passed
ticks_after clock_ended passed = passed
ticks_after caller_ended passed = passed
ticks_after phase_ended passed = 0
ticks_after (hung_up dropped) passed = passed

abbrev pub is_hangup : PlainEvent → Bool
is_hangup (answered a dropped) = false
is_hangup (parted taken) = false
is_hangup waited = false
is_hangup (flushed chars) = false
is_hangup ticked = false
is_hangup (line_ended n) = false
is_hangup clock_ended = false
is_hangup caller_ended = false
is_hangup phase_ended = false
is_hangup (hung_up dropped) = true

abbrev pub is_none : List PlainEntry → Bool
is_none [] = true
is_none (e ∷ es) = false

-- the entries go through the phases, from phase k with so many ticks passed in it, to a hangup after the last
abbrev pub goes_well : (sents ticks : ℕ → ℕ) → (phases k passed : ℕ) → List PlainEntry → Bool
goes_well sents ticks phases k passed [] = false
goes_well sents ticks phases k passed (e ∷ es) =
    if nat_lt k phases
    then may_go e.event (sents k) (ticks k) passed
    && goes_well sents ticks phases (phase_after e.event k) (ticks_after e.event passed) es
    else (is_hangup e.event && is_none es)
