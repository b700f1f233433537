-- How many characters were taken by when: for private functions alone.
use Rattle.std.specs.Prelude.{ℕ, ◌+◌, ◌==◌, ◌&&◌, nat_lt, nat_le, Bool, true, List}
use Rattle.std.specs.Prelude.{[], ◌∷◌, if◌then◌else◌, length, drop, slice_index}
use Rattle.tty_base.specs.declared.lines.Overrun.{Overrun}
use Rattle.tty_calls.specs.Plain.{PlainEntry, chars_in}
use Rattle.legal_runs.specs.Legal.{is_phase_end, line_ends}

-- how many characters were taken before each later phase, where so many were before these entries
abbrev pub phase_starts : ℕ → List PlainEntry → List ℕ
phase_starts n [] = []
phase_starts n (e ∷ es) =
    if is_phase_end e.event then (n + length (chars_in e.event)) ∷ phase_starts (n + length (chars_in e.event)) es
    else phase_starts (n + length (chars_in e.event)) es

-- and before each end of a line
abbrev pub line_stops : ℕ → List PlainEntry → List ℕ
line_stops n [] = []
line_stops n (e ∷ es) =
    if length (line_ends e.event) == 0 then line_stops (n + length (chars_in e.event)) es
    else n ∷ line_stops (n + length (chars_in e.event)) es

-- the first phase from this one on by whose end, which these are, more than so many characters were received
abbrev pub phase_from : ℕ → List ℕ → ℕ → ℕ
phase_from k [] at = k
phase_from k (end ∷ ends) at = if nat_le end at then phase_from (k + 1) ends at else k

-- each of these overruns has seen a number between those of its phase, which is this one or a later one
abbrev pub are_between : (ends starts stops : List ℕ) → ℕ → List Overrun → Bool
are_between ends starts stops k [] = true
are_between ends starts stops k (o ∷ os) =
    let phase = phase_from k (drop k ends) o.at in
    nat_lt phase (length ends)
    && (nat_le (slice_index starts phase) o.seen
    && (nat_le o.seen (slice_index stops phase) && are_between ends starts stops phase os))
