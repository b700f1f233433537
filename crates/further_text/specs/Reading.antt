-- What every text with further items reads of a session of ports, and counts beside it.
use Rattle.std.specs.Prelude.{ℕ, ◌-◌, ◌==◌, min, Bool, List, length, Result, Ok, if◌then◌else◌}
use Rattle.tty_base.specs.Sizes.{MOST_PORTS, MOST_STEPS}
use Rattle.text_lines.specs.Values.{number_at}
use Rattle.tty_calls.specs.Sessions.{PlainSession}
use Rattle.session_text.specs.declared.faults.Reason.TheVariants.{Limit}
use Rattle.session_text.specs.declared.faults.BadLine.{BadLine}
use Rattle.session_text.specs.Stands.{in_phase, is_start, is_ended, verdict_on}
use Rattle.session_text.specs.Reading.{PlainReading, first_reading, reading_after_item, session_at_end}
use Rattle.further_text.specs.Faults.{wrong_if, ◌>>=◌}

-- The session of ports, and how many ports there are; and how many steps may still come, now and when the open
-- caller's block began.
pub record BaseReading : Type 0 where
  pub session : PlainReading
  pub ports : ℕ
  pub left_at_opening : ℕ
  pub steps_left : ℕ

abbrev pub first_base : BaseReading
first_base = record { session = first_reading; ports = 0; left_at_opening = MOST_STEPS; steps_left = MOST_STEPS }

abbrev pub at_start : BaseReading → Bool
at_start r = is_start r.session.stand.place

abbrev pub in_open_phase : BaseReading → Bool
in_open_phase r = in_phase r.session.stand.place

abbrev pub at_end : BaseReading → Bool
at_end r = is_ended r.session.stand.place

-- an item of the session of ports
abbrev pub base_after_item : BaseReading → ℕ → List ℕ → List (List ℕ) → Result BaseReading BadLine
base_after_item r n word arguments =
    reading_after_item r.session n arguments (verdict_on r.session.stand word arguments)
    >>= λ session. Ok (record r { session = session })

-- the item that says how many ports there are, up to the most; with another number of arguments it is a wrong one
abbrev pub base_after_ports : BaseReading → ℕ → List ℕ → List (List ℕ) → Result BaseReading BadLine
base_after_ports r n word arguments =
    if length arguments == 1
    then (base_after_item r n word arguments
    >>= λ next. Ok (record next { ports = min (number_at arguments 0) MOST_PORTS }))
    else base_after_item r n word arguments

-- a step is one of those that may still come
abbrev pub spend : ℕ → BaseReading → Result BaseReading BadLine
spend n r = wrong_if n Limit (r.steps_left == 0) (Ok (record r { steps_left = r.steps_left - 1 }))

-- an item of the session that is a step
abbrev pub base_after_step : BaseReading → ℕ → List ℕ → List (List ℕ) → Result BaseReading BadLine
base_after_step r n word arguments = base_after_item r n word arguments >>= spend n

-- a caller's block begins
abbrev pub with_block : BaseReading → BaseReading
with_block r = record r { left_at_opening = r.steps_left }

-- how many calls the open caller's block has
abbrev pub place_in : BaseReading → ℕ
place_in r = r.left_at_opening - r.steps_left

abbrev pub base_at_end : BaseReading → ℕ → Result PlainSession BadLine
base_at_end r n = session_at_end r.session n
