-- How the bytes of the packets that wait are kept.
use Rattle.std.specs.Prelude.{ℕ, ◌+◌, ◌*◌, ◌≤◌}
use Rattle.slip_frames.specs.Slip.{max_packet}
use Rattle.n_slip.specs.Discipline.{most_waiting}

-- how many bytes all packets that can wait have at most
abbrev pub most_bytes : ℕ
most_bytes = most_waiting * max_packet

-- bytes of which some were taken, in room for twice as many
pub record IsKept (len capacity start : ℕ) : Type 0 where
  pub taken : start ≤ most_bytes
  pub within : start ≤ len
  pub few : len ≤ start + most_bytes
  pub reserved : 2 * most_bytes ≤ capacity
