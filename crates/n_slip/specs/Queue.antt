-- How the packets that wait are kept: their bytes one after another, and the length of each.
use Rattle.std.specs.Prelude.{◌≡◌, ℕ, ◌≤◌, List, [], ◌∷◌, length, take, drop, sum}
use Rattle.std.specs.List.{AllByRecursion}
use Rattle.std.specs.VecDeque.{deque_capacity}
use Rattle.slip_frames.specs.Slip.{max_packet}
use Rattle.n_slip.specs.Discipline.{most_waiting}
use Rattle.n_slip.specs.declared.queue.Queue.TheInside.{Inside}

abbrev pub packets_of : List ℕ → List ℕ → List (List ℕ)
packets_of [] bytes = []
packets_of (n ∷ lengths) bytes = take n bytes ∷ packets_of lengths (drop n bytes)

-- as many packets as can wait at most, none longer than SLIP's are, that are all the bytes
pub record Holds (lengths bytes : List ℕ) : Type 0 where
  pub short : AllByRecursion (λ n. n ≤ max_packet) lengths
  pub whole : sum lengths ≡ length bytes
  pub few : length lengths ≤ most_waiting

-- and there are places for them
pub record IsQueue (q : Inside) : Type 0 where
  pub holds : Holds q.lengths.items q.bytes
  pub places : most_waiting ≤ deque_capacity q.lengths
