-- N_SLIP as the fold of what has happened to it since it was installed.
use Rattle.std.specs.Prelude.{◌≡◌, ℕ, List, [], ◌∷◌, ◌++◌, length, drop}
use Rattle.tty_base.specs.declared.characters.Flagged.{Flagged}
use Rattle.slip_frames.specs.Slip.{Outcome, bad, silent, packet_of, outcomes}
use Rattle.slip_frames.specs.Decoding.{piece_of, rest_of}
use Rattle.n_slip.specs.Discipline.{Slip, with_packet}

-- a character came, a packet was taken, or the queue was flushed
pub data Happening : Type 0 where
  character : Flagged → Happening
  packet_take : Happening
  flush : Happening

-- the characters that came
abbrev pub characters_of : List Happening → List Flagged
characters_of [] = []
characters_of (character c ∷ events) = c ∷ characters_of events
characters_of (packet_take ∷ events) = characters_of events
characters_of (flush ∷ events) = characters_of events

-- each packet among these pieces waits, or is dropped, in order
abbrev pub with_packets : List (List ℕ) → List Outcome → List (List ℕ)
with_packets waiting [] = waiting
with_packets waiting (bad ∷ pieces) = with_packets waiting pieces
with_packets waiting (silent ∷ pieces) = with_packets waiting pieces
with_packets waiting (packet_of packet ∷ pieces) = with_packets (with_packet waiting packet) pieces

-- what the pieces are that a character ended after a list
abbrev pub outcomes_at : List Flagged → Flagged → List Outcome
outcomes_at list c = drop (length (outcomes list)) (outcomes (list ++ c ∷ []))

-- the packets that wait in the end, where these characters came before and these packets waited
abbrev pub packets_after : List Flagged → List (List ℕ) → List Happening → List (List ℕ)
packets_after list waiting [] = waiting
packets_after list waiting (character c ∷ events) =
    packets_after (list ++ c ∷ []) (with_packets waiting (outcomes_at list c)) events
packets_after list waiting (packet_take ∷ events) = packets_after list (drop 1 waiting) events
packets_after list waiting (flush ∷ events) = packets_after list [] events

-- this has happened to it, in this order, and nothing else
pub record HasSeen (slip : Slip) (events : List Happening) : Type 0 where
  pub piece : slip.piece ≡ piece_of (rest_of (characters_of events))
  pub packets : slip.packets ≡ packets_after [] [] events
