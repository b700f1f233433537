-- A character in a number of 16 bits: the byte below, the flag above.
use Rattle.std.specs.Prelude.{◌≡◌, ℕ, zero, suc, ◌+◌, ◌%◌, ◌/◌, ◌<◌, ◌≤◌, List, map}
use Rattle.tty_base.specs.declared.characters.Flag.{Flag}
use Rattle.tty_base.specs.declared.characters.Flag.TheVariants.{Normal, Break, Parity, Frame, Overrun}
use Rattle.tty_base.specs.declared.characters.Flagged.{Flagged}
use Rattle.word_ring.specs.Ends.{PutterState, TakerState, NoteState}

-- these bytes, each with this flag
abbrev pub with_flag : Flag → (bytes : List ℕ) → List Flagged
with_flag flag bytes = map (λ byte. record { byte = byte; flag = flag }) bytes

-- the flag with a number; every further number has the last flag
abbrev pub flag_of_number : ℕ → Flag
flag_of_number zero = Normal
flag_of_number (suc zero) = Break
flag_of_number (suc (suc zero)) = Parity
flag_of_number (suc (suc (suc zero))) = Frame
flag_of_number (suc (suc (suc (suc n)))) = Overrun

-- the character that a number stands for
abbrev pub char_of : ℕ → Flagged
char_of n = record { byte = n % 256; flag = flag_of_number (n / 256) }

-- what is added to a byte that has the last flag
abbrev pub MOST_MARK : ℕ
MOST_MARK = 1024

-- added to a byte, this is the number of that byte with this flag
pub record FlagMark (flag : Flag) (mark : ℕ) : Type 0 where
  pub few : mark ≤ MOST_MARK
  pub seen : (byte : ℕ) → byte < 256 → char_of (byte + mark) ≡ record { byte = byte; flag = flag }

-- an end of the ring, its numbers seen as characters
abbrev pub in_state : PutterState ℕ → PutterState Flagged
in_state p = record {
  ring = p.ring;
  capacity = p.capacity;
  sent = map char_of p.sent;
  pushed = map char_of p.pushed;
  heads = p.heads;
  floor = p.floor;
}

abbrev pub out_state : TakerState ℕ → TakerState Flagged
out_state t = record {
  ring = t.ring;
  capacity = t.capacity;
  taken = map char_of t.taken;
  peeked = map char_of t.peeked;
  released = t.released;
  tails = t.tails;
  floor = t.floor;
  ended = t.ended;
  sent = map char_of t.sent;
}

abbrev pub note_state : NoteState ℕ → NoteState Flagged
note_state n = record { ring = n.ring; pushed = map char_of n.pushed; heads = n.heads }
