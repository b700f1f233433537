-- N_TTY on a port of its own, for a program that runs it for ever.
use Rattle.std.specs.Prelude.{ℕ, suc, ◌%◌, ◌^◌, min, max, Bool, not, ◌&&◌, List, [], ◌∷◌, ◌++◌}
use Rattle.std.specs.Prelude.{length, map, take, drop, Option, None, Some, slice_get, if◌then◌else◌}
use Rattle.tty_base.specs.Sizes.{MOST_READ, PIECE}
use Rattle.tty_base.specs.declared.characters.Flag.TheVariants as flag
use Rattle.tty_base.specs.declared.characters.Flagged.{Flagged}
use Rattle.tty_base.specs.declared.counters.Signal.{Signal}
use Rattle.tty_modes.specs.declared.words.Word.{Word}
use Rattle.tty_modes.specs.declared.places.TheConstants.{IXON}
use Rattle.tty_modes.specs.Settings.{Settings, has_flag, sane_modes}
use Rattle.tty_modes.specs.Word.{after_word}
use Rattle.flow_control.specs.Output.{Output, after_start, after_send}
use Rattle.n_tty.specs.States.{OnPort, is_accepting, unread_count, has_piece}
use Rattle.n_tty.specs.Storing.{after_recast}
use Rattle.n_tty.specs.Receiving.{after_character}
use Rattle.n_tty.specs.Reading.{is_readable, bytes_read, after_read}
use Rattle.n_tty.specs.Writing.{piece_text, after_write}
use Rattle.n_tty.specs.Flow.{after_ixoff_rule}
use Rattle.n_tty.specs.Rows.{fresh_port}

pub record Embedded : Type 0 where
  -- N_TTY, its output, and what was counted, with the signals; room that is reserved is no part of it
  pub port : OnPort
  pub modes : Settings
  -- the tick of now
  pub tick : ℕ

-- at first: the default modes, and nothing has happened
abbrev pub fresh : Embedded
fresh = record { port = fresh_port; modes = sane_modes; tick = 0 }

-- the column is kept in 32 bits, as Linux keeps it
abbrev pub with_column_in_32_bits : OnPort → OnPort
with_column_in_32_bits port = record port { tty = record port.tty { column = port.tty.column % 2 ^ 32 } }

-- the rule for ixoff is applied once
abbrev pub with_rule : Settings → OnPort → OnPort
with_rule modes port =
    record port { output = after_ixoff_rule modes (unread_count port.tty) (has_piece port.tty) port.output }

-- ---- characters

-- a character is accepted now
abbrev pub accepts : Embedded → Bool
accepts t = is_accepting t.modes t.port.tty

-- a character is received where it is accepted, and else nothing changes
abbrev pub after_receipt : Embedded → Flagged → Embedded
after_receipt t c =
    if accepts t
    then record t { port = with_column_in_32_bits (after_character t.modes t.tick c t.port) }
    else t

-- a good character
abbrev pub good : (byte : ℕ) → Flagged
good byte = record { byte = byte; flag = flag.Normal }

-- characters are received up to the first that is not accepted
abbrev pub after_accepted : Settings → (tick : ℕ) → List Flagged → OnPort → OnPort
after_accepted modes tick [] port = port
after_accepted modes tick (c ∷ cs) port =
    if is_accepting modes port.tty then after_accepted modes tick cs (after_character modes tick c port) else port

-- how many these are
abbrev pub accepted_count : Settings → (tick : ℕ) → List Flagged → OnPort → ℕ
accepted_count modes tick [] port = 0
accepted_count modes tick (c ∷ cs) port =
    if is_accepting modes port.tty then suc (accepted_count modes tick cs (after_character modes tick c port)) else 0

-- a call that is given bytes receives a piece of them at most
abbrev pub offered : (bytes : List ℕ) → List Flagged
offered bytes = map good (take PIECE bytes)

-- good characters are received in one call
abbrev pub after_receiving : Embedded → (bytes : List ℕ) → Embedded
after_receiving t bytes =
    record t { port = with_column_in_32_bits (after_accepted t.modes t.tick (offered bytes) t.port) }

abbrev pub received_count : Embedded → (bytes : List ℕ) → ℕ
received_count t bytes = accepted_count t.modes t.tick (offered bytes) t.port

-- time does not go back
abbrev pub after_advance : Embedded → (tick : ℕ) → Embedded
after_advance t tick = record t { tick = max t.tick tick }

-- ---- reading

-- no read gives more bytes than this
abbrev pub asked_count : (n : ℕ) → ℕ
asked_count n = min n MOST_READ

-- a read of at most n bytes that has waited since some tick can be answered
abbrev pub is_ready_for : Embedded → (nonblock : Bool) → (since n : ℕ) → Bool
is_ready_for t nonblock since n = is_readable t.modes nonblock (asked_count n) since t.tick t.port.tty

-- the bytes that it gives
abbrev pub bytes_given : Embedded → (n : ℕ) → List ℕ
bytes_given t n = bytes_read t.modes (asked_count n) t.port.tty

-- how many these are; none where it has to wait
abbrev pub read_answer : Embedded → (nonblock : Bool) → (since n : ℕ) → Option ℕ
read_answer t nonblock since n = if is_ready_for t nonblock since n then Some (length (bytes_given t n)) else None

-- bytes at the front of a place
abbrev pub at_front : (place bytes : List ℕ) → List ℕ
at_front place bytes = bytes ++ drop (length bytes) place

-- a place into which was read as much as it holds
abbrev pub place_after_read : Embedded → (nonblock : Bool) → (since : ℕ) → (place : List ℕ) → List ℕ
place_after_read t nonblock since place =
    if is_ready_for t nonblock since (length place) then at_front place (bytes_given t (length place)) else place

-- the bytes are no longer unread, and the rule for ixoff follows; where the read has to wait nothing changes
abbrev pub after_reading : Embedded → (nonblock : Bool) → (since n : ℕ) → Embedded
after_reading t nonblock since n =
    if is_ready_for t nonblock since n
    then record t { port = with_rule t.modes (record t.port { tty = after_read t.modes (asked_count n) t.port.tty }) }
    else t

-- ---- writing

-- a piece of a write is posted: 64 bytes at most, up to the first that does not fit under a halt
abbrev pub after_writing : Embedded → List ℕ → Embedded
after_writing t bytes =
    record t {
      port = with_column_in_32_bits (record t.port {
        tty = after_write t.modes t.port.output bytes t.port.tty;
        output = after_send t.port.output (piece_text t.modes t.port.tty t.port.output bytes);
      });
    }

-- ---- modes

-- output that STOP halted goes on where ixon is cleared
abbrev pub output_under : (old new : Settings) → Output → Output
output_under old new output = if has_flag old IXON && not (has_flag new IXON) then after_start output else output

-- other modes: what is unread goes over to them, output too, and the rule for ixoff follows
abbrev pub with_modes : Embedded → Settings → Embedded
with_modes t new =
    record t {
      modes = new;
      port = with_rule new (record t.port {
        tty = after_recast t.modes new t.port.tty;
        output = output_under t.modes new t.port.output;
      });
    }

-- what a mode word makes; a text that is no mode word makes nothing
abbrev pub after_setting : Embedded → Option Word → Embedded
after_setting t None = t
after_setting t (Some word) = with_modes t (after_word t.modes word)

-- ---- what went out

-- the bytes that went to the wire, and are not taken yet
abbrev pub wire_of : Embedded → List ℕ
wire_of t = t.port.output.wire

-- so many are taken into a place: as many as are there and as it holds
abbrev pub taken_count : Embedded → (place : List ℕ) → ℕ
taken_count t place = min (length place) (length (wire_of t))

abbrev pub without_wire_front : (n : ℕ) → Embedded → Embedded
without_wire_front n t =
    record t { port = record t.port { output = record t.port.output { wire = drop n (wire_of t) } } }

-- the signals that were raised, and are not taken yet
abbrev pub first_signal : Embedded → Option Signal
first_signal t = slice_get t.port.tally.signals.items 0

abbrev pub without_first_signal : Embedded → Embedded
without_first_signal t =
    record t {
      port = record t.port {
        tally =
            record t.port.tally { signals = record t.port.tally.signals { items = drop 1 t.port.tally.signals.items } };
      };
    }
