-- What the code answers of an outcome, and the room that it needs.
use Rattle.std.specs.Prelude.{◌≡◌, ◌<◌, ◌≤◌, ◌==◌, ◌+◌, ◌-◌, ◌*◌, ◌^◌, min, ℕ, List, [], Option, None}
use Rattle.std.specs.Prelude.{Some, Bool, true, false, nat_lt, if◌then◌else◌, length, option_map}
use Rattle.tty_base.specs.Sizes.{COLUMNS_OF_PIECE, COUNT_END, MOST_HANDLES, MOST_HELD, NUMBER_END, PIECE}
use Rattle.tty_base.specs.Contents.{Contents}
use Rattle.tty_base.specs.declared.counters.Counts.{Counts}
use Rattle.tty_calls.specs.Plain.{PlainCall, opens, closes, reads, writes, gets_modes, sets_modes, gets_disc}
use Rattle.tty_calls.specs.Plain.{sets_disc, flushes, steers, counts_input, counts_output, excludes, admits, drains}
use Rattle.tty_calls.specs.Plain.{gets_counts, hangs_up, sends_packet, takes_packet, handle_of, answer_of}
use Rattle.tty_calls.specs.Limits.{byte_count}
use Rattle.n_tty.specs.Reading.{bytes_read}
use Rattle.n_slip.specs.Discipline.{first_packet}
use Rattle.slip_frames.specs.Slip.{max_packet, spelling_of}
use Rattle.handle_table.specs.declared.HandleState.{HandleState}
use Rattle.ldisc_switch.specs.declared.kinds.Kind.{Kind}
use Rattle.ldisc_switch.specs.declared.kinds.Kind.TheVariants as kind
use Rattle.ldisc_switch.specs.declared.discipline.Disc.{Disc}
use Rattle.ldisc_switch.specs.declared.discipline.Disc.TheVariants as disc
use Rattle.ldisc_switch.specs.Disciplines.{kind_of_number, fresh_of, pending_count_of, column_in}
use Rattle.n_tty.specs.declared.discipline.TheConstants.{CHARACTER_ROOM}
use Rattle.tty_terminal.specs.declared.rooms.TheConstants.{ROOM_FOR_CALL}
use Rattle.tty_terminal.specs.declared.rooms.Room.{Room}
use Rattle.tty_terminal.specs.declared.rooms.Room.TheVariants as room
use Rattle.tty_terminal.specs.declared.rooms.Met.{Met}
use Rattle.tty_terminal.specs.declared.rooms.Met.TheVariants as met
use Rattle.tty_terminal.specs.declared.callers.CallerState.{CallerState}
use Rattle.tty_terminal.specs.Terminals.{Terminal, handle_at}
use Rattle.tty_terminal.specs.Outcomes.{Outcome, unknown, waits, takes, gives}
use Rattle.tty_terminal.specs.Opening.{is_last_live}
use Rattle.tty_terminal.specs.Switching.{number_of}
use Rattle.tty_terminal.specs.Calls.{outcome}

-- a terminal, with the room that is reserved for bytes on the wire and for signals
pub record InRoom : Type 0 where
  pub terminal : Terminal
  pub wire_room : ℕ
  pub signal_room : ℕ

abbrev pub Meets : Outcome → Met → Type 0
Meets unknown result = ⊥
Meets waits met.Waits = Unit {0}
Meets waits (met.Gives given) = ⊥
Meets waits (met.Takes n) = ⊥
Meets (takes taken left) met.Waits = ⊥
Meets (takes taken left) (met.Gives given) = ⊥
Meets (takes taken left) (met.Takes n) = n ≡ taken
Meets (gives answer drops left) met.Waits = ⊥
Meets (gives answer drops left) (met.Gives given) = answer_of given ≡ answer
Meets (gives answer drops left) (met.Takes n) = ⊥

-- what an outcome leaves, before the rule for ixoff
abbrev pub left_before_rule : Outcome → Terminal → Terminal
left_before_rule unknown t = t
left_before_rule waits t = t
left_before_rule (takes taken left) t = left
left_before_rule (gives answer drops left) t = left

-- whether an answer drops what waits in the flip buffer
abbrev pub drops_of : Outcome → Bool
drops_of unknown = false
drops_of waits = false
drops_of (takes taken left) = false
drops_of (gives answer drops left) = drops

-- ---- room

-- the room on the wire that so many characters need at most: for what is pending once, and for each of them
abbrev pub room_for_characters : Terminal → ℕ → ℕ
room_for_characters t n = pending_count_of t.disc t.output + CHARACTER_ROOM * n

-- how many bytes a read gives, where it is ready
abbrev pub read_room : Terminal → ℕ → Disc → ℕ
read_room t n (disc.Tty tty) = length (bytes_read t.modes n tty)
read_room t n (disc.Slip slip) = 0

abbrev pub packet_room : Disc → ℕ
packet_room (disc.Tty tty) = 0
packet_room (disc.Slip slip) = length (first_packet slip)

-- how many bytes the answer to a call gives at most
abbrev pub room_for : Terminal → PlainCall → ℕ
room_for t (reads h n) = read_room t n t.disc
room_for t (takes_packet h) = packet_room t.disc
room_for t call = 0

-- the discipline that a close installs: a fresh one where it is the last
abbrev pub close_kind : Terminal → Option HandleState → Option Kind
close_kind t None = None
close_kind t (Some handle) = if is_last_live t handle then Some kind.Tty else None

-- the kind of the fresh discipline that a call installs
abbrev pub fresh_kind : Terminal → PlainCall → Option Kind
fresh_kind t (closes h) = close_kind t (handle_at t h)
fresh_kind t (sets_disc h n) = if number_of t.disc == n then None else kind_of_number n
fresh_kind t (hangs_up h) = Some kind.Tty
fresh_kind t call = None

-- a packet as it is spelled, unless it is too long
abbrev pub spelled_unless_long : List ℕ → List ℕ
spelled_unless_long bytes = if nat_lt max_packet (length bytes) then [] else spelling_of bytes

-- the packet that a call sends, as it is spelled, unless it is too long
abbrev pub spelled_packet : PlainCall → List ℕ
spelled_packet (sends_packet h bytes) = spelled_unless_long bytes
spelled_packet call = []

-- the calls in groups: opens, closes and transfers; modes and disciplines; output and exclusive use; the others
abbrev pub group_of : PlainCall → ℕ
group_of (opens h access nonblock) = 0
group_of (closes h) = 0
group_of (reads h n) = 0
group_of (writes h bytes) = 0
group_of (gets_modes h) = 1
group_of (sets_modes h when words) = 1
group_of (gets_disc h) = 1
group_of (sets_disc h n) = 1
group_of (flushes h queue) = 2
group_of (steers h act) = 2
group_of (counts_input h) = 3
group_of (counts_output h) = 2
group_of (excludes h) = 2
group_of (admits h) = 2
group_of (drains h) = 3
group_of (gets_counts h) = 3
group_of (hangs_up h) = 3
group_of (sends_packet h bytes) = 3
group_of (takes_packet h) = 3

-- whether a call may give bytes
abbrev pub gives_bytes : PlainCall → Bool
gives_bytes (reads h n) = true
gives_bytes (takes_packet h) = true
gives_bytes call = false

-- the counts that a call tells
abbrev pub counts_for : Terminal → PlainCall → Option Counts
counts_for t (gets_counts h) = Some t.tally.counts
counts_for t call = None

-- the room for bytes, the discipline, the counts and the packet that stand in a room
abbrev pub holds_bytes : Room → Bool
holds_bytes room.Nothing = false
holds_bytes (room.Bytes bytes) = true
holds_bytes (room.Fresh fresh) = false
holds_bytes (room.Counts counts) = false
holds_bytes (room.Packet bytes) = false

abbrev pub bytes_in : Room → Contents ℕ
bytes_in room.Nothing = record { items = []; spare = 0 }
bytes_in (room.Bytes bytes) = bytes
bytes_in (room.Fresh fresh) = record { items = []; spare = 0 }
bytes_in (room.Counts counts) = record { items = []; spare = 0 }
bytes_in (room.Packet bytes) = record { items = []; spare = 0 }

abbrev pub fresh_in : Room → Option Disc
fresh_in room.Nothing = None
fresh_in (room.Bytes bytes) = None
fresh_in (room.Fresh fresh) = Some fresh.value
fresh_in (room.Counts counts) = None
fresh_in (room.Packet bytes) = None

abbrev pub counts_in : Room → Option Counts
counts_in room.Nothing = None
counts_in (room.Bytes bytes) = None
counts_in (room.Fresh fresh) = None
counts_in (room.Counts counts) = Some counts.value
counts_in (room.Packet bytes) = None

abbrev pub packet_in : Room → List ℕ
packet_in room.Nothing = []
packet_in (room.Bytes bytes) = []
packet_in (room.Fresh fresh) = []
packet_in (room.Counts counts) = []
packet_in (room.Packet bytes) = bytes.items

-- what a call needs was made before it: room for the bytes of its answer, the discipline that it installs, the counts
-- that it tells, and its packet as it is spelled
pub record IsRoomFor (t : Terminal) (call : PlainCall) (made : Room) : Type 0 where
  pub holds : holds_bytes made ≡ gives_bytes call
  pub empty : (bytes_in made).items ≡ []
  pub fits : room_for t call ≤ (bytes_in made).spare
  pub fresh : fresh_in made ≡ option_map fresh_of (fresh_kind t call)
  pub counts : counts_in made ≡ counts_for t call
  pub packet : packet_in made ≡ spelled_packet call

-- what a write has taken, with the bytes that it can take at once, is a number of 32 bits
abbrev pub IsCounted : CallerState → PlainCall → Type 0
IsCounted s call = s.taken + min PIECE (byte_count call - s.taken) < 2 ^ 32

-- what a call needs, where its caller stands so: a handle's number in the table, bytes that it can count, what was made
-- for it, and room for whatever it may send
pub record CanAct (v : InRoom) (s : CallerState) (call : PlainCall) (made : Room) : Type 0 where
  pub number : handle_of call < MOST_HANDLES
  pub bytes : IsCounted s call
  pub few : v.terminal.generation < NUMBER_END
  pub room : IsRoomFor v.terminal call made
  pub wire : ROOM_FOR_CALL ≤ v.wire_room
  pub column : column_in v.terminal.disc < COUNT_END

-- a call met its outcome, without the rule for ixoff after it; and how much room on the wire, and how many columns,
-- it took; a piece moves the column by so much at most
pub record Acts (old new : InRoom) (s : CallerState) (call : PlainCall) (result : Met) : Type 0 where
  pub met : Meets (outcome old.terminal s call) result
  pub left : new.terminal ≡ left_before_rule (outcome old.terminal s call) old.terminal
  pub wire : old.wire_room ≤ new.wire_room + MOST_HELD
  pub column : column_in new.terminal.disc ≤ column_in old.terminal.disc + COLUMNS_OF_PIECE

-- whether a call needs anything beside the terminal
abbrev pub needs_room : PlainCall → Bool
needs_room (closes h) = true
needs_room (reads h n) = true
needs_room (sets_disc h n) = true
needs_room (gets_counts h) = true
needs_room (hangs_up h) = true
needs_room (sends_packet h bytes) = true
needs_room (takes_packet h) = true
needs_room call = false
