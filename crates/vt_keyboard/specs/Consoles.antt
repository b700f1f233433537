-- What the keyboard's thread does on all consoles, from the first key of a phase to the ends of their lines and clocks.
use Rattle.std.specs.Prelude.{◌≡◌, ℕ, ◌+◌, ◌<◌, ◌≤◌, List, Option, None, Some, false}
use Rattle.std.specs.Prelude.{length, slice_get, slice_index_or, slice_set, take}
use Rattle.tty_base.specs.declared.characters.Flagged.{Flagged}
use Rattle.tty_base.specs.declared.lines.LineStep.{LineStep}
use Rattle.word_ring.specs.Ends.{PutterState}
use Rattle.uart_line.specs.LineState.{LineState}
use Rattle.uart_line.specs.Received.{closed_script}
use Rattle.port_cell.specs.Knowledge.{list_seen}
use Rattle.tty_port.specs.Seen.{marks_at}
use Rattle.tty_port.specs.Shared.{IsHere, name_of_port}
use Rattle.tty_port.specs.declared.shared.SharedPort.{SharedPort}
use Rattle.many_threads.specs.Needs.{CanPlayClock}
use Rattle.many_threads.specs.Comings.{ClockComes, LineComes}
use Rattle.vt_consoles.specs.Seats.{BoardSeat}
use Rattle.vt_account.specs.Keyed.{key_line, keys_to}
use Rattle.vt_keyboard.specs.Keying.{CanBegin, DoesSteps}
use Rattle.vt_keyboard.specs.Operating.{MakesAll}
use Rattle.vt_keyboard.specs.Phases.{key_events}
use Rattle.vt_keyboard.specs.declared.console_ends.KeySeats.{KeySeats}

-- ---- the ends of a console's line and clock

-- a seat with which the line can end, whose putter this is
pub record CanEndLine (p : SharedPort) (seats : KeySeats) (putter : PutterState Flagged) : Type 0 where
  pub here : IsHere p ((name_of_port p).callers + 1) seats.line
  pub not_over : (marks_at (list_seen seats.line)).line_over ≡ false
  pub ring : putter.ring ≡ (name_of_port p).ring
  pub sent : (marks_at (list_seen seats.line)).sent ≤ length putter.sent

pub record CanEndConsole (p : SharedPort) (seats : KeySeats) (putter : PutterState Flagged) : Type 0 where
  pub line : CanEndLine p seats putter
  pub clock : CanPlayClock p seats.clock

-- Line and clock came to their ends: from wherever the line did its steps, it comes to what a line comes to that did
-- these.
pub record EndsConsole (p : SharedPort) (old new : KeySeats) (putter now : PutterState Flagged) : Type 0 where
  pub line : (steps : List LineStep) (line played : LineState) (first : PutterState Flagged)
      → DoesSteps (closed_script steps) line played first putter
      → LineComes p steps (record { seat = old.line; line = line; putter = first })
      (record { receiver = record { seat = new.line; line = played; putter = now }; result = new.line_result })
  pub clock : ClockComes p old.ticks (list_seen old.clock) (record { seat = new.clock; result = new.clock_result })

-- a console whose journal is full has no shared port, and nothing of it ends
abbrev pub CanEndIf : Option SharedPort → Option KeySeats → PutterState Flagged → Type 0
CanEndIf None s e = Unit {0}
CanEndIf (Some p) None e = Unit {0}
CanEndIf (Some p) (Some s) e = CanEndConsole p s e

abbrev pub EndsIf : Option SharedPort → (old new : Option KeySeats) → (putter now : PutterState Flagged) → Type 0
EndsIf None s t e f = (t ≡ s) × (f ≡ e)
EndsIf (Some p) None t e f = (t ≡ None) × (f ≡ e)
EndsIf (Some p) (Some s) None e f = ⊥
EndsIf (Some p) (Some s) (Some t) e f = EndsConsole p s t e f

-- ---- two lists whose elements at one place change together

pub record PairsUpTo {A B : Type 0} (P : ℕ → A → A → B → B → Type 0) (i : ℕ) (xs ys : List A)
    (us vs : List B) : Type 0 where
  pub firsts : length ys ≡ length xs
  pub seconds : length vs ≡ length us
  pub done : (p : ℕ) (x y : A) (u v : B)
      → p < i
      → slice_get xs p ≡ Some x
      → slice_get ys p ≡ Some y
      → slice_get us p ≡ Some u
      → slice_get vs p ≡ Some v
      → P p x y u v
  pub firsts_left : (p : ℕ) → i ≤ p → slice_get ys p ≡ slice_get xs p
  pub seconds_left : (p : ℕ) → i ≤ p → slice_get vs p ≡ slice_get us p

pub record PairsAll {A B : Type 0} (P : ℕ → A → A → B → B → Type 0) (xs ys : List A) (us vs : List B) : Type 0 where
  pub firsts : length ys ≡ length xs
  pub seconds : length vs ≡ length us
  pub each : (p : ℕ) (x y : A) (u v : B)
      → slice_get xs p ≡ Some x
      → slice_get ys p ≡ Some y
      → slice_get us p ≡ Some u
      → slice_get vs p ≡ Some v
      → P p x y u v

pub record PairAt {A B : Type 0} (P : ℕ → A → A → B → B → Type 0) (i : ℕ) (xs ys : List A)
    (us vs : List B) : Type 0 where
  pub x : A
  pub y : A
  pub u : B
  pub v : B
  pub x_was : x ≡ slice_index_or xs i x
  pub y_is : ys ≡ slice_set xs i y
  pub u_was : u ≡ slice_index_or us i u
  pub v_is : vs ≡ slice_set us i v
  pub changes : P i x y u v

-- the console of this number, whose shared port stands at its place
abbrev pub EndsAt : List (Option SharedPort) → ℕ → Option KeySeats → Option KeySeats → PutterState Flagged
    → PutterState Flagged
    → Type 0
EndsAt ports p s t e f = (port : Option SharedPort) → slice_get ports p ≡ Some port → EndsIf port s t e f

-- ---- the keyboard's thread

-- there is a line and a putter for each of so many consoles, a shared port and seats where its journal is not full, and
-- each can take so many keys and end
pub record CanKeyAll (consoles n : ℕ) (ports : List (Option SharedPort)) (seats : List (Option KeySeats))
    (lines : List LineState) (ends : List (PutterState Flagged)) : Type 0 where
  pub ports_of : length ports ≡ consoles
  pub seats_of : length seats ≡ consoles
  pub lines_of : length lines ≡ consoles
  pub ends_of : length ends ≡ consoles
  pub begins : (p : ℕ) (l : LineState) (e : PutterState Flagged)
      → slice_get lines p ≡ Some l
      → slice_get ends p ≡ Some e
      → CanBegin l e
  pub room : (p : ℕ) (l : LineState) → slice_get lines p ≡ Some l → l.report.arrived + n ≤ l.most
  pub can_end : (p : ℕ) (port : Option SharedPort) (s : Option KeySeats) (e : PutterState Flagged)
      → slice_get ports p ≡ Some port
      → slice_get seats p ≡ Some s
      → slice_get ends p ≡ Some e
      → CanEndIf port s e

-- on a console the line did its keys, and line and clock came to their ends
pub record ConsoleComes (port : SharedPort) (keys : List ℕ) (s t : KeySeats) (l m : LineState)
    (e f : PutterState Flagged) : Type 0 where
  pub line : LineComes port (key_line keys) (record { seat = s.line; line = l; putter = e })
      (record { receiver = record { seat = t.line; line = m; putter = f }; result = t.line_result })
  pub clock : ClockComes port s.ticks (list_seen s.clock) (record { seat = t.clock; result = t.clock_result })

-- .. where its port is shared; where its journal is full its line did its keys, and nothing ended
abbrev pub ConsoleComesIf : Option SharedPort → (keys : List ℕ) → (s t : Option KeySeats) → (l m : LineState)
    → (e f : PutterState Flagged)
    → Type 0
ConsoleComesIf None keys s t l m e f = DoesSteps (closed_script (key_line keys)) l m e f
ConsoleComesIf (Some p) keys None t l m e f = DoesSteps (closed_script (key_line keys)) l m e f
ConsoleComesIf (Some p) keys (Some s) None l m e f = ⊥
ConsoleComesIf (Some p) keys (Some s) (Some t) l m e f = ConsoleComes p keys s t l m e f

-- The keyboard, whose seat has this number, made an entry for each of these keys, whose indexes begin with this one;
-- each came on the line of the console that its entry names, and then each line and clock came to its end.
pub record PlaysKeyboard (n first : ℕ) (keys : List ℕ) (old new : BoardSeat) (ports : List (Option SharedPort))
    (seats seated : List (Option KeySeats)) (lines noted : List LineState)
    (ends now : List (PutterState Flagged)) : Type 0 where
  pub went : List ℕ
  pub each_key : length went ≡ length keys
  pub makes : MakesAll n (key_events first went) old new
  pub seats_of : length seated ≡ length seats
  pub lines_of : length noted ≡ length lines
  pub ends_of : length now ≡ length ends
  pub comes : (p : ℕ) (port : Option SharedPort) (s t : Option KeySeats) (l m : LineState) (e f : PutterState Flagged)
      → slice_get ports p ≡ Some port
      → slice_get seats p ≡ Some s
      → slice_get seated p ≡ Some t
      → slice_get lines p ≡ Some l
      → slice_get noted p ≡ Some m
      → slice_get ends p ≡ Some e
      → slice_get now p ≡ Some f
      → ConsoleComesIf port (keys_to p keys went) s t l m e f

-- .. the first of these keys, and not all of them
abbrev pub PlaysFirst : (n first : ℕ) → List ℕ → (old new : BoardSeat) → List (Option SharedPort)
    → (seats seated : List (Option KeySeats)) → (lines noted : List LineState) → (ends now : List (PutterState Flagged))
    → Type 0
PlaysFirst n first keys old new ports seats seated lines noted ends now =
    (count : ℕ)
    × (count < length keys)
    × PlaysKeyboard n first (take count keys) old new ports seats seated lines noted ends now
