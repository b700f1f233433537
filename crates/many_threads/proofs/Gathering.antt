-- All threads of a phase taken together, and all seats of its port.
use Rattle.std.specs.Prelude.{MatchBool, IfOk, IfErr, OnOk, OnErr}
use Rattle.std.proofs.Common.{◌≡◌, ◌⊎◌, inl, inr, ℕ, suc, ◌+◌, List, [], ◌∷◌, ◌++◌, Bool}
use Rattle.std.proofs.Common.{true, false, ◌||◌, Option, Some, None, Result, Ok, Err, length}
use Rattle.std.proofs.Common.{refl, sym, ◌∙◌, ap, subst, arith, zero-add, length-append}
use Rattle.tty_base.specs.declared.characters.Flagged.{Flagged}
use Rattle.tty_base.specs.declared.lines.LineStep.{LineStep}
use Rattle.word_ring.specs.Ends.{PutterState}
use Rattle.uart_line.specs.LineState.{LineState}
use Rattle.tty_calls.specs.declared.answers.Denied.{Denied}
use Rattle.tty_calls.specs.declared.answers.Denied.TheVariants as denied
use Rattle.play_base.specs.Roles.{PlainRole}
use Rattle.port_cell.specs.declared.kept.Stamped.{Stamped}
use Rattle.port_cell.specs.Knowledge.{number_of, list_seen}
use Rattle.port_cell.specs.Seats.{EachSeat, HasAll}
use Rattle.tty_port.specs.Inside.{Name, EntryWithCall}
use Rattle.tty_port.specs.Adding.{IsFull}
use Rattle.tty_port.specs.Calls.{PortSeat}
use Rattle.tty_port.specs.Shared.{IsHere, HasAllOf, name_of_port, opening_history}
use Rattle.tty_port.specs.Histories.{history_in, name_in}
use Rattle.tty_port.specs.Placed.{IsHistoryOf}
use Rattle.port_core.specs.Ports.{PortValue, IsPort}
use Rattle.tty_port.specs.declared.shared.SharedPort.{SharedPort}
use Rattle.tty_port.proofs.Seating.{AreNumbered, has_numbered}
use Rattle.many_threads.specs.declared.crew.Crew.{Crew}
use Rattle.many_threads.specs.declared.crew.CrewBack.{CrewBack}
use Rattle.many_threads.specs.declared.line_part.Receiver.{Receiver}
use Rattle.many_threads.specs.declared.seats.Seats.{Seats}
use Rattle.many_threads.specs.declared.shared_phase.PhaseBack.{PhaseBack}
use Rattle.many_threads.specs.declared.shared_phase.PhaseEnd.{PhaseEnd}
use Rattle.many_threads.specs.declared.shared_phase.PhaseEnd.TheVariants.{Over, Full}
use Rattle.many_threads.specs.Parts.{StopsClock, PlaysClock, RunsLine, PlaysLine, PlaysFlusher}
use Rattle.many_threads.specs.Callers.{EachCaller, IsBack, PlayedAs, SomeSawFull}
use Rattle.many_threads.specs.Crew.{cast_of, CanRun, CrewComes, seats_of}
use Rattle.many_threads.specs.Seats.{AreDealt}
use Rattle.many_threads.specs.PhaseEnds.{AreSeats, AreBack, all_seats, end_of, IsClosed, IsEndBy, IsNextTold}
use Rattle.many_threads.specs.PhaseEnds.{AreTaken, PartsArePlayed, AreStopped, Tells, ThreadsCome}
use Rattle.many_threads.proofs.CrewLemmas.{cast_length, either_told}

-- ---- seats in their places

seats_of_callers : (p : SharedPort) (n : ℕ) (rs : List (Option PlainRole)) (ss : List PortSeat)
    → EachCaller (IsBack p) n rs ss
    → AreSeats p n ss
seats_of_callers p n [] [] h = tt
seats_of_callers p n [] (s ∷ ss) h = absurd h
seats_of_callers p n (r ∷ rs) [] h = absurd h
seats_of_callers p n (r ∷ rs) (s ∷ ss) h = (h.0.here, seats_of_callers p (n + 1) rs ss h.1)

each_length : (P : ℕ → Option PlainRole → PortSeat → Type 0) (n : ℕ) (rs : List (Option PlainRole)) (ss : List PortSeat)
    → EachCaller P n rs ss
    → length ss ≡ length rs
each_length P n [] [] h = refl
each_length P n [] (s ∷ ss) h = absurd h
each_length P n (r ∷ rs) [] h = absurd h
each_length P n (r ∷ rs) (s ∷ ss) h = ap (λ (k : ℕ). suc k) (each_length P (n + 1) rs ss h.1)

seats_append : (p : SharedPort) (n : ℕ) (ss ts : List PortSeat)
    → AreSeats p n ss
    → AreSeats p (n + length ss) ts
    → AreSeats p n (ss ++ ts)
seats_append p n [] ts h k = subst (λ (j : ℕ). AreSeats p j ts) (let e : n + 0 ≡ n = omega arith in e) k
seats_append p n (s ∷ ss) ts h k = (
  h.0,
  seats_append p (n + 1) ss ts h.1
      (subst (λ (j : ℕ). AreSeats p j ts) (let e : n + suc (length ss) ≡ n + 1 + length ss = omega arith in e) k),
)

all_are_seats : (p : SharedPort) (seats : Seats) → AreBack p seats → AreSeats p 0 (all_seats seats)
all_are_seats p seats h =
    let m = (name_of_port p).callers in
    let two : m + 2 ≡ m + 1 + 1 = omega arith in
    let three : m + 3 ≡ m + 1 + 1 + 1 = omega arith in
    let four : AreSeats p m (seats.flusher ∷ seats.line ∷ seats.clock ∷ seats.session ∷ []) = (
      h.flusher,
      (
        h.line,
        (
          subst (λ (j : ℕ). IsHere p j seats.clock) two h.clock,
          (subst (λ (j : ℕ). IsHere p j seats.session) three h.session, tt),
        ),
      ),
    )
    in
    seats_append p 0 seats.callers.items (seats.flusher ∷ seats.line ∷ seats.clock ∷ seats.session ∷ []) h.callers
    (subst (λ (j : ℕ). AreSeats p j (seats.flusher ∷ seats.line ∷ seats.clock ∷ seats.session ∷ []))
    (sym h.count ∙ sym (zero-add (length seats.callers.items))) four)

each_here : (p : SharedPort) (n : ℕ) (ss : List PortSeat)
    → AreSeats p n ss
    → EachSeat (λ s. IsHere p (number_of s) s) ss
each_here p n [] h = tt
each_here p n (s ∷ ss) h = (subst (λ (k : ℕ). IsHere p k s) (sym h.0.number) h.0, each_here p (n + 1) ss h.1)

are_numbered : (p : SharedPort) (n : ℕ) (ss : List PortSeat) → AreSeats p n ss → AreNumbered n ss
are_numbered p n [] h = tt
are_numbered p n (s ∷ ss) h = (h.0.number, are_numbered p (n + 1) ss h.1)

pub gathered_here : (p : SharedPort) (seats : Seats) (all : List PortSeat)
    → AreBack p seats
    → all ≡ all_seats seats
    → EachSeat (λ s. IsHere p (number_of s) s) all
gathered_here p seats all h is = subst (EachSeat (λ s. IsHere p (number_of s) s)) (sym is)
    (each_here p 0 (all_seats seats) (all_are_seats p seats h))

pub gathered_all : (p : SharedPort) (seats : Seats) (all : List PortSeat)
    → AreBack p seats
    → all ≡ all_seats seats
    → HasAll ((name_of_port p).callers + 4) all
gathered_all p seats all h is =
    let count : length (all_seats seats) ≡ (name_of_port p).callers + 4 =
    omega (
      arith,
      h.count,
      length-append seats.callers.items (seats.flusher ∷ seats.line ∷ seats.clock ∷ seats.session ∷ []),
    ) in
    subst (HasAll ((name_of_port p).callers + 4)) (sym is)
    (subst (λ (n : ℕ). HasAll n (all_seats seats)) count
    (has_numbered (all_seats seats) (are_numbered p 0 (all_seats seats) (all_are_seats p seats h))))

-- the sharing ended with all seats, taken from behind what they were kept beside
pub closed_with : (p q : SharedPort) (seats : Seats) (all : List PortSeat) (w : PortValue)
    → q ≡ p
    → all ≡ all_seats seats
    → IsPort w
    → name_in (name_of_port q).callers w ≡ name_of_port q
    → EachSeat (HasAllOf (history_in (name_of_port q).callers w)) all
    → IsHistoryOf (name_of_port q).callers w (history_in (name_of_port q).callers w)
    → IsClosed p seats w
closed_with p q seats all w same are port name each history =
    subst (λ (s : SharedPort). IsClosed s seats w) same
    (record {
      port = port;
      name = name;
      all = subst (EachSeat (HasAllOf (history_in (name_of_port q).callers w))) are each;
      history = history;
    })

-- what is taken of what was kept
pub taken_of : (come back : CrewBack) (session : PortSeat) (end : PhaseEnd)
    → back ≡ come
    → IsEndBy come end
    → AreTaken come session (record {
      seats = record {
        callers = back.callers.seats;
        flusher = back.flusher.seat;
        line = back.line.receiver.seat;
        clock = back.clock.seat;
        session = session;
      };
      line = back.line.receiver.line;
      putter = back.line.receiver.putter;
      end = end;
    })
taken_of come back session end same ends =
    record {
      callers_are = ap (λ (c : CrewBack). c.callers.seats.items) same;
      flusher_is = ap (λ (c : CrewBack). c.flusher.seat) same;
      line_is = ap (λ (c : CrewBack). c.line.receiver.seat) same;
      clock_is = ap (λ (c : CrewBack). c.clock.seat) same;
      session_is = refl;
      played_is = ap (λ (c : CrewBack). c.line.receiver.line) same;
      putter_is = ap (λ (c : CrewBack). c.line.receiver.putter) same;
      ends = ends;
    }

-- ---- who saw a full journal

saw_left : (name : Name) (ss ts : List PortSeat) → SomeSawFull name ss → SomeSawFull name (ss ++ ts)
saw_left name [] ts h = absurd h
saw_left name (s ∷ ss) ts (inl h) = inl h
saw_left name (s ∷ ss) ts (inr h) = inr (saw_left name ss ts h)

saw_right : (name : Name) (ss ts : List PortSeat) → SomeSawFull name ts → SomeSawFull name (ss ++ ts)
saw_right name [] ts h = h
saw_right name (s ∷ ss) ts h = inr (saw_right name ss ts h)

either_on : (result : Result (Unit {0}) Denied) (P Q : Type 0) → OnOk result P → OnErr result Q → P ⊎ Q
either_on (Ok v) P Q ok err = inl ok
either_on (Err d) P Q ok err = inr err

abbrev NextOr : Option ℕ → Type 0 → (ℕ → Type 0) → Type 0
NextOr None A P = A
NextOr (Some n) A P = P n

next_or : (result : Result ℕ Denied) (next : Option ℕ) (P : ℕ → Type 0) (F : Denied → Type 0)
    → IsNextTold result next
    → IfOk result P
    → IfErr result F
    → NextOr next (F denied.Full) P
next_or (Ok n) (Some next) P F told ok err = subst P (sym told) ok
next_or (Ok n) None P F told ok err = absurd told
next_or (Err denied.Full) (Some next) P F told ok err = absurd told
next_or (Err denied.Full) None P F told ok err = err
next_or (Err denied.NoMemory) next P F told ok err = absurd told

abbrev OverOr : PhaseEnd → Type 0 → (ℕ → Type 0) → Type 0
OverOr (Over n) A P = P n
OverOr Full A P = A

-- what all come to, where each that did not see a full journal played its part
ends_told : (next : Option ℕ) (a b c : Bool) (A B C D P Q R X : Type 0) (S Y : ℕ → Type 0) → (A → X) → (B → X) → (C → X)
    → (D → X)
    → ((n : ℕ) → P → Q → R → S n → Y n)
    → MatchBool a A P
    → MatchBool b B Q
    → MatchBool c C R
    → NextOr next D S
    → OverOr (end_of next (a || (b || c))) X Y
ends_told None a b c A B C D P Q R X S Y f g h i all p q r n = i n
ends_told (Some k) true b c A B C D P Q R X S Y f g h i all p q r n = f p
ends_told (Some k) false true c A B C D P Q R X S Y f g h i all p q r n = g q
ends_told (Some k) false false true A B C D P Q R X S Y f g h i all p q r n = h r
ends_told (Some k) false false false A B C D P Q R X S Y f g h i all p q r n = all k p q r n

from_told : (p : SharedPort) (crew : Crew) (back : PhaseBack) (end : PhaseEnd)
    → OverOr end (AreStopped p crew back) (PartsArePlayed p crew back)
    → Tells p crew back end
from_told p crew back (Over n) h = h
from_told p crew back Full h = h

module _ (p : SharedPort) (crew : Crew) (rest : PortSeat) (come : CrewBack) (back : PhaseBack) (can : CanRun p crew)
    (fresh : AreDealt p (seats_of crew rest)) (comes : CrewComes p crew come) (taken : AreTaken come rest back) where
  abbrev m : ℕ
  m = (name_of_port p).callers

  abbrev start : List (Stamped EntryWithCall)
  start = opening_history p

  abbrev roles : List (Option PlainRole)
  roles = cast_of crew.callers

  abbrev steps : List LineStep
  steps = crew.line.steps.now.items

  abbrev ticks : ℕ
  ticks = crew.clock.ticks

  abbrev line : LineState
  line = crew.line.receiver.line

  abbrev putter : PutterState Flagged
  putter = crew.line.receiver.putter

  abbrev seen : List (Stamped EntryWithCall)
  seen = list_seen crew.line.receiver.seat

  abbrev played : Receiver
  played = come.line.receiver

  callers_back : EachCaller (IsBack p) 0 roles back.seats.callers.items
  callers_back = subst (EachCaller (IsBack p) 0 roles) (sym taken.callers_are) comes.callers.back_all

  are_back : AreBack p back.seats
  are_back = record {
    callers = seats_of_callers p 0 roles back.seats.callers.items callers_back;
    count =
        each_length (IsBack p) 0 roles back.seats.callers.items callers_back
        ∙ (cast_length crew.callers.scripts.now crew.callers.cast.now ∙ (sym can.callers.count ∙ fresh.count));
    flusher = subst (IsHere p m) (sym taken.flusher_is) comes.flusher.here;
    line = subst (IsHere p (m + 1)) (sym taken.line_is) comes.line.here;
    clock = subst (IsHere p (m + 2)) (sym taken.clock_is) comes.clock.here;
    session = subst (IsHere p (m + 3)) (sym taken.session_is) fresh.session.here;
  }

  abbrev LinePlays : Type 0
  LinePlays = PlaysLine (m + 1) steps line back.line putter back.putter start back.seats.line

  abbrev LineRuns : Type 0
  LineRuns = RunsLine steps line back.line putter back.putter

  abbrev ClockPlays : Type 0
  ClockPlays = PlaysClock (m + 2) ticks start back.seats.clock

  abbrev ClockStops : Type 0
  ClockStops = StopsClock (m + 2) ticks start back.seats.clock

  line_plays : PlaysLine (m + 1) steps line played.line putter played.putter seen played.seat → LinePlays
  line_plays h =
      subst (λ (xs : List (Stamped EntryWithCall)).
      PlaysLine (m + 1) steps line back.line putter back.putter xs back.seats.line) fresh.line.seen
      (subst (λ (q : PutterState Flagged). PlaysLine (m + 1) steps line back.line putter q seen back.seats.line)
      (sym taken.putter_is)
      (subst (λ (l : LineState). PlaysLine (m + 1) steps line l putter played.putter seen back.seats.line)
      (sym taken.played_is)
      (subst (λ (s : PortSeat). PlaysLine (m + 1) steps line played.line putter played.putter seen s)
      (sym taken.line_is) h)))

  line_runs : RunsLine steps line played.line putter played.putter → LineRuns
  line_runs h =
      subst (λ (q : PutterState Flagged). RunsLine steps line back.line putter q) (sym taken.putter_is)
      (subst (λ (l : LineState). RunsLine steps line l putter played.putter) (sym taken.played_is) h)

  clock_plays : PlaysClock (m + 2) ticks (list_seen crew.clock.seat) come.clock.seat → ClockPlays
  clock_plays h =
      subst (λ (xs : List (Stamped EntryWithCall)). PlaysClock (m + 2) ticks xs back.seats.clock) fresh.clock.seen
      (subst (PlaysClock (m + 2) ticks (list_seen crew.clock.seat)) (sym taken.clock_is) h)

  clock_stops : StopsClock (m + 2) ticks (list_seen crew.clock.seat) come.clock.seat → ClockStops
  clock_stops h =
      subst (λ (xs : List (Stamped EntryWithCall)). StopsClock (m + 2) ticks xs back.seats.clock) fresh.clock.seen
      (subst (StopsClock (m + 2) ticks (list_seen crew.clock.seat)) (sym taken.clock_is) h)

  map_either : {A B P Q : Type 0} → (A → P) → (B → Q) → A ⊎ B → P ⊎ Q
  map_either f g (inl a) = inl (f a)
  map_either f g (inr b) = inr (g b)

  line_either : LinePlays ⊎ LineRuns
  line_either = map_either line_plays line_runs (either_on come.line.result _ _ comes.line.ok comes.line.err)

  clock_either : ClockPlays ⊎ ClockStops
  clock_either = map_either clock_plays clock_stops (either_on come.clock.result _ _ comes.clock.ok comes.clock.err)

  abbrev Stopped : Type 0
  Stopped = AreStopped p crew back

  stopped : SomeSawFull (name_of_port p) (all_seats back.seats) → Stopped
  stopped h = record { full = h; line_runs = line_either; clock = clock_either }

  abbrev limit : ℕ
  limit = (name_of_port p).limit

  by_callers : SomeSawFull (name_of_port p) come.callers.seats.items → Stopped
  by_callers h = stopped (saw_left (name_of_port p) back.seats.callers.items
      (back.seats.flusher ∷ back.seats.line ∷ back.seats.clock ∷ back.seats.session ∷ [])
      (subst (SomeSawFull (name_of_port p)) (sym taken.callers_are) h))

  by_flusher : length (list_seen come.flusher.seat) ≡ limit → Stopped
  by_flusher h = stopped (saw_right (name_of_port p) back.seats.callers.items
      (back.seats.flusher ∷ back.seats.line ∷ back.seats.clock ∷ back.seats.session ∷ [])
      (inl (ap (λ (s : PortSeat). length (list_seen s)) taken.flusher_is ∙ h)))

  by_line : (length (list_seen played.seat) ≡ limit) × RunsLine steps line played.line putter played.putter → Stopped
  by_line h = stopped (saw_right (name_of_port p) back.seats.callers.items
      (back.seats.flusher ∷ back.seats.line ∷ back.seats.clock ∷ back.seats.session ∷ [])
      (inr (inl (ap (λ (s : PortSeat). length (list_seen s)) taken.line_is ∙ h.0))))

  by_clock : (length (list_seen come.clock.seat) ≡ limit)
      × StopsClock (m + 2) ticks (list_seen crew.clock.seat) come.clock.seat
      → Stopped
  by_clock h = stopped (saw_right (name_of_port p) back.seats.callers.items
      (back.seats.flusher ∷ back.seats.line ∷ back.seats.clock ∷ back.seats.session ∷ [])
      (inr (inr (inl (ap (λ (s : PortSeat). length (list_seen s)) taken.clock_is ∙ h.0)))))

  all_played : (n : ℕ)
      → EachCaller (PlayedAs p) 0 roles come.callers.seats.items
      → PlaysLine (m + 1) steps line played.line putter played.putter seen played.seat
      → PlaysClock (m + 2) ticks (list_seen crew.clock.seat) come.clock.seat
      → PlaysFlusher (name_of_port p) crew.flusher.run crew.flusher.seat n come.flusher.seat
      → PartsArePlayed p crew back n
  all_played n all l c f = record {
    callers = subst (EachCaller (PlayedAs p) 0 roles) (sym taken.callers_are) all;
    flusher = subst (PlaysFlusher (name_of_port p) crew.flusher.run crew.flusher.seat n) (sym taken.flusher_is) f;
    line_plays = line_plays l;
    clock = clock_plays c;
  }

  told : OverOr (end_of taken.ends.next (come.callers.full || (taken.ends.line_full || taken.ends.clock_full))) Stopped
      (PartsArePlayed p crew back)
  told =
      ends_told taken.ends.next come.callers.full taken.ends.line_full taken.ends.clock_full _ _ _ _ _ _ _ Stopped _
      (PartsArePlayed p crew back)
      by_callers by_line by_clock by_flusher all_played comes.callers.told
      (either_told come.line.result taken.ends.line_full _ _ (λ d. IsFull (name_of_port p) d (list_seen played.seat))
      taken.ends.line_told comes.line.ok comes.line.err comes.line.full)
      (either_told come.clock.result taken.ends.clock_full _ _
      (λ d. IsFull (name_of_port p) d (list_seen come.clock.seat))
      taken.ends.clock_told comes.clock.ok comes.clock.err comes.clock.full)
      (next_or come.flusher.result taken.ends.next _ (λ d. IsFull (name_of_port p) d (list_seen come.flusher.seat))
      taken.ends.next_told comes.flusher.ok comes.flusher.full)

  pub threads_come : ThreadsCome p crew back
  threads_come = record {
    seats = are_back;
    callers = callers_back;
    session = ap list_seen taken.session_is ∙ fresh.session.seen;
    told = from_told p crew back back.end
        (subst (λ (end : PhaseEnd). OverOr end Stopped (PartsArePlayed p crew back)) (sym taken.ends.end_is) told);
  }
