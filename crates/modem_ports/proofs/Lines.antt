-- The line of a phase at the desk of a port: its entries are in their turn, which is that of the session that was
-- played.
use Rattle.std.proofs.Common.{◌≡◌, ℕ, ◌+◌, Bool, true, false, not, ◌||◌, List, [], ◌∷◌, ◌++◌, Option, length}
use Rattle.std.proofs.Common.{if◌then◌else◌, refl, sym, ap, ◌∙◌, subst, arith}
use Rattle.std.specs.Prelude.{nat_le}
use Rattle.std.proofs.lemmas.Bool.{false≢true}
use Rattle.tty_calls.specs.Plain.{PlainCall, PlainEvent, answered, parted, waited, flushed, ticked, line_ended}
use Rattle.tty_calls.specs.Plain.{clock_ended, caller_ended, phase_ended, hung_up, PlainEntry}
use Rattle.tty_calls.specs.Sessions.{PlainSession, call_at}
use Rattle.tty_terminal.specs.Terminals.{Terminal}
use Rattle.tty_terminal.specs.Marks.{Marks, marks_of, marks_after, marks_in}
use Rattle.tty_terminal.specs.Runs.{Leads}
use Rattle.tty_terminal.proofs.MarkLaws.{step_marks, leads_marks}
use Rattle.legal_runs.specs.Legal.{line_ends, line_ends_in, session_events, session_events_in}
use Rattle.port_core.specs.Ports.{PortValue}
use Rattle.legal_runs.specs.Order.{Place, first_place, next_place, place_after, turn, AreInTurn}
use Rattle.play_base.specs.Roles.{Scene}
use Rattle.order_laws.specs.Agreed.{Agrees, IsLike}
use Rattle.order_laws.proofs.Agreeing.{before_all}
use Rattle.passed_calls.specs.Logs.{logged_on}
use Rattle.order_laws.specs.Witness.{scene_on}
use Rattle.order_laws.specs.Later.{ComesBy}
use Rattle.order_laws.proofs.Laters.{later_before}
use Rattle.modem_text.specs.Events.{ModemLog}
use Rattle.modem_text.specs.Sessions.{ModemSession}
use Rattle.modem_steps.specs.Steps.{Port}
use Rattle.modem_steps.specs.Order.{Turn, goes_on, AreEntriesInTurn}
use Rattle.modem_one.specs.Desk.{DeskState, state_at}
use Rattle.modem_one.specs.Later.{port_with, IsDeskAt}
use Rattle.modem_one.proofs.Logging.{log_stays}

-- ---- up to the end of a line

-- before each of these entries the line is not over
abbrev pub AreBeforeEnd : (calls : ℕ → ℕ → Option PlainCall) → Place → List PlainEntry → Type 0
AreBeforeEnd f s [] = Unit {0}
AreBeforeEnd f s (e ∷ es) = (s.terminal.line_over ≡ false) × AreBeforeEnd f (next_place f s e) es

none_front : {X : Type 0} (xs ys : List X) → xs ++ ys ≡ [] → xs ≡ []
none_front [] ys h = refl
none_front (x ∷ xs) ys h = absurd (cc)

none_behind : {X : Type 0} (xs ys : List X) → xs ++ ys ≡ [] → ys ≡ []
none_behind [] ys h = h
none_behind (x ∷ xs) ys h = absurd (cc)

some_none : {X : Type 0} (x : X) (xs : List X) → x ∷ xs ≡ [] → ⊥
some_none x xs h = absurd (cc)

stays_open : (event : PlainEvent) (step part : ℕ) (m : Marks)
    → line_ends event ≡ []
    → m.line_over ≡ false
    → (marks_after event step part m).line_over ≡ false
stays_open (answered a dropped) step part m none h = h
stays_open (parted n) step part m none h = h
stays_open waited step part m none h = h
stays_open (flushed chars) step part m none h = h
stays_open ticked step part m none h = h
stays_open (line_ended n) step part m none h = absurd (some_none n [] none)
stays_open clock_ended step part m none h = h
stays_open caller_ended step part m none h = h
stays_open phase_ended step part m none h = refl
stays_open (hung_up dropped) step part m none h = h

stays_over : (event : PlainEvent) (step part : ℕ) (m : Marks)
    → session_events event ≡ []
    → m.line_over ≡ true
    → (marks_after event step part m).line_over ≡ true
stays_over (answered a dropped) step part m none h = h
stays_over (parted n) step part m none h = h
stays_over waited step part m none h = h
stays_over (flushed chars) step part m none h = h
stays_over ticked step part m none h = h
stays_over (line_ended n) step part m none h = refl
stays_over clock_ended step part m none h = h
stays_over caller_ended step part m none h = h
stays_over phase_ended step part m none h = absurd (some_none phase_ended [] none)
stays_over (hung_up dropped) step part m none h = h

all_over : (es : List PlainEntry) (m : Marks)
    → session_events_in es ≡ []
    → m.line_over ≡ true
    → (marks_in es m).line_over ≡ true
all_over [] m none h = h
all_over (e ∷ es) m none h =
    all_over es (marks_after e.event e.step e.part m)
    (none_behind (session_events e.event) (session_events_in es) none)
    (stays_over e.event e.step e.part m (none_front (session_events e.event) (session_events_in es) none) h)

-- a line that is not over was not before
not_yet : (f : ℕ → ℕ → Option PlainCall) (counts : List ℕ) (t u : Terminal) (es : List PlainEntry) (b : Bool)
    → t.line_over ≡ b
    → Leads f counts t es u
    → session_events_in es ≡ []
    → u.line_over ≡ false
    → b ≡ false
not_yet f counts t u es true is leads none open_still =
    let over = all_over es (marks_of t) none is in
    absurd (false≢true (sym open_still ∙ (ap (λ (m : Marks). m.line_over) (leads_marks f counts t es u leads) ∙ over)))
not_yet f counts t u es false is leads none open_still = refl

pub before_stop : (f : ℕ → ℕ → Option PlainCall) (counts : List ℕ) (s : Place) (es : List PlainEntry) (u : Terminal)
    → Leads f counts s.terminal es u
    → session_events_in es ≡ []
    → u.line_over ≡ false
    → AreBeforeEnd f s es
before_stop f counts s [] u leads none open_still = tt
before_stop f counts s (e ∷ es) u leads none open_still = (
  not_yet f counts s.terminal u (e ∷ es) s.terminal.line_over refl leads none open_still,
  before_stop f counts (next_place f s e) es u leads.1
      (none_behind (session_events e.event) (session_events_in es) none) open_still,
)

pub before_end : (f : ℕ → ℕ → Option PlainCall) (counts : List ℕ) (s : Place) (es : List PlainEntry) (last : PlainEntry)
    (u : Terminal)
    → Leads f counts s.terminal (es ++ last ∷ []) u
    → s.terminal.line_over ≡ false
    → line_ends_in es ≡ []
    → AreBeforeEnd f s (es ++ last ∷ [])
before_end f counts s [] last u leads begins none = (begins, tt)
before_end f counts s (e ∷ es) last u leads begins none = (
  begins,
  before_end f counts (next_place f s e) es last u leads.1
      (ap (λ (m : Marks). m.line_over) (step_marks f counts s.terminal e leads.0)
      ∙ stays_open e.event e.step e.part (marks_of s.terminal)
      (none_front (line_ends e.event) (line_ends_in es) none) begins)
      (none_behind (line_ends e.event) (line_ends_in es) none),
)

-- ---- entries in their turn

chosen : (a b : Bool) (x y : Turn) → b ≡ false → (if a || not b then x else y) ≡ x
chosen true b x y e = refl
chosen false true x y e = absurd (false≢true (sym e))
chosen false false x y e = refl

pub entries_in_line : (played : PlainSession) (port : Port) (log : ModemLog) (place : Place) (n : ℕ)
    (es : List PlainEntry)
    → AreInTurn port.number played place es
    → AreBeforeEnd (call_at port.number played) place es
    → AreEntriesInTurn played port log place n es
entries_in_line played port log place n [] turns before = tt
entries_in_line played port log place n (e ∷ es) turns before = (
  chosen (nat_le (length played.phases) place.terminal.phase) place.terminal.line_over
      (goes_on (turn port.number played place)) _ before.0
      ∙ ap goes_on (sym turns.0.by_turn),
  turns.0.piece,
  entries_in_line played port log (next_place (call_at port.number played) place e) (n + 1) es turns.1 before.1,
)

pub entries_both : (played : PlainSession) (port : Port) (log : ModemLog) (place : Place) (n m : ℕ)
    (es part : List PlainEntry)
    → m ≡ n + length es
    → AreEntriesInTurn played port log place n es
    → AreEntriesInTurn played port log (place_after (call_at port.number played) place es) m part
    → AreEntriesInTurn played port log place n (es ++ part)
entries_both played port log place n m [] part is h more =
    let same : m ≡ n = omega (arith, is) in
    subst (λ (i : ℕ). AreEntriesInTurn played port log place i part) same more
entries_both played port log place n m (e ∷ es) part is h more = (
  h.0,
  h.1,
  entries_both played port log (next_place (call_at port.number played) place e) (n + 1) m es part
      (omega (arith, is)) h.2 more,
)

-- ---- the desk

-- where a port stands in a session that may have been played
abbrev pub place_in : Scene → PlainSession → PortValue → Place
place_in first played v = place_after (call_at first.port played) (first_place first.port played) v.journal

pub desk_in_line : (first : Scene) (session : ModemSession) (v w : PortValue) (d : DeskState) (part : List PlainEntry)
    → ComesBy v w part
    → IsDeskAt first session v d []
    → ((played : PlainSession)
    → IsLike first (scene_on first.port played)
    → Agrees (scene_on first.port played) w
    → AreInTurn first.port played (place_in first played v) part
    × AreBeforeEnd (call_at first.port played) (place_in first played v) part)
    → IsDeskAt first session w d []
desk_in_line first session v w d part by h turns =
    let p = first.port in
    record {
      number = h.number;
      at_entry = h.at_entry;
      logged = log_stays p session d.log v w part (state_at d h.at_entry []) by h.logged;
      ordered = record {
        turns = λ played like agrees j later.
            let port = port_with p session j in
            let agreed = before_all (scene_on p played) v w part by.added by.grows agrees in
            let was = h.ordered.turns played like agreed j (later_before v w part j by later) in
            let its = turns played like agrees in
            record {
              entries_are = subst (λ (es : List PlainEntry).
                  AreEntriesInTurn played port (logged_on p d.log) (first_place p played) 0 es) (sym by.added)
                  (entries_both played port (logged_on p d.log) (first_place p played) 0 (length v.journal) v.journal
                  part (omega arith) was.entries_are
                  (entries_in_line played port (logged_on p d.log) (place_in first played v) (length v.journal) part
                  its.0 its.1));
              events_are = was.events_are;
            };
      };
      late = λ x due. absurd (some_none x [] (sym due));
    }
