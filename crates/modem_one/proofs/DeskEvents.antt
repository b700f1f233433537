-- The desk of a port, by each entry and each event.
use Rattle.std.proofs.Common.{◌≡◌, ◌≤◌, ℕ, ◌+◌, ◌-◌, Bool, true, false, not, ◌&&◌, List, [], ◌∷◌, ◌++◌}
use Rattle.std.proofs.Common.{Option, None, Some, length, if◌then◌else◌, refl, sym, ap, ◌∙◌, subst, arith}
use Rattle.std.proofs.Common.{length-append, append_assoc}
use Rattle.std.specs.Prelude.{slice_get, ◌==◌, ◌||◌, slice_set}
use Rattle.std.specs.List.{list_all}
use Rattle.std.proofs.lemmas.Bool.{false≢true}
use Rattle.tty_calls.specs.Plain.{PlainCall, hangs_up, PlainAnswer, done, idle, PlainEntry}
use Rattle.tty_calls.specs.Sessions.{PlainSession}
use Rattle.tty_calls.specs.declared.journals.Who.TheVariants.{Caller}
use Rattle.tty_terminal.specs.Terminals.{Terminal, caller_at, handle_at, has_begun, live_count}
use Rattle.tty_terminal.specs.Steps.{nothing_to_flush}
use Rattle.port_core.specs.Ports.{PortValue, IsPort, call_in}
use Rattle.legal_runs.specs.Order.{is_waiting}
use Rattle.play_base.specs.Roles.{Scene}
use Rattle.one_thread.specs.Turns.{IsKeptCall}
use Rattle.order_laws.specs.Agreed.{Agrees, IsLike}
use Rattle.legal_runs.proofs.NameLemmas.{get_past}
use Rattle.passed_calls.specs.Journals.{Journal, terminal_at, IsAnswerAt}
use Rattle.passed_calls.specs.Scripts.{plain, further}
use Rattle.order_laws.specs.Begun.{begun_at}
use Rattle.order_laws.specs.Later.{IsLater, ComesBy, WasAnswered}
use Rattle.order_laws.specs.Witness.{scene_on}
use Rattle.order_laws.proofs.Laters.{later_before, terminal_now}
use Rattle.modem_lines.specs.Lines.{Lines, with_pin, loses_carrier}
use Rattle.modem_lines.specs.declared.pins.Pin.{Pin}
use Rattle.modem_text.specs.declared.items.OwnCall.{OwnCall}
use Rattle.modem_text.specs.Events.{ModemEvent, pin_set, own, passed, carrier_lost, ModemLog}
use Rattle.modem_text.specs.Sessions.{ModemCall, ModemSession}
use Rattle.modem_steps.specs.Derived.{carrier_on, call_in_phase}
use Rattle.modem_steps.specs.Steps.{Port, ModemState, modem_handle, modem_gives, through, next_call, callers_in}
use Rattle.modem_steps.specs.Steps.{waits_for_carrier, nobody_goes_on, is_held_up, least_live, items_from}
use Rattle.modem_steps.specs.Steps.{OwnAnswer, IsOwn, IsForPort, IsOfCall, IsAllowed, lines_after_own}
use Rattle.modem_steps.specs.Steps.{lines_after_answer, after_event}
use Rattle.modem_steps.specs.Order.{goes_on, sets_pin, is_told, own_turn, can_go_on, open_is_held, modem_turn}
use Rattle.modem_steps.specs.Order.{IsEventInTurn}
use Rattle.modem_one.specs.Desk.{DeskState, step_of, controlled, told_idle, answered_passed, pinned}
use Rattle.modem_one.specs.Desk.{hung_up_through, state_at}
use Rattle.modem_one.specs.Controls.{has_live}
use Rattle.modem_one.specs.Later.{port_with, HasLogged, HasOrdered, IsDeskAt}
use Rattle.modem_one.specs.Turns.{port_now}
use Rattle.modem_one.proofs.Logging.{logs, log_stays}
use Rattle.modem_one.proofs.Ordering.{here, event_more, entry_more, IsEntryInTurn}
use Rattle.modem_one.proofs.Ranks.{NoneIn, AllInVain, all_held}
use Rattle.modem_one.proofs.Settled.{settled_answer}
use Rattle.modem_one.proofs.Whose.{goes_same}

-- ---- an entry

pub desk_entry : (first : Scene) (session : ModemSession) (v w : PortValue) (d : DeskState) (e : PlainEntry)
    → ComesBy v w (e ∷ [])
    → (h : IsDeskAt first session v d [])
    → IsEntryInTurn first session v w (state_at d h.at_entry []) e
    → IsDeskAt first session w d []
desk_entry first session v w d e by h it = record {
  number = h.number;
  at_entry = h.at_entry;
  logged = log_stays first.port session d.log v w (e ∷ []) (state_at d h.at_entry []) by h.logged;
  ordered = entry_more first session d.log v w (state_at d h.at_entry []) e by h.logged h.ordered it;
  late = λ hangup is. absurd (cc);
}

-- ---- an event

-- a desk that noted an event, which may be logged, and is in its turn, whatever comes
pub record Notes (first : Scene) (session : ModemSession) (v : PortValue) (d x : DeskState) (at : ℕ)
    (due behind : List ℕ) (event : ModemEvent) : Type 0 where
  pub number : x.number ≡ d.number
  pub log : x.log ≡ d.log ++ record { port = d.number; at = length v.journal; event = event } ∷ []
  pub allowed : (j : Journal)
      → IsLater v j
      → IsAllowed (port_with first.port session j) (state_at d at due) (length v.journal) event
  pub comes : (j : Journal)
      → IsLater v j
      → after_event (port_with first.port session j) (state_at d at due) (length v.journal) event
      ≡ state_at x (length v.journal) behind
  pub turn : (played : PlainSession)
      → IsLike first (scene_on first.port played)
      → Agrees (scene_on first.port played) v
      → (j : Journal)
      → IsLater v j
      → IsEventInTurn played (port_with first.port session j) (state_at d at due) (here first played v) event

pub desk_notes : (first : Scene) (session : ModemSession) (v : PortValue) (d x : DeskState) (at : ℕ)
    (due behind : List ℕ) (event : ModemEvent)
    → first.port ≡ d.number
    → HasLogged first.port session d.log v (state_at d at due)
    → HasOrdered first session d.log v
    → Notes first session v d x at due behind event
    → IsDeskAt first session v x behind
desk_notes first session v d x at due behind event number logged ordered h =
    let n = length v.journal in
    let log_is : d.log ++ record { port = first.port; at = n; event = event } ∷ [] ≡ x.log =
    ap (λ (q : ℕ). d.log ++ record { port = q; at = n; event = event } ∷ []) number ∙ sym h.log in record {
      number = number ∙ sym h.number;
      at_entry = n;
      logged = subst (λ (log : ModemLog). HasLogged first.port session log v (state_at x n behind)) log_is
          (logs first.port session d.log v (state_at d at due) (state_at x n behind) event logged h.allowed h.comes
          (omega arith));
      ordered = subst (λ (log : ModemLog). HasOrdered first session log v) log_is
          (event_more first session d.log v (state_at d at due) event logged ordered h.turn);
      late = λ hangup is. refl;
    }

-- ---- a call of modem lines

pub notes_own : (first : Scene) (session : ModemSession) (v : PortValue) (d : DeskState) (at c : ℕ) (call : OwnCall)
    → IsPort v
    → begun_at v c ≡ false
    → call_in_phase first.port session v.terminal.phase c (step_of d c) ≡ Some (further call)
    → ((played : PlainSession)
    → IsLike first (scene_on first.port played)
    → Agrees (scene_on first.port played) v
    → (j : Journal)
    → IsLater v j
    → (modem_turn played (port_with first.port session j) (state_at d at []) (here first played v)
    ≡ goes_on (Caller c)) × ((here first played v).terminal ≡ v.terminal))
    → Notes first session v d (controlled d v c call) at [] []
    (own c (step_of d c) (through (handle_at v.terminal (modem_handle call)) (modem_gives d.lines call)))
notes_own first session v d at c call port rest has turns =
    let s = state_at d at [] in
    let n = length v.journal in
    let answer = through (handle_at v.terminal (modem_handle call)) (modem_gives d.lines call) in
    let x = controlled d v c call in record {
      number = refl;
      log = refl;
      allowed = λ j later.
          let its = port_with first.port session j in
          subst (λ (t : Terminal). IsOwn its s t c (step_of d c) answer) (sym (terminal_now v j port later)) (record {
            nothing_due = refl;
            next = refl;
            between = rest;
            answers = subst (λ (o : Option ModemCall). OwnAnswer its s v.terminal c o answer) (sym has) refl;
          });
      comes = λ j later.
          ap (λ (lines : Lines). record {
            lines = lines;
            at = n;
            items = d.items;
            next = slice_set d.next c (step_of d c + 1);
            due = [];
          })
          (ap (λ (t : Terminal). lines_after_own d.lines t (next_call (port_with first.port session j) s t c))
          (terminal_now v j port later)
          ∙ ap (λ (o : Option ModemCall). lines_after_own d.lines v.terminal o) has);
      turn = λ played like agrees j later.
          let it = turns played like agrees j later in
          it.0
          ∙ sym (ap (λ (t : Terminal). own_turn (next_call (port_with first.port session j) s t c) c) it.1
          ∙ ap (λ (o : Option ModemCall). own_turn o c) has);
    }

-- ---- an open that is told that no carrier comes

told_answer : (its : Port) (s : ModemState) (t : Terminal) (c : ℕ) (o : Option ModemCall)
    → waits_for_carrier s.lines t o ≡ true
    → nobody_goes_on its s t c ≡ true
    → OwnAnswer its s t c o idle
told_answer its s t c None waits nobody = absurd (false≢true waits)
told_answer its s t c (Some (plain call)) waits nobody = (refl, waits, nobody)
told_answer its s t c (Some (further call)) waits nobody = absurd (false≢true waits)

told_lines : (lines : Lines) (t : Terminal) (o : Option ModemCall)
    → waits_for_carrier lines t o ≡ true
    → lines_after_own lines t o ≡ lines
told_lines lines t None waits = refl
told_lines lines t (Some (plain call)) waits = refl
told_lines lines t (Some (further call)) waits = absurd (false≢true waits)

told_turn : (lines : Lines) (t : Terminal) (o : Option ModemCall) (c : ℕ)
    → waits_for_carrier lines t o ≡ true
    → own_turn o c ≡ is_told c
told_turn lines t None c waits = absurd (false≢true waits)
told_turn lines t (Some (plain call)) c waits = refl
told_turn lines t (Some (further call)) c waits = absurd (false≢true waits)

all_five : (a b c d e : Bool)
    → a ≡ true
    → b ≡ true
    → c ≡ true
    → d ≡ true
    → e ≡ true
    → (a && b && c && d && e) ≡ true
all_five a b c d e p q r s t = λ i. p i && q i && r i && s i && t i

none_same : (f g : ℕ → Bool) (cs : List ℕ) → ((c : ℕ) → f c ≡ g c) → NoneIn f cs → NoneIn g cs
none_same f g [] same h = tt
none_same f g (c ∷ cs) same h = (sym (same c) ∙ h.0, none_same f g cs same h.1)

right_true : (a b : Bool) → (a && b) ≡ true → b ≡ true
right_true true b e = e
right_true false b e = absurd (false≢true e)

pub notes_told : (first : Scene) (session : ModemSession) (v : PortValue) (d : DeskState) (at c : ℕ)
    → IsPort v
    → begun_at v c ≡ false
    → v.terminal.line_over ≡ true
    → ((x : ℕ) → is_waiting v.terminal x ≡ true → IsKeptCall v.kept x (caller_at v.terminal x).next)
    → AllInVain (port_now first.port session v) (state_at d 0 []) v.terminal
    → open_is_held (port_now first.port session v) (state_at d 0 []) v.terminal c ≡ true
    → ((played : PlainSession)
    → IsLike first (scene_on first.port played)
    → Agrees (scene_on first.port played) v
    → (j : Journal)
    → IsLater v j
    → (modem_turn played (port_with first.port session j) (state_at d at []) (here first played v) ≡ is_told c)
    × ((here first played v).terminal ≡ v.terminal))
    → Notes first session v d (told_idle d (length v.journal) c) at [] [] (own c (step_of d c) idle)
notes_told first session v d at c port rest line kept vain held turns =
    let s = state_at d at [] in
    let n = length v.journal in
    let call = call_in_phase first.port session v.terminal.phase c (step_of d c) in
    let waits : waits_for_carrier d.lines v.terminal call ≡ true =
    right_true (not (caller_at v.terminal c).over) (waits_for_carrier d.lines v.terminal call) held in record {
      number = refl;
      log = refl;
      allowed = λ j later.
          let its = port_with first.port session j in
          let held_all = none_same (can_go_on (port_now first.port session v) s v.terminal)
          (can_go_on its s v.terminal) (callers_in its v.terminal.phase)
          (λ x. sym (goes_same v j d.lines (next_call its s v.terminal x) x later (kept x))) vain.rest.none_can in
          subst (λ (t : Terminal). IsOwn its s t c (step_of d c) idle) (sym (terminal_now v j port later)) (record {
            nothing_due = refl;
            next = refl;
            between = rest;
            answers = told_answer its s v.terminal c call waits
                (all_five v.terminal.line_over v.terminal.clock_over
                (caller_at v.terminal (carrier_on first.port session)).over (nothing_to_flush v.terminal)
                (list_all (λ other. (other == c) || is_held_up its s v.terminal other)
                (callers_in its v.terminal.phase)) line vain.clock vain.carrier vain.rest.idle
                (all_held its s v.terminal c (callers_in its v.terminal.phase) held_all));
          });
      comes = λ j later.
          ap (λ (lines : Lines). record {
            lines = lines;
            at = n;
            items = d.items;
            next = slice_set d.next c (step_of d c + 1);
            due = [];
          })
          (ap (λ (t : Terminal). lines_after_own d.lines t (next_call (port_with first.port session j) s t c))
          (terminal_now v j port later)
          ∙ told_lines d.lines v.terminal call waits);
      turn = λ played like agrees j later.
          let it = turns played like agrees j later in
          it.0
          ∙ sym (ap (λ (t : Terminal). own_turn (next_call (port_with first.port session j) s t c) c) it.1
          ∙ told_turn d.lines v.terminal call c waits);
    }

-- ---- an item of the modem block

pub notes_pin : (first : Scene) (session : ModemSession) (v : PortValue) (d : DeskState) (at : ℕ) (pin : Pin)
    (up : Bool)
    → IsPort v
    → (caller_at v.terminal (carrier_on first.port session)).over ≡ false
    → begun_at v (carrier_on first.port session) ≡ false
    → slice_get (items_from first.port 0 session.phases) d.items
    ≡ Some (record { phase = v.terminal.phase; step = record { pin = pin; up = up } })
    → ((played : PlainSession)
    → IsLike first (scene_on first.port played)
    → Agrees (scene_on first.port played) v
    → (j : Journal)
    → IsLater v j
    → modem_turn played (port_with first.port session j) (state_at d at []) (here first played v) ≡ sets_pin)
    → Notes first session v d (pinned d (length v.journal) pin up) at []
    (if loses_carrier d.lines pin up then least_live v.terminal else []) (pin_set pin up)
notes_pin first session v d at pin up port runs rest item turns =
    let s = state_at d at [] in
    let n = length v.journal in record {
      number = refl;
      log = refl;
      allowed = λ j later.
          let its = port_with first.port session j in
          let same = sym (terminal_now v j port later) in record {
            nothing_due = refl;
            in_block = subst (λ (t : Terminal). (caller_at t (carrier_on first.port session)).over ≡ false) same runs;
            between = subst (λ (t : Terminal). has_begun (caller_at t (carrier_on first.port session)) ≡ false) same
                rest;
            item = subst (λ (t : Terminal).
                slice_get (items_from first.port 0 session.phases) d.items
                ≡ Some (record { phase = t.phase; step = record { pin = pin; up = up } })) same item;
          };
      comes = λ j later.
          ap (λ (due : List ℕ). record {
            lines = with_pin d.lines pin up;
            at = n;
            items = d.items + 1;
            next = d.next;
            due = due;
          })
          (ap (λ (t : Terminal). if loses_carrier d.lines pin up then least_live t else [])
          (terminal_now v j port later));
      turn = turns;
    }

-- ---- an answer of the port

abbrev answer_at : (w : PortValue) (c step : ℕ) (answer : PlainAnswer) (j : Journal)
    → WasAnswered w c step answer
    → IsLater w j
    → IsAnswerAt j c (length w.journal) answer
answer_at w c step answer j was later =
    let n = length w.journal in
    let count : n ≡ length was.before + 1 =
    ap (λ (es : List PlainEntry). length es) was.last ∙ length-append was.before (was.entry ∷ []) in record {
      entry = was.entry;
      some = omega (arith, count);
      stands = ap (λ (es : List PlainEntry). slice_get es (n - 1)) (later.entries
          ∙ (ap (λ (es : List PlainEntry). es ++ later.rest) was.last
          ∙ append_assoc was.before (was.entry ∷ []) later.rest))
          ∙ get_past was.before (was.entry ∷ later.rest) (n - 1) 0 (omega (arith, count));
      is_answer = was.is_answer;
    }

-- its call is known to each journal to which the port can come
of_step : (w : PortValue) (c step : ℕ) (call : PlainCall) (answer : PlainAnswer) (j : Journal)
    → (was : WasAnswered w c step answer)
    → IsLater w j
    → call_in w.kept c step ≡ Some call
    → j.calls c was.entry.step ≡ Some call
of_step w c step call answer j was later kept =
    ap (λ (n : ℕ). j.calls c n) was.of_step ∙ later.calls c step call kept

count_before : (v w : PortValue) (e : PlainEntry) → ComesBy v w (e ∷ []) → length w.journal - 1 ≡ length v.journal
count_before v w e by =
    omega (arith, ap (λ (es : List PlainEntry). length es) by.added, length-append v.journal (e ∷ []))

-- the lines with which the call went on, and those behind its answer
lines_then : (v w : PortValue) (e : PlainEntry) (lines : Lines) (o : Option ModemCall) (answer : PlainAnswer)
    (j : Journal)
    → IsPort v
    → IsPort w
    → ComesBy v w (e ∷ [])
    → IsLater w j
    → lines_after_answer lines (live_count (terminal_at j (length w.journal - 1)))
    (live_count (terminal_at j (length w.journal))) o answer
    ≡ lines_after_answer lines (live_count v.terminal) (live_count w.terminal) o answer
lines_then v w e lines o answer j port behind by later =
    let before : length w.journal - 1 ≡ length v.journal = count_before v w e by in
    (λ i. lines_after_answer lines (live_count (terminal_at j (before i)))
    (live_count (terminal_now w j behind later i)) o answer)
    ∙ ap (λ (t : Terminal). lines_after_answer lines (live_count t) (live_count w.terminal) o answer)
    (terminal_now v j port (later_before v w (e ∷ []) j by later))

pub notes_passed : (first : Scene) (session : ModemSession) (v w : PortValue) (d : DeskState) (e : PlainEntry)
    (at c step : ℕ) (call : PlainCall) (answer : PlainAnswer)
    → IsPort v
    → IsPort w
    → ComesBy v w (e ∷ [])
    → at ≤ length v.journal
    → WasAnswered w c step answer
    → call_in w.kept c step ≡ Some call
    → call_in_phase first.port session w.terminal.phase c (step_of d c) ≡ Some (plain call)
    → waits_for_carrier d.lines v.terminal (Some (plain call)) ≡ false
    → Notes first session w d (answered_passed d w (has_live v.terminal) c call answer) at [] []
    (passed c (step_of d c) answer)
notes_passed first session v w d e at c step call answer port behind by low was kept has goes =
    let s = state_at d at [] in
    let n = length w.journal in
    let longer : n ≡ length v.journal + 1 =
    ap (λ (es : List PlainEntry). length es) by.added ∙ length-append v.journal (e ∷ []) in record {
      number = refl;
      log = refl;
      allowed = λ j later.
          let its = port_with first.port session j in
          let here_call : next_call its s (terminal_at j n) c ≡ Some (plain call) =
          ap (λ (t : Terminal). next_call its s t c) (terminal_now w j behind later) ∙ has in record {
            nothing_due = refl;
            next = refl;
            for_port = subst IsForPort (sym here_call) tt;
            entry = answer_at w c step answer j was later;
            at_once = omega (arith, low, longer);
            of_call = subst (IsOfCall its c was.entry.step) (sym here_call)
                (of_step w c step call answer j was later kept);
            not_held_up =
                (λ i. waits_for_carrier d.lines (terminal_at j (count_before v w e by i)) (here_call i))
                ∙ (ap (λ (t : Terminal). waits_for_carrier d.lines t (Some (plain call)))
                (terminal_now v j port (later_before v w (e ∷ []) j by later)) ∙ goes);
          };
      comes = λ j later.
          ap (λ (lines : Lines). record {
            lines = lines;
            at = n;
            items = d.items;
            next = slice_set d.next c (step_of d c + 1);
            due = [];
          })
          (lines_then v w e d.lines (next_call (port_with first.port session j) s (terminal_at j n) c) answer j port
          behind
          by later
          ∙ (ap (λ (o : Option ModemCall).
          lines_after_answer d.lines (live_count v.terminal) (live_count w.terminal) o answer)
          (ap (λ (t : Terminal). next_call (port_with first.port session j) s t c) (terminal_now w j behind later)
          ∙ has)
          ∙ settled_answer d.lines v.terminal w.terminal call answer));
      turn = λ played like agrees j later. tt;
    }

-- ---- the hangup of a lost carrier

pub notes_lost : (first : Scene) (session : ModemSession) (v w : PortValue) (d : DeskState) (e : PlainEntry)
    (at step h : ℕ)
    → ComesBy v w (e ∷ [])
    → at ≡ length v.journal
    → WasAnswered w (carrier_on first.port session) step done
    → call_in w.kept (carrier_on first.port session) step ≡ Some (hangs_up h)
    → Notes first session w d (hung_up_through d (length w.journal) h) at (h ∷ []) [] (carrier_lost h)
notes_lost first session v w d e at step h by now was kept =
    let longer : length w.journal ≡ length v.journal + 1 =
    ap (λ (es : List PlainEntry). length es) by.added ∙ length-append v.journal (e ∷ []) in record {
      number = refl;
      log = refl;
      allowed = λ j later. record {
        is_due = refl;
        entry = answer_at w (carrier_on first.port session) step done j was later;
        at_once = omega (arith, now, longer);
        of_call = of_step w (carrier_on first.port session) step (hangs_up h) done j was later kept;
      };
      comes = λ j later. refl;
      turn = λ played like agrees j later. tt;
    }
