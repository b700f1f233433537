-- A hangup leaves nothing: nothing is unread, held or live, and output flows.
use Rattle.std.proofs.Common.{◌≡◌, ℕ, List, Bool, true, false, not, ◌&&◌, ◌||◌, Option, None}
use Rattle.std.proofs.Common.{Some, if◌then◌else◌, is_some, length, refl, sym, ap, subst}
use Rattle.tty_base.specs.declared.characters.Flagged.{Flagged}
use Rattle.tty_base.specs.declared.counters.Errno.TheVariants.{EIO}
use Rattle.tty_calls.specs.declared.journals.Who.{Who}
use Rattle.tty_calls.specs.declared.journals.Who.TheVariants.{Caller}
use Rattle.tty_calls.specs.Plain.{PlainCall, hangs_up, done, PlainEvent, answered, hung_up, PlainEntry}
use Rattle.tty_modes.specs.Settings.{Settings, has_flag}
use Rattle.tty_modes.specs.declared.places.TheConstants.{IXOFF, ICANON}
use Rattle.flow_control.specs.Output.{Output, after_reset, is_halted}
use Rattle.n_tty.specs.Flow.{after_ixoff_rule, with_stop_sent}
use Rattle.handle_table.specs.declared.HandleState.{HandleState}
use Rattle.tty_terminal.specs.Terminals.{Terminal, handle_for, caller_at}
use Rattle.tty_terminal.specs.Generations.{after_hangup, HasNothing}
use Rattle.tty_terminal.specs.Outcomes.{Outcome, refuses, on_live}
use Rattle.tty_terminal.specs.Switching.{hangup_outcome}
use Rattle.tty_terminal.specs.Calls.{outcome_of}
use Rattle.tty_terminal.specs.Steps.{quiet, left_by, Answers, IsAllowed, Allowed}
use Rattle.tty_terminal.specs.Steps.{after_answer, with_dropped, after_event, after}
use Rattle.tty_terminal.proofs.BeginLaws.{none_live}

hung : (t : Terminal) (n : ℕ) → HasNothing (with_dropped (after_hangup t) n)
hung t n =
    record {
      fresh = refl;
      unread = refl;
      held = refl;
      flows = refl;
      noted = refl;
      exclusive = refl;
      live = none_live t.handles;
    }

-- after the session's hangup
pub session_leaves_nothing : (f : ℕ → ℕ → Option PlainCall) (t : Terminal) (e : PlainEntry) (dropped : List Flagged)
    → e.event ≡ hung_up dropped
    → HasNothing (after f t e)
session_leaves_nothing f t e dropped is =
    subst (λ (event : PlainEvent). HasNothing (after_event f t e.who e.step e.part event)) (sym is)
    (hung t (length dropped))

-- with nothing unread and no note, the rule for ixoff does nothing
stops_never : (a d : Bool) → (a && true && false && d) ≡ false
stops_never true d = refl
stops_never false d = refl

rests : (modes : Settings) (output : Output) → after_ixoff_rule modes 0 false (after_reset output) ≡ after_reset output
rests modes output =
    ap (λ (b : Bool). if b then with_stop_sent modes (after_reset output) else after_reset output)
    (stops_never (has_flag modes IXOFF) (not (has_flag modes ICANON) || false))

answered_nothing : (t : Terminal) (c n : ℕ) (output : Output)
    → output ≡ after_reset t.output
    → HasNothing (after_answer (with_dropped (record (after_hangup t) { output = output }) n) c)
answered_nothing t c n output is =
    record {
      fresh = refl;
      unread = refl;
      held = ap (λ (o : Output). o.held) is;
      flows = ap is_halted is;
      noted = ap (λ (o : Output). o.noted) is;
      exclusive = refl;
      live = none_live t.handles;
    }

-- what an answer leaves
abbrev left_of : Terminal → (c n : ℕ) → Outcome → Terminal
left_of t c n o = after_answer (with_dropped (left_by o t) n) c

live_case : (t : Terminal) (c n : ℕ) (may live : Bool)
    → Answers may (if live then hangup_outcome t else refuses EIO t) done
    → HasNothing (left_of t c n (if live then hangup_outcome t else refuses EIO t))
live_case t c n may true h = answered_nothing t c n _ (rests t.modes t.output)
live_case t c n may false h = absurd (cc)

-- it was answered Done, so the handle was live
handle_case : (t : Terminal) (c n : ℕ) (may : Bool) (o : Option HandleState)
    → Answers may (on_live t o (hangup_outcome t)) done
    → HasNothing (left_of t c n (on_live t o (hangup_outcome t)))
handle_case t c n may None h = absurd (cc)
handle_case t c n may (Some handle) h = live_case t c n may handle.live h

known_case : (t : Terminal) (c n h : ℕ) (may : Bool) (call : Option PlainCall) → call ≡ Some (hangs_up h)
    → Answers may (outcome_of t (caller_at t c) call) done
    → HasNothing (left_of t c n (outcome_of t (caller_at t c) call))
known_case t c n h may call is answers =
    subst (λ (o : Option PlainCall). HasNothing (left_of t c n (outcome_of t (caller_at t c) o))) (sym is)
    (handle_case t c n may (handle_for t (caller_at t c) h)
    (subst (λ (o : Option PlainCall). Answers may (outcome_of t (caller_at t c) o) done) is answers))

answer_case : (f : ℕ → ℕ → Option PlainCall) (counts : List ℕ) (t : Terminal) (c step part h : ℕ)
    (dropped : List Flagged)
    → f c step ≡ Some (hangs_up h)
    → IsAllowed f counts t (Caller c) step part (answered done dropped)
    → HasNothing (after_event f t (Caller c) step part (answered done dropped))
answer_case f counts t c step part h dropped is allowed =
    known_case t c (length dropped) h (is_some (caller_at t c).waits && quiet counts t) (f c step) is allowed.answer

-- after a `vhangup` that was answered Done
pub answer_leaves_nothing : (f : ℕ → ℕ → Option PlainCall) (counts : List ℕ) (t : Terminal) (e : PlainEntry) (c h : ℕ)
    (dropped : List Flagged)
    → Allowed f counts t e
    → e.who ≡ Caller c
    → f c e.step ≡ Some (hangs_up h)
    → e.event ≡ answered done dropped
    → HasNothing (after f t e)
answer_leaves_nothing f counts t e c h dropped allowed who call is =
    subst (λ (w : Who). HasNothing (after_event f t w e.step e.part e.event)) (sym who)
    (subst (λ (event : PlainEvent). HasNothing (after_event f t (Caller c) e.step e.part event)) (sym is)
    (answer_case f counts t c e.step e.part h dropped call
    (subst (λ (event : PlainEvent). IsAllowed f counts t (Caller c) e.step e.part event) is
    (subst (λ (w : Who). IsAllowed f counts t w e.step e.part e.event) who allowed.1))))
