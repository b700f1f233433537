-- The order of one thread, where the clock is first, goes by the ranks of a console.
use Rattle.std.proofs.Common.{◌≡◌, ℕ, ◌==◌, nat_le, Bool, true, false, not, ◌&&◌}
use Rattle.std.proofs.Common.{Option, List, if◌then◌else◌, length, refl, ap, ◌∙◌}
use Rattle.tty_calls.specs.declared.journals.Who.{Who}
use Rattle.tty_calls.specs.declared.journals.Who.TheVariants.{Flusher, Line, Clock, Session}
use Rattle.tty_calls.specs.Plain.{PlainCall}
use Rattle.tty_calls.specs.Sessions.{PlainSession, call_at}
use Rattle.tty_terminal.specs.Terminals.{Terminal}
use Rattle.tty_terminal.specs.Steps.{nothing_to_flush}
use Rattle.legal_runs.specs.Order.{Place, due, callers_of, can_go_on, is_waiting, first_of, turn_by_rank, turn_after}
use Rattle.legal_runs.specs.Order.{turn}
use Rattle.vt_consoles.specs.declared.entries.VtEntry.{VtEntry}
use Rattle.vt_text.specs.Sessions.{PlainVtSession}
use Rattle.vt_account.specs.Keyed.{keyed}
use Rattle.vt_one.specs.Ranks.{console_rank, console_turn}

rank_by : (idle over : Bool) (p : ℕ → Bool) (callers : List ℕ) (last : Who)
    → (if not idle
    then Flusher
    else if true && not over then Clock else first_of p callers (if not over then Clock else last))
    ≡ (if not idle then Flusher else if not over then Clock else first_of p callers last)
rank_by false over p callers last = refl
rank_by true false p callers last = refl
rank_by true true p callers last = refl

rank_is : (calls : ℕ → ℕ → Option PlainCall) (callers : List ℕ) (t : Terminal)
    → turn_by_rank true calls callers t ≡ console_rank calls callers t
rank_is calls callers t =
    rank_by (nothing_to_flush t) t.clock_over (can_go_on calls t) callers (first_of (is_waiting t) callers Session)

turn_is : (p : ℕ) (session : PlainSession) (s : Place)
    → session.version ≡ 0
    → turn p session s ≡ console_turn p session s
turn_is p session s none =
    let callers = callers_of p session s.terminal.phase in
    let first : turn_by_rank (session.version == 0) (call_at p session) callers s.terminal
    ≡ turn_by_rank true (call_at p session) callers s.terminal =
    ap (λ (n : ℕ). turn_by_rank (n == 0) (call_at p session) callers s.terminal) none in
    let rank : turn_by_rank (session.version == 0) (call_at p session) callers s.terminal
    ≡ console_rank (call_at p session) callers s.terminal =
    first ∙ rank_is (call_at p session) callers s.terminal in
    λ i.
    if nat_le (length session.phases) s.terminal.phase then Session
    else if not s.terminal.line_over then (if length (due p session s) == 0 then Line else Flusher)
    else turn_after s.before (rank i)

pub console_turns : (session : PlainVtSession) (entries : List VtEntry) (p : ℕ) (s : Place)
    → turn p (keyed session entries) s ≡ console_turn p (keyed session entries) s
console_turns session entries p s = turn_is p (keyed session entries) s refl
