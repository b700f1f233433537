-- Whose calls are over, as entries are made.
use Rattle.std.proofs.Common.{◌≡◌, ℕ, Bool, true, false, if◌then◌else◌, sym, ap, ◌∙◌}
use Rattle.std.proofs.lemmas.Bool.{false≢true}
use Rattle.tty_calls.specs.Plain.{PlainEvent, answered, parted, waited, flushed, ticked, line_ended}
use Rattle.tty_calls.specs.Plain.{clock_ended, caller_ended, phase_ended, hung_up, is_caller}
use Rattle.tty_calls.specs.Sessions.{call_at, counts_on}
use Rattle.tty_terminal.specs.Terminals.{Terminal, caller_at}
use Rattle.tty_terminal.specs.Standing.{Standing, standing_of, standing_after_own, standing_after_other, standing_after}
use Rattle.tty_terminal.specs.Runs.{is_of_call}
use Rattle.tty_terminal.proofs.StandingLaws.{step_stands}
use Rattle.port_core.specs.Ports.{PortValue}
use Rattle.play_base.specs.Roles.{Scene}
use Rattle.one_thread.specs.Turns.{Adds, standing_at}
use Rattle.order_laws.specs.Begun.{WereOver}

other_over : (event : PlainEvent) (q : Standing) → (standing_after_other event q).over ≡ true → q.over ≡ true
other_over (answered a dropped) q e = e
other_over (parted n) q e = e
other_over waited q e = e
other_over (flushed chars) q e = e
other_over ticked q e = e
other_over (line_ended n) q e = e
other_over clock_ended q e = e
other_over caller_ended q e = e
other_over phase_ended q e = absurd (false≢true e)
other_over (hung_up dropped) q e = e

own_over : (event : PlainEvent) (g : ℕ) (q : Standing)
    → is_of_call event ≡ true
    → (standing_after_own event g q).over ≡ true
    → q.over ≡ true
own_over (answered a dropped) g q call e = e
own_over (parted n) g q call e = e
own_over waited g q call e = e
own_over (flushed chars) g q call e = e
own_over ticked g q call e = e
own_over (line_ended n) g q call e = e
own_over clock_ended g q call e = e
own_over caller_ended g q call e = absurd (false≢true call)
own_over phase_ended g q call e = e
own_over (hung_up dropped) g q call e = e

stands : (s : Scene) (v w : PortValue) (h : Adds s v w) (c : ℕ)
    → standing_at w c ≡ standing_after c h.entry (standing_at v c)
stands s v w h c =
    ap (λ (t : Terminal). standing_of (caller_at t c)) h.leads
    ∙ step_stands (call_at s.port s.session) (counts_on s.port s.session) v.terminal h.entry h.allowed c

by_other : (b : Bool) (x y q : Standing)
    → b ≡ false
    → (y.over ≡ true → q.over ≡ true)
    → (if b then x else y).over ≡ true
    → q.over ≡ true
by_other true x y q e h over = absurd (false≢true (sym e))
by_other false x y q e h over = h over

by_either : (b : Bool) (x y q : Standing)
    → (x.over ≡ true → q.over ≡ true)
    → (y.over ≡ true → q.over ≡ true)
    → (if b then x else y).over ≡ true
    → q.over ≡ true
by_either true x y q h k over = h over
by_either false x y q h k over = k over

-- an entry of another
pub over_other : (s : Scene) (v w : PortValue) (h : Adds s v w) (c : ℕ)
    → is_caller h.entry.who c ≡ false
    → WereOver v w c
over_other s v w h c other over =
    by_other (is_caller h.entry.who c) (standing_after_own h.entry.event h.entry.generation (standing_at v c))
    (standing_after_other h.entry.event (standing_at v c)) (standing_at v c) other
    (other_over h.entry.event (standing_at v c)) (sym (ap (λ (q : Standing). q.over) (stands s v w h c)) ∙ over)

-- an entry of a call
pub over_call : (s : Scene) (v w : PortValue) (h : Adds s v w) (c : ℕ)
    → is_of_call h.entry.event ≡ true
    → WereOver v w c
over_call s v w h c call over =
    by_either (is_caller h.entry.who c) (standing_after_own h.entry.event h.entry.generation (standing_at v c))
    (standing_after_other h.entry.event (standing_at v c)) (standing_at v c)
    (own_over h.entry.event h.entry.generation (standing_at v c) call) (other_over h.entry.event (standing_at v c))
    (sym (ap (λ (q : Standing). q.over) (stands s v w h c)) ∙ over)
