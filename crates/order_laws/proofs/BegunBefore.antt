-- Which calls an entry begins and ends.
use Rattle.std.proofs.Common.{◌≡◌, ℕ, Bool, true, false, if◌then◌else◌, refl, sym, ap, ◌∙◌, subst}
use Rattle.std.proofs.lemmas.Bool.{false≢true}
use Rattle.tty_calls.specs.Plain.{PlainEvent, answered, parted, waited, flushed, ticked, line_ended}
use Rattle.tty_calls.specs.Plain.{clock_ended, caller_ended, phase_ended, hung_up, is_caller}
use Rattle.tty_calls.specs.Sessions.{call_at, counts_on}
use Rattle.tty_terminal.specs.Terminals.{Terminal, caller_at, has_begun}
use Rattle.tty_terminal.specs.Standing.{Standing, standing_of, standing_after_own, standing_after_other, standing_after}
use Rattle.tty_terminal.specs.Runs.{is_of_call}
use Rattle.tty_terminal.proofs.StandingLaws.{step_stands}
use Rattle.port_core.specs.Ports.{PortValue}
use Rattle.play_base.specs.Roles.{Scene}
use Rattle.one_thread.specs.Turns.{Adds, standing_at}
use Rattle.order_laws.specs.Begun.{HadBegun}

-- begun and next are as before
abbrev IsBegunAs : Standing → Standing → Type 0
IsBegunAs q was = (q.begun ≡ was.begun) × (q.next ≡ was.next)

other_as : (event : PlainEvent) (q : Standing) → IsBegunAs (standing_after_other event q) q
other_as (answered a dropped) q = (refl, refl)
other_as (parted n) q = (refl, refl)
other_as waited q = (refl, refl)
other_as (flushed chars) q = (refl, refl)
other_as ticked q = (refl, refl)
other_as (line_ended n) q = (refl, refl)
other_as clock_ended q = (refl, refl)
other_as caller_ended q = (refl, refl)
other_as phase_ended q = (refl, refl)
other_as (hung_up dropped) q = (refl, refl)

own_as : (event : PlainEvent) (g : ℕ) (q : Standing)
    → is_of_call event ≡ false
    → IsBegunAs (standing_after_own event g q) q
own_as (answered a dropped) g q e = absurd (false≢true (sym e))
own_as (parted n) g q e = absurd (false≢true (sym e))
own_as waited g q e = absurd (false≢true (sym e))
own_as (flushed chars) g q e = (refl, refl)
own_as ticked g q e = (refl, refl)
own_as (line_ended n) g q e = (refl, refl)
own_as clock_ended g q e = (refl, refl)
own_as caller_ended g q e = (refl, refl)
own_as phase_ended g q e = (refl, refl)
own_as (hung_up dropped) g q e = (refl, refl)

stands : (s : Scene) (v w : PortValue) (h : Adds s v w) (c : ℕ)
    → standing_at w c ≡ standing_after c h.entry (standing_at v c)
stands s v w h c =
    ap (λ (t : Terminal). standing_of (caller_at t c)) h.leads
    ∙ step_stands (call_at s.port s.session) (counts_on s.port s.session) v.terminal h.entry h.allowed c

as_before : (v w : PortValue) (c : ℕ) → IsBegunAs (standing_at w c) (standing_at v c) → HadBegun v w c
as_before v w c h begun = (sym h.0 ∙ begun, h.1)

chosen : (b : Bool) (x y q : Standing) → b ≡ false → IsBegunAs y q → IsBegunAs (if b then x else y) q
chosen true x y q e h = absurd (false≢true (sym e))
chosen false x y q e h = h

either_as : (b : Bool) (x y q : Standing) → IsBegunAs x q → IsBegunAs y q → IsBegunAs (if b then x else y) q
either_as true x y q h k = h
either_as false x y q h k = k

-- whether a caller has begun a call, after an entry of another
pub begun_same : (s : Scene) (v w : PortValue) (h : Adds s v w) (c : ℕ)
    → is_caller h.entry.who c ≡ false
    → has_begun (caller_at w.terminal c) ≡ has_begun (caller_at v.terminal c)
begun_same s v w h c other =
    (subst (λ (q : Standing). IsBegunAs q (standing_at v c)) (sym (stands s v w h c))
    (chosen (is_caller h.entry.who c) (standing_after_own h.entry.event h.entry.generation (standing_at v c))
    (standing_after_other h.entry.event (standing_at v c)) (standing_at v c) other
    (other_as h.entry.event (standing_at v c)))).0

-- .. and after one that is of no call
pub begun_still : (s : Scene) (v w : PortValue) (h : Adds s v w) (c : ℕ)
    → is_of_call h.entry.event ≡ false
    → has_begun (caller_at w.terminal c) ≡ has_begun (caller_at v.terminal c)
begun_still s v w h c none =
    (subst (λ (q : Standing). IsBegunAs q (standing_at v c)) (sym (stands s v w h c))
    (either_as (is_caller h.entry.who c) (standing_after_own h.entry.event h.entry.generation (standing_at v c))
    (standing_after_other h.entry.event (standing_at v c)) (standing_at v c)
    (own_as h.entry.event h.entry.generation (standing_at v c) none) (other_as h.entry.event (standing_at v c)))).0

taken : (b : Bool) (x y : Standing) → b ≡ true → (if b then x else y) ≡ x
taken true x y e = refl
taken false x y e = absurd (false≢true e)

-- .. and after one of its own: by an answer its call has ended, by a wait or a part it has begun
pub own_stands : (s : Scene) (v w : PortValue) (h : Adds s v w) (c : ℕ)
    → is_caller h.entry.who c ≡ true
    → standing_at w c ≡ standing_after_own h.entry.event h.entry.generation (standing_at v c)
own_stands s v w h c own =
    stands s v w h c
    ∙ taken (is_caller h.entry.who c) (standing_after_own h.entry.event h.entry.generation (standing_at v c))
    (standing_after_other h.entry.event (standing_at v c)) own

-- an entry of another caller, or of none
pub begun_elsewhere : (s : Scene) (v w : PortValue) (h : Adds s v w) (c : ℕ)
    → is_caller h.entry.who c ≡ false
    → HadBegun v w c
begun_elsewhere s v w h c other =
    as_before v w c
    (subst (λ (q : Standing). IsBegunAs q (standing_at v c)) (sym (stands s v w h c))
    (chosen (is_caller h.entry.who c) (standing_after_own h.entry.event h.entry.generation (standing_at v c))
    (standing_after_other h.entry.event (standing_at v c)) (standing_at v c) other
    (other_as h.entry.event (standing_at v c))))

-- an entry that is of no call
pub begun_by_none : (s : Scene) (v w : PortValue) (h : Adds s v w) (c : ℕ)
    → is_of_call h.entry.event ≡ false
    → HadBegun v w c
begun_by_none s v w h c none =
    as_before v w c
    (subst (λ (q : Standing). IsBegunAs q (standing_at v c)) (sym (stands s v w h c))
    (either_as (is_caller h.entry.who c) (standing_after_own h.entry.event h.entry.generation (standing_at v c))
    (standing_after_other h.entry.event (standing_at v c)) (standing_at v c)
    (own_as h.entry.event h.entry.generation (standing_at v c) none) (other_as h.entry.event (standing_at v c))))
