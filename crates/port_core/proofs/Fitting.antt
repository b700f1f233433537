-- The bytes that an answer gives are at most those that room is asked for.
use Rattle.std.proofs.Common.{◌≡◌, ℕ, List, [], Bool, true, false, not, nat_lt, Option, None}
use Rattle.std.proofs.Common.{Some, if◌then◌else◌, ◌≤◌, drop, length, refl, sym, subst, arith}
use Rattle.tty_base.specs.declared.counters.Errno.{Errno}
use Rattle.tty_base.specs.declared.counters.Errno.TheVariants.{EMSGSIZE, EAGAIN}
use Rattle.tty_calls.specs.declared.answers.Answer.{Answer}
use Rattle.tty_calls.specs.declared.calls.Access.{Access}
use Rattle.tty_calls.specs.declared.calls.Queue.{Queue}
use Rattle.tty_calls.specs.declared.calls.Queue.TheVariants as queue
use Rattle.tty_calls.specs.declared.calls.When.{When}
use Rattle.tty_calls.specs.declared.calls.When.TheVariants as when
use Rattle.tty_calls.specs.Plain.{PlainCall, opens, closes, reads, writes, gets_modes, sets_modes, gets_disc, sets_disc}
use Rattle.tty_calls.specs.Plain.{flushes, steers, counts_input, counts_output, excludes, admits, drains, gets_counts}
use Rattle.tty_calls.specs.Plain.{hangs_up, sends_packet, takes_packet, PlainAnswer, done, refused, answer_of, bytes_in}
use Rattle.tty_modes.specs.Settings.{Settings}
use Rattle.tty_modes.specs.Word.{after_words}
use Rattle.handle_table.specs.declared.HandleState.{HandleState}
use Rattle.ldisc_switch.specs.declared.kinds.Kind.{Kind}
use Rattle.ldisc_switch.specs.declared.discipline.Disc.{Disc}
use Rattle.ldisc_switch.specs.declared.discipline.Disc.TheVariants as disc
use Rattle.ldisc_switch.specs.Disciplines.{kind_of_number}
use Rattle.tty_terminal.specs.declared.callers.CallerState.{CallerState}
use Rattle.tty_terminal.specs.declared.rooms.Met.TheVariants as met
use Rattle.tty_terminal.specs.Terminals.{Terminal, handle_at, handle_for}
use Rattle.tty_terminal.specs.Outcomes.{Outcome, waits, takes, gives, refuses, on_live, on_access}
use Rattle.tty_terminal.specs.Opening.{closing_outcome}
use Rattle.tty_terminal.specs.Transfers.{read_outcome, reading_outcome, write_refusal, write_outcome, writing_outcome}
use Rattle.tty_terminal.specs.Modes.{modes_outcome}
use Rattle.tty_terminal.specs.Switching.{change_outcome}
use Rattle.tty_terminal.specs.Flow.{flush_outcome}
use Rattle.tty_terminal.specs.Packets.{sending_outcome, taking_outcome}
use Rattle.tty_terminal.specs.Calls.{outcome}
use Rattle.tty_terminal.specs.Meeting.{Meets, read_room, packet_room, room_for}

pub record FitsIn (o : Outcome) (most : ℕ) : Type 0 where
  pub fits : (given : Answer) → Meets o (met.Gives given) → length (bytes_in (answer_of given)) ≤ most

fits_either : (b : Bool) (x y : Outcome) (most : ℕ) → FitsIn x most → FitsIn y most → FitsIn (if b then x else y) most
fits_either true x y most p q = p
fits_either false x y most p q = q

given_fits : (a : PlainAnswer) (drops : Bool) (left : Terminal) (most : ℕ)
    → length (bytes_in a) ≤ most
    → FitsIn (gives a drops left) most
given_fits a drops left most few =
    record { fits = λ given h. subst (λ (b : PlainAnswer). length (bytes_in b) ≤ most) (sym h) few }

-- an answer that gives no bytes
told_fits : (a : PlainAnswer) (drops : Bool) (left : Terminal) (most : ℕ)
    → bytes_in a ≡ []
    → FitsIn (gives a drops left) most
told_fits a drops left most none = given_fits a drops left most (rw none (omega arith))

waiting_fits : (most : ℕ) → FitsIn waits most
waiting_fits most = record { fits = λ given h. absurd h }

part_fits : (m : ℕ) (left : Terminal) (most : ℕ) → FitsIn (takes m left) most
part_fits m left most = record { fits = λ given h. absurd h }

live_fits : (t : Terminal) (handle : Option HandleState) (o : Outcome) (most : ℕ)
    → FitsIn o most
    → FitsIn (on_live t handle o) most
live_fits t None o most p = told_fits _ _ _ most refl
live_fits t (Some handle) o most p = fits_either handle.live _ _ most p (told_fits _ _ _ most refl)

access_fits : (may : Access → Bool) (t : Terminal) (handle : Option HandleState) (o : Outcome) (most : ℕ)
    → FitsIn o most
    → FitsIn (on_access may t handle o) most
access_fits may t None o most p = told_fits _ _ _ most refl
access_fits may t (Some handle) o most p =
    fits_either (may handle.access) _ _ most (live_fits t (Some handle) o most p) (told_fits _ _ _ most refl)

closing_fits : (t : Terminal) (h : ℕ) (handle : Option HandleState) → FitsIn (closing_outcome t h handle) 0
closing_fits t h None = told_fits _ _ _ 0 refl
closing_fits t h (Some handle) = told_fits _ _ _ 0 refl

read_fits : (t : Terminal) (s : CallerState) (nonblock : Bool) (n : ℕ) (d : Disc)
    → FitsIn (read_outcome t s nonblock n d) (read_room t n d)
read_fits t s nonblock n (disc.Slip slip) = told_fits _ _ _ _ refl
read_fits t s nonblock n (disc.Tty tty) = fits_either _ _ _ _ (given_fits _ _ _ _ (omega arith))
    (fits_either nonblock _ _ _ (told_fits _ _ _ _ refl) (waiting_fits _))

reading_fits : (t : Terminal) (s : CallerState) (n : ℕ) (handle : Option HandleState)
    → FitsIn (reading_outcome t s n handle) (read_room t n t.disc)
reading_fits t s n None = told_fits _ _ _ _ refl
reading_fits t s n (Some handle) = fits_either _ _ _ _ (told_fits _ _ _ _ refl)
    (fits_either (not handle.live) _ _ _ (told_fits _ _ _ _ refl) (read_fits t s handle.nonblock n t.disc))

refusal_fits : (t : Terminal) (s : CallerState) (errno : Errno) → FitsIn (write_refusal t s errno) 0
refusal_fits t s errno = fits_either _ _ _ 0 (told_fits _ _ _ 0 refl) (told_fits _ _ _ 0 refl)

write_fits : (t : Terminal) (s : CallerState) (nonblock : Bool) (rest : List ℕ) (d : Disc)
    → FitsIn (write_outcome t s nonblock rest d) 0
write_fits t s nonblock rest (disc.Slip slip) = refusal_fits t s _
write_fits t s nonblock rest (disc.Tty tty) =
    fits_either _ _ _ 0 (told_fits _ _ _ 0 refl)
    (fits_either _ _ _ 0 (part_fits _ _ 0) (fits_either nonblock _ _ 0 (refusal_fits t s _) (waiting_fits 0)))

writing_fits : (t : Terminal) (s : CallerState) (bytes : List ℕ) (handle : Option HandleState)
    → FitsIn (writing_outcome t s bytes handle) 0
writing_fits t s bytes None = refusal_fits t s _
writing_fits t s bytes (Some handle) =
    fits_either _ _ _ 0 (refusal_fits t s _)
    (fits_either (not handle.live) _ _ 0 (refusal_fits t s _)
    (fits_either _ _ _ 0 (told_fits _ _ _ 0 refl) (write_fits t s handle.nonblock (drop s.taken bytes) t.disc)))

modes_fits : (t : Terminal) (w : When) (new : Settings) → FitsIn (modes_outcome t w new) 0
modes_fits t when.Now new = told_fits _ _ _ 0 refl
modes_fits t when.Drain new = fits_either _ _ _ 0 (told_fits _ _ _ 0 refl) (waiting_fits 0)
modes_fits t when.Flush new = fits_either _ _ _ 0 (told_fits _ _ _ 0 refl) (waiting_fits 0)

change_fits : (t : Terminal) (number : ℕ) (kind : Option Kind) → FitsIn (change_outcome t number kind) 0
change_fits t number None = told_fits _ _ _ 0 refl
change_fits t number (Some kind) = told_fits _ _ _ 0 refl

flush_fits : (t : Terminal) (q : Queue) → FitsIn (flush_outcome t q) 0
flush_fits t queue.Input = told_fits _ _ _ 0 refl
flush_fits t queue.Output = told_fits _ _ _ 0 refl
flush_fits t queue.Both = told_fits _ _ _ 0 refl

sending_fits : (t : Terminal) (bytes : List ℕ) (d : Disc) → FitsIn (sending_outcome t bytes d) 0
sending_fits t bytes (disc.Tty tty) = told_fits _ _ _ 0 refl
sending_fits t bytes (disc.Slip slip) =
    fits_either (nat_lt 1006 (length bytes)) (refuses EMSGSIZE t) _ 0 (told_fits (refused EMSGSIZE) false t 0 refl)
    (fits_either _ (refuses EAGAIN t) _ 0 (told_fits (refused EAGAIN) false t 0 refl) (told_fits done false _ 0 refl))

taking_fits : (t : Terminal) (d : Disc) → FitsIn (taking_outcome t d) (packet_room d)
taking_fits t (disc.Tty tty) = told_fits _ _ _ _ refl
taking_fits t (disc.Slip slip) = fits_either _ _ _ _ (told_fits _ _ _ _ refl) (given_fits _ _ _ _ (omega arith))

pub answer_fits : (t : Terminal) (s : CallerState) (call : PlainCall) → FitsIn (outcome t s call) (room_for t call)
answer_fits t s (opens h access nonblock) = fits_either _ _ _ 0 (told_fits _ _ _ 0 refl)
    (fits_either t.exclusive _ _ 0 (told_fits _ _ _ 0 refl) (told_fits _ _ _ 0 refl))
answer_fits t s (closes h) = closing_fits t h (handle_at t h)
answer_fits t s (reads h n) = reading_fits t s n (handle_for t s h)
answer_fits t s (writes h bytes) = writing_fits t s bytes (handle_for t s h)
answer_fits t s (gets_modes h) = live_fits t (handle_for t s h) _ 0 (told_fits _ _ _ 0 refl)
answer_fits t s (sets_modes h w words) = live_fits t (handle_for t s h) _ 0 (modes_fits t w (after_words t.modes words))
answer_fits t s (gets_disc h) = live_fits t (handle_for t s h) _ 0 (told_fits _ _ _ 0 refl)
answer_fits t s (sets_disc h n) = live_fits t (handle_for t s h) _ 0 (change_fits t n (kind_of_number n))
answer_fits t s (flushes h q) = live_fits t (handle_for t s h) _ 0 (flush_fits t q)
answer_fits t s (steers h act) = live_fits t (handle_for t s h) _ 0 (told_fits _ _ _ 0 refl)
answer_fits t s (counts_input h) = live_fits t (handle_for t s h) _ 0 (told_fits _ _ _ 0 refl)
answer_fits t s (counts_output h) = live_fits t (handle_for t s h) _ 0 (told_fits _ _ _ 0 refl)
answer_fits t s (excludes h) = live_fits t (handle_for t s h) _ 0 (told_fits _ _ _ 0 refl)
answer_fits t s (admits h) = live_fits t (handle_for t s h) _ 0 (told_fits _ _ _ 0 refl)
answer_fits t s (drains h) =
    live_fits t (handle_for t s h) _ 0 (fits_either _ _ _ 0 (told_fits _ _ _ 0 refl) (waiting_fits 0))
answer_fits t s (gets_counts h) = live_fits t (handle_for t s h) _ 0 (told_fits _ _ _ 0 refl)
answer_fits t s (hangs_up h) = live_fits t (handle_for t s h) _ 0 (told_fits _ _ _ 0 refl)
answer_fits t s (sends_packet h bytes) = access_fits _ t (handle_for t s h) _ 0 (sending_fits t bytes t.disc)
answer_fits t s (takes_packet h) = access_fits _ t (handle_for t s h) _ _ (taking_fits t t.disc)
