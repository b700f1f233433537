-- Who has begun a call stays as it was by entries of others: so it does in a line.
use Rattle.std.proofs.Common.{◌≡◌, ℕ, Bool, true, false, List, [], ◌∷◌, ◌++◌, length, refl, sym, ap, ◌∙◌}
use Rattle.std.proofs.Common.{if◌then◌else◌}
use Rattle.std.specs.Prelude.{nat_le, not, ◌==◌}
use Rattle.std.proofs.lemmas.Bool.{false≢true}
use Rattle.tty_calls.specs.declared.journals.Who.TheVariants.{Flusher, Line, Session}
use Rattle.tty_calls.specs.declared.journals.Who.{Who}
use Rattle.tty_calls.specs.Plain.{PlainEntry, PlainEvent, is_caller, answered, parted, waited, flushed, ticked}
use Rattle.tty_calls.specs.Plain.{line_ended, clock_ended, caller_ended, phase_ended, hung_up}
use Rattle.tty_calls.specs.Sessions.{PlainSession, call_at}
use Rattle.tty_terminal.specs.Standing.{Standing, standing_in, standing_after, standing_after_own, standing_after_other}
use Rattle.tty_terminal.specs.Standing.{at_first}
use Rattle.tty_terminal.proofs.StandingLaws.{run_stands}
use Rattle.legal_runs.specs.Order.{Place, AreInTurn, due, next_place}
use Rattle.port_core.specs.Ports.{PortValue, IsPort, call_in}
use Rattle.order_laws.specs.Begun.{begun_at}
use Rattle.modem_ports.proofs.Lines.{AreBeforeEnd}

-- none of these entries is of this caller
abbrev pub NoneOf : ℕ → List PlainEntry → Type 0
NoneOf c [] = Unit {0}
NoneOf c (e ∷ es) = (is_caller e.who c ≡ false) × NoneOf c es

other_begun : (event : PlainEvent) (q : Standing) → (standing_after_other event q).begun ≡ q.begun
other_begun (answered a dropped) q = refl
other_begun (parted n) q = refl
other_begun waited q = refl
other_begun (flushed chars) q = refl
other_begun ticked q = refl
other_begun (line_ended n) q = refl
other_begun clock_ended q = refl
other_begun caller_ended q = refl
other_begun phase_ended q = refl
other_begun (hung_up dropped) q = refl

of_other : (b : Bool) (x y : Standing) → b ≡ false → (if b then x else y) ≡ y
of_other true x y e = absurd (false≢true (sym e))
of_other false x y e = refl

begun_in_none : (c : ℕ) (es : List PlainEntry) (q : Standing) → NoneOf c es → (standing_in c es q).begun ≡ q.begun
begun_in_none c [] q none = refl
begun_in_none c (e ∷ es) q none =
    begun_in_none c es (standing_after c e q) none.1
    ∙ (ap (λ (s : Standing). s.begun)
    (of_other (is_caller e.who c) (standing_after_own e.event e.generation q) (standing_after_other e.event q) none.0)
    ∙ other_begun e.event q)

in_both : (c : ℕ) (xs ys : List PlainEntry) (q : Standing)
    → standing_in c (xs ++ ys) q ≡ standing_in c ys (standing_in c xs q)
in_both c [] ys q = refl
in_both c (x ∷ xs) ys q = in_both c xs ys (standing_after c x q)

pub begun_is : (v : PortValue) (c : ℕ) → IsPort v → (standing_in c v.journal at_first).begun ≡ begun_at v c
begun_is v c port =
    sym (ap (λ (q : Standing). q.begun)
    (run_stands (call_in v.kept) v.counts v.flip.capacity v.journal v.terminal port.run c))

pub begun_stays : (v w : PortValue) (part : List PlainEntry) (c : ℕ)
    → IsPort v
    → IsPort w
    → w.journal ≡ v.journal ++ part
    → NoneOf c part
    → begun_at w c ≡ begun_at v c
begun_stays v w part c port later added none =
    sym (begun_is w c later)
    ∙ (ap (λ (es : List PlainEntry). (standing_in c es at_first).begun) added
    ∙ (ap (λ (q : Standing). q.begun) (in_both c v.journal part at_first)
    ∙ (begun_in_none c part (standing_in c v.journal at_first) none ∙ begun_is v c port)))

-- ---- a line

no_caller : (past over empty : Bool) (c : ℕ) (other : Who)
    → over ≡ false
    → is_caller (if past then Session else if not over then (if empty then Line else Flusher) else other) c ≡ false
no_caller true over empty c other open_still = refl
no_caller false true empty c other open_still = absurd (false≢true (sym open_still))
no_caller false false true c other open_still = refl
no_caller false false false c other open_still = refl

pub none_in_line : (p : ℕ) (played : PlainSession) (place : Place) (c : ℕ) (es : List PlainEntry)
    → AreInTurn p played place es
    → AreBeforeEnd (call_at p played) place es
    → NoneOf c es
none_in_line p played place c [] turns before = tt
none_in_line p played place c (e ∷ es) turns before = (
  ap (λ (w : Who). is_caller w c) turns.0.by_turn
      ∙ no_caller (nat_le (length played.phases) place.terminal.phase) place.terminal.line_over
      (length (due p played place) == 0) c _ before.0,
  none_in_line p played (next_place (call_at p played) place e) c es turns.1 before.1,
)
