-- Two runs, each of its own session, that have come to the same place.
use Rattle.std.proofs.Common.{◌≡◌, inl, inr, ℕ, ◌+◌, Bool, true, false, List, ◌∷◌, Some, take}
use Rattle.std.proofs.Common.{if◌then◌else◌, refl, sym, ap, ◌∙◌, subst}
use Rattle.std.specs.Prelude.{slice_get, sum}
use Rattle.tty_calls.specs.Plain.{PlainEntry, is_caller}
use Rattle.tty_calls.specs.Sessions.{PlainSession, call_at, counts_on}
use Rattle.tty_terminal.specs.Terminals.{Terminal, opening, caller_at, has_begun}
use Rattle.tty_terminal.specs.Standing.{Standing, standing_of, standing_after_own, standing_after_other, standing_after}
use Rattle.tty_terminal.specs.Runs.{AgreesAt}
use Rattle.tty_terminal.proofs.StandingLaws.{step_stands}
use Rattle.tty_terminal.proofs.WaitLaws.{run_waits}
use Rattle.legal_runs.specs.Legal.{flip_on}
use Rattle.legal_runs.specs.Order.{Place, first_place, next_place, place_after, is_waiting}
use Rattle.legal_runs.proofs.Places.{place_more, leads_place}
use Rattle.order_laws.proofs.Growing.{WaitAlike}
use Rattle.order_laws.proofs.NextEntry.{IsRest}
use Rattle.passed_calls.specs.Journals.{terminal_after}
use Rattle.order_laws.proofs.Comings.{at_step, own_begins}
use Rattle.order_laws.proofs.Journeys.{Journey, take_one, to_here, other_next, other_begun, who_is}

module _ (p : ℕ) (played later : PlainSession) (journal other : List PlainEntry) (last last' : Terminal)
    (w : Journey p played (opening (sum (counts_on p played)) (flip_on p played)) last journal)
    (w' : Journey p later (opening (sum (counts_on p later)) (flip_on p later)) last' other) where
  -- where the first entries lead in each
  abbrev at_one : ℕ → Terminal
  at_one n = terminal_after (call_at p played) (opening (sum (counts_on p played)) (flip_on p played)) (take n journal)

  abbrev at_two : ℕ → Terminal
  at_two n = terminal_after (call_at p later) (opening (sum (counts_on p later)) (flip_on p later)) (take n other)

  -- both have come to a place of the order, and the calls that have begun are the same
  pub record Stand (s : Place) (n : ℕ) : Type 0 where
    pub place : s ≡ place_after (call_at p played) (first_place p played) (take n journal)
    pub place' : s ≡ place_after (call_at p later) (first_place p later) (take n other)
    pub begun : (c : ℕ)
        → has_begun (caller_at s.terminal c) ≡ true
        → call_at p played c (caller_at s.terminal c).next ≡ call_at p later c (caller_at s.terminal c).next

  pub terminal_of : (s : Place) (n : ℕ) → Stand s n → s.terminal ≡ at_one n
  terminal_of s n h =
      ap (λ (x : Place). x.terminal) h.place
      ∙ leads_place (call_at p played) (counts_on p played) (first_place p played)
      (opening (sum (counts_on p played)) (flip_on p played)) (take n journal) (at_one n) refl
      (to_here p played (opening (sum (counts_on p played)) (flip_on p played)) last journal w n)

  pub terminal_of' : (s : Place) (n : ℕ) → Stand s n → s.terminal ≡ at_two n
  terminal_of' s n h =
      ap (λ (x : Place). x.terminal) h.place'
      ∙ leads_place (call_at p later) (counts_on p later) (first_place p later)
      (opening (sum (counts_on p later)) (flip_on p later)) (take n other) (at_two n) refl
      (to_here p later (opening (sum (counts_on p later)) (flip_on p later)) last' other w' n)

  pub there : (s : Place) (n : ℕ) → Stand s n → at_one n ≡ at_two n
  there s n h = sym (terminal_of s n h) ∙ terminal_of' s n h

  pub waits : (s : Place) (n : ℕ) → Stand s n → WaitAlike p played later s.terminal
  waits s n h c waiting =
      let begun = run_waits (call_at p played) (counts_on p played) (flip_on p played) (take n journal) (at_one n)
      (to_here p played (opening (sum (counts_on p played)) (flip_on p played)) last journal w n) c
      (subst (λ (t : Terminal). is_waiting t c ≡ true) (terminal_of s n h) waiting) in
      h.begun c (subst (λ (t : Terminal). has_begun (caller_at t c) ≡ true) (sym (terminal_of s n h)) begun)

  -- ---- and so at the next place

  module _ (s : Place) (e : PlainEntry) (es : List PlainEntry) (n : ℕ) (stand : Stand s n)
      (e_here : slice_get journal n ≡ Some e) (e_here' : slice_get other n ≡ Some e)
      (rest : IsRest p played s (e ∷ es))
      (agrees : AgreesAt (call_at p played) (call_at p later) e.who e.step e.event)
      (next : next_place (call_at p later) s e ≡ next_place (call_at p played) s e) where
    abbrev goes_on : Place
    goes_on = next_place (call_at p played) s e

    -- a caller that has begun a call then
    stands_next : (c : ℕ)
        → standing_of (caller_at goes_on.terminal c) ≡ standing_after c e (standing_of (caller_at s.terminal c))
    stands_next c = step_stands (call_at p played) (counts_on p played) s.terminal e rest.leads.0 c

    begun_by : (c : ℕ) (b : Bool)
        → is_caller e.who c ≡ b
        → has_begun (caller_at goes_on.terminal c) ≡ true
        → call_at p played c (caller_at goes_on.terminal c).next
        ≡ call_at p later c (caller_at goes_on.terminal c).next
    begun_by c false is begun =
        let q = standing_of (caller_at s.terminal c) in
        let stands : standing_of (caller_at goes_on.terminal c) ≡ standing_after_other e.event q =
        stands_next c
        ∙ ap (λ (b : Bool).
        if b then standing_after_own e.event e.generation q else standing_after_other e.event q) is in
        let step : (caller_at goes_on.terminal c).next ≡ (caller_at s.terminal c).next =
        ap (λ (x : Standing). x.next) stands ∙ other_next e.event q in
        let before : has_begun (caller_at s.terminal c) ≡ true =
        sym (ap (λ (x : Standing). x.begun) stands ∙ other_begun e.event q) ∙ begun in
        ap (λ (m : ℕ). call_at p played c m) step
        ∙ (stand.begun c before ∙ ap (λ (m : ℕ). call_at p later c m) (sym step))
    begun_by c true is begun =
        let q = standing_of (caller_at s.terminal c) in
        let stands : standing_of (caller_at goes_on.terminal c) ≡ standing_after_own e.event e.generation q =
        stands_next c
        ∙ ap (λ (b : Bool).
        if b then standing_after_own e.event e.generation q else standing_after_other e.event q) is in
        let own = own_begins e.event e.generation q (sym (ap (λ (x : Standing). x.begun) stands) ∙ begun) in
        let step : (caller_at goes_on.terminal c).next ≡ (caller_at s.terminal c).next =
        ap (λ (x : Standing). x.next) stands ∙ own.0 in
        let here : call_at p played c (caller_at s.terminal c).next ≡ call_at p later c (caller_at s.terminal c).next =
        elim own.1 [
          | inl of_call ↦
              let at = at_step p played s e es c rest (who_is e.who c is) of_call in
              ap (λ (m : ℕ). call_at p played c m) (sym at)
              ∙ (sym (agrees c of_call is) ∙ ap (λ (m : ℕ). call_at p later c m) at)
          | inr before ↦ stand.begun c before
        ] in
        ap (λ (m : ℕ). call_at p played c m) step ∙ (here ∙ ap (λ (m : ℕ). call_at p later c m) (sym step))

    pub stand_next : Stand goes_on (n + 1)
    stand_next = record {
      place = (ap (λ (x : Place). next_place (call_at p played) x e) stand.place
          ∙ sym (place_more (call_at p played) (first_place p played) (take n journal) e))
          ∙ ap (λ (xs : List PlainEntry). place_after (call_at p played) (first_place p played) xs)
          (sym (take_one n journal e e_here));
      place' = sym next
          ∙ ((ap (λ (x : Place). next_place (call_at p later) x e) stand.place'
          ∙ sym (place_more (call_at p later) (first_place p later) (take n other) e))
          ∙ ap (λ (xs : List PlainEntry). place_after (call_at p later) (first_place p later) xs)
          (sym (take_one n other e e_here')));
      begun = λ c begun. begun_by c (is_caller e.who c) refl begun;
    }
