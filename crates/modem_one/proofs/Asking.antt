-- Whose turn it is, as it is asked of one caller after the other.
use Rattle.std.proofs.Common.{◌≡◌, ◌<◌, ◌≤◌, ℕ, zero, suc, ◌+◌, ◌-◌, Bool, true, false, not, List, [], ◌∷◌, ◌++◌}
use Rattle.std.proofs.Common.{Option, None, Some, length, if◌then◌else◌, take, refl, sym, ap, ◌∙◌, subst, arith}
use Rattle.std.proofs.Common.{length-append}
use Rattle.std.specs.Prelude.{slice_index}
use Rattle.std.proofs.lemmas.List.{length-map}
use Rattle.tty_calls.specs.declared.journals.Who.TheVariants.{Caller, Flusher, Clock, Session}
use Rattle.tty_terminal.specs.Terminals.{Terminal}
use Rattle.tty_terminal.specs.Steps.{nothing_to_flush}
use Rattle.legal_runs.specs.Order.{is_waiting}
use Rattle.one_thread.specs.Turns.{role_numbers}
use Rattle.play_base.specs.declared.roles.Role.{Role}
use Rattle.modem_steps.specs.Steps.{Port, ModemState, callers_in}
use Rattle.modem_steps.specs.Order.{Turn, goes_on, is_told, can_go_on, open_is_held, first_such, turn_in_vain}
use Rattle.modem_steps.specs.Order.{turn_of_others, turn_by_rank}
use Rattle.modem_one.specs.Desk.{DeskState, state_at}
use Rattle.modem_one.specs.Turns.{IsFirst}

-- ---- the first of a list

at_place : (f : ℕ → Bool) (g : ℕ → Turn) (cs : List ℕ) (i : ℕ) (other : Turn)
    → i < length cs
    → f (slice_index cs i) ≡ true
    → ((k : ℕ) → k < i → f (slice_index cs k) ≡ false)
    → first_such f g cs other ≡ g (slice_index cs i)
at_place f g [] i other lt is before = absurd (omega (arith, lt))
at_place f g (c ∷ cs) zero other lt is before =
    ap (λ (b : Bool). if b then g c else first_such f g cs other) is
at_place f g (c ∷ cs) (suc i) other lt is before =
    ap (λ (b : Bool). if b then g c else first_such f g cs other) (before 0 (omega arith))
    ∙ at_place f g cs i other (omega (arith, lt)) is (λ k low. before (suc k) (omega (arith, low)))

at_none : (f : ℕ → Bool) (g : ℕ → Turn) (cs : List ℕ) (other : Turn)
    → ((k : ℕ) → k < length cs → f (slice_index cs k) ≡ false)
    → first_such f g cs other ≡ other
at_none f g [] other before = refl
at_none f g (c ∷ cs) other before =
    ap (λ (b : Bool). if b then g c else first_such f g cs other) (before 0 (omega arith))
    ∙ at_none f g cs other (λ k low. before (suc k) (omega (arith, low)))

take_at : (xs : List ℕ) (n i : ℕ) → i < n → slice_index (take n xs) i ≡ slice_index xs i
take_at xs zero i lt = absurd (omega (arith, lt))
take_at [] (suc n) i lt = refl
take_at (x ∷ xs) (suc n) zero lt = refl
take_at (x ∷ xs) (suc n) (suc i) lt = take_at xs n i (omega (arith, lt))

take_count : (xs : List ℕ) (n : ℕ) → n ≤ length xs → length (take n xs) ≡ n
take_count xs zero le = refl
take_count [] (suc n) le = absurd (omega (arith, le))
take_count (x ∷ xs) (suc n) le = let rest = take_count xs n (omega (arith, le)) in omega (arith, rest)

take_few : (xs : List ℕ) (n : ℕ) → length (take n xs) ≤ n
take_few xs zero = omega arith
take_few [] (suc n) = omega arith
take_few (x ∷ xs) (suc n) = let rest = take_few xs n in omega (arith, rest)

take_front : (xs : List ℕ) (c n : ℕ) → n ≡ length xs → take n (xs ++ c ∷ []) ≡ xs
take_front [] c zero e = refl
take_front [] c (suc n) e = absurd (omega (arith, e))
take_front (x ∷ xs) c zero e = absurd (omega (arith, e))
take_front (x ∷ xs) c (suc n) e = ap (λ (ys : List ℕ). x ∷ ys) (take_front xs c n (omega (arith, e)))

-- a caller that is such a one, behind others that are not
pub found : (f : ℕ → Bool) (roles : List Role) (n i : ℕ)
    → n + 1 ≡ length roles
    → i < length roles - 1
    → f (slice_index (role_numbers roles) i) ≡ true
    → ((k : ℕ) → k < i → f (slice_index (role_numbers roles) k) ≡ false)
    → IsFirst f (take n (role_numbers roles)) (Some i)
found f roles n i many lt is before =
    let numbers = role_numbers roles in
    let all = length-map roles (λ (r : Role). r.number) in
    let count = take_count numbers n (omega (arith, many, all)) in record {
      first = λ turn_of other. at_place f turn_of (take n numbers) i other (omega (arith, lt, many, count))
          (ap f (take_at numbers n i (omega (arith, lt, many))) ∙ is)
          (λ k low. ap f (take_at numbers n k (omega (arith, lt, many, low))) ∙ before k low);
      within = omega (arith, lt, many, count);
    }

pub none_found : (f : ℕ → Bool) (roles : List Role) (n i : ℕ)
    → n + 1 ≡ length roles
    → length roles - 1 ≤ i
    → ((k : ℕ) → k < i → f (slice_index (role_numbers roles) k) ≡ false)
    → IsFirst f (take n (role_numbers roles)) None
none_found f roles n i many le before =
    let numbers = role_numbers roles in
    let few = take_few numbers n in record {
      first = λ turn_of other. at_none f turn_of (take n numbers) other
          (λ k low.
          ap f (take_at numbers n k (omega (arith, low, few))) ∙ before k (omega (arith, low, few, le, many)));
      within = tt;
    }

-- ---- what comes in vain

module _ (port : Port) (s : ModemState) (t : Terminal) (numbers : List ℕ) (n : ℕ) where
  abbrev cs : List ℕ
  cs = take n numbers

  abbrev waiting_turn : Turn
  waiting_turn = first_such (is_waiting t) (λ c. goes_on (Caller c)) cs (goes_on Session)

  in_vain : t.clock_over ≡ true
      → turn_in_vain port s t cs ≡ first_such (open_is_held port s t) is_told cs waiting_turn
  in_vain clock = ap (λ (b : Bool).
      if not b then goes_on Clock else first_such (open_is_held port s t) is_told cs waiting_turn) clock

  at_numbers : (i : ℕ) → i < length cs → slice_index cs i ≡ slice_index numbers i
  at_numbers i lt = let few = take_few numbers n in take_at numbers n i (omega (arith, lt, few))

  pub told_turn : (place : Option ℕ) (i : ℕ)
      → t.clock_over ≡ true
      → IsFirst (open_is_held port s t) cs place
      → place ≡ Some i
      → is_told (slice_index numbers i) ≡ turn_in_vain port s t cs
  told_turn place i clock first is =
      let h = subst (IsFirst (open_is_held port s t) cs) is first in
      sym (in_vain clock ∙ (h.first is_told waiting_turn ∙ ap is_told (at_numbers i h.within)))

  pub waits_turn : (held place : Option ℕ) (i : ℕ)
      → t.clock_over ≡ true
      → IsFirst (open_is_held port s t) cs held
      → held ≡ None
      → IsFirst (is_waiting t) cs place
      → place ≡ Some i
      → goes_on (Caller (slice_index numbers i)) ≡ turn_in_vain port s t cs
  waits_turn held place i clock none nobody first is =
      let h = subst (IsFirst (is_waiting t) cs) is first in
      let k = subst (IsFirst (open_is_held port s t) cs) nobody none in
      sym (in_vain clock ∙ (k.first is_told waiting_turn
      ∙ (h.first (λ c. goes_on (Caller c)) (goes_on Session)
      ∙ ap (λ (c : ℕ). goes_on (Caller c)) (at_numbers i h.within))))

  pub end_turn : (held place : Option ℕ)
      → t.clock_over ≡ true
      → IsFirst (open_is_held port s t) cs held
      → held ≡ None
      → IsFirst (is_waiting t) cs place
      → place ≡ None
      → goes_on Session ≡ turn_in_vain port s t cs
  end_turn held place clock none nobody first is =
      let h = subst (IsFirst (is_waiting t) cs) is first in
      let k = subst (IsFirst (open_is_held port s t) cs) nobody none in
      sym (in_vain clock ∙ (k.first is_told waiting_turn ∙ h.first (λ c. goes_on (Caller c)) (goes_on Session)))

-- ---- by rank

-- the callers of the roles are all but the last
its_callers : (callers numbers : List ℕ) (carrier n m : ℕ)
    → numbers ≡ callers ++ carrier ∷ []
    → n + 1 ≡ m
    → length numbers ≡ m
    → take n numbers ≡ callers
its_callers callers numbers carrier n m are many all =
    ap (take n) are
    ∙ take_front callers carrier n
    (omega (arith, many, all, ap (λ (ns : List ℕ). length ns) are, length-append callers (carrier ∷ [])))

module _ (port : Port) (d : DeskState) (t : Terminal) (roles : List Role) (carrier n : ℕ)
    (are : role_numbers roles ≡ callers_in port t.phase ++ carrier ∷ []) (many : n + 1 ≡ length roles) where
  abbrev s : ModemState
  s = state_at d 0 []

  callers_are : take n (role_numbers roles) ≡ callers_in port t.phase
  callers_are = its_callers (callers_in port t.phase) (role_numbers roles) carrier n (length roles) are many
      (length-map roles (λ (r : Role). r.number))

  idle_rank : nothing_to_flush t ≡ true
      → turn_by_rank port s t
      ≡ first_such (can_go_on port s t) (λ c. goes_on (Caller c)) (take n (role_numbers roles))
      (turn_of_others port s t (take n (role_numbers roles)))
  idle_rank idle =
      ap (λ (b : Bool). if not b then goes_on Flusher
      else first_such (can_go_on port s t) (λ c. goes_on (Caller c)) (callers_in port t.phase)
      (turn_of_others port s t (callers_in port t.phase))) idle
      ∙ ap (λ (ns : List ℕ). first_such (can_go_on port s t) (λ c. goes_on (Caller c)) ns (turn_of_others port s t ns))
      (sym callers_are)

  pub can_turn : (place : Option ℕ) (i : ℕ)
      → nothing_to_flush t ≡ true
      → IsFirst (can_go_on port s t) (take n (role_numbers roles)) place
      → place ≡ Some i
      → goes_on (Caller (slice_index (role_numbers roles) i)) ≡ turn_by_rank port s t
  can_turn place i idle first is =
      let h = subst (IsFirst (can_go_on port s t) (take n (role_numbers roles))) is first in
      let few = take_few (role_numbers roles) n in
      let low = h.within in
      sym (idle_rank idle ∙ (h.first (λ c. goes_on (Caller c)) (turn_of_others port s t (take n (role_numbers roles)))
      ∙ ap (λ (c : ℕ). goes_on (Caller c)) (take_at (role_numbers roles) n i (omega (arith, low, few)))))

  pub others_turn : (place : Option ℕ) (turn : Turn)
      → nothing_to_flush t ≡ true
      → IsFirst (can_go_on port s t) (take n (role_numbers roles)) place
      → place ≡ None
      → turn ≡ turn_of_others port s t (take n (role_numbers roles))
      → turn ≡ turn_by_rank port s t
  others_turn place turn idle first is same =
      let h = subst (IsFirst (can_go_on port s t) (take n (role_numbers roles))) is first in
      same
      ∙ sym (idle_rank idle ∙ h.first (λ c. goes_on (Caller c)) (turn_of_others port s t (take n (role_numbers roles))))
