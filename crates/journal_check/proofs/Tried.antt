-- What the outcome of a call tells of an entry of it; and characters that are handed over.
use Rattle.std.proofs.Common.{◌≡◌, ℕ, zero, suc, Bool, false, ◌+◌, ◌-◌, ◌<◌, ◌≤◌, ◌^◌, List, [], ◌∷◌, Some}
use Rattle.std.proofs.Common.{true, length, take, take_all, ◌==◌, inl, inr, ne_eqb, sym, ◌∙◌, ap, subst, arith}
use Rattle.std.proofs.lemmas.Bool.{cases_lt, eqb-false, true_from_ne_false, false≢true}
use Rattle.tty_base.specs.Sizes.{MOST_SENT, NUMBER_END}
use Rattle.tty_base.specs.declared.characters.Flagged.{Flagged}
use Rattle.tty_calls.specs.Plain.{PlainCall}
use Rattle.tty_terminal.specs.Terminals.{Terminal, caller_at}
use Rattle.tty_terminal.specs.Receiving.{accepts, after_character, after_characters, AcceptsAll}
use Rattle.tty_terminal.specs.Outcomes.{Outcome, unknown, waits, takes, gives}
use Rattle.tty_terminal.specs.declared.rooms.Met.TheVariants as met
use Rattle.tty_terminal.specs.Calls.{outcome}
use Rattle.tty_terminal.specs.Meeting.{Meets}
use Rattle.tty_terminal.specs.Steps.{left_by, TakesPart, DropsAt}
use Rattle.tty_terminal.proofs.Effects.{Leaves, outcome_keeps}
use Rattle.tty_terminal.proofs.WaitLaws.{part_more}
use Rattle.journal_check.specs.Trying.{Tries, IsSmall, IsSmallCall}

-- what a call leaves, of callers and numbers
pub left_leaves : (t : Terminal) (c : ℕ) (call : PlainCall) → Leaves t (left_by (outcome t (caller_at t c) call) t)
left_leaves t c call = (outcome_keeps t (caller_at t c) (Some call)).left

-- the numbers that an entry of a call needs, after the call
pub record LeftSmall (u : Terminal) (callers : ℕ) : Type 0 where
  pub known : length u.callers ≡ callers
  pub next : (c : ℕ) → (caller_at u c).next < NUMBER_END
  pub parts : (c : ℕ) → (caller_at u c).parts < NUMBER_END
  pub taken : u.taken < MOST_SENT - 2 ^ 32

pub left_small : (t : Terminal) (c : ℕ) (call : PlainCall)
    → IsSmall t
    → LeftSmall (left_by (outcome t (caller_at t c) call) t) (length t.callers)
left_small t c call small =
    let l = left_leaves t c call in
    record {
      known = l.callers;
      next = λ d. omega (arith, (l.caller d).next, small.next d);
      parts = λ d. omega (arith, (l.caller d).parts, small.parts d);
      taken = omega (arith, l.taken, small.taken);
    }

-- so many bytes of a write are taken
pub part_small : (t : Terminal) (c n : ℕ) (call : PlainCall)
    → IsSmallCall call
    → TakesPart (outcome t (caller_at t c) call) n
    → (caller_at (left_by (outcome t (caller_at t c) call) t) c).taken + n < 2 ^ 32
part_small t c n call small took =
    omega (arith, ((left_leaves t c call).caller c).taken, part_more t (caller_at t c) call n took, small.bytes)

-- ---- characters that are handed over

-- where all are accepted, so is the next after some of them
next_accepted : (t : Terminal) (xs : List Flagged) (n : ℕ)
    → n < length xs
    → AcceptsAll t xs
    → accepts (after_characters t (take n xs)) ≡ true
next_accepted t [] n some all = absurd (omega (arith, some))
next_accepted t (x ∷ xs) zero some all = all.0
next_accepted t (x ∷ xs) (suc n) some all = next_accepted (after_character t x) xs n (omega (arith, some)) all.1

-- where so many were received as there are, all are accepted, and else they are not
pub all_or_not : (t u : Terminal) (xs : List Flagged) (n : ℕ) (made : Bool)
    → made ≡ (n == length xs)
    → n ≤ length xs
    → u ≡ after_characters t (take n xs)
    → AcceptsAll t (take n xs)
    → (n < length xs → accepts u ≡ false)
    → Tries (AcceptsAll t xs) (after_characters t xs) u made
all_or_not t u xs n made is within left front stops = elim (cases_lt n (length xs)) [
  | inl some ↦
      let not : made ≡ false = is ∙ ne_eqb n (length xs) (λ e. omega (arith, some, e)) in
      subst (Tries (AcceptsAll t xs) (after_characters t xs) u) (sym not)
      (λ all. false≢true (sym (stops some) ∙ ap accepts left ∙ next_accepted t xs n some all))
  | inr none ↦
      let whole : take n xs ≡ xs = take_all n xs none in
      let yes : made ≡ true =
      is ∙ true_from_ne_false (n == length xs) (λ no. eqb-false n (length xs) no (omega (arith, within, none))) in
      subst (Tries (AcceptsAll t xs) (after_characters t xs) u) (sym yes)
      (subst (AcceptsAll t) whole front, left ∙ ap (after_characters t) whole)
]

-- ---- characters that an answer drops

pub drops_few : (t : Terminal) (drops : Bool) (n : ℕ) → DropsAt t drops n → t.capacity < 2 ^ 32 → n < 2 ^ 32
drops_few t false n at capacity = omega (arith, at)
drops_few t true n at capacity = omega (arith, at.1)

pub met_part : (o : Outcome) (n : ℕ) → Meets o (met.Takes n) → TakesPart o n
met_part unknown n m = m
met_part waits n m = m
met_part (takes taken left) n m = m
met_part (gives answer drops left) n m = m
