-- Counts of callers, as one of them or each changes.
use Rattle.std.proofs.Common.{◌≡◌, ◌+◌, ◌-◌, ◌<◌, ◌≤◌, ℕ, zero, suc, List, [], ◌∷◌, Bool, true, false}
use Rattle.std.proofs.Common.{Option, None, Some, length, map, set, get_or, cond, refl, ap, arith}
use mir.Val.{bool_byte}
use Rattle.std.specs.Prelude.{count_by}
use Rattle.std.proofs.lemmas.List.Sums.{sum_by-cons, sum_by-set}
use Rattle.tty_terminal.specs.declared.callers.Bound.{Bound}
use Rattle.tty_terminal.specs.declared.callers.CallerState.{CallerState}
use Rattle.tty_terminal.specs.Terminals.{is_bound, has_begun}
use Rattle.tty_terminal.specs.Generations.{bound_after_close, caller_after_close}
use Rattle.tty_terminal.specs.Generations.{bound_after_hangup, caller_after_hangup}

abbrev one_of : Bool → ℕ
one_of b = cond b 1 0

one_is : (b : Bool) → one_of b ≡ bool_byte b
one_is true = refl
one_is false = refl

counted_there : (p : CallerState → Bool) (cs : List CallerState) (i : ℕ) (s : CallerState)
    → i < length cs
    → s ≡ get_or cs i s
    → bool_byte (p s) ≤ count_by p cs
counted_there p [] i s lt is = absurd (omega arith)
counted_there p (x ∷ xs) zero s lt is =
    omega (arith, sum_by-cons (λ y. one_of (p y)) x xs, one_is (p x), ap (λ y. bool_byte (p y)) is)
counted_there p (x ∷ xs) (suc i) s lt is =
    omega (arith, sum_by-cons (λ y. one_of (p y)) x xs, counted_there p xs i s (omega arith) is)

-- the caller at a place, where it counts, is one of those that are counted
pub counted : (p : CallerState → Bool) (cs : List CallerState) (i : ℕ) (s : CallerState) (k n : ℕ)
    → i < length cs
    → s ≡ get_or cs i s
    → k ≡ bool_byte (p s)
    → n ≡ count_by p cs
    → k ≤ n
counted p cs i s k n lt is one all = omega (arith, one, all, counted_there p cs i s lt is)

-- how many are counted where another stands at its place
pub counted_anew : (p : CallerState → Bool) (cs : List CallerState) (i : ℕ) (s t : CallerState) (k m n : ℕ)
    → i < length cs
    → s ≡ get_or cs i s
    → k ≡ bool_byte (p s)
    → m ≡ bool_byte (p t)
    → n ≡ count_by p cs
    → n - k + m ≡ count_by p (set cs i t)
counted_anew p cs i s t k m n lt is one other all = omega (
  arith,
  one,
  other,
  all,
  counted_there p cs i s lt is,
  sum_by-set (λ y. one_of (p y)) cs i t s lt,
  one_is (p t),
  one_is (p (get_or cs i s)),
  ap (λ y. bool_byte (p y)) is,
)

one_if : (b : Bool) → one_of b ≡ 0 → b ≡ false
one_if true h = cc
one_if false h = refl

-- what changes a begun call alone changes nothing where none has begun
pub none_begun : (f : CallerState → CallerState)
    → ((s : CallerState) → has_begun s ≡ false → f s ≡ s)
    → (cs : List CallerState)
    → count_by has_begun cs ≡ 0
    → cs ≡ map f cs
none_begun f same [] h = refl
none_begun f same (s ∷ cs) h =
    let whole = sum_by-cons (λ (x : CallerState). one_of (has_begun x)) s cs in
    let first : one_of (has_begun s) ≡ 0 = omega (arith, whole, h) in
    let rest : count_by has_begun cs ≡ 0 = omega (arith, whole, h) in
    let one : f s ≡ s = same s (one_if (has_begun s) first) in
    let more = none_begun f same cs rest in
    cc

close_of_none : (h : ℕ) (b : Option Bound) → is_bound b ≡ false → bound_after_close h b ≡ b
close_of_none h None e = refl
close_of_none h (Some b) e = cc

hangup_of_none : (b : Option Bound) → is_bound b ≡ false → bound_after_hangup b ≡ b
hangup_of_none None e = refl
hangup_of_none (Some b) e = cc

pub close_changes_none : (h : ℕ) (cs : List CallerState)
    → count_by has_begun cs ≡ 0
    → cs ≡ map (caller_after_close h) cs
close_changes_none h cs e = none_begun (caller_after_close h)
    (λ s k. ap (λ (b : Option Bound). record s { bound = b }) (close_of_none h s.bound k)) cs e

pub hangup_changes_none : (cs : List CallerState) → count_by has_begun cs ≡ 0 → cs ≡ map caller_after_hangup cs
hangup_changes_none cs e = none_begun caller_after_hangup
    (λ s k. ap (λ (b : Option Bound). record s { bound = b }) (hangup_of_none s.bound k)) cs e
