-- The entries of a history, counted seat by seat.
use Rattle.std.proofs.Common.{◌≡◌, ◌≢◌, ◌⊎◌, inl, inr, ℕ, zero, suc, ◌+◌, ◌<◌, ◌≤◌, List, []}
use Rattle.std.proofs.Common.{◌∷◌, cond, eq-eqb, ne_eqb, length, refl, ap, arith}
use Rattle.std.proofs.lemmas.Bool.{cases_order}
use Rattle.port_cell.specs.declared.kept.Stamped.{Stamped}
use Rattle.port_cell.specs.Entries.{Each, entries_by}
use Rattle.vt_consoles.specs.declared.entries.VtEvent.{VtEvent}
use Rattle.vt_threads.specs.Counting.{count_below}

other_seat : (n : ℕ) (x : Stamped VtEvent) (xs : List (Stamped VtEvent))
    → x.seat ≢ n
    → entries_by n (x ∷ xs) ≡ entries_by n xs
other_seat n x xs ne = ap (λ b. cond b (x ∷ entries_by n xs) (entries_by n xs)) (ne_eqb x.seat n ne)

own_seat : (n : ℕ) (x : Stamped VtEvent) (xs : List (Stamped VtEvent))
    → x.seat ≡ n
    → entries_by n (x ∷ xs) ≡ x ∷ entries_by n xs
own_seat n x xs e = ap (λ b. cond b (x ∷ entries_by n xs) (entries_by n xs)) (eq-eqb x.seat n e)

none_below : (n : ℕ) → count_below n [] ≡ 0
none_below zero = refl
none_below (suc n) = let rest = none_below n in omega (arith, rest)

above : (n : ℕ) (x : Stamped VtEvent) (xs : List (Stamped VtEvent))
    → n ≤ x.seat
    → count_below n (x ∷ xs) ≡ count_below n xs
above zero x xs h = refl
above (suc n) x xs h =
    let rest = above n x xs (omega (arith, h)) in
    let same = ap (λ (l : List (Stamped VtEvent)). length l) (other_seat n x xs (λ e. absurd (omega (arith, e, h)))) in
    omega (arith, rest, same)

one_below : (n : ℕ) (x : Stamped VtEvent) (xs : List (Stamped VtEvent))
    → x.seat < n
    → count_below n (x ∷ xs) ≡ count_below n xs + 1
one_below zero x xs h = absurd (omega (arith, h))
one_below (suc n) x xs h = by_place (one_below n x xs) (cases_order x.seat n)
  where
    by_place : (x.seat < n → count_below n (x ∷ xs) ≡ count_below n xs + 1)
        → (x.seat ≡ n) ⊎ ((x.seat < n) ⊎ (n < x.seat))
        → count_below (suc n) (x ∷ xs) ≡ count_below (suc n) xs + 1
    by_place fewer (inl same) =
        let rest = above n x xs (omega (arith, same)) in
        let own = ap (λ (l : List (Stamped VtEvent)). length l) (own_seat n x xs same) in
        omega (arith, rest, own)
    by_place fewer (inr (inl less)) =
        let rest = fewer less in
        let same =
        ap (λ (l : List (Stamped VtEvent)). length l) (other_seat n x xs (λ e. absurd (omega (arith, e, less)))) in
        omega (arith, rest, same)
    by_place fewer (inr (inr more)) = absurd (omega (arith, h, more))

pub all_counted : (n : ℕ) (xs : List (Stamped VtEvent)) → Each (λ k. k < n) xs → count_below n xs ≡ length xs
all_counted n [] h = none_below n
all_counted n (x ∷ xs) h = let one = one_below n x xs h.0 in let rest = all_counted n xs h.1 in omega (arith, one, rest)
