-- Seats of a shared board, one by one.
use Rattle.std.proofs.Common.{◌≡◌, ℕ, ◌+◌, ◌<◌, zero, suc, List, [], ◌∷◌, ◌++◌}
use Rattle.std.proofs.Common.{Some, slice_get, length, arith, refl, subst}
use Rattle.port_cell.specs.declared.kept.Stamped.{Stamped}
use Rattle.port_cell.specs.Knowledge.{number_of, list_seen}
use Rattle.port_cell.specs.Seats.{HasAll}
use Rattle.vt_consoles.specs.declared.entries.VtEvent.{VtEvent}
use Rattle.vt_consoles.specs.declared.shared.SharedBoard.{SharedBoard}
use Rattle.vt_consoles.specs.Seats.{BoardSeat}
use Rattle.vt_consoles.specs.Shared.{IsHere, AreHere}

-- the last of the seats, and the others
pub here_front : (p : SharedBoard) (xs : List (Stamped VtEvent)) (n : ℕ) (ss : List BoardSeat) (s : BoardSeat)
    → AreHere p xs n (ss ++ s ∷ [])
    → AreHere p xs n ss × (IsHere p (n + length ss) s × (list_seen s ≡ xs))
here_front p xs n [] s h = (tt, (subst (λ (k : ℕ). IsHere p k s) (let e : n ≡ n + 0 = omega arith in e) h.0.0, h.0.1))
here_front p xs n (t ∷ ts) s h =
    let rest = here_front p xs (n + 1) ts s h.1 in (
      (h.0, rest.0),
      (
        subst (λ (k : ℕ). IsHere p k s) (let e : n + 1 + length ts ≡ n + suc (length ts) = omega arith in e) rest.1.0,
        rest.1.1,
      ),
    )

-- the seats have the numbers from this one on, in their order
abbrev pub AreNumbered : ℕ → List BoardSeat → Type 0
AreNumbered n [] = Unit {0}
AreNumbered n (s ∷ ss) = (number_of s ≡ n) × AreNumbered (n + 1) ss

numbered_at : (n j : ℕ) (ss : List BoardSeat)
    → AreNumbered n ss
    → j < length ss
    → (s : BoardSeat) × (slice_get ss j ≡ Some s) × (number_of s ≡ n + j)
numbered_at n j [] h lt = absurd (omega arith)
numbered_at n zero (s ∷ ss) h lt = let e : number_of s ≡ n + 0 = omega (arith, h.0) in (s, refl, e)
numbered_at n (suc j) (s ∷ ss) h lt =
    let rest = numbered_at (n + 1) j ss h.1 (omega arith) in
    let at = rest.2 in
    let e : number_of rest.0 ≡ n + suc j = omega arith in (rest.0, rest.1, e)

pub has_numbered : (ss : List BoardSeat) → AreNumbered 0 ss → HasAll (length ss) ss
has_numbered ss h k lt =
    let found = numbered_at 0 k ss h lt in
    let at = found.2 in
    let e : number_of found.0 ≡ k = omega arith in (k, found.0, found.1, e)
