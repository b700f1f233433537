-- Seats of a new shared port, and of one that is closed.
use Rattle.std.proofs.Common.{◌≡◌, ℕ, ◌+◌, ◌<◌, zero, suc, List, [], ◌∷◌, ◌++◌, Some}
use Rattle.std.proofs.Common.{slice_get, length, arith, is_some, refl, sym, ◌∙◌, ap, subst}
use Rattle.port_cell.specs.declared.kept.Stamped.{Stamped}
use Rattle.port_cell.specs.Knowledge.{number_of, list_seen}
use Rattle.port_cell.specs.Seats.{in_hand, IsNew, AllNew, EachSeat, HasAll}
use Rattle.tty_port.specs.Inside.{EntryWithCall}
use Rattle.tty_port.specs.Calls.{PortSeat}
use Rattle.tty_port.specs.Shared.{IsHere, AreHere, table_of, name_of_port}
use Rattle.tty_port.specs.declared.shared.SharedPort.{SharedPort}

is_here : (p : SharedPort) (xs : List (Stamped EntryWithCall)) (n : ℕ) (s : PortSeat)
    → IsNew (table_of p) (name_of_port p) xs n s
    → IsHere p n s × (list_seen s ≡ xs)
is_here p xs n s h =
    let me = h.1.1 in (
      record {
        seat = record {
          table = h.0;
          named = ap (λ m. is_some m.0.name) me;
          hand = ap (λ m. m.1) me ∙ sym (ap (λ m. in_hand m.0.turn) me);
        };
        number = ap (λ m. m.0.number) me;
        named = ap (λ m. m.0.name) me;
        uses = ap (λ m. m.0.user) me;
        no_turn = ap (λ m. m.0.turn) me;
      },
      ap (λ m. m.0.seen) me,
    )

pub are_here : (p : SharedPort) (xs : List (Stamped EntryWithCall)) (n : ℕ) (ss : List PortSeat)
    → AllNew (table_of p) (name_of_port p) xs n ss
    → AreHere p xs n ss
are_here p xs n [] h = tt
are_here p xs n (s ∷ ss) h = (is_here p xs n s h.0, are_here p xs (n + 1) ss h.1)

pub each_both : (P Q R : PortSeat → Type 0)
    → ((s : PortSeat) → P s → Q s → R s)
    → (ss : List PortSeat)
    → EachSeat P ss
    → EachSeat Q ss
    → EachSeat R ss
each_both P Q R f [] h k = tt
each_both P Q R f (s ∷ ss) h k = (f s h.0 k.0, each_both P Q R f ss h.1 k.1)

-- the last of the seats, and the others
pub here_front : (p : SharedPort) (xs : List (Stamped EntryWithCall)) (n : ℕ) (ss : List PortSeat) (s : PortSeat)
    → AreHere p xs n (ss ++ s ∷ [])
    → AreHere p xs n ss × (IsHere p (n + length ss) s × (list_seen s ≡ xs))
here_front p xs n [] s h = (tt, (subst (λ (k : ℕ). IsHere p k s) (let e : n ≡ n + 0 = omega arith in e) h.0.0, h.0.1))
here_front p xs n (t ∷ ts) s h =
    let rest = here_front p xs (n + 1) ts s h.1 in (
      (h.0, rest.0),
      (
        subst (λ (k : ℕ). IsHere p k s) (let e : n + 1 + length ts ≡ n + suc (length ts) = omega arith in e) rest.1.0,
        rest.1.1,
      ),
    )

-- the seats have the numbers from this one on, in their order
abbrev pub AreNumbered : ℕ → List PortSeat → Type 0
AreNumbered n [] = Unit {0}
AreNumbered n (s ∷ ss) = (number_of s ≡ n) × AreNumbered (n + 1) ss

numbered_at : (n j : ℕ) (ss : List PortSeat)
    → AreNumbered n ss
    → j < length ss
    → (s : PortSeat) × (slice_get ss j ≡ Some s) × (number_of s ≡ n + j)
numbered_at n j [] h lt = absurd (omega arith)
numbered_at n zero (s ∷ ss) h lt = let e : number_of s ≡ n + 0 = omega (arith, h.0) in (s, refl, e)
numbered_at n (suc j) (s ∷ ss) h lt =
    let rest = numbered_at (n + 1) j ss h.1 (omega arith) in
    let at = rest.2 in
    let e : number_of rest.0 ≡ n + suc j = omega arith in (rest.0, rest.1, e)

pub has_numbered : (ss : List PortSeat) → AreNumbered 0 ss → HasAll (length ss) ss
has_numbered ss h k lt =
    let found = numbered_at 0 k ss h lt in
    let at = found.2 in
    let e : number_of found.0 ≡ k = omega arith in (k, found.0, found.1, e)
