-- Rows without the blanks at their end.
use Rattle.std.proofs.Common.{◌≡◌, ◌≢◌, ℕ, ◌+◌, ◌-◌, ◌<◌, ◌≤◌, List, [], ◌∷◌, ◌++◌, length, take, get_or}
use Rattle.std.proofs.Common.{ap, sym, refl, ◌∙◌, arith, if◌then◌else◌, ne_eqb, Bool}
use Rattle.std.proofs.lemmas.List.{take_more}
use Rattle.vt_print.specs.Consoles.{in_front_of, trimmed}

-- a blank at the end goes
pub trimmed-blank : (row : List ℕ) → trimmed (row ++ 32 ∷ []) ≡ trimmed row
trimmed-blank [] = refl
trimmed-blank (b ∷ row) = ap (in_front_of b) (trimmed-blank row)

-- no other byte goes
some_in_front : (b c : ℕ) (row : List ℕ) → in_front_of b (row ++ c ∷ []) ≡ b ∷ (row ++ c ∷ [])
some_in_front b c [] = refl
some_in_front b c (d ∷ row) = refl

pub trimmed-other : (row : List ℕ) (b : ℕ) → b ≢ 32 → trimmed (row ++ b ∷ []) ≡ row ++ b ∷ []
trimmed-other [] b ne = ap (λ (t : Bool). if t then [] else b ∷ []) (ne_eqb b 32 ne)
trimmed-other (c ∷ row) b ne = ap (in_front_of c) (trimmed-other row b ne) ∙ some_in_front c b row

-- one place less
pub shorter : (row : List ℕ) (n : ℕ)
    → 0 < n
    → n ≤ length row
    → get_or row (n - 1) 0 ≡ 32
    → trimmed (take n row) ≡ trimmed (take (n - 1) row)
shorter row n some within blank =
    let one : n ≡ (n - 1) + 1 = omega arith in
    let more : take ((n - 1) + 1) row ≡ take (n - 1) row ++ get_or row (n - 1) 0 ∷ [] =
    take_more row (n - 1) 0 (omega arith) in
    ap (λ (k : ℕ). trimmed (take k row)) one
    ∙ ap trimmed more
    ∙ ap (λ (b : ℕ). trimmed (take (n - 1) row ++ b ∷ [])) blank
    ∙ trimmed-blank (take (n - 1) row)

-- .. and where the last is no blank, all are left
pub stays : (row : List ℕ) (n : ℕ)
    → 0 < n
    → n ≤ length row
    → get_or row (n - 1) 0 ≢ 32
    → trimmed (take n row) ≡ take n row
stays row n some within other =
    let one : n ≡ (n - 1) + 1 = omega arith in
    let more : take ((n - 1) + 1) row ≡ take (n - 1) row ++ get_or row (n - 1) 0 ∷ [] =
    take_more row (n - 1) 0 (omega arith) in
    let whole : take n row ≡ take (n - 1) row ++ get_or row (n - 1) 0 ∷ [] = ap (λ (k : ℕ). take k row) one ∙ more in
    ap trimmed whole ∙ trimmed-other (take (n - 1) row) (get_or row (n - 1) 0) other ∙ sym whole
