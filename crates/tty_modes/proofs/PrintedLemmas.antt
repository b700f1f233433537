-- Whether control characters are printed, one by one and after a change of one.
use Rattle.std.proofs.Common.{◌≡◌, ◌∙◌, ◌<◌, ℕ, zero, suc, Bool, true, false, ◌&&◌, not}
use Rattle.std.proofs.Common.{List, [], ◌∷◌, length, get_or, drop, refl, sym, ap, arith}
use Rattle.std.proofs.Math.ListN.{set}
use Rattle.std.proofs.lemmas.Bool.{and_from, and_parts}
use Rattle.tty_modes.specs.Printed.{is_printed, are_unprinted}

and_false : (b : Bool) → (b && false) ≡ false
and_false true = refl
and_false false = refl

-- where the character at a place is printed, one from there on is
pub stops : (cs : List ℕ) (i : ℕ)
    → i < length cs
    → is_printed (get_or cs i 0) ≡ true
    → are_unprinted (drop i cs) ≡ false
stops [] i below printed = absurd (omega arith)
stops (c ∷ cs) zero below printed = rw printed refl
stops (c ∷ cs) (suc i) below printed = stops cs i (omega arith) printed

-- else those after it tell
pub goes_on : (cs : List ℕ) (i : ℕ)
    → i < length cs
    → is_printed (get_or cs i 0) ≡ false
    → are_unprinted (drop i cs) ≡ are_unprinted (drop (suc i) cs)
goes_on [] i below unprinted = absurd (omega arith)
goes_on (c ∷ cs) zero below unprinted = rw unprinted refl
goes_on (c ∷ cs) (suc i) below unprinted = goes_on cs i (omega arith) unprinted

-- a printed one in place of another
pub printed-set : (cs : List ℕ) (place value : ℕ)
    → place < length cs
    → is_printed value ≡ true
    → are_unprinted (set cs place value) ≡ false
printed-set [] place value below printed = absurd (omega arith)
printed-set (c ∷ cs) zero value below printed = rw printed refl
printed-set (c ∷ cs) (suc place) value below printed =
    ap (λ rest. not (is_printed c) && rest) (printed-set cs place value (omega arith) printed)
    ∙ and_false (not (is_printed c))

-- another in place of one, where none is printed
pub unprinted-set : (cs : List ℕ) (place value : ℕ)
    → are_unprinted cs ≡ true
    → is_printed value ≡ false
    → are_unprinted (set cs place value) ≡ true
unprinted-set [] place value all unprinted = refl
unprinted-set (c ∷ cs) zero value all unprinted =
    and_from (not (is_printed value)) (are_unprinted cs) (ap not unprinted)
    (and_parts (not (is_printed c)) (are_unprinted cs) all).1
unprinted-set (c ∷ cs) (suc place) value all unprinted =
    let parts = and_parts (not (is_printed c)) (are_unprinted cs) all in
    and_from (not (is_printed c)) (are_unprinted (set cs place value)) parts.0
    (unprinted-set cs place value parts.1 unprinted)

-- a printed byte is none of those that are not
pub apart : (cs : List ℕ) (place byte : ℕ)
    → are_unprinted cs ≡ true
    → is_printed byte ≡ true
    → byte ≡ get_or cs place 0
    → ⊥
apart [] place byte all printed same =
    let none : is_printed byte ≡ false = ap is_printed same in
    absurd (cc)
apart (c ∷ cs) zero byte all printed same =
    let is : not (is_printed byte) ≡ true =
    ap (λ b. not (is_printed b)) same ∙ (and_parts (not (is_printed c)) (are_unprinted cs) all).0 in
    let none : not true ≡ true = ap not (sym printed) ∙ is in
    absurd (cc)
apart (c ∷ cs) (suc place) byte all printed same =
    apart cs place byte (and_parts (not (is_printed c)) (are_unprinted cs) all).1 printed same
