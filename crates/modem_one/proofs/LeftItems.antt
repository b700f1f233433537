-- The items that are left, by one that is done.
use Rattle.std.proofs.Common.{◌≡◌, ℕ, zero, suc, ◌+◌, List, [], ◌∷◌, map, drop, refl, ap, ◌∙◌, arith}
use Rattle.modem_text.specs.declared.sessions.PinItem.{PinItem}
use Rattle.modem_text.specs.Sessions.{step_of}

behind_one : (items : List PinItem) (i : ℕ) → map step_of (drop (suc i) items) ≡ drop 1 (map step_of (drop i items))
behind_one [] zero = refl
behind_one [] (suc i) = refl
behind_one (x ∷ items) zero = refl
behind_one (x ∷ items) (suc i) = behind_one items i

pub passed_items : (items : List PinItem) (i : ℕ)
    → map step_of (drop (i + 1) items) ≡ drop 1 (map step_of (drop i items))
passed_items items i =
    let next : i + 1 ≡ suc i = omega arith in
    ap (λ (n : ℕ). map step_of (drop n items)) next ∙ behind_one items i
