-- What a row of characters becomes.
use Rattle.std.proofs.Common.{◌≡◌, ℕ, ◌+◌, ◌-◌, ◌<◌, ◌≤◌, ◌==◌, nat_eq, nat_lt, List, [], ◌∷◌, ◌++◌}
use Rattle.std.proofs.Common.{length, take, drop, get_or, sym, ◌∙◌, ap, arith, length-take, length-drop}
use Rattle.std.proofs.Math.ListN.{set}
use Rattle.std.proofs.lemmas.Bool.Decides.{nat_tests}
use Rattle.std.proofs.lemmas.List.{take_more_set, drop-append-le, drop-take}
use Rattle.std.proofs.lemmas.List.{drop_more, drop-set, get_or-take, take-append-le}
use Rattle.std.proofs.Math.Seq.{take-set-lt}
use Rattle.tty_base.specs.declared.characters.Flag.TheVariants.{Normal}
use Rattle.tty_base.specs.declared.characters.Flagged.{Flagged}
use Rattle.uart_regs.specs.Registers.{with_front_cleared}
use Rattle.uart_regs.specs.Row.{row, IsRow}

pub length-row : (places : List Flagged) (front end : ℕ)
    → IsRow places front end
    → length (row places front end) ≡ end - front
length-row places front end r =
    omega (arith, r.within, r.in_order, r.size, length-drop front (take end places), length-take end places)

pub row-add : (places : List Flagged) (front end : ℕ) (c : Flagged) → IsRow places front end → end < 16
    → row (set places end c) front (end + 1) ≡ row places front end ++ c ∷ []
row-add places front end c r room =
    ap (drop front) (take_more_set places end c (omega (arith, r.size, room)))
    ∙ drop-append-le front (take end places) (c ∷ [])
    (omega (arith, r.within, r.in_order, r.size, length-take end places))

pub row-moved : (places : List Flagged) (front end : ℕ) → IsRow places front end
    → row (drop front places ++ take front places) 0 (end - front) ≡ row places front end
row-moved places front end r =
    let parts : front + (end - front) ≡ end = omega (arith, r.in_order) in
    take-append-le (end - front) (drop front places) (take front places)
    (omega (arith, r.within, r.size, length-drop front places))
    ∙ sym (drop-take front (end - front) places)
    ∙ ap (λ n. row places front n) parts

pub is_empty_row : (n front end : ℕ) → n ≡ end - front → front ≤ end → nat_eq front end ≡ (n == 0)
is_empty_row n front end e h = grind (arith, nat_tests)

-- where the last place is taken, there is room exactly where the first is free
pub has_room_row : (n front end : ℕ) → n ≡ end - front → front ≤ end → end ≡ 16 → nat_lt 0 front ≡ nat_lt n 16
has_room_row n front end e h f = grind (arith, nat_tests)

pub row-cleared : (places : List Flagged) (front end : ℕ) (d : Flagged)
    → IsRow places front end
    → front < end
    → row (set places front (record (get_or places front d) { flag = Normal })) front end
    ≡ with_front_cleared (row places front end)
row-cleared places front end d r some =
    let within : front < length (take end places) = omega (arith, r.within, r.size, length-take end places) in
    ap (drop front) (take-set-lt end places front (record (get_or places front d) { flag = Normal }) some)
    ∙ drop-set (take end places) front (record (get_or places front d) { flag = Normal }) within
    ∙ ap (λ (c : Flagged). record c { flag = Normal } ∷ drop (front + 1) (take end places))
    (sym (get_or-take end places front d some))
    ∙ sym (ap with_front_cleared (drop_more (take end places) front d within))
