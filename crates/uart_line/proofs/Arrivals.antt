-- No more characters are handed over than arrive.
use Rattle.std.proofs.Common.{◌≡◌, suc, ◌+◌, ◌<◌, ◌≤◌, Bool, true, false, nat_lt, if◌then◌else◌, List, [], ◌∷◌}
use Rattle.std.proofs.Common.{◌++◌, length, take, reverse, refl, ap, ◌∙◌, arith, length-append, length-take}
use Rattle.std.proofs.lemmas.Bool.Decides.{nat_tests}
use Rattle.std.proofs.lemmas.List.{reverse-append}
use Rattle.tty_base.specs.declared.characters.Flagged.{Flagged}
use Rattle.tty_base.specs.declared.lines.LineStep.{LineStep}
use Rattle.tty_base.specs.Lines.{arrival, arrival_count}
use Rattle.uart_line.specs.Received.{is_cut, window, uncut_window, window_output}
use Rattle.uart_line.specs.Received.{overrun_mark, received_list_after, received_list}
use Rattle.uart_line.proofs.Steps.{arrival_count-append}

-- ---- a window

-- a mark stands only where more than 16 characters have arrived
marked_few : (b : Bool) (c : Flagged) (cs : List Flagged)
    → nat_lt 16 (suc (length cs)) ≡ b
    → length (if b then c ∷ overrun_mark ∷ take 15 cs else c ∷ cs) ≤ suc (length cs)
marked_few true c cs e =
    let many : 16 < suc (length cs) = grind (arith, nat_tests) in
    omega (arith, many, length-take 15 cs)
marked_few false c cs e = omega arith

output_few : (cs : List Flagged) → length (window_output cs) ≤ length cs
unfolding window_output
output_few [] = omega arith
output_few (c ∷ cs) = marked_few (nat_lt 16 (suc (length cs))) c cs refl

cut_few : (b : Bool) (cs : List Flagged)
    → length (if b then window_output cs else []) + length (if b then [] else cs) ≤ length cs
cut_few true cs = omega (arith, output_few cs)
cut_few false cs = omega arith

waits_few : (b : Bool) (cs : List Flagged) → length (if b then [] else cs) ≤ length cs
waits_few true cs = omega arith
waits_few false cs = omega arith

-- what was received, with what waits, has arrived
after_few : (past : List LineStep)
    → length (received_list_after past) + length (uncut_window past (window past)) ≤ arrival_count past
unfolding received_list_after window
after_few [] = omega (arith, waits_few (is_cut [] []) [])
after_few (step ∷ past) =
    let before = after_few past in
    let grown = length-append (uncut_window past (window past)) (arrival step) in
    let both = length-append (received_list_after past) (if is_cut (step ∷ past)
    (uncut_window past (window past) ++ arrival step)
    then window_output (uncut_window past (window past) ++ arrival step)
    else []) in
    omega (
      arith,
      before,
      grown,
      both,
      cut_few (is_cut (step ∷ past) (uncut_window past (window past) ++ arrival step))
          (uncut_window past (window past) ++ arrival step),
    )

-- ---- a script

reversed_arrivals : (steps : List LineStep) → arrival_count (reverse steps) ≡ arrival_count steps
reversed_arrivals [] = refl
reversed_arrivals (x ∷ xs) =
    let last : reverse (x ∷ xs) ≡ reverse xs ++ x ∷ [] = reverse-append (x ∷ []) xs in
    let parts : arrival_count (reverse (x ∷ xs)) ≡ arrival_count (reverse xs) + arrival_count (x ∷ []) =
    ap arrival_count last ∙ arrival_count-append (reverse xs) (x ∷ []) in
    omega (arith, parts, reversed_arrivals xs)

pub received_few : (steps : List LineStep) → length (received_list steps) ≤ arrival_count steps
unfolding received_list
received_few steps = omega (arith, after_few (reverse steps), reversed_arrivals steps)
