-- A session without phases has no calls.
use Rattle.std.proofs.Common.{◌≡◌, ℕ, ◌+◌, ◌-◌, List, [], ◌∷◌, ◌++◌, length, take, refl, ◌∙◌, ap, arith, length-append}
use Rattle.std.specs.Prelude.{codes}
use Rattle.tty_calls.specs.declared.journals.PortRun.{PortRun}
use Rattle.session_print.specs.Ends.{PlainEnd}
use Rattle.session_print.specs.Lines.{newline}
use Rattle.session_print.specs.Report.{calls_from, ports_from, report_text}
use Rattle.further_report.specs.Ports.{without_phases}

no_calls : (version ports : ℕ) (flips : List ℕ) (p : ℕ) (runs : List PortRun)
    → calls_from p (without_phases version ports flips) runs ≡ []
no_calls version ports flips p [] = refl
no_calls version ports flips p (run ∷ runs) = no_calls version ports flips (p + 1) runs

take_front : (xs ys : List ℕ) → take (length xs) (xs ++ ys) ≡ xs
take_front [] ys = refl
take_front (x ∷ xs) ys = ap (λ (l : List ℕ). x ∷ l) (take_front xs ys)

-- its report has the lines of the ports, and the last line
pub ports_front : (version ports : ℕ) (flips : List ℕ) (runs : List PortRun) (ends : List PlainEnd) (text : List ℕ)
    → text ≡ report_text (without_phases version ports flips) runs ends
    → take (length text - 5) text ≡ ports_from 0 (without_phases version ports flips) runs ends
ports_front version ports flips runs ends text h =
    let lines : List ℕ = ports_from 0 (without_phases version ports flips) runs ends in
    let last : List ℕ = codes "done" ++ newline in
    let whole : text ≡ lines ++ last =
    h ∙ ap (λ (l : List ℕ). l ++ (lines ++ last)) (no_calls version ports flips 0 runs) in
    let five : length last ≡ 5 = refl in
    let count : length text - 5 ≡ length lines =
    omega (arith, ap (λ (l : List ℕ). length l) whole, length-append lines last, five) in
    ap (λ (n : ℕ). take n text) count ∙ ap (λ (l : List ℕ). take (length lines) l) whole ∙ take_front lines last
