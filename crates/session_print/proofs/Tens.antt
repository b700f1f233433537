-- The digits of a step before its last, and the last.
use Rattle.std.proofs.Common.{◌≡◌, ℕ, List, [], ◌∷◌, ◌++◌, ◌+◌, ◌/◌, ◌%◌, ◌<◌, ◌≤◌, ◌^◌, codes, decimal}
use Rattle.std.proofs.Common.{Result, Ok, Err, OnOk, sym, ap, ◌∙◌, arith, append_assoc, lt-ltb, le-ltb, cond}
use mathlib.Core.Logic.{⊎_elim}
use Rattle.std.proofs.lemmas.Fmt.{decimal_digit, decimal_step}
use Rattle.std.proofs.lemmas.Bool.{cases_order}
use Rattle.tty_calls.specs.Plain.{PlainCall, PlainAnswer}
use Rattle.session_print.specs.Words.{verb_of, answer_text}
use Rattle.session_print.specs.Lines.{newline}
use Rattle.session_print.specs.Printing.{tens, call_rest}

few : (step : ℕ) → step < 10 → tens step ≡ []
few step h = ap (λ b. cond b [] (decimal (step / 10))) (lt-ltb step 10 h)

many : (step : ℕ) → 10 ≤ step → tens step ≡ decimal (step / 10)
many step h = ap (λ b. cond b [] (decimal (step / 10))) (le-ltb step 10 h)

-- a number of two digits or more, by its last one
pub by_last_digit : (n : ℕ) → 10 ≤ n → n < 2 ^ 64 → decimal (n / 10) ++ decimal (n % 10) ≡ decimal n
by_last_digit n more small =
    let last : n % 10 < 10 = omega arith in
    ap (λ xs. decimal (n / 10) ++ xs) (decimal_digit (n % 10) last) ∙ sym (decimal_step n more small)

from_ten : (step : ℕ) → 10 ≤ step → step < 2 ^ 64 → tens step ++ decimal (step % 10) ≡ decimal step
from_ten step more small = ap (λ xs. xs ++ decimal (step % 10)) (many step more) ∙ by_last_digit step more small

below_ten : (step : ℕ) → step < 10 → tens step ++ decimal (step % 10) ≡ decimal step
below_ten step one =
    let same : step % 10 ≡ step = omega (arith, one) in
    ap (λ xs. xs ++ decimal (step % 10)) (few step one) ∙ ap decimal same

pub with_last : (step : ℕ) → step < 2 ^ 64 → tens step ++ decimal (step % 10) ≡ decimal step
with_last step small =
    ⊎_elim (λ is. from_ten step (omega (arith, is)) small)
    (λ apart. ⊎_elim (λ one. below_ten step one) (λ more. from_ten step (omega (arith, more)) small) apart)
    (cases_order step 10)

-- a digit and a blank, alone and after others
pub spaced : (digit : ℕ) → digit < 10 → (48 + digit) ∷ codes " " ≡ decimal digit ++ codes " "
spaced digit one = ap (λ xs. xs ++ codes " ") (sym (decimal_digit digit one))

pub spaced_last : (n : ℕ) → 10 ≤ n → n < 2 ^ 64 → decimal (n / 10) ++ (48 + n % 10) ∷ codes " " ≡ decimal n ++ codes " "
spaced_last n more small =
    ap (λ xs. decimal (n / 10) ++ xs) (spaced (n % 10) (omega arith))
    ∙ sym (append_assoc (decimal (n / 10)) (decimal (n % 10)) (codes " "))
    ∙ ap (λ xs. xs ++ codes " ") (by_last_digit n more small)

line_is : (front : List ℕ) (step : ℕ) (call : PlainCall) (answer : PlainAnswer)
    → step < 2 ^ 64
    → (front ++ tens step) ++ call_rest (step % 10) call answer ≡ front ++ call_rest step call answer
line_is front step call answer small =
    let rest : List ℕ = codes " " ++ (verb_of call ++ (codes " " ++ (answer_text answer ++ newline))) in
    append_assoc front (tens step) (call_rest (step % 10) call answer)
    ∙ ap (λ xs. front ++ xs)
    (sym (append_assoc (tens step) (decimal (step % 10)) rest) ∙ ap (λ xs. xs ++ rest) (with_last step small))

-- the line of a step, from what its number shares
pub line_told : {T E : Type 0} (r : Result T E) (old new front shared : List ℕ) (step digit : ℕ) (call : PlainCall)
    (answer : PlainAnswer)
    → step < 2 ^ 64
    → digit ≡ step % 10
    → shared ≡ front ++ tens step
    → OnOk r (new ≡ old ++ (shared ++ call_rest digit call answer))
    → OnOk r (new ≡ old ++ (front ++ call_rest step call answer))
line_told (Err e) old new front shared step digit call answer small last is put = tt
line_told (Ok t) old new front shared step digit call answer small last is put =
    put
    ∙ ap (λ xs. old ++ (xs ++ call_rest digit call answer)) is
    ∙ ap (λ d. old ++ ((front ++ tens step) ++ call_rest d call answer)) last
    ∙ ap (λ xs. old ++ xs) (line_is front step call answer small)
