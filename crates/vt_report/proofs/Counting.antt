-- Sums over the entries of a journal, and the callers' lines of a report.
use Rattle.std.proofs.Common.{◌≡◌, ℕ, ◌+◌, ◌-◌, List, [], ◌∷◌, ◌++◌, Some, length, slice_get}
use Rattle.std.proofs.Common.{take, sum_by, refl, sym, ◌∙◌, ap, arith, length-append}
use Rattle.std.specs.Prelude.{codes}
use Rattle.std.proofs.lemmas.List.{take_more}
use Rattle.std.proofs.lemmas.Option.{get_or_from_slice_get, slice_get_within}
use Rattle.std.proofs.lemmas.List.Sums.{sum_by_push}
use Rattle.tty_calls.specs.declared.journals.PortRun.{PortRun}
use Rattle.tty_calls.specs.Plain.{PlainEvent, PlainEntry}
use Rattle.tty_calls.specs.Sessions.{PlainSession}
use Rattle.session_print.specs.Lines.{newline}
use Rattle.session_print.specs.Report.{calls_from, ports_from, report_text}

-- the entries so far, and one more
entries_to : (es : List PlainEntry) (i : ℕ) (e : PlainEntry)
    → slice_get es i ≡ Some e
    → take (i + 1) es ≡ take i es ++ e ∷ []
entries_to es i e at =
    take_more es i e (slice_get_within es i e at) ∙ ap (λ x. take i es ++ x ∷ []) (get_or_from_slice_get es i e e at)

-- what an event counts for, added to the sum so far
pub sum_more : (f : PlainEvent → ℕ) (es : List PlainEntry) (i : ℕ) (e : PlainEntry) (new old : ℕ)
    → slice_get es i ≡ Some e
    → new ≡ old + f e.event
    → old ≡ sum_by (λ x. f x.event) (take i es)
    → new ≡ sum_by (λ x. f x.event) (take (i + 1) es)
sum_more f es i e new old at more before =
    more
    ∙ ap (λ n. n + f e.event) before
    ∙ sym (sum_by_push (λ x. f x.event) (take i es) e)
    ∙ ap (sum_by (λ x. f x.event)) (sym (entries_to es i e at))

no_ports : (session : PlainSession) (runs : List PortRun) → ports_from 0 session runs [] ≡ []
no_ports session [] = refl
no_ports session (run ∷ runs) = refl

take_front : (xs ys : List ℕ) → take (length xs) (xs ++ ys) ≡ xs
take_front [] ys = refl
take_front (x ∷ xs) ys = ap (λ (l : List ℕ). x ∷ l) (take_front xs ys)

-- a report in which no port has an end has the callers' lines, and the last line
pub callers_front : (session : PlainSession) (runs : List PortRun) (text : List ℕ)
    → text ≡ report_text session runs []
    → take (length text - 5) text ≡ calls_from 0 session runs
callers_front session runs text h =
    let lines = calls_from 0 session runs in
    let last : List ℕ = codes "done" ++ newline in
    let whole : text ≡ lines ++ last = h ∙ ap (λ (l : List ℕ). lines ++ (l ++ last)) (no_ports session runs) in
    let five : length last ≡ 5 = refl in
    let count : length text - 5 ≡ length lines =
    omega (arith, ap (λ (l : List ℕ). length l) whole, length-append lines last, five) in
    ap (λ (n : ℕ). take n text) count ∙ ap (λ (l : List ℕ). take (length lines) l) whole ∙ take_front lines last
