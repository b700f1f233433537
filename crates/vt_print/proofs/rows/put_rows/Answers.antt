use Rattle.std.proofs.Common.{rules, ◌≡◌, ◌≤◌, List, ℕ, [], ◌++◌, drop, length, ap, sym, ◌∙◌, arith, append-nil}
use Rattle.std.specs.Prelude.{string_bytes}
use Rattle.std.proofs.lemmas.List.{drop_all}
use Rattle.vt_print.specs.Consoles.{row_lines}
use Rattle.vt_print.proofs.rows.put_rows.Goals as goal

pub returns : goal.returns
returns c =
    let rows = c.args.screen.now.rows in
    let r = c.loop-r.r in
    let text = string_bytes c.loop-r.text in
    let past : length rows ≤ r = omega (arith, c.row-highest.ensures.rows, c.loop-r-test.false) in
    let none : drop r rows ≡ [] = drop_all r rows past in
    sym (append-nil text)
    ∙ ap (λ (l : List (List ℕ)). text ++ row_lines c.args.console r l) (sym none)
    ∙ c.loop-r.invariant

pub loop-r-init : goal.loop-r-init
loop-r-init c = search rules steps 300000
