use Rattle.std.proofs.Common.{◌++◌, List, ℕ, ap, ◌∙◌}
use Rattle.further_report.proofs.Lines.{line_put}
use Rattle.further_report.proofs.scripts.Front.put_line.Goals as goal

pub returns-in_ok-extend_from_slice-in-Some-3 : goal.returns-in_ok-extend_from_slice-in-Some-3
returns-in_ok-extend_from_slice-in-Some-3 c =
    let front = c.args.self.now in
    let text = c.args.text.now.items in
    let first = c.extend_from_slice.new.self.items in
    let second = c.extend_from_slice-in-Some.new.self.items in
    line_put front.port front.name.now c.args.step c.args.verb.now front.answers.now c.in-Some.answer.now text first
    second c.extend_from_slice-in-Some-2.new.self.items c.in_ok-head-in-Some.head.bytes.items
    c.in-Some.ensures.lookup.3.0 c.in-Some.ensures.lookup.1 c.in_ok-head-in-Some.ensures.ok
    (c.in_ok-extend_from_slice-in-Some.ensures.items ∙ ap (λ (l : List ℕ). text ++ l) c.as_bytes.ensures.value)
    (c.in_ok-extend_from_slice-in-Some-2.ensures.items ∙ ap (λ (l : List ℕ). first ++ l) c.as_slice.ensures)
    (c.in_ok-extend_from_slice-in-Some-3.ensures.items ∙ ap (λ (l : List ℕ). second ++ l) c.as_slice-in-Some.ensures)
