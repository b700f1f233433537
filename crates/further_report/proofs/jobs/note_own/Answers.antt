use Rattle.std.proofs.Common.{◌≡◌, List, ℕ, map, ap, ◌∙◌}
use Rattle.std.proofs.lemmas.Result.{on_ok_weaker}
use Rattle.further_report.specs.Printing.{bytes_of, noted}
use Rattle.further_report.proofs.jobs.note_own.Goals as goal

pub returns : goal.returns
returns c =
    let old = map (λ texts. bytes_of texts.items) c.args.answers.now in
    let caller = c.args.caller in
    on_ok_weaker c.note.result
    (λ (d : map (λ texts. bytes_of texts.items) c.note.new.answers
    ≡ noted old (record { caller = caller; text = c.in_ok-text.text.items })).
    d ∙ ap (λ (text : List ℕ). noted old (record { caller = caller; text = text })) c.in_ok-text.ensures)
    c.note.ensures
