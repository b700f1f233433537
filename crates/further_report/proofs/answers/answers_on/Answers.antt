use Rattle.std.proofs.Common.{◌≡◌, ◌==◌, List, ℕ, [], map, flat_map, if◌then◌else◌, ap, ◌∙◌}
use Rattle.std.specs.Vec.{with_items}
use Rattle.std.proofs.lemmas.List.{with_items_is}
use Rattle.further_report.specs.Printing.{all_noted, bytes_of}
use Rattle.further_report.proofs.answers.answers_on.Goals as goal

pub returns : goal.returns
returns g c =
    let told = flat_map (λ l. if l.port == c.args.port then g.E.Answering.told l.event else []) c.args.log.now in
    let old = c.in_ok-answers.answers in
    let new = c.note_all.new.answers in
    let written : (with_items old new).items ≡ new =
    with_items_is old new (c.note_all.auto.answers ∙ c.as_mut_slice.ensures.len) in
    ap (λ xs. map (λ texts. bytes_of texts.items) xs) written
    ∙ (c.in_ok-note_all.ensures
    ∙ (ap (λ xs. all_noted (map (λ texts. bytes_of texts.items) xs) told) c.as_mut_slice.ensures.value
    ∙ ap (λ (answers : List (List (List ℕ))). all_noted answers told) c.in_ok-answers.ensures))
