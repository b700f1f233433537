use Rattle.std.proofs.Common.{◌≡◌, ◌==◌, [], drop, flat_map, map, if◌then◌else◌}
use Rattle.further_report.specs.Printing.{all_noted, bytes_of}
use Rattle.further_report.proofs.answers.note_all.Given as goal

abbrev pub invariant-loop-logged : goal.invariant-loop-logged
invariant-loop-logged g l =
    all_noted (map (λ texts. bytes_of texts.items) l.answers)
    (flat_map (λ x. if x.port == l.port then g.E.Answering.told x.event else []) (drop l.logged-index l.log))
    ≡ all_noted (map (λ texts. bytes_of texts.items) l.initial.answers)
    (flat_map (λ x. if x.port == l.port then g.E.Answering.told x.event else []) l.log)
