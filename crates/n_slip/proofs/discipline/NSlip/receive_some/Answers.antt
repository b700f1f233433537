use Rattle.std.proofs.Common.{◌≡◌, ℕ, get_or, take, ap, sym, ◌∙◌, arith}
use Rattle.std.proofs.lemmas.List.{take_more}
use Rattle.tty_base.specs.declared.characters.Flag.TheVariants.{Normal}
use Rattle.tty_base.specs.declared.characters.Flagged.{Flagged}
use Rattle.flow_control.specs.declared.tally.Tally.{Tally}
use Rattle.n_slip.specs.Discipline.{Slip, after_character, after_characters}
use Rattle.n_slip.specs.Discipline.{counts_after_character, counts_after_characters}
use Rattle.n_slip.proofs.discipline.NSlip.receive_some.Goals as goal

pub returns-then-count-gt0-clause-counts : goal.returns-then-count-gt0-clause-counts
returns-then-count-gt0-clause-counts c =
    let tally : Tally = c.args.tally.now in
    λ i. record tally { counts = sym (c.receive_run-count.ensures.counts tally.counts) i }

pub returns-clause-after : goal.returns-clause-after
returns-clause-after c =
    let chars = c.args.chars.now in
    let first : Slip = c.args.self.now in
    let none : Flagged = record { byte = 0; flag = Normal } in
    let nothing : c.receive_run-count.result ≡ 0 = omega (arith, c.if-count-gt0.false) in
    let same = c.receive_run-count.ensures.after ∙ ap (λ (k : ℕ). after_characters first (take k chars)) nothing in
    c.step.ensures.after
    ∙ ap (λ (s : Slip). after_character s (get_or chars 0 none)) same
    ∙ sym (ap (after_characters first) (take_more chars 0 none c.requires.some))

pub returns-clause-counts : goal.returns-clause-counts
returns-clause-counts c =
    let chars = c.args.chars.now in
    let first : Slip = c.args.self.now in
    let tally : Tally = c.args.tally.now in
    let none : Flagged = record { byte = 0; flag = Normal } in
    let nothing : c.receive_run-count.result ≡ 0 = omega (arith, c.if-count-gt0.false) in
    let same = c.receive_run-count.ensures.after ∙ ap (λ (k : ℕ). after_characters first (take k chars)) nothing in
    c.step.ensures.counts
    ∙ ap (λ (s : Slip). record tally { counts = counts_after_character s (get_or chars 0 none) tally.counts }) same
    ∙ sym (ap (λ cs. record tally { counts = counts_after_characters first cs tally.counts })
    (take_more chars 0 none c.requires.some))
