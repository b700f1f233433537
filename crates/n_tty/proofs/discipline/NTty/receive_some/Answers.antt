use Rattle.std.proofs.Common.{◌≡◌, ℕ, get_or, take, true, ap, sym, ◌∙◌, arith, subst}
use Rattle.std.proofs.lemmas.List.{take_more}
use Rattle.tty_base.specs.declared.characters.Flag.TheVariants.{Normal}
use Rattle.tty_base.specs.declared.characters.Flagged.{Flagged}
use Rattle.n_tty.specs.States.{OnPort, on_port, is_accepting}
use Rattle.n_tty.specs.Receiving.{after_character}
use Rattle.n_tty.specs.Runs.{after_characters, AcceptsAll}
use Rattle.n_tty.proofs.discipline.NTty.receive_some.Goals as goal

pub returns-then-not-accepts-clause-after : goal.returns-then-not-accepts-clause-after
returns-then-not-accepts-clause-after c =
    let first : OnPort = on_port c.args.self.now c.args.wire.now c.args.tally.now in
    let nothing : c.receive_run-count.result ≡ 0 = omega (arith, c.if-count-gt0.false) in
    c.receive_run-count.ensures.after c.args.tally.now
    ∙ ap (λ (k : ℕ). after_characters c.args.modes.now c.args.now (take k c.args.chars.now) first) nothing

pub returns-clause-after : goal.returns-clause-after
returns-clause-after c =
    let modes = c.args.modes.now in
    let now = c.args.now in
    let chars = c.args.chars.now in
    let first : OnPort = on_port c.args.self.now c.args.wire.now c.args.tally.now in
    let none : Flagged = record { byte = 0; flag = Normal } in
    let x : Flagged = get_or chars 0 none in
    let nothing : c.receive_run-count.result ≡ 0 = omega (arith, c.if-count-gt0.false) in
    let same =
    c.receive_run-count.ensures.after c.args.tally.now
    ∙ ap (λ (k : ℕ). after_characters modes now (take k chars) first) nothing in
    c.receive.ensures.after
    ∙ ap (after_character modes now x) same
    ∙ sym (ap (λ cs. after_characters modes now cs first) (take_more chars 0 none c.requires.some))

pub returns-clause-accepted : goal.returns-clause-accepted
returns-clause-accepted c =
    let modes = c.args.modes.now in
    let now = c.args.now in
    let chars = c.args.chars.now in
    let first : OnPort = on_port c.args.self.now c.args.wire.now c.args.tally.now in
    let none : Flagged = record { byte = 0; flag = Normal } in
    let nothing : c.receive_run-count.result ≡ 0 = omega (arith, c.if-count-gt0.false) in
    let same =
    c.receive_run-count.ensures.after c.args.tally.now
    ∙ ap (λ (k : ℕ). after_characters modes now (take k chars) first) nothing in
    let accepting : is_accepting modes first.tty ≡ true =
    sym (ap (λ (port : OnPort). is_accepting modes port.tty) same) ∙ sym c.accepts.ensures ∙ c.if-not-accepts.false in
    subst (λ cs. AcceptsAll modes now cs first) (sym (take_more chars 0 none c.requires.some)) (accepting, tt)
