use Rattle.std.proofs.Common.{◌≡◌, ◌-◌, [], ◌∷◌, ◌++◌, map, sym, ap, ◌∙◌, arith}
use Rattle.std.specs.List.{range_with_len}
use Rattle.tty_calls.specs.Sessions.{phase_of}
use Rattle.session_gen.specs.Draws.{number_after}
use Rattle.session_gen.specs.Generated.{opening_phase, reading_phase}
use Rattle.session_gen.proofs.ListLemmas.{map-more_after}
use Rattle.session_gen.proofs.DrawLemmas.{number_after-zero}
use Rattle.session_gen.proofs.phases.all_phases.Goals as goal

pub loop-phase-init : goal.loop-phase-init
loop-phase-init c =
    let items : c.add.new.self.items ≡ c.in_ok-first_phase.field-0 ∷ [] =
    ap (λ b. b.items) c.add.ensures
    ∙ ap (λ xs. xs ++ c.in_ok-first_phase.field-0 ∷ [])
    (c.in_ok-reserve.ensures.items ∙ ap (λ b. b.items) c.new-phases.ensures) in (
      omega (arith, c.in_ok-reserve.ensures.ok, ap (λ b. b.spare) c.add.ensures),
      ap (map phase_of) items ∙ ap (λ phase. phase ∷ []) c.in_ok-first_phase.ensures,
      sym (number_after-zero c.args.number),
    )

pub loop-phase-preserved : goal.loop-phase-preserved
loop-phase-preserved c = (
  omega (arith, c.loop-phase.invariant.0, ap (λ b. b.spare) c.add-in-loop-phase.ensures),
  ap (λ b. map phase_of b.items) c.add-in-loop-phase.ensures
      ∙ map-more_after phase_of (reading_phase c.args.number) opening_phase c.loop-phase.phase
      c.loop-phase.phases.items c.in_ok-later_phase.field-0
      c.loop-phase.auto.phase c.loop-phase.invariant.1 c.in_ok-later_phase.ensures.phase,
  c.in_ok-later_phase.ensures.drawn ∙ ap (number_after c.args.number) (omega arith),
)

pub returns : goal.returns
returns c =
    let last : c.loop-phase.phase - 1 ≡ 15 = omega arith in
    c.loop-phase.invariant.1 ∙ ap (λ n. opening_phase ∷ map (reading_phase c.args.number) (range_with_len 1 n)) last
