use Rattle.std.proofs.Common.{◌≡◌, ◌<◌, ◌∙◌, sym, ap, length, map, true, [], arith}
use Rattle.std.specs.Prelude.{slice_index_or}
use Rattle.job_control.specs.Keeping.{children_of}
use Rattle.std.proofs.lemmas.List.{length-set}
use Rattle.job_control.proofs.Ties.{ties_after_end, living_after_end}
use Rattle.job_control.proofs.jobs.Jobs.end.Goals as goal

pub invariant_of-self : goal.invariant_of-self
invariant_of-self c =
    let procs = c.self.inside.procs.items in
    let exited = c.self.inside.exited.items in
    let seen : length c.args.self.now.procs ≡ length procs = ap (λ state. length state.procs) (sym c.self.view_is) in
    let within : c.args.proc < length procs = omega (arith, seen, c.requires) in
    let known : c.args.proc < length exited = omega (arith, within, c.self.invariant.exits_fit) in
    record {
      few = c.self.invariant.few;
      groups_fit = c.self.invariant.groups_fit;
      exits_fit = length-set exited c.from.result true ∙ c.self.invariant.exits_fit;
      marks_fit = c.self.invariant.marks_fit;
      marks_past = c.self.invariant.marks_past;
      ties_are = λ group.
          ties_after_end procs c.as_slice-procs.result.now exited c.as_slice-exited.result.now
          c.args.proc c.from.result group _ _
          c.as_slice-procs.ensures.value c.as_slice-exited.ensures.value c.from.ensures known
          (c.self.invariant.ties_are group) (c.untie.ensures group);
      children_are = c.self.invariant.children_are;
      living_are = λ key.
          living_after_end procs c.as_slice-procs.result.now exited c.as_slice-exited.result.now
          c.args.proc c.from.result key _ _
          c.as_slice-procs.ensures.value c.as_slice-exited.ensures.value c.from.ensures known within
          (c.self.invariant.living_are key) (c.end_life.ensures key);
    }

pub untie-requires-clause-children : goal.untie-requires-clause-children
untie-requires-clause-children c =
    let procs = c.self.inside.procs.items in
    let seen : length c.args.self.now.procs ≡ length procs = ap (λ state. length state.procs) (sym c.self.view_is) in
    let within : c.args.proc < length procs = omega (arith, seen, c.requires) in
    c.list_at-children.ensures
    ∙ (ap (λ ls. slice_index_or (map (λ list. list.items) ls) c.args.proc []) c.as_slice-lists.ensures.value
    ∙ (c.self.invariant.children_are c.args.proc within
    ∙ ap (λ ps. children_of ps c.args.proc) (sym c.as_slice-procs.ensures.value)))

pub untie-requires-clause-within : goal.untie-requires-clause-within
untie-requires-clause-within c =
    let seen : length c.args.self.now.procs ≡ length c.self.inside.procs.items =
    ap (λ state. length state.procs) (sym c.self.view_is) in
    let lent : length c.as_slice-procs.result.now ≡ length c.self.inside.procs.items =
    ap length c.as_slice-procs.ensures.value in
    omega (arith, seen, lent, c.requires)
