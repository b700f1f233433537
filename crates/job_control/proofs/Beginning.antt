-- What is kept before the first call.
use Rattle.std.proofs.Common.{◌≡◌, ℕ, ◌<◌, ◌≤◌, Bool, false, List, None, length, map, sym, ap, subst, ◌∙◌, arith}
use Rattle.std.specs.Prelude.{◌==◌, replicate}
use Rattle.std.proofs.lemmas.List.{length-replicate}
use Rattle.tty_base.specs.Sizes.{GROUP_END, MOST_PROCESSES}
use Rattle.job_control.specs.declared.processes.Proc.{Proc}
use Rattle.job_control.specs.declared.census.Census.{Census}
use Rattle.job_control.specs.Roster.{group_at}
use Rattle.job_control.specs.Control.{JobState, first_jobs}
use Rattle.job_control.specs.Keeping.{AreChildren, IsKept, counted, ties_count, living_count}
use Rattle.job_control.proofs.Marks.{marks_none, none_past}

pub kept_at_first : (procs kept : List Proc) (exited lent again : List Bool) (marks : List ℕ) (ties living : Census)
    (children : List (List ℕ))
    → length procs ≤ MOST_PROCESSES
    → kept ≡ procs
    → exited ≡ replicate (length procs) false
    → marks ≡ replicate (length procs) 0
    → lent ≡ exited
    → again ≡ exited
    → ((group : ℕ) → counted ties group ≡ ties_count procs lent group)
    → ((key : ℕ) → counted living key ≡ living_count procs again key)
    → ((p : ℕ) → group_at procs p < GROUP_END)
    → AreChildren procs children
    → IsKept kept exited marks 1 ties living children
kept_at_first procs kept exited lent again marks ties living children few
    same none cleared is_lent is_again tied lives fits listed =
    let long : length kept ≡ length procs = ap length same in
    let flags : length exited ≡ length procs = ap length none ∙ length-replicate (length procs) false in
    let many : length marks ≡ length procs = ap length cleared ∙ length-replicate (length procs) 0 in
    record {
      few = omega (arith, long, few);
      groups_fit = λ p. let P : List Proc → Type 0 = λ ps. group_at ps p < GROUP_END in subst P (sym same) (fits p);
      exits_fit = flags ∙ sym long;
      marks_fit = many ∙ sym long;
      marks_past = λ p.
          let P : List ℕ → Type 0 = λ ms. Rattle.std.specs.Prelude.slice_index ms p ≤ 1 in
          subst P (sym cleared) (none_past (length procs) p);
      ties_are = λ group.
          tied group
          ∙ (ap (λ es. ties_count procs es group) is_lent ∙ ap (λ ps. ties_count ps exited group) (sym same));
      living_are = λ key.
          lives key
          ∙ (ap (λ es. living_count procs es key) is_again ∙ ap (λ ps. living_count ps exited key) (sym same));
      children_are = let P : List Proc → Type 0 = λ ps. AreChildren ps children in subst P (sym same) listed;
    }

pub view_at_first : (procs kept : List Proc) (exited : List Bool) (marks : List ℕ)
    → kept ≡ procs
    → exited ≡ replicate (length procs) false
    → marks ≡ replicate (length procs) 0
    →
    (let seen : JobState =
    record { procs = kept; exited = exited; given_up = map (λ mark. mark == 1) marks; holder = None } in
    seen ≡ first_jobs procs)
view_at_first procs kept exited marks same none cleared =
    let by_procs : List Proc → JobState = λ ps.
    record { procs = ps; exited = exited; given_up = map (λ mark. mark == 1) marks; holder = None } in
    let by_exits : List Bool → JobState = λ es.
    record { procs = procs; exited = es; given_up = map (λ mark. mark == 1) marks; holder = None } in
    let by_marks : List Bool → JobState = λ gs.
    record { procs = procs; exited = replicate (length procs) false; given_up = gs; holder = None } in
    ap by_procs same
    ∙ (ap by_exits none
    ∙ ap by_marks (ap (map (λ mark. mark == 1)) cleared ∙ marks_none (length procs) 1 (omega arith)))
