use Rattle.std.proofs.Common.{◌≡◌, ℕ, List, [], map, ap, ◌∙◌}
use Rattle.std.proofs.lemmas.List.{length-map}
use Rattle.std.proofs.lemmas.Result.{IfOk-weaker}
use Rattle.tty_calls.specs.declared.sessions.Session.{Session}
use Rattle.tty_calls.specs.Sessions.{session_of}
use Rattle.passed_calls.specs.declared.placed.PlacedCall.{PlacedCall}
use Rattle.job_text.specs.declared.calls.OwnCall.{OwnCall}
use Rattle.job_text.specs.Events.{logged_of}
use Rattle.job_text.specs.Sessions.{jobs_session_of, own_of}
use Rattle.derived_session.specs.Steps.{derived_of, passings_of, phases_steps, scripts_in}
use Rattle.job_one.specs.Played.{derived_with, all_passed}
use Rattle.job_ports.proofs.Bounded.{plain_within}
use Rattle.job_ports.proofs.Derived.{derived_are, passings_are, scripts_on_ports}
use Rattle.job_ports.proofs.passing.derive_session.Goals as goal
use Rattle.job_ports.proofs.passing.derive_session.Goals.{After-as_slice-3}
use Rattle.order_laws.specs.Sessions.{journal_on}
use Rattle.passed_ports.proofs.Joining.{single_still}

abbrev Placed : Type 0
Placed = List (PlacedCall OwnCall)

pub derive-requires-clause-scripts : goal.derive-requires-clause-scripts
derive-requires-clause-scripts c =
    let kept = c.args.session.now in
    let base = session_of kept.session in
    scripts_on_ports base (plain_within base kept.procs.items (map own_of kept.parts.items) c.requires.within)

-- the calls of job control as they were handed on
placed_are : (c : After-as_slice-3)
    → map (λ s. s.now) c.as_slice-2.result.now ≡ map own_of c.args.session.now.parts.items
placed_are c =
    ap (λ xs. map (λ s. s.now) xs) c.as_slice-2.ensures.value
    ∙ (c.in_ok-placed.ensures ∙ ap (map own_of) c.as_slice.ensures)

lists_are : (c : After-as_slice-3)
    → map (λ d. d.items) c.as_slice-3.result.now ≡ map (λ v. v.items) c.in_ok-passed.passed.items
lists_are c = ap (map (λ v. v.items)) c.as_slice-3.ensures.value

-- what each port was passed
each_is : (c : After-as_slice-3) (p : ℕ)
    → passings_of
    (scripts_in
    (phases_steps (map own_of c.args.session.now.parts.items) [] 0 (session_of c.args.session.now.session).phases))
    (map (λ v. v.items) c.in_ok-passed.passed.items) p
    ≡ all_passed (jobs_session_of c.args.session.now) (map logged_of c.args.log.now) p (journal_on c.args.runs.now p)
each_is c p =
    let kept = c.args.session.now in
    let base = session_of kept.session in
    let vs = c.in_ok-passed.passed.items in
    passings_are base kept.procs.items (map own_of kept.parts.items) (map logged_of c.args.log.now) c.args.runs.now
    (map (λ v. v.items) vs) c.requires.runs c.requires.log
    (length-map vs (λ v. v.items) ∙ c.in_ok-passed.ensures.many) c.in_ok-passed.ensures.each p

pub derive-requires-clause-single : goal.derive-requires-clause-single
derive-requires-clause-single c =
    let kept = c.args.session.now in
    let base = session_of kept.session in
    single_still
    (passings_of (scripts_in (phases_steps (map (λ s. s.now) c.as_slice-2.result.now) [] 0 base.phases))
    (map (λ d. d.items) c.as_slice-3.result.now))
    (λ p. all_passed (jobs_session_of kept) (map logged_of c.args.log.now) p (journal_on c.args.runs.now p))
    (λ p.
    (λ i. passings_of (scripts_in (phases_steps (placed_are c i) [] 0 base.phases)) (lists_are c i) p)
    ∙ each_is c p) c.requires.passed

pub returns : goal.returns
returns c =
    let kept = c.args.session.now in
    let base = session_of kept.session in
    let log = map logged_of c.args.log.now in
    let runs = c.args.runs.now in
    let handed = (goal.at.returns c).After-as_slice-3 in
    IfOk-weaker c.derive.result
    (λ (derived : Session).
    session_of derived
    ≡ derived_of base (phases_steps (map (λ s. s.now) c.as_slice-2.result.now) [] 0 base.phases)
    (map (λ d. d.items) c.as_slice-3.result.now))
    (λ (derived : Session). session_of derived ≡ derived_with (jobs_session_of kept) log runs)
    (λ derived is.
    is
    ∙ ((λ i. derived_of base (phases_steps (placed_are handed i) [] 0 base.phases) (lists_are handed i))
    ∙ derived_are base kept.procs.items (map own_of kept.parts.items) log runs
    (map (λ v. v.items) c.in_ok-passed.passed.items) (each_is handed))) c.derive.ensures
