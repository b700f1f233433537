use Rattle.std.specs.Prelude.{IfOk, OnOk}
use Rattle.std.proofs.Common.{Result, Ok, Err, rules, subst}
use Rattle.tty_calls.specs.declared.answers.Denied.{Denied}
use Rattle.tty_calls.specs.Plain.{call_of}
use Rattle.tty_terminal.specs.Terminals.{Terminal, caller_at}
use Rattle.tty_terminal.specs.Calls.{outcome}
use Rattle.tty_terminal.specs.Steps.{MustWait}
use Rattle.port_core.specs.declared.ports.attempting.Tried.{Tried}
use Rattle.port_core.specs.Ports.{IsPort}
use Rattle.port_core.specs.Attempts.{tried_of}
use Rattle.port_core.specs.Inside.{value_of}
use Rattle.port_core.proofs.GoingOn.{known_caller}
use Rattle.port_core.proofs.Raising.{is_at_once, changes_waits_not, raises}
use Rattle.port_core.proofs.ports.Port.attempt.Goals as goal

each_ok : (r : Result Tried Denied) (P Q : Tried → Type 0) → ((x : Tried) → P x → Q x) → IfOk r P → IfOk r Q
each_ok (Ok x) P Q f h = f x h
each_ok (Err d) P Q f h = tt

where_ok : (r : Result Tried Denied) (P : Tried → Type 0) (Z : Type 0) → ((x : Tried) → P x → Z) → IfOk r P → OnOk r Z
where_ok (Ok x) P Z f h = f x h
where_ok (Err d) P Z f h = tt

pub drops-requires-clause-known : goal.drops-requires-clause-known
drops-requires-clause-known c = known_caller (value_of c.self.inside) c.args.self.now c.args.caller
    c.self.view_is c.self.invariant.port c.requires.known

pub returns-then-drops-clause-at_once : goal.returns-then-drops-clause-at_once
returns-then-drops-clause-at_once c =
    λ e. each_ok c.answer_dropping.result _ _
    (λ x h. is_at_once c.args.self.now c.answer_dropping.new.self c.args.caller c.args.step (call_of c.args.call.now)
    (tried_of x) (subst IsPort c.self.view_is c.self.invariant.port) c.requires e h) c.answer_dropping.ensures.tried

pub returns-then-drops-clause-generation : goal.returns-then-drops-clause-generation
returns-then-drops-clause-generation c =
    where_ok c.answer_dropping.result _ _
    (λ x h. raises c.args.self.now c.answer_dropping.new.self c.args.caller c.args.step (call_of c.args.call.now)
    (tried_of x) (subst IsPort c.self.view_is c.self.invariant.port) c.requires h) c.answer_dropping.ensures.tried

pub must_wait-requires-clause-known : goal.must_wait-requires-clause-known
must_wait-requires-clause-known c = known_caller (value_of c.self.inside) c.args.self.now c.args.caller
    c.self.view_is c.self.invariant.port c.requires.known

pub returns-then-not-must_wait-clause-at_once : goal.returns-then-not-must_wait-clause-at_once
returns-then-not-must_wait-clause-at_once c =
    λ e. each_ok c.answer.result _ _
    (λ x h. is_at_once c.args.self.now c.answer.new.self c.args.caller c.args.step (call_of c.args.call.now)
    (tried_of x) (subst IsPort c.self.view_is c.self.invariant.port) c.requires e h) c.answer.ensures.tried

pub returns-then-not-must_wait-clause-generation : goal.returns-then-not-must_wait-clause-generation
returns-then-not-must_wait-clause-generation c =
    where_ok c.answer.result _ _
    (λ x h. raises c.args.self.now c.answer.new.self c.args.caller c.args.step (call_of c.args.call.now) (tried_of x)
    (subst IsPort c.self.view_is c.self.invariant.port) c.requires h) c.answer.ensures.tried

pub caller-requires : goal.caller-requires
caller-requires c = known_caller (value_of c.self.inside) c.args.self.now c.args.caller
    c.self.view_is c.self.invariant.port c.requires.known

pub returns-then-is_none-clause-at_once : goal.returns-then-is_none-clause-at_once
returns-then-is_none-clause-at_once c =
    let t : Terminal = c.self.inside.terminal.terminal in
    let must : MustWait (outcome t (caller_at t c.args.caller) (call_of c.args.call.now)) = search rules in
    λ e. absurd (changes_waits_not t (caller_at t c.args.caller) (call_of c.args.call.now) must e)

pub returns-then-is_none-clause-generation : goal.returns-then-is_none-clause-generation
returns-then-is_none-clause-generation c =
    where_ok c.begin_wait.result _ _
    (λ x h. raises c.args.self.now c.begin_wait.new.self c.args.caller c.args.step (call_of c.args.call.now)
    (tried_of x) (subst IsPort c.self.view_is c.self.invariant.port) c.requires h) c.begin_wait.ensures.tried

pub returns-then-not-quiet-clause-at_once : goal.returns-then-not-quiet-clause-at_once
returns-then-not-quiet-clause-at_once c =
    let t : Terminal = c.self.inside.terminal.terminal in
    let must : MustWait (outcome t (caller_at t c.args.caller) (call_of c.args.call.now)) = search rules in
    λ e. absurd (changes_waits_not t (caller_at t c.args.caller) (call_of c.args.call.now) must e)

pub returns-clause-at_once : goal.returns-clause-at_once
returns-clause-at_once c =
    let t : Terminal = c.self.inside.terminal.terminal in
    let must : MustWait (outcome t (caller_at t c.args.caller) (call_of c.args.call.now)) = search rules in
    λ e. absurd (changes_waits_not t (caller_at t c.args.caller) (call_of c.args.call.now) must e)

pub returns-clause-generation : goal.returns-clause-generation
returns-clause-generation c =
    where_ok c.answer_idle.result _ _
    (λ x h. raises c.args.self.now c.answer_idle.new.self c.args.caller c.args.step (call_of c.args.call.now)
    (tried_of x) (subst IsPort c.self.view_is c.self.invariant.port) c.requires h) c.answer_idle.ensures.tried

pub returns-then-not-must_wait-clause-tried : goal.returns-then-not-must_wait-clause-tried
returns-then-not-must_wait-clause-tried c = search rules steps 100000

pub returns-then-not-quiet-clause-tried : goal.returns-then-not-quiet-clause-tried
returns-then-not-quiet-clause-tried c = search rules steps 1000000
