-- A session of consoles as plain data.
use Rattle.std.specs.Prelude.{ℕ, List, map}
use Rattle.tty_calls.specs.Sessions.{PlainSession, session_of}
use Rattle.vt_text.specs.declared.sessions.OpCall.{OpCall}
use Rattle.vt_text.specs.declared.sessions.OpScript.{OpScript}
use Rattle.vt_text.specs.declared.sessions.VtPhase.{VtPhase}
use Rattle.vt_text.specs.declared.sessions.VtSession.{VtSession}

-- the calls of an operator in a phase
pub record PlainOperator : Type 0 where
  pub name : List ℕ
  pub calls : List OpCall

-- what the keyboard and the operators do in a phase
pub record PlainVtPhase : Type 0 where
  pub keys : List ℕ
  pub operators : List PlainOperator

-- the calls of the callers, with a port for each console, and what else is done in each phase
pub record PlainVtSession : Type 0 where
  pub calls : PlainSession
  pub phases : List PlainVtPhase

abbrev pub operator_of : OpScript → PlainOperator
operator_of o = record { name = o.name.bytes; calls = o.calls.items }

abbrev pub operators_of : List OpScript → List PlainOperator
operators_of os = map operator_of os

abbrev pub vt_phase_of : VtPhase → PlainVtPhase
vt_phase_of p = record { keys = p.keys.items; operators = operators_of p.operators.items }

abbrev pub vt_session_of : VtSession → PlainVtSession
vt_session_of s = record { calls = session_of s.calls; phases = map vt_phase_of s.phases.items }
