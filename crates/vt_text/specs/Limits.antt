-- What a session of consoles asks at most: the limits that every one keeps that a text spells.
use Rattle.std.specs.Prelude.{◌≡◌, ◌≤◌, ◌*◌, ℕ, List, length, sum_by}
use Rattle.tty_base.specs.Sizes.{MOST_KEYS, MOST_OPERATORS, MOST_OPERATOR_CALLS}
use Rattle.tty_calls.specs.Limits.{IsWithinLimits}
use Rattle.vt_text.specs.Sessions.{PlainOperator, PlainVtPhase, PlainVtSession}

-- how many keys there are, how many calls operators make, and how many blocks of operators there are
abbrev pub key_count : List PlainVtPhase → ℕ
key_count phases = sum_by (λ (phase : PlainVtPhase). length phase.keys) phases

abbrev pub calls_of : List PlainOperator → ℕ
calls_of operators = sum_by (λ (operator : PlainOperator). length operator.calls) operators

abbrev pub op_call_count : List PlainVtPhase → ℕ
op_call_count phases = sum_by (λ (phase : PlainVtPhase). calls_of phase.operators) phases

abbrev pub operator_count : List PlainVtPhase → ℕ
operator_count phases = sum_by (λ (phase : PlainVtPhase). length phase.operators) phases

-- its callers' session keeps its limits, and has as many phases; a phase has a limited number of operators
pub record IsVtWithin (session : PlainVtSession) : Type 0 where
  pub calls : IsWithinLimits session.calls
  pub whole : length session.calls.phases ≡ length session.phases
  pub few_keys : key_count session.phases ≤ MOST_KEYS
  pub few_calls : op_call_count session.phases ≤ MOST_OPERATOR_CALLS
  pub few_operators : operator_count session.phases ≤ MOST_OPERATORS * length session.phases
