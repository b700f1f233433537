-- What callers have passed down, as the log goes on.
use Rattle.std.proofs.Common.{◌≡◌, ℕ, List, [], ◌∷◌, ◌++◌, ap, ◌∙◌, append-nil}
use Rattle.passed_calls.specs.Derived.{Passing, by_caller}
use Rattle.job_text.specs.Events.{JobEvent, JobLog}
use Rattle.job_text.specs.Sessions.{JobsSession}
use Rattle.job_steps.specs.Derived.{job_call_at, passings_on}
use Rattle.order_laws.proofs.Steps.{own_more, other_more}
use Rattle.job_one.specs.Latest.{latest_on, passings_by}
use Rattle.job_one.proofs.Following.{passings_more}

-- ---- by an event

pub logged_more : (session : JobsSession) (log : JobLog) (p at : ℕ) (event : JobEvent)
    → passings_by (job_call_at p session) (latest_on log p) event ≡ []
    → passings_on session (log ++ record { port = p; at = at; event = event } ∷ []) p ≡ passings_on session log p
logged_more session log p at event none =
    passings_more session log p at event
    ∙ (ap (λ (ms : List Passing). passings_on session log p ++ ms) none ∙ append-nil (passings_on session log p))

-- one passing more, of its caller and of another
pub by_own : (session : JobsSession) (log : JobLog) (p at c : ℕ) (event : JobEvent) (m : Passing)
    → passings_by (job_call_at p session) (latest_on log p) event ≡ m ∷ []
    → m.caller ≡ c
    → by_caller c (passings_on session (log ++ record { port = p; at = at; event = event } ∷ []) p)
    ≡ by_caller c (passings_on session log p) ++ m ∷ []
by_own session log p at c event m one same =
    ap (by_caller c)
    (passings_more session log p at event ∙ ap (λ (ms : List Passing). passings_on session log p ++ ms) one)
    ∙ own_more (passings_on session log p) c m same

pub by_other : (session : JobsSession) (log : JobLog) (p at c : ℕ) (event : JobEvent) (m : Passing)
    → passings_by (job_call_at p session) (latest_on log p) event ≡ m ∷ []
    → (m.caller ≡ c → ⊥)
    → by_caller c (passings_on session (log ++ record { port = p; at = at; event = event } ∷ []) p)
    ≡ by_caller c (passings_on session log p)
by_other session log p at c event m one other =
    ap (by_caller c)
    (passings_more session log p at event ∙ ap (λ (ms : List Passing). passings_on session log p ++ ms) one)
    ∙ other_more (passings_on session log p) c m other
