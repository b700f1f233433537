-- What is passed down follows the log, event by event.
use Rattle.std.proofs.Common.{◌≡◌, ℕ, List, [], ◌∷◌, ◌++◌, Option, refl, ap, ◌∙◌}
use Rattle.tty_calls.specs.Plain.{hangs_up}
use Rattle.passed_calls.specs.Derived.{Passing}
use Rattle.job_text.specs.Events.{JobEvent, own, passed, passed_down, sent, JobLog, events_on}
use Rattle.job_text.specs.Sessions.{JobCall, JobsSession}
use Rattle.job_steps.specs.Derived.{job_call_at, plain_call, passings_from, passings_on}
use Rattle.job_one.specs.Latest.{latest_after, latest_on, passings_by}
use Rattle.order_laws.proofs.Laters.{events_more}

from_more : (calls : ℕ → ℕ → Option JobCall) (latest : ℕ) (es : List JobEvent) (e : JobEvent)
    → passings_from calls latest (es ++ e ∷ [])
    ≡ passings_from calls latest es ++ passings_by calls (latest_after latest es) e
from_more calls latest [] (own c step answer) = refl
from_more calls latest [] (passed c step answer) = refl
from_more calls latest [] (passed_down c h) = refl
from_more calls latest [] (sent signal target) = refl
from_more calls latest (own c step answer ∷ es) e = from_more calls step es e
from_more calls latest (passed c step answer ∷ es) e =
    ap (λ (ms : List Passing). record { caller = c; step = step; calls = plain_call (calls c step) } ∷ ms)
    (from_more calls latest es e)
from_more calls latest (passed_down c h ∷ es) e = ap
    (λ (ms : List Passing). record { caller = c; step = latest; calls = hangs_up h ∷ [] } ∷ ms)
    (from_more calls latest es e)
from_more calls latest (sent signal target ∷ es) e = from_more calls latest es e

latest_more : (latest : ℕ) (es : List JobEvent) (e : JobEvent)
    → latest_after latest (es ++ e ∷ []) ≡ latest_after (latest_after latest es) (e ∷ [])
latest_more latest [] e = refl
latest_more latest (own c step answer ∷ es) e = latest_more step es e
latest_more latest (passed c step answer ∷ es) e = latest_more latest es e
latest_more latest (passed_down c h ∷ es) e = latest_more latest es e
latest_more latest (sent signal target ∷ es) e = latest_more latest es e

pub passings_more : (session : JobsSession) (log : JobLog) (p at : ℕ) (event : JobEvent)
    → passings_on session (log ++ record { port = p; at = at; event = event } ∷ []) p
    ≡ passings_on session log p ++ passings_by (job_call_at p session) (latest_on log p) event
passings_more session log p at event =
    ap (passings_from (job_call_at p session) 0) (events_more p at event log)
    ∙ from_more (job_call_at p session) 0 (events_on p log) event

pub latest_is : (log : JobLog) (p at : ℕ) (event : JobEvent)
    → latest_on (log ++ record { port = p; at = at; event = event } ∷ []) p
    ≡ latest_after (latest_on log p) (event ∷ [])
latest_is log p at event = ap (latest_after 0) (events_more p at event log) ∙ latest_more 0 (events_on p log) event
