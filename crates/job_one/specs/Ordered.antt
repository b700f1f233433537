-- The events of a log in their turn, whatever session the port is found to have played.
use Rattle.tty_calls.specs.Sessions.{PlainSession}
use Rattle.port_core.specs.Ports.{PortValue}
use Rattle.play_base.specs.Roles.{Scene}
use Rattle.order_laws.specs.Agreed.{Agrees, IsLike}
use Rattle.passed_calls.specs.Journals.{Journal}
use Rattle.passed_calls.specs.Logs.{logged_on}
use Rattle.job_text.specs.Events.{JobLog}
use Rattle.job_text.specs.Sessions.{JobsSession}
use Rattle.job_steps.specs.Steps.{first_state}
use Rattle.job_steps.specs.Order.{AreEventsInTurn}
use Rattle.order_laws.specs.Witness.{scene_on}
use Rattle.order_laws.specs.Later.{IsLater}
use Rattle.job_one.specs.Later.{port_with}

pub record HasOrdered (first : Scene) (session : JobsSession) (log : JobLog) (v : PortValue) : Type 0 where
  pub turns : (played : PlainSession)
      → IsLike first (scene_on first.port played)
      → Agrees (scene_on first.port played) v
      → (journal : Journal)
      → IsLater v journal
      → AreEventsInTurn played (port_with first.port session journal)
      (first_state (port_with first.port session journal)) (logged_on first.port log)
