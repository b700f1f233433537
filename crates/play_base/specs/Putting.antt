-- What a line has put into a flip buffer, and what its overruns have seen.
use Rattle.std.specs.Prelude.{◌≡◌, ◌≤◌, ◌<◌, ◌+◌, ◌-◌, ℕ, List, [], ◌∷◌, ◌++◌, length}
use Rattle.tty_base.specs.Sizes.{MOST_SENT}
use Rattle.tty_base.specs.declared.characters.Flagged.{Flagged}
use Rattle.tty_base.specs.declared.lines.LineStep.{LineStep}
use Rattle.tty_base.specs.declared.lines.Overrun.{Overrun}
use Rattle.word_ring.specs.Ends.{PutterState}
use Rattle.uart_line.specs.LineState.{LineState, HasDone}
use Rattle.uart_line.specs.Received.{received_list}
use Rattle.uart_line.specs.Offered.{HandsOver}
use Rattle.legal_runs.specs.Legal.{received_before}
use Rattle.port_core.specs.Ports.{PortValue}
use Rattle.play_base.specs.Roles.{Scene}
use Rattle.std.specs.List.Sorted.{IsNonDecreasing}

-- The line has done these steps, and has handed over all that they gave to the putter of this port's flip buffer.
pub record HasPut (v : PortValue) (putter : PutterState Flagged) (line : LineState)
    (steps : List LineStep) : Type 0 where
  pub ring : putter.ring ≡ v.flip.ring
  pub capacity : putter.capacity ≡ v.flip.capacity
  pub done : HasDone line steps
  pub hands_over : HandsOver v.flip.capacity [] (received_list steps)
      [] putter.sent [] putter.heads [] line.report.overruns.items
  -- so that the putter's numbers serve for all that can still be handed over
  pub room : line.most ≤ (MOST_SENT - length putter.sent) + line.handed

-- an overrun in the line of phase k that has seen so many characters taken
pub record SeesIn (s : Scene) (k seen : ℕ) (o : Overrun) : Type 0 where
  pub from : received_before s.port s.session k ≤ o.at
  pub below : o.at < received_before s.port s.session (k + 1)
  pub sees : o.seen ≡ seen

-- a head that was loaded is the number taken, and no later one is lower
pub record KnowsTaken (taken : ℕ) (heads : List ℕ) : Type 0 where
  pub before : List ℕ
  pub later : List ℕ
  pub parts : heads ≡ before ++ taken ∷ later
  pub rise : IsNonDecreasing heads

-- an overrun between these two places, which has seen at least so many characters taken
pub record SeesFrom (low high taken : ℕ) (o : Overrun) : Type 0 where
  pub from : low ≤ o.at
  pub below : o.at < high
  pub sees : taken ≤ o.seen
