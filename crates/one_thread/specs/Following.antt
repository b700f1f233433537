-- What goes along with the line of a phase: what a follower does behind each flush.
use Rattle.std.specs.Prelude.{◌≡◌, List, [], ◌∷◌, Result, MatchResult}
use Rattle.tty_base.specs.declared.characters.Flagged.{Flagged}
use Rattle.word_ring.specs.Ends.{PutterState}
use Rattle.tty_calls.specs.declared.answers.Denied.{Denied}
use Rattle.tty_calls.specs.declared.answers.Denied.TheVariants.{NoMemory, Full}
use Rattle.port_core.specs.Flips.{after_meeting}
use Rattle.port_core.specs.Phases.{EndsLine}
use Rattle.port_core.specs.Ports.{PortValue, IsPort}
use Rattle.one_thread.specs.Acts.{FlushesOnce}

-- one flush at most, and what the follower does behind it, by what is known of that
pub record FollowsFlush {F : Type 0} (follows : PortValue → F → F → Type 0) (v w : PortValue) (x y : F) : Type 0 where
  pub was : IsPort v
  pub is : IsPort w
  pub flushes : FlushesOnce v w
  pub done : follows w x y

-- from one port and follower to others, by these in between
abbrev pub FollowsBy : {F : Type 0}
    → (follows : PortValue → F → F → Type 0)
    → List (PortValue × F)
    → (v w : PortValue)
    → (x y : F)
    → Type 0
FollowsBy follows [] v w x y = (w ≡ v) × (y ≡ x)
FollowsBy follows (mid ∷ rest) v w x y =
    FollowsFlush follows v mid.0 x mid.1 × FollowsBy follows rest mid.0 w mid.1 y

-- the port has gone on by flushes, and the follower behind each
pub record GoesAlong {F : Type 0} (follows : PortValue → F → F → Type 0) (v w : PortValue) (x y : F) : Type 0 where
  pub between : List (PortValue × F)
  pub by : FollowsBy follows between v w x y

-- .. up to an entry that was denied
pub record StopsAtFull {F : Type 0} (follows : PortValue → F → F → Type 0) (v w : PortValue) (x y : F) : Type 0 where
  pub mid : PortValue
  pub goes : GoesAlong follows v mid x y
  pub was : IsPort mid
  pub is : IsPort w
  pub flushes : FlushesOnce mid w

abbrev pub StopsAlong : {F : Type 0}
    → Denied
    → (follows : PortValue → F → F → Type 0)
    → (v w : PortValue)
    → (x y : F)
    → Type 0
StopsAlong NoMemory follows v w x y = Unit {0}
StopsAlong Full follows v w x y = StopsAtFull follows v w x y

-- it goes along, or stops
abbrev pub Follows : {F A : Type 0}
    → (follows : PortValue → F → F → Type 0)
    → (v w : PortValue)
    → (x y : F)
    → Result A Denied
    → Type 0
Follows follows v w x y result =
    MatchResult result (λ _. GoesAlong follows v w x y) (λ d. StopsAlong d follows v w x y)

-- ---- the whole line

abbrev pub met_with : PortValue → PutterState Flagged → PortValue
met_with v putter = record v { flip = after_meeting v.flip putter }

-- both ends of the flip buffer met, the follower went along with the line's steps, and its end was noted
pub record GoesToEnd {F : Type 0} (follows : PortValue → F → F → Type 0) (v w : PortValue)
    (putter : PutterState Flagged) (x y : F) : Type 0 where
  pub mid : PortValue
  pub goes : GoesAlong follows (met_with v putter) mid x y
  pub put : PutterState Flagged
  pub now : PutterState Flagged
  pub was : IsPort mid
  pub is : IsPort w
  pub ends : EndsLine mid w put now

abbrev pub FollowsLine : {F A : Type 0}
    → (follows : PortValue → F → F → Type 0)
    → (v w : PortValue)
    → PutterState Flagged
    → (x y : F)
    → Result A Denied
    → Type 0
FollowsLine follows v w putter x y result =
    MatchResult result (λ _. GoesToEnd follows v w putter x y) (λ d. StopsAlong d follows (met_with v putter) w x y)
