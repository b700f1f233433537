-- A session that was played, by what each caller of a port has passed down so far.
use Rattle.std.specs.Prelude.{◌≡◌, ◌≤◌, ◌<◌, ◌+◌, ◌==◌, ℕ, List, [], ◌∷◌, ◌++◌, Option, None}
use Rattle.std.specs.Prelude.{Some, if◌then◌else◌, length, map, take, slice_get, slice_index_or}
use Rattle.tty_calls.specs.Sessions.{PlainSession, line_on, ticks_on}
use Rattle.tty_terminal.specs.Standing.{Standing}
use Rattle.passed_calls.specs.Blocks.{Block, blocks_on, names_on, steps_under}
use Rattle.passed_calls.specs.Derived.{Passing, Passed, BlockPhase, AreInSteps}
use Rattle.passed_calls.specs.Derived.{blocks_of, by_caller, all_calls, passed_phases}
use Rattle.legal_runs.specs.Legal.{flip_on}
use Rattle.port_core.specs.Ports.{PortValue}
use Rattle.legal_runs.specs.Order.{is_of_consoles}
use Rattle.one_thread.specs.Turns.{standing_at}
use Rattle.order_laws.specs.Growth.{names_in}

-- ---- the steps of a caller, whether they are passed down or not

-- how many calls the caller of a name has in these blocks
abbrev pub steps_named : ℕ → List Block → Option (List ℕ) → ℕ
steps_named p blocks None = 0
steps_named p blocks (Some name) = steps_under name (blocks_on p blocks)

-- how many it has before phase k: its first step there
abbrev pub begin_of : ℕ → List BlockPhase → (k c : ℕ) → ℕ
begin_of p phases k c = steps_named p (blocks_of (take k phases)) (slice_get (names_on p (blocks_of phases)) c)

-- ---- sessions of these blocks

-- in each phase the port has the line, the ticks and the callers of the block phase
pub record IsOfBlocks (p : ℕ) (phases : List BlockPhase) (session : PlainSession) : Type 0 where
  pub lines : map (line_on p) session.phases ≡ map (λ phase. slice_index_or phase.lines p []) phases
  pub ticks : map (ticks_on p) session.phases ≡ map (λ phase. slice_index_or phase.ticks p 0) phases
  pub names : map (names_in p) session.phases ≡ map (λ phase. map (λ b. b.name) (blocks_on p phase.blocks)) phases

-- the session in which these were passed down by each caller of the port
pub record IsPassedBy (p : ℕ) (phases : List BlockPhase) (mine : ℕ → List Passing)
    (session : PlainSession) : Type 0 where
  pub passed : Passed
  pub are : session.phases ≡ passed_phases passed phases
  pub by : (c : ℕ) → by_caller c (passed p) ≡ mine c

-- each caller's passings are in order, and of the phases before phase k, or up to it
abbrev pub AreBefore : ℕ → List BlockPhase → (k : ℕ) → (mine : ℕ → List Passing) → Type 0
AreBefore p phases k mine = (c : ℕ) → AreInSteps 0 (begin_of p phases k c) (mine c)

abbrev pub AreUpTo : ℕ → List BlockPhase → (k : ℕ) → (mine : ℕ → List Passing) → Type 0
AreUpTo p phases k mine = AreBefore p phases (k + 1) mine

-- ---- what was passed down, and what the port was asked

-- how many calls a caller has made: those that were answered, and the one that it has begun
abbrev pub made_of : Standing → ℕ
made_of q = if q.begun then q.next + 1 else q.next

abbrev pub made_by : PortValue → (c : ℕ) → ℕ
made_by v c = made_of (standing_at v c)

-- each caller has made just the calls that it passed down
abbrev pub AreMade : (mine : ℕ → List Passing) → PortValue → Type 0
AreMade mine v = (c : ℕ) → length (all_calls (mine c)) ≡ made_by v c

-- one caller passes something more down
pub record PassesMore (c : ℕ) (m : Passing) (mine more : ℕ → List Passing) : Type 0 where
  pub own : more c ≡ mine c ++ m ∷ []
  pub others : (d : ℕ) → (d ≡ c → ⊥) → more d ≡ mine d

-- a caller passes something more down in phase k: the sessions before and after it
pub record GrowsBy (p k : ℕ) (phases : List BlockPhase) (c : ℕ) (m : Passing) (mine more : ℕ → List Passing)
    (session later : PlainSession) : Type 0 where
  pub by : IsPassedBy p phases mine session
  pub then_by : IsPassedBy p phases more later
  pub passes : PassesMore c m mine more
  pub from : begin_of p phases k c ≤ m.step
  pub up_to : AreUpTo p phases k mine
  pub then_up_to : AreUpTo p phases k more
  pub within : k < length session.phases
  pub consoles : is_of_consoles later ≡ is_of_consoles session
  pub flip : flip_on p later ≡ flip_on p session

-- one more passing of a port
abbrev pub passed_more : ℕ → Passing → Passed → Passed
passed_more p m passed q = if q == p then passed q ++ m ∷ [] else passed q

-- the session in which it was passed down
abbrev pub with_passing : ℕ → List BlockPhase → Passing → Passed → PlainSession → PlainSession
with_passing p phases m passed session = record session { phases = passed_phases (passed_more p m passed) phases }
