-- What is kept of the processes that were read, so that none is looked for among all: for private functions alone.
use Rattle.std.specs.Prelude.{◌≡◌, ℕ, ◌==◌, ◌<◌, ◌&&◌, nat_eq, Bool, true, false, List, [], ◌∷◌, ◌++◌}
use Rattle.std.specs.Prelude.{All, IsTrue, filter, map, slice_index_or}
use Rattle.std.specs.List.{list_any}
use Rattle.std.specs.HashSet.{contains, spare}
use Rattle.text_lines.specs.Values.{is_name}
use Rattle.tty_calls.specs.Sessions.{with_name}
use Rattle.job_text.specs.declared.blocks.Block.{Block}
use Rattle.job_text.specs.declared.blocks.Block.TheVariants as block
use Rattle.job_text.specs.declared.blocks.Process.{Process}
use Rattle.job_text.specs.declared.leaders.Leaders.{Leaders}
use Rattle.job_text.specs.declared.sessions.PortProc.{PortProc}
use Rattle.job_text.specs.Reading.{has_exited}

-- a leader of this session of this port
abbrev pub leads : (port session : ℕ) → PortProc → Bool
leads port session q = (q.port == port && q.proc.leader) && q.proc.session == session

-- a session of a port is among those that have a leader
abbrev pub is_led : Leaders → (port session : ℕ) → Bool
is_led leaders port session = contains (λ a b. nat_eq a.0 b.0 && nat_eq a.1 b.1) leaders.sessions (port, session)

-- one more can be noted without memory
abbrev pub HasRoom : Leaders → Type 0
HasRoom leaders = 0 < spare leaders.sessions

-- the names of a port's processes, in their order
abbrev pub names_on : ℕ → List PortProc → List (List ℕ)
names_on p procs = map (λ q. q.proc.name.bytes) (filter (λ q. q.port == p) procs)

-- a port's names after one was learned here, or elsewhere
abbrev pub learned : (here : Bool) → List (List ℕ) → (name : List ℕ) → List (List ℕ)
learned true names name = with_name names name
learned false names name = names

-- each port has a list of the names of its processes, and the sessions that have a leader are known
pub record IsTable (procs : List PortProc) (names : List (List (List ℕ))) (leaders : Leaders) : Type 0 where
  pub names_are : (p : ℕ) → slice_index_or names p [] ≡ names_on p procs
  pub leaders_are : (p s : ℕ) → is_led leaders p s ≡ list_any (leads p s) procs
  pub are_names : All (λ q. IsTrue (is_name q.proc.name.bytes)) procs

-- ---- who has exited

-- which block is open, and who has exited
pub record BlockState : Type 0 where
  pub block : Block
  pub exited : List Process

-- the process of the open block has not exited
abbrev pub HasNotExited : Block → List Process → Type 0
HasNotExited (block.Caller process) exited = has_exited exited process ≡ false
HasNotExited other exited = Unit {0}

-- the process of the open block has exited
abbrev pub exited_by : Block → List Process → BlockState
exited_by (block.Caller process) exited = record { block = block.Exited; exited = exited ++ process ∷ [] }
exited_by other exited = record { block = block.Exited; exited = exited }
