-- The callers of a port in a phase: what each can play, and what comes of all.
use Rattle.std.specs.Prelude.{◌≡◌, ◌⊎◌, ℕ, ◌+◌, ◌<◌, ◌^◌, List, [], ◌∷◌, Bool, true, false, Option}
use Rattle.std.specs.Prelude.{None, Some, Result, Ok, Err, MatchBool, All, length, map, sum}
use Rattle.tty_calls.specs.declared.answers.Denied.{Denied}
use Rattle.tty_calls.specs.declared.answers.Denied.TheVariants.{NoMemory, Full}
use Rattle.tty_calls.specs.declared.sessions.Script.{Script}
use Rattle.tty_calls.specs.Limits.{IsCallWithin}
use Rattle.play_base.specs.Roles.{PlainRole, role_in}
use Rattle.play_base.specs.declared.roles.Role.{Role}
use Rattle.port_cell.specs.Knowledge.{list_seen}
use Rattle.tty_port.specs.Inside.{Name}
use Rattle.tty_port.specs.Seen.{IsBetweenCalls}
use Rattle.tty_port.specs.Calls.{PortSeat}
use Rattle.tty_port.specs.Shared.{IsHere, name_of_port, opening_history}
use Rattle.tty_port.specs.declared.shared.SharedPort.{SharedPort}
use Rattle.many_threads.specs.Parts.{MakesInRole, PlaysCaller}
use Rattle.many_threads.specs.declared.caller_threads.CallersBack.{CallersBack}

-- the role of each caller of the port, where it has one in the phase
abbrev pub plain_role : List Script → Option Role → Option PlainRole
plain_role scripts None = None
plain_role scripts (Some role) = Some (role_in scripts role)

abbrev pub plain_cast : List Script → List (Option Role) → List (Option PlainRole)
plain_cast scripts cast = map (plain_role scripts) cast

-- the caller with the number n can play the role once the port is shared
pub record IsPlayable (p : SharedPort) (n : ℕ) (r : PlainRole) : Type 0 where
  pub number : r.number ≡ n
  pub known : n < sum (name_of_port p).counts
  pub within : All IsCallWithin r.calls
  pub few : r.first + length r.calls < 2 ^ 32
  pub between : IsBetweenCalls n r.first (opening_history p)

abbrev pub CanPlay : SharedPort → ℕ → Option PlainRole → Type 0
CanPlay p n None = Unit {0}
CanPlay p n (Some r) = IsPlayable p n r

abbrev pub CanPlayAll : SharedPort → ℕ → List (Option PlainRole) → Type 0
CanPlayAll p n [] = Unit {0}
CanPlayAll p n (r ∷ rs) = CanPlay p n r × CanPlayAll p (n + 1) rs

-- what a caller made since the port was shared was of its role; one without a role made nothing
abbrev pub MadeAs : SharedPort → ℕ → Option PlainRole → PortSeat → Type 0
MadeAs p n None s = list_seen s ≡ opening_history p
MadeAs p n (Some r) s = MakesInRole n r.first r.calls (opening_history p) s

pub record IsBack (p : SharedPort) (n : ℕ) (r : Option PlainRole) (s : PortSeat) : Type 0 where
  pub here : IsHere p n s
  pub made : MadeAs p n r s

-- its role is played whole
abbrev pub PlayedAs : SharedPort → ℕ → Option PlainRole → PortSeat → Type 0
PlayedAs p n None s = list_seen s ≡ opening_history p
PlayedAs p n (Some r) s = PlaysCaller n r.first r.calls (opening_history p) s

abbrev pub EachCaller : (ℕ → Option PlainRole → PortSeat → Type 0)
    → ℕ → List (Option PlainRole) → List PortSeat
    → Type 0
EachCaller P n [] [] = Unit {0}
EachCaller P n [] (s ∷ ss) = ⊥
EachCaller P n (r ∷ rs) [] = ⊥
EachCaller P n (r ∷ rs) (s ∷ ss) = P n r s × EachCaller P (n + 1) rs ss

-- a seat has seen a history that takes no further entry
abbrev pub SomeSawFull : Name → List PortSeat → Type 0
SomeSawFull name [] = ⊥
SomeSawFull name (s ∷ ss) = (length (list_seen s) ≡ name.limit) ⊎ SomeSawFull name ss

pub record CallersCome (p : SharedPort) (roles : List (Option PlainRole)) (back : CallersBack) : Type 0 where
  pub back_all : EachCaller (IsBack p) 0 roles back.seats.items
  pub told : MatchBool back.full (SomeSawFull (name_of_port p) back.seats.items)
      (EachCaller (PlayedAs p) 0 roles back.seats.items)

-- whether an outcome says that the journal is full; want of memory is told otherwise
abbrev pub TellsFull : Result (Unit {0}) Denied → Bool → Type 0
TellsFull (Ok v) true = ⊥
TellsFull (Ok v) false = Unit {0}
TellsFull (Err Full) true = Unit {0}
TellsFull (Err Full) false = ⊥
TellsFull (Err NoMemory) full = ⊥
