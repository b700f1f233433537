-- What a player of a port with modem lines keeps between two turns behind the line of a phase.
use Rattle.std.specs.Prelude.{◌≡◌, ◌<◌, ◌-◌, ◌==◌, ℕ, Bool, true, false, List, [], ◌∷◌, ◌++◌}
use Rattle.std.specs.Prelude.{All, if◌then◌else◌, length, Option, Some}
use Rattle.tty_calls.specs.declared.sessions.Script.{Script}
use Rattle.tty_calls.specs.Plain.{hangs_up}
use Rattle.tty_terminal.specs.Terminals.{Terminal}
use Rattle.port_core.specs.Ports.{PortValue}
use Rattle.play_base.specs.Roles.{Scene}
use Rattle.play_base.specs.Scenes.{HasAnyOrder}
use Rattle.play_base.specs.declared.roles.Role.{Role}
use Rattle.one_thread.specs.declared.after_line.Stand.{Stand}
use Rattle.passed_calls.specs.Derived.{Passing, by_caller}
use Rattle.passed_calls.specs.Scripts.{plain}
use Rattle.order_laws.specs.Begun.{begun_at}
use Rattle.order_laws.specs.Witness.{IsPlayingIn}
use Rattle.modem_lines.specs.Lines.{Lines}
use Rattle.modem_text.specs.Events.{ModemLog}
use Rattle.modem_text.specs.Sessions.{ModemCall, ModemSession}
use Rattle.modem_steps.specs.Derived.{block_phases, carrier_on, modem_call_at, plain_call, passings_on}
use Rattle.modem_steps.specs.Steps.{plain_waits}
use Rattle.modem_one.specs.Desk.{DeskState, step_of}
use Rattle.modem_one.specs.Later.{IsDeskAt}

-- a caller's next call, whatever its phase; and what it is as it is passed down
abbrev pub call_after : ModemSession → (p : ℕ) → DeskState → (c : ℕ) → Option ModemCall
call_after session p d c = modem_call_at p session c (step_of d c)

abbrev pub next_passing : ModemSession → (p : ℕ) → DeskState → (c : ℕ) → Passing
next_passing session p d c = record { caller = c; step = step_of d c; calls = plain_call (call_after session p d c) }

-- what each caller has passed down: what was logged, and behind it the call that it has begun
abbrev pub passings_with : ModemSession → (p : ℕ) → DeskState → (begun : ℕ → Bool) → ℕ → List Passing
passings_with session p d begun c =
    by_caller c (passings_on session d.log p) ++ (if begun c then next_passing session p d c ∷ [] else [])

-- the hangup of a lost carrier, at the latest item of the modem blocks
abbrev pub hangup_of : ModemSession → (p : ℕ) → DeskState → (h : ℕ) → Passing
hangup_of session p d h = record { caller = carrier_on p session; step = d.items - 1; calls = hangs_up h ∷ [] }

abbrev pub hangup_with : ModemSession → (p : ℕ) → DeskState → PortValue → (h : ℕ) → ℕ → List Passing
hangup_with session p d v h c =
    passings_with session p d (begun_at v) c
    ++ (if c == carrier_on p session then hangup_of session p d h ∷ [] else [])

-- what was logged of a caller is of steps before this one
abbrev pub AreLoggedBefore : ModemSession → ModemLog → (p c step : ℕ) → Type 0
AreLoggedBefore session log p c step = All (λ m. m.step < step) (by_caller c (passings_on session log p))

-- the step that comes next: of `carrier` it is the number of an item, the latest where its hangup is due
abbrev pub step_next : ModemSession → (p : ℕ) → DeskState → (due : List ℕ) → (c : ℕ) → ℕ
step_next session p d due c = if c == carrier_on p session then d.items - length due else step_of d c

-- a call for the port that waits for no carrier, whatever the lines are
abbrev pub IsNeverHeld : Option ModemCall → Type 0
IsNeverHeld (Some (plain call)) = (lines : Lines) (t : Terminal) → plain_waits lines t call ≡ false
IsNeverHeld other = ⊥

-- what stays meanwhile: the session and its plain part, the scripts of each scene that may be played, the port behind
-- the line, and the ticks
pub record Frame : Type 0 where
  pub first : Scene
  pub session : ModemSession
  pub scripts : Scene → List Script
  pub start : PortValue
  pub ticks : ℕ

-- Some session is played, and each that agrees with the port; the desk stands where the log leads, with these hangups
-- due; no caller has passed anything down for a later step than its next; `carrier` has begun none, and no other
-- call that has begun is an open.
pub record IsPlayingModems (f : Frame) (roles : List Role) (v : PortValue) (d : DeskState) (stand : Stand)
    (due : List ℕ) : Type 0 where
  pub playing : IsPlayingIn HasAnyOrder f.first (block_phases f.session) f.scripts roles f.start
      (passings_with f.session f.first.port d (begun_at v)) v f.ticks stand
  pub desk : IsDeskAt f.first f.session v d due
  pub logged_before : (c : ℕ)
      → AreLoggedBefore f.session d.log f.first.port c (step_next f.session f.first.port d due c)
  pub carrier_rests : begun_at v (carrier_on f.first.port f.session) ≡ false
  pub never_held : (c : ℕ) → begun_at v c ≡ true → IsNeverHeld (call_after f.session f.first.port d c)
