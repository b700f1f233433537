-- Why an activation is refused.
use Rattle.std.specs.Prelude.{ℕ, ◌<◌, ◌≤◌}
use Rattle.vt_consoles.specs.declared.entries.VtFault.{VtFault}
use Rattle.vt_consoles.specs.declared.entries.VtFault.TheVariants.{NoConsole, Denied}
use Rattle.vt_consoles.specs.Boards.{BoardState, IsDenied}

-- there is no such console, which is looked for first; or the board makes no entry
abbrev pub IsRefusedCall : BoardState → (n : ℕ) → VtFault → Type 0
IsRefusedCall b n NoConsole = b.consoles ≤ n
IsRefusedCall b n (Denied d) = (n < b.consoles) × IsDenied b d
