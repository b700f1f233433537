use Rattle.std.proofs.Common.{◌≡◌, ℕ, ◌+◌, ◌≤◌}
use Rattle.session_gen.specs.Draws.{number_after}
use Rattle.session_gen.proofs.DrawLemmas.{AreBegun}
use Rattle.session_gen.proofs.phases.draw_lines.Given as goal

-- the lines of the ports so far
abbrev pub invariant-loop : goal.invariant-loop
invariant-loop l =
    (4 ≤ l.lines.spare + l.counter)
    × ((seed first : ℕ)
    → l.initial.drawn ≡ number_after seed first
    → AreBegun seed first l.counter l.drawn l.lines.items)
