use Rattle.std.proofs.Common.{◌≡◌, ℕ, ◌+◌, ◌≤◌, map}
use Rattle.session_gen.specs.Draws.{rx, number_after}
use Rattle.session_gen.proofs.DrawLemmas.{IsBegun}
use Rattle.session_gen.proofs.draws.draw_line.Given as goal

-- the bytes drawn so far, and room for the others
abbrev pub invariant-loop : goal.invariant-loop
invariant-loop l =
    (4000 ≤ l.bytes.spare + l.counter)
    × ((seed first : ℕ)
    → l.initial.number ≡ number_after seed first
    → IsBegun seed first l.counter l.number (map rx l.bytes.items))
