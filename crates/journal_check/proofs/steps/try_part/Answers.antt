use Rattle.std.proofs.Common.{length, ap, subst, arith}
use Rattle.tty_calls.specs.Plain.{call_of}
use Rattle.tty_terminal.specs.declared.rooms.Met.{Met}
use Rattle.tty_terminal.specs.Terminals.{Terminal, caller_at}
use Rattle.tty_terminal.specs.Calls.{outcome}
use Rattle.tty_terminal.specs.Meeting.{Meets}
use Rattle.tty_terminal.specs.Steps.{TakesPart}
use Rattle.journal_check.proofs.Tried.{left_small, part_small, met_part}
use Rattle.journal_check.proofs.steps.try_part.Goals as goal

pub note_part-requires-clause-known : goal.note_part-requires-clause-known
note_part-requires-clause-known c =
    let l = left_small c.args.terminal.now.terminal c.args.caller (call_of c.args.call.now) c.requires.small in
    omega (arith, ap (λ (u : Terminal). length u.callers) c.in_ok-taken.ensures.left, l.known, c.requires.known)

pub note_part-requires-clause-parts : goal.note_part-requires-clause-parts
note_part-requires-clause-parts c =
    let l = left_small c.args.terminal.now.terminal c.args.caller (call_of c.args.call.now) c.requires.small in
    omega
    (arith, ap (λ (u : Terminal). (caller_at u c.args.caller).parts) c.in_ok-taken.ensures.left, l.parts c.args.caller)

pub note_part-requires-clause-bytes : goal.note_part-requires-clause-bytes
note_part-requires-clause-bytes c =
    let t : Terminal = c.args.terminal.now.terminal in
    let took : TakesPart (outcome t (caller_at t c.args.caller) (call_of c.args.call.now)) c.in-Takes.taken =
    met_part (outcome t (caller_at t c.args.caller) (call_of c.args.call.now)) c.in-Takes.taken
    (subst (λ (m : Met). Meets (outcome t (caller_at t c.args.caller) (call_of c.args.call.now)) m)
    c.in-Takes.is c.in_ok-taken.ensures.met) in
    omega (
      arith,
      ap (λ (u : Terminal). (caller_at u c.args.caller).taken) c.in_ok-taken.ensures.left,
      part_small t c.args.caller c.in-Takes.taken (call_of c.args.call.now) c.requires.call took,
    )
