use Rattle.std.proofs.lemmas.Result.{IfOk-weaker}
use Rattle.one_thread.specs.Turns.{PlaysOn}
use Rattle.one_thread.specs.Acts.{PlaysTurn}
use Rattle.one_thread.specs.declared.after_line.Turn.TheVariants as turn
use Rattle.one_thread.proofs.Orders.{any_turn}
use Rattle.one_thread.proofs.Ready.{in_order}
use Rattle.one_thread.proofs.after_line.play_turn.Goals as goal

pub flush-requires : goal.flush-requires
flush-requires g c =
    any_turn c.args.roles.now c.args.port.now c.args.stand turn.Flush
    (in_order g.scene c.args.scripts.now c.args.roles.now c.args.port.now c.args.stand c.args.next
    turn.Flush c.requires.0 c.requires.1.0 c.in-Flush.is)

pub returns-in-Flush-clause-ok : goal.returns-in-Flush-clause-ok
returns-in-Flush-clause-ok g c =
    IfOk-weaker c.flush.result
    (λ now. PlaysTurn c.args.roles.now c.args.port.now c.flush.new.port c.args.stand now turn.Flush)
    (λ now. PlaysOn g.scene c.args.scripts.now c.args.roles.now c.args.port.now c.flush.new.port c.args.stand now)
    (λ now plays. plays.in_order (in_order g.scene c.args.scripts.now c.args.roles.now c.args.port.now c.args.stand
    c.args.next turn.Flush c.requires.0 c.requires.1.0 c.in-Flush.is)) c.flush.ensures.ok

pub pass-requires : goal.pass-requires
pass-requires g c =
    any_turn c.args.roles.now c.args.port.now c.args.stand turn.Pass
    (in_order g.scene c.args.scripts.now c.args.roles.now c.args.port.now c.args.stand c.args.next
    turn.Pass c.requires.0 c.requires.1.0 c.in-Pass.is)

pub returns-in-Pass-clause-ok : goal.returns-in-Pass-clause-ok
returns-in-Pass-clause-ok g c =
    IfOk-weaker c.pass.result
    (λ now. PlaysTurn c.args.roles.now c.args.port.now c.pass.new.port c.args.stand now turn.Pass)
    (λ now. PlaysOn g.scene c.args.scripts.now c.args.roles.now c.args.port.now c.pass.new.port c.args.stand now)
    (λ now plays. plays.in_order (in_order g.scene c.args.scripts.now c.args.roles.now c.args.port.now c.args.stand
    c.args.next turn.Pass c.requires.0 c.requires.1.0 c.in-Pass.is)) c.pass.ensures.ok
