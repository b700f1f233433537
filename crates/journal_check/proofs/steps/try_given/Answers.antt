use Rattle.std.proofs.Common.{length, ap, arith}
use Rattle.tty_calls.specs.Plain.{call_of}
use Rattle.tty_terminal.specs.Terminals.{Terminal, caller_at}
use Rattle.tty_terminal.specs.Meeting.{InRoom}
use Rattle.journal_check.proofs.Tried.{left_small, drops_few}
use Rattle.journal_check.proofs.steps.try_given.Goals as goal

pub drop_characters-requires : goal.drop_characters-requires
drop_characters-requires c =
    let l = left_small c.args.terminal.now.terminal c.args.caller (call_of c.args.call.now) c.requires.small in
    let few = drops_few c.args.terminal.now.terminal c.drops-drops.result c.args.dropped
    (c.may_drop.ensures.0 c.if-not-may_drop.false) c.requires.small.capacity in
    omega (arith, ap (λ (u : Terminal). u.taken) c.in_ok-given.ensures.left, l.taken, few)

pub advance-requires-clause-known : goal.advance-requires-clause-known
advance-requires-clause-known c =
    let l = left_small c.args.terminal.now.terminal c.args.caller (call_of c.args.call.now) c.requires.small in
    omega (
      arith,
      ap (λ (u : InRoom). length u.terminal.callers) c.drop_characters.ensures,
      ap (λ (u : Terminal). length u.callers) c.in_ok-given.ensures.left,
      l.known,
      c.requires.known,
    )

pub advance-requires-clause-few : goal.advance-requires-clause-few
advance-requires-clause-few c =
    let l = left_small c.args.terminal.now.terminal c.args.caller (call_of c.args.call.now) c.requires.small in
    omega (
      arith,
      ap (λ (u : InRoom). (caller_at u.terminal c.args.caller).next) c.drop_characters.ensures,
      ap (λ (u : Terminal). (caller_at u c.args.caller).next) c.in_ok-given.ensures.left,
      l.next c.args.caller,
    )
