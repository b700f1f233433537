use Rattle.std.proofs.Common.{◌≡◌, drop}
use Rattle.vt_text.specs.Sessions.{operators_of}
use Rattle.vt_account.specs.Played.{names_behind}
use Rattle.vt_account.proofs.seats.learn_all.Given as goal

abbrev pub invariant-loop-operator : goal.invariant-loop-operator
invariant-loop-operator l =
    names_behind l.names (operators_of (drop l.operator-index l.operators))
    ≡ names_behind l.initial.names (operators_of l.operators)
