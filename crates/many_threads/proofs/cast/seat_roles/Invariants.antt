use Rattle.std.proofs.Common.{◌≡◌, drop}
use Rattle.many_threads.specs.Cast.{seated}
use Rattle.many_threads.proofs.cast.seat_roles.Given as goal

abbrev pub invariant-loop-role : goal.invariant-loop-role
invariant-loop-role l = seated (drop l.role-index l.roles) l.cast.items ≡ seated l.roles l.initial.cast.items
