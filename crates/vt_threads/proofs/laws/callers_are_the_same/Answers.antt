use Rattle.vt_threads.proofs.SameCallers.{same_roles, same_first_steps}
use Rattle.vt_threads.proofs.laws.callers_are_the_same.Goals as goal

pub returns-clause-roles : goal.returns-clause-roles
returns-clause-roles c x y p k rs h are = same_roles x y h p k rs are

pub returns-clause-steps : goal.returns-clause-steps
returns-clause-steps c x y p k steps h are = same_first_steps x y h p k steps are
