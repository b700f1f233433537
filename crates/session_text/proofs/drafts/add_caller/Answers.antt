use Rattle.std.proofs.Common.{refl, arith}
use Rattle.session_text.specs.declared.verbs.Verb.TheVariants.{Caller}
use Rattle.session_text.proofs.Fits.{good_port}
use Rattle.session_text.proofs.drafts.add_caller.Goals as goal

pub overflow_cast-script : goal.overflow_cast-script
overflow_cast-script c =
    let small = good_port c.args.ports Caller c.args.arguments.now 1 c.requires refl in
    omega (arith, small, c.second_number.ensures)
