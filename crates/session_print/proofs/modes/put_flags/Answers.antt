use Rattle.std.proofs.Common.{string_bytes, ap, sym, ◌∙◌}
use Rattle.session_print.proofs.ModeTexts.{flag_set, flag_clear}
use Rattle.session_print.proofs.modes.put_flags.Goals as goal
use Rattle.session_print.proofs.modes.put_flags.Goals.{then-has+in_ok-put_flag, else-has}

pub loop-flag-preserved : goal.loop-flag-preserved
loop-flag-preserved c =
    elim c.if-has.branch [
      | then-has+in_ok-put_flag w ↦
          flag_set c.args.modes.now _ (string_bytes c.loop-flag.text) (string_bytes c.if-has.text) c.loop-flag.flag
          c.loop-flag-test.true (sym c.has.ensures ∙ w.if-has.true)
          (ap string_bytes w.text-is ∙ w.in_ok-put_flag.ensures)
          c.loop-flag.invariant
      | else-has w ↦
          flag_clear c.args.modes.now _ (string_bytes c.loop-flag.text) (string_bytes c.if-has.text) c.loop-flag.flag
          c.loop-flag-test.true (sym c.has.ensures ∙ w.if-has.false) (ap string_bytes w.text-is) c.loop-flag.invariant
    ]
