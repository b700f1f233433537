use Rattle.session_print.proofs.journals.put_journal.Goals as goal

pub put_run-put-requires : goal.put_run-put-requires
put_run-put-requires c = c.in_ok-names.ensures
