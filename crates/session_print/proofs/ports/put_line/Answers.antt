use Rattle.std.proofs.Common.{◌∙◌, ◌++◌, ap, append_assoc, append-nil}
use Rattle.std.proofs.lemmas.Result.{on_ok_weaker}
use Rattle.tty_calls.specs.Sessions.{session_of}
use Rattle.session_print.specs.Lines.{flip_text, newline}
use Rattle.session_print.proofs.ports.put_line.Goals as goal

pub returns : goal.returns
returns c =
    on_ok_weaker c.put_flip.result
    (λ last.
    last
    ∙ ap (λ xs. xs ++ (flip_text (session_of c.args.session.now) c.args.port ++ newline)) c.in_ok-put_fields.ensures
    ∙ rw (c.from.ensures, c.from-2.ensures, c.len.ensures) (simp (append_assoc, append-nil)))
    c.put_flip.ensures
