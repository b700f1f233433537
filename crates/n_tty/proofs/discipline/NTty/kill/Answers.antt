use Rattle.std.proofs.Common.{◌≡◌, ◌==◌, false, [], length, ap, sym, subst, ◌∙◌, arith}
use Rattle.echo_out.specs.Echo.{echo_of}
use Rattle.echo_out.specs.declared.EchoEvent.TheVariants as event
use Rattle.echo_out.specs.declared.EraseKind.TheVariants.{Kill}
use Rattle.n_tty.specs.States.{NTtyState, on_port}
use Rattle.flow_control.specs.Output.{after_try}
use Rattle.n_tty.specs.Posting.{column_after_try, all_posted_bytes, tally_after_try}
use Rattle.n_tty.specs.Editing.{echo_of_gone, after_kill}
use Rattle.n_tty.specs.contracts.discipline.NTty.{the_view}
use Rattle.n_tty.proofs.BoundLemmas.{echo_posted-le}
use Rattle.n_tty.proofs.KillLemmas.{echo_of_kill-bytes, echo_of_kill-whole, killed_by}
use Rattle.n_tty.proofs.discipline.NTty.kill.Goals as goal
use Rattle.n_tty.proofs.discipline.NTty.kill.Goals.{then-is_empty-2, else-is_empty-2}

pub echo_bytes-requires-clause-spare : goal.echo_bytes-requires-clause-spare
echo_bytes-requires-clause-spare c =
    let modes = c.args.modes.now in
    let text = ap (λ bytes. length (all_posted_bytes modes c.self.inside.out bytes))
    (c.as_slice.ensures.value ∙ c.echo-whole.ensures) in
    omega (arith, text, echo_posted-le modes c.self.inside.out event.Killed tt, c.requires.room)

pub returns : goal.returns
returns c =
    let modes = c.args.modes.now in
    let inside = c.self.inside in
    let tty = the_view inside in
    let some : (length inside.edit == 0) ≡ false =
    ap (λ bs. length bs == 0) (sym c.bytes.ensures.bytes) ∙ sym c.is_empty.ensures ∙ c.if-is_empty.false in
    let tested : c.is_empty-2.result ≡ (length (echo_of modes event.Killed) == 0) =
    c.is_empty-2.ensures ∙ ap (λ bs. length bs == 0) c.echo-whole.ensures in
    let left = λ (t : NTtyState).
    on_port (the_view (record c.if-is_empty-2.self-inside { edit = c.kill-count.new.self }))
    c.if-is_empty-2.wire c.if-is_empty-2.tally
    ≡ after_kill modes (on_port t c.args.wire.now c.args.tally.now) in
    record {
      after = subst left c.self.view_is (
          elim c.if-is_empty-2.branch [
            | then-is_empty-2 w ↦
                let echo = echo_of_gone modes Kill inside.start [] inside.edit in
                killed_by modes tty _ c.args.wire.now _ c.args.tally.now _ echo
                (echo_of_kill-bytes modes inside.start inside.edit (sym tested ∙ w.if-is_empty-2.true))
                ((λ i. the_view (record (w.self-inside-is i) { edit = c.kill-count.ensures.line i }))
                ∙ ap (λ column. record tty { edit = []; column = column }) w.echo_erased.ensures.column)
                (w.wire-is ∙ w.echo_erased.ensures.wire)
                (w.tally-is ∙ w.echo_erased.ensures.tally)
            | else-is_empty-2 w ↦
                let echo = echo_of modes event.Killed in
                let given = w.as_slice.ensures.value ∙ c.echo-whole.ensures in
                let text = ap (all_posted_bytes modes inside.out) given in
                killed_by modes tty _ c.args.wire.now _ c.args.tally.now _ echo
                (echo_of_kill-whole modes inside.start inside.edit (sym tested ∙ w.if-is_empty-2.false) some)
                ((λ i. the_view (record (w.self-inside-is i) { edit = c.kill-count.ensures.line i }))
                ∙ ap (λ column. record tty { edit = []; column = column })
                (w.echo_bytes.ensures.column ∙ ap (column_after_try modes c.args.wire.now inside.out) text))
                (w.wire-is ∙ w.echo_bytes.ensures.wire ∙ ap (after_try c.args.wire.now) text)
                (w.tally-is
                ∙ w.echo_bytes.ensures.tally
                ∙ ap (λ xs. tally_after_try c.args.wire.now xs c.args.tally.now) text)
          ]
          );
    }
