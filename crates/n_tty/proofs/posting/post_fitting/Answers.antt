use Rattle.std.proofs.Common.{◌≡◌, ℕ, ◌+◌, ◌<◌, ◌++◌, List, length, take, drop, ap}
use Rattle.std.proofs.Common.{sym, ◌∙◌, arith, length-drop, drop-drop, take-add}
use Rattle.flow_control.specs.Output.{after_send}
use Rattle.n_tty.specs.Posting.{column_past_text, all_posted_bytes}
use Rattle.n_tty.specs.Writing.{fitting_count}
use Rattle.n_tty.proofs.PostingLemmas.{after_send-append, column_past_text-append}
use Rattle.n_tty.proofs.WritingLemmas.{all_posted_bytes-append}
use Rattle.n_tty.proofs.posting.post_fitting.Goals as goal

pub loop-count-preserved : goal.loop-count-preserved
loop-count-preserved c =
    let modes = c.args.modes.now in
    let bytes = c.args.bytes.now in
    let first = c.args.out.now in
    let i = c.loop-count.count in
    let column = c.loop-count.out in
    let wire = c.loop-count.wire in
    let n = c.post_run-taken.result in
    let later = c.post_run-taken.new.out in
    let sent = c.post_run-taken.new.wire in
    let took = c.post_run-taken.ensures in
    let so_far = c.loop-count.invariant in
    let rest = c.rest_of.result.now in
    let some : 0 < n = omega (arith, c.if-taken-eq0.false) in
    let text : List ℕ = all_posted_bytes modes first (take i bytes) in
    let piece : List ℕ = all_posted_bytes modes column (take n rest) in
    let more : all_posted_bytes modes first (take (i + n) bytes) ≡ text ++ piece =
    ap (all_posted_bytes modes first) (take-add i n bytes)
    ∙ all_posted_bytes-append modes first (take i bytes) (take n (drop i bytes))
    ∙ (λ j. text ++ all_posted_bytes modes (sym so_far.column j) (take n (sym c.rest_of.ensures j))) in
    let left : drop n rest ≡ drop (i + n) bytes = ap (drop n) c.rest_of.ensures ∙ drop-drop n i bytes in
    record {
      within = omega (arith, took.within, ap length c.rest_of.ensures, length-drop i bytes, so_far.within);
      count = omega (
        arith,
        so_far.count,
        took.fitting some,
        ap (fitting_count modes column wire) c.rest_of.ensures,
        ap (fitting_count modes later sent) left,
      );
      column =
          took.column some
          ∙ ap (λ k. column_past_text modes k piece) so_far.column
          ∙ sym (column_past_text-append modes first text piece)
          ∙ ap (column_past_text modes first) (sym more);
      wire =
          took.wire some
          ∙ ap (λ o. after_send o piece) so_far.wire
          ∙ sym (after_send-append c.args.wire.now text piece)
          ∙ ap (after_send c.args.wire.now) (sym more);
      spare = omega (arith, so_far.spare, took.spent);
      bound = omega (arith, so_far.bound, took.moved);
    }
