use Rattle.std.proofs.Common.{◌≡◌, [], ◌∷◌, ◌++◌, map, ap, ◌∙◌, arith}
use Rattle.std.proofs.lemmas.List.{map-append}
use Rattle.line_steps.specs.Steps.{StepList}
use Rattle.vt_account.specs.Keyed.{key_line}
use Rattle.vt_account.proofs.KeyLines.{lines_more}
use Rattle.vt_account.proofs.keying.lines_of.Goals as goal

pub loop-p-preserved : goal.loop-p-preserved
loop-p-preserved c =
    let items = λ (line : StepList). line.items in
    let added : c.add.new.self.items ≡ c.loop-p.lines.items ++ c.in_ok-line.line ∷ [] =
    ap (λ x. x.items) c.add.ensures in
    record {
      lines =
          ap (map items) added ∙ map-append items c.loop-p.lines.items (c.in_ok-line.line ∷ [])
          ∙ lines_more c.args.active c.loop-p.p c.args.keys.now (map items c.loop-p.lines.items) c.in_ok-line.line.items
          c.loop-p.invariant.lines (c.in_ok-line.ensures ∙ ap key_line c.keys_on.ensures);
      room = omega (arith, ap (λ x. x.spare) c.add.ensures, c.loop-p.invariant.room, c.loop-p-test.true);
    }
