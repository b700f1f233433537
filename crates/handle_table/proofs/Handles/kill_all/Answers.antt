use Rattle.std.proofs.Common.{◌≡◌, length, arith, ap, sym, ◌∙◌}
use Rattle.std.proofs.lemmas.Grind.{common_steps}
use Rattle.std.proofs.lemmas.List.{take_all, drop_all, length-map}
use Rattle.std.proofs.lemmas.List.Edits.{map_over_more}
use Rattle.handle_table.specs.Handles.{handle_after_hangup, after_hangup, live_count}
use Rattle.handle_table.proofs.CountLemmas.{live_count-after_hangup}
use Rattle.handle_table.proofs.Handles.kill_all.Goals as goal

pub loop-slot-preserved : goal.loop-slot-preserved
loop-slot-preserved c = grind (arith, common_steps, map_over_more handle_after_hangup)

pub invariant_of-self : goal.invariant_of-self
invariant_of-self c =
    let all : c.loop-slot.slot-items ≡ after_hangup c.self.inside.slots =
    grind (arith, common_steps, take_all, drop_all) in
    record {
      numbers = ap length all ∙ length-map c.self.inside.slots handle_after_hangup ∙ c.self.invariant.numbers;
      live_is = sym (ap live_count all ∙ live_count-after_hangup c.self.inside.slots);
    }

pub returns : goal.returns
returns c = grind (arith, common_steps, take_all, drop_all)
