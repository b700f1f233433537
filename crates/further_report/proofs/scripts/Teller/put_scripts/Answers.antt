use Rattle.std.proofs.Common.{◌≡◌, List, [], drop, map, refl, ap, ◌∙◌}
use Rattle.std.proofs.lemmas.List.{drop_all, take_rest}
use Rattle.tty_calls.specs.declared.sessions.Script.{Script}
use Rattle.tty_calls.specs.Sessions.{script_of}
use Rattle.passed_calls.specs.Scripts.{mixed_scripts}
use Rattle.further_report.specs.Printing.{bytes_of}
use Rattle.further_report.proofs.Pieces.{script_more, scripts_done, scripts_first}
use Rattle.further_report.proofs.scripts.Teller.put_scripts.Goals as goal

pub loop-number-preserved : goal.loop-number-preserved
loop-number-preserved g c =
    let t = c.args.self.now in
    let at = c.loop-number in
    script_more g.C.FurtherCall.verb_text t.port t.names (map (λ texts. bytes_of texts.items) t.answers.items)
    c.args.text.now.items c.args.steps.now.items (mixed_scripts 0 (map script_of c.args.scripts.now) c.args.placed.now)
    at.text.items c.put_one.new.text.items at.steps.items c.put_one.new.steps.items c.args.scripts.now at.rest.now _
    at.number c.count_in-count.result c.index-scripts-number.result c.loop-number-test.true c.index-scripts-number.is
    c.count_in-count.ensures.count (take_rest c.loop-number.rest.now c.count_in-count.result)
    c.in_ok-put_one.ensures.text c.in_ok-put_one.ensures.steps c.in_ok-put_one.ensures.each at.invariant

pub loop-number-init : goal.loop-number-init
loop-number-init g c =
    let t = c.args.self.now in
    scripts_first g.C.FurtherCall.verb_text t.port t.names (map (λ texts. bytes_of texts.items) t.answers.items)
    c.args.text.now.items c.args.steps.now.items c.args.steps.now.items
    (mixed_scripts 0 (map script_of c.args.scripts.now) c.args.placed.now) refl

pub put_one-requires-clause-steps : goal.put_one-requires-clause-steps
put_one-requires-clause-steps g c = c.loop-number.invariant.each ∙ c.requires.steps

pub returns : goal.returns
returns g c =
    let t = c.args.self.now in
    let at = c.loop-number in
    let scripts = c.args.scripts.now in
    let none : drop at.number scripts ≡ [] = drop_all at.number scripts c.loop-number-test.false in
    let done = scripts_done g.C.FurtherCall.verb_text t.port t.names
    (map (λ texts. bytes_of texts.items) t.answers.items) c.args.text.now.items c.args.steps.now.items
    (mixed_scripts 0 (map script_of scripts) c.args.placed.now)
    at.text.items at.steps.items (mixed_scripts at.number (map script_of (drop at.number scripts)) at.rest.now)
    (ap (λ (ss : List Script). mixed_scripts at.number (map script_of ss) at.rest.now) none) at.invariant in
    record { text = done.0; steps = done.1.0; each = done.1.1 }
