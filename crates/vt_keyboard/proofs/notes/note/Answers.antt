use Rattle.std.proofs.Common.{◌≡◌, ◌<◌, ◌≤◌, ℕ, List, ◌++◌, Option, length, sym, subst, ap, ◌∙◌, arith}
use Rattle.std.specs.Prelude.{MatchOption, slice_index_or}
use Rattle.std.proofs.lemmas.List.{length-replicate}
use Rattle.tty_base.specs.declared.lines.Full.{Full}
use Rattle.uart_line.specs.Received.{overrun_mark, received_list}
use Rattle.vt_consoles.specs.Keys.{key_character}
use Rattle.vt_keyboard.specs.Keying.{overruns_of}
use Rattle.vt_keyboard.proofs.KeySteps.{received_key}
use Rattle.vt_keyboard.proofs.KeyLemmas.{accepted_notes, refused_notes}
use Rattle.vt_keyboard.proofs.notes.note.Goals as goal

pub returns-in-None : goal.returns-in-None
returns-in-None c =
    let line = c.args.line.now in
    let new = c.step.new.self in
    let byte = c.args.byte in
    let some : 0 < 1 = omega arith in
    record {
      done = c.step.ensures.done;
      overruns = λ before d ready.
          subst (λ (lost : Option Full).
          new.report.overruns.items ≡ line.report.overruns.items ++ overruns_of (length (received_list before)) lost)
          (sym c.in-None.is)
          (accepted_notes 1 (key_character byte) _ _ _ _ _ _ _ some (c.step.ensures.hands_over before d)
          (received_key before byte ready));
      most = c.step.ensures.room;
      arrived = c.step.ensures.arrived;
    }

pub returns-in-Some : goal.returns-in-Some
returns-in-Some c =
    let line = c.args.line.now in
    let new = c.step-in-Some.new.self in
    let byte = c.args.byte in
    let f : Full = c.in-Some.full in
    let within : f.seen ≤ f.sent =
    subst (λ (lost : Option Full). MatchOption lost (Unit {0}) (λ g. g.seen ≤ g.sent)) c.in-Some.is c.requires.full in
    let stays : c.step-in-Some.new.put.full.sent ≡ f.sent =
    ap (λ (l : List ℕ). slice_index_or l 0 0) c.step-in-Some.ensures.name in
    record {
      done = c.step-in-Some.ensures.done;
      overruns = λ before d ready.
          subst (λ (lost : Option Full).
          new.report.overruns.items ≡ line.report.overruns.items ++ overruns_of (length (received_list before)) lost)
          (sym c.in-Some.is)
          (refused_notes f (key_character byte) _ _ _ _ _ _ _ _ within (length-replicate f.sent overrun_mark)
          (length-replicate c.step-in-Some.new.put.full.sent overrun_mark ∙ stays)
          (c.step-in-Some.ensures.hands_over before d) (received_key before byte ready));
      most = c.step-in-Some.ensures.room;
      arrived = c.step-in-Some.ensures.arrived;
    }
