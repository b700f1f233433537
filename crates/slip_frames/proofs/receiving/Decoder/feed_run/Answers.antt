use Rattle.std.proofs.Common.{◌≡◌, ◌+◌, ◌≤◌, ◌<◌, ◌∷◌, ◌++◌, List, [], length, take}
use Rattle.std.proofs.Common.{get_or, ap, subst, sym, ◌∙◌, arith, length-take}
use Rattle.std.proofs.lemmas.List.{take-take}
use Rattle.std.specs.List.{AllByRecursion}
use Rattle.tty_base.specs.declared.characters.Flag.TheVariants.{Normal}
use Rattle.tty_base.specs.declared.characters.Flagged.{Flagged}
use Rattle.char_lanes.specs.Runs.{IsInBounds}
use Rattle.slip_frames.specs.declared.receiving.Parse.{Parse}
use Rattle.slip_frames.specs.declared.receiving.Parse.TheVariants.{Plain, Ended}
use Rattle.slip_frames.specs.Inside.{decoding_by}
use Rattle.slip_frames.specs.Slip.{end, esc, bytes_of}
use Rattle.slip_frames.proofs.TextRuns.{fed_run, are_text, some_taken}
use Rattle.slip_frames.proofs.receiving.Decoder.feed_run.Goals as goal
use Rattle.slip_frames.proofs.receiving.Decoder.feed_run.Goals.{in-Plain, in-Ended}

pub returns-clause-after : goal.returns-clause-after
returns-clause-after c =
    let d = c.args.self.now in
    let chars = c.args.chars.now in
    let front = c.front_of-chars.result.now in
    let count = c.push_run-count.result in
    let within : count ≤ length front = c.push_run-count.ensures.within in
    let short : count ≤ c.min.result =
    omega (arith, within, ap length c.front_of-chars.ensures, length-take c.min.result chars) in
    let same : take count front ≡ take count chars =
    ap (take count) c.front_of-chars.ensures ∙ take-take count c.min.result chars short in
    let starts = c.if-not-starts_with_text.false in
    let marks = c.as_slice.ensures in
    let other : Flagged = record { byte = 0; flag = Normal } in
    let taken : 0 < count =
    some_taken (IsInBounds 0 255 (end ∷ esc ∷ [])) count front other (c.starts_with_text.ensures.some starts)
    (c.starts_with_text.ensures.text other starts)
    (subst (λ without. count < length front → ¬ IsInBounds 0 255 without (get_or front count other)) marks
    (c.push_run-count.ensures.stops other)) in
    let all = are_text (take count chars) (rw (sym same)
    (subst (λ without. AllByRecursion (IsInBounds 0 255 without) (take count front)) marks
    c.push_run-count.ensures.run)) in
    let before = c.self.inside.bytes.items in
    let piece = c.self-2.inside.piece in
    let bytes = c.self-2.inside.bytes.items in
    let kept = c.push_run-count.ensures.items ∙ ap (λ (cs : List Flagged). bytes ++ bytes_of cs) same in
    let size : length (take count chars) ≡ count =
    omega
    (arith, length-take count chars, length-take c.min.result chars, within, ap length c.front_of-chars.ensures) in
    let view = c.self-2.view_is in
    let some : 0 < length (take count chars) = omega (arith, size, taken) in
    elim c.match-self.branch [
      | in-Plain w ↦
          let was : decoding_by Plain before ≡ d =
          ap (λ (p : Parse). decoding_by p before) (sym w.in-Plain.is) ∙ c.self.view_is in
          let room : length before + length (take count chars) ≤ 1006 =
          omega (arith, size, short, c.min.ensures, w.room-is, w.len.ensures, c.self.invariant.within) in
          fed_run d c.forget_packet.new.self piece bytes c.push_run-count.new.bytes.items before [] (take count chars)
          (sym was) view c.forget_packet.ensures kept all some room
      | in-Ended w ↦
          let was : decoding_by Ended before ≡ d =
          ap (λ (p : Parse). decoding_by p before) (sym w.in-Ended.is) ∙ c.self.view_is in
          let room : 0 + length (take count chars) ≤ 1006 = omega (arith, size, short, c.min.ensures, w.room-is) in
          fed_run d c.forget_packet.new.self piece bytes c.push_run-count.new.bytes.items [] before (take count chars)
          (sym was) view c.forget_packet.ensures kept all some room
    ]
