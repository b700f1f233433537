use Rattle.std.proofs.Common.{◌≡◌, ◌≤◌, ◌+◌, ◌-◌, ◌++◌, List, [], min, max}
use Rattle.std.proofs.Common.{length, arith, ap, ◌∙◌, subst, length-append}
use Rattle.std.proofs.lemmas.List.{length-map}
use Rattle.tty_base.specs.Characters.{good_character, good_characters}
use Rattle.tty_base.specs.declared.characters.Flagged.{Flagged}
use Rattle.word_ring.specs.Ends.{PutterState, TakerState, with_shown, with_taken}
use Rattle.port_core.specs.Flips.{MeetsTaker, after_meeting}
use Rattle.port_core.specs.Given.{with_put, with_pushed}
use Rattle.port_core.proofs.Giving.{front_given}
use Rattle.port_core.proofs.flips.take_front.Goals as goal

pub returns : goal.returns
returns c =
    let f : TakerState Flagged = c.args.flip.now in
    let p : PutterState Flagged = c.args.putter.now in
    let n = c.args.count in
    let h : TakerState Flagged = c.take.new.self in
    let tail = h.floor in
    let chars : List Flagged = good_characters c.args.bytes.now in
    let xs : List Flagged = c.take.ensures.moves.0 in
    let many : length chars ≡ 8 = length-map c.args.bytes.now good_character ∙ c.told-bytes in
    let pushed : c.note-note.new.self ≡ with_pushed p chars =
    c.note-note.ensures.same ∙ ap (λ (q : PutterState Flagged). record q { pushed = q.sent }) c.put_good.ensures in
    let noted : c.note-note.result.pushed ≡ p.sent ++ chars =
    ap (λ m. m.pushed) c.note-note.ensures.note ∙ ap (λ (q : PutterState Flagged). q.sent) c.put_good.ensures in
    let told : c.meet.new.self ≡ after_meeting f (with_put p chars) =
    c.meet.ensures.same
    ∙ ap (λ (sent : List Flagged). record f { peeked = []; floor = max f.floor (length sent) }) noted in
    let released : h ≡ with_taken (with_shown (after_meeting f (with_put p chars)) tail) xs =
    c.take.ensures.moves.3 ∙ ap (λ (g : TakerState Flagged). with_taken (with_shown g tail) xs) told in
    let rises : max f.floor (length (p.sent ++ chars)) ≤ tail =
    subst (λ (g : TakerState Flagged). g.floor ≤ tail) told c.take.ensures.rises in
    let most : tail ≤ length f.taken + f.capacity =
    subst (λ (g : TakerState Flagged). tail ≤ length g.taken + g.capacity) told c.take.ensures.most in
    let counts : c.take.result ≡ min n (tail - length f.taken) =
    subst (λ (g : TakerState Flagged). c.take.result ≡ min n (tail - length g.taken)) told c.take.ensures.count.1 in
    let long : length xs ≡ n =
    omega (
      arith,
      c.take.ensures.moves.1,
      counts,
      rises,
      length-append p.sent chars,
      many,
      c.requires.within,
      c.requires.clear.taken,
    ) in
    front_given f h _ p _ chars xs n tail c.requires.clear long rises most released
    (c.tell_each_other.ensures.flip ∙ ap (λ (q : PutterState Flagged). after_meeting h q) pushed)
    (subst (λ (q : PutterState Flagged). MeetsTaker h q c.tell_each_other.new.putter)
    pushed c.tell_each_other.ensures.meets)
