use Rattle.std.proofs.Common.{ap, sym, subst, ◌∙◌, ◌≡◌, length, [], Vec, Global}
use Rattle.tty_base.specs.Sizes.{MOST_ENTRIES}
use Rattle.many_threads.proofs.Onward.{at_ok}
use Rattle.vt_text.specs.Sessions.{vt_session_of}
use Rattle.vt_threads.specs.declared.consoles.Console.{Console}
use Rattle.vt_play.specs.Parts.{AreConsolesBefore}
use Rattle.vt_play.proofs.Onward.{board_first}
use Rattle.vt_play.proofs.playing.open.Goals as goal

pub returns : goal.returns
returns c =
    let vt = vt_session_of c.args.session.now in
    let all = c.in_ok-consoles.consoles in
    let kept = c.in_ok-consoles-2.consoles in
    let is = c.in_ok-consoles-2.ensures.kept in
    let board = c.in_ok-consoles-2.board in
    let new = at_ok c.new-board.result board
    (λ b. b ≡ record { consoles = vt.calls.ports; limit = MOST_ENTRIES; entries = [] })
    c.in_ok-consoles-2.ensures.made c.new-board.ensures in
    record {
      board = board_first vt board c.requires new;
      count = ap (λ (v : Vec Console Global). length v.items) is ∙ c.in_ok-consoles.ensures.count;
      consoles = subst (λ b. AreConsolesBefore vt 0 b.entries kept.items) (sym new)
          (subst (λ (v : Vec Console Global). AreConsolesBefore vt 0 [] v.items) (sym is)
          c.in_ok-consoles.ensures.before);
    }
