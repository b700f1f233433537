use Rattle.std.proofs.Common.{◌≡◌, ℕ, List, true, not, Option, Some, drop, sym, ◌∙◌, ap, subst}
use Rattle.handle_table.specs.declared.HandleState.{HandleState}
use Rattle.tty_terminal.specs.Outcomes.{Outcome, may_write}
use Rattle.tty_terminal.specs.Transfers.{is_outlived, write_outcome, writing_outcome}
use Rattle.tty_terminal.specs.Meeting.{Meets, left_before_rule}
use Rattle.tty_terminal.proofs.RoomLaws.{through}
use Rattle.tty_terminal.proofs.terminals.Terminal.write.Goals as goal

-- nothing refuses the write: it goes by the discipline
goes_on : (c : goal.After-write_rest)
    → write_outcome c.args.self.now.terminal c.args.state.now c.in-Some.handle.nonblock
    c.rest_of.result.now c.args.self.now.terminal.disc
    ≡ writing_outcome c.args.self.now.terminal c.args.state.now c.args.bytes.now c.args.handle
goes_on c =
    let t = c.args.self.now.terminal in
    let s = c.args.state.now in
    let handle = c.in-Some.handle in
    let bytes = c.args.bytes.now in
    let may : may_write handle.access ≡ true = sym c.may_write.ensures ∙ c.if-not-may_write.false in
    let now = sym c.is_outlived.ensures ∙ c.if-is_outlived.false in
    let plain : writing_outcome t s bytes (Some handle)
    ≡ write_outcome t s handle.nonblock (drop s.taken bytes) t.disc =
    through (not (may_write handle.access)) _ _ (ap not may)
    ∙ (through (not handle.live) _ _ c.if-not-handle.false ∙ through (is_outlived t s) _ _ now) in
    ap (λ (rest : List ℕ). write_outcome t s handle.nonblock rest t.disc) c.rest_of.ensures
    ∙ (sym plain ∙ ap (λ (h : Option HandleState). writing_outcome t s bytes h) (sym c.in-Some.is))

pub returns-clause-met : goal.returns-clause-met
returns-clause-met c = subst (λ (o : Outcome). Meets o c.write_rest.result) (goes_on c) c.write_rest.ensures.met

pub returns-clause-left : goal.returns-clause-left
returns-clause-left c =
    c.write_rest.ensures.left ∙ ap (λ (o : Outcome). left_before_rule o c.args.self.now.terminal) (goes_on c)
