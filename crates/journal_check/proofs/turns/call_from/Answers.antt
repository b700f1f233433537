use Rattle.std.proofs.Common.{◌≡◌, ◌+◌, ℕ, map, slice_get, sym, ◌∙◌, subst, arith}
use Rattle.std.proofs.lemmas.List.{length-map}
use Rattle.tty_calls.specs.Plain.{call_of}
use Rattle.tty_calls.specs.Sessions.{script_of}
use Rattle.journal_check.specs.Scripts.{calls_from}
use Rattle.journal_check.proofs.TurnLemmas.{walks_into, walks_past, walks_by, walks_out}
use Rattle.journal_check.proofs.turns.call_from.Goals as goal
use Rattle.journal_check.proofs.turns.call_from.Goals.{then-is_under+else-left-len, else-is_under}

pub returns-then-left-len : goal.returns-then-left-len
returns-then-left-len c =
    walks_into c.args.port c.args.scripts.now c.loop-at.at c.index-scripts-at.result c.args.name.now c.loop-at.left
    (call_of c.at.result) _
    c.loop-at-test.true c.index-scripts-at.is (sym c.is_under.ensures ∙ c.if-is_under.true)
    c.at.ensures c.loop-at.invariant

pub loop-at-preserved : goal.loop-at-preserved
loop-at-preserved c =
    elim c.if-is_under.branch [
      | then-is_under+else-left-len w ↦
          walks_past c.args.port c.args.scripts.now c.loop-at.at c.index-scripts-at.result
          c.args.name.now c.loop-at.left c.if-is_under.left _
          c.loop-at-test.true c.index-scripts-at.is (sym c.is_under.ensures ∙ w.if-is_under.true)
          (omega (arith, w.left-is, w.len.ensures, w.len-left.ensures, w.if-left-len.false)) c.loop-at.invariant
      | else-is_under w ↦
          subst (λ (n : ℕ).
          slice_get (calls_from c.args.port (map script_of c.args.scripts.now) (c.loop-at.at + 1) c.args.name.now) n
          ≡ slice_get (calls_from c.args.port (map script_of c.args.scripts.now) c.args.from c.args.name.now)
          c.args.place)
          (sym w.left-is)
          (walks_by c.args.port c.args.scripts.now c.loop-at.at
          c.index-scripts-at.result c.args.name.now c.loop-at.left _
          c.loop-at-test.true c.index-scripts-at.is (sym c.is_under.ensures ∙ w.if-is_under.false) c.loop-at.invariant)
    ]

pub unreachable-requires : goal.unreachable-requires
unreachable-requires c =
    walks_out c.args.port (map script_of c.args.scripts.now) c.loop-at.at
    c.args.from c.args.name.now c.loop-at.left c.args.place
    (omega (arith, c.loop-at-test.false, length-map c.args.scripts.now script_of)) c.requires c.loop-at.invariant
