-- The account of a line: what it put, and what its overruns saw.
use Rattle.std.specs.List.{All}
use Rattle.std.specs.List.Sorted.{IsNonDecreasing}
use Rattle.std.proofs.Common.{◌≡◌, ℕ, ◌+◌, ◌≤◌, List, [], ◌++◌, length, get_or, ◌∙◌, ap, subst, arith, length-append}
use Rattle.tty_base.specs.declared.characters.Flagged.{Flagged}
use Rattle.tty_base.specs.declared.lines.LineStep.{LineStep}
use Rattle.tty_base.specs.declared.lines.Overrun.{Overrun}
use Rattle.word_ring.specs.Ends.{PutterState}
use Rattle.uart_line.specs.LineState.{LineState}
use Rattle.uart_line.specs.Received.{received_list, closed_script}
use Rattle.uart_line.specs.Offered.{HandsOver, overrun_list}
use Rattle.uart_line.proofs.OfferedLemmas.{HandsOver-trans}
use Rattle.legal_runs.specs.Legal.{received_before}
use Rattle.port_core.specs.Ports.{PortValue}
use Rattle.play_base.specs.Roles.{Scene}
use Rattle.play_base.specs.Putting.{HasPut, KnowsTaken, SeesFrom}
use Rattle.play_base.specs.Phases.{SeesWithin}
use Rattle.play_base.proofs.Refusals.{All_later, loaded_since, refusals_see, overruns_see_most}
use Rattle.many_threads.specs.Parts.{RunsLine}

pub has_put_runs : (v : PortValue) (putter met : PutterState Flagged) (line played : LineState)
    (before steps : List LineStep)
    → HasPut v putter line before
    → RunsLine steps line played putter met
    → HasPut v met played (before ++ closed_script steps)
has_put_runs v putter met line played before steps h r = record {
  ring = r.ring ∙ h.ring;
  capacity = r.capacity ∙ h.capacity;
  done = r.done before h.done;
  hands_over = HandsOver-trans v.flip.capacity [] (received_list before) (received_list (before ++ closed_script steps))
      [] putter.sent met.sent [] putter.heads met.heads [] line.report.overruns.items
      played.report.overruns.items h.hands_over
      (subst (λ (n : ℕ). HandsOver n (received_list before) (received_list (before ++ closed_script steps)) putter.sent
      met.sent putter.heads met.heads line.report.overruns.items played.report.overruns.items) h.capacity
      (r.hands_over before h.done));
  room = r.room;
}

both_see : (s : Scene) (k low high least most : ℕ) (added : List Overrun)
    → low ≡ received_before s.port s.session k
    → high ≡ received_before s.port s.session (k + 1)
    → All (SeesFrom low high least) added
    → All (λ o. o.seen ≤ most) added
    → All (SeesWithin s k least most) added
both_see s k low high least most added from below f g = λ i d lt.
    let a : SeesFrom low high least (get_or added i d) = f i d lt in
    let b : (get_or added i d).seen ≤ most = g i d lt in
    let first = a.from in
    let last = a.below in
    record { from = omega arith; below = omega arith; sees_least = a.sees; sees_most = b }

-- the overruns of a line, which was played where so many characters were taken, up to so many
pub record HasSeen (s : Scene) (k least most : ℕ) (line played : LineState) : Type 0 where
  pub overruns : List Overrun
  pub more_overruns : played.report.overruns.items ≡ line.report.overruns.items ++ overruns
  pub seen : All (SeesWithin s k least most) overruns

pub overruns_seen : (s : Scene) (k least most : ℕ) (v : PortValue) (putter met : PutterState Flagged)
    (line played : LineState) (before steps : List LineStep)
    → length (received_list before) ≡ received_before s.port s.session k
    → length (received_list (before ++ closed_script steps)) ≡ received_before s.port s.session (k + 1)
    → HasPut v putter line before
    → RunsLine steps line played putter met
    → KnowsTaken least putter.heads
    → IsNonDecreasing putter.heads
    → All (λ h. h ≤ most) met.heads
    → HasSeen s k least most line played
overruns_seen s k least most v putter met line played before steps low high put runs knows rise heads =
    let h = runs.hands_over before put.done in
    let o = h.offers in
    let place = length (received_list before) in
    let added = overrun_list place (length putter.sent) o.answers in
    let loaded : All (λ n. least ≤ n) o.loaded =
    loaded_since least putter.heads o.loaded knows (subst IsNonDecreasing o.loads (runs.rise rise)) in
    let count : place + length o.answers ≡ length (received_list (before ++ closed_script steps)) =
    omega (arith, o.one_each, ap length h.grows, length-append (received_list before) h.list) in
    let from : All (SeesFrom place (place + length o.answers) least) added =
    refusals_see place (place + length o.answers) least (length putter.sent) o.answers o.loaded o.among_loaded loaded
    (omega arith) in
    let whole = has_put_runs v putter met line played before steps put runs in
    let all : All (λ (x : Overrun). x.seen ≤ most) played.report.overruns.items =
    overruns_see_most v.flip.capacity most (received_list (before ++ closed_script steps)) met.sent met.heads
    played.report.overruns.items whole.hands_over heads in
    let upto : All (λ (x : Overrun). x.seen ≤ most) added =
    All_later (λ (x : Overrun). x.seen ≤ most) line.report.overruns.items added
    (subst (All (λ (x : Overrun). x.seen ≤ most)) o.adds_refused all) in
    record {
      overruns = added;
      more_overruns = o.adds_refused;
      seen = both_see s k place (place + length o.answers) least most added low (count ∙ high) from upto;
    }
