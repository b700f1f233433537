-- The desk goes along with the line of a phase.
use Rattle.std.proofs.Common.{◌≡◌, ◌≤◌, ℕ, Bool, true, false, List, [], ◌∷◌, ◌++◌, IsTrue, if◌then◌else◌}
use Rattle.std.proofs.Common.{length, drop, refl, sym, ap, ◌∙◌, subst, arith, append-nil, length-drop}
use Rattle.std.specs.Prelude.{All, Result, Ok, Err, IfErr, OnOk}
use Rattle.std.proofs.lemmas.Bool.{false≢true}
use Rattle.std.proofs.lemmas.List.Elements.{All-head}
use Rattle.tty_base.specs.declared.characters.Flagged.{Flagged}
use Rattle.tty_base.specs.declared.counters.Signal.{Signal}
use Rattle.word_ring.specs.Ends.{PutterState, TakerState}
use Rattle.tty_calls.specs.declared.answers.Denied.{Denied}
use Rattle.tty_calls.specs.declared.answers.Denied.TheVariants.{NoMemory, Full}
use Rattle.tty_calls.specs.declared.journals.Who.TheVariants.{Line}
use Rattle.tty_calls.specs.Plain.{PlainEvent, answered, parted, waited, flushed, ticked, line_ended}
use Rattle.tty_calls.specs.Plain.{clock_ended, caller_ended, phase_ended, hung_up, PlainEntry, is_caller}
use Rattle.tty_terminal.specs.Terminals.{Terminal, caller_at, has_begun}
use Rattle.tty_terminal.specs.Standing.{Standing, standing_of, standing_in, standing_after}
use Rattle.tty_terminal.specs.Standing.{standing_after_own, standing_after_other, at_first}
use Rattle.tty_terminal.specs.Runs.{KnowsMore, is_flush}
use Rattle.tty_terminal.proofs.StandingLaws.{run_stands}
use Rattle.port_core.specs.Flips.{after_meeting}
use Rattle.port_core.specs.Phases.{EndsLine}
use Rattle.port_core.specs.Ports.{PortValue, IsPort, call_in, phase_entry}
use Rattle.one_thread.specs.Acts.{FlushesOnce}
use Rattle.one_thread.specs.Following.{FollowsBy, GoesAlong, StopsAlong as StopsFollowing, FollowsLine, met_with}
use Rattle.play_base.specs.Roles.{Scene}
use Rattle.job_text.specs.Sessions.{JobsSession}
use Rattle.job_steps.specs.Derived.{passings_on}
use Rattle.order_laws.specs.Later.{ComesBy}
use Rattle.order_laws.specs.Begun.{HadBegun}
use Rattle.job_one.specs.Desk.{signals_of}
use Rattle.job_one.specs.Events.{DeskState, all_sent_on, new_sent_on, HasRaised, StandsAt}
use Rattle.job_one.specs.Along.{IsUpToDate, SendsNew, SendsAlone, SendsAlong, StopsAlong, StopsBy}
use Rattle.job_one.proofs.DeskEvents.{desk_stays}
use Rattle.job_one.proofs.Raised.{entry_still}
use Rattle.job_one.proofs.Sending.{all_stand, sent_up, same_desk, all_pass}

-- ---- callers, where no entry is of one

abbrev pub IsBegunAs : Standing → Standing → Type 0
IsBegunAs q was = (q.begun ≡ was.begun) × (q.next ≡ was.next)

-- an event that begins and ends no call
abbrev pub keeps : PlainEvent → Bool
keeps (answered a dropped) = false
keeps (parted n) = false
keeps waited = false
keeps (flushed chars) = true
keeps ticked = true
keeps (line_ended n) = true
keeps clock_ended = true
keeps caller_ended = true
keeps phase_ended = true
keeps (hung_up dropped) = true

own_kept : (event : PlainEvent) (g : ℕ) (q : Standing) → keeps event ≡ true → IsBegunAs (standing_after_own event g q) q
own_kept (answered a dropped) g q e = absurd (false≢true e)
own_kept (parted n) g q e = absurd (false≢true e)
own_kept waited g q e = absurd (false≢true e)
own_kept (flushed chars) g q e = (refl, refl)
own_kept ticked g q e = (refl, refl)
own_kept (line_ended n) g q e = (refl, refl)
own_kept clock_ended g q e = (refl, refl)
own_kept caller_ended g q e = (refl, refl)
own_kept phase_ended g q e = (refl, refl)
own_kept (hung_up dropped) g q e = (refl, refl)

other_kept : (event : PlainEvent) (q : Standing) → IsBegunAs (standing_after_other event q) q
other_kept (answered a dropped) q = (refl, refl)
other_kept (parted n) q = (refl, refl)
other_kept waited q = (refl, refl)
other_kept (flushed chars) q = (refl, refl)
other_kept ticked q = (refl, refl)
other_kept (line_ended n) q = (refl, refl)
other_kept clock_ended q = (refl, refl)
other_kept caller_ended q = (refl, refl)
other_kept phase_ended q = (refl, refl)
other_kept (hung_up dropped) q = (refl, refl)

flush_keeps : (event : PlainEvent) → is_flush event ≡ true → keeps event ≡ true
flush_keeps (answered a dropped) e = absurd (false≢true e)
flush_keeps (parted n) e = absurd (false≢true e)
flush_keeps waited e = absurd (false≢true e)
flush_keeps (flushed chars) e = refl
flush_keeps ticked e = absurd (false≢true e)
flush_keeps (line_ended n) e = absurd (false≢true e)
flush_keeps clock_ended e = absurd (false≢true e)
flush_keeps caller_ended e = absurd (false≢true e)
flush_keeps phase_ended e = absurd (false≢true e)
flush_keeps (hung_up dropped) e = absurd (false≢true e)

either_kept : (b : Bool) (x y q : Standing) → IsBegunAs x q → IsBegunAs y q → IsBegunAs (if b then x else y) q
either_kept true x y q h k = h
either_kept false x y q h k = k

in_more : (c : ℕ) (es : List PlainEntry) (e : PlainEntry) (q : Standing)
    → standing_in c (es ++ e ∷ []) q ≡ standing_after c e (standing_in c es q)
in_more c [] e q = refl
in_more c (x ∷ es) e q = in_more c es e (standing_after c x q)

-- by one entry of no call
pub kept_by : (v w : PortValue) (e : PlainEntry)
    → IsPort v
    → IsPort w
    → w.journal ≡ v.journal ++ e ∷ []
    → keeps e.event ≡ true
    → (c : ℕ)
    → IsBegunAs (standing_of (caller_at w.terminal c)) (standing_of (caller_at v.terminal c))
kept_by v w e port later added keeps_it c =
    let was : standing_of (caller_at v.terminal c) ≡ standing_in c v.journal at_first =
    run_stands (call_in v.kept) v.counts v.flip.capacity v.journal v.terminal port.run c in
    let is : standing_of (caller_at w.terminal c) ≡ standing_after c e (standing_of (caller_at v.terminal c)) =
    run_stands (call_in w.kept) w.counts w.flip.capacity w.journal w.terminal later.run c
    ∙ (ap (λ (es : List PlainEntry). standing_in c es at_first) added
    ∙ (in_more c v.journal e at_first ∙ ap (standing_after c e) (sym was))) in
    let q : Standing = standing_of (caller_at v.terminal c) in
    subst (λ (s : Standing). IsBegunAs s q) (sym is)
    (either_kept (is_caller e.who c) (standing_after_own e.event e.generation q) (standing_after_other e.event q) q
    (own_kept e.event e.generation q keeps_it) (other_kept e.event q))

pub had_by : (v w : PortValue) (e : PlainEntry)
    → IsPort v
    → IsPort w
    → w.journal ≡ v.journal ++ e ∷ []
    → keeps e.event ≡ true
    → (c : ℕ)
    → HadBegun v w c
had_by v w e port later added keeps_it c begun =
    let kept = kept_by v w e port later added keeps_it c in
    (sym kept.0 ∙ begun, kept.1)

-- where the callers are as before
had_same : (v w : PortValue) → w.terminal ≡ v.terminal → (c : ℕ) → HadBegun v w c
had_same v w same c begun = (
  ap (λ (t : Terminal). has_begun (caller_at t c)) (sym same) ∙ begun,
  ap (λ (t : Terminal). (caller_at t c).next) same,
)

pub same_kept : (v w : PortValue) → w.kept ≡ v.kept → KnowsMore (call_in v.kept) (call_in w.kept)
same_kept v w same = subst (λ ks. KnowsMore (call_in v.kept) (call_in ks)) (sym same) (λ c step call is. is)

-- ---- a flush at most, and the signals behind it

pub stands_on : (first : Scene) (session : JobsSession) (v w : PortValue) (part : List PlainEntry) (d : DeskState)
    → ComesBy v w part
    → ((c : ℕ) → HadBegun v w c)
    → StandsAt first session v d
    → StandsAt first session w d
stands_on first session v w part d by had h =
    record { number = h.number; desk = desk_stays first session d.log v w part d.jobs d.next d.sent by had h.desk }

no_new : (w : PortValue) (d : DeskState) → length (signals_of w.terminal) ≤ d.sent → new_sent_on w d ≡ d
no_new w d few = ap (λ (ss : List Signal). all_sent_on w ss d)
    (empty (drop d.sent (signals_of w.terminal)) (omega (arith, few, length-drop d.sent (signals_of w.terminal))))
  where
    empty : (ss : List Signal) → length ss ≡ 0 → ss ≡ []
    empty [] e = refl
    empty (s ∷ ss) e = absurd (omega (arith, e))

alone_new : (w : PortValue) (d : DeskState) → SendsAlone d (new_sent_on w d)
alone_new w d = record { same = same_desk w d; passes = λ session. all_pass session w d }

pub alone_none : (d : DeskState) → SendsAlone d d
alone_none d =
    record { same = record { number = refl; callers = refl; jobs = refl; next = refl }; passes = λ session. refl }

flush_stands : (v w : PortValue) (part : List PlainEntry)
    → IsPort v
    → IsPort w
    → (h : FlushesOnce v w)
    → h.part ≡ part
    → length part ≤ 1
    → (first : Scene) (session : JobsSession) (d : DeskState)
    → StandsAt first session v d
    → StandsAt first session w d
flush_stands v w [] port later h is few first session d stands =
    stands_on first session v w [] d
    (record {
      added = h.added ∙ ap (λ (es : List PlainEntry). v.journal ++ es) is;
      grows = same_kept v w h.kept;
      counts = h.counts;
      capacity = h.capacity;
    })
    (had_same v w (h.stays is)) stands
flush_stands v w (e ∷ []) port later h is few first session d stands =
    let added : w.journal ≡ v.journal ++ e ∷ [] = h.added ∙ ap (λ (es : List PlainEntry). v.journal ++ es) is in
    let one : IsTrue (is_flush e.event) =
    All-head (λ (x : PlainEntry). IsTrue (is_flush x.event)) e []
    (subst (λ (es : List PlainEntry). All (λ x. IsTrue (is_flush x.event)) es) is h.flushes) in
    stands_on first session v w (e ∷ []) d
    (record { added = added; grows = same_kept v w h.kept; counts = h.counts; capacity = h.capacity })
    (had_by v w e port later added (flush_keeps e.event one)) stands
flush_stands v w (e ∷ x ∷ part) port later h is few first session d stands = absurd (omega (arith, few))

-- no call was begun
flush_begun : (v w : PortValue) (part : List PlainEntry)
    → IsPort v
    → IsPort w
    → (h : FlushesOnce v w)
    → h.part ≡ part
    → length part ≤ 1
    → (c : ℕ)
    → HadBegun v w c
flush_begun v w [] port later h is few c = had_same v w (h.stays is) c
flush_begun v w (e ∷ []) port later h is few c =
    let added : w.journal ≡ v.journal ++ e ∷ [] = h.added ∙ ap (λ (es : List PlainEntry). v.journal ++ es) is in
    let one : IsTrue (is_flush e.event) =
    All-head (λ (x : PlainEntry). IsTrue (is_flush x.event)) e []
    (subst (λ (es : List PlainEntry). All (λ x. IsTrue (is_flush x.event)) es) is h.flushes) in
    had_by v w e port later added (flush_keeps e.event one) c
flush_begun v w (e ∷ x ∷ part) port later h is few c = absurd (omega (arith, few))

flush_dates : (v w : PortValue) (part : List PlainEntry)
    → IsPort v
    → IsPort w
    → (h : FlushesOnce v w)
    → h.part ≡ part
    → length part ≤ 1
    → (first : Scene) (session : JobsSession) (d : DeskState)
    → IsUpToDate first session v d
    → IsUpToDate first session w (new_sent_on w d)
flush_dates v w [] port later h is few first session d up =
    let none : length (signals_of w.terminal) ≤ d.sent =
    subst (λ (t : Terminal). length (signals_of t) ≤ d.sent) (sym (h.stays is)) up.all_sent in
    subst (λ (x : DeskState). IsUpToDate first session w x) (sym (no_new w d none))
    (record { stands = flush_stands v w [] port later h is few first session d up.stands; all_sent = none })
flush_dates v w (e ∷ []) port later h is few first session d up =
    let added : w.journal ≡ v.journal ++ e ∷ [] = h.added ∙ ap (λ (es : List PlainEntry). v.journal ++ es) is in
    let raised : HasRaised w d.sent = record {
      old = v;
      entry = e;
      was = port;
      by = record { added = added; grows = same_kept v w h.kept; counts = h.counts; capacity = h.capacity };
      fresh = up.all_sent;
    } in
    record {
      stands = all_stand first session w d later raised
          (flush_stands v w (e ∷ []) port later h is few first session d up.stands);
      all_sent = sent_up w d;
    }
flush_dates v w (e ∷ x ∷ part) port later h is few first session d up = absurd (omega (arith, few))

pub flush_sends : (v w : PortValue) (d x : DeskState)
    → IsPort v
    → IsPort w
    → FlushesOnce v w
    → x ≡ new_sent_on w d
    → SendsAlong v w d x
flush_sends v w d x port later h is =
    subst (λ (y : DeskState). SendsAlong v w d y) (sym is)
    (record {
      alone = alone_new w d;
      kept = h.kept;
      begun = flush_begun v w h.part port later h refl h.few;
      each = λ first session up. flush_dates v w h.part port later h refl h.few first session d up;
    })

pub flush_stops : (v w : PortValue) (d : DeskState) → IsPort v → IsPort w → FlushesOnce v w → StopsAlong v w d d
flush_stops v w d port later h =
    record {
      alone = alone_none d;
      kept = h.kept;
      begun = flush_begun v w h.part port later h refl h.few;
      each = λ first session up. flush_stands v w h.part port later h refl h.few first session d up.stands;
    }

-- ---- one after the other

alone_more : (d x y : DeskState) → SendsAlone d x → SendsAlone x y → SendsAlone d y
alone_more d x y h k = record {
  same = record {
    number = k.same.number ∙ h.same.number;
    callers = k.same.callers ∙ h.same.callers;
    jobs = k.same.jobs ∙ h.same.jobs;
    next = k.same.next ∙ h.same.next;
  };
  passes = λ session.
      subst (λ (p : ℕ). passings_on session y.log p ≡ passings_on session x.log p) h.same.number (k.passes session)
      ∙ h.passes session;
}

had_more : (u v w : PortValue) (c : ℕ) → HadBegun u v c → HadBegun v w c → HadBegun u w c
had_more u v w c h k is = (let mid = k is in let first = h mid.0 in (first.0, mid.1 ∙ first.1))

pub sends_more : (u v w : PortValue) (d x y : DeskState) → SendsAlong u v d x → SendsAlong v w x y → SendsAlong u w d y
sends_more u v w d x y h k = record {
  alone = alone_more d x y h.alone k.alone;
  kept = k.kept ∙ h.kept;
  begun = λ c. had_more u v w c (h.begun c) (k.begun c);
  each = λ first session up. k.each first session (h.each first session up);
}

pub stops_more : (denied : Denied) (u v w : PortValue) (d x y : DeskState)
    → SendsAlong u v d x
    → StopsBy denied v w x y
    → StopsBy denied u w d y
stops_more NoMemory u v w d x y h k = tt
stops_more Full u v w d x y h k = record {
  alone = alone_more d x y h.alone k.alone;
  kept = k.kept ∙ h.kept;
  begun = λ c. had_more u v w c (h.begun c) (k.begun c);
  each = λ first session up. k.each first session (h.each first session up);
}

-- ---- the ends of the line

-- both ends of the flip buffer meet
pub meeting_sends : (v w : PortValue) (putter : PutterState Flagged) (d : DeskState)
    → w ≡ record v { flip = after_meeting v.flip putter }
    → SendsAlong v w d d
meeting_sends v w putter d is =
    let met : PortValue = record v { flip = after_meeting v.flip putter } in
    let by : ComesBy v met [] =
    record { added = sym (append-nil v.journal); grows = λ c step call at. at; counts = refl; capacity = refl } in
    subst (λ (x : PortValue). SendsAlong v x d d) (sym is)
    (record {
      alone = alone_none d;
      kept = refl;
      begun = had_same v met refl;
      each = λ first session up. record {
        stands = stands_on first session v met [] d by (had_same v met refl) up.stands;
        all_sent = up.all_sent;
      };
    })

-- the line's end is noted in the journal
pub line_end_sends : (v w : PortValue) (putter now : PutterState Flagged) (d : DeskState)
    → IsPort v
    → IsPort w
    → EndsLine v w putter now
    → SendsAlong v w d d
line_end_sends v w putter now d port later ends =
    let e : PlainEntry = phase_entry v Line (line_ended (length putter.sent)) in
    let appended = ends.appends.appended in
    let added : w.journal ≡ v.journal ++ e ∷ [] = ap (λ (x : PortValue). x.journal) appended in
    let still : signals_of w.terminal ≡ signals_of v.terminal =
    ap (λ (x : PortValue). signals_of x.terminal) appended ∙ entry_still (call_in v.kept) v.terminal e refl in
    let by : ComesBy v w (e ∷ []) = record {
      added = added;
      grows = same_kept v w (ap (λ (x : PortValue). x.kept) appended);
      counts = ap (λ (x : PortValue). x.counts) appended;
      capacity = ap (λ (f : TakerState Flagged). f.capacity) ends.flip;
    } in
    record {
      alone = alone_none d;
      kept = ap (λ (x : PortValue). x.kept) appended;
      begun = had_by v w e port later added refl;
      each = λ first session up. record {
        stands = stands_on first session v w (e ∷ []) d by (had_by v w e port later added refl) up.stands;
        all_sent = omega (arith, up.all_sent, ap (λ (ss : List Signal). length ss) still);
      };
    }

-- ---- the line

sends_none : (v w : PortValue) (d x : DeskState) → w ≡ v → x ≡ d → SendsAlong v w d x
sends_none v w d x port desk =
    subst (λ (y : PortValue). SendsAlong v y d x) (sym port)
    (subst (λ (z : DeskState). SendsAlong v v d z) (sym desk)
    (record { alone = alone_none d; kept = refl; begun = λ c is. (is, refl); each = λ first session up. up }))

sends_by : (between : List (PortValue × DeskState)) (v w : PortValue) (d x : DeskState)
    → FollowsBy SendsNew between v w d x
    → SendsAlong v w d x
sends_by [] v w d x h = sends_none v w d x h.0 h.1
sends_by (mid ∷ between) v w d x h =
    sends_more v mid.0 w d mid.1 x (flush_sends v mid.0 d mid.1 h.0.was h.0.is h.0.flushes h.0.done)
    (sends_by between mid.0 w mid.1 x h.1)

sends_met : (v w : PortValue) (putter : PutterState Flagged) (d x : DeskState)
    → GoesAlong SendsNew (met_with v putter) w d x
    → SendsAlong v w d x
sends_met v w putter d x h =
    sends_more v (met_with v putter) w d d x (meeting_sends v (met_with v putter) putter d refl)
    (sends_by h.between (met_with v putter) w d x h.by)

pub line_sends : (v w : PortValue) (putter : PutterState Flagged) (d x : DeskState) (result : Result ℕ Denied)
    → FollowsLine SendsNew v w putter d x result
    → OnOk result (SendsAlong v w d x)
line_sends v w putter d x (Ok next) h =
    sends_more v h.mid w d x x (sends_met v h.mid putter d x h.goes)
    (line_end_sends h.mid w h.put h.now x h.was h.is h.ends)
line_sends v w putter d x (Err denied) h = tt

stops_met : (denied : Denied) (v w : PortValue) (putter : PutterState Flagged) (d x : DeskState)
    → StopsFollowing denied SendsNew (met_with v putter) w d x
    → StopsBy denied v w d x
stops_met NoMemory v w putter d x h = tt
stops_met Full v w putter d x h =
    stops_more Full v h.mid w d x x (sends_met v h.mid putter d x h.goes) (flush_stops h.mid w x h.was h.is h.flushes)

pub line_stops : (v w : PortValue) (putter : PutterState Flagged) (d x : DeskState) (result : Result ℕ Denied)
    → FollowsLine SendsNew v w putter d x result
    → IfErr result (λ denied. StopsBy denied v w d x)
line_stops v w putter d x (Ok next) h = tt
line_stops v w putter d x (Err denied) h = stops_met denied v w putter d x h
