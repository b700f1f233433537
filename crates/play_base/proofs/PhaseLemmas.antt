-- One more phase was played.
use Rattle.std.proofs.Common.{◌≡◌, ◌⊎◌, inl, inr, ℕ, ◌+◌, ◌<◌, ◌≤◌, List, [], ◌∷◌, ◌++◌, Option, length}
use Rattle.std.proofs.Common.{drop, refl, sym, ◌∙◌, ap, subst, arith, append-nil, append_assoc, add-zero}
use Rattle.std.specs.Prelude.{All}
use Rattle.std.proofs.lemmas.List.{drop_more}
use Rattle.std.proofs.lemmas.List.Elements.{All-head, All-tail, All-append, All-weaker}
use Rattle.std.proofs.lemmas.Grind.{flat_map-append}
use Rattle.tty_base.specs.declared.lines.Overrun.{Overrun}
use Rattle.tty_calls.specs.Plain.{PlainCall, PlainEvent, PlainEntry, line_ended, phase_ended}
use Rattle.tty_calls.specs.Sessions.{PlainPhase, PlainSession, ticks_on, call_at, counts_on}
use Rattle.tty_terminal.specs.Terminals.{Terminal}
use Rattle.tty_terminal.specs.Steps.{after}
use Rattle.tty_terminal.specs.Runs.{Leads, chars_of}
use Rattle.legal_runs.specs.Legal.{phase_at, received_before, session_events, session_events_in, line_ends_in}
use Rattle.legal_runs.specs.Legal.{before_phase, before_line_end, IsOverrunOfPhase, IsSeen, AreSeen, IsPhasePart}
use Rattle.legal_runs.specs.Legal.{IsFinishedFrom, IsFinished}
use Rattle.legal_runs.specs.Short.{tick_count_in}
use Rattle.legal_runs.specs.Phases.{BeginsPhase, CompletesPhase}
use Rattle.legal_runs.proofs.PhaseLemmas.{phase-after}
use Rattle.legal_runs.proofs.MarkLemmas.{phase_part}
use Rattle.legal_runs.specs.Order.{SeesAll, AllSeeAll}
use Rattle.play_base.specs.Roles.{Scene}
use Rattle.play_base.specs.Putting.{SeesIn}
use Rattle.play_base.specs.Phases.{phase_count, IsUpTo, HasFewTicks, SeesWithin, HavePlayed, HaveSeenAll}
use Rattle.play_base.specs.Phases.{HavePlayedInOrder}
use Rattle.play_base.proofs.JournalLemmas.{up_before, up_line, up_count, up_ticks, up_more, line_part, more_chars}
use Rattle.play_base.proofs.JournalLemmas.{ticks_between, other_ticks, ticks_both, end_adds_none, phase_is}
use Rattle.play_base.proofs.ReceivedLemmas.{received_within, received_rises, one_phase_of}
use Rattle.legal_runs.proofs.EventLemmas.{none_before}

-- ---- the numbers of ticks

same_or_not : (j k : ℕ) → (k ≡ j) ⊎ (k ≡ j → ⊥)
same_or_not j k = grind arith

pub few_ticks : (s : Scene) (k : ℕ) (journal part : List PlainEntry) (t u : Terminal)
    → IsUpTo k journal
    → HasFewTicks s journal
    → Leads (call_at s.port s.session) (counts_on s.port s.session) t part u
    → session_events_in part ≡ []
    → u.tick ≤ t.tick + ticks_on s.port (phase_at s.session k)
    → HasFewTicks s (journal ++ part)
few_ticks s k journal part t u up few leads inside most j =
    let both : tick_count_in j 0 (journal ++ part) ≡ tick_count_in j 0 journal + tick_count_in j k part =
    ticks_both j 0 journal part
    ∙ ap (λ n. tick_count_in j 0 journal + tick_count_in j n part)
    (add-zero (phase_count journal) ∙ up_count k journal up) in
    elim (same_or_not j k) [
      | inl same ↦
          let none = up_ticks j k journal up (omega (arith, same)) in
          let between = ticks_between (call_at s.port s.session) (counts_on s.port s.session) k t part u leads inside in
          let here : tick_count_in j k part ≡ tick_count_in k k part = ap (λ n. tick_count_in n k part) (sym same) in
          let bound : ticks_on s.port (phase_at s.session k) ≡ ticks_on s.port (phase_at s.session j) =
          ap (λ n. ticks_on s.port (phase_at s.session n)) same in
          omega (arith, both, none, between, here, bound, most)
      | inr other ↦
          let none = other_ticks j k part inside other in
          let before = few j in
          omega (arith, both, none, before)
    ]

pub few_ticks_end : (s : Scene) (journal part : List PlainEntry) (last : PlainEntry)
    → last.event ≡ phase_ended
    → HasFewTicks s (journal ++ part)
    → HasFewTicks s (journal ++ (part ++ last ∷ []))
few_ticks_end s journal part last ends few j =
    let same : tick_count_in j 0 (journal ++ (part ++ last ∷ [])) ≡ tick_count_in j 0 (journal ++ part) =
    ap (tick_count_in j 0) (sym (append_assoc journal part (last ∷ [])))
    ∙ end_adds_none j 0 (journal ++ part) last ends in
    let before = few j in
    omega (arith, same, before)

-- ---- overruns that are seen

-- after the journal up to phase k come the entries before the end of the line, that end, and what is later
seen_one : (s : Scene) (k : ℕ) (journal front : List PlainEntry) (last : PlainEntry) (n : ℕ) (later : List PlainEntry)
    (o : Overrun)
    → IsUpTo k journal
    → line_ends_in front ≡ []
    → last.event ≡ line_ended n
    → SeesWithin s k (length (chars_of journal)) (length (chars_of (journal ++ front))) o
    → IsSeen s.port s.session (journal ++ (front ++ last ∷ later)) o
seen_one s k journal front last n later o up none ends sees =
    let of_phase : IsOverrunOfPhase s.port s.session k o = (sees.from, sees.below) in
    let whole = received_within s.port s.session (k + 1) in
    record {
      at_character = omega (arith, sees.below, whole);
      from_before = λ j here. from_is j (one_phase_of s.port s.session j k o of_phase here);
      by_line_end = λ j here. by_is j (one_phase_of s.port s.session j k o of_phase here);
    }
  where
    from_is : (j : ℕ) → j ≡ k → length (chars_of (before_phase j (journal ++ (front ++ last ∷ later)))) ≤ o.seen
    from_is j same =
        let begins : before_phase j (journal ++ (front ++ last ∷ later)) ≡ journal =
        ap (λ i. before_phase i (journal ++ (front ++ last ∷ later))) (same ∙ sym (add-zero k))
        ∙ up_before k 0 journal (front ++ last ∷ later) up
        ∙ ap (λ (x : List PlainEntry). journal ++ x) (none_before (front ++ last ∷ later)) ∙ append-nil journal in
        let count = ap (λ (x : List PlainEntry). length (chars_of x)) begins in
        let seen = sees.sees_least in
        omega (arith, count, seen)

    by_is : (j : ℕ) → j ≡ k → o.seen ≤ length (chars_of (before_line_end j (journal ++ (front ++ last ∷ later))))
    by_is j same =
        let by_line : before_line_end j (journal ++ (front ++ last ∷ later)) ≡ journal ++ front =
        ap (λ i. before_line_end i (journal ++ (front ++ last ∷ later))) (same ∙ sym (add-zero k))
        ∙ up_line k 0 journal (front ++ last ∷ later) up
        ∙ ap (λ (x : List PlainEntry). journal ++ x) (line_part front last n later none ends) in
        let count = ap (λ (x : List PlainEntry). length (chars_of x)) by_line in
        let seen = sees.sees_most in
        omega (arith, count, seen)

sees_all_one : (s : Scene) (k : ℕ) (journal front : List PlainEntry) (last : PlainEntry) (n : ℕ)
    (later : List PlainEntry) (o : Overrun)
    → IsUpTo k journal
    → line_ends_in front ≡ []
    → last.event ≡ line_ended n
    → SeesIn s k (length (chars_of (journal ++ front))) o
    → SeesAll s.port s.session (journal ++ (front ++ last ∷ later)) o
sees_all_one s k journal front last n later o up none ends sees j from below =
    let same : j ≡ k = one_phase_of s.port s.session j k o (sees.from, sees.below) (from, below) in
    let by_line : before_line_end j (journal ++ (front ++ last ∷ later)) ≡ journal ++ front =
    ap (λ i. before_line_end i (journal ++ (front ++ last ∷ later))) (same ∙ sym (add-zero k))
    ∙ up_line k 0 journal (front ++ last ∷ later) up
    ∙ ap (λ (x : List PlainEntry). journal ++ x) (line_part front last n later none ends) in
    sees.sees ∙ ap (λ (x : List PlainEntry). length (chars_of x)) (sym by_line)

seen_more : (p : ℕ) (session : PlainSession) (journal : List PlainEntry) (overruns added : List Overrun)
    → AreSeen p session journal overruns
    → AreSeen p session journal added
    → AreSeen p session journal (overruns ++ added)
seen_more p session journal [] added h k = k
seen_more p session journal (o ∷ os) added h k = (h.0, seen_more p session journal os added h.1 k)

see_all_more : (p : ℕ) (session : PlainSession) (journal : List PlainEntry) (overruns added : List Overrun)
    → AllSeeAll p session journal overruns
    → AllSeeAll p session journal added
    → AllSeeAll p session journal (overruns ++ added)
see_all_more p session journal [] added h k = k
see_all_more p session journal (o ∷ os) added h k = (h.0, see_all_more p session journal os added h.1 k)

seen_added : (s : Scene) (k : ℕ) (journal front : List PlainEntry) (last : PlainEntry) (n : ℕ) (later : List PlainEntry)
    (added : List Overrun)
    → IsUpTo k journal
    → line_ends_in front ≡ []
    → last.event ≡ line_ended n
    → All (SeesWithin s k (length (chars_of journal)) (length (chars_of (journal ++ front)))) added
    → AreSeen s.port s.session (journal ++ (front ++ last ∷ later)) added
seen_added s k journal front last n later [] up none ends sees = tt
seen_added s k journal front last n later (o ∷ os) up none ends sees =
    let P : Overrun → Type 0 = SeesWithin s k (length (chars_of journal)) (length (chars_of (journal ++ front))) in (
      seen_one s k journal front last n later o up none ends (All-head P o os sees),
      seen_added s k journal front last n later os up none ends (All-tail P o os sees),
    )

see_all_added : (s : Scene) (k : ℕ) (journal front : List PlainEntry) (last : PlainEntry) (n : ℕ)
    (later : List PlainEntry) (added : List Overrun)
    → IsUpTo k journal
    → line_ends_in front ≡ []
    → last.event ≡ line_ended n
    → All (SeesIn s k (length (chars_of (journal ++ front)))) added
    → AllSeeAll s.port s.session (journal ++ (front ++ last ∷ later)) added
see_all_added s k journal front last n later [] up none ends sees = tt
see_all_added s k journal front last n later (o ∷ os) up none ends sees =
    let P : Overrun → Type 0 = SeesIn s k (length (chars_of (journal ++ front))) in (
      sees_all_one s k journal front last n later o up none ends (All-head P o os sees),
      see_all_added s k journal front last n later os up none ends (All-tail P o os sees),
    )

-- who has seen all that was taken has seen what was taken before the phase
pub all_see_within : (s : Scene) (k : ℕ) (journal front : List PlainEntry) (added : List Overrun)
    → All (SeesIn s k (length (chars_of (journal ++ front)))) added
    → All (SeesWithin s k (length (chars_of journal)) (length (chars_of (journal ++ front)))) added
all_see_within s k journal front added sees =
    All-weaker (SeesIn s k (length (chars_of (journal ++ front))))
    (SeesWithin s k (length (chars_of journal)) (length (chars_of (journal ++ front))))
    (λ o h.
    let more = more_chars journal front in
    let seen = h.sees in
    record { from = h.from; below = h.below; sees_least = omega (arith, more, seen); sees_most = omega (arith, seen) })
    added sees

-- ---- the terminal in a phase

pub phase_stays : (calls : ℕ → ℕ → Option PlainCall) (counts : List ℕ) (t : Terminal) (part : List PlainEntry)
    (u : Terminal)
    → Leads calls counts t part u
    → u.phase ≡ phase_count part + t.phase
phase_stays calls counts t [] u h = ap (λ (v : Terminal). v.phase) h ∙ omega arith
phase_stays calls counts t (e ∷ es) u h =
    let rest = phase_stays calls counts (after calls t e) es u h.1 in
    let one = phase-after calls counts t e h.0 in
    let counted = phase_is e.event t.phase in
    omega (arith, rest, one, counted)

-- where the entries of phase k led, from its beginning
pub record PlaysPart (s : Scene) (k : ℕ) (t : Terminal) (front : List PlainEntry) (line_end : PlainEntry) (sent : ℕ)
    (back : List PlainEntry) (last : PlainEntry) (u : Terminal) : Type 0 where
  pub within : k < length s.session.phases
  pub begins : BeginsPhase t
  pub inside : session_events_in (front ++ line_end ∷ back) ≡ []
  pub none : line_ends_in front ≡ []
  pub line : line_end.event ≡ line_ended sent
  pub leads : Leads (call_at s.port s.session) (counts_on s.port s.session) t (front ++ line_end ∷ back) u
  pub ends : last.event ≡ phase_ended
  pub tick : u.tick ≡ t.tick + ticks_on s.port (phase_at s.session k)

pub line_inside : (front : List PlainEntry) (line_end : PlainEntry) (n : ℕ) (back : List PlainEntry)
    → session_events_in front ≡ []
    → line_end.event ≡ line_ended n
    → session_events_in back ≡ []
    → session_events_in (front ++ line_end ∷ back) ≡ []
line_inside front line_end n back inside ends later =
    flat_map-append (λ (e : PlainEntry). session_events e.event) front (line_end ∷ back)
    ∙ ap (λ (x : List PlainEvent). x ++ (session_events line_end.event ++ session_events_in back)) inside
    ∙ ap (λ (event : PlainEvent). session_events event ++ session_events_in back) ends ∙ later

-- the journal after the phase, and what follows it
pub after_whole : (journal front : List PlainEntry) (line_end : PlainEntry) (back : List PlainEntry) (last : PlainEntry)
    (rest : List PlainEntry)
    → (journal ++ ((front ++ line_end ∷ back) ++ last ∷ [])) ++ rest
    ≡ journal ++ (front ++ line_end ∷ (back ++ last ∷ rest))
after_whole journal front line_end back last rest =
    append_assoc journal ((front ++ line_end ∷ back) ++ last ∷ []) rest
    ∙ ap (λ (x : List PlainEntry). journal ++ x)
    (append_assoc (front ++ line_end ∷ back) (last ∷ []) rest ∙ append_assoc front (line_end ∷ back) (last ∷ rest))

one_finished : (s : Scene) (overruns : List Overrun) (k : ℕ) (part : List PlainEntry) (last : PlainEntry)
    (rest : List PlainEntry)
    → k < length s.session.phases
    → IsPhasePart s.port s.session overruns k part
    → last.event ≡ phase_ended
    → IsFinishedFrom s.port s.session overruns (k + 1) (drop (k + 1) s.session.phases) rest
    → IsFinishedFrom s.port s.session overruns k (drop k s.session.phases) (part ++ last ∷ rest)
one_finished s overruns k part last rest within is_part ends goes_on =
    subst (λ (phases : List PlainPhase). IsFinishedFrom s.port s.session overruns k phases (part ++ last ∷ rest))
    (sym (drop_more s.session.phases k (record { lines = []; ticks = []; callers = [] }) within))
    (record { part = part; last = last; rest = rest; parts = refl; is_part = is_part; ends = ends; goes_on = goes_on })

-- one more phase was played, whatever overruns come later
pub played_more : (s : Scene) (k : ℕ) (t : Terminal) (journal front : List PlainEntry) (line_end : PlainEntry)
    (sent : ℕ) (back : List PlainEntry) (last : PlainEntry) (u : Terminal) (overruns added : List Overrun)
    → HavePlayed s k journal overruns
    → PlaysPart s k t front line_end sent back last u
    → ((more : List Overrun)
    → All (λ o. received_before s.port s.session (k + 1) ≤ o.at) more
    → CompletesPhase s.port s.session ((overruns ++ added) ++ more) k t u)
    → All (SeesWithin s k (length (chars_of journal)) (length (chars_of (journal ++ front)))) added
    → HavePlayed s (k + 1) (journal ++ ((front ++ line_end ∷ back) ++ last ∷ [])) (overruns ++ added)
played_more s k t journal front line_end sent back last u overruns added before plays completes sees =
    let whole : List PlainEntry = front ++ line_end ∷ back in
    record {
      up_to = up_more k journal whole last before.up_to plays.inside plays.ends;
      ticks = few_ticks_end s journal whole last plays.ends
          (few_ticks s k journal whole t u before.up_to before.ticks plays.leads plays.inside
          (omega (arith, plays.tick)));
      finished = λ more rest later goes_on.
          let final : List Overrun = (overruns ++ added) ++ more in
          let is_part : IsPhasePart s.port s.session final k whole =
          phase_part s.port s.session final k t whole u plays.leads plays.inside plays.begins (completes more later) in
          let from : IsFinishedFrom s.port s.session final k (drop k s.session.phases) (whole ++ last ∷ rest) =
          one_finished s final k whole last rest plays.within is_part plays.ends goes_on in
          subst (λ (x : List PlainEntry). IsFinished s.port s.session final x)
          (sym (append_assoc journal (whole ++ last ∷ []) rest
          ∙ ap (λ (x : List PlainEntry). journal ++ x) (append_assoc whole (last ∷ []) rest)))
          (subst (λ (os : List Overrun). IsFinished s.port s.session os (journal ++ (whole ++ last ∷ rest)))
          (sym (append_assoc overruns added more))
          (before.finished (added ++ more) (whole ++ last ∷ rest) (all_later more later)
          (subst
          (λ (os : List Overrun). IsFinishedFrom s.port s.session os k (drop k s.session.phases) (whole ++ last ∷ rest))
          (append_assoc overruns added more) from)));
      seen = λ rest.
          subst (λ (x : List PlainEntry). AreSeen s.port s.session x (overruns ++ added))
          (sym (after_whole journal front line_end back last rest))
          (seen_more s.port s.session (journal ++ (front ++ line_end ∷ (back ++ last ∷ rest))) overruns added
          (before.seen (front ++ line_end ∷ (back ++ last ∷ rest)))
          (seen_added s k journal front line_end sent (back ++ last ∷ rest)
          added before.up_to plays.none plays.line sees));
    }
  where
    all_later : (more : List Overrun)
        → All (λ o. received_before s.port s.session (k + 1) ≤ o.at) more
        → All (λ o. received_before s.port s.session k ≤ o.at) (added ++ more)
    all_later more later =
        let rises = received_rises s.port s.session k (k + 1) (omega arith) in
        All-append (λ o. received_before s.port s.session k ≤ o.at) added more
        (All-weaker (SeesWithin s k (length (chars_of journal)) (length (chars_of (journal ++ front))))
        (λ o. received_before s.port s.session k ≤ o.at) (λ o h. h.from) added sees)
        (All-weaker (λ o. received_before s.port s.session (k + 1) ≤ o.at)
        (λ o. received_before s.port s.session k ≤ o.at) (λ o h. omega (arith, rises, h)) more later)

-- and each of its overruns has seen all
pub seen_all_more : (s : Scene) (k : ℕ) (t : Terminal) (journal front : List PlainEntry) (line_end : PlainEntry)
    (sent : ℕ) (back : List PlainEntry) (last : PlainEntry) (u : Terminal) (overruns added : List Overrun)
    → HavePlayedInOrder s k journal overruns
    → PlaysPart s k t front line_end sent back last u
    → All (SeesIn s k (length (chars_of (journal ++ front)))) added
    → HaveSeenAll s (journal ++ ((front ++ line_end ∷ back) ++ last ∷ [])) (overruns ++ added)
seen_all_more s k t journal front line_end sent back last u overruns added before plays sees rest =
    subst (λ (x : List PlainEntry). AllSeeAll s.port s.session x (overruns ++ added))
    (sym (after_whole journal front line_end back last rest))
    (see_all_more s.port s.session (journal ++ (front ++ line_end ∷ (back ++ last ∷ rest))) overruns added
    (before.see_all (front ++ line_end ∷ (back ++ last ∷ rest)))
    (see_all_added s k journal front line_end sent (back ++ last ∷ rest)
    added before.played.up_to plays.none plays.line sees))
