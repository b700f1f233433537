-- Two whole runs of a port of processes, each with its log: what they have in common at a place.
use Rattle.std.proofs.Common.{◌≡◌, ◌<◌, ◌⊎◌, inl, inr, ℕ, ◌+◌, false, not, List, [], Option, None}
use Rattle.std.proofs.Common.{Some, length, map, refl, sym, ap, ◌∙◌, subst, arith, get_or}
use Rattle.std.specs.Prelude.{slice_get, is_none}
use Rattle.std.proofs.lemmas.Bool.{false≢true, cases_lt}
use Rattle.std.proofs.lemmas.Option.{slice_get-get_or, same_Some}
use Rattle.tty_calls.specs.declared.journals.Who.TheVariants.{Caller, Session}
use Rattle.tty_calls.specs.Plain.{PlainCall, hung_up, PlainEntry}
use Rattle.tty_calls.specs.Sessions.{PlainSession}
use Rattle.tty_terminal.specs.Terminals.{Terminal, caller_at, has_begun}
use Rattle.legal_runs.specs.Order.{Place, turn}
use Rattle.order_laws.specs.Growth.{HasShape}
use Rattle.order_laws.proofs.Growing.{turn_same}
use Rattle.job_control.specs.Control.{JobState}
use Rattle.job_control.specs.declared.answers.JobAnswer.{JobAnswer}
use Rattle.job_control.specs.declared.processes.Judged.{Judged}
use Rattle.job_control.specs.declared.processes.Judged.TheVariants.{Pass}
use Rattle.passed_calls.specs.Journals.{terminal_at}
use Rattle.passed_calls.specs.Scripts.{plain}
use Rattle.order_laws.proofs.Together.{terminal_of as one_terminal, there as both_there, waits as both_wait}
use Rattle.logged_laws.proofs.Places.{IsPast, Here}
use Rattle.logged_laws.proofs.TwoLogs.{SameHead, Both, Settled, StandAt, AreOfCaller, LogsAlike}
use Rattle.job_text.specs.Events.{JobEvent, own, passed, passed_down, sent, JobLog}
use Rattle.job_text.specs.Sessions.{JobCall, JobsSession}
use Rattle.job_steps.specs.Derived.{IsStepIn}
use Rattle.job_steps.specs.Steps.{Port, JobsState, proc_of, next_of, next_call, judged_call, judged_answer, outcome_of}
use Rattle.job_steps.specs.Steps.{OwnAnswer, after_own, answered_for, after_event, job_signal, raised_at}
use Rattle.job_steps.specs.Order.{turn_at}
use Rattle.job_one.specs.Played.{port_in}
use Rattle.job_laws.proofs.Deciding.{decides, entry_there, who_of}
use Rattle.job_laws.proofs.Heads.{OwnHead, raised_head, own_head}
use Rattle.job_laws.proofs.Steps.{answer_in, job_log}
use Rattle.job_laws.proofs.Whole.{Whole}

-- ---- a call that is answered without the port

own_same : (jobs : JobState) (t u : Terminal) (p c : ℕ) (o : Option JobCall) (answer other : JobAnswer)
    → t ≡ u
    → OwnAnswer jobs t p c o answer
    → OwnAnswer jobs u p c o other
    → answer ≡ other
own_same jobs t u p c None answer other same h k = absurd h
own_same jobs t u p c (Some call) answer other same h k =
    h.1 ∙ (ap (λ (x : Terminal). (outcome_of jobs x p c call).answer) same ∙ sym k.1)

-- a call that goes on to the port is not answered without it
own_or_passed : (jobs : JobState) (t u : Terminal) (p c : ℕ) (o : Option JobCall) (answer : JobAnswer)
    (call : PlainCall)
    → t ≡ u
    → OwnAnswer jobs t p c o answer
    → o ≡ Some (plain call)
    → judged_call jobs u p call ≡ Pass
    → ⊥
own_or_passed jobs t u p c o answer call same h is goes =
    let its : OwnAnswer jobs u p c (Some (plain call)) answer =
    subst (λ (x : Option JobCall). OwnAnswer jobs u p c x answer) is
    (subst (λ (x : Terminal). OwnAnswer jobs x p c o answer) same h) in
    false≢true (sym (ap (λ (j : Judged). not (is_none (judged_answer j))) goes) ∙ its.0)

-- one that comes in the one run, and none in the other
against : (p : ℕ) (session : JobsSession) (played later : PlainSession) (journal other : List PlainEntry)
    (last' : Terminal) (end' u : JobsState) (log log' : JobLog) (n : ℕ)
    → Whole p session later other last' end'
    → terminal_at (port_in session played p journal).journal n ≡ terminal_at (port_in session later p other).journal n
    → turn_at played (port_in session played p journal) n ≡ turn_at later (port_in session later p other) n
    → u.due ≡ []
    → OwnHead played (port_in session played p journal) u log n
    → Here (job_log p session) later other end' u log' n
    → IsPast n log'
    → ⊥
against p session played later journal other last' end' u log log' n w' there turned idle o h past =
    let two : Port = port_in session later p other in
    let c = o.caller in
    let turn : turn_at later two n ≡ Caller c = sym turned ∙ o.turn in
    let lt = entry_there p session later other last' end' w' n c h.within turn in
    let e : PlainEntry = get_or other n nothing in
    let is : slice_get other n ≡ Some e = slice_get-get_or other n nothing lt in
    let who : e.who ≡ Caller c = who_of p session later other last' end' w' n e is ∙ turn in
    let rest : has_begun (caller_at (terminal_at two.journal n) c) ≡ false =
    ap (λ (t : Terminal). has_begun (caller_at t c)) (sym there) ∙ o.owns.between in
    let step : IsStepIn p session (terminal_at two.journal n).phase c (next_of u c) =
    subst (λ (m : ℕ). IsStepIn p session (terminal_at two.journal n).phase c m) o.owns.next
    (subst (λ (t : Terminal). IsStepIn p session t.phase c o.step) there o.owns.in_phase) in
    elim (decides p session later other last' end' w' u log' n c e h idle past is who rest) [
      | inl ends ↦ ends.none_left step
      | inr begins ↦ own_or_passed u.now.jobs (terminal_at (port_in session played p journal).journal n)
          (terminal_at two.journal n) (proc_of two c) c (next_call two u c) o.answer begins.call there o.owns.answers
          begins.next begins.goes
    ]
  where
    nothing : PlainEntry
    nothing = record { who = Session; step = 0; part = 0; generation = 0; event = hung_up [] }

abbrev as_job : PlainCall → JobCall
as_job call = plain call

-- ---- two whole runs

module _ (p : ℕ) (session : JobsSession) (first : JobsState) (played later : PlainSession)
    (journal other : List PlainEntry) (last last' : Terminal) (end end' : JobsState) (whole whole' : JobLog)
    (w : Whole p session played journal last end) (w' : Whole p session later other last' end')
    (shape : HasShape p played later) where
  abbrev one : Port
  one = port_in session played p journal

  abbrev two : Port
  two = port_in session later p other

  abbrev BothAt : ℕ → Type 0
  BothAt n = Both (job_log p session) p first played later journal other last last' end end' whole whole' w.run w'.run n

  abbrev SettledAt : ℕ → Type 0
  SettledAt n =
      Settled (job_log p session) p first played later journal other last last' end end' whole whole' w.run w'.run n

  abbrev StandsAt : Place → ℕ → Type 0
  StandsAt s n =
      StandAt (job_log p session) p first played later journal other last last' end end' whole whole' w.run w'.run s n

  there : (s : Place) (n : ℕ) → StandsAt s n → terminal_at one.journal n ≡ terminal_at two.journal n
  there s n h = both_there p played later journal other last last' w.run.journey w'.run.journey s n h

  turned : (s : Place) (n : ℕ) → StandsAt s n → turn_at played one n ≡ turn_at later two n
  turned s n h =
      ap (λ (x : Place). turn p played x) (sym h.place)
      ∙ (turn_same p played later s shape
      (both_wait p played later journal other last last' w.run.journey w'.run.journey s n h)
      ∙ ap (λ (x : Place). turn p later x) h.place')

  same_after : (u : JobsState) (n : ℕ) (event : JobEvent)
      → terminal_at one.journal n ≡ terminal_at two.journal n
      → after_event one u n event ≡ after_event two u n event
  same_after u n (own c step answer) same = λ i.
      answered_for (after_own (same i) (proc_of one c) c u n (next_call one u c)) c
  same_after u n (passed c step answer) same = refl
  same_after u n (passed_down c handle) same = refl
  same_after u n (sent signal target) same = refl

  raised_both : (s : Place) (n : ℕ) (b : BothAt n)
      → StandsAt s n
      → b.state.due ≡ []
      → b.state.signals < length (raised_at one.journal n)
      → SameHead (job_log p session) n b.log b.log'
  raised_both s n b stand idle few =
      let u = b.state in
      let at = there s n stand in
      let same : length (raised_at one.journal n) ≡ length (raised_at two.journal n) =
      ap (λ (t : Terminal). length (map job_signal t.tally.signals.items)) at in
      let h = raised_head p session played journal end u n idle b.log w.sent b.here few in
      let h' = raised_head p session later other end' u n idle b.log' w'.sent b.here' (omega (arith, few, same)) in
      let signal : h.signal ≡ h'.signal = same_Some h.signal h'.signal
      (sym h.raised
      ∙ (ap (λ (t : Terminal). slice_get (map job_signal t.tally.signals.items) u.signals) at ∙ h'.raised)) in
      let target : h.target ≡ h'.target = h.goes_to ∙ sym h'.goes_to in
      record {
        head = h.head;
        head' = h'.head;
        rest = h.rest;
        rest' = h'.rest;
        is = h.is;
        is' = h'.is;
        at_place = h.at_place;
        at_place' = h'.at_place;
        same = h.event_is ∙ ((λ i. sent (signal i) (target i)) ∙ sym h'.event_is);
        bare = ap answer_in h.event_is;
      }

  own_both : (s : Place) (n : ℕ) (b : BothAt n)
      → StandsAt s n
      → OwnHead played one b.state b.log n
      → OwnHead later two b.state b.log' n
      → SameHead (job_log p session) n b.log b.log'
  own_both s n b stand h h' =
      let u = b.state in
      let caller : h.caller ≡ h'.caller = same_caller (sym h.turn ∙ (turned s n stand ∙ h'.turn)) in
      let step : h.step ≡ h'.step = h.owns.next ∙ (ap (λ (c : ℕ). next_of u c) caller ∙ sym h'.owns.next) in
      let answers : OwnAnswer u.now.jobs (terminal_at one.journal n) (proc_of one h'.caller) h'.caller
      (next_call one u h'.caller) h.answer =
      subst (λ (c : ℕ).
      OwnAnswer u.now.jobs (terminal_at one.journal n) (proc_of one c) c (next_call one u c) h.answer) caller
      h.owns.answers in
      let answer : h.answer ≡ h'.answer =
      own_same u.now.jobs (terminal_at one.journal n) (terminal_at two.journal n) (proc_of one h'.caller) h'.caller
      (next_call one u h'.caller) h.answer h'.answer (there s n stand) answers h'.owns.answers in
      record {
        head = h.head;
        head' = h'.head;
        rest = h.rest;
        rest' = h'.rest;
        is = h.is;
        is' = h'.is;
        at_place = h.at_place;
        at_place' = h'.at_place;
        same = h.event_is ∙ ((λ i. own (caller i) (step i) (answer i)) ∙ sym h'.event_is);
        bare = ap answer_in h.event_is;
      }
    where
      same_caller : {c d : ℕ} → Caller c ≡ Caller d → c ≡ d
      same_caller e = cc

  heads : (s : Place) (n : ℕ) (b : BothAt n)
      → StandsAt s n
      → b.state.due ≡ []
      → (IsPast n b.log × IsPast n b.log') ⊎ SameHead (job_log p session) n b.log b.log'
  heads s n b stand idle =
      let u = b.state in
      let at = there s n stand in
      let turn = turned s n stand in
      let same : length (raised_at one.journal n) ≡ length (raised_at two.journal n) =
      ap (λ (t : Terminal). length (map job_signal t.tally.signals.items)) at in
      elim (cases_lt u.signals (length (raised_at one.journal n))) [
        | inl few ↦ inr (raised_both s n b stand idle few)
        | inr all ↦ elim (own_head p session played journal end u n idle b.log b.here all) [
          | inl past ↦ elim (own_head p session later other end' u n idle b.log' b.here' (omega (arith, all, same))) [
            | inl past' ↦ inl (past, past')
            | inr h' ↦ absurd (against p session later played other journal last end u b.log' b.log n w (sym at)
                (sym turn) idle h' b.here past)
          ]
          | inr h ↦ elim (own_head p session later other end' u n idle b.log' b.here' (omega (arith, all, same))) [
            | inl past' ↦ absurd (against p session played later journal other last' end' u b.log b.log' n w' at turn
                idle h b.here' past')
            | inr h' ↦ inr (own_both s n b stand h h')
          ]
        ]
      ]

  of_caller : (s : Place) (n c : ℕ) (x : SettledAt n) (e e' : PlainEntry)
      → StandsAt s n
      → slice_get journal n ≡ Some e
      → slice_get other n ≡ Some e'
      → e.who ≡ Caller c
      → e'.who ≡ Caller c
      → x.both.state.due ≡ []
      → has_begun (caller_at s.terminal c) ≡ false
      → AreOfCaller (job_log p session) p first played later journal other last last' end end' whole whole' w.run
      w'.run n c e e'
  of_caller s n c x e e' stand is is' who who' idle begun =
      let b = x.both in
      let at = one_terminal p played later journal other last last' w.run.journey w'.run.journey s n stand in
      let same_at = there s n stand in
      let rest : has_begun (caller_at (terminal_at one.journal n) c) ≡ false =
      subst (λ (t : Terminal). has_begun (caller_at t c) ≡ false) at begun in
      let d = decides p session played journal last end w b.state b.log n c e b.here idle x.one_past is who rest in
      let d' = decides p session later other last' end' w' b.state b.log' n c e' b.here' idle x.two_past is' who'
      (subst (λ (t : Terminal). has_begun (caller_at t c) ≡ false) same_at rest) in
      elim d [
        | inl ends ↦ elim d' [
          | inl ends' ↦ inl (ends.event, ends'.event)
          | inr begins' ↦ absurd (ends.none_left
              (subst (λ (t : Terminal). IsStepIn p session t.phase c (next_of b.state c)) (sym same_at)
              begins'.in_phase))
        ]
        | inr begins ↦ elim d' [
          | inl ends' ↦ absurd (ends'.none_left
              (subst (λ (t : Terminal). IsStepIn p session t.phase c (next_of b.state c)) same_at begins.in_phase))
          | inr begins' ↦
              let same : begins.call ≡ begins'.call = same_plain begins.call begins'.call
              (same_Some (as_job begins.call) (as_job begins'.call) (sym begins.next ∙ begins'.next)) in
              inr (record {
                of_call = begins.of_call;
                of_call' = begins'.of_call;
                same = begins.asked ∙ (ap (λ (x : PlainCall). Some x) same ∙ sym begins'.asked);
              })
        ]
      ]
    where
      same_plain : (x y : PlainCall) → as_job x ≡ as_job y → x ≡ y
      same_plain x y e = cc

  pub logs_alike : LogsAlike (job_log p session) p first played later journal other last last' end end' whole whole'
      w.run w'.run
  logs_alike = record {
    after_bare = λ u n event bare same. same_after u n event same;
    after_answer = λ u n event was now. same_after u (n + 1) event now;
    heads = λ s n b stand idle. heads s n b stand idle;
    same_who = λ s n x e e' stand is is'.
        who_of p session played journal last end w n e is
        ∙ (turned s n stand ∙ sym (who_of p session later other last' end' w' n e' is'));
    of_caller = λ s n c x e e' stand is is' who who' idle begun.
        of_caller s n c x e e' stand is is' who who' idle begun;
  }
