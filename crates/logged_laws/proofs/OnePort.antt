-- A port that was played to its end with a log beside it: from what is known of its run and its log to that both are
-- the only ones.
use Rattle.std.proofs.Common.{◌≡◌, ◌≤◌, inl, ℕ, ◌+◌, ◌==◌, Bool, true, false, List, [], ◌∷◌, ◌++◌, length, map, take}
use Rattle.std.proofs.Common.{drop, if◌then◌else◌, refl, sym, ap, ◌∙◌, subst, arith, length-drop}
use Rattle.std.specs.Prelude.{sum}
use Rattle.std.proofs.lemmas.Bool.{eqb-true, false≢true}
use Rattle.std.proofs.lemmas.List.{take_all}
use Rattle.tty_calls.specs.declared.journals.PortRun.{PortRun}
use Rattle.tty_calls.specs.Plain.{PlainEntry}
use Rattle.tty_calls.specs.Sessions.{PlainSession, call_at, counts_on}
use Rattle.tty_terminal.specs.Terminals.{Terminal, opening, caller_at}
use Rattle.tty_terminal.specs.Standing.{Standing, standing_in, at_first}
use Rattle.tty_terminal.specs.Runs.{Leads as Run}
use Rattle.tty_terminal.proofs.StandingLaws.{run_stands}
use Rattle.legal_runs.specs.Legal.{flip_on, first_step, steps_in, IsLegal}
use Rattle.legal_runs.specs.Order.{Place, first_place, is_of_consoles}
use Rattle.legal_runs.proofs.Places.{phase_from, leads_phase, leads_place}
use Rattle.order_laws.specs.Growth.{HasShape}
use Rattle.order_laws.proofs.Growing.{place_same}
use Rattle.order_laws.proofs.NextEntry.{KeepsOrder}
use Rattle.order_laws.proofs.OneRun.{comes_to, two_runs}
use Rattle.passed_calls.specs.declared.logs.Logged.{Logged}
use Rattle.passed_calls.specs.Derived.{Passing, BlockPhase, all_calls}
use Rattle.passed_calls.specs.Logs.{logged_on}
use Rattle.order_laws.specs.Passed.{IsPassedBy}
use Rattle.order_laws.specs.Same.{IsSamePort}
use Rattle.order_laws.proofs.Blocks.{of_blocks, same_shape}
use Rattle.order_laws.proofs.Fewer.{few_steps, next_below}
use Rattle.order_laws.proofs.Journeys.{answers_in, next_in}
use Rattle.order_laws.proofs.Together.{Stand}
use Rattle.logged_laws.specs.Steps.{LogSteps, Leads, AreInTurn, AreLogSteps}
use Rattle.logged_laws.proofs.Places.{logged_in, Here, few_logged, none_left, from_zero}
use Rattle.logged_laws.proofs.TwoLogs.{WholeRun, named, Both, LogsAlike, Are, settles, stay_alike}

-- Its run is legal, and keeps the order of one thread; the session that it was played has the calls that were passed,
-- as many as were logged; and its log leads from the first state to its end, with each event in its turn.
pub record IsPlayedOut {S E : Type 0} (k : LogSteps S E) (p : ℕ) (phases : List BlockPhase) (first : S)
    (played : PlainSession) (log : List (Logged E)) (run : PortRun) (t : Terminal) : Type 0 where
  pub mine : ℕ → List Passing
  pub passed : IsPassedBy p phases mine played
  pub few : (c : ℕ) → length (all_calls (mine c)) ≤ logged_in k c (logged_on p log)
  pub legal : IsLegal p played run t
  pub order : KeepsOrder p played run.journal.items run.line.overruns.items
  pub steps : AreLogSteps k p played run.journal.items
  pub end : S
  pub leads : Leads k played run.journal.items first (logged_on p log) end
  pub turns : AreInTurn k played run.journal.items first (logged_on p log)
  pub idle : k.due end ≡ []

module _ {S E : Type 0} (k : LogSteps S E) (p : ℕ) (phases : List BlockPhase) (first : S) (played : PlainSession)
    (log : List (Logged E)) (run : PortRun) (t : Terminal) (begins : k.latest first ≡ 0) (rests : k.due first ≡ [])
    (h : IsPlayedOut k p phases first played log run t) where
  abbrev journal : List PlainEntry
  journal = run.journal.items

  abbrev opens : Terminal
  opens = opening (sum (counts_on p played)) (flip_on p played)

  pub whole_run : WholeRun k p played journal t h.end
  whole_run = record {
    steps = h.steps;
    journey = record { leads = h.legal.on_the_way.steps; phases = h.legal.on_the_way.in_phases };
    idle = h.idle;
  }

  logged_few : (c : ℕ) → logged_in k c (logged_on p log) ≤ answers_in c journal
  logged_few c =
      let few = few_logged k p played journal h.steps first h.end (logged_on p log) c h.leads in
      let all : answers_in c (drop (k.latest first) journal) ≡ answers_in c journal =
      ap (λ (n : ℕ). answers_in c (drop n journal)) begins in
      omega (arith, few, all)

  next_last : (c : ℕ) → (caller_at t c).next ≡ answers_in c journal
  next_last c =
      let stands = run_stands (call_at p played) (counts_on p played) (flip_on p played) journal t
      h.legal.on_the_way.steps c in
      let counts = next_in c journal at_first in
      ap (λ (q : Standing). q.next) stands
      ∙ (let e : (standing_in c journal at_first).next ≡ answers_in c journal = omega (arith, counts) in e)

  next_first : (c : ℕ) → (caller_at opens c).next ≡ 0
  next_first c =
      ap (λ (q : Standing). q.next)
      (run_stands (call_at p played) (counts_on p played) (flip_on p played) [] opens refl c)

  -- each answer is logged
  counted : (c : ℕ) → logged_in k c (logged_on p log) ≡ answers_in c journal
  counted c =
      let bound = length (all_calls (h.mine c)) in
      let none = next_first c in
      let below = next_below p played opens t journal c bound h.legal.on_the_way.steps h.legal.on_the_way.in_phases
      (λ j. few_steps p phases h.mine played j c h.passed) (omega (arith, none)) in
      let last = next_last c in
      let passed = h.few c in
      let logged = logged_few c in
      omega (arith, below, last, passed, logged)

  -- a caller has no more steps in the first phases than it is answered
  pub few_answered : (j c : ℕ) → first_step p played j c + steps_in p played j c ≤ answers_in c journal
  few_answered j c =
      (let most = few_steps p phases h.mine played j c h.passed in
      let passed = h.few c in
      let logged = logged_few c in
      omega (arith, most, passed, logged))

  -- the run ends behind the last phase
  pub ends_all : t.phase ≡ length played.phases
  ends_all =
      sym (leads_phase (call_at p played) (counts_on p played) opens journal t h.legal.on_the_way.steps)
      ∙ (let comes = comes_to p played run.line.overruns.items 0 played.phases journal h.legal.account.finished in
      let all = comes.ends 0 in
      let e : phase_from 0 journal ≡ length played.phases = omega (arith, all) in e)

  here_first : Here k played journal h.end first (logged_on p log) 0
  here_first = record {
    leads = h.leads;
    turns = h.turns;
    at_once = inl rests;
    now = omega (arith, begins);
    from = from_zero (logged_on p log);
    within = omega arith;
    counted = counted;
    known = λ d. ap (λ (n : ℕ). answers_in d (drop n journal)) begins;
  }

-- ---- two of them

-- a log of one port names it
all_named_on : {E : Type 0} (p : ℕ) (log : List (Logged E)) → map (named p) (logged_on p log) ≡ logged_on p log
all_named_on p [] = refl
all_named_on {E} p (l ∷ log) = by_test (l.port == p) refl (all_named_on p log)
  where
    by_test : (b : Bool)
        → (l.port == p) ≡ b
        → map (named p) (logged_on p log) ≡ logged_on p log
        → map (named p) (if b then l ∷ logged_on p log else logged_on p log)
        ≡ (if b then l ∷ logged_on p log else logged_on p log)
    by_test false is rest = rest
    by_test true is rest =
        (let port : p ≡ l.port = sym (eqb-true l.port p is) in
        λ i. record { port = port i; at = l.at; event = l.event } ∷ rest i)

none_dropped : (n : ℕ) (es : List PlainEntry) → [] ≡ drop n es → length es ≤ n
none_dropped n es is =
    (let none : 0 ≡ length (drop n es) = ap (λ (xs : List PlainEntry). length xs) is in
    let rest = length-drop n es in
    omega (arith, none, rest))

module _ {S E : Type 0} (k : LogSteps S E) (p : ℕ) (phases : List BlockPhase) (first : S) (D D' : PlainSession)
    (log other : List (Logged E)) (run again : PortRun) (t u : Terminal) (begins : k.latest first ≡ 0)
    (rests : k.due first ≡ []) (consoles : is_of_consoles D' ≡ is_of_consoles D) (flip : flip_on p D' ≡ flip_on p D)
    (h : IsPlayedOut k p phases first D log run t) (h' : IsPlayedOut k p phases first D' other again u) where
  abbrev J : List PlainEntry
  J = run.journal.items

  abbrev J' : List PlainEntry
  J' = again.journal.items

  abbrev L : List (Logged E)
  L = logged_on p log

  abbrev L' : List (Logged E)
  L' = logged_on p other

  abbrev pub w : WholeRun k p D J t h.end
  w = whole_run k p phases first D log run t begins rests h

  abbrev pub w' : WholeRun k p D' J' u h'.end
  w' = whole_run k p phases first D' other again u begins rests h'

  pub shape : HasShape p D D'
  shape = same_shape p phases D D' consoles flip (of_blocks p phases h.mine D h.passed)
      (of_blocks p phases h'.mine D' h'.passed)

  module _ (alike : LogsAlike k p first D D' J J' t u h.end h'.end L L' w w') where
    abbrev AreHere : Place → List PlainEntry → List PlainEntry → Type 0
    AreHere = Are k p first D D' J J' t u h.end h'.end L L' w w' alike

    stand_first : Stand p D D' J J' t u w.journey w'.journey (first_place p D) 0
    stand_first = record {
      place = refl;
      place' = place_same p D D' shape;
      begun = λ c begun.
          (let none = ap (λ (q : Standing). q.begun)
          (run_stands (call_at p D) (counts_on p D) (flip_on p D) [] (first_place p D).terminal refl c) in
          absurd (false≢true (sym none ∙ begun)));
    }

    both_first : Both k p first D D' J J' t u h.end h'.end L L' w w' 0
    both_first = record {
      state = first;
      log = L;
      log' = L';
      here = here_first k p phases first D log run t begins rests h;
      here' = here_first k p phases first D' other again u begins rests h';
      past = [];
      parts = refl;
      parts' = refl;
      before = λ m le. refl;
      before' = λ m le. refl;
    }

    are_first : AreHere (first_place p D) J J'
    are_first = record {
      n = 0;
      stand = stand_first;
      left = refl;
      left' = refl;
      settled = settles k p first D D' J J' t u h.end h'.end L L' w w' alike (first_place p D) 0 stand_first both_first;
    }

    pub one_port : IsSamePort p log other run again t u
    one_port =
        let ran = two_runs p D D' run again t u AreHere shape
        ((of_blocks p phases h'.mine D' h'.passed).ticks ∙ sym (of_blocks p phases h.mine D h.passed).ticks)
        (stay_alike k p first D D' J J' t u h.end h'.end L L' w w' alike) h.legal h'.legal h.order h'.order are_first in
        let a = ran.1.are in
        let le = none_dropped a.n J a.left in
        let le' = none_dropped a.n J' a.left' in
        let b = a.settled.both in
        let none : b.log ≡ [] = none_left k p D J h.steps b.state h.end b.log a.n b.here.leads le a.settled.one_past in
        let none' : b.log' ≡ [] =
        none_left k p D' J' h'.steps b.state h'.end b.log' a.n b.here'.leads le' a.settled.two_past in
        let all : map (named p) L ≡ b.past ++ [] =
        b.parts ∙ ap (λ (l : List (Logged E)). b.past ++ map (named p) l) none in
        let all' : map (named p) L' ≡ b.past ++ [] =
        b.parts' ∙ ap (λ (l : List (Logged E)). b.past ++ map (named p) l) none' in
        let ends : ran.1.at_end.terminal ≡ t =
        ap (λ (s : Place). s.terminal) a.stand.place
        ∙ leads_place (call_at p D) (counts_on p D) (first_place p D) (opening (sum (counts_on p D)) (flip_on p D))
        (take a.n J) t refl
        (subst (λ (es : List PlainEntry).
        Run (call_at p D) (counts_on p D) (opening (sum (counts_on p D)) (flip_on p D)) es t) (sym (take_all a.n J le))
        h.legal.on_the_way.steps) in
        let ends' : ran.1.at_end.terminal ≡ u =
        ap (λ (s : Place). s.terminal) a.stand.place'
        ∙ leads_place (call_at p D') (counts_on p D') (first_place p D')
        (opening (sum (counts_on p D')) (flip_on p D')) (take a.n J') u refl
        (subst (λ (es : List PlainEntry).
        Run (call_at p D') (counts_on p D') (opening (sum (counts_on p D')) (flip_on p D')) es u)
        (sym (take_all a.n J' le')) h'.legal.on_the_way.steps) in
        record {
          run_same = ran.0;
          terminal = sym ends ∙ ends';
          log_same = sym (all_named_on p log) ∙ (all ∙ (sym all' ∙ all_named_on p other));
        }
