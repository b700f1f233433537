-- A port before it was shared, and after its sharing ended: the part of the journal between them.
use Rattle.std.specs.Prelude.{sum}
use Rattle.std.proofs.Common.{◌≡◌, ℕ, ◌+◌, List, [], ◌∷◌, ◌++◌, true, Option, None, refl, sym, ◌∙◌, ap, subst, eq-eqb}
use Rattle.tty_calls.specs.declared.journals.Who.{Who}
use Rattle.tty_calls.specs.declared.journals.Who.TheVariants.{Caller, Flusher, Line, Clock, Session}
use Rattle.tty_calls.specs.Plain.{PlainCall, PlainEvent, PlainEntry}
use Rattle.tty_calls.specs.Sessions.{PlainSession, call_at, counts_on}
use Rattle.tty_terminal.specs.Terminals.{Terminal, opening}
use Rattle.tty_terminal.specs.Steps.{after}
use Rattle.tty_terminal.specs.Runs.{Leads, IsRun, is_of_call, AgreesAt, AgreesOn, phase_after}
use Rattle.tty_terminal.proofs.Agreeing.{leads_agrees}
use Rattle.legal_runs.specs.Legal.{session_events_in, AreInPhases}
use Rattle.port_core.specs.Ports.{PortValue, IsPort, call_in}
use Rattle.port_cell.specs.declared.kept.Stamped.{Stamped}
use Rattle.port_cell.specs.Entries.{Keeps}
use Rattle.play_base.specs.Roles.{Scene, PlainRole}
use Rattle.legal_runs.proofs.Places.{phase_from, leads_phase}
use Rattle.tty_port.specs.Inside.{Name, EntryWithCall}
use Rattle.tty_port.specs.Histories.{call_by, history, history_in, name_in}
use Rattle.tty_port.specs.Seen.{entries_in}
use Rattle.tty_port.specs.Placed.{ArePlaced, HaveCalls, IsHistoryOf}
use Rattle.tty_port.proofs.Histories.{entries_append}
use Rattle.tty_port.proofs.Keeping.{placed_right}
use Rattle.many_threads.specs.Parts as parts
use Rattle.many_threads.specs.PhaseStarts.{IsOfSession, IsCast}
use Rattle.many_threads.proofs.AccountLemmas.{IsOfPhase, AllInRoles, all_of_phase}
use Rattle.many_threads.proofs.AccountLemmas.{calls_of_phase, none_of_session, phases_of_phase}
use Rattle.legal_runs.proofs.Truths.{if_true}

-- ---- calls

calls_same : (f g : ℕ → ℕ → Option PlainCall) (who : Who) (step : ℕ) (event : PlainEvent)
    → is_of_call event ≡ true
    → AgreesAt f g who step event
    → call_by g who step ≡ call_by f who step
calls_same f g (Caller c) step event of agrees = agrees c of (eq-eqb c c refl)
calls_same f g Flusher step event of agrees = refl
calls_same f g Line step event of agrees = refl
calls_same f g Clock step event of agrees = refl
calls_same f g Session step event of agrees = refl

pub agreeing_have : (m : ℕ) (f g : ℕ → ℕ → Option PlainCall) (es : List PlainEntry) (now : ℕ)
    → AgreesOn f g es
    → HaveCalls g (history m f es now)
agreeing_have m f g [] now h = tt
agreeing_have m f g (e ∷ es) now h = (
  (λ of.
      calls_same f g e.who e.step e.event of h.0 ∙ sym (if_true (is_of_call e.event) (call_by f e.who e.step) None of)),
  agreeing_have m f g es now h.1,
)

have_both : (g : ℕ → ℕ → Option PlainCall) (xs ys : List (Stamped EntryWithCall))
    → HaveCalls g xs
    → HaveCalls g ys
    → HaveCalls g (xs ++ ys)
have_both g [] ys h k = k
have_both g (x ∷ xs) ys h k = (h.0, have_both g xs ys h.1 k)

-- ---- runs

leads_same : (f : ℕ → ℕ → Option PlainCall) (counts : List ℕ) (t : Terminal) (es : List PlainEntry) (u v : Terminal)
    → Leads f counts t es u
    → Leads f counts t es v
    → u ≡ v
leads_same f counts t [] u v h k = h ∙ sym k
leads_same f counts t (e ∷ es) u v h k = leads_same f counts (after f t e) es u v h.1 k.1

pub leads_split : (f : ℕ → ℕ → Option PlainCall) (counts : List ℕ) (t : Terminal) (es fs : List PlainEntry)
    (u : Terminal)
    → Leads f counts t (es ++ fs) u
    → (m : Terminal) × Leads f counts t es m × Leads f counts m fs u
leads_split f counts t [] fs u h = (t, refl, h)
leads_split f counts t (e ∷ es) fs u h =
    let rest = leads_split f counts (after f t e) es fs u h.1 in
    (rest.0, (h.0, rest.1), rest.2)

pub leads_after : (f : ℕ → ℕ → Option PlainCall) (counts : List ℕ) (t : Terminal) (es fs : List PlainEntry)
    (v u : Terminal)
    → Leads f counts t es v
    → Leads f counts t (es ++ fs) u
    → Leads f counts v fs u
leads_after f counts t es fs v u first whole =
    let split = leads_split f counts t es fs u whole in
    subst (λ (m : Terminal). Leads f counts m fs u) (leads_same f counts t es split.0 v split.1 first) split.2

phases_both : (p : ℕ) (session : PlainSession) (k : ℕ) (es fs : List PlainEntry)
    → AreInPhases p session k es
    → AreInPhases p session (phase_from k es) fs
    → AreInPhases p session k (es ++ fs)
phases_both p session k [] fs h g = g
phases_both p session k (e ∷ es) fs h g = (h.0, phases_both p session (phase_after e.event k) es fs h.1 g)

-- ---- the part

-- the part of the journal that was made while the port was shared
pub record IsPartOf (s : Scene) (v w : PortValue) (part : List PlainEntry) : Type 0 where
  pub added : w.journal ≡ v.journal ++ part
  pub leads : Leads (call_at s.port s.session) (counts_on s.port s.session) v.terminal part w.terminal
  pub inside : session_events_in part ≡ []
  pub in_phase : AreInPhases s.port s.session v.terminal.phase part
  pub of_session : IsOfSession s w

module _ (s : Scene) (m : ℕ) (rs : List (Option PlainRole)) (v w : PortValue) (old : IsOfSession s v)
    (port_v : IsPort v) (port_w : IsPort w) (name : name_in m w ≡ name_in m v) (all : m ≡ sum v.counts)
    (was : IsHistoryOf m v (history_in m v)) (now : IsHistoryOf m w (history_in m w))
    (session : Keeps (m + 3) (history_in m v) (history_in m w)) (are : IsCast s v.terminal.phase m rs)
    (story : AllInRoles rs session.0) where
  abbrev pub rest : List (Stamped EntryWithCall)
  rest = session.0

  abbrev pub calls : ℕ → ℕ → Option PlainCall
  calls = call_at s.port s.session

  counts_same : w.counts ≡ v.counts
  counts_same = ap (λ (x : Name). x.counts) name

  capacity_same : w.flip.capacity ≡ v.flip.capacity
  capacity_same = ap (λ (x : Name). x.capacity) name

  placed_rest : ArePlaced m m rest
  placed_rest =
      subst (λ (n : ℕ). ArePlaced m n rest) (ap sum counts_same ∙ sym all)
      (placed_right m (sum w.counts) (history_in m v) rest (subst (ArePlaced m (sum w.counts)) session.1 now.placed))

  of_phase : parts.Each (IsOfPhase s v.terminal.phase) rest
  of_phase = all_of_phase s v.terminal.phase m rs rest are placed_rest story

  journal : w.journal ≡ v.journal ++ entries_in rest
  journal =
      sym now.entries
      ∙ (ap entries_in session.1
      ∙ (entries_append (history_in m v) rest ∙ ap (λ (es : List PlainEntry). es ++ entries_in rest) was.entries))

  pub have : HaveCalls calls (history_in m w)
  have =
      subst (HaveCalls calls) (sym session.1)
      (have_both calls (history_in m v) rest
      (agreeing_have m (call_in v.kept) calls v.journal v.terminal.generation old.calls)
      (calls_of_phase s v.terminal.phase rest of_phase))

  agrees : AgreesOn (call_in w.kept) calls w.journal
  agrees = now.calls calls have

  pub run_v : IsRun calls (counts_on s.port s.session) v.flip.capacity v.journal v.terminal
  run_v =
      subst (λ (cs : List ℕ). IsRun calls cs v.flip.capacity v.journal v.terminal) old.counts
      (leads_agrees (call_in v.kept) calls v.counts (opening (sum v.counts) v.flip.capacity)
      v.journal v.terminal old.calls port_v.run)

  run_w : IsRun calls (counts_on s.port s.session) v.flip.capacity (v.journal ++ entries_in rest) w.terminal
  run_w =
      subst (λ (es : List PlainEntry). IsRun calls (counts_on s.port s.session) v.flip.capacity es w.terminal) journal
      (subst (λ (n : ℕ). IsRun calls (counts_on s.port s.session) n w.journal w.terminal) capacity_same
      (subst (λ (cs : List ℕ). IsRun calls cs w.flip.capacity w.journal w.terminal) (counts_same ∙ old.counts)
      (leads_agrees (call_in w.kept) calls w.counts (opening (sum w.counts) w.flip.capacity)
      w.journal w.terminal agrees port_w.run)))

  none_inside : session_events_in (entries_in rest) ≡ []
  none_inside = none_of_session m m rest placed_rest session.2

  in_phase : AreInPhases s.port s.session v.terminal.phase (entries_in rest)
  in_phase = phases_of_phase s v.terminal.phase m m rest placed_rest session.2 of_phase

  in_phases : AreInPhases s.port s.session 0 w.journal
  in_phases =
      let here : phase_from 0 v.journal ≡ v.terminal.phase =
      leads_phase calls (counts_on s.port s.session) (opening (sum (counts_on s.port s.session)) v.flip.capacity)
      v.journal v.terminal run_v in
      subst (AreInPhases s.port s.session 0) (sym journal)
      (phases_both s.port s.session 0 v.journal (entries_in rest) old.in_phases
      (subst (λ (k : ℕ). AreInPhases s.port s.session k (entries_in rest)) (sym here) in_phase))

  pub part_of : IsPartOf s v w (entries_in rest)
  part_of = record {
    added = journal;
    leads = leads_after calls (counts_on s.port s.session) (opening (sum (counts_on s.port s.session)) v.flip.capacity)
        v.journal (entries_in rest) v.terminal w.terminal run_v run_w;
    inside = none_inside;
    in_phase = in_phase;
    of_session = record {
      counts = counts_same ∙ old.counts;
      capacity = capacity_same ∙ old.capacity;
      limit = ap (λ (x : Name). x.limit) name ∙ old.limit;
      calls = agrees;
      in_phases = in_phases;
    };
  }
