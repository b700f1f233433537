-- Runs that were read and judged.
use Rattle.std.proofs.Common.{◌≡◌, ◌≢◌, ◌⊎◌, ℕ, zero, suc, List, [], ◌∷◌, Option, None}
use Rattle.std.proofs.Common.{Some, inl, inr, refl, sym, ap, subst, ◌∙◌, map, length}
use Rattle.std.specs.Prelude.{slice_get}
use Rattle.tty_base.specs.Outside.{Rose}
use Rattle.tty_calls.specs.declared.journals.PortRun.{PortRun}
use Rattle.tty_calls.specs.Sessions.{PlainSession}
use Rattle.session_text.specs.declared.faults.BadLine.{BadLine}
use Rattle.check_text.specs.Grammar.{Spells as SpellsRuns}
use Rattle.check_text.specs.Reading.{refusal as refusal_of_runs}
use Rattle.check_text.specs.Runs.{PlainRun, run_of}
use Rattle.check_text.proofs.Spelled.{spelled_once, spelled_fault}
use Rattle.legal_runs.specs.Legal.{IsFinished, AreSeen, IsOnTheWay, IsLegalOn, flip_on, script_on}
use Rattle.legal_runs.specs.Ports.{AreLegal}
use Rattle.journal_check.specs.declared.verdicts.Verdict.{Verdict}
use Rattle.journal_check.specs.declared.verdicts.Verdict.TheVariants.{Legal}
use Rattle.journal_check.proofs.VerdictLemmas.{one_verdict}
use Rattle.uart_line.specs.Received.{received_list, lost_count}
use Rattle.uart_line.specs.Offered.{kept_list, AreShown}
use Rattle.tty_base.specs.Lines.{arrival_count}
use Rattle.tty_terminal.specs.Runs.{chars_of}
use Rattle.tty_one.specs.declared.words.Command.TheVariants.{Check}
use Rattle.tty_one.specs.declared.works.Ending.{Ending}
use Rattle.tty_one.specs.declared.works.Ending.TheVariants.{Done, BadSession, BadWords, ReadFault, TooLong, NotLegal}
use Rattle.tty_one.specs.Endings.{status_of, IsOfSource, IsShort}
use Rattle.tty_one.specs.Reported.{Returned, nothing, IsAllOf}
use Rattle.tty_one.specs.Outcome.{IsJudged, IsRefused, CompletesCheck}
use Rattle.tty_one.specs.Works.{IsJudgedText, IsWork}
use Rattle.tty_one.proofs.Refused.{line_from}

-- ---- what a run is legal by

-- two runs that are the same as plain data are legal together
legal_as : (p : ℕ) (session : PlainSession) (one other : PortRun)
    → run_of one ≡ run_of other
    → IsLegalOn p session one
    → IsLegalOn p session other
legal_as p session one other e h = (
  h.0,
  record {
    on_the_way = subst (λ (r : PlainRun). IsOnTheWay p session r.journal h.0) e h.1.on_the_way;
    account = record {
      finished = subst (λ (r : PlainRun). IsFinished p session r.overruns r.journal) e h.1.account.finished;
      chars = subst (λ (r : PlainRun). chars_of r.journal ≡ kept_list (received_list (script_on p session)) r.overruns)
          e h.1.account.chars;
      shown = subst (λ (r : PlainRun). AreShown (flip_on p session) 0 0 r.overruns) e h.1.account.shown;
      seen = subst (λ (r : PlainRun). AreSeen p session r.journal r.overruns) e h.1.account.seen;
      arrived = subst (λ (r : PlainRun). r.arrived ≡ arrival_count (script_on p session)) e h.1.account.arrived;
      fifo_lost = subst (λ (r : PlainRun). r.lost ≡ lost_count (script_on p session)) e h.1.account.fifo_lost;
      sent = subst (λ (r : PlainRun). r.sent ≡ length (kept_list (received_list (script_on p session)) r.overruns))
          e h.1.account.sent;
    };
  },
)

-- the run that stands where its like stands in another list
record HasLike (runs : List PortRun) (p : ℕ) (run : PortRun) : Type 0 where
  like : PortRun
  at : slice_get runs p ≡ Some like
  same : run_of like ≡ run_of run

some_same : (a b : PortRun) → Some a ≡ Some b → a ≡ b
some_same a b h = cc

heads : (a b : PlainRun) (as' bs : List PlainRun) → a ∷ as' ≡ b ∷ bs → (a ≡ b) × (as' ≡ bs)
heads a b as' bs h = (cc, cc)

like_at : (ones others : List PortRun) (p : ℕ) (run : PortRun)
    → map run_of ones ≡ map run_of others
    → slice_get others p ≡ Some run
    → HasLike ones p run
like_at [] [] p run e is = absurd (cc)
like_at [] (b ∷ bs) p run e is = absurd (cc)
like_at (a ∷ as') [] p run e is = absurd (cc)
like_at (a ∷ as') (b ∷ bs) zero run e is =
    let parts = heads (run_of a) (run_of b) (map run_of as') (map run_of bs) e in
    record { like = a; at = refl; same = parts.0 ∙ ap run_of (some_same b run is) }
like_at (a ∷ as') (b ∷ bs) (suc p) run e is =
    let parts = heads (run_of a) (run_of b) (map run_of as') (map run_of bs) e in
    let later = like_at as' bs p run parts.1 is in
    record { like = later.like; at = later.at; same = later.same }

all_legal_as : (session : PlainSession) (ones others : List PortRun)
    → map run_of ones ≡ map run_of others
    → AreLegal session ones
    → AreLegal session others
all_legal_as session ones others e h = record {
  each = λ p run is.
      let found = like_at ones others p run e is in
      legal_as p session found.like run found.same (h.each p found.like found.at);
}

-- ---- the work on a text with journals

judged_from : (left : Option (List ℕ)) (text : List ℕ) (verdict : Verdict)
    → IsAllOf left text
    → IsJudged (Some text) verdict
    → IsJudged left verdict
judged_from left text verdict whole h =
    record {
      read = h.read;
      session = h.session;
      runs = h.runs;
      whole = subst (IsAllOf left) (sym h.whole) whole;
      spelled = h.spelled;
      fits = h.fits;
    }

-- the text is all that the source had left
pub judged_works : (faults now : ℕ) (left rest : Option (List ℕ)) (text : List ℕ) (e : Ending)
    → IsAllOf left text
    → IsShort left rest
    → IsJudgedText text e
    → IsWork Check left e nothing × IsOfSource e faults now left rest
judged_works faults now left rest text (Done report) whole short h =
    (record { judged = judged_from left text Legal whole h.judged; no_runs = refl; told = h.told }, short)
judged_works faults now left rest text (BadSession line) whole short h =
    ((refl, line_from refusal_of_runs left text line.items whole h), short)
judged_works faults now left rest text BadWords whole short h = absurd h
judged_works faults now left rest text ReadFault whole short h = absurd h
judged_works faults now left rest text TooLong whole short h = absurd h
judged_works faults now left rest text (NotLegal line) whole short h = (
  (
    refl,
    record {
      verdict = h.verdict;
      told =
          record { judged = judged_from left text h.verdict whole h.told.judged; no_runs = refl; told = h.told.told };
      illegal = h.illegal;
    },
  ),
  short,
)

-- ---- how each text is told

pub spelled_in : (bytes : List ℕ) (verdict : Verdict) (h : IsJudged (Some bytes) verdict)
    → SpellsRuns bytes h.session (map run_of h.runs)
spelled_in bytes verdict h = subst (λ (text : List ℕ). SpellsRuns text h.session (map run_of h.runs)) h.whole h.spelled

refused_in : (bytes : List ℕ) (bad : BadLine)
    → IsRefused refusal_of_runs (Some bytes) bad
    → refusal_of_runs bytes ≡ Some bad
refused_in bytes bad h = subst (λ (text : List ℕ). refusal_of_runs text ≡ Some bad) h.whole h.refused

-- a text that spells runs is not refused
not_both : (bytes : List ℕ) (session : PlainSession) (runs : List PlainRun) (bad : BadLine)
    → SpellsRuns bytes session runs
    → refusal_of_runs bytes ≡ Some bad
    → ⊥
not_both bytes session runs bad spells refused = none_some bad (sym (spelled_fault bytes session runs spells) ∙ refused)
  where
    none_some : (b : BadLine) → None ≡ Some b → ⊥
    none_some b h = cc

-- whatever runs the text spells, they are legal together
pub legal_alike : (bytes : List ℕ) (one other : PlainSession) (runs others : List PortRun)
    → SpellsRuns bytes one (map run_of runs)
    → SpellsRuns bytes other (map run_of others)
    → AreLegal one runs
    → AreLegal other others
legal_alike bytes one other runs others spells spelled h =
    let same = spelled_once bytes one other (map run_of runs) (map run_of others) spells spelled in
    subst (λ (s : PlainSession). AreLegal s others) same.0 (all_legal_as one runs others same.1 h)

-- a verdict other than legal fits no legal runs
none_illegal : (bytes : List ℕ) (session : PlainSession) (runs : List PortRun) (verdict : Verdict)
    → verdict ≢ Legal
    → IsJudged (Some bytes) verdict
    → SpellsRuns bytes session (map run_of runs)
    → AreLegal session runs
    → ⊥
none_illegal bytes session runs verdict illegal h spells legal =
    illegal (one_verdict h.session h.runs verdict Legal h.fits
    (legal_alike bytes session h.session runs h.runs spells (spelled_in bytes verdict h) legal))

pub completes_check : (bytes : List ℕ) (faults faults' : ℕ) (rest : Option (List ℕ)) (back : Returned) (e : Ending)
    (status : ℕ)
    → (status ≡ status_of e) ⊎ (status ≡ 4)
    → IsOfSource e faults faults' (Some bytes) rest
    → IsWork Check (Some bytes) e back
    → (IsOfSource TooLong faults faults' (Some bytes) rest → ⊥)
    → (Rose faults faults' → ⊥)
    → CompletesCheck bytes status
completes_check bytes faults faults' rest back e status (inr four) of work short sound =
    record {
      legal = λ session found spells legal. inr (inl four);
      illegal = λ session found spells illegal. inr (inl four);
      refused = λ bad wrong. inr (inl four);
    }
completes_check bytes faults faults' rest back (Done report) status (inl is) of work short sound =
    record {
      legal = λ session found spells legal. inl is;
      illegal = λ session found spells illegal. absurd (illegal (legal_alike bytes work.judged.session session
          work.judged.runs found (spelled_in bytes Legal work.judged) spells work.judged.fits));
      refused = λ bad wrong. absurd (not_both bytes work.judged.session (map run_of work.judged.runs) bad
          (spelled_in bytes Legal work.judged) wrong);
    }
completes_check bytes faults faults' rest back (BadSession line) status (inl is) of work short sound =
    let wrong = refused_in bytes work.1.bad work.1.refused in
    record {
      legal = λ session found spells legal. absurd (not_both bytes session (map run_of found) work.1.bad spells wrong);
      illegal = λ session found spells illegal.
          absurd (not_both bytes session (map run_of found) work.1.bad spells wrong);
      refused = λ bad _. inl is;
    }
completes_check bytes faults faults' rest back BadWords status (inl is) of work short sound = absurd of
completes_check bytes faults faults' rest back ReadFault status (inl is) of work short sound = absurd (sound of.0)
completes_check bytes faults faults' rest back TooLong status (inl is) of work short sound = absurd (short of)
completes_check bytes faults faults' rest back (NotLegal line) status (inl is) of work short sound =
    record {
      legal = λ session found spells legal.
          absurd (none_illegal bytes session found work.1.verdict work.1.illegal work.1.told.judged spells legal);
      illegal = λ session found spells illegal. inl is;
      refused = λ bad wrong. absurd (not_both bytes work.1.told.judged.session (map run_of work.1.told.judged.runs) bad
          (spelled_in bytes work.1.verdict work.1.told.judged) wrong);
    }
