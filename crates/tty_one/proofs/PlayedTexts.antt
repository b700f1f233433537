-- What the text of a session, or of one with its journals, comes to where reading did not fail; and the session of a
-- number.
use Rattle.std.proofs.Common.{◌≡◌, ◌⊎◌, ◌+◌, ◌≤◌, drop, length, arith, ℕ, List, Option, None, Some, IfSome, inl, inr}
use Rattle.std.proofs.Common.{sym, subst, ◌∙◌}
use Rattle.tty_base.specs.Sizes.{MOST_TEXT}
use Rattle.tty_base.specs.Outside.{Rose, LeavesRest, TookCount}
use Rattle.tty_calls.specs.declared.journals.PortRun.{PortRun}
use Rattle.tty_calls.specs.Sessions.{PlainSession}
use Rattle.session_text.specs.declared.faults.BadLine.{BadLine}
use Rattle.session_text.specs.Refusals.{refusal}
use Rattle.session_text.specs.Grammar.{Spells}
use Rattle.session_text.proofs.Spelled.{spelled_fault}
use Rattle.tty_one.specs.declared.words.Command.{Command}
use Rattle.tty_one.specs.declared.words.Command.TheVariants.{Run, RunOne, Modem, Jobs, Gen, Check, Vt, VtOne}
use Rattle.tty_one.specs.declared.playing.Telling.{Telling}
use Rattle.tty_one.specs.declared.playing.Telling.TheVariants.{Report}
use Rattle.tty_one.specs.declared.works.Ending.{Ending}
use Rattle.tty_one.specs.declared.works.Ending.TheVariants.{Done, BadSession, BadWords, ReadFault, TooLong, NotLegal}
use Rattle.tty_one.specs.Endings.{Ask, AskCheck, AskToPlay, IsStatusOr, AreOfOne, AreRunOne, AreGen, status_of}
use Rattle.tty_one.specs.Endings.{IsOfSource}
use Rattle.tty_one.specs.Reported.{Returned, IsOrdered, IsInAnyOrder, IsReported}
use Rattle.tty_one.specs.Outcome.{IsPlayedText, IsRefused, IsToldBy, refusal_by, Completes, CompletesCheck}
use Rattle.tty_one.specs.Works.{IsIllegalBy, IsWork, CanEndWith}
use Rattle.tty_one.proofs.Judged.{completes_check}
use Rattle.tty_one.proofs.AskedWords.{not_gen_and_one, not_gen_and_run, not_check_and_gen, not_check_and_one}
use Rattle.tty_one.proofs.AskedWords.{not_check_and_run, not_jobs_and_gen, not_jobs_and_check, not_vt_and_gen}
use Rattle.tty_one.proofs.AskedWords.{not_vt_and_check, not_modem_and_gen, not_modem_and_check, not_modem_and_play}
use Rattle.tty_one.proofs.AskedWords.{not_gen_and_play, not_check_and_play, not_jobs_and_play, not_vt_and_play}

pub none_some : (bad : BadLine) → None ≡ Some bad → ⊥
none_some bad h = cc

spelled_in : (bytes : List ℕ) (EndsBy : PlainSession → Type 0) (h : IsPlayedText (Some bytes) EndsBy)
    → Spells bytes h.session
spelled_in bytes EndsBy h = subst (λ (text : List ℕ). Spells text h.session) h.whole h.spelled

refused_in : (bytes : List ℕ) (bad : BadLine) (h : IsRefused refusal (Some bytes) bad) → refusal bytes ≡ Some bad
refused_in bytes bad h = subst (λ (text : List ℕ). refusal text ≡ Some bad) h.whole h.refused

-- a text that spells a session is not refused
not_both : (bytes : List ℕ) (session : PlainSession) (bad : BadLine)
    → Spells bytes session
    → refusal bytes ≡ Some bad
    → ⊥
not_both bytes session bad spells refused = none_some bad (sym (spelled_fault bytes session spells) ∙ refused)

too_short : (bytes : List ℕ) (rest : Option (List ℕ))
    → LeavesRest bytes rest
    → TookCount 4194305 bytes rest
    → length bytes ≤ MOST_TEXT
    → ⊥
too_short bytes rest h took short =
    let counted : length bytes ≡ length (drop h.0 bytes) + 4194305 =
    subst (λ (o : Option (List ℕ)). TookCount 4194305 bytes o) h.2 took in
    omega (arith, counted, short)

-- of a command that plays a session that it reads
module _ (InOrder : ℕ → PlainSession → PortRun → Type 0) (telling : Telling) where
  spelled_by : (bytes text : List ℕ) (back : Returned)
      (h : IsPlayedText (Some bytes) (λ session. IsReported InOrder telling session back.runs text))
      → Spells bytes h.session
  spelled_by bytes text back h = spelled_in bytes (λ session. IsReported InOrder telling session back.runs text) h

  plays_so : (bytes : List ℕ) (back : Returned) (text : List ℕ) (status : ℕ)
      → status ≡ 0
      → IsPlayedText (Some bytes) (λ session. IsReported InOrder telling session back.runs text)
      → Completes bytes status
  plays_so bytes back text status is h =
      record {
        played = λ session spells. inl is;
        refused = λ bad wrong. absurd (not_both bytes h.session bad (spelled_by bytes text back h) wrong);
      }

refuses_so : (bytes : List ℕ) (bad : BadLine) (status : ℕ)
    → status ≡ 1
    → IsRefused refusal (Some bytes) bad
    → Completes bytes status
refuses_so bytes bad status is h =
    record {
      played = λ session spells. absurd (not_both bytes session bad spells (refused_in bytes bad h));
      refused = λ other wrong. inl is;
    }

-- what a text comes to by how the work on it ends
pub by_ending : (Comes : Type 0) (command : Command) (bytes : List ℕ) (faults faults' : ℕ) (rest : Option (List ℕ))
    (back : Returned) (e : Ending) (status : ℕ)
    → (status ≡ 0 → (text : List ℕ) → IsToldBy command (Some bytes) back text → Comes)
    → (status ≡ 1 → (bad : BadLine) → IsRefused (refusal_by command) (Some bytes) bad → Comes)
    → ((line : List ℕ) → IsIllegalBy command (Some bytes) back.runs line → ⊥)
    → status ≡ status_of e
    → IsOfSource e faults faults' (Some bytes) rest
    → IsWork command (Some bytes) e back
    → LeavesRest bytes rest
    → length bytes ≤ MOST_TEXT
    → (Rose faults faults' → ⊥)
    → Comes
by_ending Comes command bytes faults faults' rest back (Done report) status plays refuses legal is of work left short
    sound = plays is report.items work
by_ending Comes command bytes faults faults' rest back (BadSession line) status plays refuses legal is of work left
    short sound = refuses is work.1.bad work.1.refused
by_ending Comes command bytes faults faults' rest back BadWords status plays refuses legal is of work left short sound =
    absurd of
by_ending Comes command bytes faults faults' rest back ReadFault status plays refuses legal is of work left short
    sound = absurd (sound of.0)
by_ending Comes command bytes faults faults' rest back TooLong status plays refuses legal is of work left short sound =
    absurd (too_short bytes rest left of short)
by_ending Comes command bytes faults faults' rest back (NotLegal line) status plays refuses legal is of work left short
    sound = absurd (legal line.items work.1)

-- a text could not be given
not_told : (bytes : List ℕ) (status : ℕ) → status ≡ 4 → Completes bytes status
not_told bytes status four = record { played = λ session spells. inr (inl four); refused = λ bad wrong. inr (inl four) }

pub completes : (Asked : Type 0) (words : List (List ℕ)) (command : Command) (left rest : Option (List ℕ))
    (faults faults' : ℕ) (back : Returned) (e : Ending) (status : ℕ)
    → (Asked → AskToPlay words)
    → Ask command words
    → (status ≡ status_of e) ⊎ (status ≡ 4)
    → IsOfSource e faults faults' left rest
    → IsWork command left e back
    → IfSome left (λ bytes. LeavesRest bytes rest)
    → IfSome left (λ bytes. Asked → length bytes ≤ MOST_TEXT → (Rose faults faults' → ⊥) → Completes bytes status)
completes Asked words command None rest faults faults' back e status plays asked is of done left = left
completes Asked words command (Some bytes) rest faults faults' back e status plays asked (inr four) of done left =
    λ asks short sound. not_told bytes status four
completes Asked words (Run journals) (Some bytes) rest faults faults' back e status plays asked (inl is) of done left =
    λ asks. by_ending (Completes bytes status) (Run journals) bytes faults faults' rest back e status
    (λ zero_is text told. plays_so IsInAnyOrder (Report journals) bytes back text status zero_is told)
    (λ one_is bad refused. refuses_so bytes bad status one_is refused) (λ line none. none) is of done left
completes Asked words (RunOne journals) (Some bytes) rest faults faults' back e status plays asked (inl is) of done left
    = λ asks. by_ending (Completes bytes status) (RunOne journals) bytes faults faults' rest back e status
    (λ zero_is text told. plays_so IsOrdered (Report journals) bytes back text status zero_is told)
    (λ one_is bad refused. refuses_so bytes bad status one_is refused) (λ line none. none) is of done left
completes Asked words Modem (Some bytes) rest faults faults' back e status plays asked (inl is) of done left = λ asks.
    absurd (not_modem_and_play words asked (plays asks))
completes Asked words Jobs (Some bytes) rest faults faults' back e status plays asked (inl is) of done left = λ asks.
    absurd (not_jobs_and_play words asked (plays asks))
completes Asked words (Gen number) (Some bytes) rest faults faults' back e status plays asked (inl is) of done left =
    λ asks. absurd (not_gen_and_play words (number, asked) (plays asks))
completes Asked words Check (Some bytes) rest faults faults' back e status plays asked (inl is) of done left = λ asks.
    absurd (not_check_and_play words asked (plays asks))
completes Asked words Vt (Some bytes) rest faults faults' back e status plays asked (inl is) of done left = λ asks.
    absurd (not_vt_and_play words (inl asked) (plays asks))
completes Asked words VtOne (Some bytes) rest faults faults' back e status plays asked (inl is) of done left = λ asks.
    absurd (not_vt_and_play words (inr asked) (plays asks))

pub judged : (words : List (List ℕ)) (command : Command) (left rest : Option (List ℕ)) (faults faults' : ℕ)
    (back : Returned) (e : Ending) (status : ℕ)
    → Ask command words
    → (status ≡ status_of e) ⊎ (status ≡ 4)
    → IsOfSource e faults faults' left rest
    → IsWork command left e back
    → IfSome left (λ bytes. LeavesRest bytes rest)
    → IfSome left
    (λ bytes. AskCheck words → length bytes ≤ MOST_TEXT → (Rose faults faults' → ⊥) → CompletesCheck bytes status)
judged words command None rest faults faults' back e status asked is of done left = left
judged words (Run journals) (Some bytes) rest faults faults' back e status asked is of done left = λ check.
    absurd (not_check_and_run words journals check asked)
judged words (RunOne journals) (Some bytes) rest faults faults' back e status asked is of done left = λ check.
    absurd (not_check_and_one words journals check asked)
judged words Modem (Some bytes) rest faults faults' back e status asked is of done left = λ check.
    absurd (not_modem_and_check words asked check)
judged words Jobs (Some bytes) rest faults faults' back e status asked is of done left = λ check.
    absurd (not_jobs_and_check words asked check)
judged words (Gen number) (Some bytes) rest faults faults' back e status asked is of done left = λ check.
    absurd (not_check_and_gen words (number, asked) check)
judged words Check (Some bytes) rest faults faults' back e status asked is of done left = λ check short sound.
    completes_check bytes faults faults' rest back e status is of done (λ took. too_short bytes rest left took short)
    sound
judged words Vt (Some bytes) rest faults faults' back e status asked is of done left = λ check.
    absurd (not_vt_and_check words (inl asked) check)
judged words VtOne (Some bytes) rest faults faults' back e status asked is of done left = λ check.
    absurd (not_vt_and_check words (inr asked) check)

made_so : (number : ℕ) (e : Ending) (status : ℕ)
    → (status ≡ status_of e) ⊎ (status ≡ 4)
    → CanEndWith (Gen number) e
    → IsStatusOr 0 status
made_so number e status (inr four) can = inr (inl four)
made_so number (Done report) status (inl is) can = inl is
made_so number (BadSession line) status (inl is) can = absurd can
made_so number BadWords status (inl is) can = absurd can
made_so number ReadFault status (inl is) can = absurd can
made_so number TooLong status (inl is) can = absurd can
made_so number (NotLegal line) status (inl is) can = absurd can

pub made : (words : List (List ℕ)) (command : Command) (e : Ending) (status : ℕ)
    → Ask command words
    → (status ≡ status_of e) ⊎ (status ≡ 4)
    → CanEndWith command e
    → AreGen words
    → IsStatusOr 0 status
made words (Run journals) e status asked is can = λ gen. absurd (not_gen_and_run words journals gen asked)
made words (RunOne journals) e status asked is can = λ gen. absurd (not_gen_and_one words journals gen asked)
made words Modem e status asked is can = λ gen. absurd (not_modem_and_gen words asked gen)
made words Jobs e status asked is can = λ gen. absurd (not_jobs_and_gen words asked gen)
made words (Gen number) e status asked is can = λ gen. made_so number e status is can
made words Check e status asked is can = λ gen. absurd (not_check_and_gen words gen asked)
made words Vt e status asked is can = λ gen. absurd (not_vt_and_gen words (inl asked) gen)
made words VtOne e status asked is can = λ gen. absurd (not_vt_and_gen words (inr asked) gen)

-- other words ask for nothing
pub unasked : (words : List (List ℕ)) (left : Option (List ℕ)) (status : ℕ) (faults faults' : ℕ)
    → (AreOfOne words → ⊥)
    → IfSome left
    (λ bytes. AreRunOne words → length bytes ≤ MOST_TEXT → (Rose faults faults' → ⊥) → Completes bytes status)
unasked words None status faults faults' other = tt
unasked words (Some bytes) status faults faults' other = λ run. absurd (other (RunOne run.0, tt, run.1))

pub unmade : (words : List (List ℕ)) (status : ℕ) → (AreOfOne words → ⊥) → AreGen words → IsStatusOr 0 status
unmade words status other gen = absurd (other (Gen gen.0, tt, gen.1))

pub unjudged : (words : List (List ℕ)) (left : Option (List ℕ)) (status : ℕ) (faults faults' : ℕ)
    → (AreOfOne words → ⊥)
    → IfSome left
    (λ bytes. AskCheck words → length bytes ≤ MOST_TEXT → (Rose faults faults' → ⊥) → CompletesCheck bytes status)
unjudged words None status faults faults' other = tt
unjudged words (Some bytes) status faults faults' other = λ check. absurd (other (Check, tt, check))
