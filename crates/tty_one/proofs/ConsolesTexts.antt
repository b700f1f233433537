-- What a text of consoles comes to where reading did not fail.
use Rattle.std.proofs.Common.{◌≡◌, ◌⊎◌, ◌≤◌, length, ℕ, List, Option, None, Some, IfSome, inl, inr, sym, ap, subst}
use Rattle.std.proofs.Common.{◌∙◌}
use Rattle.tty_base.specs.Sizes.{MOST_TEXT}
use Rattle.tty_base.specs.Outside.{Rose, LeavesRest}
use Rattle.session_text.specs.declared.faults.BadLine.{BadLine}
use Rattle.vt_text.specs.Sessions.{PlainVtSession}
use Rattle.tty_one.specs.declared.words.Command.{Command}
use Rattle.tty_one.specs.declared.words.Command.TheVariants.{Run, RunOne, Modem, Jobs, Gen, Check, Vt, VtOne}
use Rattle.tty_one.specs.declared.works.Ending.{Ending}
use Rattle.tty_one.specs.Endings.{Ask, AskConsoles, status_of, IsOfSource}
use Rattle.tty_one.specs.Reported.{Returned}
use Rattle.tty_one.specs.Consoles.{AreConsolesInOrder, AreConsolesOnThreads, SpellsConsoles, fault_in}
use Rattle.tty_one.specs.Consoles.{consoles_refusal, IsToldOfConsoles, CompletesConsoles}
use Rattle.tty_one.specs.Outcome.{IsRefused}
use Rattle.tty_one.specs.Works.{IsWork}
use Rattle.tty_one.proofs.AskedWords.{not_jobs_and_vt, not_vt_and_one, not_vt_and_run, not_vt_and_gen}
use Rattle.tty_one.proofs.AskedWords.{not_vt_and_check, not_modem_and_vt}
use Rattle.tty_one.proofs.PlayedTexts.{none_some, by_ending}

consoles_not_both : (bytes : List ℕ) (session : PlainVtSession) (bad : BadLine)
    → SpellsConsoles bytes session
    → consoles_refusal bytes ≡ Some bad
    → ⊥
consoles_not_both bytes session bad spells refused = none_some bad (sym (ap fault_in spells) ∙ refused)

consoles_play : (ArePlayed : PlainVtSession → Returned → List ℕ → Type 0) (bytes : List ℕ) (back : Returned)
    (text : List ℕ) (status : ℕ)
    → status ≡ 0
    → IsToldOfConsoles ArePlayed (Some bytes) back text
    → CompletesConsoles bytes status
consoles_play ArePlayed bytes back text status is h =
    let spelled : SpellsConsoles bytes h.session =
    subst (λ (read : List ℕ). SpellsConsoles read h.session) h.whole h.spelled in
    record {
      played = λ session spells. inl is;
      refused = λ bad wrong. absurd (consoles_not_both bytes h.session bad spelled wrong);
    }

consoles_refuse : (bytes : List ℕ) (bad : BadLine) (status : ℕ)
    → status ≡ 1
    → IsRefused consoles_refusal (Some bytes) bad
    → CompletesConsoles bytes status
consoles_refuse bytes bad status is h =
    let wrong : consoles_refusal bytes ≡ Some bad =
    subst (λ (text : List ℕ). consoles_refusal text ≡ Some bad) h.whole h.refused in
    record {
      played = λ session spells. absurd (consoles_not_both bytes session bad spells wrong);
      refused = λ other _. inl is;
    }

pub completes_consoles : (Asked : Type 0) (words : List (List ℕ)) (command : Command) (left rest : Option (List ℕ))
    (faults faults' : ℕ) (back : Returned) (e : Ending) (status : ℕ)
    → (Asked → AskConsoles words)
    → Ask command words
    → (status ≡ status_of e) ⊎ (status ≡ 4)
    → IsOfSource e faults faults' left rest
    → IsWork command left e back
    → IfSome left (λ bytes. LeavesRest bytes rest)
    → IfSome left
    (λ bytes. Asked → length bytes ≤ MOST_TEXT → (Rose faults faults' → ⊥) → CompletesConsoles bytes status)
completes_consoles Asked words command None rest faults faults' back e status vt asked is of done left = left
completes_consoles Asked words command (Some bytes) rest faults faults' back e status vt asked (inr four) of done left =
    λ asks short sound. record {
      played = λ session spells. inr (inl four);
      refused = λ bad wrong. inr (inl four);
    }
completes_consoles Asked words (Run journals) (Some bytes) rest faults faults' back e status vt asked (inl is) of done
    left = λ asks. absurd (not_vt_and_run words journals (vt asks) asked)
completes_consoles Asked words (RunOne journals) (Some bytes) rest faults faults' back e status vt asked (inl is) of
    done left = λ asks. absurd (not_vt_and_one words journals (vt asks) asked)
completes_consoles Asked words Modem (Some bytes) rest faults faults' back e status vt asked (inl is) of done left =
    λ asks. absurd (not_modem_and_vt words asked (vt asks))
completes_consoles Asked words Jobs (Some bytes) rest faults faults' back e status vt asked (inl is) of done left =
    λ asks. absurd (not_jobs_and_vt words asked (vt asks))
completes_consoles Asked words (Gen number) (Some bytes) rest faults faults' back e status vt asked (inl is) of done
    left = λ asks. absurd (not_vt_and_gen words (vt asks) (number, asked))
completes_consoles Asked words Check (Some bytes) rest faults faults' back e status vt asked (inl is) of done left =
    λ asks. absurd (not_vt_and_check words (vt asks) asked)
completes_consoles Asked words Vt (Some bytes) rest faults faults' back e status vt asked (inl is) of done left =
    λ asks. by_ending (CompletesConsoles bytes status) Vt bytes faults faults' rest back e status
    (λ zero_is text told. consoles_play AreConsolesOnThreads bytes back text status zero_is told)
    (λ one_is bad refused. consoles_refuse bytes bad status one_is refused) (λ line none. none) is of done left
completes_consoles Asked words VtOne (Some bytes) rest faults faults' back e status vt asked (inl is) of done left =
    λ asks. by_ending (CompletesConsoles bytes status) VtOne bytes faults faults' rest back e status
    (λ zero_is text told. consoles_play AreConsolesInOrder bytes back text status zero_is told)
    (λ one_is bad refused. consoles_refuse bytes bad status one_is refused) (λ line none. none) is of done left

-- words that ask for no consoles
pub not_consoles : (Asked : Type 0) (left : Option (List ℕ)) (status : ℕ) (faults faults' : ℕ)
    → (Asked → ⊥)
    → IfSome left
    (λ bytes. Asked → length bytes ≤ MOST_TEXT → (Rose faults faults' → ⊥) → CompletesConsoles bytes status)
not_consoles Asked None status faults faults' other = tt
not_consoles Asked (Some bytes) status faults faults' other = λ asks. absurd (other asks)
