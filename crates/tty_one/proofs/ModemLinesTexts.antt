-- What a text of ports with modem lines comes to where reading did not fail.
use Rattle.std.proofs.Common.{◌≡◌, ◌⊎◌, ◌≤◌, length, ℕ, List, Option, None, Some, IfSome, inl, inr, sym, ap, subst}
use Rattle.std.proofs.Common.{◌∙◌}
use Rattle.tty_base.specs.Sizes.{MOST_TEXT}
use Rattle.tty_base.specs.Outside.{Rose, LeavesRest}
use Rattle.session_text.specs.declared.faults.BadLine.{BadLine}
use Rattle.tty_one.specs.declared.words.Command.{Command}
use Rattle.tty_one.specs.declared.words.Command.TheVariants.{Run, RunOne, Modem, Jobs, Gen, Check, Vt, VtOne}
use Rattle.tty_one.specs.declared.works.Ending.{Ending}
use Rattle.tty_one.specs.Endings.{Ask, AskModem, status_of, IsOfSource}
use Rattle.tty_one.specs.Reported.{Returned}
use Rattle.modem_text.specs.Sessions.{ModemSession}
use Rattle.tty_one.specs.ModemLines.{SpellsModemLines, fault_in as fault_of_modem_lines, modem_lines_refusal}
use Rattle.tty_one.specs.ModemLines.{IsToldOfModemLines, CompletesModemLines}
use Rattle.tty_one.specs.Outcome.{IsRefused}
use Rattle.tty_one.specs.Works.{IsWork}
use Rattle.tty_one.proofs.AskedWords.{not_modem_and_run, not_modem_and_one, not_modem_and_jobs, not_modem_and_gen}
use Rattle.tty_one.proofs.AskedWords.{not_modem_and_check, not_modem_and_vt}
use Rattle.tty_one.proofs.PlayedTexts.{none_some, by_ending}

modem_lines_not_both : (bytes : List ℕ) (session : ModemSession) (bad : BadLine)
    → SpellsModemLines bytes session
    → modem_lines_refusal bytes ≡ Some bad
    → ⊥
modem_lines_not_both bytes session bad spells refused = none_some bad (sym (ap fault_of_modem_lines spells) ∙ refused)

modem_lines_play : (bytes : List ℕ) (back : Returned) (text : List ℕ) (status : ℕ)
    → status ≡ 0
    → IsToldOfModemLines (Some bytes) back text
    → CompletesModemLines bytes status
modem_lines_play bytes back text status is h =
    let spelled : SpellsModemLines bytes h.session =
    subst (λ (read : List ℕ). SpellsModemLines read h.session) h.whole h.spelled in
    record {
      played = λ session spells. inl is;
      refused = λ bad wrong. absurd (modem_lines_not_both bytes h.session bad spelled wrong);
    }

modem_lines_refuse : (bytes : List ℕ) (bad : BadLine) (status : ℕ)
    → status ≡ 1
    → IsRefused modem_lines_refusal (Some bytes) bad
    → CompletesModemLines bytes status
modem_lines_refuse bytes bad status is h =
    let wrong : modem_lines_refusal bytes ≡ Some bad =
    subst (λ (text : List ℕ). modem_lines_refusal text ≡ Some bad) h.whole h.refused in
    record {
      played = λ session spells. absurd (modem_lines_not_both bytes session bad spells wrong);
      refused = λ other _. inl is;
    }

modem_lines_complete : (words : List (List ℕ)) (command : Command) (bytes : List ℕ) (rest : Option (List ℕ))
    (faults faults' : ℕ) (back : Returned) (e : Ending) (status : ℕ)
    → Ask command words
    → status ≡ status_of e
    → IsOfSource e faults faults' (Some bytes) rest
    → IsWork command (Some bytes) e back
    → LeavesRest bytes rest
    → AskModem words
    → length bytes ≤ MOST_TEXT
    → (Rose faults faults' → ⊥)
    → CompletesModemLines bytes status
modem_lines_complete words (Run journals) bytes rest faults faults' back e status asked is of done left modem =
    absurd (not_modem_and_run words modem journals asked)
modem_lines_complete words (RunOne journals) bytes rest faults faults' back e status asked is of done left modem =
    absurd (not_modem_and_one words modem journals asked)
modem_lines_complete words Modem bytes rest faults faults' back e status asked is of done left modem =
    by_ending (CompletesModemLines bytes status) Modem bytes faults faults' rest back e status
    (λ zero_is text told. modem_lines_play bytes back text status zero_is told)
    (λ one_is bad refused. modem_lines_refuse bytes bad status one_is refused) (λ line none. none) is of done left
modem_lines_complete words Jobs bytes rest faults faults' back e status asked is of done left modem =
    absurd (not_modem_and_jobs words modem asked)
modem_lines_complete words (Gen number) bytes rest faults faults' back e status asked is of done left modem =
    absurd (not_modem_and_gen words modem (number, asked))
modem_lines_complete words Check bytes rest faults faults' back e status asked is of done left modem =
    absurd (not_modem_and_check words modem asked)
modem_lines_complete words Vt bytes rest faults faults' back e status asked is of done left modem =
    absurd (not_modem_and_vt words modem (inl asked))
modem_lines_complete words VtOne bytes rest faults faults' back e status asked is of done left modem =
    absurd (not_modem_and_vt words modem (inr asked))

pub completes_modem_lines : (words : List (List ℕ)) (command : Command) (left rest : Option (List ℕ))
    (faults faults' : ℕ) (back : Returned) (e : Ending) (status : ℕ)
    → Ask command words
    → (status ≡ status_of e) ⊎ (status ≡ 4)
    → IsOfSource e faults faults' left rest
    → IsWork command left e back
    → IfSome left (λ bytes. LeavesRest bytes rest)
    → IfSome left
    (λ bytes. AskModem words → length bytes ≤ MOST_TEXT → (Rose faults faults' → ⊥) → CompletesModemLines bytes status)
completes_modem_lines words command None rest faults faults' back e status asked is of done left = left
completes_modem_lines words command (Some bytes) rest faults faults' back e status asked (inr four) of done left =
    λ modem short sound. record {
      played = λ session spells. inr (inl four);
      refused = λ bad wrong. inr (inl four);
    }
completes_modem_lines words command (Some bytes) rest faults faults' back e status asked (inl is) of done left =
    λ modem short sound.
    modem_lines_complete words command bytes rest faults faults' back e status asked is of done left modem short sound

-- words that ask for no modem lines
pub not_modem_lines : (words : List (List ℕ)) (left : Option (List ℕ)) (status : ℕ) (faults faults' : ℕ)
    → (AskModem words → ⊥)
    → IfSome left
    (λ bytes. AskModem words → length bytes ≤ MOST_TEXT → (Rose faults faults' → ⊥) → CompletesModemLines bytes status)
not_modem_lines words None status faults faults' other = tt
not_modem_lines words (Some bytes) status faults faults' other = λ modem. absurd (other modem)
