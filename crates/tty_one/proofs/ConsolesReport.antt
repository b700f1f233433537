-- Two reports of a session of consoles on one thread are the same.
use Rattle.std.proofs.Common.{◌≡◌, ℕ, ◌+◌, List, [], ◌∷◌, ◌++◌, Option, Some}
use Rattle.std.proofs.Common.{inr, Result, Ok, codes, length, refl, sym, ◌∙◌, subst}
use Rattle.tty_calls.specs.declared.journals.PortRun.{PortRun}
use Rattle.session_text.specs.declared.faults.BadLine.{BadLine}
use Rattle.session_print.specs.Ends.{PlainEnd}
use Rattle.session_print.specs.Lines.{newline, flushed_count, dropped_count}
use Rattle.order_laws.specs.Lost.{IsSameRun}
use Rattle.vt_consoles.specs.declared.entries.VtEntry.{VtEntry}
use Rattle.vt_print.specs.Consoles.{console_text, active_line}
use Rattle.vt_text.specs.Sessions.{PlainVtSession}
use Rattle.vt_account.specs.Keyed.{keyed}
use Rattle.vt_report.specs.Report.{tally_of, consoles_from, operators_text, report_text}
use Rattle.tty_one.specs.declared.words.Command.{Command}
use Rattle.tty_one.specs.declared.words.Command.TheVariants.{Run, RunOne, Modem, Jobs, Gen, Check, Vt, VtOne}
use Rattle.tty_one.specs.Endings.{Ask, AskVtOne}
use Rattle.tty_one.specs.Reported.{Returned, IsOrdered, IsToldAs}
use Rattle.tty_one.specs.Consoles.{SpellsConsoles, AreConsolesInOrder, IsToldOfConsoles}
use Rattle.tty_one.specs.Outcome.{IsToldBy, IsDone, GaveTheSame}
use Rattle.tty_one.proofs.AskedWords.{not_jobs_and_vt, not_modem_and_vt, not_vt_and_run, not_vt_and_one}
use Rattle.tty_one.proofs.AskedWords.{not_vt_and_gen, not_vt_and_check, not_vt_and_vt_one}
use Rattle.tty_one.proofs.OneReport.{AreSame, all_calls, one_told, both_gave}

-- ---- of runs that are the same

same_console : (p : ℕ) (entries : List VtEntry) (run other : PortRun) (end : PlainEnd) → IsSameRun run other
    → console_text p entries (tally_of run end) end.wire ≡ console_text p entries (tally_of other end) end.wire
same_console p entries run other end h = λ i.
    console_text p entries (record {
      overrun = length (h.overruns i);
      taken = flushed_count (h.journal i);
      dropped = dropped_count (h.journal i);
      generation = end.generation;
    }) end.wire

all_consoles : (p : ℕ) (entries : List VtEntry) (runs others : List PortRun) (ends : List PlainEnd)
    → AreSame runs others
    → consoles_from p entries runs ends ≡ consoles_from p entries others ends
all_consoles p entries [] [] ends h = refl
all_consoles p entries [] (other ∷ others) ends h = absurd h
all_consoles p entries (run ∷ runs) [] ends h = absurd h
all_consoles p entries (run ∷ runs) (other ∷ others) [] h = refl
all_consoles p entries (run ∷ runs) (other ∷ others) (end ∷ ends) h = λ i.
    same_console p entries run other end h.0 i ++ all_consoles (p + 1) entries runs others ends h.1 i

same_text : (session : PlainVtSession) (entries : List VtEntry) (runs others : List PortRun) (ends : List PlainEnd)
    → AreSame runs others
    → report_text session entries runs ends ≡ report_text session entries others ends
same_text session entries runs others ends h =
    let calls = all_calls session.calls 0 runs others h in
    let consoles = all_consoles 0 entries runs others ends h in
    λ i.
    calls i ++ (operators_text session entries ++ (consoles i ++ (active_line entries ++ (codes "done" ++ newline))))

-- ---- of one session

pub one_consoles_report : (session : PlainVtSession) (back other : Returned) (text told : List ℕ)
    → AreConsolesInOrder session back text
    → AreConsolesInOrder session other told
    → text ≡ told
one_consoles_report session back other text told h k =
    let entries : other.entries ≡ back.entries = k.in_order ∙ sym h.in_order in
    let second = subst
    (λ (es : List VtEntry). IsToldAs IsOrdered (report_text session es) (keyed session es) other.runs told)
    entries k.played.told in
    one_told (report_text session back.entries) (same_text session back.entries) (keyed session back.entries)
    back.runs other.runs text told h.played.told second

-- ---- two calls

consoles_told : (words : List (List ℕ)) (bytes : List ℕ) (command : Command) (back : Returned) (text : List ℕ)
    → AskVtOne words
    → Ask command words
    → IsToldBy command (Some bytes) back text
    → IsToldOfConsoles AreConsolesInOrder (Some bytes) back text
consoles_told words bytes (Run journals) back text vt asked told = absurd (not_vt_and_run words journals (inr vt) asked)
consoles_told words bytes (RunOne journals) back text vt asked told =
    absurd (not_vt_and_one words journals (inr vt) asked)
consoles_told words bytes Modem back text vt asked told = absurd (not_modem_and_vt words asked (inr vt))
consoles_told words bytes Jobs back text vt asked told = absurd (not_jobs_and_vt words asked (inr vt))
consoles_told words bytes (Gen number) back text vt asked told = absurd (not_vt_and_gen words (inr vt) (number, asked))
consoles_told words bytes Check back text vt asked told = absurd (not_vt_and_check words (inr vt) asked)
consoles_told words bytes Vt back text vt asked told = absurd (not_vt_and_vt_one words asked vt)
consoles_told words bytes VtOne back text vt asked told = told

spelled_in : (bytes text : List ℕ) (back : Returned) (h : IsToldOfConsoles AreConsolesInOrder (Some bytes) back text)
    → SpellsConsoles bytes h.session
spelled_in bytes text back h = subst (λ (read : List ℕ). SpellsConsoles read h.session) h.whole h.spelled

spelled_once : (bytes : List ℕ) (one other : PlainVtSession)
    → SpellsConsoles bytes one
    → SpellsConsoles bytes other
    → one ≡ other
spelled_once bytes one other h k = ok_same (sym h ∙ k)
  where
    ok_same : (let r : Result PlainVtSession BadLine = Ok one in r) ≡ Ok other → one ≡ other
    ok_same e = cc

pub consoles_tell_the_same : (words : List (List ℕ)) (bytes before before' : List ℕ) (now now' : Option (List ℕ))
    (back other : Returned)
    → AskVtOne words
    → IsDone words (Some bytes) (Some before) now back
    → IsDone words (Some bytes) (Some before') now' other
    → GaveTheSame before before' now now'
consoles_tell_the_same words bytes before before' now now' back other vt h k =
    let first = consoles_told words bytes h.command back h.text vt h.asked h.done in
    let second = consoles_told words bytes k.command other k.text vt k.asked k.done in
    let same = spelled_once bytes second.session first.session (spelled_in bytes k.text other second)
    (spelled_in bytes h.text back first) in
    let alike = subst (λ (s : PlainVtSession). AreConsolesInOrder s other k.text) same second.played in
    both_gave before before' h.text k.text now now'
    (one_consoles_report first.session back other h.text k.text first.played alike) h.given k.given
