-- Two reports of a session on one thread are the same.
use Rattle.std.proofs.Common.{◌≡◌, inl, inr, ℕ, zero, suc, ◌+◌, Bool, true, false, if◌then◌else◌, List, [], ◌∷◌}
use Rattle.std.proofs.Common.{◌++◌, Option, Some, codes, decimal, length, get_or, refl, sym, ◌∙◌, ap, subst, arith}
use Rattle.std.specs.Prelude.{slice_get, sum_by}
use Rattle.std.proofs.lemmas.List.Sums.{sum_by-cons}
use Rattle.tty_base.specs.declared.lines.Overrun.{Overrun}
use Rattle.tty_calls.specs.declared.journals.PortRun.{PortRun}
use Rattle.tty_calls.specs.Plain.{PlainEntry}
use Rattle.tty_calls.specs.Limits.{call_count}
use Rattle.tty_calls.specs.Sessions.{PlainSession}
use Rattle.session_text.specs.Grammar.{Spells}
use Rattle.session_text.proofs.Spelled.{spelled_once}
use Rattle.text_lines.specs.Values.{number_of}
use Rattle.session_gen.specs.Generated.{generated_session}
use Rattle.session_print.specs.Ends.{PlainEnd}
use Rattle.session_print.specs.Lines.{newline, flushed_count, port_text}
use Rattle.session_print.specs.Report.{calls_text, calls_from, ports_from}
use Rattle.session_print.specs.Journals.{journal_on, journals_from}
use Rattle.session_print.specs.Summary.{got_count, all_generations}
use Rattle.order_laws.specs.Lost.{IsSameRun}
use Rattle.order_laws.proofs.OneRun.{one_run}
use Rattle.tty_one.specs.declared.playing.Telling.{Telling}
use Rattle.tty_one.specs.declared.playing.Telling.TheVariants.{Report, Summary}
use Rattle.tty_one.specs.declared.words.Command.{Command}
use Rattle.tty_one.specs.declared.words.Command.TheVariants.{Run, RunOne, Modem, Jobs, Gen, Check, Vt, VtOne}
use Rattle.tty_one.specs.Endings.{Ask, AskRunOne, AreRunOne, AreGen, AskGen}
use Rattle.tty_one.specs.Reported.{Returned, end_at, IsOrdered, IsWhole, text_by, IsToldAs, IsReported}
use Rattle.tty_one.specs.Outcome.{IsPlayedText, WasGiven, IsToldBy, IsDone, GaveTheSame}
use Rattle.tty_one.proofs.AskedWords.{not_gen_and_one, not_gen_and_run, not_check_and_gen, not_check_and_one}
use Rattle.tty_one.proofs.AskedWords.{not_modem_and_gen, not_modem_and_one, not_run_and_one, not_jobs_and_one}
use Rattle.tty_one.proofs.AskedWords.{not_jobs_and_gen, not_vt_and_one, not_vt_and_gen}

-- ---- runs that are the same

abbrev pub AreSame : List PortRun → List PortRun → Type 0
AreSame [] [] = Unit {0}
AreSame [] (run ∷ runs) = ⊥
AreSame (run ∷ runs) [] = ⊥
AreSame (run ∷ runs) (other ∷ others) = IsSameRun run other × AreSame runs others

-- a run of these entries and of this report of its line
abbrev run_with : List PlainEntry → List Overrun → (arrived fifo_lost sent : ℕ) → PortRun
run_with entries overruns arrived fifo_lost sent =
    record {
      journal = record { items = entries; spare = 0; spare_bytes = 0; spare_characters = 0 };
      line = record {
        arrived = arrived;
        fifo_lost = fifo_lost;
        sent = sent;
        overruns = record { items = overruns; spare = 0 };
      };
    }

abbrev plain : PortRun → PortRun
plain run = run_with run.journal.items run.line.overruns.items run.line.arrived run.line.fifo_lost run.line.sent

same_plain : (run other : PortRun) → IsSameRun run other → plain run ≡ plain other
same_plain run other h = λ i. run_with (h.journal i) (h.overruns i) (h.arrived i) (h.fifo_lost i) (h.sent i)

same_port : (session : PlainSession) (p : ℕ) (run other : PortRun) (end : PlainEnd)
    → IsSameRun run other
    → port_text session p run end ≡ port_text session p other end
same_port session p run other end h = ap (λ (r : PortRun). port_text session p r end) (same_plain run other h)

same_journal : (session : PlainSession) (p : ℕ) (run other : PortRun)
    → IsSameRun run other
    → journal_on p session run ≡ journal_on p session other
same_journal session p run other h = ap (λ (r : PortRun). journal_on p session r) (same_plain run other h)

same_calls : (session : PlainSession) (p : ℕ) (run other : PortRun)
    → IsSameRun run other
    → calls_text p session run ≡ calls_text p session other
same_calls session p run other h = ap (λ (r : PortRun). calls_text p session r) (same_plain run other h)

pub all_calls : (session : PlainSession) (p : ℕ) (runs others : List PortRun)
    → AreSame runs others
    → calls_from p session runs ≡ calls_from p session others
all_calls session p [] [] h = refl
all_calls session p [] (other ∷ others) h = absurd h
all_calls session p (run ∷ runs) [] h = absurd h
all_calls session p (run ∷ runs) (other ∷ others) h = λ i.
    same_calls session p run other h.0 i ++ all_calls session (p + 1) runs others h.1 i

pub all_ports : (session : PlainSession) (p : ℕ) (runs others : List PortRun) (ends : List PlainEnd)
    → AreSame runs others
    → ports_from p session runs ends ≡ ports_from p session others ends
all_ports session p [] [] ends h = refl
all_ports session p [] (other ∷ others) ends h = absurd h
all_ports session p (run ∷ runs) [] ends h = absurd h
all_ports session p (run ∷ runs) (other ∷ others) [] h = refl
all_ports session p (run ∷ runs) (other ∷ others) (end ∷ ends) h = λ i.
    same_port session p run other end h.0 i ++ all_ports session (p + 1) runs others ends h.1 i

all_journals : (session : PlainSession) (p : ℕ) (runs others : List PortRun)
    → AreSame runs others
    → journals_from p session runs ≡ journals_from p session others
all_journals session p [] [] h = refl
all_journals session p [] (other ∷ others) h = absurd h
all_journals session p (run ∷ runs) [] h = absurd h
all_journals session p (run ∷ runs) (other ∷ others) h = λ i.
    same_journal session p run other h.0 i ++ all_journals session (p + 1) runs others h.1 i

all_counts : (f : PortRun → ℕ)
    → ((run other : PortRun) → IsSameRun run other → f run ≡ f other)
    → (runs others : List PortRun)
    → AreSame runs others
    → sum_by f runs ≡ sum_by f others
all_counts f same [] [] h = refl
all_counts f same [] (other ∷ others) h = absurd h
all_counts f same (run ∷ runs) [] h = absurd h
all_counts f same (run ∷ runs) (other ∷ others) h =
    sum_by-cons f run runs
    ∙ ((λ i. same run other h.0 i + all_counts f same runs others h.1 i) ∙ sym (sum_by-cons f other others))

-- what is told of runs is told of the same ones
same_text : (telling : Telling) (session : PlainSession) (runs others : List PortRun) (ends : List PlainEnd)
    → AreSame runs others
    → text_by telling session runs ends ≡ text_by telling session others ends
same_text (Report journals) session runs others ends h =
    let calls = all_calls session 0 runs others h in
    let ports = all_ports session 0 runs others ends h in
    let entries = all_journals session 0 runs others h in
    λ i.
    calls i
    ++ (ports i ++ ((if journals then codes "journals" ++ (newline ++ entries i) else []) ++ (codes "done" ++ newline)))
same_text (Summary number) session runs others ends h =
    let arrived = all_counts (λ (run : PortRun). run.line.arrived) (λ run other same. same.arrived) runs others h in
    let flushed = all_counts (λ (run : PortRun). flushed_count run.journal.items)
    (λ run other same. ap flushed_count same.journal) runs others h in
    let got = all_counts (λ (run : PortRun). got_count run.journal.items) (λ run other same. ap got_count same.journal)
    runs others h in
    λ i.
    codes "gen "
    ++ (decimal number
    ++ (codes "\ncalls " ++ (decimal (call_count session.phases) ++ (codes "\narrived " ++ (decimal (arrived i)
    ++ (codes "\ntaken " ++ (decimal (flushed i) ++ (codes "\nbytes " ++ (decimal (got i)
    ++ (codes "\ngenerations " ++ (decimal (all_generations ends) ++ codes "\ndone\n")))))))))))

-- ---- runs of one session

abbrev IsRunAt : PlainSession → ℕ → PortRun → PlainEnd → Type 0
IsRunAt session p run end = IsWhole IsOrdered p session run end

one_at : (session : PlainSession) (p : ℕ) (run other : PortRun) (end last : PlainEnd)
    → IsRunAt session p run end
    → IsRunAt session p other last
    → IsSameRun run other × (end ≡ last)
one_at session p run other end last h k =
    let same = one_run p session run other h.terminal k.terminal h.legal k.legal h.in_order k.in_order in
    (same.0, h.at_end ∙ (ap end_at same.1 ∙ sym k.at_end))

-- of each place there is one run with its end
pub record OneEach (W : ℕ → PortRun → PlainEnd → Type 0) (runs : List PortRun) (ends : List PlainEnd) : Type 0 where
  pub count : length ends ≡ length runs
  pub each : (p : ℕ) (run : PortRun) (end : PlainEnd)
      → slice_get runs p ≡ Some run
      → slice_get ends p ≡ Some end
      → W p run end

pub all_one : (W V : ℕ → PortRun → PlainEnd → Type 0)
    → ((p : ℕ) (run other : PortRun) (end last : PlainEnd)
    → W p run end
    → V p other last
    → IsSameRun run other × (end ≡ last))
    → (runs others : List PortRun) (ends lasts : List PlainEnd)
    → length runs ≡ length others
    → OneEach W runs ends
    → OneEach V others lasts
    → AreSame runs others × (ends ≡ lasts)
all_one W V one [] [] [] [] same h k = (tt, refl)
all_one W V one [] [] [] (last ∷ lasts) same h k = absurd (omega (arith, k.count))
all_one W V one [] [] (end ∷ ends) lasts same h k = absurd (omega (arith, h.count))
all_one W V one [] (other ∷ others) ends lasts same h k = absurd (omega (arith, same))
all_one W V one (run ∷ runs) [] ends lasts same h k = absurd (omega (arith, same))
all_one W V one (run ∷ runs) (other ∷ others) [] lasts same h k = absurd (omega (arith, h.count))
all_one W V one (run ∷ runs) (other ∷ others) (end ∷ ends) [] same h k = absurd (omega (arith, k.count))
all_one W V one (run ∷ runs) (other ∷ others) (end ∷ ends) (last ∷ lasts) same h k =
    let here = one zero run other end last (h.each zero run end refl refl) (k.each zero other last refl refl) in
    let rest =
    all_one (λ p. W (suc p)) (λ p. V (suc p)) (λ p. one (suc p)) runs others ends lasts (omega (arith, same))
    (record { count = omega (arith, h.count); each = λ p. h.each (suc p) })
    (record { count = omega (arith, k.count); each = λ p. k.each (suc p) }) in
    ((here.0, rest.0), λ i. here.1 i ∷ rest.1 i)

-- two texts that tell the same runs alike are the same
pub one_told : (text_of : List PortRun → List PlainEnd → List ℕ)
    → ((runs others : List PortRun) (ends : List PlainEnd)
    → AreSame runs others
    → text_of runs ends ≡ text_of others ends)
    → (session : PlainSession) (runs others : List PortRun) (text other : List ℕ)
    → IsToldAs IsOrdered text_of session runs text
    → IsToldAs IsOrdered text_of session others other
    → text ≡ other
one_told text_of alike session runs others text other h k =
    let all = all_one (IsRunAt session) (IsRunAt session) (one_at session) runs others h.ends k.ends
    (h.runs_of_all ∙ sym k.runs_of_all)
    (record { count = h.ends_of_all ∙ sym h.runs_of_all; each = h.each })
    (record { count = k.ends_of_all ∙ sym k.runs_of_all; each = k.each }) in
    h.told ∙ (alike runs others h.ends all.0 ∙ (ap (text_of others) all.1 ∙ sym k.told))

pub one_report : (telling : Telling) (session : PlainSession) (runs others : List PortRun) (text other : List ℕ)
    → IsReported IsOrdered telling session runs text
    → IsReported IsOrdered telling session others other
    → text ≡ other
one_report telling session runs others text other h k =
    one_told (text_by telling session) (same_text telling session) session runs others text other h k

-- of one text that was read
pub one_text : (telling : Telling) (bytes : List ℕ) (runs others : List PortRun) (text other : List ℕ)
    → IsPlayedText (Some bytes) (λ session. IsReported IsOrdered telling session runs text)
    → IsPlayedText (Some bytes) (λ session. IsReported IsOrdered telling session others other)
    → text ≡ other
one_text telling bytes runs others text other h k =
    let first : Spells bytes h.session = subst (λ (read : List ℕ). Spells read h.session) h.whole h.spelled in
    let second : Spells bytes k.session = subst (λ (read : List ℕ). Spells read k.session) k.whole k.spelled in
    let same : k.session ≡ h.session = spelled_once bytes k.session h.session second first in
    one_report telling h.session runs others text other h.ends
    (subst (λ (session : PlainSession). IsReported IsOrdered telling session others other) same k.ends)

-- ---- two calls

pub both_gave : (before before' text text' : List ℕ) (now now' : Option (List ℕ))
    → text ≡ text'
    → WasGiven (Some before) now text
    → WasGiven (Some before') now' text'
    → GaveTheSame before before' now now'
both_gave before before' text text' now now' same h k =
    (text, h, k ∙ ap (λ (t : List ℕ). Some (before' ++ t)) (sym same))

same_journals : (words : List (List ℕ)) (journals others : Bool)
    → AskRunOne journals words
    → AskRunOne others words
    → journals ≡ others
same_journals words false false h k = refl
same_journals words true true h k = refl
same_journals words false true h (inl k) =
    (let same : 2 ≡ 3 = ap (λ (ws : List (List ℕ)). length ws) (sym h ∙ k) in absurd (omega (arith, same)))
same_journals words false true h (inr k) =
    (let same : 2 ≡ 3 = ap (λ (ws : List (List ℕ)). length ws) (sym h ∙ k) in absurd (omega (arith, same)))
same_journals words true false (inl h) k =
    (let same : 3 ≡ 2 = ap (λ (ws : List (List ℕ)). length ws) (sym h ∙ k) in absurd (omega (arith, same)))
same_journals words true false (inr h) k =
    (let same : 3 ≡ 2 = ap (λ (ws : List (List ℕ)). length ws) (sym h ∙ k) in absurd (omega (arith, same)))

same_number : (words : List (List ℕ)) (number other : ℕ) → AskGen number words → AskGen other words → number ≡ other
same_number words number other h k =
    let digits : h.0 ≡ k.0 = ap (λ (ws : List (List ℕ)). get_or ws 1 []) (sym h.1 ∙ k.1) in
    h.2.value ∙ (ap number_of digits ∙ sym k.2.value)

-- the session that was read was told on one thread
run_told : (words : List (List ℕ)) (bytes : List ℕ) (journals : Bool) (command : Command) (back : Returned)
    (text : List ℕ)
    → AskRunOne journals words
    → Ask command words
    → IsToldBy command (Some bytes) back text
    → IsPlayedText (Some bytes) (λ session. IsReported IsOrdered (Report journals) session back.runs text)
run_told words bytes journals (Run threads) back text one asked told =
    absurd (not_run_and_one words threads journals asked one)
run_told words bytes journals (RunOne others) back text one asked told =
    subst (λ (b : Bool). IsPlayedText (Some bytes) (λ session. IsReported IsOrdered (Report b) session back.runs text))
    (same_journals words others journals asked one) told
run_told words bytes journals Modem back text one asked told = absurd (not_modem_and_one words asked journals one)
run_told words bytes journals Jobs back text one asked told = absurd (not_jobs_and_one words journals asked one)
run_told words bytes journals (Gen number) back text one asked told =
    absurd (not_gen_and_one words journals (number, asked) one)
run_told words bytes journals Check back text one asked told = absurd (not_check_and_one words journals asked one)
run_told words bytes journals Vt back text one asked told = absurd (not_vt_and_one words journals (inl asked) one)
run_told words bytes journals VtOne back text one asked told = absurd (not_vt_and_one words journals (inr asked) one)

pub runs_tell_the_same : (words : List (List ℕ)) (bytes before before' : List ℕ) (now now' : Option (List ℕ))
    (back other : Returned)
    → AreRunOne words
    → IsDone words (Some bytes) (Some before) now back
    → IsDone words (Some bytes) (Some before') now' other
    → GaveTheSame before before' now now'
runs_tell_the_same words bytes before before' now now' back other one h k =
    let first = run_told words bytes one.0 h.command back h.text one.1 h.asked h.done in
    let second = run_told words bytes one.0 k.command other k.text one.1 k.asked k.done in
    both_gave before before' h.text k.text now now'
    (one_text (Report one.0) bytes back.runs other.runs h.text k.text first second) h.given k.given

gen_told : (words : List (List ℕ)) (left : Option (List ℕ)) (number : ℕ) (command : Command) (back : Returned)
    (text : List ℕ)
    → AskGen number words
    → Ask command words
    → IsToldBy command left back text
    → IsReported IsOrdered (Summary number) (generated_session number) back.runs text
gen_told words left number (Run threads) back text gen asked told =
    absurd (not_gen_and_run words threads (number, gen) asked)
gen_told words left number (RunOne journals) back text gen asked told =
    absurd (not_gen_and_one words journals (number, gen) asked)
gen_told words left number Modem back text gen asked told = absurd (not_modem_and_gen words asked (number, gen))
gen_told words left number Jobs back text gen asked told = absurd (not_jobs_and_gen words asked (number, gen))
gen_told words left number (Gen other) back text gen asked told =
    subst (λ (n : ℕ). IsReported IsOrdered (Summary n) (generated_session n) back.runs text)
    (same_number words other number asked gen) told
gen_told words left number Check back text gen asked told = absurd (not_check_and_gen words (number, gen) asked)
gen_told words left number Vt back text gen asked told = absurd (not_vt_and_gen words (inl asked) (number, gen))
gen_told words left number VtOne back text gen asked told = absurd (not_vt_and_gen words (inr asked) (number, gen))

pub numbers_tell_the_same : (words : List (List ℕ)) (left left' : Option (List ℕ)) (before before' : List ℕ)
    (now now' : Option (List ℕ)) (back other : Returned)
    → AreGen words
    → IsDone words left (Some before) now back
    → IsDone words left' (Some before') now' other
    → GaveTheSame before before' now now'
numbers_tell_the_same words left left' before before' now now' back other gen h k =
    let first = gen_told words left gen.0 h.command back h.text gen.1 h.asked h.done in
    let second = gen_told words left' gen.0 k.command other k.text gen.1 k.asked k.done in
    both_gave before before' h.text k.text now now'
    (one_report (Summary gen.0) (generated_session gen.0) back.runs other.runs h.text k.text first second)
    h.given k.given
