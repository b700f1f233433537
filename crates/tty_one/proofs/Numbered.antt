-- No journal of the session of a number is full, since nothing is written in it.
use Rattle.std.proofs.Common.{◌≡◌, ◌==◌, ℕ, Bool, true, false, if◌then◌else◌, List, [], ◌∷◌, map, refl, arith}
use Rattle.std.specs.Prelude.{filter, sum_by, IfOk, Result, Ok, Err}
use Rattle.std.specs.List.{range_with_len}
use Rattle.std.proofs.lemmas.List.Sums.{sum_by-cons, sum_by-append}
use Rattle.tty_calls.specs.declared.journals.PortRun.{PortRun}
use Rattle.tty_calls.specs.Plain.{PlainCall, reads, sets_disc}
use Rattle.tty_calls.specs.Sessions.{PlainScript, scripts_on, scripts_over}
use Rattle.session_gen.proofs.Within.{generated_within}
use Rattle.session_gen.specs.Generated.{caller_script, opening_calls, opening_phase, changes_twice}
use Rattle.session_gen.specs.Generated.{reading_calls, reading_phase, generated_session}
use Rattle.journal_bound.specs.Counts.{written_count, byte_count_on}
use Rattle.journal_bound.proofs.Bound.{few_calls, never_full}
use Rattle.tty_base.specs.declared.buffers.NoMemory.{NoMemory}
use Rattle.tty_one.specs.declared.works.Work.{Work}
use Rattle.tty_one.specs.declared.works.Ending.{Ending}
use Rattle.tty_one.specs.declared.works.Ending.TheVariants.{Done, BadSession, BadWords, ReadFault, TooLong, NotLegal}
use Rattle.tty_one.specs.declared.playing.Telling.TheVariants.{Summary}
use Rattle.tty_one.specs.declared.words.Command.TheVariants.{Gen}
use Rattle.tty_one.specs.Reported.{IsOrdered}
use Rattle.tty_one.specs.Works.{IsSessionWork, CanEndWith, IsNeverFull}

-- the bytes that scripts write
abbrev written_in : List PlainScript → ℕ
written_in scripts = sum_by (λ script. sum_by written_count script.calls) scripts

written_either : (own : Bool) (s : PlainScript) (rest : List PlainScript)
    → sum_by written_count s.calls ≡ 0
    → written_in rest ≡ 0
    → written_in (if own then s ∷ rest else rest) ≡ 0
written_either true s rest none others =
    let whole = sum_by-cons (λ (script : PlainScript). sum_by written_count script.calls) s rest in
    omega (arith, whole, none, others)
written_either false s rest none others = others

-- scripts that write nothing, one for each port
nothing_on : (p : ℕ) (calls : ℕ → List PlainCall)
    → ((port : ℕ) → sum_by written_count (calls port) ≡ 0)
    → (ports : List ℕ)
    → written_in (filter (λ s. s.port == p) (map (λ port. caller_script port (calls port)) ports)) ≡ 0
nothing_on p calls none [] = refl
nothing_on p calls none (port ∷ ports) =
    written_either (port == p) (caller_script port (calls port))
    (filter (λ s. s.port == p) (map (λ q. caller_script q (calls q)) ports)) (none port) (nothing_on p calls none ports)

read_calls : (twice : Bool)
    → sum_by written_count (reads 0 4000 ∷ (if twice then sets_disc 0 1 ∷ sets_disc 0 0 ∷ [] else [])) ≡ 0
read_calls true = refl
read_calls false = refl

opening_nothing : (p : ℕ) → written_in (scripts_on p opening_phase) ≡ 0
opening_nothing p = nothing_on p (λ _. opening_calls) (λ port. refl) (range_with_len 0 4)

reading_nothing : (number p phase : ℕ) → written_in (scripts_on p (reading_phase number phase)) ≡ 0
unfolding reading_phase
reading_nothing number p phase = nothing_on p (reading_calls number phase)
    (λ port. read_calls (changes_twice number phase port)) (range_with_len 0 4)

readings_nothing : (number p : ℕ) (phases : List ℕ)
    → written_in (scripts_over p (map (reading_phase number) phases)) ≡ 0
readings_nothing number p [] = refl
readings_nothing number p (phase ∷ phases) =
    let whole = sum_by-append (λ (script : PlainScript). sum_by written_count script.calls)
    (scripts_on p (reading_phase number phase)) (scripts_over p (map (reading_phase number) phases)) in
    let here = reading_nothing number p phase in
    let later = readings_nothing number p phases in
    omega (arith, whole, here, later)

nothing_written : (number p : ℕ)
    → byte_count_on p (opening_phase ∷ map (reading_phase number) (range_with_len 1 15)) ≡ 0
nothing_written number p =
    let whole = sum_by-append (λ (script : PlainScript). sum_by written_count script.calls) (scripts_on p opening_phase)
    (scripts_over p (map (reading_phase number) (range_with_len 1 15))) in
    let here = opening_nothing p in
    let later = readings_nothing number p (range_with_len 1 15) in
    omega (arith, whole, here, later)

-- no journal of the session of a number is ever full
pub number_room : (number : ℕ) → IsNeverFull (generated_session number)
number_room number p run t short =
    let limits = generated_within number in
    let phases = (generated_session number).phases in
    let none : byte_count_on p phases ≡ 0 = nothing_written number p in
    never_full p (generated_session number) run t limits short
    (omega (arith, none, few_calls p phases, limits.few_calls, limits.few_characters p))

-- how the work on the session of a number can end
ends_at : (number : ℕ) (e : Ending) (runs : List PortRun)
    → IsSessionWork IsOrdered (Summary number) (generated_session number) e runs
    → CanEndWith (Gen number) e
ends_at number (Done report) runs h = tt
ends_at number (BadSession line) runs h = h
ends_at number BadWords runs h = h
ends_at number ReadFault runs h = h
ends_at number TooLong runs h = h
ends_at number (NotLegal line) runs h = h

pub number_ends : (number : ℕ) (r : Result Work NoMemory)
    → IfOk r (λ work. IsSessionWork IsOrdered (Summary number) (generated_session number) work.ending work.runs.items)
    → IfOk r (λ work. CanEndWith (Gen number) work.ending)
number_ends number (Ok work) h = ends_at number work.ending work.runs.items h
number_ends number (Err e) h = h
