-- What each status says of what was told of the work that ended with it.
use Rattle.std.proofs.Common.{◌≡◌, ◌⊎◌, take, arith, ℕ, List, ◌++◌, Option, None, Some, IfSome, inl, inr, refl, sym}
use Rattle.std.proofs.Common.{ap, subst, ◌∙◌}
use Rattle.tty_base.specs.Contents.{Contents}
use Rattle.tty_one.specs.declared.words.Command.{Command}
use Rattle.tty_one.specs.declared.words.Command.TheVariants.{Run, RunOne, Modem, Jobs, Gen, Check, Vt, VtOne}
use Rattle.tty_one.specs.declared.works.Ending.{Ending}
use Rattle.tty_one.specs.declared.works.Ending.TheVariants.{Done, BadSession, BadWords, ReadFault, TooLong, NotLegal}
use Rattle.tty_one.specs.Endings.{Ask, line_of, status_of, text_of, bad_session_line, IsOfSource, IsTold}
use Rattle.tty_one.specs.Reported.{Returned}
use Rattle.tty_one.specs.Outcome.{WasGiven, WasGivenFront, IsDone, IsToldRefused, IsToldIllegal, IsBroken}
use Rattle.tty_one.specs.Outcome.{breaks_fault, breaks_long, breaks_refusal, breaks_text, breaks_verdict}
use Rattle.tty_one.specs.Works.{IsWork, CanEndWith, ReadsNothing}
use Rattle.tty_one.proofs.AskedWords.{read_fault_reads, long_reads}

-- what is given of a text is what is given of an equal one
given_as : (before now : Option (List ℕ)) (text other : List ℕ)
    → text ≡ other
    → WasGivenFront before now text
    → WasGivenFront before now other
given_as before now text other same h = subst (λ (t : List ℕ). WasGivenFront before now t) same h

-- a verdict that was not given whole
broken_verdict : (Known Reading : Type 0) (words : List (List ℕ)) (command : Command) (faults faults' : ℕ)
    (left rest before now : Option (List ℕ)) (back : Returned) (line : Contents ℕ)
    → Ask command words
    → IsWork command left (NotLegal line) back
    → WasGivenFront before now line.items
    → IsBroken Known Reading words faults faults' left rest before now back
broken_verdict Known Reading words (Run journals) faults faults' left rest before now back line asked work front =
    absurd work.1
broken_verdict Known Reading words (RunOne journals) faults faults' left rest before now back line asked work front =
    absurd work.1
broken_verdict Known Reading words Modem faults faults' left rest before now back line asked work front = absurd work.1
broken_verdict Known Reading words Jobs faults faults' left rest before now back line asked work front = absurd work.1
broken_verdict Known Reading words (Gen number) faults faults' left rest before now back line asked work front =
    absurd work.1
broken_verdict Known Reading words Check faults faults' left rest before now back line asked work front =
    breaks_verdict work.1.verdict line.items asked work.1.told work.1.illegal front
broken_verdict Known Reading words Vt faults faults' left rest before now back line asked work front = absurd work.1
broken_verdict Known Reading words VtOne faults faults' left rest before now back line asked work front = absurd work.1

-- a text that was not given whole
pub broken : (Known Reading : Type 0) (words : List (List ℕ)) (command : Command) (faults faults' : ℕ)
    (left rest before now : Option (List ℕ)) (back : Returned) (e : Ending)
    → Ask command words
    → CanEndWith command e
    → ((ReadsNothing command → ⊥) → Reading)
    → IsOfSource e faults faults' left rest
    → IsWork command left e back
    → WasGivenFront before now (text_of e)
    → IsBroken Known Reading words faults faults' left rest before now back
broken Known Reading words command faults faults' left rest before now back (Done report)
    asked can reads of work front = breaks_text command report.items asked work front
broken Known Reading words command faults faults' left rest before now back (BadSession line)
    asked can reads of work front =
    breaks_refusal command work.1.bad asked work.1.refused work.0
    (given_as before now line.items (bad_session_line work.1.bad) work.1.told front)
broken Known Reading words command faults faults' left rest before now back BadWords asked can reads of work front =
    absurd of
broken Known Reading words command faults faults' left rest before now back ReadFault asked can reads of work front =
    breaks_fault (reads (read_fault_reads command can)) of.0 work front
broken Known Reading words command faults faults' left rest before now back TooLong asked can reads of work front =
    breaks_long (reads (long_reads command can)) of work front
broken Known Reading words command faults faults' left rest before now back (NotLegal line)
    asked can reads of work front =
    broken_verdict Known Reading words command faults faults' left rest before now back line asked work front

-- a status that is not that of a write fault is that of the ending
pub status_is : (status n : ℕ) → (status ≡ n) ⊎ (status ≡ 4) → (status ≡ 4 → ⊥) → status ≡ n
status_is status n (inl is) other = is
status_is status n (inr four) other = absurd (other four)

-- a session that was played
done_at : (words : List (List ℕ)) (command : Command) (left before now : Option (List ℕ)) (back : Returned) (e : Ending)
    → Ask command words
    → IsWork command left e back
    → WasGiven before now (text_of e)
    → status_of e ≡ 0
    → IsDone words left before now back
done_at words command left before now back (Done report) asked work given is =
    record { command = command; text = report.items; asked = asked; done = work; given = given }
done_at words command left before now back (BadSession line) asked work given is = absurd (omega (arith, is))
done_at words command left before now back BadWords asked work given is = absurd (omega (arith, is))
done_at words command left before now back ReadFault asked work given is = absurd (omega (arith, is))
done_at words command left before now back TooLong asked work given is = absurd (omega (arith, is))
done_at words command left before now back (NotLegal line) asked work given is = absurd (omega (arith, is))

pub done_by : (words : List (List ℕ)) (command : Command) (left before now : Option (List ℕ)) (back : Returned)
    (e : Ending) (status : ℕ)
    → Ask command words
    → IsWork command left e back
    → (status ≡ status_of e) ⊎ (status ≡ 4)
    → ((status ≡ 4 → ⊥) → WasGiven before now (text_of e))
    → status ≡ 0
    → IsDone words left before now back
done_by words command left before now back e status asked work is given zero_is =
    let other : status ≡ 4 → ⊥ = λ four. omega (arith, zero_is, four) in
    done_at words command left before now back e asked work (given other)
    (sym (status_is status (status_of e) is other) ∙ zero_is)

-- a text that was refused
refused_at : (words : List (List ℕ)) (command : Command) (left before now : Option (List ℕ)) (back : Returned)
    (e : Ending)
    → Ask command words
    → IsWork command left e back
    → WasGiven before now (text_of e)
    → status_of e ≡ 1
    → IsToldRefused words left before now
refused_at words command left before now back (BadSession line) asked work given is =
    record {
      command = command;
      bad = work.1.bad;
      asked = asked;
      refused = work.1.refused;
      given = subst (λ (t : List ℕ). WasGiven before now t) work.1.told given;
    }
refused_at words command left before now back (Done report) asked work given is = absurd (omega (arith, is))
refused_at words command left before now back BadWords asked work given is = absurd (omega (arith, is))
refused_at words command left before now back ReadFault asked work given is = absurd (omega (arith, is))
refused_at words command left before now back TooLong asked work given is = absurd (omega (arith, is))
refused_at words command left before now back (NotLegal line) asked work given is = absurd (omega (arith, is))

pub refused_by : (words : List (List ℕ)) (command : Command) (left before now : Option (List ℕ)) (back : Returned)
    (e : Ending) (status : ℕ)
    → Ask command words
    → IsWork command left e back
    → (status ≡ status_of e) ⊎ (status ≡ 4)
    → ((status ≡ 4 → ⊥) → WasGiven before now (text_of e))
    → status ≡ 1
    → IsToldRefused words left before now
refused_by words command left before now back e status asked work is given one_is =
    let other : status ≡ 4 → ⊥ = λ four. omega (arith, one_is, four) in
    refused_at words command left before now back e asked work (given other)
    (sym (status_is status (status_of e) is other) ∙ one_is)

-- runs that are not all legal
illegal_line : (words : List (List ℕ)) (command : Command) (left before now : Option (List ℕ)) (back : Returned)
    (line : Contents ℕ)
    → Ask command words
    → IsWork command left (NotLegal line) back
    → WasGiven before now line.items
    → IsToldIllegal words left before now
illegal_line words (Run journals) left before now back line asked work given = absurd work.1
illegal_line words (RunOne journals) left before now back line asked work given = absurd work.1
illegal_line words Modem left before now back line asked work given = absurd work.1
illegal_line words Jobs left before now back line asked work given = absurd work.1
illegal_line words (Gen number) left before now back line asked work given = absurd work.1
illegal_line words Check left before now back line asked work given =
    record {
      verdict = work.1.verdict;
      asked = asked;
      judged = work.1.told.judged;
      illegal = work.1.illegal;
      given = subst (λ (t : List ℕ). WasGiven before now t) work.1.told.told given;
    }
illegal_line words Vt left before now back line asked work given = absurd work.1
illegal_line words VtOne left before now back line asked work given = absurd work.1

illegal_at : (words : List (List ℕ)) (command : Command) (left before now : Option (List ℕ)) (back : Returned)
    (e : Ending)
    → Ask command words
    → IsWork command left e back
    → WasGiven before now (text_of e)
    → status_of e ≡ 7
    → IsToldIllegal words left before now
illegal_at words command left before now back (NotLegal line) asked work given is =
    illegal_line words command left before now back line asked work given
illegal_at words command left before now back (Done report) asked work given is = absurd (omega (arith, is))
illegal_at words command left before now back (BadSession line) asked work given is = absurd (omega (arith, is))
illegal_at words command left before now back BadWords asked work given is = absurd (omega (arith, is))
illegal_at words command left before now back ReadFault asked work given is = absurd (omega (arith, is))
illegal_at words command left before now back TooLong asked work given is = absurd (omega (arith, is))

pub illegal_by : (words : List (List ℕ)) (command : Command) (left before now : Option (List ℕ)) (back : Returned)
    (e : Ending) (status : ℕ)
    → Ask command words
    → IsWork command left e back
    → (status ≡ status_of e) ⊎ (status ≡ 4)
    → ((status ≡ 4 → ⊥) → WasGiven before now (text_of e))
    → status ≡ 7
    → IsToldIllegal words left before now
illegal_by words command left before now back e status asked work is given seven =
    let other : status ≡ 4 → ⊥ = λ four. omega (arith, seven, four) in
    illegal_at words command left before now back e asked work (given other)
    (sym (status_is status (status_of e) is other) ∙ seven)

-- a status other than 0, 1 and 7 tells its line
line_at : (e : Ending)
    → (status_of e ≡ 0 → ⊥)
    → (status_of e ≡ 1 → ⊥)
    → (status_of e ≡ 7 → ⊥)
    → text_of e ≡ line_of (status_of e)
line_at (Done report) not_done not_refused not_illegal = absurd (not_done refl)
line_at (BadSession line) not_done not_refused not_illegal = absurd (not_refused refl)
line_at BadWords not_done not_refused not_illegal = refl
line_at ReadFault not_done not_refused not_illegal = refl
line_at TooLong not_done not_refused not_illegal = refl
line_at (NotLegal line) not_done not_refused not_illegal = absurd (not_illegal refl)

pub told_by : (before now : Option (List ℕ)) (e : Ending) (status : ℕ)
    → (status ≡ status_of e) ⊎ (status ≡ 4)
    → ((status ≡ 4 → ⊥) → WasGiven before now (text_of e))
    → WasGivenFront before now (text_of e)
    → IfSome before (λ bytes. IsTold status bytes now)
told_by None now e status is given front = front
told_by (Some bytes) now e status is given front = (
  (take front.0 (text_of e), front.2),
  λ not_done not_refused not_four not_illegal.
      let same = status_is status (status_of e) is not_four in
      given not_four
      ∙ ap (λ t. Some (bytes ++ t)) (
      line_at e (λ zero_is. not_done (same ∙ zero_is)) (λ one_is. not_refused (same ∙ one_is))
      (λ seven. not_illegal (same ∙ seven))
      ∙ ap line_of (sym same)
      ),
)
