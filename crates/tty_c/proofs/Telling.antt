-- What was met as a number, and as bytes in a place, is what the outcome says.
use Rattle.std.proofs.Common.{◌≡◌, ℕ, pos, List, refl, ap}
use Rattle.tty_calls.specs.declared.answers.Answer.{Answer}
use Rattle.tty_calls.specs.Plain.{answer_of}
use Rattle.tty_terminal.specs.declared.rooms.Met.TheVariants as met
use Rattle.tty_terminal.specs.Outcomes.{Outcome, unknown, waits as must_wait, takes, gives}
use Rattle.tty_terminal.specs.Meeting.{Meets}
use Rattle.tty_c.specs.declared.told.Detail.{Detail}
use Rattle.tty_c.specs.Answers.{waits}
use Rattle.tty_c.specs.Calls.{answer_number, outcome_number, place_with, place_after}

pub told_gives : (t : Detail) (o : Outcome) (given : Answer)
    → Meets o (met.Gives given)
    → answer_number t (answer_of given) ≡ outcome_number t o
told_gives t unknown given h = absurd h
told_gives t must_wait given h = absurd h
told_gives t (takes n left) given h = absurd h
told_gives t (gives answer drops left) given h = ap (answer_number t) h

pub told_takes : (t : Detail) (o : Outcome) (count : ℕ) → Meets o (met.Takes count) → pos count ≡ outcome_number t o
told_takes t unknown count h = absurd h
told_takes t must_wait count h = absurd h
told_takes t (takes n left) count h = ap pos h
told_takes t (gives answer drops left) count h = absurd h

pub told_waits : (t : Detail) (o : Outcome) → Meets o met.Waits → waits ≡ outcome_number t o
told_waits t unknown h = absurd h
told_waits t must_wait h = refl
told_waits t (takes n left) h = absurd h
told_waits t (gives answer drops left) h = absurd h

pub place_gives : (place : List ℕ) (o : Outcome) (given : Answer)
    → Meets o (met.Gives given)
    → place_with (answer_of given) place ≡ place_after o place
place_gives place unknown given h = absurd h
place_gives place must_wait given h = absurd h
place_gives place (takes n left) given h = absurd h
place_gives place (gives answer drops left) given h = ap (λ a. place_with a place) h

pub place_takes : (place : List ℕ) (o : Outcome) (count : ℕ) → Meets o (met.Takes count) → place ≡ place_after o place
place_takes place unknown count h = absurd h
place_takes place must_wait count h = absurd h
place_takes place (takes n left) count h = refl
place_takes place (gives answer drops left) count h = absurd h

pub place_waits : (place : List ℕ) (o : Outcome) → Meets o met.Waits → place ≡ place_after o place
place_waits place unknown h = absurd h
place_waits place must_wait h = refl
place_waits place (takes n left) h = absurd h
place_waits place (gives answer drops left) h = absurd h
