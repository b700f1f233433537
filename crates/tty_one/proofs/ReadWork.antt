-- How much was read by the work that ended with a status.
use Rattle.std.proofs.Common.{◌≡◌, ◌⊎◌, arith, ℕ, List, Option, None, Some, IfSome, refl, sym, ◌∙◌}
use Rattle.tty_base.specs.Outside.{LeavesRest, TookCount}
use Rattle.tty_one.specs.declared.works.Ending.{Ending}
use Rattle.tty_one.specs.declared.works.Ending.TheVariants.{Done, BadSession, BadWords, ReadFault, TooLong, NotLegal}
use Rattle.tty_one.specs.Endings.{status_of, IsOfSource}
use Rattle.tty_one.proofs.ToldWork.{status_is}

took_at : (e : Ending) (faults faults' : ℕ) (left rest : Option (List ℕ))
    → IsOfSource e faults faults' left rest
    → status_of e ≡ 6
    → IfSome left (λ bytes. TookCount 4194305 bytes rest)
took_at (Done report) faults faults' left rest of is = absurd (omega (arith, is))
took_at (BadSession line) faults faults' left rest of is = absurd (omega (arith, is))
took_at BadWords faults faults' left rest of is = absurd of
took_at ReadFault faults faults' left rest of is = absurd (omega (arith, is))
took_at TooLong faults faults' left rest of is = of
took_at (NotLegal line) faults faults' left rest of is = absurd (omega (arith, is))

pub took_by : (e : Ending) (status faults faults' : ℕ) (left rest : Option (List ℕ))
    → IsOfSource e faults faults' left rest
    → (status ≡ status_of e) ⊎ (status ≡ 4)
    → IfSome left (λ bytes. status ≡ 6 → TookCount 4194305 bytes rest)
took_by e status faults faults' None rest of is = tt
took_by e status faults faults' (Some bytes) rest of is = λ six.
    let other : status ≡ 4 → ⊥ = λ four. omega (arith, six, four) in
    took_at e faults faults' (Some bytes) rest of (sym (status_is status (status_of e) is other) ∙ six)

pub long_by : (e : Ending) (status faults faults' : ℕ) (left rest : Option (List ℕ))
    → IsOfSource e faults faults' left rest
    → (status ≡ status_of e) ⊎ (status ≡ 4)
    → IfSome left (λ bytes. TookCount 4194305 bytes rest → (status ≡ 6) ⊎ (status ≡ 4))
long_by e status faults faults' None rest of is = tt
long_by (Done report) status faults faults' (Some bytes) rest of is = λ took. absurd (of took)
long_by (BadSession line) status faults faults' (Some bytes) rest of is = λ took. absurd (of took)
long_by BadWords status faults faults' (Some bytes) rest of is = λ took. absurd of
long_by ReadFault status faults faults' (Some bytes) rest of is = λ took. absurd (of.1 took)
long_by TooLong status faults faults' (Some bytes) rest of is = λ took. is
long_by (NotLegal line) status faults faults' (Some bytes) rest of is = λ took. absurd (of took)

-- a source that was not read has left all
pub nothing_read : (left : Option (List ℕ)) → IfSome left (λ bytes. LeavesRest bytes left)
nothing_read None = tt
nothing_read (Some bytes) = (0, omega arith, refl)
