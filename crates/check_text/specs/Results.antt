-- What a function that reads a line answers, beside what the line is.
use Rattle.std.specs.Prelude.{◌≡◌, Result, Ok, Err}
use Rattle.check_text.specs.declared.faults.LineFault.{LineFault}
use Rattle.check_text.specs.declared.faults.LineFault.TheVariants.{Wrong, NoMemory}
use Rattle.check_text.specs.Fields.{Read}

-- a result is what is read, seen by view; want of memory is free
abbrev pub FailsAs : {Y : Type 0} → LineFault → Read Y → Type 0
FailsAs (Wrong reason) read = read ≡ Err reason
FailsAs NoMemory read = Unit {0}

abbrev pub ReadsAs : {X Y : Type 0} → (X → Y) → Result X LineFault → Read Y → Type 0
ReadsAs view (Ok x) read = read ≡ Ok (view x)
ReadsAs view (Err fault) read = FailsAs fault read
