-- Worked states of job control: a shell that leads session 1, its job, and the job's child.
use Rattle.std.specs.Prelude.{ℕ, List, [], ◌∷◌, true, false, Option, None, Some, codes}
use Rattle.job_control.specs.declared.processes.Proc.{Proc}
use Rattle.job_control.specs.Control.{JobState, first_jobs, after_sctty, after_spgrp}

abbrev pub leader_proc : Proc
leader_proc = record {
  name = record { bytes = []; spare = [] };
  session = 1;
  group = 1;
  parent = None;
  leader = true;
  nottin = false;
  nottou = false;
}

abbrev pub member_of : (group : ℕ) → (parent : Option ℕ) → Proc
member_of group parent = record {
  name = record { bytes = []; spare = [] };
  session = 1;
  group = group;
  parent = parent;
  leader = false;
  nottin = false;
  nottou = false;
}

abbrev pub family : List Proc
family = leader_proc ∷ member_of 2 (Some 0) ∷ member_of 2 (Some 1) ∷ []

-- the shell holds the port
abbrev pub held : JobState
held = after_sctty (first_jobs family) 0

-- its job is in the foreground
abbrev pub given_over : JobState
given_over = after_spgrp held 0 2

-- a job without a parent
abbrev pub orphan_family : List Proc
orphan_family = leader_proc ∷ member_of 2 None ∷ []

abbrev pub orphan_held : JobState
orphan_held = after_sctty (first_jobs orphan_family) 0

-- a shell, which leads its session
abbrev pub shell : Proc
shell = record {
  name = record { bytes = codes "sh"; spare = [] };
  session = 1;
  group = 1;
  parent = None;
  leader = true;
  nottin = false;
  nottou = false;
}

-- a job of its session, in a group of its own
abbrev pub job_of : (parent : Option ℕ) → Proc
job_of parent = record {
  name = record { bytes = codes "job"; spare = [] };
  session = 1;
  group = 2;
  parent = parent;
  leader = false;
  nottin = false;
  nottou = false;
}
