use Rattle.std.proofs.Common.{rules}
use Rattle.job_one.proofs.controls.spgrp_checked.Goals as goal

pub returns-in-Pass : goal.returns-in-Pass
returns-in-Pass c = search rules steps 1000000

pub returns-in-Eio : goal.returns-in-Eio
returns-in-Eio c = search rules steps 1000000

pub returns-in-Stop : goal.returns-in-Stop
returns-in-Stop c = search rules steps 1000000
