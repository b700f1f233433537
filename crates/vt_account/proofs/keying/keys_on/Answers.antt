use Rattle.std.proofs.Common.{rules}
use Rattle.vt_account.proofs.keying.keys_on.Goals as goal

pub returns-then-active-p : goal.returns-then-active-p
returns-then-active-p c = search rules steps 100000
