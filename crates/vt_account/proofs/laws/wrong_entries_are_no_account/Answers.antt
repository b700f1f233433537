use Rattle.std.proofs.Common.{◌≡◌, arith}
use Rattle.vt_account.proofs.laws.wrong_entries_are_no_account.Goals as goal

pub returns : goal.returns
returns c = record {
  console_0 = λ h. let e : 0 ≡ 1 = h.run.1.1.1.1.0 in omega (arith, e);
  told = λ h. let e : 0 ≡ 1 = h.run.1.1.1.0 in omega (arith, e);
}
