use Rattle.vt_account.proofs.Accounting.{in_order_is_account}
use Rattle.vt_account.proofs.laws.entries_in_order_are_an_account.Goals as goal

pub returns : goal.returns
returns c = in_order_is_account
