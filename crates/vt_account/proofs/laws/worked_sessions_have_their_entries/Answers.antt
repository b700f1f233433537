use Rattle.std.proofs.Common.{refl}
use Rattle.vt_account.proofs.laws.worked_sessions_have_their_entries.Goals as goal

pub returns : goal.returns
returns c = record { two_consoles = refl; refused = refl }
