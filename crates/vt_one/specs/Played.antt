-- What playing a session of consoles comes to.
use Rattle.std.specs.Prelude.{◌≡◌, List}
use Rattle.tty_calls.specs.declared.answers.PortEnd.{PortEnd}
use Rattle.tty_calls.specs.declared.journals.PortRun.{PortRun}
use Rattle.play_base.specs.Played.{ArePlayed, AreInOneOrder}
use Rattle.vt_consoles.specs.declared.entries.VtEntry.{VtEntry}
use Rattle.vt_text.specs.Sessions.{PlainVtSession}
use Rattle.vt_account.specs.Account.{IsAccount}
use Rattle.vt_account.specs.InOrder.{entries_in_order}
use Rattle.vt_account.specs.Keyed.{keyed}

-- The session was played: the board's entries are its account, and the run of each console is one of the session that
-- the consoles play, in which each key comes to the console that its entry names.
pub record IsVtPlayed (session : PlainVtSession) (entries : List VtEntry) (runs : List PortRun)
    (ends : List PortEnd) : Type 0 where
  pub account : IsAccount session entries
  pub consoles : ArePlayed (keyed session entries) runs ends

-- .. in the order of one thread, on the board and on each console
pub record IsVtInOrder (session : PlainVtSession) (entries : List VtEntry) (runs : List PortRun) : Type 0 where
  pub board : entries ≡ entries_in_order session
  pub consoles : AreInOneOrder (keyed session entries) runs
