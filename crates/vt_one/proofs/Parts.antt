-- A session of consoles was played where its board and its consoles were.
use Rattle.std.proofs.Common.{◌≡◌, List, sym, ◌∙◌, ap, subst}
use Rattle.tty_calls.specs.declared.answers.PortEnd.{PortEnd}
use Rattle.tty_calls.specs.declared.journals.PortRun.{PortRun}
use Rattle.tty_calls.specs.Sessions.{PlainSession}
use Rattle.play_base.specs.Played.{ArePlayed, AreInOneOrder}
use Rattle.vt_consoles.specs.declared.entries.VtEntry.{VtEntry}
use Rattle.vt_text.specs.Sessions.{PlainVtSession}
use Rattle.vt_account.specs.Account.{IsAccount}
use Rattle.vt_account.specs.InOrder.{entries_in_order}
use Rattle.vt_account.specs.Keyed.{keyed}
use Rattle.vt_one.specs.Played.{IsVtPlayed, IsVtInOrder}

-- the session that the consoles play, by the entries that there are
pub keyed_by : (session : PlainVtSession) (calls : PlainSession) (entries : List VtEntry)
    → entries ≡ entries_in_order session
    → calls ≡ keyed session (entries_in_order session)
    → calls ≡ keyed session entries
keyed_by session calls entries e k = k ∙ ap (keyed session) (sym e)

pub is_played : (session : PlainVtSession) (calls : PlainSession) (entries : List VtEntry) (runs : List PortRun)
    (ends : List PortEnd)
    → entries ≡ entries_in_order session
    → calls ≡ keyed session (entries_in_order session)
    → IsAccount session (entries_in_order session)
    → ArePlayed calls runs ends
    → IsVtPlayed session entries runs ends
is_played session calls entries runs ends e k account played = record {
  account = subst (IsAccount session) (sym e) account;
  consoles = subst (λ (s : PlainSession). ArePlayed s runs ends) (keyed_by session calls entries e k) played;
}

pub is_in_order : (session : PlainVtSession) (calls : PlainSession) (entries : List VtEntry) (runs : List PortRun)
    → entries ≡ entries_in_order session
    → calls ≡ keyed session (entries_in_order session)
    → AreInOneOrder calls runs
    → IsVtInOrder session entries runs
is_in_order session calls entries runs e k ordered = record {
  board = e;
  consoles = subst (λ (s : PlainSession). AreInOneOrder s runs) (keyed_by session calls entries e k) ordered;
}
