-- What a session of consoles comes to whose phases were all played.
use Rattle.std.proofs.Common.{◌≡◌, ℕ, length, sym, subst, arith, ◌≤◌}
use Rattle.std.proofs.lemmas.List.{drop_all}
use Rattle.tty_calls.specs.Sessions.{PlainSession}
use Rattle.play_base.specs.Played.{ArePlayed}
use Rattle.play_base.specs.declared.ports.Played.{Played}
use Rattle.vt_consoles.specs.Boards.{BoardState}
use Rattle.vt_consoles.specs.Runs.{IsBoardRun}
use Rattle.vt_text.specs.Sessions.{PlainVtSession}
use Rattle.vt_account.specs.Account.{IsAccount}
use Rattle.vt_account.specs.Keyed.{keyed}
use Rattle.vt_one.specs.Played.{IsVtPlayed}
use Rattle.vt_threads.proofs.PhaseParts.{parts_all}
use Rattle.vt_play.specs.declared.phases.VtInPlay.{VtInPlay}
use Rattle.vt_play.specs.Parts.{CanEndAll, StandAtEnd}
use Rattle.vt_play.specs.Phases.{IsBoardBefore, IsVtOver}
use Rattle.vt_play.proofs.Onward.{can_end_all, stand_at_end}

account_of : (session : PlainVtSession) (first : ℕ) (b : BoardState)
    → IsBoardBefore session (length session.phases) first b
    → IsAccount session b.entries
account_of session first b h =
    let over : length session.phases ≤ length session.phases = omega arith in
    record {
      run = subst (λ (n : ℕ). IsBoardRun n b.entries) h.consoles h.board.run;
      parts = parts_all session (length session.phases) first b.entries
          (drop_all (length session.phases) session.phases over) h.parts;
    }

pub can_end_over : (session : PlainVtSession) (v : VtInPlay) → IsVtOver session v → CanEndAll v.consoles.items
can_end_over session v h = can_end_all (keyed session v.board.entries) v.consoles.items
    (stand_at_end session v.board.entries v.consoles.items h.0 h.1.consoles)

pub vt_played : (session : PlainVtSession) (v : VtInPlay) (board : BoardState) (played : Played)
    → IsVtOver session v
    → board ≡ v.board
    → ((x : PlainSession)
    → length v.consoles.items ≡ x.ports
    → StandAtEnd x v.consoles.items
    → ArePlayed x played.runs.items played.ends.items)
    → IsVtPlayed session board.entries played.runs.items played.ends.items
vt_played session v board played h is ended =
    subst (λ (b : BoardState). IsVtPlayed session b.entries played.runs.items played.ends.items) (sym is)
    (record {
      account = account_of session v.first v.board h.1.board;
      consoles = ended (keyed session v.board.entries) h.1.count
          (stand_at_end session v.board.entries v.consoles.items h.0 h.1.consoles);
    })
