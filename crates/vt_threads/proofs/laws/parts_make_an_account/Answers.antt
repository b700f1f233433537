use Rattle.std.proofs.Common.{ℕ, ◌≤◌, length, subst, arith}
use Rattle.std.proofs.lemmas.List.{drop_all}
use Rattle.vt_consoles.specs.Runs.{IsBoardRun}
use Rattle.vt_threads.proofs.PhaseParts.{parts_none, parts_more, parts_all}
use Rattle.vt_threads.proofs.laws.parts_make_an_account.Goals as goal

pub returns-clause-none : goal.returns-clause-none
returns-clause-none c session = parts_none session

pub returns-clause-more : goal.returns-clause-more
returns-clause-more c session k first phase entries part e h is = parts_more session k first phase entries part e h is

pub returns-clause-all : goal.returns-clause-all
returns-clause-all c session first b board same h =
    let over : length session.phases ≤ length session.phases = omega arith in
    record {
      run = subst (λ (n : ℕ). IsBoardRun n b.entries) same board.run;
      parts = parts_all session (length session.phases) first b.entries
          (drop_all (length session.phases) session.phases over) h;
    }
