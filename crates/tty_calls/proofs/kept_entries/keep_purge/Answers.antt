use Rattle.std.proofs.Common.{ap, sym, ◌∙◌, subst, [], ◌∷◌, slice_get, append-nil, ℕ}
use Rattle.tty_calls.specs.declared.kept_entries.Lists.{Lists}
use Rattle.tty_calls.specs.Plain.{answer_lent}
use Rattle.tty_calls.specs.Entries.{Grows, HasPurge, purge_at}
use Rattle.tty_calls.proofs.Growing.{purge_is, purge_has}
use Rattle.tty_calls.proofs.kept_entries.keep_purge.Goals as goal

abbrev after : goal.After-add → Lists
after c = record c.keep_answer-answer.new.lists { characters = c.keep-dropped.new.self; purges = c.add.new.self }

grows : (c : goal.After-add) → Grows c.keep_answer-answer.new.lists (after c)
grows c =
    record {
      bytes = ([], sym (append-nil _));
      characters = (c.args.dropped.now, ap (λ l. l.items) c.keep-dropped.ensures.list);
      modes = ([], sym (append-nil _));
      counts = ([], sym (append-nil _));
      purges = (
        record { answer = c.keep_answer-answer.result; dropped = c.keep-dropped.result } ∷ [],
        ap (λ l. l.items) c.add.ensures.list,
      );
      sents = ([], sym (append-nil _));
    }

pub returns-clause-event : goal.returns-clause-event
returns-clause-event c =
    ap (λ (n : ℕ). purge_at (after c) (slice_get c.add.new.self.items n)) c.add.ensures.place
    ∙ purge_is c.keep_answer-answer.new.lists (after c) c.keep_answer-answer.new.lists.purges.items
    c.keep_answer-answer.result c.keep-dropped.result (answer_lent c.args.answer.now)
    c.keep_answer-answer.new.lists.characters.items c.args.dropped.now
    (grows c) c.keep_answer-answer.ensures.there c.keep_answer-answer.ensures.answer
    (ap (λ l. l.items) c.add.ensures.list) (ap (λ l. l.items) c.keep-dropped.ensures.list) c.keep-dropped.ensures.part

pub returns-clause-there : goal.returns-clause-there
returns-clause-there c =
    subst (λ (n : ℕ). HasPurge (after c) (slice_get c.add.new.self.items n)) (sym c.add.ensures.place)
    (purge_has c.keep_answer-answer.new.lists (after c) c.keep_answer-answer.new.lists.purges.items
    c.keep_answer-answer.result c.keep-dropped.result (answer_lent c.args.answer.now)
    c.keep_answer-answer.new.lists.characters.items c.args.dropped.now
    (grows c) c.keep_answer-answer.ensures.there c.keep_answer-answer.ensures.answer
    (ap (λ l. l.items) c.add.ensures.list) (ap (λ l. l.items) c.keep-dropped.ensures.list) c.keep-dropped.ensures.part)
