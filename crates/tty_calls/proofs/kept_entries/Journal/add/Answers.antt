use Rattle.std.proofs.Common.{ap, ◌∙◌, ◌<◌, map, length, [], ◌∷◌, ◌++◌, List, sym, subst, slice_index_or, ℕ}
use Rattle.tty_calls.specs.declared.kept_entries.KeptEntry.{KeptEntry}
use Rattle.tty_calls.specs.Plain.{PlainEvent, entry_of}
use Rattle.tty_calls.specs.Entries.{JournalValue, HasEntry, entry_in}
use Rattle.tty_calls.proofs.Growing.{entry_more, has_more}
use Rattle.tty_calls.proofs.kept_entries.Journal.add.Goals as goal

-- the entry as it is kept
abbrev kept : goal.After-add → KeptEntry
kept c =
    let e = c.args.entry.now in
    record { who = e.who; step = e.step; part = e.part; generation = e.generation; event = c.keep_event-event.result }

pub invariant_of-self : goal.invariant_of-self
invariant_of-self c =
    subst (λ (es : List KeptEntry).
    (i : ℕ) (d : KeptEntry) → i < length es → HasEntry c.keep_event-event.new.lists (slice_index_or es i d))
    (sym (ap (λ l. l.items) c.add.ensures.list))
    (has_more c.self.inside.lists c.keep_event-event.new.lists c.self.inside.entries.items (kept c)
    c.keep_event-event.ensures.grows c.self.invariant c.keep_event-event.ensures.there)

pub returns : goal.returns
returns c =
    let e = c.args.entry.now in
    ap (λ (es : List KeptEntry). map (entry_in c.keep_event-event.new.lists) es) (ap (λ l. l.items) c.add.ensures.list)
    ∙ entry_more c.self.inside.lists c.keep_event-event.new.lists c.self.inside.entries.items (kept c) (entry_of e)
    c.keep_event-event.ensures.grows c.self.invariant
    (ap (λ (v : PlainEvent). record { who = e.who; step = e.step; part = e.part; generation = e.generation; event = v })
    c.keep_event-event.ensures.event)
    ∙ ap (λ (l : JournalValue). l.items ++ entry_of e ∷ []) c.self.view_is
