-- The first words of the lines that a session of processes has beside those of every session.
use Rattle.std.specs.Prelude.{ℕ, List, [], ◌∷◌, Option, codes}
use Rattle.text_lines.specs.Values.{choice_of}
use Rattle.job_text.specs.declared.verbs.JobVerb.{JobVerb}
use Rattle.job_text.specs.declared.verbs.JobVerb.TheVariants.{Proc, Sctty, Notty, Gpgrp, Spgrp, Exit}

-- what each is written as
abbrev pub verb_text : JobVerb → List ℕ
verb_text Proc = codes "proc"
verb_text Sctty = codes "sctty"
verb_text Notty = codes "notty"
verb_text Gpgrp = codes "gpgrp"
verb_text Spgrp = codes "spgrp"
verb_text Exit = codes "exit"

abbrev pub all_verbs : List JobVerb
all_verbs = Proc ∷ Sctty ∷ Notty ∷ Gpgrp ∷ Spgrp ∷ Exit ∷ []

-- the verb that a word is, if it is one
abbrev pub verb_of : List ℕ → Option JobVerb
verb_of word = choice_of verb_text all_verbs word
