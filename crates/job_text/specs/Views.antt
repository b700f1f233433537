-- What the reader's values are as plain data. Nothing is said of the room behind a name.
use Rattle.std.specs.Prelude.{map}
use Rattle.text_lines.specs.Lines.{words_of}
use Rattle.further_text.specs.Views.{base_of}
use Rattle.job_text.specs.declared.procs.ProcWords.{ProcWords as PartedLine}
use Rattle.job_text.specs.declared.reader.JobsReader.{JobsReader}
use Rattle.job_text.specs.Procs.{ProcWords}
use Rattle.job_text.specs.Sessions.{own_of}
use Rattle.job_text.specs.Reading.{JobsReading}

abbrev pub proc_words_of : PartedLine → ProcWords
proc_words_of w = record {
  name = w.name.now;
  port = w.port.now;
  session = w.session.now;
  group = w.group.now;
  parent = w.parent.now;
  flags = words_of w.flags.now;
}

abbrev pub jobs_reading_of : JobsReader → JobsReading
jobs_reading_of r = record {
  base = base_of r.base;
  open_block = r.block.block;
  procs = r.procs;
  exited = r.block.exited;
  scripts = r.callers.items;
  own = r.own.items;
  parts = map own_of r.parts.items;
}
