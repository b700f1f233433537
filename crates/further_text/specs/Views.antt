-- What the reader's value is as plain data.
use Rattle.session_text.specs.Views.{reading_of}
use Rattle.further_text.specs.declared.reader.BaseReader.{BaseReader}
use Rattle.further_text.specs.Reading.{BaseReading}

abbrev pub base_of : BaseReader → BaseReading
base_of r = record {
  session = reading_of r.session;
  ports = r.ports;
  left_at_opening = r.left_at_opening;
  steps_left = r.steps_left;
}
