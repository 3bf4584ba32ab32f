-- `script::reader::LineReader::new` meets its contract. Assumes nothing.
use mathlib.Core.Path.{refl}
use Rattle.script.specs.Reading.{HasRead, goes_on}
use Rattle.script.proofs.reader.LineReader.new.Goals as goal

pub returns : goal.returns
unfolding HasRead goes_on
returns c = λ value rest. refl
