-- `volumescript::reader::VolumeReader::new` meets its contract. Assumes nothing.
use mathlib.Core.Path.{refl}
use Rattle.volumescript.specs.Reading.{HasRead, goes_on}
use Rattle.volumescript.proofs.reader.VolumeReader.new.Goals as goal

pub returns : goal.returns
unfolding HasRead goes_on
returns c = λ value rest. refl
