-- The fresh records are the machine's. Assumes nothing.
use mathlib.Core.Path.{refl}
use Rattle.records.specs.Sizes.{sizes_within}
use Rattle.code.specs.Code.{code_sizes}
use Rattle.shelfrun.specs.Shelfrun.{sizes}
use Rattle.shelfrun.proofs.feeding.Shelf.new.Goals as goal

pub returns : goal.returns
unfolding sizes_within code_sizes
returns c = record {
  lines_value = refl;
  keeps = record {
    begins = refl;
    is = record { count = refl; line = c.new-reader.ensures _; stripe = c.fresh-stripe.ensures.is sizes _ _ refl };
  };
}
