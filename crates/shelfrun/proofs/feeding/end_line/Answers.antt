-- The line that the reader tells is answered. Assumes nothing.
use Rattle.script.proofs.Reading.{ends}
use Rattle.shelfrun.proofs.Bytes.{line-answered, put-fits, small}
use Rattle.shelfrun.proofs.feeding.end_line.Goals as goal

pub returns : goal.returns
returns c = let args = c.args in record {
  end_in_bounds = put-fits c.answer.ensures.text;
  answers = λ x k.
      line-answered (small args.stripe args.blocks.now args.spare.now args.differences.now) (ends c.finish.ensures)
      (c.in_shelfrun-line.ensures _) c.answer.ensures k;
}
