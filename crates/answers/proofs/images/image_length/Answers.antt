-- No image is longer than the longest.
use Rattle.image.proofs.Longest.{length_most}
use Rattle.answers.proofs.images.image_length.Goals as goal

pub returns : goal.returns
returns c = rw c.length.ensures (length_most c.args.z)
