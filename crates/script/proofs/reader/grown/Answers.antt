-- `script::reader::grown` meets its contract: what is clipped stays so. Assumes nothing.
use Rattle.script.proofs.Clips.{digit-bounds}
use Rattle.script.proofs.reader.grown.Goals as goal

pub overflow_sub-next : goal.overflow_sub-next
overflow_sub-next c = (digit-bounds _ c.requires).0
