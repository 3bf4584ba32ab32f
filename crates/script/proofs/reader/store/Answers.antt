-- `script::reader::store` meets its contract. Assumes nothing.
use Rattle.script.proofs.Clips.{stored-within, stored_past}
use Rattle.script.proofs.reader.store.Goals as goal

pub returns-then-count-value : goal.returns-then-count-value
returns-then-count-value c = stored-within _ _ _ c.if-count-value.true

pub returns-else-count-value : goal.returns-else-count-value
returns-else-count-value c = stored_past _ _ _ c.if-count-value.false
