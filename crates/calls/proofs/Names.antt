-- The block that an answer names. Assumes nothing.
use mathlib.Core.Path.{◌≡◌, ap, ◌∙◌}
use mathlib.Core.List.{List}
use Prim.Native.Nat.{ℕ}
use Rattle.blocks.specs.Blocks.{block_in}
use Rattle.records.specs.declared.Source.{Source}
use Rattle.calls.specs.declared.Answer.{Answer}
use Rattle.calls.specs.declared.Answer.TheVariants.{Shown}
use Rattle.calls.specs.Answers.{table_of, shown_part}

pub names : (b i : ℕ) (blocks spare : List ℕ) (a : Answer) (s t : Source) → a ≡ Shown s → s ≡ t → shown_part a b i blocks spare ≡ block_in b i (table_of t blocks spare)
names b i blocks spare a s t e f = ap (λ x. shown_part x b i blocks spare) (e ∙ ap Shown f)
