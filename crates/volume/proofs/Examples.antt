-- The examples of specs/Examples, by computation. Assumes nothing.
use mathlib.Core.List.{[], ◌∷◌}
use mathlib.Core.Path.{◌≡◌, refl}
use Rattle.basics.specs.Lists as Lists
use Rattle.blocks.specs.Blocks as Blocks
use Rattle.code.specs.Code as Code
use Rattle.code.specs.Decode as Decode
use Rattle.entries.specs.Entries as Entries
use Rattle.gf256.specs.Field as Field
use Rattle.machine.specs.Calls.{step}
use Rattle.machine.specs.Failure as Failure
use Rattle.machine.specs.Rebuild as Rebuild
use Rattle.machine.specs.Stripe.{guard}
use Rattle.machine.specs.Reading as Reading
use Rattle.machine.specs.Writing as Writing
use Rattle.records.specs.Client as Client
use Rattle.records.specs.Node as Node
use Rattle.records.specs.Sizes as Sizes
use Rattle.volume.specs.Examples.{calls, of_stripes, out_of_limits, out_of_range, told_calls, told_of, within_limits}
use Rattle.volume.specs.Volume.{volume_step}

pub made : told_of calls (of_stripes 2) ≡ told_calls
unfolding told_of volume_step step guard Field.double Field.times_bits Field.product Field.squares Field.inverse Blocks.part Blocks.set_part Blocks.zip Code.code_sizes Code.coefficient Sizes.sizes_within Entries.same_id Entries.is_in Entries.is_listed Entries.is_recent_in Entries.is_old_in Entries.last_recent_after Entries.aged Entries.id_within Entries.entries_within Entries.ids_within Node.set_within Node.node_within Client.client_within Lists.list_of Lists.element_at Lists.set_at Lists.every_of Lists.some_of Writing.swap_tests Writing.swap Writing.write_tests Writing.add_tests Writing.add Failure.stop Failure.fail Decode.set_of Decode.has Decode.each
made = refl

pub refused : (out_of_range ≡ 2 ∷ 2 ∷ 2 ∷ 2 ∷ 2 ∷ 2 ∷ []) × (out_of_limits ≡ 1 ∷ 1 ∷ 1 ∷ 1 ∷ []) × (within_limits ≡ 0)
unfolding volume_step step guard Code.code_sizes Sizes.sizes_within Entries.ids_within Entries.entries_within Node.set_within Node.node_within Client.client_within Blocks.part Lists.list_of Lists.element_at Lists.set_at Lists.every_of Lists.some_of Writing.swap_tests Writing.swap Reading.read Reading.read_or Failure.stop Failure.fail Rebuild.lock Decode.set_of
refused = (refl, refl, refl)
