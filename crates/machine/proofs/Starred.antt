-- The starred examples of document 01, all at once, by computation. Assumes nothing.
use mathlib.Core.Path.{◌≡◌, refl}
use Rattle.basics.specs.Lists as Lists
use Rattle.gf256.specs.Field as Field
use Rattle.blocks.specs.Blocks as Blocks
use Rattle.code.specs.Code as Code
use Rattle.code.specs.Decode as Decode
use Rattle.code.specs.Calls as Calls
use Rattle.entries.specs.Entries as Entries
use Rattle.records.specs.Sizes as Sizes
use Rattle.records.specs.Node as Node
use Rattle.records.specs.Client as Client
use Rattle.machine.specs.Stripe as Stripe
use Rattle.machine.specs.Writing as Writing
use Rattle.machine.specs.Rebuild as Rebuild
use Rattle.machine.specs.Failure as Failure
use mathlib.Core.List.{[], ◌∷◌, ◌++◌}
use Rattle.machine.specs.Calls.{step, Fail}
use Rattle.machine.specs.Examples.{after, times, rebuilt_after, half_written, c1, c2, c3, c4, c5, c7, d1, d2, d3, d4, d5, d7, definitions, document}

-- One by one: compared as one list they would not compute within the checker's limit.
coded : (c1 ≡ d1) × (c2 ≡ d2) × (c3 ≡ d3) × (c4 ≡ d4) × (c5 ≡ d5)
unfolding Field.double Field.times_bits Field.product Field.squares Field.inverse Blocks.part Blocks.set_part Blocks.byte_at Lists.list_of Blocks.table Blocks.zip Code.code_sizes Code.sum Code.coefficient Code.row Code.symbol Code.redundant Decode.has Decode.set_of Decode.members_from Decode.others Decode.scale Decode.recover Decode.recovered Decode.recovered_table Decode.each Decode.invertible Calls.is_in
coded = (refl, refl, refl, refl, refl)

six : rebuilt_after 1 half_written ≡ 1 ∷ 2 ∷ 3 ∷ 1 ∷ 0 ∷ 142 ∷ 244 ∷ 1 ∷ 1 ∷ []
unfolding after times step Field.double Field.times_bits Field.product Field.squares Field.inverse Blocks.part Blocks.set_part Blocks.byte_at Lists.list_of Blocks.table Blocks.zip Code.code_sizes Code.sum Code.coefficient Code.row Code.symbol Code.redundant Decode.has Decode.set_of Decode.members_from Decode.others Decode.scale Decode.recover Decode.recovered Decode.recovered_table Decode.each Decode.invertible Calls.is_in Sizes.sizes_within Entries.same_id Entries.is_in Entries.is_listed Entries.is_recent_in Entries.is_old_in Entries.last_recent_after Entries.aged Entries.id_within Entries.entries_within Node.set_within Node.node_within Entries.ids_within Client.unl_or_exp Client.client_within Lists.element_at Lists.set_at Stripe.guard Lists.every_of Lists.some_of Writing.swap_tests Writing.swap Writing.write_tests Writing.add_tests Writing.add Failure.stop Failure.fail Rebuild.holding Rebuild.lock_node Rebuild.lock Rebuild.recent_ids Rebuild.at_position Rebuild.largest Rebuild.count_init Rebuild.largest_epoch Rebuild.pick_now Rebuild.pick Rebuild.write Rebuild.settle
six = refl

seven : c7 ≡ d7
unfolding after times step Field.double Field.times_bits Field.product Field.squares Field.inverse Blocks.part Blocks.set_part Blocks.byte_at Lists.list_of Blocks.table Blocks.zip Code.code_sizes Code.sum Code.coefficient Code.row Code.symbol Code.redundant Decode.has Decode.set_of Decode.members_from Decode.others Decode.scale Decode.recover Decode.recovered Decode.recovered_table Decode.each Decode.invertible Calls.is_in Sizes.sizes_within Entries.same_id Entries.is_in Entries.is_listed Entries.is_recent_in Entries.is_old_in Entries.last_recent_after Entries.aged Entries.id_within Entries.entries_within Node.set_within Node.node_within Entries.ids_within Client.unl_or_exp Client.client_within Lists.element_at Lists.set_at Stripe.guard Lists.every_of Lists.some_of Writing.swap_tests Writing.swap Writing.write_tests Writing.add_tests Writing.add Failure.stop Failure.fail Rebuild.holding Rebuild.lock_node Rebuild.lock Rebuild.recent_ids Rebuild.at_position Rebuild.largest Rebuild.count_init Rebuild.largest_epoch Rebuild.pick_now Rebuild.pick Rebuild.write Rebuild.settle
seven = refl

eight : rebuilt_after 1 (half_written ++ (Fail 1 (9 ∷ []) ∷ [])) ≡ 2 ∷ 3 ∷ 1 ∷ 0 ∷ 142 ∷ 244 ∷ 1 ∷ 1 ∷ []
unfolding after times step Field.double Field.times_bits Field.product Field.squares Field.inverse Blocks.part Blocks.set_part Blocks.byte_at Lists.list_of Blocks.table Blocks.zip Code.code_sizes Code.sum Code.coefficient Code.row Code.symbol Code.redundant Decode.has Decode.set_of Decode.members_from Decode.others Decode.scale Decode.recover Decode.recovered Decode.recovered_table Decode.each Decode.invertible Calls.is_in Sizes.sizes_within Entries.same_id Entries.is_in Entries.is_listed Entries.is_recent_in Entries.is_old_in Entries.last_recent_after Entries.aged Entries.id_within Entries.entries_within Node.set_within Node.node_within Entries.ids_within Client.unl_or_exp Client.client_within Lists.element_at Lists.set_at Stripe.guard Lists.every_of Lists.some_of Writing.swap_tests Writing.swap Writing.write_tests Writing.add_tests Writing.add Failure.stop Failure.fail Rebuild.holding Rebuild.lock_node Rebuild.lock Rebuild.recent_ids Rebuild.at_position Rebuild.largest Rebuild.count_init Rebuild.largest_epoch Rebuild.pick_now Rebuild.pick Rebuild.write Rebuild.settle
eight = refl

-- the list of examples is the document's
pub examples : definitions ≡ document
examples = λ i. coded.0 i ∷ coded.1 i ∷ coded.2 i ∷ coded.3 i ∷ coded.4 i ∷ six i ∷ seven i ∷ eight i ∷ []
