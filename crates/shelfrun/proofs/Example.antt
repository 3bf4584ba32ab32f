-- Document 01, "Due test and runner": "Input .. prints exactly". Assumes nothing.
use mathlib.Core.Path.{◌≡◌, refl}
use Rattle.basics.specs.Lists as Lists
use Rattle.gf256.specs.Field as Field
use Rattle.blocks.specs.Blocks as Blocks
use Rattle.code.specs.Code as Code
use Rattle.code.specs.Decode as Decode
use Rattle.code.specs.Calls as Calls
use Rattle.entries.specs.Entries as Entries
use Rattle.records.specs.Sizes as Sizes
use Rattle.records.specs.Node as Node
use Rattle.records.specs.Client as Client
use Rattle.machine.specs.Stripe as Stripe
use Rattle.machine.specs.Reading as Reading
use Rattle.machine.specs.Writing as Writing
use Rattle.machine.specs.Calls.{step}
use Rattle.script.specs.Lines as Lines
use Rattle.shelfrun.specs.Shelfrun.{output_of, left, shelfrun, example_input, example_output}

pub example : shelfrun example_input ≡ example_output
unfolding shelfrun output_of left step Lines.parts Lines.digits_from Lines.numeral Lines.hex_digit Lines.bytes_of Lines.call_by Lines.line_of Lines.hex Lines.decimal_in Field.double Field.times_bits Field.product Field.squares Field.inverse Blocks.part Blocks.set_part Blocks.byte_at Lists.list_of Blocks.table Blocks.zip Code.code_sizes Code.coefficient Decode.has Decode.set_of Decode.each Calls.is_in Sizes.sizes_within Entries.same_id Entries.is_in Entries.is_listed Entries.is_recent_in Entries.is_old_in Entries.last_recent_after Entries.aged Entries.id_within Entries.entries_within Node.set_within Node.node_within Entries.ids_within Client.unl_or_exp Client.client_within Lists.element_at Lists.set_at Stripe.guard Lists.every_of Lists.some_of Writing.swap_tests Writing.swap Writing.write_tests Writing.add_tests Writing.add Reading.read Reading.read_or
example = refl
