-- How the lists of the code are seen as those of document 01: the first `count` items of an array. Where the count is beyond the array, blank
-- items stand for the rest, so that the list is as long as the count says, and such a list is outside the limits. Assumes nothing.
use Rattle.std.specs.Prelude.{List, ℕ, get_or}
use Rattle.basics.specs.Lists.{list_of}
use Rattle.entries.specs.declared.WriteId.{WriteId}
use Rattle.entries.specs.declared.Entry as Declared
use Rattle.entries.specs.declared.Mark.TheVariants.{Recent}
use Rattle.entries.specs.declared.Few.{Few}
use Rattle.entries.specs.Entries.{Entry}

-- the items, where d stands past the array
abbrev pub few_of : {T : Type 0} {N : ℕ} → T → Few T N → List T
few_of d s = list_of s.count (λ i. get_or s.items i d)

abbrev pub blank_id : WriteId
blank_id = record { client = 0; position = 0; number = record { 0 = 0 } }

abbrev pub ids_of : {N : ℕ} → Few WriteId N → List WriteId
ids_of s = few_of blank_id s

abbrev pub entry_of : Declared.Entry → Entry
entry_of e = record { id = record { client = e.client; position = e.position; number = e.number }; mark = e.mark; age = e.age }

abbrev pub blank_entry : Declared.Entry
blank_entry = record { number = record { 0 = 0 }; client = 0; position = 0; mark = Recent; age = record { 0 = 0 } }

abbrev pub entries_of : {N : ℕ} → Few Declared.Entry N → List Entry
entries_of s = list_of s.count (λ i. entry_of (get_or s.items i blank_entry))
