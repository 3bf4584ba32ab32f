-- Document 01, "Records" and "Writing": a node's entries, each a write id marked recent or old, in order of arrival; the limits of ids and lists.
-- Change request C-12: ages are counted in ticks.
-- Assumes nothing.
use Rattle.std.specs.Prelude.{Bool, true, false, cond, ◌&&◌, ◌||◌, not, List, [], ◌∷◌, ◌++◌, ℕ, ◌+◌, eqb, leb, ltb, Option, None, Some}
use Rattle.entries.specs.declared.WriteId.{WriteId}
use Rattle.entries.specs.declared.Age.{Age}
use Rattle.entries.specs.declared.Mark.{Mark}
use Rattle.entries.specs.declared.Mark.TheVariants.{Recent, Old}

-- "up to 16 entries, each a write id marked recent or old"; "An entry's age"
pub record Entry : Type 0 where
  pub id : WriteId
  pub mark : Mark
  pub age : Age

-- "up to 16 entries"; "a finished list of up to 8 ids"
abbrev pub entry_limit : ℕ
entry_limit = 16

abbrev pub finished_limit : ℕ
finished_limit = 8

-- "8: swap after 1,000,000 writes of c": write numbers, from 0, are below
abbrev pub write_limit : ℕ
write_limit = 1000000

-- "up to 255"; "age 64 or more"
abbrev pub age_limit : ℕ
age_limit = 255

abbrev pub due_age : ℕ
due_age = 64

-- "A write id is client, position and write number"
unfoldable pub same_id : WriteId → WriteId → Bool
same_id x y = eqb x.client y.client && (eqb x.position y.position && eqb x.number.0 y.number.0)

abbrev pub marked : Mark → Bool
marked Recent = true
marked Old = false

abbrev pub is_recent : Entry → Bool
is_recent e = marked e.mark

unfoldable pub is_in : WriteId → List WriteId → Bool
is_in x [] = false
is_in x (y ∷ ids) = same_id y x || is_in x ids

-- whether the id is listed at all, as recent, as old
unfoldable pub is_listed : WriteId → List Entry → Bool
is_listed x [] = false
is_listed x (e ∷ es) = same_id e.id x || is_listed x es

unfoldable pub is_recent_in : WriteId → List Entry → Bool
is_recent_in x [] = false
is_recent_in x (e ∷ es) = (is_recent e && same_id e.id x) || is_recent_in x es

unfoldable pub is_old_in : WriteId → List Entry → Bool
is_old_in x [] = false
is_old_in x (e ∷ es) = (not (is_recent e) && same_id e.id x) || is_old_in x es

-- "Previous id = last recent id there, or none"
unfoldable pub last_recent_after : Option WriteId → List Entry → Option WriteId
last_recent_after p [] = p
last_recent_after p (e ∷ es) = last_recent_after (cond (is_recent e) (Some e.id) p) es

abbrev pub last_recent : List Entry → Option WriteId
last_recent es = last_recent_after None es

-- "there is no previous id, or it isn't recent there"
abbrev pub previous_recent : Option WriteId → List Entry → Bool
previous_recent None es = false
previous_recent (Some x) es = is_recent_in x es

-- C-12: "A tick call adds 1 to the age of each recent entry .., up to 255". An old one keeps the age that it has
abbrev pub older : Age → Age
older a = record { 0 = cond (ltb a.0 age_limit) (a.0 + 1) a.0 }

abbrev pub aged_entry : Entry → Entry
aged_entry e = record { id = e.id; mark = e.mark; age = cond (is_recent e) (older e.age) e.age }

unfoldable pub aged : List Entry → List Entry
aged [] = []
aged (e ∷ es) = aged_entry e ∷ aged es

-- "the id entered as recent"; "An entry's age starts at 0"
abbrev pub new_entry : WriteId → Entry
new_entry x = record { id = x; mark = Recent; age = record { 0 = 0 } }

-- C-12: "swaps and adds no longer age anything"
abbrev pub enter : WriteId → List Entry → List Entry
enter x es = es ++ (new_entry x ∷ [])

-- "discarding old entries whose ids are in the moved list"
unfoldable pub discard : List WriteId → List Entry → List Entry
discard ids [] = []
discard ids (e ∷ es) = cond (not (is_recent e) && is_in e.id ids) (discard ids es) (e ∷ discard ids es)

-- "marking the finished ids old"
abbrev pub marked_entry : List WriteId → Entry → Entry
marked_entry ids e = record { id = e.id; mark = cond (is_in e.id ids) Old e.mark; age = e.age }

unfoldable pub mark_old : List WriteId → List Entry → List Entry
mark_old ids [] = []
mark_old ids (e ∷ es) = marked_entry ids e ∷ mark_old ids es

-- "a recent entry has age 64 or more"
unfoldable pub some_due : List Entry → Bool
some_due [] = false
some_due (e ∷ es) = (is_recent e && leb due_age e.age.0) || some_due es

-- one of the numbers 1 to n
abbrev pub is_up_to : ℕ → ℕ → Bool
is_up_to n x = leb 1 x && leb x n

-- "record .. outside the limits" (docs/DECISIONS.md): every number in its range, for k positions and m clients
unfoldable pub id_within : ℕ → ℕ → WriteId → Bool
id_within k m x = is_up_to m x.client && (is_up_to k x.position && ltb x.number.0 write_limit)

abbrev pub previous_within : ℕ → ℕ → Option WriteId → Bool
previous_within k m None = true
previous_within k m (Some x) = id_within k m x

unfoldable pub ids_within : ℕ → ℕ → List WriteId → Bool
ids_within k m [] = true
ids_within k m (x ∷ ids) = id_within k m x && ids_within k m ids

unfoldable pub entries_within : ℕ → ℕ → List Entry → Bool
entries_within k m [] = true
entries_within k m (e ∷ es) = id_within k m e.id && (leb e.age.0 age_limit && entries_within k m es)
