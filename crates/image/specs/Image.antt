-- Change request C-13, docs/IMAGE.md: the image of a stripe, its length, and what may be written. Assumes nothing.
use Rattle.std.specs.Prelude.{Bool, true, ◌&&◌, List, [], ◌∷◌, ◌++◌, ℕ, ◌+◌, ◌*◌, eqb, length, get_or, Option, None, Some}
use Rattle.octets.specs.Octets.{word_bytes, joined}
use Rattle.basics.specs.Lists.{every_of}
use Rattle.code.specs.Decode.{NodeSet}
use Rattle.machine.specs.Stripe.{Stripe, nodes_fit, blocks_fit, differences_fit}
use Rattle.records.specs.declared.Sizes.{Sizes}
use Rattle.records.specs.Client.{Client, Write, Rebuild, NoRebuild, Locking, Picking, Writing, Settling, Unlocking, fresh_client, client_within}
use Rattle.records.specs.Node.{Node, failed_node}
use Rattle.records.specs.Sizes.{node_limit, sizes_within}
use Rattle.image.specs.Records.{node_width, node_bytes, client_width, client_bytes}

-- "Sizes, 8 bytes"
abbrev pub sizes_width : ℕ
sizes_width = 8

abbrev pub sizes_bytes : Sizes → List ℕ
sizes_bytes z = z.k ∷ z.n ∷ z.failures ∷ z.m ∷ word_bytes z.b

-- "node records, node 1 first"; "client records, client 1 first"
unfoldable pub nodes_bytes : List Node → List ℕ
nodes_bytes nodes = joined (length nodes) (λ i. node_bytes (get_or nodes i failed_node))

unfoldable pub clients_bytes : List Client → List ℕ
clients_bytes clients = joined (length clients) (λ i. client_bytes (get_or clients i fresh_client))

-- the lengths of the six sections: sizes, node records, client records, blocks, differences, spare
abbrev pub lengths : Sizes → List ℕ
lengths z = sizes_width ∷ z.n * node_width ∷ z.m * client_width ∷ z.n * z.b ∷ z.m * z.b ∷ z.n * z.b ∷ []

-- pairs of offset and length: each section begins where the one before ends
abbrev pub pairs : ℕ → List ℕ → List ℕ
pairs at [] = []
pairs at (w ∷ ws) = at ∷ w ∷ pairs (at + w) ws

abbrev pub words_bytes : List ℕ → List ℕ
words_bytes [] = []
words_bytes (w ∷ ws) = word_bytes w ++ words_bytes ws

-- "Header, 52 bytes": "6, the count of sections", then the pairs
abbrev pub header_width : ℕ
header_width = 52

unfoldable pub header : Sizes → List ℕ
header z = words_bytes (6 ∷ pairs header_width (lengths z))

unfoldable pub image : Sizes → Stripe → List ℕ
image z s = header z ++ sizes_bytes z ++ nodes_bytes s.nodes ++ clients_bytes s.clients ++ s.blocks ++ s.differences ++ s.spare

-- "the sizes alone fix the length"
abbrev pub total : List ℕ → ℕ
total [] = 0
total (w ∷ ws) = w + total ws

unfoldable pub image_length : Sizes → ℕ
image_length z = header_width + total (lengths z)

-- a set of nodes has a place for each of 18: a list of another length is none. All sets of the code have it (proofs/Whole.antt)
abbrev pub is_whole : NodeSet → Bool
is_whole set = eqb (length set) node_limit

abbrev pub node_whole : Node → Bool
node_whole x = is_whole x.rset

abbrev pub hand_whole : Option Write → Bool
hand_whole None = true
hand_whole (Some w) = is_whole w.done

abbrev pub rebuild_whole : Rebuild → Bool
rebuild_whole NoRebuild = true
rebuild_whole (Locking old) = true
rebuild_whole (Picking t) = true
rebuild_whole (Writing x set e) = is_whole set
rebuild_whole (Settling x e) = true
rebuild_whole (Unlocking x) = true

abbrev pub client_whole : Client → Bool
client_whole x = hand_whole x.hand && rebuild_whole x.rebuild

-- "1: size, record or buffer length outside the limits", of all that an image has
abbrev pub clients_fit : Sizes → List Client → Bool
clients_fit z clients = eqb (length clients) z.m && every_of (client_within z) clients

unfoldable pub records_fit : Sizes → Stripe → Bool
records_fit z s = nodes_fit z s.nodes && clients_fit z s.clients

unfoldable pub tables_fit : Sizes → Stripe → Bool
tables_fit z s = blocks_fit z s.blocks && (differences_fit z s.differences && blocks_fit z s.spare)

unfoldable pub sets_fit : Stripe → Bool
sets_fit s = every_of node_whole s.nodes && every_of client_whole s.clients

unfoldable pub writable : Sizes → Stripe → Bool
writable z s = sizes_within z && (records_fit z s && (tables_fit z s && sets_fit s))
