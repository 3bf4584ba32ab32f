-- Tables that are made fresh, if they have their lengths. What is primed is as the call leaves it. Assumes nothing.
use Rattle.std.specs.Prelude.{Bool, cond, ◌&&◌, List, ◌≡◌, Err, Ok, Result, ℕ, ◌*◌, eqb, length, map, replicate}
use Rattle.records.specs.declared.ClientRecord.{ClientRecord}
use Rattle.records.specs.declared.NodeRecord.{NodeRecord}
use Rattle.records.specs.declared.Refusal.{Refusal}
use Rattle.records.specs.declared.Refusal.TheVariants.{OutOfLimits}
use Rattle.records.specs.Client.{fresh_client}
use Rattle.records.specs.Node.{fresh_node}
use Rattle.records.specs.View.{client_of, node_of}
use Rattle.tables.specs.declared.Volume.{Volume}
use Rattle.tables.specs.Parts.{volume_within}

abbrev pub fresh_fits : Volume → ℕ → ℕ → ℕ → Bool
fresh_fits v nodes clients blocks =
    volume_within v && (eqb nodes (v.stripes * v.z.n) && (eqb clients (v.stripes * v.z.m) && eqb blocks (v.stripes * (v.z.n * v.z.b))))

-- "Fresh: zero blocks and counts, NORM, UNL, empty lists", in every stripe; or 1, with the very tables
abbrev pub Renews : Volume → List NodeRecord → List ClientRecord → List ℕ → Result (Unit {0}) Refusal
    → List NodeRecord → List ClientRecord → List ℕ → Type 0
Renews v nodes clients blocks result nodes' clients' blocks' =
    cond (fresh_fits v (length nodes) (length clients) (length blocks))
    ((result ≡ Ok tt) × ((map node_of nodes' ≡ replicate (length nodes) fresh_node)
    × ((map client_of clients' ≡ replicate (length clients) fresh_client) × (blocks' ≡ replicate (length blocks) 0))))
    ((result ≡ Err OutOfLimits) × ((nodes' ≡ nodes) × ((clients' ≡ clients) × (blocks' ≡ blocks))))
