-- What is said of tables that are made fresh, said of the volume. Assumes nothing.
use mathlib.Core.Bool.{Bool, true, false, cond}
use mathlib.Core.List.{List, map}
use mathlib.Core.Path.{◌≡◌, refl, ap, ◌∙◌, subst}
use Prim.Native.Nat.{ℕ, ◌*◌}
use lib.ListN.{length, replicate}
use borrow.Author.Tests.{eqb-true}
use Rattle.std.specs.Prelude.{Err, Ok, Result}
use Rattle.basics.proofs.Tests.{and_left, and_right}
use Rattle.calls.specs.declared.Answer.{Answer}
use Rattle.calls.specs.declared.Answer.TheVariants.{Accepted, Refused}
use Rattle.records.specs.declared.ClientRecord.{ClientRecord}
use Rattle.records.specs.declared.NodeRecord.{NodeRecord}
use Rattle.records.specs.declared.Refusal.{Refusal}
use Rattle.records.specs.declared.Refusal.TheVariants.{OutOfLimits}
use Rattle.records.specs.Client.{fresh_client}
use Rattle.records.specs.Node.{fresh_node}
use Rattle.records.specs.View.{client_of, node_of}
use Rattle.tables.specs.declared.Volume.{Volume}
use Rattle.tables.specs.Renewals.{Renews, fresh_fits}
use Rattle.volumeshelf.specs.Volumes.{FreshVolume, Renewed}

abbrev pub answer : Result (Unit {0}) Refusal → Answer
answer (Ok x) = Accepted
answer (Err why) = Refused why

module _ (nodes : List NodeRecord) (clients : List ClientRecord) (blocks : List ℕ) (v : Volume) (result : Result (Unit {0}) Refusal)
    (nodes' : List NodeRecord) (clients' : List ClientRecord) (blocks' : List ℕ) (said : Renews v nodes clients blocks result nodes' clients' blocks') where
  record Lengths : Type 0 where
    nodes_len : length nodes ≡ v.stripes * v.z.n
    clients_len : length clients ≡ v.stripes * v.z.m
    blocks_len : length blocks ≡ v.stripes * (v.z.n * v.z.b)

  lengths : fresh_fits v (length nodes) (length clients) (length blocks) ≡ true → Lengths
  lengths e = search (and_left, and_right, eqb-true)

  fresh : FreshVolume nodes clients blocks v (answer result) nodes' clients' blocks'
  fresh = by (fresh_fits v (length nodes) (length clients) (length blocks)) refl said
    where
      by : (t : Bool) → fresh_fits v (length nodes) (length clients) (length blocks) ≡ t
          → cond t
          ((result ≡ Ok tt) × ((map node_of nodes' ≡ replicate (length nodes) fresh_node)
          × ((map client_of clients' ≡ replicate (length clients) fresh_client) × (blocks' ≡ replicate (length blocks) 0))))
          ((result ≡ Err OutOfLimits) × ((nodes' ≡ nodes) × ((clients' ≡ clients) × (blocks' ≡ blocks))))
          → cond t (Renewed v (answer result) nodes' clients' blocks')
          ((answer result ≡ Refused OutOfLimits) × ((nodes' ≡ nodes) × ((clients' ≡ clients) × (blocks' ≡ blocks))))
      by true e s =
          let l = lengths e in
          record {
            accepted = ap answer s.0;
            nodes_are = s.1.0 ∙ ap (λ k. replicate k fresh_node) l.nodes_len;
            clients_are = s.1.1.0 ∙ ap (λ k. replicate k fresh_client) l.clients_len;
            blocks_are = s.1.1.1 ∙ ap (λ k. replicate k 0) l.blocks_len;
          }
      by false e s = (ap answer s.0, s.1)

  pub fresh-said : (r : Result (Unit {0}) Refusal) → result ≡ r → FreshVolume nodes clients blocks v (answer r) nodes' clients' blocks'
  fresh-said r e = subst (λ (a : Answer). FreshVolume nodes clients blocks v a nodes' clients' blocks') (ap answer e) fresh
