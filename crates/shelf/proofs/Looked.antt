-- What is seen of all nodes, node by node. Assumes nothing.
--     none-looked, more-looked, all-looked      of no node; of one node more; of all
use Rattle.std.proofs.Common.{List, ◌≡◌, ℕ, ◌+◌, ◌<◌, length, get_or, take, add-one, sym, ap, ◌∙◌, arith}
use lib.ListN.{length-map, get_or-map}
use lib.Seq.{take-length, take-suc}
use Rattle.records.specs.declared.NodeRecord.{NodeRecord}
use Rattle.records.specs.declared.Sizes.{Sizes}
use Rattle.records.specs.View.{node_of}
use Rattle.stripe.specs.declared.seen.Seen.{Seen}
use Rattle.stripe.specs.Seen.{Sees, seen_none, seen_with}
use Rattle.stripe.proofs.Seeing.{seen_of, seen_last, seen_none_lem, sees-all}
use Rattle.taking.specs.Table.{nodes_in}

module _ (z : Sizes) (c : ℕ) (ys : List NodeRecord) where
  -- what is seen of the first k nodes
  abbrev pub looked : ℕ → Seen
  looked k = seen_of z c (take k (nodes_in ys))

  pub none-looked : {s : Seen} → s ≡ seen_none → s ≡ looked 0
  none-looked e = e ∙ seen_none_lem z c

  pub more-looked : (k : ℕ) (d : NodeRecord) {s t : Seen} → k < length ys → s ≡ looked k → t ≡ seen_with z c (node_of (get_or ys k d)) s → t ≡ looked (k + 1)
  more-looked k d h e more =
      let inside : k < length (nodes_in ys) = omega (arith, h, length-map ys node_of) in
      more ∙ ap (seen_with z c (node_of (get_or ys k d))) e
      ∙ (rw (add-one k, take-suc (nodes_in ys) k (node_of d) inside, get_or-map node_of ys k d) (seen_last z c (take k (nodes_in ys)) (node_of (get_or ys k d))))

  pub all-looked : (k : ℕ) {s : Seen} → k ≡ length ys → s ≡ looked k → length ys ≡ z.n → Sees z c (nodes_in ys) s
  all-looked k e seen n =
      sees-all z c (nodes_in ys) (length-map ys node_of ∙ n)
      (seen ∙ ap (λ i. seen_of z c (take i (nodes_in ys))) (e ∙ sym (length-map ys node_of)) ∙ ap (seen_of z c) (take-length (nodes_in ys)))
