-- The nodes that a change touches, changed one after the other. Assumes nothing.
--     Changed      those before place i have been changed, and the table is zs now.        all-changed, none-changed      at the end
use Rattle.std.proofs.Common.{List, ◌≡◌, ℕ, ◌<◌, ◌≤◌, length, get_or, sym, ap, ◌∙◌, arith}
use Rattle.std.proofs.lemmas.List.{get_or_default}
use native.Mathlib.Decide.{dec_lt}
use lib.ListN.{length-map, get_or-map}
use lib.Seq.{ext_get_or}
use Rattle.records.specs.declared.NodeRecord.{NodeRecord}
use Rattle.records.specs.Node.{failed_node}
use Rattle.records.specs.View.{node_of}
use Rattle.stripe.specs.declared.seen.Change.{Change}
use Rattle.stripe.specs.Seen.{applied, changed_at, end_of, first_of, keep}
use Rattle.stripe.specs.View.{blank_record}
use Rattle.stripe.proofs.Applied.{applied-is}
use Rattle.taking.specs.Table.{nodes_in}

pub record Changed (t : Change) (a : ℕ) (ys : List NodeRecord) (i : ℕ) (zs : List NodeRecord) : Type 0 where
  pub long : length zs ≡ length ys
  pub done : (p : ℕ) → a ≤ p → p < i → node_of (get_or zs p blank_record) ≡ changed_at t p (node_of (get_or ys p blank_record))
  pub before : (p : ℕ) → p < a → get_or zs p blank_record ≡ get_or ys p blank_record
  pub rest : (p : ℕ) → i ≤ p → get_or zs p blank_record ≡ get_or ys p blank_record

seen : (l : List NodeRecord) (p : ℕ) → p < length l → get_or (nodes_in l) p failed_node ≡ node_of (get_or l p blank_record)
seen l p h = get_or_default (nodes_in l) p failed_node (node_of blank_record) (omega (arith, length-map l node_of, h)) ∙ get_or-map node_of l p blank_record

module _ (t : Change) (ys zs : List NodeRecord) {a i : ℕ} (c : Changed t a ys i zs) (begun : a ≡ first_of t (length ys)) (over : i ≡ end_of t (length ys)) where
  pub all-changed : nodes_in zs ≡ applied t (nodes_in ys)
  all-changed =
      applied-is t (nodes_in ys) (nodes_in zs) (length-map zs node_of ∙ c.long ∙ sym (length-map ys node_of))
      (λ p h f g. let inside : p < length ys = omega (arith, length-map ys node_of, h) in
      let from : a ≤ p = rw (begun, ← length-map ys node_of) f in
      let to : p < i = rw (over, ← length-map ys node_of) g in
      seen zs p (omega (arith, c.long, inside)) ∙ c.done p from to ∙ ap (changed_at t p) (sym (seen ys p inside)))
      (λ p h out. let inside : p < length ys = omega (arith, length-map ys node_of, h) in
      seen zs p (omega (arith, c.long, inside)) ∙ ap node_of (stay p out (dec_lt p a)) ∙ sym (seen ys p inside))
    where
      stay : (p : ℕ) → (first_of t (length (nodes_in ys)) ≤ p → end_of t (length (nodes_in ys)) ≤ p) → Dec (p < a)
          → get_or zs p blank_record ≡ get_or ys p blank_record
      stay p out (yes h) = c.before p h
      stay p out (no h) =
          let from : first_of t (length (nodes_in ys)) ≤ p = rw (length-map ys node_of, ← begun) (omega (arith, h)) in
          let past : i ≤ p = rw (over, ← length-map ys node_of) (out from) in
          c.rest p past

  pub none-changed : t ≡ keep → zs ≡ ys
  none-changed e = ext_get_or blank_record zs ys c.long (λ p h. c.rest p (rw (over, e) (omega arith)))
