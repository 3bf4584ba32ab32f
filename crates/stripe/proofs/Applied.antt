-- The nodes after a change, place by place. Assumes nothing.
use mathlib.Core.Path.{◌≡◌, refl, sym, ◌∙◌}
use mathlib.Core.List.{List}
use Prim.Native.Nat.{ℕ, suc, ◌≤◌, ◌<◌}
use native.Mathlib.Decide.{dec_lt}
use native.Mathlib.Omega.{arith}
use lib.ListN.{length, get_or, length-map}
use lib.Seq.{ext_get_or}
use Rattle.basics.proofs.Lists.{length-list_of, get_or-list_of}
use Rattle.code.specs.declared.nodes.NodeSet.{NodeSet}
use Rattle.code.specs.Decode.{has}
use Rattle.code.specs.View.{node_set_of}
use Rattle.basics.proofs.Lists.{length_from}
use Rattle.machine.proofs.Elements.{length-restored, restored-first, restored-rest}
use Rattle.records.specs.declared.Lmode.TheVariants.{Unl}
use Rattle.records.specs.Node.{Node, failed_node, expired_for}
use Rattle.records.specs.View.{old_lmode, old_lmodes}
use Rattle.stripe.specs.declared.seen.Change.{Change}
use Rattle.stripe.specs.declared.seen.Change.TheVariants.{Keep, Expire, Restore, Weaken, Tick}
use Rattle.stripe.specs.Seen.{weakened_for, ticked_within, changed_at, first_of, end_of, applied}
use Rattle.stripe.proofs.Changes.{after_first, after-rest}

abbrev at : List Node → ℕ → Node
at l p = get_or l p failed_node

locked : (x : ℕ) (expired : NodeSet) → length (old_lmodes x expired) ≡ x
locked x expired = length-list_of x (λ i. old_lmode (has (node_set_of expired) (suc i)))

inside : (t : Change) (l : List Node) (p : ℕ) → p < length l → first_of t (length l) ≤ p → p < end_of t (length l)
    → at (applied t l) p ≡ changed_at t p (at l p)
inside Keep l p b f e = refl
inside (Expire c) l p b f e = after-rest (expired_for c) 0 l p (omega arith) b
inside (Restore x c expired) l p b f e =
    restored-first c (old_lmodes x expired) l p (rw (locked x expired) (omega arith))
    ∙ rw (get_or-list_of x (λ i. old_lmode (has (node_set_of expired) (suc i))) p Unl (omega arith))
inside (Weaken k c) l p b f e = after-rest (weakened_for c) k l p (omega arith) b
inside Tick l p b f e = after-rest ticked_within 0 l p (omega arith) b

outside : (t : Change) (l : List Node) (p : ℕ) → p < length l → (first_of t (length l) ≤ p → end_of t (length l) ≤ p)
    → at (applied t l) p ≡ at l p
outside Keep l p b o = refl
outside (Expire c) l p b o = absurd (omega (arith, o (omega arith)))
outside (Restore x c expired) l p b o = restored-rest c (old_lmodes x expired) l p (rw (locked x expired) (omega (arith, o (omega arith))))
outside (Weaken k c) l p b o = by (dec_lt p k)
  where
    by : Dec (p < k) → at (applied (Weaken k c) l) p ≡ at l p
    by (yes h) = after_first (weakened_for c) k l p h
    by (no h) = absurd (omega (arith, o (omega arith)))
outside Tick l p b o = absurd (omega (arith, o (omega arith)))

-- `applied` is the change of each node in its range
pub applied-length : (t : Change) (l : List Node) → length (applied t l) ≡ length l
applied-length Keep l = refl
applied-length (Expire c) l = length-map l (expired_for c)
applied-length (Restore x c expired) l = length-restored c (old_lmodes x expired) l
applied-length (Weaken k c) l = length_from failed_node (weakened_for c) k l
applied-length Tick l = length-map l ticked_within

pub applied-is : (t : Change) (l r : List Node) → length r ≡ length l
    → ((p : ℕ) → p < length l → first_of t (length l) ≤ p → p < end_of t (length l) → at r p ≡ changed_at t p (at l p))
    → ((p : ℕ) → p < length l → (first_of t (length l) ≤ p → end_of t (length l) ≤ p) → at r p ≡ at l p) → r ≡ applied t l
applied-is t l r e done others =
    ext_get_or failed_node r (applied t l) (e ∙ sym (applied-length t l))
    (λ p h. let b : p < length l = omega (arith, e) in by p b (dec_lt p (first_of t (length l))) (dec_lt p (end_of t (length l))))
  where
    by : (p : ℕ) → p < length l → Dec (p < first_of t (length l)) → Dec (p < end_of t (length l)) → at r p ≡ at (applied t l) p
    by p b (yes f) g =
        let o : first_of t (length l) ≤ p → end_of t (length l) ≤ p = λ k. absurd (omega arith) in
        others p b o ∙ sym (outside t l p b o)
    by p b (no f) (yes g) = done p b (omega arith) g ∙ sym (inside t l p b (omega arith) g)
    by p b (no f) (no g) =
        let o : first_of t (length l) ≤ p → end_of t (length l) ≤ p = λ k. omega arith in
        others p b o ∙ sym (outside t l p b o)

-- the range of a change is one of the n places
pub range-order : (t : Change) (n : ℕ) → first_of t n ≤ end_of t n
range-order Keep n = omega arith
range-order (Expire c) n = omega arith
range-order (Restore x c expired) n = omega arith
range-order (Weaken k c) n = omega arith
range-order Tick n = omega arith

pub range-end : (t : Change) (n : ℕ) → end_of t n ≤ n
range-end Keep n = omega arith
range-end (Expire c) n = omega arith
range-end (Restore x c expired) n = omega arith
range-end (Weaken k c) n = omega arith
range-end Tick n = omega arith
