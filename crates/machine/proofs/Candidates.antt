-- The set that a pick finds in the node records is one that it may take: its members stand at one cut (Pick). Assumes nothing.
use mathlib.Core.Path.{◌≡◌, refl, sym, ◌∙◌}
use mathlib.Core.Logic.{◌⊎◌, inl, inr}
use mathlib.Core.Bool.{true, false, ◌&&◌, not}
use mathlib.Core.List.{List, [], ◌∷◌}
use Prim.Native.Nat.{ℕ, ◌-◌, ◌≤◌}
use native.Mathlib.Decide.{dec_le}
use native.Mathlib.Omega.{arith}
use lib.Dec.{eqb}
use lib.ListN.{length}
use borrow.Author.Tests.{not-true}
use Rattle.code.specs.Decode.{NodeSet, has}
use Rattle.code.proofs.NodeSets.{set_of-has}
use Rattle.entries.specs.declared.WriteId.{WriteId}
use Rattle.entries.specs.Entries.{Entry, same_id, is_recent, is_in, is_recent_in, is_old_in}
use Rattle.records.specs.declared.Sizes.{Sizes}
use Rattle.records.specs.Node.{Node, failed_node, is_norm, is_recons, is_init}
use Rattle.machine.specs.Stripe.{Stripe}
use Rattle.basics.specs.Lists.{some_of}
use Rattle.machine.specs.Rebuild.{old_somewhere, recent_ids, f, largest, some_recons, picked_set}
use Rattle.machine.specs.Rebuild as Rebuild
use Rattle.machine.specs.Consistent as Document
use Rattle.basics.proofs.Tests.{clash, is_false, and_both, or-one, or_left, or_right, cond_ind}
use Rattle.machine.proofs.EntryLaws.{same_id_lem, same-id-refl}
use Rattle.machine.proofs.Columns.{Columns}
use Rattle.machine.proofs.Bytes.{Block, ops}
use Rattle.machine.proofs.View.{columns}
use Rattle.basics.proofs.Lists.{none-at, some_at}
use Rattle.machine.proofs.Largest.{in-position, Place, place, the-largest}
use Rattle.machine.proofs.Rebuild.Pick.{FWithin, Consistent, all-data, beside, Resumes, Candidate, anew, resumed}

---- f of a node by its entries
module _ (nodes : List Node) (x : WriteId) where
  -- an id is in f if it is recent there and old at no NORM node
  into-f : (es : List Entry) → is_recent_in x es ≡ true → old_somewhere nodes x ≡ false → is_in x (recent_ids nodes es) ≡ true
  unfolding is_recent_in recent_ids is_in
  into-f [] r o = clash r refl
  into-f (e ∷ es) r o = go (or-one (is_recent e && same_id e.id x) (is_recent_in x es) r) (λ t. into-f es t o)
    where
      go : ((is_recent e && same_id e.id x) ≡ true) ⊎ (is_recent_in x es ≡ true) → (is_recent_in x es ≡ true → is_in x (recent_ids nodes es) ≡ true) →
          is_in x (recent_ids nodes (e ∷ es)) ≡ true
      go (inl t) later =
          let q = and_both (is_recent e) (same_id e.id x) t in
          rw (q.0, same_id_lem e.id x q.1, o) (or_left (same_id x x) (is_in x (recent_ids nodes es)) (same-id-refl x))
      go (inr t) later =
          cond_ind (λ ids. is_in x ids ≡ true) (is_recent e && not (old_somewhere nodes e.id)) (e.id ∷ recent_ids nodes es) (recent_ids nodes es)
          (λ q. or_right (same_id e.id x) (is_in x (recent_ids nodes es)) (later t)) (λ q. later t)

  from-f : (es : List Entry) → is_in x (recent_ids nodes es) ≡ true → is_recent_in x es ≡ true
  unfolding is_recent_in recent_ids is_in
  from-f [] = λ t. t
  from-f (e ∷ es) =
      cond_ind (λ ids. is_in x ids ≡ true → is_recent_in x (e ∷ es) ≡ true) (is_recent e && not (old_somewhere nodes e.id)) _ _
      (λ q t. go (and_both (is_recent e) (not (old_somewhere nodes e.id)) q).0 (from-f es) (or-one (same_id e.id x) (is_in x (recent_ids nodes es)) t))
      (λ q t. or_right (is_recent e && same_id e.id x) (is_recent_in x es) (from-f es t))
    where
      go : is_recent e ≡ true → (is_in x (recent_ids nodes es) ≡ true → is_recent_in x es ≡ true) →
          (same_id e.id x ≡ true) ⊎ (is_in x (recent_ids nodes es) ≡ true) → is_recent_in x (e ∷ es) ≡ true
      go r later (inl t) = or_left (is_recent e && same_id e.id x) (is_recent_in x es) (rw (r, t))
      go r later (inr t) = or_right (is_recent e && same_id e.id x) (is_recent_in x es) (later t)

module _ (z : Sizes) (s : Stripe) where
  abbrev C : Columns Block
  C = columns z s

  f-within : (a b : ℕ) → ((x : WriteId) → is_in x (f s.nodes a) ≡ true → is_in x (f s.nodes b) ≡ true) → FWithin (ops z) C a b
  f-within a b within x recent none =
      from-f s.nodes x (C.entries b) (within x (into-f s.nodes x (C.entries a) recent (is_false (old_somewhere s.nodes x) old)))
    where
      old : old_somewhere s.nodes x ≡ true → old_somewhere s.nodes x ≡ false
      old e =
          let (j, t) = some_at failed_node (λ y. is_norm y.opmode && is_old_in x y.entries) s.nodes e in
          let (norm, is-old) = and_both (is_norm (C.op j)) (is_old_in x (C.entries j)) t in
          clash is-old (none j norm)

  -- with no redundant member, or beside the lowest
  consistent : (set : NodeSet) → Document.Consistent z s.nodes set → Place z set → Consistent (ops z) C set
  consistent set K (inl all) = all-data all
  consistent set K (inr (r, lowest)) =
      beside r R.beyond (K.norm r R.member) (λ j m. f-within j r (λ x. inside j m x (dec_le j z.k)))
      (λ j m over. f-within r j (λ x t. K.redundant j r (record { member = m; beyond = over }) R x ∙ t))
    where
      R : Document.Redundant z set r
      R = lowest.holds

      inside : (j : ℕ) → has set j ≡ true → (x : WriteId) → Dec (j ≤ z.k) → is_in x (f s.nodes j) ≡ true → is_in x (f s.nodes r) ≡ true
      inside j m x (yes le) t =
          (and_both (eqb x.position j) (is_in x (f s.nodes r)) (sym (in-position j x (f s.nodes r)) ∙ sym (K.position j r m le R x) ∙ t)).1
      inside j m x (no over) t = sym (K.redundant j r (record { member = m; beyond = omega arith }) R x) ∙ t

  resumed-is : some_recons s.nodes ≡ true → Candidate (ops z) C (Rebuild.resumed s.nodes)
  resumed-is e =
      let (r, recons) = some_at failed_node (λ x. is_recons x.opmode) s.nodes e in
      resumed r recons (λ j m. member j (or-one (is_recons (C.op j)) (not (is_init (C.op j)) && some_of (λ x. has x.rset j) s.nodes) (set_of-has _ j m)))
    where
      member : (j : ℕ) → (is_recons (C.op j) ≡ true) ⊎ ((not (is_init (C.op j)) && some_of (λ x. has x.rset j) s.nodes) ≡ true) → Resumes (ops z) C j
      member j (inl t) = inl t
      member j (inr t) =
          let (live, some) = and_both (not (is_init (C.op j))) (some_of (λ x. has x.rset j) s.nodes) t in
          inr (not-true (is_init (C.op j)) live, some_at failed_node (λ x. has x.rset j) s.nodes some)

  pub picked-candidate : length s.nodes ≡ z.n → z.n ≤ 18 → Candidate (ops z) C (picked_set z s.nodes)
  picked-candidate fit n18 =
      cond_ind (Candidate (ops z) C) (some_recons s.nodes) (Rebuild.resumed s.nodes) (largest z s.nodes (z.n - z.k)) resumed-is
      (λ none. let K = (the-largest z s.nodes fit n18).consistent in
      anew (none-at failed_node (λ x. is_recons x.opmode) refl s.nodes none) K.norm
      (consistent (largest z s.nodes (z.n - z.k)) K (place z (largest z s.nodes (z.n - z.k)))))
