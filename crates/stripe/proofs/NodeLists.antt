-- The nodes of a stripe, seen through the array of their records. Assumes nothing.
use mathlib.Core.Path.{◌≡◌, refl, sym, ap, ◌∙◌}
use mathlib.Core.Logic.{◌≢◌}
use mathlib.Core.Bool.{Bool, true, false, cond, ◌&&◌, ◌||◌, not}
use mathlib.Core.List.{List, [], ◌∷◌, ◌++◌, map}
use Prim.Native.Nat.{ℕ, zero, suc, ◌+◌, ◌-◌, ◌≤◌, ◌<◌, max}
use native.Mathlib.Decide.{ℕ_discrete}
use native.Mathlib.Omega.{arith}
use lib.ListN.{length, get_or, set, take, length-set, length-take, get_or-eq_default}
use lib.Seq.{ext_get_or, get_or-set_same, get_or-set_other}
use Rattle.std.specs.List.{list_all, list_any, count_by}
use Rattle.std.proofs.lemmas.List.{get_or-take, get_or_default}
use Rattle.std.proofs.lemmas.List.Folds.{list_all-map}
use Rattle.std.proofs.lemmas.List.Recursion.{same_from_clauses, is_count_by}
use denote.Laws.{Is}
use denote.Struct.Declared.{row}
use mir.Val.{Val}
use Rattle.basics.proofs.Tests.{and_left, and_right}
use Rattle.basics.specs.Lists.{list_of}
use Rattle.basics.proofs.Lists.{length-list_of, get_or-list_of}
use Rattle.basics.specs.Lists.{element_at, set_at, every_of, some_of}
use Rattle.machine.specs.Stripe.{node_at}
use Rattle.records.specs.declared.NodeRecord.{NodeRecord}
use Rattle.records.specs.declared.Sizes.{Sizes}
use Rattle.machine.specs.Rebuild.{count_init, largest_epoch}
use Rattle.entries.proofs.Lists.{list_of-take, Search}
use Rattle.records.specs.Node.{Node, failed_node, is_init, node_within}
use Rattle.records.specs.View.{node_of}
use Rattle.records.proofs.Limits.{few-entries}
use Rattle.stripe.specs.declared.nodes.Nodes.{Nodes}
use Rattle.stripe.specs.View.{blank_record, record_at, nodes_of, Counted}
use Rattle.stripe.specs.contracts.nodes.Nodes.{the_type}

pub eighteen : (x : Nodes) (vs : List Val) → Is (row the_type) x vs → length x.items ≡ 18
eighteen x vs g = g.1.1.0.1.0.1

-- the n nodes are seen through the first n items
pub nodes-map : (n : ℕ) (x : Nodes) → n ≤ length x.items → nodes_of n x ≡ map node_of (take n x.items)
nodes-map n x h = list_of-take node_of x.items blank_record n h

module _ (p : Node → Bool) (n : ℕ) (x : Nodes) (h : n ≤ length x.items) where
  pub every-node : list_all (λ r. p (node_of r)) (take n x.items) ≡ every_of p (nodes_of n x)
  unfolding every_of
  every-node = rw (nodes-map n x h) (sym (list_all-map p node_of (take n x.items)) ∙ same_from_clauses (list_all p) (every_of p) (λ y b. p y && b) refl (λ y l. refl) (λ y l. refl) (map node_of (take n x.items)))

  pub some-node : list_any (λ r. p (node_of r)) (take n x.items) ≡ some_of p (nodes_of n x)
  unfolding some_of
  some-node = rw (nodes-map n x h) (go (take n x.items))
    where
      go : (l : List NodeRecord) → list_any (λ r. p (node_of r)) l ≡ some_of p (map node_of l)
      go [] = refl
      go (y ∷ l) = ap (λ b. p (node_of y) || b) (go l)

pub nodes-count : (n : ℕ) (x : Nodes) → length (nodes_of n x) ≡ n
nodes-count n x = length-list_of n (λ i. node_of (record_at x i))

-- another element at place i alone
list_of-set : {A : Type 0} (n i : ℕ) (old new : ℕ → A) → ((p : ℕ) → p ≢ i → new p ≡ old p) → list_of n new ≡ set (list_of n old) i (new i)
list_of-set {A} n i old new others =
    ext_get_or (new i) (list_of n new) (set (list_of n old) i (new i))
    (length-list_of n new ∙ sym (length-set (list_of n old) i (new i) ∙ length-list_of n old))
    (λ p h. let l : p < n = omega (arith, length-list_of n new) in get_or-list_of n new p (new i) l ∙ at p l (ℕ_discrete p i))
  where
    at : (p : ℕ) → p < n → Dec (p ≡ i) → new p ≡ get_or (set (list_of n old) i (new i)) p (new i)
    at p l (yes e) = rw e (sym (get_or-set_same (list_of n old) i (new i) (new i) (omega (arith, length-list_of n old))))
    at p l (no ne) = others p ne ∙ sym (get_or-set_other (list_of n old) i p (new i) (new i) ne ∙ get_or-list_of n old p (new i) l)

-- node j is item j - 1; past the n there is none
pub node-item : (n : ℕ) (x : Nodes) (i : ℕ) → i < n → node_at (nodes_of n x) (suc i) ≡ node_of (record_at x i)
unfolding element_at
node-item n x i h = get_or-list_of n (λ i. node_of (record_at x i)) i failed_node h

pub node_at_lem : (n : ℕ) (x : Nodes) (j : ℕ) → 1 ≤ j → j ≤ n → node_at (nodes_of n x) j ≡ node_of (record_at x (j - 1))
node_at_lem n x zero l h = absurd (omega arith)
node_at_lem n x (suc j) l h = let e : suc j - 1 ≡ j = omega arith in rw e (node-item n x j h)

pub node-past : (n : ℕ) (x : Nodes) (j : ℕ) → n < j → node_at (nodes_of n x) j ≡ failed_node
unfolding element_at
node-past n x zero h = refl
node-past n x (suc j) h = get_or-eq_default (nodes_of n x) failed_node (rw (nodes-count n x) (omega arith))

pub node-set : (n : ℕ) (x : Nodes) (j : ℕ) (node : NodeRecord) → 1 ≤ j → j - 1 < length x.items
    → nodes_of n (record { items = set x.items (j - 1) node }) ≡ set_at (nodes_of n x) j (node_of node)
unfolding set_at
node-set n x zero node l h = absurd (omega arith)
node-set n x (suc j) node l h =
    let e : suc j - 1 ≡ j = omega arith in
    rw e
    (list_of-set n j (λ i. node_of (record_at x i)) (λ i. node_of (get_or (set x.items j node) i blank_record))
    (λ p ne. ap node_of (get_or-set_other x.items j p node blank_record ne))
    ∙ ap (λ y. set (nodes_of n x) j (node_of y)) (get_or-set_same x.items j node blank_record (rw e at h)))

-- ---- every node, some node

pub some-search : {A : Type 0} (p : A → Bool) → Search p (some_of p)
unfolding some_of
some-search p = record { none = refl; more = λ x l. refl }

-- all pass where none fails
pub none-fails : {A : Type 0} (p : A → Bool) (l : List A) {some : Bool} → some ≡ some_of (λ x. not (p x)) l → not some ≡ every_of p l
unfolding some_of every_of
none-fails {A} p l e = ap not e ∙ go l
  where
    by : (b some every : Bool) → not some ≡ every → not (not b || some) ≡ (b && every)
    by true some every e = e
    by false some every e = refl

    go : (l : List A) → not (some_of (λ x. not (p x)) l) ≡ every_of p l
    go [] = refl
    go (x ∷ l) = by (p x) (some_of (λ x. not (p x)) l) (every_of p l) (go l)

every-at : {A : Type 0} (p : A → Bool) (l : List A) (d : A) (i : ℕ) → every_of p l ≡ true → i < length l → p (get_or l i d) ≡ true
unfolding every_of
every-at p [] d i e h = absurd (omega arith)
every-at p (x ∷ l) d zero e h = and_left (p x) (every_of p l) e
every-at p (x ∷ l) d (suc i) e h = every-at p l d i (and_right (p x) (every_of p l) e) (omega arith)

-- node records within the limits have few entries
pub within-counted : (z : Sizes) (n : ℕ) (x : Nodes) → every_of (node_within z) (nodes_of n x) ≡ true → Counted n x
within-counted z n x e = record {
  few =
      λ i h.
      few-entries z (record_at x i)
      (rw (get_or-list_of n (λ p. node_of (record_at x p)) i failed_node h)
      at (every-at (node_within z) (nodes_of n x) failed_node i e (rw (nodes-count n x) h)));
}

-- one of the first n records has few entries
pub counted-item : {n : ℕ} {x : Nodes} → Counted n x → (i : ℕ) (r : NodeRecord) → i < length (take n x.items) → r ≡ get_or (take n x.items) i r
    → r.entries.count ≤ 16
counted-item {n} {x} q i r h e =
    let b : i < n = omega (arith, length-take n x.items) in
    rw (e, get_or-take n x.items i r b, get_or_default x.items i r blank_record (omega (arith, length-take n x.items))) (q.few i b)

-- ---- the number of INIT nodes, the largest epoch, what is seen: one node more

pub init-nodes : (n : ℕ) (x : Nodes) → n ≤ length x.items → count_by (λ r. is_init r.opmode) (take n x.items) ≡ count_init (nodes_of n x)
unfolding count_init
init-nodes n x h = rw (nodes-map n x h) (sym (is_count_by (λ l. count_init (map node_of l)) (λ r. is_init r.opmode) refl (λ y l. let e : suc (count_init (map node_of l)) ≡ 1 + count_init (map node_of l) = omega arith in rw e) (take n x.items)))

pub init-few : (l : List Node) → count_init l ≤ length l
unfolding count_init
init-few [] = omega arith
init-few (x ∷ l) = by (is_init x.opmode) (init-few l)
  where
    by : (b : Bool) → count_init l ≤ length l → cond b (suc (count_init l)) (count_init l) ≤ suc (length l)
    by true h = omega arith
    by false h = omega arith

pub epoch-last : (l : List Node) (x : Node) → largest_epoch (l ++ (x ∷ [])) ≡ max x.epoch.0 (largest_epoch l)
unfolding largest_epoch
epoch-last [] x = refl
epoch-last (y ∷ l) x = rw (epoch-last l x) (omega arith)
