-- What is seen of all nodes, node by node. Assumes nothing.
use mathlib.Core.Path.{◌≡◌, refl, sym}
use mathlib.Core.Bool.{Bool, ◌&&◌, ◌||◌, and-true, and_assoc, or_assoc, or-false}
use mathlib.Core.List.{List, [], ◌∷◌, ◌++◌}
use Prim.Native.Nat.{ℕ}
use lib.ListN.{length}
use borrow.Author.Tests.{eq-eqb}
use Rattle.basics.specs.Lists.{every_of, some_of}
use Rattle.machine.specs.Rebuild.{some_recons}
use Rattle.records.specs.declared.Sizes.{Sizes}
use Rattle.records.specs.Node.{Node, is_recons, held_by, held_at_l1, node_within}
use Rattle.stripe.specs.declared.seen.Seen.{Seen}
use Rattle.stripe.specs.Seen.{Sees, seen_none, seen_with}

module _ {A : Type 0} (p : A → Bool) where
  every-last : (l : List A) (x : A) → every_of p (l ++ (x ∷ [])) ≡ (every_of p l && p x)
  unfolding every_of
  every-last [] x = and-true (p x)
  every-last (y ∷ l) x = rw (every-last l x) (sym (and_assoc (p y) (every_of p l) (p x)))

  some-last : (l : List A) (x : A) → some_of p (l ++ (x ∷ [])) ≡ (some_of p l || p x)
  unfolding some_of
  some-last [] x = or-false (p x)
  some-last (y ∷ l) x = rw (some-last l x) (sym (or_assoc (p y) (some_of p l) (p x)))

module _ (z : Sizes) (c : ℕ) where
  abbrev pub seen_of : List Node → Seen
  seen_of l = record { within = every_of (node_within z) l; held = every_of (held_by c) l; tight = every_of (held_at_l1 c) l; recons = some_recons l }

  pub seen_none_lem : seen_none ≡ seen_of []
  unfolding every_of some_of
  seen_none_lem = refl

  pub seen_last : (l : List Node) (x : Node) → seen_with z c x (seen_of l) ≡ seen_of (l ++ (x ∷ []))
  seen_last l x = rw (every-last (node_within z) l x, every-last (held_by c) l x, every-last (held_at_l1 c) l x, some-last (λ y. is_recons y.opmode) l x)

  -- all nodes, where there are as many as the sizes say
  pub sees-all : (nodes : List Node) {s : Seen} → length nodes ≡ z.n → s ≡ seen_of nodes → Sees z c nodes s
  sees-all nodes e q = rw q (record { within = rw (eq-eqb (length nodes) z.n e); held = refl; tight = refl; recons = refl })
