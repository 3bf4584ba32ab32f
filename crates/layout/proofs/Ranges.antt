-- Remainders that fit a byte; the tests that the functions of the layout begin with. Assumes nothing.
use mathlib.Core.Bool.{Bool, true, false, not}
use mathlib.Core.Path.{◌≡◌, sym, ◌∙◌}
use Prim.Native.Nat.{ℕ, ◌+◌, ◌-◌, ◌%◌, ◌≤◌, ◌<◌}
use native.Mathlib.Nat.{mod-lt, add-mod-mod}
use native.Mathlib.Omega.{arith}
use mir.Syntax.{w8}
use mir.Val.{Fits}
use borrow.Author.Tests.{leb-true, le-leb, lt-leb, not-true, not-false}
use Rattle.basics.proofs.Tests.{and_left, and_right}
use Rattle.code.specs.Code.{data_limit, node_limit}
use Rattle.layout.specs.Layout.{stripe_of, position_of, home_of, is_one_of, card_for, node_on, node_for}

-- ---- a remainder by n, and what is after it, fit a byte

module _ (n : ℕ) (l : 1 ≤ n) (m : n ≤ node_limit) (x : ℕ) where
  pub byte : Fits w8 (x % n)
  byte = record { fits = omega (arith, mod-lt x {m = n} l) }

  pub next-byte : Fits w8 (x % n + 1)
  next-byte = record { fits = omega (arith, mod-lt x {m = n} l) }

-- ---- a block's home, by k

pub home-few : (k b : ℕ) → k < 1 → record { stripe = 0; position = 0 } ≡ home_of k b
home-few k b l = rw (lt-leb 1 k l)

pub home-many : (k b : ℕ) → data_limit < k → record { stripe = 0; position = 0 } ≡ home_of k b
home-many k b l = rw (le-leb 1 k (omega arith), lt-leb k data_limit l)

pub home-in : (k b : ℕ) → 1 ≤ k → k ≤ data_limit → record { stripe = stripe_of k b; position = position_of k b } ≡ home_of k b
home-in k b l m = rw (le-leb 1 k l, le-leb k data_limit m)

-- ---- one of 1 to n

pub record OneOf (n j : ℕ) : Type 0 where
  pub nodes : n ≤ node_limit
  pub least : 1 ≤ j
  pub most : j ≤ n

pub one_of : (n j : ℕ) → is_one_of n j ≡ true → OneOf n j
one_of n j e = search (and_left, and_right, leb-true)

pub some : {n j : ℕ} → OneOf n j → 1 ≤ n
some o = omega (arith, o.least, o.most)

pub below : {n j : ℕ} → OneOf n j → (x : ℕ) → x % n < n
below o x = mod-lt x (some o)

-- r is what `is_one_of` returned
module _ (n j : ℕ) (r : Bool) (e : r ≡ is_one_of n j) where
  pub is_one_lem : not r ≡ false → OneOf n j
  is_one_lem l = one_of n j (sym e ∙ not-false r l)

  pub no-card : (s : ℕ) → not r ≡ true → 0 ≡ card_for n s j
  no-card s t = rw (← e, not-true r t)

  pub card-in : (s : ℕ) → not r ≡ false → (j - 1 + s % n) % n + 1 ≡ card_for n s j
  card-in s l = rw (← e, not-false r l, add-mod-mod (j - 1) s n)

  pub no_node : (s : ℕ) → not r ≡ true → 0 ≡ node_for n s j
  no_node s t = rw (← e, not-true r t)

  pub node_in : (s : ℕ) → not r ≡ false → node_on n s j ≡ node_for n s j
  node_in s l = rw (← e, not-false r l)
