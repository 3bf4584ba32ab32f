-- A set of nodes as a number: the bits of one are read back, and those of the code's set are the lowest of its number. Assumes nothing.
use mathlib.Core.Bool.{Bool, true, false, cond}
use mathlib.Core.List.{List, [], ◌∷◌, ◌++◌}
use mathlib.Core.Path.{◌≡◌, refl, sym, ap, ◌∙◌}
use Prim.Native.Nat.{ℕ, zero, suc, ◌+◌, ◌-◌, ◌*◌, ◌/◌, ◌%◌, ◌^◌, ◌≤◌, ◌<◌}
use native.Mathlib.Nat.{one-mul, mod-one, pow-suc}
use native.Mathlib.Omega.{arith}
use lib.Dec.{eqb}
use lib.ListN.{length}
use lib.Pow.{shl_exact}
use Rattle.gf256.proofs.Xor.{bit-cases}
use Rattle.basics.specs.Lists.{list_of}
use Rattle.basics.proofs.Lists.{length-list_of, list_of-cong}
use Rattle.code.specs.Bits.{bits_of, bits_from}
use Rattle.code.specs.Decode.{has, set_of}
use Rattle.code.specs.View.{node_set_of}
use Rattle.code.specs.declared.nodes.NodeSet.{NodeSet}
use Rattle.code.proofs.Bits.{bit, bit_below, low-more}
use Rattle.code.proofs.Members.{has-bit}

-- a list is read back from its number
pub bits_back : (s : List Bool) → bits_from (length s) (bits_of s) ≡ s
unfolding bits_of bits_from
bits_back [] = refl
bits_back (true ∷ s) =
    let low : (1 + 2 * bits_of s) % 2 ≡ 1 = omega arith in
    let rest : (1 + 2 * bits_of s) / 2 ≡ bits_of s = omega arith in
    rw (low, rest, bits_back s)
bits_back (false ∷ s) =
    let low : (0 + 2 * bits_of s) % 2 ≡ 0 = omega arith in
    let rest : (0 + 2 * bits_of s) / 2 ≡ bits_of s = omega arith in
    rw (low, rest, bits_back s)

pub bits_below : (s : List Bool) → bits_of s < 2 ^ length s
unfolding bits_of
bits_below [] = omega arith
bits_below (true ∷ s) = omega (arith, bits_below s, pow-suc 2 (length s))
bits_below (false ∷ s) = omega (arith, bits_below s, pow-suc 2 (length s))

-- one bit more
bits-more : (s : List Bool) (b : Bool) → bits_of (s ++ (b ∷ [])) ≡ cond b 1 0 * 2 ^ length s + bits_of s
unfolding bits_of
bits-more [] true = refl
bits-more [] false = refl
bits-more (c ∷ s) true = rw (bits_of, bits-more s true, pow-suc 2 (length s)) (omega arith)
bits-more (c ∷ s) false = rw (bits_of, bits-more s false, pow-suc 2 (length s)) (omega arith)

digit : (b : ℕ) → b < 2 → cond (eqb b 1) 1 0 ≡ b
digit b l = bit-cases (λ b. cond (eqb b 1) 1 0 ≡ b) b l refl refl

-- the first m bits of a number
bits-low : (a m : ℕ) → bits_of (list_of m (λ i. eqb (bit a i) 1)) ≡ a % 2 ^ m
unfolding bits_of list_of
bits-low a zero = sym (mod-one a)
bits-low a (suc m) =
    bits-more (list_of m (λ i. eqb (bit a i) 1)) (eqb (bit a m) 1)
    ∙ rw (length-list_of m (λ i. eqb (bit a i) 1), bits-low a m, low-more a m, digit (bit a m) (bit_below a m))

-- what the code divides by
pub power-fits : (n : ℕ) → n ≤ 18 → 1 * 2 ^ n % 2 ^ 32 ≡ 2 ^ n
power-fits n l = shl_exact {a = 1} 1 n 32 (omega arith) (omega arith) ∙ one-mul (2 ^ n)

-- the nodes 1 to n of a set
pub bits-first : (s : NodeSet) (n : ℕ) → n ≤ 18 → s.bits % (1 * 2 ^ n % 2 ^ 32) ≡ bits_of (list_of n (λ i. has (node_set_of s) (suc i)))
bits-first s n l =
    rw (power-fits n l)
    (sym
    (ap bits_of (list_of-cong n (λ i. has (node_set_of s) (suc i)) (λ i. eqb (bit s.bits i) 1) (λ i h. at i (omega arith))) ∙ bits-low s.bits n))
  where
    at : (i : ℕ) → i < 18 → has (node_set_of s) (suc i) ≡ eqb (bit s.bits i) 1
    at i h = let e : suc i - 1 ≡ i = omega arith in has-bit s (suc i) (omega arith) h ∙ rw e

-- all its nodes
pub bits-whole : (s : NodeSet) → bits_of (list_of 18 (λ i. has (node_set_of s) (suc i))) ≡ bits_of (node_set_of s)
unfolding node_set_of set_of
bits-whole s =
    ap bits_of
    (list_of-cong 18 (λ i. has (node_set_of s) (suc i)) (λ i. eqb (bit s.bits (suc i - 1)) 1) (λ i l. has-bit s (suc i) (omega arith) l))
