-- What records and sizes within the limits say of the numbers in them. Assumes nothing.
use mathlib.Core.Bool.{Bool, true}
use mathlib.Core.List.{List, [], ◌∷◌}
use mathlib.Core.Path.{◌≡◌}
use Prim.Native.Nat.{ℕ, zero, suc, ◌-◌, ◌≤◌, ◌<◌}
use native.Mathlib.Nat.{le_of_suc-le-suc}
use native.Mathlib.Omega.{arith}
use lib.Dec.{leb}
use lib.ListN.{length, get_or}
use borrow.Author.Tests.{leb-true, ltb-true}
use Rattle.basics.specs.Lists.{element_at, every_of}
use Rattle.basics.proofs.Lists.{every-at}
use Rattle.basics.proofs.Tests.{and_both, and_left, and_right}
use Rattle.code.specs.Code.{code_sizes}
use Rattle.code.proofs.Sizes.{sizes-of}
use Rattle.entries.specs.declared.WriteId.{WriteId}
use Rattle.entries.specs.Entries.{Entry, is_up_to, id_within, ids_within, entries_within}
use Rattle.records.specs.declared.Sizes.{Sizes}
use Rattle.records.specs.Sizes.{sizes_within}

-- p holds of each element of a list
pub every-place : {A : Type 0} (p : A → Bool) (xs : List A) (d : A) → every_of p xs ≡ true → (i : ℕ) → i < length xs → p (get_or xs i d) ≡ true
unfolding element_at
every-place p xs d h i l = every-at d p xs h (suc i) (omega arith) l

-- a write number is below a million
pub id-number : (k m : ℕ) (x : WriteId) → id_within k m x ≡ true → x.number.0 < 1000000
unfolding id_within
id-number k m x h = ltb-true x.number.0 1000000 (and_right (is_up_to k x.position) _ (and_right (is_up_to m x.client) _ h))

pub ids_at : (k m : ℕ) (xs : List WriteId) (d : WriteId) → ids_within k m xs ≡ true → (i : ℕ) → i < length xs → (get_or xs i d).number.0 < 1000000
unfolding ids_within
ids_at k m [] d h i l = absurd (omega arith)
ids_at k m (x ∷ xs) d h zero l = id-number k m x (and_left (id_within k m x) _ h)
ids_at k m (x ∷ xs) d h (suc i) l = ids_at k m xs d (and_right (id_within k m x) _ h) i (le_of_suc-le-suc l)

pub entries_at : (k m : ℕ) (xs : List Entry) (d : Entry) → entries_within k m xs ≡ true → (i : ℕ) → i < length xs → (get_or xs i d).id.number.0 < 1000000
unfolding entries_within
entries_at k m [] d h i l = absurd (omega arith)
entries_at k m (x ∷ xs) d h zero l = id-number k m x.id (and_left (id_within k m x.id) _ h)
entries_at k m (x ∷ xs) d h (suc i) l =
    entries_at k m xs d (and_right (leb x.age.0 255) _ (and_right (id_within k m x.id) _ h)) i (le_of_suc-le-suc l)

-- sizes
pub record Small (z : Sizes) : Type 0 where
  pub k : z.k ≤ 12
  pub n : z.n ≤ 18
  pub b : z.b ≤ 4096
  pub failures : z.failures ≤ 18
  pub m : z.m ≤ 8

pub small : (z : Sizes) → sizes_within z ≡ true → Small z
unfolding sizes_within
small z h =
    let a = and_both (code_sizes z.k z.n z.b) _ h in
    let s = sizes-of z.k z.n z.b a.0 in
    let c = and_both (leb z.failures (z.n - z.k)) _ a.1 in
    let f = leb-true z.failures (z.n - z.k) c.0 in
    let m = leb-true z.m 8 (and_right (leb 1 z.m) _ c.1) in
    record {
      k = s.data_most;
      n = omega (arith, s.data_most, s.redundant_most);
      b = s.block_most;
      failures = omega (arith, f, s.redundant_most);
      m = m;
    }
