-- A list by its bytes; and a loop that writes a table block by block: after j turns the first j blocks are there. Assumes nothing.
use mathlib.Core.List.{List, ◌++◌}
use mathlib.Core.Path.{◌≡◌, sym, ap, ap₂, ◌∙◌}
use Prim.Native.Nat.{ℕ, suc, ◌+◌, ◌-◌, ◌*◌, ◌≤◌, ◌<◌}
use native.Mathlib.Nat.{add-sub_cancel_left, zero-mul, suc-mul, mul-le-mul_right}
use native.Mathlib.Numerals.{add-one}
use native.Mathlib.Omega.{arith}
use lib.ListN.{length, get_or, take}
use lib.Seq.{take_all, ext_get_or}
use Rattle.blocks.specs.Blocks.{set_part, table}
use Rattle.basics.specs.Lists.{list_of}
use Rattle.blocks.proofs.Parts.{set-length, take-set}
use Rattle.basics.proofs.Lists.{length-list_of, get_or-list_of}

pub list_of-is : (b : ℕ) (f : ℕ → ℕ) (d : List ℕ) → length d ≡ b → ((p : ℕ) → p < b → get_or d p 0 ≡ f p) → d ≡ list_of b f
list_of-is b f d l e =
    ext_get_or 0 d (list_of b f) (l ∙ sym (length-list_of b f))
    (λ p lp. let lb : p < b = omega arith in e p lb ∙ sym (get_or-list_of b f p 0 lb))

-- ---- the loop

pub record Tabled (m b : ℕ) (f : ℕ → ℕ → ℕ) (j : ℕ) (out : List ℕ) : Type 0 where
  pub size : length out ≡ m * b
  pub blocks : take (j * b) out ≡ table j b f

module _ (m b : ℕ) (f : ℕ → ℕ → ℕ) (out : List ℕ) where
  pub tabled-none : length out ≡ m * b → Tabled m b f 0 out
  unfolding table
  tabled-none l = record { size = l; blocks = rw (zero-mul b) }

  -- the block that j blocks stand before
  pub tabled-fits : (j : ℕ) → j < m → Tabled m b f j out → j * b + b ≤ length out
  tabled-fits j l t = omega (arith, t.size, suc-mul j b, mul-le-mul_right b l)

  -- that block as the code lends it, from j * b up to j * b + b, comes back as p
  pub tabled-turn : (j : ℕ) (p : List ℕ) → j < m → Tabled m b f j out → p ≡ list_of b (f (suc j)) → Tabled m b f (j + 1) (set_part (j * b) (j * b + b - j * b) p out)
  unfolding table
  tabled-turn j p l t e =
      let fits : j * b + b ≤ length out = tabled-fits j l t in
      let many : length p ≡ b = ap length e ∙ length-list_of b (f (suc j)) in
      rw (add-sub_cancel_left (j * b) b)
      record {
        size = set-length (j * b) b p out fits many ∙ t.size;
        blocks = rw (add-one j, suc-mul j b) (take-set (j * b) b p out fits many ∙ ap₂ ◌++◌ t.blocks e);
      }

  pub tabled-all : (j : ℕ) → j ≡ m → Tabled m b f j out → out ≡ table m b f
  tabled-all j e t = sym (take_all (m * b) out (omega (arith, t.size))) ∙ rw e at t.blocks
