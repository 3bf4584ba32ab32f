-- A buffer filled piece by piece: `done` stands in its first bytes. Assumes nothing.
use mathlib.Core.Path.{◌≡◌, refl, sym, ap, ◌∙◌}
use mathlib.Core.List.{List, [], ◌++◌, append-nil, append_assoc}
use Prim.Native.Nat.{ℕ, ◌+◌}
use native.Mathlib.Numerals.{add-one}
use native.Mathlib.Omega.{arith}
use lib.ListN.{length, take}
use lib.Seq.{take_all}
use Rattle.octets.specs.Octets.{joined, Put}

pub record Filled (size at : ℕ) (done out : List ℕ) : Type 0 where
  pub begins : take at out ≡ done
  pub long : length out ≡ size

pub filled_none : (out : List ℕ) → Filled (length out) 0 [] out
filled_none out = record { begins = refl; long = refl }

-- a piece v, known as v' of width w, is put, and the next place is known too
pub fill : {size at : ℕ} {done out v new : List ℕ} (w next : ℕ) (v' : List ℕ) → Filled size at done out → Put out at v new → v ≡ v' → length v' ≡ w
    → at + w ≡ next → Filled size next (done ++ v') new
fill {size} {at} {done} {out} {v} {new} w next v' d p e l q =
    rw (← q, ← l, ← e) (record { begins = p.filled ∙ ap (λ (l : List ℕ). l ++ v) d.begins; long = p.long ∙ d.long })

-- one item more
pub fill-item : {size at : ℕ} {out v new : List ℕ} (w next i : ℕ) (pre : List ℕ) (f : ℕ → List ℕ) → Filled size at (pre ++ joined i f) out → Put out at v new
    → v ≡ f i → length (f i) ≡ w → at + w ≡ next → Filled size next (pre ++ joined (i + 1) f) new
unfolding joined
fill-item w next i pre f d p e l q = rw (add-one, ← append_assoc pre (joined i f) (f i)) (fill w next (f i) d p e l q)

-- items that are put one after the other are one piece
pub fill_start : (out : List ℕ) (at next : ℕ) (f : ℕ → List ℕ) → at ≡ next → Filled (length out) next (take at out ++ joined 0 f) out
unfolding joined
fill_start out at next f e = record { begins = rw (← e, append-nil); long = refl }

pub filled_put : {old new v : List ℕ} {at next : ℕ} → Filled (length old) next (take at old ++ v) new → at + length v ≡ next → Put old at v new
filled_put d e = record { filled = rw e d.begins; long = d.long }

-- the whole buffer
pub full : {size at : ℕ} {done out : List ℕ} → Filled size at done out → at ≡ size → out ≡ done
full {size} {at} {done} {out} d e = sym (take_all at out (omega (arith, d.long))) ∙ d.begins
