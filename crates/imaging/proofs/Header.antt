-- The count and the six pairs, by the bounds of the sections, are the header. Assumes nothing.
use mathlib.Core.List.{List, [], ◌∷◌, ◌++◌}
use mathlib.Core.Path.{◌≡◌}
use Prim.Native.Nat.{ℕ, zero, suc, ◌+◌, ◌*◌, ◌-◌, ◌≤◌, ◌<◌}
use native.Mathlib.Omega.{arith}
use lib.ListN.{get_or}
use Rattle.octets.specs.Octets.{word_bytes, joined}
use Rattle.image.specs.declared.Places.{Places}
use Rattle.image.specs.Image.{words_bytes, header, image_length}
use Rattle.image.specs.Places.{places_of}
use Rattle.records.specs.declared.Sizes.{Sizes}
use Rattle.imaging.specs.Imaging.{pair_bytes, Rises}
use Rattle.imaging.proofs.Laws.{Rising}

abbrev pub bounds_of : Places → List ℕ
bounds_of p = 52 ∷ 60 ∷ p.clients ∷ p.blocks ∷ p.differences ∷ p.spare ∷ p.end ∷ []

pub bounds-rise : (z : Sizes) (p : Places) → Rising z p → Rises (bounds_of p)
bounds-rise z p r = record { rise = rise; small = small }
  where
    rise : (i : ℕ) → i < 6 → get_or (bounds_of p) i 0 ≤ get_or (bounds_of p) (i + 1) 0
    rise zero l = omega arith
    rise (suc zero) l = r.clients
    rise (suc (suc zero)) l = r.blocks
    rise (suc (suc (suc zero))) l = r.differences
    rise (suc (suc (suc (suc zero)))) l = r.spare
    rise (suc (suc (suc (suc (suc zero))))) l = r.end
    rise (suc (suc (suc (suc (suc (suc i)))))) l = absurd (omega arith)

    small : (i : ℕ) → i < 6 → get_or (bounds_of p) (i + 1) 0 < 4294967296
    small zero l = omega arith
    small (suc zero) l = omega (arith, r)
    small (suc (suc zero)) l = omega (arith, r)
    small (suc (suc (suc zero))) l = omega (arith, r)
    small (suc (suc (suc (suc zero)))) l = omega (arith, r)
    small (suc (suc (suc (suc (suc zero))))) l = omega (arith, r)
    small (suc (suc (suc (suc (suc (suc i)))))) l = absurd (omega arith)

pub header-pairs : (z : Sizes) → word_bytes 6 ++ joined 6 (λ i. pair_bytes (get_or (bounds_of (places_of z)) i 0) (get_or (bounds_of (places_of z)) (i + 1) 0)) ≡ header z
unfolding joined header image_length
header-pairs z = λ i. row (nodes i) (clients i) (blocks i) (differences i) (spare i)
  where
    at2 : ℕ
    at2 = 60 + z.n * 140

    at3 : ℕ
    at3 = at2 + z.m * 135

    at4 : ℕ
    at4 = at3 + z.n * z.b

    at5 : ℕ
    at5 = at4 + z.m * z.b

    row : ℕ → ℕ → ℕ → ℕ → ℕ → List ℕ
    row a b c d e = words_bytes (6 ∷ 52 ∷ 8 ∷ 60 ∷ a ∷ at2 ∷ b ∷ at3 ∷ c ∷ at4 ∷ d ∷ at5 ∷ e ∷ [])

    nodes : at2 - 60 ≡ z.n * 140
    nodes = omega arith

    clients : at3 - at2 ≡ z.m * 135
    clients = omega arith

    blocks : at4 - at3 ≡ z.n * z.b
    blocks = omega arith

    differences : at5 - at4 ≡ z.m * z.b
    differences = omega arith

    spare : image_length z - at5 ≡ z.n * z.b
    spare = omega arith
