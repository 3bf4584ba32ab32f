-- A loop that fills an array from its start: after i turns the first i entries are there, f 0, f 1, .. or, counted from 1, f 1, f 2, ..
-- Assumes nothing.
use mathlib.Core.Path.{◌≡◌, refl, ◌∙◌}
use mathlib.Core.List.{List}
use Prim.Native.Nat.{ℕ, zero, suc, ◌+◌, ◌-◌, ◌≤◌, ◌<◌}
use native.Mathlib.Decide.{ℕ_discrete}
use native.Mathlib.Omega.{arith}
use lib.ListN.{length, get_or, set, replicate, length-set}
use lib.Seq.{get_or-set_same, get_or-set_other}
use Rattle.gf256.proofs.Sum.{All}

pub record Entries (n : ℕ) (f : ℕ → ℕ) (i : ℕ) (r : List ℕ) : Type 0 where
  pub size : length r ≡ n
  pub done : All i (λ q. get_or r (q - 1) 0 ≡ f q)

pub entries_none : (n : ℕ) (f : ℕ → ℕ) (r : List ℕ) → length r ≡ n → Entries n f 0 r
entries_none n f r l = record { size = l; done = λ q q1 q0. absurd (omega arith) }

pub entries-turn : (n : ℕ) (f : ℕ → ℕ) (i : ℕ) (r : List ℕ) (v : ℕ) → i < n → v ≡ f (i + 1) → Entries n f i r → Entries n f (i + 1) (set r i v)
entries-turn n f i r v l e s =
    record { size = length-set r i v ∙ s.size; done = λ q q1 qi. by q q1 qi (ℕ_discrete q (i + 1)) }
  where
    by : (q : ℕ) → 1 ≤ q → q ≤ i + 1 → Dec (q ≡ i + 1) → get_or (set r i v) (q - 1) 0 ≡ f q
    by q q1 qi (yes h) =
        let here : q - 1 ≡ i = omega arith in
        rw (here, h) (get_or-set_same r i v 0 (omega (arith, s.size)) ∙ e)
    by q q1 qi (no n) = get_or-set_other r i (q - 1) v 0 (omega arith) ∙ s.done q q1 (omega arith)

pub record Begun (n : ℕ) (f : ℕ → ℕ) (i : ℕ) (r : List ℕ) : Type 0 where
  pub size : length r ≡ n
  pub done : (l : ℕ) → l < i → get_or r l 0 ≡ f l

pub begun-none : (n : ℕ) (f : ℕ → ℕ) (r : List ℕ) → length r ≡ n → Begun n f 0 r
begun-none n f r e = record { size = e; done = λ l h. absurd (omega arith) }

pub begun-turn : (n : ℕ) (f : ℕ → ℕ) (i : ℕ) (r : List ℕ) (v : ℕ) → i < n → v ≡ f i → Begun n f i r → Begun n f (i + 1) (set r i v)
begun-turn n f i r v l e s = record { size = length-set r i v ∙ s.size; done = λ q h. by q h (ℕ_discrete q i) }
  where
    by : (q : ℕ) → q < i + 1 → Dec (q ≡ i) → get_or (set r i v) q 0 ≡ f q
    by q h (yes here) = rw here (get_or-set_same r i v 0 (omega (arith, s.size)) ∙ e)
    by q h (no n) = get_or-set_other r i q v 0 n ∙ s.done q (omega arith)

-- ---- the entries that the loop has not come to

pub zeros-at : (n i : ℕ) → get_or {A = ℕ} (replicate n 0) i 0 ≡ 0
zeros-at zero i = refl
zeros-at (suc n) zero = refl
zeros-at (suc n) (suc i) = zeros-at n i

abbrev pub Untouched : ℕ → List ℕ → Type 0
Untouched i r = (l : ℕ) → i ≤ l → get_or r l 0 ≡ 0

pub untouched-turn : (i : ℕ) (r : List ℕ) (v : ℕ) → Untouched i r → Untouched (i + 1) (set r i v)
untouched-turn i r v u l h = get_or-set_other r i l v 0 (omega arith) ∙ u l (omega arith)
