-- A table of blocks by its bytes (`table`, `byte_at`). Assumes nothing.
use mathlib.Core.Path.{◌≡◌, refl, sym, ap, ap₂, ◌∙◌}
use mathlib.Core.Logic.{◌⊎◌, inl, inr}
use mathlib.Core.List.{List, ◌++◌, append-nil, append_assoc}
use Prim.Native.Nat.{ℕ, zero, suc, ◌+◌, ◌-◌, ◌*◌, ◌/◌, ◌%◌, ◌≤◌, ◌<◌}
use native.Mathlib.Nat.{add-zero, add-suc, zero-mul, mul-zero, suc-mul, le_of_suc-le-suc, eq-or-lt_of_le, eq-zero-or-pos, div-lt_iff_lt-mul, div-add-mod', mod-lt}
use native.Mathlib.Omega.{arith}
use lib.Arith.{digits_lt}
use lib.ListN.{length, get_or, drop, length-append, get_or-append}
use lib.Seq.{get_or-append-add, get_or-take, get_or-drop, ext_get_or}
use Rattle.basics.proofs.Lists.{length-list_of, get_or-list_of, list_of-cong}
use Rattle.blocks.specs.Blocks.{part, block, byte_at, table}
use Rattle.basics.specs.Lists.{list_of}

pub length-table : (n b : ℕ) (f : ℕ → ℕ → ℕ) → length (table n b f) ≡ n * b
unfolding table
length-table zero b f = sym (zero-mul b)
length-table (suc n) b f =
    length-append (table n b f) (list_of b (f (suc n)))
    ∙ omega (arith, length-table n b f, length-list_of b (f (suc n)), suc-mul n b)

-- byte p of the block that j blocks stand before
get_or-table : (n b : ℕ) (f : ℕ → ℕ → ℕ) (j p : ℕ) → j < n → p < b → get_or (table n b f) (j * b + p) 0 ≡ f (suc j) p
unfolding table
get_or-table zero b f j p lj lp = absurd (omega arith)
get_or-table (suc n) b f j p lj lp = go (eq-or-lt_of_le (le_of_suc-le-suc lj)) (λ l. get_or-table n b f j p l lp)
  where
    go : (j ≡ n) ⊎ (j < n) → (j < n → get_or (table n b f) (j * b + p) 0 ≡ f (suc j) p)
        → get_or (table n b f ++ list_of b (f (suc n))) (j * b + p) 0 ≡ f (suc j) p
    go (inl e) ih =
        rw (e, ← length-table n b f)
        (get_or-append-add (table n b f) (list_of b (f (suc n))) p 0 ∙ get_or-list_of b (f (suc n)) p 0 lp)
    go (inr l) ih =
        get_or-append (table n b f) (list_of b (f (suc n))) 0 (j * b + p) (rw (length-table n b f) (digits_lt l lp)) ∙ ih l

pub byte_at-table : (n b : ℕ) (f : ℕ → ℕ → ℕ) (j p : ℕ) → 1 ≤ j → j ≤ n → p < b → byte_at b (table n b f) j p ≡ f j p
unfolding byte_at
byte_at-table n b f j p l1 ln lp =
    let e : suc (j - 1) ≡ j = omega arith in
    get_or-table n b f (j - 1) p (omega arith) lp ∙ ap (λ (x : ℕ). f x p) e

-- two tables with the same bytes are the same
pub table-ext : (n b : ℕ) (s t : List ℕ) → length s ≡ n * b → length t ≡ n * b
    → ((j p : ℕ) → 1 ≤ j → j ≤ n → p < b → byte_at b s j p ≡ byte_at b t j p) → s ≡ t
unfolding byte_at
table-ext n b s t ls lt e = ext_get_or 0 s t (ls ∙ sym lt) (λ i l. at i (rw ls at l) (eq-zero-or-pos b))
  where
    at : (i : ℕ) → i < n * b → (b ≡ 0) ⊎ (0 < b) → get_or s i 0 ≡ get_or t i 0
    at i l (inl z) = absurd (omega (arith, rw (z, mul-zero) at l))
    at i l (inr pos) =
        let above : suc (i / b) - 1 ≡ i / b = omega arith in
        rw (← div-add-mod' i b, ← above)
        (e (suc (i / b)) (i % b) (omega arith) ((div-lt_iff_lt-mul pos).1 l) (mod-lt i pos))

pub table-cong : (n b : ℕ) (f g : ℕ → ℕ → ℕ) → ((j p : ℕ) → 1 ≤ j → j ≤ n → p < b → f j p ≡ g j p) → table n b f ≡ table n b g
unfolding table
table-cong zero b f g e = refl
table-cong (suc n) b f g e =
    ap₂ ◌++◌ (table-cong n b f g (λ j p l1 ln. e j p l1 (omega arith)))
    (list_of-cong b (f (suc n)) (g (suc n)) (λ p. e (suc n) p (omega arith) (omega arith)))

-- a table of its own bytes
pub table-self : (n b : ℕ) (t : List ℕ) → length t ≡ n * b → table n b (byte_at b t) ≡ t
table-self n b t l = table-ext n b (table n b (byte_at b t)) t (length-table n b (byte_at b t)) l (byte_at-table n b (byte_at b t))

-- the first m blocks, and the n after them
pub table-append : (m n b : ℕ) (f : ℕ → ℕ → ℕ) → table (m + n) b f ≡ table m b f ++ table n b (λ j. f (m + j))
unfolding table
table-append m zero b f = rw (add-zero m) (sym (append-nil (table m b f)))
table-append m (suc n) b f =
    rw (add-suc m n, table, table-append m n b f) (append_assoc (table m b f) (table n b (λ j. f (m + j))) (list_of b (f (suc (m + n)))))

-- block j has the bytes of the table there
pub get_or-block : (b j p : ℕ) (t : List ℕ) → p < b → get_or (block b j t) p 0 ≡ byte_at b t j p
unfolding part byte_at
get_or-block b j p t l = get_or-take b (drop ((j - 1) * b) t) p 0 l ∙ get_or-drop ((j - 1) * b) t p 0
