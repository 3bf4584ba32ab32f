-- Functions with one place changed. Assumes nothing.
use mathlib.Core.Path.{◌≡◌, refl, sym, ap, subst}
use mathlib.Core.Logic.{◌≢◌}
use mathlib.Core.Bool.{Bool, true, false, cond}
use Prim.Native.Nat.{ℕ}
use lib.Dec.{eqb}
use borrow.Author.Tests.{eqb-true, eq-eqb}
use Rattle.basics.proofs.Tests.{each-place}

module _ {A : Type 0} where
  unfoldable pub upd : (ℕ → A) → ℕ → A → ℕ → A
  upd f i a j = cond (eqb i j) a (f j)

  pub upd_same : (f : ℕ → A) (i : ℕ) (a : A) → upd f i a i ≡ a
  unfolding upd
  upd_same f i a = ap (λ t. cond t a (f i)) (eq-eqb i i refl)

  pub upd_other : (f : ℕ → A) (i : ℕ) (a : A) (j : ℕ) → i ≢ j → upd f i a j ≡ f j
  unfolding upd
  upd_other f i a j h = go (eqb i j) refl
    where
      go : (t : Bool) → eqb i j ≡ t → cond (eqb i j) a (f j) ≡ f j
      go true e = absurd (h (eqb-true i j e))
      go false e = ap (λ t. cond t a (f j)) e

  -- one place changed: what holds of the new value there and of the old ones elsewhere holds everywhere
  pub upd-ind : (P : ℕ → A → Type 0) (f : ℕ → A) (i : ℕ) (a : A) → P i a → ((j : ℕ) → i ≢ j → P j (f j)) → (j : ℕ) → P j (upd f i a j)
  upd-ind P f i a p q = each-place (λ j. P j (upd f i a j)) i (subst (P i) (sym (upd_same f i a)) p) (λ j d. subst (P j) (sym (upd_other f i a j d)) (q j d))
