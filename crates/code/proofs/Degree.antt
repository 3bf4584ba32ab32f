-- Polynomial functions by divided differences, and the bound on their roots. Assumes nothing.
use mathlib.Core.Logic.{◌≢◌}
use mathlib.Core.Path.{◌≡◌, refl, sym, ◌∙◌, subst, fun_ext}
use Prim.Native.Nat.{ℕ, zero, suc, ◌≤◌}
use native.Mathlib.Omega.{arith}
use Rattle.gf256.proofs.Laws.{product-add, product-left, product-zero}
use Rattle.code.specs.Code.{sum}
use Rattle.gf256.proofs.Sum.{All}
use Rattle.gf256.proofs.Ring.{◌⊕◌, ◌⊗◌, ring, one-times, Nonzero, cancel}

-- f is a polynomial function of degree below m: it is 0, or its divided difference at each a is one of degree below m − 1
abbrev pub Degree : ℕ → (ℕ → ℕ) → Type 0
Degree zero f = (t : ℕ) → f t ≡ 0
Degree (suc m) f = (a : ℕ) → (h : ℕ → ℕ) × Degree m h × ((t : ℕ) → f t ≡ f a ⊕ (t ⊕ a) ⊗ h t)

-- ---- how polynomial functions are made

pub degree-zero : (m : ℕ) → Degree m (λ t. 0)
degree-zero zero = λ t. refl
degree-zero (suc m) = λ a. ((λ t. 0), degree-zero m, λ t. simp ring)

pub degree-constant : (m c : ℕ) → Degree (suc m) (λ t. c)
degree-constant m c = λ a. ((λ t. 0), degree-zero m, λ t. simp ring)

pub degree-add : (m : ℕ) (f g : ℕ → ℕ) → Degree m f → Degree m g → Degree m (λ t. f t ⊕ g t)
degree-add zero f g d e = λ t. rw (d t, e t)
degree-add (suc m) f g d e =
    λ a. let (h, dh, p) = d a in let (k, dk, q) = e a in
    ((λ t. h t ⊕ k t), degree-add m h k dh dk, λ t. rw (p t, q t) (simp ring))

pub degree-times : (m c : ℕ) (f : ℕ → ℕ) → Degree m f → Degree m (λ t. f t ⊗ c)
degree-times zero c f d = λ t. rw (d t) (simp ring)
degree-times (suc m) c f d = λ a. let (h, dh, p) = d a in ((λ t. h t ⊗ c), degree-times m c h dh, λ t. rw (p t) (simp ring))

-- one more linear factor
pub degree-factor : (m b : ℕ) (f : ℕ → ℕ) → Degree m f → Degree (suc m) (λ t. (t ⊕ b) ⊗ f t)
degree-factor zero b f d = λ a. ((λ t. 0), (λ t. refl), λ t. rw (d t, d a) (simp ring))
degree-factor (suc m) b f d =
    λ a. let (h, dh, p) = d a in (
      (λ t. (t ⊕ b) ⊗ h t ⊕ f a),
      degree-add (suc m) (λ t. (t ⊕ b) ⊗ h t) (λ t. f a) (degree-factor m b h dh) (degree-constant m (f a)),
      λ t. rw (p t) (simp ring),
    )

pub degree-sum : (n m : ℕ) (f : ℕ → ℕ → ℕ) → All n (λ i. Degree m (f i)) → Degree m (λ t. sum n (λ i. f i t))
unfolding sum
degree-sum zero m f d = degree-zero m
degree-sum (suc n) m f d =
    degree-add m (λ t. sum n (λ i. f i t)) (f (suc n)) (degree-sum n m f (λ i l1 ln. d i l1 (omega arith))) (d (suc n) (omega arith) (omega arith))

pub degree-ext : (m : ℕ) (f g : ℕ → ℕ) → ((t : ℕ) → f t ≡ g t) → Degree m g → Degree m f
degree-ext m f g e d = subst (Degree m) (sym (fun_ext e)) d

-- ---- roots

-- at a root a of f the divided difference takes the other roots
split : (a : ℕ) (f h : ℕ → ℕ) → ((t : ℕ) → f t ≡ f a ⊕ (t ⊕ a) ⊗ h t) → 1 ⊗ f a ≡ 0 → (t : ℕ) → 1 ⊗ f t ≡ (t ⊕ a) ⊗ h t
split a f h e z t = rw (e t, product-add 1 (f a) ((t ⊕ a) ⊗ h t), z, one-times (t ⊕ a) (h t))

-- of degree below m and with m roots that lie apart: it is 0, but for what 1 takes away, all above the low byte
pub roots : (m : ℕ) (f p : ℕ → ℕ) → Degree m f → All m (λ a. All m (λ b. a ≢ b → Nonzero (p a ⊕ p b)))
    → All m (λ i. 1 ⊗ f (p i) ≡ 0) → (t : ℕ) → 1 ⊗ f t ≡ 0
roots zero f p d far z t = rw (d t) (product-zero 1)
roots (suc m) f p d far z t =
    let (h, dh, e) = d (p (suc m)) in
    let f-splits = split (p (suc m)) f h e (z (suc m) (omega arith) (omega arith)) in
    let h-roots : (i : ℕ) → 1 ≤ i → i ≤ m → 1 ⊗ h (p i) ≡ 0 =
    λ i l1 lm. cancel (p i ⊕ p (suc m)) (h (p i)) (far i l1 (omega arith) (suc m) (omega arith) (omega arith) (omega arith))
    (sym (f-splits (p i)) ∙ z i l1 (omega arith)) in
    let h-zero = roots m h p dh (λ a a1 am b b1 bm. far a a1 (omega arith) b b1 (omega arith)) h-roots t in
    f-splits t ∙ sym (one-times (t ⊕ p (suc m)) (h t)) ∙ product-left 1 (t ⊕ p (suc m)) (h t) ∙ rw h-zero (product-zero (t ⊕ p (suc m)))
