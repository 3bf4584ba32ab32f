-- Items one after the other: how long they are, and what stands at each place. Assumes nothing.
use mathlib.Core.Path.{◌≡◌, refl, sym, ap, ap₂, ◌∙◌}
use mathlib.Core.Logic.{◌⊎◌, inl, inr}
use mathlib.Core.List.{List, ◌++◌}
use Prim.Native.Nat.{ℕ, zero, suc, ◌+◌, ◌*◌, ◌≤◌, ◌<◌}
use native.Mathlib.Nat.{eq-or-lt_of_le, le_of_suc-le-suc, suc-mul, mul-le-mul_right}
use native.Mathlib.Omega.{arith}
use lib.ListN.{length, drop, get_or, length-append, length-drop}
use lib.Seq.{drop_at, take_all, take-append-le, drop-append-le, ext_get_or}
use Rattle.basics.specs.Lists.{list_of}
use Rattle.basics.proofs.Lists.{length-list_of, get_or-list_of, list_of-cong}
use Rattle.octets.specs.Octets.{joined, piece, item}

-- ---- pieces of what is appended

-- a piece of the first part
pub piece_then : (w at : ℕ) (a rest : List ℕ) → at + w ≤ length a → piece w at (a ++ rest) ≡ piece w at a
unfolding piece
piece_then w at a rest h =
    rw (drop-append-le at a rest (omega arith)) (take-append-le w (drop at a) rest (rw (length-drop at a) (omega arith)))

-- the second part, whole
pub piece-end : (w at : ℕ) (a v : List ℕ) → length a ≡ at → length v ≡ w → piece w at (a ++ v) ≡ v
unfolding piece
piece-end w at a v e l = rw (drop_at a v at e) (take_all w v (omega (arith, l)))

-- the second of three parts
pub piece-mid : (w at : ℕ) (a v rest : List ℕ) → length a ≡ at → length v ≡ w → piece w at (a ++ v ++ rest) ≡ v
piece-mid w at a v rest e l = piece_then w at (a ++ v) rest (omega (arith, length-append a v, e, l)) ∙ piece-end w at a v e l

-- ---- items

pub joined-cong : (n : ℕ) (f g : ℕ → List ℕ) → ((i : ℕ) → i < n → f i ≡ g i) → joined n f ≡ joined n g
unfolding joined
joined-cong zero f g e = refl
joined-cong (suc n) f g e = rw (joined-cong n f g (λ i l. e i (omega arith)), e n (omega arith))

pub length-joined : (w n : ℕ) (f : ℕ → List ℕ) → ((i : ℕ) → i < n → length (f i) ≡ w) → length (joined n f) ≡ n * w
unfolding joined
length-joined w zero f e = omega arith
length-joined w (suc n) f e =
    length-append (joined n f) (f n) ∙ ap₂ ◌+◌ (length-joined w n f (λ i l. e i (omega arith))) (e n (omega arith)) ∙ sym (suc-mul n w)

pub item-joined : (w n : ℕ) (f : ℕ → List ℕ) → ((i : ℕ) → i < n → length (f i) ≡ w) → (i : ℕ) → i < n → item w i (joined n f) ≡ f i
unfolding joined
item-joined w zero f e i l = absurd (omega arith)
item-joined w (suc n) f e i l = go (eq-or-lt_of_le (le_of_suc-le-suc l)) (item-joined w n f (λ j k. e j (omega arith)) i)
  where
    long : length (joined n f) ≡ n * w
    long = length-joined w n f (λ j k. e j (omega arith))

    go : (i ≡ n) ⊎ (i < n) → (i < n → item w i (joined n f) ≡ f i) → item w i (joined n f ++ f n) ≡ f i
    go (inl q) ih = rw q (piece-end w (n * w) (joined n f) (f n) long (e n (omega arith)))
    go (inr l') ih =
        let room : suc i * w ≤ n * w = mul-le-mul_right w l' in
        piece_then w (i * w) (joined n f) (f n) (omega (arith, long, room, suc-mul i w)) ∙ ih l'

-- the items of a list that is known by its places
pub joined-list : {A : Type 0} (n : ℕ) (g : ℕ → A) (d : A) (f : A → List ℕ)
    → joined (length (list_of n g)) (λ i. f (get_or (list_of n g) i d)) ≡ joined n (λ i. f (g i))
joined-list n g d f =
    rw (length-list_of n g) (joined-cong n (λ i. f (get_or (list_of n g) i d)) (λ i. f (g i)) (λ i l. ap f (get_or-list_of n g i d l)))

-- a list is the list of its elements by their places
pub list_of-get_or : {A : Type 0} (xs : List A) (d : A) (n : ℕ) → length xs ≡ n → list_of n (λ i. get_or xs i d) ≡ xs
list_of-get_or xs d n e =
    ext_get_or d (list_of n (λ i. get_or xs i d)) xs (length-list_of n (λ i. get_or xs i d) ∙ sym e)
    (λ i l. get_or-list_of n (λ j. get_or xs j d) i d (omega (arith, length-list_of n (λ j. get_or xs j d))))

-- a list is read back from n items, of which the first are its own: each from its own bytes
pub items_back : {A : Type 0} (w n : ℕ) (bytes : A → List ℕ) (from : List ℕ → A) (d : A) (xs : List A)
    → ((x : A) → length (bytes x) ≡ w) → length xs ≤ n → ((i : ℕ) → i < length xs → from (bytes (get_or xs i d)) ≡ get_or xs i d)
    → list_of (length xs) (λ i. from (item w i (joined n (λ j. bytes (get_or xs j d))))) ≡ xs
items_back w n bytes from d xs long few back =
    list_of-cong (length xs) (λ i. from (item w i (joined n (λ j. bytes (get_or xs j d))))) (λ i. get_or xs i d)
    (λ i l. ap from (item-joined w n (λ j. bytes (get_or xs j d)) (λ j k. long (get_or xs j d)) i (omega arith)) ∙ back i l)
    ∙ list_of-get_or xs d (length xs) refl
