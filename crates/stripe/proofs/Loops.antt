-- What a loop that stores place by place cites. Assumes nothing.
use mathlib.Core.Path.{◌≡◌, refl, ◌∙◌}
use mathlib.Core.List.{List}
use Prim.Native.Nat.{ℕ, ◌+◌, ◌≤◌, ◌<◌}
use native.Mathlib.Decide.{ℕ_discrete}
use native.Mathlib.Omega.{arith}
use lib.ListN.{length, get_or, set, length-set}
use lib.Seq.{get_or-set_same, get_or-set_other}

-- ---- a loop that stores at each place from a to n in turn. An element is seen through f: places a to i have `new`, the others what they had

pub record Stored {A B : Type 0} (f : A → B) (d : A) (new : ℕ → B) (old now : List A) (a i n : ℕ) : Type 0 where
  pub from : a ≤ i
  pub to : i ≤ n
  pub room : n ≤ length old
  pub places : length now ≡ length old
  pub done : (p : ℕ) → a ≤ p → p < i → f (get_or now p d) ≡ new p
  pub others : (p : ℕ) → (a ≤ p → i ≤ p) → get_or now p d ≡ get_or old p d

module _ {A B : Type 0} {f : A → B} {d : A} {new : ℕ → B} {old : List A} {a n : ℕ} where
  pub store-start : a ≤ n → n ≤ length old → Stored f d new old old a a n
  store-start h k = record {
    from = omega arith;
    to = h;
    room = k;
    places = refl;
    done = λ p l m. absurd (omega arith);
    others = λ p o. refl;
  }

  module _ {now : List A} {i : ℕ} (q : Stored f d new old now a i n) where
    -- the element that a turn finds
    pub store-next : get_or now i d ≡ get_or old i d
    store-next = q.others i (λ l. omega arith)

    pub store-on : (x : A) → i < n → f x ≡ new i → Stored f d new old (set now i x) a (i + 1) n
    store-on x h e = record {
      from = omega arith;
      to = omega arith;
      room = q.room;
      places = length-set now i x ∙ q.places;
      done = λ p l m. stored p l m (ℕ_discrete p i);
      others = λ p o. get_or-set_other now i p x d (λ z. omega (arith, o (omega arith))) ∙ q.others p (λ l. omega (arith, o l));
    }
      where
        stored : (p : ℕ) → a ≤ p → p < i + 1 → Dec (p ≡ i) → f (get_or (set now i x) p d) ≡ new p
        stored p l m (yes z) = rw (z, get_or-set_same now i x d (omega (arith, q.places, q.room))) e
        stored p l m (no ne) = rw (get_or-set_other now i p x d ne) (q.done p l (omega arith))
