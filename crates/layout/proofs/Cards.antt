-- "within a stripe no card is used twice", and the rotation in numbers. Assumes nothing.
use mathlib.Core.Path.{◌≡◌, refl, sym, ap, ◌∙◌}
use Prim.Native.Nat.{ℕ, ◌+◌, ◌-◌, ◌*◌, ◌/◌, ◌%◌, ◌≤◌, ◌<◌}
use native.Mathlib.Nat.{mod-lt, mod-add-mod, mod-eq_of_lt, add-mul, one-mul, add-mul-mod_self_right, div-add-mod'}
use native.Mathlib.Omega.{arith}
use Rattle.layout.specs.Layout.{card_of, node_on, OneCard}
use Rattle.layout.proofs.Homes.{from_one}

-- s turns and those left of the last round are whole rounds
rounds : (n s : ℕ) → 1 ≤ n → s + (n - s % n) ≡ (s / n + 1) * n
rounds n s l =
    let e : (s / n + 1) * n ≡ s / n * n + n = add-mul (s / n) 1 n ∙ ap (λ x. s / n * n + x) (one-mul n) in
    omega (arith, e, div-add-mod' s n, mod-lt s {m = n} l)

-- turned by a and then by b, together whole rounds: counted from 0, and from 1
whole : (n s x a b : ℕ) → x < n → a + b ≡ s + (n - s % n) → ((x + a) % n + b) % n ≡ x
whole n s x a b l e =
    let sum : x + a + b ≡ x + (s / n + 1) * n = omega (arith, e, rounds n s (omega arith)) in
    mod-add-mod (x + a) n b ∙ ap (λ y. y % n) sum ∙ add-mul-mod_self_right x (s / n + 1) n ∙ mod-eq_of_lt l

back : (n s x a b : ℕ) → a + b ≡ s + (n - s % n) → 1 ≤ x → x ≤ n → ((x - 1 + a) % n + 1 - 1 + b) % n + 1 ≡ x
back n s x a b e l m =
    let from_zero : (x - 1 + a) % n + 1 - 1 ≡ (x - 1 + a) % n = omega arith in
    rw (from_zero, whole n s (x - 1) a b (omega arith) e) (omega arith)

node_of_card : (n s j : ℕ) → 1 ≤ j → j ≤ n → node_on n s (card_of n s j) ≡ j
node_of_card n s j l m = back n s j s (n - s % n) refl l m

card_of_node : (n s card : ℕ) → 1 ≤ card → card ≤ n → card_of n s (node_on n s card) ≡ card
card_of_node n s card l m = back n s card (n - s % n) s (omega arith) l m

not_twice : (n s j i : ℕ) → 1 ≤ j → j ≤ n → 1 ≤ i → i ≤ n → card_of n s j ≡ card_of n s i → j ≡ i
not_twice n s j i lj mj li mi e = sym (node_of_card n s j lj mj) ∙ ap (node_on n s) e ∙ node_of_card n s i li mi

pub one-card : OneCard
one-card = record {
  card = λ n s j. from_one n (j - 1 + s);
  node = λ n s card. from_one n (card - 1 + (n - s % n));
  node_of_card = node_of_card;
  card_of_node = card_of_node;
  not_twice = not_twice;
}

-- four cards: stripe 0 has its nodes on the cards of their own numbers, stripe 1 each on the next card
unturned : (card_of 4 0 1 ≡ 1) × (card_of 4 0 4 ≡ 4)
unturned = (refl, refl)

next-card : (card_of 4 1 1 ≡ 2) × (card_of 4 1 4 ≡ 1)
next-card = (refl, refl)

next-node : (node_on 4 1 1 ≡ 4) × (node_on 4 1 2 ≡ 1)
next-node = (refl, refl)

-- stripe 4 as stripe 0
round : (card_of 4 4 3 ≡ 3) × (node_on 4 4 3 ≡ 3)
round = (refl, refl)
