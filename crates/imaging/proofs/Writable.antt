-- Whether a stripe may be written, as the code tests it: the records by value have the right number, and their sets are whole. Assumes nothing.
use mathlib.Core.Bool.{Bool, true, false, ◌&&◌, and-true}
use mathlib.Core.List.{List, [], ◌∷◌, ◌++◌}
use mathlib.Core.Path.{◌≡◌, refl, sym, ap, ◌∙◌}
use Prim.Native.Nat.{ℕ, zero, suc, ◌*◌, ◌<◌, ◌≤◌}
use native.Mathlib.Omega.{arith}
use lib.Dec.{eqb}
use lib.ListN.{length, get_or, take}
use borrow.Author.Tests.{eq-eqb}
use Rattle.std.proofs.lemmas.List.{get_or-take, length-take-le}
use Rattle.std.specs.Bool.{MatchBool}
use Rattle.std.specs.List.{AllWithin, HoldsAt}
use Rattle.basics.specs.Lists.{list_of, every_of}
use Rattle.basics.proofs.Lists.{length-list_of, get_or-list_of}
use Rattle.basics.proofs.Tests.{and_left, and_right}
use Rattle.image.specs.Image.{node_whole, client_whole, records_fit, tables_fit, sets_fit, writable}
use Rattle.image.proofs.Limits.{every-place}
use Rattle.image.proofs.Whole.{node-whole, client-whole}
use Rattle.records.specs.declared.Sizes.{Sizes}
use Rattle.records.specs.Client.{Client, client_within}
use Rattle.records.specs.Node.{Node, node_within}
use Rattle.records.specs.Sizes.{sizes_within}
use Rattle.records.specs.View.{node_of, client_of}
use Rattle.step.specs.declared.Stripe.{Stripe}
use Rattle.step.specs.View.{blank_client, clients_of, stripe_of}
use Rattle.stripe.specs.View.{record_at, nodes_of}

every_append : {A : Type 0} (p : A → Bool) (xs ys : List A) → every_of p xs ≡ true → every_of p ys ≡ true → every_of p (xs ++ ys) ≡ true
unfolding every_of
every_append p [] ys a b = b
every_append p (x ∷ xs) ys a b = rw (and_left (p x) (every_of p xs) a, every_append p xs ys (and_right (p x) (every_of p xs) a) b)

every_of_lem : {A : Type 0} (p : A → Bool) (n : ℕ) (f : ℕ → A) → ((i : ℕ) → i < n → p (f i) ≡ true) → every_of p (list_of n f) ≡ true
unfolding every_of list_of
every_of_lem p zero f h = refl
every_of_lem p (suc n) f h = every_append p (list_of n f) (f n ∷ []) (every_of_lem p n f (λ i l. h i (omega arith))) (rw (h n (omega arith)))

-- whether the first n items of an array all pass, by what is known of each or of one
pub every-first : {R A : Type 0} (f : R → A) (blank : R) (p : A → Bool) (n : ℕ) (xs : List R) → n ≤ length xs → (r : Bool)
    → MatchBool r (AllWithin (λ x. p (f x) ≡ true) (take n xs) 0 (length (take n xs)))
    ((k : ℕ) × (k < length (take n xs)) × HoldsAt (λ x. p (f x) ≡ false) (take n xs) k)
    → r ≡ every_of p (list_of n (λ i. f (get_or xs i blank)))
every-first f blank p n xs h true all =
    sym (every_of_lem p n (λ i. f (get_or xs i blank)) (λ i l. ap (λ r. p (f r)) (sym (get_or-take n xs i blank l))
    ∙ all i blank (omega arith) (omega (arith, length-take-le n xs h, l))))
every-first {R} {A} f blank p n xs h false some = by (every_of p seen) refl
  where
    item : ℕ → A
    item i = f (get_or xs i blank)

    seen : List A
    seen = list_of n item

    by : (u : Bool) → every_of p seen ≡ u → false ≡ every_of p seen
    by false e = sym e
    by true e =
        let l : some.0 < n = omega (arith, some.1, length-take-le n xs h) in
        let yes : p (f (get_or xs some.0 blank)) ≡ true =
        ap p (sym (get_or-list_of n item some.0 (f blank) l)) ∙ every-place p (list_of n item) (f blank) e some.0 (omega (arith, l, length-list_of n item)) in
        let no : p (f (get_or xs some.0 blank)) ≡ false = ap (λ r. p (f r)) (sym (get_or-take n xs some.0 blank l)) ∙ some.2 blank in
        cc (yes, no)

module _ (z : Sizes) (x : Stripe) (blocks spare differences : List ℕ) where
  abbrev node_at_lem : ℕ → Node
  node_at_lem i = node_of (record_at x.nodes i)

  abbrev client-at : ℕ → Client
  client-at i = client_of (get_or x.clients.items i blank_client)

  pub writable-tests : writable z (stripe_of z x blocks spare differences)
      ≡ (sizes_within z && ((every_of (node_within z) (nodes_of z.n x.nodes) && every_of (client_within z) (clients_of z.m x.clients))
      && (eqb (length blocks) (z.n * z.b) && (eqb (length differences) (z.m * z.b) && eqb (length spare) (z.n * z.b)))))
  unfolding writable records_fit tables_fit sets_fit
  writable-tests =
      rw (
        eq-eqb (length (list_of z.n node_at_lem)) z.n (length-list_of z.n node_at_lem),
        eq-eqb (length (list_of z.m client-at)) z.m (length-list_of z.m client-at),
        every_of_lem node_whole z.n node_at_lem (λ i _. node-whole (record_at x.nodes i)),
        every_of_lem client_whole z.m client-at (λ i _. client-whole (get_or x.clients.items i blank_client)),
        and-true (eqb (length blocks) (z.n * z.b) && (eqb (length differences) (z.m * z.b) && eqb (length spare) (z.n * z.b))),
      )
