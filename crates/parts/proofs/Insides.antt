-- What a call on the parts of tables says of the tables, whatever it says of the parts. Assumes nothing.
--     same_len       a part that is put in the place of one as long leaves the list as long
--     cut-paste      what is put in the place of a part is the part
--     inside         so the call says `Inside R`, for any R
--     Cut            a part begins and ends there
--     inside-at      the same of parts that begin and end there
use mathlib.Core.List.{List, ◌++◌}
use mathlib.Core.Path.{◌≡◌, refl, sym, ap, ◌∙◌, subst, transport}
use Prim.Native.Nat.{ℕ, ◌-◌}
use native.Mathlib.Omega.{arith}
use lib.ListN.{length, take, drop}
use lib.Seq.{length-take-le, take_at, drop_at}
use borrow.Rule.Slice.PartMut.{mid_len, same_len_mid}
use Rattle.parts.specs.Inside.{Range, cut, paste, part_in, Inside}
use Rattle.parts.proofs.Part.{Within, paste_in}

pub same_len : {X : Type 0} (p : Range) (xs ms : List X) → length ms ≡ length (part_in p xs) → length (paste_in p xs ms) ≡ length xs
same_len p xs ms len = same_len_mid p.first (p.end - p.first) xs ms len

pub cut-paste : {X : Type 0} (p : Range) (xs ms : List X) → Within p (length xs) → length ms ≡ length (part_in p xs) → part_in p (paste_in p xs ms) ≡ ms
cut-paste {X} p xs ms in-it len =
    ap (λ (z : List X). take (p.end - p.first) z)
    (drop_at (take p.first xs) (ms ++ drop (p.end - p.first) (drop p.first xs)) p.first
    (length-take-le p.first xs (omega (arith, in-it.order, in-it.fits))))
    ∙ take_at ms (drop (p.end - p.first) (drop p.first xs)) (p.end - p.first) (len ∙ mid_len p.first p.end xs in-it.fits)

module _ {N C Q A : Type 0}
    (R : List N → List C → List ℕ → List ℕ → List ℕ → List ℕ → Q → A → List N → List C → List ℕ → List ℕ → List ℕ → Type 0)
    (n c b s d v : Range) (nodes : List N) (clients : List C) (blocks spare differences value : List ℕ) where
  pub inside : Within n (length nodes) → Within c (length clients) → Within b (length blocks) → Within s (length spare) → Within d (length differences)
      → (q : Q) (answer : A) (ns : List N) (cs : List C) (bs ss ds : List ℕ)
      → (length ns ≡ length (part_in n nodes)) × ((length cs ≡ length (part_in c clients)) × ((length bs ≡ length (part_in b blocks))
      × ((length ss ≡ length (part_in s spare)) × (length ds ≡ length (part_in d differences)))))
      → R (part_in n nodes) (part_in c clients) (part_in b blocks) (part_in s spare) (part_in d differences) (part_in v value) q answer ns cs bs ss ds
      → Inside R n c b s d v nodes clients blocks spare differences value q answer
      (paste_in n nodes ns) (paste_in c clients cs) (paste_in b blocks bs) (paste_in s spare ss) (paste_in d differences ds)
  inside in-n in_c in_b in-s in-d q answer ns cs bs ss ds len said =
      let n-is = cut-paste n nodes ns in-n len.0 in
      let c_is = cut-paste c clients cs in_c len.1.0 in
      let b-is = cut-paste b blocks bs in_b len.1.1.0 in
      let s-is = cut-paste s spare ss in-s len.1.1.1.0 in
      let d-is = cut-paste d differences ds in-d len.1.1.1.1 in
      rw n-is (rw c_is (rw b-is (rw s-is (rw d-is (
        said,
        (
          (same_len n nodes ns len.0, refl),
          (
            (same_len c clients cs len.1.0, refl),
            (
              (same_len b blocks bs len.1.1.0, refl),
              ((same_len s spare ss len.1.1.1.0, refl), (same_len d differences ds len.1.1.1.1, refl)),
            ),
          ),
        ),
      )))))

-- ---- parts that begin and end there

pub record Cut (p : Range) (a e : ℕ) : Type 0 where
  pub first : a ≡ p.first
  pub end : e ≡ p.end

abbrev range : ℕ → ℕ → Range
range a e = record { first = a; end = e }

range_is : (p : Range) (a e : ℕ) → Cut p a e → range a e ≡ p
range_is p a e c = λ i. record { first = c.first i; end = c.end i }

lies : (p : Range) (a e : ℕ) → Cut p a e → (n : ℕ) → Within p n → Within (range a e) n
lies p a e c n w = subst (λ (k : Range). Within k n) (sym (range_is p a e c)) w

module _ {N C Q A : Type 0}
    (R : List N → List C → List ℕ → List ℕ → List ℕ → List ℕ → Q → A → List N → List C → List ℕ → List ℕ → List ℕ → Type 0)
    (nodes : List N) (clients : List C) (blocks spare differences value : List ℕ) where
  pub inside-at : (n c b s d v : Range) (asked q : Q) → q ≡ asked → (answer : A) (ns : List N) (cs : List C) (bs ss ds : List ℕ)
      (a0 e0 a1 e1 a2 e2 a3 e3 a4 e4 a5 e5 : ℕ)
      → Within n (length nodes) → Within c (length clients) → Within b (length blocks) → Within s (length spare) → Within d (length differences)
      → Cut n a0 e0 → Cut c a1 e1 → Cut b a2 e2 → Cut s a3 e3 → Cut d a4 e4 → Cut v a5 e5
      → length ns ≡ length (cut a0 e0 nodes) → length cs ≡ length (cut a1 e1 clients) → length bs ≡ length (cut a2 e2 blocks)
      → length ss ≡ length (cut a3 e3 spare) → length ds ≡ length (cut a4 e4 differences)
      → R (cut a0 e0 nodes) (cut a1 e1 clients) (cut a2 e2 blocks) (cut a3 e3 spare) (cut a4 e4 differences) (cut a5 e5 value) q answer ns cs bs ss ds
      → Inside R n c b s d v nodes clients blocks spare differences value asked answer
      (paste a0 e0 nodes ns) (paste a1 e1 clients cs) (paste a2 e2 blocks bs) (paste a3 e3 spare ss) (paste a4 e4 differences ds)
  inside-at n c b s d v asked q q-is answer ns cs bs ss ds a0 e0 a1 e1 a2 e2 a3 e3 a4 e4 a5 e5 in-n in_c in_b in-s in-d n-at c_at b-at s-at d-at v-at
      n-long c-long b-long s-long d-long said =
      transport (λ i. Inside R (range_is n a0 e0 n-at i) (range_is c a1 e1 c_at i) (range_is b a2 e2 b-at i) (range_is s a3 e3 s-at i)
      (range_is d a4 e4 d-at i) (range_is v a5 e5 v-at i) nodes clients blocks spare differences value (q-is i) answer
      (paste a0 e0 nodes ns) (paste a1 e1 clients cs) (paste a2 e2 blocks bs) (paste a3 e3 spare ss) (paste a4 e4 differences ds))
      (inside R (range a0 e0) (range a1 e1) (range a2 e2) (range a3 e3) (range a4 e4) (range a5 e5) nodes clients blocks spare differences value
      (lies n a0 e0 n-at (length nodes) in-n) (lies c a1 e1 c_at (length clients) in_c) (lies b a2 e2 b-at (length blocks) in_b)
      (lies s a3 e3 s-at (length spare) in-s) (lies d a4 e4 d-at (length differences) in-d)
      q answer ns cs bs ss ds (n-long, (c-long, (b-long, (s-long, d-long)))) said)
