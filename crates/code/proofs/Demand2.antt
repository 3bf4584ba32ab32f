-- Encoding makes codewords and decoding gives back what was encoded: specs/Demand2.antt, proved. Assumes nothing.
use mathlib.Core.Bool.{Bool, true, false, ◌&&◌, ◌||◌, not}
use mathlib.Core.List.{List, [], ◌∷◌, ◌++◌}
use mathlib.Core.Path.{◌≡◌, refl, sym, ap, ◌∙◌, subst}
use Prim.Native.Nat.{ℕ, ◌+◌, ◌-◌, ◌*◌, ◌≤◌, ◌<◌}
use native.Mathlib.Omega.{arith}
use lib.ListN.{length, get_or}
use lib.Dec.{leb, ltb, eqb}
use borrow.Author.Tests.{ltb-false, leb-true, eqb-true, not-false, eq-eqb, le-ltb}
use Rattle.blocks.specs.Blocks.{block, byte_at, table, Bytes}
use Rattle.blocks.proofs.Tables.{byte_at-table, table-cong, table-self, table-append, get_or-block}
use Rattle.basics.proofs.Tests.{never_both, and_left, and_right}
use Rattle.code.specs.Code.{code_sizes, symbol, codeword, redundant, Codeword}
use Rattle.code.specs.Calls.{answer_number, encoding, decoding, is_in, some_outside, given_set}
use Rattle.code.specs.Decode.{NodeSet, size, invertible, lowest, recovered, recovered_table}
use Rattle.code.specs.Demand2.{EncodingMakesCodewords, HoldsCodeword, DecodingGivesBack, CallsGiveBack, NeverNoInverse}
use Rattle.code.proofs.NodeSets.{set_of-has, length-set_of, lowest-from, lowest-has, lowest-chosen, lowest-invertible}
use Rattle.code.proofs.Recover.{Chosen, recover-symbol}
use Rattle.code.proofs.Sizes.{Sizes, sizes-of}
use Rattle.code.proofs.Symbols.{symbol-data, symbol-ext}

-- ---- encoding

-- node j's byte p of the codeword of d
abbrev held : ℕ → ℕ → List ℕ → ℕ → ℕ → ℕ
held k b d j p = symbol k j (λ i. byte_at b d i p)

-- the first k blocks of the codeword of d are d
pub data-blocks : (k b : ℕ) (d : List ℕ) → length d ≡ k * b → table k b (held k b d) ≡ d
data-blocks k b d l =
    table-cong k b (held k b d) (byte_at b d) (λ j p j1 jk lp. symbol-data k j (λ i. byte_at b d i p) jk) ∙ table-self k b d l

pub encoded-whole : (k n b : ℕ) (d : List ℕ) → k ≤ n → length d ≡ k * b → d ++ redundant k n b d ≡ codeword k n b d
unfolding codeword redundant
encoded-whole k n b d kn l =
    let parts : n ≡ k + (n - k) = omega arith in
    sym (ap (λ m. table m b (held k b d)) parts ∙ table-append k (n - k) b (held k b d) ∙ rw (data-blocks k b d l))

-- the codeword of a codeword's data is that codeword
pub codeword-again : (k n b : ℕ) (d : List ℕ) → k ≤ n → codeword k n b (codeword k n b d) ≡ codeword k n b d
unfolding codeword
codeword-again k n b d kn =
    let w : List ℕ = table n b (held k b d) in
    table-cong n b (held k b w) (held k b d)
    (λ j p j1 jn lp. symbol-ext k j (λ i. byte_at b w i p) (λ i. byte_at b d i p) j1
    (λ i i1 ik. byte_at-table n b (held k b d) i p i1 (omega arith) lp ∙ symbol-data k i (λ i. byte_at b d i p) ik))

pub encoding-makes-codewords : EncodingMakesCodewords
encoding-makes-codewords k n b d sizes l =
    let z : Sizes k n b = sizes-of k n b sizes in
    let whole = encoded-whole k n b d (omega arith) l in
    record { whole = whole; codeword = subst (Codeword k n b) (sym whole) (sym (codeword-again k n b d (omega arith))) }

-- ---- decoding

module _ (k n b : ℕ) (set : NodeSet) (t d : List ℕ) (z : Sizes k n b) (bytes : Bytes d) (h : HoldsCodeword k n b set t d) where
  chosen : Chosen k (lowest set)
  chosen = lowest-chosen k set (λ j e. omega (arith, h.nodes j e)) h.enough

  -- at each place the k lowest members hold what the codeword has there
  held-there : (q p : ℕ) → 1 ≤ q → q ≤ k → p < b → held k b d (lowest set q) p ≡ byte_at b t (lowest set q) p
  unfolding codeword
  held-there q p q1 qk lp =
      let j : ℕ = lowest set q in
      let qs : q ≤ size set = omega (arith, h.enough) in
      sym (sym (get_or-block b j p t lp) ∙ ap (λ x. get_or x p 0) (h.blocks q q1 qk) ∙ get_or-block b j p (codeword k n b d) lp
      ∙ byte_at-table n b (held k b d) j p (lowest-from set q q1 qs) (h.nodes j (lowest-has set q q1 qs)) lp)

  -- so any m blocks recovered are those of the codeword
  recovered-blocks : (m : ℕ) → m ≤ n → recovered_table k m b set t ≡ table m b (held k b d)
  unfolding recovered_table byte_at
  recovered-blocks m mn =
      table-cong m b (λ j p. recovered k (lowest set) (λ q. byte_at b t (lowest set q) p) j) (held k b d)
      (λ j p j1 jm lp. recover-symbol k (lowest set) (omega arith) chosen (λ q. byte_at b t (lowest set q) p) (λ i. byte_at b d i p)
      (λ i i1 ik. bytes.small ((i - 1) * b + p)) (λ q q1 qk. held-there q p q1 qk lp) j j1 (omega arith))

pub decoding-gives-back : DecodingGivesBack
unfolding codeword
decoding-gives-back k n b set t d sizes l bytes h =
    let z : Sizes k n b = sizes-of k n b sizes in
    record {
      decodes = recovered-blocks k n b set t d z bytes h k (omega arith) ∙ data-blocks k b d l;
      rebuilds = recovered-blocks k n b set t d z bytes h n (omega arith);
    }

-- ---- the two calls

or-false : (a b : Bool) → (a || b) ≡ false → (a ≡ false) × (b ≡ false)
or-false true b e = (e, cc)
or-false false b e = (refl, e)

-- where no node given is outside, those given are at most n
pub is-in-most : (n : ℕ) (xs : List ℕ) (j : ℕ) → some_outside n xs ≡ false → is_in xs j ≡ true → j ≤ n
unfolding is_in
is-in-most n [] j e i = absurd (never_both false i refl)
is-in-most n (x ∷ xs) j e i =
    let (here, rest) = or-false (not (leb 1 x && leb x n)) (some_outside n xs) e in
    by (eqb x j) refl i (leb-true x n (and_right (leb 1 x) (leb x n) (not-false (leb 1 x && leb x n) here))) (is-in-most n xs j rest)
  where
    by : (t : Bool) → eqb x j ≡ t → (t || is_in xs j) ≡ true → x ≤ n → (is_in xs j ≡ true → j ≤ n) → j ≤ n
    by true q i here rest = omega (arith, eqb-true x j q)
    by false q i here rest = rest i

pub given-invertible : (k : ℕ) (nodes : List ℕ) → k ≤ 256 → k ≤ size (given_set nodes) → invertible k (lowest (given_set nodes)) ≡ true
given-invertible k nodes = lowest-invertible k (given_set nodes) (omega (arith, length-set_of (is_in nodes)))

pub calls-give-back : CallsGiveBack
calls-give-back k n b d room t nodes out sizes bytes ld lr lt lo inside enough same =
    let z : Sizes k n b = sizes-of k n b sizes in
    let set : NodeSet = given_set nodes in
    let encoded : (encoding k n b d room).out ≡ redundant k n b d = rw (sizes, eq-eqb (length d) (k * b) ld, eq-eqb (length room) ((n - k) * b) lr) in
    let holds : HoldsCodeword k n b set t d =
    record {
      enough = enough;
      nodes = λ j e. is-in-most n nodes j inside (set_of-has (is_in nodes) j e);
      blocks = λ q q1 qk.
          same (lowest set q) (set_of-has (is_in nodes) (lowest set q) (lowest-has set q q1 (omega arith)))
          ∙ ap (λ w. block b (lowest set q) w) (ap (λ r. d ++ r) encoded ∙ encoded-whole k n b d (omega arith) ld);
    } in
    rw (
      sizes,
      eq-eqb (length t) (n * b) lt,
      eq-eqb (length out) (k * b) lo,
      inside,
      le-ltb (size set) k enough,
      given-invertible k nodes (omega arith) enough,
      (decoding-gives-back k n b set t d sizes ld bytes holds).decodes,
    )

pub never-no-inverse : NeverNoInverse
never-no-inverse k n b nodes t out e = limits fit refl
  where
    fit : Bool
    fit = code_sizes k n b && (eqb (length t) (n * b) && eqb (length out) (k * b))

    number : answer_number (decoding k n b nodes t out).answer ≡ 12
    number = ap answer_number e

    few : (r : Bool) → ltb (size (given_set nodes)) k ≡ r → fit ≡ true → some_outside n nodes ≡ false → ⊥
    few true f q o = omega (arith, rw (q, o, f) at number)
    few false f q o =
        let z : Sizes k n b = sizes-of k n b (and_left (code_sizes k n b) (eqb (length t) (n * b) && eqb (length out) (k * b)) q) in
        omega (arith, rw (q, o, f, given-invertible k nodes (omega arith) (ltb-false (size (given_set nodes)) k f)) at number)

    outside : (r : Bool) → some_outside n nodes ≡ r → fit ≡ true → ⊥
    outside true o q = omega (arith, rw (q, o) at number)
    outside false o q = few (ltb (size (given_set nodes)) k) refl q o

    limits : (r : Bool) → fit ≡ r → ⊥
    limits true q = outside (some_outside n nodes) refl q
    limits false q = omega (arith, rw q at number)
