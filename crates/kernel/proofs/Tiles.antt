-- The kernel's sums (src/sums.rt, bits.rt): those of a group of sources, and those of a tile. Assumes nothing.
use mathlib.Core.List.{List}
use mathlib.Core.Logic.{◌⊎◌, inl, inr}
use mathlib.Core.Path.{◌≡◌, refl, sym, ap, subst, ◌∙◌}
use Prim.Native.Nat.{ℕ, ◌+◌, ◌-◌, ◌*◌, ◌/◌, ◌%◌, ◌≤◌, ◌<◌}
use native.Mathlib.Decide.{ℕ_discrete, dec_lt}
use native.Mathlib.Nat.{add-sub_cancel_left, suc-mul, mul-le-mul_right}
use native.Mathlib.Omega.{arith}
use lib.Bits.{bit_and}
use lib.ListN.{length, get_or, take}
use lib.Seq.{get_or-take, length-take-le}
use Rattle.basics.proofs.Computed.{every, same-below}
use Rattle.blocks.specs.Blocks.{set_part}
use Rattle.basics.specs.Lists.{list_of}
use Rattle.lanes.specs.Lanes.{lane, chosen}
use Rattle.blocks.proofs.Parts.{set-length, put_in, put-before, put-after}
use Rattle.basics.proofs.Lists.{length-list_of, get_or-list_of, list_of-cong}
use Rattle.kernel.specs.Working.{Summed, Prepared, Lowest, Filled, group_sum, spread, down}

-- ---- a group

module _ (t starts : List ℕ) (p n g : ℕ) where
  -- the sixteen bytes of source q of the group
  abbrev of : ℕ → List ℕ
  of q = list_of 16 (lane t (get_or starts q 0 + p) n)

  pub group-is : (w x y z : List ℕ) → w ≡ of (4 * g) → x ≡ of (4 * g + 1) → y ≡ of (4 * g + 2) → z ≡ of (4 * g + 3)
      → list_of 256 (λ i. chosen (i / 16) (get_or w (i % 16) 0) (get_or x (i % 16) 0) (get_or y (i % 16) 0) (get_or z (i % 16) 0)) ≡ list_of 256 (group_sum t starts p n g)
  unfolding group_sum
  group-is w x y z ew ex ey ez =
      list_of-cong 256 _ _
      (λ i l. rw (ew, ex, ey, ez, at (4 * g) i, at (4 * g + 1) i, at (4 * g + 2) i, at (4 * g + 3) i))
    where
      at : (q i : ℕ) → get_or (of q) (i % 16) 0 ≡ lane t (get_or starts q 0 + p) n (i % 16)
      at q i = get_or-list_of 16 (lane t (get_or starts q 0 + p) n) (i % 16) 0 (omega arith)

-- ---- a tile: the sums of one group after the other, each along the tile

module _ (t starts : List ℕ) (p n : ℕ) (few : n ≤ 256) where
  pub summed-none : (s : List ℕ) → length s ≡ 12288 → Summed t starts p n 0 0 s
  summed-none s e = record { size = e; at = λ u h i hu h3 hi l. absurd (omega arith) }

  pub summed_turn : (g c : ℕ) (s d : List ℕ) → g < 3 → 16 * c < n → Summed t starts p n g c s
      → d ≡ list_of 256 (group_sum t starts (p + 16 * c) (n - 16 * c) g)
      → Summed t starts p n g (c + 1) (set_part (c * 768 + g * 256) (c * 768 + g * 256 + 256 - (c * 768 + g * 256)) d s)
  summed_turn g c s d g3 cn done e =
      rw (add-sub_cancel_left a 256)
      record { size = set-length a 256 d s fits many ∙ done.size; at = λ u h i hu h3 hi l. by u h i hu h3 hi l (ℕ_discrete (16 * h + u) (16 * g + c)) }
    where
      a : ℕ
      a = c * 768 + g * 256

      fits : a + 256 ≤ length s
      fits = omega (arith, done.size)

      many : length d ≡ 256
      many = ap length e ∙ length-list_of 256 (group_sum t starts (p + 16 * c) (n - 16 * c) g)

      elsewhere : (k : ℕ) → (k < a) ⊎ (a + 256 ≤ k) → get_or (set_part a 256 d s) k 0 ≡ get_or s k 0
      elsewhere k (inl l) = put-before a 256 d s fits many k l
      elsewhere k (inr l) = put-after a 256 d s fits many k l

      side : (u h i : ℕ) → u < 16 → h < 3 → i < 256 → 16 * h + u < 16 * g + c → (u * 768 + (h * 256 + i) < a) ⊎ (a + 256 ≤ u * 768 + (h * 256 + i))
      side u h i hu h3 hi l = which (dec_lt (u * 768 + (h * 256 + i)) a)
        where
          which : Dec (u * 768 + (h * 256 + i) < a) → (u * 768 + (h * 256 + i) < a) ⊎ (a + 256 ≤ u * 768 + (h * 256 + i))
          which (yes b) = inl b
          which (no b) = inr (omega arith)

      by : (u h i : ℕ) → 16 * u < n → h < 3 → i < 256 → 16 * h + u < 16 * g + (c + 1) → Dec (16 * h + u ≡ 16 * g + c)
          → get_or (set_part a 256 d s) (u * 768 + (h * 256 + i)) 0 ≡ group_sum t starts (p + 16 * u) (n - 16 * u) h i
      by u h i hu h3 hi l (yes same) =
          let eu : u ≡ c = omega arith in
          let eh : h ≡ g = omega arith in
          let place : c * 768 + (g * 256 + i) ≡ a + i = omega arith in
          rw (eu, eh)
          (ap (λ k. get_or (set_part a 256 d s) k 0) place ∙ put_in a 256 d s fits many i hi ∙ ap (λ x. get_or x i 0) e
          ∙ get_or-list_of 256 (group_sum t starts (p + 16 * c) (n - 16 * c) g) i 0 hi)
      by u h i hu h3 hi l (no other) =
          elsewhere (u * 768 + (h * 256 + i)) (side u h i (omega arith) h3 hi (omega arith)) ∙ done.at u h i hu h3 hi (omega arith)

  -- a group is there when all its bytes are
  pub summed-group : (g c : ℕ) (s : List ℕ) → n ≤ 16 * c → Summed t starts p n g c s → Summed t starts p n (g + 1) 0 s
  summed-group g c s all done =
      record { size = done.size; at = λ u h i hu h3 hi l. done.at u h i hu h3 hi (omega arith) }

  pub prepared : (s : List ℕ) → Summed t starts p n 3 0 s → Prepared t starts p n s
  prepared s done =
      record { size = done.size; at = λ c g v l hn hg hv hl. done.at c g (16 * v + l) (omega arith) hg (omega arith) (omega arith) }

-- ---- digits

pub spread-is : (w : ℕ) → w < 256 → bit_and (bit_and (bit_and (w * 4097) 983055 * 65) 50529027 * 9) 286331153 ≡ spread 8 w
unfolding every spread
spread-is = same-below 256 (λ w. bit_and (bit_and (bit_and (w * 4097) 983055 * 65) 50529027 * 9) 286331153) (spread 8) refl

-- ---- one block

-- r from a on, as far as the list goes
abbrev pub PutIn : ℕ → List ℕ → List ℕ → List ℕ → Type 0
PutIn a r old now =
    (length now ≡ length old) × ((i : ℕ) → i < a → get_or now i 0 ≡ get_or old i 0) × ((l : ℕ) → l < 16 → a + l < length old → get_or now (a + l) 0 ≡ get_or r l 0)

pub put_is : (a k : ℕ) (p r old : List ℕ) → a + k ≤ length old → p ≡ take k r → k ≤ length r → ((l : ℕ) → l < 16 → a + l < length old → l < k)
    → PutIn a r old (set_part a (a + k - a) p old)
put_is a k p r old fits e long far =
    let many : length p ≡ k = ap length e ∙ length-take-le k r long in
    rw (add-sub_cancel_left a k) (
      set-length a k p old fits many,
      put-before a k p old fits many,
      λ l h i. put_in a k p old fits many l (far l h i) ∙ ap (λ d. get_or d l 0) e ∙ get_or-take k r l 0 (far l h i),
    )

-- sixteen bytes more
pub sixteens-turn : (m : ℕ) (s : List ℕ) (x y z e n c : ℕ) (out r d : List ℕ) → 16 * c + 16 ≤ n → Lowest m s x y z e n c out → length r ≡ 16 → d ≡ r
    → ((l : ℕ) → l < 16 → get_or r l 0 ≡ down s x y z (e + c * 768 + l) m 0)
    → Lowest m s x y z e n (c + 1) (set_part (16 * c) (16 * c + 16 - 16 * c) d out)
sixteens-turn m s x y z e n c out r d room upto many same here =
    rw (same, add-sub_cancel_left (16 * c) 16) (set-length (16 * c) 16 r out fits many ∙ upto.0, λ i hi. by i hi (dec_lt i (16 * c)))
  where
    fits : 16 * c + 16 ≤ length out
    fits = omega arith

    by : (i : ℕ) → i < 16 * (c + 1) → Dec (i < 16 * c)
        → get_or (set_part (16 * c) 16 r out) i 0 ≡ down s x y z (e + (i / 16 * 768 + i % 16)) m 0
    by i hi (yes l) = put-before (16 * c) 16 r out fits many i l ∙ upto.1 i l
    by i hi (no o) =
        let l : ℕ = i - 16 * c in
        let it : 16 * c + l ≡ i = omega arith in
        let at : e + (i / 16 * 768 + i % 16) ≡ e + c * 768 + l = omega arith in
        ap (λ k. get_or (set_part (16 * c) 16 r out) k 0) (sym it) ∙ put_in (16 * c) 16 r out fits many l (omega arith)
        ∙ here l (omega arith) ∙ ap (λ k. down s x y z k m 0) (sym at)

-- the whole sixteens of n bytes, and then the rest, which r has
module _ (P : ℕ → Type 0) (f : ℕ → ℕ) (n : ℕ) (fine : (i : ℕ) → i < n → P (i / 16 * 768 + i % 16)) (whole : List ℕ)
    (wholes : (i : ℕ) → i < n / 16 * 16 → P (0 + (i / 16 * 768 + i % 16)) → get_or whole i 0 ≡ f (0 + (i / 16 * 768 + i % 16))) where
  pub whole_is : (i : ℕ) → i < n → i < n / 16 * 16 → get_or whole i 0 ≡ f (i / 16 * 768 + i % 16)
  whole_is i h l = let e : 0 + (i / 16 * 768 + i % 16) ≡ i / 16 * 768 + i % 16 = omega arith in rw e at (wholes i l) (fine i h)

  pub rest-is : (r now : List ℕ) → ((i : ℕ) → i < 16 * (n / 16) → get_or now i 0 ≡ get_or whole i 0)
      → ((l : ℕ) → l < 16 → 16 * (n / 16) + l < n → get_or now (16 * (n / 16) + l) 0 ≡ get_or r l 0)
      → ((l : ℕ) → l < 16 → P (n / 16 * 768 + (l / 16 * 768 + l % 16)) → get_or r l 0 ≡ f (n / 16 * 768 + (l / 16 * 768 + l % 16)))
      → (i : ℕ) → i < n → get_or now i 0 ≡ f (i / 16 * 768 + i % 16)
  rest-is r now kept put rest i h = by (dec_lt i (16 * (n / 16)))
    where
      by : Dec (i < 16 * (n / 16)) → get_or now i 0 ≡ f (i / 16 * 768 + i % 16)
      by (yes l) = kept i l ∙ whole_is i h (omega arith)
      by (no o) =
          let l : ℕ = i - 16 * (n / 16) in
          let e : 16 * (n / 16) + l ≡ i = omega arith in
          let at : i / 16 * 768 + i % 16 ≡ n / 16 * 768 + (l / 16 * 768 + l % 16) = omega arith in
          ap (λ k. get_or now k 0) (sym e) ∙ put l (omega arith) (omega arith) ∙ rest l (omega arith) (subst P at (fine i h)) ∙ ap f (sym at)

-- ---- all blocks: after j turns the bytes of the first j are there

-- u blocks of b bytes and one more are no more than j blocks
pub blocks-below : (u j b : ℕ) → u < j → u * b + b ≤ j * b
blocks-below u j b l = omega (arith, suc-mul u b, mul-le-mul_right b l)

module _ (m b p n : ℕ) (s plan old : List ℕ) (room : p + n ≤ b) where
  abbrev goal : ℕ → ℕ → ℕ
  goal u i = down s (get_or plan (3 * u) 0) (get_or plan (3 * u + 1) 0) (get_or plan (3 * u + 2) 0) (i / 16 * 768 + i % 16) 8 0

  pub filled_none : length old ≡ m * b → Filled m b p n s plan old 0 old
  filled_none e = record { size = e; before = λ u i hu hi. refl; done = λ u i hu hi. absurd (omega arith) }

  pub filled-fits : (j : ℕ) (out : List ℕ) → j < m → Filled m b p n s plan old j out → j * b + p + n ≤ length out
  filled-fits j out l f = omega (arith, f.size, blocks-below j m b l)

  pub filled-turn : (j : ℕ) (out q : List ℕ) → j < m → Filled m b p n s plan old j out → length q ≡ n → ((i : ℕ) → i < n → get_or q i 0 ≡ goal j i)
      → Filled m b p n s plan old (j + 1) (set_part (j * b + p) (j * b + p + n - (j * b + p)) q out)
  filled-turn j out q l f many is =
      rw (add-sub_cancel_left (j * b + p) n)
      record {
        size = set-length (j * b + p) n q out fits many ∙ f.size;
        before = λ u i hu hi. kept u i hu hi (ℕ_discrete u j) (dec_lt u j);
        done = λ u i hu hi. there u i hu hi (ℕ_discrete u j);
      }
    where
      fits : j * b + p + n ≤ length out
      fits = filled-fits j out l f

      kept : (u i : ℕ) → u < m → i < p → Dec (u ≡ j) → Dec (u < j) → get_or (set_part (j * b + p) n q out) (u * b + i) 0 ≡ get_or old (u * b + i) 0
      kept u i hu hi (yes e) _ = rw e (put-before (j * b + p) n q out fits many (j * b + i) (omega arith) ∙ f.before j i l hi)
      kept u i hu hi (no _) (yes h) = put-before (j * b + p) n q out fits many (u * b + i) (omega (arith, blocks-below u j b h)) ∙ f.before u i hu hi
      kept u i hu hi (no d) (no h) =
          let above : j < u = omega arith in
          put-after (j * b + p) n q out fits many (u * b + i) (omega (arith, blocks-below j u b above)) ∙ f.before u i hu hi

      there : (u i : ℕ) → u < j + 1 → i < n → Dec (u ≡ j) → get_or (set_part (j * b + p) n q out) (u * b + (p + i)) 0 ≡ goal u i
      there u i hu hi (yes e) =
          let at : j * b + (p + i) ≡ j * b + p + i = omega arith in
          rw e (ap (λ k. get_or (set_part (j * b + p) n q out) k 0) at ∙ put_in (j * b + p) n q out fits many i hi ∙ is i hi)
      there u i hu hi (no d) =
          let h : u < j = omega arith in
          put-before (j * b + p) n q out fits many (u * b + (p + i)) (omega (arith, blocks-below u j b h)) ∙ f.done u i h hi
