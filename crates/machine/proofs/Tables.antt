-- Tables of bytes, and the blocks that the invariant sees of them: what it is to put a block, to take a difference, to add a multiple and to rebuild;
-- and that the results hold bytes and have their lengths. Assumes nothing.
use mathlib.Core.Path.{◌≡◌, refl, sym, ap, fun_ext, ◌∙◌}
use mathlib.Core.Logic.{◌≢◌}
use mathlib.Core.List.{List, [], ◌∷◌, ◌++◌}
use Prim.Native.Nat.{ℕ, zero, suc, ◌+◌, ◌-◌, ◌*◌, ◌%◌, ◌≤◌, ◌<◌}
use native.Mathlib.Decide.{dec_le, dec_lt}
use native.Mathlib.Nat.{mul-le-mul_right}
use native.Mathlib.Omega.{arith}
use lib.Bits.{bit_xor}
use lib.Dec.{ltb}
use lib.ListN.{length, get_or, take, drop, replicate, length-take, get_or-eq_default, length-replicate}
use lib.Seq.{ext_get_or, get_or-take, get_or-drop}
use borrow.Author.Tests.{ltb-true, ltb-false, lt-ltb, le-ltb, le-leb, lt-leb}
use Rattle.gf256.specs.Field.{product}
use Rattle.gf256.proofs.Xor.{xor-byte, xor_low}
use Rattle.gf256.proofs.Laws.{product-byte, product-low, product-zero, byte_low}
use Rattle.blocks.specs.Blocks.{part, set_part, block, set_block, byte_at, table, zip, difference, add_times, Bytes}
use Rattle.basics.specs.Lists.{list_of}
use Rattle.blocks.proofs.Fill.{zip_length, zip-at}
use Rattle.blocks.proofs.Parts.{part_length, set-length, get_set_same, block-fits, block_at, block-other}
use Rattle.blocks.proofs.Tables.{byte_at-table, length-table}
use Rattle.code.specs.Code.{coefficient}
use Rattle.code.specs.Decode.{NodeSet, size, lowest, recover, recovered, recovered_table}
use Rattle.code.proofs.NodeSets.{lowest-from}
use Rattle.code.proofs.Recover.{recovered-ext, recovered-low, recovered-byte}
use Rattle.gf256.proofs.Sum.{sum-zero}
use Rattle.records.specs.declared.Sizes.{Sizes}
use Rattle.basics.proofs.Updates.{upd, upd-ind}
use Rattle.basics.proofs.Tests.{cond_ind}
use Rattle.machine.proofs.Bytes.{byte_of, byte-eq, Block, zero_block, view, block_of, ops}

---- a number's byte

pub val_of : (x : ℕ) → (byte_of x).val ≡ x % 256
unfolding byte_of
val_of x = refl

pub val-byte : (x : ℕ) → x < 256 → (byte_of x).val ≡ x
val-byte x l = val_of x ∙ byte_low x l

of_low : (x : ℕ) → byte_of (x % 256) ≡ byte_of x
of_low x = byte-eq (byte_of (x % 256)) (byte_of x) (rw (val_of (x % 256), val_of x) (omega arith))

---- a list by bytes

-- its first b bytes are the block y, if they are at each place, and y is zero past them
view-is : (b : ℕ) (l : List ℕ) (y : Block) → ((p : ℕ) → p < b → byte_of (get_or l p 0) ≡ y p) → ((p : ℕ) → b ≤ p → byte_of 0 ≡ y p) → view b l ≡ y
unfolding view
view-is b l y within past =
    fun_ext (λ p. cond_ind (λ x. x ≡ y p) (ltb p b) (byte_of (get_or l p 0)) (byte_of 0) (λ e. within p (ltb-true p b e)) (λ e. past p (ltb-false p b e)))

view-at : (b : ℕ) (l : List ℕ) (p : ℕ) → p < b → view b l p ≡ byte_of (get_or l p 0)
unfolding view
view-at b l p h = rw (lt-ltb p b h)

view-past : (b : ℕ) (l : List ℕ) (p : ℕ) → b ≤ p → view b l p ≡ byte_of 0
unfolding view
view-past b l p h = rw (le-ltb p b h)

-- lists of b bytes that look alike are the same
pub view-injective : (b : ℕ) (u v : List ℕ) → length u ≡ b → length v ≡ b → Bytes u → Bytes v → view b u ≡ view b v → u ≡ v
view-injective b u v lu lv bytes-u bytes-v e = ext_get_or 0 u v (lu ∙ sym lv) (λ p l. same p (rw lu at l))
  where
    val_at : (l : List ℕ) (p : ℕ) → Bytes l → p < b → (view b l p).val ≡ get_or l p 0
    val_at l p bytes h = rw (view-at b l p h) (val-byte (get_or l p 0) (bytes.small p))

    same : (p : ℕ) → p < b → get_or u p 0 ≡ get_or v p 0
    same p h = sym (val_at u p bytes-u h) ∙ ap (λ (x : Block). (x p).val) e ∙ val_at v p bytes-v h

---- the blocks of a table by bytes
module _ (b : ℕ) (t : List ℕ) where
  -- what is seen of block j is what a call reads of it
  pub block_view : (j : ℕ) → 1 ≤ j → block_of b t j ≡ view b (block b j t)
  unfolding block_of
  block_view zero j1 = absurd (omega arith)
  block_view (suc j) j1 = let e : j ≡ suc j - 1 = omega arith in ap (λ i. view b (part (i * b) b t)) e

  pub block-val : (j p : ℕ) → 1 ≤ j → p < b → (block_of b t j p).val ≡ byte_at b t j p % 256
  block-val j p j1 lp =
      ap (λ (x : Block). (x p).val) (block_view j j1) ∙ rw (view-at b (block b j t) p lp, val_of (get_or (block b j t) p 0), block_at b j t p lp)

  block-past : (j p : ℕ) → b ≤ p → (block_of b t j p).val ≡ 0
  unfolding block_of
  block-past zero p l = val_of 0
  block-past (suc j) p l = rw (view-past b (part (j * b) b t) p l) (val_of 0)

  -- what is to be shown of a block
  block-is : (j : ℕ) (y : Block) → 1 ≤ j → ((p : ℕ) → p < b → byte_of (byte_at b t j p) ≡ y p) → ((p : ℕ) → b ≤ p → byte_of 0 ≡ y p) → block_of b t j ≡ y
  block-is j y j1 within past = block_view j j1 ∙ view-is b (block b j t) y (λ p l. ap byte_of (block_at b j t p l) ∙ within p l) past

  -- blocks are numbered from 1, up to the end of the table
  no_block : block_of b t 0 ≡ zero_block
  unfolding block_of
  no_block = refl

  block_none : (j : ℕ) → 1 ≤ j → length t ≤ (j - 1) * b → block_of b t j ≡ zero_block
  unfolding byte_at
  block_none j j1 l =
      block-is j zero_block j1 (λ p lp. ap byte_of (get_or-eq_default t 0 {n = (j - 1) * b + p} (omega arith))) (λ p lp. refl)

---- bytes

bytes-append : (s t : List ℕ) → Bytes s → Bytes t → Bytes (s ++ t)
bytes-append s t x y = record { small = λ q. go s q x.small }
  where
    go : (s : List ℕ) (q : ℕ) → ((q : ℕ) → get_or s q 0 < 256) → get_or (s ++ t) q 0 < 256
    go [] q h = y.small q
    go (a ∷ s) zero h = h 0
    go (a ∷ s) (suc q) h = go s q (λ r. h (suc r))

bytes_drop : (n : ℕ) (t : List ℕ) → Bytes t → Bytes (drop n t)
bytes_drop n t x = record { small = λ q. rw (get_or-drop n t q 0) (x.small (n + q)) }

bytes_take : (n : ℕ) (t : List ℕ) → Bytes t → Bytes (take n t)
bytes_take n t x = record { small = λ q. by q (dec_lt q n) }
  where
    by : (q : ℕ) → Dec (q < n) → get_or (take n t) q 0 < 256
    by q (yes l) = rw (get_or-take n t q 0 l) (x.small q)
    by q (no m) = rw (get_or-eq_default (take n t) 0 {n = q} (rw (length-take n t) (omega arith))) (omega arith)

pub bytes-block : (b j : ℕ) (t : List ℕ) → Bytes t → Bytes (block b j t)
unfolding part
bytes-block b j t x = bytes_take b (drop ((j - 1) * b) t) (bytes_drop ((j - 1) * b) t x)

pub bytes-put : (b j : ℕ) (v t : List ℕ) → Bytes v → Bytes t → Bytes (set_block b j v t)
unfolding set_part
bytes-put b j v t x y =
    let a : ℕ = (j - 1) * b in
    bytes-append (take a t) (v ++ drop b (drop a t)) (bytes_take a t y)
    (bytes-append v (drop b (drop a t)) x (bytes_drop b (drop a t) (bytes_drop a t y)))

bytes-zip : (f : ℕ → ℕ → ℕ) → ((x y : ℕ) → x < 256 → y < 256 → f x y < 256) → (u v : List ℕ) → Bytes u → Bytes v → Bytes (zip f u v)
unfolding zip
bytes-zip f closed u v x y = record { small = go u v x.small y.small }
  where
    go : (u v : List ℕ) → ((q : ℕ) → get_or u q 0 < 256) → ((q : ℕ) → get_or v q 0 < 256) → (q : ℕ) → get_or (zip f u v) q 0 < 256
    go [] v x y q = x q
    go (a ∷ u) [] x y q = x q
    go (a ∷ u) (c ∷ v) x y zero = closed a c (x 0) (y 0)
    go (a ∷ u) (c ∷ v) x y (suc q) = go u v (λ r. x (suc r)) (λ r. y (suc r)) q

pub bytes-difference : (v o : List ℕ) → Bytes v → Bytes o → Bytes (difference v o)
bytes-difference = bytes-zip bit_xor xor-byte

pub bytes-add : (c : ℕ) (d s : List ℕ) → Bytes d → Bytes s → Bytes (add_times c d s)
bytes-add c = bytes-zip (λ x y. bit_xor x (product c y)) (λ x y lx ly. xor-byte x (product c y) lx (product-byte c y))

bytes_one : (a : ℕ) → a < 256 → Bytes (a ∷ [])
bytes_one a l = record { small = go }
  where
    go : (q : ℕ) → get_or (a ∷ []) q 0 < 256
    go zero = l
    go (suc q) = omega arith

bytes-table : (n b : ℕ) (f : ℕ → ℕ → ℕ) → ((j p : ℕ) → f j p < 256) → Bytes (table n b f)
unfolding table list_of
bytes-table zero b f h = record { small = λ q. omega arith }
bytes-table (suc n) b f h = bytes-append (table n b f) (list_of b (f (suc n))) (bytes-table n b f h) (row b)
  where
    row : (m : ℕ) → Bytes (list_of m (f (suc n)))
    row zero = record { small = λ q. omega arith }
    row (suc m) = bytes-append (list_of m (f (suc n))) (f (suc n) m ∷ []) (row m) (bytes_one (f (suc n) m) (h (suc n) m))

---- the table of zeroes

abbrev pub zeroes : ℕ → List ℕ
zeroes m = replicate m 0

zeroes-at : (m q : ℕ) → get_or (zeroes m) q 0 ≡ 0
zeroes-at zero q = refl
zeroes-at (suc m) zero = refl
zeroes-at (suc m) (suc q) = zeroes-at m q

pub bytes-zeroes : (m : ℕ) → Bytes (zeroes m)
bytes-zeroes m = record { small = λ q. rw (zeroes-at m q) (omega arith) }

pub zero-blocks : (b m : ℕ) → block_of b (zeroes m) ≡ (λ j. zero_block)
unfolding byte_at
zero-blocks b m = fun_ext by
  where
    by : (j : ℕ) → block_of b (zeroes m) j ≡ zero_block
    by zero = no_block b (zeroes m)
    by (suc j) = block-is b (zeroes m) (suc j) zero_block (omega arith) (λ p l. ap byte_of (zeroes-at m ((suc j - 1) * b + p))) (λ p l. refl)

---- one block of n, read and put

pub length-block : (b n i : ℕ) (t : List ℕ) → 1 ≤ i → i ≤ n → length t ≡ n * b → length (block b i t) ≡ b
length-block b n i t i1 in-n lt = part_length ((i - 1) * b) b t (rw lt (block-fits i n b i1 in-n))

pub zero-block : (b n i : ℕ) → 1 ≤ i → i ≤ n → block b i (zeroes (n * b)) ≡ zeroes b
unfolding byte_at
zero-block b n i i1 in-n =
    let long = length-block b n i (zeroes (n * b)) i1 in-n (length-replicate (n * b) 0) in
    ext_get_or 0 (block b i (zeroes (n * b))) (zeroes b) (long ∙ sym (length-replicate b 0))
    (λ p l. block_at b i (zeroes (n * b)) p (rw long at l) ∙ zeroes-at (n * b) ((i - 1) * b + p) ∙ sym (zeroes-at b p))

-- block i becomes v
module _ (b n i : ℕ) (v t : List ℕ) (i1 : 1 ≤ i) (in-n : i ≤ n) (lt : length t ≡ n * b) (lv : length v ≡ b) where
  put-fits : (i - 1) * b + b ≤ length t
  put-fits = rw lt (block-fits i n b i1 in-n)

  pub length-put : length (set_block b i v t) ≡ n * b
  length-put = set-length ((i - 1) * b) b v t put-fits lv ∙ lt

  pub put-block : block_of b (set_block b i v t) ≡ upd (block_of b t) i (view b v)
  put-block =
      fun_ext (upd-ind (λ j x. block_of b (set_block b i v t) j ≡ x) (block_of b t) i (view b v)
      (block_view b (set_block b i v t) i i1 ∙ ap (view b) (get_set_same ((i - 1) * b) b v t put-fits lv)) others)
    where
      others : (j : ℕ) → i ≢ j → block_of b (set_block b i v t) j ≡ block_of b t j
      others zero d = no_block b (set_block b i v t) ∙ sym (no_block b t)
      others (suc j) d =
          let j1 : 1 ≤ suc j = omega arith in
          block_view b (set_block b i v t) (suc j) j1
          ∙ ap (view b) (block-other b (suc j) i v t j1 i1 put-fits lv (λ e. d (sym e)))
          ∙ sym (block_view b t (suc j) j1)

---- differences and multiples

pub length-difference : (v o : List ℕ) → length (difference v o) ≡ length v
length-difference = zip_length bit_xor

pub length-add : (c : ℕ) (s d : List ℕ) → length (add_times c s d) ≡ length s
length-add c = zip_length (λ x y. bit_xor x (product c y))

-- a function of bytes at each place, that goes by low bytes
view-zip : (b : ℕ) (f : ℕ → ℕ → ℕ) (u v : List ℕ) → length u ≡ b → length v ≡ b → f 0 0 ≡ 0
    → ((x y : ℕ) → byte_of (f (byte_of x).val (byte_of y).val) ≡ byte_of (f x y))
    → view b (zip f u v) ≡ (λ p. byte_of (f (view b u p).val (view b v p).val))
view-zip b f u v lu lv none low =
    view-is b (zip f u v) (λ p. byte_of (f (view b u p).val (view b v p).val))
    (λ p l. rw (view-at b u p l, view-at b v p l, low (get_or u p 0) (get_or v p 0)) (ap byte_of (zip-at f u v p (rw lu l) (rw lv l))))
    (λ p l. rw (view-past b u p l, view-past b v p l, low 0 0, none))

low_sum : (x y : ℕ) → byte_of (bit_xor (x % 256) (y % 256)) ≡ byte_of (bit_xor x y)
low_sum x y = ap byte_of (sym (xor_low x y)) ∙ of_low (bit_xor x y)

module _ (z : Sizes) where
  open z use {k, n, b}
  open ops z use {diff, mul_add, decode}

  pub view-difference : (v o : List ℕ) → length v ≡ b → length o ≡ b → view b (difference v o) ≡ diff (view b v) (view b o)
  view-difference v o lv lo = view-zip b bit_xor v o lv lo refl (λ x y. rw (val_of x, val_of y) (low_sum x y))

  pub view-add : (j i : ℕ) (s d : List ℕ) → length s ≡ b → length d ≡ b
      → view b (add_times (coefficient j i) s d) ≡ mul_add j i (view b s) (view b d)
  view-add j i s d ls ld =
      let c : ℕ = coefficient j i in
      view-zip b (λ x y. bit_xor x (product c y)) s d ls ld (rw (product-zero c))
      (λ x y.
      let w : ℕ = product c y in
      rw (val_of x, val_of y, product-low c y) (ap (λ w. byte_of (bit_xor (x % 256) w)) (sym (byte_low w (product-byte c y))) ∙ low_sum x w))

  ---- rebuilding

  module _ (set : NodeSet) (t : List ℕ) where
    abbrev rebuilt : List ℕ
    rebuilt = recovered_table k n b set t

    -- byte p of the qth node that is read, in the table and as it is seen
    abbrev held : ℕ → ℕ → ℕ
    held p q = byte_at b t (lowest set q) p

    abbrev seen : ℕ → ℕ → ℕ
    seen p q = (block_of b t (lowest set q) p).val

    pub length-rebuilt : length rebuilt ≡ n * b
    unfolding recovered_table
    length-rebuilt = length-table n b (λ j p. recovered k (lowest set) (held p) j)

    pub bytes-rebuilt : Bytes rebuilt
    unfolding recovered_table
    bytes-rebuilt = bytes-table n b (λ j p. recovered k (lowest set) (held p) j) (λ j p. recovered-byte k (lowest set) (held p) j)

    pub rebuilt-blocks : k ≤ size set → block_of b rebuilt ≡ decode set (block_of b t)
    unfolding recovered_table recovered
    rebuilt-blocks enough = fun_ext (λ j. by j (dec_le j n))
      where
        within : (j p : ℕ) → 1 ≤ j → j ≤ n → p < b → byte_at b rebuilt j p ≡ recovered k (lowest set) (seen p) j
        within j p j1 jn lp =
            byte_at-table n b (λ j p. recovered k (lowest set) (held p) j) j p j1 jn lp
            ∙ sym (recovered-low k (lowest set) (held p) j)
            ∙ recovered-ext k (lowest set) (λ q. held p q % 256) (seen p) j
            (λ q q1 qk. sym (block-val b t (lowest set q) p (lowest-from set q q1 (omega arith)) lp))

        past : (j p : ℕ) → b ≤ p → recovered k (lowest set) (seen p) j ≡ 0
        past j p lp =
            sum-zero k (λ q. product (recover k (lowest set) j q) (seen p q))
            (λ q q1 qk. rw (block-past b t (lowest set q) p lp) (product-zero (recover k (lowest set) j q)))

        by : (j : ℕ) → Dec (j ≤ n) → block_of b rebuilt j ≡ decode set (block_of b t) j
        by zero d = no_block b rebuilt
        by (suc j) (yes jn) =
            let j1 : 1 ≤ suc j = omega arith in
            rw (le-leb 1 (suc j) j1, le-leb (suc j) n jn)
            (block-is b rebuilt (suc j) (λ p. byte_of (recovered k (lowest set) (seen p) (suc j))) j1
            (λ p lp. ap byte_of (within (suc j) p j1 jn lp)) (λ p lp. sym (ap byte_of (past (suc j) p lp))))
        by (suc j) (no out) =
            rw (le-leb 1 (suc j) (omega arith), lt-leb (suc j) n (omega arith))
            (block_none b rebuilt (suc j) (omega arith) (rw length-rebuilt (mul-le-mul_right b (omega arith))))
