-- `invertible` is the test of "the k chosen rows have an inverse", and `recovered_table` is the one codeword with the k blocks, whatever bytes they
-- are: specs/Determined.antt, proved. Assumes nothing.
use mathlib.Core.List.{List}
use mathlib.Core.Path.{◌≡◌, refl, sym, ap, ◌∙◌}
use Prim.Native.Nat.{ℕ, ◌-◌, ◌+◌, ◌*◌, ◌≤◌, ◌<◌}
use native.Mathlib.Omega.{arith}
use lib.ListN.{length, get_or}
use Rattle.blocks.specs.Blocks.{block, byte_at, table, Bytes}
use Rattle.blocks.proofs.Parts.{block-fits, part_length}
use Rattle.blocks.proofs.Tables.{byte_at-table, length-table, table-cong, get_or-block}
use Rattle.blocks.proofs.Tabled.{list_of-is}
use Rattle.code.specs.Code.{symbol, codeword, Codeword}
use Rattle.code.specs.Decode.{NodeSet, lowest, recovered, recovered_table}
use Rattle.code.specs.Determined.{InvertibleDecides, Determines, Agrees, RecoversTheCodeword}
use Rattle.code.proofs.Invertible.{invertible-decides}
use Rattle.code.proofs.NodeSets.{lowest-from, lowest-has, lowest-chosen}
use Rattle.code.proofs.Recover.{Chosen, recovered-present, recovered-codeword, recover-symbol}
use Rattle.code.proofs.Sizes.{Sizes, sizes-of}
use Rattle.code.proofs.Symbols.{symbol-ext}

pub invertible-is-the-test : InvertibleDecides
invertible-is-the-test k n b s sizes d =
    let z : Sizes k n b = sizes-of k n b sizes in
    invertible-decides k s (omega arith)
    (record {
      from = λ q q1 qk. (d.nodes q q1 qk).0;
      to = λ q q1 qk. omega (arith, (d.nodes q q1 qk).1);
      distinct = d.different;
    })

module _ (k n b : ℕ) (set : NodeSet) (t : List ℕ) (z : Sizes k n b) (d : Determines k n set) (long : length t ≡ n * b) (bytes : Bytes t) where
  chosen : Chosen k (lowest set)
  chosen = lowest-chosen k set (λ j e. omega (arith, d.nodes j e)) d.enough

  few : k ≤ 256
  few = omega arith

  -- byte p of the qth lowest member
  abbrev read : ℕ → ℕ → ℕ
  read p q = byte_at b t (lowest set q) p

  -- byte p of node j, recovered
  abbrev byte : ℕ → ℕ → ℕ
  byte j p = recovered k (lowest set) (read p) j

  member-from : (q : ℕ) → 1 ≤ q → q ≤ k → 1 ≤ lowest set q
  member-from q q1 qk = lowest-from set q q1 (omega (arith, d.enough))

  member-to : (q : ℕ) → 1 ≤ q → q ≤ k → lowest set q ≤ n
  member-to q q1 qk = d.nodes (lowest set q) (lowest-has set q q1 (omega (arith, d.enough)))

  -- what is recovered is a codeword
  is-codeword : Codeword k n b (recovered_table k n b set t)
  unfolding recovered_table codeword
  is-codeword =
      table-cong n b byte (λ j p. symbol k j (λ i. byte_at b (table n b byte) i p))
      (λ j p j1 jn lp. recovered-codeword k (lowest set) few chosen (read p) j j1 (omega arith)
      ∙ symbol-ext k j (λ i. byte i p) (λ i. byte_at b (table n b byte) i p) j1 (λ i i1 ik. sym (byte_at-table n b byte i p i1 (omega arith) lp)))

  -- blocks with the same bytes are the same
  same_block : (v w : List ℕ) (j : ℕ) → 1 ≤ j → j ≤ n → length v ≡ n * b → length w ≡ n * b
      → ((p : ℕ) → p < b → byte_at b v j p ≡ byte_at b w j p) → block b j v ≡ block b j w
  same_block v w j j1 jn lv lw e =
      let fits : (j - 1) * b + b ≤ n * b = block-fits j n b j1 jn in
      list_of-is b (λ p. get_or (block b j w) p 0) (block b j v) (part_length ((j - 1) * b) b v (omega arith))
      (λ p l. get_or-block b j p v l ∙ e p l ∙ sym (get_or-block b j p w l))
      ∙ sym (list_of-is b (λ p. get_or (block b j w) p 0) (block b j w) (part_length ((j - 1) * b) b w (omega arith)) (λ p l. refl))

  agrees : Agrees k n b set t (recovered_table k n b set t)
  unfolding recovered_table byte_at
  agrees =
      record {
        codeword = is-codeword;
        blocks = λ q q1 qk.
            same_block (table n b byte) t (lowest set q) (member-from q q1 qk) (member-to q q1 qk) (length-table n b byte) long
            (λ p lp. byte_at-table n b byte (lowest set q) p (member-from q q1 qk) (member-to q q1 qk) lp
            ∙ recovered-present k (lowest set) few chosen (read p) q q1 qk (bytes.small ((lowest set q - 1) * b + p)));
      }

  -- and any codeword that has the k blocks is it
  only : (w : List ℕ) → Bytes w → Agrees k n b set t w → w ≡ recovered_table k n b set t
  unfolding recovered_table codeword byte_at
  only w small a =
      a.codeword
      ∙ table-cong n b (λ j p. symbol k j (held p)) byte
      (λ j p j1 jn lp. sym (recover-symbol k (lowest set) few chosen (read p) (held p) (λ i i1 ik. small.small ((i - 1) * b + p)) (λ q q1 qk. there q p q1 qk lp) j j1 (omega arith)))
    where
      held : ℕ → ℕ → ℕ
      held p i = byte_at b w i p

      there : (q p : ℕ) → 1 ≤ q → q ≤ k → p < b → symbol k (lowest set q) (held p) ≡ read p q
      there q p q1 qk lp =
          let j : ℕ = lowest set q in
          sym (byte_at-table n b (λ j p. symbol k j (held p)) j p (member-from q q1 qk) (member-to q q1 qk) lp)
          ∙ ap (λ (v : List ℕ). byte_at b v j p) (sym a.codeword)
          ∙ sym (get_or-block b j p w lp) ∙ ap (λ (x : List ℕ). get_or x p 0) (a.blocks q q1 qk) ∙ get_or-block b j p t lp

pub recovers-the-codeword : RecoversTheCodeword
recovers-the-codeword k n b set t sizes d long bytes =
    let z : Sizes k n b = sizes-of k n b sizes in
    record { agrees = agrees k n b set t z d long bytes; only = only k n b set t z d long bytes }
