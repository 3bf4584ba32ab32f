-- The first elements of a table, as many as a volume has, or all. Assumes nothing.
--     called        what a call on them leaves is what `CallsOnParts` says
--     called-long   and where the bytes keep their lengths too, it is what `CallsPart` says
use mathlib.Core.List.{List, [], ◌++◌, append-nil}
use mathlib.Core.Path.{◌≡◌, sym, ap, ◌∙◌, transport}
use Prim.Native.Nat.{ℕ, min, ◌≤◌}
use native.Mathlib.Decide.{dec_le}
use native.Mathlib.Omega.{arith}
use lib.ListN.{length, take, drop, drop_of_length-le, length-append, length-drop, length-take}
use lib.Seq.{take_all, take_at, drop_at}
use Rattle.calls.specs.declared.Answer.{Answer}
use Rattle.records.specs.declared.ClientRecord.{ClientRecord}
use Rattle.records.specs.declared.NodeRecord.{NodeRecord}
use Rattle.routing.specs.declared.Request.{Request}
use Rattle.tables.specs.declared.Volume.{Volume}
use Rattle.tables.specs.Parts.{lengths_of}
use Rattle.volumescript.specs.declared.reader.VolumeLine.{VolumeLine}
use Rattle.volumescript.specs.Asking.{call_in, count_in}
use Rattle.volumeshelf.specs.Volumes.{CallsVolume}
use Rattle.volumeplay.specs.Asking.{CallsPart, clients_part, nodes_part}

-- n elements of xs, or all: k are there
module _ {X : Type 0} (n k : ℕ) (xs : List X) (is : k ≡ min n (length xs)) where
  pub first : take k xs ≡ take n xs
  first = by (dec_le n (length xs))
    where
      by : Dec (n ≤ length xs) → take k xs ≡ take n xs
      by (yes h) = let same : k ≡ n = omega (arith, is, h) in ap (λ (m : ℕ). take m xs) same
      by (no h) = take_all k xs (omega (arith, is, h)) ∙ sym (take_all n xs (omega (arith, h)))

  -- others in their place
  module _ (ys : List X) (len : length ys ≡ length (take k xs)) where
    pub placed : take n (ys ++ drop k xs) ≡ ys
    placed = by (dec_le n (length xs))
      where
        by : Dec (n ≤ length xs) → take n (ys ++ drop k xs) ≡ ys
        by (yes h) = take_at ys (drop k xs) n (omega (arith, len, length-take k xs, is, h))
        by (no h) =
            let few : length ys ≤ n = omega (arith, len, length-take k xs, is, h) in
            let none_after : drop k xs ≡ [] = drop_of_length-le xs (omega (arith, is, h)) in
            ap (λ (r : List X). take n (ys ++ r)) none_after ∙ ap (λ (r : List X). take n r) (append-nil ys) ∙ take_all n ys few

    pub long : length (ys ++ drop k xs) ≡ length xs
    long = omega (arith, length-append ys (drop k xs), length-drop k xs, len, length-take k xs, is)

    pub rest : drop n (ys ++ drop k xs) ≡ drop n xs
    rest = by (dec_le n (length xs))
      where
        by : Dec (n ≤ length xs) → drop n (ys ++ drop k xs) ≡ drop n xs
        by (yes h) =
            let same : k ≡ n = omega (arith, is, h) in
            drop_at ys (drop k xs) n (omega (arith, len, length-take k xs, is, h)) ∙ ap (λ (m : ℕ). drop m xs) same
        by (no h) =
            let few : length ys ≤ n = omega (arith, len, length-take k xs, is, h) in
            let none_after : drop k xs ≡ [] = drop_of_length-le xs (omega (arith, is, h)) in
            ap (λ (r : List X). drop n (ys ++ r)) none_after ∙ ap (λ (r : List X). drop n r) (append-nil ys) ∙ drop_of_length-le ys few
            ∙ sym (drop_of_length-le xs (omega (arith, h)))

-- `CallsPart` but for the lengths: the call is volumeshelf's on the parts, and the records after them are as they were
pub record CallsOnParts (nodes : List NodeRecord) (clients : List ClientRecord) (blocks spare differences value : List ℕ) (v : Volume) (line : VolumeLine)
    (answer : Answer) (nodes' : List NodeRecord) (clients' : List ClientRecord) (blocks' spare' differences' : List ℕ) : Type 0 where
  pub called : CallsVolume (nodes_part v nodes) (clients_part v clients) blocks spare differences (take (count_in line) value) (call_in line v) answer
      (nodes_part v nodes') (clients_part v clients') blocks' spare' differences'
  pub nodes_after : drop (lengths_of v).nodes nodes' ≡ drop (lengths_of v).nodes nodes
  pub clients_after : drop (lengths_of v).clients clients' ≡ drop (lengths_of v).clients clients

module _ (nodes : List NodeRecord) (clients : List ClientRecord) (blocks spare differences value : List ℕ) (v : Volume) (line : VolumeLine) (k m t : ℕ)
    (k-is : k ≡ min (lengths_of v).nodes (length nodes)) (m-is : m ≡ min (lengths_of v).clients (length clients)) (t-is : t ≡ min (count_in line) (length value)) where
  pub called : (q : Request) → q ≡ call_in line v → (answer : Answer) (ns : List NodeRecord) (cs : List ClientRecord) (bs ss ds : List ℕ)
      → length ns ≡ length (take k nodes) → length cs ≡ length (take m clients)
      → CallsVolume (take k nodes) (take m clients) blocks spare differences (take t value) q answer ns cs bs ss ds
      → CallsOnParts nodes clients blocks spare differences value v line answer (ns ++ drop k nodes) (cs ++ drop m clients) bs ss ds
  called q q-is answer ns cs bs ss ds n-long c-long said =
      let n = (lengths_of v).nodes in
      let c = (lengths_of v).clients in
      record {
        called = transport (λ i. CallsVolume (first n k nodes k-is i) (first c m clients m-is i) blocks spare differences
            (first (count_in line) t value t-is i) (q-is i) answer
            (sym (placed n k nodes k-is ns n-long) i) (sym (placed c m clients m-is cs c-long) i) bs ss ds) said;
        nodes_after = rest n k nodes k-is ns n-long;
        clients_after = rest c m clients m-is cs c-long;
      }

  pub called-long : (q : Request) → q ≡ call_in line v → (answer : Answer) (ns : List NodeRecord) (cs : List ClientRecord) (bs ss ds : List ℕ)
      → length ns ≡ length (take k nodes) → length cs ≡ length (take m clients)
      → length bs ≡ length blocks → length ss ≡ length spare → length ds ≡ length differences
      → CallsVolume (take k nodes) (take m clients) blocks spare differences (take t value) q answer ns cs bs ss ds
      → CallsPart nodes clients blocks spare differences value v line answer (ns ++ drop k nodes) (cs ++ drop m clients) bs ss ds
  called-long q q-is answer ns cs bs ss ds n-long c-long b-long s-long d-long said =
      let on = called q q-is answer ns cs bs ss ds n-long c-long said in
      record {
        called = on.called;
        nodes_after = on.nodes_after;
        clients_after = on.clients_after;
        lengths = (long (lengths_of v).nodes k nodes k-is ns n-long, (long (lengths_of v).clients m clients m-is cs c-long, (b-long, (s-long, d-long))));
      }
