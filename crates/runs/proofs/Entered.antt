-- Demand 3 of every list of calls of the entry points of shelf. Assumes nothing.
use mathlib.Core.Path.{◌≡◌, refl}
use mathlib.Core.Logic.{◌⊎◌, inr}
use mathlib.Core.List.{List, [], ◌∷◌, map}
use Prim.Native.Nat.{ℕ, zero, suc, ◌*◌}
use lib.ListN.{replicate}
use Rattle.machine.specs.Stripe as Machine
use Rattle.machine.specs.Stripe.{number, fresh}
use Rattle.machine.specs.Calls as Calls
use Rattle.machine.specs.Guarantee.{Holds, KeepsDone, ReadsPart}
use Rattle.machine.proofs.Theorem.{demand3, keeps_done, reads_part}
use Rattle.records.specs.declared.ClientRecord.{ClientRecord}
use Rattle.records.specs.declared.NodeRecord.{NodeRecord}
use Rattle.records.specs.declared.Sizes.{Sizes}
use Rattle.records.specs.Client.{fresh_client}
use Rattle.records.specs.Node.{fresh_node}
use Rattle.records.specs.View.{client_of, node_of}
use Rattle.calls.proofs.Numbers.{left_one}
use Rattle.runs.specs.Entered.{Tables, tables_of, Enters, stepped, picked, shown, told, EntersOne, kept, others, Demand3Entered, KeepsDoneEntered, ReadsPartEntered}
use Rattle.runs.proofs.Runs.{Stepped, refused-one, guarded, stepped_same, every-run}

-- the machine's step on what the tables stand for, but for the tests of their lengths
enters-step : (z y : Sizes) (t : Tables) (call : Calls.Call) (a : Machine.Answer) (t' : Tables) → (y ≡ z) ⊎ (number a ≡ 1) → Enters t y call a t'
    → Stepped z call (tables_of z t) a (tables_of z t')
enters-step z y t call a t' permitted (stepped q value answer after s) = guarded z call (tables_of z t) _ permitted s.said
enters-step z y t call a t' permitted (picked q answer nodes clients spare p) = guarded z call (tables_of z t) _ permitted (p t.differences).said
enters-step z y t call a t' permitted (shown q answer part r) = guarded z call (tables_of z t) _ permitted (r.said t.differences)
enters-step z y t call a t' permitted (told q answer r eb es) = guarded z call (tables_of z t) _ permitted (r t.blocks t.spare t.differences eb es)

steps-one : (z y : Sizes) (t : Tables) (call : Calls.Call) (a : Machine.Answer) (t' : Tables) → (y ≡ z) ⊎ (number a ≡ 1) → EntersOne t y call a t'
    → Stepped z call (tables_of z t) a (tables_of z t')
steps-one z y t call a t' permitted (kept x op answer after m) = enters-step z y t call a t' permitted m
steps-one z y t call a t' permitted (others x op u m) = refused-one z call (tables_of z t) refl

pub demand3-entered : Demand3Entered
demand3-entered = every-run tables_of EntersOne Holds demand3 steps-one

pub keeps-done-entered : KeepsDoneEntered
keeps-done-entered = every-run tables_of EntersOne KeepsDone keeps_done steps-one

pub reads-part-entered : ReadsPartEntered
reads-part-entered = every-run tables_of EntersOne ReadsPart reads_part steps-one

-- answered 1, a call leaves the very tables that it was lent: so lent others than those that are kept, it leaves these too
pub refused-same : (z : Sizes) (t : Tables) (call : Calls.Call) (a : Machine.Answer) (t' : Tables) → Enters t z call a t' → number a ≡ 1 → t' ≡ t
refused-same z t call a t' (stepped q value answer after s) one =
    let same = left_one answer [] one s.left in
    λ i. record {
      nodes = same.0 i;
      clients = same.1.0 i;
      blocks = same.1.1.0 i;
      spare = same.1.1.1.0 i;
      differences = same.1.1.1.1 i;
    }
refused-same z t call a t' (picked q answer nodes clients spare p) one =
    let same = left_one answer [] one (p []).left in
    let seen = stepped_same (enters-step z z t call a _ (inr one) (picked q answer nodes clients spare p)) one in
    λ i. record {
      nodes = same.0 i;
      clients = same.1 i;
      blocks = t.blocks;
      spare = (seen i).spare;
      differences = t.differences;
    }
refused-same z t call a t' (shown q answer part r) one = refl
refused-same z t call a t' (told q answer r eb es) one = refl

-- n records and m records, as `NodeRecord::fresh()` and `ClientRecord::fresh()` ensure them, and blocks of zeros are a fresh stripe
map-replicate : {A B : Type 0} (f : A → B) (n : ℕ) (x : A) (y : B) → f x ≡ y → map f (replicate n x) ≡ replicate n y
map-replicate f zero x y e = refl
map-replicate f (suc n) x y e = λ i. e i ∷ map-replicate f n x y e i

pub fresh-tables : (z : Sizes) (node : NodeRecord) (client : ClientRecord) (spare differences : List ℕ) → node_of node ≡ fresh_node → client_of client ≡ fresh_client
    → tables_of z
    (record { nodes = replicate z.n node; clients = replicate z.m client; blocks = replicate (z.n * z.b) 0; spare = spare; differences = differences })
    ≡ fresh z spare differences
fresh-tables z node client spare differences e h =
    λ i. record {
      nodes = map-replicate node_of z.n node fresh_node e i;
      clients = map-replicate client_of z.m client fresh_client h i;
      blocks = replicate (z.n * z.b) 0;
      spare = spare;
      differences = differences;
    }
