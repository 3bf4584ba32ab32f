-- The tests that every call begins with: what is known past them, and what the call then is. Assumes nothing.
use Rattle.std.specs.Prelude.{Ok, Err}
use mathlib.Core.Path.{◌≡◌, refl, sym, ap, ◌∙◌}
use mathlib.Core.Bool.{Bool, true, false, cond, ◌&&◌, not}
use mathlib.Core.List.{List}
use Prim.Native.Nat.{ℕ, ◌+◌, ◌-◌, ◌≤◌}
use native.Mathlib.Omega.{arith}
use borrow.Author.Tests.{leb-true}
use Rattle.basics.proofs.Tests.{and_left, and_right}
use Rattle.code.specs.Code.{code_sizes}
use Rattle.code.proofs.Sizes.{sizes-of}
use Rattle.machine.specs.Stripe.{Outcome, refused, guard, nodes_fit}
use Rattle.machine.specs.Rebuild.{out_of_limits}
use Rattle.records.specs.NodeSteps.{NodeAnswer}
use Rattle.records.specs.declared.Sizes.{Sizes}
use Rattle.records.specs.declared.ClientRecord.{ClientRecord}
use Rattle.records.specs.declared.Refusal.{Refusal}
use Rattle.records.specs.declared.Refusal.TheVariants.{OutOfLimits, OutOfRange}
use Rattle.records.specs.Sizes.{sizes_within, is_client}
use Rattle.records.specs.Node.{Node}
use Rattle.records.specs.Client.{client_within}
use Rattle.records.specs.View.{client_of}
use Rattle.stripe.specs.declared.seen.Seen.{Seen}
use Rattle.stripe.specs.Seen.{Sees}
use Rattle.calls.specs.Answers.{whole}
use Rattle.rebuild.specs.Promises.{entrance, Admitted}

-- ---- sizes within their limits

pub record Known (z : Sizes) : Type 0 where
  pub data_most : z.k ≤ 12
  pub data_few : z.k ≤ z.n
  pub nodes_least : 1 ≤ z.n
  pub nodes_most : z.n ≤ 18
  pub planned : z.k + z.failures ≤ z.n

pub sizes-known : (z : Sizes) → sizes_within z ≡ true → Known z
unfolding sizes_within
sizes-known z e =
    let s = sizes-of z.k z.n z.b (and_left (code_sizes z.k z.n z.b) _ e) in
    let f : z.failures ≤ z.n - z.k = search (and_left, and_right, leb-true) in
    record { data_most = omega arith; data_few = omega arith; nodes_least = omega arith; nodes_most = omega arith; planned = omega arith }

-- ---- the two tests

abbrev pub tests : Bool → Bool → NodeAnswer
tests one two = cond one (Err OutOfLimits) (cond two (Err OutOfRange) (Ok tt))

fits : (one two : Bool) → tests (not one) two ≡ Ok tt → one ≡ true
fits true two e = refl
fits false two e = cc

ranges : (one two : Bool) → tests one (not two) ≡ Ok tt → two ≡ true
ranges true two e = cc
ranges false true e = refl
ranges false false e = cc

-- past them the records are within their limits
pub admitted : {z : Sizes} (c : ℕ) {s : Seen} {y : ClientRecord} {a : NodeAnswer} → a ≡ entrance z c s y → a ≡ Ok tt → Admitted z c s y
admitted {z} c {s} {y} e q =
    let all : (sizes_within z && (s.within && client_within z (client_of y))) ≡ true = fits _ (not (is_client z c)) (sym e ∙ q) in
    let records = and_right (sizes_within z) _ all in
    record {
      sizes = and_left (sizes_within z) _ all;
      nodes = and_left s.within _ records;
      client = and_right s.within _ records;
      number = ranges (not (sizes_within z && (s.within && client_within z (client_of y)))) (is_client z c) (sym e ∙ q);
    }

-- the first test, by what was seen, is the machine's
pub limits-seen : {z : Sizes} {c : ℕ} {nodes : List Node} {s : Seen} → (sizes_within z ≡ true → Sees z c nodes s) → (y : ClientRecord) (blocks spare : List ℕ)
    → not (sizes_within z && (s.within && client_within z (client_of y))) ≡ out_of_limits z (whole nodes (client_of y) blocks spare)
limits-seen {z} {c} {nodes} {s} sees y blocks spare = ap not (by (sizes_within z) refl)
  where
    by : (b : Bool) → sizes_within z ≡ b → (b && (s.within && client_within z (client_of y))) ≡ (b && (nodes_fit z nodes && client_within z (client_of y)))
    by true e = rw (sees e).within
    by false e = refl

-- the call with `rest` after them
module _ {S : Type 0} (s : S) (rest : Outcome S) where
  pub passed : (one two : Bool) → tests one two ≡ Ok tt → guard one OutOfLimits s (guard two OutOfRange s rest) ≡ rest
  unfolding guard
  passed true two e = cc
  passed false true e = cc
  passed false false e = refl

  pub failed : (why : Refusal) (one two : Bool) → tests one two ≡ Err why → guard one OutOfLimits s (guard two OutOfRange s rest) ≡ refused why s
  unfolding guard
  failed why true two e = cc
  failed why false true e = cc
  failed why false false e = cc
