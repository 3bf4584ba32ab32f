-- The tests of pick and write, which are lent both tables: what is known past them, and the call on either side. Assumes nothing.
use Rattle.std.specs.Prelude.{Ok, Err}
use mathlib.Core.Path.{◌≡◌, refl, sym, ap, ◌∙◌}
use mathlib.Core.Bool.{Bool, true, false, cond, ◌&&◌, ◌||◌, not}
use mathlib.Core.List.{List}
use Prim.Native.Nat.{ℕ, ◌*◌}
use lib.ListN.{length}
use borrow.Author.Tests.{eqb-true, eq-eqb, not-false}
use Rattle.basics.proofs.Tests.{and_left, and_right}
use Rattle.machine.specs.Stripe.{Outcome, Whole, refused, guard, blocks_fit}
use Rattle.machine.specs.Rebuild.{out_of_limits}
use Rattle.basics.proofs.Tests.{or-none}
use Rattle.records.specs.NodeSteps.{NodeAnswer}
use Rattle.records.specs.declared.Sizes.{Sizes}
use Rattle.records.specs.declared.ClientRecord.{ClientRecord}
use Rattle.records.specs.declared.Refusal.{Refusal}
use Rattle.records.specs.declared.Refusal.TheVariants.{OutOfLimits, OutOfRange}
use Rattle.records.specs.Sizes.{sizes_within, is_client}
use Rattle.records.specs.Node.{Node}
use Rattle.records.specs.Client.{client_within}
use Rattle.records.specs.View.{client_of}
use Rattle.stripe.specs.declared.seen.Seen.{Seen}
use Rattle.stripe.specs.Seen.{Sees}
use Rattle.calls.specs.Answers.{whole}
use Rattle.rebuild.specs.Promises.{Admitted}
use Rattle.rebuild.specs.Tables.{both_fit, tabled_entrance, Tables}
use Rattle.rebuild.proofs.Limits.{tests, admitted, limits-seen, passed, failed}

first-passed : (test : Bool) (rest : NodeAnswer) → cond test (Err OutOfLimits) rest ≡ Ok tt → test ≡ false
first-passed true rest e = cc
first-passed false rest e = refl

-- a call with `rest` after the tests
abbrev called : Sizes → ℕ → Whole → Outcome Whole → Outcome Whole
called z c w rest = guard (out_of_limits z w || not (both_fit z w.blocks w.spare)) OutOfLimits w (guard (not (is_client z c)) OutOfRange w rest)

module _ (z : Sizes) (c : ℕ) (s : Seen) (y : ClientRecord) (blocks spare : List ℕ) {a : NodeAnswer} (e : a ≡ tabled_entrance z c s y blocks spare) where
  module _ (q : a ≡ Ok tt) where
    inside : (not (sizes_within z && (s.within && client_within z (client_of y))) || not (both_fit z blocks spare)) ≡ false
    inside = first-passed _ _ (sym e ∙ q)

    both : (not (sizes_within z && (s.within && client_within z (client_of y))) ≡ false) × (not (both_fit z blocks spare) ≡ false)
    both = or-none (not (sizes_within z && (s.within && client_within z (client_of y)))) (not (both_fit z blocks spare)) inside

    pub tabled-admitted : Admitted z c s y
    tabled-admitted = admitted c {s = s} {y = y} (e ∙ rw (inside, both.0)) q

    pub tabled-tables : Tables z blocks spare
    tabled-tables =
        let fit = not-false (both_fit z blocks spare) both.1 in
        record {
          full = eqb-true (length blocks) (z.n * z.b) (and_left (blocks_fit z blocks) (blocks_fit z spare) fit);
          room = eqb-true (length spare) (z.n * z.b) (and_right (blocks_fit z blocks) (blocks_fit z spare) fit);
        }

  module _ {nodes : List Node} (sees : sizes_within z ≡ true → Sees z c nodes s) where
    seen : tabled_entrance z c s y blocks spare
        ≡ tests (out_of_limits z (whole nodes (client_of y) blocks spare) || not (both_fit z blocks spare)) (not (is_client z c))
    seen = ap (λ t. tests (t || not (both_fit z blocks spare)) (not (is_client z c))) (limits-seen sees y blocks spare)

    pub tabled-failed : (rest : Outcome Whole) {why : Refusal} → a ≡ Err why
        → refused why (whole nodes (client_of y) blocks spare) ≡ called z c (whole nodes (client_of y) blocks spare) rest
    tabled-failed rest {why} q =
        let w = whole nodes (client_of y) blocks spare in
        sym (failed w rest why (out_of_limits z w || not (both_fit z blocks spare)) (not (is_client z c)) (sym seen ∙ sym e ∙ q))

    pub tabled-passed : (rest : Outcome Whole) → a ≡ Ok tt → rest ≡ called z c (whole nodes (client_of y) blocks spare) rest
    tabled-passed rest q =
        let w = whole nodes (client_of y) blocks spare in
        sym (passed w rest (out_of_limits z w || not (both_fit z blocks spare)) (not (is_client z c)) (sym seen ∙ sym e ∙ q))

-- past its tests a call is what is left of it
pub tabled-past : (z : Sizes) (c : ℕ) (s : Seen) (y : ClientRecord) (blocks spare : List ℕ) {nodes : List Node} → (sizes_within z ≡ true → Sees z c nodes s)
    → Admitted z c s y → Tables z blocks spare → (rest : Outcome Whole) → rest ≡ called z c (whole nodes (client_of y) blocks spare) rest
tabled-past z c s y blocks spare sees a t rest =
    tabled-passed z c s y blocks spare {a = Ok tt}
    (rw (a.sizes, a.nodes, a.client, a.number, eq-eqb (length blocks) (z.n * z.b) t.full, eq-eqb (length spare) (z.n * z.b) t.room)) sees rest refl
