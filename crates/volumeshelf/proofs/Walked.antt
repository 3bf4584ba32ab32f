-- A call on its way over the stripes from u₀ on and before e: after some turns the stripes that it has come to have made the machine's step, and the
-- others are as they were. Assumes nothing.
use mathlib.Core.Bool.{true, false}
use mathlib.Core.List.{List, []}
use mathlib.Core.Path.{◌≡◌, refl, sym, ap, subst, ◌∙◌}
use Prim.Native.Nat.{ℕ, suc, ◌+◌, ◌≤◌, ◌<◌}
use native.Mathlib.Decide.{ℕ_discrete}
use native.Mathlib.Omega.{arith}
use Rattle.calls.specs.declared.Answer.{Answer}
use Rattle.calls.specs.declared.Answer.TheVariants.{Accepted, Shown, Added, Done, Rebuilt, Told, Refused}
use Rattle.calls.specs.Answers.{Left, answer_of}
use Rattle.machine.specs.Calls.{step}
use Rattle.machine.specs.Stripe as Machine
use Rattle.machine.specs.Stripe.{Outcome, Stripe, answered}
use Rattle.records.specs.declared.Refusal.{Refusal}
use Rattle.records.specs.Refusals.{changes}
use Rattle.volume.specs.Volume.{call_in, given_fits}
use Rattle.tables.specs.declared.Volume.{Volume}
use Rattle.routing.specs.declared.VolumeCall.{VolumeCall}
use Rattle.routing.specs.declared.Request.{Request}
use Rattle.volumeshelf.specs.Volumes.{call_of}
use Rattle.tables.proofs.Within.{Small}
use Rattle.routing.specs.Walks.{at_stripe}
use Rattle.volumeshelf.specs.Entry.{Makes, Turns, none, more}
use Rattle.volumeshelf.proofs.Turn.{Fit, Lent, Turned, stripe_of, turned}

-- a refusal that leaves all unchanged
pub record Unchanged (x : Machine.Answer) : Type 0 where
  pub why : Refusal
  pub is : x ≡ Machine.Refused why
  pub unchanged : changes why ≡ false

refused-by : (a : Answer) (why : Refusal) → answer_of a [] ≡ Machine.Refused why → a ≡ Refused why
refused-by Accepted why e = let z : ◌≡◌ {A = ℕ} 0 1 = cc in absurd (omega arith)
refused-by (Shown source) why e = let z : ◌≡◌ {A = ℕ} 0 1 = cc in absurd (omega arith)
refused-by Added why e = let z : ◌≡◌ {A = ℕ} 0 1 = cc in absurd (omega arith)
refused-by Done why e = let z : ◌≡◌ {A = ℕ} 0 1 = cc in absurd (omega arith)
refused-by Rebuilt why e = let z : ◌≡◌ {A = ℕ} 0 1 = cc in absurd (omega arith)
refused-by (Told finding) why e = let z : ◌≡◌ {A = ℕ} 0 1 = cc in absurd (omega arith)
refused-by (Refused other) why e = cc

pub left-unchanged : (a : Answer) {P : Type 0} → Unchanged (answer_of a []) → Left a P → P
left-unchanged a {P} u l = subst (λ (x : Answer). Left x P → P) (sym (refused-by a u.why u.is)) (rw u.unchanged (λ x. x)) l

module _ (v : Volume) (small : Small v) (call : VolumeCall) (value : List ℕ) (fits : given_fits v.z v.stripes (call_of call value) ≡ true)
    (t₀ : Lent) (fit₀ : Fit v t₀) (u₀ e : ℕ) (e-in : e ≤ v.stripes) where
  -- the machine's step of stripe r
  abbrev pub step_of : ℕ → Outcome Stripe
  step_of r = step v.z (call_in v.z r (call_of call value)) (stripe_of v t₀ r)

  pub record Sofar (u : ℕ) (t : Lent) (last : Answer) : Type 0 where
    pub low : u₀ ≤ u
    pub high : u ≤ e
    pub fit : Fit v t
    pub done : (r : ℕ) → u₀ ≤ r → r < u → (a : Answer) × (answered (answer_of a []) (stripe_of v t r) ≡ step_of r)
    pub before : (r : ℕ) → r < u₀ → stripe_of v t r ≡ stripe_of v t₀ r
    pub after : (r : ℕ) → u ≤ r → stripe_of v t r ≡ stripe_of v t₀ r
    pub latest : (r : ℕ) → u₀ ≤ r → u ≡ suc r → answered (answer_of last []) (stripe_of v t r) ≡ step_of r
    pub same : ((r : ℕ) → u₀ ≤ r → r < u → Unchanged (step_of r).answer) → t ≡ t₀

  begun : u₀ ≤ e → Sofar u₀ t₀ Accepted
  begun l =
      record {
        low = omega arith;
        high = l;
        fit = fit₀;
        done = λ r a b. absurd (omega (arith, a, b));
        before = λ r b. refl;
        after = λ r b. refl;
        latest = λ r a b. absurd (omega (arith, a, b));
        same = λ h. refl;
      }

  turn : (u : ℕ) (t t' : Lent) (last a : Answer) → Sofar u t last → u < e → Turned v (call_of call value) u t a t' → Sofar (suc u) t' a
  turn u t t' last a S l T =
      record {
        low = omega (arith, S.low);
        high = omega (arith, l);
        fit = T.fit;
        done = λ r b c. made r b c (ℕ_discrete r u);
        before = λ r b. T.others r (λ q. omega (arith, b, q, S.low)) ∙ S.before r b;
        after = λ r b. T.others r (λ q. omega (arith, b, q)) ∙ S.after r (omega (arith, b));
        latest = λ r b c. subst (λ (k : ℕ). answered (answer_of a []) (stripe_of v t' k) ≡ step_of k) (omega (arith, c)) here;
        same = λ h. left-unchanged a (subst Unchanged (sym (ap (λ o. o.answer) here)) (h u S.low (omega arith))) T.left
            ∙ S.same (λ r b c. h r b (omega (arith, c)));
      }
    where
      here : answered (answer_of a []) (stripe_of v t' u) ≡ step_of u
      here = T.said ∙ ap (step v.z (call_in v.z u (call_of call value))) (S.after u (omega arith))

      made : (r : ℕ) → u₀ ≤ r → r < suc u → Dec (r ≡ u) → (x : Answer) × (answered (answer_of x []) (stripe_of v t' r) ≡ step_of r)
      made r b c (yes q) = (a, subst (λ (k : ℕ). answered (answer_of a []) (stripe_of v t' k) ≡ step_of k) (sym q) here)
      made r b c (no q) =
          let d = S.done r b (omega (arith, c, q)) in
          (d.0, ap (answered (answer_of d.0 [])) (T.others r q) ∙ d.1)

-- the calls on the stripes before s, from stripe 0 on
module _ (q : Request) (small : Small q.volume) (value : List ℕ) (fits : given_fits q.volume.z q.volume.stripes (call_of q.call value) ≡ true)
    (t₀ : Lent) (fit₀ : Fit q.volume t₀) where
  pub walked : (e-in : q.volume.stripes ≤ q.volume.stripes) {s : ℕ} {t : Lent} {a : Answer} → Turns q value t₀ s t a → s ≤ q.volume.stripes
      → Sofar q.volume small q.call value fits t₀ fit₀ 0 q.volume.stripes e-in s t a
  walked e-in none l = begun q.volume small q.call value fits t₀ fit₀ 0 q.volume.stripes e-in (omega arith)
  walked e-in (more {s = s} {t = y} {a = a} {a' = b} {t' = z} T made) l =
      let S = walked e-in T (omega (arith, l)) in
      turn q.volume small q.call value fits t₀ fit₀ 0 q.volume.stripes e-in s y z a b S l
      (turned q.volume small s l q.call y z value b S.fit fits made)

  -- the call on its stripe alone
  pub walked_one : (e-in : suc q.stripe ≤ q.volume.stripes) (t : Lent) (a : Answer) → Makes value t₀ q a t
      → Sofar q.volume small q.call value fits t₀ fit₀ q.stripe (suc q.stripe) e-in (suc q.stripe) t a
  walked_one e-in t a made =
      turn q.volume small q.call value fits t₀ fit₀ q.stripe (suc q.stripe) e-in q.stripe t₀ t Accepted a
      (begun q.volume small q.call value fits t₀ fit₀ q.stripe (suc q.stripe) e-in (omega arith)) (omega arith)
      (turned q.volume small q.stripe e-in q.call t₀ t value a fit₀ fits made)

pub one-more : (q : Request) (value : List ℕ) (t₀ : Lent) {s : ℕ} {t : Lent} {a : Answer} → Turns q value t₀ s t a → (x : Request) → x ≡ at_stripe q s
    → (b : Answer) (t' : Lent) → Makes value t x b t' → Turns q value t₀ (s + 1) t' b
one-more q value t₀ {t = t} T x is b t' made =
    subst (λ (k : ℕ). Turns q value t₀ k t' b) (omega arith) (more T (subst (λ (y : Request). Makes value t y b t') is made))
