-- A list of calls of the code is a list of the machine's calls, if each of them is the machine's step with permitted sizes. A call that is answered 1 for
-- a reason that the machine has not (a table of another length) is the machine's with sizes outside the limits, which every call is
-- refused with. Assumes nothing.
use mathlib.Core.Path.{◌≡◌, refl, sym, ap, subst, ◌∙◌}
use mathlib.Core.Logic.{◌⊎◌, inl, inr}
use mathlib.Core.Bool.{Bool, true, false}
use mathlib.Core.List.{List, [], ◌∷◌, ◌++◌}
use Prim.Native.Nat.{ℕ, ◌*◌}
use lib.ListN.{length}
use Rattle.blocks.specs.Blocks.{Bytes}
use Rattle.code.specs.Code.{code_sizes}
use Rattle.machine.specs.Stripe.{Stripe, Answer, number, Outcome, answered, refused, guard}
use Rattle.machine.specs.Calls.{Call, step}
use Rattle.machine.specs.History.{Event, nodes_at, sizes_at}
use Rattle.machine.specs.Guarantee.{Request, Allowed, AllAllowed, EveryList, made, play, start, value_of}
use Rattle.machine.specs.Guarantee as Machine
use Rattle.machine.proofs.Outside.{step-outside}
use Rattle.machine.proofs.Refusals.{limits-same}
use Rattle.records.specs.declared.Sizes.{Sizes}
use Rattle.records.specs.declared.Refusal.TheVariants.{OutOfLimits}
use Rattle.records.specs.Sizes.{sizes_within}
use Rattle.runs.specs.Runs.{Begun, Run, begun, called, EveryRun}

-- sizes outside the limits
abbrev none : Sizes
none = record { k = 0; n = 0; b = 0; failures = 0; m = 0 }

none_within : sizes_within none ≡ false
unfolding sizes_within code_sizes
none_within = refl

refused_none : (call : Call) (s : Stripe) → refused OutOfLimits s ≡ step none call s
refused_none call s = step-outside none s none_within call

-- ---- one call of the code

-- the machine's step, with the list's sizes or answered 1
pub record Stepped (z : Sizes) (call : Call) (s : Stripe) (answer : Answer) (s' : Stripe) : Type 0 where
  pub sizes : Sizes
  pub is : answered answer s' ≡ step sizes call s
  pub permitted : (sizes ≡ z) ⊎ (number answer ≡ 1)

module _ (z : Sizes) (call : Call) (s : Stripe) {answer : Answer} {s' : Stripe} where
  pub refused-one : answered answer s' ≡ refused OutOfLimits s → Stepped z call s answer s'
  refused-one e = record { sizes = none; is = e ∙ refused_none call s; permitted = inr (ap (λ o. number o.answer) e) }

  -- a test of the code's own, before the machine's
  pub guarded : (test : Bool) {y : Sizes} → (y ≡ z) ⊎ (number answer ≡ 1) → answered answer s' ≡ guard test OutOfLimits s (step y call s)
      → Stepped z call s answer s'
  unfolding guard
  guarded true p e = refused-one e
  guarded false {y} p e = record { sizes = y; is = e; permitted = p }

-- answered 1, it leaves the stripe as it was
pub stepped_same : {z : Sizes} {call : Call} {s : Stripe} {answer : Answer} {s' : Stripe} → Stepped z call s answer s' → number answer ≡ 1 → s' ≡ s
stepped_same {call = call} {s = s} x one = ap (λ o. o.after) x.is ∙ limits-same x.sizes s call (ap (λ o. number o.answer) (sym x.is) ∙ one)

-- ---- the list

-- no call changes the sizes of a list
nodes-stay : (n : ℕ) (past : List Event) → nodes_at n past ≡ n
unfolding nodes_at
nodes-stay n [] = refl
nodes-stay n (e ∷ past) = nodes-stay n past

sizes-stay : (z : Sizes) (past : List Event) → z ≡ sizes_at z past
sizes-stay z past = ap (λ n. record { k = z.k; n = n; b = z.b; failures = z.failures; m = z.m }) (sym (nodes-stay z.n past))

play-last : (calls : List Request) (r : Request) (run : Machine.Run) → play (calls ++ (r ∷ [])) run ≡ made r (play calls run)
unfolding play
play-last [] r run = refl
play-last (x ∷ calls) r run = play-last calls r (made x run)

allowed-last : (z : Sizes) (calls : List Request) (r : Request) (run : Machine.Run) → AllAllowed z calls run → Allowed z r (play calls run)
    → AllAllowed z (calls ++ (r ∷ [])) run
unfolding play AllAllowed
allowed-last z [] r run a b = (b, tt)
allowed-last z (x ∷ calls) r run a b = (a.0, allowed-last z calls r (made x run) a.1 b)

-- the stripe and the history of a list of the machine's calls
record Listed (z : Sizes) (run : Machine.Run) : Type 0 where
  spare : List ℕ
  differences : List ℕ
  spare_length : length spare ≡ z.n * z.b
  differences_length : length differences ≡ z.m * z.b
  spare_bytes : Bytes spare
  differences_bytes : Bytes differences
  calls : List Request
  allowed : AllAllowed z calls (start z spare differences)
  is : play calls (start z spare differences) ≡ run

holds : (P : Sizes → Machine.Run → Type 0) → EveryList P → (z : Sizes) → sizes_within z ≡ true → (run : Machine.Run) → Listed z run → P z run
holds P every z within run L =
    subst (P z) L.is
    (every z within L.spare L.differences L.spare_length L.differences_length L.spare_bytes L.differences_bytes L.calls L.allowed)

first : (z : Sizes) (s : Stripe) → Begun z s → Listed z (record { stripe = s; past = [] })
unfolding play AllAllowed
first z s b =
    record {
      spare = s.spare;
      differences = s.differences;
      spare_length = b.spare;
      differences_length = b.differences;
      spare_bytes = b.spare_bytes;
      differences_bytes = b.differences_bytes;
      calls = [];
      allowed = tt;
      is = ap (λ t. record { stripe = t; past = [] }) (sym b.is_fresh);
    }

more : (z : Sizes) (run : Machine.Run) → Listed z run → (r : Request) → Allowed z r run → Listed z (made r run)
more z run L r a =
    record {
      spare = L.spare;
      differences = L.differences;
      spare_length = L.spare_length;
      differences_length = L.differences_length;
      spare_bytes = L.spare_bytes;
      differences_bytes = L.differences_bytes;
      calls = L.calls ++ (r ∷ []);
      allowed = allowed-last z L.calls r (start z L.spare L.differences) L.allowed (subst (Allowed z r) (sym L.is) a);
      is = play-last L.calls r (start z L.spare L.differences) ∙ ap (made r) L.is;
    }

-- the run after an outcome
abbrev ran : Call → List Event → Outcome Stripe → Machine.Run
ran call past o = record { stripe = o.after; past = record { call = call; answer = o.answer; blocks = o.after.blocks } ∷ past }

one_more : (z : Sizes) (s : Stripe) (past : List Event) → Listed z (record { stripe = s; past = past }) → (call : Call) → Bytes (value_of call)
    → (answer : Answer) (s' : Stripe) → Stepped z call s answer s' → Listed z (ran call past (answered answer s'))
unfolding made
one_more z s past L call bytes answer s' x =
    subst (λ o. Listed z (ran call past o)) (sym x.is)
    (more z (record { stripe = s; past = past }) L (record { sizes = x.sizes; call = call }) (record { sizes = permitted x.permitted; bytes = bytes }))
  where
    permitted : (x.sizes ≡ z) ⊎ (number answer ≡ 1) → (x.sizes ≡ sizes_at z past) ⊎ (number (step x.sizes call s).answer ≡ 1)
    permitted (inl e) = inl (e ∙ sizes-stay z past)
    permitted (inr one) = inr (ap (λ o. number o.answer) (sym x.is) ∙ one)

-- ---- what holds of every list of the machine's calls holds of every list of the code's

module _ {S : Type 0} (seen : Sizes → S → Stripe) (Makes : S → Sizes → Call → Answer → S → Type 0) where
  abbrev pub StepsAll : Type 0
  StepsAll =
      (z y : Sizes) (s : S) (call : Call) (answer : Answer) (s' : S) → (y ≡ z) ⊎ (number answer ≡ 1) → Makes s y call answer s'
      → Stepped z call (seen z s) answer (seen z s')

  listed : StepsAll → (z : Sizes) (s : S) (past : List Event) → Run seen Makes z s past → Listed z (record { stripe = seen z s; past = past })
  listed steps z s past (begun b) = first z (seen z s) b
  listed steps z s past (called {s = t} {past = before} {y = y} {call = call} {answer = answer} R p m) =
      one_more z (seen z t) before (listed steps z t before R) call p.bytes answer (seen z s) (steps z y t call answer s p.sizes m)

  pub every-run : (P : Sizes → Machine.Run → Type 0) → EveryList P → StepsAll → EveryRun seen Makes P
  every-run P every steps z within s past R = holds P every z within (record { stripe = seen z s; past = past }) (listed steps z s past R)
