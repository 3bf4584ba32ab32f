-- What an answer leaves, by whether its refusal changes anything. Assumes nothing.
use mathlib.Core.Path.{◌≡◌, refl}
use mathlib.Core.Bool.{Bool, true, false, cond}
use Prim.Native.Nat.{ℕ}
use native.Mathlib.Omega.{arith}
use borrow.Author.Tests.{not-true}
use Rattle.records.specs.declared.Refusal.{Refusal}
use Rattle.records.specs.Refusals.{changes}
use Rattle.calls.specs.declared.Answer.{Answer}
use Rattle.calls.specs.declared.Answer.TheVariants.{Accepted, Shown, Added, Done, Rebuilt, Told, Refused}
use Rattle.calls.specs.Answers.{Left, is_unchanged}

-- where more is known of what is unchanged, or "the very same" is said in another way
by-test : (test : Bool) {P Q : Type 0} → (test ≡ true → P → Q) → cond test P (Unit {0}) → cond test Q (Unit {0})
by-test true f x = f refl x
by-test false f x = tt

given : (test : Bool) {P : Type 0} → (test ≡ true → P) → cond test P (Unit {0})
given true f = f refl
given false f = tt

taken : (test : Bool) {P : Type 0} → test ≡ true → cond test P (Unit {0}) → P
taken true e x = x
taken false e x = let z : ◌≡◌ {A = ℕ} 0 1 = cc in absurd (omega arith)

-- the refusal that leaves all unchanged
pub record Refusing (a : Answer) : Type 0 where
  pub why : Refusal
  pub is : a ≡ Refused why
  pub unchanged : changes why ≡ false

none : (a : Answer) → false ≡ true → Refusing a
none a e = let z : ◌≡◌ {A = ℕ} 0 1 = cc in absurd (omega arith)

pub refusing : (a : Answer) → is_unchanged a ≡ true → Refusing a
refusing Accepted e = none _ e
refusing (Shown source) e = none _ e
refusing Added e = none _ e
refusing Done e = none _ e
refusing Rebuilt e = none _ e
refusing (Told finding) e = none _ e
refusing (Refused why) e = record { why = why; is = refl; unchanged = not-true (changes why) e }

module _ (a : Answer) {P : Type 0} where
  pub left-same : P → Left a P
  left-same x = given (is_unchanged a) (λ e. x)

  pub left-with : {Q : Type 0} → (Refusing a → P → Q) → Left a P → Left a Q
  left-with f x = by-test (is_unchanged a) (λ e. f (refusing a e)) x

  pub left-map : {Q : Type 0} → (P → Q) → Left a P → Left a Q
  left-map f x = by-test (is_unchanged a) (λ e. f) x

  pub left_out : is_unchanged a ≡ true → Left a P → P
  left_out e x = taken (is_unchanged a) e x

pub left-free : (a : Answer) (P : Type 0) → is_unchanged a ≡ false → Left a P
left-free a P e = given (is_unchanged a) (λ t. let z : ◌≡◌ {A = ℕ} 0 1 = cc in absurd (omega arith))

-- whatever the refusal, the very records are what it may leave
pub unchanged : (why : Refusal) {P : Type 0} → P → Left (Refused why) P
unchanged why x = left-same (Refused why) x
