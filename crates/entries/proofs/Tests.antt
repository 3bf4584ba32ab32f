-- What `search` is handed where a function returns by the outcome of tests. Assumes nothing.
use mathlib.Core.Path.{◌≡◌, sym, ◌∙◌}
use mathlib.Core.Bool.{Bool, true, false, cond, ◌&&◌, ◌||◌, not}
use Prim.Native.Nat.{ℕ, ◌≤◌}
use lib.Dec.{leb}
use borrow.Author.Tests.{le-leb, lt-leb, lt-ltb, le-ltb, eq-eqb, ne_eqb, not-true, not-false}

-- a definition is equal to the tests as the code makes them
pub same-as : {A : Type 0} {x y z : A} → x ≡ y → z ≡ y → z ≡ x
same-as e q = q ∙ sym e

-- r is the outcome of the test t
module _ (t r : Bool) (e : r ≡ t) where
  -- the first test of an `and` was passed, and x is the rest; it was not passed
  pub and-on : (b x : Bool) → r ≡ true → x ≡ b → x ≡ (t && b)
  and-on b x h q = q ∙ rw (← e, h)

  pub and-off : (b : Bool) → r ≡ false → r ≡ (t && b)
  and-off b h = rw (← e, h)

  pub or-on : (b : Bool) → r ≡ true → r ≡ (t || b)
  or-on b h = rw (← e, h)

  pub or_off : (b x : Bool) → r ≡ false → x ≡ b → x ≡ (t || b)
  or_off b x h q = q ∙ rw (← e, h)

  module _ {A : Type 0} (x y z : A) where
    pub cond-on : r ≡ true → z ≡ x → z ≡ cond t x y
    cond-on h q = q ∙ rw (← e, h)

    pub cond-off : r ≡ false → z ≡ y → z ≡ cond t x y
    cond-off h q = q ∙ rw (← e, h)

    pub cond-not-on : r ≡ false → z ≡ x → z ≡ cond (not t) x y
    cond-not-on h q = q ∙ rw (← e, h)

    pub cond-not-off : r ≡ true → z ≡ y → z ≡ cond (not t) x y
    cond-not-off h q = q ∙ rw (← e, h)

-- the first test of an `and` is one of numbers, and was passed
pub and-le : (a b : ℕ) (p x : Bool) → a ≤ b → x ≡ p → x ≡ (leb a b && p)
and-le a b p x h q = q ∙ rw (le-leb a b h)

-- a test of numbers, from the fact that a branch hands over; and the outcome of tests, in order
pub ruleset tests = (le-leb, lt-leb, lt-ltb, le-ltb, eq-eqb, ne_eqb, not-true, not-false, and-on, and-off, and-le, or-on, or_off, cond-on, cond-off, cond-not-on, cond-not-off)
