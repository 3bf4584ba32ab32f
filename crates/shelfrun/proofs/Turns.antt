-- A call played, and what is printed of its answer. Assumes nothing.
use mathlib.Core.Path.{◌≡◌, refl, sym, ap, subst}
use mathlib.Core.Bool.{Bool, cond, true, false}
use mathlib.Core.List.{List, [], ◌∷◌}
use mathlib.Core.Option.{some}
use Prim.Native.Nat.{ℕ, ◌-◌, ◌*◌, ◌≤◌}
use native.Mathlib.Omega.{arith}
use lib.Dec.{eqb}
use lib.ListN.{drop, get_or, length, length-take}
use borrow.Author.Tests.{ne_eqb}
use Rattle.blocks.specs.Blocks.{part, block, has_block, block_in}
use Rattle.records.specs.declared.Source.{Source}
use Rattle.machine.specs.Stripe.{Stripe, Outcome, answered, number}
use Rattle.machine.specs.Stripe as Machines
use Rattle.machine.specs.Calls.{step}
use Rattle.machine.specs.Calls as Machine
use Rattle.std.specs.Prelude.{Option as Known}
use Rattle.calls.specs.declared.Answer.{Answer}
use Rattle.calls.specs.declared.Answer.TheVariants.{Accepted, Shown, Added, Done, Rebuilt, Told, Refused}
use Rattle.calls.specs.Answers.{answer_of, shown_part, table_of}
use Rattle.calls.specs.declared.Call.{Call}
use Rattle.calls.specs.Calls.{call_of}
use Rattle.script.specs.Lines.{printed, shown, shown_text}
use Rattle.script.specs.Writing.{Put}
use Rattle.script.specs.declared.writer.Event.{Event}
use Rattle.shelfrun.specs.Shelfrun.{sizes, output}
use Rattle.shelfrun.specs.Feeding.{Says, Answers, byte_in}

-- the number says nothing of the block shown
pub number-alone : (a : Answer) (block : List ℕ) → number (answer_of a block) ≡ number (answer_of a [])
number-alone Accepted block = refl
number-alone (Shown source) block = refl
number-alone Added block = refl
number-alone Done block = refl
number-alone Rebuilt block = refl
number-alone (Told finding) block = refl
number-alone (Refused why) block = refl

-- only a read shows a byte
pub none-shown : (a : Answer) → 45 ∷ [] ≡ shown (answer_of a [])
none-shown Accepted = refl
none-shown (Shown source) = refl
none-shown Added = refl
none-shown Done = refl
none-shown Rebuilt = refl
none-shown (Told finding) = refl
none-shown (Refused why) = refl

module _ {A : Type 0} (x y : A) (a : Answer) (n : ℕ) (e : n ≡ number (answer_of a [])) where
  pub when-accepted : n ≡ 0 → (block : List ℕ) → x ≡ cond (eqb (number (answer_of a block)) 0) x y
  when-accepted z block = rw (number-alone a block, sym e, z)

  pub when-refused : (n ≡ 0 → ⊥) → (block : List ℕ) → y ≡ cond (eqb (number (answer_of a block)) 0) x y
  when-refused z block = rw (number-alone a block, sym e, ne_eqb n 0 z)

-- a list of one byte
pub one_byte : (l : List ℕ) → length l ≡ 1 → l ≡ get_or l 0 0 ∷ []
one_byte [] h = absurd (omega arith)
one_byte (x ∷ []) h = refl
one_byte (x ∷ y ∷ l) h = absurd (omega arith)

-- a block of one byte has at most one
short : (source : Source) (l : List ℕ) → length l ≤ 1 → shown_text (byte_in l) ≡ shown (Machines.Shown source l)
short source [] h = refl
short source (x ∷ []) h = refl
short source (x ∷ y ∷ l) h = absurd (omega arith)

at_most_one : (i : ℕ) (t : List ℕ) (there : Bool) → length (cond there (block 1 i t) []) ≤ 1
unfolding part
at_most_one i t true = omega (arith, length-take 1 (drop ((i - 1) * 1) t))
at_most_one i t false = omega arith

-- the byte that an answer names is the one that is printed
pub one-shown : (a : Answer) (i : ℕ) (blocks spare : List ℕ) → shown_text (byte_in (shown_part a 1 i blocks spare)) ≡ shown (answer_of a (shown_part a 1 i blocks spare))
one-shown Accepted i blocks spare = refl
one-shown (Shown source) i blocks spare =
    let t = table_of source blocks spare in
    short source (block_in 1 i t) (at_most_one i t (has_block 1 i (length t)))
one-shown Added i blocks spare = refl
one-shown Done i blocks spare = refl
one-shown Rebuilt i blocks spare = refl
one-shown (Told finding) i blocks spare = refl
one-shown (Refused why) i blocks spare = refl

-- the words of an answer, printed
pub prints : {before after : List ℕ} {end : ℕ} (n : ℕ) (x : Machine.Call) (a : Machines.Answer) (m : ℕ) {event : Known Event} {byte : Known ℕ}
    → Says x a event byte → m ≡ number a → Put before 0 (printed n event m (shown_text byte)) after end → Put before 0 (output n (some x) a) after end
prints {before = before} {after = after} {end = end} n x a m w e p =
    subst (λ (t : List ℕ). Put before 0 t after end) (λ i. printed n (w.event-of i) (e i) (w.byte_read i)) p

-- the answer printed is that of the machine's step
pub answers : {before after : List ℕ} {end : ℕ} (n : ℕ) (x : Machine.Call) (s : Stripe) (a : Machines.Answer) (s' : Stripe)
    → answered a s' ≡ step sizes x s → Put before 0 (output n (some x) a) after end → Answers n (some x) s before after end s'
answers {before = before} {after = after} {end = end} n x s a s' e p = record {
  text = subst (λ (o : Outcome Stripe). Put before 0 (output n (some x) o.answer) after end) e p;
  left = ap (λ (o : Outcome Stripe). o.after) e;
}

-- the same line, with its value
pub same-value : {n end : ℕ} {s s' : Stripe} {before after : List ℕ} (call : Call) (v w : List ℕ) → v ≡ w
    → Answers n (some (call_of call v)) s before after end s' → Answers n (some (call_of call w)) s before after end s'
same-value {n = n} {end = end} {s = s} {s' = s'} {before = before} {after = after} call v w e a =
    subst (λ (l : List ℕ). Answers n (some (call_of call l)) s before after end s') e a
