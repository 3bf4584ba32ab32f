-- What a call keeps: the invariant, and the shapes of the tables. A refusal that changes nothing keeps them, once for all calls.
-- A call X of specs/GROUP (Writing, Reading, Rebuild, Failure or Aging) has its definition `GROUP.X` there, its lemma `X-kept` in KeptGROUP (from Good
-- and Fits before it, Kept of its step), and, if it changes a column, `X-good`, the same on columns, below GROUP/: check and drop in Writing/Check, the
-- calls of locks alone in Rebuild/Locks, the others in files of their own names. Assumes nothing.
use Rattle.std.specs.Prelude.{Option, None, Some}
use mathlib.Core.Path.{◌≡◌, refl, sym, subst}
use mathlib.Core.Bool.{Bool, true, false, cond}
use Prim.Native.Nat.{ℕ, ◌*◌}
use native.Mathlib.Omega.{arith}
use lib.Dec.{eqb}
use lib.ListN.{length}
use borrow.Author.Tests.{ne_eqb}
use Rattle.blocks.specs.Blocks.{Bytes}
use Rattle.records.specs.declared.Sizes.{Sizes}
use Rattle.records.specs.declared.Refusal.{Refusal}
use Rattle.records.specs.Refusals.{number_of}
use Rattle.records.proofs.Refusals.{from_one}
use Rattle.machine.specs.Stripe.{Stripe, Answer, number, Outcome, answered, refused, guard, Local, Whole, at_node, put_node, whole, put_whole}
use Rattle.machine.specs.Writing.{unless}
use Rattle.machine.specs.Calls.{Call}
use Rattle.machine.specs.History.{Kind, SwapInto, AddBy, PickBy, SettleBy, Failure, Other, kind, is_done}
use Rattle.machine.proofs.Ledger as Ledger
use Rattle.machine.proofs.Ledger.{Ledger, Entered, note}
use Rattle.machine.proofs.Invariant.{Good}
use Rattle.machine.proofs.Bytes.{Block, view, ops}
use Rattle.machine.proofs.View.{columns, put_back, put-whole-back}

-- the tables have their lengths, and hold bytes
pub record Fits (z : Sizes) (s : Stripe) : Type 0 where
  pub nodes : length s.nodes ≡ z.n
  pub clients : length s.clients ≡ z.m
  pub blocks : length s.blocks ≡ z.n * z.b
  pub spare : length s.spare ≡ z.n * z.b
  pub differences : length s.differences ≡ z.m * z.b
  pub blocks_bytes : Bytes s.blocks
  pub spare_bytes : Bytes s.spare
  pub differences_bytes : Bytes s.differences

-- what a call is to the ledger
abbrev pub entered_as : ℕ → Kind → Bool → Entered Block
entered_as b (SwapInto c i value) done = Ledger.Swap c i (view b value)
entered_as b (AddBy c) done = cond done (Ledger.Report c) Ledger.Quiet
entered_as b (PickBy c) done = Ledger.Pick c
entered_as b (SettleBy c) done = Ledger.Settle c
entered_as b Failure done = Ledger.Failure
entered_as b Other done = Ledger.Quiet

-- a call with the answer that it got
abbrev pub entry : Sizes → Call → Answer → Entered Block
entry z x a = entered_as z.b (cond (eqb (number a) 0) (kind x) Other) (is_done a)

pub record Kept (z : Sizes) (h : Ledger Block) (x : Call) (o : Outcome Stripe) : Type 0 where
  pub good : Good (ops z) (note (ops z) h (entry z x o.answer) (columns z o.after).block) (columns z o.after)
  pub fits : Fits z o.after

-- a refusal is not accepted
pub refusal-number : (why : Refusal) → eqb (number_of why) 0 ≡ false
refusal-number why = ne_eqb (number_of why) 0 (λ e. omega (arith, from_one why))

module _ (z : Sizes) (h : Ledger Block) where
  -- a refusal, whatever it leaves
  pub kept-refused : (x : Call) (why : Refusal) (s : Stripe) → Good (ops z) h (columns z s) → Fits z s → Kept z h x (refused why s)
  kept-refused x why s g f = record { good = rw (refusal-number why) g; fits = f }

  module _ (s : Stripe) (g : Good (ops z) h (columns z s)) (f : Fits z s) (x : Call) where
    -- calls at node j by client c
    abbrev pub KeptAt : ℕ → ℕ → Outcome Local → Type 0
    KeptAt j c o = Kept z h x (answered o.answer (put_node j c o.after s))

    pub at-refused : (j c : ℕ) (why : Refusal) → KeptAt j c (refused why (at_node j c s))
    at-refused j c why = subst (λ s. Kept z h x (refused why s)) (sym (put_back j c s)) (kept-refused x why s g f)

    pub at-guard : (j c : ℕ) (b : Bool) (why : Refusal) (rest : Outcome Local) → (b ≡ false → KeptAt j c rest) → KeptAt j c (guard b why (at_node j c s) rest)
    unfolding guard
    at-guard j c true why rest k = at-refused j c why
    at-guard j c false why rest k = k refl

    -- an accepted call that leaves all as it was, and of which the ledger is told nothing
    pub at_same : (j c : ℕ) (a : Answer) → ((b : ℕ → Block) → note (ops z) h (entry z x a) b ≡ h) → KeptAt j c (answered a (at_node j c s))
    at_same j c a quiet = subst (λ t. Kept z h x (answered a t)) (sym (put_back j c s)) (record { good = rw (quiet (columns z s).block) g; fits = f })

    pub at-unless : (j c : ℕ) (tests : Option Refusal) (effect : Outcome Local) → (tests ≡ None → KeptAt j c effect) →
        KeptAt j c (unless tests (at_node j c s) effect)
    at-unless j c None effect k = k refl
    at-unless j c (Some why) effect k = at-refused j c why

    -- calls by client c on the whole stripe
    abbrev pub KeptWhole : ℕ → Outcome Whole → Type 0
    KeptWhole c o = Kept z h x (answered o.answer (put_whole c o.after s))

    pub whole-refused : (c : ℕ) (why : Refusal) → KeptWhole c (refused why (whole c s))
    whole-refused c why = subst (λ s. Kept z h x (refused why s)) (sym (put-whole-back c s)) (kept-refused x why s g f)

    pub whole-guard : (c : ℕ) (b : Bool) (why : Refusal) (rest : Outcome Whole) → (b ≡ false → KeptWhole c rest) → KeptWhole c (guard b why (whole c s) rest)
    unfolding guard
    whole-guard c true why rest k = whole-refused c why
    whole-guard c false why rest k = k refl
