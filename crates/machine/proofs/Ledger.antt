-- What has happened since the last finished rebuild, kept by counts: the form of the history that the invariant speaks of. That it tells the same as
-- the lists of specs/History is shown in Told. Assumes nothing.
use Rattle.std.specs.Prelude.{Option, None, Some}
use mathlib.Core.Bool.{Bool, true, false, cond}
use mathlib.Core.Path.{◌≡◌}
use Prim.Native.Nat.{ℕ, suc, ◌≤◌, ◌<◌}
use lib.Dec.{eqb}
use Rattle.basics.proofs.Updates.{upd}
use Rattle.machine.proofs.Columns.{Ops}

unfoldable pub upd2 : {A : Type 0} → (ℕ → ℕ → A) → ℕ → ℕ → A → ℕ → ℕ → A
upd2 f i l a = upd f i (upd (f i) l a)

abbrev pub zeroth : ℕ → ℕ → Bool
zeroth i l = eqb l 0

-- a swap: its position, and the how-manieth it is there since the last finished rebuild, from 1
pub record Swapped : Type 0 where
  pub pos : ℕ
  pub place : ℕ

module _ (B : Type 0) where
  pub record Ledger : Type 0 where
    -- how many swaps were accepted at i since the last finished rebuild; their values, from 1. Value 0 is what that rebuild gave, or zero
    pub len : ℕ → ℕ
    pub val : ℕ → ℕ → B
    -- whether the swap was reported done. (The 0th counts as done)
    pub done : ℕ → ℕ → Bool
    -- a client's last accepted swap, if it is one since then
    pub last : ℕ → Option Swapped
    -- a Done since then reported a swap from before
    pub stale : Bool
    -- a client's accepted settles after its last accepted pick
    pub settles : ℕ → Option ℕ
    pub failed : Bool

  -- what a call is to the ledger
  pub data Entered : Type 0 where
    Swap : ℕ → ℕ → B → Entered
    Report Pick Settle : ℕ → Entered
    Failure Quiet : Entered

module _ {B : Type 0} where
  -- an accepted swap
  abbrev pub note_swap : Ledger B → ℕ → ℕ → B → Ledger B
  note_swap h c i v =
      record {
        len = upd h.len i (suc (h.len i));
        val = upd2 h.val i (suc (h.len i)) v;
        done = h.done;
        last = upd h.last c (Some (record { pos = i; place = suc (h.len i) }));
        stale = h.stale;
        settles = h.settles;
        failed = h.failed;
      }

  -- the answer Done reports the last accepted swap of the same client
  abbrev pub note_done : Ledger B → Option Swapped → Ledger B
  note_done h None = record { len = h.len; val = h.val; done = h.done; last = h.last; stale = true; settles = h.settles; failed = h.failed }
  note_done h (Some w) =
      record { len = h.len; val = h.val; done = upd2 h.done w.pos w.place true; last = h.last; stale = h.stale; settles = h.settles; failed = h.failed }

  abbrev pub note_count : Ledger B → ℕ → ℕ → Ledger B
  note_count h c x =
      record { len = h.len; val = h.val; done = h.done; last = h.last; stale = h.stale; settles = upd h.settles c (Some x); failed = h.failed }

  abbrev pub note_fail : Ledger B → Ledger B
  note_fail h = record { len = h.len; val = h.val; done = h.done; last = h.last; stale = h.stale; settles = h.settles; failed = true }

  -- a finished rebuild: all counts begin anew from the blocks as its last settle left them
  abbrev pub note_finish : Ledger B → ℕ → ℕ → (ℕ → B) → Ledger B
  note_finish h c x b =
      record { len = λ i. 0; val = λ i l. b i; done = zeroth; last = λ c. None; stale = false; settles = upd h.settles c (Some x); failed = false }

module _ (O : Ops) where
  open O use {B, k, n, zeroes, parity}

  -- whether one more settle of the client is the nth
  abbrev pub is_last : Option ℕ → Bool
  is_last None = false
  is_last (Some x) = eqb (suc x) n

  abbrev pub note_settle : Ledger B → ℕ → Option ℕ → (ℕ → B) → Ledger B
  note_settle h c None b = h
  note_settle h c (Some x) b = cond (eqb (suc x) n) (note_finish h c (suc x) b) (note_count h c (suc x))

  -- b: the blocks after the call
  abbrev pub note : Ledger B → Entered B → (ℕ → B) → Ledger B
  note h (Swap c i v) b = note_swap h c i v
  note h (Report c) b = note_done h (h.last c)
  note h (Pick c) b = note_count h c 0
  note h (Settle c) b = note_settle h c (h.settles c) b
  note h Failure b = note_fail h
  note h Quiet b = h

  unfoldable pub no_ledger : Ledger B
  no_ledger = record { len = λ i. 0; val = λ i l. zeroes; done = zeroth; last = λ c. None; stale = false; settles = λ c. None; failed = false }

  pub record IsPos (i : ℕ) : Type 0 where
    pub low : 1 ≤ i
    pub high : i ≤ k

  abbrev pub IsCodeword : (ℕ → B) → Type 0
  IsCodeword b = (j : ℕ) → k < j → j ≤ n → b j ≡ parity j b

  -- x is the value of a first part of the swaps at i, in which all that are done are
  abbrev pub IsPart : Ledger B → ℕ → B → Type 0
  IsPart h i x = (l : ℕ) × ((l ≤ h.len i) × (x ≡ h.val i l) × ((d : ℕ) → h.done i d ≡ true → d ≤ l))

  -- after a finished rebuild; h is what was before it
  pub record Rebuilt (h : Ledger B) (b : ℕ → B) : Type 0 where
    pub codeword : IsCodeword b
    pub part : (i : ℕ) → IsPos i → IsPart h i (b i)
    pub reported : h.stale ≡ false

  abbrev pub AllDone : Ledger B → Type 0
  AllDone h = (i : ℕ) → IsPos i → (l : ℕ) → 1 ≤ l → l ≤ h.len i → h.done i l ≡ true

  -- whenever no node has failed and every swap is done
  pub record Steady (h : Ledger B) (b : ℕ → B) : Type 0 where
    pub codeword : h.failed ≡ false → AllDone h → IsCodeword b
    pub values : h.failed ≡ false → AllDone h → (i : ℕ) → IsPos i → b i ≡ h.val i (h.len i)
