-- A stripe of records and tables seen by columns, and what putting records back does to the columns. Assumes nothing.
use Rattle.std.specs.Prelude.{Option, None, Some, unwrap_or}
use mathlib.Core.Path.{◌≡◌, refl, sym, ap, fun_ext, subst, ◌∙◌}
use mathlib.Core.Logic.{◌≢◌, ◌⊎◌, inl, inr}
use mathlib.Core.Bool.{true, ◌&&◌, ◌||◌}
use mathlib.Core.List.{List}
use Prim.Native.Nat.{ℕ, zero, suc, ◌≤◌}
use native.Mathlib.Omega.{arith}
use lib.ListN.{length, get_or, set, length-set}
use borrow.Author.Tests.{eqb-true, ne_eqb}
use lib.Seq.{get_or-set_same, get_or-set_other, set-get_or}
use Rattle.records.specs.declared.Sizes.{Sizes}
use Rattle.records.specs.declared.Refusal.{Refusal}
use Rattle.records.specs.declared.Lmode.{Lmode}
use Rattle.records.specs.Node.{Node, failed_node, is_holder}
use Rattle.records.specs.Node as Node
use Rattle.records.specs.Client as Client
use Rattle.records.specs.Client.{fresh_client}
use Rattle.machine.specs.Stripe.{Stripe, replacing, Outcome, answered, refused, Local, Whole, node_at, client_at, at_node, put_node, on_node, whole, put_whole, on_whole}
use Rattle.basics.specs.Lists.{element_at, set_at}
use Rattle.basics.proofs.Updates.{upd, upd_same, upd_other}
use Rattle.basics.proofs.Tests.{same_or, clash}
use Rattle.machine.proofs.Columns.{Columns, Lock, Unl, Exp, L0, L1, is_unl, is_exp, is_l0, is_locked, held_by, set_ops, set_locks, set_epochs, set_rsets, set_entries, set_hands, set_phases, set_finished, set_nexts}
use Rattle.machine.proofs.Bytes.{Block, block_of}

abbrev pub lock_of : Lmode → Option ℕ → Lock
lock_of Lmode.Unl h = Unl
lock_of Lmode.L0 h = L0 (unwrap_or h 0)
lock_of Lmode.L1 h = L1 (unwrap_or h 0)
lock_of Lmode.Exp h = Exp

-- the lock of a node's record
abbrev pub lock_in : Node → Lock
lock_in x = lock_of x.lmode x.holder

-- a field of the records, by number
abbrev pub nodes : {A : Type 0} → (Node → A) → List Node → ℕ → A
nodes f l j = f (node_at l j)

abbrev pub clients : {A : Type 0} → (Client.Client → A) → List Client.Client → ℕ → A
clients f l c = f (client_at l c)

abbrev pub columns : Sizes → Stripe → Columns Block
columns z s =
    record {
      block = block_of z.b s.blocks;
      op = nodes (λ x. x.opmode) s.nodes;
      lock = nodes lock_in s.nodes;
      epoch = nodes (λ x. x.epoch.0) s.nodes;
      rset = nodes (λ x. x.rset) s.nodes;
      entries = nodes (λ x. x.entries) s.nodes;
      hand = clients (λ x. x.hand) s.clients;
      phase = clients (λ x. x.rebuild) s.clients;
      finished = clients (λ x. x.finished) s.clients;
      next = clients (λ x. x.next.0) s.clients;
      difference = block_of z.b s.differences;
      spare = block_of z.b s.spare;
    }

pub upd-keep : {A : Type 0} (f : ℕ → A) (i : ℕ) → upd f i (f i) ≡ f
upd-keep f i = fun_ext (λ j. go j (same_or i j))
  where
    go : (j : ℕ) → (i ≡ j) ⊎ (i ≢ j) → upd f i (f i) j ≡ f j
    go j (inl e) = subst (λ j. upd f i (f i) j ≡ f j) e (upd_same f i (f i))
    go j (inr d) = upd_other f i (f i) j d

---- one element set
pub set_at-length : {E : Type 0} (l : List E) (i : ℕ) (x : E) → length (set_at l i x) ≡ length l
unfolding set_at
set_at-length l zero x = refl
set_at-length l (suc i) x = length-set l i x

module _ {E A : Type 0} (f : E → A) (d : E) (l : List E) where
  abbrev column : ℕ → A
  column j = f (element_at d l j)

  pub set-column : (i : ℕ) (x : E) → 1 ≤ i → i ≤ length l → (λ j. f (element_at d (set_at l i x) j)) ≡ upd (λ j. f (element_at d l j)) i (f x)
  unfolding element_at set_at
  set-column zero x a b = absurd (no_way a)
    where
      no_way : 1 ≤ 0 → ⊥
      no_way a = omega arith
  set-column (suc i) x a b = fun_ext (λ j. go j)
    where
      at : (j : ℕ) → (i ≡ j) ⊎ (i ≢ j) → f (get_or (set l i x) j d) ≡ upd column (suc i) (f x) (suc j)
      at j (inl e) =
          subst (λ j. f (get_or (set l i x) j d) ≡ upd column (suc i) (f x) (suc j)) e (ap f (get_or-set_same l i x d b) ∙ sym (upd_same column (suc i) (f x)))
      at j (inr q) = ap f (get_or-set_other l i j x d (λ e. q (sym e))) ∙ sym (upd_other column (suc i) (f x) (suc j) (λ e. q (omega arith)))

      go : (j : ℕ) → f (element_at d (set_at l (suc i) x) j) ≡ upd column (suc i) (f x) j
      go zero = sym (upd_other column (suc i) (f x) 0 (λ e. no_way e))
        where
          no_way : suc i ≡ 0 → ⊥
          no_way e = omega arith
      go (suc j) = at j (same_or i j)

  -- an element set to itself
  pub set_same : (i : ℕ) → set_at l i (element_at d l i) ≡ l
  unfolding element_at set_at
  set_same zero = refl
  set_same (suc i) = set-get_or l i d

---- one record put back: the columns of its fields change at one place
abbrev pub with_node : Columns Block → ℕ → Node → Columns Block
with_node C j x =
    set_ops (upd C.op j x.opmode)
    (set_locks (upd C.lock j (lock_in x))
    (set_epochs (upd C.epoch j x.epoch.0) (set_rsets (upd C.rset j x.rset) (set_entries (upd C.entries j x.entries) C))))

abbrev pub with_client : Columns Block → ℕ → Client.Client → Columns Block
with_client C c x =
    set_hands (upd C.hand c x.hand)
    (set_phases (upd C.phase c x.rebuild) (set_finished (upd C.finished c x.finished) (set_nexts (upd C.next c x.next.0) C)))

-- other records, the tables as they are
abbrev pub with_nodes : Stripe → List Node → Stripe
with_nodes s l = replacing l s.clients s.blocks s.spare s.differences s

abbrev pub with_clients : Stripe → List Client.Client → Stripe
with_clients s l = replacing s.nodes l s.blocks s.spare s.differences s

pub put-node : (z : Sizes) (s : Stripe) (j : ℕ) (x : Node) → 1 ≤ j → j ≤ length s.nodes
    → columns z (with_nodes s (set_at s.nodes j x)) ≡ with_node (columns z s) j x
put-node z s j x a b =
    λ i. record {
      block = block_of z.b s.blocks;
      op = set-column (λ (x : Node). x.opmode) failed_node s.nodes j x a b i;
      lock = set-column lock_in failed_node s.nodes j x a b i;
      epoch = set-column (λ (x : Node). x.epoch.0) failed_node s.nodes j x a b i;
      rset = set-column (λ (x : Node). x.rset) failed_node s.nodes j x a b i;
      entries = set-column (λ (x : Node). x.entries) failed_node s.nodes j x a b i;
      hand = (columns z s).hand;
      phase = (columns z s).phase;
      finished = (columns z s).finished;
      next = (columns z s).next;
      difference = (columns z s).difference;
      spare = (columns z s).spare;
    }

pub put-client : (z : Sizes) (s : Stripe) (c : ℕ) (x : Client.Client) → 1 ≤ c → c ≤ length s.clients
    → columns z (with_clients s (set_at s.clients c x)) ≡ with_client (columns z s) c x
put-client z s c x a b =
    λ i. record {
      block = (columns z s).block;
      op = (columns z s).op;
      lock = (columns z s).lock;
      epoch = (columns z s).epoch;
      rset = (columns z s).rset;
      entries = (columns z s).entries;
      hand = set-column (λ (x : Client.Client). x.hand) fresh_client s.clients c x a b i;
      phase = set-column (λ (x : Client.Client). x.rebuild) fresh_client s.clients c x a b i;
      finished = set-column (λ (x : Client.Client). x.finished) fresh_client s.clients c x a b i;
      next = set-column (λ (x : Client.Client). x.next.0) fresh_client s.clients c x a b i;
      difference = (columns z s).difference;
      spare = (columns z s).spare;
    }

---- what is lent, put back as it was
pub put_back : (j c : ℕ) (s : Stripe) → put_node j c (at_node j c s) s ≡ s
put_back j c s =
    λ i. replacing (set_same (λ (x : Node). x) failed_node s.nodes j i) (set_same (λ (x : Client.Client). x) fresh_client s.clients c i)
    s.blocks s.spare s.differences s

pub put-whole-back : (c : ℕ) (s : Stripe) → put_whole c (whole c s) s ≡ s
put-whole-back c s =
    λ i. replacing s.nodes (set_same (λ (x : Client.Client). x) fresh_client s.clients c i) s.blocks s.spare s.differences s

-- a call that is refused and leaves all unchanged
module _ (s : Stripe) (why : Refusal) where
  pub refused-at : (j c : ℕ) (call : Local → Outcome Local) → call (at_node j c s) ≡ refused why (at_node j c s) → on_node j c call s ≡ refused why s
  refused-at j c call e = ap (λ o. answered o.answer (put_node j c o.after s)) e ∙ ap (answered _) (put_back j c s)

  pub refused-on : (c : ℕ) (call : Whole → Outcome Whole) → call (whole c s) ≡ refused why (whole c s) → on_whole c call s ≡ refused why s
  refused-on c call e = ap (λ o. answered o.answer (put_whole c o.after s)) e ∙ ap (answered _) (put-whole-back c s)

---- locks: the record's tests are the lock's
held-lock : (c : ℕ) (l : Lmode) (h : Option ℕ) → 1 ≤ c → ((Node.is_l0 l || Node.is_l1 l) && is_holder c h) ≡ held_by c (lock_of l h)
held-lock c Lmode.Unl h a = refl
held-lock c Lmode.Exp h a = refl
held-lock c Lmode.L0 None a = sym (ne_eqb c 0 (λ e. omega arith))
held-lock c Lmode.L0 (Some d) a = refl
held-lock c Lmode.L1 None a = sym (ne_eqb c 0 (λ e. omega arith))
held-lock c Lmode.L1 (Some d) a = refl

pub held-is : (c : ℕ) (x : Node) → 1 ≤ c → Node.held_by c x ≡ held_by c (lock_in x)
held-is c x a = held-lock c x.lmode x.holder a

l1-lock : (c : ℕ) (l : Lmode) (h : Option ℕ) → (Node.is_l1 l && is_holder c h) ≡ true → lock_of l h ≡ L1 c
l1-lock c Lmode.Unl h e = clash e refl
l1-lock c Lmode.Exp h e = clash e refl
l1-lock c Lmode.L0 h e = clash e refl
l1-lock c Lmode.L1 None e = clash e refl
l1-lock c Lmode.L1 (Some d) e = ap L1 (sym (eqb-true c d e))

pub l1-is : (c : ℕ) (x : Node) → Node.held_at_l1 c x ≡ true → lock_in x ≡ L1 c
l1-is c x e = l1-lock c x.lmode x.holder e

unl-lock : (l : Lmode) (h : Option ℕ) → Node.is_unl l ≡ is_unl (lock_of l h)
unl-lock Lmode.Unl h = refl
unl-lock Lmode.L0 h = refl
unl-lock Lmode.L1 h = refl
unl-lock Lmode.Exp h = refl

pub unl-is : (x : Node) → Node.is_unl x.lmode ≡ is_unl (lock_in x)
unl-is x = unl-lock x.lmode x.holder

l0-lock : (l : Lmode) (h : Option ℕ) → Node.is_l0 l ≡ is_l0 (lock_of l h)
l0-lock Lmode.Unl h = refl
l0-lock Lmode.L0 h = refl
l0-lock Lmode.L1 h = refl
l0-lock Lmode.Exp h = refl

pub l0-is : (x : Node) → Node.is_l0 x.lmode ≡ is_l0 (lock_in x)
l0-is x = l0-lock x.lmode x.holder

locked-lock : (l : Lmode) (h : Option ℕ) → (Node.is_l0 l || Node.is_l1 l) ≡ is_locked (lock_of l h)
locked-lock Lmode.Unl h = refl
locked-lock Lmode.L0 h = refl
locked-lock Lmode.L1 h = refl
locked-lock Lmode.Exp h = refl

pub locked-is : (x : Node) → (Node.is_l0 x.lmode || Node.is_l1 x.lmode) ≡ is_locked (lock_in x)
locked-is x = locked-lock x.lmode x.holder

exp-lock : (l : Lmode) (h : Option ℕ) → Node.is_exp l ≡ is_exp (lock_of l h)
exp-lock Lmode.Unl h = refl
exp-lock Lmode.L0 h = refl
exp-lock Lmode.L1 h = refl
exp-lock Lmode.Exp h = refl

pub exp-is : (x : Node) → Node.is_exp x.lmode ≡ is_exp (lock_in x)
exp-is x = exp-lock x.lmode x.holder
