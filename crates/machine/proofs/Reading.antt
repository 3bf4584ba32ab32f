-- Change request C-15: what specs/Reading states of reads, proved.
--     reads-spare        where a client that rebuilds holds all nodes, document 01's read is answered 4, and a read shows block i of the spare
--     reads-as-before    everywhere else a read is document 01's
--     shown-ind          the cases of a read: it is refused, shows a live block, or shows the spare's
--     read-leaves        in each it leaves the stripe as it is
-- Assumes nothing.
use Rattle.std.specs.Prelude.{Option, None, Some, unwrap_or}
use mathlib.Core.Path.{◌≡◌, refl, sym}
use mathlib.Core.Logic.{◌⊎◌, inl, inr}
use mathlib.Core.Bool.{Bool, true, false, cond, ◌&&◌, not}
use Prim.Native.Nat.{ℕ}
use native.Mathlib.Omega.{arith}
use lib.Dec.{eqb, leb}
use lib.ListN.{length}
use borrow.Author.Tests.{leb-true, eqb-true, not-false}
use Rattle.basics.specs.Lists.{element_at, every_of}
use Rattle.basics.proofs.Lists.{every-at}
use Rattle.basics.proofs.Tests.{clash, is_false, and_both, and_right, cond_ind}
use Rattle.blocks.specs.Blocks.{block}
use Rattle.records.specs.declared.Sizes.{Sizes}
use Rattle.records.specs.declared.Source.TheVariants.{Live, Spare}
use Rattle.records.specs.declared.Refusal.{Refusal}
use Rattle.records.specs.declared.Refusal.TheVariants.{OutOfLimits, OutOfRange}
use Rattle.records.specs.declared.Lmode.{Lmode}
use Rattle.records.specs.declared.Lmode.TheVariants.{Unl, L0, L1, Exp}
use Rattle.records.specs.Sizes.{sizes_within, is_client, is_position}
use Rattle.records.specs.Node.{Node, failed_node, is_norm, is_unl, is_l1, is_holder, is_free, held_at_l1, holder_of, holder_within, node_within}
use Rattle.machine.specs.Stripe.{Stripe, Outcome, Shown, answered, refused, guard, number, node_at, blocks_fit, nodes_fit}
use Rattle.machine.specs.Reading.{read_or, refused_mode, rebuilds, spare_fits, read_spare, read, Rebuilding, ReadsAsBefore, ReadsSpare}
use Rattle.machine.proofs.CodeLaws.{sizes}

---- where a client rebuilds
-- a node at L1 is not UNL, and its holder is who holds it
l1-unl : (l : Lmode) → is_l1 l ≡ true → is_unl l ≡ false
l1-unl Unl e = clash e refl
l1-unl L0 e = clash e refl
l1-unl L1 e = refl
l1-unl Exp e = clash e refl

is-holder : (c : ℕ) (h : Option ℕ) → is_holder c h ≡ true → unwrap_or h 0 ≡ c
is-holder c None e = clash e refl
is-holder c (Some d) e = sym (eqb-true c d e)

holds-all : (c : ℕ) (s : Stripe) → rebuilds c s ≡ true → every_of (held_at_l1 c) s.nodes ≡ true
holds-all c s e = search and_right

pub reads-spare : ReadsSpare
unfolding read read_or guard
reads-spare z i c s within position fit spare R =
    record {
      before = rw (within, node-within, fit, position, not_free);
      now = rw (within, node-within, fit, position, not_free, is_c, R.holds, spare);
    }
  where
    x : Node
    x = node_at s.nodes i

    nodes-fit : (eqb (length s.nodes) z.n ≡ true) × (every_of (node_within z) s.nodes ≡ true)
    nodes-fit = and_both (eqb (length s.nodes) z.n) (every_of (node_within z) s.nodes) (and_both (nodes_fit z s.nodes) _ spare).0

    -- what every node is, node i is
    at-node : (p : Node → Bool) → every_of p s.nodes ≡ true → p x ≡ true
    at-node p every =
        let (low, high) = and_both (leb 1 i) (leb i z.k) position in
        every-at failed_node p s.nodes every i (leb-true 1 i low)
        (omega (arith, leb-true i z.k high, eqb-true (length s.nodes) z.n nodes-fit.0, sizes z within))

    node-within : node_within z x ≡ true
    node-within = at-node (node_within z) nodes-fit.1

    held : (is_l1 x.lmode ≡ true) × (is_holder c x.holder ≡ true)
    held = and_both (is_l1 x.lmode) (is_holder c x.holder) (at-node (held_at_l1 c) (holds-all c s R.holds))

    not_free : is_free x ≡ false
    not_free = is_false (is_free x) (λ t. clash (and_both (is_norm x.opmode) (is_unl x.lmode) t).1 (l1-unl x.lmode held.0))

    is_c : holder_of x ≡ c
    is_c = is-holder c x.holder held.1

---- the cases of a read
module _ (z : Sizes) (i : ℕ) (s : Stripe) where
  abbrev node : Node
  node = node_at s.nodes i

  abbrev holder : ℕ
  holder = holder_of node

  abbrev shows-live : Outcome Stripe
  shows-live = answered (Shown Live (block z.b i s.blocks)) s

  abbrev shows-spare : Outcome Stripe
  shows-spare = answered (Shown Spare (block z.b i s.spare)) s

  -- as a function of what it is where the needs on modes are not met
  read-ind : (P : (Outcome Stripe → Outcome Stripe) → Type 0) → ((why : Refusal) → P (λ locked. refused why s)) →
      (is_position z i ≡ true → is_free node ≡ true → P (λ locked. shows-live)) → (is_position z i ≡ true → node_within z node ≡ true → P (λ locked. locked)) →
      P (λ locked. read_or locked z i s)
  unfolding read_or guard
  read-ind P refusal live other = go (not fits) (not (is_position z i)) (is_free node) refl refl refl
    where
      fits : Bool
      fits = sizes_within z && (node_within z node && blocks_fit z s.blocks)

      go : (a b c : Bool) → not fits ≡ a → not (is_position z i) ≡ b → is_free node ≡ c →
          P (λ locked. guard a OutOfLimits s (guard b OutOfRange s (cond c shows-live locked)))
      go true b c out e free = refusal OutOfLimits
      go false true c out e free = refusal OutOfRange
      go false false true out e free = live (not-false (is_position z i) e) free
      go false false false out e free =
          let (within, fit) = and_both (node_within z node) (blocks_fit z s.blocks) (and_both (sizes_within z) _ (not-false fits out)).1 in
          other (not-false (is_position z i) e) within

  pub shown-ind : (P : Outcome Stripe → Type 0) → ((why : Refusal) → P (refused why s)) →
      (is_position z i ≡ true → is_free node ≡ true → P shows-live) → (is_position z i ≡ true → rebuilds holder s ≡ true → P shows-spare) → P (read z i s)
  unfolding read guard
  shown-ind P refusal live spare =
      read-ind (λ reads. P (reads (cond (rebuilds holder s) (read_spare z holder i s) (refused_mode i s)))) refusal live
      (λ position within. cond_ind P (rebuilds holder s) _ _
      (λ e. cond_ind P (not (spare_fits z holder s)) _ _ (λ out. refusal OutOfLimits) (λ fit. spare position e)) (λ e. refusal _))

  pub read-leaves : (read z i s).after ≡ s
  read-leaves = shown-ind (λ o. o.after ≡ s) (λ why. refl) (λ position free. refl) (λ position e. refl)

---- where none does
-- who rebuilds and holds a node within the limits is one of the clients
holder-client : (z : Sizes) (s : Stripe) (l : Lmode) (h : Option ℕ) → holder_within z l h ≡ true → rebuilds (unwrap_or h 0) s ≡ true →
    is_client z (unwrap_or h 0) ≡ true
unfolding element_at
holder-client z s l None within e = clash e refl
holder-client z s Unl (Some c) within e = clash within refl
holder-client z s L0 (Some c) within e = within
holder-client z s L1 (Some c) within e = within
holder-client z s Exp (Some c) within e = clash within refl

pub reads-as-before : ReadsAsBefore
unfolding read node_within
reads-as-before z i s =
    read-ind z i s (λ reads. (reads mine ≡ reads mode) ⊎ ((number (reads mode).answer ≡ 4) × ((c : ℕ) × Rebuilding z s c)))
    (λ why. inl refl) (λ position free. inl refl) (λ position within. go (rebuilds c s) refl (and_both (holder_within z x.lmode x.holder) _ within).0)
  where
    x : Node
    x = node_at s.nodes i

    c : ℕ
    c = holder_of x

    mode : Outcome Stripe
    mode = refused_mode i s

    mine : Outcome Stripe
    mine = cond (rebuilds c s) (read_spare z c i s) mode

    go : (b : Bool) → rebuilds c s ≡ b → holder_within z x.lmode x.holder ≡ true →
        (cond b (read_spare z c i s) mode ≡ mode) ⊎ ((number mode.answer ≡ 4) × ((c : ℕ) × Rebuilding z s c))
    go true e within = inr (refl, (c, record { client = holder-client z s x.lmode x.holder within e; holds = e }))
    go false e within = inl refl
