-- The tests of a read, in order, and what it is answered by them. Assumes nothing.
use mathlib.Core.Path.{◌≡◌, refl, sym, ap, ◌∙◌}
use mathlib.Core.Bool.{Bool, true, false, cond, not, ◌&&◌}
use mathlib.Core.List.{List}
use Prim.Native.Nat.{ℕ, ◌*◌}
use lib.Dec.{eqb}
use Rattle.basics.specs.Lists.{every_of}
use Rattle.basics.proofs.Tests.{and_left, and_right}
use Rattle.blocks.specs.Blocks.{block, block_in}
use Rattle.blocks.proofs.Standing.{block_there}
use Rattle.calls.specs.declared.Answer.{Answer}
use Rattle.calls.specs.declared.Answer.TheVariants as Answers
use Rattle.calls.specs.Answers.{read_as}
use Rattle.limits.proofs.Limits.{range-low, block_in_lem, position-node}
use Rattle.machine.specs.Reading.{read, read_or, rebuilds, spare_fits, refused_mode}
use Rattle.machine.specs.Stripe.{Stripe, Outcome, Shown, answered, refused, guard, node_at, client_at, blocks_fit}
use Rattle.machine.specs.Writing.{wrong_mode}
use Rattle.records.specs.declared.ClientRecord.{ClientRecord}
use Rattle.records.specs.declared.NodeRecord.{NodeRecord}
use Rattle.records.specs.declared.Refusal.TheVariants.{OutOfLimits, OutOfRange}
use Rattle.records.specs.declared.Sizes.{Sizes}
use Rattle.records.specs.declared.Source.TheVariants.{Live, Spare}
use Rattle.records.specs.Client.{has_picked, client_within}
use Rattle.records.specs.Node.{held_at_l1, holder_of, is_free, node_within}
use Rattle.records.specs.Sizes.{sizes_within, is_position}
use Rattle.records.specs.View.{node_of, client_of}
use Rattle.stripe.specs.declared.seen.Seen.{Seen}
use Rattle.stripe.specs.Seen.{Sees}
use Rattle.reading.specs.Reading.{Handed}

module _ {z : Sizes} {i : ℕ} {s : Stripe} {seen : Seen} {node : NodeRecord} {client : ClientRecord} {blocks spare : ℕ}
    (H : Handed z i s seen node client blocks spare) where
  -- who holds node i
  abbrev c : ℕ
  c = holder_of (node_at s.nodes i)

  abbrev live : Outcome Stripe
  live = answered (Shown Live (block z.b i s.blocks)) s

  abbrev kept : Outcome Stripe
  kept = answered (Shown Spare (block z.b i s.spare)) s

  -- the read by what its tests say: within the limits, a position, free, rebuilt, the spare within the limits
  abbrev by : Bool → Bool → Bool → Bool → Bool → Outcome Stripe
  by t p f d e =
      cond (not t) (refused OutOfLimits s)
      (cond (not p) (refused OutOfRange s)
      (cond f live (cond d (cond (not e) (refused OutOfLimits s) kept) (refused_mode i s))))

  read_by : read z i s ≡ by (sizes_within z && (node_within z (node_at s.nodes i) && blocks_fit z s.blocks)) (is_position z i)
      (is_free (node_at s.nodes i)) (rebuilds c s) (spare_fits z c s)
  unfolding guard read read_or
  read_by = refl

  -- as the code tests them
  read-tests : read z i s ≡ by (sizes_within z && (node_within z (node_of node) && eqb blocks (z.n * z.b))) (is_position z i) (is_free (node_of node))
      (has_picked (client_of client).rebuild && every_of (held_at_l1 (holder_of (node_of node))) s.nodes) (spare_fits z (holder_of (node_of node)) s)
  read-tests =
      read_by
      ∙ (λ d. by (sizes_within z && (node_within z (own d) && eqb (sym H.blocks_are d) (z.n * z.b))) (is_position z i) (is_free (own d))
      (has_picked (holder d).rebuild && every_of (held_at_l1 (holder_of (own d))) s.nodes) (spare_fits z (holder_of (own d)) s))
    where
      own : node_at s.nodes i ≡ node_of node
      own = sym H.node_is

      holder : client_at s.clients c ≡ client_of client
      holder = sym (H.client_is ∙ ap (λ x. client_at s.clients (holder_of x)) H.node_is)

  pub outside : (sizes_within z && (node_within z (node_of node) && eqb blocks (z.n * z.b))) ≡ false
      → read_as (Answers.Refused OutOfLimits) z.b i s ≡ read z i s
  outside t = sym (read-tests ∙ rw t)

  module _ (t : (sizes_within z && (node_within z (node_of node) && eqb blocks (z.n * z.b))) ≡ true) where
    within : sizes_within z ≡ true
    within = and_left (sizes_within z) _ t

    pub no-position : is_position z i ≡ false → read_as (Answers.Refused OutOfRange) z.b i s ≡ read z i s
    no-position p = sym (read-tests ∙ rw (t, p))

    module _ (p : is_position z i ≡ true) where
      -- block i of a table with n blocks
      there : (table : List ℕ) → blocks_fit z table ≡ true → block_in z.b i table ≡ block z.b i table
      there table fits =
          let at = position-node z i within p in
          block_there z.b i table (range-low z.n i at) (block_in_lem z.n z.b i table at fits)

      pub shows-live : is_free (node_of node) ≡ true → read_as (Answers.Shown Live) z.b i s ≡ read z i s
      shows-live f =
          let fits : eqb blocks (z.n * z.b) ≡ true = and_right (node_within z (node_of node)) _ (and_right (sizes_within z) _ t) in
          ap (λ v. answered (Shown Live v) s) (there s.blocks (rw (← H.blocks_are) fits)) ∙ sym (read-tests ∙ rw (t, p, f))

      module _ (f : is_free (node_of node) ≡ false) where
        wrong-mode : {a : Answer} → a ≡ Answers.Refused (wrong_mode (node_of node))
            → (has_picked (client_of client).rebuild && every_of (held_at_l1 (holder_of (node_of node))) s.nodes) ≡ false → read_as a z.b i s ≡ read z i s
        wrong-mode q d =
            ap (λ a. read_as a z.b i s) q ∙ ap (λ x. refused (wrong_mode x) s) H.node_is ∙ sym (read-tests ∙ rw (t, p, f, d))

        pub not-picked : {a : Answer} → a ≡ Answers.Refused (wrong_mode (node_of node)) → has_picked (client_of client).rebuild ≡ false
            → read_as a z.b i s ≡ read z i s
        not-picked q d = wrong-mode q (rw d)

        module _ (d : has_picked (client_of client).rebuild ≡ true) where
          sees : Sees z (holder_of (node_of node)) s.nodes seen
          sees = H.seen_is d within

          pub not-tight : {a : Answer} → a ≡ Answers.Refused (wrong_mode (node_of node)) → seen.tight ≡ false → read_as a z.b i s ≡ read z i s
          not-tight q e = wrong-mode q (rw (d, ← sees.tight, e))

          module _ (e : seen.tight ≡ true) where
            -- the tests of the spare as the code makes them
            read-spare : read z i s ≡ cond (not (seen.within && (client_within z (client_of client) && eqb spare (z.n * z.b)))) (refused OutOfLimits s) kept
            read-spare = read-tests ∙ rw (t, p, f, d, ← sees.tight, e, sees.within, H.client_is, H.spare_is)

            pub spare-outside : (seen.within && (client_within z (client_of client) && eqb spare (z.n * z.b))) ≡ false
                → read_as (Answers.Refused OutOfLimits) z.b i s ≡ read z i s
            spare-outside g = sym (read-spare ∙ rw g)

            pub shows-spare : (seen.within && (client_within z (client_of client) && eqb spare (z.n * z.b))) ≡ true
                → read_as (Answers.Shown Spare) z.b i s ≡ read z i s
            shows-spare g =
                let fits : eqb spare (z.n * z.b) ≡ true = and_right (client_within z (client_of client)) _ (and_right seen.within _ g) in
                ap (λ v. answered (Shown Spare v) s) (there s.spare (rw (← H.spare_is) fits)) ∙ sym (read-spare ∙ rw g)
