-- A clipped call is answered and leaves what the call itself does. Assumes nothing.
use mathlib.Core.Path.{◌≡◌, refl, sym, ap, ◌∙◌}
use mathlib.Core.Bool.{Bool, true, false, cond, ◌&&◌, ◌||◌, not}
use mathlib.Core.List.{List, [], ◌∷◌}
use mathlib.Core.Option.{Option, none, some}
use Rattle.std.specs.Prelude.{Option as CodeOption, Some}
use Prim.Native.Nat.{ℕ, zero, suc, ◌≤◌, ◌<◌}
use native.Mathlib.Decide.{dec_le}
use native.Mathlib.Omega.{arith}
use lib.Dec.{eqb, leb, ltb}
use lib.ListN.{length}
use borrow.Author.Tests.{lt-leb, ne_eqb}
use Rattle.records.specs.declared.Sizes.{Sizes}
use Rattle.records.specs.declared.Refusal.{Refusal}
use Rattle.records.specs.declared.Refusal.TheVariants.{OutOfLimits, OutOfRange}
use Rattle.records.specs.Node.{failed_node, node_within}
use Rattle.records.specs.Client.{Client, fresh_client, client_within}
use Rattle.records.specs.Sizes.{sizes_within, is_node, is_position, is_redundant, is_client}
use Rattle.machine.specs.Stripe.{Stripe, Answer, Outcome, refused, guard, Local, Whole, node_at, client_at, at_node, on_node, whole, on_whole, blocks_fit}
use Rattle.basics.specs.Lists.{element_at}
use Rattle.machine.specs.Calls.{Call, Read, Pick, Swap, Fail, Due, Tick, At, By, step}
use Rattle.records.specs.declared.NodeCall.TheVariants.{Add, Check}
use Rattle.records.specs.declared.ClientCall.TheVariants.{Drop, Sweep, Stop, Lock, Weaken, Tighten, Write, Settle, Unlock, Quit}
use Rattle.machine.specs.Reading as Reading
use Rattle.machine.specs.Writing as Writing
use Rattle.machine.specs.Failure as Failure
use Rattle.machine.specs.Aging as Aging
use Rattle.machine.specs.Rebuild as Rebuild
use Rattle.basics.proofs.Lists.{element-past}
use Rattle.machine.proofs.Tests.{swap-out, add-out}
use Rattle.machine.proofs.View.{refused-at, refused-on}
use Rattle.script.specs.Lines.{shelf_line, event_of}
use Rattle.script.specs.Reading.{clip_number, clip_value, clip, clipped}

pub clip-below : (x : ℕ) → x ≤ 255 → clip_number x ≡ x
clip-below x h = omega arith

pub clip-above : (x : ℕ) → 255 < x → clip_number x ≡ 255
clip-above x h = omega arith

pub clip-value : (room : ℕ) (v : List ℕ) → length v ≤ room → clip_value room v ≡ v
unfolding clip_value
clip-value room [] h = refl
clip-value zero (x ∷ v) h = absurd (omega arith)
clip-value (suc room) (x ∷ v) h = ap (λ w. x ∷ w) (clip-value room v (omega arith))

pub clip-long : (room : ℕ) (v : List ℕ) → room < length v → room < length (clip_value room v)
unfolding clip_value
clip-long room [] h = absurd (omega arith)
clip-long zero (x ∷ v) h = omega arith
clip-long (suc room) (x ∷ v) h = let e = clip-long room v (omega arith) in omega arith

element-clip : {A : Type 0} (d : A) (l : List A) (x : ℕ) → length l < 255 → element_at d l (clip_number x) ≡ element_at d l x
element-clip d l x h = by (dec_le x 255)
  where
    by : Dec (x ≤ 255) → element_at d l (clip_number x) ≡ element_at d l x
    by (yes b) = ap (element_at d l) (clip-below x b)
    by (no b) =
        let e : 255 < x = omega arith in
        ap (element_at d l) (clip-above x e) ∙ element-past d l 255 h ∙ sym (element-past d l x (omega arith))

-- a number past the last is in no range
pub and-false : (b : Bool) → (b && false) ≡ false
and-false true = refl
and-false false = refl

past : (low last x : ℕ) → last < x → (leb low x && leb x last) ≡ false
past low last x h = rw (lt-leb x last h) (and-false (leb low x))

redundant-past : (z : Sizes) (x : ℕ) → z.n < x → is_redundant z x ≡ false
redundant-past z x h = rw (lt-leb x z.n h) (and-false (ltb z.k x))

-- a table of records that is far smaller than the clip
pub record Small (z : Sizes) (s : Stripe) : Type 0 where
  pub positions : z.k < 255
  pub nodes : z.n < 255
  pub clients : z.m < 255
  pub node_records : length s.nodes < 255
  pub client_records : length s.clients < 255

-- which call it is and its event do not go by what is clipped
pub clip-shelf : (room : ℕ) (x : Option Call) → shelf_line (clipped room x) ≡ clipped room (shelf_line x)
clip-shelf room none = refl
clip-shelf room (some (Read i)) = refl
clip-shelf room (some (Pick c)) = refl
clip-shelf room (some (Swap c i value)) = refl
clip-shelf room (some (Fail j value)) = refl
clip-shelf room (some (Due j)) = refl
clip-shelf room (some Tick) = refl
clip-shelf room (some (At op c j)) = refl
clip-shelf room (some (By op c)) = refl

pub clip-event : (room : ℕ) (x : Call) (a : Answer) → event_of (clip room x) a ≡ event_of x a
clip-event room (Read i) a = refl
clip-event room (Pick c) a = refl
clip-event room (Swap c i value) a = refl
clip-event room (Fail j value) a = refl
clip-event room (Due j) a = refl
clip-event room Tick a = refl
clip-event room (At op c j) a = refl
clip-event room (By op c) a = refl

-- refused with 1 or 2
unfoldable denied : {S : Type 0} → Bool → S → Outcome S
denied test s = cond test (refused OutOfLimits s) (refused OutOfRange s)

module _ (z : Sizes) (s : Stripe) where
  -- a call at one node, or on the whole stripe, that is denied
  denied-at : (j c : ℕ) (call : Local → Outcome Local) (test : Bool) → call (at_node j c s) ≡ denied test (at_node j c s) → on_node j c call s ≡ denied test s
  unfolding denied
  denied-at j c call true e = refused-at s OutOfLimits j c call e
  denied-at j c call false e = refused-at s OutOfRange j c call e

  denied-on : (c : ℕ) (call : Whole → Outcome Whole) (test : Bool) → call (whole c s) ≡ denied test (whole c s) → on_whole c call s ≡ denied test s
  unfolding denied
  denied-on c call true e = refused-on s OutOfLimits c call e
  denied-on c call false e = refused-on s OutOfRange c call e

  -- the two first tests of every call, the second not passed
  first-tests : {S : Type 0} (test range : Bool) (s : S) (rest : Outcome S) → range ≡ false
      → guard test OutOfLimits s (guard (not range) OutOfRange s rest) ≡ denied test s
  unfolding guard denied
  first-tests true range s rest e = refl
  first-tests false range s rest e = rw e

  -- of a swap and an add, whose tests past the first are a chain
  first-chain : (test : Bool) (tests : CodeOption Refusal) (l : Local) (effect : Outcome Local) → tests ≡ Some OutOfRange
      → guard test OutOfLimits l (Writing.unless tests l effect) ≡ denied test l
  unfolding guard denied
  first-chain true tests l effect e = refl
  first-chain false tests l effect e = rw e

  module _ (small : Small z s) where
    at-clip : (j c : ℕ) → at_node (clip_number j) (clip_number c) s ≡ at_node j c s
    at-clip j c =
        λ i. record {
          node = element-clip failed_node s.nodes j small.node_records i;
          client = element-clip fresh_client s.clients c small.client_records i;
          blocks = s.blocks;
          differences = s.differences;
        }

    whole-clip : (c : ℕ) → whole (clip_number c) s ≡ whole c s
    whole-clip c =
        λ i. record { nodes = s.nodes; client = element-clip fresh_client s.clients c small.client_records i; blocks = s.blocks; spare = s.spare }

    no-client : (c : ℕ) → 255 ≤ c → is_client z c ≡ false
    no-client c h = past 1 z.m c (omega (arith, small.clients))

    no_node : (j : ℕ) → 255 ≤ j → is_node z j ≡ false
    no_node j h = past 1 z.n j (omega (arith, small.nodes))

    no-position : (i : ℕ) → 255 ≤ i → is_position z i ≡ false
    no-position i h = past 1 z.k i (omega (arith, small.positions))

    no-redundant : (j : ℕ) → 255 ≤ j → is_redundant z j ≡ false
    no-redundant j h = redundant-past z j (omega (arith, small.nodes))

    -- a call on the whole stripe
    on-clip : (call : ℕ → Whole → Outcome Whole) (test : Whole → Bool)
        → ((c : ℕ) (w : Whole) → is_client z c ≡ false → call c w ≡ denied (test w) w)
        → (c : ℕ) → on_whole (clip_number c) (call (clip_number c)) s ≡ on_whole c (call c) s
    on-clip call test out c = by (dec_le c 255)
      where
        at : (c : ℕ) → 255 ≤ c → on_whole c (call c) s ≡ denied (test (whole c s)) s
        at c h = denied-on c (call c) (test (whole c s)) (out c (whole c s) (no-client c h))

        by : Dec (c ≤ 255) → on_whole (clip_number c) (call (clip_number c)) s ≡ on_whole c (call c) s
        by (yes b) = ap (λ x. on_whole x (call x) s) (clip-below c b)
        by (no b) =
            let e : 255 < c = omega arith in
            at (clip_number c) (omega (arith, clip-above c e)) ∙ ap (λ w. denied (test w) s) (whole-clip c) ∙ sym (at c (omega arith))

    -- a call at one node: the numbers are the same, or they are out of range
    at_out : (call : ℕ → ℕ → Local → Outcome Local) (test : Local → Bool) (range : ℕ → ℕ → Bool)
        → ((c j : ℕ) (l : Local) → range c j ≡ false → call c j l ≡ denied (test l) l)
        → (c j at c' j' at' : ℕ) → at_node at' c' s ≡ at_node at c s → range c' j' ≡ false → range c j ≡ false
        → on_node at' c' (call c' j') s ≡ on_node at c (call c j) s
    at_out call test range out c j at c' j' at' e p q =
        denied-at at' c' (call c' j') (test (at_node at' c' s)) (out c' j' (at_node at' c' s) p)
        ∙ ap (λ l. denied (test l) s) e
        ∙ sym (denied-at at c (call c j) (test (at_node at c s)) (out c j (at_node at c s) q))

    -- a call by a client and a node
    at_both : (call : ℕ → ℕ → Local → Outcome Local) (test : Local → Bool) (range : ℕ → Bool)
        → ((c j : ℕ) (l : Local) → (is_client z c && range j) ≡ false → call c j l ≡ denied (test l) l)
        → ((j : ℕ) → 255 ≤ j → range j ≡ false)
        → (c j : ℕ) → on_node (clip_number j) (clip_number c) (call (clip_number c) (clip_number j)) s ≡ on_node j c (call c j) s
    at_both call test range out far c j = by (dec_le c 255) (dec_le j 255)
      where
        no-c : (c j : ℕ) → 255 ≤ c → (is_client z c && range j) ≡ false
        no-c c j h = rw (no-client c h)

        no-j : (c j : ℕ) → 255 ≤ j → (is_client z c && range j) ≡ false
        no-j c j h = rw (far j h) (and-false (is_client z c))

        both_out : (is_client z (clip_number c) && range (clip_number j)) ≡ false → (is_client z c && range j) ≡ false
            → on_node (clip_number j) (clip_number c) (call (clip_number c) (clip_number j)) s ≡ on_node j c (call c j) s
        both_out p q =
            at_out call test (λ c j. is_client z c && range j) out c j j (clip_number c) (clip_number j) (clip_number j) (at-clip j c) p q

        by : Dec (c ≤ 255) → Dec (j ≤ 255) → on_node (clip_number j) (clip_number c) (call (clip_number c) (clip_number j)) s ≡ on_node j c (call c j) s
        by (yes a) (yes b) = rw (clip-below c a, clip-below j b)
        by (no a) b =
            let e : 255 < c = omega arith in
            both_out (no-c (clip_number c) (clip_number j) (omega (arith, clip-above c e))) (no-c c j (omega arith))
        by (yes a) (no b) =
            let e : 255 < j = omega arith in
            both_out (no-j (clip_number c) (clip_number j) (omega (arith, clip-above j e))) (no-j c j (omega arith))

    -- a call by a node alone
    at-node : (call : ℕ → Local → Outcome Local) (test : Local → Bool) (range : ℕ → Bool)
        → ((j : ℕ) (l : Local) → range j ≡ false → call j l ≡ denied (test l) l)
        → ((j : ℕ) → 255 ≤ j → range j ≡ false)
        → (j : ℕ) → on_node (clip_number j) 0 (call (clip_number j)) s ≡ on_node j 0 (call j) s
    at-node call test range out far j = by (dec_le j 255)
      where
        by : Dec (j ≤ 255) → on_node (clip_number j) 0 (call (clip_number j)) s ≡ on_node j 0 (call j) s
        by (yes b) = rw (clip-below j b)
        by (no b) =
            let e : 255 < j = omega arith in
            at_out (λ c j. call j) test (λ c j. range j) (λ c j. out j) 0 j j 0 (clip_number j) (clip_number j) (at-clip j 0)
            (far (clip_number j) (omega (arith, clip-above j e))) (far j (omega arith))

    -- a call by a client alone, at a node that goes by the client's record
    at-client : (node : Client → ℕ) (call : ℕ → Local → Outcome Local) (test : Local → Bool)
        → ((c : ℕ) (l : Local) → is_client z c ≡ false → call c l ≡ denied (test l) l)
        → (c : ℕ) → on_node (node (client_at s.clients (clip_number c))) (clip_number c) (call (clip_number c)) s ≡ on_node (node (client_at s.clients c)) c (call c) s
    at-client node call test out c = by (dec_le c 255)
      where
        there : client_at s.clients (clip_number c) ≡ client_at s.clients c
        there = element-clip fresh_client s.clients c small.client_records

        by : Dec (c ≤ 255)
            → on_node (node (client_at s.clients (clip_number c))) (clip_number c) (call (clip_number c)) s ≡ on_node (node (client_at s.clients c)) c (call c) s
        by (yes b) = rw (clip-below c b)
        by (no b) =
            let e : 255 < c = omega arith in
            at_out (λ c j. call c) test (λ c j. is_client z c) (λ c j. out c) c 0 (node (client_at s.clients c)) (clip_number c) 0 (node (client_at s.clients (clip_number c)))
            (ap (λ x. record { node = node_at s.nodes (node x); client = x; blocks = s.blocks; differences = s.differences }) there)
            (no-client (clip_number c) (omega (arith, clip-above c e))) (no-client c (omega arith))

    -- a value that is too long is refused with 1, clipped or not
    value-clip : (f : List ℕ → Outcome Stripe) (room : ℕ) → z.b ≤ room
        → ((v : List ℕ) → eqb (length v) z.b ≡ false → f v ≡ denied true s)
        → (v : List ℕ) → f (clip_value room v) ≡ f v
    value-clip f room fits long v = by (dec_le (length v) room)
      where
        by : Dec (length v ≤ room) → f (clip_value room v) ≡ f v
        by (yes b) = ap f (clip-value room v b)
        by (no b) =
            let e : room < length v = omega arith in
            long (clip_value room v) (ne_eqb (length (clip_value room v)) z.b (λ q. omega (arith, clip-long room v e)))
            ∙ sym (long v (ne_eqb (length v) z.b (λ q. omega arith)))

    swap-long : (c i : ℕ) (v : List ℕ) (l : Local) → eqb (length v) z.b ≡ false → Writing.swap z c i v l ≡ denied true l
    unfolding Writing.swap guard denied
    swap-long c i v l e =
        rw (e, and-false (Writing.tables_fit z l), and-false (Writing.records_fit z l), and-false (sizes_within z))

    fail-long : (j : ℕ) (v : List ℕ) (l : Local) → eqb (length v) z.b ≡ false → Failure.fail z j v l ≡ denied true l
    unfolding Failure.fail guard denied
    fail-long j v l e = rw (e, and-false (blocks_fit z l.blocks), and-false (sizes_within z))

    abbrev tables : Whole → Bool
    tables w = Rebuild.out_of_limits z w || not (blocks_fit z w.blocks && blocks_fit z w.spare)

    -- a read of a position that is not there is denied
    read_out : (i : ℕ) → is_position z i ≡ false
        → Reading.read z i s ≡ denied (not (sizes_within z && (node_within z (node_at s.nodes i) && blocks_fit z s.blocks))) s
    unfolding Reading.read Reading.read_or
    read_out i e = first-tests _ _ s _ e

    read-clip : (i : ℕ) → Reading.read z (clip_number i) s ≡ Reading.read z i s
    read-clip i = by (dec_le i 255)
      where
        there : node_at s.nodes (clip_number i) ≡ node_at s.nodes i
        there = element-clip failed_node s.nodes i small.node_records

        by : Dec (i ≤ 255) → Reading.read z (clip_number i) s ≡ Reading.read z i s
        by (yes b) = rw (clip-below i b)
        by (no b) =
            let e : 255 < i = omega arith in
            read_out (clip_number i) (no-position (clip_number i) (omega (arith, clip-above i e)))
            ∙ ap (λ x. denied (not (sizes_within z && (node_within z x && blocks_fit z s.blocks))) s) there
            ∙ sym (read_out i (no-position i (omega arith)))

    pub clip-call : (room : ℕ) → z.b ≤ room → (x : Call) → step z (clip room x) s ≡ step z x s
    unfolding step Writing.swap Writing.add Writing.check Writing.drop Writing.sweep Failure.fail Failure.stop Aging.due Rebuild.lock Rebuild.pick Rebuild.weaken Rebuild.tighten Rebuild.write Rebuild.settle Rebuild.unlock Rebuild.quit
    clip-call room fits (Read i) = read-clip i
    clip-call room fits (Swap c i v) =
        value-clip (λ v. step z (Swap (clip_number c) (clip_number i) v) s) room fits
        (λ v e. denied-at (clip_number i) (clip_number c) (Writing.swap z (clip_number c) (clip_number i) v) true (swap-long (clip_number c) (clip_number i) v (at_node (clip_number i) (clip_number c) s) e)) v
        ∙ at_both (λ c i. Writing.swap z c i v) (λ l. not (sizes_within z && (Writing.records_fit z l && (Writing.tables_fit z l && eqb (length v) z.b)))) (is_position z)
        (λ c i l e. first-chain _ (Writing.swap_tests z c i l.node l.client) l _ (swap-out z c i l.node l.client e)) no-position c i
    clip-call room fits (At Add c j) = at_both (Writing.add z) (λ l. not (sizes_within z && (Writing.records_fit z l && Writing.tables_fit z l))) (is_redundant z) (λ c j l e. first-chain _ (Writing.add_tests z c j l.node l.client) l _ (add-out z c j l.node l.client e)) no-redundant c j
    clip-call room fits (At Check c j) = at_both (Writing.check z) (λ l. not (sizes_within z && Writing.records_fit z l)) (is_node z) (λ c j l e. first-tests _ _ l _ e) no_node c j
    clip-call room fits (By Drop c) = at-client (λ x. 0) (Writing.drop z) (λ l. not (sizes_within z && client_within z l.client)) (λ c l e. first-tests _ _ l _ e) c
    clip-call room fits (By Sweep c) = at-client (Writing.sweep_node z) (Writing.sweep z) (λ l. not (sizes_within z && Writing.records_fit z l)) (λ c l e. first-tests _ _ l _ e) c
    clip-call room fits (By Stop c) = on-clip (Failure.stop z) (Rebuild.out_of_limits z) (λ c w e. first-tests _ _ w _ e) c
    clip-call room fits (Fail j v) =
        value-clip (λ v. step z (Fail (clip_number j) v) s) room fits (λ v e. denied-at (clip_number j) 0 (Failure.fail z (clip_number j) v) true (fail-long (clip_number j) v (at_node (clip_number j) 0 s) e)) v
        ∙ at-node (λ j. Failure.fail z j v) (λ l. not (sizes_within z && (blocks_fit z l.blocks && eqb (length v) z.b))) (is_node z) (λ j l e. first-tests _ _ l _ e) no_node j
    clip-call room fits (Due j) = at-node (Aging.due z) (λ l. not (sizes_within z && node_within z l.node)) (is_node z) (λ j l e. first-tests _ _ l _ e) no_node j
    clip-call room fits Tick = refl
    clip-call room fits (By Lock c) = on-clip (Rebuild.lock z) (Rebuild.out_of_limits z) (λ c w e. first-tests _ _ w _ e) c
    clip-call room fits (Pick c) = on-clip (Rebuild.pick z) tables (λ c w e. first-tests _ _ w _ e) c
    clip-call room fits (By Weaken c) = on-clip (Rebuild.weaken z) (Rebuild.out_of_limits z) (λ c w e. first-tests _ _ w _ e) c
    clip-call room fits (By Tighten c) = on-clip (Rebuild.tighten z) (Rebuild.out_of_limits z) (λ c w e. first-tests _ _ w _ e) c
    clip-call room fits (By Write c) = on-clip (Rebuild.write z) tables (λ c w e. first-tests _ _ w _ e) c
    clip-call room fits (By Settle c) = on-clip (Rebuild.settle z) (Rebuild.out_of_limits z) (λ c w e. first-tests _ _ w _ e) c
    clip-call room fits (By Unlock c) = on-clip (Rebuild.unlock z) (Rebuild.out_of_limits z) (λ c w e. first-tests _ _ w _ e) c
    clip-call room fits (By Quit c) = on-clip (Rebuild.quit z) (Rebuild.out_of_limits z) (λ c w e. first-tests _ _ w _ e) c
