-- The history of specs/History, kept by lists, and the ledger, kept by counts, tell the same.
--     Told                         what the ledger tells of the history
--     told-start, told_more        it holds before all calls, and one call more keeps it
--     finish-is                    what finishes a rebuild by the history does so by the ledger
--     first_part, rebuilt-well,
--     last-values                  what is proved of the ledger holds of the history
-- Assumes nothing.
use Rattle.std.specs.Prelude.{Option, None, Some}
use mathlib.Core.Path.{◌≡◌, refl, sym, ap, subst, ◌∙◌}
use mathlib.Core.Logic.{◌≢◌, ◌⊎◌, inl, inr}
use mathlib.Core.Bool.{Bool, true, false, cond, ◌||◌, or_assoc}
use mathlib.Core.List.{List, [], ◌∷◌, ◌++◌, append-nil}
use Prim.Native.Nat.{ℕ, zero, suc, ◌*◌, ◌≤◌, ◌<◌}
use native.Mathlib.Decide.{dec_le}
use native.Mathlib.Omega.{arith}
use lib.Dec.{eqb}
use lib.ListN.{length, get_or, take, length-append, length-replicate, get_or-append}
use lib.Seq.{take_all, take-length, take-nil, take-append-le, get_or-append_seam}
use borrow.Author.Tests.{eqb-true, eq-eqb, ne_eqb}
use Rattle.blocks.specs.Blocks.{block, Bytes}
use Rattle.records.specs.declared.Sizes.{Sizes}
use Rattle.records.specs.Sizes.{sizes_within}
use Rattle.basics.specs.Lists.{element_at}
use Rattle.machine.specs.History.{Event, Kind, SwapInto, AddBy, PickBy, SettleBy, Failure, Other, accepted, kind, happened, is_done, count_settle, settles, nodes_at, sizes_at, finishes_by, finishes, given, Written, write_at, write_by, gathered, swaps_at, last_swap, if_at, report_by, reported_at, is_failure, failed_since, is_among, last_value}
use Rattle.machine.specs.Guarantee.{FirstPart, RebuiltWell, LastValues}
use Rattle.machine.specs.Guarantee as Guarantee
use Rattle.basics.proofs.Tests.{clash, or-one, or-false, or_left, or_right, each-place, cond_ind}
use Rattle.basics.proofs.Updates.{upd, upd_same, upd_other, upd-ind}
use Rattle.machine.proofs.Ledger.{upd2, Swapped, Ledger, Report, Quiet, note_swap, note_done, note_count, note_finish, is_last, note_settle, note, no_ledger, IsPart, Rebuilt, Steady, AllDone}
use Rattle.machine.proofs.Frame.{upd2-same, upd2-ind}
use Rattle.machine.proofs.Bytes.{Block, view, block_of, ops}
use Rattle.machine.proofs.Kept.{entered_as, entry}
use Rattle.machine.proofs.Tables.{view-injective, block_view, length-block, bytes-block, bytes-zeroes, zeroes, zero-blocks}
use Rattle.machine.proofs.CodeLaws.{sizes, codeword-of}

---- lists of writes

-- what stands outside a list of writes
abbrev no_write : Written
no_write = record { position = 0; value = []; place = 0 }

-- the lth of these writes, l from 1, was made at this place in the list of calls
record IsNth (ws : List Written) (l place : ℕ) : Type 0 where
  low : 1 ≤ l
  high : l ≤ length ws
  is : (element_at no_write ws l).place ≡ place

---- with one write more

length-one-more : (ws : List Written) (w : Written) → length (ws ++ (w ∷ [])) ≡ suc (length ws)
length-one-more ws w = length-append ws (w ∷ []) ∙ omega arith

element-append : (ws vs : List Written) (l : ℕ) → l ≤ length ws → element_at no_write (ws ++ vs) l ≡ element_at no_write ws l
unfolding element_at
element-append ws vs zero h = refl
element-append ws vs (suc l) h = get_or-append ws vs no_write l h

nth-append : (ws vs : List Written) (l p : ℕ) → IsNth ws l p → IsNth (ws ++ vs) l p
nth-append ws vs l p i =
    record { low = i.low; high = rw (length-append ws vs) (omega arith); is = rw (element-append ws vs l i.high) i.is }

-- the new one; and any one is of before or the new one
nth-new : (ws : List Written) (w : Written) → IsNth (ws ++ (w ∷ [])) (suc (length ws)) w.place
unfolding element_at
nth-new ws w =
    record { low = omega arith; high = rw (length-one-more ws w) (omega arith); is = ap (λ (x : Written). x.place) (get_or-append_seam ws w [] no_write) }

abbrev OldOrNew : List Written → Written → ℕ → ℕ → Type 0
OldOrNew ws w l p = IsNth ws l p ⊎ ((l ≡ suc (length ws)) × (p ≡ w.place))

nth-cases : (ws : List Written) (w : Written) (l p : ℕ) → IsNth (ws ++ (w ∷ [])) l p → OldOrNew ws w l p
nth-cases ws w l p i = by (dec_le l (length ws))
  where
    by : Dec (l ≤ length ws) → OldOrNew ws w l p
    by (yes h) = inl (record { low = i.low; high = h; is = rw (← element-append ws (w ∷ []) l h) i.is })
    by (no out) =
        let e : l ≡ suc (length ws) = omega (arith, length-one-more ws w) in
        inr (e, sym i.is ∙ rw e (nth-new ws w).is)

last-new : (before : List ℕ) (ws : List Written) (w : Written) → last_value before (ws ++ (w ∷ [])) ≡ w.value
unfolding last_value
last-new before [] w = refl
last-new before (x ∷ ws) w = last-new x.value ws w

---- among which a write is

-- the lth is among the first m, if l is at most m
nth-among : (ws : List Written) (l m : ℕ) (w : Written) → IsNth ws l w.place → l ≤ m → is_among w (take m ws) ≡ true
unfolding element_at is_among
nth-among ws zero m w i h = absurd (omega arith)
nth-among ws (suc l) m w i h = go ws l m i.high h i.is
  where
    go : (ws : List Written) (l m : ℕ) → l < length ws → l < m → (get_or ws l no_write).place ≡ w.place → is_among w (take m ws) ≡ true
    go ws l zero a h e = absurd (omega arith)
    go [] l (suc m) a h e = absurd (omega arith)
    go (x ∷ ws) zero (suc m) a h e = or_left (eqb w.place x.place) (is_among w (take m ws)) (eq-eqb w.place x.place (sym e))
    go (x ∷ ws) (suc l) (suc m) a h e = or_right (eqb w.place x.place) (is_among w (take m ws)) (go ws l m (omega arith) (omega arith) e)

pub among-append : (ws vs : List Written) (w : Written) → is_among w (ws ++ vs) ≡ (is_among w ws || is_among w vs)
unfolding is_among
among-append [] vs w = refl
among-append (x ∷ ws) vs w = rw (is_among, among-append ws vs w) (sym (or_assoc (eqb w.place x.place) (is_among w ws) (is_among w vs)))

-- a write that is the client's last swap w, where w is at i
among-if : (i : ℕ) (w v : Written) → is_among v (if_at i (Some w)) ≡ true → (i ≡ w.position) × (v.place ≡ w.place)
unfolding is_among
among-if i w v = go (eqb i w.position) refl
  where
    go : (t : Bool) → eqb i w.position ≡ t → is_among v (cond t (w ∷ []) []) ≡ true → (i ≡ w.position) × (v.place ≡ w.place)
    go true e a = (eqb-true i w.position e, eqb-true v.place w.place (sym (or-false (eqb v.place w.place)) ∙ a))
    go false e a = clash a refl

---- places

-- all were made before place p, no two at one place
record Places (p : ℕ) (ws : List Written) : Type 0 where
  below : (l q : ℕ) → IsNth ws l q → q < p
  own : (l m q : ℕ) → IsNth ws l q → IsNth ws m q → l ≡ m

no-places : (p : ℕ) → Places p []
no-places p = record { below = λ l q i. absurd (nothing i); own = λ l m q i j. absurd (nothing i) }
  where
    nothing : {l q : ℕ} → IsNth [] l q → ⊥
    nothing i = omega (arith, i.low, i.high)

later-places : (p : ℕ) (ws : List Written) → Places p ws → Places (suc p) ws
later-places p ws P = record { below = λ l q i. omega (arith, P.below l q i); own = P.own }

more-places : (p : ℕ) (ws : List Written) (w : Written) → w.place ≡ p → Places p ws → Places (suc p) (ws ++ (w ∷ []))
more-places p ws w e P =
    record { below = λ l q i. below l q (nth-cases ws w l q i); own = λ l m q i j. own l m q (nth-cases ws w l q i) (nth-cases ws w m q j) }
  where
    below : (l q : ℕ) → OldOrNew ws w l q → q < suc p
    below l q (inl i) = omega (arith, P.below l q i)
    below l q (inr new) = omega (arith, new.1)

    own : (l m q : ℕ) → OldOrNew ws w l q → OldOrNew ws w m q → l ≡ m
    own l m q (inl i) (inl j) = P.own l m q i j
    own l m q (inl i) (inr new) = absurd (omega (arith, P.below l q i, new.1))
    own l m q (inr new) (inl j) = absurd (omega (arith, P.below m q j, new.1))
    own l m q (inr new) (inr new') = new.0 ∙ sym new'.0

---- what the ledger tells

no_last : {A : Type 0} (s : Swapped) → ◌≡◌ {A = Option Swapped} None (Some s) → A
no_last s q = let x : ◌≡◌ {A = ℕ} 0 1 = cc in absurd (omega arith)

-- the call is a client's accepted settle, its last by the ledger, where the sizes are z
pub record Finishes (z : Sizes) (h : Ledger Block) (e : Event) : Type 0 where
  pub client : ℕ
  pub settle : kind e.call ≡ SettleBy client
  pub is_accepted : accepted e ≡ true
  pub is-last : is_last (ops z) (h.settles client) ≡ true

module _ (z : Sizes) where
  open z use {k, n, b}

  -- x is the block of the bytes v
  record IsValue (x : Block) (v : List ℕ) : Type 0 where
    long : length v ≡ b
    bytes : Bytes v
    seen : x ≡ view b v

  -- of the swaps ws at i, made before place p since the table g was given: their count, and the value after each
  record ToldSwaps (i p : ℕ) (g : List ℕ) (ws : List Written) (len : ℕ) (val : ℕ → Block) : Type 0 where
    count : len ≡ length ws
    value : 1 ≤ i → i ≤ k → (l : ℕ) → l ≤ len → IsValue (val l) (last_value (block b i g) (take l ws))
    places : Places p ws

  -- of a client's last swap: it is s, one of the swaps ws at its position
  record ToldLast (last : Option Written) (ws : List Written) (s : Swapped) : Type 0 where
    swap : Written
    is : last ≡ Some swap
    position : swap.position ≡ s.pos
    nth : IsNth ws s.place swap.place

  -- of a write reported done: it is one of the swaps ws, and marked
  record ToldDone (done : ℕ → Bool) (ws : List Written) (w : Written) : Type 0 where
    l : ℕ
    nth : IsNth ws l w.place
    marked : done l ≡ true

  abbrev SwapsTold : Ledger Block → List Event → ℕ → Type 0
  SwapsTold h past i = ToldSwaps i (length past) (given z past) (swaps_at z i past) (h.len i) (h.val i)

  -- (of a swap from before the last finished rebuild the ledger tells nothing)
  abbrev LastTold : Ledger Block → List Event → ℕ → Type 0
  LastTold h past c = (s : Swapped) → h.last c ≡ Some s → ToldLast (last_swap c past) (swaps_at z s.pos past) s

  abbrev ReportsTold : Bool → (ℕ → ℕ → Bool) → List Event → Type 0
  ReportsTold stale done past = stale ≡ false → (i : ℕ) (w : Written) → is_among w (reported_at z i past) ≡ true → ToldDone (done i) (swaps_at z i past) w

  pub record Told (h : Ledger Block) (past : List Event) : Type 0 where
    swaps : (i : ℕ) → SwapsTold h past i
    last : (c : ℕ) → LastTold h past c
    reported : ReportsTold h.stale h.done past
    counts : (c : ℕ) → h.settles c ≡ settles c past
    failed : h.failed ≡ failed_since z past

  -- no swap since g was given
  no-swaps : (m i p : ℕ) (g : List ℕ) → k ≤ m → length g ≡ m * b → Bytes g → ToldSwaps i p g [] 0 (λ l. block_of b g i)
  unfolding last_value
  no-swaps m i p g wide long bytes =
      record {
        count = refl;
        value = λ i1 ik l le.
            rw (take-nil l) (record { long = length-block b m i g i1 (omega arith) long; bytes = bytes-block b i g bytes; seen = block_view b g i i1 });
        places = no-places p;
      }

  pub told-start : k ≤ n → Told (no_ledger (ops z)) []
  unfolding no_ledger swaps_at reported_at given settles failed_since is_among gathered
  told-start wide =
      let g : List ℕ = zeroes (n * b) in
      record {
        swaps = λ i.
            subst (λ f. ToldSwaps i 0 g [] 0 (λ l. f i)) (zero-blocks b (n * b)) (no-swaps n i 0 g wide (length-replicate (n * b) 0) (bytes-zeroes (n * b)));
        last = λ c s l. no_last s l;
        reported = λ fresh i w among. clash among refl;
        counts = λ c. refl;
        failed = refl;
      }

  -- an accepted swap is of the bytes of a block
  abbrev pub SwapsBlocks : Event → Type 0
  SwapsBlocks e = (c i : ℕ) (v : List ℕ) → happened e ≡ SwapInto c i v → (length v ≡ b) × Bytes v

  ---- one call more
  module _ (h : Ledger Block) (e : Event) (past : List Event) (T : Told h past) where
    -- the call is of the kind K
    module _ (K : Kind) (is : happened e ≡ K) where
      last-is : (c : ℕ) → last_swap c (e ∷ past) ≡ write_by c (length past) K (last_swap c past)
      unfolding last_swap
      last-is c = rw is

      counts-are : (c : ℕ) → settles c (e ∷ past) ≡ count_settle c K (settles c past)
      unfolding settles
      counts-are c = rw is

      -- and finishes no rebuild
      module _ (goes_on : finishes_by (nodes_at n past) K past ≡ false) where
        swaps-are : (i : ℕ) → swaps_at z i (e ∷ past) ≡ swaps_at z i past ++ write_at i (length past) K
        unfolding swaps_at finishes gathered
        swaps-are i = rw (is, goes_on)

        reported-are : (i : ℕ) → reported_at z i (e ∷ past) ≡ reported_at z i past ++ report_by i K (is_done e.answer) past
        unfolding reported_at finishes gathered
        reported-are i = rw (is, goes_on)

        given_is : given z (e ∷ past) ≡ given z past
        unfolding given finishes
        given_is = rw (is, goes_on)

        failed-is : failed_since z (e ∷ past) ≡ (failed_since z past || is_failure K)
        unfolding failed_since finishes
        failed-is = rw (is, goes_on)

        -- it is no swap at i
        told-swaps : (i : ℕ) → write_at i (length past) K ≡ [] → SwapsTold h (e ∷ past) i
        told-swaps i unwritten =
            let t = T.swaps i in
            rw (given_is, swaps-are i, unwritten, append-nil (swaps_at z i past))
            (record { count = t.count; value = t.value; places = later-places (length past) (swaps_at z i past) t.places })

        -- it is no swap of client c
        told-last : (c : ℕ) → write_by c (length past) K (last_swap c past) ≡ last_swap c past → LastTold h (e ∷ past) c
        told-last c unwritten s l =
            let t = T.last c s l in
            rw (last-is c, unwritten, swaps-are s.pos)
            (record {
              swap = t.swap;
              is = t.is;
              position = t.position;
              nth = nth-append (swaps_at z s.pos past) (write_at s.pos (length past) K) s.place t.swap.place t.nth;
            })

        told-done : (done : ℕ → Bool) (i : ℕ) (w : Written) → ToldDone done (swaps_at z i past) w → ToldDone done (swaps_at z i (e ∷ past)) w
        told-done done i w t =
            rw (swaps-are i)
            (record { l = t.l; nth = nth-append (swaps_at z i past) (write_at i (length past) K) t.l w.place t.nth; marked = t.marked })

        -- it reports nothing
        told-reports : ((i : ℕ) → report_by i K (is_done e.answer) past ≡ []) → ReportsTold h.stale h.done (e ∷ past)
        told-reports unreported fresh i w among =
            told-done (h.done i) i w (T.reported fresh i w (rw (reported-are i, unreported i, append-nil (reported_at z i past)) at among))

        -- it is no swap
        told-unwritten : {done : ℕ → ℕ → Bool} {stale : Bool} {counts : ℕ → Option ℕ} {failed : Bool}
            → ((i : ℕ) → write_at i (length past) K ≡ []) → ((c : ℕ) → write_by c (length past) K (last_swap c past) ≡ last_swap c past)
            → ReportsTold stale done (e ∷ past) → ((c : ℕ) → counts c ≡ count_settle c K (settles c past)) → failed ≡ (failed_since z past || is_failure K)
            → Told (record { len = h.len; val = h.val; done = done; last = h.last; stale = stale; settles = counts; failed = failed }) (e ∷ past)
        told-unwritten unwritten same reported counts failed =
            record {
              swaps = λ i. told-swaps i (unwritten i);
              last = λ c. told-last c (same c);
              reported = reported;
              counts = λ c. counts c ∙ sym (counts-are c);
              failed = failed ∙ sym failed-is;
            }

        -- nor does it report
        told-quiet : {counts : ℕ → Option ℕ} {failed : Bool}
            → ((i : ℕ) → write_at i (length past) K ≡ []) → ((c : ℕ) → write_by c (length past) K (last_swap c past) ≡ last_swap c past)
            → ((i : ℕ) → report_by i K (is_done e.answer) past ≡ [])
            → ((c : ℕ) → counts c ≡ count_settle c K (settles c past)) → failed ≡ (failed_since z past || is_failure K)
            → Told (record { len = h.len; val = h.val; done = h.done; last = h.last; stale = h.stale; settles = counts; failed = failed }) (e ∷ past)
        told-quiet unwritten same unreported = told-unwritten unwritten same (told-reports unreported)

    -- of a call that is no failure
    no-failure : h.failed ≡ (failed_since z past || false)
    no-failure = T.failed ∙ sym (or-false (failed_since z past))

    ---- an accepted swap
    module _ (c i : ℕ) (v : List ℕ) (is : happened e ≡ SwapInto c i v) (long : length v ≡ b) (bytes : Bytes v) where
      abbrev this : Kind
      this = SwapInto c i v

      abbrev new : Written
      new = record { position = i; value = v; place = length past }

      abbrev before : List Written
      before = swaps_at z i past

      -- as the ledger has it
      abbrev entered : Swapped
      entered = record { pos = i; place = suc (h.len i) }

      abbrev values : ℕ → Block
      values = upd (h.val i) (suc (h.len i)) (view b v)

      abbrev swapped : Ledger Block
      swapped = note_swap h c i (view b v)

      now-swaps : swaps_at z i (e ∷ past) ≡ before ++ (new ∷ [])
      now-swaps = swaps-are this is refl i ∙ rw (eq-eqb i i refl)

      now-value : 1 ≤ i → i ≤ k → (l : ℕ) → l ≤ suc (h.len i) → IsValue (values l) (last_value (block b i (given z past)) (take l (before ++ (new ∷ []))))
      now-value i1 ik =
          each-place (λ l. l ≤ suc (h.len i) → IsValue (values l) (last_value (block b i (given z past)) (take l (before ++ (new ∷ [])))))
          (suc (h.len i)) (λ le. latest) older
        where
          t : SwapsTold h past i
          t = T.swaps i

          latest : IsValue (values (suc (h.len i))) (last_value (block b i (given z past)) (take (suc (h.len i)) (before ++ (new ∷ []))))
          latest =
              let all : length (before ++ (new ∷ [])) ≤ suc (h.len i) = omega (arith, length-one-more before new, t.count) in
              rw (upd_same (h.val i) (suc (h.len i)) (view b v), take_all (suc (h.len i)) (before ++ (new ∷ [])) all, last-new (block b i (given z past)) before new)
              (record { long = long; bytes = bytes; seen = refl })

          older : (l : ℕ) → suc (h.len i) ≢ l → l ≤ suc (h.len i) → IsValue (values l) (last_value (block b i (given z past)) (take l (before ++ (new ∷ []))))
          older l d le =
              rw (upd_other (h.val i) (suc (h.len i)) (view b v) l d, take-append-le l before (new ∷ []) (omega (arith, t.count)))
              (t.value i1 ik l (omega arith))

      told-swap : Told swapped (e ∷ past)
      unfolding upd2
      told-swap =
          record {
            swaps = each-place (SwapsTold swapped (e ∷ past)) i here elsewhere;
            last = each-place (LastTold swapped (e ∷ past)) c own other;
            reported = told-reports this is refl (λ j. refl);
            counts = λ d. T.counts d ∙ sym (counts-are this is d);
            failed = no-failure ∙ sym (failed-is this is refl);
          }
        where
          here : SwapsTold swapped (e ∷ past) i
          here =
              let t = T.swaps i in
              rw (given_is this is refl, now-swaps, upd_same h.len i (suc (h.len i)), upd_same h.val i values)
              (record {
                count = rw t.count (sym (length-one-more before new));
                value = now-value;
                places = more-places (length past) before new refl t.places;
              })

          elsewhere : (j : ℕ) → i ≢ j → SwapsTold swapped (e ∷ past) j
          elsewhere j d =
              rw (upd_other h.len i (suc (h.len i)) j d, upd_other h.val i values j d)
              (told-swaps this is refl j (rw (ne_eqb j i (λ q. d (sym q)))))

          own : LastTold swapped (e ∷ past) c
          own s l =
              let q : entered ≡ s = cc (upd_same h.last c (Some entered)) in
              subst (λ (s : Swapped). ToldLast (last_swap c (e ∷ past)) (swaps_at z s.pos (e ∷ past)) s) q
              (rw (last-is this is c, eq-eqb c c refl, now-swaps)
              (record { swap = new; is = refl; position = refl; nth = rw (T.swaps i).count (nth-new before new) }))

          other : (d : ℕ) → c ≢ d → LastTold swapped (e ∷ past) d
          other d x s l = told-last this is refl d (rw (ne_eqb d c (λ q. x (sym q)))) s (sym (upd_other h.last c (Some entered) d x) ∙ l)

    ---- an add that is answered Done
    told-report : (c : ℕ) → happened e ≡ AddBy c → is_done e.answer ≡ true → (last : Option Swapped) → h.last c ≡ last → Told (note_done h last) (e ∷ past)
    told-report c is done None l = told-unwritten (AddBy c) is refl (λ i. refl) (λ d. refl) (λ fresh. clash refl fresh) T.counts no-failure
    told-report c is done (Some s) l = told-unwritten (AddBy c) is refl (λ i. refl) (λ d. refl) reported T.counts no-failure
      where
        marks : ℕ → ℕ → Bool
        marks = upd2 h.done s.pos s.place true

        t : ToldLast (last_swap c past) (swaps_at z s.pos past) s
        t = T.last c s l

        -- reported before, or now
        by : h.stale ≡ false → (i : ℕ) (w : Written) → (is_among w (reported_at z i past) ≡ true) ⊎ (is_among w (if_at i (Some t.swap)) ≡ true)
            → ToldDone (marks i) (swaps_at z i past) w
        by fresh i w (inl old) =
            let d = T.reported fresh i w old in
            let kept = upd2-ind (λ i l x. h.done i l ≡ true → x ≡ true) h.done s.pos s.place true (λ m. refl) (λ i l x m. m) in
            record { l = d.l; nth = d.nth; marked = kept i d.l d.marked }
        by fresh i w (inr new) =
            let same = among-if i t.swap w new in
            subst (λ i. ToldDone (marks i) (swaps_at z i past) w) (sym (same.0 ∙ t.position))
            (record { l = s.place; nth = rw same.1 t.nth; marked = upd2-same h.done s.pos s.place true })

        reported : ReportsTold h.stale marks (e ∷ past)
        reported fresh i w among =
            let now : List Written = if_at i (Some t.swap) in
            told-done (AddBy c) is refl (marks i) i w
            (by fresh i w (or-one (is_among w (reported_at z i past)) (is_among w now)
            (sym (among-append (reported_at z i past) now w) ∙ rw (reported-are (AddBy c) is refl i, done, t.is) at among)))

    ---- picks and settles
    picked-counts : (c d : ℕ) → upd h.settles c (Some 0) d ≡ count_settle d (PickBy c) (settles d past)
    picked-counts c =
        upd-ind (λ d x. x ≡ count_settle d (PickBy c) (settles d past)) h.settles c (Some 0) (rw (eq-eqb c c refl))
        (λ d x. rw (ne_eqb d c (λ q. x (sym q))) (T.counts d))

    -- a client's settle leaves the others' counts
    others-counts : (c d : ℕ) → c ≢ d → h.settles d ≡ count_settle d (SettleBy c) (settles d past)
    others-counts c d x = T.counts d ∙ by (settles d past)
      where
        by : (count : Option ℕ) → count ≡ count_settle d (SettleBy c) count
        by None = refl
        by (Some y) = rw (ne_eqb d c (λ q. x (sym q)))

    settled-counts : (c y : ℕ) → h.settles c ≡ Some y → (d : ℕ) → upd h.settles c (Some (suc y)) d ≡ count_settle d (SettleBy c) (settles d past)
    settled-counts c y l =
        upd-ind (λ d x. x ≡ count_settle d (SettleBy c) (settles d past)) h.settles c (Some (suc y)) (rw (← T.counts c, l, eq-eqb c c refl))
        (others-counts c)

    -- before any pick
    uncounted : (c : ℕ) → h.settles c ≡ None → (d : ℕ) → h.settles d ≡ count_settle d (SettleBy c) (settles d past)
    uncounted c l = each-place (λ d. h.settles d ≡ count_settle d (SettleBy c) (settles d past)) c (rw (← T.counts c, l)) (others-counts c)

    -- the nth settle is the ledger's last
    settle-finishes : (c : ℕ) (count : Option ℕ) → h.settles c ≡ count → finishes_by (nodes_at n past) (SettleBy c) past ≡ is_last (ops (sizes_at z past)) count
    settle-finishes c None l = rw (← T.counts c, l)
    settle-finishes c (Some y) l = rw (← T.counts c, l, eq-eqb c c refl)

    -- where the call leaves m blocks
    module _ (m : ℕ) (wide : k ≤ m) (long : length e.blocks ≡ m * b) (bytes : Bytes e.blocks) where
      -- the blocks after the call
      abbrev left : ℕ → Block
      left = block_of b e.blocks

      told-finish : (c y : ℕ) → happened e ≡ SettleBy c → finishes_by (nodes_at n past) (SettleBy c) past ≡ true → h.settles c ≡ Some y
          → Told (note_finish h c (suc y) left) (e ∷ past)
      unfolding swaps_at reported_at given failed_since finishes is_among gathered
      told-finish c y is ends l =
          record {
            swaps = λ i. rw (is, ends) (no-swaps m i (suc (length past)) e.blocks wide long bytes);
            last = λ d s q. no_last s q;
            reported = λ fresh i w among. clash (rw (is, ends) at among) refl;
            counts = λ d. settled-counts c y l d ∙ sym (counts-are (SettleBy c) is d);
            failed = rw (is, ends);
          }

      told-settle : (c : ℕ) → happened e ≡ SettleBy c → (count : Option ℕ) → h.settles c ≡ count → Told (note_settle (ops (sizes_at z past)) h c count left) (e ∷ past)
      told-settle c is None l =
          told-quiet (SettleBy c) is (settle-finishes c None l) (λ i. refl) (λ d. refl) (λ i. refl) (uncounted c l) no-failure
      told-settle c is (Some y) l =
          let test = settle-finishes c (Some y) l in
          cond_ind (λ h'. Told h' (e ∷ past)) (eqb (suc y) (nodes_at n past)) (note_finish h c (suc y) left) (note_count h c (suc y))
          (λ t. told-finish c y is (test ∙ t) l)
          (λ t. told-quiet (SettleBy c) is (test ∙ t) (λ i. refl) (λ d. refl) (λ i. refl) (settled-counts c y l) no-failure)

      told-kind : SwapsBlocks e → (K : Kind) → happened e ≡ K → Told (note (ops (sizes_at z past)) h (entered_as b K (is_done e.answer)) left) (e ∷ past)
      told-kind values (SwapInto c i v) is = told-swap c i v is (values c i v is).0 (values c i v is).1
      told-kind values (AddBy c) is =
          cond_ind (λ x. Told (note (ops (sizes_at z past)) h x left) (e ∷ past)) (is_done e.answer) (Report c) Quiet
          (λ t. told-report c is t (h.last c) refl)
          (λ t. told-quiet (AddBy c) is refl (λ i. refl) (λ d. refl) (λ i. rw t) T.counts no-failure)
      told-kind values (PickBy c) is = told-quiet (PickBy c) is refl (λ i. refl) (λ d. refl) (λ i. refl) (picked-counts c) no-failure
      told-kind values (SettleBy c) is = told-settle c is (h.settles c) refl
      told-kind values Failure is =
          told-quiet Failure is refl (λ i. refl) (λ d. refl) (λ i. refl) T.counts (sym (or_right (failed_since z past) true refl))
      told-kind values Other is = told-quiet Other is refl (λ i. refl) (λ d. refl) (λ i. refl) T.counts no-failure

      pub told_more : SwapsBlocks e → Told (note (ops (sizes_at z past)) h (entry (sizes_at z past) e.call e.answer) left) (e ∷ past)
      told_more values = told-kind values (happened e) refl

  ---- what is proved of the ledger holds of the history

  pub finish-is : (h : Ledger Block) (e : Event) (past : List Event) → Told h past → finishes z e past ≡ true → Finishes (sizes_at z past) h e
  unfolding finishes
  finish-is h e past T = go (accepted e) refl (kind e.call) refl
    where
      go : (a : Bool) → accepted e ≡ a → (K : Kind) → kind e.call ≡ K → finishes_by (nodes_at n past) (cond a K Other) past ≡ true → Finishes (sizes_at z past) h e
      go false a K is ends = clash ends refl
      go true a (SwapInto c i v) is ends = clash ends refl
      go true a (AddBy c) is ends = clash ends refl
      go true a (PickBy c) is ends = clash ends refl
      go true a (SettleBy c) is ends = record { client = c; settle = is; is_accepted = a; is-last = sym (settle-finishes h e past T c (h.settles c) refl) ∙ ends }
      go true a Failure is ends = clash ends refl
      go true a Other is ends = clash ends refl

  module _ (h : Ledger Block) (past : List Event) (T : Told h past) (within : sizes_within (sizes_at z past) ≡ true)
      (blocks : List ℕ) (long : length blocks ≡ nodes_at n past * b) (bytes : Bytes blocks) where
    -- the sizes then
    abbrev now : Sizes
    now = sizes_at z past

    -- where block i is the ledger's value l, it is the history's
    value-is : (i : ℕ) → 1 ≤ i → i ≤ k → (l : ℕ) → l ≤ h.len i → block_of b blocks i ≡ h.val i l
        → block b i blocks ≡ last_value (block b i (given z past)) (take l (swaps_at z i past))
    value-is i i1 ik l le q =
        let s = sizes now within in
        let in-n : i ≤ now.n = omega arith in
        let t = (T.swaps i).value i1 ik l le in
        view-injective b (block b i blocks) (last_value (block b i (given z past)) (take l (swaps_at z i past)))
        (length-block b now.n i blocks i1 in-n long) t.long (bytes-block b i blocks bytes) t.bytes (sym (block_view b blocks i i1) ∙ q ∙ t.seen)

    pub first_part : h.stale ≡ false → (i : ℕ) → 1 ≤ i → i ≤ k → IsPart (ops now) h i (block_of b blocks i) → FirstPart z i past blocks
    first_part fresh i i1 ik p =
        record {
          part = p.0;
          value = value-is i i1 ik p.0 p.1.0 p.1.1;
          done = λ w among.
              let d = T.reported fresh i w among in
              nth-among (swaps_at z i past) d.l p.0 w d.nth (p.1.2 d.l d.marked);
        }

    pub rebuilt-well : Rebuilt (ops now) h (block_of b blocks) → RebuiltWell z past blocks
    rebuilt-well r =
        record {
          codeword = codeword-of now blocks long bytes r.codeword;
          position = λ i i1 ik. first_part r.reported i i1 ik (r.part i (record { low = i1; high = ik }));
        }

    -- every swap is reported, so each is done
    all_done : h.stale ≡ false → Guarantee.AllDone z past → AllDone (ops now) h
    all_done fresh all i pos l l1 le =
        let ws : List Written = swaps_at z i past in
        let w : Written = element_at no_write ws l in
        let t = T.swaps i in
        let nth : IsNth ws l w.place = record { low = l1; high = rw (← t.count) le; is = refl } in
        let among : is_among w ws ≡ true = rw (take-length ws) at (nth-among ws l (length ws) w nth nth.high) in
        let d = T.reported fresh i w (all i pos.low pos.high w among) in
        rw (← t.places.own d.l l w.place d.nth nth) d.marked

    pub last-values : h.stale ≡ false → Steady (ops now) h (block_of b blocks) → failed_since z past ≡ false → Guarantee.AllDone z past → LastValues z past blocks
    last-values fresh steady sound all =
        let none-failed = T.failed ∙ sound in
        let done = all_done fresh all in
        record {
          codeword = codeword-of now blocks long bytes (steady.codeword none-failed done);
          position = λ i i1 ik.
              rw ((T.swaps i).count, take-length (swaps_at z i past)) at (value-is i i1 ik (h.len i) (omega arith) (steady.values none-failed done i (record { low = i1; high = ik })));
        }
