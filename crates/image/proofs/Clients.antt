-- A client record is read back from its bytes, from its parts. Assumes nothing.
use Rattle.std.specs.Prelude.{Option, None, Some}
use mathlib.Core.Bool.{true}
use mathlib.Core.List.{List, [], ◌∷◌, map, append-nil, append_assoc}
use mathlib.Core.Path.{◌≡◌, refl, sym, ap, ◌∙◌}
use Prim.Native.Nat.{ℕ, suc, ◌*◌, ◌^◌, ◌≤◌, ◌<◌}
use native.Mathlib.Omega.{arith}
use lib.Dec.{leb, ltb}
use lib.ListN.{length, get_or, length-map}
use lib.Pow.{pow_mono}
use borrow.Author.Tests.{leb-true, ltb-true}
use Rattle.octets.specs.Octets.{word_bytes, number, piece}
use Rattle.octets.proofs.Pieces.{length-joined, items_back}
use Rattle.basics.proofs.Tests.{and_both, and_right, clash}
use Rattle.code.specs.Bits.{bits_of, bits_from}
use Rattle.code.specs.Decode.{set_within}
use Rattle.code.proofs.SetBits.{bits_back, bits_below}
use Rattle.entries.specs.declared.WriteId.{WriteId}
use Rattle.entries.specs.Entries.{id_within, ids_within, previous_within}
use Rattle.entries.specs.View.{blank_id}
use Rattle.records.specs.declared.Sizes.{Sizes}
use Rattle.records.specs.declared.Lmode.{Lmode}
use Rattle.records.specs.declared.Lmode.TheVariants.{Unl, L0, L1, Exp}
use Rattle.records.specs.Client.{Client, Write, Rebuild, NoRebuild, Locking, Picking, Writing, Settling, Unlocking, hand_within, unl_or_exp, rebuild_within, client_within}
use Rattle.records.specs.Node.{is_exp}
use Rattle.records.specs.Sizes.{is_node}
use Rattle.records.specs.View.{old_lmode}
use Rattle.image.specs.Records.{id_bytes, previous_tag, previous_id, hand_bytes, rebuild_bytes, ids_bytes, client_bytes}
use Rattle.image.specs.Image.{hand_whole, rebuild_whole, client_whole}
use Rattle.image.specs.Reading.{id_from, previous_from, hand_from, rebuild_from, ids_from, client_from}
use Rattle.image.proofs.Limits.{id-number, ids_at, Small}
use Rattle.image.proofs.Nodes.{word_back, set_back, id-back}
use Rattle.image.proofs.Rows.{flat, before, part_at, length-flat}

-- ---- the write in hand

previous-back : (k m : ℕ) (p : Option WriteId) → previous_within k m p ≡ true → previous_from (previous_tag p ∷ id_bytes (previous_id p)) ≡ p
previous-back k m None h = refl
previous-back k m (Some x) h = ap Some (id-back x (id-number k m x h))

pub length-hand_bytes : (h : Option Write) → length (hand_bytes h) ≡ 22
length-hand_bytes None = refl
length-hand_bytes (Some w) = refl

hand-back : (z : Sizes) (h : Option Write) (finished : List WriteId) → hand_within z h finished ≡ true → hand_whole h ≡ true → hand_from (hand_bytes h) ≡ h
hand-back z None finished within whole = refl
hand-back z (Some w) finished within whole =
    let a = and_both (id_within z.k z.m w.id) _ within in
    let b = and_both (previous_within z.k z.m w.previous) _ a.1 in
    let c = and_both (leb w.epoch.0 1000000) _ b.1 in
    let epoch = leb-true w.epoch.0 1000000 c.0 in
    ap Some (λ i. record {
      id = id-back w.id (id-number z.k z.m w.id a.0) i;
      previous = previous-back z.k z.m w.previous b.0 i;
      epoch = record { 0 = word_back w.epoch.0 (omega (arith, epoch)) i };
      done = set_back w.done whole i;
    })

-- ---- the rebuild

pub length-rebuild_bytes : (r : Rebuild) → length (rebuild_bytes r) ≡ 10
length-rebuild_bytes NoRebuild = refl
length-rebuild_bytes (Locking old) = refl
length-rebuild_bytes (Picking t) = refl
length-rebuild_bytes (Writing x set e) = refl
length-rebuild_bytes (Settling x e) = refl
length-rebuild_bytes (Unlocking x) = refl

-- the old lmodes, by whether each was EXP
old-back : (old : List Lmode) → unl_or_exp old ≡ true → map old_lmode (map is_exp old) ≡ old
unfolding unl_or_exp
old-back [] h = refl
old-back (Unl ∷ old) h = ap (λ (l : List Lmode). Unl ∷ l) (old-back old (and_right true (unl_or_exp old) h))
old-back (Exp ∷ old) h = ap (λ (l : List Lmode). Exp ∷ l) (old-back old (and_right true (unl_or_exp old) h))
old-back (L0 ∷ old) h = clash h refl
old-back (L1 ∷ old) h = clash h refl

locking-back : (old : List Lmode) → length old < 18 → unl_or_exp old ≡ true
    → map old_lmode (bits_from (length old) (number (word_bytes (bits_of (map is_exp old))))) ≡ old
locking-back old few within =
    let long : length (map is_exp old) ≡ length old = length-map old is_exp in
    let below : bits_of (map is_exp old) < 2 ^ length old = rw long at (bits_below (map is_exp old)) in
    let most : 2 ^ length old ≤ 2 ^ 18 = pow_mono {i = length old} {j = 18} (omega (arith, few)) in
    rw (word_back (bits_of (map is_exp old)) (omega (arith, below, most)))
    (ap (λ k. map old_lmode (bits_from k (bits_of (map is_exp old)))) (sym long) ∙ ap (map old_lmode) (bits_back (map is_exp old)) ∙ old-back old within)

rebuild-back : (z : Sizes) (r : Rebuild) → Small z → rebuild_within z r ≡ true → rebuild_whole r ≡ true → rebuild_from (rebuild_bytes r) ≡ r
rebuild-back z NoRebuild s within whole = refl
rebuild-back z (Locking old) s within whole =
    let a = and_both (leb 1 (length old)) _ within in
    let b = and_both (ltb (length old) z.n) _ a.1 in
    ap Locking (locking-back old (let l = ltb-true (length old) z.n b.0 in omega (arith, l, s.n)) b.1)
rebuild-back z (Picking t) s within whole = refl
rebuild-back z (Writing x set e) s within whole =
    let l = ltb-true e.0 1000000 (and_right (set_within z.n set) _ (and_right (is_node z x) _ within)) in
    λ i. Writing x (set_back set whole i) (record { 0 = word_back e.0 (omega (arith, l)) i })
rebuild-back z (Settling x e) s within whole =
    let l = ltb-true e.0 1000000 (and_right (is_node z x) _ within) in
    λ i. Settling x (record { 0 = word_back e.0 (omega (arith, l)) i })
rebuild-back z (Unlocking x) s within whole = refl

-- ---- the lists

pub length-ids_bytes : (ids : List WriteId) → length (ids_bytes ids) ≡ 49
unfolding ids_bytes
length-ids_bytes ids = ap suc (length-joined 6 8 (λ i. id_bytes (get_or ids i blank_id)) (λ i l. refl))

ids-back : (k m : ℕ) (ids : List WriteId) → length ids ≤ 8 → ids_within k m ids ≡ true → ids_from (ids_bytes ids) ≡ ids
unfolding ids_bytes ids_from
ids-back k m ids few within =
    items_back 6 8 id_bytes id_from blank_id ids (λ x. refl) few (λ i l. id-back (get_or ids i blank_id) (ids_at k m ids blank_id within i l))

-- ---- the client: five parts

module _ (x : Client) where
  parts : List (List ℕ)
  parts = hand_bytes x.hand ∷ rebuild_bytes x.rebuild ∷ (x.round ∷ word_bytes x.next.0) ∷ ids_bytes x.finished ∷ ids_bytes x.moved ∷ []

  flat-parts : client_bytes x ≡ flat parts
  unfolding client_bytes parts
  flat-parts = simp (append_assoc, append-nil)

  pub length-client_bytes : length (client_bytes x) ≡ 135
  unfolding parts
  length-client_bytes =
      ap length flat-parts ∙ length-flat parts
      ∙ omega (arith, length-hand_bytes x.hand, length-rebuild_bytes x.rebuild, length-ids_bytes x.finished, length-ids_bytes x.moved)

  part : (w at i : ℕ) → i < 5 → length (get_or parts i []) ≡ w → before i parts ≡ at → piece w at (client_bytes x) ≡ get_or parts i []
  unfolding parts
  part w at i l e q = rw flat-parts (part_at w at i parts l e q)

pub few-finished : (z : Sizes) (h : Option Write) (finished : List WriteId) → hand_within z h finished ≡ true → length finished ≤ 8
few-finished z None finished h = leb-true (length finished) 8 h
few-finished z (Some w) finished h =
    let a = and_right (id_within z.k z.m w.id) _ h in
    let b = and_right (previous_within z.k z.m w.previous) _ a in
    let c = and_right (leb w.epoch.0 1000000) _ b in
    let l = ltb-true (length finished) 8 (and_right (set_within z.n w.done) _ c) in
    omega (arith, l)

pub client-back : (z : Sizes) (x : Client) → Small z → client_within z x ≡ true → client_whole x ≡ true → client_from (client_bytes x) ≡ x
unfolding client_from client_within parts
client-back z x s within whole =
    let a = and_both (hand_within z x.hand x.finished) _ within in
    let b = and_both (rebuild_within z x.rebuild) _ a.1 in
    let c = and_both (ids_within z.k z.m x.finished) _ b.1 in
    let d = and_both (leb (length x.moved) 8) _ c.1 in
    let e = and_both (ids_within z.k z.m x.moved) _ d.1 in
    let next = leb-true x.next.0 1000000 (and_right (ltb x.round (2 * z.n)) _ e.1) in
    let w = and_both (hand_whole x.hand) _ whole in
    let lh = length-hand_bytes x.hand in
    let lr = length-rebuild_bytes x.rebuild in
    let lf = length-ids_bytes x.finished in
    let p0 = part x 22 0 0 (omega arith) lh refl in
    let p1 = part x 10 22 1 (omega arith) lr (omega (arith, lh)) in
    let p2 = part x 5 32 2 (omega arith) refl (omega (arith, lh, lr)) in
    let p3 = part x 49 37 3 (omega arith) lf (omega (arith, lh, lr)) in
    let p4 = part x 49 86 4 (omega arith) (length-ids_bytes x.moved) (omega (arith, lh, lr, lf)) in
    λ i. record {
      hand = (ap hand_from p0 ∙ hand-back z x.hand x.finished a.0 w.0) i;
      rebuild = (ap rebuild_from p1 ∙ rebuild-back z x.rebuild s b.0 w.1) i;
      finished = (ap ids_from p3 ∙ ids-back z.k z.m x.finished (few-finished z x.hand x.finished a.0) c.0) i;
      moved = (ap ids_from p4 ∙ ids-back z.k z.m x.moved (leb-true (length x.moved) 8 d.0) e.0) i;
      round = ap (λ b. get_or b 0 0) p2 i;
      next = record { 0 = (ap (λ b. number (get_or b 1 0 ∷ get_or b 2 0 ∷ get_or b 3 0 ∷ get_or b 4 0 ∷ [])) p2 ∙ word_back x.next.0 (omega (arith, next))) i };
    }
