-- Bytes taken of an input, one after the other. Assumes nothing.
use Rattle.std.proofs.Common.{◌≡◌, ℕ, suc, ◌+◌, ◌-◌, ◌<◌, ◌≤◌, List, [], ◌∷◌, ◌++◌, Option, None, Some, Bool, true, false, cond, eqb, ltb, IfSome, refl, sym, ap, subst, ◌∙◌, arith, length, take, drop, slice_range, slice_index, eq-eqb, ne_eqb}
use Rattle.std.proofs.lemmas.Bool.{lt-ltb, ltb-true, ltb-false}
use Rattle.std.specs.Io.BufRead.{drop_through}
use Rattle.std.proofs.lemmas.List.{drop_more}
use Rattle.std.proofs.KnownBytes.{Keeps-refl, prepend_known-read}
use Rattle.std.specs.Io.KnownBytes.{Consumes, IsAtEnd, prepend_known}
use Rattle.streams.specs.Reading.{Ended, IsCounted, TakesByte, TakesLine}

-- the buffer's part loses its first byte
part-more : (buffer : List ℕ) (at end : ℕ) → at < end → end ≤ length buffer → slice_range buffer at end ≡ slice_index buffer at ∷ slice_range buffer (at + 1) end
part-more buffer at end more within =
    let one : end - at ≡ suc (end - (at + 1)) = omega arith in
    ap (λ (n : ℕ). take n (drop at buffer)) one ∙ ap (take (suc (end - (at + 1)))) (drop_more buffer at 0 (omega arith))

part-empty : (buffer : List ℕ) (at end : ℕ) → end ≤ at → slice_range buffer at end ≡ []
part-empty buffer at end none = let e : end - at ≡ 0 = omega arith in ap (λ (n : ℕ). take n (drop at buffer)) e

part-start : (buffer : List ℕ) (n : ℕ) → take n buffer ≡ slice_range buffer 0 n
part-start buffer n = let e : n ≡ n - 0 = omega arith in ap (λ (m : ℕ). take m buffer) e

-- the next byte is one of the buffer
pub takes-next : (a : Option (List ℕ)) (buffer : List ℕ) (at end : ℕ) → at < end → end ≤ length buffer
    → Consumes (prepend_known (slice_range buffer at end) a) (prepend_known (slice_range buffer (at + 1) end) a) (slice_index buffer at ∷ [])
takes-next a buffer at end more within =
    (prepend_known-read (prepend_known (slice_range buffer at end) a) a (slice_range buffer at end) (slice_range buffer (at + 1) end)
    (slice_index buffer at ∷ []) ⊥ (Keeps-refl (prepend_known (slice_range buffer at end) a)) (part-more buffer at end more within) (λ x. absurd x)).0

-- no byte of the buffer was left, and some were read
pub takes-first : (a b : Option (List ℕ)) (old new : List ℕ) (at end n : ℕ) → end ≤ at → 0 < n → n ≤ length new → Consumes a b (take n new)
    → Consumes (prepend_known (slice_range old at end) a) (prepend_known (slice_range new 1 n) b) (slice_index new 0 ∷ [])
takes-first None b old new at end n none some within c = tt
takes-first (Some x) None old new at end n none some within c = absurd c
takes-first (Some x) (Some y) old new at end n none some within c =
    ap (λ (l : List ℕ). l ++ x) (part-empty old at end none) ∙ c ∙ ap (λ (l : List ℕ). l ++ y) (part-start new n ∙ part-more new 0 n some within)

---- a line

-- so many of its bytes were taken, and none of them ends it
abbrev pub Within : Option (List ℕ) → Option (List ℕ) → ℕ → Bool → Type 0
Within before now count is_begun = IfSome before (λ xs. (ys : List ℕ) × (now ≡ Some ys) × (drop_through 10 ys ≡ drop_through 10 xs)
    × (length ys + count ≡ length xs) × (is_begun ≡ ltb 0 count))

pub within-none : (a : Option (List ℕ)) → Within a a 0 false
within-none None = tt
within-none (Some xs) = (xs, refl, refl, omega arith, refl)

taken : (ys : List ℕ) (c : Option (List ℕ)) (byte : ℕ) → TakesByte (Some ys) c (Some byte) → (zs : List ℕ) × (c ≡ Some zs) × (ys ≡ byte ∷ zs)
taken ys None byte t = absurd t
taken ys (Some zs) byte t = (zs, refl, t)

none-left : (ys : List ℕ) (c : Option (List ℕ)) → TakesByte (Some ys) c None → (c ≡ Some []) × (ys ≡ [])
none-left ys None t = absurd t.0
none-left ys (Some zs) t = (ap Some t.1, t.0 ∙ t.1)

pub within-more : (a b c : Option (List ℕ)) (n byte : ℕ) (is_begun : Bool) → (byte ≡ 10 → ⊥) → Within a b n is_begun → TakesByte b c (Some byte) → Within a c (n + 1) true
within-more None b c n byte is_begun other p t = tt
within-more (Some xs) b c n byte is_begun other (ys, now, rest, count, begun) t =
    let r = taken ys c byte (subst (λ (o : Option (List ℕ)). TakesByte o c (Some byte)) now t) in (
      r.0,
      r.1,
      sym (ap (λ (b : Bool). cond b r.0 (drop_through 10 r.0)) (ne_eqb byte 10 other)) ∙ sym (ap (drop_through 10) r.2) ∙ rest,
      omega (arith, count, ap length r.2),
      sym (lt-ltb 0 (n + 1) (omega arith)),
    )

pub within-ends : (a b c : Option (List ℕ)) (n byte : ℕ) (is_begun : Bool) → byte ≡ 10 → Within a b n is_begun → TakesByte b c (Some byte) → TakesLine a c true
within-ends None b c n byte is_begun lf p t = tt
within-ends (Some xs) b c n byte is_begun lf (ys, now, rest, count, begun) t =
    let r = taken ys c byte (subst (λ (o : Option (List ℕ)). TakesByte o c (Some byte)) now t) in
    λ counted. (
      r.1 ∙ ap Some (sym (ap (λ (b : Bool). cond b r.0 (drop_through 10 r.0)) (eq-eqb byte 10 lf)) ∙ sym (ap (drop_through 10) r.2) ∙ rest),
      sym (lt-ltb 0 (length xs) (omega (arith, count, ap length r.2))),
    )

-- the end of the input
pub within-end : (a b c : Option (List ℕ)) (n : ℕ) (is_begun : Bool) → Within a b n is_begun → TakesByte b c None → TakesLine a c is_begun
within-end None b c n is_begun p t = tt
within-end (Some xs) b c n is_begun (ys, now, rest, count, begun) t =
    let r = none-left ys c (subst (λ (o : Option (List ℕ)). TakesByte o c None) now t) in
    let all : n ≡ length xs = omega (arith, count, ap length r.1) in
    λ counted. (r.0 ∙ ap Some (sym (ap (drop_through 10) r.1) ∙ rest), begun ∙ ap (ltb 0) all)

-- no turn is left
pub within-full : (a b : Option (List ℕ)) (n : ℕ) (is_begun is_line : Bool) → 18446744073709551615 ≤ n → Within a b n is_begun → TakesLine a b is_line
within-full None b n is_begun is_line full p = tt
within-full (Some xs) b n is_begun is_line full (ys, now, rest, count, begun) = λ counted. absurd (omega (arith, count, counted, full))

---- lines

shorter : (b : Bool) (xs rest : List ℕ) → length rest ≤ length xs → length (cond b xs rest) ≤ length xs
shorter true xs rest h = omega arith
shorter false xs rest h = h

drop_through-no-longer : (byte : ℕ) (xs : List ℕ) → length (drop_through byte xs) ≤ length xs
drop_through-no-longer byte [] = omega arith
drop_through-no-longer byte (x ∷ xs) = omega (arith, shorter (eqb x byte) xs (drop_through byte xs) (drop_through-no-longer byte xs))

drop_through-shorter : (byte : ℕ) (xs : List ℕ) → 0 < length xs → length (drop_through byte xs) < length xs
drop_through-shorter byte [] some = some
drop_through-shorter byte (x ∷ xs) some = omega (arith, shorter (eqb x byte) xs (drop_through byte xs) (drop_through-no-longer byte xs))

-- each of so many lines took a byte at least
abbrev pub Lines : Option (List ℕ) → Option (List ℕ) → ℕ → Type 0
Lines before now count = IfSome before (λ xs. IsCounted xs → (ys : List ℕ) × (now ≡ Some ys) × (length ys + count ≤ length xs))

pub lines-none : (a : Option (List ℕ)) → Lines a a 0
lines-none None = tt
lines-none (Some xs) = λ counted. (xs, refl, omega arith)

pub lines-more : (a b c : Option (List ℕ)) (n : ℕ) → Lines a b n → TakesLine b c true → Lines a c (n + 1)
lines-more None b c n p t = tt
lines-more (Some xs) b c n p t =
    λ counted.
    let r = p counted in
    let l = subst (λ (o : Option (List ℕ)). TakesLine o c true) r.1 t (omega (arith, counted, r.2)) in
    (drop_through 10 r.0, l.0, omega (arith, r.2, drop_through-shorter 10 r.0 (ltb-true 0 (length r.0) (sym l.1))))

no-line : (ys : List ℕ) → false ≡ ltb 0 (length ys) → drop_through 10 ys ≡ []
no-line [] none = refl
no-line (y ∷ ys) none = absurd (omega (arith, ltb-false 0 (length (y ∷ ys)) (sym none)))

pub lines-end : (a b c : Option (List ℕ)) (n : ℕ) → Lines a b n → TakesLine b c false → Ended a c
lines-end None b c n p t = tt
lines-end (Some xs) b c n p t =
    λ counted.
    let r = p counted in
    let l = subst (λ (o : Option (List ℕ)). TakesLine o c false) r.1 t (omega (arith, counted, r.2)) in
    subst IsAtEnd (sym (l.0 ∙ ap Some (no-line r.0 l.1))) refl

pub lines-full : (a b : Option (List ℕ)) (n : ℕ) → 18446744073709551615 ≤ n → Lines a b n → Ended a b
lines-full None b n full p = tt
lines-full (Some xs) b n full p = λ counted. absurd (omega (arith, counted, full, (p counted).2))
